use Rattle.std.proofs.Common.{◌∙◌, ap}
use Rattle.std.proofs.lemmas.Result.{IfOk-weaker}
use Rattle.script_lines.specs.Act.{act_of}
use Rattle.script_lines.proofs.write.write_act.Goals as goal

pub returns-clause-again : goal.returns-clause-again
returns-clause-again c = λ gateways spelled under.
    IfOk-weaker c.act_line.result _ _ (λ text is. ap (act_of gateways) is ∙ c.act_read_again.ensures gateways c.args.a.now spelled under
    c.act_fits.ensures) c.act_line.ensures
