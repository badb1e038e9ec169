use Rattle.std.proofs.Common.{ℕ, List, ◌++◌, sym, ap, ◌∙◌}
use Rattle.std.proofs.lemmas.Result.{IfOk-weaker}
use Rattle.drill_script.specs.Tallies.{tally_of_text}
use Rattle.ikeless_cli.proofs.Drilling.{is-drilled}
use Rattle.ikeless_cli.proofs.drill.line_of.Goals as goal

pub returns : goal.returns
returns c =
    let ran = c.run-status.ensures.ran in
    let drawn = c.new-input.ensures.rest ∙ c.as_slice.ensures ∙ c.in_ok-script.ensures in
    let grew = ran.3 ∙ ap (λ (z : List ℕ). z ++ ran.1) c.new-transcript.ensures.empty in
    let counted = c.in_ok-tally.ensures ∙ ap tally_of_text c.as_slice-2.ensures.value in
    IfOk-weaker c.write_summary.result _ _
    (λ line says. is-drilled c.reads_what_is_spelled.ensures.header c.every_history_is_spelled.ensures.script c.lines_count_acts.ensures
    c.args.n _ ran.0 _ _ ran.1 line _ _ _ drawn ran.2 grew ran.4 (sym c.is_cut_short.ensures ∙ c.if-is_cut_short.false)
    (sym c.run-status.ensures.last)
    c.exit_number.ensures counted says)
    c.write_summary.ensures
