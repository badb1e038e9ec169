use Rattle.std.proofs.Common.{ap, ◌∙◌, ◌++◌}
use Rattle.rc_http.specs.Written.{request_text}
use Rattle.rc_http.proofs.AgainLemmas.{request_read_again}
use Rattle.rc_http.proofs.write.write_request.Goals as goal

pub returns-clause-again : goal.returns-clause-again
returns-clause-again c = λ rest. request_read_again c.args.m.now c.from_items.result rest c.requires (c.from_items.ensures
    ∙ c.in_ok-put_request.ensures ∙ ap (λ l. l ++ request_text c.args.m.now) c.new-out.ensures.items)
