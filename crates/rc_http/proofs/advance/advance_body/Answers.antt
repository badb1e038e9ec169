use Rattle.std.proofs.Common.{arith, ◌∙◌, ap, ◌++◌}
use Rattle.rc_http.proofs.AdvanceLemmas.{body_waits, body_whole, body_reads}
use Rattle.rc_http.proofs.advance.advance_body.Goals as goal

pub returns-then-piece-wanted-clause-step : goal.returns-then-piece-wanted-clause-step
returns-then-piece-wanted-clause-step c =
    body_waits c.args.kind _ _ _ c.requires _ _ (omega arith) c.in_ok-extend_from_slice.ensures.items

pub read_message-requires-clause-reads : goal.read_message-requires-clause-reads
read_message-requires-clause-reads c =
    body_reads c.args.kind _ _ _ c.requires _ _ _ (c.deref.ensures.value ∙ c.in_ok-extend_from_slice-2.ensures.items)
    c.split_at-2.ensures.front

pub returns-clause-step : goal.returns-clause-step
returns-clause-step c =
    body_whole c.args.kind _ _ _ c.requires _ _ _ _ _ _ (omega arith) (omega arith)
    (c.deref.ensures.value ∙ c.in_ok-extend_from_slice-2.ensures.items ∙ ap (λ l. c.args.kept.now.items ++ l) c.split_at.ensures.front)
    c.split_at-2.ensures.front c.split_at-2.ensures.back c.in_ok-message.ensures
