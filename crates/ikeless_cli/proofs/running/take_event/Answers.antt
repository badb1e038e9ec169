use Rattle.std.proofs.Common.{sym, ◌∙◌}
use Rattle.ikeless_cli.proofs.Taking.{lives, takes-event}
use Rattle.ikeless_cli.proofs.running.take_event.Goals as goal

pub returns-clause-ok : goal.returns-clause-ok
returns-clause-ok c =
    let live = c.requires.live in
    let written = c.in_ok-block.ensures in
    takes-event c.args.running.now.world c.step.new.self c.args.running.now.events c.in_ok-event.event _ _ c.args.line.now
    c.in_ok-block.block.text.items c.in_ok-go.go c.in_ok-block.block.forged
    (rw c.header.ensures at c.in_ok-event.ensures) c.step.ensures.header c.new-acts.ensures (λ p s. c.in_ok-go.ensures.law p s live.0)
    written.0 written.1

pub returns-clause-live : goal.returns-clause-live
returns-clause-live c = λ none.
    lives c.args.running.now.world c.step.new.self c.args.running.now.events c.step.new.acts c.in_ok-go.go c.in_ok-go.ensures.on
    c.requires.live.1 c.in_ok-go.ensures.count (sym c.in_ok-block.ensures.1 ∙ none)

pub step-requires-clause-event : goal.step-requires-clause-event
step-requires-clause-event c = c.reads_what_is_spelled.ensures.event _ _ _ (rw c.header.ensures at c.in_ok-event.ensures)
