use Rattle.live_messages.proofs.Feeds.{fault-goes, message-goes, nothing-goes}
use Rattle.live_messages.proofs.feed.feed_next.Goals as goal

pub returns-in-Ok-NoneYet-clause-goes : goal.returns-in-Ok-NoneYet-clause-goes
returns-in-Ok-NoneYet-clause-goes c =
    nothing-goes c.octets_amount_to_one_thing.ensures c.pieces_join.ensures c.args.feeder.now c.feed.new.self c.args.piece.now c.requires
    c.in-Ok-NoneYet.ensures.kind (λ since is. rw c.in-Ok-NoneYet.field-0-is at (c.in-Ok-NoneYet.ensures.gives since is))

pub returns-in-Ok-Whole-clause-goes : goal.returns-in-Ok-Whole-clause-goes
returns-in-Ok-Whole-clause-goes c =
    message-goes c.octets_amount_to_one_thing.ensures c.messages_are_whole.ensures.whole c.pieces_join.ensures c.args.feeder.now
    c.feed.new.self
    c.args.piece.now c.in-Ok-Whole.message c.in-Ok-Whole.taken c.requires c.in-Ok-Whole.ensures.kind
    (λ since is. rw c.in-Ok-Whole.field-0-is at (c.in-Ok-Whole.ensures.gives since is))

pub returns-in-Err-Refused-clause-goes : goal.returns-in-Err-Refused-clause-goes
returns-in-Err-Refused-clause-goes c =
    fault-goes c.octets_amount_to_one_thing.ensures c.pieces_join.ensures c.args.feeder.now c.feed.new.self c.args.piece.now
    c.in-Err-Refused.fault c.requires c.in-Err-Refused.ensures.kind
    (λ since is. rw c.in-Err-Refused.field-0-is at (c.in-Err-Refused.ensures.gives since is))
