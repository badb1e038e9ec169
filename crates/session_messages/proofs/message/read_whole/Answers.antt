use Rattle.std.proofs.Common.{[]}
use Rattle.session_messages.proofs.Octets.{fails_whole, gives_whole, leaves_whole, since_none, waits_whole}
use Rattle.session_messages.proofs.message.read_whole.Goals as goal

pub returns-in-Ok-NoneYet : goal.returns-in-Ok-NoneYet
returns-in-Ok-NoneYet c =
    let fed = c.in-Ok-NoneYet.ensures.gives [] (since_none c.args.feeder c.requires) in
    waits_whole c.args.feeder.kind c.args.octets.now _ (rw c.in-Ok-NoneYet.field-0-is at fed)

pub returns-then-taken-octets : goal.returns-then-taken-octets
returns-then-taken-octets c =
    let fed = c.in-Ok-Whole.ensures.gives [] (since_none c.args.feeder c.requires) in
    gives_whole c.args.feeder.kind c.args.octets.now c.in-Ok-Whole.message c.in-Ok-Whole.taken _ (rw c.in-Ok-Whole.field-0-is at fed)
    c.if-taken-octets.true

pub returns-in-Ok-Whole : goal.returns-in-Ok-Whole
returns-in-Ok-Whole c =
    let fed = c.in-Ok-Whole.ensures.gives [] (since_none c.args.feeder c.requires) in
    leaves_whole c.args.feeder.kind c.args.octets.now c.in-Ok-Whole.message c.in-Ok-Whole.taken _ (rw c.in-Ok-Whole.field-0-is at fed)
    c.if-taken-octets.false

pub returns : goal.returns
returns c = fails_whole c.args.feeder.kind c.args.octets.now c.in-Err.refused _ (c.in-Err.ensures.gives []
    (since_none c.args.feeder c.requires))
