use Rattle.std.proofs.Common.{◌++◌, subst}
use Rattle.rc_http.specs.declared.message.Kind.TheVariants.{Request}
use Rattle.rc_http.specs.Looks.{Fails, Looks}
use Rattle.live_controller.specs.declared.messages.Brought.TheVariants as brought
use Rattle.live_controller.specs.Streams.{Brings}
use Rattle.live_controller.proofs.Feeding.{broken_fed, fresh_waits, none_fed, since_waits, whole_fed}
use Rattle.live_controller.proofs.messages.Requests.feed.Goals as goal

pub invariant_of-self : goal.invariant_of-self
invariant_of-self c =
    let fed = c.in-Ok-NoneYet.ensures.gives c.self.inside.feeder.octets (since_waits Request c.self.inside.feeder c.self.invariant) in
    (none_fed Request c.self.inside.feeder c.feed.new.self c.args.piece.now c.self.invariant c.in-Ok-NoneYet.ensures.kind
    (rw c.in-Ok-NoneYet.field-0-is at fed)).waiting

pub invariant_of-self-in-Ok-Whole : goal.invariant_of-self-in-Ok-Whole
invariant_of-self-in-Ok-Whole c =
    let fed = c.in-Ok-Whole.ensures.gives c.self.inside.feeder.octets (since_waits Request c.self.inside.feeder c.self.invariant) in
    (whole_fed Request c.self.inside.feeder c.feed.new.self c.args.piece.now c.in-Ok-Whole.message c.in-Ok-Whole.taken c.self.invariant
    (rw c.in-Ok-Whole.field-0-is at fed)).waiting

pub invariant_of-self-in-Err-Refused : goal.invariant_of-self-in-Err-Refused
invariant_of-self-in-Err-Refused c = fresh_waits Request c.requests.result c.requests.ensures

pub returns-in-Ok-NoneYet : goal.returns-in-Ok-NoneYet
returns-in-Ok-NoneYet c =
    let fed = c.in-Ok-NoneYet.ensures.gives c.self.inside.feeder.octets (since_waits Request c.self.inside.feeder c.self.invariant) in
    subst (λ z. Brings Request z c.feed.new.self.octets c.args.piece.now brought.NoneYet) c.self.view_is
    (none_fed Request c.self.inside.feeder c.feed.new.self c.args.piece.now c.self.invariant c.in-Ok-NoneYet.ensures.kind
    (rw c.in-Ok-NoneYet.field-0-is at fed)).brings

pub returns-in-Ok-Whole : goal.returns-in-Ok-Whole
returns-in-Ok-Whole c =
    let fed = c.in-Ok-Whole.ensures.gives c.self.inside.feeder.octets (since_waits Request c.self.inside.feeder c.self.invariant) in
    let brings = subst (λ z. Brings Request z c.feed.new.self.octets c.args.piece.now
    (brought.Whole c.in-Ok-Whole.message c.in-Ok-Whole.taken)) c.self.view_is
    (whole_fed Request c.self.inside.feeder c.feed.new.self c.args.piece.now c.in-Ok-Whole.message c.in-Ok-Whole.taken c.self.invariant
    (rw c.in-Ok-Whole.field-0-is at fed)).brings in
    rw c.in-Ok-Whole.field-0-is brings

pub returns-in-Err-Refused : goal.returns-in-Err-Refused
returns-in-Err-Refused c =
    let fed = c.in-Err-Refused.ensures.gives c.self.inside.feeder.octets (since_waits Request c.self.inside.feeder c.self.invariant) in
    subst (λ z. Looks Request (z ++ c.args.piece.now) (Fails c.in-Err-Refused.fault)) c.self.view_is
    (broken_fed Request c.self.inside.feeder c.feed.new.self c.args.piece.now c.in-Err-Refused.fault c.self.invariant
    (rw c.in-Err-Refused.field-0-is at fed))
