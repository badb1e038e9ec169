-- The status and tag with which a gateway answers a request, and which faults of a request may come (RFC 8040 section 7).
use Rattle.std.specs.Prelude.{◌≡◌, ℕ, ◌==◌, ◌||◌, Bool, true, Option, Some, None, Err}
use Rattle.ikeless_tree.specs.declared.error.Tag.{Tag}
use Rattle.ikeless_tree.specs.declared.error.Tag.TheVariants as tags
use Rattle.hist_acts.specs.declared.act.Act.{Act}
use Rattle.hist_acts.specs.declared.act.Act.TheVariants as acts
use Rattle.hist_gateway.specs.Handle.{Fault}
use Rattle.hist_gateway.specs.Block.{GatewayEvent, Handle}

-- a refusal with this tag has such a status
abbrev pub is_refusal : Tag → ℕ → Bool
is_refusal tags.MalformedMessage status = status == 400
is_refusal tags.OperationNotSupported status = (status == 405) || (status == 501)
is_refusal tags.TooBig status = status == 413
is_refusal tags.InvalidValue status = (status == 400) || (status == 404)
is_refusal tags.UnknownElement status = status == 400
is_refusal tags.BadElement status = status == 400
is_refusal tags.ResourceDenied status = status == 409

-- what is done has a status without a tag, and what is refused one with its tag
abbrev pub is_answer_status : Option Tag → ℕ → Bool
is_answer_status None status = (status == 200) || (status == 201) || (status == 204)
is_answer_status (Some tag) status = is_refusal tag status

-- the fault of a request that can't be read: octets that are no message, no resource, method or query of a gateway, or a body that
-- isn't one for it
abbrev pub IsFault : Fault → Type 0
IsFault f = is_refusal f.tag f.status ≡ true

-- an event that may come: a request that can't be read has such a fault
abbrev pub MayCome : GatewayEvent → Type 0
MayCome (Handle (Err fault)) = IsFault fault
MayCome _ = Unit {0}

-- the act answers no request, or with such a status
abbrev pub has_answer_status : Act → Bool
has_answer_status (acts.Handled f s k a) = is_answer_status a.tag a.status
has_answer_status _ = true
