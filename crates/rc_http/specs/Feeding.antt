-- A Feeder as contracts see it, and what a call on it gives.
use Rattle.std.specs.Prelude.{◌≡◌, ℕ, ◌+◌, ◌≤◌, List, [], ◌∷◌, ◌++◌, length, take, drop, Option, Some, None, Result, Ok, Err}
use Rattle.ikl_base.specs.declared.fault.OrMemory.{OrMemory}
use Rattle.ikl_base.specs.declared.fault.OrMemory.TheVariants.{Refused, NoMemory}
use Rattle.rc_http.specs.declared.message.HttpFault.{HttpFault}
use Rattle.rc_http.specs.declared.message.HttpMessage.{HttpMessage}
use Rattle.rc_http.specs.declared.message.Kind.{Kind}
use Rattle.rc_http.specs.declared.feeder.Fed.{Fed}
use Rattle.rc_http.specs.declared.feeder.Fed.TheVariants.{NoneYet, Whole}
use Rattle.rc_http.specs.Looks.{Looks, Waits, Fails, Gives}

-- the octets kept since the last message, or the fault that was answered
pub record Feeding : Type 0 where
  pub kind : Kind
  pub octets : List ℕ
  pub fault : Option HttpFault

-- nothing was fed since the last message
abbrev pub fresh : Kind → Feeding
fresh kind = record { kind = kind; octets = []; fault = None }

-- what a Feeder keeps is all that was fed since the last message, or what was fed then has this fault
abbrev pub IsSinceBy : Kind → List ℕ → Option HttpFault → List ℕ → Type 0
IsSinceBy kind octets None since = (since ≡ octets) × Looks kind since Waits
IsSinceBy kind octets (Some fault) since = Looks kind since (Fails fault)

-- these octets were fed since the last message
abbrev pub IsSince : Feeding → List ℕ → Type 0
IsSince f since = IsSinceBy f.kind f.octets f.fault since

-- a piece was fed after these octets: what the call gives, and what was fed since the last message then
abbrev pub FeedGives : Kind → List ℕ → List ℕ → Feeding → Result Fed (OrMemory HttpFault) → Type 0
FeedGives kind since piece after (Ok NoneYet) = Looks kind (since ++ piece) Waits × IsSince after (since ++ piece)
FeedGives kind since piece after (Ok (Whole message taken)) =
    (taken ≤ length piece) × Looks kind (since ++ piece) (Gives message (length since + taken)) × (after ≡ fresh kind)
FeedGives kind since piece after (Err (Refused fault)) =
    Looks kind (since ++ piece) (Fails fault) × IsSince after (since ++ piece)
FeedGives kind since piece after (Err NoMemory) = Unit {0}

-- the Feeder was fed these octets since it was made, and gave these messages of them, in order
abbrev pub HasRead : Feeding → List ℕ → List HttpMessage → Type 0
HasRead f octets [] = IsSince f octets
HasRead f octets (message ∷ messages) =
    (n : ℕ) × Looks f.kind octets (Gives message n) × HasRead f (drop n octets) messages

-- the same after one piece more
abbrev pub ReadsOn : Feeding → List ℕ → List HttpMessage → List ℕ → Result Fed (OrMemory HttpFault) → Type 0
ReadsOn after octets messages piece (Ok NoneYet) = HasRead after (octets ++ piece) messages
ReadsOn after octets messages piece (Ok (Whole message taken)) =
    HasRead after (octets ++ take taken piece) (messages ++ message ∷ [])
ReadsOn after octets messages piece (Err (Refused fault)) = HasRead after (octets ++ piece) messages
ReadsOn after octets messages piece (Err NoMemory) = Unit {0}
