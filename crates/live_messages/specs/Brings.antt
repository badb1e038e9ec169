-- What the next octets of a session bring.
use Rattle.std.specs.Prelude.{◌≡◌, ◌<◌, ◌≤◌, ℕ, List, [], ◌∷◌, ◌++◌, length, take, Option, Some, None}
use Rattle.rc_http.specs.declared.message.HttpFault.{HttpFault}
use Rattle.rc_http.specs.declared.message.HttpMessage.{HttpMessage}
use Rattle.rc_http.specs.Feeding.{Feeding, HasRead}
use Rattle.live_messages.specs.declared.feed.Brought.{Brought}
use Rattle.live_messages.specs.declared.feed.Brought.TheVariants.{Nothing, Message, Fault}

-- how many of so many octets are taken
abbrev pub taken_of : ℕ → Brought → ℕ
taken_of size Nothing = size
taken_of size (Message message taken) = taken
taken_of size (Fault fault) = size

-- the message that is whole now, if any
abbrev pub message_in : Brought → List HttpMessage
message_in Nothing = []
message_in (Message message taken) = message ∷ []
message_in (Fault fault) = []

-- why no message can be read any more, if that was found now
abbrev pub fault_in : Brought → Option HttpFault
fault_in Nothing = None
fault_in (Message message taken) = None
fault_in (Fault fault) = Some fault

-- whatever it read before, a reader goes on by what is taken of a piece
pub record GoesOn (old new : Feeding) (piece : List ℕ) (b : Brought) : Type 0 where
  pub kind : new.kind ≡ old.kind
  pub fault : new.fault ≡ fault_in b
  pub reads : (octets : List ℕ) (messages : List HttpMessage) → HasRead old octets messages
      → HasRead new (octets ++ take (taken_of (length piece) b) piece) (messages ++ message_in b)
  pub within : taken_of (length piece) b ≤ length piece
  pub some : 0 < length piece → 0 < taken_of (length piece) b
