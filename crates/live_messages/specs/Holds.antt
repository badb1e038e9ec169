-- What the octets of a session hold: messages, one after another, and then no whole one or a fault.
use Rattle.std.specs.Prelude.{ℕ, List, [], ◌∷◌, drop, Option, Some, None}
use Rattle.rc_http.specs.declared.message.HttpFault.{HttpFault}
use Rattle.rc_http.specs.declared.message.HttpMessage.{HttpMessage}
use Rattle.rc_http.specs.declared.message.Kind.{Kind}
use Rattle.rc_http.specs.Feeding.{Feeding, HasRead}
use Rattle.rc_http.specs.Looks.{Looked, Looks, Waits, Fails, Gives}

-- after the whole messages a reader waits for more octets, or has found this fault
abbrev pub looked_of : Option HttpFault → Looked
looked_of None = Waits
looked_of (Some fault) = Fails fault

-- the octets hold these messages, one after another, and then no whole one, or this fault
abbrev pub Holds : Kind → List ℕ → List HttpMessage → Option HttpFault → Type 0
Holds kind octets [] fault = Looks kind octets (looked_of fault)
Holds kind octets (message ∷ messages) fault = (n : ℕ) × Looks kind octets (Gives message n) × Holds kind (drop n octets) messages fault

-- some octets were fed to the reader, which gave their messages
abbrev pub IsReading : Feeding → Type 0
IsReading f = (octets : List ℕ) × (messages : List HttpMessage) × HasRead f octets messages
