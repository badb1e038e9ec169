-- What a reader has read is what the octets hold.
use Rattle.std.proofs.Common.{◌≡◌, ℕ, List, [], ◌∷◌, drop, Option, Some, None}
use Rattle.rc_http.specs.declared.message.HttpFault.{HttpFault}
use Rattle.rc_http.specs.declared.message.HttpMessage.{HttpMessage}
use Rattle.rc_http.specs.declared.message.Kind.{Kind}
use Rattle.rc_http.specs.Feeding.{Feeding, HasRead, IsSinceBy}
use Rattle.rc_http.specs.Looks.{Looks}
use Rattle.live_messages.specs.Holds.{Holds, looked_of}

rest-held : (kind : Kind) (kept : List ℕ) (fault : Option HttpFault) (octets : List ℕ) → IsSinceBy kind kept fault octets
    → Looks kind octets (looked_of fault)
rest-held kind kept None octets s = s.1
rest-held kind kept (Some fault) octets s = s

pub read-held : (f : Feeding) (octets : List ℕ) (messages : List HttpMessage) → HasRead f octets messages
    → Holds f.kind octets messages f.fault
read-held f octets [] h = rest-held f.kind f.octets f.fault octets h
read-held f octets (m ∷ ms) h = (h.0, h.1, read-held f (drop h.0 octets) ms h.2)
