-- What the octets since the last message amount to. They are looked at as if they came one by one, and the first
-- fault is the answer.
use Rattle.std.specs.Prelude.{◌≡◌, ℕ, ◌+◌, nat_lt, nat_le, List, length, take, drop, if◌then◌else◌, Bool, true, false, ◌⊎◌, Option, Some, None, Result, Ok, Err}
use Rattle.rc_http.specs.declared.message.HttpMessage.{HttpMessage}
use Rattle.rc_http.specs.declared.message.HttpFault.{HttpFault}
use Rattle.rc_http.specs.declared.message.HttpFault.TheVariants as faults
use Rattle.rc_http.specs.declared.message.Kind.{Kind}
use Rattle.rc_http.specs.HeadEnd.{head_len}
use Rattle.rc_http.specs.Heads.{Head, Reads, body_len, message_of}

-- no whole message and no fault, a fault, or a message and how many octets it takes
pub data Looked : Type 0 where
  Waits : Looked
  Fails : HttpFault → Looked
  Gives : HttpMessage → ℕ → Looked

-- of this project: the longest head
abbrev pub most_head : ℕ
most_head = 8192

-- a body of this length comes after a head of n octets
abbrev pub with_body : List ℕ → ℕ → Head → Result ℕ HttpFault → Looked
with_body octets n head (Err fault) = Fails fault
with_body octets n head (Ok len) =
    if nat_le (n + len) (length octets) then Gives (message_of head (take len (drop n octets))) (n + len) else Waits

-- the head is whole in n octets
abbrev pub LooksAfter : Kind → List ℕ → ℕ → Looked → Type 0
LooksAfter kind octets n o =
    ((head : Head) × Reads kind (take n octets) head × (o ≡ with_body octets n head (body_len kind head)))
    ⊎ (((head : Head) → ¬ (Reads kind (take n octets) head)) × (o ≡ Fails faults.Head))

-- the same, where that may be too many
abbrev pub LooksWithin : Kind → List ℕ → ℕ → Looked → Bool → Type 0
LooksWithin kind octets n o true = LooksAfter kind octets n o
LooksWithin kind octets n o false = o ≡ Fails faults.TooBig

-- by how far the head goes, where it is whole
abbrev pub LooksBy : Kind → List ℕ → Looked → Option ℕ → Type 0
LooksBy kind octets o None = o ≡ (if nat_lt (length octets) most_head then Waits else Fails faults.TooBig)
LooksBy kind octets o (Some n) = LooksWithin kind octets n o (nat_le n most_head)

-- the octets amount to this
unfoldable pub Looks : Kind → List ℕ → Looked → Type 0
Looks kind octets o = LooksBy kind octets o (head_len octets)
