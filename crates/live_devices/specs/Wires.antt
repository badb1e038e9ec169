-- What a wire holds, and what its calls give and take.
use Rattle.std.specs.Prelude.{◌≡◌, ℕ, ◌≤◌, min, List, [], ◌∷◌, ◌++◌, length, take, Option, Some, None, IfSome, Result, MatchResult}
use Rattle.live_devices.specs.Comings.{found, later}

-- what is still to come on a wire, and all that was sent on it
pub record WireHeld : Type 0 where
  -- what each receipt from here on finds: a datagram, or nothing that waits in that call
  pub coming : List (Option (List ℕ))
  -- the datagrams sent, one after another, and how many octets each has
  pub sent : List ℕ
  pub sizes : List ℕ

-- what waited gave this answer: nothing, or the first octets of a datagram
abbrev pub IsReceived : Option (List ℕ) → Option ℕ → List ℕ → Type 0
IsReceived None None into = Unit {0}
IsReceived None (Some n) into = ⊥
IsReceived (Some datagram) None into = ⊥
IsReceived (Some datagram) (Some n) into = (n ≡ min (length datagram) (length into)) × (take n into ≡ take n datagram)

-- a receipt takes what it found, and nothing else changes
abbrev pub Receives : Option WireHeld → Option WireHeld → Option ℕ → List ℕ → Type 0
Receives None None answer into = Unit {0}
Receives None (Some new) answer into = ⊥
Receives (Some old) None answer into = ⊥
Receives (Some old) (Some new) answer into = (new ≡ record old { coming = later old.coming }) × IsReceived (found old.coming) answer into

-- a receipt that failed gave and took nothing
abbrev pub RecvGives : {E : Type 0} → Option WireHeld → Option WireHeld → Result (Option ℕ) E → List ℕ → Type 0
RecvGives old new result into =
    MatchResult result (λ answer. IfSome answer (λ n. n ≤ length into) × Receives old new answer into) (λ _. new ≡ old)

-- a datagram is added to those sent
abbrev pub Sends : Option WireHeld → Option WireHeld → List ℕ → Type 0
Sends None None datagram = Unit {0}
Sends None (Some new) datagram = ⊥
Sends (Some old) None datagram = ⊥
Sends (Some old) (Some new) datagram = new ≡ record old { sent = old.sent ++ datagram; sizes = old.sizes ++ length datagram ∷ [] }

-- a call that failed sent nothing
abbrev pub SendTakes : {T E : Type 0} → Option WireHeld → Option WireHeld → Result T E → List ℕ → Type 0
SendTakes old new result datagram = MatchResult result (λ _. Sends old new datagram) (λ _. new ≡ old)
