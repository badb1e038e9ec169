-- What a dock holds, and what its calls give and take.
use Rattle.std.specs.Prelude.{◌≡◌, ℕ, ◌≤◌, Bool, true, false, List, [], ◌∷◌, ◌++◌, length, take, Option, Some, None, IfSome, Result, Ok, Err, MatchResult}
use Rattle.live_devices.specs.Comings.{found, later}
use Rattle.live_devices.specs.Streams.{Read, Stream}

-- what is still to come in sessions, and all that was written to them
pub record DockHeld : Type 0 where
  -- what each accept from here on finds: a session, or none that waits in that call
  pub coming : List (Option Stream)
  -- the session taken last
  pub session : Stream
  -- the octets written to all sessions, on their control streams and on their notice streams
  pub replies : List ℕ
  pub notices : List ℕ
  -- how many of them were there when each session was taken, oldest first
  pub begins : List (ℕ × ℕ)

-- a newer session takes the place of the older one, whose unread octets are dropped
abbrev pub taken : Option Stream → DockHeld → DockHeld
taken None d = record d { coming = later d.coming }
taken (Some session) d =
    record d { coming = later d.coming; session = session; begins = d.begins ++ (length d.replies, length d.notices) ∷ [] }

-- something waited in this call
abbrev pub has_found : {T : Type 0} → Option T → Bool
has_found None = false
has_found (Some x) = true

-- an accept takes a session where one waits in this call, and tells whether; a device that tells nothing says nothing
abbrev pub Accepts : Option DockHeld → Option DockHeld → Bool → Type 0
Accepts None None answer = Unit {0}
Accepts None (Some new) answer = ⊥
Accepts (Some old) None answer = ⊥
Accepts (Some old) (Some new) answer = (answer ≡ has_found (found old.coming)) × (new ≡ taken (found old.coming) old)

-- an accept that failed took nothing
abbrev pub AcceptGives : {E : Type 0} → Option DockHeld → Option DockHeld → Result Bool E → Type 0
AcceptGives old new result = MatchResult result (λ answer. Accepts old new answer) (λ _. new ≡ old)

-- whether a session was ever taken, after an accept
abbrev pub taken_after : {E : Type 0} → Result Bool E → Bool → Bool
taken_after (Ok true) was = true
taken_after (Ok false) was = was
taken_after (Err e) was = was

-- a read of the session taken last took and gave what that has, and nothing else changes
abbrev pub Reads : Option DockHeld → Option DockHeld → Option ℕ → List ℕ → Type 0
Reads None None answer buf = Unit {0}
Reads None (Some new) answer buf = ⊥
Reads (Some old) None answer buf = ⊥
Reads (Some old) (Some new) answer buf = (new ≡ record old { session = new.session }) × Read old.session new.session answer buf

-- a read that failed gave and took nothing
abbrev pub ReadGives : {E : Type 0} → Option DockHeld → Option DockHeld → Result (Option ℕ) E → List ℕ → Type 0
ReadGives old new result buf =
    MatchResult result (λ answer. IfSome answer (λ n. n ≤ length buf) × Reads old new answer buf) (λ _. new ≡ old)

-- these octets are added to those written on control streams
abbrev pub Replies : Option DockHeld → Option DockHeld → List ℕ → Type 0
Replies None None octets = Unit {0}
Replies None (Some new) octets = ⊥
Replies (Some old) None octets = ⊥
Replies (Some old) (Some new) octets = new ≡ record old { replies = old.replies ++ octets }

-- these octets are added to those written on notice streams
abbrev pub Notes : Option DockHeld → Option DockHeld → List ℕ → Type 0
Notes None None octets = Unit {0}
Notes None (Some new) octets = ⊥
Notes (Some old) None octets = ⊥
Notes (Some old) (Some new) octets = new ≡ record old { notices = old.notices ++ octets }

-- a write takes its piece; one that failed took a front of it
abbrev pub WriteTakes : {T E : Type 0} → Option DockHeld → Option DockHeld → Result T E → List ℕ → Type 0
WriteTakes old new result octets =
    MatchResult result (λ _. Replies old new octets) (λ _. (n : ℕ) × (n ≤ length octets) × Replies old new (take n octets))

-- the same of a write on the notice stream
abbrev pub NoticeTakes : {T E : Type 0} → Option DockHeld → Option DockHeld → Result T E → List ℕ → Type 0
NoticeTakes old new result octets =
    MatchResult result (λ _. Notes old new octets) (λ _. (n : ℕ) × (n ≤ length octets) × Notes old new (take n octets))
