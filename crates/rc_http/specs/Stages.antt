-- What a Feeder knows of the octets that it keeps, and what a piece more brings.
use Rattle.std.specs.Prelude.{◌≡◌, ℕ, ◌+◌, ◌≤◌, ◌<◌, ◌^◌, List, ◌++◌, length, take, Option, Some, None, Result, Ok, Err}
use Rattle.rc_http.specs.declared.advance.Stage.{Stage}
use Rattle.rc_http.specs.declared.advance.Stage.TheVariants.{InHead, InBody}
use Rattle.rc_http.specs.declared.advance.Step.{Step}
use Rattle.rc_http.specs.declared.advance.Step.TheVariants as steps
use Rattle.rc_http.specs.declared.message.HttpFault.{HttpFault}
use Rattle.rc_http.specs.declared.message.Kind.{Kind}
use Rattle.rc_http.specs.declared.place.Place.{Place}
use Rattle.rc_http.specs.declared.place.Place.TheVariants.{Before}
use Rattle.rc_http.specs.HeadEnd.{head_len}
use Rattle.rc_http.specs.Heads.{Head, Reads, body_len}
use Rattle.rc_http.specs.Looks.{Looks, Waits, Fails, Gives}
use Rattle.rc_http.specs.Places.{place_after}

-- a head that isn't whole; the next octet stands at this place
pub record IsHeadStage (kept : List ℕ) (place : Place) : Type 0 where
  pub place_is : place_after (Some Before) kept ≡ Some place
  pub short : length kept < 8192

-- a whole head, and no more than the message
pub record IsBodyStage (kind : Kind) (kept : List ℕ) (n whole : ℕ) : Type 0 where
  pub head_is : head_len kept ≡ Some n
  pub short : n ≤ 8192
  pub reads : (h : Head) × (len : ℕ) × Reads kind (take n kept) h × (body_len kind h ≡ Ok len) × (whole ≡ n + len)
  pub fits : whole < 2 ^ 32
  pub part : length kept ≤ whole

-- a head that isn't whole, and is so after `end` octets of the piece
pub record IsEndStage (kept : List ℕ) (end : ℕ) (piece : List ℕ) : Type 0 where
  pub head_is : head_len (kept ++ take end piece) ≡ Some (length kept + end)
  pub short : length kept + end ≤ 8192
  pub within : end ≤ length piece

-- what is known where a message isn't whole yet: in its head, or in its body with octets still to come
abbrev pub IsStage : Kind → List ℕ → Stage → Type 0
IsStage kind kept (InHead place) = IsHeadStage kept place
IsStage kind kept (InBody n whole) = IsBodyStage kind kept n whole × (length kept < whole)

-- what is known of the octets kept, where no fault was answered
abbrev pub IsKept : Kind → List ℕ → Result Stage HttpFault → Type 0
IsKept kind kept (Ok stage) = IsStage kind kept stage
IsKept kind kept (Err fault) = Unit {0}

-- the fault that was answered
abbrev pub fault_of : Result Stage HttpFault → Option HttpFault
fault_of (Ok stage) = None
fault_of (Err fault) = Some fault

-- what a piece brings, where these octets were kept and these are kept now
abbrev pub StepGives : Kind → List ℕ → List ℕ → List ℕ → Step → Type 0
StepGives kind kept piece after (steps.Waits stage) =
    (after ≡ kept ++ piece) × IsStage kind after stage × Looks kind (kept ++ piece) Waits
StepGives kind kept piece after (steps.Fails fault) = Looks kind (kept ++ piece) (Fails fault)
StepGives kind kept piece after (steps.Whole message taken) =
    (taken ≤ length piece) × Looks kind (kept ++ piece) (Gives message (length kept + taken))
