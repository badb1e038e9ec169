-- A whole call: what was written before the first read, and what the count of faults tells.
use Rattle.std.proofs.Common.{◌≡◌, ℕ, Bool, List, inl, Option, Result, Ok, Err, sym, ◌∙◌, subst}
use Rattle.live_devices.specs.Dialers.{Becomes, PeerHeld, StaysBut, dialled, hung_up, wrote}
use Rattle.rc_operations.specs.declared.told.Told.{Told}
use Rattle.live_client.specs.declared.fault.AskFault.{AskFault}
use Rattle.live_client.specs.declared.fault.AskFault.TheVariants as faults
use Rattle.live_client.specs.Asking.{CallTells, Called, Conversed, LinkTells, Replied, is_link}

pub conversed : (request : List ℕ) (up asked last : Option PeerHeld) (turns : ℕ) (r : Result Told AskFault)
    → Becomes (wrote request) up asked
    → Replied asked turns last r → Conversed request up turns last r
conversed request up asked last turns (Ok told) writes replied = record { asked = asked; writes = writes; replied = replied }
conversed request up asked last turns (Err faults.LinkFault) writes replied = tt
conversed request up asked last turns (Err (faults.BadReply octets)) writes replied = record {
  asked = asked;
  writes = writes;
  replied =
      replied;
}
conversed request up asked last turns (Err faults.TurnsSpent) writes replied = record { asked = asked; writes = writes; replied = replied }
conversed request up asked last turns (Err faults.NoMemory) writes replied = tt

pub called : (request : List ℕ) (before up last after : Option PeerHeld) (turns : ℕ) (r : Result Told AskFault) → Becomes dialled before up
    → Conversed request up turns last r → Becomes hung_up last after → Called request before turns after r
called request before up last after turns (Ok told) dials asks ends = record {
  up = up;
  dials = dials;
  last = last;
  asks = asks;
  hangs_up =
      ends;
}
called request before up last after turns (Err faults.LinkFault) dials asks ends = tt
called request before up last after turns (Err (faults.BadReply octets)) dials asks ends =
    record { up = up; dials = dials; last = last; asks = asks; hangs_up = ends }
called request before up last after turns (Err faults.TurnsSpent) dials asks ends =
    record { up = up; dials = dials; last = last; asks = asks; hangs_up = ends }
called request before up last after turns (Err faults.NoMemory) dials asks ends = tt

-- ---- faults

-- a call that didn't fail, and then others
pub tells_on : (before mid now : ℕ) (told : Option Bool) (link : Bool) → mid ≡ before → LinkTells mid now told link
    → LinkTells before now told link
tells_on before mid now told link same tells =
    let P : ℕ → Type 0 = λ n. LinkTells n now told link in subst P same tells

-- hanging up counts no fault
pub tells_still : (before now after : ℕ) (told last : Option Bool) (link : Bool) → after ≡ now → last ≡ told
    → LinkTells before now told link
    → LinkTells before after last link
tells_still before now after told last link same kept tells =
    let P : ℕ → Type 0 = λ n. LinkTells before n last link in
    let Q : Option Bool → Type 0 = λ o. LinkTells before now o link in
    subst P (sym same) (subst Q (sym kept) tells)

pub call_tells : (before now : ℕ) (was told : Option Bool) (r : Result Told AskFault) → LinkTells before now told (is_link r)
    → CallTells before now was told r
call_tells before now was told (Ok x) tells = tells
call_tells before now was told (Err faults.LinkFault) tells = tells
call_tells before now was told (Err (faults.BadReply octets)) tells = tells
call_tells before now was told (Err faults.TurnsSpent) tells = tells
call_tells before now was told (Err faults.NoMemory) tells = inl tells

-- what stays of the other peers over two calls
pub stays-on : {A : Type 0} (g : ℕ) (f h k : ℕ → A) → StaysBut g f h → StaysBut g h k → StaysBut g f k
stays-on g f h k first second i other = second i other ∙ first i other
