-- The status of an answer, and what was printed of it.
use Rattle.std.proofs.Common.{◌≡◌, ◌≤◌, ◌⊎◌, ◌==◌, ℕ, nat_le, Bool, true, false, List, length, Option, Result, Ok, Err, IsOk, inl, inr, refl, sym, subst, arith, cond}
use Rattle.std.proofs.lemmas.Bool.{le-leb, leb-true}
use Rattle.ikl_base.specs.Outside.{Gains}
use Rattle.ikl_base.specs.declared.status.LineFault.{LineFault}
use Rattle.ikl_base.specs.declared.status.Status.{Status}
use Rattle.ikl_base.specs.declared.status.Status.TheVariants as statuses
use Rattle.json_values.specs.Faults.{◌>>=◌}
use Rattle.rc_http.specs.declared.message.HttpMessage.{HttpMessage}
use Rattle.rc_answer.specs.declared.answer.BadAnswer.{BadAnswer}
use Rattle.rc_answer.specs.declared.answer.ErrorTags.{ErrorTags}
use Rattle.rc_answer.specs.Answers.{bad, error_of}
use Rattle.rc_operations.specs.declared.told.Told.{Told}
use Rattle.rc_operations.specs.Replies.{if_error, if_no_body, told_done, told_error, told_of}
use Rattle.live_devices.specs.Dialers.{PeerHeld}
use Rattle.live_client.specs.declared.fault.AskFault.{AskFault}
use Rattle.live_client.specs.declared.fault.AskFault.TheVariants as faults
use Rattle.live_client.specs.Asking.{Called, CallTells}
use Rattle.live_commands.specs.Ends.{IsOfWords}
use Rattle.live_commands.specs.Client.{EndsBy, IsWhole, Printed, SinkTells, is_write_fault, status_of, told_status}
use Rattle.live_commands.specs.Lines.{told_line}
use Rattle.live_commands.proofs.Gaining.{gains_none}

-- ---- what a response can say

-- it is accepted, or an error
abbrev pub IsSaid : Told → Type 0
IsSaid told = (told ≡ told_done) ⊎ (400 ≤ told.status)

error-said : (status : ℕ) (r : Result ErrorTags BadAnswer) (told : Told) → 400 ≤ status → (r >>= (λ found. Ok (told_error status found))) ≡
    Ok told → IsSaid told
error-said status (Ok found) told high is = (let e : told_error status found ≡ told = cc in
    inr (subst (λ (t : Told). 400 ≤ t.status) e high))
error-said status (Err why) told high is = cc

done-said : (empty : Bool) (told : Told) → cond empty (Ok told_done) (Err bad) ≡ Ok told → IsSaid told
done-said true told is = (let e : told_done ≡ told = cc in inl (sym e))
done-said false told is = cc

pub said : (m : HttpMessage) (told : Told) → told_of m ≡ Ok told → IsSaid told
said m told is = by_status (m.status == 204) (nat_le 400 m.status) refl is
  where
    by_status : (done error : Bool) → nat_le 400 m.status ≡ error
        → cond done (if_no_body m.body) (cond error (if_error m) (Err bad)) ≡ Ok told → IsSaid told
    by_status true error high is = done-said (length m.body == 0) told is
    by_status false true high is = error-said m.status (error_of m.body) told (leb-true 400 m.status high) is
    by_status false false high is = cc

pub called-said : (request : List ℕ) (before after : Option PeerHeld) (turns : ℕ) (told : Told)
    → Called request before turns after (Ok told) → IsSaid told
called-said request before after turns told called = said called.asks.replied.is.message told called.asks.replied.is.says

-- ---- what was printed

denied-high : (error : Bool) → cond error statuses.Denied statuses.Done ≡ statuses.Denied → error ≡ true
denied-high true is = refl
denied-high false is = cc

done-low : (error : Bool) → cond error statuses.Denied statuses.Done ≡ statuses.Done → error ≡ true → ⊥
done-low true is high = (let none : ⊥ = cc in none)
done-low false is high = (let none : ⊥ = cc in none)

printed-done : (Holds : Result Told AskFault → Type 0) (told : Told) (old new : Option (List ℕ)) → Holds (Ok told) → IsSaid told
    → told_status told ≡ statuses.Done
    → Gains old new (told_line told) → EndsBy statuses.Done Holds old new
printed-done Holds told old new holds (inl done) is gains =
    let P : Told → Type 0 = λ t. Holds (Ok t) × Gains old new (told_line t) in
    subst P done (holds, gains)
printed-done Holds told old new holds (inr high) is gains = absurd (done-low (nat_le 400 told.status) is (le-leb 400 told.status high))

pub ends-told : (Holds : Result Told AskFault → Type 0) (status : Status) (told : Told) (old new : Option (List ℕ)) → Holds (Ok told)
    → Holds (Err faults.NoMemory)
    → IsSaid told → Printed status told old new → EndsBy status Holds old new
ends-told Holds statuses.Done told old new holds memory is_said printed = printed-done Holds told old new holds is_said printed.0 printed.1
ends-told Holds statuses.Denied told old new holds memory is_said printed =
    (told, holds, leb-true 400 told.status (denied-high (nat_le 400 told.status) printed.0), printed.1)
ends-told Holds statuses.WriteFault told old new holds memory is_said printed = (told, holds, printed.0, printed.1, printed.2, printed.3)
ends-told Holds statuses.NoMemory told old new holds memory is_said printed = (memory, printed)
ends-told Holds _ told old new holds memory is_said printed = absurd printed

pub ends-fault : (Holds : Result Told AskFault → Type 0) (fault : AskFault) (old : Option (List ℕ)) → Holds (Err fault)
    → EndsBy (status_of fault) Holds old old
ends-fault Holds faults.LinkFault old holds = (holds, gains_none old)
ends-fault Holds (faults.BadReply octets) old holds = (octets, holds, gains_none old)
ends-fault Holds faults.TurnsSpent old holds = (holds, gains_none old)
ends-fault Holds faults.NoMemory old holds = (holds, gains_none old)

-- ---- what the counts tell

false-true : false ≡ true → ⊥
false-true e = let none : ⊥ = cc in none

at-least-itself : (n : ℕ) → n ≤ n
at-least-itself n = omega arith

-- the sink wasn't called
pub sink-untold : (n : ℕ) (was : Option Bool) → SinkTells n n was was false
sink-untold n was = record {
  later = at-least-itself n;
  risen = λ e. absurd (false-true e);
  kept = λ e. refl;
  failed = λ e. absurd (false-true e);
  calm = λ e calm. calm;
}

pub fault-written : (fault : AskFault) → is_write_fault (status_of fault) ≡ false
fault-written faults.LinkFault = refl
fault-written (faults.BadReply octets) = refl
fault-written faults.TurnsSpent = refl
fault-written faults.NoMemory = refl

-- a call that told no link's fault
pub memory-tells : (before now : ℕ) (was told : Option Bool) (x : Told) → CallTells before now was told (Ok x)
    → CallTells before now was told (Err faults.NoMemory)
memory-tells before now was told x tells = inl tells

-- ---- the words

pub of-words : {A : Type 0} (Holds : Result Told AskFault → Type 0) (status : Status) (old new : Option (List ℕ))
    (stated : Result A LineFault)
    → EndsBy status Holds old new → IsOk stated → IsOfWords status stated
of-words Holds statuses.Done old new stated ends ok = ok
of-words Holds statuses.Denied old new stated ends ok = ok
of-words Holds statuses.WriteFault old new stated ends ok = ok
of-words Holds statuses.BadReply old new stated ends ok = ok
of-words Holds statuses.LinkFault old new stated ends ok = ok
of-words Holds statuses.TurnsSpent old new stated ends ok = ok
of-words Holds statuses.NoMemory old new stated ends ok = tt
of-words Holds _ old new stated ends ok = absurd ends

pub completes : (Holds : Result Told AskFault → Type 0) (status : Status) (old new : Option (List ℕ)) (link sink : Type 0)
    → EndsBy status Holds old new
    → (Holds (Err faults.LinkFault) → link) → (is_write_fault status ≡ true → sink) → (link → ⊥) → (sink → ⊥) → IsWhole status
completes Holds statuses.Done old new link sink ends l s calm steady = tt
completes Holds statuses.Denied old new link sink ends l s calm steady = tt
completes Holds statuses.WriteFault old new link sink ends l s calm steady = absurd (steady (s refl))
completes Holds statuses.BadReply old new link sink ends l s calm steady = tt
completes Holds statuses.LinkFault old new link sink ends l s calm steady = absurd (calm (l ends.0))
completes Holds statuses.TurnsSpent old new link sink ends l s calm steady = tt
completes Holds statuses.NoMemory old new link sink ends l s calm steady = tt
completes Holds _ old new link sink ends l s calm steady = absurd ends
