-- One read after another.
use Rattle.std.proofs.Common.{◌≡◌, ◌⊎◌, ◌+◌, ◌<◌, ◌≤◌, ◌++◌, ℕ, zero, suc, min, List, length, take, inl, inr, Option, Some, None, Result, Ok, Err, refl, sym, ◌∙◌, ap, subst, arith, length-take}
use Rattle.live_devices.specs.Dialers.{PeerHeld, Reads}
use Rattle.rc_http.specs.declared.message.Kind.TheVariants.{Response}
use Rattle.rc_http.specs.Feeding.{Feeding}
use Rattle.rc_http.specs.Looks.{Looks, Waits}
use Rattle.rc_operations.specs.declared.told.Told.{Told}
use Rattle.live_client.specs.declared.fault.AskFault.{AskFault}
use Rattle.live_client.specs.declared.fault.AskFault.TheVariants as faults
use Rattle.live_client.specs.Asking.{Brings, CutOff, Finds, FindsEnd, Gave, Goes, Misread, Replied, goes}
use Rattle.live_client.specs.Replies.{IsBad, IsWaiting, Takes}

-- ---- one read

pub brings_none : (held next : Option PeerHeld) (buf octets : List ℕ) (f : Feeding) → length buf ≡ 65536 → Reads held next None buf
    → IsWaiting f octets → Brings held next octets f octets (Ok None)
brings_none held next buf octets f room reads waiting = (inl (record { buf = buf; room = room; reads = reads }, refl), waiting)

takes_brings : (held next : Option PeerHeld) (octets more : List ℕ) (f : Feeding) (kept : List ℕ) (r : Result (Option Told) AskFault)
    → Finds held next more → Takes (octets ++ more) f kept r → Brings held next octets f kept r
takes_brings held next octets more f kept (Ok None) finds takes = (inr (more, finds, takes.0), takes.1)
takes_brings held next octets more f kept (Ok (Some told)) finds takes = (octets ++ more, inr (more, finds, refl), takes)
takes_brings held next octets more f kept (Err faults.LinkFault) finds takes = tt
takes_brings held next octets more f kept (Err (faults.BadReply bad)) finds takes =
    inl (inr (more, finds, takes.0), subst IsBad (sym takes.0) takes.1)
takes_brings held next octets more f kept (Err faults.TurnsSpent) finds takes = takes
takes_brings held next octets more f kept (Err faults.NoMemory) finds takes = tt

pub brings_some : (held next : Option PeerHeld) (buf octets more : List ℕ) (n : ℕ) (f : Feeding) (kept : List ℕ)
    (r : Result (Option Told) AskFault)
    → length buf ≡ 65536 → n ≤ length buf → Reads held next (Some n) buf → more ≡ take n buf
    → (length more ≡ 0 → r ≡ Err (faults.BadReply octets)) → (0 < length more → Takes (octets ++ more) f kept r)
    → Brings held next octets f kept r
brings_some held next buf octets more zero f kept r room fits reads are end piece =
    let size : length more ≡ min 0 (length buf) = ap length are ∙ length-take 0 buf in
    let P : Result (Option Told) AskFault → Type 0 = λ x. Brings held next octets f kept x in
    subst P (sym (end (omega (arith, size)))) (inr (record { buf = buf; room = room; reads = reads }, refl))
brings_some held next buf octets more (suc n) f kept r room fits reads are end piece =
    let size : length more ≡ min (suc n) (length buf) = ap length are ∙ length-take (suc n) buf in
    takes_brings held next octets more f kept r
    (record { buf = buf; room = room; size = suc n; some = omega arith; reads = reads; are = are }) (piece (omega (arith, size, fits)))

-- ---- many reads

pub gave_more : (start held next : Option PeerHeld) (turn : ℕ) (octets kept : List ℕ) (f : Feeding) → Gave start turn octets held
    → Brings held next octets f kept (Ok None) → Gave start (turn + 1) kept next
gave_more start held next turn octets kept f gave brings = goes turn octets kept held next gave brings.0

pub replied_told : (start held next : Option PeerHeld) (turn turns : ℕ) (octets kept : List ℕ) (f : Feeding) (told : Told)
    → Gave start turn octets held
    → turn < turns → Brings held next octets f kept (Ok (Some told)) → Replied start turns next (Ok told)
replied_told start held next turn turns octets kept f told gave before brings = record {
  turn = turn + 1;
  within = omega (arith, before);
  octets = brings.0;
  gave = goes turn octets brings.0 held next gave brings.1;
  is = brings.2;
}

bad_read : (start held next : Option PeerHeld) (turn turns : ℕ) (octets bad : List ℕ) → Gave start turn octets held → turn < turns
    → Looks Response octets Waits → (Goes held next octets bad × IsBad bad) ⊎ (FindsEnd held next × (bad ≡ octets))
    → Misread start turns next bad ⊎ CutOff start turns next bad
bad_read start held next turn turns octets bad gave before waits (inl found) = inl (record {
  turn = turn + 1;
  within = omega (arith, before);
  gave = goes turn octets bad held next gave found.0;
  is = found.1;
})
bad_read start held next turn turns octets bad gave before waits (inr found) =
    let P : List ℕ → Type 0 = λ o. CutOff start turns next o in
    inr (subst P (sym found.1) (record { turn = turn; within = before; held = held; gave = gave; end = found.0; waits = waits }))

pub replied_fault : (start held next : Option PeerHeld) (turn turns : ℕ) (octets kept : List ℕ) (f : Feeding) (fault : AskFault)
    → Gave start turn octets held → turn < turns → Looks Response octets Waits → Brings held next octets f kept (Err fault)
    → Replied start turns next (Err fault)
replied_fault start held next turn turns octets kept f faults.LinkFault gave before waits brings = tt
replied_fault start held next turn turns octets kept f (faults.BadReply bad) gave before waits brings =
    bad_read start held next turn turns octets bad gave before waits brings
replied_fault start held next turn turns octets kept f faults.TurnsSpent gave before waits brings = absurd brings
replied_fault start held next turn turns octets kept f faults.NoMemory gave before waits brings = tt
