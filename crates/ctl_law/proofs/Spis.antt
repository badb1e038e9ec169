-- The SPIs of the halves that are put.
use Rattle.std.proofs.Common.{◌≡◌, ℕ, ◌+◌, ◌≤◌, Bool, true, ◌&&◌, nat_le, List, [], ◌∷◌, ◌++◌, length, refl, ap, ◌∙◌, arith}
use Rattle.std.specs.List.{list_all}
use Rattle.ikeless_tree.specs.declared.command.Peer.{Peer}
use Rattle.hist_controller.specs.Acts.{ControllerOrder, Read, Policy, PutIn, PutOut, RemoveIn, RemoveOut, ControllerAct, Opened, Cut, Answered, Heard, Ordered, Accepted, Refused}
use Rattle.hist_controller.specs.Past.{serials, keys}
use Rattle.hist_controller.specs.Clauses.{IsControllerPast, ControllerMayActAll, MayOrder}
use Rattle.hist_controller.specs.Halves.{PlainAnswers}
use Rattle.hist_controller.specs.Law.{block}
use Rattle.hist_controller.specs.Told.{order_told}
use Rattle.hist_controller.proofs.Accepts.{few-keys, few-serials}
use Rattle.hist_controller.proofs.Clauses.{may-block}
use Rattle.hist_controller.proofs.KeysInTurn.{left-serial}
use Rattle.ctl_core.specs.Core.{Core}
use Rattle.ctl_core.specs.Step.{stepped}
use Rattle.ctl_core.specs.declared.acts.CtlEvent.{CtlEvent}
use Rattle.ctl_law.specs.Stands.{StandsFor}
use Rattle.ctl_law.specs.Told.{event_of, all_done, spi_in, spis_of, MayBeTold}
use Rattle.ctl_law.proofs.Steps.{step-follows}

abbrev fits : ℕ → Bool
fits n = nat_le 257 n && nat_le n 1048832

small : (n : ℕ) → 1 ≤ n → n ≤ 1048576 → fits (256 + n) ≡ true
small n a b = let p : nat_le 257 (256 + n) ≡ true = grind arith in let q : nat_le (256 + n) 1048832 ≡ true = grind arith in rw (p, q) refl

one : (n : ℕ) (more : List ℕ) → fits n ≡ true → list_all fits more ≡ true → list_all fits (n ∷ more) ≡ true
one n more e f = rw (e, f) refl

of-order : (ps : List Peer) (p : ℕ) (k : List ControllerAct) (g s n : ℕ) (o : ControllerOrder) (more : List ℕ) → IsControllerPast p k
    → IsControllerPast p (Ordered g s n o ∷ k) → MayOrder k g o → list_all fits more ≡ true
    → list_all fits (spi_in (order_told ps o) ++ more) ≡ true
of-order ps p k g s n Read more l m i e = e
of-order ps p k g s n (Policy r) more l m i e = e
of-order ps p k g s n (PutIn x) more l m i e =
    let a : serials k + 1 ≤ length (keys k) = few-serials p (Ordered g s n (PutIn x) ∷ k) m in
    let b : length (keys k) ≤ 1048576 = few-keys p k l in
    let c : x.serial ≡ serials k + 1 = i.serial in
    one (256 + x.serial) more (small x.serial (omega arith) (omega arith)) e
of-order ps p k g s n (PutOut x) more l m i e = let q = left-serial p k l i.way x i.left in
    one (256 + x.serial) more (small x.serial q.0 q.1) e
of-order ps p k g s n (RemoveIn r) more l m i e = e
of-order ps p k g s n (RemoveOut r) more l m i e = e

of-acts : (ps : List Peer) (p : ℕ) (k xs : List ControllerAct) → IsControllerPast p k → ControllerMayActAll p k xs
    → list_all fits (spis_of (all_done ps xs)) ≡ true
of-acts ps p k [] l m = refl
of-acts ps p k (Opened g s ∷ xs) l m = of-acts ps p (Opened g s ∷ k) xs (m.0, l) m.1
of-acts ps p k (Cut g s ∷ xs) l m = of-acts ps p (Cut g s ∷ k) xs (m.0, l) m.1
of-acts ps p k (Answered g s n a ∷ xs) l m = of-acts ps p (Answered g s n a ∷ k) xs (m.0, l) m.1
of-acts ps p k (Heard g s t ∷ xs) l m = of-acts ps p (Heard g s t ∷ k) xs (m.0, l) m.1
of-acts ps p k (Ordered g s n o ∷ xs) l m = of-order ps p k g s n o (spis_of (all_done ps xs)) l (m.0, l) m.0.3
    (of-acts ps p (Ordered g s n o ∷ k) xs (m.0, l) m.1)
of-acts ps p k (Accepted c ∷ xs) l m = of-acts ps p (Accepted c ∷ k) xs (m.0, l) m.1
of-acts ps p k (Refused w ∷ xs) l m = of-acts ps p (Refused w ∷ k) xs (m.0, l) m.1

pub spis-fit : (ps : List Peer) (h : List ControllerAct) (c : Core) (e : CtlEvent) → IsControllerPast (length ps) h → PlainAnswers h
    → StandsFor ps h c → MayBeTold c e → list_all (λ n. nat_le 257 n && nat_le n 1048832) (spis_of (stepped c e).acts) ≡ true
spis-fit ps h c e l y s m = ap (λ z. list_all fits (spis_of z)) (step-follows ps h c e l y s m).acts
    ∙ of-acts ps (length ps) h (block ps h (event_of e)) l (may-block ps h (event_of e))
