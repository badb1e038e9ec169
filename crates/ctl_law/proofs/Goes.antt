-- An act of the law's, the orders that it asks for, and the pass after them, as the core runs them.
use Rattle.std.proofs.Common.{◌≡◌, ℕ, ◌<◌, Bool, List, [], ◌∷◌, ◌++◌, length, map, refl, sym, subst, ap, ◌∙◌}
use Rattle.ikeless_tree.specs.declared.command.Peer.{Peer}
use Rattle.hist_acts.specs.Past.{after}
use Rattle.hist_controller.specs.Acts.{Way, Read, Policy, PutIn, PutOut, RemoveIn, RemoveOut, ControllerAct, Opened, Cut, Answered, Heard, Ordered, Accepted, Refused}
use Rattle.hist_controller.specs.Past.{is_open, is_first_answered, queue, newest_list, keys, serials, directions}
use Rattle.hist_controller.specs.Past as past
use Rattle.hist_controller.specs.Law.{pass}
use Rattle.hist_controller.specs.Clauses.{Has, IsControllerPast, ControllerMayActAll}
use Rattle.hist_controller.specs.Halves.{PlainAnswers}
use Rattle.hist_controller.proofs.Clauses.{past-after, after-append}
use Rattle.hist_controller.proofs.KeptState.{rising}
use Rattle.ctl_core.specs.declared.peer.Station.{Station}
use Rattle.ctl_core.specs.Core.{Core, address_of}
use Rattle.ctl_core.specs.Drafts.{Drafted}
use Rattle.ctl_core.specs.Pass as passes
use Rattle.ctl_core.specs.Step as step
use Rattle.ctl_law.specs.Stands.{waiting_of, station_of, numbered, TunnelsStand}
use Rattle.ctl_law.specs.Told.{all_done}
use Rattle.ctl_law.proofs.Drafts.{drafting, with_order, AtHand}
use Rattle.ctl_law.proofs.Lines.{Orders, orders-more, orders-pass, orders_for, same-after, keys-after-orders, ways-after-orders, drafted-acts, drafted-queues}
use Rattle.ctl_law.proofs.Numbered.{numbered-map, numbered-queues, numbered-address}
use Rattle.ctl_law.proofs.Pass.{Untouched, untouched, and-untouched, untouched-by, drafting-append, Changed, changed-moves, PassIs, pass-is}

-- readings and lists alone
abbrev pub Asked : List ControllerAct → Type 0
Asked [] = Unit {0}
Asked (Ordered g s n Read ∷ more) = Asked more
Asked (Ordered g s n (Policy l) ∷ more) = Asked more
Asked (_ ∷ more) = ⊥

pub record AskedFor (ps : List Peer) (k os : List ControllerAct) (x : Drafted) : Type 0 where
  pub orders : Orders os
  pub serials : (drafting ps os x).serials ≡ x.serials
  pub same : past.serials (after k os) ≡ past.serials k
  pub plain : PlainAnswers k → PlainAnswers (after k os)
  pub untouched : (p : ℕ) → IsControllerPast p k → ControllerMayActAll p k os → (d : Way) → Has d (directions k)
      → Untouched k (after k os) d

asked-for : (ps : List Peer) (k os : List ControllerAct) (x : Drafted) → Asked os → AskedFor ps k os x
asked-for ps k [] x a = record { orders = tt; serials = refl; same = refl; plain = λ y. y; untouched = λ p l m d i. untouched k d }
asked-for ps k (Opened g s ∷ os) x a = absurd a
asked-for ps k (Cut g s ∷ os) x a = absurd a
asked-for ps k (Answered g s n c ∷ os) x a = absurd a
asked-for ps k (Heard g s t ∷ os) x a = absurd a
asked-for ps k (Ordered g s n Read ∷ os) x a =
    let ih = asked-for ps (Ordered g s n Read ∷ k) os (with_order ps g Read x) a in
    record {
      orders = ih.orders;
      serials = ih.serials;
      same = ih.same;
      plain = λ y. ih.plain y;
      untouched = λ p l m d i. and-untouched k (Ordered g s n Read ∷ k) (after (Ordered g s n Read ∷ k) os) d
          (untouched-by p k g s n Read d (m.0, l) i refl) (ih.untouched p (m.0, l) m.1 d i);
    }
asked-for ps k (Ordered g s n (Policy r) ∷ os) x a =
    let ih = asked-for ps (Ordered g s n (Policy r) ∷ k) os (with_order ps g (Policy r) x) a in
    record {
      orders = ih.orders;
      serials = ih.serials;
      same = ih.same;
      plain = λ y. ih.plain y;
      untouched = λ p l m d i. and-untouched k (Ordered g s n (Policy r) ∷ k) (after (Ordered g s n (Policy r) ∷ k) os) d
          (untouched-by p k g s n (Policy r) d (m.0, l) i refl) (ih.untouched p (m.0, l) m.1 d i);
    }
asked-for ps k (Ordered g s n (PutIn y) ∷ os) x a = absurd a
asked-for ps k (Ordered g s n (PutOut y) ∷ os) x a = absurd a
asked-for ps k (Ordered g s n (RemoveIn y) ∷ os) x a = absurd a
asked-for ps k (Ordered g s n (RemoveOut y) ∷ os) x a = absurd a
asked-for ps k (Accepted c ∷ os) x a = absurd a
asked-for ps k (Refused w ∷ os) x a = absurd a

-- ## what a run of the core stands on

-- h is the past before the event, k with its own act, and os the orders that the act asks for
pub record Runs (ps : List Peer) (h k os : List ControllerAct) (c : Core) (ch : passes.Effect) (ready : List Bool) (x : Drafted) : Type 0
  where
    pub stations : c.stations ≡ numbered (station_of ps h) 0 ps
    pub keys : c.keys ≡ past.keys k
    pub serials : c.serials ≡ past.serials k
    pub changed : Changed ch k (directions k) c.tunnels c.pairs
    pub reads : (g : ℕ) → g < length ps → passes.is_read ready g ≡ past.is_read g k
    pub lawful : IsControllerPast (length ps) k
    pub plain : PlainAnswers k
    pub may : ControllerMayActAll (length ps) k os
    pub asked : Asked os
    pub draft : x ≡ drafting ps os (step.no_draft c)

abbrev pub all_orders : List ControllerAct → List ControllerAct → List ControllerAct
all_orders k os = os ++ pass (after k os) (directions (after k os))

-- a gateway with the orders of these acts in its queue
abbrev pub longer : List Peer → List ControllerAct → List ControllerAct → ℕ → Peer → Station
longer ps h xs j p = record (station_of ps h j p) { queue = map (waiting_of ps) (queue j h) ++ map (waiting_of ps) (orders_for j xs) }

pub record Ran (ps : List Peer) (h k os : List ControllerAct) (c : Core) (ch : passes.Effect) (ready : List Bool) (x : Drafted) : Type 0
  where
    pub acts : (step.ran c ch ready x).acts ≡ all_done ps (all_orders k os)
    pub orders : Orders (all_orders k os)
    pub stations : (step.ran c ch ready x).core.stations ≡ numbered (longer ps h (all_orders k os)) 0 ps
    pub tunnels : TunnelsStand (after k (all_orders k os)) (directions (after k (all_orders k os))) (step.ran c ch ready x).core.tunnels
        (step.ran c ch ready x).core.pairs
    pub keys : (step.ran c ch ready x).core.keys ≡ past.keys (after k (all_orders k os))
    pub serials : (step.ran c ch ready x).core.serials ≡ past.serials (after k (all_orders k os))

pub runs : (ps : List Peer) (h k os : List ControllerAct) (c : Core) (ch : passes.Effect) (ready : List Bool) (x : Drafted)
    → Runs ps h k os c ch ready x → Ran ps h k os c ch ready x
runs ps h k os c ch ready x r = record {
  acts = ap (λ (y : Drafted). y.acts) passed ∙ drafted-acts ps (all_orders k os) (step.no_draft c) all;
  orders = all;
  stations = ap (λ (y : Drafted). passes.with_queues c.stations y.queues) passed
      ∙ ap (passes.with_queues c.stations) (drafted-queues ps (all_orders k os) (step.no_draft c) (λ j. []) all empty)
      ∙ ap (λ ss. passes.with_queues ss (numbered (λ j p. map (waiting_of ps) ([] ++ orders_for j (all_orders k os))) 0 ps)) r.stations
      ∙ numbered-queues (station_of ps h) (λ j p. map (waiting_of ps) (orders_for j (all_orders k os))) 0 ps;
  tunnels = subst (λ ds. TunnelsStand (after k (all_orders k os)) ds c.tunnels (passes.pass_pairs c.stations c.keys ch ready c.tunnels
      c.pairs x)) (sym ways)
      (subst (λ m. TunnelsStand m (directions (after k os)) c.tunnels (passes.pass_pairs c.stations c.keys ch ready c.tunnels c.pairs x))
      (sym last) passing.stands);
  keys = r.keys ∙ sym (keys-after-orders k (all_orders k os) all);
  serials = ap (λ (y : Drafted). y.serials) passing.draft ∙ passing.serials ∙ ap past.serials (sym last);
}
  where
    a : AskedFor ps k os (step.no_draft c)
    a = asked-for ps k os (step.no_draft c) r.asked

    all : Orders (all_orders k os)
    all = orders-more os (pass (after k os) (directions (after k os))) a.orders (orders-pass (after k os) (directions (after k os)))

    last : after k (all_orders k os) ≡ after (after k os) (pass (after k os) (directions (after k os)))
    last = after-append k os (pass (after k os) (directions (after k os)))

    ways : directions (after k (all_orders k os)) ≡ directions (after k os)
    ways = ways-after-orders k (all_orders k os) all ∙ sym (ways-after-orders k os a.orders)

    hand : AtHand ps (after k os) c.stations c.keys ready
    hand = record {
      keys = r.keys ∙ sym (keys-after-orders k os a.orders);
      reads = λ g l. r.reads g l ∙ (let s = same-after k os g a.orders in let u : is_open g (after k os) ≡ is_open g k = s.up in
          let v : is_first_answered g (after k os) ≡ is_first_answered g k = s.first in rw (u, v) refl);
      addresses = λ g. ap (λ ss. address_of ss g) r.stations ∙ numbered-address (station_of ps h) 0 g ps (λ j p. refl);
    }

    count : x.serials ≡ past.serials (after k os)
    count = ap (λ (y : Drafted). y.serials) r.draft ∙ a.serials ∙ r.serials ∙ sym a.same

    moved : Changed ch (after k os) (directions (after k os)) c.tunnels c.pairs
    moved = subst (λ ds. Changed ch (after k os) ds c.tunnels c.pairs) (sym (ways-after-orders k os a.orders))
        (changed-moves ch k (after k os) (directions k) c.tunnels c.pairs r.changed (a.untouched (length ps) r.lawful r.may))

    passing : PassIs ps (after k os) (directions (after k os)) c.tunnels c.pairs c.stations c.keys ready ch x
    passing = pass-is ps c.stations c.keys ready ch (after k os) (directions (after k os)) c.tunnels c.pairs x 0
        (past-after (length ps) k os r.lawful r.may) (a.plain r.plain) (rising (after k os)) (λ d i. i) hand count moved

    passed : step.passed c ch ready x ≡ drafting ps (all_orders k os) (step.no_draft c)
    passed = passing.draft ∙ ap (drafting ps (pass (after k os) (directions (after k os)))) r.draft
        ∙ sym (drafting-append ps os (pass (after k os) (directions (after k os))) (step.no_draft c))

    empty : (step.no_draft c).queues ≡ numbered (λ j p. map (waiting_of ps) []) 0 ps
    empty = ap (map (λ s. [])) r.stations ∙ numbered-map (λ s. []) (station_of ps h) 0 ps
