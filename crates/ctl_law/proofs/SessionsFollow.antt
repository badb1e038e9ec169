-- A session opened or cut.
use Rattle.std.proofs.Common.{◌≡◌, ℕ, ◌+◌, ◌<◌, Bool, true, false, ◌==◌, not, ◌&&◌, ◌||◌, List, [], ◌∷◌, Option, Some, None, length, refl, sym, subst, ap, ◌∙◌, arith, if◌then◌else◌}
use Rattle.ikeless_tree.specs.declared.command.Peer.{Peer}
use Rattle.ikeless_tree.specs.declared.entry.SpdEntry.{SpdEntry}
use Rattle.ikeless_tree.specs.declared.order.Order.TheVariants as tree
use Rattle.hist_acts.specs.Past.{after}
use Rattle.std.proofs.Math.Bool.{true-and}
use Rattle.hist_controller.specs.Acts.{Way, Read, ControllerAct, Opened, Cut, Cuts}
use Rattle.hist_controller.specs.Past.{is_open, is_first_answered, is_read, openings, queue, newest_list, directions}
use Rattle.hist_controller.specs.Law.{order, with_list, read_put, going}
use Rattle.hist_controller.specs.Clauses.{Has, IsControllerPast}
use Rattle.hist_controller.specs.Halves.{PlainAnswers}
use Rattle.hist_controller.proofs.Accepts.{placings}
use Rattle.hist_controller.proofs.Clauses.{may-read-put, may-block, past-after}
use Rattle.hist_controller.proofs.KeptState.{eq-own}
use Rattle.hist_controller.proofs.Waits.{shut-queue}
use Rattle.ctl_core.specs.declared.peer.Session.TheVariants as sessions
use Rattle.ctl_core.specs.Core as core
use Rattle.ctl_core.specs.Core.{Core, at}
use Rattle.ctl_core.specs.Drafts.{Drafted, given}
use Rattle.ctl_core.specs.Step as step
use Rattle.ctl_law.specs.Stands.{station_of, StandsFor}
use Rattle.ctl_law.proofs.Drafts.{drafting, with_order}
use Rattle.ctl_law.proofs.Follows.{Follows, follows-still, follows-at}
use Rattle.ctl_law.proofs.Goes.{Asked, Ran, runs, longer, all_orders}
use Rattle.ctl_law.proofs.Heard.{progress-opened}
use Rattle.ctl_law.proofs.Lines.{same-after}
use Rattle.ctl_law.proofs.Looks.{open-at, closed-at, list-at, reads-at, reads-set, station-after, changes}
use Rattle.ctl_law.proofs.Lost.{progress-cut}
use Rattle.ctl_law.proofs.Numbered.{numbered-at}

-- ## opened

asked-list : (k : List ControllerAct) (g : ℕ) (o : Option (List SpdEntry)) → Asked (with_list k g o)
asked-list k g None = tt
asked-list k g (Some l) = tt

draft-list : (ps : List Peer) (k : List ControllerAct) (g : ℕ) (o : Option (List SpdEntry)) (x : Drafted)
    → step.with_list g o x ≡ drafting ps (with_list k g o) x
draft-list ps k g None x = refl
draft-list ps k g (Some l) x = refl

opening : (ps : List Peer) (h : List ControllerAct) (c : Core) (g s : ℕ) → IsControllerPast (length ps) h → PlainAnswers h
    → StandsFor ps h c → g < length ps → is_open g h ≡ false → s ≡ openings g h + 1
    → Follows ps h (going h (Opened g s))
    (step.opening_with c g (step.with_list g (core.list_at c.stations g) (given g tree.Read None (step.no_draft c))))
opening ps h c g s l y f i o n =
    follows-at ps h (read_put (Opened g s ∷ h) g) (Opened g s) c step.nothing (step.readiness c.stations)
    (step.with_list g (core.list_at c.stations g) (given g tree.Read None (step.no_draft c))) g
    (λ t. record t { session = sessions.Unread }) refl run
    (numbered-at (λ t. record t { session = sessions.Unread }) (longer ps h (all_orders (Opened g s ∷ h) (read_put (Opened g s ∷ h) g)))
    (station_of ps (after (Opened g s ∷ h) (all_orders (Opened g s ∷ h) (read_put (Opened g s ∷ h) g)))) g 0 g ps (omega arith) here
    there)
  where
    reads : (j : ℕ) (b : Bool) → (j == g) ≡ b → is_read j h ≡ ((b || is_open j h) && (not b && is_first_answered j h))
    reads j true t = let w : j ≡ g = grind arith in let u : is_open j h ≡ false = (rw w o) in rw u refl
    reads j false t = ap (λ b. is_open j h && b) (sym (true-and (is_first_answered j h)))

    run : Ran ps h (Opened g s ∷ h) (read_put (Opened g s ∷ h) g) c step.nothing (step.readiness c.stations)
        (step.with_list g (core.list_at c.stations g) (given g tree.Read None (step.no_draft c)))
    run = runs ps h (Opened g s ∷ h) (read_put (Opened g s ∷ h) g) c _ _ _ (record {
      stations = f.gateways;
      keys = f.keys;
      serials = f.serials;
      changed = changes step.nothing h (Opened g s ∷ h) (directions h) c.tunnels c.pairs f.tunnels
          (λ d j. sym (progress-opened (length ps) h g s d l o)) (λ d j u. record { over = u.over; left = u.left });
      reads = λ j m. reads-at ps h c.stations j f.gateways m ∙ reads j (j == g) refl;
      lawful = ((o, n), l);
      plain = y;
      may = may-read-put (length ps) h g s;
      asked = asked-list (order (Opened g s ∷ h) g Read ∷ Opened g s ∷ h) g (newest_list g h);
      draft = ap (λ z. step.with_list g z (given g tree.Read None (step.no_draft c))) (list-at ps h c.stations g f.gateways i)
          ∙ draft-list ps (order (Opened g s ∷ h) g Read ∷ Opened g s ∷ h) g (newest_list g h) (with_order ps g Read (step.no_draft c));
    })

    here : (p : Peer) → record (longer ps h (all_orders (Opened g s ∷ h) (read_put (Opened g s ∷ h) g)) g p) { session = sessions.Unread } ≡
        station_of ps (after (Opened g s ∷ h) (all_orders (Opened g s ∷ h) (read_put (Opened g s ∷ h) g))) g p
    here p =
        let e : (g == g) ≡ true = eq-own g in
        let q : queue g h ≡ [] = shut-queue (length ps) h g l o in
        rw (station-after ps (Opened g s ∷ h) (all_orders (Opened g s ∷ h) (read_put (Opened g s ∷ h) g)) g p run.orders, q) (rw e refl)

    there : (j : ℕ) (p : Peer) → (j == g) ≡ false → longer ps h (all_orders (Opened g s ∷ h) (read_put (Opened g s ∷ h) g)) j p ≡ station_of
        ps (after (Opened g s ∷ h) (all_orders (Opened g s ∷ h) (read_put (Opened g s ∷ h) g))) j p
    there j p t = rw (station-after ps (Opened g s ∷ h) (all_orders (Opened g s ∷ h) (read_put (Opened g s ∷ h) g)) j p run.orders)
        (rw t refl)

pub opened : (ps : List Peer) (h : List ControllerAct) (c : Core) (g : ℕ) → IsControllerPast (length ps) h → PlainAnswers h
    → StandsFor ps h c → g < length ps
    → Follows ps h (if is_open g h then [] else going h (Opened g (openings g h + 1))) (step.opened c g)
opened ps h c g l y s i = case (is_open g h) refl (closed-at ps h c.stations g s.gateways i)
  where
    case : (b : Bool) → is_open g h ≡ b → core.is_closed_at c.stations g ≡ not (is_open g h)
        → Follows ps h (if b then [] else going h (Opened g (openings g h + 1))) (step.opened c g)
    case true o e = rw (e, o) (follows-still ps h c s)
    case false o e = rw (e, o) (opening ps h c g (openings g h + 1) l y s i o refl)

-- ## cut

closing : (ps : List Peer) (h : List ControllerAct) (c : Core) (g s : ℕ) → IsControllerPast (length ps) h → PlainAnswers h
    → StandsFor ps h c → g < length ps → is_open g h ≡ true → s ≡ openings g h → IsControllerPast (length ps) (after h (going h (Cut g s)))
    → Follows ps h (going h (Cut g s)) (step.closing c g)
closing ps h c g s l y f i o n lawful =
    follows-at ps h [] (Cut g s) c (step.cut_effect g) (step.set_ready g false (step.readiness c.stations)) (step.no_draft c) g
    (λ t. record t { session = sessions.Closed; queue = [] }) refl run
    (numbered-at (λ t. record t { session = sessions.Closed; queue = [] }) (longer ps h (all_orders (Cut g s ∷ h) []))
    (station_of ps (after (Cut g s ∷ h) (all_orders (Cut g s ∷ h) []))) g 0 g ps (omega arith) here there)
  where
    reads : (j : ℕ) (b : Bool) → (if b then false else is_read j h) ≡ ((not b && is_open j h) && is_first_answered j h)
    reads j true = refl
    reads j false = refl

    apart : (d : Way) → Has d (directions h) → (d.sender == d.receiver) ≡ false
    apart d j = (placings (length ps) h l d j).apart

    run : Ran ps h (Cut g s ∷ h) [] c (step.cut_effect g) (step.set_ready g false (step.readiness c.stations)) (step.no_draft c)
    run = runs ps h (Cut g s ∷ h) [] c _ _ _ (record {
      stations = f.gateways;
      keys = f.keys;
      serials = f.serials;
      changed = changes (step.cut_effect g) h (Cut g s ∷ h) (directions h) c.tunnels c.pairs f.tunnels
          (λ d j. sym (progress-cut (length ps) h g s d l j (apart d j))) (λ d j u. record { over = u.over; left = u.left });
      reads = λ j m. reads-set ps h c.stations g j false f.gateways i m ∙ reads j (j == g);
      lawful = ((o, n), l);
      plain = y;
      may = tt;
      asked = tt;
      draft = refl;
    })

    here : (p : Peer) → record (longer ps h (all_orders (Cut g s ∷ h) []) g p) { session = sessions.Closed; queue = [] } ≡ station_of ps
        (after (Cut g s ∷ h) (all_orders (Cut g s ∷ h) [])) g p
    here p =
        let k = same-after (Cut g s ∷ h) (all_orders (Cut g s ∷ h) []) g run.orders in
        let e : (g == g) ≡ true = eq-own g in
        let u : is_open g (after (Cut g s ∷ h) (all_orders (Cut g s ∷ h) [])) ≡ false = k.up ∙ ap (λ b. not b && is_open g h) e in
        let w : newest_list g (after (Cut g s ∷ h) (all_orders (Cut g s ∷ h) [])) ≡ newest_list g h = k.list in
        let q : queue g (after (Cut g s ∷ h) (all_orders (Cut g s ∷ h) [])) ≡ [] =
        shut-queue (length ps) (after (Cut g s ∷ h) (all_orders (Cut g s ∷ h) [])) g lawful u in
        rw (u, w, q) refl

    there : (j : ℕ) (p : Peer) → (j == g) ≡ false → longer ps h (all_orders (Cut g s ∷ h) []) j p ≡ station_of ps
        (after (Cut g s ∷ h) (all_orders (Cut g s ∷ h) [])) j p
    there j p t = rw (station-after ps (Cut g s ∷ h) (all_orders (Cut g s ∷ h) []) j p run.orders) (rw t refl)

pub cut : (ps : List Peer) (h : List ControllerAct) (c : Core) (g : ℕ) → IsControllerPast (length ps) h → PlainAnswers h → StandsFor ps h c
    → g < length ps
    → Follows ps h (if is_open g h then going h (Cut g (openings g h)) else []) (step.cut c g)
cut ps h c g l y s i = case (is_open g h) refl (open-at ps h c.stations g s.gateways i)
  where
    case : (b : Bool) → is_open g h ≡ b → core.is_open_at c.stations g ≡ is_open g h
        → Follows ps h (if b then going h (Cut g (openings g h)) else []) (step.cut c g)
    case true o e = rw (e, o)
        (closing ps h c g (openings g h) l y s i o refl
        (subst (λ z. IsControllerPast (length ps) (after h (if z then going h (Cut g (openings g h)) else []))) o
        (past-after (length ps) h _ l (may-block ps h (Cuts g)))))
    case false o e = rw (e, o) (follows-still ps h c s)
