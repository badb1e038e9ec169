-- A notice.
use Rattle.std.proofs.Common.{◌≡◌, ℕ, ◌<◌, Bool, true, false, List, [], ◌∷◌, None, length, map, refl, sym, ap, ◌∙◌, if◌then◌else◌}
use Rattle.std.specs.List.{list_any}
use Rattle.ikeless_tree.specs.declared.command.Peer.{Peer}
use Rattle.ikeless_tree.specs.declared.order.Notice.{Notice}
use Rattle.ikeless_tree.specs.declared.order.Notice.TheVariants as notices
use Rattle.ikeless_tree.specs.declared.order.Order.TheVariants as tree
use Rattle.hist_acts.specs.Past.{after}
use Rattle.hist_controller.specs.Acts.{Read, ControllerAct, Heard}
use Rattle.hist_controller.specs.Past.{is_open, openings, queue, directions}
use Rattle.hist_controller.specs.Law.{order, is_reading, by_notice, going}
use Rattle.hist_controller.specs.Clauses.{IsControllerPast}
use Rattle.hist_controller.specs.Halves.{PlainAnswers}
use Rattle.hist_controller.proofs.Clauses.{may-notice}
use Rattle.ctl_core.specs.Core as core
use Rattle.ctl_core.specs.Core.{Core}
use Rattle.ctl_core.specs.Drafts.{Drafted, given}
use Rattle.ctl_core.specs.Step as step
use Rattle.ctl_law.specs.Stands.{waiting_of, station_of, numbered, progress_of, direction_of, StandsFor}
use Rattle.ctl_law.proofs.Drafts.{drafting}
use Rattle.ctl_law.proofs.Follows.{Follows, follows-still, follows-run}
use Rattle.ctl_law.proofs.Goes.{Asked, Ran, runs, longer, all_orders}
use Rattle.ctl_law.proofs.Heard.{progress-noticed}
use Rattle.ctl_law.proofs.Looks.{open-at, list-at, queue-at, reading-waits, reads-at, station-after, changes}
use Rattle.ctl_law.proofs.Numbered.{numbered-same}

asked-notice : (k : List ControllerAct) (g : ℕ) (t : Notice) → Asked (by_notice k g t)
asked-notice k g (notices.Acquire name s) = tt
asked-notice k g (notices.Expire name soft l) = tt
asked-notice k g (notices.SeqOverflow name) = tt
asked-notice k g (notices.BadSpi n) = case (list_any is_reading (queue g k))
  where
    case : (b : Bool) → Asked (if b then [] else order k g Read ∷ [])
    case true = tt
    case false = tt

draft-notice : (ps : List Peer) (k : List ControllerAct) (g : ℕ) (t : Notice) (x : Drafted)
    → step.asked_again g (map (waiting_of ps) (queue g k)) t x ≡ drafting ps (by_notice k g t) x
draft-notice ps k g (notices.Acquire name s) x = refl
draft-notice ps k g (notices.Expire name soft l) x = refl
draft-notice ps k g (notices.SeqOverflow name) x = refl
draft-notice ps k g (notices.BadSpi n) x = rw (reading-waits ps (queue g k)) (case (list_any is_reading (queue g k)))
  where
    case : (b : Bool) → (if b then x else given g tree.Read None x) ≡ drafting ps (if b then [] else order k g Read ∷ []) x
    case true = refl
    case false = refl

heard : (ps : List Peer) (h : List ControllerAct) (c : Core) (g : ℕ) (t : Notice) → IsControllerPast (length ps) h → PlainAnswers h
    → StandsFor ps h c → g < length ps → is_open g h ≡ true
    → Follows ps h (going h (Heard g (openings g h) t)) (step.ran c (step.notice_effect g (core.list_at c.stations g) t)
    (step.readiness c.stations) (step.asked_again g (core.queue_at c.stations g) t (step.no_draft c)))
heard ps h c g t l y s i o =
    follows-run ps h (by_notice (Heard g (openings g h) t ∷ h) g t) (Heard g (openings g h) t) c
    (step.notice_effect g (core.list_at c.stations g) t) (step.readiness c.stations) (step.asked_again g (core.queue_at c.stations g) t
    (step.no_draft c)) refl run same
  where
    run : Ran ps h (Heard g (openings g h) t ∷ h) (by_notice (Heard g (openings g h) t ∷ h) g t) c
        (step.notice_effect g (core.list_at c.stations g) t) (step.readiness c.stations) (step.asked_again g (core.queue_at c.stations g) t
        (step.no_draft c))
    run = runs ps h (Heard g (openings g h) t ∷ h) (by_notice (Heard g (openings g h) t ∷ h) g t) c _ _ _ (record {
      stations = s.gateways;
      keys = s.keys;
      serials = s.serials;
      changed = changes (step.notice_effect g (core.list_at c.stations g) t) h (Heard g (openings g h) t ∷ h) (directions h) c.tunnels
          c.pairs s.tunnels
          (λ d j. ap (λ z. step.notice_effect g z t (direction_of d) (progress_of h d)) (list-at ps h c.stations g s.gateways i)
          ∙ sym (progress-noticed (length ps) h g (openings g h) t d l y))
          (λ d j u. record { over = u.over; left = u.left });
      reads = λ j m. reads-at ps h c.stations j s.gateways m;
      lawful = ((o, refl), l);
      plain = y;
      may = may-notice (length ps) h g (openings g h) t refl o;
      asked = asked-notice (Heard g (openings g h) t ∷ h) g t;
      draft = ap (λ z. step.asked_again g z t (step.no_draft c)) (queue-at ps h c.stations g s.gateways i)
          ∙ draft-notice ps (Heard g (openings g h) t ∷ h) g t (step.no_draft c);
    })

    same : numbered (longer ps h (all_orders (Heard g (openings g h) t ∷ h) (by_notice (Heard g (openings g h) t ∷ h) g t))) 0 ps ≡ numbered
        (station_of ps (after (Heard g (openings g h) t ∷ h)
        (all_orders (Heard g (openings g h) t ∷ h) (by_notice (Heard g (openings g h) t ∷ h) g t)))) 0 ps
    same = numbered-same _ _ 0 ps
        (λ j p m. sym (station-after ps (Heard g (openings g h) t ∷ h)
        (all_orders (Heard g (openings g h) t ∷ h) (by_notice (Heard g (openings g h) t ∷ h) g t)) j p run.orders))

pub noticed : (ps : List Peer) (h : List ControllerAct) (c : Core) (g : ℕ) (t : Notice) → IsControllerPast (length ps) h → PlainAnswers h
    → StandsFor ps h c → g < length ps
    → Follows ps h (if is_open g h then going h (Heard g (openings g h) t) else []) (step.noticed c g t)
noticed ps h c g t l y s i = case (is_open g h) refl (open-at ps h c.stations g s.gateways i)
  where
    case : (b : Bool) → is_open g h ≡ b → core.is_open_at c.stations g ≡ is_open g h
        → Follows ps h (if b then going h (Heard g (openings g h) t) else []) (step.noticed c g t)
    case true o e = rw (e, o) (heard ps h c g t l y s i o)
    case false o e = rw (e, o) (follows-still ps h c s)
