-- A command.
use Rattle.std.proofs.Common.{◌≡◌, ℕ, ◌<◌, Bool, true, false, ◌==◌, nat_lt, List, [], ◌∷◌, ◌++◌, Option, Some, None, length, refl, sym, subst, ap, ◌∙◌, arith, if◌then◌else◌, append-nil}
use Rattle.ikeless_tree.specs.declared.command.Peer.{Peer}
use Rattle.ikeless_tree.specs.declared.command.Refusal.{Refusal}
use Rattle.ikeless_tree.specs.declared.command.Refusal.TheVariants as refusals
use Rattle.ikeless_tree.specs.declared.entry.SpdEntry.{SpdEntry}
use Rattle.ikeless_tree.specs.declared.order.Order.TheVariants as tree
use Rattle.hist_acts.specs.Past.{after}
use Rattle.std.proofs.Math.Bool.{or-true}
use Rattle.hist_controller.specs.Acts.{Way, Policy, PlacedCommand, SetPolicy, End, Rekey, Keys, ControllerAct, Accepted}
use Rattle.hist_controller.specs.Past.{is_open, queue, newest_list, directions, new_ways, both_ways, is_made_by, is_over, left}
use Rattle.hist_controller.specs.Past as past
use Rattle.hist_controller.specs.Law.{order, by_command, going, by_refusal, refusal, placed_command, peer_number}
use Rattle.hist_controller.specs.Law as law
use Rattle.hist_controller.specs.Clauses.{Has, IsControllerPast}
use Rattle.hist_controller.specs.Halves.{PlainAnswers}
use Rattle.hist_controller.proofs.Clauses.{may-command}
use Rattle.hist_controller.proofs.KeptState.{eq-own}
use Rattle.ctl_tunnels.specs.declared.tunnel.Pair.{Pair}
use Rattle.ctl_tunnels.specs.declared.tunnel.Tunnel as tunnel
use Rattle.ctl_tunnels.specs.Rings.{key_refusal}
use Rattle.ctl_core.specs.Changes as changes
use Rattle.ctl_core.specs.Core.{Core}
use Rattle.ctl_core.specs.Drafts.{Drafted, given}
use Rattle.ctl_core.specs.Pass as passes
use Rattle.ctl_core.specs.Step as step
use Rattle.ctl_law.specs.Stands.{station_of, numbered, progress_of, direction_of, TunnelsStand, StandsFor}
use Rattle.ctl_law.proofs.Drafts.{drafting}
use Rattle.ctl_law.proofs.Follows.{Follows, follows-refused, follows-run, follows-at}
use Rattle.ctl_law.proofs.Goes.{Asked, Ran, runs, longer, all_orders}
use Rattle.ctl_law.proofs.Heard.{progress-rekey, progress-end}
use Rattle.ctl_law.proofs.Looks.{open-at, reads-at, station-after, count-of, changes as all-changes}
use Rattle.ctl_law.proofs.Numbered.{numbered-same, numbered-at}
use Rattle.ctl_law.proofs.Pass.{Changed}
use Rattle.ctl_law.proofs.TunnelsKnown.{tunnel-known}
use Rattle.ctl_law.proofs.Spends.{IsSpent}

-- ## a list of policies

asked-policy : (k : List ControllerAct) (g : ℕ) (l : List SpdEntry) → Asked (by_command k (SetPolicy g l))
asked-policy k g l = case (is_open g k)
  where
    case : (b : Bool) → Asked (if b then order k g (Policy l) ∷ [] else [])
    case true = tt
    case false = tt

draft-policy : (ps : List Peer) (k : List ControllerAct) (g : ℕ) (l : List SpdEntry) (x : Drafted) (b : Bool)
    → (if b then given g (tree.Policy l) None x else x) ≡ drafting ps (if b then order k g (Policy l) ∷ [] else []) x
draft-policy ps k g l x true = refl
draft-policy ps k g l x false = refl

policy : (ps : List Peer) (h : List ControllerAct) (c : Core) (g : ℕ) (r : List SpdEntry) → IsControllerPast (length ps) h → PlainAnswers h
    → StandsFor ps h c → g < length ps → refusal (length ps) h (SetPolicy g r) ≡ None
    → Follows ps h (going h (Accepted (SetPolicy g r))) (step.policy_taken c g r)
policy ps h c g r l y f i w =
    follows-at ps h (by_command (Accepted (SetPolicy g r) ∷ h) (SetPolicy g r)) (Accepted (SetPolicy g r)) c step.nothing
    (step.readiness c.stations) (step.policy_drafted c g r) g (λ t. record t { list = Some r }) refl run
    (numbered-at (λ t. record t { list = Some r })
    (longer ps h (all_orders (Accepted (SetPolicy g r) ∷ h) (by_command (Accepted (SetPolicy g r) ∷ h) (SetPolicy g r))))
    (station_of ps (after (Accepted (SetPolicy g r) ∷ h)
    (all_orders (Accepted (SetPolicy g r) ∷ h) (by_command (Accepted (SetPolicy g r) ∷ h) (SetPolicy g r))))) g 0 g ps (omega arith)
    here there)
  where
    run : Ran ps h (Accepted (SetPolicy g r) ∷ h) (by_command (Accepted (SetPolicy g r) ∷ h) (SetPolicy g r)) c step.nothing
        (step.readiness c.stations) (step.policy_drafted c g r)
    run = runs ps h (Accepted (SetPolicy g r) ∷ h) (by_command (Accepted (SetPolicy g r) ∷ h) (SetPolicy g r)) c _ _ _ (record {
      stations = f.gateways;
      keys = f.keys ∙ sym (no-key (past.keys h));
      serials = f.serials;
      changed = same-ways;
      reads = λ j m. reads-at ps h c.stations j f.gateways m;
      lawful = (w, l);
      plain = y;
      may = may-command (length ps) h (SetPolicy g r);
      asked = asked-policy (Accepted (SetPolicy g r) ∷ h) g r;
      draft = ap (λ b. if b then given g (tree.Policy r) None (step.no_draft c) else step.no_draft c)
          (open-at ps h c.stations g f.gateways i) ∙ draft-policy ps (Accepted (SetPolicy g r) ∷ h) g r (step.no_draft c) (is_open g h);
    })
      where
        no-key : (ks : List (List ℕ)) → ks ++ [] ≡ ks
        no-key ks = append-nil ks

        same-ways : Changed step.nothing (Accepted (SetPolicy g r) ∷ h) (directions h ++ []) c.tunnels c.pairs
        same-ways = subst (λ ds. Changed step.nothing (Accepted (SetPolicy g r) ∷ h) ds c.tunnels c.pairs) (sym (append-nil (directions h)))
            (all-changes step.nothing h (Accepted (SetPolicy g r) ∷ h) (directions h) c.tunnels c.pairs f.tunnels (λ d j. refl)
            (λ d j u. record { over = u.over; left = u.left }))

    here : (p : Peer) → record (longer ps h
        (all_orders (Accepted (SetPolicy g r) ∷ h) (by_command (Accepted (SetPolicy g r) ∷ h) (SetPolicy g r))) g p) { list = Some r } ≡
        station_of ps (after (Accepted (SetPolicy g r) ∷ h)
        (all_orders (Accepted (SetPolicy g r) ∷ h) (by_command (Accepted (SetPolicy g r) ∷ h) (SetPolicy g r)))) g p
    here p =
        let e : (g == g) ≡ true = eq-own g in
        rw (station-after ps (Accepted (SetPolicy g r) ∷ h)
        (all_orders (Accepted (SetPolicy g r) ∷ h) (by_command (Accepted (SetPolicy g r) ∷ h) (SetPolicy g r))) g p run.orders)
        (rw e refl)

    there : (j : ℕ) (p : Peer) → (j == g) ≡ false
        → longer ps h (all_orders (Accepted (SetPolicy g r) ∷ h) (by_command (Accepted (SetPolicy g r) ∷ h) (SetPolicy g r))) j p ≡
        station_of ps (after (Accepted (SetPolicy g r) ∷ h)
        (all_orders (Accepted (SetPolicy g r) ∷ h) (by_command (Accepted (SetPolicy g r) ∷ h) (SetPolicy g r)))) j p
    there j p t = rw (station-after ps (Accepted (SetPolicy g r) ∷ h)
        (all_orders (Accepted (SetPolicy g r) ∷ h) (by_command (Accepted (SetPolicy g r) ∷ h) (SetPolicy g r))) j p run.orders) (rw t refl)

pub policy-follows : (ps : List Peer) (h : List ControllerAct) (c : Core) (g : ℕ) (r : List SpdEntry) → IsControllerPast (length ps) h
    → PlainAnswers h → StandsFor ps h c
    → Follows ps h (by_refusal h (SetPolicy g r) (refusal (length ps) h (SetPolicy g r))) (step.policy_at c g r)
policy-follows ps h c g r l y f = case (nat_lt g (length ps)) refl (count-of ps h c.stations f.gateways)
  where
    case : (b : Bool) → nat_lt g (length ps) ≡ b → length c.stations ≡ length ps
        → Follows ps h (by_refusal h (SetPolicy g r) (if b then None else Some refusals.UnknownGateway)) (step.policy_at c g r)
    case true t e = rw (e, t) (policy ps h c g r l y f (grind arith) (rw t refl))
    case false t e = rw (e, t) (follows-refused ps h c refusals.UnknownGateway f)

-- ## what needs no gateway changed

pub quietly : (ps : List Peer) (h : List ControllerAct) (c : Core) (ch : passes.Effect) (k : PlacedCommand) → IsControllerPast (length ps) h
    → PlainAnswers h → refusal (length ps) h k ≡ None
    → c.stations ≡ numbered (station_of ps h) 0 ps → c.keys ≡ past.keys (Accepted k ∷ h) → c.serials ≡ past.serials h
    → Changed ch (Accepted k ∷ h) (directions (Accepted k ∷ h)) c.tunnels c.pairs
    → ((j : ℕ) → newest_list j (Accepted k ∷ h) ≡ newest_list j h)
    → Follows ps h (Accepted k ∷ all_orders (Accepted k ∷ h) []) (step.ran c ch (step.readiness c.stations) (step.no_draft c))
quietly ps h c ch k l y w a b n r u = follows-run ps h [] (Accepted k) c ch (step.readiness c.stations) (step.no_draft c) refl run
    (numbered-same _ _ 0 ps (λ j p m. same j p))
  where
    run : Ran ps h (Accepted k ∷ h) [] c ch (step.readiness c.stations) (step.no_draft c)
    run = runs ps h (Accepted k ∷ h) [] c _ _ _ (record {
      stations = a;
      keys = b;
      serials = n;
      changed = r;
      reads = λ j m. reads-at ps h c.stations j a m;
      lawful = (w, l);
      plain = y;
      may = tt;
      asked = tt;
      draft = refl;
    })

    same : (j : ℕ) (p : Peer) → longer ps h (all_orders (Accepted k ∷ h) []) j p ≡ station_of ps
        (after (Accepted k ∷ h) (all_orders (Accepted k ∷ h) [])) j p
    same j p = let e : newest_list j (Accepted k ∷ h) ≡ newest_list j h = u j in
        rw (station-after ps (Accepted k ∷ h) (all_orders (Accepted k ∷ h) []) j p run.orders) (rw e refl)

-- the directions stay
kept-ways : (ch : passes.Effect) (h k : List ControllerAct) (ts : List tunnel.Tunnel) (qs : List Pair) → directions k ≡ directions h ++ []
    → TunnelsStand h (directions h) ts qs
    → ((d : Way) → Has d (directions h) → ch (direction_of d) (progress_of h d) ≡ progress_of k d)
    → ((d : Way) → Has d (directions h) → IsSpent h d → IsSpent k d)
    → Changed ch k (directions k) ts qs
kept-ways ch h k ts qs e s f g = subst (λ ds. Changed ch k ds ts qs) (sym (e ∙ append-nil (directions h)))
    (all-changes ch h k (directions h) ts qs s f g)

-- ## the end of a tunnel, and a rekey

ended : (ps : List Peer) (h : List ControllerAct) (c : Core) (r : ℕ) → IsControllerPast (length ps) h → PlainAnswers h → StandsFor ps h c
    → refusal (length ps) h (End r) ≡ None
    → Follows ps h (going h (Accepted (End r))) (step.ran c (step.end_effect r) (step.readiness c.stations) (step.no_draft c))
ended ps h c r l y f w =
    quietly ps h c (step.end_effect r) (End r) l y w f.gateways (f.keys ∙ sym (append-nil (past.keys h))) f.serials
    (kept-ways (step.end_effect r) h (Accepted (End r) ∷ h) c.tunnels c.pairs refl f.tunnels
    (λ d j. sym (progress-end (length ps) h r d l j)) (λ d j u. record { over = spent d u; left = u.left }))
    (λ j. refl)
  where
    spent : (d : Way) → IsSpent h d → is_over d (Accepted (End r) ∷ h) ≡ true
    spent d u = let o : is_over d h ≡ true = u.over in rw o (or-true (d.tunnel.reqid == r))

rekeyed : (ps : List Peer) (h : List ControllerAct) (c : Core) (r : ℕ) → IsControllerPast (length ps) h → PlainAnswers h → StandsFor ps h c
    → refusal (length ps) h (Rekey r) ≡ None
    → Follows ps h (going h (Accepted (Rekey r))) (step.ran c (step.rekey_effect r) (step.readiness c.stations) (step.no_draft c))
rekeyed ps h c r l y f w =
    quietly ps h c (step.rekey_effect r) (Rekey r) l y w f.gateways (f.keys ∙ sym (append-nil (past.keys h))) f.serials
    (kept-ways (step.rekey_effect r) h (Accepted (Rekey r) ∷ h) c.tunnels c.pairs refl f.tunnels (λ d j. sym (progress-rekey h r d))
    (λ d j u. record { over = u.over; left = u.left }))
    (λ j. refl)

pub end-follows : (ps : List Peer) (h : List ControllerAct) (c : Core) (r : ℕ) → IsControllerPast (length ps) h → PlainAnswers h
    → StandsFor ps h c
    → Follows ps h (by_refusal h (End r) (refusal (length ps) h (End r))) (step.known c r (step.end_effect r))
end-follows ps h c r l y f = case (law.has_tunnel r h) refl (tunnel-known h r (directions h) c.tunnels c.pairs f.tunnels)
  where
    case : (b : Bool) → law.has_tunnel r h ≡ b → changes.has_tunnel r c.tunnels c.pairs ≡ law.has_tunnel r h
        → Follows ps h (by_refusal h (End r) (if b then None else Some refusals.NoTunnel)) (step.known c r (step.end_effect r))
    case true t e = rw (e, t) (ended ps h c r l y f (rw t refl))
    case false t e = rw (e, t) (follows-refused ps h c refusals.NoTunnel f)

pub rekey-follows : (ps : List Peer) (h : List ControllerAct) (c : Core) (r : ℕ) → IsControllerPast (length ps) h → PlainAnswers h
    → StandsFor ps h c
    → Follows ps h (by_refusal h (Rekey r) (refusal (length ps) h (Rekey r))) (step.known c r (step.rekey_effect r))
rekey-follows ps h c r l y f = case (law.has_tunnel r h) refl (tunnel-known h r (directions h) c.tunnels c.pairs f.tunnels)
  where
    case : (b : Bool) → law.has_tunnel r h ≡ b → changes.has_tunnel r c.tunnels c.pairs ≡ law.has_tunnel r h
        → Follows ps h (by_refusal h (Rekey r) (if b then None else Some refusals.NoTunnel)) (step.known c r (step.rekey_effect r))
    case true t e = rw (e, t) (rekeyed ps h c r l y f (rw t refl))
    case false t e = rw (e, t) (follows-refused ps h c refusals.NoTunnel f)

-- ## keys

pub keys-follow : (ps : List Peer) (h : List ControllerAct) (c : Core) (k : List ℕ) → IsControllerPast (length ps) h → PlainAnswers h
    → StandsFor ps h c
    → Follows ps h (by_refusal h (Keys k) (refusal (length ps) h (Keys k))) (step.keys_by c k (key_refusal k c.keys))
keys-follow ps h c k l y f = case (refusal (length ps) h (Keys k)) refl (ap (key_refusal k) f.keys)
  where
    taken : refusal (length ps) h (Keys k) ≡ None
        → Follows ps h (going h (Accepted (Keys k))) (step.waited (record c { keys = c.keys ++ k ∷ [] }))
    taken w =
        quietly ps h (record c { keys = c.keys ++ k ∷ [] }) step.nothing (Keys k) l y w f.gateways (ap (λ ks. ks ++ k ∷ []) f.keys)
        f.serials
        (kept-ways step.nothing h (Accepted (Keys k) ∷ h) c.tunnels c.pairs refl f.tunnels (λ d j. refl)
        (λ d j u. record { over = u.over; left = u.left }))
        (λ j. refl)

    case : (o : Option Refusal) → refusal (length ps) h (Keys k) ≡ o → key_refusal k c.keys ≡ refusal (length ps) h (Keys k)
        → Follows ps h (by_refusal h (Keys k) o) (step.keys_by c k (key_refusal k c.keys))
    case None t e = rw (e, t) (taken t)
    case (Some w) t e = rw (e, t) (follows-refused ps h c w f)
