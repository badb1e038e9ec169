-- A tunnel commanded, and every other command.
use Rattle.std.proofs.Common.{◌≡◌, ℕ, ◌<◌, false, List, [], ◌∷◌, ◌++◌, Option, Some, None, length, refl, sym, subst, ap, ◌∙◌, arith, append-nil}
use Rattle.ikeless_tree.specs.declared.command.Command.{Command}
use Rattle.ikeless_tree.specs.declared.command.Command.TheVariants as commands
use Rattle.ikeless_tree.specs.declared.command.Peer.{Peer}
use Rattle.ikeless_tree.specs.declared.command.Refusal.{Refusal}
use Rattle.hist_controller.specs.Acts.{Way, PlacedTunnel, Tunnel, ControllerAct, Accepted}
use Rattle.hist_controller.specs.Past.{directions, both_ways, is_made_by, is_over, left}
use Rattle.hist_controller.specs.Past as past
use Rattle.hist_controller.specs.Law.{going, by_refusal, refusal, placed_command, peer_number}
use Rattle.hist_controller.specs.Law as law
use Rattle.hist_controller.specs.Clauses.{Has, IsControllerPast}
use Rattle.hist_controller.specs.Halves.{PlainAnswers}
use Rattle.hist_controller.proofs.KeptState.{made-no, rising}
use Rattle.hist_controller.proofs.Serials.{upto}
use Rattle.ctl_tunnels.specs.declared.tunnel.Pair.{Pair}
use Rattle.ctl_tunnels.specs.declared.tunnel.Tunnel as tunnel
use Rattle.ctl_tunnels.specs.Tunnels as tunnels
use Rattle.ctl_core.specs.Changes as changes
use Rattle.ctl_core.specs.Core as core
use Rattle.ctl_core.specs.Core.{Core}
use Rattle.ctl_core.specs.Pass as passes
use Rattle.ctl_core.specs.Step as step
use Rattle.ctl_law.specs.Stands.{station_of, StandsFor}
use Rattle.ctl_law.proofs.CommandsFollow.{quietly, policy-follows, end-follows, rekey-follows, keys-follow}
use Rattle.ctl_law.proofs.Follows.{Follows, follows-refused}
use Rattle.ctl_law.proofs.Heard.{progress-tunnel, progress-new}
use Rattle.ctl_law.proofs.Looks.{count-of, changes as all-changes}
use Rattle.ctl_law.proofs.Numbered.{numbered-number}
use Rattle.ctl_law.proofs.Pass.{Changed, none_changed, spent_too, changed}
use Rattle.ctl_law.proofs.TunnelsKnown.{tunnel-known, unspent-stand, tunnels-count}
use Rattle.ctl_law.proofs.Spends.{IsSpent}

changed-more : (ch : passes.Effect) (k : List ControllerAct) (ds es : List Way) (ts us : List tunnel.Tunnel) (qs rs : List Pair)
    → Changed ch k ds ts qs → Changed ch k es us rs → Changed ch k (ds ++ es) (ts ++ us) (qs ++ rs)
changed-more ch k _ es _ us _ rs none_changed m = m
changed-more ch k _ es _ us _ rs (spent_too d e ds ts qs a b c) m = spent_too d e (ds ++ es) (ts ++ us) (qs ++ rs) a b
    (changed-more ch k ds es ts us qs rs c m)
changed-more ch k _ es _ us _ rs (changed d e ds t ts q qs a b c r) m = changed d e (ds ++ es) t (ts ++ us) q (qs ++ rs) a b c
    (changed-more ch k ds es ts us qs rs r m)

not-made : (h : List ControllerAct) (t : PlacedTunnel) (d : Way) → Has d (directions h) → is_made_by (Tunnel t) (length (directions h)) d ≡
    false
not-made h t d i =
    let u : d.id < length (directions h) = (let v = upto 0 (directions h) d (rising h) i in omega arith) in
    made-no (Tunnel t) (length (directions h)) d u

spent-then : (h : List ControllerAct) (t : PlacedTunnel) (d : Way) → Has d (directions h) → IsSpent h d
    → IsSpent (Accepted (Tunnel t) ∷ h) d
spent-then h t d i u =
    let m : is_made_by (Tunnel t) (length (directions h)) d ≡ false = not-made h t d i in
    record { over = rw m u.over; left = rw m u.left }

new-tunnel : (p : ℕ) (h : List ControllerAct) (t : PlacedTunnel) → IsControllerPast p h
    → Changed step.nothing (Accepted (Tunnel t) ∷ h) (both_ways (length (directions h)) t) (tunnels.of_spec t.spec t.first t.second ∷ [])
    (tunnels.begun t.spec.now ∷ [])
new-tunnel p h t l = changed _ _ [] (tunnels.of_spec t.spec t.first t.second) [] (tunnels.begun t.spec.now) []
    (record { forth = refl; back = refl })
    (sym (progress-new p h t _ l (omega arith)))
    (sym (progress-new p h t _ l (omega arith)))
    none_changed

taken : (ps : List Peer) (h : List ControllerAct) (c : Core) (t : PlacedTunnel) → IsControllerPast (length ps) h → PlainAnswers h
    → StandsFor ps h c → refusal (length ps) h (Tunnel t) ≡ None
    → Follows ps h (going h (Accepted (Tunnel t))) (step.tunnel_taken c (tunnels.of_spec t.spec t.first t.second) t.spec.now)
taken ps h c t l y f w =
    quietly ps h (step.with_tunnel c (tunnels.of_spec t.spec t.first t.second) t.spec.now) step.nothing (Tunnel t) l y w f.gateways (f.keys
    ∙ sym (append-nil (past.keys h))) f.serials
    (changed-more step.nothing (Accepted (Tunnel t) ∷ h) (directions h) (both_ways (length (directions h)) t)
    (changes.unspent_tunnels c.tunnels c.pairs) (tunnels.of_spec t.spec t.first t.second ∷ []) (changes.unspent_pairs c.tunnels c.pairs)
    (tunnels.begun t.spec.now ∷ [])
    (all-changes step.nothing h (Accepted (Tunnel t) ∷ h) (directions h) _ _ (unspent-stand (length ps) h (directions h) c.tunnels c.pairs l
    y f.tunnels) (λ d j. sym (progress-tunnel h t d j)) (λ d j u. spent-then h t d j u))
    (new-tunnel (length ps) h t l))
    (λ j. refl)

pub same-refusal : (ps : List Peer) (h : List ControllerAct) (c : Core) (t : PlacedTunnel) → IsControllerPast (length ps) h → PlainAnswers h
    → StandsFor ps h c → step.tunnel_refusal c t.spec.reqid t.first t.second ≡ refusal (length ps) h (Tunnel t)
same-refusal ps h c t l y f =
    let a : length c.stations ≡ length ps = count-of ps h c.stations f.gateways in
    let b : changes.has_tunnel t.spec.reqid c.tunnels c.pairs ≡ law.has_tunnel t.spec.reqid h =
    tunnel-known h t.spec.reqid (directions h) c.tunnels c.pairs f.tunnels in
    let e : changes.count_tunnels c.pairs ≡ law.tunnels h (directions h) = tunnels-count (length ps) h (directions h) c.tunnels c.pairs l y
    f.tunnels in
    rw (a, b, e) refl

placed : (ps : List Peer) (h : List ControllerAct) (c : Core) (t : PlacedTunnel) → IsControllerPast (length ps) h → PlainAnswers h
    → StandsFor ps h c
    → Follows ps h (by_refusal h (Tunnel t) (refusal (length ps) h (Tunnel t)))
    (step.tunnel_by c t.spec t.first t.second (step.tunnel_refusal c t.spec.reqid t.first t.second))
placed ps h c t l y f = case (refusal (length ps) h (Tunnel t)) refl (same-refusal ps h c t l y f)
  where
    case : (o : Option Refusal) → refusal (length ps) h (Tunnel t) ≡ o → step.tunnel_refusal c t.spec.reqid t.first t.second ≡ refusal
        (length ps) h (Tunnel t)
        → Follows ps h (by_refusal h (Tunnel t) o)
        (step.tunnel_by c t.spec t.first t.second (step.tunnel_refusal c t.spec.reqid t.first t.second))
    case None u e = rw (e, u) (taken ps h c t l y f u)
    case (Some w) u e = rw (e, u) (follows-refused ps h c w f)

pub number-is : (ps : List Peer) (h : List ControllerAct) (c : Core) (name : List ℕ) → StandsFor ps h c
    → core.number_of name c.stations ≡ peer_number name ps
number-is ps h c name f = ap (core.number_of name) f.gateways ∙ numbered-number name (station_of ps h) ps (λ j p. refl)

-- every command
pub commanded : (ps : List Peer) (h : List ControllerAct) (c : Core) (command : Command) → IsControllerPast (length ps) h → PlainAnswers h
    → StandsFor ps h c
    → Follows ps h (by_refusal h (placed_command ps command) (refusal (length ps) h (placed_command ps command))) (step.commanded c command)
commanded ps h c (commands.Policy name r) l y f =
    subst (λ g. Follows ps h (by_refusal h (placed_command ps (commands.Policy name r))
    (refusal (length ps) h (placed_command ps (commands.Policy name r)))) (step.policy_at c g r)) (sym (number-is ps h c name f))
    (policy-follows ps h c (peer_number name ps) r l y f)
commanded ps h c (commands.Tunnel spec) l y f =
    subst (λ n. Follows ps h (by_refusal h (placed_command ps (commands.Tunnel spec))
    (refusal (length ps) h (placed_command ps (commands.Tunnel spec)))) (step.tunnel_by c spec n (core.number_of spec.second c.stations)
    (step.tunnel_refusal c spec.reqid n (core.number_of spec.second c.stations)))) (sym (number-is ps h c spec.first f))
    (subst (λ m. Follows ps h (by_refusal h (placed_command ps (commands.Tunnel spec))
    (refusal (length ps) h (placed_command ps (commands.Tunnel spec)))) (step.tunnel_by c spec (peer_number spec.first ps) m
    (step.tunnel_refusal c spec.reqid (peer_number spec.first ps) m))) (sym (number-is ps h c spec.second f))
    (placed ps h c (record { spec = spec; first = peer_number spec.first ps; second = peer_number spec.second ps }) l y f))
commanded ps h c (commands.End r) l y f = end-follows ps h c r l y f
commanded ps h c (commands.Rekey r) l y f = rekey-follows ps h c r l y f
commanded ps h c (commands.Keys k) l y f = keys-follow ps h c k l y f
