-- A refused command changes nothing.
use Rattle.std.proofs.Common.{◌≡◌, ℕ, Bool, true, false, nat_lt, List, [], ◌∷◌, Option, Some, None, length, refl, sym, subst, ap, ◌∙◌, if◌then◌else◌}
use Rattle.ikeless_tree.specs.declared.command.Command.{Command}
use Rattle.ikeless_tree.specs.declared.command.Command.TheVariants as commands
use Rattle.ikeless_tree.specs.declared.command.Peer.{Peer}
use Rattle.ikeless_tree.specs.declared.command.Refusal.{Refusal}
use Rattle.ikeless_tree.specs.declared.command.Refusal.TheVariants as refusals
use Rattle.ikeless_tree.specs.declared.entry.SpdEntry.{SpdEntry}
use Rattle.hist_controller.specs.Acts.{PlacedTunnel, SetPolicy, ControllerAct}
use Rattle.hist_controller.specs.Past.{directions}
use Rattle.hist_controller.specs.Law.{refusal, placed_command, peer_number, event_refusal, one_or_none}
use Rattle.hist_controller.specs.Law as law
use Rattle.hist_controller.specs.Clauses.{IsControllerPast}
use Rattle.hist_controller.specs.Halves.{PlainAnswers}
use Rattle.ctl_tunnels.specs.Rings.{key_refusal}
use Rattle.ctl_core.specs.declared.acts.CtlAct.TheVariants as done
use Rattle.ctl_core.specs.declared.acts.CtlEvent.{CtlEvent}
use Rattle.ctl_core.specs.declared.acts.CtlEvent.TheVariants as events
use Rattle.ctl_core.specs.Changes as changes
use Rattle.ctl_core.specs.Core as core
use Rattle.ctl_core.specs.Core.{Core}
use Rattle.ctl_core.specs.Pass as passes
use Rattle.ctl_core.specs.Step as step
use Rattle.ctl_core.specs.Step.{Outcome, stepped}
use Rattle.ctl_law.specs.Stands.{StandsFor}
use Rattle.ctl_law.specs.Told.{event_of, MayBeTold, refusals_of}
use Rattle.ctl_law.proofs.Looks.{count-of}
use Rattle.ctl_law.proofs.Steps.{refuses-first}
use Rattle.ctl_law.proofs.TunnelsFollow.{number-is, same-refusal}
use Rattle.ctl_law.proofs.TunnelsKnown.{tunnel-known}

-- the outcome of a refusal for this reason
abbrev Still : Core → Refusal → Outcome → Type 0
Still c w o = o ≡ step.refused c w

none-some : (w : Refusal) → (◌≡◌ {A = Option Refusal} None (Some w)) → ⊥
none-some w e = cc

same-some : (v w : Refusal) → Some v ≡ Some w → v ≡ w
same-some v w e = cc

policy : (ps : List Peer) (h : List ControllerAct) (c : Core) (g : ℕ) (r : List SpdEntry) (w : Refusal) → StandsFor ps h c
    → refusal (length ps) h (SetPolicy g r) ≡ Some w → Still c w (step.policy_at c g r)
policy ps h c g r w f u = case (nat_lt g (length ps)) refl (count-of ps h c.stations f.gateways) u
  where
    case : (b : Bool) → nat_lt g (length ps) ≡ b → length c.stations ≡ length ps → (if b then None else Some refusals.UnknownGateway) ≡ Some
        w → Still c w (step.policy_at c g r)
    case true t e v = absurd (none-some w v)
    case false t e v = rw (e, t) (ap (step.refused c) (same-some refusals.UnknownGateway w v))

by-known : (h : List ControllerAct) (c : Core) (r : ℕ) (ch : passes.Effect) (w : Refusal) (b : Bool)
    → changes.has_tunnel r c.tunnels c.pairs ≡ b → (if b then None else Some refusals.NoTunnel) ≡ Some w → Still c w (step.known c r ch)
by-known h c r ch w true e v = absurd (none-some w v)
by-known h c r ch w false e v = rw e (ap (step.refused c) (same-some refusals.NoTunnel w v))

tunnel : (c : Core) (t : PlacedTunnel) (w : Refusal) (o : Option Refusal) → o ≡ Some w
    → Still c w (step.tunnel_by c t.spec t.first t.second o)
tunnel c t w o e = rw e refl

pub refused : (ps : List Peer) (h : List ControllerAct) (c : Core) (command : Command) (w : Refusal) → IsControllerPast (length ps) h
    → PlainAnswers h → StandsFor ps h c → refusal (length ps) h (placed_command ps command) ≡ Some w → Still c w (step.commanded c command)
refused ps h c (commands.Policy name r) w l y f u = subst (λ g. Still c w (step.policy_at c g r)) (sym (number-is ps h c name f))
    (policy ps h c (peer_number name ps) r w f u)
refused ps h c (commands.Tunnel spec) w l y f u =
    subst (λ n. Still c w (step.tunnel_by c spec n (core.number_of spec.second c.stations)
    (step.tunnel_refusal c spec.reqid n (core.number_of spec.second c.stations)))) (sym (number-is ps h c spec.first f))
    (subst (λ m. Still c w (step.tunnel_by c spec (peer_number spec.first ps) m
    (step.tunnel_refusal c spec.reqid (peer_number spec.first ps) m))) (sym (number-is ps h c spec.second f))
    (tunnel c (record { spec = spec; first = peer_number spec.first ps; second = peer_number spec.second ps }) w _
    (same-refusal ps h c (record { spec = spec; first = peer_number spec.first ps; second = peer_number spec.second ps }) l y f ∙ u)))
refused ps h c (commands.End r) w l y f u = by-known h c r (step.end_effect r) w (law.has_tunnel r h)
    (tunnel-known h r (directions h) c.tunnels c.pairs f.tunnels) u
refused ps h c (commands.Rekey r) w l y f u = by-known h c r (step.rekey_effect r) w (law.has_tunnel r h)
    (tunnel-known h r (directions h) c.tunnels c.pairs f.tunnels) u
refused ps h c (commands.Keys k) w l y f u = ap (step.keys_by c k) (ap (key_refusal k) f.keys ∙ u)

by-refusal : (o : Option Refusal) (w : Refusal) → w ∷ [] ≡ one_or_none o → o ≡ Some w
by-refusal None w e = cc
by-refusal (Some v) w e = let q : w ≡ v = cc in ap Some (sym q)

no-refusal : (w : Refusal) → (◌≡◌ {A = List Refusal} (w ∷ []) []) → ⊥
no-refusal w e = cc

pub refused-still : (ps : List Peer) (h : List ControllerAct) (c : Core) (e : CtlEvent) (w : Refusal) → IsControllerPast (length ps) h
    → PlainAnswers h → StandsFor ps h c → MayBeTold c e → (stepped c e).acts ≡ done.Refused w ∷ [] → (stepped c e).core ≡ c
refused-still ps h c e w l y f m u = case e m (sym (ap refusals_of u) ∙ refuses-first ps h c e l y f m)
  where
    case : (z : CtlEvent) → MayBeTold c z → w ∷ [] ≡ one_or_none (event_refusal ps h (event_of z)) → (stepped c z).core ≡ c
    case (events.Command command) n v =
        ap (λ (o : Outcome). o.core) (refused ps h c command w l y f (by-refusal (refusal (length ps) h (placed_command ps command)) w v))
    case (events.Opened g) n v = absurd (no-refusal w v)
    case (events.Cut g) n v = absurd (no-refusal w v)
    case (events.Answered g a) n v = absurd (no-refusal w v)
    case (events.Noticed g t) n v = absurd (no-refusal w v)
