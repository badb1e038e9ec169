-- What it means that a step of the core follows the law.
use Rattle.std.proofs.Common.{◌≡◌, ℕ, Bool, List, [], ◌∷◌, ◌++◌, refl, sym, ap, ◌∙◌}
use Rattle.ikeless_tree.specs.declared.command.Peer.{Peer}
use Rattle.ikeless_tree.specs.declared.command.Refusal.{Refusal}
use Rattle.hist_acts.specs.Past.{after}
use Rattle.hist_controller.specs.Acts.{Way, ControllerAct, Refused}
use Rattle.hist_controller.specs.Past.{directions}
use Rattle.ctl_core.specs.Core.{Core, at}
use Rattle.ctl_core.specs.Drafts.{Drafted}
use Rattle.ctl_core.specs.Pass as passes
use Rattle.ctl_core.specs.Step as step
use Rattle.ctl_core.specs.Step.{Outcome}
use Rattle.ctl_core.specs.declared.peer.Station.{Station}
use Rattle.ctl_tunnels.specs.declared.tunnel.Pair.{Pair}
use Rattle.ctl_tunnels.specs.declared.tunnel.Tunnel.{Tunnel}
use Rattle.ctl_law.specs.Stands.{station_of, numbered, TunnelsStand, no_more, left_out, stands, StandsFor}
use Rattle.ctl_law.specs.Told.{done_at, all_done}
use Rattle.ctl_law.proofs.Goes.{Ran, longer, all_orders}
use Rattle.ctl_law.proofs.Numbered.{numbered-same}

-- the outcome has the acts of this block, and leaves what stands for the past with it
pub record Follows (ps : List Peer) (h : List ControllerAct) (os : List ControllerAct) (o : Outcome) : Type 0 where
  pub acts : o.acts ≡ all_done ps os
  pub stands : StandsFor ps (after h os) o.core

pub follows-still : (ps : List Peer) (h : List ControllerAct) (c : Core) → StandsFor ps h c → Follows ps h [] (step.still c)
follows-still ps h c s = record { acts = refl; stands = s }

pub follows-run : (ps : List Peer) (h os : List ControllerAct) (a : ControllerAct) (c : Core) (ch : passes.Effect) (ready : List Bool)
    (x : Drafted) → done_at ps a ≡ [] → Ran ps h (a ∷ h) os c ch ready x
    → numbered (longer ps h (all_orders (a ∷ h) os)) 0 ps ≡ numbered (station_of ps (after (a ∷ h) (all_orders (a ∷ h) os))) 0 ps
    → Follows ps h (a ∷ all_orders (a ∷ h) os) (step.ran c ch ready x)
follows-run ps h os a c ch ready x n r w = record {
  acts = r.acts ∙ sym (ap (λ z. z ++ all_done ps (all_orders (a ∷ h) os)) n);
  stands = record { gateways = r.stations ∙ w; tunnels = r.tunnels; keys = r.keys; serials = r.serials };
}

-- where a gateway is changed at last
pub follows-at : (ps : List Peer) (h os : List ControllerAct) (a : ControllerAct) (c : Core) (ch : passes.Effect) (ready : List Bool)
    (x : Drafted) (g : ℕ) (f : Station → Station) → done_at ps a ≡ [] → Ran ps h (a ∷ h) os c ch ready x
    → at g f (numbered (longer ps h (all_orders (a ∷ h) os)) 0 ps) ≡ numbered (station_of ps (after (a ∷ h) (all_orders (a ∷ h) os))) 0 ps
    → Follows ps h (a ∷ all_orders (a ∷ h) os) (step.with_station g f (step.ran c ch ready x))
follows-at ps h os a c ch ready x g f n r w = record {
  acts = r.acts ∙ sym (ap (λ z. z ++ all_done ps (all_orders (a ∷ h) os)) n);
  stands = record { gateways = ap (at g f) r.stations ∙ w; tunnels = r.tunnels; keys = r.keys; serials = r.serials };
}

refused-tunnels : (h : List ControllerAct) (w : Refusal) (ds : List Way) (ts : List Tunnel) (qs : List Pair) → TunnelsStand h ds ts qs
    → TunnelsStand (Refused w ∷ h) ds ts qs
refused-tunnels h w _ _ _ no_more = no_more
refused-tunnels h w _ _ _ (left_out d e ds ts qs a b r) = left_out d e ds ts qs a b (refused-tunnels h w ds ts qs r)
refused-tunnels h w _ _ _ (stands d e ds t ts qs a r) = stands d e ds t ts qs a (refused-tunnels h w ds ts qs r)

pub follows-refused : (ps : List Peer) (h : List ControllerAct) (c : Core) (w : Refusal) → StandsFor ps h c
    → Follows ps h (Refused w ∷ []) (step.refused c w)
follows-refused ps h c w s = record {
  acts = refl;
  stands = record {
    gateways = s.gateways ∙ numbered-same (station_of ps h) (station_of ps (Refused w ∷ h)) 0 ps (λ j p l. refl);
    tunnels =
        refused-tunnels h w (directions h) c.tunnels c.pairs s.tunnels;
    keys = s.keys;
    serials = s.serials;
  };
}
