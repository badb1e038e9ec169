-- The controller is told, and what it does is carried out.
use Rattle.std.proofs.Common.{◌≡◌, ◌==◌, ◌<◌, ℕ, Bool, true, false, not, ◌&&◌, List, length, get_or, Option, Some, refl, sym, ap, subst, ◌∙◌}
use Rattle.std.specs.Prelude.{All, slice_get}
use Rattle.ikeless_tree.specs.declared.command.Peer.{Peer}
use Rattle.live_devices.specs.Dialers.{PeerHeld}
use Rattle.live_devices.specs.Reads.{Makes}
use Rattle.live_devices.proofs.Reading.{makes-as, makes-on}
use Rattle.ctl_core.specs.declared.acts.CtlAct.{CtlAct}
use Rattle.ctl_core.specs.declared.acts.CtlAct.TheVariants as done
use Rattle.ctl_core.specs.declared.acts.CtlEvent.{CtlEvent}
use Rattle.ctl_core.specs.declared.acts.CtlEvent.TheVariants as events
use Rattle.ctl_core.specs.Core.{Core, is_open_at}
use Rattle.ctl_core.specs.Step.{stepped}
use Rattle.live_controller.specs.declared.desk.Desk.{Desk}
use Rattle.live_controller.specs.declared.link.Link.{Link}
use Rattle.live_controller.specs.Links.{OthersStay, up_at, up_of}
use Rattle.live_controller.specs.Past.{open_by}
use Rattle.live_controller.specs.Found.{after_orders, hung_by}
use Rattle.live_controller.specs.Standing.{IsGiven}
use Rattle.live_controller.specs.Doings.{Agrees, AgreesBy, Carried, Does, IsForOpen, IsReady, OpensBy, Orders, Tells}
use Rattle.live_controller.proofs.Keeping.{by_number, other_number, same_number, up_other}

-- ---- orders are for peers whose link is up

one-ready : (links : List Link) (c : Core) (ps : List Peer) (act : CtlAct) → IsGiven ps act → IsForOpen c act
    → ((g : ℕ) → g < length ps → up_at links g ≡ is_open_at c.stations g) → IsReady links act
one-ready links c ps (done.Order g o) given for same = same g given.0 ∙ for
one-ready links c ps (done.Refused w) given for same = tt

pub all-ready : (links : List Link) (c : Core) (ps : List Peer) (acts : List CtlAct) → All (IsGiven ps) acts → All (IsForOpen c) acts
    → ((g : ℕ) → g < length ps → up_at links g ≡ is_open_at c.stations g) → All (IsReady links) acts
all-ready links c ps acts given for same = λ k d lt. one-ready links c ps (get_or acts k d) (given k d lt) (for k d lt) same

-- ---- the controller takes an event, and its acts are carried out

-- after the step each link is up exactly where the controller has the session open
pub agrees-mid : (e : CtlEvent) (old mid : Desk) → mid.links ≡ old.links → OpensBy (length old.peers) e old.controller mid.controller →
    AgreesBy e old
    → (g : ℕ) → g < length old.peers → up_at mid.links.items g ≡ is_open_at mid.controller.stations g
agrees-mid e old mid links opens by g lt = ap (λ v. up_at v.items g) links ∙ by g lt ∙ sym (opens g lt)

pub told-of : (e : CtlEvent) (old mid new : Desk) (acts : List CtlAct) (lost gone : List ℕ) (was is : ℕ → Option PeerHeld)
    → mid.peers ≡ old.peers → mid.links ≡ old.links → mid.controller ≡ (stepped old.controller e).core
    → OpensBy (length old.peers) e old.controller mid.controller → new.peers ≡ mid.peers → new.controller ≡ mid.controller
    → acts ≡ (stepped old.controller e).acts → AgreesBy e old → Carried mid.peers acts mid new lost gone was is → Tells e old new was is
told-of e old mid new acts lost gone was is peers links core opens kept still are by carried =
    let P : List Peer → Type 0 = λ ps. Orders ps acts was is in
    let Q : List CtlAct → Type 0 = λ xs. Orders old.peers xs was is in
    record {
      peers = kept ∙ peers;
      core = still ∙ core;
      links = carried.links ∙ links;
      agrees = λ g lt.
          let N : List Peer → Type 0 = λ ps. g < length ps in
          ap (λ v. up_at v.items g) carried.links ∙ agrees-mid e old mid links opens by g (subst N (kept ∙ peers) lt)
          ∙ ap (λ (c : Core). is_open_at c.stations g) (sym still);
      orders = subst Q are (subst P peers carried.orders);
    }

-- ---- what happens

-- an event that cuts and opens nothing
pub does-told : (e : CtlEvent) (old new : Desk) (was is : ℕ → Option PeerHeld) → ((g : ℕ) (p : PeerHeld) → p ≡ hung_by g (Some e) p)
    → ((g : ℕ) → up_at old.links.items g ≡ open_by g (Some e) (up_at old.links.items g)) → Tells e old new was is → Does e old new was is
does-told e old new was is stays up t = record {
  peers = t.peers;
  core = t.core;
  agrees = t.agrees;
  links = λ g there. ap (λ v. slice_get v.items g) t.links;
  up = λ g. ap (λ v. up_at v.items g) t.links ∙ up g;
  orders = λ g. let F : PeerHeld → PeerHeld = after_orders old.peers g (stepped old.controller e).acts in
      makes-as F (λ p. F (hung_by g (Some e) p)) (was g) (is g) (λ p. ap F (stays g p)) (t.orders g);
}

up-cut : (g k : ℕ) (old mid : List Link) (b : Bool) → (k == g) ≡ b → up_at mid g ≡ false → OthersStay g old mid → up_at mid k ≡
    (not b && up_at old k)
up-cut g k old mid true e down stay = let P : ℕ → Type 0 = λ i. up_at mid i ≡ false in subst P (sym (same_number k g e)) down
up-cut g k old mid false e down stay = up_other g old mid stay k (other_number k g e)

-- a session is cut: the link goes down before the controller is told
pub agrees-cut : (g : ℕ) (old mid : Desk) → mid.peers ≡ old.peers → mid.controller ≡ old.controller → up_at mid.links.items g ≡ false
    → OthersStay g old.links.items mid.links.items → Agrees old → AgreesBy (events.Cut g) mid
agrees-cut g old mid peers core down stay agrees = λ k lt.
    let N : List Peer → Type 0 = λ ps. k < length ps in
    up-cut g k old.links.items mid.links.items (k == g) refl down stay
    ∙ ap (λ (b : Bool). not (k == g) && b) (agrees k (subst N peers lt) ∙ ap (λ (c : Core). is_open_at c.stations k) (sym core))

up-down : (links : List Link) (k : ℕ) → up_at links k ≡ false → up_at links k ≡ true → ⊥
up-down links k f t = let no : ⊥ = cc in no

pub does-cut : (g : ℕ) (old mid new : Desk) (was between is : ℕ → Option PeerHeld) → mid.peers ≡ old.peers → mid.controller ≡ old.controller
    → up_at mid.links.items g ≡ false → OthersStay g old.links.items mid.links.items
    → ((k : ℕ) → Makes (hung_by k (Some (events.Cut g))) (was k) (between k)) → Tells (events.Cut g) mid new between is
    → Does (events.Cut g) old new was is
does-cut g old mid new was between is peers core down stay hung t =
    let C : Core → Type 0 = λ c. Orders old.peers (stepped c (events.Cut g)).acts between is in
    let P : List Peer → Type 0 = λ ps. Orders ps (stepped mid.controller (events.Cut g)).acts between is in
    let orders : Orders old.peers (stepped old.controller (events.Cut g)).acts between is = subst C core (subst P peers t.orders) in
    record {
      peers = t.peers ∙ peers;
      core = t.core ∙ ap (λ (c : Core). (stepped c (events.Cut g)).core) core;
      agrees = t.agrees;
      links = λ k there.
          let same : slice_get new.links.items k ≡ slice_get mid.links.items k = ap (λ v. slice_get v.items k) t.links in
          let up : up_at mid.links.items k ≡ true = sym (ap up_of same) ∙ there in
          by_number (slice_get new.links.items k ≡ slice_get old.links.items k) k g
          (λ e. let P : ℕ → Type 0 = λ i. up_at mid.links.items i ≡ true in absurd (up-down mid.links.items g down (subst P e up)))
          (λ other. same ∙ stay k other);
      up = λ k. ap (λ v. up_at v.items k) t.links ∙ up-cut g k old.links.items mid.links.items (k == g) refl down stay;
      orders = λ k. makes-on (hung_by k (Some (events.Cut g))) (after_orders old.peers k (stepped old.controller (events.Cut g)).acts)
          (was k) (between k)
          (is k) (hung k) (orders k);
    }
