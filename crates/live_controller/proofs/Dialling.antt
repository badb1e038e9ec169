-- Peers are dialled, and their streams are read, one after another.
use Rattle.std.proofs.Common.{◌≡◌, ◌==◌, ◌<◌, ℕ, suc, Bool, true, false, ◌||◌, List, [], ◌∷◌, length, Option, Result, Ok, Err, refl, sym, ap, subst, ◌∙◌, if◌then◌else◌}
use Rattle.std.specs.Prelude.{OnOk}
use Rattle.ikeless_tree.specs.declared.command.Peer.{Peer}
use Rattle.rc_http.specs.declared.message.Kind.TheVariants.{Response as Responses}
use Rattle.live_devices.specs.Dialers.{PeerHeld, StaysBut, dialled}
use Rattle.live_devices.specs.Reads.{Makes}
use Rattle.ctl_core.specs.declared.acts.CtlEvent.TheVariants as events
use Rattle.ctl_core.specs.Core.{Core, is_open_at}
use Rattle.live_controller.specs.declared.desk.Desk.{Desk}
use Rattle.live_controller.specs.declared.link.Link.{Link}
use Rattle.live_controller.specs.Links.{OthersStay, notices_at, notices_of, responses_at, responses_of, up_at}
use Rattle.live_controller.specs.Past.{Dialled, Heard, Item, Told, heard_of, is_open, told_of}
use Rattle.live_controller.specs.Found.{Devices}
use Rattle.live_controller.specs.Doings.{Agrees, AgreesBy, Does, Tells}
use Rattle.live_controller.specs.Stands.{AreDialled, AreLines, AreRead, AreResponses, IsRead, IsReadIf, PeersStand, none_left}
use Rattle.live_controller.proofs.Doing.{one-peer}
use Rattle.live_controller.proofs.Feeding.{none_open, none_waits}
use Rattle.live_controller.proofs.Going.{goes-on, if-other, if-same, line-as, since-as, streams-at}
use Rattle.live_controller.proofs.Hearing.{known-is}
use Rattle.live_controller.proofs.Keeping.{other_number, same_number, up_other}
use Rattle.live_controller.proofs.Telling.{does-told}

-- ---- a session that was dialled

-- its link came up with nothing on it, and nothing else changed
pub record Opened (g : ℕ) (d m : Desk) : Type 0 where
  pub peers : m.peers ≡ d.peers
  pub core : m.controller ≡ d.controller
  pub up : up_at m.links.items g ≡ true
  pub none : (responses_at m.links.items g ≡ []) × (notices_at m.links.items g ≡ [])
  pub others : OthersStay g d.links.items m.links.items

up-opened : (g k : ℕ) (old mid : List Link) (b : Bool) → (k == g) ≡ b → up_at mid g ≡ true → OthersStay g old mid
    → up_at mid k ≡ (b || up_at old k)
up-opened g k old mid true e up stay = let P : ℕ → Type 0 = λ i. up_at mid i ≡ true in subst P (sym (same_number k g e)) up
up-opened g k old mid false e up stay = up_other g old mid stay k (other_number k g e)

up-still : (g k : ℕ) (links : List Link) (b : Bool) → (k == g) ≡ b → up_at links g ≡ true → up_at links k ≡ (b || up_at links k)
up-still g k links true e up = let P : ℕ → Type 0 = λ i. up_at links i ≡ true in subst P (sym (same_number k g e)) up
up-still g k links false e up = refl

twice : (b x : Bool) → (b || (b || x)) ≡ (b || x)
twice true x = refl
twice false x = refl

pub agrees-opened : (g : ℕ) (d m : Desk) → Opened g d m → Agrees d → AgreesBy (events.Opened g) m
agrees-opened g d m o agrees = λ k lt.
    let N : List Peer → Type 0 = λ ps. k < length ps in
    up-opened g k d.links.items m.links.items (k == g) refl o.up o.others
    ∙ ap (λ (b : Bool). (k == g) || b) (agrees k (subst N o.peers lt) ∙ ap (λ (c : Core). is_open_at c.stations k) (sym o.core))

pub does-opened : (g : ℕ) (m n : Desk) (was is : ℕ → Option PeerHeld) → up_at m.links.items g ≡ true → Tells (events.Opened g) m n was is
    → Does (events.Opened g) m n was is
does-opened g m n was is up t =
    does-told (events.Opened g) m n was is (λ k p. refl) (λ k. up-still g k m.links.items (k == g) refl up) t

pub dialled-goes : (ps : List Peer) (start : Devices) (past : List Item) (g : ℕ) (was mid is : ℕ → Option PeerHeld) (d m n : Desk)
    → g < length d.peers → up_at d.links.items g ≡ false → Opened g d m → Makes dialled (was g) (mid g) → StaysBut g was mid
    → Does (events.Opened g) m n mid is → PeersStand ps start past none_left none_left was d
    → PeersStand ps start (Dialled g ∷ past) none_left none_left is n
dialled-goes ps start past g was mid is d m n known down o one others does st =
    goes-on ps start past (Dialled g) (events.Opened g) none_left none_left none_left none_left was mid is d m n refl st o.peers o.core
    (one-peer dialled was mid g one others) does
    (λ k. does.up k ∙ ap (λ (b : Bool). (k == g) || b) (up-opened g k d.links.items m.links.items (k == g) refl o.up o.others)
    ∙ twice (k == g) (up_at d.links.items k))
    (known-is ps d.peers g st.peers known, sym (st.up g) ∙ down)
    (streams-at g past (Dialled g ∷ past) none_left none_left none_left none_left d.links.items n.links.items
    (λ k other. record {
      heard_is = if-other k g [] (heard_of k past) other;
      told_is = if-other k g [] (told_of k past) other;
      left = refl;
      left_told = refl;
      link = λ there. does.links k there ∙ o.others k other;
    })
    (λ there. since-as Responses [] (responses_at n.links.items g) [] [] [] (if g == g then [] else heard_of g past)
    (ap responses_of (does.links g there) ∙ o.none.0) refl (if-same g [] (heard_of g past))
    (record { all = refl; waits = none_waits Responses }))
    (λ there. line-as [] (notices_at n.links.items g) [] [] [] (if g == g then [] else told_of g past)
    (ap notices_of (does.links g there) ∙ o.none.1) refl (if-same g [] (told_of g past)) (record { all = refl; waits = none_open }))
    st.streams)

-- ---- the dials of a turn

-- whether a session is open by what came
pub open-is : (ps : List Peer) (start : Devices) (past : List Item) (heard told : ℕ → List ℕ) (now : ℕ → Option PeerHeld) (d : Desk)
    (g : ℕ) (b : Bool)
    → PeersStand ps start past heard told now d → up_at d.links.items g ≡ b → is_open ps g past ≡ b
open-is ps start past heard told now d g b st up = sym (st.up g) ∙ up

pub dials-one : (ps : List Peer) (g n : ℕ) (past mid : List Item) → n ≡ suc g → AreDialled ps g past mid → is_open ps g mid ≡ false
    → AreDialled ps n past (Dialled g ∷ mid)
dials-one ps g n past mid next before down =
    let P : ℕ → Type 0 = λ k. AreDialled ps k past (Dialled g ∷ mid) in
    subst P (sym next) (mid, before, ap (λ (b : Bool). if b then mid else Dialled g ∷ mid) (sym down))

pub dials-none : (ps : List Peer) (g n : ℕ) (past mid : List Item) → n ≡ suc g → AreDialled ps g past mid → is_open ps g mid ≡ true
    → AreDialled ps n past mid
dials-none ps g n past mid next before up =
    let P : ℕ → Type 0 = λ k. AreDialled ps k past mid in
    subst P (sym next) (mid, before, ap (λ (b : Bool). if b then mid else Dialled g ∷ mid) (sym up))

-- ---- the reads of a turn

pub reads-both : (ps : List Peer) (g : ℕ) (past mid now : List Item) → is_open ps g past ≡ true → is_open ps g mid ≡ true
    → IsReadIf true (Heard g) (AreResponses g) past mid → IsReadIf true (Told g) (AreLines g) mid now → IsRead ps g past now
reads-both ps g past mid now up still heard told =
    let P : Bool → Type 0 = λ b. IsReadIf b (Heard g) (AreResponses g) past mid in
    let Q : Bool → Type 0 = λ b. IsReadIf b (Told g) (AreLines g) mid now in
    (mid, subst P (sym up) heard, subst Q (sym still) told)

-- the session was cut by what its control stream gave
pub reads-first : (ps : List Peer) (g : ℕ) (past mid : List Item) → is_open ps g past ≡ true → is_open ps g mid ≡ false
    → IsReadIf true (Heard g) (AreResponses g) past mid → IsRead ps g past mid
reads-first ps g past mid up over heard =
    let P : Bool → Type 0 = λ b. IsReadIf b (Heard g) (AreResponses g) past mid in
    let Q : Bool → Type 0 = λ b. IsReadIf b (Told g) (AreLines g) mid mid in
    (mid, subst P (sym up) heard, subst Q (sym over) refl)

pub reads-none : (ps : List Peer) (g : ℕ) (past : List Item) → is_open ps g past ≡ false → IsRead ps g past past
reads-none ps g past over =
    let P : Bool → Type 0 = λ b. IsReadIf b (Heard g) (AreResponses g) past past in
    let Q : Bool → Type 0 = λ b. IsReadIf b (Told g) (AreLines g) past past in
    (past, subst P (sym over) refl, subst Q (sym over) refl)

pub reads-on : (ps : List Peer) (g n : ℕ) (past mid now : List Item) → n ≡ suc g → AreRead ps g past mid → IsRead ps g mid now
    → AreRead ps n past now
reads-on ps g n past mid now next before one =
    let P : ℕ → Type 0 = λ k. AreRead ps k past now in
    subst P (sym next) (mid, before, one)

-- ---- what a call's result says, where it is handed on

pub on-ok-both : {T E P Q R : Type 0} (r : Result T E) → (P → Q → R) → OnOk r P → OnOk r Q → OnOk r R
on-ok-both (Ok x) f p q = f p q
on-ok-both (Err e) f p q = tt
