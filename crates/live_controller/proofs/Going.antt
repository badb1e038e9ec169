-- What comes from the peers goes on from what a controller's node stands at.
use Rattle.std.proofs.Common.{◌≡◌, ◌≢◌, ◌==◌, ◌<◌, ℕ, Bool, true, List, ◌∷◌, ◌++◌, length, Option, Some, None, refl, sym, ap, subst, ◌∙◌, eq-eqb, ne_eqb, if◌then◌else◌}
use Rattle.std.specs.Prelude.{slice_get}
use Rattle.ikeless_tree.specs.declared.command.Peer.{Peer}
use Rattle.rc_http.specs.declared.message.Kind.{Kind}
use Rattle.rc_http.specs.declared.message.Kind.TheVariants.{Response as Responses}
use Rattle.rc_http.specs.Looks.{Looks, Waits}
use Rattle.notice_lines.specs.Reading.{begins}
use Rattle.live_devices.specs.Dialers.{PeerHeld}
use Rattle.live_devices.specs.Reads.{Makes}
use Rattle.live_devices.proofs.Reading.{makes-as, makes-on}
use Rattle.ctl_core.specs.declared.acts.CtlEvent.{CtlEvent}
use Rattle.ctl_core.specs.Core.{Core, is_open_at}
use Rattle.ctl_core.specs.Step.{stepped}
use Rattle.live_controller.specs.declared.desk.Desk.{Desk}
use Rattle.live_controller.specs.declared.link.Link.{Link}
use Rattle.live_controller.specs.Links.{notices_at, notices_of, responses_at, responses_of, up_at, up_of}
use Rattle.live_controller.specs.Past.{Item, acts_by, core_by, core_of, event_at, event_of, heard_of, is_open, open_by, told_of}
use Rattle.live_controller.specs.Found.{Devices, IsFound, after_orders, called_at, hung_by, peer_of}
use Rattle.live_controller.specs.Doings.{Does}
use Rattle.live_controller.specs.Stands.{IsSince, IsSinceLine, PeersStand, StreamsStand}
use Rattle.live_controller.proofs.Keeping.{by_number}

-- ---- one thing more that came

held-on : (ps : List Peer) (past : List Item) (x : Item) (e : CtlEvent) (g : ℕ) (c : Core) (qs : List Peer) (a b d n : Option PeerHeld)
    → event_at ps past x ≡ Some e → c ≡ core_of ps past → qs ≡ ps → Makes (peer_of ps g past) a b → Makes (called_at g x) b d
    → Makes (λ p. after_orders qs g (stepped c e).acts (hung_by g (Some e) p)) d n → Makes (peer_of ps g (x ∷ past)) a n
held-on ps past x e g c qs a b d n at core same p q r =
    let K : Core = core_of ps past in
    let F : PeerHeld → Option CtlEvent → PeerHeld = λ w o. after_orders ps g (acts_by K o)
    (hung_by g o (called_at g x (peer_of ps g past w))) in
    let P : List Peer → Type 0 = λ z. Makes (λ w. after_orders z g (stepped K e).acts (hung_by g (Some e) w)) d n in
    let Q : Core → Type 0 = λ z. Makes (λ w. after_orders qs g (stepped z e).acts (hung_by g (Some e) w)) d n in
    makes-as (λ w. F w (Some e)) (λ w. F w (event_at ps past x)) a n (λ w. ap (F w) (sym at))
    (makes-on (λ w. called_at g x (peer_of ps g past w)) (λ w. after_orders ps g (stepped K e).acts (hung_by g (Some e) w)) a d n
    (makes-on (peer_of ps g past) (called_at g x) a b d p q) (subst P same (subst Q core r)))

held-still : (ps : List Peer) (past : List Item) (x : Item) (g : ℕ) (a b n : Option PeerHeld) → event_at ps past x ≡ None
    → Makes (peer_of ps g past) a b → Makes (called_at g x) b n → Makes (peer_of ps g (x ∷ past)) a n
held-still ps past x g a b n at p q =
    let F : PeerHeld → Option CtlEvent → PeerHeld =
    λ w o. after_orders ps g (acts_by (core_of ps past) o) (hung_by g o (called_at g x (peer_of ps g past w))) in
    makes-as (λ w. F w None) (λ w. F w (event_at ps past x)) a n (λ w. ap (F w) (sym at))
    (makes-on (peer_of ps g past) (called_at g x) a b n p q)

-- something happens by it
pub goes-on : (ps : List Peer) (start : Devices) (past : List Item) (x : Item) (e : CtlEvent) (heard told heard' told' : ℕ → List ℕ)
    (was mid is : ℕ → Option PeerHeld) (d m n : Desk) → event_of d.controller x ≡ Some e → PeersStand ps start past heard told was d
    → m.peers ≡ d.peers → m.controller ≡ d.controller → ((g : ℕ) → Makes (called_at g x) (was g) (mid g)) → Does e m n mid is
    → ((g : ℕ) → up_at n.links.items g ≡ open_by g (Some e) (up_at d.links.items g)) → IsFound ps start past x
    → StreamsStand (x ∷ past) heard' told' n.links.items → PeersStand ps start (x ∷ past) heard' told' is n
goes-on ps start past x e heard told heard' told' was mid is d m n ev st peers core called does up found streams =
    let at : event_at ps past x ≡ Some e = ap (λ (c : Core). event_of c x) (sym st.core) ∙ ev in
    let kept : m.controller ≡ core_of ps past = core ∙ st.core in
    record {
      peers = does.peers ∙ peers ∙ st.peers;
      core = does.core ∙ ap (λ (c : Core). (stepped c e).core) kept ∙ ap (core_by (core_of ps past)) (sym at);
      agrees = does.agrees;
      held = λ g. held-on ps past x e g m.controller m.peers (start.peers g) (was g) (mid g) (is g) at kept (peers ∙ st.peers) (st.held g)
          (called g)
          (does.orders g);
      up = λ g. up g ∙ ap (open_by g (Some e)) (st.up g) ∙ ap (λ (o : Option CtlEvent). open_by g o (is_open ps g past)) (sym at);
      calls = (found, st.calls);
      streams = streams;
    }

-- nothing happens by it
pub goes-still : (ps : List Peer) (start : Devices) (past : List Item) (x : Item) (heard told heard' told' : ℕ → List ℕ)
    (was is : ℕ → Option PeerHeld) (d : Desk) → event_of d.controller x ≡ None → PeersStand ps start past heard told was d
    → ((g : ℕ) → Makes (called_at g x) (was g) (is g)) → IsFound ps start past x → StreamsStand (x ∷ past) heard' told' d.links.items
    → PeersStand ps start (x ∷ past) heard' told' is d
goes-still ps start past x heard told heard' told' was is d ev st called found streams =
    let at : event_at ps past x ≡ None = ap (λ (c : Core). event_of c x) (sym st.core) ∙ ev in
    record {
      peers = st.peers;
      core = st.core ∙ ap (core_by (core_of ps past)) (sym at);
      agrees = st.agrees;
      held = λ g. held-still ps past x g (start.peers g) (was g) (is g) at (st.held g) (called g);
      up = λ g. st.up g ∙ ap (λ (o : Option CtlEvent). open_by g o (is_open ps g past)) (sym at);
      calls = (found, st.calls);
      streams = streams;
    }

-- readers were fed
pub goes-fed : (ps : List Peer) (start : Devices) (past : List Item) (heard told heard' told' : ℕ → List ℕ) (now : ℕ → Option PeerHeld)
    (d m : Desk)
    → PeersStand ps start past heard told now d → m.peers ≡ d.peers → m.controller ≡ d.controller
    → ((g : ℕ) → up_at m.links.items g ≡ up_at d.links.items g) → StreamsStand past heard' told' m.links.items
    → PeersStand ps start past heard' told' now m
goes-fed ps start past heard told heard' told' now d m st peers core up streams = record {
  peers = peers ∙ st.peers;
  core = core ∙ st.core;
  agrees = λ g lt.
      let P : List Peer → Type 0 = λ qs. g < length qs in
      up g ∙ st.agrees g (subst P peers lt) ∙ ap (λ (c : Core). is_open_at c.stations g) (sym core);
  held = st.held;
  up = λ g. up g ∙ st.up g;
  calls = st.calls;
  streams = streams;
}

-- ---- streams

pub if-same : {T : Type 0} (g : ℕ) (x y : T) → (if g == g then x else y) ≡ x
if-same g x y = ap (λ (b : Bool). if b then x else y) (eq-eqb g g refl)

pub if-other : {T : Type 0} (k g : ℕ) (x y : T) → k ≢ g → (if k == g then x else y) ≡ y
if-other k g x y other = ap (λ (b : Bool). if b then x else y) (ne_eqb k g other)

pub since-as : (kind : Kind) (s s' r r' o o' : List ℕ) → s' ≡ s → r' ≡ r → o' ≡ o → IsSince kind s r o → IsSince kind s' r' o'
since-as kind s s' r r' o o' es er eo p = record {
  all = ap (λ (z : List ℕ). z ++ r') es ∙ ap (λ (z : List ℕ). s ++ z) er ∙ p.all ∙ sym eo;
  waits = subst (λ (z : List ℕ). Looks kind z Waits) (sym es) p.waits;
}

pub line-as : (s s' r r' o o' : List ℕ) → s' ≡ s → r' ≡ r → o' ≡ o → IsSinceLine s r o → IsSinceLine s' r' o'
line-as s s' r r' o o' es er eo p = record {
  all = ap (λ (z : List ℕ). z ++ r') es ∙ ap (λ (z : List ℕ). s ++ z) er ∙ p.all ∙ sym eo;
  waits = ap begins es ∙ p.waits;
}

-- a peer's streams are as they were
pub record IsStill (k : ℕ) (past more : List Item) (heard heard' told told' : ℕ → List ℕ) (links links' : List Link) : Type 0 where
  pub heard_is : heard_of k more ≡ heard_of k past
  pub told_is : told_of k more ≡ told_of k past
  pub left : heard' k ≡ heard k
  pub left_told : told' k ≡ told k
  pub link : up_at links' k ≡ true → slice_get links' k ≡ slice_get links k

still-responses : (k : ℕ) (past more : List Item) (heard heard' told told' : ℕ → List ℕ) (links links' : List Link)
    → IsStill k past more heard heard' told told' links links' → StreamsStand past heard told links → up_at links' k ≡ true
    → IsSince Responses (responses_at links' k) (heard' k) (heard_of k more)
still-responses k past more heard heard' told told' links links' s st up =
    let at = s.link up in
    let was : up_at links k ≡ true = sym (ap up_of at) ∙ up in
    since-as Responses (responses_at links k) (responses_at links' k) (heard k) (heard' k) (heard_of k past) (heard_of k more)
    (ap responses_of at) s.left
    s.heard_is (st.responses k was)

still-lines : (k : ℕ) (past more : List Item) (heard heard' told told' : ℕ → List ℕ) (links links' : List Link)
    → IsStill k past more heard heard' told told' links links' → StreamsStand past heard told links → up_at links' k ≡ true
    → IsSinceLine (notices_at links' k) (told' k) (told_of k more)
still-lines k past more heard heard' told told' links links' s st up =
    let at = s.link up in
    let was : up_at links k ≡ true = sym (ap up_of at) ∙ up in
    line-as (notices_at links k) (notices_at links' k) (told k) (told' k) (told_of k past) (told_of k more) (ap notices_of at) s.left_told
    s.told_is (st.lines k was)

-- those of all peers are
pub streams-still : (past more : List Item) (heard heard' told told' : ℕ → List ℕ) (links links' : List Link)
    → ((k : ℕ) → IsStill k past more heard heard' told told' links links') → StreamsStand past heard told links
    → StreamsStand more heard' told' links'
streams-still past more heard heard' told told' links links' same st = record {
  responses = λ k up. still-responses k past more heard heard' told told' links links' (same k) st up;
  lines = λ k up. still-lines k past more heard heard' told told' links links' (same k) st up;
}

-- those of all peers but one are
pub streams-at : (g : ℕ) (past more : List Item) (heard heard' told told' : ℕ → List ℕ) (links links' : List Link)
    → ((k : ℕ) → k ≢ g → IsStill k past more heard heard' told told' links links')
    → (up_at links' g ≡ true → IsSince Responses (responses_at links' g) (heard' g) (heard_of g more))
    → (up_at links' g ≡ true → IsSinceLine (notices_at links' g) (told' g) (told_of g more))
    → StreamsStand past heard told links → StreamsStand more heard' told' links'
streams-at g past more heard heard' told told' links links' same responses lines st = record {
  responses = λ k. by_number (up_at links' k ≡ true → IsSince Responses (responses_at links' k) (heard' k) (heard_of k more)) k g
      (λ e. let P : ℕ → Type 0 = λ i. up_at links' i ≡ true → IsSince Responses (responses_at links' i) (heard' i) (heard_of i more) in
      subst P (sym e) responses)
      (λ other up. still-responses k past more heard heard' told told' links links' (same k other) st up);
  lines = λ k. by_number (up_at links' k ≡ true → IsSinceLine (notices_at links' k) (told' k) (told_of k more)) k g
      (λ e. let P : ℕ → Type 0 = λ i. up_at links' i ≡ true → IsSinceLine (notices_at links' i) (told' i) (told_of i more) in
      subst P (sym e) lines)
      (λ other up. still-lines k past more heard heard' told told' links links' (same k other) st up);
}
