-- What comes on a peer's control stream.
use Rattle.std.proofs.Common.{◌≡◌, ◌==◌, ◌<◌, ℕ, suc, ◌+◌, Bool, true, false, List, [], ◌∷◌, ◌++◌, length, drop, Option, Some, refl, sym, ap, subst, ◌∙◌, arith, append-nil, append_assoc, if◌then◌else◌}
use Rattle.std.proofs.lemmas.List.{drop_all}
use Rattle.ikeless_tree.specs.declared.command.Peer.{Peer}
use Rattle.rc_http.specs.declared.message.HttpFault.{HttpFault}
use Rattle.rc_http.specs.declared.message.HttpMessage.{HttpMessage}
use Rattle.rc_http.specs.declared.message.Kind.TheVariants.{Response as Responses}
use Rattle.rc_http.specs.Looks.{Fails, Gives, Looks, Waits}
use Rattle.live_devices.specs.Dialers.{PeerHeld}
use Rattle.live_devices.specs.Reads.{Came, End, Makes, Piece, Waiting, came_of}
use Rattle.live_devices.proofs.Reading.{makes-same}
use Rattle.ctl_core.specs.declared.acts.CtlEvent.TheVariants as events
use Rattle.ctl_core.specs.Core.{Core, expected, is_open_at}
use Rattle.live_controller.specs.declared.desk.Desk.{Desk}
use Rattle.live_controller.specs.declared.link.Link.{Link}
use Rattle.live_controller.specs.Links.{OthersStay, notices_at, responses_at, up_at}
use Rattle.live_controller.specs.Standing.{answer_to}
use Rattle.live_controller.specs.Streams.{IsWhole}
use Rattle.live_controller.specs.Past.{Heard, Item, NoResponse, Response, answer_in, heard_of, open_by}
use Rattle.live_controller.specs.Found.{Devices, called_at, peer_of}
use Rattle.live_controller.specs.Doings.{Agrees, Does}
use Rattle.live_controller.specs.Stands.{AreResponses, IsReadIf, IsSince, PeersStand, StreamsStand, left_at, none_left}
use Rattle.live_controller.proofs.Feeding.{none_waits}
use Rattle.live_controller.proofs.Keeping.{by_number, up_other}
use Rattle.notice_lines.specs.Reading.{begins}
use Rattle.live_controller.proofs.Going.{goes-fed, goes-on, goes-still, if-other, if-same, since-as, streams-at, streams-still}

-- ---- the peer that is read

pub known-is : (ps qs : List Peer) (g : ℕ) → qs ≡ ps → g < length qs → g < length ps
known-is ps qs g same lt = subst (λ (xs : List Peer). g < length xs) same lt

-- ---- reads

pub heard-waits : (ps : List Peer) (start : Devices) (past : List Item) (g : ℕ) (was is : ℕ → Option PeerHeld) (d : Desk)
    → g < length d.peers
    → up_at d.links.items g ≡ true → PeersStand ps start past none_left none_left was d
    → ((k : ℕ) → Makes (called_at k (Heard g Waiting)) (was k) (is k)) → ((p : PeerHeld) → was g ≡ Some p → Waiting ≡ came_of p.control)
    → PeersStand ps start (Heard g Waiting ∷ past) none_left none_left is d
heard-waits ps start past g was is d known up st called found =
    goes-still ps start past (Heard g Waiting) none_left none_left none_left none_left was is d refl st called
    (known-is ps d.peers g st.peers known, sym (st.up g) ∙ up, λ p e. found (peer_of ps g past p) (st.held g p e))
    (streams-still past (Heard g Waiting ∷ past) none_left none_left none_left none_left d.links.items d.links.items
    (λ k. record { heard_is = refl; told_is = refl; left = refl; left_told = refl; link = λ there. refl }) st.streams)

-- octets came
with-piece : (g : ℕ) (since waiting octets : List ℕ) → IsSince Responses since [] waiting
    → IsSince Responses since (left_at g octets g) (if g == g then waiting ++ octets else waiting)
with-piece g since waiting octets before =
    let all : since ++ octets ≡ waiting ++ octets = ap (λ (z : List ℕ). z ++ octets) (sym (append-nil since) ∙ before.all) in
    let joined : IsSince Responses since octets (waiting ++ octets) = record { all = all; waits = before.waits } in
    since-as Responses since since octets (left_at g octets g) (waiting ++ octets) (if g == g then waiting ++ octets else waiting) refl
    (if-same g octets []) (if-same g (waiting ++ octets) waiting) joined

pub heard-piece : (ps : List Peer) (start : Devices) (past : List Item) (g : ℕ) (octets : List ℕ) (was is : ℕ → Option PeerHeld) (d : Desk)
    → g < length d.peers → up_at d.links.items g ≡ true → PeersStand ps start past none_left none_left was d
    → ((k : ℕ) → Makes (called_at k (Heard g (Piece octets))) (was k) (is k))
    → ((p : PeerHeld) → was g ≡ Some p → Piece octets ≡ came_of p.control)
    → PeersStand ps start (Heard g (Piece octets) ∷ past) (left_at g octets) none_left is d
heard-piece ps start past g octets was is d known up st called found =
    goes-still ps start past (Heard g (Piece octets)) none_left none_left (left_at g octets) none_left was is d refl st called
    (known-is ps d.peers g st.peers known, sym (st.up g) ∙ up, λ p e. found (peer_of ps g past p) (st.held g p e))
    (streams-at g past (Heard g (Piece octets) ∷ past) none_left (left_at g octets) none_left none_left d.links.items d.links.items
    (λ k other. record {
      heard_is = if-other k g (heard_of k past ++ octets) (heard_of k past) other;
      told_is = refl;
      left = if-other k g octets [] other;
      left_told = refl;
      link = λ there. refl;
    }) (λ there. with-piece g (responses_at d.links.items g) (heard_of g past) octets (st.streams.responses g there))
    (λ there. st.streams.lines g there)
    st.streams)

-- the stream has ended
pub heard-end : (ps : List Peer) (start : Devices) (past : List Item) (g : ℕ) (was mid is : ℕ → Option PeerHeld) (d n : Desk)
    → g < length d.peers
    → up_at d.links.items g ≡ true → PeersStand ps start past none_left none_left was d
    → ((k : ℕ) → Makes (called_at k (Heard g End)) (was k) (mid k)) → ((p : PeerHeld) → was g ≡ Some p → End ≡ came_of p.control)
    → Does (events.Cut g) d n mid is → PeersStand ps start (Heard g End ∷ past) none_left none_left is n
heard-end ps start past g was mid is d n known up st called found does =
    goes-on ps start past (Heard g End) (events.Cut g) none_left none_left none_left none_left was mid is d d n refl st refl refl called
    does does.up
    (known-is ps d.peers g st.peers known, sym (st.up g) ∙ up, λ p e. found (peer_of ps g past p) (st.held g p e))
    (streams-still past (Heard g End ∷ past) none_left none_left none_left none_left d.links.items n.links.items
    (λ k. record { heard_is = refl; told_is = refl; left = refl; left_told = refl; link = does.links k }) st.streams)

-- ---- responses

pub drop-since : (s : List ℕ) (n : ℕ) (r : List ℕ) → drop (length s + n) (s ++ r) ≡ drop n r
drop-since [] n r = let e : 0 + n ≡ n = omega arith in ap (λ k. drop k r) e
drop-since (x ∷ s) n r =
    let e : length (x ∷ s) + n ≡ suc (length s + n) = omega arith in ap (λ k. drop k (x ∷ s ++ r)) e ∙ drop-since s n r

-- what waits at the peer that is read
waiting-is : (g : ℕ) (since rest waiting : List ℕ) → IsSince Responses since (left_at g rest g) waiting → since ++ rest ≡ waiting
waiting-is g since rest waiting before = ap (λ (z : List ℕ). since ++ z) (sym (if-same g rest [])) ∙ before.all

-- the readers of a peer were fed, and nothing else changed
pub record Fed (g : ℕ) (d m : Desk) : Type 0 where
  pub peers : m.peers ≡ d.peers
  pub core : m.controller ≡ d.controller
  pub up : up_at m.links.items g ≡ up_at d.links.items g
  pub others : OthersStay g d.links.items m.links.items

pub fed-up : (g : ℕ) (d m : Desk) → Fed g d m → (k : ℕ) → up_at m.links.items k ≡ up_at d.links.items k
fed-up g d m f k = by_number (up_at m.links.items k ≡ up_at d.links.items k) k g
    (λ e. let P : ℕ → Type 0 = λ i. up_at m.links.items i ≡ up_at d.links.items i in subst P (sym e) f.up)
    (λ other. up_other g d.links.items m.links.items f.others k other)

pub agrees-fed : (g : ℕ) (d m : Desk) → Fed g d m → Agrees d → Agrees m
agrees-fed g d m f agrees = λ k lt.
    let P : List Peer → Type 0 = λ qs. k < length qs in
    fed-up g d m f k ∙ agrees k (subst P f.peers lt) ∙ ap (λ (c : Core). is_open_at c.stations k) (sym f.core)

pub response-waits : (ps : List Peer) (start : Devices) (past : List Item) (g : ℕ) (rest : List ℕ) (now : ℕ → Option PeerHeld) (d m : Desk)
    → Fed g d m → notices_at m.links.items g ≡ notices_at d.links.items g → Looks Responses (responses_at d.links.items g ++ rest) Waits
    → responses_at m.links.items g ≡ responses_at d.links.items g ++ rest → up_at d.links.items g ≡ true
    → PeersStand ps start past (left_at g rest) none_left now d
    → PeersStand ps start past (left_at g (drop (length rest) rest)) none_left now m
response-waits ps start past g rest now d m fed notices waits are up st =
    let since = responses_at d.links.items g in
    let nothing : drop (length rest) rest ≡ [] = drop_all (length rest) rest (omega arith) in
    let after : IsSince Responses (responses_at m.links.items g) (left_at g (drop (length rest) rest) g) (heard_of g past) = record {
      all = ap (λ (z : List ℕ). responses_at m.links.items g ++ z) (if-same g (drop (length rest) rest) [] ∙ nothing)
          ∙ append-nil (responses_at m.links.items g) ∙ are ∙ waiting-is g since rest (heard_of g past) (st.streams.responses g up);
      waits = subst (λ (z : List ℕ). Looks Responses z Waits) (sym are) waits;
    } in
    goes-fed ps start past (left_at g rest) none_left (left_at g (drop (length rest) rest)) none_left now d m st fed.peers fed.core
    (fed-up g d m fed)
    (streams-at g past past (left_at g rest) (left_at g (drop (length rest) rest)) none_left none_left d.links.items m.links.items
    (λ k other. record {
      heard_is = refl;
      told_is = refl;
      left = if-other k g (drop (length rest) rest) [] other ∙ sym (if-other k g rest [] other);
      left_told = refl;
      link = λ there. fed.others k other;
    }) (λ there. after)
    (λ there. let before = st.streams.lines g up in
    record {
      all = ap (λ (z : List ℕ). z ++ []) notices ∙ before.all;
      waits = ap begins notices ∙ before.waits;
    }) st.streams)

pub response-goes : (ps : List Peer) (start : Devices) (past : List Item) (g : ℕ) (rest : List ℕ) (message : HttpMessage) (taken : ℕ)
    (was is : ℕ → Option PeerHeld) (d m n : Desk) → g < length d.peers → Fed g d m → notices_at m.links.items g ≡ notices_at d.links.items g
    → IsWhole Responses (responses_at d.links.items g) rest message taken → responses_at m.links.items g ≡ [] → up_at d.links.items g ≡ true
    → Does (answer_in g (answer_to (expected m.controller g) message)) m n was is
    → PeersStand ps start past (left_at g rest) none_left was d
    → PeersStand ps start (Response g message (length (responses_at d.links.items g) + taken) ∷ past)
    (left_at g (drop taken rest)) none_left is n
response-goes ps start past g rest message taken was is d m n known fed notices whole are up does st =
    let since = responses_at d.links.items g in
    let size = length since + taken in
    let e = answer_in g (answer_to (expected m.controller g) message) in
    let waiting : since ++ rest ≡ heard_of g past = waiting-is g since rest (heard_of g past) (st.streams.responses g up) in
    let gone : drop taken rest ≡ drop size (heard_of g past) =
    sym (drop-since since taken rest) ∙ ap (λ (z : List ℕ). drop size z) waiting in
    let after : IsSince Responses (responses_at m.links.items g) (left_at g (drop taken rest) g)
    (if g == g then drop size (heard_of g past) else heard_of g past) = record {
      all = ap (λ (z : List ℕ). z ++ left_at g (drop taken rest) g) are ∙ if-same g (drop taken rest) [] ∙ gone
          ∙ sym (if-same g (drop size (heard_of g past)) (heard_of g past));
      waits = subst (λ (z : List ℕ). Looks Responses z Waits) (sym are) (none_waits Responses);
    } in
    let mid : StreamsStand (Response g message size ∷ past) (left_at g (drop taken rest)) none_left m.links.items =
    streams-at g past (Response g message size ∷ past) (left_at g rest) (left_at g (drop taken rest)) none_left none_left d.links.items
    m.links.items
    (λ k other. record {
      heard_is = if-other k g (drop size (heard_of k past)) (heard_of k past) other;
      told_is = refl;
      left = if-other k g (drop taken rest) [] other ∙ sym (if-other k g rest [] other);
      left_told = refl;
      link = λ there. fed.others k other;
    }) (λ there. after)
    (λ there. let before = st.streams.lines g up in
    record {
      all = ap (λ (z : List ℕ). z ++ []) notices ∙ before.all;
      waits = ap begins notices ∙ before.waits;
    }) st.streams in
    goes-on ps start past (Response g message size) e (left_at g rest) none_left (left_at g (drop taken rest)) none_left was was is d m n
    (ap (λ (c : Core). Some (answer_in g (answer_to (expected c g) message))) (sym fed.core)) st fed.peers fed.core
    (λ k. makes-same (was k)) does
    (λ k. does.up k ∙ ap (open_by k (Some e)) (fed-up g d m fed k)) (
      known-is ps d.peers g st.peers known,
      sym (st.up g) ∙ up,
      subst (λ (z : List ℕ). Looks Responses z (Gives message size)) waiting
          whole.whole,
    )
    (streams-still (Response g message size ∷ past) (Response g message size ∷ past) (left_at g (drop taken rest))
    (left_at g (drop taken rest)) none_left
    none_left m.links.items n.links.items
    (λ k. record { heard_is = refl; told_is = refl; left = refl; left_told = refl; link = does.links k }) mid)

pub up-down : (links : List Link) (k : ℕ) → up_at links k ≡ false → up_at links k ≡ true → ⊥
up-down links k f t = let no : ⊥ = cc in no

pub response-breaks : (ps : List Peer) (start : Devices) (past : List Item) (g : ℕ) (rest left : List ℕ) (fault : HttpFault)
    (was is : ℕ → Option PeerHeld) (d m n : Desk) → g < length d.peers → Fed g d m
    → Looks Responses (responses_at d.links.items g ++ rest) (Fails fault) → up_at d.links.items g ≡ true → up_at n.links.items g ≡ false
    → Does (events.Cut g) m n was is → PeersStand ps start past (left_at g rest) none_left was d
    → PeersStand ps start (NoResponse g fault ∷ past) (left_at g left) none_left is n
response-breaks ps start past g rest left fault was is d m n known fed fails up down does st =
    let since = responses_at d.links.items g in
    let waiting : since ++ rest ≡ heard_of g past = waiting-is g since rest (heard_of g past) (st.streams.responses g up) in
    goes-on ps start past (NoResponse g fault) (events.Cut g) (left_at g rest) none_left (left_at g left) none_left was was is d m n refl st
    fed.peers
    fed.core (λ k. makes-same (was k)) does (λ k. does.up k ∙ ap (open_by k (Some (events.Cut g))) (fed-up g d m fed k))
    (known-is ps d.peers g st.peers known, sym (st.up g) ∙ up, subst (λ (z : List ℕ). Looks Responses z (Fails fault)) waiting fails)
    (streams-at g past (NoResponse g fault ∷ past) (left_at g rest) (left_at g left) none_left none_left d.links.items n.links.items
    (λ k other. record {
      heard_is = refl;
      told_is = refl;
      left = if-other k g left [] other ∙ sym (if-other k g rest [] other);
      left_told = refl;
      link = λ there. does.links k there ∙ fed.others k other;
    }) (λ there. absurd (up-down n.links.items g down there)) (λ there. absurd (up-down n.links.items g down there)) st.streams)

-- ---- all of a piece is taken

pub responses-gone : (ps : List Peer) (start : Devices) (past : List Item) (g : ℕ) (rest : List ℕ) (now : ℕ → Option PeerHeld) (d : Desk)
    → rest ≡ [] → PeersStand ps start past (left_at g rest) none_left now d → PeersStand ps start past none_left none_left now d
responses-gone ps start past g rest now d nothing st =
    goes-fed ps start past (left_at g rest) none_left none_left none_left now d d st refl refl (λ k. refl)
    (streams-still past past (left_at g rest) none_left none_left none_left d.links.items d.links.items
    (λ k. record { heard_is = refl; told_is = refl; left = gone k; left_told = refl; link = λ there. refl }) st.streams)
  where
    either : (b : Bool) → [] ≡ (if b then rest else [])
    either true = sym nothing
    either false = refl

    gone : (k : ℕ) → [] ≡ left_at g rest k
    gone k = either (k == g)

-- or the session is over
pub responses-over : (ps : List Peer) (start : Devices) (past : List Item) (g : ℕ) (rest : List ℕ) (now : ℕ → Option PeerHeld) (d : Desk)
    → up_at d.links.items g ≡ false → PeersStand ps start past (left_at g rest) none_left now d
    → PeersStand ps start past none_left none_left now d
responses-over ps start past g rest now d down st =
    goes-fed ps start past (left_at g rest) none_left none_left none_left now d d st refl refl (λ k. refl)
    (streams-at g past past (left_at g rest) none_left none_left none_left d.links.items d.links.items
    (λ k other. record { heard_is = refl; told_is = refl; left = sym (if-other k g rest [] other); left_told = refl; link = λ there. refl })
    (λ there. absurd (up-down d.links.items g down there)) (λ there. absurd (up-down d.links.items g down there)) st.streams)

pub responses-more : (g : ℕ) (xs ys : List Item) → AreResponses g xs → AreResponses g ys → AreResponses g (xs ++ ys)
responses-more g [] ys p q = q
responses-more g (Response k m n ∷ xs) ys p q = (p.0, responses-more g xs ys p.1 q)
responses-more g (NoResponse k f ∷ xs) ys p q = (p.0, responses-more g xs ys p.1 q)
responses-more g (_ ∷ xs) ys p q = absurd p

-- one response more of a piece is taken
pub responses-on : (ps : List Peer) (start : Devices) (past first next : List Item) (g n : ℕ) (rest left : List ℕ)
    (now : ℕ → Option PeerHeld) (d : Desk)
    → left ≡ drop n rest → AreResponses g first → AreResponses g next
    → PeersStand ps start (next ++ (first ++ past)) (left_at g (drop n rest)) none_left now d
    → (more : List Item) × AreResponses g more × PeersStand ps start (more ++ past) (left_at g left) none_left now d
responses-on ps start past first next g n rest left now d is p q st =
    let L : List ℕ → Type 0 = λ z. PeersStand ps start (next ++ (first ++ past)) (left_at g z) none_left now d in
    let X : List Item → Type 0 = λ z. PeersStand ps start z (left_at g left) none_left now d in
    (next ++ first, responses-more g next first q p, subst X (sym (append_assoc next first past)) (subst L (sym is) st))

-- a read and what was taken of it
pub heard-goes : (ps : List Peer) (start : Devices) (past : List Item) (g : ℕ) (came : Came) (more : List Item) (now : ℕ → Option PeerHeld)
    (d : Desk)
    → AreResponses g more → PeersStand ps start (more ++ Heard g came ∷ past) none_left none_left now d
    → (all : List Item) × IsReadIf true (Heard g) (AreResponses g) past all × PeersStand ps start all none_left none_left now d
heard-goes ps start past g came more now d taken st = (more ++ Heard g came ∷ past, (came, more, taken, refl), st)
