-- What comes on a peer's notice stream.
use Rattle.std.proofs.Common.{◌≡◌, ◌==◌, ◌<◌, ℕ, ◌+◌, Bool, true, false, List, [], ◌∷◌, ◌++◌, length, take, drop, Option, Some, refl, sym, ap, subst, ◌∙◌, arith, append-nil, append_assoc, if◌then◌else◌}
use Rattle.std.proofs.lemmas.List.{drop_all}
use Rattle.ikeless_tree.specs.declared.command.Peer.{Peer}
use Rattle.ikeless_tree.specs.declared.order.Notice.{Notice}
use Rattle.notice_lines.specs.declared.fault.NoticeFault.{NoticeFault}
use Rattle.notice_lines.specs.Reading.{Ends, HasNotice, IsFault, Open, begins}
use Rattle.live_devices.specs.Dialers.{PeerHeld}
use Rattle.live_devices.specs.Reads.{Came, End, Makes, Piece, Waiting, came_of}
use Rattle.live_devices.proofs.Reading.{makes-same}
use Rattle.ctl_core.specs.declared.acts.CtlEvent.TheVariants as events
use Rattle.live_controller.specs.declared.desk.Desk.{Desk}
use Rattle.live_controller.specs.Links.{notices_at, responses_at, up_at}
use Rattle.live_controller.specs.Streams.{IsNoted}
use Rattle.live_controller.specs.Past.{Item, Line, NoLine, Told, heard_of, open_by, told_of}
use Rattle.live_controller.specs.Found.{Devices, called_at, peer_of}
use Rattle.live_controller.specs.Doings.{Does}
use Rattle.live_controller.specs.Stands.{AreLines, IsReadIf, IsSinceLine, PeersStand, StreamsStand, left_at, none_left}
use Rattle.live_controller.proofs.Feeding.{none_open}
use Rattle.live_controller.proofs.Going.{goes-fed, goes-on, goes-still, if-other, if-same, line-as, since-as, streams-at, streams-still}
use Rattle.live_controller.proofs.Hearing.{Fed, drop-since, fed-up, known-is, up-down}
use Rattle.rc_http.specs.declared.message.Kind.TheVariants.{Response as Responses}

-- ---- reads

pub told-waits : (ps : List Peer) (start : Devices) (past : List Item) (g : ℕ) (was is : ℕ → Option PeerHeld) (d : Desk)
    → g < length d.peers
    → up_at d.links.items g ≡ true → PeersStand ps start past none_left none_left was d
    → ((k : ℕ) → Makes (called_at k (Told g Waiting)) (was k) (is k)) → ((p : PeerHeld) → was g ≡ Some p → Waiting ≡ came_of p.notices)
    → PeersStand ps start (Told g Waiting ∷ past) none_left none_left is d
told-waits ps start past g was is d known up st called found =
    goes-still ps start past (Told g Waiting) none_left none_left none_left none_left was is d refl st called
    (known-is ps d.peers g st.peers known, sym (st.up g) ∙ up, λ p e. found (peer_of ps g past p) (st.held g p e))
    (streams-still past (Told g Waiting ∷ past) none_left none_left none_left none_left d.links.items d.links.items
    (λ k. record { heard_is = refl; told_is = refl; left = refl; left_told = refl; link = λ there. refl }) st.streams)

-- octets came
with-piece : (g : ℕ) (since waiting octets : List ℕ) → IsSinceLine since [] waiting
    → IsSinceLine since (left_at g octets g) (if g == g then waiting ++ octets else waiting)
with-piece g since waiting octets before =
    let all : since ++ octets ≡ waiting ++ octets = ap (λ (z : List ℕ). z ++ octets) (sym (append-nil since) ∙ before.all) in
    let joined : IsSinceLine since octets (waiting ++ octets) = record { all = all; waits = before.waits } in
    line-as since since octets (left_at g octets g) (waiting ++ octets) (if g == g then waiting ++ octets else waiting) refl
    (if-same g octets []) (if-same g (waiting ++ octets) waiting) joined

pub told-piece : (ps : List Peer) (start : Devices) (past : List Item) (g : ℕ) (octets : List ℕ) (was is : ℕ → Option PeerHeld) (d : Desk)
    → g < length d.peers → up_at d.links.items g ≡ true → PeersStand ps start past none_left none_left was d
    → ((k : ℕ) → Makes (called_at k (Told g (Piece octets))) (was k) (is k))
    → ((p : PeerHeld) → was g ≡ Some p → Piece octets ≡ came_of p.notices)
    → PeersStand ps start (Told g (Piece octets) ∷ past) none_left (left_at g octets) is d
told-piece ps start past g octets was is d known up st called found =
    goes-still ps start past (Told g (Piece octets)) none_left none_left none_left (left_at g octets) was is d refl st called
    (known-is ps d.peers g st.peers known, sym (st.up g) ∙ up, λ p e. found (peer_of ps g past p) (st.held g p e))
    (streams-at g past (Told g (Piece octets) ∷ past) none_left none_left none_left (left_at g octets) d.links.items d.links.items
    (λ k other. record {
      heard_is = refl;
      told_is = if-other k g (told_of k past ++ octets) (told_of k past) other;
      left = refl;
      left_told = if-other k g octets [] other;
      link = λ there. refl;
    }) (λ there. st.streams.responses g there)
    (λ there. with-piece g (notices_at d.links.items g) (told_of g past) octets (st.streams.lines g there))
    st.streams)

-- the stream has ended
pub told-end : (ps : List Peer) (start : Devices) (past : List Item) (g : ℕ) (was mid is : ℕ → Option PeerHeld) (d n : Desk)
    → g < length d.peers
    → up_at d.links.items g ≡ true → PeersStand ps start past none_left none_left was d
    → ((k : ℕ) → Makes (called_at k (Told g End)) (was k) (mid k)) → ((p : PeerHeld) → was g ≡ Some p → End ≡ came_of p.notices)
    → Does (events.Cut g) d n mid is → PeersStand ps start (Told g End ∷ past) none_left none_left is n
told-end ps start past g was mid is d n known up st called found does =
    goes-on ps start past (Told g End) (events.Cut g) none_left none_left none_left none_left was mid is d d n refl st refl refl called does
    does.up
    (known-is ps d.peers g st.peers known, sym (st.up g) ∙ up, λ p e. found (peer_of ps g past p) (st.held g p e))
    (streams-still past (Told g End ∷ past) none_left none_left none_left none_left d.links.items n.links.items
    (λ k. record { heard_is = refl; told_is = refl; left = refl; left_told = refl; link = does.links k }) st.streams)

-- ---- lines

waiting-is : (g : ℕ) (since rest waiting : List ℕ) → IsSinceLine since (left_at g rest g) waiting → since ++ rest ≡ waiting
waiting-is g since rest waiting before = ap (λ (z : List ℕ). since ++ z) (sym (if-same g rest [])) ∙ before.all

pub line-waits : (ps : List Peer) (start : Devices) (past : List Item) (g : ℕ) (rest : List ℕ) (now : ℕ → Option PeerHeld) (d m : Desk)
    → Fed g d m → responses_at m.links.items g ≡ responses_at d.links.items g → begins (notices_at d.links.items g ++ rest) ≡ Open
    → notices_at m.links.items g ≡ notices_at d.links.items g ++ rest → up_at d.links.items g ≡ true
    → PeersStand ps start past none_left (left_at g rest) now d
    → PeersStand ps start past none_left (left_at g (drop (length rest) rest)) now m
line-waits ps start past g rest now d m fed responses waits are up st =
    let since = notices_at d.links.items g in
    let nothing : drop (length rest) rest ≡ [] = drop_all (length rest) rest (omega arith) in
    let after : IsSinceLine (notices_at m.links.items g) (left_at g (drop (length rest) rest) g) (told_of g past) = record {
      all = ap (λ (z : List ℕ). notices_at m.links.items g ++ z) (if-same g (drop (length rest) rest) [] ∙ nothing)
          ∙ append-nil (notices_at m.links.items g) ∙ are ∙ waiting-is g since rest (told_of g past) (st.streams.lines g up);
      waits = ap begins are ∙ waits;
    } in
    goes-fed ps start past none_left (left_at g rest) none_left (left_at g (drop (length rest) rest)) now d m st fed.peers fed.core
    (fed-up g d m fed)
    (streams-at g past past none_left none_left (left_at g rest) (left_at g (drop (length rest) rest)) d.links.items m.links.items
    (λ k other. record {
      heard_is = refl;
      told_is = refl;
      left = refl;
      left_told = if-other k g (drop (length rest) rest) [] other ∙ sym (if-other k g rest [] other);
      link = λ there. fed.others k other;
    })
    (λ there. since-as Responses (responses_at d.links.items g) (responses_at m.links.items g) [] [] (heard_of g past) (heard_of g past)
    responses refl refl
    (st.streams.responses g up))
    (λ there. after) st.streams)

pub line-goes : (ps : List Peer) (start : Devices) (past : List Item) (g : ℕ) (rest : List ℕ) (notice : Notice) (taken : ℕ)
    (was is : ℕ → Option PeerHeld) (d m n : Desk) → g < length d.peers → Fed g d m
    → responses_at m.links.items g ≡ responses_at d.links.items g
    → (noted : IsNoted (notices_at d.links.items g) rest notice taken) → notices_at m.links.items g ≡ [] → up_at d.links.items g ≡ true
    → Does (events.Noticed g notice) m n was is → PeersStand ps start past none_left (left_at g rest) was d
    → PeersStand ps start (Line g notice noted.size ∷ past) none_left (left_at g (drop taken rest)) is n
line-goes ps start past g rest notice taken was is d m n known fed responses noted are up does st =
    let since = notices_at d.links.items g in
    let size = noted.size in
    let waiting : since ++ rest ≡ told_of g past = waiting-is g since rest (told_of g past) (st.streams.lines g up) in
    let gone : drop taken rest ≡ drop (size + 1) (told_of g past) =
    sym (drop-since since taken rest) ∙ ap (λ (k : ℕ). drop k (since ++ rest)) noted.count
    ∙ ap (λ (z : List ℕ). drop (size + 1) z) waiting in
    let after : IsSinceLine (notices_at m.links.items g) (left_at g (drop taken rest) g)
    (if g == g then drop (size + 1) (told_of g past) else told_of g past) = record {
      all = ap (λ (z : List ℕ). z ++ left_at g (drop taken rest) g) are ∙ if-same g (drop taken rest) [] ∙ gone
          ∙ sym (if-same g (drop (size + 1) (told_of g past)) (told_of g past));
      waits = ap begins are ∙ none_open;
    } in
    let mid : StreamsStand (Line g notice size ∷ past) none_left (left_at g (drop taken rest)) m.links.items =
    streams-at g past (Line g notice size ∷ past) none_left none_left (left_at g rest) (left_at g (drop taken rest)) d.links.items
    m.links.items
    (λ k other. record {
      heard_is = refl;
      told_is = if-other k g (drop (size + 1) (told_of k past)) (told_of k past) other;
      left = refl;
      left_told = if-other k g (drop taken rest) [] other ∙ sym (if-other k g rest [] other);
      link = λ there. fed.others k other;
    })
    (λ there. since-as Responses (responses_at d.links.items g) (responses_at m.links.items g) [] [] (heard_of g past) (heard_of g past)
    responses refl refl
    (st.streams.responses g up))
    (λ there. after) st.streams in
    let begun : begins (told_of g past) ≡ Ends size = ap begins (sym waiting) ∙ noted.ends in
    let has : HasNotice (take size (told_of g past)) notice = subst (λ (z : List ℕ). HasNotice (take size z) notice) waiting noted.has in
    goes-on ps start past (Line g notice size) (events.Noticed g notice) none_left (left_at g rest) none_left (left_at g (drop taken rest))
    was was is d m n
    refl st fed.peers fed.core (λ k. makes-same (was k)) does
    (λ k. does.up k ∙ ap (open_by k (Some (events.Noticed g notice))) (fed-up g d m fed k))
    (known-is ps d.peers g st.peers known, sym (st.up g) ∙ up, begun, has)
    (streams-still (Line g notice size ∷ past) (Line g notice size ∷ past) none_left none_left (left_at g (drop taken rest))
    (left_at g (drop taken rest))
    m.links.items n.links.items
    (λ k. record { heard_is = refl; told_is = refl; left = refl; left_told = refl; link = does.links k }) mid)

pub line-breaks : (ps : List Peer) (start : Devices) (past : List Item) (g : ℕ) (rest left : List ℕ) (fault : NoticeFault)
    (was is : ℕ → Option PeerHeld) (d m n : Desk) → g < length d.peers → Fed g d m → IsFault fault (notices_at d.links.items g ++ rest)
    → up_at d.links.items g ≡ true → up_at n.links.items g ≡ false → Does (events.Cut g) m n was is
    → PeersStand ps start past none_left (left_at g rest) was d
    → PeersStand ps start (NoLine g fault ∷ past) none_left (left_at g left) is n
line-breaks ps start past g rest left fault was is d m n known fed fails up down does st =
    let since = notices_at d.links.items g in
    let waiting : since ++ rest ≡ told_of g past = waiting-is g since rest (told_of g past) (st.streams.lines g up) in
    goes-on ps start past (NoLine g fault) (events.Cut g) none_left (left_at g rest) none_left (left_at g left) was was is d m n refl st
    fed.peers
    fed.core (λ k. makes-same (was k)) does (λ k. does.up k ∙ ap (open_by k (Some (events.Cut g))) (fed-up g d m fed k))
    (known-is ps d.peers g st.peers known, sym (st.up g) ∙ up, subst (λ (z : List ℕ). IsFault fault z) waiting fails)
    (streams-at g past (NoLine g fault ∷ past) none_left none_left (left_at g rest) (left_at g left) d.links.items n.links.items
    (λ k other. record {
      heard_is = refl;
      told_is = refl;
      left = refl;
      left_told = if-other k g left [] other ∙ sym (if-other k g rest [] other);
      link = λ there. does.links k there ∙ fed.others k other;
    }) (λ there. absurd (up-down n.links.items g down there)) (λ there. absurd (up-down n.links.items g down there)) st.streams)

-- ---- all of a piece is taken

pub lines-gone : (ps : List Peer) (start : Devices) (past : List Item) (g : ℕ) (rest : List ℕ) (now : ℕ → Option PeerHeld) (d : Desk)
    → rest ≡ [] → PeersStand ps start past none_left (left_at g rest) now d → PeersStand ps start past none_left none_left now d
lines-gone ps start past g rest now d nothing st =
    goes-fed ps start past none_left (left_at g rest) none_left none_left now d d st refl refl (λ k. refl)
    (streams-still past past none_left none_left (left_at g rest) none_left d.links.items d.links.items
    (λ k. record { heard_is = refl; told_is = refl; left = refl; left_told = gone k; link = λ there. refl }) st.streams)
  where
    either : (b : Bool) → [] ≡ (if b then rest else [])
    either true = sym nothing
    either false = refl

    gone : (k : ℕ) → [] ≡ left_at g rest k
    gone k = either (k == g)

-- or the session is over
pub lines-over : (ps : List Peer) (start : Devices) (past : List Item) (g : ℕ) (rest : List ℕ) (now : ℕ → Option PeerHeld) (d : Desk)
    → up_at d.links.items g ≡ false → PeersStand ps start past none_left (left_at g rest) now d
    → PeersStand ps start past none_left none_left now d
lines-over ps start past g rest now d down st =
    goes-fed ps start past none_left (left_at g rest) none_left none_left now d d st refl refl (λ k. refl)
    (streams-at g past past none_left none_left (left_at g rest) none_left d.links.items d.links.items
    (λ k other. record { heard_is = refl; told_is = refl; left = refl; left_told = sym (if-other k g rest [] other); link = λ there. refl })
    (λ there. absurd (up-down d.links.items g down there)) (λ there. absurd (up-down d.links.items g down there)) st.streams)

pub lines-more : (g : ℕ) (xs ys : List Item) → AreLines g xs → AreLines g ys → AreLines g (xs ++ ys)
lines-more g [] ys p q = q
lines-more g (Line k m n ∷ xs) ys p q = (p.0, lines-more g xs ys p.1 q)
lines-more g (NoLine k f ∷ xs) ys p q = (p.0, lines-more g xs ys p.1 q)
lines-more g (_ ∷ xs) ys p q = absurd p

-- one line more of a piece is taken
pub lines-on : (ps : List Peer) (start : Devices) (past first next : List Item) (g n : ℕ) (rest left : List ℕ) (now : ℕ → Option PeerHeld)
    (d : Desk)
    → left ≡ drop n rest → AreLines g first → AreLines g next
    → PeersStand ps start (next ++ (first ++ past)) none_left (left_at g (drop n rest)) now d
    → (more : List Item) × AreLines g more × PeersStand ps start (more ++ past) none_left (left_at g left) now d
lines-on ps start past first next g n rest left now d is p q st =
    let L : List ℕ → Type 0 = λ z. PeersStand ps start (next ++ (first ++ past)) none_left (left_at g z) now d in
    let X : List Item → Type 0 = λ z. PeersStand ps start z none_left (left_at g left) now d in
    (next ++ first, lines-more g next first q p, subst X (sym (append_assoc next first past)) (subst L (sym is) st))

-- a read and what was taken of it
pub told-goes : (ps : List Peer) (start : Devices) (past : List Item) (g : ℕ) (came : Came) (more : List Item) (now : ℕ → Option PeerHeld)
    (d : Desk)
    → AreLines g more → PeersStand ps start (more ++ Told g came ∷ past) none_left none_left now d
    → (all : List Item) × IsReadIf true (Told g) (AreLines g) past all × PeersStand ps start all none_left none_left now d
told-goes ps start past g came more now d taken st = (more ++ Told g came ∷ past, (came, more, taken, refl), st)
