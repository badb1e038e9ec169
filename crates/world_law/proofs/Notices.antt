-- The notice that the controller hears next has its line under way, with the clock as it was where it was given.
use Rattle.std.proofs.Common.{◌≡◌, ℕ, ◌+◌, ◌^◌, ◌<◌, ◌||◌, nat_lt, Bool, true, false, List, [], ◌∷◌, ◌++◌, drop, length, Option, Some, None, slice_get, ◌⊎◌, inl, inr, refl, sym, ◌∙◌, ap, subst, arith, if◌then◌else◌, length-append}
use Rattle.std.specs.Option.{MatchOption}
use Rattle.std.specs.List.{list_any}
use Rattle.ikeless_tree.specs.Check.{is_empty_range}
use Rattle.ikeless_tree.specs.Typed.{IsTypedNotice}
use Rattle.ikeless_tree.specs.declared.command.Peer.{Peer}
use Rattle.ikeless_tree.specs.declared.entry.Range.{Range}
use Rattle.ikeless_tree.specs.declared.entry.Selector.{Selector}
use Rattle.ikeless_tree.specs.declared.order.Lane.TheVariants as lanes
use Rattle.ikeless_tree.specs.declared.order.Notice.{Notice}
use Rattle.ikeless_tree.specs.declared.order.Notice.TheVariants as notices
use Rattle.notice_lines.specs.Envelope.{IsNotice, IsWhole}
use Rattle.script_lines.specs.Session.{is_one_port, is_packet}
use Rattle.script_lines.specs.Spelling.{IsNoticeSpelled}
use Rattle.hist_acts.specs.declared.act.Act.{Act}
use Rattle.hist_acts.specs.declared.act.Act.TheVariants as acts
use Rattle.hist_acts.specs.Past.{clock}
use Rattle.hist_acts.specs.Sessions as sessions
use Rattle.hist_acts.specs.Sessions.{is_open, is_session, next_notice, notices_heard, openings}
use Rattle.hist_safety.proofs.Basics.{no}
use Rattle.session_pipe.specs.Sessions.{KeepsSessions}
use Rattle.session_pipe.specs.Past.{lines}
use Rattle.session_pipe.specs.UnderWay.{next_message}
use Rattle.session_pipe.proofs.Counts.{else_none}
use Rattle.session_pipe.proofs.Moves.{notice_next}
use Rattle.hist_wire.specs.Dates.{line_text}
use Rattle.hist_wire.specs.Wire.{line_at, pipe_at, request_at, response_at}
use Rattle.world_law.proofs.Replies.{at-end, last-or, next-drop, pushed}
use Rattle.world_law.proofs.Typed.{AreSpelled, spelled-head, spelled-tail}

-- ---- the clock

pub clock-low : (gs : List Peer) (h : List Act) → AreSpelled gs h → clock h < 2 ^ 32
clock-low gs [] s = omega arith
clock-low gs (acts.Now t ∷ h) s =
    let now : t < 2 ^ 32 = (spelled-head gs (acts.Now t) h s).1 in
    let old = clock-low gs h (spelled-tail gs (acts.Now t) h s) in
    omega (arith, now, old)
clock-low gs (a ∷ h) s = clock-low gs h (spelled-tail gs a h s)

-- ---- a notice that a line can spell can be written

one-empty : (rs : List Range) → is_one_port rs ≡ true → list_any is_empty_range rs ≡ false
one-empty [] e = refl
one-empty (r ∷ []) e = grind (arith, e)
one-empty (r ∷ q ∷ rs) e = absurd (no e)

one-many : (rs : List Range) → is_one_port rs ≡ true → nat_lt 8 (length rs) ≡ false
one-many [] e = refl
one-many (r ∷ []) e = refl
one-many (r ∷ q ∷ rs) e = absurd (no e)

neither : (a b : Bool) → a ≡ false → b ≡ false → (a || b) ≡ false
neither a b e f = grind (arith, e, f)

ports-of : (s : Selector) → is_packet s ≡ true → (is_one_port s.local_ports ≡ true) × (is_one_port s.remote_ports ≡ true)
unfolding is_packet
ports-of s e = grind (arith, e)

packet-whole : (s : Selector) → is_packet s ≡ true → IsWhole s
packet-whole s e =
    let p = ports-of s e in (
      neither (list_any is_empty_range s.local_ports) (list_any is_empty_range s.remote_ports) (one-empty s.local_ports p.0)
          (one-empty s.remote_ports p.1),
      neither (nat_lt 8 (length s.local_ports)) (nat_lt 8 (length s.remote_ports)) (one-many s.local_ports p.0)
          (one-many s.remote_ports p.1),
    )

pub notice-is : (n : Notice) → IsNoticeSpelled n → IsNotice n
notice-is (notices.Acquire policy s) e = (e.0, packet-whole s e.1)
notice-is (notices.Expire name soft current) e = e
notice-is (notices.SeqOverflow name) e = e
notice-is (notices.BadSpi spi) e = tt

-- ---- the notice at its place

record Places (gs : List Peer) (ns : List Notice) (ls : List (List ℕ)) : Type 0 where
  long : length ls ≡ length ns
  each : (k : ℕ) (t : Notice) → slice_get ns k ≡ Some t
      → (seconds : ℕ) × (seconds < 2 ^ 32) × IsNoticeSpelled t × IsTypedNotice t × (slice_get ls k ≡ Some (line_text t seconds))

longer : (xs : List (List ℕ)) (x : List ℕ) (ns : List Notice) (n : Notice) → length xs ≡ length ns
    → length (xs ++ x ∷ []) ≡ length (ns ++ n ∷ [])
longer xs x ns n e = length-append xs (x ∷ []) ∙ ap (λ k. k + 1) e ∙ sym (length-append ns (n ∷ []))

place-more : (gs : List Peer) (ns : List Notice) (ls : List (List ℕ)) (n : Notice) (seconds : ℕ) → seconds < 2 ^ 32 → IsNoticeSpelled n
    → IsTypedNotice n → Places gs ns ls
    → Places gs (ns ++ n ∷ []) (ls ++ line_text n seconds ∷ [])
place-more gs ns ls n seconds small spelled typed p = record {
  long = longer ls (line_text n seconds) ns n p.long;
  each = λ k t e. by-place k t (last-or ns n t k e);
} where
  by-place : (k : ℕ) (t : Notice) → (slice_get ns k ≡ Some t) ⊎ ((k ≡ length ns) × (n ≡ t))
      → (seconds2 : ℕ) × (seconds2 < 2 ^ 32) × IsNoticeSpelled t × IsTypedNotice t ×
      (slice_get (ls ++ line_text n seconds ∷ []) k ≡ Some (line_text t seconds2))
  by-place k t (inl e) =
      let q = p.each k t e in
      (q.0, q.1, q.2, q.3, pushed ls (line_text n seconds) (line_text t q.0) k q.4)
  by-place k t (inr e) =
      let last : k ≡ length ls = e.0 ∙ sym p.long in (
        seconds,
        small,
        subst IsNoticeSpelled e.1 spelled,
        subst IsTypedNotice e.1 typed,
        ap (slice_get (ls ++ line_text n seconds ∷ [])) last ∙ at-end ls (line_text n seconds) ∙ ap (λ z. Some (line_text z seconds)) e.1,
      )

place-if : (gs : List Peer) (b : Bool) (ns : List Notice) (ls : List (List ℕ)) (n : Notice) (seconds : ℕ) → seconds < 2 ^ 32
    → IsNoticeSpelled n → IsTypedNotice n → Places gs ns ls
    → Places gs (if b then ns ++ n ∷ [] else ns) (if b then ls ++ line_text n seconds ∷ [] else ls)
place-if gs true ns ls n seconds small spelled typed p = place-more gs ns ls n seconds small spelled typed p
place-if gs false ns ls n seconds small spelled typed p = p

none-there : (k : ℕ) (t : Notice) → slice_get {X = Notice} [] k ≡ Some t
    → (seconds : ℕ) × (seconds < 2 ^ 32) × IsNoticeSpelled t × IsTypedNotice t × (slice_get {X = List ℕ} [] k ≡ Some (line_text t seconds))
none-there k t e = absurd (none-is t e) where
  none-is : (a : Notice) → None ≡ Some a → ⊥
  none-is a e = cc

places : (gs : List Peer) (g : List ℕ) (s : ℕ) (h : List Act) → AreSpelled gs h → Places gs (sessions.notices g s h) (lines line_at g s h)
places gs g s [] p = record { long = refl; each = none-there }
places gs g s (acts.Notice f t n ∷ h) p =
    let rest = spelled-tail gs (acts.Notice f t n) h p in
    let one = spelled-head gs (acts.Notice f t n) h p in
    place-if gs (is_session f t g s) (sessions.notices g s h) (lines line_at g s h) n (clock h) (clock-low gs h rest) one.0.1 one.1.1
    (places gs g s h rest)
places gs g s (a ∷ h) p = places gs g s h (spelled-tail gs a h p)

-- ---- the next notice

pub record IsNext (p : Peer) (h : List Act) (t : Notice) : Type 0 where
  pub seconds : ℕ
  pub small : seconds < 2 ^ 32
  pub spelled : IsNoticeSpelled t
  pub typed : IsTypedNotice t
  pub message : next_message lanes.Note (pipe_at p.name p.address h) ≡ Some (line_text t seconds)

pub next-is : (gs : List Peer) (p : Peer) (h : List Act) (t : Notice) → AreSpelled gs h → next_notice p.name h ≡ Some t → IsNext p h t
next-is gs p h t s e =
    let g : List ℕ = p.name in
    let n : ℕ = openings g h in
    let k : ℕ = notices_heard g n h in
    let live = else_none (is_open g h) (slice_get (sessions.notices g n h) k) t e in
    let q = (places gs g n h s).each k t live.1 in
    record {
      seconds = q.0;
      small = q.1;
      spelled = q.2;
      typed = q.3;
      message = ap (λ b. slice_get (if b then drop k (lines line_at g n h) else []) 0) live.0 ∙ next-drop k (lines line_at g n h) ∙ q.4;
    }

pub next-open : (p : Peer) (h : List Act) (t : Notice) → next_notice p.name h ≡ Some t → is_open p.name h ≡ true
next-open p h t e =
    (else_none (is_open p.name h) (slice_get (sessions.notices p.name (openings p.name h) h)
    (notices_heard p.name (openings p.name h) h)) t e).0

-- no line is under way where there is no next notice
pub none-next : (p : Peer) (h : List Act) → KeepsSessions h → next_notice p.name h ≡ None
    → next_message lanes.Note (pipe_at p.name p.address h) ≡ None
none-next p h keep e =
    let m : Option (List ℕ) = next_message lanes.Note (pipe_at p.name p.address h) in
    subst (λ v. MatchOption v (m ≡ None) (λ n. (w : List Act) × (m ≡ Some (line_at w n)))) e
    (notice_next (request_at p.address) (response_at p.name) line_at p.name h keep)
