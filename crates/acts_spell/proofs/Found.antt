-- What is found in a past of which each act has a line: lists, halves, orders, answers, notices and numbers.
use Rattle.std.proofs.Common.{◌≡◌, ℕ, zero, suc, ◌+◌, ◌<◌, ◌^◌, ◌==◌, ◌&&◌, max, Bool, true, false, List, [], ◌∷◌, ◌++◌, Option, Some, None, refl, subst, arith, slice_get, if◌then◌else◌}
use Rattle.std.specs.List.{AllByRecursion}
use Rattle.std.specs.Str.{bytes_eq}
use Rattle.std.proofs.lemmas.List.Elements.{All-nil}
use Rattle.ikeless_tree.specs.Check.{spd_fault}
use Rattle.ikeless_tree.specs.Typed.{AreTypedPolicies, IsTypedAnswer, IsTypedHalf, IsTypedNotice, IsTypedOrder, IsTypedPolicy}
use Rattle.ikeless_tree.specs.declared.command.Peer.{Peer}
use Rattle.ikeless_tree.specs.declared.entry.SpdEntry.{SpdEntry}
use Rattle.ikeless_tree.specs.declared.order.Answer.{Answer}
use Rattle.ikeless_tree.specs.declared.order.Notice.{Notice}
use Rattle.ikeless_tree.specs.declared.order.Order.{Order}
use Rattle.ikeless_tree.specs.declared.sad.SadEntry.{SadEntry}
use Rattle.line_words.specs.Spelling.{HasWindow, IsInstallable, IsListed}
use Rattle.script_lines.specs.Spelling.{AreHalfNames, IsNoticeSpelled, IsOrderSpelled}
use Rattle.hist_acts.specs.declared.act.Act.{Act}
use Rattle.hist_acts.specs.declared.act.Act.TheVariants as acts
use Rattle.hist_acts.specs.Past.{clock, force}
use Rattle.hist_acts.specs.Sessions.{answer_at, answered, handled, is_open, is_session, next_answer, next_notice, next_request, notices, notices_heard, openings, order_at, session_taken}
use Rattle.hist_halves.specs.Halves.{live, without}
use Rattle.acts_spell.specs.Spelled.{IsSpelled}
use Rattle.acts_spell.proofs.Each.{each-append, each-if, either-has, some-is}

-- each act of the past has a line
abbrev pub AreSpelled : List Peer → List Act → Type 0
AreSpelled gs h = AllByRecursion (IsSpelled gs) h

-- ---- lists in force

abbrev pub IsGoodList : List SpdEntry → Type 0
IsGoodList list = IsListed list × AreTypedPolicies list

no-fault : spd_fault [] ≡ None
unfolding spd_fault
no-fault = refl

no-list : IsGoodList []
no-list = (record { fits = no-fault; windows = All-nil HasWindow }, All-nil IsTypedPolicy)

pub force-good : (gs : List Peer) (g : List ℕ) (h : List Act) → AreSpelled gs h → IsGoodList (force g h)
force-good gs g [] s = no-list
force-good gs g (acts.Policy f list ∷ h) s = either-has IsGoodList (bytes_eq f g) list (force g h) (s.0.0.1, s.0.1) (force-good gs g h s.1)
force-good gs g (acts.Boot f ∷ h) s = either-has IsGoodList (bytes_eq f g) [] (force g h) no-list (force-good gs g h s.1)
force-good gs g (a ∷ h) s = force-good gs g h s.1

-- ---- live halves

abbrev pub IsGoodHalf : SadEntry → Type 0
IsGoodHalf e = IsInstallable e × IsTypedHalf e

without-good : (x : List ℕ) (es : List SadEntry) → AllByRecursion IsGoodHalf es → AllByRecursion IsGoodHalf (without x es)
without-good x [] s = tt
without-good x (e ∷ es) s =
    each-if IsGoodHalf (bytes_eq e.name x) (without x es) (e ∷ without x es) (without-good x es s.1) (s.0, without-good x es s.1)

pub live-good : (gs : List Peer) (g : List ℕ) (h : List Act) → AreSpelled gs h → AllByRecursion IsGoodHalf (live g h)
live-good gs g [] s = tt
live-good gs g (acts.Put f e ∷ h) s =
    let more = live-good gs g h s.1 in
    each-if IsGoodHalf (bytes_eq f g) (live g h ++ e ∷ []) (live g h)
    (each-append IsGoodHalf (live g h) (e ∷ []) more ((s.0.0.1, s.0.1), tt)) more
live-good gs g (acts.Gone f x w ∷ h) s =
    let more = live-good gs g h s.1 in
    each-if IsGoodHalf (bytes_eq f g) (without x (live g h)) (live g h) (without-good x (live g h) more) more
live-good gs g (acts.Boot f ∷ h) s = each-if IsGoodHalf (bytes_eq f g) [] (live g h) tt (live-good gs g h s.1)
live-good gs g (a ∷ h) s = live-good gs g h s.1

-- ---- orders, answers and notices

abbrev pub IsGoodOrder : Order → Type 0
IsGoodOrder o = IsOrderSpelled o × IsTypedOrder o

abbrev pub IsGoodAnswer : Answer → Type 0
IsGoodAnswer a = AreHalfNames a.names × IsTypedAnswer a

abbrev pub IsGoodNotice : Notice → Type 0
IsGoodNotice n = IsNoticeSpelled n × IsTypedNotice n

found-if : {X : Type 0} (P : X → Type 0) (b : Bool) (x y : X) (o : Option X) → P x → (o ≡ Some y → P y) → (if b then Some x else o) ≡ Some y
    → P y
found-if P true x y o p q e = subst P (some-is x y e) p
found-if P false x y o p q e = q e

pub order-good : (gs : List Peer) (g : List ℕ) (s k : ℕ) (o : Order) (h : List Act) → AreSpelled gs h → order_at g s k h ≡ Some o
    → IsGoodOrder o
order-good gs g s k o [] l e = cc
order-good gs g s k o (acts.Order f t j q ∷ h) l e =
    found-if IsGoodOrder (is_session f t g s && (j == k)) q o (order_at g s k h) (l.0.0.1, l.0.1.2) (order-good gs g s k o h l.1) e
order-good gs g s k o (a ∷ h) l e = order-good gs g s k o h l.1 e

none-or : {X : Type 0} (P : X → Type 0) (b : Bool) (y : X) (o : Option X) → (o ≡ Some y → P y) → (if b then None else o) ≡ Some y → P y
none-or P true y o q e = cc
none-or P false y o q e = q e

or-none : {X : Type 0} (P : X → Type 0) (b : Bool) (y : X) (o : Option X) → (o ≡ Some y → P y) → (if b then o else None) ≡ Some y → P y
or-none P true y o q e = q e
or-none P false y o q e = cc

pub request-good : (gs : List Peer) (g : List ℕ) (o : Order) (h : List Act) → AreSpelled gs h → next_request g h ≡ Some o → IsGoodOrder o
request-good gs g o h l e =
    none-or IsGoodOrder (session_taken g h == 0) o (order_at g (session_taken g h) (handled g (session_taken g h) h + 1) h)
    (order-good gs g (session_taken g h) (handled g (session_taken g h) h + 1) o h l) e

pub answer-good : (gs : List Peer) (g : List ℕ) (s k : ℕ) (a : Answer) (h : List Act) → AreSpelled gs h → answer_at g s k h ≡ Some a
    → IsGoodAnswer a
answer-good gs g s k a [] l e = cc
answer-good gs g s k a (acts.Handled f t j r ∷ h) l e =
    found-if IsGoodAnswer (is_session f t g s && (j == k)) r a (answer_at g s k h) (l.0.0.1, l.0.1.2) (answer-good gs g s k a h l.1) e
answer-good gs g s k a (x ∷ h) l e = answer-good gs g s k a h l.1 e

pub heard-answer-good : (gs : List Peer) (g : List ℕ) (a : Answer) (h : List Act) → AreSpelled gs h → next_answer g h ≡ Some a
    → IsGoodAnswer a
heard-answer-good gs g a h l e =
    or-none IsGoodAnswer (is_open g h) a (answer_at g (openings g h) (answered g (openings g h) h + 1) h)
    (answer-good gs g (openings g h) (answered g (openings g h) h + 1) a h l) e

notices-good : (gs : List Peer) (g : List ℕ) (s : ℕ) (h : List Act) → AreSpelled gs h → AllByRecursion IsGoodNotice (notices g s h)
notices-good gs g s [] l = tt
notices-good gs g s (acts.Notice f t n ∷ h) l =
    let more = notices-good gs g s h l.1 in
    each-if IsGoodNotice (is_session f t g s) (notices g s h ++ n ∷ []) (notices g s h)
    (each-append IsGoodNotice (notices g s h) (n ∷ []) more ((l.0.0.1, l.0.1.1), tt)) more
notices-good gs g s (a ∷ h) l = notices-good gs g s h l.1

pub got : {X : Type 0} (P : X → Type 0) (xs : List X) (k : ℕ) (x : X) → AllByRecursion P xs → slice_get xs k ≡ Some x → P x
got P [] k x l e = cc
got P (y ∷ ys) zero x l e = subst P (some-is y x e) l.0
got P (y ∷ ys) (suc k) x l e = got P ys k x l.1 e

pub heard-notice-good : (gs : List Peer) (g : List ℕ) (n : Notice) (h : List Act) → AreSpelled gs h → next_notice g h ≡ Some n
    → IsGoodNotice n
heard-notice-good gs g n h l e =
    let s : ℕ = openings g h in
    or-none IsGoodNotice (is_open g h) n (slice_get (notices g s h) (notices_heard g s h))
    (got IsGoodNotice (notices g s h) (notices_heard g s h) n (notices-good gs g s h l)) e

-- ---- numbers

abbrev IsSmall : ℕ → Type 0
IsSmall n = n < 2 ^ 32

greater : (m n : ℕ) → m < 2 ^ 32 → n < 2 ^ 32 → max m n < 2 ^ 32
greater m n p q = grind (arith, p, q)

pub clock-small : (gs : List Peer) (h : List Act) → AreSpelled gs h → clock h < 2 ^ 32
clock-small gs [] l = omega arith
clock-small gs (acts.Now t ∷ h) l = greater t (clock h) l.0.1 (clock-small gs h l.1)
clock-small gs (a ∷ h) l = clock-small gs h l.1

pub session-small : (gs : List Peer) (g : List ℕ) (h : List Act) → AreSpelled gs h → session_taken g h < 2 ^ 32
session-small gs g [] l = omega arith
session-small gs g (acts.Opened f s ∷ h) l = either-has IsSmall (bytes_eq f g) s (session_taken g h) l.0.1 (session-small gs g h l.1)
session-small gs g (acts.Boot f ∷ h) l = either-has IsSmall (bytes_eq f g) 0 (session_taken g h) (omega arith) (session-small gs g h l.1)
session-small gs g (a ∷ h) l = session-small gs g h l.1
