-- The pipe that a past stands for moves by the calls of each act.
use Rattle.std.proofs.Common.{◌≡◌, ◌==◌, ◌&&◌, ◌||◌, not, ℕ, zero, suc, ◌+◌, ◌≤◌, ◌<◌, Bool, true, false, List, [], ◌∷◌, ◌++◌, length, drop, Option, Some, None, ◌⊎◌, refl, ap, sym, subst, ◌∙◌, arith, add-one, if◌then◌else◌}
use Rattle.std.specs.Str.{bytes_eq}
use Rattle.std.specs.List.{slice_get}
use Rattle.std.specs.Option.{MatchOption}
use Rattle.std.proofs.lemmas.List.{drop-append-le}
use Rattle.std.proofs.lemmas.Bool.{false≢true}
use Rattle.ikeless_tree.specs.declared.order.Order.{Order}
use Rattle.ikeless_tree.specs.declared.order.Answer.{Answer}
use Rattle.ikeless_tree.specs.declared.order.Notice.{Notice}
use Rattle.ikeless_tree.specs.declared.order.Lane.TheVariants as lanes
use Rattle.hist_acts.specs.declared.act.Act.{Act}
use Rattle.hist_acts.specs.declared.act.Act.TheVariants as acts
use Rattle.hist_acts.specs.Sessions.{openings, is_open, session_taken, handled, answered, order_at, answer_at, notices, notices_heard, next_request, next_answer, next_notice}
use Rattle.session_pipe.specs.UnderWay.{UnderWay, after_open, after_cut, after_boot, after_push, after_take, next_message}
use Rattle.session_pipe.specs.Sessions.{KeepsSessions}
use Rattle.session_pipe.specs.Past.{requests, responses, lines, pipe_of, after_act, is_at}
use Rattle.session_pipe.proofs.Names.{same_name}
use Rattle.session_pipe.proofs.Counts.{taken_last, open_some, no_requests, no_responses, no_lines, handled_bound, answered_bound, heard_bound, where_none, else_none, HasPlace, order_place, answer_place, notice_place}

abbrev way : ℕ → Bool → Bool → List (List ℕ) → List (List ℕ) → List (List ℕ) → UnderWay
way openings is_open is_taken down up note = record {
  openings = openings;
  is_open = is_open;
  is_taken = is_taken;
  down = down;
  up = up;
  note = note;
}

drop_none : (n : ℕ) → ◌≡◌ {A = List (List ℕ)} (drop n []) []
drop_none zero = refl
drop_none (suc n) = refl

drop_next : (n : ℕ) (xs : List (List ℕ)) → drop (suc n) xs ≡ drop 1 (drop n xs)
drop_next zero xs = refl
drop_next (suc n) [] = refl
drop_next (suc n) (x ∷ xs) = drop_next n xs

drop_one : (n : ℕ) (xs : List (List ℕ)) → drop (n + 1) xs ≡ drop 1 (drop n xs)
drop_one n xs = ap (λ k. drop k xs) (add-one n) ∙ drop_next n xs

no : {A : Type 0} → false ≡ true → A
no e = absurd (false≢true e)

-- ---- the calls, by cases

opened_moves : (here b : Bool) (o t s : ℕ) (down up note : ℕ → List (List ℕ)) → (here ≡ true → b ≡ false) → (here ≡ true → s ≡ o + 1)
    → (here ≡ true → down s ≡ []) → (here ≡ true → up (o + 1) ≡ []) → (here ≡ true → note (o + 1) ≡ [])
    → way (if here then o + 1 else o) (here || b) (not ((if here then s else t) == 0)) (if (if here then s else t) == 0 then []
    else down (if here then s else t))
    (if here || b then up (if here then o + 1 else o) else []) (if here || b then note (if here then o + 1 else o) else [])
    ≡ (if here then after_open (way o b (not (t == 0)) (if t == 0 then [] else down t) (if b then up o else []) (if b then note o else []))
    else way o b (not (t == 0)) (if t == 0 then [] else down t) (if b then up o else []) (if b then note o else []))
opened_moves false b o t s down up note closed number d u n = refl
opened_moves true true o t s down up note closed number d u n = no (sym (closed refl))
opened_moves true false o t s down up note closed number d u n = fresh (s == 0) (down s) (up (o + 1)) (note (o + 1))
    (some s o (number refl)) (d refl) (u refl) (n refl)
  where
    some : (s o : ℕ) → s ≡ o + 1 → (s == 0) ≡ false
    some s o e = grind arith

    fresh : (z : Bool) (d u n : List (List ℕ)) → z ≡ false → d ≡ [] → u ≡ [] → n ≡ [] → way (o + 1) true (not z) (if z then [] else d) u n ≡
        way (o + 1) true true [] [] []
    fresh true d u n e p q r = no (sym e)
    fresh false d u n e p q r = cc

cut_moves : (here b k : Bool) (o : ℕ) (down up note : List (List ℕ)) → (here ≡ true → b ≡ true)
    → way o (not here && b) k down (if not here && b then up else []) (if not here && b then note else [])
    ≡ (if here then after_cut (way o b k down (if b then up else []) (if b then note else [])) else way o b k down (if b then up else [])
    (if b then note else []))
cut_moves false b k o down up note is = refl
cut_moves true true k o down up note is = refl
cut_moves true false k o down up note is = no (is refl)

boot_moves : (here b : Bool) (o t : ℕ) (down : ℕ → List (List ℕ)) (up note : List (List ℕ))
    → way o b (not ((if here then 0 else t) == 0)) (if (if here then 0 else t) == 0 then [] else down (if here then 0 else t)) up note
    ≡ (if here then after_boot (way o b (not (t == 0)) (if t == 0 then [] else down t) up note) else way o b (not (t == 0))
    (if t == 0 then [] else down t) up note)
boot_moves false b o t down up note = refl
boot_moves true b o t down up note = refl

order_moves : (here b z e : Bool) (o n : ℕ) (rs up note : List (List ℕ)) (m : List ℕ) → (here ≡ true → b ≡ true)
    → (here ≡ true → z ≡ false → e ≡ true) → n ≤ length rs
    → way o b (not z) (if z then [] else drop n (if here && e then rs ++ m ∷ [] else rs)) up note
    ≡ (if here then after_push lanes.Down m (way o b (not z) (if z then [] else drop n rs) up note)
    else way o b (not z) (if z then [] else drop n rs) up note)
order_moves false b z e o n rs up note m is same bound = refl
order_moves true false z e o n rs up note m is same bound = no (is refl)
order_moves true true true e o n rs up note m is same bound = refl
order_moves true true false false o n rs up note m is same bound = no (same refl refl)
order_moves true true false true o n rs up note m is same bound = ap (λ d. way o true true d up note) (drop-append-le n rs (m ∷ []) bound)

handled_moves : (here b z e own : Bool) (o n a : ℕ) (rs us note : List (List ℕ)) (m : List ℕ) → (here ≡ true → z ≡ false)
    → (here ≡ true → e ≡ true) → (here ≡ true → own ≡ true) → a ≤ length us
    → way o b (not z) (if z then [] else drop (if here && e then n + 1 else n) rs)
    (if b then drop a (if here && own then us ++ m ∷ [] else us) else []) note
    ≡ (if here then after_push lanes.Up m
    (after_take lanes.Down (way o b (not z) (if z then [] else drop n rs) (if b then drop a us else []) note))
    else way o b (not z) (if z then [] else drop n rs) (if b then drop a us else []) note)
handled_moves false b z e own o n a rs us note m is same mine bound = refl
handled_moves true b true e own o n a rs us note m is same mine bound = no (sym (is refl))
handled_moves true b false false own o n a rs us note m is same mine bound = no (same refl)
handled_moves true b false true false o n a rs us note m is same mine bound = no (mine refl)
handled_moves true true false true true o n a rs us note m is same mine bound =
    let one = drop_one n rs in
    let two = drop-append-le a us (m ∷ []) bound in
    ap (λ d. way o true true d (drop a (us ++ m ∷ [])) note) one ∙ ap (λ u. way o true true (drop 1 (drop n rs)) u note) two
handled_moves true false false true true o n a rs us note m is same mine bound = ap (λ d. way o false true d [] note) (drop_one n rs)

answered_moves : (here b k e : Bool) (o n : ℕ) (down us note : List (List ℕ)) → (here ≡ true → b ≡ true) → (here ≡ true → e ≡ true)
    → way o b k down (if b then drop (if here && e then n + 1 else n) us else []) note
    ≡ (if here then after_take lanes.Up (way o b k down (if b then drop n us else []) note)
    else way o b k down (if b then drop n us else []) note)
answered_moves false b k e o n down us note is same = refl
answered_moves true false k e o n down us note is same = no (is refl)
answered_moves true true k false o n down us note is same = no (same refl)
answered_moves true true k true o n down us note is same = ap (λ u. way o true k down u note) (drop_one n us)

notice_moves : (here b z e : Bool) (o n : ℕ) (down up ls : List (List ℕ)) (m : List ℕ) → (here ≡ true → b ≡ true → z ≡ false → e ≡ true)
    → (here ≡ true → b ≡ true → z ≡ true → e ≡ false) → n ≤ length ls
    → way o b (not z) down up (if b then drop n (if here && e then ls ++ m ∷ [] else ls) else [])
    ≡ (if here then after_push lanes.Note m (way o b (not z) down up (if b then drop n ls else [])) else way o b (not z) down up
    (if b then drop n ls else []))
notice_moves false b z e o n down up ls m same other bound = refl
notice_moves true false z e o n down up ls m same other bound = refl
notice_moves true true true true o n down up ls m same other bound = no (sym (other refl refl refl))
notice_moves true true true false o n down up ls m same other bound = refl
notice_moves true true false false o n down up ls m same other bound = no (same refl refl refl)
notice_moves true true false true o n down up ls m same other bound =
    ap (λ l. way o true true down up l) (drop-append-le n ls (m ∷ []) bound)

heard_moves : (here b k e : Bool) (o n : ℕ) (down up ls : List (List ℕ)) → (here ≡ true → b ≡ true) → (here ≡ true → e ≡ true)
    → way o b k down up (if b then drop (if here && e then n + 1 else n) ls else [])
    ≡ (if here then after_take lanes.Note (way o b k down up (if b then drop n ls else []))
    else way o b k down up (if b then drop n ls else []))
heard_moves false b k e o n down up ls is same = refl
heard_moves true false k e o n down up ls is same = no (is refl)
heard_moves true true k false o n down up ls is same = no (same refl)
heard_moves true true k true o n down up ls is same = ap (λ l. way o true k down up l) (drop_one n ls)

-- ---- sessions of one gateway

is_last : (s t o : ℕ) → s ≡ o → (t ≡ 0) ⊎ (t ≡ o) → (t == 0) ≡ false → (s == t) ≡ true
is_last s t o e last z = grind arith

is_equal : (s t : ℕ) → s ≡ t → (s == t) ≡ true
is_equal s t e = grind arith

is_own : (s t o : ℕ) → s ≡ t → (t ≡ 0) ⊎ (t ≡ o) → (t == 0) ≡ false → (s == o) ≡ true
is_own s t o e last z = grind arith

is_other : (s t o : ℕ) → s ≡ t → 0 < o → (t == 0) ≡ true → (s == o) ≡ false
is_other s t o e some z = grind arith

above : (o s : ℕ) → s ≡ o + 1 → o < s
above o s e = omega arith

-- what holds of a gateway holds of it under the name in the act
named : (P : List ℕ → Type 0) (f g : List ℕ) → P f → bytes_eq f g ≡ true → P g
named P f g p e = subst P (same_name f g e) p

pub moves : (request : List Act → Order → List ℕ) (response : List Act → Answer → List ℕ) (line : List Act → Notice → List ℕ) (g : List ℕ)
    (a : Act) (h : List Act)
    → KeepsSessions (a ∷ h)
    → pipe_of request response line g (a ∷ h) ≡ (if is_at g a then after_act request response line a h
    (pipe_of request response line g h) else pipe_of request response line g h)
moves request response line g (acts.Opened f s) h l =
    let number = named (λ n. s ≡ openings n h + 1) f g l.0.1 in
    opened_moves (bytes_eq f g) (is_open g h) (openings g h) (session_taken g h) s
    (λ n. drop (handled g n h) (requests request g n h)) (λ n. drop (answered g n h) (responses response g n h))
    (λ n. drop (notices_heard g n h) (lines line g n h))
    (named (λ n. is_open n h ≡ false) f g l.0.0) number
    (λ e. ap (drop (handled g s h)) (no_requests request g s h l.1 (above (openings g h) s (number e))) ∙ drop_none (handled g s h))
    (λ e. ap (drop (answered g (openings g h + 1) h))
    (no_responses response g (openings g h + 1) h l.1 (above (openings g h) (openings g h + 1) refl))
    ∙ drop_none (answered g (openings g h + 1) h))
    (λ e. ap (drop (notices_heard g (openings g h + 1) h))
    (no_lines line g (openings g h + 1) h l.1 (above (openings g h) (openings g h + 1) refl))
    ∙ drop_none (notices_heard g (openings g h + 1) h))
moves request response line g (acts.Cut f s) h l =
    cut_moves (bytes_eq f g) (is_open g h) (not (session_taken g h == 0)) (openings g h) (if session_taken g h == 0 then []
    else drop (handled g (session_taken g h) h) (requests request g (session_taken g h) h))
    (drop (answered g (openings g h) h) (responses response g (openings g h) h))
    (drop (notices_heard g (openings g h) h) (lines line g (openings g h) h))
    (named (λ n. is_open n h ≡ true) f g l.0.0)
moves request response line g (acts.Boot f) h l =
    boot_moves (bytes_eq f g) (is_open g h) (openings g h) (session_taken g h) (λ n. drop (handled g n h) (requests request g n h))
    (if is_open g h then drop (answered g (openings g h) h) (responses response g (openings g h) h) else [])
    (if is_open g h then drop (notices_heard g (openings g h) h) (lines line g (openings g h) h) else [])
moves request response line g (acts.Order f s k o) h l =
    order_moves (bytes_eq f g) (is_open g h) (session_taken g h == 0) (s == session_taken g h) (openings g h)
    (handled g (session_taken g h) h) (requests request g (session_taken g h) h)
    (if is_open g h then drop (answered g (openings g h) h) (responses response g (openings g h) h) else [])
    (if is_open g h then drop (notices_heard g (openings g h) h) (lines line g (openings g h) h) else []) (request h o)
    (named (λ n. is_open n h ≡ true) f g l.0.0)
    (λ e. is_last s (session_taken g h) (openings g h) (named (λ n. s ≡ openings n h) f g l.0.1 e) (taken_last g h l.1))
    (handled_bound request g (session_taken g h) h l.1)
moves request response line g (acts.Handled f s k a) h l =
    let next = where_none (session_taken f h == 0) (order_at f (session_taken f h) (handled f (session_taken f h) h + 1) h) l.0.2.0 l.0.2.1
    in
    let some = named (λ n. (session_taken n h == 0) ≡ false) f g next.0 in
    let own = named (λ n. s ≡ session_taken n h) f g l.0.0 in
    handled_moves (bytes_eq f g) (is_open g h) (session_taken g h == 0) (s == session_taken g h) (s == openings g h) (openings g h)
    (handled g (session_taken g h) h) (answered g (openings g h) h)
    (requests request g (session_taken g h) h) (responses response g (openings g h) h)
    (if is_open g h then drop (notices_heard g (openings g h) h) (lines line g (openings g h) h) else []) (response h a)
    some (λ e. is_equal s (session_taken g h) (own e)) (λ e. is_own s (session_taken g h) (openings g h) (own e) (taken_last g h l.1)
    (some e)) (answered_bound response g (openings g h) h l.1)
moves request response line g (acts.Answered f s k a) h l =
    let next = else_none (is_open f h) (answer_at f (openings f h) (answered f (openings f h) h + 1) h) a l.0.2 in
    answered_moves (bytes_eq f g) (is_open g h) (not (session_taken g h == 0)) (s == openings g h) (openings g h)
    (answered g (openings g h) h)
    (if session_taken g h == 0 then [] else drop (handled g (session_taken g h) h) (requests request g (session_taken g h) h))
    (responses response g (openings g h) h) (if is_open g h then drop (notices_heard g (openings g h) h) (lines line g (openings g h) h)
    else [])
    (named (λ n. is_open n h ≡ true) f g next.0) (λ e. is_equal s (openings g h) (named (λ n. s ≡ openings n h) f g l.0.0 e))
moves request response line g (acts.Notice f s n) h l =
    let own = named (λ m. s ≡ session_taken m h) f g l.0 in
    notice_moves (bytes_eq f g) (is_open g h) (session_taken g h == 0) (s == openings g h) (openings g h) (notices_heard g (openings g h) h)
    (if session_taken g h == 0 then [] else drop (handled g (session_taken g h) h) (requests request g (session_taken g h) h))
    (if is_open g h then drop (answered g (openings g h) h) (responses response g (openings g h) h) else []) (lines line g (openings g h) h)
    (line h n)
    (λ e b. is_own s (session_taken g h) (openings g h) (own e) (taken_last g h l.1)) (λ e b. is_other s (session_taken g h) (openings g h)
    (own e) (open_some g h l.1 b)) (heard_bound line g (openings g h) h l.1)
moves request response line g (acts.Heard f s n) h l =
    let next = else_none (is_open f h) (slice_get (notices f (openings f h) h) (notices_heard f (openings f h) h)) n l.0.1 in
    heard_moves (bytes_eq f g) (is_open g h) (not (session_taken g h == 0)) (s == openings g h) (openings g h)
    (notices_heard g (openings g h) h)
    (if session_taken g h == 0 then [] else drop (handled g (session_taken g h) h) (requests request g (session_taken g h) h))
    (if is_open g h then drop (answered g (openings g h) h) (responses response g (openings g h) h) else []) (lines line g (openings g h) h)
    (named (λ m. is_open m h ≡ true) f g next.0) (λ e. is_equal s (openings g h) (named (λ m. s ≡ openings m h) f g l.0.0 e))
moves request response line g (_) h l = refl

-- ---- what comes next

next_drop : (n : ℕ) (xs : List (List ℕ)) → slice_get (drop n xs) 0 ≡ slice_get xs n
next_drop zero xs = refl
next_drop (suc n) [] = refl
next_drop (suc n) (x ∷ xs) = next_drop n xs

abbrev IsNext : {A : Type 0} → (List Act → A → List ℕ) → Option A → Option (List ℕ) → Type 0
IsNext message value first = MatchOption value (first ≡ None) (λ a. (w : List Act) × (first ≡ Some (message w a)))

next_place : {A : Type 0} (message : List Act → A → List ℕ) (value : Option A) (xs : List (List ℕ)) (n : ℕ) → HasPlace message value xs n
    → IsNext message value (slice_get (drop n xs) 0)
next_place message None xs n p = next_drop n xs ∙ p
next_place message (Some a) xs n p = (p.0, next_drop n xs ∙ p.1)

next_unless : {A : Type 0} (message : List Act → A → List ℕ) (z : Bool) (value : Option A) (xs : List (List ℕ))
    → IsNext message value (slice_get xs 0) → IsNext message (if z then None else value) (slice_get (if z then [] else xs) 0)
next_unless message true value xs p = refl
next_unless message false value xs p = p

next_where : {A : Type 0} (message : List Act → A → List ℕ) (b : Bool) (value : Option A) (xs : List (List ℕ))
    → IsNext message value (slice_get xs 0) → IsNext message (if b then value else None) (slice_get (if b then xs else []) 0)
next_where message true value xs p = p
next_where message false value xs p = refl

pub request_next : (request : List Act → Order → List ℕ) (response : List Act → Answer → List ℕ) (line : List Act → Notice → List ℕ)
    (g : List ℕ) (h : List Act) → KeepsSessions h
    → IsNext request (next_request g h) (next_message lanes.Down (pipe_of request response line g h))
request_next request response line g h l =
    let t = session_taken g h in let n = handled g t h in
    next_unless request (t == 0) (order_at g t (n + 1) h) (drop n (requests request g t h))
    (next_place request (order_at g t (n + 1) h) (requests request g t h) n (order_place request g t n h l))

pub answer_next : (request : List Act → Order → List ℕ) (response : List Act → Answer → List ℕ) (line : List Act → Notice → List ℕ)
    (g : List ℕ) (h : List Act) → KeepsSessions h
    → IsNext response (next_answer g h) (next_message lanes.Up (pipe_of request response line g h))
answer_next request response line g h l =
    let s = openings g h in let n = answered g s h in
    next_where response (is_open g h) (answer_at g s (n + 1) h) (drop n (responses response g s h))
    (next_place response (answer_at g s (n + 1) h) (responses response g s h) n (answer_place response g s n h l))

pub notice_next : (request : List Act → Order → List ℕ) (response : List Act → Answer → List ℕ) (line : List Act → Notice → List ℕ)
    (g : List ℕ) (h : List Act) → KeepsSessions h
    → IsNext line (next_notice g h) (next_message lanes.Note (pipe_of request response line g h))
notice_next request response line g h l =
    let s = openings g h in let n = notices_heard g s h in
    next_where line (is_open g h) (slice_get (notices g s h) n) (drop n (lines line g s h))
    (next_place line (slice_get (notices g s h) n) (lines line g s h) n (notice_place line g s n h))
