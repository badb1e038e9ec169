-- It doesn't matter where octets are cut into pieces.
use Rattle.std.proofs.Common.{◌≡◌, ℕ, ◌+◌, ◌≤◌, ◌<◌, nat_le, Bool, true, false, List, [], ◌∷◌, ◌++◌, length, take, Option, Some, None, refl, ap, sym, subst, ◌∙◌, arith, append_assoc, length-append, if◌then◌else◌}
use Rattle.std.specs.List.{flat_map}
use Rattle.std.proofs.lemmas.Bool.{leb-true, leb-false}
use Rattle.std.proofs.lemmas.List.{take-append-le}
use Rattle.ikeless_tree.specs.declared.order.Notice.{Notice}
use Rattle.notice_lines.specs.Envelope.{notice_in}
use Rattle.notice_lines.specs.Reading.{HasNotice, line_end, Begins, Open, Long, Ends, begins_by, begins, unless_open, first_begins}
use Rattle.notice_lines.proofs.Ends.{end_none, end_some, end_within, end_stays, begins_ends, begins_long, begins_late}

abbrev joined : List (List ℕ) → List ℕ
joined pieces = flat_map (λ piece. piece) pieces

-- ---- what octets begin with

open_ends : (n : ℕ) → Open ≡ Ends n → ⊥
open_ends n e = cc

long_ends : (n : ℕ) → Long ≡ Ends n → ⊥
long_ends n e = cc

open_long : Open ≡ Long → ⊥
open_long e = cc

ends_long : (n : ℕ) → Ends n ≡ Long → ⊥
ends_long n e = cc

same_end : (m n : ℕ) → Ends m ≡ Ends n → m ≡ n
same_end m n e = cc

ends_by : (o : Option ℕ) (size n : ℕ) → begins_by o size ≡ Ends n → (o ≡ Some n) × (n ≤ 4096)
ends_by None size n e = absurd (none (nat_le size 4096) e)
  where
    none : (b : Bool) → (if b then Open else Long) ≡ Ends n → ⊥
    none true e = open_ends n e
    none false e = long_ends n e
ends_by (Some m) size n e = some (nat_le m 4096) refl e
  where
    some : (b : Bool) → nat_le m 4096 ≡ b → (if b then Ends m else Long) ≡ Ends n → (◌≡◌ {A = Option ℕ} (Some m) (Some n)) × (n ≤ 4096)
    some true p e = let same = same_end m n e in let small = leb-true m 4096 p in (ap Some same, omega (arith, same, small))
    some false p e = absurd (long_ends n e)

pub ends_parts : (octets : List ℕ) (n : ℕ) → begins octets ≡ Ends n → (line_end octets ≡ Some n) × (n ≤ 4096)
unfolding begins
ends_parts octets n e = ends_by (line_end octets) (length octets) n e

pub ends_stay : (a b : List ℕ) (n : ℕ) → begins a ≡ Ends n → begins (a ++ b) ≡ Ends n
ends_stay a b n e = let parts = ends_parts a n e in begins_ends (a ++ b) n (end_stays a b n parts.0) parts.1

long_by : (a b : List ℕ) (o p : Option ℕ) → line_end a ≡ o → line_end b ≡ p → begins_by o (length a) ≡ Long → begins (a ++ b) ≡ Long
long_by a b (Some m) p ea eb e = some (nat_le m 4096) refl e
  where
    some : (z : Bool) → nat_le m 4096 ≡ z → (if z then Ends m else Long) ≡ Long → begins (a ++ b) ≡ Long
    some true q e = absurd (ends_long m e)
    some false q e = begins_late (a ++ b) m (end_stays a b m ea) (leb-false m 4096 q)
long_by a b None p ea eb e = none (nat_le (length a) 4096) refl p eb e
  where
    far : 4096 < length a → (p : Option ℕ) → line_end b ≡ p → begins (a ++ b) ≡ Long
    far q None eb = let n = length-append a b in begins_long (a ++ b) (end_none a b ea eb) (omega (arith, n))
    far q (Some m) eb = begins_late (a ++ b) (length a + m) (end_some a b m ea eb) (omega arith)

    none : (z : Bool) → nat_le (length a) 4096 ≡ z → (p : Option ℕ) → line_end b ≡ p → (if z then Open else Long) ≡ Long
        → begins (a ++ b) ≡ Long
    none true q p eb e = absurd (open_long e)
    none false q p eb e = far (leb-false (length a) 4096 q) p eb

pub long_stays : (a b : List ℕ) → begins a ≡ Long → begins (a ++ b) ≡ Long
unfolding begins
long_stays a b e = long_by a b (line_end a) (line_end b) refl refl e

pub same_line : (a b : List ℕ) (n : ℕ) → begins a ≡ Ends n → take n (a ++ b) ≡ take n a
same_line a b n e = let within = end_within a n (ends_parts a n e).0 in take-append-le n a b (omega (arith, within))

-- ---- pieces

first-is : (kept : List ℕ) (p : List ℕ) (ps : List (List ℕ)) (b : Begins) → begins (kept ++ p) ≡ b
    → (begins (kept ++ p) ≡ Open → first_begins (kept ++ p) ps ≡ begins ((kept ++ p) ++ joined ps))
    → unless_open b (first_begins (kept ++ p) ps) ≡ begins ((kept ++ p) ++ joined ps)
first-is kept p ps Open e ih = ih e
first-is kept p ps Long e ih = sym (long_stays (kept ++ p) (joined ps) e)
first-is kept p ps (Ends n) e ih = sym (ends_stay (kept ++ p) (joined ps) n e)

append_none : (a : List ℕ) → a ++ [] ≡ a
append_none [] = refl
append_none (x ∷ xs) = ap (λ l. x ∷ l) (append_none xs)

pub pieces_are_one : (kept : List ℕ) (pieces : List (List ℕ)) → begins kept ≡ Open
    → first_begins kept pieces ≡ begins (kept ++ joined pieces)
pieces_are_one kept [] e = sym (ap begins (append_none kept) ∙ e)
pieces_are_one kept (p ∷ ps) e =
    first-is kept p ps (begins (kept ++ p)) refl (λ q. pieces_are_one (kept ++ p) ps q) ∙ ap begins (append_assoc kept p (joined ps))

empty_open : begins [] ≡ Open
unfolding begins
empty_open = refl

pub cuts : (pieces : List (List ℕ)) → first_begins [] pieces ≡ begins (joined pieces)
cuts pieces = pieces_are_one [] pieces empty_open

-- ---- a whole line

line_before : (line rest : List ℕ) → line_end line ≡ None → line_end (line ++ 10 ∷ rest) ≡ Some (length line)
line_before line rest e = end_some line (10 ∷ rest) 0 e refl ∙ ap Some (omega arith)

take_line : (line rest : List ℕ) → take (length line) (line ++ rest) ≡ line
take_line [] rest = refl
take_line (x ∷ xs) rest = ap (λ l. x ∷ l) (take_line xs rest)

pub heard_whole : (line rest : List ℕ) (n : Notice) (pieces : List (List ℕ)) → HasNotice line n → line_end line ≡ None → length line ≤ 4096
    → joined pieces ≡ line ++ 10 ∷ rest
    → (first_begins [] pieces ≡ Ends (length line)) × HasNotice (take (length line) (joined pieces)) n
heard_whole line rest n pieces has e small is =
    let P : List ℕ → Type 0 = λ l. HasNotice l n in (
      cuts pieces ∙ ap begins is ∙ begins_ends (line ++ 10 ∷ rest) (length line) (line_before line rest e) small,
      subst P (sym (ap (take (length line)) is ∙ take_line line (10 ∷ rest))) has,
    )

pub one_notice : (line : List ℕ) (n m : Notice) → HasNotice line n → HasNotice line m → n ≡ m
one_notice line n m p q =
    let a = p.reads in let b = q.reads in
    let same : p.value ≡ q.value = cc in
    let c = p.is in let d = q.is in
    let e = ap notice_in same in
    cc
