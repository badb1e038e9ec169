-- Names in databases without a fault stand once.
use Rattle.std.proofs.Common.{◌≡◌, ℕ, ◌+◌, List, [], ◌∷◌, ◌++◌, Bool, true, false, Some, None, refl, ap, sym, ◌∙◌, arith, subst}
use Rattle.std.specs.List.{list_any, insert, position_or_len, find}
use Rattle.ikeless_tree.specs.declared.entry.SpdEntry.{SpdEntry}
use Rattle.ikeless_tree.specs.declared.sad.SadRow.{SadRow}
use Rattle.ikeless_tree.specs.Check.{is_named, entry_fault, entries_fault, spd_fault, sad_fault}
use Rattle.json_tree.specs.SadEntryWritten.{ArePassed}
use Rattle.json_tree.proofs.Passed.{no_fault, first_none}
use Rattle.json_tree.proofs.PolicyAgain.{unfaulted}
use Rattle.std.proofs.lemmas.Slice.Eq.{bytes_eq-Decides}
use Rattle.reply_table.specs.Reply.{put_before, put_after, is_row}
use Rattle.rc_resource.specs.Lists.{at_most_once, AreDistinct}
use Rattle.rc_resource.proofs.PlaceLemmas.{insert_next}

-- an entry that is put before the first of this name, and one that is put after it
pub before_is : (name : List ℕ) (e : SpdEntry) (list : List SpdEntry)
    → put_before name e list ≡ insert list (position_or_len (is_named name) list) e
before_is name e [] = refl
before_is name e (x ∷ xs) = by_test (is_named name x) refl (before_is name e xs)
  where
    by_test : (b : Bool) → is_named name x ≡ b → put_before name e xs ≡ insert xs (position_or_len (is_named name) xs) e
        → put_before name e (x ∷ xs) ≡ insert (x ∷ xs) (position_or_len (is_named name) (x ∷ xs)) e
    by_test true t ih = rw t refl
    by_test false t ih = rw t (ap (λ ys. x ∷ ys) ih ∙ sym (insert_next x xs (position_or_len (is_named name) xs) e))

next : (k : ℕ) → 1 + (k + 1) ≡ (1 + k) + 1
next k = omega arith

pub after_is : (name : List ℕ) (e : SpdEntry) (list : List SpdEntry) → list_any (is_named name) list ≡ true
    → put_after name e list ≡ insert list (position_or_len (is_named name) list + 1) e
after_is name e [] h = cc
after_is name e (x ∷ xs) h = by_test (is_named name x) refl h (after_is name e xs)
  where
    by_test : (b : Bool) → is_named name x ≡ b → list_any (is_named name) (x ∷ xs) ≡ true
        → (list_any (is_named name) xs ≡ true → put_after name e xs ≡ insert xs (position_or_len (is_named name) xs + 1) e)
        → put_after name e (x ∷ xs) ≡ insert (x ∷ xs) (position_or_len (is_named name) (x ∷ xs) + 1) e
    by_test true t h ih = rw t refl
    by_test false t h ih = let rest : list_any (is_named name) xs ≡ true = cc in
        rw t (ap (λ ys. x ∷ ys) (ih rest) ∙ sym (insert_next x xs (position_or_len (is_named name) xs + 1) e)
        ∙ ap (λ k. insert (x ∷ xs) k e) (next (position_or_len (is_named name) xs)))

-- ---- names of policies

-- the faults of an entry after others: its name is none of theirs, and alone it has no fault either
entry_new : (before : List SpdEntry) (e : SpdEntry) → entry_fault before e ≡ None → list_any (is_named e.name) before ≡ false
unfolding entry_fault
entry_new before e h = (no_fault _ _ _ h).0

pub entry_alone : (before : List SpdEntry) (e : SpdEntry) → entry_fault before e ≡ None → entry_fault [] e ≡ None
unfolding entry_fault
entry_alone before e h = (no_fault _ _ _ h).1

pub at_end : {X : Type 0} (p : X → Bool) (xs : List X) (x : X) → p x ≡ true → list_any p (xs ++ x ∷ []) ≡ true
at_end p [] x h = rw h refl
at_end p (y ∷ ys) x h = let ih = at_end p ys x h in grind (arith, ih)

sooner : {X : Type 0} (p : X → Bool) (xs : List X) (x : X) → list_any p xs ≡ true → list_any p (xs ++ x ∷ []) ≡ true
sooner p [] x h = cc
sooner p (y ∷ ys) x h = by_test (p y) refl h (sooner p ys x)
  where
    by_test : (b : Bool) → p y ≡ b → list_any p (y ∷ ys) ≡ true → (list_any p ys ≡ true → list_any p (ys ++ x ∷ []) ≡ true)
        → list_any p ((y ∷ ys) ++ x ∷ []) ≡ true
    by_test true t g ih = rw t refl
    by_test false t g ih = let rest : list_any p ys ≡ true = cc in rw t (ih rest)

-- a name that stood before doesn't stand in what comes after
pub no_more : (name : List ℕ) (before es : List SpdEntry) → list_any (is_named name) before ≡ true → entries_fault before es ≡ None
    → list_any (is_named name) es ≡ false
no_more name before [] there h = refl
no_more name before (e ∷ es) there h =
    let parts = first_none (entry_fault before e) (entries_fault (before ++ e ∷ []) es) h in
    by_test (is_named name e) refl (entry_new before e parts.0) (no_more name (before ++ e ∷ []) es (sooner (is_named name) before e there)
    parts.1)
  where
    by_test : (b : Bool) → is_named name e ≡ b → list_any (is_named e.name) before ≡ false → list_any (is_named name) es ≡ false
        → list_any (is_named name) (e ∷ es) ≡ false
    by_test true t new rest =
        let same : e.name ≡ name = (bytes_eq-Decides e.name name).0 t in
        let old : list_any (is_named e.name) before ≡ true = rw same there in
        let wrong : true ≡ false = sym old ∙ new in let none : ⊥ = cc in absurd none
    by_test false t new rest = rw t rest

policies_once : (name : List ℕ) (before es : List SpdEntry) → entries_fault before es ≡ None → at_most_once (is_named name) es ≡ true
policies_once name before [] h = refl
policies_once name before (e ∷ es) h =
    let parts = first_none (entry_fault before e) (entries_fault (before ++ e ∷ []) es) h in
    by_test (is_named name e) refl (policies_once name (before ++ e ∷ []) es parts.1) parts.1
  where
    by_test : (b : Bool) → is_named name e ≡ b → at_most_once (is_named name) es ≡ true → entries_fault (before ++ e ∷ []) es ≡ None
        → at_most_once (is_named name) (e ∷ es) ≡ true
    by_test true t rest after = rw (t, no_more name (before ++ e ∷ []) es (at_end (is_named name) before e t) after) refl
    by_test false t rest after = rw t rest

-- in a list without a fault a name stands at most once
pub policy_once : (name : List ℕ) (list : List SpdEntry) → spd_fault list ≡ None → at_most_once (is_named name) list ≡ true
policy_once name list h = policies_once name [] list (unfaulted list h)

alone_of : (e : SpdEntry) → entry_fault [] e ≡ None → spd_fault (e ∷ []) ≡ None
unfolding spd_fault
alone_of e h = rw h refl

found_passed : (p : SpdEntry → Bool) (before es : List SpdEntry) (e : SpdEntry) → entries_fault before es ≡ None → find p es ≡ Some e
    → entry_fault [] e ≡ None
found_passed p before [] e h found = cc
found_passed p before (x ∷ xs) e h found =
    let parts = first_none (entry_fault before x) (entries_fault (before ++ x ∷ []) xs) h in
    by_test (p x) refl found (entry_alone before x parts.0) (λ rest. found_passed p (before ++ x ∷ []) xs e parts.1 rest)
  where
    by_test : (b : Bool) → p x ≡ b → find p (x ∷ xs) ≡ Some e → entry_fault [] x ≡ None → (find p xs ≡ Some e → entry_fault [] e ≡ None)
        → entry_fault [] e ≡ None
    by_test true t f here ih =
        let same : Some x ≡ Some e = cc in
        let eq : x ≡ e = cc in
        subst (λ y. entry_fault [] y ≡ None) eq here
    by_test false t f here ih =
        let rest : find p xs ≡ Some e = cc in
        ih rest

-- an entry that is found in a list without a fault has none alone
pub policy_found : (p : SpdEntry → Bool) (list : List SpdEntry) (e : SpdEntry) → spd_fault list ≡ None → find p list ≡ Some e
    → spd_fault (e ∷ []) ≡ None
policy_found p list e h found = alone_of e (found_passed p [] list e (unfaulted list h) found)

-- ---- names of halves

pub half_once : (name : List ℕ) (rows : List SadRow) → AreDistinct rows → at_most_once (is_row name) rows ≡ true
half_once name [] h = refl
half_once name (r ∷ rows) h = by_test (is_row name r) refl h (half_once name rows h.1)
  where
    by_test : (b : Bool) → is_row name r ≡ b → AreDistinct (r ∷ rows) → at_most_once (is_row name) rows ≡ true
        → at_most_once (is_row name) (r ∷ rows) ≡ true
    by_test true t d rest =
        let same : r.entry.name ≡ name = (bytes_eq-Decides r.entry.name name).0 t in
        let none : list_any (is_row name) rows ≡ false = subst (λ n. list_any (is_row n) rows ≡ false) same d.0 in
        rw (t, none) refl
    by_test false t d rest = rw t rest

pub half_found : (p : SadRow → Bool) (rows : List SadRow) (r : SadRow) → ArePassed rows → find p rows ≡ Some r → sad_fault r.entry ≡ None
half_found p [] r h found = cc
half_found p (x ∷ xs) r h found = by_test (p x) refl found h.0 (half_found p xs r h.1)
  where
    by_test : (b : Bool) → p x ≡ b → find p (x ∷ xs) ≡ Some r → sad_fault x.entry ≡ None → (find p xs ≡ Some r → sad_fault r.entry ≡ None)
        → sad_fault r.entry ≡ None
    by_test true t f g ih =
        let same : Some x ≡ Some r = cc in
        let eq : x ≡ r = cc in
        subst (λ (y : SadRow). sad_fault y.entry ≡ None) eq g
    by_test false t f g ih =
        let rest : find p xs ≡ Some r = cc in
        ih rest
