-- What is done keeps databases without a fault.
use Rattle.std.proofs.Common.{◌≡◌, ℕ, ◌+◌, ◌<◌, ◌≤◌, not, ◌&&◌, List, [], ◌∷◌, ◌++◌, Bool, true, false, length, map, Option, Some, None, Result, Ok, Err, OnOk, OnErr, refl, ap, sym, ◌∙◌, arith, nat_lt, cond, subst, ltb-false, le-ltb, leb-false, ◌⊎◌, inl, inr}
use Rattle.std.specs.List.{list_any, filter, find}
use Rattle.ikeless_tree.specs.Half.{is_inbound}
use Rattle.std.specs.Str.{bytes_eq}
use Rattle.ikeless_tree.specs.declared.entry.SpdEntry.{SpdEntry}
use Rattle.ikeless_tree.specs.declared.sad.SadEntry.{SadEntry}
use Rattle.ikeless_tree.specs.declared.sad.SadRow.{SadRow}
use Rattle.ikeless_tree.specs.declared.sad.Tree.{Tree}
use Rattle.ikeless_tree.specs.Check.{is_named, entry_fault, entries_fault, spd_fault, sad_fault}
use Rattle.json_tree.specs.SadEntryWritten.{ArePassed}
use Rattle.json_tree.proofs.Passed.{no_fault, first_none}
use Rattle.json_tree.proofs.PolicyAgain.{unfaulted}
use Rattle.rc_resource.proofs.NameLemmas.{at_end, entry_alone, no_more}
use Rattle.reply_table.specs.declared.ask.Ask.{Ask}
use Rattle.reply_table.specs.declared.ask.Ask.TheVariants as asks
use Rattle.reply_table.specs.declared.ask.Place.{Place}
use Rattle.reply_table.specs.declared.ask.Place.TheVariants as places
use Rattle.reply_table.specs.Reply.{delete_sad, delete_spd_entry, has_point, has_policy, has_spi, is_row, is_sad_full, is_spd_full, new_row, post_sad, post_spd, put_after, put_at, put_before, put_spd_entry, replaced, reply, show_half, show_policy, without_policy, with_spd}
use Rattle.rc_request.specs.Asks.{IsAsk}
use Rattle.rc_resource.specs.Lists.{AreApart, IsTree}
use Rattle.std.proofs.lemmas.Slice.Eq.{bytes_eq-Decides}

bytes_eq_sym : (a b : List ℕ) → bytes_eq a b ≡ false → bytes_eq b a ≡ false
bytes_eq_sym a b h = by_test (bytes_eq b a) refl
  where
    by_test : (t : Bool) → bytes_eq b a ≡ t → bytes_eq b a ≡ false
    by_test false e = e
    by_test true e =
        let same : b ≡ a = (bytes_eq-Decides b a).0 e in
        let wrong : true ≡ false = sym ((bytes_eq-Decides a b).1 (sym same)) ∙ h in
        let none : ⊥ = cc in absurd none

-- ---- a list with one more element somewhere

abbrev Inserted : {X : Type 0} → X → List X → List X → Type 0
Inserted e [] ys = ys ≡ e ∷ []
Inserted {X} e (x ∷ xs) ys = (ys ≡ e ∷ x ∷ xs) ⊎ ((zs : List X) × (ys ≡ x ∷ zs) × Inserted e xs zs)

inserted_first : {X : Type 0} (e : X) (xs : List X) → Inserted e xs (e ∷ xs)
inserted_first e [] = refl
inserted_first e (x ∷ xs) = inl refl

inserted_last : {X : Type 0} (e : X) (xs : List X) → Inserted e xs (xs ++ e ∷ [])
inserted_last e [] = refl
inserted_last e (x ∷ xs) = inr (xs ++ e ∷ [], refl, inserted_last e xs)

inserted_before : (name : List ℕ) (e : SpdEntry) (xs : List SpdEntry) → Inserted e xs (put_before name e xs)
inserted_before name e [] = refl
inserted_before name e (x ∷ xs) = by_test (is_named name x) refl (inserted_before name e xs)
  where
    by_test : (b : Bool) → is_named name x ≡ b → Inserted e xs (put_before name e xs) → Inserted e (x ∷ xs) (put_before name e (x ∷ xs))
    by_test true t ih = inl (rw t refl)
    by_test false t ih = inr (put_before name e xs, rw t refl, ih)

inserted_after : (name : List ℕ) (e : SpdEntry) (xs : List SpdEntry) → Inserted e xs (put_after name e xs)
inserted_after name e [] = refl
inserted_after name e (x ∷ xs) = by_test (is_named name x) refl (inserted_after name e xs)
  where
    by_test : (b : Bool) → is_named name x ≡ b → Inserted e xs (put_after name e xs) → Inserted e (x ∷ xs) (put_after name e (x ∷ xs))
    by_test true t ih = inr (e ∷ xs, rw t refl, inserted_first e xs)
    by_test false t ih = inr (put_after name e xs, rw t refl, ih)

inserted_at : (place : Place) (e : SpdEntry) (xs : List SpdEntry) → Inserted e xs (put_at place e xs)
inserted_at places.First e xs = inserted_first e xs
inserted_at places.Last e xs = inserted_last e xs
inserted_at (places.Before name) e xs = inserted_before name e xs
inserted_at (places.After name) e xs = inserted_after name e xs

inserted_length : {X : Type 0} (e : X) (xs ys : List X) → Inserted e xs ys → length ys ≡ length xs + 1
inserted_length e [] ys i = ap length i
inserted_length e (x ∷ xs) ys (inl s) = rw s (omega arith)
inserted_length e (x ∷ xs) ys (inr s) = let ih = inserted_length e xs s.0 s.2 in let l : length ys ≡ length (x ∷ s.0) = ap length s.1 in
    l ∙ omega (arith, ih)

none_here : {X : Type 0} (p : X → Bool) (x : X) (xs : List X) → list_any p (x ∷ xs) ≡ false → (p x ≡ false) × (list_any p xs ≡ false)
none_here p x xs h = by_test (p x) refl
  where
    by_test : (b : Bool) → p x ≡ b → (p x ≡ false) × (list_any p xs ≡ false)
    by_test true t = let wrong : ⊥ = cc in absurd wrong
    by_test false t = (t, cc)

inserted_none : {X : Type 0} (p : X → Bool) (e : X) (xs ys : List X) → Inserted e xs ys → p e ≡ false → list_any p xs ≡ false
    → list_any p ys ≡ false
inserted_none p e [] ys i h none = rw (i, h) refl
inserted_none p e (x ∷ xs) ys (inl s) h none = rw (s, h) none
inserted_none p e (x ∷ xs) ys (inr s) h none =
    let parts = none_here p x xs none in
    rw (s.1, parts.0) (inserted_none p e xs s.0 s.2 h parts.1)

inserted_apart : {X : Type 0} (name : X → List ℕ) (e : X) (xs ys : List X) → Inserted e xs ys
    → list_any (λ y. bytes_eq (name y) (name e)) xs ≡ false → AreApart name xs → AreApart name ys
inserted_apart name e [] ys i new apart = subst (AreApart name) (sym i) (refl, tt)
inserted_apart name e (x ∷ xs) ys (inl s) new apart = subst (AreApart name) (sym s) (new, apart)
inserted_apart name e (x ∷ xs) ys (inr s) new apart =
    let parts = none_here (λ y. bytes_eq (name y) (name e)) x xs new in
    subst (AreApart name) (sym s.1) (
      inserted_none (λ y. bytes_eq (name y) (name x)) e xs s.0 s.2 (bytes_eq_sym (name x) (name e) parts.0) apart.0,
      inserted_apart name e xs s.0 s.2 parts.1 apart.1,
    )

-- ---- a list with elements replaced, and one with elements left out

replaced_names : (n : List ℕ) (e : SpdEntry) (xs : List SpdEntry) → list_any (is_named n) (replaced e xs) ≡ list_any (is_named n) xs
replaced_names n e [] = refl
replaced_names n e (x ∷ xs) = by_test (is_named e.name x) refl (replaced_names n e xs)
  where
    by_test : (b : Bool) → is_named e.name x ≡ b → list_any (is_named n) (replaced e xs) ≡ list_any (is_named n) xs
        → list_any (is_named n) (replaced e (x ∷ xs)) ≡ list_any (is_named n) (x ∷ xs)
    by_test true t ih = let same : x.name ≡ e.name = (bytes_eq-Decides x.name e.name).0 t in rw (t, same, ih) refl
    by_test false t ih = rw (t, ih) refl

map_length : {X Y : Type 0} (f : X → Y) (xs : List X) → length (map f xs) ≡ length xs
map_length f [] = refl
map_length f (x ∷ xs) = let ih = map_length f xs in grind (arith, ih)

replaced_apart : (e : SpdEntry) (xs : List SpdEntry) → AreApart (λ x. x.name) xs → AreApart (λ x. x.name) (replaced e xs)
replaced_apart e [] apart = tt
replaced_apart e (x ∷ xs) apart = by_test (is_named e.name x) refl (replaced_apart e xs apart.1)
  where
    by_test : (b : Bool) → is_named e.name x ≡ b → AreApart (λ x. x.name) (replaced e xs) → AreApart (λ x. x.name) (replaced e (x ∷ xs))
    by_test true t ih =
        let same : x.name ≡ e.name = (bytes_eq-Decides x.name e.name).0 t in
        rw t (replaced_names e.name e xs ∙ subst (λ n. list_any (is_named n) xs ≡ false) same apart.0, ih)
    by_test false t ih = rw t (replaced_names x.name e xs ∙ apart.0, ih)

left_out_none : {X : Type 0} (p q : X → Bool) (xs : List X) → list_any p xs ≡ false → list_any p (filter q xs) ≡ false
left_out_none p q [] none = refl
left_out_none p q (x ∷ xs) none = let parts = none_here p x xs none in by_test (q x) refl (left_out_none p q xs parts.1) parts.0
  where
    by_test : (b : Bool) → q x ≡ b → list_any p (filter q xs) ≡ false → p x ≡ false → list_any p (filter q (x ∷ xs)) ≡ false
    by_test true t ih here = rw (t, here) ih
    by_test false t ih here = rw t ih

left_out_apart : {X : Type 0} (name : X → List ℕ) (q : X → Bool) (xs : List X) → AreApart name xs → AreApart name (filter q xs)
left_out_apart name q [] apart = tt
left_out_apart name q (x ∷ xs) apart = by_test (q x) refl (left_out_apart name q xs apart.1)
  where
    by_test : (b : Bool) → q x ≡ b → AreApart name (filter q xs) → AreApart name (filter q (x ∷ xs))
    by_test true t ih = rw t (left_out_none (λ y. bytes_eq (name y) (name x)) q xs apart.0, ih)
    by_test false t ih = rw t ih

left_out_length : {X : Type 0} (q : X → Bool) (xs : List X) → length (filter q xs) ≤ length xs
left_out_length q [] = omega arith
left_out_length q (x ∷ xs) = by_test (q x) refl (left_out_length q xs)
  where
    by_test : (b : Bool) → q x ≡ b → length (filter q xs) ≤ length xs → length (filter q (x ∷ xs)) ≤ length (x ∷ xs)
    by_test true t ih = rw t (omega (arith, ih))
    by_test false t ih = rw t (omega (arith, ih))

-- ---- policies

-- each entry has no fault alone
abbrev AreAlone : List SpdEntry → Type 0
AreAlone [] = Unit {0}
AreAlone (e ∷ es) = (entry_fault [] e ≡ None) × AreAlone es

inserted_alone : (e : SpdEntry) (xs ys : List SpdEntry) → Inserted e xs ys → entry_fault [] e ≡ None → AreAlone xs → AreAlone ys
inserted_alone e [] ys i h alone = subst AreAlone (sym i) (h, tt)
inserted_alone e (x ∷ xs) ys (inl s) h alone = subst AreAlone (sym s) (h, alone)
inserted_alone e (x ∷ xs) ys (inr s) h alone = subst AreAlone (sym s.1) (alone.0, inserted_alone e xs s.0 s.2 h alone.1)

replaced_alone : (e : SpdEntry) (xs : List SpdEntry) → entry_fault [] e ≡ None → AreAlone xs → AreAlone (replaced e xs)
replaced_alone e [] h alone = tt
replaced_alone e (x ∷ xs) h alone = by_test (is_named e.name x) refl (replaced_alone e xs h alone.1)
  where
    by_test : (b : Bool) → is_named e.name x ≡ b → AreAlone (replaced e xs) → AreAlone (replaced e (x ∷ xs))
    by_test true t ih = rw t (h, ih)
    by_test false t ih = rw t (alone.0, ih)

left_out_alone : (q : SpdEntry → Bool) (xs : List SpdEntry) → AreAlone xs → AreAlone (filter q xs)
left_out_alone q [] alone = tt
left_out_alone q (x ∷ xs) alone = by_test (q x) refl (left_out_alone q xs alone.1)
  where
    by_test : (b : Bool) → q x ≡ b → AreAlone (filter q xs) → AreAlone (filter q (x ∷ xs))
    by_test true t ih = rw t (alone.0, ih)
    by_test false t ih = rw t ih

-- a list without a fault: few entries, each without one alone, and no two of one name
alone_in : (before es : List SpdEntry) → entries_fault before es ≡ None → AreAlone es
alone_in before [] h = tt
alone_in before (e ∷ es) h =
    let parts = first_none (entry_fault before e) (entries_fault (before ++ e ∷ []) es) h in
    (entry_alone before e parts.0, alone_in (before ++ e ∷ []) es parts.1)

apart_in : (before es : List SpdEntry) → entries_fault before es ≡ None → AreApart (λ x. x.name) es
apart_in before [] h = tt
apart_in before (e ∷ es) h =
    let parts = first_none (entry_fault before e) (entries_fault (before ++ e ∷ []) es) h in (
      no_more e.name (before ++ e ∷ []) es (at_end (is_named e.name) before e ((bytes_eq-Decides e.name e.name).1 refl)) parts.1,
      apart_in
          (before ++ e ∷ []) es parts.1,
    )

-- no entry has the name of one before it
abbrev AreNew : List SpdEntry → List SpdEntry → Type 0
AreNew before [] = Unit {0}
AreNew before (e ∷ es) = (list_any (is_named e.name) before ≡ false) × AreNew before es

none_behind : {X : Type 0} (p : X → Bool) (xs : List X) (x : X) → list_any p xs ≡ false → p x ≡ false → list_any p (xs ++ x ∷ []) ≡ false
none_behind p xs x none h = inserted_none p x xs (xs ++ x ∷ []) (inserted_last x xs) h none

still_new : (before : List SpdEntry) (e : SpdEntry) (es : List SpdEntry) → AreNew before es → list_any (is_named e.name) es ≡ false
    → AreNew (before ++ e ∷ []) es
still_new before e [] new none = tt
still_new before e (x ∷ xs) new none =
    let parts = none_here (is_named e.name) x xs none in
    (none_behind (is_named x.name) before e new.0 (bytes_eq_sym x.name e.name parts.0), still_new before e xs new.1 parts.1)

entry_passes : (before : List SpdEntry) (e : SpdEntry) → list_any (is_named e.name) before ≡ false → entry_fault [] e ≡ None
    → entry_fault before e ≡ None
unfolding entry_fault
entry_passes before e new alone = rw new alone

entries_pass : (before es : List SpdEntry) → AreAlone es → AreApart (λ x. x.name) es → AreNew before es → entries_fault before es ≡ None
entries_pass before [] alone apart new = refl
entries_pass before (e ∷ es) alone apart new =
    rw (entry_passes before e new.0 alone.0) (entries_pass (before ++ e ∷ []) es alone.1 apart.1 (still_new before e es new.1 apart.0))

nothing_before : (es : List SpdEntry) → AreNew [] es
nothing_before [] = tt
nothing_before (e ∷ es) = (refl, nothing_before es)

record Passes (list : List SpdEntry) : Type 0 where
  few : length list ≤ 256
  alone : AreAlone list
  apart : AreApart (λ x. x.name) list

few_of : (list : List SpdEntry) → spd_fault list ≡ None → length list ≤ 256
unfolding spd_fault
few_of list h = let few : nat_lt 256 (length list) ≡ false = (no_fault _ _ _ h).0 in ltb-false 256 (length list) few

passes : (list : List SpdEntry) → spd_fault list ≡ None → Passes list
passes list h =
    let es = unfaulted list h in
    record { few = few_of list h; alone = alone_in [] list es; apart = apart_in [] list es }

passed : (list : List SpdEntry) → Passes list → spd_fault list ≡ None
unfolding spd_fault
passed list p =
    let few : nat_lt 256 (length list) ≡ false = le-ltb 256 (length list) p.few in
    rw few (entries_pass [] list p.alone p.apart (nothing_before list))

-- ---- what is done to the policies

with_policies : (t : Tree) (list : List SpdEntry) → IsTree t → Passes list → IsTree (with_spd t list)
with_policies t list tree p = record { policies = passed list p; halves = tree.halves; few = tree.few; distinct = tree.distinct }

one_passes : (e : SpdEntry) → spd_fault (e ∷ []) ≡ None → entry_fault [] e ≡ None
one_passes e h = (passes (e ∷ []) h).alone.0

inserted_passes : (e : SpdEntry) (list more : List SpdEntry) → spd_fault (e ∷ []) ≡ None → spd_fault list ≡ None → Inserted e list more
    → list_any (is_named e.name) list ≡ false → length list < 256 → Passes more
inserted_passes e list more ask rules there new room =
    let p = passes list rules in
    let size = inserted_length e list more there in
    record {
      few = omega (arith, size, room);
      alone = inserted_alone e list more there (one_passes e ask) p.alone;
      apart = inserted_apart (λ x. x.name) e list more there new p.apart;
    }

pub post_keeps : (t : Tree) (e : SpdEntry) (place : Place) → IsTree t → spd_fault (e ∷ []) ≡ None → IsTree (post_spd t e place).tree
post_keeps t e place tree ask = by_name (has_policy e.name t.spd) refl
  where
    by_point : (b : Bool) → has_point place t.spd ≡ b → has_policy e.name t.spd ≡ false → is_spd_full t.spd ≡ false
        → IsTree (post_spd t e place).tree
    by_point false p n f = rw (n, f, p) tree
    by_point true p n f =
        rw (n, f, p) (with_policies t (put_at place e t.spd) tree
        (inserted_passes e t.spd (put_at place e t.spd) ask tree.policies (inserted_at place e t.spd) n (leb-false 256 (length t.spd) f)))

    by_room : (b : Bool) → is_spd_full t.spd ≡ b → has_policy e.name t.spd ≡ false → IsTree (post_spd t e place).tree
    by_room true f n = rw (n, f) tree
    by_room false f n = by_point (has_point place t.spd) refl n f

    by_name : (b : Bool) → has_policy e.name t.spd ≡ b → IsTree (post_spd t e place).tree
    by_name true n = rw n tree
    by_name false n = by_room (is_spd_full t.spd) refl n

pub put_keeps : (t : Tree) (e : SpdEntry) → IsTree t → spd_fault (e ∷ []) ≡ None → IsTree (put_spd_entry t e).tree
put_keeps t e tree ask = by_name (has_policy e.name t.spd) refl
  where
    by_room : (b : Bool) → is_spd_full t.spd ≡ b → has_policy e.name t.spd ≡ false → IsTree (put_spd_entry t e).tree
    by_room true f n = rw (n, f) tree
    by_room false f n =
        rw (n, f) (with_policies t (t.spd ++ e ∷ []) tree
        (inserted_passes e t.spd (t.spd ++ e ∷ []) ask tree.policies (inserted_last e t.spd) n (leb-false 256 (length t.spd) f)))

    by_name : (b : Bool) → has_policy e.name t.spd ≡ b → IsTree (put_spd_entry t e).tree
    by_name true n =
        let p = passes t.spd tree.policies in
        let size : length (replaced e t.spd) ≡ length t.spd = map_length (λ x. cond (is_named e.name x) e x) t.spd in
        let few = p.few in
        rw n (with_policies t (replaced e t.spd) tree (record {
          few = omega (arith, size, few);
          alone = replaced_alone e t.spd (one_passes e ask) p.alone;
          apart = replaced_apart e t.spd p.apart;
        }))
    by_name false n = by_room (is_spd_full t.spd) refl n

pub delete_keeps : (t : Tree) (name : List ℕ) → IsTree t → IsTree (delete_spd_entry t name).tree
delete_keeps t name tree = by_name (has_policy name t.spd) refl
  where
    by_name : (b : Bool) → has_policy name t.spd ≡ b → IsTree (delete_spd_entry t name).tree
    by_name true n =
        let p = passes t.spd tree.policies in
        let size = left_out_length (λ x. not (is_named name x)) t.spd in
        let few = p.few in
        rw n (with_policies t (without_policy name t.spd) tree (record {
          few = omega (arith, size, few);
          alone = left_out_alone (λ x. not (is_named name x)) t.spd p.alone;
          apart = left_out_apart (λ x. x.name) (λ x. not (is_named name x)) t.spd p.apart;
        }))
    by_name false n = rw n tree

-- ---- what is done to the halves

new_passed : (rows : List SadRow) (r : SadRow) → ArePassed rows → sad_fault r.entry ≡ None → ArePassed (rows ++ r ∷ [])
new_passed [] r rules h = (h, tt)
new_passed (x ∷ xs) r rules h = (rules.0, new_passed xs r rules.1 h)

left_out_passed : (q : SadRow → Bool) (rows : List SadRow) → ArePassed rows → ArePassed (filter q rows)
left_out_passed q [] rules = tt
left_out_passed q (x ∷ xs) rules = by_test (q x) refl (left_out_passed q xs rules.1)
  where
    by_test : (b : Bool) → q x ≡ b → ArePassed (filter q xs) → ArePassed (filter q (x ∷ xs))
    by_test true t ih = rw t (rules.0, ih)
    by_test false t ih = rw t ih

pub install_keeps : (t : Tree) (e : SadEntry) → IsTree t → sad_fault e ≡ None → IsTree (post_sad t e).tree
install_keeps t e tree ask = by_name (list_any (is_row e.name) t.sad) refl
  where
    by_room : (b : Bool) → is_sad_full t.sad ≡ b → (is_inbound e.name && has_spi e.spi t.sad) ≡ false
        → list_any (is_row e.name) t.sad ≡ false → IsTree (post_sad t e).tree
    by_room true f s n = rw (n, s, f) tree
    by_room false f s n =
        let size = inserted_length (new_row e) t.sad (t.sad ++ new_row e ∷ []) (inserted_last (new_row e) t.sad) in
        let room = leb-false 4096 (length t.sad) f in
        rw (n, s, f) (record {
          policies = tree.policies;
          halves = new_passed t.sad (new_row e) tree.halves ask;
          few = omega (arith, size, room);
          distinct = inserted_apart (λ r. r.entry.name) (new_row e) t.sad (t.sad ++ new_row e ∷ []) (inserted_last (new_row e) t.sad) n
              tree.distinct;
        })

    by_spi : (b : Bool) → (is_inbound e.name && has_spi e.spi t.sad) ≡ b → list_any (is_row e.name) t.sad ≡ false
        → IsTree (post_sad t e).tree
    by_spi true s n = rw (n, s) tree
    by_spi false s n = by_room (is_sad_full t.sad) refl s n

    by_name : (b : Bool) → list_any (is_row e.name) t.sad ≡ b → IsTree (post_sad t e).tree
    by_name true n = rw n tree
    by_name false n = by_spi (is_inbound e.name && has_spi e.spi t.sad) refl n

pub remove_keeps : (t : Tree) (name : List ℕ) → IsTree t → IsTree (delete_sad t name).tree
remove_keeps t name tree = by_name (list_any (is_row name) t.sad) refl
  where
    by_name : (b : Bool) → list_any (is_row name) t.sad ≡ b → IsTree (delete_sad t name).tree
    by_name true n =
        let size = left_out_length (λ r. not (is_row name r)) t.sad in
        let few = tree.few in
        rw n (record {
          policies = tree.policies;
          halves = left_out_passed (λ r. not (is_row name r)) t.sad tree.halves;
          few = omega (arith, size, few);
          distinct = left_out_apart (λ r. r.entry.name) (λ r. not (is_row name r)) t.sad tree.distinct;
        })
    by_name false n = rw n tree

-- ---- replies

policy_shown : (t : Tree) (found : Option SpdEntry) → IsTree t → IsTree (show_policy t found).tree
policy_shown t None tree = tree
policy_shown t (Some e) tree = tree

half_shown : (t : Tree) (found : Option SadRow) → IsTree t → IsTree (show_half t found).tree
half_shown t None tree = tree
half_shown t (Some r) tree = tree

pub keeps : (t : Tree) (a : Ask) → IsTree t → IsAsk a → IsTree (reply t a).tree
unfolding reply
keeps t asks.GetSpd tree ask = tree
keeps t (asks.PutSpd list) tree ask = with_policies t list tree (passes list ask)
keeps t (asks.PostSpd e place) tree ask = post_keeps t e place tree ask
keeps t (asks.GetSpdEntry name) tree ask = policy_shown t (find (is_named name) t.spd) tree
keeps t (asks.PutSpdEntry e) tree ask = put_keeps t e tree ask
keeps t (asks.DeleteSpdEntry name) tree ask = delete_keeps t name tree
keeps t asks.GetSad tree ask = tree
keeps t (asks.PostSad e) tree ask = install_keeps t e tree ask
keeps t (asks.GetSadEntry name) tree ask = half_shown t (find (is_row name) t.sad) tree
keeps t (asks.DeleteSad name) tree ask = remove_keeps t name tree

-- what is done, or not done for want of memory, keeps them so
pub done_keeps : {A E : Type 0} (r : Result A E) (old new after : Tree) → OnOk r (new ≡ after) → OnErr r (new ≡ old) → IsTree old
    → IsTree after → IsTree new
done_keeps (Ok x) old new after done undone before then = subst IsTree (sym done) then
done_keeps (Err e) old new after done undone before then = subst IsTree (sym undone) before

-- databases without entries
pub empty_keeps : (t : Tree) → t.spd ≡ [] → t.sad ≡ [] → IsTree t
unfolding spd_fault
empty_keeps t spd sad = record {
  policies = rw spd refl;
  halves = rw sad tt;
  few = rw sad (omega arith);
  distinct = rw sad tt;
}
