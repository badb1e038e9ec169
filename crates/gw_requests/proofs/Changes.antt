-- What a gateway keeps is databases without a fault, and what a reply changes of them has its place.
use Rattle.std.proofs.Common.{◌≡◌, ℕ, suc, ◌≤◌, ◌==◌, not, ◌&&◌, Bool, true, false, List, [], ◌∷◌, ◌++◌, length, map, None, nat_le, refl, sym, ap, subst, ◌∙◌}
use Rattle.std.specs.List.{list_any}
use Rattle.std.specs.Str.{bytes_eq}
use Rattle.std.proofs.lemmas.Bool.{and_parts}
use Rattle.ikeless_tree.specs.Check.{sad_fault}
use Rattle.ikeless_tree.specs.Half.{is_inbound}
use Rattle.ikeless_tree.specs.declared.sad.SadEntry.{SadEntry}
use Rattle.ikeless_tree.specs.declared.sad.SadRow.{SadRow}
use Rattle.ikeless_tree.specs.declared.sad.Tree.{Tree}
use Rattle.json_tree.specs.SadEntryWritten.{ArePassed}
use Rattle.reply_table.specs.declared.ask.Ask.{Ask}
use Rattle.reply_table.specs.declared.ask.Change.{Change}
use Rattle.reply_table.specs.declared.ask.Change.TheVariants as changes
use Rattle.reply_table.specs.Reply as table
use Rattle.rc_resource.specs.Lists.{AreDistinct, IsTree}
use Rattle.sad_store.specs.declared.half.Half.{Half}
use Rattle.sad_store.specs.Halves.{has_half_named, is_half_of_spi, is_spi_taken, names_of}
use Rattle.sad_store.specs.Install.{install_fault}
use Rattle.sad_store.specs.Kept.{are_names_apart}
use Rattle.hist_gateway.specs.Machine.{row_from}
use Rattle.gw_tables.specs.Kept.{Kept, tree_of}
use Rattle.gw_tables.specs.Sound.{AreHalves, IsSound}
use Rattle.gw_requests.specs.Requests.{MayChange}

-- ---- databases

any-of : {X Y : Type 0} (p : Y → Bool) (f : X → Y) (xs : List X) → list_any p (map f xs) ≡ list_any (λ x. p (f x)) xs
any-of p f [] = refl
any-of p f (x ∷ xs) = by-test (p (f x)) refl (any-of p f xs)
  where
    by-test : (b : Bool) → p (f x) ≡ b → list_any p (map f xs) ≡ list_any (λ y. p (f y)) xs
        → list_any p (map f (x ∷ xs)) ≡ list_any (λ y. p (f y)) (x ∷ xs)
    by-test true t ih = rw t refl
    by-test false t ih = rw t ih

count-of : {X Y : Type 0} (f : X → Y) (xs : List X) → length (map f xs) ≡ length xs
count-of f [] = refl
count-of f (x ∷ xs) = ap (λ n. suc n) (count-of f xs)

is-not : (b : Bool) → not b ≡ true → b ≡ false
is-not true h = sym h
is-not false h = refl

passed : (now : ℕ) (xs : List Half) → AreHalves xs → ArePassed (map (row_from now) xs)
passed now [] h = tt
passed now (x ∷ xs) h = (h.0.entry, passed now xs h.1)

distinct : (now : ℕ) (xs : List Half) → are_names_apart (names_of xs) ≡ true → AreDistinct (map (row_from now) xs)
distinct now [] h = tt
distinct now (x ∷ xs) h =
    let parts = and_parts (not (list_any (λ y. bytes_eq y x.entry.name) (names_of xs))) (are_names_apart (names_of xs)) h in
    let none = is-not (list_any (λ y. bytes_eq y x.entry.name) (names_of xs)) parts.0 in
    let rows = any-of (λ r. bytes_eq r.entry.name x.entry.name) (row_from now) xs in
    let names = any-of (λ y. bytes_eq y x.entry.name) (λ y. y.entry.name) xs in
    (rows ∙ (sym names ∙ none), distinct now xs parts.1)

-- what a gateway keeps is databases without a fault
pub is-tree : (k : Kept) → IsSound k → IsTree (tree_of k)
is-tree k s = record {
  policies = s.policies;
  halves = passed k.clock k.halves s.halves;
  few = subst (λ n. n ≤ 4096) (sym (count-of (row_from k.clock) k.halves)) s.few;
  distinct = distinct k.clock k.halves s.apart;
}

-- ---- changes

-- a half that fits the databases can be installed
free : (k : Kept) (e : SadEntry) → table.Fits (tree_of k) (changes.Put e) → install_fault e k.halves ≡ None
free k e fits =
    let name : has_half_named e.name k.halves ≡ false = sym (any-of (table.is_row e.name) (row_from k.clock) k.halves) ∙ fits.0 in
    let spis = any-of (λ r. is_inbound r.entry.name && (r.entry.spi == e.spi)) (row_from k.clock) k.halves in
    let spi : is_spi_taken e k.halves ≡ false = ap (λ b. is_inbound e.name && b) (sym spis) ∙ fits.1 in
    let full : nat_le 4096 (length k.halves) ≡ false = ap (λ n. nat_le 4096 n) (sym (count-of (row_from k.clock) k.halves)) ∙ fits.2 in
    rw (name, spi, full) refl

last-passed : (rows : List SadRow) (r : SadRow) → ArePassed (rows ++ r ∷ []) → sad_fault r.entry ≡ None
last-passed [] r h = h.0
last-passed (x ∷ rows) r h = last-passed rows r h.1

by-change : (k : Kept) (r : table.Outcome) (c : Change) → table.Fits (tree_of k) c → table.Makes (tree_of k) r c → IsTree r.tree
    → MayChange r.tree.spd c k
by-change k r changes.Nothing fits makes sound = tt
by-change k r changes.Spd fits makes sound = sound.policies
by-change k r (changes.Put e) fits makes sound =
    let rows : r.tree.sad ≡ (tree_of k).sad ++ table.new_row e ∷ [] = ap (λ t. t.sad) makes.1 in
    (last-passed (tree_of k).sad (table.new_row e) (subst ArePassed rows sound.halves), free k e fits)
by-change k r (changes.Gone name) fits makes sound = tt

-- a reply changes nothing without a place, where the databases after it have no fault
pub may-change : ((t : Tree) (a : Ask) → table.Fits t (table.reply t a).change)
    → ((t : Tree) (a : Ask) → table.Makes t (table.reply t a) (table.reply t a).change) →
    (k : Kept) (a : Ask) → IsTree (table.reply (tree_of k) a).tree
    → MayChange (table.reply (tree_of k) a).tree.spd (table.reply (tree_of k) a).change k
may-change fit make k a sound = by-change k (table.reply (tree_of k) a) (table.reply (tree_of k) a).change (fit (tree_of k) a)
    (make (tree_of k) a) sound
