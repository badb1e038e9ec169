-- Databases that a gateway can have, and places in them.
use Rattle.std.specs.Prelude.{◌≡◌, ℕ, ◌≤◌, ◌<◌, not, Bool, true, false, List, [], ◌∷◌, length, Option, Some, None, if◌then◌else◌}
use Rattle.std.specs.List.{list_any, insert, position_or_len}
use Rattle.std.specs.Str.{bytes_eq}
use Rattle.ikeless_tree.specs.declared.entry.SpdEntry.{SpdEntry}
use Rattle.ikeless_tree.specs.declared.sad.SadRow.{SadRow}
use Rattle.ikeless_tree.specs.declared.sad.Tree.{Tree}
use Rattle.ikeless_tree.specs.Check.{spd_fault}
use Rattle.json_tree.specs.SadEntryWritten.{ArePassed}
use Rattle.reply_table.specs.declared.ask.Place.{Place}
use Rattle.reply_table.specs.Reply.{has_point, put_at}

-- no two of these have one name
abbrev pub AreApart : {X : Type 0} → (X → List ℕ) → List X → Type 0
AreApart name [] = Unit {0}
AreApart name (x ∷ xs) = (list_any (λ y. bytes_eq (name y) (name x)) xs ≡ false) × AreApart name xs

-- no two halves have one name
abbrev pub AreDistinct : List SadRow → Type 0
AreDistinct rows = AreApart (λ r. r.entry.name) rows

-- databases without a fault, as a gateway has them
pub record IsTree (t : Tree) : Type 0 where
  pub policies : spd_fault t.spd ≡ None
  pub halves : ArePassed t.sad
  pub few : length t.sad ≤ 4096
  pub distinct : AreDistinct t.sad

-- the first element that passes, and no other
abbrev pub at_most_once : {X : Type 0} → (X → Bool) → List X → Bool
at_most_once p [] = true
at_most_once p (x ∷ xs) = if p x then not (list_any p xs) else at_most_once p xs

-- where the first element is that passes
abbrev pub IsFirst : {X : Type 0} → (X → Bool) → List X → Option ℕ → Type 0
IsFirst p xs None = list_any p xs ≡ false
IsFirst p xs (Some i) = (list_any p xs ≡ true) × (i < length xs) × (i ≡ position_or_len p xs)

-- where a new policy is put that is to stand at this place
abbrev pub IsIndexFor : Place → List SpdEntry → Option ℕ → Type 0
IsIndexFor place list None = has_point place list ≡ false
IsIndexFor place list (Some i) =
    (has_point place list ≡ true) × (i ≤ length list) × ((e : SpdEntry) → put_at place e list ≡ insert list i e)
