-- What always holds of what a gateway keeps.
use Rattle.std.specs.Prelude.{◌≡◌, ◌<◌, ◌≤◌, true, List, [], ◌∷◌, length, None}
use Rattle.ikeless_tree.specs.Check.{spd_fault, sad_fault}
use Rattle.sad_store.specs.declared.half.Half.{Half}
use Rattle.sad_store.specs.Halves.{names_of}
use Rattle.sad_store.specs.Kept.{are_names_apart}
use Rattle.gw_tables.specs.Kept.{Kept}

-- its entry has no fault, its window is of the entry's size, and its numbers fit the field of ESP
pub record IsHalf (x : Half) : Type 0 where
  pub entry : sad_fault x.entry ≡ None
  pub window : x.window.size ≡ x.entry.window
  pub sent : x.sent < 4294967296

-- so are all the halves
abbrev pub AreHalves : List Half → Type 0
AreHalves [] = Unit {0}
AreHalves (x ∷ xs) = IsHalf x × AreHalves xs

-- policies without a fault, distinct names of sound halves, 4,096 at most, and 64 SPIs at most
pub record IsSound (k : Kept) : Type 0 where
  pub policies : spd_fault k.spd ≡ None
  pub halves : AreHalves k.halves
  pub apart : are_names_apart (names_of k.halves) ≡ true
  pub few : length k.halves ≤ 4096
  pub bad_spis : length k.bad_spis ≤ 64
