-- What the store keeps, with the indexes of its columns.
use Rattle.std.specs.Prelude.{◌≡◌, true, List}
use Rattle.sad_store.specs.declared.half.Half.{Half}
use Rattle.sad_store.specs.declared.column.KeyColumn.{KeyColumn}
use Rattle.sad_store.specs.Columns.{are_keys_apart, IsIndexed}
use Rattle.sad_store.specs.Kept.{IsKept}

-- the halves and their columns agree, no SPI stands twice, and each index gives the last place of a key
pub record IsStored (xs : List Half) (spis reqids : KeyColumn) : Type 0 where
  pub kept : IsKept xs spis.keys.items reqids.keys.items
  pub apart : are_keys_apart spis.keys.items ≡ true
  pub by_spi : IsIndexed spis.keys.items spis.places
  pub by_reqid : IsIndexed reqids.keys.items reqids.places
