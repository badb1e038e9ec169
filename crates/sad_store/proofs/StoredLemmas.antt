-- What the store keeps, after each change.
use Rattle.std.proofs.Common.{◌≡◌, ℕ, Bool, true, false, List, [], ◌∷◌, ◌++◌, length, map, refl, sym, ap, ◌∙◌, subst}
use Rattle.std.specs.List.{remove}
use Rattle.sad_store.specs.declared.column.KeyColumn.{KeyColumn}
use Rattle.sad_store.specs.declared.half.Half.{Half}
use Rattle.ikeless_tree.specs.declared.sad.SadEntry.{SadEntry}
use Rattle.sad_store.specs.Halves.{entries_of, fresh, halves_without, has_half_named, is_spi_taken}
use Rattle.sad_store.specs.Columns.{are_keys_apart, IsIndexed}
use Rattle.sad_store.specs.Kept.{IsKept, reqid_key, spi_key}
use Rattle.sad_store.specs.Stored.{IsStored}
use Rattle.sad_store.proofs.ColumnLemmas.{keys-apart-end, keys-apart-remove}
use Rattle.sad_store.proofs.PlaceLemmas.{kept-end, kept-same, kept-without, spi-new}

pub stored-new : (s r : KeyColumn) → s.keys.items ≡ [] → r.keys.items ≡ [] → IsIndexed s.keys.items s.places
    → IsIndexed r.keys.items r.places → IsStored [] s r
stored-new s r e f by_spi by_reqid = record {
  kept = record { apart = refl; spis = e; reqids = f };
  apart = ap are_keys_apart e;
  by_spi = by_spi;
  by_reqid = by_reqid;
}

-- other columns of the same keys
pub stored-moved : (xs : List Half) (s r s' r' : KeyColumn) → s'.keys.items ≡ s.keys.items → s'.places ≡ s.places
    → r'.keys.items ≡ r.keys.items → r'.places ≡ r.places →
    IsStored xs s r → IsStored xs s' r'
stored-moved xs s r s' r' e p f q is = record {
  kept = subst (λ ks. IsKept xs ks r'.keys.items) (sym e) (subst (λ ks. IsKept xs s.keys.items ks) (sym f) is.kept);
  apart = ap are_keys_apart e ∙ is.apart;
  by_spi = subst (λ ks. IsIndexed ks s'.places) (sym e) (subst (λ m. IsIndexed s.keys.items m) (sym p) is.by_spi);
  by_reqid = subst (λ ks. IsIndexed ks r'.places) (sym f) (subst (λ m. IsIndexed r.keys.items m) (sym q) is.by_reqid);
}

pub stored-same : (xs ys : List Half) (s r : KeyColumn) → entries_of ys ≡ entries_of xs → IsStored xs s r → IsStored ys s r
stored-same xs ys s r same is = record {
  kept = kept-same xs ys s.keys.items r.keys.items same is.kept;
  apart = is.apart;
  by_spi = is.by_spi;
  by_reqid = is.by_reqid;
}

pub stored-end : (xs : List Half) (s r s' r' : KeyColumn) (now : ℕ) (e : SadEntry) → IsStored xs s r → has_half_named e.name xs ≡ false
    → is_spi_taken e xs ≡ false →
    s'.keys.items ≡ s.keys.items ++ spi_key e ∷ [] → r'.keys.items ≡ r.keys.items ++ reqid_key e ∷ [] → IsIndexed s'.keys.items s'.places
    → IsIndexed r'.keys.items r'.places →
    IsStored (xs ++ fresh now e ∷ []) s' r'
stored-end xs s r s' r' now e is new alone es er by_spi by_reqid = record {
  kept = subst (λ ks. IsKept (xs ++ fresh now e ∷ []) ks r'.keys.items) (sym es)
      (subst (λ ks. IsKept (xs ++ fresh now e ∷ []) (s.keys.items ++ spi_key e ∷ []) ks) (sym er)
      (kept-end xs s.keys.items r.keys.items now e is.kept new));
  apart = ap are_keys_apart es ∙ keys-apart-end (spi_key e) s.keys.items (spi-new e xs s.keys.items is.kept.spis alone) is.apart;
  by_spi = by_spi;
  by_reqid = by_reqid;
}

pub stored-without : (name : List ℕ) (xs : List Half) (s r s' r' : KeyColumn) (i : ℕ) → IsStored xs s r
    → remove xs i ≡ halves_without name xs →
    s'.keys.items ≡ remove s.keys.items i → r'.keys.items ≡ remove r.keys.items i → IsIndexed s'.keys.items s'.places
    → IsIndexed r'.keys.items r'.places →
    IsStored (halves_without name xs) s' r'
stored-without name xs s r s' r' i is e es er by_spi by_reqid = record {
  kept = subst (λ ks. IsKept (halves_without name xs) ks r'.keys.items) (sym es)
      (subst (λ ks. IsKept (halves_without name xs) (remove s.keys.items i) ks) (sym er)
      (kept-without name xs s.keys.items r.keys.items i is.kept e));
  apart = ap are_keys_apart es ∙ keys-apart-remove s.keys.items i is.apart;
  by_spi = by_spi;
  by_reqid = by_reqid;
}
