use Rattle.std.proofs.Common.{◌≡◌, ◌++◌, ◌∷◌, [], false, List, Option, ℕ, sym, ap, ◌∙◌, subst}
use Rattle.ikeless_tree.specs.declared.sad.SadEntry.{SadEntry}
use Rattle.sad_store.specs.declared.half.Half.{Half}
use Rattle.sad_store.specs.Halves.{fresh, has_half_named, is_spi_taken}
use Rattle.sad_store.specs.Kept.{reqid_key, spi_key}
use Rattle.sad_store.specs.Stored.{IsStored}
use Rattle.sad_store.proofs.StoredLemmas.{stored-end}
use Rattle.sad_store.proofs.store.add.Goals as goal

pub returns-in-Ok-clause-stored : goal.returns-in-Ok-clause-stored
returns-in-Ok-clause-stored c =
    let e : SadEntry = c.args.e in
    let xs : List Half = c.make_room.new.halves.items in
    let s = c.make_room.new.spis in
    let r = c.make_room.new.reqids in
    let same : c.in-Ok.half ≡ fresh c.args.now e = c.in-Ok.ensures.half in
    let halves : c.push-in-Ok-2.new.items.items ≡ xs ++ fresh c.args.now e ∷ [] = c.push-in-Ok-2.ensures
    ∙ ap (λ (x : Half). xs ++ x ∷ []) same in
    let spis = c.push.ensures.keys ∙ ap (λ (k : Option ℕ). s.keys.items ++ k ∷ []) (c.spi_of.ensures
    ∙ ap (λ (x : Half). spi_key x.entry) same) in
    let reqids = c.push-in-Ok.ensures.keys ∙ ap (λ (k : Option ℕ). r.keys.items ++ k ∷ []) (c.reqid_of.ensures
    ∙ ap (λ (x : Half). reqid_key x.entry) same) in
    let free = ap (has_half_named e.name) c.make_room.ensures.halves ∙ c.requires.free in
    let alone = ap (is_spi_taken e) c.make_room.ensures.halves ∙ c.requires.alone in
    subst (λ (ys : List Half). IsStored ys c.push.new.self c.push-in-Ok.new.self) (sym halves)
    (stored-end xs s r c.push.new.self c.push-in-Ok.new.self c.args.now e c.make_room.ensures.stored free alone spis reqids
    c.push.ensures.indexed c.push-in-Ok.ensures.indexed)
