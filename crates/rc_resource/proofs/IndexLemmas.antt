-- Where a new policy is put.
use Rattle.std.proofs.Common.{ℕ, ◌+◌, ◌<◌, List, length, Option, Some, None, sym, ap, ◌∙◌, arith}
use Rattle.std.specs.List.{insert}
use Rattle.ikeless_tree.specs.declared.entry.SpdEntry.{SpdEntry}
use Rattle.ikeless_tree.specs.Check.{is_named}
use Rattle.reply_table.specs.declared.ask.Place.TheVariants as places
use Rattle.rc_resource.specs.Lists.{IsFirst, IsIndexFor}
use Rattle.rc_resource.proofs.NameLemmas.{before_is, after_is}

pub index_before : (name : List ℕ) (list : List SpdEntry) (found : Option ℕ) → IsFirst (is_named name) list found
    → IsIndexFor (places.Before name) list found
index_before name list None h = h
index_before name list (Some i) h =
    let below : i < length list = h.1 in
    (h.0, omega (arith, below), λ e. before_is name e list ∙ ap (λ k. insert list k e) (sym h.2))

pub index_after : (name : List ℕ) (list : List SpdEntry) (i : ℕ) → IsFirst (is_named name) list (Some i)
    → IsIndexFor (places.After name) list (Some (i + 1))
index_after name list i h =
    let below : i < length list = h.1 in
    (h.0, omega (arith, below), λ e. after_is name e list h.0 ∙ ap (λ k. insert list (k + 1) e) (sym h.2))
