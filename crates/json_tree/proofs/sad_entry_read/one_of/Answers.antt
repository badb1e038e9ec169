use Rattle.std.proofs.Common.{◌≡◌, ◌∙◌, sym, ap, Some}
use Rattle.serde_json.specs.View.{view, items_view}
use Rattle.serde_json.specs.Find.{as_array}
use Rattle.json_tree.specs.SadEntryRead.{sad_entry_in}
use Rattle.json_values.proofs.ItemLemmas.{one-of_many}
use Rattle.json_tree.proofs.sad_entry_read.one_of.Goals as goal

pub returns-in-len2-up : goal.returns-in-len2-up
returns-in-len2-up c =
    let list : as_array (view c.args.value.now) ≡ Some (items_view c.as_slice.result.now) = sym c.in-Some.ensures
    ∙ ap (λ vs. Some (items_view vs)) (sym c.as_slice.ensures.value) in
    rw c.refused-in-len2-up.ensures (one-of_many sad_entry_in _ c.as_slice.result.now list c.in-len2-up.len_at_least)
