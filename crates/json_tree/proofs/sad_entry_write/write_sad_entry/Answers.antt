use Rattle.std.proofs.Common.{◌≡◌, ◌≤◌, arith, append_assoc, codes}
use Rattle.serde_json.specs.Data.{depth}
use Rattle.json_values.proofs.TokenLemmas.{one_item_added, text_of, text_reads}
use Rattle.json_tree.specs.SadEntryWritten.{sad_entry_data, one_sad_entry}
use Rattle.json_tree.proofs.FlatRows.{flat_one_sad_entry}
use Rattle.json_tree.proofs.Passed.{passed_half}
use Rattle.json_tree.proofs.Writable.{write_one_half}
use Rattle.json_tree.proofs.sad_entry_write.write_sad_entry.Goals as goal

pub add_half-requires : goal.add_half-requires
add_half-requires c = passed_half _ c.requires

pub returns-clause-text : goal.returns-clause-text
returns-clause-text c = text_of _ c.end_object.new.self (one_sad_entry c.args.e.now) c.into_octets.ensures.text
    (one_item_added (codes "ietf-i2nsf-ikeless:sad-entry") (sad_entry_data c.args.e.now) c.end_object.new.self
    (simp (
      c.in_ok-end_object.ensures,
      c.in_ok-end_array.ensures,
      c.in_ok-add_half.ensures,
      c.in_ok-open_array.ensures,
      c.in_ok-begin_object.ensures,
      c.new-out.ensures,
      append_assoc,
    )))

pub returns-clause-reads : goal.returns-clause-reads
returns-clause-reads c =
    let deep : depth (one_sad_entry c.args.e.now) ≤ 7 = (flat_one_sad_entry c.args.e.now).shallow in
    text_reads _ (one_sad_entry c.args.e.now) (returns-clause-text c) (write_one_half c.args.e.now c.numbers_fit.ensures c.requires)
    (omega arith)
