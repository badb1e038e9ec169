use Rattle.std.proofs.Common.{◌≡◌, ◌≤◌, arith, append_assoc, codes}
use Rattle.serde_json.specs.Data.{depth}
use Rattle.json_values.proofs.TokenLemmas.{one_item_added, text_of, text_reads}
use Rattle.json_tree.specs.SadEntryWritten.{row_data, one_row}
use Rattle.json_tree.proofs.OneRow.{shallow_row, free_row}
use Rattle.json_tree.proofs.Passed.{passed_half}
use Rattle.json_tree.proofs.Writable.{write_one_row}
use Rattle.json_tree.proofs.sad_entry_write.write_sad_row.Goals as goal

pub add_row-requires : goal.add_row-requires
add_row-requires c = passed_half _ c.requires

pub returns-clause-text : goal.returns-clause-text
returns-clause-text c = text_of _ c.end_object.new.self (one_row c.args.row.now) c.into_octets.ensures.text
    (one_item_added (codes "ietf-i2nsf-ikeless:sad-entry") (row_data c.args.row.now) c.end_object.new.self
    (simp (
      c.in_ok-end_object.ensures,
      c.in_ok-end_array.ensures,
      c.in_ok-add_row.ensures,
      c.in_ok-open_array.ensures,
      c.in_ok-begin_object.ensures,
      c.new-out.ensures,
      append_assoc,
    )))

pub returns-clause-reads : goal.returns-clause-reads
returns-clause-reads c =
    let deep : depth (one_row c.args.row.now) ≤ 8 = shallow_row c.args.row.now in
    text_reads _ (one_row c.args.row.now) (returns-clause-text c) (write_one_row c.args.row.now c.numbers_fit.ensures c.requires)
    (omega arith)

pub returns-clause-keyless : goal.returns-clause-keyless
returns-clause-keyless c = (one_row c.args.row.now, returns-clause-reads c, free_row c.args.row.now)
