use Rattle.std.proofs.Common.{◌≡◌, ◌≤◌, arith, append_assoc, codes}
use Rattle.serde_json.specs.Data.{array, depth}
use Rattle.json_values.proofs.TokenLemmas.{inner_added, text_of, text_reads}
use Rattle.json_tree.specs.SadEntryWritten.{row_items, all_rows}
use Rattle.json_tree.proofs.Keyless.{free_all_rows}
use Rattle.json_tree.proofs.FlatRows.{flat_all_rows}
use Rattle.json_tree.proofs.Passed.{passed_rows}
use Rattle.json_tree.proofs.Writable.{write_rows}
use Rattle.json_tree.proofs.sad_entry_write.write_sad.Goals as goal

pub add_rows-requires : goal.add_rows-requires
add_rows-requires c =
    let e : c.as_slice.result.now ≡ c.args.rows.now = c.as_slice.ensures in
    rw e (passed_rows _ c.requires)

pub returns-clause-text : goal.returns-clause-text
returns-clause-text c = text_of _ c.end_object-2.new.self (all_rows c.args.rows.now) c.into_octets.ensures.text
    (inner_added (codes "ietf-i2nsf-ikeless:sad") (codes "sad-entry") (array (row_items c.args.rows.now)) c.end_object-2.new.self
    (simp (
      c.in_ok-end_object-2.ensures,
      c.in_ok-end_object.ensures,
      c.in_ok-add_rows.ensures,
      c.in_ok-open_array.ensures,
      c.in_ok-open_object.ensures,
      c.in_ok-begin_object.ensures,
      c.new-out.ensures,
      c.as_slice.ensures,
      append_assoc,
    )))

pub returns-clause-reads : goal.returns-clause-reads
returns-clause-reads c =
    let deep : depth (all_rows c.args.rows.now) ≤ 8 = (flat_all_rows c.args.rows.now).shallow in
    text_reads _ (all_rows c.args.rows.now) (returns-clause-text c) (write_rows c.args.rows.now c.rows_fit.ensures c.requires) (omega arith)

pub returns-clause-keyless : goal.returns-clause-keyless
returns-clause-keyless c = (all_rows c.args.rows.now, returns-clause-reads c, (free_all_rows c.args.rows.now).free)
