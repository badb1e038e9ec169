use Rattle.std.proofs.Common.{◌≡◌, ◌≤◌, arith, append_assoc, codes}
use Rattle.serde_json.specs.Data.{depth}
use Rattle.json_values.specs.Written.{one_policy, spd_entry_data}
use Rattle.json_values.proofs.TokenLemmas.{one_item_added, text_of, text_reads}
use Rattle.json_tree.proofs.Flat.{flat_one_policy}
use Rattle.json_tree.proofs.Passed.{passed_name}
use Rattle.json_tree.proofs.Writable.{write_one_policy}
use Rattle.json_tree.proofs.policy_write.write_spd_entry.Goals as goal

pub add_entry-requires : goal.add_entry-requires
add_entry-requires c = passed_name _ c.requires

pub returns-clause-text : goal.returns-clause-text
returns-clause-text c = text_of _ c.end_object.new.self (one_policy c.args.e.now) c.into_octets.ensures.text
    (one_item_added (codes "ietf-i2nsf-ikeless:spd-entry") (spd_entry_data c.args.e.now) c.end_object.new.self
    (simp (
      c.in_ok-end_object.ensures,
      c.in_ok-end_array.ensures,
      c.in_ok-add_entry.ensures,
      c.in_ok-open_array.ensures,
      c.in_ok-begin_object.ensures,
      c.new-out.ensures,
      append_assoc,
    )))

pub returns-clause-reads : goal.returns-clause-reads
returns-clause-reads c =
    let deep : depth (one_policy c.args.e.now) ≤ 7 = (flat_one_policy c.args.e.now).shallow in
    text_reads _ (one_policy c.args.e.now) (returns-clause-text c) (write_one_policy c.args.e.now c.numbers_fit.ensures c.requires)
    (omega arith)
