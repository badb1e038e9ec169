use Rattle.std.proofs.Common.{◌≡◌, ◌≤◌, subst, arith, append_assoc, codes}
use Rattle.serde_json.specs.Data.{depth}
use Rattle.json_values.specs.Written.{all_policies, spd_entries_data}
use Rattle.json_values.proofs.TokenLemmas.{inner_added, text_of, text_reads}
use Rattle.json_tree.proofs.Flat.{flat_all_policies}
use Rattle.json_tree.proofs.Writable.{write_policies}
use Rattle.json_tree.proofs.policy_write.write_spd.Goals as goal

pub returns-clause-text : goal.returns-clause-text
returns-clause-text c = text_of _ c.end_object-2.new.self (all_policies c.args.list.now) c.into_octets.ensures.text
    (inner_added (codes "ietf-i2nsf-ikeless:spd") (codes "spd-entry") (spd_entries_data c.args.list.now) c.end_object-2.new.self
    (simp (
      c.in_ok-end_object-2.ensures,
      c.in_ok-end_object.ensures,
      c.in_ok-add_policies.ensures,
      c.in_ok-name.ensures,
      c.in_ok-open_object.ensures,
      c.in_ok-begin_object.ensures,
      c.new-out.ensures,
      append_assoc,
    )))

pub returns-clause-reads : goal.returns-clause-reads
returns-clause-reads c =
    let deep : depth (all_policies c.args.list.now) ≤ 8 = (flat_all_policies c.args.list.now).shallow in
    text_reads _ (all_policies c.args.list.now) (returns-clause-text c) (write_policies c.args.list.now c.policies_fit.ensures c.requires)
    (omega arith)
