use Rattle.std.proofs.Common.{◌≡◌, append_assoc}
use Rattle.json_values.proofs.Plain.{utf8_name}
use Rattle.json_tree.proofs.Passed.{path_octets}
use Rattle.json_values.specs.Written.{spd_entry_data}
use Rattle.json_values.proofs.TokenLemmas.{after_ok}
use Rattle.json_tree.proofs.policy_write.add_entry.Goals as goal

pub text-requires : goal.text-requires
text-requires c =
    let e : c.as_slice.result.now ≡ c.args.entry.now.name = c.as_slice.ensures in
    rw e (utf8_name c.args.entry.now.name (path_octets c.args.entry.now.name c.requires))

pub returns : goal.returns
unfolding spd_entry_data
returns c = after_ok c.end_object.result c.end_object.ensures (λ h. simp (
  h,
  c.in_ok-wide.ensures,
  c.in_ok-text.ensures,
  c.in_ok-add_policy.ensures,
  c.in_ok-name.ensures,
  c.in_ok-word.ensures,
  c.in_ok-begin_object.ensures,
  c.word.ensures,
  c.as_slice.ensures,
  append_assoc,
))
