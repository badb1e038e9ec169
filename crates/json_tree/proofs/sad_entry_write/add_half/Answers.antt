use Rattle.std.proofs.Common.{◌≡◌, append_assoc}
use Rattle.json_values.proofs.Plain.{utf8_name}
use Rattle.json_tree.proofs.Passed.{half_octets}
use Rattle.json_tree.specs.SadEntryWritten.{sad_entry_data}
use Rattle.json_values.proofs.TokenLemmas.{after_ok}
use Rattle.json_tree.proofs.sad_entry_write.add_half.Goals as goal

pub text-requires : goal.text-requires
text-requires c =
    let e : c.as_slice-2.result.now ≡ c.args.entry.now.name = c.as_slice-2.ensures in
    rw e (utf8_name c.args.entry.now.name (half_octets c.args.entry.now.name c.requires))

pub returns : goal.returns
unfolding sad_entry_data
returns c = after_ok c.end_object.result c.end_object.ensures (λ h. simp (
  h,
  c.in_ok-wide.ensures,
  c.in_ok-text.ensures,
  c.in_ok-add_config.ensures,
  c.in_ok-begin_object.ensures,
  c.as_slice.ensures,
  c.as_slice-2.ensures,
  append_assoc,
))
