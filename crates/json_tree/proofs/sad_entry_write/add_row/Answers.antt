use Rattle.std.proofs.Common.{◌≡◌, ◌++◌, ◌∷◌, [], None, codes, append_assoc}
use Rattle.json.specs.Token.{begin_object, end_object}
use Rattle.serde_json.specs.Data.{string}
use Rattle.json_values.specs.Written.{wide}
use Rattle.json_values.specs.Tokens.{member_tokens}
use Rattle.json_values.proofs.Plain.{utf8_name}
use Rattle.json_tree.proofs.Passed.{half_octets}
use Rattle.json_tree.specs.SadEntryWritten.{config_data, state_data, row_data, with_state}
use Rattle.json_values.proofs.TokenLemmas.{after_ok, two_steps}
use Rattle.json_tree.proofs.sad_entry_write.add_row.Goals as goal

pub text-requires : goal.text-requires
text-requires c =
    let e : c.as_slice.result.now ≡ c.args.row.now.entry.name = c.as_slice.ensures in
    rw e (utf8_name c.args.row.now.entry.name (half_octets c.args.row.now.entry.name c.requires))

pub returns : goal.returns
unfolding row_data with_state
returns c = after_ok c.end_object.result c.end_object.ensures (λ h.
    let r = c.args.row.now in
    let front = begin_object ∷ member_tokens (codes "ipsec-sa-config") (config_data r.entry None) in
    let back = member_tokens (codes "ipsec-sa-state") (state_data r.state) ++
    (member_tokens (codes "name") (string r.entry.name) ++ (member_tokens (codes "reqid") (wide r.entry.reqid) ++ end_object ∷ [])) in
    let began : c.add_config.new.out ≡ c.args.out.now ++ front = simp (
      c.in_ok-add_config.ensures,
      c.in_ok-begin_object.ensures,
      append_assoc,
    ) in
    let ended : c.end_object.new.self ≡ c.add_config.new.out ++ back = simp
    (h, c.in_ok-wide.ensures, c.in_ok-text.ensures, c.in_ok-add_state.ensures, c.as_slice.ensures, append_assoc) in
    two_steps c.args.out.now front back c.add_config.new.out c.end_object.new.self began ended)
