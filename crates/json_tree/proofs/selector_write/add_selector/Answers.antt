use Rattle.std.proofs.Common.{◌≡◌, ◌++◌, ◌∷◌, [], codes, append_assoc}
use Rattle.json.specs.Token.{begin_object, end_object}
use Rattle.serde_json.specs.Data.{string, no_members}
use Rattle.yang_values.specs.Prefixes.{prefix_text}
use Rattle.json_values.specs.Written.{with_ports, proto_data}
use Rattle.json_values.specs.Tokens.{member_tokens, tokens_of_members}
use Rattle.json_values.proofs.TokenLemmas.{after_ok, two_steps}
use Rattle.json_tree.proofs.TokenParts.{selector_added}
use Rattle.json_tree.proofs.selector_write.add_selector.Goals as goal

pub returns : goal.returns
returns c = after_ok c.end_object.result c.end_object.ensures (λ h.
    let s = c.args.selector.now in
    let front = begin_object ∷ member_tokens (codes "inner-protocol") (proto_data s.proto) in
    let back = tokens_of_members (with_ports (codes "local-ports") s.local_ports no_members)
    ++ (member_tokens (codes "local-prefix") (string (prefix_text s.local))
    ++ (tokens_of_members (with_ports (codes "remote-ports") s.remote_ports no_members)
    ++ (member_tokens (codes "remote-prefix") (string (prefix_text s.remote)) ++ end_object ∷ []))) in
    let began : c.add_protocol.new.out ≡ c.args.out.now ++ front = simp
    (c.in_ok-add_protocol.ensures, c.in_ok-begin_object.ensures, append_assoc) in
    let ended : c.end_object.new.self ≡ c.add_protocol.new.out ++ back =
    simp (
      h,
      c.in_ok-add_prefix-2.ensures,
      c.in_ok-add_ports-2.ensures,
      c.in_ok-add_prefix.ensures,
      c.in_ok-add_ports.ensures,
      c.as_slice.ensures,
      c.as_slice-2.ensures,
      append_assoc,
    ) in
    selector_added s c.args.out.now c.end_object.new.self (two_steps c.args.out.now front back c.add_protocol.new.out c.end_object.new.self
    began ended))
