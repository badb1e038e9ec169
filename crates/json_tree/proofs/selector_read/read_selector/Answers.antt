use Rattle.std.proofs.Common.{◌≡◌, codes, refl, rules, Ok}
use Rattle.serde_json.specs.View.{view}
use Rattle.serde_json.specs.Find.{get}
use Rattle.json_values.specs.Faults.{at_member}
use Rattle.json_values.specs.Leaves.{protocol_leaf}
use Rattle.json_tree.specs.SelectorRead.{selector_in}
use Rattle.json_tree.proofs.selector_read.read_selector.Goals as goal

pub returns : goal.returns
unfolding selector_in
returns c =
    let d = view c.args.value.now in
    let proto : at_member (codes "inner-protocol") (protocol_leaf (get (codes "inner-protocol") d)) ≡ Ok c.in_ok-proto.proto =
    search rules in
    rw (c.in_ok-is_selector.ensures, proto, c.in_ok-local.ensures, c.in_ok-remote.ensures) refl
