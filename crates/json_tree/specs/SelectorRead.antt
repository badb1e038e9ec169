-- Reads selectors, lifetimes and counts (RFC 9061 section 5.3).
use Rattle.std.specs.Prelude.{ℕ, List, [], codes, Option, Some, None, Result, Ok, Err}
use Rattle.serde_json.specs.Data.{Data}
use Rattle.serde_json.specs.Find.{get, as_array}
use Rattle.ikeless_tree.specs.declared.entry.Range.{Range}
use Rattle.ikeless_tree.specs.declared.entry.Selector.{Selector}
use Rattle.ikeless_tree.specs.declared.sad.Limits.{Limits}
use Rattle.json_values.specs.declared.fault.Kind.TheVariants as kinds
use Rattle.json_values.specs.declared.fault.Fault.{Fault}
use Rattle.json_tree.specs.declared.selector_read.Side.{Side}
use Rattle.json_values.specs.Faults.{here, within, at_member, ◌>>=◌}
use Rattle.json_values.specs.Shapes.{items_read}
use Rattle.json_values.specs.Leaves.{needed_number, count_or, wide_or, prefix_leaf, protocol_leaf}
use Rattle.json_values.specs.Members.{range_shape, selector_shape, counts_shape}

-- a range of ports; that it starts above its end is found later
unfoldable pub range_in : Data → Result Range Fault
range_in d =
    range_shape d >>= (λ done.
    at_member (codes "end") (needed_number 0 65535 (get (codes "end") d)) >>= (λ end.
    at_member (codes "start") (needed_number 0 65535 (get (codes "start") d)) >>= (λ start.
    Ok (record { start = start; end = end }))))

-- absent ranges stand for any port
abbrev pub ports_in : List ℕ → Option Data → Result (List Range) Fault
ports_in name None = Ok []
ports_in name (Some d) = within name (items_read range_in (as_array d))

-- the ports and the prefix of one side
unfoldable pub side_in : List ℕ → List ℕ → Data → Result Side Fault
side_in ports prefix d =
    ports_in ports (get ports d) >>= (λ ranges.
    at_member prefix (prefix_leaf (get prefix d)) >>= (λ network.
    Ok (record { ports = ranges; prefix = network })))

-- which packets a policy or a half holds
unfoldable pub selector_in : Data → Result Selector Fault
selector_in d =
    selector_shape d >>= (λ done.
    at_member (codes "inner-protocol") (protocol_leaf (get (codes "inner-protocol") d)) >>= (λ proto.
    side_in (codes "local-ports") (codes "local-prefix") d >>= (λ local.
    side_in (codes "remote-ports") (codes "remote-prefix") d >>= (λ remote.
    Ok (record { local = local.prefix; remote = remote.prefix; proto = proto; local_ports = local.ports; remote_ports = remote.ports })))))

-- a selector that is needed
abbrev pub selector_of : Option Data → Result Selector Fault
selector_of None = Err (here kinds.Missing)
selector_of (Some d) = within (codes "traffic-selector") (selector_in d)

-- the counts of an object, of which an absent one is 0
unfoldable pub limits_from : Data → Result Limits Fault
limits_from d =
    at_member (codes "bytes") (wide_or 0 (get (codes "bytes") d)) >>= (λ bytes.
    at_member (codes "idle") (count_or 0 (get (codes "idle") d)) >>= (λ idle.
    at_member (codes "packets") (count_or 0 (get (codes "packets") d)) >>= (λ packets.
    at_member (codes "time") (count_or 0 (get (codes "time") d)) >>= (λ time.
    Ok (record { time = time; bytes = bytes; packets = packets; idle = idle })))))

-- counts, all of which are needed
unfoldable pub counts_in : Data → Result Limits Fault
counts_in d = counts_shape d >>= (λ done. limits_from d)
