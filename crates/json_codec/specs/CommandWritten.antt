-- The one value that is written for a command to the controller: a JSON object `ikl-control:input` of its members.
use Rattle.std.specs.Prelude.{◌≡◌, ℕ, true, List, codes, None}
use Rattle.serde_json.specs.Data.{Data, string, object, Members, no_members, put}
use Rattle.ikeless_tree.specs.Check.{is_gateway, spd_fault}
use Rattle.ikeless_tree.specs.declared.command.Command.{Command}
use Rattle.ikeless_tree.specs.declared.command.Command.TheVariants as commands
use Rattle.ikeless_tree.specs.declared.command.TunnelSpec.{TunnelSpec}
use Rattle.ikeless_tree.specs.declared.entry.SpdEntry.{SpdEntry}
use Rattle.yang_values.specs.Prefixes.{prefix_text}
use Rattle.yang_values.specs.HexText.{hex_colons}
use Rattle.ikeless_tree.specs.Words.{mode_text}
use Rattle.json_values.specs.Written.{count, wide, word, only, spd_entries_data}
use Rattle.json_tree.specs.SadEntryWritten.{with_lifetime}

-- what a request for `policy` carries: the gateway and its whole list
unfoldable pub policy_input : List ℕ → List SpdEntry → Data
policy_input gateway list = object (put (codes "gateway") (string gateway) (put (codes "spd-entry") (spd_entries_data list) no_members))

-- the second half of a tunnel's members, in the order of their names
unfoldable pub with_second : TunnelSpec → Members → Members
with_second t ms = put (codes "reqid") (wide t.reqid)
    (put (codes "second") (string t.second)
    (put (codes "second-prefix") (string (prefix_text t.second_prefix))
    (with_lifetime (codes "soft") t.soft ms)))

-- the members of a tunnel before those, but for the window
unfoldable pub with_first : TunnelSpec → Members → Members
with_first t ms = put (codes "first") (string t.first)
    (put (codes "first-prefix") (string (prefix_text t.first_prefix))
    (with_lifetime (codes "hard") t.hard
    (put (codes "mode") (word (mode_text t.now)) ms)))

-- the input of `tunnel`; limits that are none are left out
unfoldable pub tunnel_input : TunnelSpec → Data
tunnel_input t = object (put (codes "anti-replay-window-size") (count t.window) (with_first t (with_second t no_members)))

-- the input of the operation that gives this command
abbrev pub input_of : Command → Data
input_of (commands.Policy gateway list) = policy_input gateway list
input_of (commands.Tunnel spec) = tunnel_input spec
input_of (commands.End reqid) = only (codes "reqid") (wide reqid)
input_of (commands.Rekey reqid) = only (codes "reqid") (wide reqid)
input_of (commands.Keys key) = only (codes "key") (string (hex_colons key))

-- the body of a command
abbrev pub command_data : Command → Data
command_data c = only (codes "ikl-control:input") (input_of c)

-- its names are those of gateways, and its list has no fault
abbrev pub IsWellFormed : Command → Type 0
IsWellFormed (commands.Policy gateway list) = (is_gateway gateway ≡ true) × (spd_fault list ≡ None)
IsWellFormed (commands.Tunnel spec) = (is_gateway spec.first ≡ true) × (is_gateway spec.second ≡ true)
IsWellFormed (commands.End reqid) = Unit {0}
IsWellFormed (commands.Rekey reqid) = Unit {0}
IsWellFormed (commands.Keys key) = Unit {0}
