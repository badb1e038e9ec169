-- Reads commands to the controller.
use Rattle.std.specs.Prelude.{◌≡◌, ℕ, ◌||◌, Bool, true, List, codes, Option, Some, None, Result, Ok, if◌then◌else◌}
use Rattle.std.specs.Str.{bytes_eq}
use Rattle.serde_json.specs.Data.{Data}
use Rattle.serde_json.specs.Find.{get}
use Rattle.ikl_base.specs.declared.address.Prefix.{Prefix}
use Rattle.ikeless_tree.specs.declared.command.Command.{Command}
use Rattle.ikeless_tree.specs.declared.command.Command.TheVariants as commands
use Rattle.ikeless_tree.specs.declared.command.TunnelSpec.{TunnelSpec}
use Rattle.ikeless_tree.specs.declared.fault.TreeFault.{TreeFault}
use Rattle.ikeless_tree.specs.Check.{is_window, spd_fault, is_gateway}
use Rattle.json_values.specs.declared.fault.Fault.{Fault}
use Rattle.json_codec.specs.declared.command_read.FirstEnd.{FirstEnd}
use Rattle.json_codec.specs.declared.command_read.SecondEnd.{SecondEnd}
use Rattle.json_values.specs.Faults.{within, at_member, checked, ◌>>=◌}
use Rattle.json_values.specs.Shapes.{only_in}
use Rattle.json_values.specs.Leaves.{needed_number, needed_wide, prefix_leaf, mode_leaf, octets_leaf, name_in}
use Rattle.json_values.specs.Members.{list_input_shape, tunnel_input_shape}
use Rattle.json_tree.specs.PolicyRead.{entries_of}
use Rattle.json_tree.specs.SadEntryRead.{limits_of}

-- one of the five operations that give a command
abbrev pub is_operation : List ℕ → Bool
is_operation op = bytes_eq op (codes "policy") || bytes_eq op (codes "tunnel") || bytes_eq op (codes "end") || bytes_eq op (codes "rekey")
    || bytes_eq op (codes "keys")

-- the operation that gives this command
abbrev pub operation_of : Command → List ℕ
operation_of (commands.Policy gateway list) = codes "policy"
operation_of (commands.Tunnel spec) = codes "tunnel"
operation_of (commands.End reqid) = codes "end"
operation_of (commands.Rekey reqid) = codes "rekey"
operation_of (commands.Keys key) = codes "keys"

-- the window of a tunnel is one
abbrev pub HasWindow : Command → Type 0
HasWindow (commands.Policy gateway list) = Unit {0}
HasWindow (commands.Tunnel spec) = is_window spec.window ≡ true
HasWindow (commands.End reqid) = Unit {0}
HasWindow (commands.Rekey reqid) = Unit {0}
HasWindow (commands.Keys key) = Unit {0}

-- the prefix in the member of this name
abbrev pub prefix_in : List ℕ → Data → Result Prefix Fault
prefix_in name d = at_member name (prefix_leaf (get name d))

-- the size of an anti-replay window, which a tunnel needs
abbrev pub needed_window : Data → Result ℕ Fault
needed_window d = at_member (codes "anti-replay-window-size") (needed_number 32 4096 (get (codes "anti-replay-window-size") d))

-- the `reqid` of a tunnel, which is needed
abbrev pub needed_reqid : Data → Result ℕ Fault
needed_reqid d = at_member (codes "reqid") (needed_wide (get (codes "reqid") d))

-- whether the tunnel's keys are asked for at once, or at its first packet
abbrev pub mode_in : Data → Result Bool Fault
mode_in d = at_member (codes "mode") (mode_leaf (get (codes "mode") d))

-- a gateway and the list of policies that it is to have
unfoldable pub list_command : Data → Result Command Fault
list_command d =
    list_input_shape d >>= (λ done.
    name_in (codes "gateway") is_gateway d >>= (λ gateway.
    entries_of (get (codes "spd-entry") d) >>= (λ list.
    Ok (commands.Policy gateway list))))

-- the first gateway with its prefix, and what stands beside it by the order of names: the window and the hard limits
unfoldable pub first_in : Data → Result FirstEnd Fault
first_in d =
    needed_window d >>= (λ window.
    name_in (codes "first") is_gateway d >>= (λ name.
    prefix_in (codes "first-prefix") d >>= (λ prefix.
    limits_of (codes "hard") (get (codes "hard") d) >>= (λ hard.
    Ok (record { window = window; name = name; prefix = prefix; hard = hard })))))

-- the second gateway with its prefix, and what stands beside it by the order of names: mode, `reqid` and soft limits
unfoldable pub second_in : Data → Result SecondEnd Fault
second_in d =
    mode_in d >>= (λ now.
    needed_reqid d >>= (λ reqid.
    name_in (codes "second") is_gateway d >>= (λ name.
    prefix_in (codes "second-prefix") d >>= (λ prefix.
    limits_of (codes "soft") (get (codes "soft") d) >>= (λ soft.
    Ok (record { now = now; reqid = reqid; name = name; prefix = prefix; soft = soft }))))))

-- the tunnel of both its ends
abbrev pub tunnel_between : FirstEnd → SecondEnd → TunnelSpec
tunnel_between a b = record {
  reqid = b.reqid;
  now = b.now;
  first = a.name;
  second = b.name;
  first_prefix = a.prefix;
  second_prefix = b.prefix;
  window = a.window;
  hard = a.hard;
  soft = b.soft;
}

-- the tunnel to be kept between two gateways
unfoldable pub tunnel_command : Data → Result Command Fault
tunnel_command d =
    tunnel_input_shape d >>= (λ done.
    first_in d >>= (λ first.
    second_in d >>= (λ second.
    Ok (commands.Tunnel (tunnel_between first second)))))

-- the `reqid` of an input with no member besides
unfoldable pub only_reqid : Data → Result ℕ Fault
only_reqid d = only_in (codes "reqid") d >>= (λ leaf. at_member (codes "reqid") (needed_wide (Some leaf)))

-- the octets of a key, whatever their number: a wrong length is found by the controller
unfoldable pub only_key : Data → Result (List ℕ) Fault
only_key d = only_in (codes "key") d >>= (λ leaf. at_member (codes "key") (octets_leaf (Some leaf)))

-- the tunnel with this `reqid` is to end
unfoldable pub end_command : Data → Result Command Fault
end_command d = only_reqid d >>= (λ reqid. Ok (commands.End reqid))

-- the tunnel with this `reqid` is to get new keys
unfoldable pub rekey_command : Data → Result Command Fault
rekey_command d = only_reqid d >>= (λ reqid. Ok (commands.Rekey reqid))

-- one more key for the controller's store
unfoldable pub keys_command : Data → Result Command Fault
keys_command d = only_key d >>= (λ key. Ok (commands.Keys key))

-- the members of the command of an operation
unfoldable pub input_in : List ℕ → Data → Result Command Fault
input_in op d =
    if bytes_eq op (codes "policy") then list_command d
    else if bytes_eq op (codes "tunnel") then tunnel_command d
    else if bytes_eq op (codes "end") then end_command d
    else if bytes_eq op (codes "rekey") then rekey_command d
    else keys_command d

-- the command in the `input` of an operation (RFC 8040 section 3.6.1)
unfoldable pub inputs_in : List ℕ → Data → Result Command Fault
inputs_in op d = only_in (codes "ikl-control:input") d >>= (λ inner. within (codes "ikl-control:input") (input_in op inner))

-- what is wrong with the list of a command as a whole
abbrev pub command_fault : Command → Option TreeFault
command_fault (commands.Policy gateway list) = spd_fault list
command_fault (commands.Tunnel spec) = None
command_fault (commands.End reqid) = None
command_fault (commands.Rekey reqid) = None
command_fault (commands.Keys key) = None

-- the body of a command; what is wrong with its list as a whole comes last
unfoldable pub command_in : List ℕ → Data → Result Command Fault
command_in op d = inputs_in op d >>= (λ c. checked c (command_fault c))
