-- What is written for a command can be read again: its numbers fit 64 bits, and its texts are UTF-8.
use Rattle.std.proofs.Common.{◌≡◌, ℕ, Bool, true, false, List, codes, refl, decimal}
use Rattle.json.proofs.Printed.Utf8.{are_ascii}
use Rattle.serde_json.specs.Data.{Data, Members, no_members}
use Rattle.ikeless_tree.specs.declared.command.Command.{Command}
use Rattle.ikeless_tree.specs.declared.command.Command.TheVariants as commands
use Rattle.ikeless_tree.specs.declared.command.TunnelSpec.{TunnelSpec}
use Rattle.ikeless_tree.specs.Check.{is_gateway}
use Rattle.ikeless_tree.specs.Typed.{IsTypedTunnel, IsTypedCommand}
use Rattle.ikeless_tree.specs.Words.{mode_text}
use Rattle.yang_values.specs.HexText.{hex_colons}
use Rattle.yang_values.specs.Prefixes.{prefix_text}
use Rattle.json_values.proofs.Plain.{utf8_number, utf8_hex, utf8_gateway}
use Rattle.json_values.proofs.ReadAgain.{
  IsWritable,
  HaveWritable,
  write_number,
  write_text,
  write_word,
  write_object,
  write_none,
  write_member,
}
use Rattle.json_tree.proofs.Writable.{narrow, prefix_utf8, write_only, write_lifetime, write_list}
use Rattle.json_codec.specs.CommandWritten.{policy_input, with_first, with_second, tunnel_input, input_of, command_data, IsWellFormed}

mode_ascii : (now : Bool) → are_ascii (mode_text now) ≡ true
mode_ascii true = refl
mode_ascii false = refl

write_second : (t : TunnelSpec) → IsTypedTunnel t → is_gateway t.second ≡ true → HaveWritable (with_second t no_members)
unfolding with_second
write_second t typed named = write_member (codes "reqid") _ _ refl (write_text (decimal t.reqid) (utf8_number t.reqid typed.reqid))
    (write_member (codes "second") _ _ refl (write_text t.second (utf8_gateway t.second named))
    (write_member (codes "second-prefix") _ _ refl (write_text (prefix_text t.second_prefix)
    (prefix_utf8 t.second_prefix typed.second_prefix))
    (write_lifetime (codes "soft") t.soft no_members refl typed.soft write_none)))

write_first : (t : TunnelSpec) (ms : Members) → IsTypedTunnel t → is_gateway t.first ≡ true → HaveWritable ms → HaveWritable
    (with_first t ms)
unfolding with_first
write_first t ms typed named h = write_member (codes "first") _ _ refl (write_text t.first (utf8_gateway t.first named))
    (write_member (codes "first-prefix") _ _ refl (write_text (prefix_text t.first_prefix) (prefix_utf8 t.first_prefix typed.first_prefix))
    (write_lifetime (codes "hard") t.hard _ refl typed.hard
    (write_member (codes "mode") _ ms refl (write_word (mode_text t.now) (mode_ascii t.now)) h)))

write_tunnel : (t : TunnelSpec) → IsTypedTunnel t → is_gateway t.first ≡ true → is_gateway t.second ≡ true → IsWritable (tunnel_input t)
unfolding tunnel_input
write_tunnel t typed first second = write_object _ (write_member (codes "anti-replay-window-size") _ _ refl
    (write_number t.window (narrow t.window typed.window))
    (write_first t _ typed first (write_second t typed second)))

write_reqid : (reqid : ℕ) → IsTypedCommand (commands.End reqid) → IsWritable (input_of (commands.End reqid))
write_reqid reqid typed = write_only (codes "reqid") _ refl (write_text (decimal reqid) (utf8_number reqid typed))

write_input : (c : Command) → IsTypedCommand c → IsWellFormed c → IsWritable (input_of c)
unfolding policy_input
write_input (commands.Policy gateway list) typed lawful = write_object _
    (write_member (codes "gateway") _ _ refl (write_text gateway (utf8_gateway gateway lawful.0))
    (write_member (codes "spd-entry") _ no_members refl (write_list list typed lawful.1) write_none))
write_input (commands.Tunnel spec) typed lawful = write_tunnel spec typed lawful.0 lawful.1
write_input (commands.End reqid) typed lawful = write_reqid reqid typed
write_input (commands.Rekey reqid) typed lawful = write_reqid reqid typed
write_input (commands.Keys key) typed lawful = write_only (codes "key") _ refl (write_text (hex_colons key) (utf8_hex key typed))

pub write_command : (c : Command) → IsTypedCommand c → IsWellFormed c → IsWritable (command_data c)
write_command c typed lawful = write_only (codes "ikl-control:input") _ refl (write_input c typed lawful)
