-- What is written for a command stands for it.
use Rattle.std.proofs.Common.{◌≡◌, ℕ, if◌then◌else◌, Bool, true, false, List, codes, None, refl}
use Rattle.serde_json.specs.Data.{Data, no_members, string, object, put}
use Rattle.ikeless_tree.specs.declared.command.Command.{Command}
use Rattle.ikeless_tree.specs.declared.command.Command.TheVariants as commands
use Rattle.ikeless_tree.specs.declared.command.TunnelSpec.{TunnelSpec}
use Rattle.ikeless_tree.specs.declared.entry.SpdEntry.{SpdEntry}
use Rattle.ikeless_tree.specs.Check.{is_window, spd_fault, is_gateway}
use Rattle.yang_values.specs.HexText.{hex_colons}
use Rattle.yang_values.specs.Prefixes.{prefix_text}
use Rattle.json_values.specs.Written.{count, wide, word}
use Rattle.json_tree.specs.SadEntryWritten.{limits_members, has_no_limits}
use Rattle.ikeless_tree.specs.Words.{mode_text}
use Rattle.json_codec.specs.CommandWritten.{policy_input, with_first, with_second, tunnel_input, input_of, command_data, IsWellFormed}
use Rattle.json_codec.specs.CommandRead.{operation_of, HasWindow, command_fault}
use Rattle.json_values.specs.Json.{IsListInput, IsTunnelInput, IsInput, IsCommand}
use Rattle.ikeless_tree.specs.Typed.{AreTypedPolicies, IsTypedTunnel, IsTypedCommand}
use Rattle.json_tree.proofs.PolicyAgain.{wide_again, prefix_text_again, window_again, entries_again}
use Rattle.json_tree.proofs.HalfAgain.{CanHex, limits_again, none_is}

list_again : (gateway : List ℕ) (es : List SpdEntry) → is_gateway gateway ≡ true → AreTypedPolicies es → spd_fault es ≡ None
    → IsListInput gateway es (policy_input gateway es)
unfolding policy_input
list_again gateway es named typed h = record { members = refl; gateway = (refl, named); list = entries_again es typed h }

-- the members of a tunnel, by which lifetimes have no limits
abbrev tunnel_where : (h s : Bool) → TunnelSpec → Data
tunnel_where h s t =
    let soft = if s then no_members else put (codes "soft") (object (limits_members t.soft)) no_members in
    let second = put (codes "reqid") (wide t.reqid)
    (put (codes "second") (string t.second) (put (codes "second-prefix") (string (prefix_text t.second_prefix)) soft)) in
    let mode = put (codes "mode") (word (mode_text t.now)) second in
    let hard = if h then mode else put (codes "hard") (object (limits_members t.hard)) mode in
    object (put (codes "anti-replay-window-size") (count t.window)
    (put (codes "first") (string t.first) (put (codes "first-prefix") (string (prefix_text t.first_prefix)) hard)))

tunnel_by : (h s : Bool) (t : TunnelSpec) → IsTypedTunnel t → is_gateway t.first ≡ true → is_gateway t.second ≡ true
    → is_window t.window ≡ true → has_no_limits t.hard ≡ h → has_no_limits t.soft ≡ s → IsTunnelInput t (tunnel_where h s t)
tunnel_by true true t typed first second window eh es = record {
  members = refl;
  window = window_again t.window window;
  first = (refl, first);
  first_prefix = prefix_text_again t.first_prefix typed.first_prefix;
  hard = none_is t.hard eh;
  mode = refl;
  reqid = wide_again t.reqid typed.reqid;
  second = (refl, second);
  second_prefix = prefix_text_again t.second_prefix typed.second_prefix;
  soft = none_is t.soft es;
}
tunnel_by true false t typed first second window eh es = record {
  members = refl;
  window = window_again t.window window;
  first = (refl, first);
  first_prefix = prefix_text_again t.first_prefix typed.first_prefix;
  hard = none_is t.hard eh;
  mode = refl;
  reqid = wide_again t.reqid typed.reqid;
  second = (refl, second);
  second_prefix = prefix_text_again t.second_prefix typed.second_prefix;
  soft = limits_again t.soft typed.soft;
}
tunnel_by false true t typed first second window eh es = record {
  members = refl;
  window = window_again t.window window;
  first = (refl, first);
  first_prefix = prefix_text_again t.first_prefix typed.first_prefix;
  hard = limits_again t.hard typed.hard;
  mode = refl;
  reqid = wide_again t.reqid typed.reqid;
  second = (refl, second);
  second_prefix = prefix_text_again t.second_prefix typed.second_prefix;
  soft = none_is t.soft es;
}
tunnel_by false false t typed first second window eh es = record {
  members = refl;
  window = window_again t.window window;
  first = (refl, first);
  first_prefix = prefix_text_again t.first_prefix typed.first_prefix;
  hard = limits_again t.hard typed.hard;
  mode = refl;
  reqid = wide_again t.reqid typed.reqid;
  second = (refl, second);
  second_prefix = prefix_text_again t.second_prefix typed.second_prefix;
  soft = limits_again t.soft typed.soft;
}

tunnel_again : (t : TunnelSpec) → IsTypedTunnel t → is_gateway t.first ≡ true → is_gateway t.second ≡ true → is_window t.window ≡ true
    → IsTunnelInput t (tunnel_input t)
unfolding tunnel_input with_first with_second
tunnel_again t typed first second window = tunnel_by (has_no_limits t.hard) (has_no_limits t.soft) t typed first second window refl refl

input_again : CanHex → (c : Command) → IsTypedCommand c → IsWellFormed c → HasWindow c → IsInput (operation_of c) c (input_of c)
input_again hex (commands.Policy gateway list) typed lawful window = (refl, list_again gateway list lawful.0 typed lawful.1)
input_again hex (commands.Tunnel spec) typed lawful window = (refl, tunnel_again spec typed lawful.0 lawful.1 window)
input_again hex (commands.End reqid) typed lawful window = (refl, (refl, wide_again reqid typed))
input_again hex (commands.Rekey reqid) typed lawful window = (refl, (refl, wide_again reqid typed))
input_again hex (commands.Keys key) typed lawful window = (refl, (refl, (hex_colons key, refl, hex key typed)))

pub command_again : CanHex → (c : Command) → IsTypedCommand c → IsWellFormed c → HasWindow c → IsCommand (operation_of c) c (command_data c)
command_again hex c typed lawful window = (refl, input_again hex c typed lawful window)

pub no_command_fault : (c : Command) → IsWellFormed c → command_fault c ≡ None
no_command_fault (commands.Policy gateway list) lawful = lawful.1
no_command_fault (commands.Tunnel spec) lawful = refl
no_command_fault (commands.End reqid) lawful = refl
no_command_fault (commands.Rekey reqid) lawful = refl
no_command_fault (commands.Keys key) lawful = refl
