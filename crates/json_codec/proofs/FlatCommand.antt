-- What is written for commands has no floats, and nests a few levels deep.
use Rattle.std.proofs.Common.{ℕ, List, arith, codes}
use Rattle.serde_json.specs.Data.{Data, no_members}
use Rattle.ikeless_tree.specs.declared.command.Command.{Command}
use Rattle.ikeless_tree.specs.declared.command.Command.TheVariants as commands
use Rattle.ikeless_tree.specs.declared.command.TunnelSpec.{TunnelSpec}
use Rattle.ikeless_tree.specs.declared.entry.SpdEntry.{SpdEntry}
use Rattle.json_codec.specs.CommandWritten.{policy_input, with_first, with_second, tunnel_input, input_of, command_data}
use Rattle.json_tree.proofs.Flat.{IsFlat, flat_put, flat_none, flat_object, flat_string, flat_count, flat_only, flat_spd_entries}
use Rattle.json_tree.proofs.FlatRows.{flat_lifetime}

flat_policy_input : (gateway : List ℕ) (list : List SpdEntry) → IsFlat 7 (policy_input gateway list)
unfolding policy_input
flat_policy_input gateway list = flat_object 6 _ (flat_put 6 (codes "gateway") _ _ (flat_string 6 gateway)
    (flat_put 6 (codes "spd-entry") _ _ (flat_spd_entries list) (flat_none 6)))

flat_tunnel_input : (t : TunnelSpec) → IsFlat 4 (tunnel_input t)
unfolding tunnel_input with_first with_second
flat_tunnel_input t = flat_object 3 _ (flat_put 3 (codes "anti-replay-window-size") _ _ (flat_count 3 t.window)
    (flat_put 3 (codes "first") _ _ (flat_string 3 _)
    (flat_put 3 (codes "first-prefix") _ _ (flat_string 3 _)
    (flat_lifetime (codes "hard") t.hard _
    (flat_put 3 (codes "mode") _ _ (flat_string 3 _)
    (flat_put 3 (codes "reqid") _ _ (flat_string 3 _)
    (flat_put 3 (codes "second") _ _ (flat_string 3 _)
    (flat_put 3 (codes "second-prefix") _ _ (flat_string 3 _)
    (flat_lifetime (codes "soft") t.soft no_members (flat_none 3))))))))))

deeper : (d : Data) → IsFlat 4 d → IsFlat 7 d
deeper d f = let shallow = f.shallow in record { plain = f.plain; shallow = omega arith }

flat_input : (c : Command) → IsFlat 7 (input_of c)
flat_input (commands.Policy gateway list) = flat_policy_input gateway list
flat_input (commands.Tunnel spec) = deeper _ (flat_tunnel_input spec)
flat_input (commands.End reqid) = flat_only 6 (codes "reqid") _ (flat_string 6 _)
flat_input (commands.Rekey reqid) = flat_only 6 (codes "reqid") _ (flat_string 6 _)
flat_input (commands.Keys key) = flat_only 6 (codes "key") _ (flat_string 6 _)

pub flat_command : (c : Command) → IsFlat 8 (command_data c)
flat_command c = flat_only 7 (codes "ikl-control:input") (input_of c) (flat_input c)
