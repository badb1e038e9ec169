-- The request of a command can be written, and is read as that command.
use Rattle.std.proofs.Common.{◌≡◌, ◌≤◌, IsTrue, codes, length, Ok, refl, ap, arith}
use Rattle.ikeless_tree.specs.declared.command.Command.{Command}
use Rattle.ikeless_tree.specs.declared.command.Command.TheVariants as commands
use Rattle.json_codec.specs.Bodies.{command_of}
use Rattle.json_codec.specs.CommandRead.{operation_of}
use Rattle.rc_http.specs.Written.{is_target, request_again, IsWritableRequest}
use Rattle.text_bounds.proofs.Fields.{asking_writable}
use Rattle.rc_operations.specs.Operations.{command_body, command_message, command_target, commanded, controller_host, requested, IsSendable}

target_is : (c : Command) → IsTrue (is_target (command_target c))
target_is (commands.Policy gateway list) = refl
target_is (commands.Tunnel spec) = refl
target_is (commands.End reqid) = refl
target_is (commands.Rekey reqid) = refl
target_is (commands.Keys key) = refl

target_size : (c : Command) → length (command_target c) ≤ 1000
target_size (commands.Policy gateway list) = omega arith
target_size (commands.Tunnel spec) = omega arith
target_size (commands.End reqid) = omega arith
target_size (commands.Rekey reqid) = omega arith
target_size (commands.Keys key) = omega arith

pub command_writable : (c : Command) → IsSendable c → IsWritableRequest (command_message c)
command_writable c is =
    asking_writable (codes "POST") (command_target c) controller_host (command_body c) (record {
      method_is = refl;
      method_size = omega arith;
      target_is = target_is c;
      target_size = target_size c;
      host_is = refl;
      host_size = omega arith;
      body_size = is.short;
    })

pub command_requested : (c : Command) → command_of (operation_of c) (command_body c) ≡ Ok c
    → requested (request_again (command_message c)) ≡ Ok c
unfolding requested
command_requested (commands.Policy gateway list) reads = ap commanded reads
command_requested (commands.Tunnel spec) reads = ap commanded reads
command_requested (commands.End reqid) reads = ap commanded reads
command_requested (commands.Rekey reqid) reads = ap commanded reads
command_requested (commands.Keys key) reads = ap commanded reads
