-- What is read as a command has no fault.
use Rattle.std.proofs.Common.{◌≡◌, ◌≤◌, ℕ, true, IsTrue, List, codes, Option, Some, None, Ok, arith}
use Rattle.std.proofs.lemmas.Bool.Decides.{nat_tests}
use Rattle.serde_json.specs.Data.{Data}
use Rattle.serde_json.specs.Find.{get}
use Rattle.ikeless_tree.specs.declared.command.Command.{Command}
use Rattle.ikeless_tree.specs.declared.command.Command.TheVariants as commands
use Rattle.ikeless_tree.specs.Check.{is_gateway, is_window}
use Rattle.json_values.specs.Json.{IsCommand, IsInput, IsName, IsNumber, Needed, StandsFor}
use Rattle.json_codec.specs.Bodies.{command_of}
use Rattle.json_codec.specs.CommandRead.{command_fault, is_operation}
use Rattle.rc_operations.specs.Operations.{IsSound}

in_window : (n : ℕ) → 32 ≤ n → n ≤ 4096 → is_window n ≡ true
in_window n least most = grind (arith, nat_tests, least, most)

named : (o : Option Data) (name : List ℕ) → Needed (IsName is_gateway name) o → is_gateway name ≡ true
named None name h = absurd h
named (Some d) name h = h.1

windowed : (o : Option Data) (n : ℕ) → Needed (IsNumber 32 4096 n) o → is_window n ≡ true
windowed None n h = absurd h
windowed (Some d) n h = in_window n h.1 h.2

input_sound : (op : List ℕ) (c : Command) (d : Data) → IsInput op c d → command_fault c ≡ None → IsSound c
input_sound op (commands.Policy gateway list) d is none =
    record { lawful = (named (get (codes "gateway") d) gateway is.1.gateway, none); window = tt }
input_sound op (commands.Tunnel spec) d is none = record {
  lawful = (named (get (codes "first") d) spec.first is.1.first, named (get (codes "second") d) spec.second is.1.second);
  window = windowed (get (codes "anti-replay-window-size") d) spec.window is.1.window;
}
input_sound op (commands.End reqid) d is none = record { lawful = tt; window = tt }
input_sound op (commands.Rekey reqid) d is none = record { lawful = tt; window = tt }
input_sound op (commands.Keys key) d is none = record { lawful = tt; window = tt }

needed_sound : (op : List ℕ) (c : Command) (o : Option Data) → Needed (IsInput op c) o → command_fault c ≡ None → IsSound c
needed_sound op c None is none = absurd is
needed_sound op c (Some d) is none = input_sound op c d is none

-- what the law of commands says
abbrev pub Accepts : Type 0
Accepts = (op body : List ℕ) (c : Command) → IsTrue (is_operation op) → command_of op body ≡ Ok c
    → StandsFor body (λ d. IsCommand op c d × (command_fault c ≡ None))

pub body_sound : Accepts → (op body : List ℕ) (c : Command) → IsTrue (is_operation op) → command_of op body ≡ Ok c → IsSound c
body_sound accepts op body c is read =
    let stands = accepts op body c is read in
    needed_sound op c (get (codes "ikl-control:input") stands.1) stands.3.0.1 stands.3.1
