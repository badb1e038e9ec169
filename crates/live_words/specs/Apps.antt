-- The words that each command takes, as `clap` is told of them; what it matches and refuses is its own meaning.
use Rattle.std.specs.Prelude.{true, Some, List, [], ◌∷◌, codes}
use Rattle.clap.specs.Words.{App, Rule, Text, new_app, new_rule, with_rule}
use Rattle.clap.specs.Lexer.{usize_max}
use Rattle.clap.specs.declared.builder.action.ArgAction.TheVariants.{Set}

-- a required option with one value, by its long name
abbrev pub option_rule : Text → Rule
option_rule name = record (new_rule name) { long = Some name; action = Some Set; required = true }

-- the command with one more required option, `--NAME VALUE`
abbrev pub with_option : App → Text → App
with_option app name = with_rule app (option_rule name)

-- one word
abbrev pub word_rule : Text → Rule
word_rule name = record (new_rule name) { action = Some Set; required = true }

-- from 1 to 16 words
abbrev pub peers_rule : Rule
peers_rule = record (new_rule (codes "peers")) {
  range = Some (record { start_inclusive = 1; end_inclusive = 16 });
  action = Some Set;
  required = true;
}

-- a word, and all that follows it
abbrev pub rest_rule : Rule
rest_rule = record (new_rule (codes "words")) {
  range = Some (record { start_inclusive = 1; end_inclusive = usize_max });
  trailing_var_arg = true;
  action = Some Set;
  required = true;
}

-- a gateway's own address, the last sequence number that its halves may use, and how many turns it serves
abbrev pub first_options : App → App
first_options app = with_option (with_option (with_option app (codes "address")) (codes "seq-last")) (codes "turns")

-- the port of each wire of a gateway, and the port that it sends to: the protected side inside, ESP and clear packets outside
abbrev pub wire_options : App → App
wire_options app =
    with_option (with_option (with_option (with_option app (codes "inside")) (codes "inside-to")) (codes "outside")) (codes "outside-to")

-- `gateway`: the options above, a port for requests and a port for notices
unfoldable pub gateway_app : App
gateway_app = with_option (with_option (wire_options (first_options (new_app (codes "gateway")))) (codes "control")) (codes "notice")

-- `controller`: a port for a client's commands, a number of turns, and the gateways
unfoldable pub controller_app : App
controller_app = with_rule (with_option (with_option (new_app (codes "controller")) (codes "commands")) (codes "turns")) peers_rule

-- `client`: the controller's port for commands, a number of turns, and the words of one command
unfoldable pub client_app : App
client_app = with_rule (with_option (with_option (new_app (codes "client")) (codes "port")) (codes "turns")) rest_rule

-- `drill`: the number that draws the script
unfoldable pub drill_app : App
drill_app = with_rule (new_app (codes "drill")) (word_rule (codes "N"))
