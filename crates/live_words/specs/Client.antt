-- The words of `client`, and those of `drill`.
use Rattle.std.specs.Prelude.{ℕ, not, nat_le, Bool, List, [], length, codes, if◌then◌else◌, Result, Ok, Err}
use Rattle.std.specs.List.{list_all}
use Rattle.std.specs.declared.string.String.{String}
use Rattle.std.specs.declared.alloc.Global.{Global}
use Rattle.serde_json.specs.Written.{compact_text}
use Rattle.ikl_base.specs.declared.status.LineFault.{LineFault}
use Rattle.ikl_base.specs.declared.status.LineFault.TheVariants as faults
use Rattle.ikeless_tree.specs.declared.command.Command.{Command}
use Rattle.ikeless_tree.specs.declared.command.Command.TheVariants as commands
use Rattle.hist_acts.specs.declared.event.Event.{Event}
use Rattle.hist_acts.specs.declared.event.Event.TheVariants as events
use Rattle.line_words.specs.Text.{line_text}
use Rattle.line_words.specs.Words.{◌>>=◌, is_space}
use Rattle.event_lines.specs.Event.{event_of}
use Rattle.json_codec.specs.CommandWritten.{command_data}
use Rattle.clap.specs.Words.{Row}
use Rattle.live_words.specs.declared.client.ClientWords.{ClientWords}
use Rattle.live_words.specs.Apps.{client_app, drill_app}
use Rattle.live_words.specs.Values.{matched_by, count_at, port_at, values_at, wide_at}

-- the command of a line of a script
abbrev pub command_said : Event → Result Command LineFault
command_said (events.Policy gateway list) = Ok (commands.Policy gateway list)
command_said (events.Tunnel spec) = Ok (commands.Tunnel spec)
command_said (events.End reqid) = Ok (commands.End reqid)
command_said (events.Rekey reqid) = Ok (commands.Rekey reqid)
command_said (events.Keys key) = Ok (commands.Keys key)
command_said _ = Err faults.Word

-- the body of its request has at most 1 MiB
abbrev pub within_body : Command → Result Command LineFault
within_body c = if nat_le (length (compact_text (command_data c))) 1048576 then Ok c else Err faults.Long

-- the command that an event is, where its request can be sent
abbrev pub sent_of : Event → Result Command LineFault
sent_of e = command_said e >>= within_body

-- the word stays one when the words are joined to a line
abbrev pub has_no_space : List ℕ → Bool
has_no_space word = list_all (λ c. not (is_space c)) word

-- the words of such a line, none with a space
unfoldable pub command_in : List (List ℕ) → Result Command LineFault
command_in words =
    if list_all has_no_space words then event_of [] (line_text words) >>= sent_of else Err faults.Word

-- the same, as the values of the argument `words`
abbrev pub command_at : List Row → Result Command LineFault
command_at rows = values_at (codes "words") rows >>= command_in

-- all that `client` is told, by its matched arguments
unfoldable pub client_in : List Row → Result ClientWords LineFault
client_in rows =
    port_at (codes "port") rows >>= (λ p. count_at (codes "turns") rows >>= (λ t.
    command_at rows >>= (λ c. Ok (record { port = p; turns = t; command = c }))))

-- what the words of `client` say
abbrev pub client_words_of : List (String Global) → Result ClientWords LineFault
client_words_of words = matched_by (codes "client") client_app words >>= client_in

-- the number that the words of `drill` say
abbrev pub drill_words_of : List (String Global) → Result ℕ LineFault
drill_words_of words = matched_by (codes "drill") drill_app words >>= wide_at (codes "N")
