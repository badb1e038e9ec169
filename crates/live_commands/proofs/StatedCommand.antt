-- The command that the words of `client` say can be sent.
use Rattle.std.proofs.Common.{◌≡◌, ℕ, nat_le, List, [], length, Ok, subst}
use Rattle.std.specs.Prelude.{codes}
use Rattle.std.specs.List.{list_all}
use Rattle.std.proofs.lemmas.Bool.{leb-true}
use Rattle.std.specs.declared.string.String.{String}
use Rattle.std.specs.declared.alloc.Global.{Global}
use Rattle.ikl_base.specs.declared.status.LineFault.TheVariants as faults
use Rattle.ikeless_tree.specs.declared.command.Command.{Command}
use Rattle.ikeless_tree.specs.declared.command.Command.TheVariants as commands
use Rattle.ikeless_tree.specs.declared.command.Peer.{Peer}
use Rattle.hist_acts.specs.declared.event.Event.{Event}
use Rattle.hist_acts.specs.declared.event.Event.TheVariants as events
use Rattle.json_codec.specs.CommandRead.{HasWindow}
use Rattle.line_words.specs.Text.{line_text}
use Rattle.line_words.specs.Words.{◌>>=◌}
use Rattle.line_words.proofs.TakenSteps.{after, inside, passed}
use Rattle.event_lines.specs.Event.{event_of}
use Rattle.event_lines.specs.Spelling.{IsEventUnder}
use Rattle.clap.specs.Words.{Row}
use Rattle.rc_operations.specs.Operations.{IsSendable, IsSound, command_body}
use Rattle.live_words.specs.declared.client.ClientWords.{ClientWords}
use Rattle.live_words.specs.Apps.{client_app}
use Rattle.live_words.specs.Values.{count_at, matched_by, port_at, values_at}
use Rattle.live_words.specs.Client.{client_in, client_words_of, command_at, command_in, command_said, has_no_space, sent_of, within_body}
use Rattle.live_words.proofs.CommandLemmas.{said-well-formed}

-- what is read as an event is one that a line can spell, as a law below says
abbrev pub ReadsEvents : Type 0
ReadsEvents = (gateways : List Peer) (line : List ℕ) (e : Event) → event_of gateways line ≡ Ok e → IsEventUnder gateways e

said-window : (e : Event) (c : Command) → IsEventUnder [] e → command_said e ≡ Ok c → HasWindow c
said-window (events.Policy g list) c under is = (let e : commands.Policy g list ≡ c = cc in subst HasWindow e tt)
said-window (events.Tunnel s) c under is = (let e : commands.Tunnel s ≡ c = cc in subst HasWindow e under.2)
said-window (events.End n) c under is = (let e : commands.End n ≡ c = cc in subst HasWindow e tt)
said-window (events.Rekey n) c under is = (let e : commands.Rekey n ≡ c = cc in subst HasWindow e tt)
said-window (events.Keys o) c under is = (let e : commands.Keys o ≡ c = cc in subst HasWindow e tt)
said-window _ c under is = cc

sound : (e : Event) (c : Command) → IsEventUnder [] e → command_said e ≡ Ok c → IsSound c
sound e c under is = record { lawful = said-well-formed e c under is; window = said-window e c under is }

event-sendable : (e : Event) (c : Command) → IsEventUnder [] e → sent_of e ≡ Ok c → IsSendable c
event-sendable e c under is =
    after (IsSendable c) (command_said e) within_body c is
    (λ d said more. passed (IsSendable c) (nat_le (length (command_body d)) 1048576) (Ok d) faults.Long c more
    (λ short same. subst IsSendable (inside d c same)
    (record { sound = sound e d under said; short = leb-true (length (command_body d)) 1048576 short })))

line-sendable : ReadsEvents → (words : List (List ℕ)) (c : Command) → command_in words ≡ Ok c → IsSendable c
unfolding command_in
line-sendable reads words c is =
    passed (IsSendable c) (list_all has_no_space words) (event_of [] (line_text words) >>= sent_of) faults.Word c is
    (λ _ more. after (IsSendable c) (event_of [] (line_text words)) sent_of c more
    (λ e read sent. event-sendable e c (reads [] (line_text words) e read) sent))

rows-sendable : ReadsEvents → (rows : List Row) (w : ClientWords) → client_in rows ≡ Ok w → IsSendable w.command
unfolding client_in
rows-sendable reads rows w is =
    let P : Type 0 = IsSendable w.command in
    after P (port_at (codes "port") rows) _ w is
    (λ _ _ more. after P (count_at (codes "turns") rows) _ w more
    (λ _ _ more2. after P (command_at rows) _ w more2
    (λ c read same. subst (λ (v : ClientWords). IsSendable v.command) (inside _ w same)
    (after (IsSendable c) (values_at (codes "words") rows) command_in c read (λ words _ more3. line-sendable reads words c more3)))))

pub can-be-sent : ReadsEvents → (words : List (String Global)) (w : ClientWords) → client_words_of words ≡ Ok w → IsSendable w.command
can-be-sent reads words w is =
    after (IsSendable w.command) (matched_by (codes "client") client_app words) client_in w is
    (λ rows _ more. rows-sendable reads rows w more)
