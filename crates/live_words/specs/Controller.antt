-- The words of `controller`.
use Rattle.std.specs.Prelude.{ℕ, List, [], ◌∷◌, ◌++◌, map, codes, Result, Ok, Err}
use Rattle.std.specs.List.{flat_map, slice_split}
use Rattle.std.specs.declared.string.String.{String}
use Rattle.std.specs.declared.alloc.Global.{Global}
use Rattle.ikl_base.specs.declared.status.LineFault.{LineFault}
use Rattle.ikl_base.specs.declared.status.LineFault.TheVariants as faults
use Rattle.ikeless_tree.specs.declared.command.Peer.{Peer}
use Rattle.line_words.specs.Words.{◌>>=◌, each}
use Rattle.event_lines.specs.Header.{header_of, is_equals}
use Rattle.clap.specs.Words.{Row}
use Rattle.live_words.specs.declared.controller.ControllerWords.{ControllerWords}
use Rattle.live_words.specs.declared.controller.Link.{Link}
use Rattle.live_words.specs.declared.controller.Place.{Place}
use Rattle.live_words.specs.declared.controller.Peering.{Peering}
use Rattle.live_words.specs.Apps.{controller_app}
use Rattle.live_words.specs.Values.{matched_by, count_at, port_of, port_at, values_at}

-- NAME=ADDRESS=CONTROL=NOTICE: its first half, which names a gateway, and two ports
unfoldable pub place_in : List (List ℕ) → Result Place LineFault
place_in (name ∷ address ∷ control ∷ notice ∷ []) =
    port_of control >>= (λ c.
    port_of notice >>= (λ n. Ok (record { front = name ++ 61 ∷ address; link = record { control = c; notice = n } })))
place_in _ = Err faults.Word

-- one word, cut at its equals signs
abbrev pub place_of : List ℕ → Result Place LineFault
place_of word = place_in (slice_split is_equals word)

-- the first line of a script whose gateways have these names and addresses
abbrev pub naming_line : List Place → List ℕ
naming_line places = codes "world seq-last 1" ++ flat_map (λ p. 32 ∷ p.front) places

-- the gateways that it names: 1 to 16 with distinct names and distinct addresses of one family
abbrev pub named_peers : List Place → Result (List Peer) LineFault
named_peers places = header_of (naming_line places) >>= (λ h. Ok h.gateways)

-- those gateways, and their links
unfoldable pub peering_of : List Place → Result Peering LineFault
peering_of places = named_peers places >>= (λ peers. Ok (record { peers = peers; links = map (λ p. p.link) places }))

-- one word for each gateway, in the order in which the controller numbers them
unfoldable pub peering_in : List (List ℕ) → Result Peering LineFault
peering_in words = each place_of words >>= peering_of

-- the same, as the values of the argument `peers`
abbrev pub peering_at : List Row → Result Peering LineFault
peering_at rows = values_at (codes "peers") rows >>= peering_in

-- all that `controller` is told, by its matched arguments
unfoldable pub controller_in : List Row → Result ControllerWords LineFault
controller_in rows =
    port_at (codes "commands") rows >>= (λ c. count_at (codes "turns") rows >>= (λ t.
    peering_at rows >>= (λ p. Ok (record { commands = c; turns = t; peers = p.peers; links = p.links }))))

-- what the words of `controller` say
abbrev pub controller_words_of : List (String Global) → Result ControllerWords LineFault
controller_words_of words = matched_by (codes "controller") controller_app words >>= controller_in
