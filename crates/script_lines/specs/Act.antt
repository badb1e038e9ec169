-- The lines of a transcript, without their LF.
use Rattle.std.specs.Prelude.{ℕ, ◌-◌, ◌^◌, nat_le, List, [], ◌∷◌, length, codes, if◌then◌else◌, Result, Ok, Err}
use Rattle.std.specs.List.{list_all}
use Rattle.std.specs.Str.{bytes_eq}
use Rattle.ikl_base.specs.declared.status.LineFault.{LineFault}
use Rattle.ikl_base.specs.declared.status.LineFault.TheVariants as faults
use Rattle.ikeless_tree.specs.Check.{spd_fault}
use Rattle.ikeless_tree.specs.Words as table
use Rattle.ikeless_tree.specs.declared.command.Peer.{Peer}
use Rattle.ikeless_tree.specs.declared.command.Refusal.{Refusal}
use Rattle.ikeless_tree.specs.declared.drops.DropWhy.{DropWhy}
use Rattle.ikeless_tree.specs.declared.ends.GoneWhy.{GoneWhy}
use Rattle.hist_acts.specs.declared.act.Act.{Act}
use Rattle.hist_acts.specs.declared.act.Act.TheVariants as acts
use Rattle.script_lines.specs.declared.act.Packet.{Packet}
use Rattle.script_lines.specs.declared.act.Sealed.{Sealed}
use Rattle.script_lines.specs.declared.act.Opening.{Opening}
use Rattle.line_words.specs.Words.{◌>>=◌, one_of, words, is_printable, known_of, half_name_of, octets_of, lane_of, number_in}
use Rattle.line_words.specs.Entry.{entries_of, unless_fault}
use Rattle.event_lines.specs.Event.{time_in, reqid_in, gateway_in}
use Rattle.line_words.specs.Half.{half_of}
use Rattle.script_lines.specs.Session.{place_of, order_of, replied_in, noticed_in}
use Rattle.script_lines.specs.Text.{act_text}

-- why a packet is dropped
abbrev pub why_of : List ℕ → Result DropWhy LineFault
why_of w = one_of faults.Word (table.drop_of w)

-- how a half ended
abbrev pub gone_of : List ℕ → Result GoneWhy LineFault
gone_of w = one_of faults.Word (table.gone_of w)

-- why a command is refused
abbrev pub refusal_of : List ℕ → Result Refusal LineFault
refusal_of w = one_of faults.Word (table.refusal_of w)

-- a gateway, and a list that can be in force there
unfoldable pub force_in : List Peer → List (List ℕ) → Result Act LineFault
force_in gateways [] = Err faults.Count
force_in gateways (gateway ∷ entries) =
    if nat_le (length entries) 256
    then known_of gateways gateway >>=
    (λ g. entries_of entries >>= (λ list. unless_fault (spd_fault list) list >>= (λ good. Ok (acts.Policy g good))))
    else Err faults.Count

-- a gateway, and octets
unfoldable pub packet_in : List Peer → List (List ℕ) → Result Packet LineFault
packet_in gateways (gateway ∷ octets ∷ []) =
    known_of gateways gateway >>= (λ g. octets_of octets >>= (λ o. Ok (record { gateway = g; octets = o })))
packet_in gateways _ = Err faults.Count

-- at a gateway, under a half and with a sequence number below 2^64, these octets were sent or given
unfoldable pub sealed_of : List Peer → List ℕ → List ℕ → List ℕ → List ℕ → Result Sealed LineFault
sealed_of gateways gateway name number octets =
    known_of gateways gateway >>=
    (λ g. half_name_of name >>= (λ n. number_in faults.Number (2 ^ 64 - 1) number >>= (λ k. octets_of octets >>= (λ o.
    Ok (record { gateway = g; half = n; number = k; octets = o })))))

-- a gateway, a half, a sequence number and octets
unfoldable pub sealed_in : List Peer → List (List ℕ) → Result Sealed LineFault
sealed_in gateways (gateway ∷ name ∷ number ∷ octets ∷ []) = sealed_of gateways gateway name number octets
sealed_in gateways _ = Err faults.Count

-- a gateway, and why a packet is dropped there
unfoldable pub drop_in : List Peer → List (List ℕ) → Result Act LineFault
drop_in gateways (gateway ∷ w ∷ []) = known_of gateways gateway >>= (λ g. why_of w >>= (λ y. Ok (acts.Drop g y)))
drop_in gateways _ = Err faults.Count

-- the half of one word is installed at a gateway of the header
unfoldable pub put_at : List Peer → List ℕ → List ℕ → Result Act LineFault
put_at gateways gateway half = known_of gateways gateway >>= (λ g. half_of half >>= (λ e. Ok (acts.Put g e)))

-- a gateway, and a half that can be installed there
unfoldable pub put_in : List Peer → List (List ℕ) → Result Act LineFault
put_in gateways (gateway ∷ half ∷ []) = put_at gateways gateway half
put_in gateways _ = Err faults.Count

-- a half, by its name, is gone at a gateway of the header, for this reason
unfoldable pub gone_at : List Peer → List ℕ → List ℕ → List ℕ → Result Act LineFault
gone_at gateways gateway name w =
    known_of gateways gateway >>= (λ g. half_name_of name >>= (λ n. gone_of w >>= (λ y. Ok (acts.Gone g n y))))

-- a gateway, a half and how it ended
unfoldable pub gone_in : List Peer → List (List ℕ) → Result Act LineFault
gone_in gateways (gateway ∷ name ∷ w ∷ []) = gone_at gateways gateway name w
gone_in gateways _ = Err faults.Count

-- a gateway, and the number of a session
unfoldable pub opening_in : List Peer → List (List ℕ) → Result Opening LineFault
opening_in gateways (gateway ∷ session ∷ []) =
    known_of gateways gateway >>= (λ g. number_in faults.Number (2 ^ 32 - 1) session >>= (λ s. Ok (record { gateway = g; session = s })))
opening_in gateways _ = Err faults.Count

-- at most 4096 octets
abbrev pub shown_of : List ℕ → Result (List ℕ) LineFault
shown_of w = octets_of w >>= (λ o. if nat_le (length o) 4096 then Ok o else Err faults.Hex)

-- at most 4,096 octets are under way on a lane of a gateway
unfoldable pub under_way_at : List Peer → List ℕ → List ℕ → List ℕ → Result Act LineFault
under_way_at gateways gateway lane octets =
    known_of gateways gateway >>= (λ g. lane_of lane >>= (λ l. shown_of octets >>= (λ o. Ok (acts.Wire g l o))))

-- a gateway, a lane and octets
unfoldable pub under_way_in : List Peer → List (List ℕ) → Result Act LineFault
under_way_in gateways (gateway ∷ lane ∷ octets ∷ []) = under_way_at gateways gateway lane octets
under_way_in gateways _ = Err faults.Count

-- why the controller refused a command, and no more words
unfoldable pub refused_in : List (List ℕ) → Result Act LineFault
refused_in (w ∷ []) = refusal_of w >>= (λ y. Ok (acts.Refused y))
refused_in _ = Err faults.Count

-- an order by its place and its words: the gateway, its session, the number in it, and what is ordered
unfoldable pub order_at : List Peer → List ℕ → List ℕ → List ℕ → List ℕ → List (List ℕ) → Result Act LineFault
order_at gateways gateway session request w ws =
    place_of gateways gateway session request >>= (λ p. order_of w ws >>= (λ o. Ok (acts.Order p.gateway p.session p.request o)))

-- a gateway, the numbers of a session and of a request in it, and an order
unfoldable pub order_in : List Peer → List (List ℕ) → Result Act LineFault
order_in gateways (gateway ∷ session ∷ request ∷ w ∷ ws) = order_at gateways gateway session request w ws
order_in gateways _ = Err faults.Count

-- orders, answers and notices
unfoldable pub session_act_in : List Peer → List ℕ → List (List ℕ) → Result Act LineFault
session_act_in gateways w ws =
    if bytes_eq w (codes "order") then order_in gateways ws
    else if bytes_eq w (codes "handled") then replied_in gateways ws >>=
    (λ r. Ok (acts.Handled r.place.gateway r.place.session r.place.request r.answer))
    else if bytes_eq w (codes "answered") then replied_in gateways ws >>=
    (λ r. Ok (acts.Answered r.place.gateway r.place.session r.place.request r.answer))
    else if bytes_eq w (codes "notice") then noticed_in gateways ws >>= (λ n. Ok (acts.Notice n.gateway n.session n.notice))
    else if bytes_eq w (codes "heard") then noticed_in gateways ws >>= (λ n. Ok (acts.Heard n.gateway n.session n.notice))
    else Err faults.Word

-- what happens to databases and sessions
unfoldable pub base_act_in : List Peer → List ℕ → List (List ℕ) → Result Act LineFault
base_act_in gateways w ws =
    if bytes_eq w (codes "policy") then force_in gateways ws
    else if bytes_eq w (codes "put") then put_in gateways ws
    else if bytes_eq w (codes "gone") then gone_in gateways ws
    else if bytes_eq w (codes "opened") then opening_in gateways ws >>= (λ s. Ok (acts.Opened s.gateway s.session))
    else if bytes_eq w (codes "cut") then opening_in gateways ws >>= (λ s. Ok (acts.Cut s.gateway s.session))
    else if bytes_eq w (codes "wire") then under_way_in gateways ws
    else if bytes_eq w (codes "refused") then refused_in ws
    else session_act_in gateways w ws

-- what happens to packets
unfoldable pub packet_act_in : List Peer → List ℕ → List (List ℕ) → Result Act LineFault
packet_act_in gateways w ws =
    if bytes_eq w (codes "let") then packet_in gateways ws >>= (λ p. Ok (acts.Let p.gateway p.octets))
    else if bytes_eq w (codes "clear") then packet_in gateways ws >>= (λ p. Ok (acts.Clear p.gateway p.octets))
    else if bytes_eq w (codes "arrived") then packet_in gateways ws >>= (λ p. Ok (acts.Arrived p.gateway p.octets))
    else if bytes_eq w (codes "pass") then packet_in gateways ws >>= (λ p. Ok (acts.Pass p.gateway p.octets))
    else base_act_in gateways w ws

-- first the word that says what happened, then the number of words, then the words from left to right
unfoldable pub act_in : List Peer → List (List ℕ) → Result Act LineFault
act_in gateways [] = Err faults.Word
act_in gateways (w ∷ ws) =
    if bytes_eq w (codes "@") then reqid_in ws >>= (λ k. Ok (acts.Took k))
    else if bytes_eq w (codes "now") then time_in ws >>= (λ t. Ok (acts.Now t))
    else if bytes_eq w (codes "boot") then gateway_in gateways ws >>= (λ g. Ok (acts.Boot g))
    else if bytes_eq w (codes "sent") then sealed_in gateways ws >>= (λ s. Ok (acts.Sent s.gateway s.half s.number s.octets))
    else if bytes_eq w (codes "gave") then sealed_in gateways ws >>= (λ s. Ok (acts.Gave s.gateway s.half s.number s.octets))
    else if bytes_eq w (codes "drop") then drop_in gateways ws
    else packet_act_in gateways w ws

-- the kind of the words that alone may be spelled in another way
abbrev pub spelling_fault : Act → LineFault
spelling_fault (acts.Policy g list) = faults.Entry
spelling_fault (acts.Let g o) = faults.Hex
spelling_fault (acts.Sent g name k o) = faults.Hex
spelling_fault (acts.Clear g o) = faults.Hex
spelling_fault (acts.Arrived g o) = faults.Hex
spelling_fault (acts.Gave g name k o) = faults.Hex
spelling_fault (acts.Pass g o) = faults.Hex
spelling_fault (acts.Wire g l o) = faults.Hex
spelling_fault (acts.Put g e) = faults.Entry
spelling_fault (acts.Order g s n o) = faults.Entry
spelling_fault (acts.Notice g s n) = faults.Entry
spelling_fault (acts.Heard g s n) = faults.Entry
spelling_fault _ = faults.Word

-- an act has one spelling
unfoldable pub as_spelled : List ℕ → Act → Result Act LineFault
as_spelled line a = if bytes_eq (act_text a) line then Ok a else Err (spelling_fault a)

-- the act whose text a line is under these gateways, or the first reason why it is none
unfoldable pub act_of : List Peer → List ℕ → Result Act LineFault
act_of gateways line = if list_all is_printable line then act_in gateways (words line) >>= as_spelled line else Err faults.Octet
