-- The lines of a script after its header.
use Rattle.std.specs.Prelude.{ℕ, ◌-◌, ◌^◌, ◌==◌, nat_le, Bool, false, List, [], ◌∷◌, length, codes, if◌then◌else◌, Result, Ok, Err}
use Rattle.std.specs.List.{list_all}
use Rattle.std.specs.Str.{bytes_eq}
use Rattle.ikl_base.specs.declared.status.LineFault.{LineFault}
use Rattle.ikl_base.specs.declared.status.LineFault.TheVariants as faults
use Rattle.ikeless_tree.specs.Check.{spd_fault}
use Rattle.ikeless_tree.specs.Words as table
use Rattle.ikeless_tree.specs.declared.command.Peer.{Peer}
use Rattle.ikeless_tree.specs.declared.command.TunnelSpec.{TunnelSpec}
use Rattle.hist_acts.specs.declared.event.Event.{Event}
use Rattle.hist_acts.specs.declared.event.Event.TheVariants as events
use Rattle.event_lines.specs.declared.tunnel.Ends.{Ends}
use Rattle.event_lines.specs.declared.tunnel.Flow.{Flow}
use Rattle.line_words.specs.Words.{◌>>=◌, one_of, words, is_printable, gateway_of, known_of, octets_of, lane_of, number_in, prefix_in}
use Rattle.line_words.specs.Entry.{entries_of, unless_fault}
use Rattle.line_words.specs.Limits.{lifetimes_of}

-- a gateway by any name, and at most 256 entries, which must be a list that can be in force
unfoldable pub policy_in : List (List ℕ) → Result Event LineFault
policy_in [] = Err faults.Count
policy_in (gateway ∷ entries) =
    if nat_le (length entries) 256
    then gateway_of gateway >>=
    (λ g. entries_of entries >>= (λ list. unless_fault (spd_fault list) list >>= (λ good. Ok (events.Policy g good))))
    else Err faults.Count

-- a gateway of the header, and the octets of a packet from inside
unfoldable pub let_in : List Peer → List (List ℕ) → Result Event LineFault
let_in gateways (gateway ∷ octets ∷ []) = known_of gateways gateway >>= (λ g. octets_of octets >>= (λ o. Ok (events.Let g o)))
let_in gateways _ = Err faults.Count

-- ---- arrivals

-- a word that begins with `#`
abbrev pub is_numbered : List ℕ → Bool
is_numbered [] = false
is_numbered (c ∷ cs) = c == 35

-- a number from 1
abbrev pub from_one : List ℕ → Result ℕ LineFault
from_one w = number_in faults.Number (2 ^ 64 - 1) w >>= (λ k. if nat_le 1 k then Ok k else Err faults.Number)

-- `#` and which of the datagrams sent it is, from 1
abbrev pub sent_of : List ℕ → Result ℕ LineFault
sent_of [] = Err faults.Word
sent_of (c ∷ cs) = if c == 35 then from_one cs else Err faults.Word

-- octets, or those of a datagram sent
unfoldable pub arrive_of : List Peer → List ℕ → List ℕ → Result Event LineFault
arrive_of gateways gateway w =
    known_of gateways gateway >>= (λ g. if is_numbered w then sent_of w >>= (λ k. Ok (events.ArriveSent g k))
    else octets_of w >>= (λ o. Ok (events.Arrive g o)))

-- the same with another time to live
unfoldable pub ttl_of : List Peer → List ℕ → List ℕ → List ℕ → List ℕ → Result Event LineFault
ttl_of gateways gateway sent how ttl =
    known_of gateways gateway >>= (λ g. sent_of sent >>= (λ k. if bytes_eq how (codes "ttl")
    then number_in faults.Number 255 ttl >>= (λ t. Ok (events.ArriveTtl g k t))
    else Err faults.Word))

-- the same with one bit of one octet changed
unfoldable pub flip_of : List Peer → List ℕ → List ℕ → List ℕ → List ℕ → List ℕ → Result Event LineFault
flip_of gateways gateway sent how offset bit =
    known_of gateways gateway >>= (λ g. sent_of sent >>= (λ k. if bytes_eq how (codes "flip")
    then number_in faults.Number (2 ^ 64 - 1) offset >>= (λ n. number_in faults.Number 7 bit >>= (λ b. Ok (events.ArriveFlip g k n b)))
    else Err faults.Word))

-- a gateway of the header, and what arrives there, by the number of words: octets or a datagram sent, with another time to live, or with
-- one bit changed
unfoldable pub arrive_in : List Peer → List (List ℕ) → Result Event LineFault
arrive_in gateways (gateway ∷ w ∷ []) = arrive_of gateways gateway w
arrive_in gateways (gateway ∷ sent ∷ how ∷ ttl ∷ []) = ttl_of gateways gateway sent how ttl
arrive_in gateways (gateway ∷ sent ∷ how ∷ offset ∷ bit ∷ []) = flip_of gateways gateway sent how offset bit
arrive_in gateways _ = Err faults.Count

-- ---- clocks, gateways and sessions

-- a reading of the clock in seconds, below 2^32
unfoldable pub time_in : List (List ℕ) → Result ℕ LineFault
time_in (t ∷ []) = number_in faults.Number (2 ^ 32 - 1) t
time_in _ = Err faults.Count

-- a gateway of the header, and no more words
unfoldable pub gateway_in : List Peer → List (List ℕ) → Result (List ℕ) LineFault
gateway_in gateways (gateway ∷ []) = known_of gateways gateway
gateway_in gateways _ = Err faults.Count

-- a gateway of the header, and the lane that is shown
unfoldable pub wire_in : List Peer → List (List ℕ) → Result Event LineFault
wire_in gateways (gateway ∷ lane ∷ []) = known_of gateways gateway >>= (λ g. lane_of lane >>= (λ l. Ok (events.Wire g l)))
wire_in gateways _ = Err faults.Count

-- ---- commands

-- the reqid of a tunnel, or another number below 2^64, and no more words
unfoldable pub reqid_in : List (List ℕ) → Result ℕ LineFault
reqid_in (reqid ∷ []) = number_in faults.Number (2 ^ 64 - 1) reqid
reqid_in _ = Err faults.Count

-- one key; whether its length is right is the controller's to say
unfoldable pub keys_in : List (List ℕ) → Result Event LineFault
keys_in (octets ∷ []) = octets_of octets >>= (λ o. Ok (events.Keys o))
keys_in _ = Err faults.Count

-- whether keys are asked for at once, or at the first packet
abbrev pub mode_of : List ℕ → Result Bool LineFault
mode_of w = one_of faults.Mode (table.mode_of w)

-- the size of an anti-replay window
abbrev pub window_of : List ℕ → Result ℕ LineFault
window_of w = number_in faults.Number 4096 w >>= (λ n. if nat_le 32 n then Ok n else Err faults.Number)

-- a reqid, whether keys are wanted at once, and two gateways by any name
unfoldable pub ends_of : List ℕ → List ℕ → List ℕ → List ℕ → Result Ends LineFault
ends_of reqid mode first second =
    number_in faults.Number (2 ^ 64 - 1) reqid >>= (λ n. mode_of mode >>= (λ m. gateway_of first >>= (λ f. gateway_of second >>= (λ s.
    Ok (record { reqid = n; now = m; first = f; second = s })))))

-- the prefix behind each gateway, the size of the anti-replay window, the hard limits and the soft ones
unfoldable pub flow_of : List ℕ → List ℕ → List ℕ → List ℕ → List ℕ → Result Flow LineFault
flow_of first second window hard soft =
    prefix_in faults.Prefix first >>=
    (λ f. prefix_in faults.Prefix second >>= (λ s. window_of window >>= (λ w. lifetimes_of faults.Limits hard soft >>= (λ l.
    Ok (record { first = f; second = s; window = w; lifetimes = l })))))

-- the tunnel with these ends, and what flows in it
abbrev pub tunnel_made : Ends → Flow → TunnelSpec
tunnel_made e f = record {
  reqid = e.reqid;
  now = e.now;
  first = e.first;
  second = e.second;
  first_prefix = f.first;
  second_prefix = f.second;
  window = f.window;
  hard = f.lifetimes.hard;
  soft = f.lifetimes.soft;
}

-- the same in five words, no more and no fewer
unfoldable pub flow_in : List (List ℕ) → Result Flow LineFault
flow_in (first ∷ second ∷ window ∷ hard ∷ soft ∷ []) = flow_of first second window hard soft
flow_in _ = Err faults.Count

-- a tunnel by its first four words and those after them, which are looked at later
unfoldable pub tunnel_of : List ℕ → List ℕ → List ℕ → List ℕ → List (List ℕ) → Result Event LineFault
tunnel_of reqid mode first second more =
    ends_of reqid mode first second >>= (λ e. flow_in more >>= (λ f. Ok (events.Tunnel (tunnel_made e f))))

-- a tunnel by its words, of which there are nine
unfoldable pub tunnel_from : List (List ℕ) → Result Event LineFault
tunnel_from (reqid ∷ mode ∷ first ∷ second ∷ more) = tunnel_of reqid mode first second more
tunnel_from _ = Err faults.Count

-- a number, a mode, two gateways, two prefixes, a window and two lifetimes
unfoldable pub tunnel_in : List (List ℕ) → Result Event LineFault
tunnel_in ws = if length ws == 9 then tunnel_from ws else Err faults.Count

-- ---- a line

-- commands to the controller
unfoldable pub command_in : List ℕ → List (List ℕ) → Result Event LineFault
command_in w ws =
    if bytes_eq w (codes "policy") then policy_in ws
    else if bytes_eq w (codes "tunnel") then tunnel_in ws
    else if bytes_eq w (codes "end") then reqid_in ws >>= (λ n. Ok (events.End n))
    else if bytes_eq w (codes "rekey") then reqid_in ws >>= (λ n. Ok (events.Rekey n))
    else if bytes_eq w (codes "keys") then keys_in ws
    else Err faults.Word

-- sessions of gateways, or commands
unfoldable pub session_in : List Peer → List ℕ → List (List ℕ) → Result Event LineFault
session_in gateways w ws =
    if bytes_eq w (codes "open") then gateway_in gateways ws >>= (λ g. Ok (events.Open g))
    else if bytes_eq w (codes "cut") then gateway_in gateways ws >>= (λ g. Ok (events.Cut g))
    else if bytes_eq w (codes "down") then gateway_in gateways ws >>= (λ g. Ok (events.Down g))
    else if bytes_eq w (codes "up") then gateway_in gateways ws >>= (λ g. Ok (events.Up g))
    else if bytes_eq w (codes "note") then gateway_in gateways ws >>= (λ g. Ok (events.Note g))
    else command_in w ws

-- first the word that says what happens, then the number of words, then the words from left to right
unfoldable pub event_in : List Peer → List (List ℕ) → Result Event LineFault
event_in gateways [] = Err faults.Word
event_in gateways (w ∷ ws) =
    if bytes_eq w (codes "let") then let_in gateways ws
    else if bytes_eq w (codes "arrive") then arrive_in gateways ws
    else if bytes_eq w (codes "now") then time_in ws >>= (λ t. Ok (events.Now t))
    else if bytes_eq w (codes "boot") then gateway_in gateways ws >>= (λ g. Ok (events.Boot g))
    else if bytes_eq w (codes "wire") then wire_in gateways ws
    else session_in gateways w ws

-- the event that a line without its LF says under these gateways, or the first reason why it says none
unfoldable pub event_of : List Peer → List ℕ → Result Event LineFault
event_of gateways line = if list_all is_printable line then event_in gateways (words line) else Err faults.Octet
