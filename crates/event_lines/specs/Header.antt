-- The first line of a script.
use Rattle.std.specs.Prelude.{ℕ, ◌-◌, ◌^◌, ◌==◌, ◌&&◌, not, nat_le, Bool, true, List, [], ◌∷◌, length, codes, if◌then◌else◌, Result, Ok, Err}
use Rattle.std.specs.List.{list_all, slice_split}
use Rattle.std.specs.Str.{bytes_eq}
use Rattle.ikl_base.specs.declared.status.LineFault.{LineFault}
use Rattle.ikl_base.specs.declared.status.LineFault.TheVariants as faults
use Rattle.ikl_base.specs.Address.{is_one_family, is_same_address}
use Rattle.ikeless_tree.specs.Check.{is_gateway}
use Rattle.ikeless_tree.specs.declared.command.Peer.{Peer}
use Rattle.hist_acts.specs.declared.event.Header.{Header}
use Rattle.yang_values.specs.Numbers.{number_of}
use Rattle.yang_values.specs.Addresses.{address_of}
use Rattle.line_words.specs.Words.{◌>>=◌, or_fault, each, words, is_printable}

-- between the name of a gateway and its address
abbrev pub is_equals : ℕ → Bool
is_equals c = c == 61

-- a number from 1 to 2 ^ 32 - 1
unfoldable pub seq_last_of : List ℕ → Result ℕ LineFault
seq_last_of w = or_fault faults.Header (number_of (2 ^ 32 - 1) w) >>= (λ n. if nat_le 1 n then Ok n else Err faults.Header)

-- a name, an equals sign and an address
unfoldable pub gateway_in : List (List ℕ) → Result Peer LineFault
gateway_in (name ∷ address ∷ []) =
    if is_gateway name then or_fault faults.Header (address_of address) >>= (λ a. Ok (record { name = name; address = a }))
    else Err faults.Header
gateway_in _ = Err faults.Header

-- one word, `GATEWAY=ADDRESS`
abbrev pub peer_of : List ℕ → Result Peer LineFault
peer_of w = gateway_in (slice_split is_equals w)

-- each word a gateway of the header
abbrev pub peers_of : List (List ℕ) → Result (List Peer) LineFault
peers_of words = each peer_of words

-- two gateways that one header may name: other names, other addresses, one family
abbrev pub go_together : Peer → Peer → Bool
go_together p q = not (bytes_eq p.name q.name) && not (is_same_address p.address q.address) && is_one_family p.address q.address

-- no two of these gateways have one name, one address or addresses of two families
abbrev pub all_go_together : List Peer → Bool
all_go_together [] = true
all_go_together (p ∷ ps) = list_all (go_together p) ps && all_go_together ps

-- 1 to 16 gateways that go together
unfoldable pub gateways_of : List (List ℕ) → Result (List Peer) LineFault
gateways_of ws =
    if nat_le 1 (length ws) && nat_le (length ws) 16
    then peers_of ws >>= (λ ps. if all_go_together ps then Ok ps else Err faults.Header)
    else Err faults.Header

-- `world seq-last`, the last sequence number that a half may use (RFC 4303 section 2.2), and the gateways
unfoldable pub header_in : List (List ℕ) → Result Header LineFault
header_in (world ∷ seq_last ∷ number ∷ gateways) =
    if bytes_eq world (codes "world") && bytes_eq seq_last (codes "seq-last")
    then seq_last_of number >>= (λ n. gateways_of gateways >>= (λ ps. Ok (record { seq_last = n; gateways = ps })))
    else Err faults.Header
header_in _ = Err faults.Header

-- the header that a line without its LF is, or the reason why it is none
unfoldable pub header_of : List ℕ → Result Header LineFault
header_of line = if list_all is_printable line then header_in (words line) else Err faults.Octet
