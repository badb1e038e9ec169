-- The ESP octets of datagrams, the half that they are for and the number that it finds in them (RFC 4303).
use Rattle.std.specs.Prelude.{ℕ, ◌==◌, ◌&&◌, Bool, true, false, List, [], find, Option, Result, Ok, Err}
use Rattle.ip_packet.specs.declared.packet.NotPacket.{NotPacket}
use Rattle.ip_packet.specs.View.{Packet, view_of}
use Rattle.ikeless_tree.specs.Half.{is_inbound}
use Rattle.ikeless_tree.specs.declared.sad.SadEntry.{SadEntry}
use Rattle.ikeless_tree.specs.declared.drops.DropWhy.{DropWhy}
use Rattle.ikeless_tree.specs.declared.drops.DropWhy.TheVariants as why
use Rattle.replay_win.specs.Marks.{greatest}
use Rattle.esp_frame.specs.Esp.{seq_of}

-- what follows the header of a packet; octets that are no packet have nothing
abbrev pub payload_of : Result Packet NotPacket → List ℕ
payload_of (Ok v) = v.payload
payload_of (Err fault) = []

-- the ESP octets of a datagram: what follows its outer header
abbrev pub esp_of : List ℕ → List ℕ
esp_of datagram = payload_of (view_of datagram)

-- the inbound half that an SPI names (RFC 4301 section 4.1)
abbrev pub by_spi : ℕ → List SadEntry → Option SadEntry
by_spi spi halves = find (λ e. is_inbound e.name && (e.spi == spi)) halves

-- The number that a half finds in ESP octets, where this is the greatest number that was taken under it. It is the field,
-- whatever was taken (RFC 4303 section 2.2).
unfoldable pub number_from : SadEntry → ℕ → List ℕ → ℕ
number_from e top b = seq_of b

-- the same after these numbers were taken
abbrev pub number_of : SadEntry → List ℕ → List ℕ → ℕ
number_of e numbers b = number_from e (greatest numbers) b

-- The drops of a datagram whose tag was right: its number counts as taken, whatever is found inside
-- (RFC 4303 section 3.4.3).
abbrev pub is_opened : DropWhy → Bool
is_opened why.Padding = true
is_opened why.Dummy = true
is_opened why.Inner = true
is_opened why.Selector = true
is_opened _ = false
