-- What ESP octets open to, before it is looked at.
use Rattle.std.specs.Prelude.{ℕ, List, length, Option, Some, None}
use Rattle.esp_frame.specs.Open.{InnerPacket, inner_packet}
use Rattle.ikeless_tree.specs.declared.sad.SadEntry.{SadEntry}
use Rattle.ikeless_tree.specs.declared.drops.DropWhy.TheVariants as why
use Rattle.sad_store.specs.declared.half.Half.{Half}
use Rattle.sad_store.specs.Halves.{take_number}
use Rattle.gw_tables.specs.Kept.{Kept}
use Rattle.gw_packets.specs.Inbound.{answer_by_packet}
use Rattle.gw_packets.specs.Looks.{used}
use Rattle.gw_packets.specs.Outcome.{Outcome, dropped}
use Rattle.gw_packets.specs.declared.done.PacketAnswer.{PacketAnswer}
use Rattle.gw_packets.specs.declared.done.PacketAnswer.TheVariants as answers
use Rattle.gw_packets.specs.declared.unseal.Unsealed.{Unsealed}
use Rattle.gw_packets.specs.declared.unseal.Unsealed.TheVariants as unsealed

-- an opened text with its packet, or without one
abbrev pub unsealed_by_packet : Option InnerPacket → Unsealed
unsealed_by_packet None = unsealed.Padding
unsealed_by_packet (Some p) = unsealed.Packet p.next p.octets

-- octets that opened to this text, or didn't open
abbrev pub unsealed_by : Option (List ℕ) → Unsealed
unsealed_by None = unsealed.Refused
unsealed_by (Some text) = unsealed_by_packet (inner_packet text)

-- the answer to them, where they open
abbrev pub answer_by : SadEntry → ℕ → Unsealed → Option PacketAnswer
answer_by e n unsealed.Refused = None
answer_by e n unsealed.Padding = Some (answers.Drop why.Padding)
answer_by e n (unsealed.Packet next octets) = Some (answer_by_packet e n (Some (record { next = next; octets = octets })))

-- where the octets opened, the half has taken their number and is looked at; else they are dropped and nothing counts
abbrev pub taken_by : List ℕ → ℕ → Half → ℕ → Option PacketAnswer → Kept → Outcome
taken_by b i x n None k = dropped why.Auth k
taken_by b i x n (Some answer) k = used answer i (take_number k.clock (length b) n) (take_number k.clock (length b) n x) k
