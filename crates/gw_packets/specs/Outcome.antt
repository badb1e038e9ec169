-- What a packet, a datagram or a reading of the clock does, and what is kept then.
use Rattle.std.specs.Prelude.{ℕ, List, [], ◌∷◌, Option, Some}
use Rattle.ikeless_tree.specs.declared.order.Notice.{Notice}
use Rattle.ikeless_tree.specs.declared.drops.DropWhy.{DropWhy}
use Rattle.gw_tables.specs.Kept.{Kept}
use Rattle.gw_packets.specs.declared.done.PacketAnswer.{PacketAnswer}
use Rattle.gw_packets.specs.declared.done.PacketAnswer.TheVariants as answers
use Rattle.gw_packets.specs.declared.done.Done.{Done}

-- what was done is an answer to a packet, the halves gone at a hard limit, and the notices, in this order
pub record Outcome : Type 0 where
  pub done : Done
  pub kept : Kept

-- this answer, halves of these names gone, these notices, and what is kept then
abbrev pub outcome : Option PacketAnswer → List (List ℕ) → List Notice → Kept → Outcome
outcome answer gone notices k = record { done = record { answer = answer; gone = gone; notices = notices }; kept = k }

-- an answer, and nothing else
abbrev pub answered : PacketAnswer → Kept → Outcome
answered a k = outcome (Some a) [] [] k

-- the packet is dropped for this reason, and nothing else is done
abbrev pub dropped : DropWhy → Kept → Outcome
dropped why k = answered (answers.Drop why) k

-- a packet is dropped and told of
abbrev pub dropped_and_told : DropWhy → Notice → Kept → Outcome
dropped_and_told why n k = outcome (Some (answers.Drop why)) [] (n ∷ []) k
