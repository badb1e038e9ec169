-- Requests that speak of entries without a fault.
use Rattle.std.specs.Prelude.{◌≡◌, [], ◌∷◌, None}
use Rattle.ikeless_tree.specs.Check.{sad_fault, spd_fault}
use Rattle.reply_table.specs.declared.ask.Ask.{Ask}
use Rattle.reply_table.specs.declared.ask.Ask.TheVariants as asks

-- a request of entries without a fault
abbrev pub IsAsk : Ask → Type 0
IsAsk (asks.PutSpd list) = spd_fault list ≡ None
IsAsk (asks.PostSpd e place) = spd_fault (e ∷ []) ≡ None
IsAsk (asks.PutSpdEntry e) = spd_fault (e ∷ []) ≡ None
IsAsk (asks.PostSad e) = sad_fault e ≡ None
IsAsk _ = Unit {0}
