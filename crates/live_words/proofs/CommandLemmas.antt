-- The command of a line has the names of gateways, and its list no fault.
use Rattle.std.proofs.Common.{◌≡◌, ◌&&◌, Bool, List, [], ◌∷◌, map, Ok, ap, refl, subst}
use Rattle.std.specs.List.{list_all}
use Rattle.ikeless_tree.specs.declared.command.Command.{Command}
use Rattle.ikeless_tree.specs.declared.command.Command.TheVariants as commands
use Rattle.hist_acts.specs.declared.event.Event.{Event}
use Rattle.hist_acts.specs.declared.event.Event.TheVariants as events
use Rattle.event_lines.specs.Spelling.{IsEventUnder}
use Rattle.json_codec.specs.CommandWritten.{IsWellFormed}
use Rattle.live_words.specs.Client.{command_said}

pub said-well-formed : (e : Event) (c : Command) → IsEventUnder [] e → command_said e ≡ Ok c → IsWellFormed c
said-well-formed (events.Policy g list) c under is = (let e : commands.Policy g list ≡ c = cc in subst IsWellFormed e (under.0, under.1.fits))
said-well-formed (events.Tunnel s) c under is = (let e : commands.Tunnel s ≡ c = cc in subst IsWellFormed e (under.0, under.1))
said-well-formed (events.End n) c under is = (let e : commands.End n ≡ c = cc in subst IsWellFormed e tt)
said-well-formed (events.Rekey n) c under is = (let e : commands.Rekey n ≡ c = cc in subst IsWellFormed e tt)
said-well-formed (events.Keys o) c under is = (let e : commands.Keys o ≡ c = cc in subst IsWellFormed e tt)
said-well-formed _ c under is = cc

-- a test of all that elements stand for
pub all-mapped : {A B : Type 0} (p : B → Bool) (f : A → B) (xs : List A) → list_all (λ x. p (f x)) xs ≡ list_all p (map f xs)
all-mapped p f [] = refl
all-mapped p f (x ∷ xs) = ap (λ (b : Bool). p (f x) && b) (all-mapped p f xs)
