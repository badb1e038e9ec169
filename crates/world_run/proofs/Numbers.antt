-- The number of events taken goes on by one, whatever an event makes of the rest.
use Rattle.std.proofs.Common.{◌≡◌, ℕ, ◌+◌, Bool, true, false, List, [], ◌∷◌, ◌++◌, Option, Some, None, slice_get, refl, if◌then◌else◌}
use Rattle.ikeless_tree.specs.declared.order.Answer.{Answer}
use Rattle.ikeless_tree.specs.declared.order.Notice.{Notice}
use Rattle.ikeless_tree.specs.declared.order.Order.{Order}
use Rattle.hist_acts.specs.declared.act.Act.TheVariants as acts
use Rattle.hist_acts.specs.declared.event.Event as script
use Rattle.hist_acts.specs.declared.event.Event.TheVariants as events
use Rattle.ikeless_tree.specs.declared.command.Command.TheVariants as commands
use Rattle.ctl_core.specs.declared.acts.CtlAct.{CtlAct}
use Rattle.ctl_core.specs.declared.acts.CtlAct.TheVariants as given
use Rattle.ctl_core.specs.declared.acts.CtlEvent.{CtlEvent}
use Rattle.ctl_core.specs.declared.acts.CtlEvent.TheVariants as told
use Rattle.ctl_core.specs.Step.{stepped}
use Rattle.ip_packet.specs.Ttl.{with_ttl}
use Rattle.hist_world.specs.Arrivals.{flipped}
use Rattle.gw_core.specs.Machine.{Arrive, Let}
use Rattle.world_steps.specs.Nodes.{Node, acts_told, cut, heard_answer, heard_notice, opened, ordered, outcome}
use Rattle.world_steps.specs.Worlds.{World, datagram, node_at, number_of, with_node}
use Rattle.world_steps.specs.Steps.{Done, Found, arrive_at, behind, boot_at, controlled, cut_at, did, down_at, forged_at, giving, is_forged_at, let_at, note_at, open_at, order_at, step, stepped_at, taken, up_at}

if-number : (b : Bool) (w : World) (c d : Done) → c.world.taken ≡ w.taken → d.world.taken ≡ w.taken
    → (if b then c else d).world.taken ≡ w.taken
if-number true w c d e f = e
if-number false w c d e f = f

giving-number : (xs : List CtlAct) (w : World) → (giving xs w).world.taken ≡ w.taken
giving-number [] w = refl
giving-number (given.Refused why ∷ xs) w = giving-number xs w
giving-number (given.Order i o ∷ xs) w = by-node (slice_get w.nodes i) (λ v. giving-number xs v) where
  by-node : (n : Option Node) → ((v : World) → (giving xs v).world.taken ≡ v.taken) → (order_at o xs w n (giving xs)).world.taken ≡ w.taken
  by-node None f = f w
  by-node (Some n) f = f (with_node (ordered o n) w)

controlled-number : (e : CtlEvent) (w : World) → (controlled e w).world.taken ≡ w.taken
controlled-number e w = giving-number (stepped w.controller e).acts (record w { controller = (stepped w.controller e).core })

let-number : (o : List ℕ) (w : World) (n : Option Node) → (let_at o w n).world.taken ≡ w.taken
let-number o w None = refl
let-number o w (Some n) = refl

arrive-number : (o : List ℕ) (w : World) (n : Option Node) → (arrive_at o w n).world.taken ≡ w.taken
arrive-number o w None = refl
arrive-number o w (Some n) =
    if-number (is_forged_at o w n) w (forged_at o w n)
    (did (acts.Arrived n.name o ∷ acts_told n (outcome n (Arrive o)).acts) (stepped_at (Arrive o) n w)) refl refl

boot-number : (w : World) (n : Option Node) → (boot_at w n).world.taken ≡ w.taken
boot-number w None = refl
boot-number w (Some n) = refl

down-number : (x : Option Order) (w : World) (n : Option Node) → (down_at x w n).world.taken ≡ w.taken
down-number None w n = refl
down-number (Some o) w None = refl
down-number (Some o) w (Some n) = refl

open-number : (w : World) (n : Option Node) → (open_at w n).world.taken ≡ w.taken
open-number w None = refl
open-number w (Some n) =
    if-number n.pipe.is_open w (did [] w)
    (behind (acts.Opened n.name (n.pipe.openings + 1) ∷ []) (controlled (told.Opened (number_of n.name w)) (with_node (opened n) w)))
    refl (controlled-number (told.Opened (number_of n.name w)) (with_node (opened n) w))

cut-number : (w : World) (n : Option Node) → (cut_at w n).world.taken ≡ w.taken
cut-number w None = refl
cut-number w (Some n) =
    if-number n.pipe.is_open w
    (behind (acts.Cut n.name n.pipe.openings ∷ []) (controlled (told.Cut (number_of n.name w)) (with_node (cut n) w))) (did [] w)
    (controlled-number (told.Cut (number_of n.name w)) (with_node (cut n) w)) refl

up-number : (x : Option Answer) (w : World) (n : Option Node) → (up_at x w n).world.taken ≡ w.taken
up-number None w n = refl
up-number (Some a) w None = refl
up-number (Some a) w (Some n) = controlled-number (told.Answered (number_of n.name w) a) (with_node (heard_answer n) w)

note-number : (x : Option Notice) (w : World) (n : Option Node) → (note_at x w n).world.taken ≡ w.taken
note-number None w n = refl
note-number (Some t) w None = refl
note-number (Some t) w (Some n) = controlled-number (told.Noticed (number_of n.name w) t) (with_node (heard_notice n) w)

taken-number : (r : Found) (e : script.Event) (w : World) → (taken r e w).world.taken ≡ w.taken
taken-number r (events.Let g o) w = let-number o w (node_at g w)
taken-number r (events.Arrive g o) w = arrive-number o w (node_at g w)
taken-number r (events.ArriveSent g k) w = arrive-number (datagram k w.sent) w (node_at g w)
taken-number r (events.ArriveFlip g k offset bit) w = arrive-number (flipped offset bit (datagram k w.sent)) w (node_at g w)
taken-number r (events.ArriveTtl g k ttl) w = arrive-number (with_ttl ttl (datagram k w.sent)) w (node_at g w)
taken-number r (events.Now t) w = refl
taken-number r (events.Boot g) w = boot-number w (node_at g w)
taken-number r (events.Open g) w = open-number w (node_at g w)
taken-number r (events.Cut g) w = cut-number w (node_at g w)
taken-number r (events.Down g) w = down-number r.order w (node_at g w)
taken-number r (events.Up g) w = up-number r.answer w (node_at g w)
taken-number r (events.Note g) w = note-number r.notice w (node_at g w)
taken-number r (events.Wire g lane) w = refl
taken-number r (events.Policy g list) w = controlled-number (told.Command (commands.Policy g list)) w
taken-number r (events.Tunnel spec) w = controlled-number (told.Command (commands.Tunnel spec)) w
taken-number r (events.End reqid) w = controlled-number (told.Command (commands.End reqid)) w
taken-number r (events.Rekey reqid) w = controlled-number (told.Command (commands.Rekey reqid)) w
taken-number r (events.Keys key) w = controlled-number (told.Command (commands.Keys key)) w

pub one-more : (r : Found) (e : script.Event) (w : World) → (step r e w).world.taken ≡ w.taken + 1
one-more r e w = taken-number r e (record w { taken = w.taken + 1 })
