-- An event at a gateway does what the law of a gateway does.
use Rattle.std.proofs.Common.{◌≡◌, ℕ, ◌+◌, max, List, ◌∷◌, Result, Ok, Err, refl, ap, ◌∙◌, subst, if◌then◌else◌}
use Rattle.std.specs.Str.{bytes_eq}
use Rattle.reply_table.specs.declared.ask.Ask.{Ask}
use Rattle.reply_table.specs.Reply as table
use Rattle.ip_packet.specs.View.{view_of}
use Rattle.hist_acts.specs.declared.act.Act.{Act}
use Rattle.hist_acts.specs.declared.act.Act.TheVariants as acts
use Rattle.hist_gateway.specs.Handle.{Fault, fault_answer}
use Rattle.hist_gateway.specs.Block.{Gateway, GatewayEvent, Let, Arrive, Clock, Handle, Session_taken}
use Rattle.hist_gateway.specs.State.{GatewayState, did, did_all, quiet, with_arrival, with_clock}
use Rattle.hist_gateway.specs.Machine.{acts_of, look_of, next, tree_from}
use Rattle.hist_gateway.specs.Machine as machine
use Rattle.hist_gateway.proofs.KeepsLemmas.{same-refl}
use Rattle.gw_packets.specs.Outcome.{Outcome}
use Rattle.gw_packets.specs.Outbound.{let_in}
use Rattle.gw_packets.specs.Inbound.{arrive}
use Rattle.gw_packets.specs.Looks.{clock_read}
use Rattle.gw_law.specs.Told.{kept_of, naming_of}
use Rattle.gw_law.specs.Steps.{Step, step_by, step_of}
use Rattle.gw_law.specs.Orderly.{IsOrderly}
use Rattle.gw_law.proofs.Used.{IsTold}
use Rattle.gw_law.proofs.Outbound.{AreSized, let-told}
use Rattle.gw_law.proofs.Inbound.{arrive-told}
use Rattle.gw_law.proofs.Clocks.{clock-told}
use Rattle.gw_law.proofs.Requests.{fault-left, reply-left, session-left}

-- the step is that of the machine
pub record IsStep (c : Gateway) (s : GatewayState) (e : GatewayEvent) (step : Step) : Type 0 where
  pub acts : acts_of c s e ≡ step.acts
  pub kept : kept_of (next c s e) ≡ step.kept
  pub naming : naming_of c.name (next c s e) ≡ step.naming

-- ---- packets and the clock

told-step : (c : Gateway) (s t : GatewayState) (e : GatewayEvent) (a : Act) (xs : List Act) (out : Outcome) → acts_of c s e ≡ a ∷ xs
    → did c.name s a ≡ t →
    IsTold c.name s t xs out → IsStep c s e (step_by (naming_of c.name s) a out)
told-step c s t e a xs out are began told =
    let after : next c s e ≡ did_all c.name t xs = ap (did_all c.name s) are ∙ ap (λ z. did_all c.name z xs) began in
    record {
      acts = are ∙ ap (λ zs. a ∷ zs) told.acts;
      kept = ap kept_of (after ∙ told.kept);
      naming = ap (naming_of c.name) (after ∙ told.kept);
    }

let-step : (c : Gateway) (s : GatewayState) (o : List ℕ) → AreSized → IsOrderly s
    → IsStep c s (Let o) (step_of c (naming_of c.name s) (kept_of s) (Let o))
let-step c s o sized k =
    told-step c s (quiet s) (Let o) (acts.Let c.name o) (machine.out_by_view c.name c.seq_last s o (view_of o))
    (let_in c.seq_last o (kept_of s)) refl refl
    (let-told c.name c.seq_last s o sized k)

own : {A : Type 0} → (g : List ℕ) (x y : A) → (if bytes_eq g g then x else y) ≡ x
own g x y = rw (same-refl g) refl

arrive-step : (c : Gateway) (s : GatewayState) (o : List ℕ) → IsOrderly s
    → IsStep c s (Arrive o) (step_of c (naming_of c.name s) (kept_of s) (Arrive o))
arrive-step c s o k =
    told-step c s (with_arrival o s) (Arrive o) (acts.Arrived c.name o) (machine.in_by_view c.name c.address s o (view_of o))
    (arrive c.address o (kept_of s)) refl
    (own c.name (with_arrival o s) (quiet s)) (arrive-told c.name c.address s o k)

clock-step : (c : Gateway) (s : GatewayState) (t : ℕ) → IsOrderly s
    → IsStep c s (Clock t) (step_of c (naming_of c.name s) (kept_of s) (Clock t))
clock-step c s t k =
    let read = clock-told c.name s t k in
    let now : ℕ = max t s.clock in
    let xs : List Act = machine.ticks c.name s t in
    subst (λ m. IsStep c s (Clock t) (step_by (naming_of c.name s) (acts.Now m) (clock_read t (kept_of s)))) read.clock
    (told-step c s (with_clock (max now s.clock) s) (Clock t) (acts.Now now) xs (clock_read t (kept_of s)) refl refl read.told)

-- ---- requests and sessions

handle-step : (c : Gateway) (s : GatewayState) (request : Result Ask Fault)
    → IsStep c s (Handle request) (step_of c (naming_of c.name s) (kept_of s) (Handle request))
handle-step c s (Ok ask) =
    let left = reply-left c.name s (table.reply (tree_from s) ask) s.session (s.requests + 1) in
    record { acts = refl; kept = left.kept; naming = left.naming }
handle-step c s (Err fault) =
    let left = fault-left c.name s s.session (s.requests + 1) (fault_answer fault) in
    record { acts = refl; kept = left.kept; naming = left.naming }

pub step-is : AreSized → (c : Gateway) (s : GatewayState) (e : GatewayEvent) → IsOrderly s
    → IsStep c s e (step_of c (naming_of c.name s) (kept_of s) e)
step-is sized c s (Let o) k = let-step c s o sized k
step-is sized c s (Arrive o) k = arrive-step c s o k
step-is sized c s (Clock t) k = clock-step c s t k
step-is sized c s (Handle request) k = handle-step c s request
step-is sized c s Session_taken k =
    let left = session-left c.name s in
    record { acts = refl; kept = left.kept; naming = left.naming }
