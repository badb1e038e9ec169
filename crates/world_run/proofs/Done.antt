-- What is done, of what was changed at one place.
use Rattle.std.proofs.Common.{◌≡◌, ℕ, ◌+◌, ◌&&◌, not, Bool, true, false, List, [], ◌∷◌, ◌++◌, length, set, Option, Some, None, Result, Ok, Err, IfOk, OnOk, refl, sym, ap, subst, ◌∙◌, append-nil, append_assoc, if◌then◌else◌}
use Rattle.std.specs.List.{list_any}
use Rattle.hist_acts.specs.declared.act.Act.{Act}
use Rattle.hist_acts.specs.declared.act.Act.TheVariants as acts
use Rattle.hist_halves.specs.Sealed.{esp_of}
use Rattle.gw_requests.specs.declared.act.GwAct.{GwAct}
use Rattle.ikeless_tree.specs.declared.order.Order.{Order}
use Rattle.reply_table.specs.Order.{ask_of}
use Rattle.gw_core.specs.Machine.{Arrive, Handle, Let}
use Rattle.world_steps.specs.Nodes.{Node, acts_told, after_event, after_request, all_sent, outcome, restarted}
use Rattle.world_steps.specs.Worlds.{World, node_at, placed, was_sent, with_node}
use Rattle.world_steps.specs.Steps.{Done, arrive_at, behind, boot_at, did, did_open, down_at, forged_at, is_forged_at, let_at, sent_with, stepped_at}
use Rattle.world_steps.specs.Conditions.{Asks, at}
use Rattle.world_run.specs.declared.go.Go.{Go}
use Rattle.world_run.specs.declared.go.Go.TheVariants as gos
use Rattle.world_run.specs.Packets.{IsTakenIn, is_forged_in}
use Rattle.world_run.specs.Taken.{IsDone, go_of}
use Rattle.world_run.proofs.Places.{IsAt}

abbrev pub kept_with : World → List Node → List (List ℕ) → World
kept_with w ns sent = record w { nodes = ns; sent = sent }

-- by a test
pub if-true : (b : Bool) (c d : Done) (before after : List Act) (v : World) (go : Go) → b ≡ true → IsDone c before after v go
    → IsDone (if b then c else d) before after v go
if-true true c d before after v go e i = i
if-true false c d before after v go e i = absurd (cc)

pub if-false : (b : Bool) (c d : Done) (before after : List Act) (v : World) (go : Go) → b ≡ false → IsDone d before after v go
    → IsDone (if b then c else d) before after v go
if-false true c d before after v go e i = absurd (cc)
if-false false c d before after v go e i = i

-- nothing is done
pub none-done : (w v : World) (before after : List Act) (go : Go) → go ≡ gos.On → after ≡ before → v ≡ w
    → IsDone (did [] w) before after v go
none-done w v before after go e a x = record { acts = a ∙ sym (append-nil before); go = e; world = λ _. x }

-- what stands behind
pub done-behind : (d : Done) (xs before mid after : List Act) (v : World) (go : Go) → mid ≡ before ++ xs → IsDone d mid after v go
    → IsDone (behind xs d) before after v go
done-behind d xs before mid after v go e h = record {
  acts = h.acts ∙ ap (λ z. z ++ d.acts) e ∙ append_assoc before xs d.acts;
  go = h.go;
  world = h.world;
}

-- a gateway is another one in its place, and more was sent
pub stepped-at : (g : List ℕ) (i : ℕ) (w : World) (n m : Node) (sent : List (List ℕ)) (xs : List GwAct) → IsAt g i w n → m.name ≡ n.name
    → sent ≡ w.sent ++ all_sent xs → kept_with w (set w.nodes i m) sent ≡ sent_with xs (with_node m w)
stepped-at g i w n m sent xs here e s = ap (λ z. kept_with w z sent) (sym (here.put m e)) ∙ ap (λ z. kept_with w (placed m w.nodes) z) s

pub let-done : (w v : World) (g o : List ℕ) (i : ℕ) (n m : Node) (sent : List (List ℕ)) (before after : List Act) (go : Go) → IsAt g i w n
    → go ≡ gos.On → m ≡ after_event (Let o) n → sent ≡ w.sent ++ all_sent (outcome n (Let o)).acts
    → after ≡ before ++ acts.Let g o ∷ acts_told n (outcome n (Let o)).acts → v ≡ kept_with w (set w.nodes i m) sent
    → IsDone (let_at o w (node_at g w)) before after v go
let-done w v g o i n m sent before after go here e f s a x =
    let d : IsDone (let_at o w (Some n)) before after v go = record {
      acts = a ∙ ap (λ z. before ++ acts.Let z o ∷ acts_told n (outcome n (Let o)).acts) (sym here.name);
      go = e;
      world = λ _. x ∙ ap (λ z. kept_with w (set w.nodes i z) sent) f
          ∙ stepped-at g i w n (after_event (Let o) n) sent (outcome n (Let o)).acts here refl s;
    } in
    subst (λ (z : Option Node). IsDone (let_at o w z) before after v go) (sym here.node) d

pub boot-done : (w v : World) (g : List ℕ) (i : ℕ) (n m : Node) (before after : List Act) (go : Go) → IsAt g i w n
    → go ≡ gos.On → m ≡ restarted w.clock n → after ≡ before ++ acts.Boot g ∷ [] → v ≡ kept_with w (set w.nodes i m) w.sent
    → IsDone (boot_at w (node_at g w)) before after v go
boot-done w v g i n m before after go here e f a x =
    let d : IsDone (boot_at w (Some n)) before after v go = record {
      acts = a ∙ ap (λ z. before ++ acts.Boot z ∷ []) (sym here.name);
      go = e;
      world = λ _. x ∙ ap (λ z. kept_with w (set w.nodes i z) w.sent) f
          ∙ ap (λ z. kept_with w z w.sent) (sym (here.put (restarted w.clock n) refl));
    } in
    subst (λ (z : Option Node). IsDone (boot_at w z) before after v go) (sym here.node) d

pub arrive-done : (w v : World) (g o : List ℕ) (i : ℕ) (n m : Node) (sent : List (List ℕ)) (before after : List Act) (go : Go)
    → IsAt g i w n
    → IsTakenIn g o n m w.sent sent before after go → v ≡ kept_with w (set w.nodes i m) sent
    → IsDone (arrive_at o w (node_at g w)) before after v go
arrive-done w v g o i n m sent before after go here t x =
    subst (λ (z : Option Node). IsDone (arrive_at o w z) before after v go) (sym here.node) (by-forged (is_forged_at o w n) refl)
  where
    by-forged : (b : Bool) → is_forged_at o w n ≡ b → IsDone (arrive_at o w (Some n)) before after v go
    by-forged true e = if-true (is_forged_at o w n) (forged_at o w n)
        (did (acts.Arrived n.name o ∷ acts_told n (outcome n (Arrive o)).acts) (stepped_at (Arrive o) n w)) before after v go e (record {
          acts = t.forged e ∙ ap (λ z. before ++ acts.Arrived z o ∷ []) (sym here.name);
          go = t.go ∙ ap go_of e;
          world = λ h. absurd (cc);
        })
    by-forged false e = if-false (is_forged_at o w n) (forged_at o w n)
        (did (acts.Arrived n.name o ∷ acts_told n (outcome n (Arrive o)).acts) (stepped_at (Arrive o) n w)) before after v go e (record {
          acts = t.acts e ∙ ap (λ z. before ++ acts.Arrived z o ∷ acts_told n (outcome n (Arrive o)).acts) (sym here.name);
          go = t.go ∙ ap go_of e;
          world = λ _. x ∙ ap (λ z. kept_with w (set w.nodes i z) sent) (t.node e)
              ∙ stepped-at g i w n (after_event (Arrive o) n) sent (outcome n (Arrive o)).acts here refl (t.sent e);
        })

-- a request is handled, if there is one
pub down-done : (w v : World) (g : List ℕ) (i : ℕ) (n m : Node) (sent : List (List ℕ)) (before after : List Act) (x : Option Order)
    → IsAt g i w n
    → at (λ k. Asks k x) (node_at g w) → (Asks n None → (m ≡ n) × (sent ≡ w.sent) × (after ≡ before))
    → ((o : Order) → Asks n (Some o) → m ≡ after_request o n)
    → ((o : Order) → Asks n (Some o) → sent ≡ w.sent ++ all_sent (outcome n (Handle (Ok (ask_of o)))).acts)
    → ((o : Order) → Asks n (Some o) → after ≡ before ++ acts_told n (outcome n (Handle (Ok (ask_of o)))).acts)
    → v ≡ kept_with w (set w.nodes i m) sent → IsDone (down_at x w (node_at g w)) before after v gos.On
down-done w v g i n m sent before after x here a none node log told e =
    subst (λ (z : Option Node). IsDone (down_at x w z) before after v gos.On) (sym here.node)
    (by-order x (subst (at (λ k. Asks k x)) here.node a))
  where
    by-order : (y : Option Order) → Asks n y → IsDone (down_at y w (Some n)) before after v gos.On
    by-order None b =
        let f = none b in
        none-done w v before after gos.On refl f.2
        (e ∙ ap (λ z. kept_with w (set w.nodes i z) sent) f.0 ∙ ap (λ z. kept_with w (set w.nodes i n) z) f.1
        ∙ ap (λ z. kept_with w z w.sent) here.stay)
    by-order (Some o) b = record {
      acts = told o b;
      go = refl;
      world = λ _. e ∙ ap (λ z. kept_with w (set w.nodes i z) sent) (node o b)
          ∙ stepped-at g i w n (after_request o n) sent (outcome n (Handle (Ok (ask_of o)))).acts here refl (log o b);
    }

-- ---- of the result of a call

pub ok-one : {T E A : Type 0} → (P Q : T → Type 0) (r : Result T E) → IfOk r P → OnOk r A → ((x : T) → P x → A → Q x) → IfOk r Q
ok-one P Q (Ok x) p a f = f x p a
ok-one P Q (Err e) p a f = tt

pub ok-two : {T E A B : Type 0} → (P Q : T → Type 0) (r : Result T E) → IfOk r P → OnOk r A → OnOk r B → ((x : T) → P x → A → B → Q x)
    → IfOk r Q
ok-two P Q (Ok x) p a b f = f x p a b
ok-two P Q (Err e) p a b f = tt

pub ok-three : {T E A B C : Type 0} → (P Q : T → Type 0) (r : Result T E) → IfOk r P → OnOk r A → OnOk r B → OnOk r C
    → ((x : T) → P x → A → B → C → Q x) → IfOk r Q
ok-three P Q (Ok x) p a b c f = f x p a b c
ok-three P Q (Err e) p a b c f = tt

pub ok-map : {T E : Type 0} → (P Q : T → Type 0) (r : Result T E) → IfOk r P → ((x : T) → P x → Q x) → IfOk r Q
ok-map P Q (Ok x) p f = f x p
ok-map P Q (Err e) p f = tt
