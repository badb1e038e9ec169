-- What a gateway does at an event is the block that the law has for it, and leaves the gateway as the past with that block says.
use Rattle.std.proofs.Common.{◌≡◌, ℕ, Bool, true, false, List, [], ◌∷◌, ◌++◌, map, Option, Some, None, refl, sym, ◌∙◌, ap, append-nil, append_assoc, if◌then◌else◌}
use Rattle.std.proofs.lemmas.Bool.{and_parts}
use Rattle.std.specs.List.{list_all, list_any}
use Rattle.std.specs.Str.{bytes_eq}
use Rattle.ikl_base.specs.declared.address.Addr.{Addr}
use Rattle.ikeless_tree.specs.declared.command.Peer.{Peer}
use Rattle.ikeless_tree.specs.declared.order.Notice.{Notice}
use Rattle.ikeless_tree.specs.declared.order.Lane.TheVariants as lanes
use Rattle.hist_acts.specs.declared.act.Act.{Act}
use Rattle.hist_acts.specs.declared.event.Header.{Header}
use Rattle.hist_acts.specs.Past.{after, clock, events_taken}
use Rattle.hist_acts.specs.Sessions.{session_taken}
use Rattle.hist_gateway.specs.Block.{Gateway, GatewayEvent, gw_block}
use Rattle.hist_gateway.specs.Machine.{acts_of, next}
use Rattle.hist_gateway.specs.State.{state_of}
use Rattle.hist_gateway.proofs.KeepsLemmas.{same-refl}
use Rattle.hist_safety.proofs.Basics.{if-new, if-old, no}
use Rattle.session_pipe.specs.Past.{after_act, is_at}
use Rattle.session_pipe.specs.Sessions.{KeepsSessions}
use Rattle.session_pipe.specs.UnderWay.{UnderWay, after_push}
use Rattle.hist_sessions.specs.Pipes.{piped}
use Rattle.hist_sessions.proofs.Pipes.{pipe-follows}
use Rattle.hist_wire.specs.Dates.{line_text}
use Rattle.hist_wire.specs.Wire.{line_at, pipe_at, request_at, response_at}
use Rattle.gw_tables.specs.Kept.{Kept}
use Rattle.gw_packets.specs.declared.done.Config.{Config}
use Rattle.gw_packets.specs.declared.done.Done.{Done}
use Rattle.gw_packets.specs.declared.done.PacketAnswer.{PacketAnswer}
use Rattle.gw_packets.specs.declared.done.PacketAnswer.TheVariants as answers
use Rattle.gw_requests.specs.declared.act.GwAct.{GwAct}
use Rattle.gw_requests.specs.declared.act.GwAct.TheVariants as done
use Rattle.gw_requests.specs.Requests.{Outcome}
use Rattle.gw_core.specs.Machine.{Event, act_of_gone, act_of_notice, acts_of_answer, acts_of_done}
use Rattle.gw_law.specs.Told.{Naming, kept_of, naming_of}
use Rattle.gw_law.specs.Orderly.{IsOrderly}
use Rattle.gw_law.proofs.Events.{step-is}
use Rattle.gw_law.proofs.Outbound.{AreSized}
use Rattle.gw_history.specs.Told.{event_of, gateway_of, step_told, told}
use Rattle.gw_history.proofs.Steps.{step-told}
use Rattle.world_steps.specs.Nodes.{acts_told, all_piped, all_sent, naming, outcome, sent_of}
use Rattle.world_steps.specs.Nodes as nodes
use Rattle.world_law.specs.Stands.{node_of, sent}
use Rattle.world_law.proofs.Frames.{is_of, node_with}

-- the law of one gateway, as the crates below prove it
pub record Law : Type 0 where
  pub sized : AreSized
  pub acts : (c : Gateway) (h : List Act) (e : GatewayEvent) → acts_of c (state_of c.name h) e ≡ gw_block c h e
  pub keeps : (c : Gateway) (h : List Act) (e : GatewayEvent) → state_of c.name (after h (gw_block c h e)) ≡ next c (state_of c.name h) e

-- ---- the gateway of a header

abbrev pub config_of : Header → Peer → Config
config_of header p = record { address = p.address; seq_last = header.seq_last }

-- with the name that it has itself
abbrev pub own_gateway : Header → Peer → Gateway
own_gateway header p = gateway_of p.name (config_of header p)

-- ---- acts, and what is kept

-- behind an act of the event's own
pub tail-is : (a b : Act) (xs ys : List Act) → a ∷ xs ≡ b ∷ ys → xs ≡ ys
tail-is a b xs ys e = cc

pub record IsBlock (header : Header) (h : List Act) (p : Peer) (e : Event) : Type 0 where
  pub acts : step_told (naming (node_of header h p)) e (outcome (node_of header h p) e) ≡ gw_block (own_gateway header p) h (event_of e)
  pub kept : (outcome (node_of header h p) e).kept ≡ kept_of (state_of p.name (after h (gw_block (own_gateway header p) h (event_of e))))

pub block-is : Law → (header : Header) (h : List Act) (p : Peer) (e : Event) → IsOrderly (state_of p.name h)
    → naming (node_of header h p) ≡ naming_of p.name (state_of p.name h)
    → IsBlock header h p e
block-is law header h p e order named =
    let s = state_of p.name h in
    let c : Gateway = own_gateway header p in
    let step = step-told p.name (config_of header p) (naming_of p.name s) (kept_of s) e in
    let follow = step-is law.sized c s (event_of e) order in
    record {
      acts = ap (λ (n : Naming). step_told n e (outcome (node_of header h p) e)) named
          ∙ (step.acts ∙ (sym follow.acts ∙ law.acts c h (event_of e)));
      kept = step.kept ∙ (sym follow.kept ∙ ap kept_of (sym (law.keeps c h (event_of e))));
    }

-- ---- acts that answer no request

abbrev pub is_plain : GwAct → Bool
is_plain (done.Reply r) = false
is_plain _ = true

abbrev pub are_plain : List GwAct → Bool
are_plain xs = list_all is_plain xs

plain-notices : (ns : List Notice) → are_plain (map act_of_notice ns) ≡ true
plain-notices [] = refl
plain-notices (n ∷ ns) = plain-notices ns

plain-gone : (names : List (List ℕ)) (ns : List Notice) → are_plain (map act_of_gone names ++ map act_of_notice ns) ≡ true
plain-gone [] ns = plain-notices ns
plain-gone (x ∷ names) ns = plain-gone names ns

plain-answer : (a : PacketAnswer) (ys : List GwAct) → are_plain ys ≡ true → are_plain (acts_of_answer (Some a) ++ ys) ≡ true
plain-answer (answers.Clear o) ys p = p
plain-answer (answers.Sent x m o) ys p = p
plain-answer (answers.Drop w) ys p = p
plain-answer (answers.Gave x m o) ys p = p
plain-answer (answers.Pass o) ys p = p

pub plain-done : (d : Done) → are_plain (acts_of_done d) ≡ true
plain-done d =
    let ys : List GwAct = map act_of_gone d.gone ++ map act_of_notice d.notices in
    ap are_plain (append_assoc (acts_of_answer d.answer) (map act_of_gone d.gone) (map act_of_notice d.notices))
    ∙ by-answer d.answer ys (plain-gone d.gone d.notices)
  where
    by-answer : (a : Option PacketAnswer) (ys : List GwAct) → are_plain ys ≡ true → are_plain (acts_of_answer a ++ ys) ≡ true
    by-answer None ys p = p
    by-answer (Some a) ys p = plain-answer a ys p

-- ---- what acts leave, one after another

-- none of them reads the clock, counts an event or opens a session
clock-one : (n : Naming) (x : GwAct) (k : List Act) → clock (told n x ∷ k) ≡ clock k
clock-one n (done.Reply r) k = refl
clock-one n _ k = refl

pub clock-told : (n : Naming) (xs : List GwAct) (k : List Act) → clock (after k (map (told n) xs)) ≡ clock k
clock-told n [] k = refl
clock-told n (x ∷ xs) k = clock-told n xs (told n x ∷ k) ∙ clock-one n x k

taken-one : (n : Naming) (x : GwAct) (k : List Act) → events_taken (told n x ∷ k) ≡ events_taken k
taken-one n (done.Reply r) k = refl
taken-one n _ k = refl

pub taken-told : (n : Naming) (xs : List GwAct) (k : List Act) → events_taken (after k (map (told n) xs)) ≡ events_taken k
taken-told n [] k = refl
taken-told n (x ∷ xs) k = taken-told n xs (told n x ∷ k) ∙ taken-one n x k

session-one : (n : Naming) (g : List ℕ) (x : GwAct) (k : List Act) → session_taken g (told n x ∷ k) ≡ session_taken g k
session-one n g (done.Reply r) k = refl
session-one n g _ k = refl

pub session-told : (n : Naming) (g : List ℕ) (xs : List GwAct) (k : List Act)
    → session_taken g (after k (map (told n) xs)) ≡ session_taken g k
session-told n g [] k = refl
session-told n g (x ∷ xs) k = session-told n g xs (told n x ∷ k) ∙ session-one n g x k

-- they send what they send
sent-one : (n : Naming) (x : GwAct) (k : List Act) → sent (told n x ∷ k) ≡ sent k ++ sent_of x
sent-one n (done.Sent x m o) k = refl
sent-one n _ k = sym (append-nil (sent k))

pub sent-told : (n : Naming) (xs : List GwAct) (k : List Act) → sent (after k (map (told n) xs)) ≡ sent k ++ all_sent xs
sent-told n [] k = sym (append-nil (sent k))
sent-told n (x ∷ xs) k =
    sent-told n xs (told n x ∷ k) ∙ (ap (λ z. z ++ all_sent xs) (sent-one n x k) ∙ append_assoc (sent k) (sent_of x) (all_sent xs))

-- they are of their gateway
of-one : (n : Naming) (x : GwAct) (g : List ℕ) → is_of g (told n x) ≡ bytes_eq n.name g
of-one n (done.Reply r) g = refl
of-one n _ g = refl

pub of-told : (n : Naming) (xs : List GwAct) (g : List ℕ) → bytes_eq n.name g ≡ false → list_any (is_of g) (map (told n) xs) ≡ false
of-told n [] g e = refl
of-told n (x ∷ xs) g e =
    let first = of-one n x g ∙ e in
    let rest = of-told n xs g e in
    rw (first, rest) refl

-- but for a reply they count nothing of the sessions
rest-one : (kept : Kept) (pipe : UnderWay) (header : Header) (n : Naming) (x : GwAct) (k : List Act) (p : Peer) → is_plain x ≡ true
    → node_with kept pipe header (told n x ∷ k) p ≡ node_with kept pipe header k p
rest-one kept pipe header n (done.Reply r) k p e = absurd (no e)
rest-one kept pipe header n _ k p e = refl

pub rest-told : (kept : Kept) (pipe : UnderWay) (header : Header) (n : Naming) (xs : List GwAct) (k : List Act) (p : Peer)
    → are_plain xs ≡ true
    → node_with kept pipe header (after k (map (told n) xs)) p ≡ node_with kept pipe header k p
rest-told kept pipe header n [] k p e = refl
rest-told kept pipe header n (x ∷ xs) k p e =
    let parts = and_parts (is_plain x) (are_plain xs) e in
    rest-told kept pipe header n xs (told n x ∷ k) p parts.1 ∙ rest-one kept pipe header n x k p parts.0

-- and what goes up goes up at the clock
pipe-one : (host : Addr) (n : Naming) (g : List ℕ) (now : ℕ) (x : GwAct) (k : List Act) (u : UnderWay) → is_plain x ≡ true
    → bytes_eq n.name g ≡ true → clock k ≡ now
    → (if is_at g (told n x) then after_act (request_at host) (response_at g) line_at (told n x) k u else u) ≡ nodes.piped now x u
pipe-one host n g now (done.Reply r) k u e own c = absurd (no e)
pipe-one host n g now (done.Notice t) k u e own c =
    if-new (bytes_eq n.name g) (after_push lanes.Note (line_text t (clock k)) u) u own ∙ ap (λ z. after_push lanes.Note (line_text t z) u) c
pipe-one host n g now _ k u e own c = refl

pub pipe-told : (host : Addr) (n : Naming) (g : List ℕ) (now : ℕ) (xs : List GwAct) (k : List Act) (u : UnderWay) → are_plain xs ≡ true
    → bytes_eq n.name g ≡ true → clock k ≡ now
    → piped (request_at host) (response_at g) line_at g k (map (told n) xs) u ≡ all_piped now xs u
pipe-told host n g now [] k u e own c = refl
pipe-told host n g now (x ∷ xs) k u e own c =
    let parts = and_parts (is_plain x) (are_plain xs) e in
    ap (piped (request_at host) (response_at g) line_at g (told n x ∷ k) (map (told n) xs)) (pipe-one host n g now x k u parts.0 own c)
    ∙ pipe-told host n g now xs (told n x ∷ k) (nodes.piped now x u) parts.1 own (clock-one n x k ∙ c)

-- ---- the gateway after its acts

-- They stand behind an act of the event's own, that is none of sessions. What is kept is that of the past with them.
pub node-told : (header : Header) (h : List Act) (p : Peer) (a : Act) (out : Outcome) → are_plain out.acts ≡ true → is_at p.name a ≡ false
    → ((kept : Kept) (pipe : UnderWay) → node_with kept pipe header (a ∷ h) p ≡ node_with kept pipe header h p)
    → KeepsSessions (after h (a ∷ acts_told (node_of header h p) out.acts))
    → out.kept ≡ kept_of (state_of p.name (after h (a ∷ acts_told (node_of header h p) out.acts)))
    → node_with out.kept (all_piped out.kept.clock out.acts (pipe_at p.name p.address h)) header h p
    ≡ node_of header (after h (a ∷ acts_told (node_of header h p) out.acts)) p
node-told header h p a out plain away counts keeps is =
    let n : Naming = naming (node_of header h p) in
    let u : UnderWay = pipe_at p.name p.address h in
    let k : List Act = after h (a ∷ map (told n) out.acts) in
    let now : clock (a ∷ h) ≡ out.kept.clock = sym (clock-told n out.acts (a ∷ h)) ∙ ap (λ (z : Kept). z.clock) (sym is) in
    let first = if-old (is_at p.name a) (after_act (request_at p.address) (response_at p.name) line_at a h u) u away in
    let pipe : all_piped out.kept.clock out.acts u ≡ pipe_at p.name p.address k =
    sym (pipe-told p.address n p.name out.kept.clock out.acts (a ∷ h) u plain (same-refl p.name) now)
    ∙ (ap (piped (request_at p.address) (response_at p.name) line_at p.name (a ∷ h) (map (told n) out.acts)) (sym first)
    ∙ pipe-follows (request_at p.address) (response_at p.name) line_at p.name h (a ∷ map (told n) out.acts) keeps) in
    ap (λ z. node_with z (all_piped out.kept.clock out.acts u) header h p) is
    ∙ (ap (λ z. node_with (kept_of (state_of p.name k)) z header h p) pipe
    ∙ (sym (counts (kept_of (state_of p.name k)) (pipe_at p.name p.address k))
    ∙ sym (rest-told (kept_of (state_of p.name k)) (pipe_at p.name p.address k) header n out.acts (a ∷ h) p plain)))
