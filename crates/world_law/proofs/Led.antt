-- What comes to the controller: the acts that are told of it, and the world then, are those of the law.
use Rattle.std.proofs.Common.{◌≡◌, ℕ, ◌+◌, ◌<◌, Bool, true, false, List, [], ◌∷◌, length, Option, Some, None, refl, sym, ◌∙◌, ap, subst, if◌then◌else◌}
use Rattle.ikeless_tree.specs.declared.command.Command.{Command}
use Rattle.ikeless_tree.specs.declared.command.Peer.{Peer}
use Rattle.ikeless_tree.specs.declared.command.Refusal.{Refusal}
use Rattle.ikeless_tree.specs.declared.order.Answer.{Answer}
use Rattle.ikeless_tree.specs.declared.order.Notice.{Notice}
use Rattle.hist_acts.specs.declared.act.Act.{Act}
use Rattle.hist_acts.specs.declared.act.Act.TheVariants as acts
use Rattle.hist_acts.specs.declared.event.Header.{Header}
use Rattle.hist_acts.specs.Past.{after}
use Rattle.hist_acts.specs.Sessions as sessions
use Rattle.hist_controller.specs.Acts.{ControllerAct, ControllerOrder, Opened, Cut, Answered, Heard, Accepted, Opens, Cuts, Answers, Notices, PlacedCommand, Told}
use Rattle.hist_controller.specs.Past.{answered, is_open, openings, queue}
use Rattle.hist_controller.specs.Law.{asked, asked_then, block, by_answer, by_refusal, going, placed_command, refusal}
use Rattle.hist_controller.specs.Clauses.{IsControllerPast}
use Rattle.hist_controller.specs.Halves.{PlainAnswers}
use Rattle.hist_controller.specs.Table.{AllFit}
use Rattle.hist_controller.specs.Told.{Named, all_told, peer_name}
use Rattle.hist_safety.proofs.Basics.{no}
use Rattle.hist_sessions.proofs.Pipes.{keeps-before}
use Rattle.hist_world.specs.Stands.{Meet}
use Rattle.hist_world.proofs.Controls.{answered-meet, open-meet, openings-meet, then-orders}
use Rattle.session_pipe.specs.Sessions.{KeepsSessions}
use Rattle.ctl_core.specs.declared.acts.CtlEvent.{CtlEvent}
use Rattle.ctl_core.specs.declared.acts.CtlEvent.TheVariants as told
use Rattle.ctl_core.specs.Core.{Core, expected}
use Rattle.ctl_core.specs.Step.{stepped}
use Rattle.ctl_law.specs.Stands.{StandsFor}
use Rattle.ctl_law.specs.Told.{MayBeTold, all_done, event_of, may_answer}
use Rattle.ctl_law.proofs.Looks.{count-of}
use Rattle.ctl_law.proofs.Steps.{step-follows}
use Rattle.world_steps.specs.Nodes.{Node, cut, heard_answer, heard_notice, opened}
use Rattle.world_steps.specs.Worlds.{World, number_of, with_node}
use Rattle.world_steps.specs.Steps.{Done, answer, behind, controlled, cut_at, did, giving, notice, open_at}
use Rattle.world_law.specs.Stands.{node_of}
use Rattle.world_law.proofs.Peers.{place-name}
use Rattle.world_law.proofs.Rests.{IsAt, Rests, rests-answered, rests-controller, rests-cut, rests-heard, rests-opened}
use Rattle.world_law.proofs.Giving.{AreFit, AreGiven, fit-parts, giving-gives, orders-given}

-- ---- something comes to the controller

-- these acts of its law are told, and the world stands for the past with them
pub record Led (header : Header) (h : List Act) (c cs : List ControllerAct) (d : Done) : Type 0 where
  pub acts : d.acts ≡ all_told header.gateways cs
  pub genuine : d.is_forged ≡ false
  pub rests : Rests header (after h (all_told header.gateways cs)) d.world
  pub controller : StandsFor header.gateways (after c cs) d.world.controller

-- what is known before an event, after its number
pub record Ready (header : Header) (h : List Act) (c : List ControllerAct) (w : World) : Type 0 where
  pub names : Named header.gateways
  pub rests : Rests header h w
  pub controller : StandsFor header.gateways c w.controller
  pub meet : Meet header.gateways h c
  pub plain : PlainAnswers c

-- the acts that follow the event's own
record Went (header : Header) (h : List Act) (c xs : List ControllerAct) (e : CtlEvent) (d : Done) : Type 0 where
  acts : d.acts ≡ all_told header.gateways xs
  genuine : d.is_forged ≡ false
  rests : Rests header (after h (all_told header.gateways xs)) d.world
  controller : StandsFor header.gateways (after c (block header.gateways c (event_of e))) d.world.controller

went : (header : Header) (h : List Act) (c xs : List ControllerAct) (e : CtlEvent) (w : World) → Named header.gateways → Rests header h w
    → StandsFor header.gateways c w.controller
    → IsControllerPast (length header.gateways) c → PlainAnswers c → MayBeTold w.controller e
    → all_done header.gateways (block header.gateways c (event_of e)) ≡ all_done header.gateways xs → AreGiven xs
    → AreFit (length header.gateways) xs
    → KeepsSessions (after h (all_told header.gateways xs)) → Went header h c xs e (controlled e w)
went header h c xs e w names rests stands past plain may same given fit keep =
    let ps : List Peer = header.gateways in
    let core : Core = (stepped w.controller e).core in
    let v : World = record w { controller = core } in
    let follows = step-follows ps c w.controller e past plain stands may in
    let g = giving-gives header h xs v names (rests-controller header h w core rests) given fit keep in
    let all : (stepped w.controller e).acts ≡ all_done ps xs = follows.acts ∙ same in
    subst (λ z. Went header h c xs e (giving z v)) (sym all)
    (record {
      acts = g.acts;
      genuine = g.genuine;
      rests = g.rests;
      controller = subst (StandsFor ps (after c (block ps c (event_of e))))
          (sym g.controller) follows.stands;
    })

-- the gateway is known to the controller
pub known : (ps : List Peer) (c : List ControllerAct) (k : Core) (i : ℕ) → StandsFor ps c k → i < length ps → i < length k.stations
known ps c k i s l = subst (λ n. i < n) (sym (count-of ps c k.stations s.gateways)) l

pub still : (header : Header) (h : List Act) (c : List ControllerAct) (w : World) → Ready header h c w → Led header h c [] (did [] w)
still header h c w r = record { acts = refl; genuine = refl; rests = r.rests; controller = r.controller }

-- ---- a session

opens : (header : Header) (h : List Act) (c : List ControllerAct) (w : World) (i : ℕ) (p : Peer) (b : Bool) → Ready header h c w
    → IsAt header i p → is_open i c ≡ b
    → AllFit (length header.gateways) (after c (if b then [] else going c (Opened i (openings i c + 1))))
    → KeepsSessions (after h (all_told header.gateways (if b then [] else going c (Opened i (openings i c + 1)))))
    → Led header h c (if b then [] else going c (Opened i (openings i c + 1)))
    (if b then did [] w else behind (acts.Opened p.name (sessions.openings p.name h + 1) ∷ [])
    (controlled (told.Opened i) (with_node (opened (node_of header h p)) w)))
opens header h c w i p true r at e fit keep = still header h c w r
opens header h c w i p false r at e fit keep =
    let ps : List Peer = header.gateways in
    let own : ControllerAct = Opened i (openings i c + 1) in
    let xs : List ControllerAct = asked_then (own ∷ c) (asked (own ∷ c) own) in
    let act : Act = acts.Opened (peer_name ps i) (openings i c + 1) in
    let v : World = with_node (opened (node_of header h p)) w in
    let name : peer_name ps i ≡ p.name = place-name ps i p at.place in
    let rests = rests-opened header (peer_name ps i) (openings i c + 1) h w i p at name
    (keeps-before (act ∷ h) (all_told ps xs) keep) r.rests in
    let same : all_done ps (block ps c (Opens i)) ≡ all_done ps xs = ap (λ z. all_done ps (if z then [] else going c own)) e in
    let t = went header (act ∷ h) c xs (told.Opened i) v r.names rests r.controller r.meet.past r.plain
    (known ps c w.controller i r.controller at.low) same
    (orders-given xs (then-orders c own)) (fit-parts (length ps) c (own ∷ xs) fit).0.1 keep in
    let first : acts.Opened p.name (sessions.openings p.name h + 1) ≡ act =
    ap (λ z. acts.Opened z (sessions.openings z h + 1)) (sym name) ∙ ap (λ n. acts.Opened (peer_name ps i) (n + 1))
    (openings-meet ps h c i r.names r.meet at.low) in
    record {
      acts = ap (λ z. z ∷ (controlled (told.Opened i) v).acts) first ∙ ap (λ z. act ∷ z) t.acts;
      genuine = t.genuine;
      rests = t.rests;
      controller = subst (λ z. StandsFor ps (after c (if z then [] else going c own))
          (controlled (told.Opened i) v).world.controller) e t.controller;
    }

pub open-led : (header : Header) (h : List Act) (c : List ControllerAct) (w : World) (i : ℕ) (p : Peer) → Ready header h c w
    → IsAt header i p → number_of p.name w ≡ i
    → AllFit (length header.gateways) (after c (block header.gateways c (Opens i)))
    → KeepsSessions (after h (all_told header.gateways (block header.gateways c (Opens i))))
    → Led header h c (block header.gateways c (Opens i)) (open_at w (Some (node_of header h p)))
open-led header h c w i p r at number fit keep =
    let ps : List Peer = header.gateways in
    let n : Node = node_of header h p in
    let live : sessions.is_open p.name h ≡ is_open i c = ap (λ z. sessions.is_open z h) (sym (place-name ps i p at.place))
    ∙ open-meet ps h c i r.names r.meet at.low in
    subst (λ b. Led header h c (block ps c (Opens i))
    (if b then did [] w else behind (acts.Opened p.name (sessions.openings p.name h + 1) ∷ [])
    (controlled (told.Opened (number_of p.name w)) (with_node (opened n) w)))) (sym live)
    (subst (λ j. Led header h c (block ps c (Opens i))
    (if is_open i c then did [] w else behind (acts.Opened p.name (sessions.openings p.name h + 1) ∷ [])
    (controlled (told.Opened j) (with_node (opened n) w)))) (sym number)
    (opens header h c w i p (is_open i c) r at refl fit keep))

cuts : (header : Header) (h : List Act) (c : List ControllerAct) (w : World) (i : ℕ) (p : Peer) (b : Bool) → Ready header h c w
    → IsAt header i p → is_open i c ≡ b
    → AllFit (length header.gateways) (after c (if b then going c (Cut i (openings i c)) else []))
    → KeepsSessions (after h (all_told header.gateways (if b then going c (Cut i (openings i c)) else [])))
    → Led header h c (if b then going c (Cut i (openings i c)) else [])
    (if b then behind (acts.Cut p.name (sessions.openings p.name h) ∷ [])
    (controlled (told.Cut i) (with_node (cut (node_of header h p)) w)) else did [] w)
cuts header h c w i p false r at e fit keep = still header h c w r
cuts header h c w i p true r at e fit keep =
    let ps : List Peer = header.gateways in
    let own : ControllerAct = Cut i (openings i c) in
    let xs : List ControllerAct = asked_then (own ∷ c) (asked (own ∷ c) own) in
    let act : Act = acts.Cut (peer_name ps i) (openings i c) in
    let v : World = with_node (cut (node_of header h p)) w in
    let name : peer_name ps i ≡ p.name = place-name ps i p at.place in
    let rests = rests-cut header (peer_name ps i) (openings i c) h w i p at name (keeps-before (act ∷ h) (all_told ps xs) keep) r.rests in
    let same : all_done ps (block ps c (Cuts i)) ≡ all_done ps xs = ap (λ z. all_done ps (if z then going c own else [])) e in
    let t = went header (act ∷ h) c xs (told.Cut i) v r.names rests r.controller r.meet.past r.plain
    (known ps c w.controller i r.controller at.low) same
    (orders-given xs (then-orders c own)) (fit-parts (length ps) c (own ∷ xs) fit).0.1 keep in
    let first : acts.Cut p.name (sessions.openings p.name h) ≡ act =
    ap (λ z. acts.Cut z (sessions.openings z h)) (sym name) ∙ ap (acts.Cut (peer_name ps i))
    (openings-meet ps h c i r.names r.meet at.low) in
    record {
      acts = ap (λ z. z ∷ (controlled (told.Cut i) v).acts) first ∙ ap (λ z. act ∷ z) t.acts;
      genuine = t.genuine;
      rests = t.rests;
      controller = subst (λ z. StandsFor ps (after c (if z then going c own else []))
          (controlled (told.Cut i) v).world.controller) e t.controller;
    }

pub cut-led : (header : Header) (h : List Act) (c : List ControllerAct) (w : World) (i : ℕ) (p : Peer) → Ready header h c w
    → IsAt header i p → number_of p.name w ≡ i
    → AllFit (length header.gateways) (after c (block header.gateways c (Cuts i)))
    → KeepsSessions (after h (all_told header.gateways (block header.gateways c (Cuts i))))
    → Led header h c (block header.gateways c (Cuts i)) (cut_at w (Some (node_of header h p)))
cut-led header h c w i p r at number fit keep =
    let ps : List Peer = header.gateways in
    let n : Node = node_of header h p in
    let live : sessions.is_open p.name h ≡ is_open i c = ap (λ z. sessions.is_open z h) (sym (place-name ps i p at.place))
    ∙ open-meet ps h c i r.names r.meet at.low in
    subst (λ b. Led header h c (block ps c (Cuts i))
    (if b then behind (acts.Cut p.name (sessions.openings p.name h) ∷ [])
    (controlled (told.Cut (number_of p.name w)) (with_node (cut n) w)) else did [] w)) (sym live)
    (subst (λ j. Led header h c (block ps c (Cuts i))
    (if is_open i c then behind (acts.Cut p.name (sessions.openings p.name h) ∷ [])
    (controlled (told.Cut j) (with_node (cut n) w)) else did [] w)) (sym number)
    (cuts header h c w i p (is_open i c) r at refl fit keep))

-- ---- what a gateway sends

hears : (header : Header) (h : List Act) (c : List ControllerAct) (w : World) (i : ℕ) (p : Peer) (t : Notice) (b : Bool) → b ≡ true
    → Ready header h c w → IsAt header i p → is_open i c ≡ b
    → AllFit (length header.gateways) (after c (if b then going c (Heard i (openings i c) t) else []))
    → KeepsSessions (after h (all_told header.gateways (if b then going c (Heard i (openings i c) t) else [])))
    → Led header h c (if b then going c (Heard i (openings i c) t) else [])
    (behind (acts.Heard p.name (sessions.openings p.name h) t ∷ [])
    (controlled (told.Noticed i t) (with_node (heard_notice (node_of header h p)) w)))
hears header h c w i p t false o r at e fit keep = absurd (no o)
hears header h c w i p t true o r at e fit keep =
    let ps : List Peer = header.gateways in
    let own : ControllerAct = Heard i (openings i c) t in
    let xs : List ControllerAct = asked_then (own ∷ c) (asked (own ∷ c) own) in
    let act : Act = acts.Heard (peer_name ps i) (openings i c) t in
    let v : World = with_node (heard_notice (node_of header h p)) w in
    let name : peer_name ps i ≡ p.name = place-name ps i p at.place in
    let rests = rests-heard header (peer_name ps i) (openings i c) t h w i p at name
    (keeps-before (act ∷ h) (all_told ps xs) keep) r.rests in
    let same : all_done ps (block ps c (Notices i t)) ≡ all_done ps xs = ap (λ z. all_done ps (if z then going c own else [])) e in
    let s = went header (act ∷ h) c xs (told.Noticed i t) v r.names rests r.controller r.meet.past r.plain
    (known ps c w.controller i r.controller at.low) same
    (orders-given xs (then-orders c own)) (fit-parts (length ps) c (own ∷ xs) fit).0.1 keep in
    let first : acts.Heard p.name (sessions.openings p.name h) t ≡ act =
    ap (λ z. acts.Heard z (sessions.openings z h) t) (sym name) ∙ ap (λ n. acts.Heard (peer_name ps i) n t)
    (openings-meet ps h c i r.names r.meet at.low) in
    record {
      acts = ap (λ z. z ∷ (controlled (told.Noticed i t) v).acts) first ∙ ap (λ z. act ∷ z) s.acts;
      genuine = s.genuine;
      rests = s.rests;
      controller = subst (λ z. StandsFor ps (after c (if z then going c own else []))
          (controlled (told.Noticed i t) v).world.controller) e s.controller;
    }

pub note-led : (header : Header) (h : List Act) (c : List ControllerAct) (w : World) (i : ℕ) (p : Peer) (t : Notice) → Ready header h c w
    → IsAt header i p → number_of p.name w ≡ i
    → sessions.is_open p.name h ≡ true
    → AllFit (length header.gateways) (after c (block header.gateways c (Notices i t)))
    → KeepsSessions (after h (all_told header.gateways (block header.gateways c (Notices i t))))
    → Led header h c (block header.gateways c (Notices i t)) (notice t w (node_of header h p))
note-led header h c w i p t r at number live fit keep =
    let ps : List Peer = header.gateways in
    let n : Node = node_of header h p in
    let same : sessions.is_open p.name h ≡ is_open i c = ap (λ z. sessions.is_open z h) (sym (place-name ps i p at.place))
    ∙ open-meet ps h c i r.names r.meet at.low in
    subst (λ j. Led header h c (block ps c (Notices i t)) (behind (acts.Heard p.name (sessions.openings p.name h) t ∷ [])
    (controlled (told.Noticed j t) (with_node (heard_notice n) w)))) (sym number)
    (hears header h c w i p t (is_open i c) (sym same ∙ live) r at refl fit keep)

answers : (header : Header) (h : List Act) (c : List ControllerAct) (w : World) (i : ℕ) (p : Peer) (a : Answer) (os : List ControllerOrder)
    → queue i c ≡ os → (os ≡ [] → ⊥)
    → Ready header h c w → IsAt header i p → may_answer (expected w.controller i) a.status ≡ true
    → AllFit (length header.gateways) (after c (by_answer c i a os))
    → KeepsSessions (after h (all_told header.gateways (by_answer c i a os)))
    → Led header h c (by_answer c i a os)
    (behind (acts.Answered p.name (sessions.openings p.name h) (sessions.answered p.name (sessions.openings p.name h) h + 1) a ∷ [])
    (controlled (told.Answered i a) (with_node (heard_answer (node_of header h p)) w)))
answers header h c w i p a [] q some r at may fit keep = absurd (some refl)
answers header h c w i p a (o ∷ os) q some r at may fit keep =
    let ps : List Peer = header.gateways in
    let own : ControllerAct = Answered i (openings i c) (answered i c + 1) a in
    let xs : List ControllerAct = asked_then (own ∷ c) (asked (own ∷ c) own) in
    let act : Act = acts.Answered (peer_name ps i) (openings i c) (answered i c + 1) a in
    let v : World = with_node (heard_answer (node_of header h p)) w in
    let name : peer_name ps i ≡ p.name = place-name ps i p at.place in
    let rests = rests-answered header (peer_name ps i) (openings i c) (answered i c + 1) a h w i p at name
    (keeps-before (act ∷ h) (all_told ps xs) keep) r.rests in
    let same : all_done ps (block ps c (Answers i a)) ≡ all_done ps xs = ap (λ z. all_done ps (by_answer c i a z)) q in
    let t = went header (act ∷ h) c xs (told.Answered i a) v r.names rests r.controller r.meet.past r.plain
    (known ps c w.controller i r.controller at.low, may) same
    (orders-given xs (then-orders c own)) (fit-parts (length ps) c (own ∷ xs) fit).0.1 keep in
    let session : sessions.openings (peer_name ps i) h ≡ openings i c = openings-meet ps h c i r.names r.meet at.low in
    let first : acts.Answered p.name (sessions.openings p.name h) (sessions.answered p.name (sessions.openings p.name h) h + 1) a ≡ act =
    ap (λ z. acts.Answered z (sessions.openings z h) (sessions.answered z (sessions.openings z h) h + 1) a) (sym name)
    ∙ ap (λ s. acts.Answered (peer_name ps i) s (sessions.answered (peer_name ps i) s h + 1) a) session
    ∙ ap (λ n. acts.Answered (peer_name ps i) (openings i c) (n + 1) a) (answered-meet ps h c i r.names r.meet at.low) in
    record {
      acts = ap (λ z. z ∷ (controlled (told.Answered i a) v).acts) first ∙ ap (λ z. act ∷ z) t.acts;
      genuine = t.genuine;
      rests = t.rests;
      controller = subst (λ z. StandsFor ps (after c (by_answer c i a z))
          (controlled (told.Answered i a) v).world.controller) q t.controller;
    }

pub up-led : (header : Header) (h : List Act) (c : List ControllerAct) (w : World) (i : ℕ) (p : Peer) (a : Answer) → Ready header h c w
    → IsAt header i p → number_of p.name w ≡ i
    → (queue i c ≡ [] → ⊥) → may_answer (expected w.controller i) a.status ≡ true
    → AllFit (length header.gateways) (after c (block header.gateways c (Answers i a)))
    → KeepsSessions (after h (all_told header.gateways (block header.gateways c (Answers i a))))
    → Led header h c (block header.gateways c (Answers i a)) (answer a w (node_of header h p))
up-led header h c w i p a r at number some may fit keep =
    let ps : List Peer = header.gateways in
    let n : Node = node_of header h p in
    subst (λ j. Led header h c (block ps c (Answers i a))
    (behind (acts.Answered p.name (sessions.openings p.name h) (sessions.answered p.name (sessions.openings p.name h) h + 1) a ∷ [])
    (controlled (told.Answered j a) (with_node (heard_answer n) w)))) (sym number)
    (answers header h c w i p a (queue i c) refl some r at may fit keep)

-- ---- a command

refusal-given : (c : List ControllerAct) (x : PlacedCommand) (r : Option Refusal) → AreGiven (by_refusal c x r)
refusal-given c x None = orders-given (asked_then (Accepted x ∷ c) (asked (Accepted x ∷ c) (Accepted x))) (then-orders c (Accepted x))
refusal-given c x (Some w) = tt

pub command-led : (header : Header) (h : List Act) (c : List ControllerAct) (w : World) (x : Command) → Ready header h c w
    → AllFit (length header.gateways) (after c (block header.gateways c (Told x)))
    → KeepsSessions (after h (all_told header.gateways (block header.gateways c (Told x))))
    → Led header h c (block header.gateways c (Told x)) (controlled (told.Command x) w)
command-led header h c w x r fit keep =
    let ps : List Peer = header.gateways in
    let xs : List ControllerAct = block ps c (Told x) in
    let t = went header h c xs (told.Command x) w r.names r.rests r.controller r.meet.past r.plain tt refl
    (refusal-given c (placed_command ps x) (refusal (length ps) c (placed_command ps x))) (fit-parts (length ps) c xs fit).0 keep in
    record { acts = t.acts; genuine = t.genuine; rests = t.rests; controller = t.controller }
