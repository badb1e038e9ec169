-- Each event of the controller makes of the world that stands for a past the one that stands for the past with its block.
use Rattle.std.proofs.Common.{◌≡◌, ℕ, ◌+◌, true, false, List, [], ◌∷◌, ◌++◌, length, Option, Some, None, refl, sym, ◌∙◌, ap, subst}
use Rattle.ikeless_tree.specs.declared.command.Command.TheVariants as commands
use Rattle.ikeless_tree.specs.declared.command.Peer.{Peer}
use Rattle.ikeless_tree.specs.declared.command.TunnelSpec.{TunnelSpec}
use Rattle.ikeless_tree.specs.declared.entry.SpdEntry.{SpdEntry}
use Rattle.ikeless_tree.specs.declared.order.Answer.{Answer}
use Rattle.ikeless_tree.specs.declared.order.Notice.{Notice}
use Rattle.hist_acts.specs.declared.act.Act.{Act}
use Rattle.hist_acts.specs.declared.act.Act.TheVariants as acts
use Rattle.hist_acts.specs.declared.event.Event.{Event}
use Rattle.hist_acts.specs.declared.event.Event.TheVariants as events
use Rattle.hist_acts.specs.declared.event.Header.{Header}
use Rattle.hist_acts.specs.Gateways.{is_named}
use Rattle.hist_acts.specs.Past.{after, events_taken}
use Rattle.hist_acts.specs.Sessions.{next_answer, next_notice}
use Rattle.hist_controller.specs.Acts as controller
use Rattle.hist_controller.specs.Law.{block, peer_number}
use Rattle.hist_controller.specs.Table.{AllFit}
use Rattle.hist_controller.specs.Told.{all_told}
use Rattle.hist_world.specs.Block as law
use Rattle.hist_world.specs.Block.{Past, answer_event, by_event, controller_acts, gateway_acts, hears, past_after, took}
use Rattle.hist_world.specs.Headers.{IsHeader}
use Rattle.hist_wire.specs.Wire.{under_way}
use Rattle.session_pipe.specs.Sessions.{KeepsSessions}
use Rattle.acts_spell.specs.Spelled.{IsTold}
use Rattle.ctl_core.specs.declared.acts.CtlEvent.TheVariants as told
use Rattle.world_steps.specs.Worlds.{World, node_at, number_of}
use Rattle.world_steps.specs.Steps.{Done, behind, controlled, cut_at, note_at, open_at, step, up_at}
use Rattle.world_law.specs.Stands.{StandsFor, found}
use Rattle.world_law.proofs.Peers.{IsPeer, number-low, peer-named}
use Rattle.world_law.proofs.Rests.{IsAt, Rests, node-is, number-is, rests-took}
use Rattle.world_law.proofs.Led.{Led, Ready, command-led, cut-led, note-led, open-led, still, up-led}
use Rattle.world_law.proofs.Replies as replies
use Rattle.world_law.proofs.Notices as notices
use Rattle.world_law.proofs.Suffix.{Known}

-- the law's block is told, and the world stands for the past with it
pub record Follows (header : Header) (p : Past) (e : Event) (d : Done) : Type 0 where
  pub acts : d.acts ≡ law.block (under_way header) header p e
  pub genuine : d.is_forged ≡ false
  pub stands : StandsFor header (past_after (under_way header) header p e) d.world

-- the world with the number of one more event
abbrev taken_world : World → World
taken_world w = record w { taken = w.taken + 1 }

pub rests-of : (header : Header) (p : Past) (w : World) → StandsFor header p w → Rests header p.world w
rests-of header p w s = record { nodes = s.nodes; sent = s.sent; clock = s.clock; taken = s.taken }

ready-of : (header : Header) (p : Past) (w : World) → IsHeader header → StandsFor header p w
    → Ready header (took p.world) p.controller (taken_world w)
ready-of header p w i s = record {
  names = i.named;
  rests = rests-took header p.world w s.told.sessions (rests-of header p w s);
  controller = s.controller;
  meet = record { part = s.told.lawful.meet.part; past = s.told.lawful.meet.past; fit = s.told.lawful.meet.fit };
  plain = s.told.plain;
}

-- what is known of what happened
pub known-of : (header : Header) (p : Past) → IsTold header p → Known header.gateways p.world
known-of header p t = record { lawful = t.lawful.lawful; acts = p.controller; meet = t.lawful.meet; plain = t.plain; spelled = t.spelled }

follows-led : (header : Header) (p : Past) (e : Event) (w : World) (d : Done) → gateway_acts (under_way header) header (took p.world) e ≡ []
    → IsTold header (past_after (under_way header) header p e) → w.taken ≡ events_taken p.world
    → Led header (took p.world) p.controller (controller_acts header p e) d → Follows header p e (behind (acts.Took (w.taken + 1) ∷ []) d)
follows-led header p e w d none told taken l =
    let ps : List Peer = header.gateways in
    let cs : List controller.ControllerAct = controller_acts header p e in
    let rests : Rests header (after (took p.world) (gateway_acts (under_way header) header (took p.world) e ++ all_told ps cs)) d.world =
    subst (λ xs. Rests header (after (took p.world) (xs ++ all_told ps cs)) d.world) (sym none) l.rests in
    record {
      acts = ap (λ n. acts.Took (n + 1) ∷ d.acts) taken ∙ ap (λ z. acts.Took (events_taken p.world + 1) ∷ z) l.acts
          ∙ ap (λ xs. acts.Took (events_taken p.world + 1) ∷ (xs ++ all_told ps cs)) (sym none);
      genuine = l.genuine;
      stands = record {
        nodes = rests.nodes;
        controller = l.controller;
        sent = rests.sent;
        clock = rests.clock;
        taken = rests.taken;
        told = told;
      };
    }

-- ---- the gateway of an event

pub record IsOf (header : Header) (g : List ℕ) (h : List Act) (w : World) (p : Peer) : Type 0 where
  pub is : IsPeer header.gateways g p
  pub at : IsAt header (peer_number g header.gateways) p
  pub number : number_of p.name w ≡ peer_number g header.gateways

pub gateway-of : (header : Header) (g : List ℕ) (h : List Act) (w : World) → IsHeader header → is_named header.gateways g ≡ true
    → Rests header h w → (p : Peer) × IsOf header g h w p
gateway-of header g h w i e r =
    let ps : List Peer = header.gateways in
    let q = peer-named ps g e in
    let p : Peer = q.0 in (
      p,
      record {
        is = q.1;
        at = record { names = i.named; low = number-low ps g e; place = q.1.place };
        number = number-is header h w p.name r ∙ ap (λ z. peer_number z ps) q.1.name;
      },
    )

-- ---- sessions

pub open-follows : (header : Header) (p : Past) (g : List ℕ) (w : World) → IsHeader header → is_named header.gateways g ≡ true
    → StandsFor header p w
    → IsTold header (past_after (under_way header) header p (events.Open g))
    → Follows header p (events.Open g) (step (found p.world (events.Open g)) (events.Open g) w)
open-follows header p g w i e s t =
    let h : List Act = took p.world in
    let v : World = taken_world w in
    let r = ready-of header p w i s in
    let q = gateway-of header g h v i e r.rests in
    let n : ℕ = peer_number g header.gateways in
    let led = open-led header h p.controller v n q.0 r q.1.at q.1.number t.lawful.meet.fit t.sessions in
    follows-led header p (events.Open g) w (open_at v (node_at g v)) refl t s.taken
    (subst (λ z. Led header h p.controller (block header.gateways p.controller (controller.Opens n)) (open_at v z))
    (sym (node-is header h v g q.0 r.rests q.1.is)) led)

pub cut-follows : (header : Header) (p : Past) (g : List ℕ) (w : World) → IsHeader header → is_named header.gateways g ≡ true
    → StandsFor header p w
    → IsTold header (past_after (under_way header) header p (events.Cut g))
    → Follows header p (events.Cut g) (step (found p.world (events.Cut g)) (events.Cut g) w)
cut-follows header p g w i e s t =
    let h : List Act = took p.world in
    let v : World = taken_world w in
    let r = ready-of header p w i s in
    let q = gateway-of header g h v i e r.rests in
    let n : ℕ = peer_number g header.gateways in
    let led = cut-led header h p.controller v n q.0 r q.1.at q.1.number t.lawful.meet.fit t.sessions in
    follows-led header p (events.Cut g) w (cut_at v (node_at g v)) refl t s.taken
    (subst (λ z. Led header h p.controller (block header.gateways p.controller (controller.Cuts n)) (cut_at v z))
    (sym (node-is header h v g q.0 r.rests q.1.is)) led)

-- ---- answers and notices

up-case : (header : Header) (p : Past) (g : List ℕ) (w : World) (a : Option Answer) → IsHeader header → is_named header.gateways g ≡ true
    → StandsFor header p w → next_answer g p.world ≡ a
    → AllFit (length header.gateways) (after p.controller (by_event header.gateways p.controller
    (answer_event (peer_number g header.gateways) a)))
    → KeepsSessions (after (took p.world) (all_told header.gateways
    (by_event header.gateways p.controller (answer_event (peer_number g header.gateways) a))))
    → Led header (took p.world) p.controller (by_event header.gateways p.controller (answer_event (peer_number g header.gateways) a))
    (up_at a (taken_world w) (node_at g (taken_world w)))
up-case header p g w None i e s next fit keep = still header (took p.world) p.controller (taken_world w) (ready-of header p w i s)
up-case header p g w (Some a) i e s next fit keep =
    let ps : List Peer = header.gateways in
    let h : List Act = took p.world in
    let v : World = taken_world w in
    let r = ready-of header p w i s in
    let q = gateway-of header g h v i e r.rests in
    let n : ℕ = peer_number g ps in
    let there : next_answer (q.0).name p.world ≡ Some a = ap (λ z. next_answer z p.world) q.1.is.name ∙ next in
    let is = replies.next-is ps q.0 n p.world p.controller a i.named q.1.at.low q.1.at.place
    (known-of header p s.told) s.told.lawful.meet s.told.sessions s.told.replied there in
    let led = up-led header h p.controller v n q.0 a r q.1.at q.1.number (replies.next-waits ps q.0 n p.world p.controller a is)
    (replies.next-may ps q.0 n p.world p.controller a w.controller i.named s.controller q.1.at.low is) fit keep in
    subst (λ z. Led header h p.controller (block ps p.controller (controller.Answers n a)) (up_at (Some a) v z))
    (sym (node-is header h v g q.0 r.rests q.1.is)) led

pub up-follows : (header : Header) (p : Past) (g : List ℕ) (w : World) → IsHeader header → is_named header.gateways g ≡ true
    → StandsFor header p w
    → IsTold header (past_after (under_way header) header p (events.Up g))
    → Follows header p (events.Up g) (step (found p.world (events.Up g)) (events.Up g) w)
up-follows header p g w i e s t =
    follows-led header p (events.Up g) w (up_at (next_answer g p.world) (taken_world w) (node_at g (taken_world w))) refl t s.taken
    (up-case header p g w (next_answer g p.world) i e s refl t.lawful.meet.fit t.sessions)

note-case : (header : Header) (p : Past) (g : List ℕ) (w : World) (a : Option Notice) → IsHeader header → is_named header.gateways g ≡ true
    → StandsFor header p w → next_notice g p.world ≡ a
    → AllFit (length header.gateways) (after p.controller (by_event header.gateways p.controller (hears (peer_number g header.gateways) a)))
    → KeepsSessions (after (took p.world) (all_told header.gateways
    (by_event header.gateways p.controller (hears (peer_number g header.gateways) a))))
    → Led header (took p.world) p.controller (by_event header.gateways p.controller (hears (peer_number g header.gateways) a))
    (note_at a (taken_world w) (node_at g (taken_world w)))
note-case header p g w None i e s next fit keep = still header (took p.world) p.controller (taken_world w) (ready-of header p w i s)
note-case header p g w (Some a) i e s next fit keep =
    let ps : List Peer = header.gateways in
    let h : List Act = took p.world in
    let v : World = taken_world w in
    let r = ready-of header p w i s in
    let q = gateway-of header g h v i e r.rests in
    let n : ℕ = peer_number g ps in
    let there : next_notice (q.0).name p.world ≡ Some a = ap (λ z. next_notice z p.world) q.1.is.name ∙ next in
    let led = note-led header h p.controller v n q.0 a r q.1.at q.1.number (notices.next-open q.0 p.world a there) fit keep in
    subst (λ z. Led header h p.controller (block ps p.controller (controller.Notices n a)) (note_at (Some a) v z))
    (sym (node-is header h v g q.0 r.rests q.1.is)) led

pub note-follows : (header : Header) (p : Past) (g : List ℕ) (w : World) → IsHeader header → is_named header.gateways g ≡ true
    → StandsFor header p w
    → IsTold header (past_after (under_way header) header p (events.Note g))
    → Follows header p (events.Note g) (step (found p.world (events.Note g)) (events.Note g) w)
note-follows header p g w i e s t =
    follows-led header p (events.Note g) w (note_at (next_notice g p.world) (taken_world w) (node_at g (taken_world w))) refl t s.taken
    (note-case header p g w (next_notice g p.world) i e s refl t.lawful.meet.fit t.sessions)

-- ---- commands

pub policy-follows : (header : Header) (p : Past) (g : List ℕ) (list : List SpdEntry) (w : World) → IsHeader header → StandsFor header p w
    → IsTold header (past_after (under_way header) header p (events.Policy g list))
    → Follows header p (events.Policy g list) (step (found p.world (events.Policy g list)) (events.Policy g list) w)
policy-follows header p g list w i s t =
    follows-led header p (events.Policy g list) w (controlled (told.Command (commands.Policy g list)) (taken_world w)) refl t s.taken
    (command-led header (took p.world) p.controller (taken_world w) (commands.Policy g list)
    (ready-of header p w i s) t.lawful.meet.fit t.sessions)

pub tunnel-follows : (header : Header) (p : Past) (spec : TunnelSpec) (w : World) → IsHeader header → StandsFor header p w
    → IsTold header (past_after (under_way header) header p (events.Tunnel spec))
    → Follows header p (events.Tunnel spec) (step (found p.world (events.Tunnel spec)) (events.Tunnel spec) w)
tunnel-follows header p spec w i s t =
    follows-led header p (events.Tunnel spec) w (controlled (told.Command (commands.Tunnel spec)) (taken_world w)) refl t s.taken
    (command-led header (took p.world) p.controller (taken_world w) (commands.Tunnel spec)
    (ready-of header p w i s) t.lawful.meet.fit t.sessions)

pub end-follows : (header : Header) (p : Past) (reqid : ℕ) (w : World) → IsHeader header → StandsFor header p w
    → IsTold header (past_after (under_way header) header p (events.End reqid))
    → Follows header p (events.End reqid) (step (found p.world (events.End reqid)) (events.End reqid) w)
end-follows header p reqid w i s t =
    follows-led header p (events.End reqid) w (controlled (told.Command (commands.End reqid)) (taken_world w)) refl t s.taken
    (command-led header (took p.world) p.controller (taken_world w) (commands.End reqid)
    (ready-of header p w i s) t.lawful.meet.fit t.sessions)

pub rekey-follows : (header : Header) (p : Past) (reqid : ℕ) (w : World) → IsHeader header → StandsFor header p w
    → IsTold header (past_after (under_way header) header p (events.Rekey reqid))
    → Follows header p (events.Rekey reqid) (step (found p.world (events.Rekey reqid)) (events.Rekey reqid) w)
rekey-follows header p reqid w i s t =
    follows-led header p (events.Rekey reqid) w (controlled (told.Command (commands.Rekey reqid)) (taken_world w)) refl t s.taken
    (command-led header (took p.world) p.controller (taken_world w) (commands.Rekey reqid)
    (ready-of header p w i s) t.lawful.meet.fit t.sessions)

pub keys-follows : (header : Header) (p : Past) (key : List ℕ) (w : World) → IsHeader header → StandsFor header p w
    → IsTold header (past_after (under_way header) header p (events.Keys key))
    → Follows header p (events.Keys key) (step (found p.world (events.Keys key)) (events.Keys key) w)
keys-follows header p key w i s t =
    follows-led header p (events.Keys key) w (controlled (told.Command (commands.Keys key)) (taken_world w)) refl t s.taken
    (command-led header (took p.world) p.controller (taken_world w) (commands.Keys key)
    (ready-of header p w i s) t.lawful.meet.fit t.sessions)
