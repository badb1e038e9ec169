-- The block of an event has lines, and what is told holds again after it.
use Rattle.std.proofs.Common.{◌≡◌, ℕ, ◌+◌, ◌-◌, ◌<◌, ◌^◌, ◌||◌, Bool, true, false, List, [], ◌∷◌, ◌++◌, length, Option, Some, None, ◌⊎◌, inl, inr, refl, sym, ap, ◌∙◌, subst, append-nil, arith, if◌then◌else◌}
use Rattle.std.specs.List.{AllByRecursion}
use Rattle.std.specs.Str.{bytes_eq}
use Rattle.std.proofs.lemmas.List.Elements.{All-from_recursion, recursion_from_All}
use Rattle.ikl_base.specs.Address.{IsAddress}
use Rattle.ikeless_tree.specs.declared.command.Command.TheVariants as commands
use Rattle.ikeless_tree.specs.declared.command.Peer.{Peer}
use Rattle.ikeless_tree.specs.declared.order.Answer.{Answer}
use Rattle.ikeless_tree.specs.declared.order.Notice.{Notice}
use Rattle.esp_frame.specs.Laws.{SealedLength}
use Rattle.event_lines.specs.Spelling.{IsEvent, IsEventUnder}
use Rattle.hist_acts.specs.declared.act.Act.{Act}
use Rattle.hist_acts.specs.declared.event.Event.{Event}
use Rattle.hist_acts.specs.declared.event.Event.TheVariants as events
use Rattle.hist_acts.specs.declared.event.Header.{Header}
use Rattle.hist_acts.specs.Gateways.{is_named}
use Rattle.hist_acts.specs.Past.{after, events_taken}
use Rattle.hist_acts.specs.Sessions.{next_answer, next_notice}
use Rattle.hist_controller.specs.Acts as controller
use Rattle.hist_controller.specs.Clauses.{IsControllerPast}
use Rattle.hist_controller.specs.Law as controller_law
use Rattle.hist_controller.specs.Law.{peer_number}
use Rattle.hist_controller.specs.Table.{AllFit}
use Rattle.hist_controller.specs.Told.{all_told, peer_name}
use Rattle.hist_world.specs.Block.{Past, answer_event, block, by_event, controller_acts, gateway_acts, hears, is_forged_event, nothing, past_after, took}
use Rattle.hist_world.specs.Events.{IsEventOf}
use Rattle.hist_world.proofs.Runs.{name-number, start, step}
use Rattle.hist_sessions.proofs.Keeps.{keep-block}
use Rattle.hist_sessions.proofs.Pipes.{keeps-before}
use Rattle.hist_wire.proofs.Replied.{block-replied}
use Rattle.hist_wire.specs.Wire.{under_way}
use Rattle.session_pipe.specs.Sessions.{KeepsSessions}
use Rattle.acts_spell.specs.Spelled.{IsSpelled, IsSpelledHeader, IsTold}
use Rattle.acts_spell.proofs.Controls.{IsGoodEvent, IsGoodPast, all-tellable, block-few, block-good}
use Rattle.acts_spell.proofs.Counts.{AreFew, few-after, quiet-few, room-from, taken-same}
use Rattle.acts_spell.proofs.Each.{each-after, each-append}
use Rattle.acts_spell.proofs.Found.{AreSpelled}
use Rattle.acts_spell.proofs.Gateways.{IsReady, gateways-spelled}
use Rattle.acts_spell.proofs.Ordered.{ArePeers, one-family}
use Rattle.acts_spell.proofs.Plain.{next-plain}
use Rattle.acts_spell.proofs.Quiet.{gateway-few}
use Rattle.acts_spell.proofs.Told.{tellable-spelled}

-- what an event meets, and the laws of octets and of lines
pub record Meets (header : Header) (p : Past) (e : Event) : Type 0 where
  pub spelled : IsSpelledHeader header
  pub under : IsEventUnder header.gateways e
  pub typed : IsEvent e
  pub told : IsTold header p
  pub few : events_taken p.world < 2 ^ 32 - 1
  pub sizes : SealedLength

-- ---- the event is one of the header

number-small : (ps : List Peer) (g : List ℕ) → is_named ps g ≡ true → peer_number g ps < length ps
number-small [] g e = cc
number-small (p ∷ ps) g e = by-name (bytes_eq p.name g) e (number-small ps g) where
  by-name : (b : Bool) → (b || is_named ps g) ≡ true → (is_named ps g ≡ true → peer_number g ps < length ps)
      → (if b then 0 else peer_number g ps + 1) < length (p ∷ ps)
  by-name true t f = omega arith
  by-name false t f = let q = f t in omega (arith, q)

pub event-of : (header : Header) (e : Event) → IsEventUnder header.gateways e → IsEventOf header e
event-of header (events.Open g) u = number-small header.gateways g u
event-of header (events.Cut g) u = number-small header.gateways g u
event-of header (events.Up g) u = number-small header.gateways g u
event-of header (events.Note g) u = number-small header.gateways g u
event-of header e u = tt

-- ---- what the controller does

-- what is left of commands and answers, how many acts there are, and that they have lines
record Controls (header : Header) (p : Past) (cs : List controller.ControllerAct) : Type 0 where
  pub good : IsGoodPast (after p.controller cs)
  pub few : AreFew (all_told header.gateways cs)
  pub spelled : AreSpelled header.gateways (all_told header.gateways cs)

good-now : (header : Header) (p : Past) → IsTold header p → IsGoodPast p.controller
good-now header p t = record { sound = t.commands; spelled = t.accepted; plain = t.plain }

none-done : (header : Header) (p : Past) → IsTold header p → Controls header p []
none-done header p t = record { good = good-now header p t; few = quiet-few [] refl; spelled = tt }

addressed : (header : Header) → IsSpelledHeader header → AllByRecursion (λ q. IsAddress q.address) header.gateways
addressed header h = recursion_from_All (λ q. IsAddress q.address) header.gateways h.addresses

peers : (header : Header) → IsSpelledHeader header → ArePeers header.gateways
peers header h = record { addressed = addressed header h; family = one-family header.gateways h.sound.family }

world-spelled : (header : Header) (p : Past) → IsTold header p → AreSpelled header.gateways p.world
world-spelled header p t = recursion_from_All (IsSpelled header.gateways) p.world t.spelled

took-spelled : (header : Header) (p : Past) → IsTold header p → events_taken p.world < 2 ^ 32 - 1
    → AreSpelled header.gateways (took p.world)
took-spelled header p t l = ((tt, omega (arith, l)), world-spelled header p t)

-- the past after the controller's acts
record After (header : Header) (p : Past) (cs : List controller.ControllerAct) : Type 0 where
  pub past : IsControllerPast (length header.gateways) (after p.controller cs)
  pub fit : AllFit (length header.gateways) (after p.controller cs)
  pub keeps : KeepsSessions (after (took p.world) (all_told header.gateways cs))

controlled : (header : Header) (p : Past) (e : Event) (ev : controller.ControllerEvent) → Meets header p e
    → IsGoodEvent header.gateways p.controller ev → After header p (controller_law.block header.gateways p.controller ev)
    → Controls header p (controller_law.block header.gateways p.controller ev)
controlled header p e ev m g a =
    let cs : List controller.ControllerAct = controller_law.block header.gateways p.controller ev in
    let good = block-good header.gateways p.controller ev g (good-now header p m.told) in
    let few = block-few header.gateways p.controller ev m.told.lawful.meet.past in
    let bound : events_taken p.world + 1 < 2 ^ 32 = let l = m.few in omega (arith, l) in
    record {
      good = good;
      few = few;
      spelled =
          tellable-spelled keeps-before header.gateways (events_taken p.world + 1) (took p.world) (all_told header.gateways cs) bound
          (took-spelled header p m.told m.few) a.keeps
          (λ f. room-from f (events_taken p.world + 1) p.world (all_told header.gateways cs) (m.told.few f) few)
          (all-tellable header.gateways p.controller cs (peers header m.spelled) a.past a.fit good);
    }

heard : (header : Header) (p : Past) (e : Event) (g : List ℕ) (a : Option Answer) → Meets header p e → is_named header.gateways g ≡ true
    → next_answer g p.world ≡ a
    → After header p (by_event header.gateways p.controller (answer_event (peer_number g header.gateways) a))
    → Controls header p (by_event header.gateways p.controller (answer_event (peer_number g header.gateways) a))
heard header p e g None m k n a = none-done header p m.told
heard header p e g (Some x) m k n a =
    let f : ℕ = peer_number g header.gateways in
    let i = number-small header.gateways g k in
    let next : next_answer (peer_name header.gateways f) p.world ≡ Some x =
    ap (λ (z : List ℕ). next_answer z p.world) (name-number g header.gateways i) ∙ n in
    let s = m.told.lawful in
    controlled header p e (controller.Answers f x) m
    (next-plain header.gateways p.world p.controller f x s.lawful m.told.replied s.meet m.spelled.sound.named i next) a

noticed : (header : Header) (p : Past) (e : Event) (g : List ℕ) (t : Option Notice) → Meets header p e
    → After header p (by_event header.gateways p.controller (hears (peer_number g header.gateways) t))
    → Controls header p (by_event header.gateways p.controller (hears (peer_number g header.gateways) t))
noticed header p e g None m a = none-done header p m.told
noticed header p e g (Some t) m a = controlled header p e (controller.Notices (peer_number g header.gateways) t) m tt a

-- after an event of the controller
after-event : (header : Header) (p : Past) (e : Event) → Meets header p e → is_forged_event header p e ≡ false
    → gateway_acts (under_way header) header (took p.world) e ≡ [] → After header p (controller_acts header p e)
after-event header p e m f none =
    let k = event-of header e m.under in
    let s = step (under_way header) header p e m.spelled.sound k m.told.lawful f in
    let keeps = keep-block (under_way header) header p e m.spelled.sound k m.told.lawful m.told.sessions in
    record {
      past = s.stands.meet.past;
      fit = s.stands.meet.fit;
      keeps =
          subst
          (λ (z : List Act). KeepsSessions (after (took p.world) (z ++ all_told header.gateways (controller_acts header p e)))) none keeps;
    }

controls : (header : Header) (p : Past) (e : Event) → Meets header p e → Controls header p (controller_acts header p e)
controls header p (events.Open g) m =
    controlled header p (events.Open g) (controller.Opens (peer_number g header.gateways)) m tt
    (after-event header p (events.Open g) m refl refl)
controls header p (events.Cut g) m =
    controlled header p (events.Cut g) (controller.Cuts (peer_number g header.gateways)) m tt
    (after-event header p (events.Cut g) m refl refl)
controls header p (events.Up g) m =
    heard header p (events.Up g) g (next_answer g p.world) m m.under refl (after-event header p (events.Up g) m refl refl)
controls header p (events.Note g) m =
    noticed header p (events.Note g) g (next_notice g p.world) m (after-event header p (events.Note g) m refl refl)
controls header p (events.Policy g list) m =
    controlled header p (events.Policy g list) (controller.Told (commands.Policy g list)) m (m.under.1.fits, (m.under.1, m.typed))
    (after-event header p (events.Policy g list) m refl refl)
controls header p (events.Tunnel spec) m =
    controlled header p (events.Tunnel spec) (controller.Told (commands.Tunnel spec)) m (m.under.2, m.typed)
    (after-event header p (events.Tunnel spec) m refl refl)
controls header p (events.End reqid) m =
    controlled header p (events.End reqid) (controller.Told (commands.End reqid)) m (tt, tt)
    (after-event header p (events.End reqid) m refl refl)
controls header p (events.Rekey reqid) m =
    controlled header p (events.Rekey reqid) (controller.Told (commands.Rekey reqid)) m (tt, tt)
    (after-event header p (events.Rekey reqid) m refl refl)
controls header p (events.Keys key) m =
    controlled header p (events.Keys key) (controller.Told (commands.Keys key)) m (tt, m.typed)
    (after-event header p (events.Keys key) m refl refl)
controls header p e m = none-done header p m.told

-- ---- the block

ready : (header : Header) (p : Past) (e : Event) → Meets header p e → IsReady header (took p.world)
ready header p e m = record {
  sizes = m.sizes;
  addresses = addressed header m.spelled;
  last = m.spelled.sound.numbers;
  lawful = (m.told.lawful.ready, m.told.lawful.lawful);
  past = took-spelled header p m.told m.few;
  requests = λ g. let a = (m.told.few g).handled in let b = m.few in omega (arith, a, b);
}

pub block-spelled : (header : Header) (p : Past) (e : Event) → Meets header p e
    → AreSpelled header.gateways (block (under_way header) header p e)
block-spelled header p e m =
    let xs : List Act = gateway_acts (under_way header) header (took p.world) e in (
      (took-spelled header p m.told m.few).0,
      each-append (IsSpelled header.gateways) xs (all_told header.gateways (controller_acts header p e))
          (gateways-spelled header (took p.world) e (ready header p e m) m.under m.typed) (controls header p e m).spelled,
    )

-- one of the two does nothing
one-acts : (header : Header) (p : Past) (e : Event)
    → (gateway_acts (under_way header) header (took p.world) e ≡ []) ⊎ (controller_acts header p e ≡ [])
one-acts header p (events.Open g) = inl refl
one-acts header p (events.Cut g) = inl refl
one-acts header p (events.Up g) = inl refl
one-acts header p (events.Note g) = inl refl
one-acts header p (events.Policy g list) = inl refl
one-acts header p (events.Tunnel spec) = inl refl
one-acts header p (events.End reqid) = inl refl
one-acts header p (events.Rekey reqid) = inl refl
one-acts header p (events.Keys key) = inl refl
one-acts header p e = inr refl

few-joined : (ps : List Peer) (xs : List Act) (cs : List controller.ControllerAct) → AreFew xs → AreFew (all_told ps cs)
    → (xs ≡ []) ⊎ (cs ≡ []) → AreFew (xs ++ all_told ps cs)
few-joined ps xs cs a b (inl e) = subst (λ (z : List Act). AreFew (z ++ all_told ps cs)) (sym e) b
few-joined ps xs cs a b (inr e) =
    subst (λ (z : List controller.ControllerAct). AreFew (xs ++ all_told ps z)) (sym e) (subst AreFew (sym (append-nil xs)) a)

block-count : (header : Header) (p : Past) (e : Event) → Meets header p e
    → AreFew (gateway_acts (under_way header) header (took p.world) e ++ all_told header.gateways (controller_acts header p e))
block-count header p e m =
    few-joined header.gateways (gateway_acts (under_way header) header (took p.world) e) (controller_acts header p e)
    (gateway-few (under_way header) header (took p.world) e)
    (controls header p e m).few (one-acts header p e)

-- one more event is taken
pub block-takes : (header : Header) (p : Past) (e : Event) → Meets header p e
    → events_taken (past_after (under_way header) header p e).world ≡ events_taken p.world + 1
block-takes header p e m =
    taken-same (took p.world)
    (gateway_acts (under_way header) header (took p.world) e ++ all_told header.gateways (controller_acts header p e))
    (block-count header p e m).taken

pub told-after : (header : Header) (p : Past) (e : Event) → Meets header p e → is_forged_event header p e ≡ false
    → IsTold header (past_after (under_way header) header p e)
told-after header p e m f =
    let k = event-of header e m.under in
    let s = step (under_way header) header p e m.spelled.sound k m.told.lawful f in
    let keeps = keep-block (under_way header) header p e m.spelled.sound k m.told.lawful m.told.sessions in
    let more : List Act = gateway_acts (under_way header) header (took p.world) e ++ all_told header.gateways (controller_acts header p e)
    in
    let good = (controls header p e m).good in
    record {
      lawful = s.stands;
      sessions = keeps;
      replied = block-replied (under_way header) header p e m.told.replied;
      commands = good.sound;
      plain = good.plain;
      accepted = good.spelled;
      spelled = All-from_recursion (IsSpelled header.gateways) (after p.world (block (under_way header) header p e))
          (each-after (IsSpelled header.gateways) p.world (block (under_way header) header p e) (world-spelled header p m.told)
          (block-spelled header p e m));
      few = λ g. few-after keeps-before g (events_taken p.world + 1) p.world more (m.told.few g) (block-count header p e m) keeps;
    }

-- ---- at the start

pub told-nothing : (header : Header) → IsTold header nothing
told-nothing header = record {
  lawful = start header;
  sessions = tt;
  replied = tt;
  commands = tt;
  plain = tt;
  accepted = tt;
  spelled = All-from_recursion (IsSpelled header.gateways) [] tt;
  few = λ g. record { openings = omega arith; handled = omega arith; answered = omega arith; orders = omega arith };
}
