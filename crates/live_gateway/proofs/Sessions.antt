-- What comes to a gateway node goes on from what it stands at.
use Rattle.std.proofs.Common.{◌≡◌, ◌≤◌, ℕ, true, false, List, [], ◌∷◌, ◌++◌, length, take, drop, Option, Some, None, Err, refl, sym, ap, subst, ◌∙◌, arith, append-nil, append_assoc}
use Rattle.std.proofs.lemmas.List.{take-append-drop, take_all}
use Rattle.ikl_base.specs.Outside.{HasRisen}
use Rattle.rc_http.specs.Feeding.{Feeding, HasRead, fresh}
use Rattle.rc_http.specs.declared.message.HttpFault.{HttpFault}
use Rattle.rc_http.specs.declared.message.HttpMessage.{HttpMessage}
use Rattle.rc_http.specs.declared.message.Kind.{Kind}
use Rattle.rc_http.specs.declared.message.Kind.TheVariants.{Request}
use Rattle.rc_request.specs.Requests.{no_message, request_of}
use Rattle.live_devices.specs.Comings.{found}
use Rattle.live_devices.specs.Docks.{DockHeld, has_found, taken}
use Rattle.live_devices.specs.Wires.{WireHeld}
use Rattle.live_devices.specs.Reads.{End, Makes, Piece, Unread, Waiting, came_of}
use Rattle.live_devices.proofs.Reading.{read_dock}
use Rattle.gw_packets.specs.declared.done.Config.{Config}
use Rattle.gw_core.specs.Machine.{Arrive, Clock, Core, Handle, Let, Session_taken}
use Rattle.live_messages.specs.Holds.{Holds}
use Rattle.live_messages.specs.declared.feed.Brought.TheVariants as brought
use Rattle.live_gateway.specs.Carried.{Devices, Does}
use Rattle.live_gateway.specs.Causes.{Feeds}
use Rattle.live_gateway.specs.Past.{Accepted, Broken, Came_in, Inside, Item, Message, Outside, Seconds, is_there, messages_of, octets_of}
use Rattle.live_gateway.specs.Found.{IsTunnelled, cut, dock_of, inside_of, outside_of, received}
use Rattle.live_gateway.specs.Stands.{AreTaken, IsHeld, IsSession, Stands}
use Rattle.live_gateway.proofs.Making.{later-on, risen-back}
use Rattle.live_gateway.proofs.Standing.{ReadersHold, calm-back, calm-front, session-same, session-held, session-taken, session-there, taken-writes, stood-event, stood-quiet, writing-is}
use Rattle.live_gateway.proofs.Telling.{there_of}

-- ---- the clock

pub seconds-goes : (c : Config) (start old new : Devices) (past : List Item) (now : ℕ) (g g' : Core) (s s' : Option Feeding)
    → Stands c start past [] old g s → Does (Clock now) g g' s s' old new → Stands c start (Seconds now ∷ past) [] new g' s'
seconds-goes c start old new past now g g' s s' st does = record {
  later = later-on start.faults old.faults new.faults st.later does.carries.wrote.later;
  stood = λ calm.
      let before = st.stood (calm-front start.faults old.faults new.faults does.carries.wrote.later calm) in
      let quiet = calm-back start.faults old.faults new.faults st.later calm in
      let same : s' ≡ s = does.carries.wrote.kept quiet in
      stood-event c start old old new past (Seconds now) (Clock now) [] [] g g' s s s' s' refl before (λ w e. e) (λ w e. e) (λ d e. e)
      (writing-is c past (Seconds now) (Clock now) s refl (session-there s [] past before.session)) does quiet tt
      (subst (λ (z : Option Feeding). IsSession z [] (Seconds now ∷ past)) (sym same)
      (session-same s [] past (Seconds now ∷ past) refl refl refl refl before.session));
}

-- ---- the wires

abbrev pub with_inside : Option WireHeld → Devices → Devices
with_inside w d = record { inside = w; outside = d.outside; dock = d.dock; faults = d.faults }

abbrev pub with_outside : Option WireHeld → Devices → Devices
with_outside w d = record { inside = d.inside; outside = w; dock = d.dock; faults = d.faults }

abbrev pub with_dock : Option DockHeld → ℕ → Devices → Devices
with_dock held faults d = record { inside = d.inside; outside = d.outside; dock = held; faults = faults }

pub inside-goes : (c : Config) (start old new : Devices) (w : Option WireHeld) (past : List Item) (octets : List ℕ) (g g' : Core)
    (s s' : Option Feeding)
    → Stands c start past [] old g s → Makes received old.inside w
    → ((h : WireHeld) → old.inside ≡ Some h → Some octets ≡ cut (found h.coming))
    → Does (Let octets) g g' s s' (with_inside w old) new → Stands c start (Inside (Some octets) ∷ past) [] new g' s'
inside-goes c start old new w past octets g g' s s' st got is does = record {
  later = later-on start.faults old.faults new.faults st.later does.carries.wrote.later;
  stood = λ calm.
      let before = st.stood (calm-front start.faults old.faults new.faults does.carries.wrote.later calm) in
      let quiet = calm-back start.faults old.faults new.faults st.later calm in
      let same : s' ≡ s = does.carries.wrote.kept quiet in
      stood-event c start old (with_inside w old) new past (Inside (Some octets)) (Let octets) [] [] g g' s s s' s' refl before got
      (λ h e. e)
      (λ d e. e) (writing-is c past (Inside (Some octets)) (Let octets) s refl (session-there s [] past before.session)) does quiet
      (λ h e. is (inside_of c past h) (before.inside h e))
      (subst (λ (z : Option Feeding). IsSession z [] (Inside (Some octets) ∷ past)) (sym same)
      (session-same s [] past (Inside (Some octets) ∷ past) refl refl refl refl before.session));
}

pub inside-waits : (c : Config) (start old : Devices) (w : Option WireHeld) (past : List Item) (g : Core) (s : Option Feeding)
    → Stands c start past [] old g s → Makes received old.inside w → ((h : WireHeld) → old.inside ≡ Some h → None ≡ cut (found h.coming))
    → Stands c start (Inside None ∷ past) [] (with_inside w old) g s
inside-waits c start old w past g s st got is = record {
  later = st.later;
  stood = λ calm.
      let before = st.stood calm in
      stood-quiet c start old (with_inside w old) past (Inside None) [] [] g s s refl before got (λ h e. e) (λ d e. e)
      (λ h e. is (inside_of c past h) (before.inside h e))
      (session-same s [] past (Inside None ∷ past) refl refl refl refl before.session);
}

pub outside-goes : (c : Config) (start old new : Devices) (w : Option WireHeld) (past : List Item) (octets : List ℕ) (g g' : Core)
    (s s' : Option Feeding)
    → Stands c start past [] old g s → Makes received old.outside w
    → ((h : WireHeld) → old.outside ≡ Some h → Some octets ≡ cut (found h.coming))
    → Does (Arrive octets) g g' s s' (with_outside w old) new → Stands c start (Outside (Some octets) ∷ past) [] new g' s'
outside-goes c start old new w past octets g g' s s' st got is does = record {
  later = later-on start.faults old.faults new.faults st.later does.carries.wrote.later;
  stood = λ calm.
      let before = st.stood (calm-front start.faults old.faults new.faults does.carries.wrote.later calm) in
      let quiet = calm-back start.faults old.faults new.faults st.later calm in
      let same : s' ≡ s = does.carries.wrote.kept quiet in
      stood-event c start old (with_outside w old) new past (Outside (Some octets)) (Arrive octets) [] [] g g' s s s' s' refl before
      (λ h e. e) got
      (λ d e. e) (writing-is c past (Outside (Some octets)) (Arrive octets) s refl (session-there s [] past before.session)) does quiet
      (λ h e. is (outside_of c past h) (before.outside h e))
      (subst (λ (z : Option Feeding). IsSession z [] (Outside (Some octets) ∷ past)) (sym same)
      (session-same s [] past (Outside (Some octets) ∷ past) refl refl refl refl before.session));
}

pub outside-waits : (c : Config) (start old : Devices) (w : Option WireHeld) (past : List Item) (g : Core) (s : Option Feeding)
    → Stands c start past [] old g s → Makes received old.outside w → ((h : WireHeld) → old.outside ≡ Some h → None ≡ cut (found h.coming))
    → Stands c start (Outside None ∷ past) [] (with_outside w old) g s
outside-waits c start old w past g s st got is = record {
  later = st.later;
  stood = λ calm.
      let before = st.stood calm in
      stood-quiet c start old (with_outside w old) past (Outside None) [] [] g s s refl before (λ h e. e) got (λ d e. e)
      (λ h e. is (outside_of c past h) (before.outside h e))
      (session-same s [] past (Outside None ∷ past) refl refl refl refl before.session);
}

-- ---- accepts

abbrev pub taken_dock : DockHeld → DockHeld
taken_dock d = taken (found d.coming) d

pub accept-goes : (c : Config) (start old new : Devices) (held : Option DockHeld) (faults : ℕ) (past : List Item) (g g' : Core)
    (s r : Option Feeding)
    (s' : Option Feeding) → faults ≡ old.faults → r ≡ Some (fresh Request) → Stands c start past [] old g s → Makes taken_dock old.dock held
    → ((d : DockHeld) → old.dock ≡ Some d → true ≡ has_found (found d.coming))
    → Does Session_taken g g' r s' (with_dock held faults old) new → Stands c start (Accepted true ∷ past) [] new g' s'
accept-goes c start old new held faults past g g' s r s' count is-fresh st got is does =
    let on : old.faults ≤ new.faults = subst (λ (n : ℕ). n ≤ new.faults) count does.carries.wrote.later in
    record {
      later = later-on start.faults old.faults new.faults st.later on;
      stood = λ calm.
          let before = st.stood (calm-front start.faults old.faults new.faults on calm) in
          let quiet = calm-back start.faults old.faults new.faults st.later calm in
          let still : HasRisen faults new.faults → ⊥ = subst (λ (n : ℕ). HasRisen n new.faults → ⊥) (sym count) quiet in
          let same : s' ≡ Some (fresh Request) = does.carries.wrote.kept still ∙ is-fresh in
          stood-event c start old (with_dock held faults old) new past (Accepted true) Session_taken [] [] g g' s r s' s' refl before
          (λ h e. e) (λ h e. e) got (taken-writes c past r) does still
          (λ d e. is (dock_of c past d) (before.dock d e))
          (subst (λ (z : Option Feeding). IsSession z [] (Accepted true ∷ past)) (sym same) (session-taken past));
    }

pub accept-waits : (c : Config) (start old : Devices) (held : Option DockHeld) (faults : ℕ) (past : List Item) (g : Core)
    (s : Option Feeding)
    → faults ≡ old.faults → Stands c start past [] old g s → Makes taken_dock old.dock held
    → ((d : DockHeld) → old.dock ≡ Some d → false ≡ has_found (found d.coming))
    → Stands c start (Accepted false ∷ past) [] (with_dock held faults old) g s
accept-waits c start old held faults past g s count st got is = record {
  later = subst (λ (n : ℕ). start.faults ≤ n) (sym count) st.later;
  stood = λ calm.
      let before = st.stood (subst (λ (n : ℕ). HasRisen start.faults n → ⊥) count calm) in
      stood-quiet c start old (with_dock held faults old) past (Accepted false) [] [] g s s refl before (λ h e. e) (λ h e. e) got
      (λ d e. is (dock_of c past d) (before.dock d e))
      (session-same s [] past (Accepted false ∷ past) refl refl refl refl before.session);
}

-- ---- reads

-- no session is there
pub unread-goes : (c : Config) (start old : Devices) (past : List Item) (g : Core) (s : Option Feeding) → s ≡ None
    → Stands c start past [] old g s
    → Stands c start (Came_in Unread ∷ past) [] old g s
unread-goes c start old past g s none st = record {
  later = st.later;
  stood = λ calm.
      let before = st.stood calm in
      let gone : is_there past ≡ false = sym (session-there s [] past before.session) ∙ ap there_of none in
      stood-quiet c start old old past (Came_in Unread) [] [] g s s refl before (λ h e. e) (λ h e. e) (λ d e. e) gone
      (session-same s [] past (Came_in Unread ∷ past) refl refl refl refl before.session);
}

-- the session that is there was read, and nothing waited
pub waiting-goes : (c : Config) (start old : Devices) (held : Option DockHeld) (faults : ℕ) (past : List Item) (g : Core)
    (s : Option Feeding)
    → faults ≡ old.faults → there_of s ≡ true → Stands c start past [] old g s → Makes read_dock old.dock held
    → ((d : DockHeld) → old.dock ≡ Some d → Waiting ≡ came_of d.session)
    → Stands c start (Came_in Waiting ∷ past) [] (with_dock held faults old) g s
waiting-goes c start old held faults past g s count there st got is = record {
  later = subst (λ (n : ℕ). start.faults ≤ n) (sym count) st.later;
  stood = λ calm.
      let before = st.stood (subst (λ (n : ℕ). HasRisen start.faults n → ⊥) count calm) in
      stood-quiet c start old (with_dock held faults old) past (Came_in Waiting) [] [] g s s refl before (λ h e. e) (λ h e. e) got
      (sym (session-there s [] past before.session) ∙ there, λ d e. is (dock_of c past d) (before.dock d e))
      (session-same s [] past (Came_in Waiting ∷ past) refl refl refl refl before.session);
}

-- it has ended
pub end-goes : ReadersHold → (c : Config) (start old : Devices) (held : Option DockHeld) (faults : ℕ) (past : List Item) (g : Core)
    (s s' : Option Feeding)
    → faults ≡ old.faults → there_of s ≡ true → s' ≡ None → Stands c start past [] old g s → Makes read_dock old.dock held
    → ((d : DockHeld) → old.dock ≡ Some d → End ≡ came_of d.session)
    → Stands c start (Came_in End ∷ past) [] (with_dock held faults old) g s'
end-goes law c start old held faults past g s s' count there none st got is = record {
  later = subst (λ (n : ℕ). start.faults ≤ n) (sym count) st.later;
  stood = λ calm.
      let before = st.stood (subst (λ (n : ℕ). HasRisen start.faults n → ⊥) count calm) in
      stood-quiet c start old (with_dock held faults old) past (Came_in End) [] [] g s s' refl before (λ h e. e) (λ h e. e) got
      (sym (session-there s [] past before.session) ∙ there, λ d e. is (dock_of c past d) (before.dock d e))
      (subst (λ (z : Option Feeding). IsSession z [] (Came_in End ∷ past)) (sym none) (refl, session-held law s past before.session));
}

-- octets came
session-piece : (s : Option Feeding) (past : List Item) (octets : List ℕ) → there_of s ≡ true → IsSession s [] past
    → IsSession s octets (Came_in (Piece octets) ∷ past)
session-piece None past octets there p = let no : ⊥ = cc in absurd no
session-piece (Some r) past octets there p = record {
  there = p.there;
  none = p.none;
  kind = p.kind;
  fault = p.fault;
  fed = p.fed;
  octets = ap (λ (o : List ℕ). o ++ octets) (p.octets ∙ append-nil p.fed);
  reads = p.reads;
}

pub piece-goes : (c : Config) (start old : Devices) (held : Option DockHeld) (faults : ℕ) (past : List Item) (octets : List ℕ) (g : Core)
    (s : Option Feeding)
    → faults ≡ old.faults → there_of s ≡ true → Stands c start past [] old g s → Makes read_dock old.dock held
    → ((d : DockHeld) → old.dock ≡ Some d → Piece octets ≡ came_of d.session)
    → Stands c start (Came_in (Piece octets) ∷ past) octets (with_dock held faults old) g s
piece-goes c start old held faults past octets g s count there st got is = record {
  later = subst (λ (n : ℕ). start.faults ≤ n) (sym count) st.later;
  stood = λ calm.
      let before = st.stood (subst (λ (n : ℕ). HasRisen start.faults n → ⊥) count calm) in
      stood-quiet c start old (with_dock held faults old) past (Came_in (Piece octets)) [] octets g s s refl before (λ h e. e) (λ h e. e)
      got
      (sym (session-there s [] past before.session) ∙ there, λ d e. is (dock_of c past d) (before.dock d e))
      (session-piece s past octets there before.session);
}

-- a read or a write failed
pub failed-goes : (c : Config) (start old new : Devices) (past past' : List Item) (rest rest' : List ℕ) (g g' : Core)
    (s s' : Option Feeding)
    → old.faults ≤ new.faults → HasRisen old.faults new.faults → Stands c start past rest old g s → Stands c start past' rest' new g' s'
failed-goes c start old new past past' rest rest' g g' s s' on risen st = record {
  later = later-on start.faults old.faults new.faults st.later on;
  stood = λ calm. absurd (calm (risen-back start.faults old.faults new.faults st.later risen));
}

-- ---- messages

all-of : (octets : List ℕ) → drop (length octets) octets ≡ []
all-of [] = refl
all-of (x ∷ xs) = all-of xs

cut-at : (octets fed rest : List ℕ) (n : ℕ) → octets ≡ fed ++ rest → octets ≡ (fed ++ take n rest) ++ drop n rest
cut-at octets fed rest n e = e ∙ ap (λ (o : List ℕ). fed ++ o) (sym (take-append-drop n rest))
    ∙ sym (append_assoc fed (take n rest) (drop n rest))

-- no message is whole
session-nothing : (s t : Option Feeding) (rest : List ℕ) (past : List Item) → Feeds s t rest brought.Nothing → IsSession s rest past
    → IsSession t (drop (length rest) rest) past
session-nothing None t rest past f p = subst (λ (z : Option Feeding). IsSession z (drop (length rest) rest) past) (sym f.0) p
session-nothing (Some r) None rest past f p = absurd f
session-nothing (Some r) (Some q) rest past f p = record {
  there = p.there;
  none = p.none;
  kind = f.kind ∙ p.kind;
  fault = f.fault;
  fed = p.fed ++ take (length rest) rest;
  octets = cut-at (octets_of past) p.fed rest (length rest) p.octets;
  reads = subst (λ (ms : List HttpMessage). HasRead q (p.fed ++ take (length rest) rest) ms) (append-nil (messages_of past))
      (f.reads p.fed (messages_of past) p.reads);
}

pub nothing-goes : (c : Config) (start now : Devices) (past : List Item) (rest : List ℕ) (g : Core) (s t : Option Feeding)
    → Feeds s t rest brought.Nothing → Stands c start past rest now g s → Stands c start past (drop (length rest) rest) now g t
nothing-goes c start now past rest g s t f st = record {
  later = st.later;
  stood = λ calm.
      let before = st.stood calm in
      record {
        core = before.core;
        inside = before.inside;
        outside = before.outside;
        dock = before.dock;
        calls = before.calls;
        session = session-nothing s t rest past f before.session;
      };
}

-- a session is there where a message comes
there-fed : (s t : Option Feeding) (rest : List ℕ) (m : HttpMessage) (n : ℕ) → Feeds s t rest (brought.Message m n)
    → there_of t ≡ there_of s
there-fed None t rest m n f = let no : ⊥ = cc (f.1) in absurd no
there-fed (Some r) None rest m n f = absurd f
there-fed (Some r) (Some q) rest m n f = refl

session-message : (s t : Option Feeding) (rest : List ℕ) (past : List Item) (m : HttpMessage) (n : ℕ) → Feeds s t rest (brought.Message m n)
    → IsSession s rest past → IsSession t (drop n rest) (Message m ∷ past)
session-message None t rest past m n f p = let no : ⊥ = cc (f.1) in absurd no
session-message (Some r) None rest past m n f p = absurd f
session-message (Some r) (Some q) rest past m n f p = record {
  there = p.there;
  none = p.none;
  kind = f.kind ∙ p.kind;
  fault = f.fault;
  fed = p.fed ++ take n rest;
  octets = cut-at (octets_of past) p.fed rest n p.octets;
  reads = f.reads p.fed (messages_of past) p.reads;
}

pub message-goes : (c : Config) (start old new : Devices) (past : List Item) (rest : List ℕ) (m : HttpMessage) (n : ℕ) (g g' : Core)
    (s t s' : Option Feeding)
    → Feeds s t rest (brought.Message m n) → IsTunnelled (request_of m) → Stands c start past rest old g s
    → Does (Handle (request_of m)) g g' t s' old new → Stands c start (Message m ∷ past) (drop n rest) new g' s'
message-goes c start old new past rest m n g g' s t s' f tunnel st does = record {
  later = later-on start.faults old.faults new.faults st.later does.carries.wrote.later;
  stood = λ calm.
      let before = st.stood (calm-front start.faults old.faults new.faults does.carries.wrote.later calm) in
      let quiet = calm-back start.faults old.faults new.faults st.later calm in
      let same : s' ≡ t = does.carries.wrote.kept quiet in
      stood-event c start old old new past (Message m) (Handle (request_of m)) rest (drop n rest) g g' s t s' s' refl before (λ w e. e)
      (λ w e. e)
      (λ d e. e)
      (writing-is c past (Message m) (Handle (request_of m)) t refl (there-fed s t rest m n f ∙ session-there s rest past before.session))
      does quiet tunnel
      (subst (λ (z : Option Feeding). IsSession z (drop n rest) (Message m ∷ past)) (sym same)
      (session-message s t rest past m n f before.session));
}

-- ---- a fault

there-broken : (s t : Option Feeding) (rest : List ℕ) (fault : HttpFault) → Feeds s t rest (brought.Fault fault) → there_of t ≡ there_of s
there-broken None t rest fault f = let no : ⊥ = cc (f.1) in absurd no
there-broken (Some r) None rest fault f = absurd f
there-broken (Some r) (Some q) rest fault f = refl

all-fed : (fed rest octets : List ℕ) → octets ≡ fed ++ rest → fed ++ take (length rest) rest ≡ octets
all-fed fed rest octets e = ap (λ (o : List ℕ). fed ++ o) (take_all (length rest) rest (omega arith)) ∙ sym e

held-broken : ReadersHold → (s t : Option Feeding) (rest : List ℕ) (past : List Item) (fault : HttpFault)
    → Feeds s t rest (brought.Fault fault)
    → IsSession s rest past → IsHeld (Broken fault ∷ past)
held-broken law None t rest past fault f p = let no : ⊥ = cc (f.1) in absurd no
held-broken law (Some r) None rest past fault f p = absurd f
held-broken law (Some r) (Some q) rest past fault f p =
    let h = law q (p.fed ++ take (length rest) rest) (messages_of past ++ []) (f.reads p.fed (messages_of past) p.reads) in
    subst (λ (o : List ℕ). Holds Request o (messages_of past) (Some fault)) (all-fed p.fed rest (octets_of past) p.octets)
    (subst (λ (ms : List HttpMessage). Holds Request (p.fed ++ take (length rest) rest) ms (Some fault)) (append-nil (messages_of past))
    (subst (λ (x : Option HttpFault). Holds Request (p.fed ++ take (length rest) rest) (messages_of past ++ []) x) f.fault
    (subst (λ (k : Kind). Holds k (p.fed ++ take (length rest) rest) (messages_of past ++ []) q.fault) (f.kind ∙ p.kind) h)))

pub broken-goes : ReadersHold → (c : Config) (start old new : Devices) (past : List Item) (rest rest' : List ℕ) (fault : HttpFault)
    (g g' : Core)
    (s t u s' : Option Feeding) → Feeds s t rest (brought.Fault fault) → s' ≡ None → Stands c start past rest old g s
    → Does (Handle (Err (no_message fault))) g g' t u old new → Stands c start (Broken fault ∷ past) rest' new g' s'
broken-goes law c start old new past rest rest' fault g g' s t u s' f none st does = record {
  later = later-on start.faults old.faults new.faults st.later does.carries.wrote.later;
  stood = λ calm.
      let before = st.stood (calm-front start.faults old.faults new.faults does.carries.wrote.later calm) in
      let quiet = calm-back start.faults old.faults new.faults st.later calm in
      stood-event c start old old new past (Broken fault) (Handle (Err (no_message fault))) rest rest' g g' s t u s' refl before (λ w e. e)
      (λ w e. e)
      (λ d e. e)
      (writing-is c past (Broken fault) (Handle (Err (no_message fault))) t refl
      (there-broken s t rest fault f ∙ session-there s rest past before.session)) does quiet tt
      (subst (λ (z : Option Feeding). IsSession z rest' (Broken fault ∷ past)) (sym none)
      (refl, held-broken law s t rest past fault f before.session));
}

-- ---- messages and faults alone

pub taken-on : (xs ys : List Item) → AreTaken xs → AreTaken ys → AreTaken (xs ++ ys)
taken-on [] ys p q = q
taken-on (Message m ∷ xs) ys p q = taken-on xs ys p q
taken-on (Broken f ∷ xs) ys p q = taken-on xs ys p q
taken-on (Seconds n ∷ xs) ys p q = absurd p
taken-on (Inside d ∷ xs) ys p q = absurd p
taken-on (Outside d ∷ xs) ys p q = absurd p
taken-on (Accepted t ∷ xs) ys p q = absurd p
taken-on (Came_in d ∷ xs) ys p q = absurd p

-- ---- a piece, message by message

-- what is taken of it, whatever came before
abbrev pub Takes : Config → Devices → List Item → List ℕ → Devices → Core → Option Feeding → Type 0
Takes c start past rest now g s = (more : List Item) × AreTaken more × Stands c start (more ++ past) rest now g s

pub pieces-on : (c : Config) (start mid now : Devices) (past : List Item) (rest rest' : List ℕ) (g g' : Core) (s s' : Option Feeding)
    → Takes c start past rest mid g s → ((earlier : List Item) → Stands c start earlier rest mid g s
    → Takes c start earlier rest' now g' s')
    → Takes c start past rest' now g' s'
pieces-on c start mid now past rest rest' g g' s s' first step =
    let second = step (first.0 ++ past) first.2 in (
      second.0 ++ first.0,
      taken-on second.0 first.0 second.1 first.1,
      subst (λ (x : List Item). Stands c start x rest' now g' s') (sym (append_assoc second.0 first.0 past)) second.2,
    )

pub rest-is : (c : Config) (start now : Devices) (past : List Item) (rest rest' : List ℕ) (g : Core) (s : Option Feeding) → rest ≡ rest'
    → Takes c start past rest now g s → Takes c start past rest' now g s
rest-is c start now past rest rest' g s e t = (t.0, t.1, subst (λ (r : List ℕ). Stands c start (t.0 ++ past) r now g s) e t.2)
