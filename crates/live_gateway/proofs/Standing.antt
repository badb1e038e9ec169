-- What a gateway node stands at after something came.
use Rattle.std.proofs.Common.{◌≡◌, ◌≤◌, ℕ, Bool, true, false, List, [], ◌∷◌, Option, Some, None, refl, sym, ap, subst, ◌∙◌, append-nil, if◌then◌else◌}
use Rattle.ikl_base.specs.Outside.{HasRisen}
use Rattle.rc_http.specs.Feeding.{Feeding, HasRead, fresh}
use Rattle.rc_http.specs.Looks.{Looks, Waits}
use Rattle.rc_http.specs.declared.message.HttpFault.{HttpFault}
use Rattle.rc_http.specs.declared.message.HttpMessage.{HttpMessage}
use Rattle.rc_http.specs.declared.message.Kind.{Kind}
use Rattle.rc_http.specs.declared.message.Kind.TheVariants.{Request}
use Rattle.live_devices.specs.Comings.{found}
use Rattle.live_devices.specs.Docks.{DockHeld}
use Rattle.live_devices.specs.Wires.{WireHeld}
use Rattle.live_devices.specs.Reads.{Makes}
use Rattle.live_devices.proofs.Reading.{makes-as, makes-on}
use Rattle.gw_packets.specs.declared.done.Config.{Config}
use Rattle.gw_tables.specs.Kept.{Kept}
use Rattle.gw_requests.specs.declared.act.GwAct.{GwAct}
use Rattle.gw_core.specs.Machine.{Core, Event, Session_taken, stepped, with_kept}
use Rattle.live_messages.specs.Holds.{Holds, IsReading}
use Rattle.live_gateway.specs.Carried.{Devices, Does, after_all, dock_by, inside_by, outside_by, while_there}
use Rattle.live_gateway.specs.Past.{Accepted, Item, acts_at, acts_by, event_of, fault_of, is_there, kept_by, kept_of, messages_of, octets_of}
use Rattle.live_gateway.specs.Found.{IsFound, dock_at, dock_of, inside_at, inside_of, outside_at, outside_of, written_at}
use Rattle.live_gateway.specs.Stands.{IsHeld, IsReader, IsSession, Stood}
use Rattle.live_gateway.proofs.Making.{risen-back, risen-front}
use Rattle.live_gateway.proofs.Telling.{there_of}

-- ---- faults of reads and writes

pub calm-front : (a b c : ℕ) → b ≤ c → (HasRisen a c → ⊥) → HasRisen a b → ⊥
calm-front a b c later calm risen = calm (risen-front a b c later risen)

pub calm-back : (a b c : ℕ) → a ≤ b → (HasRisen a c → ⊥) → HasRisen b c → ⊥
calm-back a b c later calm risen = calm (risen-back a b c later risen)

-- ---- what is written

false-true : false ≡ true → ⊥
false-true e = let no : ⊥ = cc in no

by-there : (s : Option Feeding) (b : Bool) (f : DockHeld → DockHeld) (d : DockHeld) → there_of s ≡ b
    → while_there s f d ≡ (if b then f d else d)
by-there None true f d e = absurd (false-true e)
by-there None false f d e = refl
by-there (Some r) true f d e = refl
by-there (Some r) false f d e = absurd (false-true (sym e))

-- what is done at this event is written
abbrev pub Writing : Config → List Item → Item → Event → Option Feeding → Type 0
Writing c past x e s = (d : DockHeld)
    → while_there s (after_all (dock_by (stepped c e (kept_of c past)).kept.clock) (stepped c e (kept_of c past)).acts) d ≡ written_at c
    past x d

pub writing-is : (c : Config) (past : List Item) (x : Item) (e : Event) (s : Option Feeding) → event_of x ≡ Some e
    → there_of s ≡ is_there past
    → Writing c past x e s
writing-is c past x e s ev there d =
    let K : Kept = kept_of c past in
    let F : Option Event → DockHeld = λ o. if is_there past then after_all (dock_by (kept_by c o K).clock) (acts_by c o K) d else d in
    by-there s (is_there past) (after_all (dock_by (stepped c e K).kept.clock) (stepped c e K).acts) d there ∙ ap F (sym ev)

same-either : {T : Type 0} (b : Bool) (t : T) → (if b then t else t) ≡ t
same-either true t = refl
same-either false t = refl

pub nothing-written : (c : Config) (past : List Item) (x : Item) → event_of x ≡ None → (d : DockHeld) → d ≡ written_at c past x d
nothing-written c past x ev d =
    let K : Kept = kept_of c past in
    let F : Option Event → DockHeld = λ o. if is_there past then after_all (dock_by (kept_by c o K).clock) (acts_by c o K) d else d in
    sym (same-either (is_there past) d) ∙ ap F (sym ev)

-- nothing is done where a session is taken
pub taken-writes : (c : Config) (past : List Item) (s : Option Feeding) → Writing c past (Accepted true) Session_taken s
taken-writes c past None d = sym (same-either (is_there past) d)
taken-writes c past (Some r) d = sym (same-either (is_there past) d)

-- ---- one thing more

core-on : (c : Config) (past : List Item) (x : Item) (e : Event) (g g' : Core) → event_of x ≡ Some e
    → g ≡ record { config = c; kept = kept_of c past } → g' ≡ with_kept (stepped g.config e g.kept).kept g
    → g' ≡ record { config = c; kept = kept_of c (x ∷ past) }
core-on c past x e g g' ev core step =
    let P : Core → Type 0 = λ h. g' ≡ with_kept (stepped h.config e h.kept).kept h in
    let K : Option Event → Core = λ o. record { config = c; kept = kept_by c o (kept_of c past) } in
    subst P core step ∙ ap K (sym ev)

wire-on : (by : GwAct → WireHeld → WireHeld) (at of : WireHeld → WireHeld) (c : Config) (past : List Item) (x : Item) (e : Event) (g : Core)
    (a b d n : Option WireHeld) → event_of x ≡ Some e → g ≡ record { config = c; kept = kept_of c past } → Makes of a b → Makes at b d
    → Makes (after_all by (stepped g.config e g.kept).acts) d n → Makes (λ w. after_all by (acts_at c past x) (at (of w))) a n
wire-on by at of c past x e g a b d n ev core p q r =
    let P : Core → Type 0 = λ h. Makes (after_all by (stepped h.config e h.kept).acts) d n in
    let F : WireHeld → Option Event → WireHeld = λ w o. after_all by (acts_by c o (kept_of c past)) (at (of w)) in
    makes-as (λ w. F w (Some e)) (λ w. F w (event_of x)) a n (λ w. ap (F w) (sym ev))
    (makes-on (λ w. at (of w)) (after_all by (stepped c e (kept_of c past)).acts) a d n (makes-on of at a b d p q) (subst P core r))

dock-on : (of at : DockHeld → DockHeld) (c : Config) (past : List Item) (x : Item) (e : Event) (g : Core) (s : Option Feeding)
    (a b d n : Option DockHeld) → g ≡ record { config = c; kept = kept_of c past } → Writing c past x e s → Makes of a b → Makes at b d
    → Makes (while_there s (after_all (dock_by (stepped g.config e g.kept).kept.clock) (stepped g.config e g.kept).acts)) d n
    → Makes (λ w. written_at c past x (at (of w))) a n
dock-on of at c past x e g s a b d n core writing p q r =
    let P : Core → Type 0 =
    λ h. Makes (while_there s (after_all (dock_by (stepped h.config e h.kept).kept.clock) (stepped h.config e h.kept).acts)) d n in
    let f : DockHeld → DockHeld =
    while_there s (after_all (dock_by (stepped c e (kept_of c past)).kept.clock) (stepped c e (kept_of c past)).acts) in
    makes-as (λ w. f (at (of w))) (λ w. written_at c past x (at (of w))) a n (λ w. writing (at (of w)))
    (makes-on (λ w. at (of w)) f a d n (makes-on of at a b d p q) (subst P core r))

-- an event happens by what came
pub stood-event : (c : Config) (start old mid new : Devices) (past : List Item) (x : Item) (e : Event) (rest rest' : List ℕ) (g g' : Core)
    (s s1 s2 s' : Option Feeding) → event_of x ≡ Some e → Stood c start past rest old g s → Makes (inside_at x) old.inside mid.inside
    → Makes (outside_at x) old.outside mid.outside → Makes (dock_at x) old.dock mid.dock → Writing c past x e s1 → Does e g g' s1 s2 mid new
    → (HasRisen mid.faults new.faults → ⊥) → IsFound c start past x → IsSession s' rest' (x ∷ past)
    → Stood c start (x ∷ past) rest' new g' s'
stood-event c start old mid new past x e rest rest' g g' s s1 s2 s' ev before inside outside dock writing does calm found session = record {
  core = core-on c past x e g g' ev before.core does.core;
  inside = wire-on inside_by (inside_at x) (inside_of c past) c past x e g start.inside old.inside mid.inside new.inside ev before.core
      before.inside
      inside does.carries.inside;
  outside = wire-on outside_by (outside_at x) (outside_of c past) c past x e g start.outside old.outside mid.outside new.outside ev
      before.core
      before.outside outside does.carries.outside;
  dock = dock-on (dock_of c past) (dock_at x) c past x e g s1 start.dock old.dock mid.dock new.dock before.core writing before.dock dock
      (does.carries.wrote.wrote calm);
  calls = (found, before.calls);
  session = session;
}

-- ---- nothing happens by what came

wire-still : (by : GwAct → WireHeld → WireHeld) (at of : WireHeld → WireHeld) (c : Config) (past : List Item) (x : Item)
    (a b d : Option WireHeld)
    → event_of x ≡ None → Makes of a b → Makes at b d → Makes (λ w. after_all by (acts_at c past x) (at (of w))) a d
wire-still by at of c past x a b d ev p q =
    let F : WireHeld → Option Event → WireHeld = λ w o. after_all by (acts_by c o (kept_of c past)) (at (of w)) in
    makes-as (λ w. F w None) (λ w. F w (event_of x)) a d (λ w. ap (F w) (sym ev)) (makes-on of at a b d p q)

pub stood-quiet : (c : Config) (start old new : Devices) (past : List Item) (x : Item) (rest rest' : List ℕ) (g : Core)
    (s s' : Option Feeding)
    → event_of x ≡ None → Stood c start past rest old g s → Makes (inside_at x) old.inside new.inside
    → Makes (outside_at x) old.outside new.outside
    → Makes (dock_at x) old.dock new.dock → IsFound c start past x → IsSession s' rest' (x ∷ past) → Stood c start (x ∷ past) rest' new g s'
stood-quiet c start old new past x rest rest' g s s' ev before inside outside dock found session =
    let K : Option Event → Core = λ o. record { config = c; kept = kept_by c o (kept_of c past) } in
    record {
      core = before.core ∙ ap K (sym ev);
      inside = wire-still inside_by (inside_at x) (inside_of c past) c past x start.inside old.inside new.inside ev before.inside inside;
      outside = wire-still outside_by (outside_at x) (outside_of c past) c past x start.outside old.outside new.outside ev before.outside
          outside;
      dock = makes-as (λ w. dock_at x (dock_of c past w)) (λ w. written_at c past x (dock_at x (dock_of c past w))) start.dock new.dock
          (λ w. nothing-written c past x ev (dock_at x (dock_of c past w)))
          (makes-on (dock_of c past) (dock_at x) start.dock old.dock new.dock before.dock dock);
      calls = (found, before.calls);
      session = session;
    }

-- ---- the session

pub session-there : (s : Option Feeding) (rest : List ℕ) (past : List Item) → IsSession s rest past → there_of s ≡ is_there past
session-there None rest past p = sym p.0
session-there (Some r) rest past p = sym p.there

held-same : (past more : List Item) → octets_of more ≡ octets_of past → messages_of more ≡ messages_of past → fault_of more ≡ fault_of past
    → IsHeld past → IsHeld more
held-same past more o m f h =
    subst (λ (x : List ℕ). Holds Request x (messages_of more) (fault_of more)) (sym o)
    (subst (λ (x : List HttpMessage). Holds Request (octets_of past) x (fault_of more)) (sym m)
    (subst (λ (x : Option HttpFault). Holds Request (octets_of past) (messages_of past) x) (sym f) h))

-- what changes no word of the session leaves it as it is
pub session-same : (s : Option Feeding) (rest : List ℕ) (past more : List Item) → is_there more ≡ is_there past
    → octets_of more ≡ octets_of past
    → messages_of more ≡ messages_of past → fault_of more ≡ fault_of past → IsSession s rest past → IsSession s rest more
session-same None rest past more t o m f p = (t ∙ p.0, held-same past more o m f p.1)
session-same (Some r) rest past more t o m f p = record {
  there = t ∙ p.there;
  none = f ∙ p.none;
  kind = p.kind;
  fault = p.fault;
  fed = p.fed;
  octets = o ∙ p.octets;
  reads = subst (λ (x : List HttpMessage). HasRead r p.fed x) (sym m) p.reads;
}

waits-first : Looks Request [] Waits
unfolding Looks
waits-first = refl

-- a session that was just taken
pub session-taken : (past : List Item) → IsSession (Some (fresh Request)) [] (Accepted true ∷ past)
session-taken past = record { there = refl; none = refl; kind = refl; fault = refl; fed = []; octets = refl; reads = (refl, waits-first) }

-- its reader has read nothing
pub fresh-read : IsReading (fresh Request)
fresh-read = ([], [], (refl, waits-first))

-- none was ever taken
pub session-none : IsSession None [] []
session-none = (refl, waits-first)

-- what readers have read
abbrev pub ReadersHold : Type 0
ReadersHold = (f : Feeding) (octets : List ℕ) (messages : List HttpMessage) → HasRead f octets messages
    → Holds f.kind octets messages f.fault

reader-held : ReadersHold → (r : Feeding) (past : List Item) → IsReader r [] past → IsHeld past
reader-held law r past p =
    let all : octets_of past ≡ p.fed = p.octets ∙ append-nil p.fed in
    let h = law r p.fed (messages_of past) p.reads in
    subst (λ (o : List ℕ). Holds Request o (messages_of past) (fault_of past)) (sym all)
    (subst (λ (f : Option HttpFault). Holds Request p.fed (messages_of past) f) (p.fault ∙ sym p.none)
    (subst (λ (k : Kind). Holds k p.fed (messages_of past) r.fault) p.kind h))

-- all octets of a session were taken
pub session-held : ReadersHold → (s : Option Feeding) (past : List Item) → IsSession s [] past → IsHeld past
session-held law None past p = p.1
session-held law (Some r) past p = reader-held law r past p
