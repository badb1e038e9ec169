-- What a controller's node did is the history of what happened.
use Rattle.std.proofs.Common.{◌≡◌, ◌<◌, ℕ, true, List, [], ◌∷◌, ◌++◌, length, Option, Some, None, Result, Ok, Err, refl, sym, ap, subst, ◌∙◌, append-nil, append_assoc}
use Rattle.ikeless_tree.specs.declared.command.Command.{Command}
use Rattle.ikeless_tree.specs.declared.command.Peer.{Peer}
use Rattle.ikeless_tree.specs.declared.order.Answer.{Answer}
use Rattle.ikeless_tree.specs.declared.order.Order.{Order}
use Rattle.rc_http.specs.declared.message.HttpMessage.{HttpMessage}
use Rattle.rc_request.specs.declared.error.RcError.{RcError}
use Rattle.rc_answer.specs.Answers.{answer_of}
use Rattle.rc_operations.specs.Operations.{requested}
use Rattle.session_messages.specs.Whole.{if_good}
use Rattle.hist_acts.specs.Past.{after}
use Rattle.hist_controller.specs.Acts.{ControllerAct}
use Rattle.hist_controller.specs.Clauses.{IsControllerPast}
use Rattle.hist_controller.specs.Halves.{PlainAnswers}
use Rattle.hist_controller.specs.Law.{history}
use Rattle.ctl_core.specs.declared.acts.CtlAct.{CtlAct}
use Rattle.ctl_core.specs.declared.acts.CtlEvent.{CtlEvent}
use Rattle.ctl_core.specs.Core.{Core, expected, told_nothing}
use Rattle.ctl_core.specs.Step.{stepped}
use Rattle.ctl_law.specs.Stands.{StandsFor}
use Rattle.ctl_law.specs.Told.{MayAllBeTold, MayBeTold, events_of, may_answer, run, run_core}
use Rattle.live_controller.specs.Found.{AreFound, Devices, IsFound}
use Rattle.live_controller.specs.History.{did}
use Rattle.live_devices.specs.Reads.{Came, End, Piece, Unread, Waiting}
use Rattle.live_controller.specs.Past.{Accepted, Broken, Came_in, Dialled, Heard, Item, Line, Message, NoLine, NoResponse, Response, Told, acts_at, acts_by, answer_in, command_in, core_by, core_of, end_in, event_at, events_at, happened}
use Rattle.live_controller.specs.Standing.{answer_to}
use Rattle.live_controller.proofs.Standing.{stations-known}
use Rattle.live_controller.proofs.Statuses.{HaveStatuses, status-good}

-- ---- more events

core-more : (es fs : List CtlEvent) (c : Core) → run_core c (es ++ fs) ≡ run_core (run_core c es) fs
core-more [] fs c = refl
core-more (e ∷ es) fs c = core-more es fs (stepped c e).core

run-more : (es fs : List CtlEvent) (c : Core) → run c (es ++ fs) ≡ run c es ++ run (run_core c es) fs
run-more [] fs c = refl
run-more (e ∷ es) fs c =
    let k : Core = (stepped c e).core in
    ap (λ (z : List CtlAct). (stepped c e).acts ++ z) (run-more es fs k)
    ∙ sym (append_assoc (stepped c e).acts (run k es) (run (run_core k es) fs))

told-more : (es fs : List CtlEvent) (c : Core) → MayAllBeTold c es → MayAllBeTold (run_core c es) fs → MayAllBeTold c (es ++ fs)
told-more [] fs c p q = q
told-more (e ∷ es) fs c p q = (p.0, told-more es fs (stepped c e).core p.1 q)

-- ---- one thing more that came

one-core : (c : Core) (o : Option CtlEvent) → run_core c (events_at o) ≡ core_by c o
one-core c None = refl
one-core c (Some e) = refl

one-acts : (c : Core) (o : Option CtlEvent) → run c (events_at o) ≡ acts_by c o
one-acts c None = refl
one-acts c (Some e) = append-nil (stepped c e).acts

pub core-follows : (ps : List Peer) (past : List Item) → run_core (told_nothing ps) (happened ps past) ≡ core_of ps past
core-follows ps [] = refl
core-follows ps (x ∷ past) =
    let o : Option CtlEvent = event_at ps past x in
    core-more (happened ps past) (events_at o) (told_nothing ps) ∙ one-core (run_core (told_nothing ps) (happened ps past)) o
    ∙ ap (λ (c : Core). core_by c o) (core-follows ps past)

pub acts-follow : (ps : List Peer) (past : List Item) → run (told_nothing ps) (happened ps past) ≡ did ps past
acts-follow ps [] = refl
acts-follow ps (x ∷ past) =
    let o : Option CtlEvent = event_at ps past x in
    let c : Core = run_core (told_nothing ps) (happened ps past) in
    run-more (happened ps past) (events_at o) (told_nothing ps)
    ∙ ap (λ (z : List CtlAct). run (told_nothing ps) (happened ps past) ++ z)
    (one-acts c o ∙ ap (λ (k : Core). acts_by k o) (core-follows ps past)) ∙ ap (λ (z : List CtlAct). z ++ acts_at ps past x)
    (acts-follow ps past)

-- ---- what happens may be told

-- what happens by one thing, if anything does, may be told
abbrev IfTold : Core → Option CtlEvent → Type 0
IfTold c None = Unit {0}
IfTold c (Some e) = MayBeTold c e

one-told : (c : Core) (o : Option CtlEvent) → IfTold c o → MayAllBeTold c (events_at o)
one-told c None p = tt
one-told c (Some e) p = (p, tt)

command-told : (c : Core) (r : Result Command RcError) → IfTold c (command_in r)
command-told c (Ok command) = tt
command-told c (Err e) = tt

end-told : (c : Core) (g : ℕ) (came : Came) → g < length c.stations → IfTold c (end_in g came)
end-told c g Unread lt = tt
end-told c g Waiting lt = tt
end-told c g (Piece octets) lt = tt
end-told c g End lt = lt

good-told : HaveStatuses → (c : Core) (g : ℕ) → g < length c.stations → (o : Order) (m : HttpMessage) → expected c g ≡ Some o →
    (x : Option Answer)
    → x ≡ if_good (answer_of o m) → MayBeTold c (answer_in g x)
good-told law c g lt o m at None is = lt
good-told law c g lt o m at (Some a) is =
    let P : Option Order → Type 0 = λ z. may_answer z a.status ≡ true in (lt, subst P (sym at) (status-good law o m (Some a) is))

answer-told : HaveStatuses → (c : Core) (g : ℕ) → g < length c.stations → (o : Option Order) (m : HttpMessage) → expected c g ≡ o
    → MayBeTold c (answer_in g (answer_to o m))
answer-told law c g lt None m at = lt
answer-told law c g lt (Some o) m at = good-told law c g lt o m at (if_good (answer_of o m)) refl

item-told : HaveStatuses → (ps : List Peer) (start : Devices) (past : List Item) (x : Item) → length (core_of ps past).stations ≡ length ps
    → IsFound ps start past x → IfTold (core_of ps past) (event_at ps past x)
item-told law ps start past (Accepted is_taken) known f = tt
item-told law ps start past (Came_in came) known f = tt
item-told law ps start past (Message message size) known f = command-told (core_of ps past) (requested message)
item-told law ps start past (Broken fault) known f = tt
item-told law ps start past (Dialled g) known f = let P : ℕ → Type 0 = λ k. g < k in subst P (sym known) f.0
item-told law ps start past (Heard g came) known f =
    let P : ℕ → Type 0 = λ k. g < k in end-told (core_of ps past) g came (subst P (sym known) f.0)
item-told law ps start past (Response g message size) known f =
    let P : ℕ → Type 0 = λ k. g < k in
    answer-told law (core_of ps past) g (subst P (sym known) f.0) (expected (core_of ps past) g) message refl
item-told law ps start past (NoResponse g fault) known f = let P : ℕ → Type 0 = λ k. g < k in subst P (sym known) f.0
item-told law ps start past (Told g came) known f =
    let P : ℕ → Type 0 = λ k. g < k in end-told (core_of ps past) g came (subst P (sym known) f.0)
item-told law ps start past (Line g notice size) known f = let P : ℕ → Type 0 = λ k. g < k in subst P (sym known) f.0
item-told law ps start past (NoLine g fault) known f = let P : ℕ → Type 0 = λ k. g < k in subst P (sym known) f.0

-- what the law of runs says of the core
abbrev pub RunsStand : Type 0
RunsStand = (ps : List Peer) (h : List ControllerAct) (c : Core) (es : List CtlEvent) → IsControllerPast (length ps) h → PlainAnswers h →
    StandsFor ps h c
    → MayAllBeTold c es → StandsFor ps (after h (history ps h (events_of es))) (run_core c es)

abbrev pub Begins : Type 0
Begins = (ps : List Peer) → StandsFor ps [] (told_nothing ps)

known-after : Begins → RunsStand → (ps : List Peer) (past : List Item) → MayAllBeTold (told_nothing ps) (happened ps past)
    → length (core_of ps past).stations ≡ length ps
known-after begins runs ps past told =
    let es : List CtlEvent = happened ps past in
    sym (ap (λ (c : Core). length c.stations) (core-follows ps past))
    ∙ stations-known ps (after [] (history ps [] (events_of es))) (run_core (told_nothing ps) es)
    (runs ps [] (told_nothing ps) es tt tt (begins ps) told)

pub all-told : HaveStatuses → Begins → RunsStand → (ps : List Peer) (start : Devices) (past : List Item) → AreFound ps start past
    → MayAllBeTold (told_nothing ps) (happened ps past)
all-told law begins runs ps start [] f = tt
all-told law begins runs ps start (x ∷ past) f =
    let before = all-told law begins runs ps start past f.1 in
    let now = one-told (core_of ps past) (event_at ps past x)
    (item-told law ps start past x (known-after begins runs ps past before) f.0) in
    let P : Core → Type 0 = λ c. MayAllBeTold c (events_at (event_at ps past x)) in
    told-more (happened ps past) (events_at (event_at ps past x)) (told_nothing ps) before (subst P (sym (core-follows ps past)) now)
