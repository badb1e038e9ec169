-- What the next octets of a stream bring.
use Rattle.std.proofs.Common.{◌≡◌, ◌+◌, ◌<◌, ◌++◌, nat_le, ℕ, zero, suc, Bool, true, false, List, [], length, take, Option, Some, None, Result, Ok, Err, refl, sym, ◌∙◌, subst, arith, if◌then◌else◌}
use Rattle.std.proofs.lemmas.Grind.{common_steps}
use Rattle.ikeless_tree.specs.declared.order.Notice.{Notice}
use Rattle.ikl_base.specs.declared.fault.OrMemory.{OrMemory}
use Rattle.ikl_base.specs.declared.fault.OrMemory.TheVariants as failures
use Rattle.rc_http.specs.declared.feeder.Fed.TheVariants.{NoneYet, Whole}
use Rattle.rc_http.specs.declared.message.HttpFault.{HttpFault}
use Rattle.rc_http.specs.declared.message.HttpMessage.{HttpMessage}
use Rattle.rc_http.specs.declared.message.Kind.{Kind}
use Rattle.rc_http.specs.Feeding.{fresh, Feeding, FeedGives, IsSince, IsSinceBy}
use Rattle.rc_http.specs.Looks.{Fails, Gives, Looked, Looks, Waits}
use Rattle.rc_http.proofs.LookLemmas.{looks_unique}
use Rattle.rc_http.proofs.StreamLemmas.{front_gives, gives_waits}
use Rattle.notice_lines.specs.declared.reader.Heard.TheVariants as heard
use Rattle.notice_lines.specs.Reading as lines
use Rattle.notice_lines.specs.declared.fault.NoticeFault.{NoticeFault}
use Rattle.notice_lines.specs.declared.reader.Heard.{Heard}
use Rattle.notice_lines.specs.Reading.{Ends, GivesNext, Hears, Long, Open, Reading, begins, begins_by, kept_only, line_end}
use Rattle.notice_lines.proofs.Cuts.{ends_parts}
use Rattle.notice_lines.proofs.Ends.{end_none, end_some}
use Rattle.live_controller.specs.declared.messages.Brought.TheVariants as brought
use Rattle.live_controller.specs.declared.notices.Noted.TheVariants as noted
use Rattle.live_controller.specs.Streams.{Brings, IsPart, IsWaiting, Notes}

-- ---- messages

pub none_waits : (kind : Kind) → Looks kind [] Waits
unfolding Looks
none_waits kind = refl

pub fresh_waits : (kind : Kind) (f : Feeding) → f ≡ fresh kind → IsWaiting kind f
fresh_waits kind f e = let P : Feeding → Type 0 = λ x. IsWaiting kind x in subst P (sym e)
    (record { kind = refl; fault = refl; waits = none_waits kind })

since_by : (kind : Kind) (octets : List ℕ) (fault : Option HttpFault) → fault ≡ None → Looks kind octets Waits → IsSinceBy kind octets fault
    octets
since_by kind octets fault none waits =
    let P : Option HttpFault → Type 0 = λ o. IsSinceBy kind octets o octets in subst P (sym none) (refl, waits)

-- a reader whose octets wait was fed them since the last message
pub since_waits : (kind : Kind) (f : Feeding) → IsWaiting kind f → IsSince f f.octets
since_waits kind f w =
    let P : Kind → Type 0 = λ k. Looks k f.octets Waits in
    since_by f.kind f.octets f.fault w.fault (subst P (sym w.kind) w.waits)

record Kept (octets : List ℕ) (fault : Option HttpFault) (since : List ℕ) : Type 0 where
  pub none : fault ≡ None
  pub are : octets ≡ since

kept_by : (kind : Kind) (octets : List ℕ) (fault : Option HttpFault) (since : List ℕ) → IsSinceBy kind octets fault since → Looks kind since
    Waits
    → Kept octets fault since
kept_by kind octets None since s w = record { none = refl; are = sym s.0 }
kept_by kind octets (Some fault) since s w =
    let both : Waits ≡ Fails fault = looks_unique kind since Waits (Fails fault) w s in
    absurd (let no : ⊥ = cc in no)

-- what is fed to a reader of this kind
fed_as : (kind : Kind) (f : Feeding) (octets : List ℕ) (looked : Looked) → f.kind ≡ kind → Looks f.kind octets looked → Looks kind octets
    looked
fed_as kind f octets looked is looks = let P : Kind → Type 0 = λ k. Looks k octets looked in subst P is looks

pub record Fed_none (kind : Kind) (f after : Feeding) (piece : List ℕ) : Type 0 where
  pub waiting : IsWaiting kind after
  pub brings : Brings kind f.octets after.octets piece brought.NoneYet

pub none_fed : (kind : Kind) (f after : Feeding) (piece : List ℕ) → IsWaiting kind f → after.kind ≡ f.kind
    → FeedGives f.kind f.octets piece after (Ok NoneYet) → Fed_none kind f after piece
none_fed kind f after piece w same gives =
    let looks : Looks kind (f.octets ++ piece) Waits = fed_as kind f (f.octets ++ piece) Waits w.kind gives.0 in
    let is : after.kind ≡ kind = same ∙ w.kind in
    let K : Kind → Type 0 = λ k. Looks k (f.octets ++ piece) Waits in
    let kept = kept_by after.kind after.octets after.fault (f.octets ++ piece) gives.1 (subst K (sym is) looks) in
    let P : List ℕ → Type 0 = λ o. Looks kind o Waits in
    record {
      waiting = record { kind = is; fault = kept.none; waits = subst P (sym kept.are) looks };
      brings = (looks, kept.are);
    }

-- a message isn't whole before its last octet
taken_some : (kind : Kind) (since piece : List ℕ) (m : HttpMessage) (taken : ℕ) → Looks kind since Waits
    → Looks kind (since ++ piece) (Gives m (length since + taken)) → 0 < taken
taken_some kind since piece m zero waits gives =
    let all : length since + 0 ≡ length since = omega arith in
    let front : take (length since + 0) (since ++ piece) ≡ since = grind (arith, common_steps) in
    let P : List ℕ → Type 0 = λ o. Looks kind o (Gives m (length since + 0)) in
    let early : Looks kind since (Gives m (length since + 0)) = subst P front (front_gives kind (since ++ piece) m (length since + 0) gives)
    in
    absurd (gives_waits m (length since + 0) (looks_unique kind since (Gives m (length since + 0)) Waits early waits))
taken_some kind since piece m (suc n) waits gives = omega arith

pub record Fed_whole (kind : Kind) (f after : Feeding) (piece : List ℕ) (m : HttpMessage) (taken : ℕ) : Type 0 where
  pub waiting : IsWaiting kind after
  pub brings : Brings kind f.octets after.octets piece (brought.Whole m taken)

pub whole_fed : (kind : Kind) (f after : Feeding) (piece : List ℕ) (m : HttpMessage) (taken : ℕ) → IsWaiting kind f
    → FeedGives f.kind f.octets piece after (Ok (Whole m taken)) → Fed_whole kind f after piece m taken
whole_fed kind f after piece m taken w gives =
    let looks : Looks kind (f.octets ++ piece) (Gives m (length f.octets + taken)) =
    fed_as kind f (f.octets ++ piece) (Gives m (length f.octets + taken)) w.kind gives.1 in
    let K : Kind → Type 0 = λ k. after ≡ fresh k in
    let is : after ≡ fresh kind = subst K w.kind gives.2 in
    let P : Feeding → Type 0 = λ x. x.octets ≡ [] in
    record {
      waiting = fresh_waits kind after is;
      brings = (
        record { whole = looks; some = taken_some kind f.octets piece m taken w.waits looks; within = gives.0 },
        subst P (sym is) refl,
      );
    }

pub broken_fed : (kind : Kind) (f after : Feeding) (piece : List ℕ) (fault : HttpFault) → IsWaiting kind f
    → FeedGives f.kind f.octets piece after (Err (failures.Refused fault)) → Looks kind (f.octets ++ piece) (Fails fault)
broken_fed kind f after piece fault w gives = fed_as kind f (f.octets ++ piece) (Fails fault) w.kind gives.0

-- ---- notices

choice_open : (b : Bool) (n : ℕ) → (if b then Ends n else Long) ≡ Open → ⊥
choice_open true n e = let no : ⊥ = cc in no
choice_open false n e = let no : ⊥ = cc in no

open_by : (o : Option ℕ) (size : ℕ) → begins_by o size ≡ Open → o ≡ None
open_by None size e = refl
open_by (Some n) size e = absurd (choice_open (nat_le n 4096) n e)

open_none : (octets : List ℕ) → begins octets ≡ Open → line_end octets ≡ None
unfolding begins
open_none octets e = open_by (line_end octets) (length octets) e

pub none_open : begins [] ≡ Open
unfolding begins
none_open = refl

line_some : (kept piece : List ℕ) (size taken : ℕ) (o : Option ℕ) → line_end piece ≡ o → line_end kept ≡ None → line_end (kept ++ piece) ≡
    Some size
    → length kept + taken ≡ size + 1 → 0 < taken
line_some kept piece size taken None is unended ends count =
    let none = end_none kept piece unended is in
    absurd (let no : ⊥ = cc in no)
line_some kept piece size taken (Some n) is unended ends count =
    let there = end_some kept piece n unended is in
    let both : Some (length kept + n) ≡ Some size = sym there ∙ ends in
    let same : length kept + n ≡ size = cc in
    omega (arith, same, count)

pub record Heard_none (old new : Reading) (piece : List ℕ) : Type 0 where
  pub part : IsPart new
  pub notes : Notes old.kept new.kept piece noted.NoneYet

pub none_heard : (old new : Reading) (piece : List ℕ) → GivesNext old new piece (Ok heard.NoneYet) → Heard_none old new piece
none_heard old new piece gives =
    let P : Reading → Type 0 = λ r. Heard_none old r piece in
    subst P (sym gives.1) (record { part = record { fault = refl; unended = gives.0 }; notes = (gives.0, refl) })

pub record Heard_line (old new : Reading) (piece : List ℕ) (n : Notice) (taken : ℕ) : Type 0 where
  pub part : IsPart new
  pub notes : Notes old.kept new.kept piece (noted.Line n taken)

pub line_heard : (old new : Reading) (piece : List ℕ) (n : Notice) (taken : ℕ) → IsPart old → GivesNext old new piece
    (Ok (heard.Line n taken))
    → Heard_line old new piece n taken
line_heard old new piece n taken part gives =
    let hears : Hears old piece n taken = gives.0 in
    let ends = (ends_parts (old.kept ++ piece) hears.size hears.ends).0 in
    let some : 0 < taken = line_some old.kept piece hears.size taken (line_end piece) refl (open_none old.kept part.unended) ends
    hears.count in
    let P : Reading → Type 0 = λ r. Heard_line old r piece n taken in
    subst P (sym gives.1) (record {
      part = record { fault = refl; unended = none_open };
      notes = (
        record { size = hears.size; ends = hears.ends; has = hears.has; count = hears.count; some = some; within = hears.within },
        refl,
      );
    })

pub part_begun : (r : Reading) → r ≡ kept_only [] → IsPart r
part_begun r new = let P : Reading → Type 0 = λ x. IsPart x in subst P (sym new) (record { fault = refl; unended = none_open })

-- a reader that gave no fault goes on
pub gives_next : (o : Option NoticeFault) (old new : Reading) (piece : List ℕ) (r : Result Heard (OrMemory NoticeFault)) → o ≡ None
    → lines.FeedGives o old new piece r → GivesNext old new piece r
gives_next None old new piece r none gives = gives
gives_next (Some fault) old new piece r none gives = absurd (let no : ⊥ = cc in no)
