-- What calls of a dock tell, and what is replied to a request.
use Rattle.std.proofs.Common.{◌≡◌, ◌⊎◌, inl, inr, ℕ, ◌≤◌, Bool, true, false, List, Option, Result, Ok, Err, OnOk, refl, sym, ap, subst, ◌∙◌, arith}
use Rattle.std.specs.Prelude.{IfSome}
use Rattle.ikl_base.specs.Outside.{HasCause, HasRisen, TellsOutcome}
use Rattle.ikeless_tree.specs.declared.command.Command.{Command}
use Rattle.ikeless_tree.specs.declared.command.Refusal.{Refusal}
use Rattle.rc_request.specs.declared.error.RcError.{RcError}
use Rattle.rc_operations.specs.Replies.{command_response, error_response}
use Rattle.live_devices.specs.Dialers.{PeerHeld}
use Rattle.live_devices.specs.Docks.{DockHeld}
use Rattle.live_devices.specs.Reads.{Makes, with_reply}
use Rattle.ctl_core.specs.declared.acts.CtlEvent.TheVariants as events
use Rattle.ctl_core.specs.Core.{Core}
use Rattle.ctl_core.specs.Step.{stepped}
use Rattle.live_controller.specs.declared.desk.Desk.{Desk}
use Rattle.live_controller.specs.Standing.{refused_of}
use Rattle.live_controller.specs.Past.{command_in}
use Rattle.live_controller.specs.Found.{reply_of}
use Rattle.live_controller.specs.Doings.{DoesIf, Tells}
use Rattle.live_controller.specs.Endings.{AcceptTells}
use Rattle.live_controller.proofs.Doing.{risen-back, risen-front}
use Rattle.live_controller.proofs.Telling.{does-told}

-- ---- counts

pub quiet-front : (a b c : ℕ) → b ≤ c → (HasRisen a c → ⊥) → HasRisen a b → ⊥
quiet-front a b c later calm risen = calm (risen-front a b c later risen)

pub quiet-back : (a b c : ℕ) → a ≤ b → (HasRisen a c → ⊥) → HasRisen b c → ⊥
quiet-back a b c later calm risen = calm (risen-back a b c later risen)

pub at-most-on : (a b c : ℕ) → a ≤ b → b ≤ c → a ≤ c
at-most-on a b c p q = omega (arith, p, q)

pub at-most-as : (a b : ℕ) → b ≡ a → a ≤ b
at-most-as a b e = omega (arith, e)

-- ---- accepts

false-true : false ≡ true → ⊥
false-true e = let no : ⊥ = cc in no

-- no accept was made
pub tells-none : (a b : ℕ) (x y : Option Bool) → b ≡ a → y ≡ x → AcceptTells a b x y false
tells-none a b x y count told = record {
  later = at-most-as a b count;
  risen = λ e. absurd (false-true e);
  kept = λ e. count;
  failed = λ e. absurd (false-true e);
  passed = λ e. inr told;
}

-- nor by what ended the call
pub tells-still : (a b : ℕ) (x y : Option Bool) (broke : Bool) → broke ≡ false → b ≡ a → y ≡ x → AcceptTells a b x y broke
tells-still a b x y broke calm count told = subst (AcceptTells a b x y) (sym calm) (tells-none a b x y count told)

pub tells-passed : {T E : Type 0} (a b : ℕ) (x y : Option Bool) (v : T) → HasCause {T = T} {E = E} a b (Ok v)
    → TellsOutcome {T = T} {E = E} y (Ok v)
    → AcceptTells a b x y false
tells-passed a b x y v cause told = record {
  later = cause.later;
  risen = λ e. absurd (false-true e);
  kept = λ e. cause.kept refl;
  failed = λ e. absurd (false-true e);
  passed = λ e. inl told;
}

pub tells-failed : {T E : Type 0} (a b : ℕ) (x y : Option Bool) (v : E) → HasCause {T = T} {E = E} a b (Err v)
    → TellsOutcome {T = T} {E = E} y (Err v)
    → AcceptTells a b x y true
tells-failed a b x y v cause told = record {
  later = cause.later;
  risen = λ e. cause.failed refl;
  kept = λ e. absurd (false-true (sym e));
  failed = λ e. told;
  passed = λ e. absurd (false-true (sym e));
}

abbrev Passed : Option Bool → Type 0
Passed told = IfSome told (λ failed. failed ≡ false)

passed-on : (x y z : Option Bool) → Passed y ⊎ (y ≡ x) → Passed z ⊎ (z ≡ y) → Passed z ⊎ (z ≡ x)
passed-on x y z p (inl q) = inl q
passed-on x y z (inl p) (inr q) = inl (subst Passed (sym q) p)
passed-on x y z (inr p) (inr q) = inr (q ∙ p)

pub tells-on : (a b c : ℕ) (x y z : Option Bool) (broke : Bool) → AcceptTells a b x y false → AcceptTells b c y z broke
    → AcceptTells a c x z broke
tells-on a b c x y z broke p q = record {
  later = at-most-on a b c p.later q.later;
  risen = λ e. risen-back a b c p.later (q.risen e);
  kept = λ e. q.kept e ∙ p.kept refl;
  failed = q.failed;
  passed = λ e. passed-on x y z (p.passed refl) (q.passed e);
}

-- ---- answers

-- a fact that holds anyway
pub on-ok : {T E P : Type 0} (r : Result T E) → P → OnOk r P
on-ok (Ok x) p = p
on-ok (Err e) p = tt

pub both-ok : {T E : Type 0} (P Q : Type 0) (r : Result T E) → OnOk r P → OnOk r Q → OnOk r (P × Q)
both-ok P Q (Ok x) p q = (p, q)
both-ok P Q (Err e) p q = tt

-- ---- replies

pub reply-as : (text same : List ℕ) (old new : Option DockHeld) → text ≡ same → Makes (with_reply text) old new
    → Makes (with_reply same) old new
reply-as text same old new e m = subst (λ (z : List ℕ). Makes (with_reply z) old new) e m

-- the reply to a command, and to what is none
pub command-reply : (c : Core) (r : Result Command RcError) (command : Command) (refused : Option Refusal) (text : List ℕ) → r ≡ Ok command
    → refused ≡ refused_of (stepped c (events.Command command)).acts → text ≡ command_response refused → text ≡ reply_of c r
command-reply c r command refused text is why e = e ∙ ap command_response why ∙ ap (reply_of c) (sym is)

pub error-reply : (c : Core) (r : Result Command RcError) (error : RcError) (text : List ℕ) → r ≡ Err error → text ≡ error_response error
    → text ≡ reply_of c r
error-reply c r error text is e = e ∙ ap (reply_of c) (sym is)

pub command-does : (r : Result Command RcError) (command : Command) (old new : Desk) (was is : ℕ → Option PeerHeld) → r ≡ Ok command
    → Tells (events.Command command) old new was is → DoesIf (command_in r) old new was is
command-does r command old new was is e t =
    subst (λ (z : Result Command RcError). DoesIf (command_in z) old new was is) (sym e)
    (does-told (events.Command command) old new was is (λ g p. refl) (λ g. refl) t)

pub error-does : (r : Result Command RcError) (error : RcError) (d : Desk) (was : ℕ → Option PeerHeld) → r ≡ Err error
    → DoesIf (command_in r) d d was was
error-does r error d was e =
    subst (λ (z : Result Command RcError). DoesIf (command_in z) d d was was) (sym e) (refl, λ g. refl)
