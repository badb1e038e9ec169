-- What is told of devices over several calls.
use Rattle.std.proofs.Common.{◌≡◌, ◌≤◌, ◌<◌, ◌+◌, ℕ, List, [], ◌∷◌, ◌++◌, length, take, get_or, Option, Some, None, refl, sym, ap, subst, ◌∙◌, arith}
use Rattle.std.proofs.lemmas.List.{take_more}
use Rattle.ikl_base.specs.Outside.{HasRisen}
use Rattle.rc_http.specs.Feeding.{Feeding}
use Rattle.live_devices.specs.Docks.{DockHeld, Notes}
use Rattle.live_devices.specs.Wires.{Sends, WireHeld}
use Rattle.live_devices.specs.Reads.{Makes}
use Rattle.live_devices.proofs.Reading.{makes-as, makes-on, makes-same, none-some, some-same}
use Rattle.gw_requests.specs.declared.act.GwAct.{GwAct}
use Rattle.gw_core.specs.Machine.{Core, Event}
use Rattle.live_gateway.specs.Carried.{Carries, Devices, Does, Writes, after_all, dock_by, inside_by, outside_by, while_there, with_datagram, with_notice}

-- ---- counts

pub risen-front : (a b c : ℕ) → b ≤ c → HasRisen a b → HasRisen a c
risen-front a b c later risen = omega (arith, later, risen)

pub risen-back : (a b c : ℕ) → a ≤ b → HasRisen b c → HasRisen a c
risen-back a b c later risen = omega (arith, later, risen)

pub later-on : (a b c : ℕ) → a ≤ b → b ≤ c → a ≤ c
later-on a b c p q = omega (arith, p, q)

pub later-same : (a : ℕ) → a ≤ a
later-same a = omega arith

-- ---- what is told

-- ---- calls that send and write

pub sends-makes : (old new : Option WireHeld) (octets : List ℕ) → Sends old new octets → Makes (with_datagram octets) old new
sends-makes None new octets s = λ w e. absurd (none-some w e)
sends-makes (Some old) None octets s = absurd s
sends-makes (Some old) (Some new) octets s = λ w e. ap Some (s ∙ ap (with_datagram octets) (some-same old w e))

pub notes-makes : (old new : Option DockHeld) (octets : List ℕ) → Notes old new octets → Makes (with_notice octets) old new
notes-makes None new octets s = λ d e. absurd (none-some d e)
notes-makes (Some old) None octets s = absurd s
notes-makes (Some old) (Some new) octets s = λ d e. ap Some (s ∙ ap (with_notice octets) (some-same old d e))

-- ---- acts, one after another

pub after-more : {T : Type 0} (f : GwAct → T → T) (xs ys : List GwAct) (t : T)
    → after_all f (xs ++ ys) t ≡ after_all f ys (after_all f xs t)
after-more f [] ys t = refl
after-more f (x ∷ xs) ys t = after-more f xs ys (f x t)

-- ---- writes

while-both : (s : Option Feeding) (f g h : DockHeld → DockHeld) → ((d : DockHeld) → h d ≡ g (f d)) → (d : DockHeld)
    → while_there s g (while_there s f d) ≡ while_there s h d
while-both None f g h same d = refl
while-both (Some r) f g h same d = sym (same d)

while-none : (s : Option Feeding) (f : DockHeld → DockHeld) → ((d : DockHeld) → d ≡ f d) → (d : DockHeld) → d ≡ while_there s f d
while-none None f same d = refl
while-none (Some r) f same d = same d

pub writes-on : (a b c : Option DockHeld) (m n o : ℕ) (s t u : Option Feeding) (f g h : DockHeld → DockHeld)
    → ((d : DockHeld) → h d ≡ g (f d))
    → Writes a b m n s t f → Writes b c n o t u g → Writes a c m o s u h
writes-on a b c m n o s t u f g h same p q = record {
  later = later-on m n o p.later q.later;
  kept = λ calm. q.kept (λ risen. calm (risen-back m n o p.later risen)) ∙ p.kept (λ risen. calm (risen-front m n o q.later risen));
  wrote = λ calm.
      let first = p.kept (λ risen. calm (risen-front m n o q.later risen)) in
      let left = p.wrote (λ risen. calm (risen-front m n o q.later risen)) in
      let right = subst (λ (z : Option Feeding). Makes (while_there z g) b c) first
      (q.wrote (λ risen. calm (risen-back m n o p.later risen))) in
      makes-as (λ d. while_there s g (while_there s f d)) (while_there s h) a c (while-both s f g h same)
      (makes-on (while_there s f) (while_there s g) a b c left right);
}

-- nothing was written
pub writes-same : (a : Option DockHeld) (m : ℕ) (s : Option Feeding) (f : DockHeld → DockHeld) → ((d : DockHeld) → d ≡ f d)
    → Writes a a m m s s f
writes-same a m s f same = record {
  later = later-same m;
  kept = λ calm. refl;
  wrote = λ calm. makes-as (λ d. d) (while_there s f) a a (while-none s f same) (makes-same a);
}

-- no session is there
pub writes-none : (a : Option DockHeld) (m : ℕ) (s : Option Feeding) (f : DockHeld → DockHeld) → s ≡ None → Writes a a m m s s f
writes-none a m s f none = record {
  later = later-same m;
  kept = λ calm. refl;
  wrote = λ calm. subst (λ (z : Option Feeding). Makes (while_there z f) a a) (sym none) (makes-same a);
}

-- one is there
pub writes-there : (a b : Option DockHeld) (m n : ℕ) (s t : Option Feeding) (r : Feeding) (f : DockHeld → DockHeld) → s ≡ Some r → m ≤ n
    → ((HasRisen m n → ⊥) → t ≡ s) → ((HasRisen m n → ⊥) → Makes f a b) → Writes a b m n s t f
writes-there a b m n s t r f there later kept wrote = record {
  later = later;
  kept = kept;
  wrote = λ calm. subst (λ (z : Option Feeding). Makes (while_there z f) a b) (sym there) (wrote calm);
}

-- ---- acts that are carried out

pub carries-none : (clock : ℕ) (s : Option Feeding) (d : Devices) → Carries clock [] s s d d
carries-none clock s d = record {
  inside = makes-same d.inside;
  outside = makes-same d.outside;
  wrote = writes-same d.dock d.faults s (after_all (dock_by clock) []) (λ x. refl);
}

pub carries-on : (clock : ℕ) (xs ys : List GwAct) (s t u : Option Feeding) (a b c : Devices) → Carries clock xs s t a b
    → Carries clock ys t u b c
    → Carries clock (xs ++ ys) s u a c
carries-on clock xs ys s t u a b c p q = record {
  inside = makes-as (λ w. after_all inside_by ys (after_all inside_by xs w)) (after_all inside_by (xs ++ ys)) a.inside c.inside
      (λ w. sym (after-more inside_by xs ys w)) (makes-on (after_all inside_by xs) (after_all inside_by ys) a.inside b.inside c.inside
      p.inside q.inside);
  outside = makes-as (λ w. after_all outside_by ys (after_all outside_by xs w)) (after_all outside_by (xs ++ ys)) a.outside c.outside
      (λ w. sym (after-more outside_by xs ys w)) (makes-on (after_all outside_by xs) (after_all outside_by ys) a.outside b.outside c.outside
      p.outside q.outside);
  wrote = writes-on a.dock b.dock c.dock a.faults b.faults c.faults s t u (after_all (dock_by clock) xs) (after_all (dock_by clock) ys)
      (after_all (dock_by clock) (xs ++ ys)) (after-more (dock_by clock) xs ys) p.wrote q.wrote;
}

-- one act more of those from the front on
front : (xs : List GwAct) (i : ℕ) (x : GwAct) → i < length xs → x ≡ get_or xs i x → take (i + 1) xs ≡ take i xs ++ x ∷ []
front xs i x lt at = take_more xs i x lt ∙ ap (λ z. take i xs ++ z ∷ []) (sym at)

pub carries-step : (clock : ℕ) (xs : List GwAct) (i : ℕ) (x : GwAct) (s t u : Option Feeding) (a b c : Devices) → i < length xs
    → x ≡ get_or xs i x
    → Carries clock (take i xs) s t a b → Carries clock (x ∷ []) t u b c → Carries clock (take (i + 1) xs) s u a c
carries-step clock xs i x s t u a b c lt at p q =
    subst (λ (ys : List GwAct). Carries clock ys s u a c) (sym (front xs i x lt at)) (carries-on clock (take i xs) (x ∷ []) s t u a b c p q)

pub carries-as : (k k' : ℕ) (xs ys : List GwAct) (s t u : Option Feeding) (a b : Devices) → k ≡ k' → xs ≡ ys → s ≡ t → Carries k xs s u a b
    → Carries k' ys t u a b
carries-as k k' xs ys s t u a b ek ex es p =
    subst (λ (n : ℕ). Carries n ys t u a b) ek
    (subst (λ (zs : List GwAct). Carries k zs t u a b) ex (subst (λ (z : Option Feeding). Carries k xs z u a b) es p))

pub does-as : (e f : Event) (g h : Core) (s t : Option Feeding) (a b : Devices) → e ≡ f → Does e g h s t a b → Does f g h s t a b
does-as e f g h s t a b same p = subst (λ (x : Event). Does x g h s t a b) same p
