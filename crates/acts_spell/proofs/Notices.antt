-- The notices of a gateway have lines, and so have the looks at its halves.
use Rattle.std.proofs.Common.{◌≡◌, ℕ, ◌-◌, ◌<◌, ◌≤◌, ◌^◌, nat_le, not, Bool, true, false, List, [], ◌∷◌, Option, Some, None, refl, arith, if◌then◌else◌}
use Rattle.std.specs.List.{AllByRecursion}
use Rattle.ikeless_tree.specs.Check.{is_sad_name, sad_fault}
use Rattle.ikeless_tree.specs.Typed.{IsTypedLimits}
use Rattle.ikeless_tree.specs.declared.command.Peer.{Peer}
use Rattle.ikeless_tree.specs.declared.order.Notice.{Notice}
use Rattle.ikeless_tree.specs.declared.ends.GoneWhy.TheVariants as gone
use Rattle.ikeless_tree.specs.declared.fault.TreeFault.{TreeFault}
use Rattle.ikeless_tree.specs.declared.sad.Limits.{Limits}
use Rattle.ikeless_tree.specs.declared.sad.SadEntry.{SadEntry}
use Rattle.life_count.specs.Lifetime.{counts_at, cut, expiry, is_reached}
use Rattle.life_count.specs.declared.event.LifeEvent.{LifeEvent}
use Rattle.life_count.specs.declared.event.LifeEvent.TheVariants as told
use Rattle.line_words.specs.Spelling.{IsKnown}
use Rattle.hist_acts.specs.declared.act.Act.{Act}
use Rattle.hist_acts.specs.declared.act.Act.TheVariants as acts
use Rattle.hist_acts.specs.Past.{clock}
use Rattle.hist_acts.specs.Sessions.{session_taken}
use Rattle.hist_gateway.specs.Let.{unless}
use Rattle.hist_gateway.specs.Look.{event_of, expiries, given_by, goings, look, tells}
use Rattle.hist_gateway.specs.Uses.{counts, installed_at, last_used, octets_used, times_used}
use Rattle.acts_spell.specs.Spelled.{IsSpelled}
use Rattle.acts_spell.proofs.Each.{each-append, each-if}
use Rattle.acts_spell.proofs.Found.{AreSpelled, IsGoodHalf, IsGoodNotice, session-small}

-- ---- a half without a fault

unfaulted : (b : Bool) (f : TreeFault) (r : Option TreeFault) → (if not b then Some f else r) ≡ None → b ≡ true
unfaulted true f r e = refl
unfaulted false f r e = cc

pub half-named : (e : SadEntry) → sad_fault e ≡ None → is_sad_name e.name ≡ true
unfolding sad_fault
half-named e h = unfaulted (is_sad_name e.name) _ _ h

-- ---- counts

cut-most : (most n : ℕ) → cut most n ≤ most
cut-most most n = by-test (nat_le n most) refl where
  by-test : (b : Bool) → nat_le n most ≡ b → (if b then n else most) ≤ most
  by-test true e = grind (arith, e)
  by-test false e = omega arith

counted : (now installed used octets times : ℕ) → IsTypedLimits (counts_at now installed used octets times)
counted now installed used octets times =
    let a = cut-most 4294967295 (now - installed) in
    let b = cut-most 18446744073709551615 octets in
    let c = cut-most 4294967295 times in
    let d = cut-most 4294967295 (now - used) in
    record { time = omega (arith, a); bytes = omega (arith, b); packets = omega (arith, c); idle = omega (arith, d) }

pub counts-typed : (g x : List ℕ) (h : List Act) → IsTypedLimits (counts g x h)
counts-typed g x h = counted (clock h) (installed_at g x h) (last_used g x h) (octets_used g x h) (times_used g x h)

-- ---- what a gateway tells

pub told-spelled : (gs : List Peer) (g : List ℕ) (h : List Act) (n : Notice) → IsKnown gs g → AreSpelled gs h → IsGoodNotice n
    → AreSpelled gs (tells g h n)
told-spelled gs g h n k s t = (((k, t.0), (session-small gs g h s, t.1)), tt)

pub unless-spelled : (gs : List Peer) (b : Bool) (xs : List Act) → AreSpelled gs xs → AreSpelled gs (unless b xs)
unless-spelled gs true xs s = tt
unless-spelled gs false xs s = s

given-spelled : (gs : List Peer) (g : List ℕ) (t : ℕ) (ns : List Notice) → IsKnown gs g → t < 2 ^ 32 → AllByRecursion IsGoodNotice ns
    → AreSpelled gs (given_by g t ns)
given-spelled gs g t [] k l s = tt
given-spelled gs g t (n ∷ ns) k l s = (((k, s.0.0), (l, s.0.1)), given-spelled gs g t ns k l s.1)

expiry-good : (name : List ℕ) (c : Limits) (e : LifeEvent) → is_sad_name name ≡ true → IsTypedLimits c
    → AllByRecursion IsGoodNotice (expiry name c e)
expiry-good name c told.Nothing n t = tt
expiry-good name c told.Soft n t = ((n, t), tt)
expiry-good name c told.Hard n t = ((n, t), tt)

goings-spelled : (gs : List Peer) (g : List ℕ) (h : List Act) (es : List SadEntry) → IsKnown gs g → AllByRecursion IsGoodHalf es
    → AreSpelled gs (goings g h es)
goings-spelled gs g h [] k s = tt
goings-spelled gs g h (e ∷ es) k s =
    let more = goings-spelled gs g h es k s.1 in
    each-if (IsSpelled gs) (is_reached e.hard (counts g e.name h)) (acts.Gone g e.name gone.Hard ∷ goings g h es) (goings g h es)
    (((k, half-named e s.0.0), tt), more) more

expiries-spelled : (gs : List Peer) (g : List ℕ) (h : List Act) (es : List SadEntry) → IsKnown gs g → AreSpelled gs h
    → AllByRecursion IsGoodHalf es → AreSpelled gs (expiries g h es)
expiries-spelled gs g h [] k p s = tt
expiries-spelled gs g h (e ∷ es) k p s =
    let ns : List Notice = expiry e.name (counts g e.name h) (event_of g h e) in
    each-append (IsSpelled gs) (given_by g (session_taken g h) ns) (expiries g h es)
    (given-spelled gs g (session_taken g h) ns k (session-small gs g h p) (expiry-good e.name (counts g e.name h) (event_of g h e)
    (half-named e s.0.0) (counts-typed g e.name h)))
    (expiries-spelled gs g h es k p s.1)

pub look-spelled : (gs : List Peer) (g : List ℕ) (h : List Act) (es : List SadEntry) → IsKnown gs g → AreSpelled gs h
    → AllByRecursion IsGoodHalf es → AreSpelled gs (look g h es)
look-spelled gs g h es k p s =
    each-append (IsSpelled gs) (goings g h es) (expiries g h es) (goings-spelled gs g h es k s) (expiries-spelled gs g h es k p s)
