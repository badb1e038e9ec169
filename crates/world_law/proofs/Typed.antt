-- What a gateway keeps of a past whose acts lines can spell: its databases have no fault, and each of their numbers is one of its type.
use Rattle.std.proofs.Common.{◌≡◌, ℕ, ◌+◌, ◌-◌, ◌^◌, ◌<◌, ◌≤◌, Bool, true, false, ◌&&◌, ◌||◌, not, nat_le, List, [], ◌∷◌, ◌++◌, map, length, get_or, Option, Some, None, refl, ◌∙◌, ap, subst, arith, if◌then◌else◌}
use Rattle.std.proofs.lemmas.Bool.{not-true}
use Rattle.std.proofs.lemmas.List.{length-map}
use Rattle.std.proofs.lemmas.List.Elements.{All-head, All-map, All-nil, All-tail}
use Rattle.std.specs.Prelude.{All}
use Rattle.std.specs.List.{list_any}
use Rattle.std.specs.Str.{bytes_eq}
use Rattle.ikeless_tree.specs.Check.{sad_fault, spd_fault}
use Rattle.ikeless_tree.specs.Half.{is_inbound}
use Rattle.ikeless_tree.specs.Typed.{AreTypedPolicies, AreTypedRows, IsTypedHalf, IsTypedLimits, IsTypedPolicy, IsTypedRow}
use Rattle.ikeless_tree.specs.declared.command.Peer.{Peer}
use Rattle.ikeless_tree.specs.declared.entry.SpdEntry.{SpdEntry}
use Rattle.ikeless_tree.specs.declared.sad.SadEntry.{SadEntry}
use Rattle.json_tree.specs.SadEntryWritten.{ArePassed}
use Rattle.life_count.specs.Lifetime.{counts_at, cut}
use Rattle.replay_win.specs.Marks.{greatest}
use Rattle.rc_resource.specs.Lists.{AreDistinct, IsTree}
use Rattle.esp_frame.specs.Esp.{spi_of}
use Rattle.hist_acts.specs.declared.act.Act.{Act}
use Rattle.hist_acts.specs.declared.act.Act.TheVariants as acts
use Rattle.hist_acts.specs.Past.{clock, force}
use Rattle.hist_halves.specs.Sealed.{by_spi, esp_of, is_opened, number_from}
use Rattle.hist_halves.specs.Halves.{arrival_number, is_half, live, number_for, number_if, numbers_taken, sent, with_number}
use Rattle.hist_gateway.specs.May.{are_apart, has_half}
use Rattle.hist_gateway.specs.Rows.{last_sequence, row_of, tree_of}
use Rattle.hist_gateway.specs.Uses.{installed_at, last_used, octets_used, times_used}
use Rattle.hist_controller.specs.Acts.{ControllerAct}
use Rattle.hist_controller.specs.Halves.{PlainAnswers}
use Rattle.hist_controller.specs.Told.{Named}
use Rattle.hist_safety.specs.Law.{IsLawful}
use Rattle.hist_safety.proofs.Basics.{both-left, both-right, half-is}
use Rattle.hist_world.specs.Stands.{Meet}
use Rattle.hist_world.proofs.Fresh.{live-apart}
use Rattle.hist_world.proofs.Room.{few-live}
use Rattle.gw_law.proofs.Pasts.{live-all}
use Rattle.acts_spell.specs.Spelled.{IsSpelled}
use Rattle.world_law.proofs.Octets.{esp-octets, number-small}

abbrev pub AreSpelled : List Peer → List Act → Type 0
AreSpelled gs h = All (IsSpelled gs) h

pub spelled-tail : (gs : List Peer) (a : Act) (h : List Act) → AreSpelled gs (a ∷ h) → AreSpelled gs h
spelled-tail gs a h s = All-tail (IsSpelled gs) a h s

pub spelled-head : (gs : List Peer) (a : Act) (h : List Act) → AreSpelled gs (a ∷ h) → IsSpelled gs a
spelled-head gs a h s = All-head (IsSpelled gs) a h s

-- ---- policies

by-gateway : (R : List SpdEntry → Type 0) (b : Bool) (new old : List SpdEntry) → R new → R old → R (if b then new else old)
by-gateway R true new old p q = p
by-gateway R false new old p q = q

-- a list in force is one that was put there, or none
force-has : (R : List SpdEntry → Type 0) (gs : List Peer) → R []
    → ((f : List ℕ) (list : List SpdEntry) → IsSpelled gs (acts.Policy f list) → R list)
    → (g : List ℕ) (h : List Act) → AreSpelled gs h → R (force g h)
force-has R gs none put g [] s = none
force-has R gs none put g (acts.Policy f list ∷ h) s =
    by-gateway R (bytes_eq f g) list (force g h) (put f list (spelled-head gs (acts.Policy f list) h s))
    (force-has R gs none put g h (spelled-tail gs (acts.Policy f list) h s))
force-has R gs none put g (acts.Boot f ∷ h) s = by-gateway R (bytes_eq f g) [] (force g h) none
    (force-has R gs none put g h (spelled-tail gs (acts.Boot f) h s))
force-has R gs none put g (a ∷ h) s = force-has R gs none put g h (spelled-tail gs a h s)

no-fault : spd_fault [] ≡ None
unfolding spd_fault
no-fault = refl

pub policies-pass : (gs : List Peer) (g : List ℕ) (h : List Act) → AreSpelled gs h → spd_fault (tree_of g h).spd ≡ None
policies-pass gs g h s = force-has (λ list. spd_fault list ≡ None) gs no-fault (λ f list p. p.0.1.fits) g h s

pub policies-typed : (gs : List Peer) (g : List ℕ) (h : List Act) → AreSpelled gs h → AreTypedPolicies (tree_of g h).spd
policies-typed gs g h s = force-has AreTypedPolicies gs (All-nil IsTypedPolicy) (λ f list p. p.1) g h s

-- ---- counts and numbers

cut-low : (most n : ℕ) → cut most n ≤ most
cut-low most n = by-order (nat_le n most) refl where
  by-order : (b : Bool) → nat_le n most ≡ b → (if b then n else most) ≤ most
  by-order true e = grind (arith, e)
  by-order false e = omega arith

low-32 : (n : ℕ) → cut 4294967295 n < 2 ^ 32
low-32 n = let q = cut-low 4294967295 n in omega (arith, q)

low-64 : (n : ℕ) → cut 18446744073709551615 n < 2 ^ 64
low-64 n = let q = cut-low 18446744073709551615 n in omega (arith, q)

pub counts-typed : (now installed used octets times : ℕ) → IsTypedLimits (counts_at now installed used octets times)
counts-typed now installed used octets times = record {
  time = low-32 (now - installed);
  bytes = low-64 octets;
  packets = low-32 times;
  idle = low-32 (now - used);
}

abbrev AreLow : List ℕ → Type 0
AreLow [] = Unit {0}
AreLow (n ∷ ns) = (n < 2 ^ 64) × AreLow ns

low-more : (ns : List ℕ) (n : ℕ) → AreLow ns → n < 2 ^ 64 → AreLow (ns ++ n ∷ [])
low-more [] n l p = (p, tt)
low-more (m ∷ ns) n l p = (l.0, low-more ns n l.1 p)

greatest-low : (ns : List ℕ) → AreLow ns → greatest ns < 2 ^ 64
greatest-low [] l = omega arith
greatest-low (n ∷ ns) l = let p = greatest-low ns l.1 in let q = l.0 in omega (arith, p, q)

low-if : (b : Bool) (xs ys : List ℕ) → AreLow xs → AreLow ys → AreLow (if b then xs else ys)
low-if true xs ys p q = p
low-if false xs ys p q = q

-- the number that is found in a datagram
abbrev IsLow : Option ℕ → Type 0
IsLow None = Unit {0}
IsLow (Some n) = n < 2 ^ 64

found-low : (x : List ℕ) (top : ℕ) (b : List ℕ) (e : Option SadEntry) → ((d : SadEntry) → number_from d top b < 2 ^ 64)
    → IsLow (number_if x top b e)
found-low x top b None small = tt
found-low x top b (Some e) small = by-name (bytes_eq e.name x) where
  by-name : (c : Bool) → IsLow (if c then Some (number_from e top b) else None)
  by-name true = small e
  by-name false = tt

from-low : (o : List ℕ) (top : ℕ) (d : SadEntry) → All (λ z. z < 256) o → number_from d top (esp_of o) < 2 ^ 64
unfolding number_from
from-low o top d all = let q = number-small (esp_of o) (esp-octets o all) in omega (arith, q)

arrival-low : (gs : List Peer) (g x : List ℕ) (numbers : List ℕ) (h : List Act) → AreSpelled gs h → IsLow (arrival_number g x numbers h)
arrival-low gs g x numbers [] s = tt
arrival-low gs g x numbers (acts.Arrived f o ∷ h) s = by-gateway (bytes_eq f g) where
  octets : All (λ z. z < 256) o
  octets = (spelled-head gs (acts.Arrived f o) h s).1

  by-gateway : (b : Bool) → IsLow (if b then number_for x (greatest numbers) (live g h) (esp_of o) else None)
  by-gateway true = found-low x (greatest numbers) (esp_of o) (by_spi (spi_of (esp_of o)) (live g h))
      (λ d. from-low o (greatest numbers) d octets)
  by-gateway false = tt
arrival-low gs g x numbers (a ∷ h) s = tt

with-low : (numbers : List ℕ) (n : Option ℕ) → AreLow numbers → IsLow n → AreLow (with_number numbers n)
with-low numbers None l p = l
with-low numbers (Some n) l p = low-more numbers n l p

taken-low : (gs : List Peer) (g x : List ℕ) (h : List Act) → AreSpelled gs h → AreLow (numbers_taken g x h)
taken-low gs g x [] s = tt
taken-low gs g x (acts.Put f e ∷ h) s = low-if (is_half f e.name g x) [] (numbers_taken g x h) tt
    (taken-low gs g x h (spelled-tail gs (acts.Put f e) h s))
taken-low gs g x (acts.Gave f y n o ∷ h) s =
    let ih = taken-low gs g x h (spelled-tail gs (acts.Gave f y n o) h s) in
    low-if (is_half f y g x) (numbers_taken g x h ++ n ∷ []) (numbers_taken g x h)
    (low-more (numbers_taken g x h) n ih (spelled-head gs (acts.Gave f y n o) h s).1.0) ih
taken-low gs g x (acts.Drop f w ∷ h) s =
    let rest = spelled-tail gs (acts.Drop f w) h s in
    let ih = taken-low gs g x h rest in
    let n : Option ℕ = arrival_number g x (numbers_taken g x h) h in
    low-if (bytes_eq f g && is_opened w) (with_number (numbers_taken g x h) n) (numbers_taken g x h)
    (with-low (numbers_taken g x h) n ih (arrival-low gs g x (numbers_taken g x h) h rest)) ih
taken-low gs g x (a ∷ h) s = taken-low gs g x h (spelled-tail gs a h s)

-- the last number sent is that of a datagram
sent-more : (gs : List Peer) (f y : List ℕ) (n : ℕ) (o : List ℕ) (h : List Act) → IsLawful gs (acts.Sent f y n o ∷ h)
    → sent f y h + 1 < 2 ^ 64
sent-more gs f y n o [] l = absurd l.0
sent-more gs f y n o (acts.Let e p ∷ h) l =
    let name : e ≡ f = l.0.0 in
    let number : n ≡ sent f y h + 1 = l.0.1.number in
    let small : n < 2 ^ 32 = l.0.1.small in
    omega (arith, number, small)
sent-more gs f y n o (a ∷ h) l = absurd l.0

low-number : (b : Bool) (n m : ℕ) → (b ≡ true → n < 2 ^ 64) → m < 2 ^ 64 → (if b then n else m) < 2 ^ 64
low-number true n m p q = p refl
low-number false n m p q = q

sent-low : (gs : List Peer) (g x : List ℕ) (h : List Act) → IsLawful gs h → sent g x h < 2 ^ 64
sent-low gs g x [] l = omega arith
sent-low gs g x (acts.Put f e ∷ h) l = low-number (is_half f e.name g x) 0 (sent g x h) (λ _. omega arith) (sent-low gs g x h l.1)
sent-low gs g x (acts.Sent f y n o ∷ h) l =
    low-number (is_half f y g x) (sent g x h + 1) (sent g x h)
    (λ e. let is = half-is f y g x e in subst (λ z. sent z x h + 1 < 2 ^ 64) is.0
    (subst (λ z. sent f z h + 1 < 2 ^ 64) is.1 (sent-more gs f y n o h l)))
    (sent-low gs g x h l.1)
sent-low gs g x (a ∷ h) l = sent-low gs g x h l.1

-- ---- rows

last-low : (gs : List Peer) (g : List ℕ) (h : List Act) (e : SadEntry) → IsLawful gs h → AreSpelled gs h → last_sequence g h e < 2 ^ 64
last-low gs g h e l s = by-side (is_inbound e.name) where
  by-side : (b : Bool) → (if b then greatest (numbers_taken g e.name h) else sent g e.name h) < 2 ^ 64
  by-side true = greatest-low (numbers_taken g e.name h) (taken-low gs g e.name h s)
  by-side false = sent-low gs g e.name h l

halves-typed : (gs : List Peer) (g : List ℕ) (h : List Act) → AreSpelled gs h → All IsTypedHalf (live g h)
halves-typed gs g h s = live-all IsTypedHalf (IsSpelled gs) (λ f e p. p.1) g h s

rows-are : (gs : List Peer) (g : List ℕ) (h : List Act) → IsLawful gs h → AreSpelled gs h → (es : List SadEntry) → All IsTypedHalf es
    → All (λ e. IsTypedRow (row_of g h e)) es
rows-are gs g h l s es p k d i = record {
  entry = p k d i;
  state = record {
    current = counts-typed (clock h) (installed_at g (get_or es k d).name h) (last_used g (get_or es k d).name h)
        (octets_used g (get_or es k d).name h) (times_used g (get_or es k d).name h);
    top = last-low gs g h (get_or es k d) l s;
  };
}

pub rows-typed : (gs : List Peer) (g : List ℕ) (h : List Act) → IsLawful gs h → AreSpelled gs h → AreTypedRows (tree_of g h).sad
rows-typed gs g h l s = All-map IsTypedRow (row_of g h) (live g h) (rows-are gs g h l s (live g h) (halves-typed gs g h s))

-- ---- a tree without a fault

passed : (g : List ℕ) (h : List Act) (es : List SadEntry) → All (λ e. sad_fault e ≡ None) es → ArePassed (map (row_of g h) es)
passed g h [] p = tt
passed g h (e ∷ es) p = (All-head (λ d. sad_fault d ≡ None) e es p, passed g h es (All-tail (λ d. sad_fault d ≡ None) e es p))

pub rows-pass : (gs : List Peer) (g : List ℕ) (h : List Act) → AreSpelled gs h → ArePassed (tree_of g h).sad
rows-pass gs g h s = passed g h (live g h) (live-all (λ e. sad_fault e ≡ None) (IsSpelled gs) (λ f e p. p.0.1) g h s)

named-rows : (g : List ℕ) (h : List Act) (x : List ℕ) (es : List SadEntry)
    → list_any (λ r. bytes_eq r.entry.name x) (map (row_of g h) es) ≡ has_half x es
named-rows g h x [] = refl
named-rows g h x (e ∷ es) = ap (λ z. bytes_eq e.name x || z) (named-rows g h x es)

distinct : (g : List ℕ) (h : List Act) (es : List SadEntry) → are_apart es ≡ true → AreDistinct (map (row_of g h) es)
distinct g h [] p = tt
distinct g h (e ∷ es) p = (
  named-rows g h e.name es ∙ not-true (has_half e.name es) (both-left (not (has_half e.name es)) (are_apart es) p),
  distinct g h es (both-right (not (has_half e.name es)) (are_apart es) p),
)

pub tree-stands : (gs : List Peer) (g : List ℕ) (h : List Act) (c : List ControllerAct) → IsLawful gs h → Meet gs h c → Named gs
    → PlainAnswers c → AreSpelled gs h → IsTree (tree_of g h)
tree-stands gs g h c l m names plain s =
    let few : length (live g h) ≤ 4096 = few-live gs h c g l m names plain in
    let same : length (map (row_of g h) (live g h)) ≡ length (live g h) = length-map (live g h) (row_of g h) in
    record {
      policies = policies-pass gs g h s;
      halves = rows-pass gs g h s;
      few = omega (arith, few, same);
      distinct = distinct g h (live g h) (live-apart gs g h l);
    }
