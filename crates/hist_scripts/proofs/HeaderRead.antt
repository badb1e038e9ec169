-- What is read as a header is one that the whole can have.
use Rattle.std.proofs.Common.{◌≡◌, ℕ, ◌-◌, ◌^◌, ◌<◌, ◌≤◌, ◌==◌, ◌&&◌, Bool, true, false, not, nat_le, List, [], ◌∷◌, length, Result, Ok, Err, refl, ap, subst, arith, if◌then◌else◌}
use Rattle.std.specs.Prelude.{codes}
use Rattle.std.specs.List.{AllByRecursion, list_all, slice_split}
use Rattle.std.specs.Str.{bytes_eq}
use Rattle.std.proofs.lemmas.Bool.{and_parts, and_from}
use Rattle.ikl_base.specs.Address.{is_one_family, AreOneFamily, is_same_address}
use Rattle.ikl_base.specs.declared.address.Addr.{Addr}
use Rattle.ikl_base.specs.declared.address.Addr.TheVariants.{V4, V6}
use Rattle.ikl_base.specs.declared.status.LineFault.TheVariants as faults
use Rattle.ikeless_tree.specs.Check.{is_gateway}
use Rattle.ikeless_tree.specs.declared.command.Peer.{Peer}
use Rattle.yang_values.specs.Addresses.{address_of}
use Rattle.line_words.specs.Words.{or_fault, words, is_printable}
use Rattle.line_words.proofs.TakenSteps.{after, passed, inside, each_has, number_most}
use Rattle.event_lines.specs.Header.{is_equals, seq_last_of, gateway_in as peer_in, peer_of, peers_of, go_together, all_go_together, gateways_of, header_in, header_of}
use Rattle.hist_acts.specs.declared.event.Header.{Header}
use Rattle.hist_controller.specs.Told.{are_names_apart, peer_address}
use Rattle.hist_controller.proofs.PeerNames.{named}
use Rattle.hist_world.specs.Headers.{IsHeader}
use Rattle.hist_scripts.proofs.Addresses.{IsWhole, address-whole}

-- ## each peer has a whole address

IsWholePeer : Peer → Type 0
IsWholePeer p = IsWhole p.address

or-fault : (r : Result Addr _) (a : Addr) → or_fault faults.Header r ≡ Ok a → r ≡ Ok a
or-fault (Ok x) a e = let q : x ≡ a = cc in ap Ok q
or-fault (Err b) a e = cc

peer-whole : (w : List ℕ) (p : Peer) → peer_of w ≡ Ok p → IsWholePeer p
unfolding peer_in IsWholePeer
peer-whole w p read = parts (slice_split is_equals w) read
  where
    parts : (ps : List (List ℕ)) → peer_in ps ≡ Ok p → IsWholePeer p
    parts [] is = cc
    parts (a ∷ []) is = cc
    parts (name ∷ address ∷ []) is =
        let P : Type 0 = IsWhole p.address in
        passed P (is_gateway name) _ faults.Header p is
        (λ spelled more. after P (or_fault faults.Header (address_of address)) _ p more
        (λ a found same. subst (λ (q : Peer). IsWhole q.address) (inside _ p same)
        (address-whole address a (or-fault (address_of address) a found))))
    parts (a ∷ b ∷ c ∷ ps) is = cc

-- ## gateways that go together

apart-from : (p : Peer) (ps : List Peer) → list_all (go_together p) ps ≡ true → list_all (λ q. not (bytes_eq p.name q.name)) ps ≡ true
apart-from p [] e = refl
apart-from p (q ∷ ps) e =
    let a = and_parts (go_together p q) (list_all (go_together p) ps) e in
    let b = and_parts (not (bytes_eq p.name q.name) && not (is_same_address p.address q.address)) (is_one_family p.address q.address) a.0 in
    let c = and_parts (not (bytes_eq p.name q.name)) (not (is_same_address p.address q.address)) b.0 in
    and_from _ _ c.0 (apart-from p ps a.1)

names-apart : (ps : List Peer) → all_go_together ps ≡ true → are_names_apart ps ≡ true
names-apart [] e = refl
names-apart (p ∷ ps) e = let a = and_parts (list_all (go_together p) ps) (all_go_together ps) e in
    and_from _ _ (apart-from p ps a.0) (names-apart ps a.1)

one-family : (a b : Addr) → IsWhole a → IsWhole b → is_one_family a b ≡ true → AreOneFamily a b
one-family (V4 a) (V4 b) p q e = (p, q)
one-family (V4 a) (V6 b) p q e = cc
one-family (V6 a) (V4 b) p q e = cc
one-family (V6 a) (V6 b) p q e = (p, q)

turned : (a b : Addr) → AreOneFamily a b → AreOneFamily b a
turned (V4 a) (V4 b) p = (p.1, p.0)
turned (V4 a) (V6 b) p = p
turned (V6 a) (V4 b) p = p
turned (V6 a) (V6 b) p = (p.1, p.0)

self-family : (a : Addr) → IsWhole a → AreOneFamily a a
self-family (V4 a) p = (p, p)
self-family (V6 a) p = (p, p)

family-of : (p q : Peer) → go_together p q ≡ true → is_one_family p.address q.address ≡ true
family-of p q e = last3 (not (bytes_eq p.name q.name)) (not (is_same_address p.address q.address)) (is_one_family p.address q.address) e
  where
    last3 : (a b c : Bool) → (a && b && c) ≡ true → c ≡ true
    last3 a b c e = (and_parts (a && b) c e).1

-- the first one with any of the others
with-first : (p : Peer) (ps : List Peer) (g : ℕ) → IsWholePeer p → AllByRecursion IsWholePeer ps → list_all (go_together p) ps ≡ true
    → g < length ps → AreOneFamily p.address (peer_address ps g)
unfolding IsWholePeer
with-first p [] g a b e l = absurd (omega arith)
with-first p (q ∷ ps) g a b e l = at (g == 0) refl (and_parts (go_together p q) (list_all (go_together p) ps) e)
    (λ u v. with-first p ps (g - 1) a b.1 u v)
  where
    at : (z : Bool) → (g == 0) ≡ z → (go_together p q ≡ true) × (list_all (go_together p) ps ≡ true)
        → (list_all (go_together p) ps ≡ true → g - 1 < length ps → AreOneFamily p.address (peer_address ps (g - 1)))
        → AreOneFamily p.address (if z then q.address else peer_address ps (g - 1))
    at true t w f = one-family p.address q.address a b.0 (family-of p q w.0)
    at false t w f = f w.1 (grind arith)

families : (ps : List Peer) → AllByRecursion IsWholePeer ps → all_go_together ps ≡ true → (f g : ℕ) → f < length ps → g < length ps
    → AreOneFamily (peer_address ps f) (peer_address ps g)
unfolding IsWholePeer
families [] a e f g i j = absurd (omega arith)
families (p ∷ ps) a e f g i j = at (f == 0) (g == 0) refl refl (and_parts (list_all (go_together p) ps) (all_go_together ps) e)
    (λ u v w. families ps a.1 u (f - 1) (g - 1) v w)
  where
    at : (x y : Bool) → (f == 0) ≡ x → (g == 0) ≡ y → (list_all (go_together p) ps ≡ true) × (all_go_together ps ≡ true)
        → (all_go_together ps ≡ true → f - 1 < length ps → g - 1 < length ps
        → AreOneFamily (peer_address ps (f - 1)) (peer_address ps (g - 1)))
        → AreOneFamily (if x then p.address else peer_address ps (f - 1)) (if y then p.address else peer_address ps (g - 1))
    at true true t u w k = self-family p.address a.0
    at true false t u w k = with-first p ps (g - 1) a.0 a.1 w.0 (grind arith)
    at false true t u w k = turned p.address (peer_address ps (f - 1)) (with-first p ps (f - 1) a.0 a.1 w.0 (grind arith))
    at false false t u w k = k w.1 (grind arith) (grind arith)

-- ## the header

record GoTogether (ps : List Peer) : Type 0 where
  pub whole : AllByRecursion IsWholePeer ps
  pub together : all_go_together ps ≡ true

gateways-read : (ws : List (List ℕ)) (ps : List Peer) → gateways_of ws ≡ Ok ps → GoTogether ps
unfolding gateways_of
gateways-read ws ps is =
    let P : Type 0 = GoTogether ps in
    passed P (nat_le 1 (length ws) && nat_le (length ws) 16) _ faults.Header ps is
    (λ _ more. after P (peers_of ws) _ ps more
    (λ qs read more2. passed P (all_go_together qs) (Ok qs) faults.Header ps more2
    (λ together same. let e : qs ≡ ps = cc in
    subst GoTogether e (record { whole = each_has IsWholePeer peer_of peer-whole ws qs read; together = together }))))

last-read : (w : List ℕ) (n : ℕ) → seq_last_of w ≡ Ok n → n < 2 ^ 32
unfolding seq_last_of
last-read w n is =
    let P : Type 0 = n < 2 ^ 32 in
    after P (or_fault faults.Header _) _ n is
    (λ m read more. passed P (nat_le 1 m) (Ok m) faults.Header n more
    (λ _ same. let e : m ≡ n = cc in let l = number_most faults.Header (2 ^ 32 - 1) w m read in
    let t : n ≤ 2 ^ 32 - 1 = subst (λ z. z ≤ 2 ^ 32 - 1) e l in omega arith))

words-read : (ws : List (List ℕ)) (h : Header) → header_in ws ≡ Ok h → IsHeader h
unfolding header_in
words-read [] h is = cc
words-read (a ∷ []) h is = cc
words-read (a ∷ b ∷ []) h is = cc
words-read (world ∷ last ∷ number ∷ gateways) h is =
    let P : Type 0 = IsHeader h in
    passed P (bytes_eq world (codes "world") && bytes_eq last (codes "seq-last")) _ faults.Header h is
    (λ _ more. after P (seq_last_of number) _ h more
    (λ n low more2. after P (gateways_of gateways) _ h more2
    (λ ps read same.
    let k = gateways-read gateways ps read in
    subst IsHeader (inside _ h same) (record {
      numbers = last-read number n low;
      named = named ps (names-apart ps k.together);
      family =
          families ps k.whole k.together;
    }))))

pub header-read : (line : List ℕ) (h : Header) → header_of line ≡ Ok h → IsHeader h
unfolding header_of
header-read line h is = passed (IsHeader h) (list_all is_printable line) _ faults.Octet h is (λ _ read. words-read (words line) h read)
