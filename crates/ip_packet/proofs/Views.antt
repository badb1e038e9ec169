-- What octets with a view are, and that another time to live keeps their view.
use Rattle.std.proofs.Common.{◌≡◌, ◌≤◌, ◌==◌, ℕ, ◌+◌, ◌-◌, ◌*◌, ◌/◌, ◌%◌, List, [], ◌∷◌, ◌++◌, length, take, drop, slice_index, slice_set, Bool, true, false, not, Result, Ok, Err, is_ok, if◌then◌else◌, refl, sym, ap, ◌∙◌, arith}
use Rattle.std.proofs.Math.Seq.{take-append-add, drop-append-add}
use Rattle.std.proofs.lemmas.Bool.{false≢true}
use Rattle.std.proofs.lemmas.Bool.Decides.{nat_tests}
use Rattle.ip_packet.specs.declared.packet.NotPacket.{NotPacket}
use Rattle.ip_packet.specs.declared.packet.NotPacket.TheVariants as faults
use Rattle.ip_packet.specs.Field.{version, ports_of}
use Rattle.ip_packet.specs.Ipv4.{header_length, words_sum, sum_for, is_length_wrong, is_sum_wrong, is_fragment}
use Rattle.ip_packet.specs.View.{Packet, packet_4, is_short, view_of, view_of_4, view_of_6}
use Rattle.ip_packet.specs.Ttl.{without_sum, with_ttl_4, with_ttl}
use Rattle.ip_packet.proofs.Sums.{words_sum-complete}

-- no fault was found here
passed : (fault : Bool) (e : NotPacket) (r : Result Packet NotPacket) → is_ok (if fault then Err e else r) ≡ true → (fault ≡ false)
    × (is_ok r ≡ true)
passed true e r h = absurd (false≢true h)
passed false e r h = (refl, h)

-- the first of two answers, where it was chosen
chosen : (test : Bool) (first second : Result Packet NotPacket) → test ≡ true → is_ok (if test then first else second) ≡ true
    → is_ok first ≡ true
chosen true first second is h = h
chosen false first second is h = absurd (false≢true is)

-- the second of three answers, where the first wasn't chosen and the last is none
chosen_last : (test next : Bool) (first second : Result Packet NotPacket) → test ≡ false
    → is_ok (if test then first else if next then second else Err faults.Version) ≡ true → next ≡ true
chosen_last true next first second other h = absurd (false≢true (sym other))
chosen_last false true first second other h = refl
chosen_last false false first second other h = absurd (false≢true h)

-- a view by the tests that choose it
abbrev answer : List ℕ → Bool → Bool → Result Packet NotPacket → Bool → Result Packet NotPacket
answer o short six view_4 four = if short then Err faults.Short else if four then view_4 else if six then view_of_6 o
    else Err faults.Version

pub view_of-whole : (o : List ℕ) → is_ok (view_of o) ≡ true → 20 ≤ length o
unfolding view_of
view_of-whole o h =
    let first = passed (is_short o) faults.Short _ h in
    let long = first.0 in
    grind (arith, nat_tests)

-- what is true of an IPv4 packet's octets
pub record IsPacket4 (o : List ℕ) : Type 0 where
  pub least : 20 ≤ header_length o
  pub most : header_length o ≤ length o
  pub sum : is_sum_wrong o ≡ false

pub view_of-packet_4 : (o : List ℕ) → is_ok (view_of o) ≡ true → (version o == 4) ≡ true → IsPacket4 o
unfolding view_of
view_of-packet_4 o h four =
    let first = passed (is_short o) faults.Short _ h in
    let second : is_ok (view_of_4 o) ≡ true = chosen (version o == 4) (view_of_4 o) _ four first.1 in
    let third = passed (is_length_wrong o) faults.Length _ second in
    let fourth = passed (is_sum_wrong o) faults.HeaderSum _ third.1 in
    let lengths = third.0 in
    record { least = grind (arith, nat_tests); most = grind (arith, nat_tests); sum = fourth.0 }

take-behind : (n : ℕ) (front rest : List ℕ) → length front ≤ n → take n (front ++ rest) ≡ front ++ take (n - length front) rest
take-behind n front rest h =
    let e : n ≡ length front + (n - length front) = omega arith in
    ap (λ m. take m (front ++ rest)) e ∙ take-append-add front rest (n - length front)

drop-behind : (n : ℕ) (front rest : List ℕ) → length front ≤ n → drop n (front ++ rest) ≡ drop (n - length front) rest
drop-behind n front rest h =
    let e : n ≡ length front + (n - length front) = omega arith in
    ap (λ m. drop m (front ++ rest)) e ∙ drop-append-add front rest (n - length front)

-- what an IPv4 packet says, by its octets, the test of its sum and its payload
abbrev answer_4 : List ℕ → Bool → List ℕ → Result Packet NotPacket
answer_4 o wrong payload =
    if is_length_wrong o then Err faults.Length
    else if wrong then Err faults.HeaderSum
    else if is_fragment o then Err faults.Fragment
    else Ok (record (packet_4 o) { ports = ports_of (slice_index o 9) payload; payload = payload })

view_of_4-with_ttl : (ttl : ℕ) (o : List ℕ) → 12 ≤ length o → IsPacket4 o → view_of_4 (with_ttl_4 ttl o) ≡ view_of_4 o
view_of_4-with_ttl ttl (a ∷ b ∷ c ∷ d ∷ e ∷ f ∷ g ∷ h ∷ i ∷ j ∷ k ∷ l ∷ rest) long is =
    let size : ℕ = a % 16 * 4 in
    let old : List ℕ = a ∷ b ∷ c ∷ d ∷ e ∷ f ∷ g ∷ h ∷ i ∷ j ∷ k ∷ l ∷ rest in
    let new : List ℕ = with_ttl_4 ttl old in
    let sum : ℕ = sum_for (take size (without_sum ttl old)) in
    let tail : List ℕ = take (size - 12) rest in
    let enough : 12 ≤ size = omega arith in
    let empty : take size (without_sum ttl old) ≡ a ∷ b ∷ c ∷ d ∷ e ∷ f ∷ g ∷ h ∷ ttl ∷ j ∷ 0 ∷ 0 ∷ tail =
    take-behind size (a ∷ b ∷ c ∷ d ∷ e ∷ f ∷ g ∷ h ∷ ttl ∷ j ∷ 0 ∷ 0 ∷ []) rest enough in
    let header : take size new ≡ a ∷ b ∷ c ∷ d ∷ e ∷ f ∷ g ∷ h ∷ ttl ∷ j ∷ (sum / 256) ∷ (sum % 256) ∷ tail =
    take-behind size (a ∷ b ∷ c ∷ d ∷ e ∷ f ∷ g ∷ h ∷ ttl ∷ j ∷ (sum / 256) ∷ (sum % 256) ∷ []) rest enough in
    let complete : words_sum (take size new) % 65535 ≡ 0 =
    ap (λ x. words_sum x % 65535) header
    ∙ ap (λ s. words_sum (a ∷ b ∷ c ∷ d ∷ e ∷ f ∷ g ∷ h ∷ ttl ∷ j ∷ (s / 256) ∷ (s % 256) ∷ tail) % 65535) (ap sum_for empty)
    ∙ words_sum-complete a b c d e f g h ttl j tail in
    let right : is_sum_wrong new ≡ false = ap (λ w. not (w == 0)) complete in
    let payload : drop size new ≡ drop size old =
    drop-behind size (a ∷ b ∷ c ∷ d ∷ e ∷ f ∷ g ∷ h ∷ ttl ∷ j ∷ (sum / 256) ∷ (sum % 256) ∷ []) rest enough
    ∙ sym (drop-behind size (a ∷ b ∷ c ∷ d ∷ e ∷ f ∷ g ∷ h ∷ i ∷ j ∷ k ∷ l ∷ []) rest enough) in
    ap (λ w. answer_4 old w (drop size new)) (right ∙ sym is.sum) ∙ ap (answer_4 old (is_sum_wrong old)) payload
view_of_4-with_ttl ttl _ long is = absurd (omega arith)

-- the version of octets that have a view
pub view_of-version : (o : List ℕ) → is_ok (view_of o) ≡ true → (version o == 4) ≡ false → (version o == 6) ≡ true
unfolding view_of
view_of-version o h other =
    let first = passed (is_short o) faults.Short _ h in
    chosen_last (version o == 4) (version o == 6) (view_of_4 o) (view_of_6 o) other first.1

pub view_of-4 : (o : List ℕ) → (version o == 4) ≡ true → view_of o ≡ (if is_short o then Err faults.Short else view_of_4 o)
unfolding view_of
view_of-4 o four = ap (answer o (is_short o) (version o == 6) (view_of_4 o)) four

pub view_of-6 : (o : List ℕ) → (version o == 6) ≡ true → view_of o ≡ (if is_short o then Err faults.Short else view_of_6 o)
unfolding view_of
view_of-6 o six =
    let apart : (version o == 4) ≡ false = grind (arith, nat_tests) in
    ap (answer o (is_short o) (version o == 6) (view_of_4 o)) apart ∙ ap (λ b. answer o (is_short o) b (view_of_4 o) false) six

pub view_of-with_ttl_4 : (ttl : ℕ) (o : List ℕ) → 20 ≤ length o → IsPacket4 o → (version o == 4) ≡ true
    → view_of (with_ttl_4 ttl o) ≡ view_of o
view_of-with_ttl_4 ttl (a ∷ b ∷ c ∷ d ∷ e ∷ f ∷ g ∷ h ∷ i ∷ j ∷ k ∷ l ∷ rest) long is four =
    let old : List ℕ = a ∷ b ∷ c ∷ d ∷ e ∷ f ∷ g ∷ h ∷ i ∷ j ∷ k ∷ l ∷ rest in
    view_of-4 (with_ttl_4 ttl old) four
    ∙ ap (λ r. if is_short old then Err faults.Short else r) (view_of_4-with_ttl ttl old (omega arith) is)
    ∙ sym (view_of-4 old four)
view_of-with_ttl_4 ttl _ long is four = absurd (omega arith)

pub view_of-with_ttl_6 : (ttl : ℕ) (o : List ℕ) → 20 ≤ length o → (version o == 6) ≡ true → view_of (slice_set o 7 ttl) ≡ view_of o
view_of-with_ttl_6 ttl (a ∷ b ∷ c ∷ d ∷ e ∷ f ∷ g ∷ h ∷ rest) long six =
    let old : List ℕ = a ∷ b ∷ c ∷ d ∷ e ∷ f ∷ g ∷ h ∷ rest in
    view_of-6 (slice_set old 7 ttl) six ∙ sym (view_of-6 old six)
view_of-with_ttl_6 ttl _ long six = absurd (omega arith)

-- another time to live keeps the view, by whether there is one and the version is 4
keeps : (ttl : ℕ) (o : List ℕ) (has four : Bool) → is_ok (view_of o) ≡ has → (version o == 4) ≡ four
    → view_of (if has then (if four then with_ttl_4 ttl o else slice_set o 7 ttl) else o) ≡ view_of o
keeps ttl o true true h is = view_of-with_ttl_4 ttl o (view_of-whole o h) (view_of-packet_4 o h is) is
keeps ttl o true false h is = view_of-with_ttl_6 ttl o (view_of-whole o h) (view_of-version o h is)
keeps ttl o false four h is = refl

pub view_of-with_ttl : (ttl : ℕ) (o : List ℕ) → view_of (with_ttl ttl o) ≡ view_of o
unfolding with_ttl
view_of-with_ttl ttl o = keeps ttl o (is_ok (view_of o)) (version o == 4) refl refl
