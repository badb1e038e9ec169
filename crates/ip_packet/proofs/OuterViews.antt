-- What the header before sealed octets says with them.
use Rattle.std.proofs.Common.{◌≡◌, ◌≢◌, ◌==◌, ℕ, ◌+◌, ◌*◌, ◌/◌, ◌%◌, List, ◌++◌, length, take, drop, slice_index, Bool, true, false, not, ◌||◌, Result, Ok, Err, None, if◌then◌else◌, refl, ap, ◌∙◌, arith, length-append, append_assoc}
use Rattle.std.proofs.lemmas.List.{take_at, drop_at}
use Rattle.std.proofs.lemmas.Bool.Decides.{nat_tests}
use Rattle.ikl_base.specs.declared.address.Addr.{Addr}
use Rattle.ikl_base.specs.declared.address.Addr.TheVariants.{V4, V6}
use Rattle.ip_packet.specs.declared.outer.Outer.{Outer}
use Rattle.ip_packet.specs.declared.packet.NotPacket.{NotPacket}
use Rattle.ip_packet.specs.declared.packet.NotPacket.TheVariants as faults
use Rattle.ip_packet.specs.Field.{number_at, version}
use Rattle.ip_packet.specs.Ipv4.{words_sum, sum_for, is_length_wrong, is_sum_wrong, is_fragment}
use Rattle.ip_packet.specs.Ipv6.{is_payload_wrong, upper_of}
use Rattle.ip_packet.specs.View.{Packet, packet_4, packet_6, by_upper, is_short, view_of, view_of_4, view_of_6}
use Rattle.ip_packet.specs.Outer.{AreOneFamily, header_size, header_4, header_between, keeps_whole}
use Rattle.ip_packet.proofs.Headers.{upper_of-end}
use Rattle.ip_packet.proofs.Sums.{words_sum-complete}
use Rattle.ip_packet.proofs.Views.{view_of-4, view_of-6}

-- an IPv4 packet by its three tests
abbrev by_tests : Bool → Bool → Bool → Packet → Result Packet NotPacket
by_tests length sum fragment p =
    if length then Err faults.Length else if sum then Err faults.HeaderSum else if fragment then Err faults.Fragment else Ok p

view_of-good_4 : (o : List ℕ) (p : Packet) → (version o == 4) ≡ true → is_short o ≡ false → is_length_wrong o ≡ false
    → is_sum_wrong o ≡ false → is_fragment o ≡ false → packet_4 o ≡ p → view_of o ≡ Ok p
view_of-good_4 o p four long length sum fragment e =
    view_of-4 o four
    ∙ ap (λ b. if b then Err faults.Short else view_of_4 o) long
    ∙ ap (λ b. by_tests b (is_sum_wrong o) (is_fragment o) (packet_4 o)) length
    ∙ ap (λ b. by_tests false b (is_fragment o) (packet_4 o)) sum
    ∙ ap (λ b. by_tests false false b (packet_4 o)) fragment
    ∙ ap Ok e

view_of-good_6 : (o : List ℕ) (p : Packet) (proto : ℕ) (payload : List ℕ) → (version o == 6) ≡ true → is_short o ≡ false
    → is_payload_wrong o ≡ false → upper_of (slice_index o 6) (drop 40 o) ≡ Ok (proto, payload) → packet_6 o proto payload ≡ p
    → view_of o ≡ Ok p
view_of-good_6 o p proto payload six long length upper e =
    view_of-6 o six
    ∙ ap (λ b. if b then Err faults.Short else view_of_6 o) long
    ∙ ap (λ b. if b then Err faults.Length else by_upper o (upper_of (slice_index o 6) (drop 40 o))) length
    ∙ ap (by_upper o) upper
    ∙ ap Ok e

-- three lists of which the lengths of the first two are known
take-first : (a b c : List ℕ) (n : ℕ) → length a ≡ n → take n (a ++ b ++ c) ≡ a
take-first a b c n size = ap (take n) (append_assoc a b c) ∙ take_at a (b ++ c) n size

take-second : (a b c : List ℕ) (n m : ℕ) → length a ≡ n → length b ≡ m → take m (drop n (a ++ b ++ c)) ≡ b
take-second a b c n m size other = ap (λ l. take m (drop n l)) (append_assoc a b c) ∙ ap (take m) (drop_at a (b ++ c) n size)
    ∙ take_at b c m other

length-both : (a b : List ℕ) (n m : ℕ) → length a ≡ n → length b ≡ m → length (a ++ b) ≡ n + m
length-both a b n m size other = omega (arith, length-append a b)

abbrev flags : Bool → ℕ
flags df = if df then 64 else 0

flags-rest : (df : Bool) → flags df % 64 ≡ 0
flags-rest true = refl
flags-rest false = refl

flags-df : (df : Bool) → ((flags df / 64) % 2 == 1) ≡ df
flags-df true = refl
flags-df false = refl

abbrev packet : List ℕ → List ℕ → Bool → List ℕ → Packet
packet src dst df payload = record { src = V4 src; dst = V4 dst; proto = 50; ports = None; df = df; payload = payload }

abbrev packet_of_6 : List ℕ → List ℕ → List ℕ → Packet
packet_of_6 src dst payload = record { src = V6 src; dst = V6 dst; proto = 50; ports = None; df = true; payload = payload }

sealed-4 : (o : Outer) (src dst payload : List ℕ) → length src ≡ 4 → length dst ≡ 4 → length payload ≡ o.payload
    → view_of (header_between o (V4 src) (V4 dst) ++ payload) ≡ Ok (packet src dst o.df payload)
sealed-4 o src dst payload ls ld told =
    let n : ℕ = o.payload + 20 in
    let sum : ℕ = sum_for (header_4 o (src ++ dst) 0) in
    let rest : List ℕ = src ++ dst ++ payload in
    let all : List ℕ = header_between o (V4 src) (V4 dst) ++ payload in
    let both : length (src ++ dst) ≡ 8 = length-both src dst 4 4 ls ld in
    let size : length rest ≡ 8 + o.payload = omega (arith, length-append (src ++ dst) payload) in
    let long : is_short all ≡ false = grind (arith, nat_tests) in
    let whole : is_length_wrong all ≡ false = grind (arith, nat_tests) in
    let header : take 20 all ≡ header_4 o (src ++ dst) sum = ap (λ l. header_4 o l sum) (take_at (src ++ dst) payload 8 both) in
    let right : is_sum_wrong all ≡ false =
    ap (λ l. not (words_sum l % 65535 == 0)) header
    ∙ ap (λ w. not (w == 0)) (words_sum-complete 69 0 (n / 256) (n % 256) (o.id / 256) (o.id % 256) (flags o.df) 0 64 50 (src ++ dst)) in
    let fragment : is_fragment all ≡ false = ap (λ w. not (w == 0) || not (0 == 0)) (flags-rest o.df) in
    let says : packet_4 all ≡ packet src dst o.df payload =
    ap (λ x. packet x (take 4 (drop 4 rest)) ((flags o.df / 64) % 2 == 1) (drop 8 rest)) (take-first src dst payload 4 ls)
    ∙ ap (λ x. packet src x ((flags o.df / 64) % 2 == 1) (drop 8 rest)) (take-second src dst payload 4 4 ls ld)
    ∙ ap (λ x. packet src dst x (drop 8 rest)) (flags-df o.df)
    ∙ ap (packet src dst o.df) (drop_at (src ++ dst) payload 8 both) in
    view_of-good_4 all (packet src dst o.df payload) refl long whole right fragment says

no_fragment : (next : ℕ) → next ≡ 50 → next ≢ 44
no_fragment next e h = absurd (omega arith)

sealed-6 : (o : Outer) (src dst payload : List ℕ) → length src ≡ 16 → length dst ≡ 16 → length payload ≡ o.payload
    → view_of (header_between o (V6 src) (V6 dst) ++ payload) ≡ Ok (packet_of_6 src dst payload)
sealed-6 o src dst payload ls ld told =
    let rest : List ℕ = src ++ dst ++ payload in
    let all : List ℕ = header_between o (V6 src) (V6 dst) ++ payload in
    let both : length (src ++ dst) ≡ 32 = length-both src dst 16 16 ls ld in
    let size : length rest ≡ 32 + o.payload = omega (arith, length-append (src ++ dst) payload) in
    let long : is_short all ≡ false = grind (arith, nat_tests) in
    let whole : is_payload_wrong all ≡ false = grind (arith, nat_tests) in
    let behind : drop 40 all ≡ payload = drop_at (src ++ dst) payload 32 both in
    let upper : upper_of 50 (drop 40 all) ≡ Ok (50, payload) = ap (upper_of 50) behind ∙ upper_of-end 50 payload refl (no_fragment 50 refl)
    in
    let says : packet_6 all 50 payload ≡ packet_of_6 src dst payload =
    ap (λ x. packet_of_6 x (take 16 (drop 16 rest)) payload) (take-first src dst payload 16 ls)
    ∙ ap (λ x. packet_of_6 src x payload) (take-second src dst payload 16 16 ls ld) in
    view_of-good_6 all (packet_of_6 src dst payload) 50 payload refl long whole upper says

-- a header between these addresses, and what it says with its payload
pub sealed : (o : Outer) (src dst : Addr) (payload : List ℕ) → AreOneFamily src dst → length payload ≡ o.payload
    → view_of (header_between o src dst ++ payload) ≡ Ok (record {
      src = src;
      dst = dst;
      proto = 50;
      ports = None;
      df =
          keeps_whole src o.df;
      payload = payload;
    })
sealed o (V4 src) (V4 dst) payload are told = sealed-4 o src dst payload are.0 are.1 told
sealed o (V4 src) (V6 dst) payload are told = absurd are
sealed o (V6 src) (V4 dst) payload are told = absurd are
sealed o (V6 src) (V6 dst) payload are told = sealed-6 o src dst payload are.0 are.1 told

pub sealed-size : (o : Outer) (src dst : Addr) → AreOneFamily src dst → length (header_between o src dst) ≡ header_size src
sealed-size o (V4 src) (V4 dst) are = let both = length-both src dst 4 4 are.0 are.1 in omega arith
sealed-size o (V4 src) (V6 dst) are = absurd are
sealed-size o (V6 src) (V4 dst) are = absurd are
sealed-size o (V6 src) (V6 dst) are = let both = length-both src dst 16 16 are.0 are.1 in omega arith

pub sealed-id : (o : Outer) (src dst rest : List ℕ) → o.src ≡ V4 src → o.dst ≡ V4 dst → number_at (header_between o o.src o.dst ++ rest) 4 ≡
    o.id
sealed-id o src dst rest es ed =
    let split : 256 * (o.id / 256) + o.id % 256 ≡ o.id = omega arith in
    ap (λ a. number_at (header_between o a o.dst ++ rest) 4) es ∙ ap (λ a. number_at (header_between o (V4 src) a ++ rest) 4) ed ∙ split
