-- The ESP octets of a datagram are octets, and so the number in them is one of 32 bits.
use Rattle.std.proofs.Common.{◌≡◌, ℕ, zero, suc, ◌+◌, ◌*◌, ◌^◌, ◌<◌, ◌==◌, Bool, true, false, nat_lt, List, drop, length, slice_index, slice_range, Result, Ok, Err, refl, arith, if◌then◌else◌}
use Rattle.std.proofs.lemmas.List.{get_or_past}
use Rattle.std.proofs.lemmas.List.Elements.{All-drop, All-nil, All-take}
use Rattle.ip_packet.specs.declared.packet.NotPacket.{NotPacket}
use Rattle.ip_packet.specs.declared.packet.NotPacket.TheVariants as faults
use Rattle.ip_packet.specs.Field.{version}
use Rattle.ip_packet.specs.Ipv4.{header_length, is_fragment, is_length_wrong, is_sum_wrong}
use Rattle.ip_packet.specs.Ipv6.{extension_length, is_extension, is_payload_wrong, passes_end, upper_of, upper_step, upper_within}
use Rattle.ip_packet.specs.View.{Packet, by_upper, is_short, packet_4, view_of, view_of_4, view_of_6}
use Rattle.esp_frame.specs.Esp.{seq_of}
use Rattle.ikeless_tree.specs.Typed.{AreOctets}
use Rattle.hist_halves.specs.Sealed.{esp_of, payload_of}

-- ---- what is seen of a packet

abbrev OctetsAbove : Result (ℕ × List ℕ) NotPacket → Type 0
OctetsAbove (Ok upper) = AreOctets upper.1
OctetsAbove (Err fault) = Unit {0}

above-if : (b : Bool) (x y : Result (ℕ × List ℕ) NotPacket) → OctetsAbove x → OctetsAbove y → OctetsAbove (if b then x else y)
above-if true x y p q = p
above-if false x y p q = q

step-octets : (next : ℕ) (o : List ℕ) (after : Result (ℕ × List ℕ) NotPacket) → AreOctets o → OctetsAbove after
    → OctetsAbove (upper_step next o after)
step-octets next o after all rest =
    above-if (next == 44) (Err faults.Fragment) (if is_extension next then (if passes_end o then Err faults.Length else after) else Ok
    (next, o)) tt
    (above-if (is_extension next) (if passes_end o then Err faults.Length else after) (Ok (next, o))
    (above-if (passes_end o) (Err faults.Length) after tt rest) all)

within-octets : (n next : ℕ) (o : List ℕ) → AreOctets o → OctetsAbove (upper_within n next o)
within-octets zero next o all = step-octets next o (Err faults.Length) all tt
within-octets (suc n) next o all =
    let rest : List ℕ = drop (extension_length o) o in
    step-octets next o (upper_within n (slice_index o 0) rest) all
    (within-octets n (slice_index o 0) rest (All-drop (λ z. z < 256) (extension_length o) o all))

upper-octets : (next : ℕ) (o : List ℕ) → AreOctets o → OctetsAbove (upper_of next o)
unfolding upper_of
upper-octets next o all = within-octets (length o) next o all

abbrev OctetsIn : Result Packet NotPacket → Type 0
OctetsIn (Ok v) = AreOctets v.payload
OctetsIn (Err fault) = Unit {0}

in-if : (b : Bool) (x y : Result Packet NotPacket) → OctetsIn x → OctetsIn y → OctetsIn (if b then x else y)
in-if true x y p q = p
in-if false x y p q = q

by-upper : (o : List ℕ) (r : Result (ℕ × List ℕ) NotPacket) → OctetsAbove r → OctetsIn (by_upper o r)
by-upper o (Ok upper) p = p
by-upper o (Err fault) p = tt

four-octets : (o : List ℕ) → AreOctets o → OctetsIn (view_of_4 o)
four-octets o all =
    in-if (is_length_wrong o) (Err faults.Length)
    (if is_sum_wrong o then Err faults.HeaderSum else if is_fragment o then Err faults.Fragment else Ok (packet_4 o)) tt
    (in-if (is_sum_wrong o) (Err faults.HeaderSum) (if is_fragment o then Err faults.Fragment else Ok (packet_4 o)) tt
    (in-if (is_fragment o) (Err faults.Fragment) (Ok (packet_4 o)) tt (All-drop (λ z. z < 256) (header_length o) o all)))

six-octets : (o : List ℕ) → AreOctets o → OctetsIn (view_of_6 o)
six-octets o all =
    in-if (is_payload_wrong o) (Err faults.Length) (by_upper o (upper_of (slice_index o 6) (drop 40 o))) tt
    (by-upper o (upper_of (slice_index o 6) (drop 40 o)) (upper-octets (slice_index o 6) (drop 40 o) (All-drop (λ z. z < 256) 40 o all)))

view-octets : (o : List ℕ) → AreOctets o → OctetsIn (view_of o)
unfolding view_of
view-octets o all =
    in-if (is_short o) (Err faults.Short)
    (if version o == 4 then view_of_4 o else if version o == 6 then view_of_6 o else Err faults.Version) tt
    (in-if (version o == 4) (view_of_4 o) (if version o == 6 then view_of_6 o else Err faults.Version) (four-octets o all)
    (in-if (version o == 6) (view_of_6 o) (Err faults.Version) (six-octets o all) tt))

payload-octets : (r : Result Packet NotPacket) → OctetsIn r → AreOctets (payload_of r)
payload-octets (Ok v) p = p
payload-octets (Err fault) p = All-nil (λ z. z < 256)

pub esp-octets : (o : List ℕ) → AreOctets o → AreOctets (esp_of o)
esp-octets o all = payload-octets (view_of o) (view-octets o all)

-- ---- the number

octet-at : (xs : List ℕ) (k : ℕ) → AreOctets xs → slice_index xs k < 256
octet-at xs k all = by-place (nat_lt k (length xs)) refl where
  by-place : (b : Bool) → nat_lt k (length xs) ≡ b → slice_index xs k < 256
  by-place true e = all k 0 (grind (arith, e))
  by-place false e = let past : slice_index xs k ≡ 0 = get_or_past xs k 0 (grind (arith, e)) in omega (arith, past)

four-bytes : (a b c d : ℕ) → a < 256 → b < 256 → c < 256 → d < 256 → a * 16777216 + b * 65536 + c * 256 + d < 2 ^ 32
four-bytes a b c d p q r s = omega arith

pub number-small : (xs : List ℕ) → AreOctets xs → seq_of xs < 2 ^ 32
number-small xs all =
    let ys : List ℕ = slice_range xs 4 8 in
    let low : AreOctets ys = All-take (λ z. z < 256) 4 (drop 4 xs) (All-drop (λ z. z < 256) 4 xs all) in
    four-bytes (slice_index ys 0) (slice_index ys 1) (slice_index ys 2) (slice_index ys 3) (octet-at ys 0 low) (octet-at ys 1 low)
    (octet-at ys 2 low) (octet-at ys 3 low)
