-- What AES, AES-GCM and ESP make of octets are octets.
use Rattle.std.proofs.Common.{◌≡◌, ℕ, zero, suc, ◌+◌, ◌-◌, ◌*◌, ◌/◌, ◌%◌, ◌<◌, ◌==◌, ◌&&◌, cond, Bool, true, false, nat_le, List, [], ◌∷◌, ◌++◌, length, take, slice_index, bit_xor, Some, None, subst, arith, if◌then◌else◌}
use Rattle.std.specs.Prelude.{slice_index_or}
use Rattle.std.specs.List.{AllByRecursion, range_with_len}
use Rattle.std.specs.Int.{bit_at, to_be_bytes, to_le_bytes, w32, w64, w128}
use Rattle.std.specs.Str.{bytes_eq}
use Rattle.std.proofs.lemmas.List.Elements.{All-append, All-drop, All-take}
use Rattle.std.proofs.lemmas.Nat.Bits.{bit_at-lt}
use Rattle.gf_poly.proofs.Field.{power-lt}
use Rattle.aes_block.specs.Aes.{add_key, add_words, aes, after_rounds, affine_bit, cipher, first_words, inverse, key_word, next_word, octet, rotate_word, round_constant, s_box, shift_rows, sub_octets, sub_word, turned, words}
use Rattle.gcm_seal.specs.Gcm.{block_of, counter, ghash, hash_key, reversed, sealed, stream, tag_of}
use Rattle.esp_frame.specs.Esp.{Keying, aad_of, esp, icv_of, iv_of, keying, pad_len, padded, padding, text_of}
use Rattle.esp_frame.specs.Open.{InnerPacket, inner_packet, opened}
use Rattle.ikeless_tree.specs.Typed.{AreOctets}
use Rattle.acts_spell.proofs.Octets.{IsOctet, bits-octet, long-octets, mapped, none, octet-at, of-each, ranged, word-octets, xor-octet}
use Rattle.acts_spell.proofs.Each.{each-append, some-is}

-- ---- AES

affine-small : (b i : ℕ) → affine_bit b i < 2
affine-small b i = omega arith

pub box-octet : (b : ℕ) → s_box b < 256
unfolding s_box
box-octet b = bits-octet (affine_bit (inverse b)) (affine-small (inverse b))

constant-octet : (i : ℕ) → round_constant i < 256
constant-octet i = power-lt 8 0x1b (omega arith) (omega arith) 2 i

-- each word of a schedule
abbrev AreWords : List (List ℕ) → Type 0
AreWords ws = AllByRecursion AreOctets ws

word-at : (ws : List (List ℕ)) (i : ℕ) → AreWords ws → AreOctets (slice_index_or ws i [])
word-at [] i h = none
word-at (w ∷ ws) zero h = h.0
word-at (w ∷ ws) (suc i) h = word-at ws i h.1

added : (v w : List ℕ) → AreOctets v → AreOctets w → AreOctets (add_words v w)
added v w p q =
    mapped (λ k. bit_xor (slice_index v k) (slice_index w k)) (range_with_len 0 4)
    (λ k. xor-octet (slice_index v k) (slice_index w k) (octet-at v k p) (octet-at w k q))

sub-word : (w : List ℕ) → AreOctets (sub_word w)
sub-word w = mapped (λ k. s_box (slice_index w k)) (range_with_len 0 4) (λ k. box-octet (slice_index w k))

either : (b : Bool) (v w : List ℕ) → AreOctets v → AreOctets w → AreOctets (cond b v w)
either true v w p q = p
either false v w p q = q

turned-octets : (n i : ℕ) (t : List ℕ) → AreOctets t → AreOctets (turned n i t)
turned-octets n i t h =
    let c : ℕ = round_constant (i / n - 1) in
    let z : 0 < 256 = omega arith in
    either (i % n == 0) _ _
    (added (sub_word (rotate_word t)) (c ∷ 0 ∷ 0 ∷ 0 ∷ []) (sub-word (rotate_word t))
    (of-each (c ∷ 0 ∷ 0 ∷ 0 ∷ []) (constant-octet (i / n - 1), (z, (z, (z, tt))))))
    (either (n == 8) _ _ (either (i % 8 == 4) _ _ (sub-word t) h) h)

first-words : (k : List ℕ) (n : ℕ) → AreOctets k → AreWords (first_words k n)
unfolding first_words
first-words k zero h = tt
first-words k (suc n) h =
    each-append AreOctets (first_words k n) (key_word k n ∷ []) (first-words k n h)
    (mapped (λ j. slice_index k (4 * n + j)) (range_with_len 0 4) (λ j. octet-at k (4 * n + j) h), tt)

schedule-words : (n : ℕ) (k : List ℕ) (i : ℕ) → AreOctets k → AreWords (words n k i)
unfolding words
schedule-words n k zero h = first-words k n h
schedule-words n k (suc i) h =
    let ws : List (List ℕ) = words n k i in
    let before = schedule-words n k i h in
    each-append AreOctets ws (next_word n ws (n + i) ∷ []) before (
      added (slice_index_or ws (n + i - n) []) (turned n (n + i) (slice_index_or ws (n + i - 1) [])) (word-at ws (n + i - n) before)
          (turned-octets n (n + i) (slice_index_or ws (n + i - 1) []) (word-at ws (n + i - 1) before)),
      tt,
    )

sub-octets : (b : List ℕ) → AreOctets (sub_octets b)
sub-octets b = mapped (λ k. s_box (octet b (k % 4) (k / 4))) (range_with_len 0 16) (λ k. box-octet (octet b (k % 4) (k / 4)))

shifted : (b : List ℕ) → AreOctets b → AreOctets (shift_rows b)
shifted b h =
    mapped (λ k. octet b (k % 4) ((k / 4 + k % 4) % 4)) (range_with_len 0 16) (λ k. octet-at b (k % 4 + 4 * ((k / 4 + k % 4) % 4)) h)

keyed : (ws : List (List ℕ)) (i : ℕ) (b : List ℕ) → AreWords ws → AreOctets b → AreOctets (add_key ws i b)
keyed ws i b h o =
    mapped (λ k. bit_xor (octet b (k % 4) (k / 4)) (slice_index (slice_index_or ws (4 * i + k / 4) []) (k % 4))) (range_with_len 0 16)
    (λ k. xor-octet (octet b (k % 4) (k / 4)) (slice_index (slice_index_or ws (4 * i + k / 4) []) (k % 4))
    (octet-at b (k % 4 + 4 * (k / 4)) o)
    (octet-at (slice_index_or ws (4 * i + k / 4) []) (k % 4) (word-at ws (4 * i + k / 4) h)))

ciphered : (ws : List (List ℕ)) (n : ℕ) (b : List ℕ) → AreWords ws → AreOctets (cipher ws n b)
unfolding cipher
ciphered ws n b h =
    let c : List ℕ = after_rounds ws b (n - 1) in
    keyed ws n (shift_rows (sub_octets c)) h (shifted (sub_octets c) (sub-octets c))

pub aes-octets : (n : ℕ) (k b : List ℕ) → AreOctets k → AreOctets (aes n k b)
unfolding aes
aes-octets n k b h = ciphered (words n k (4 * (n + 7) - n)) (n + 6) b (schedule-words n k (4 * (n + 7) - n) h)

-- ---- AES-GCM

-- the cipher gives octets
abbrev pub IsCipher : (List ℕ → List ℕ) → Type 0
IsCipher e = (b : List ℕ) → AreOctets (e b)

reversed-octet : (o : ℕ) → reversed o < 256
unfolding reversed
reversed-octet o = bits-octet (λ k. bit_at o (7 - k)) (λ k. bit_at-lt o (7 - k))

block-octets : (p : ℕ) → AreOctets (block_of p)
unfolding block_of
block-octets p =
    mapped (λ j. reversed (slice_index (to_le_bytes w128 p) j)) (range_with_len 0 16)
    (λ j. reversed-octet (slice_index (to_le_bytes w128 p) j))

pub sealed-octets : (e : List ℕ → List ℕ) (nonce p : List ℕ) → IsCipher e → AreOctets p → AreOctets (sealed e nonce p)
unfolding sealed
sealed-octets e nonce p c h = mapped (λ k. bit_xor (slice_index p k) (stream e nonce k)) (range_with_len 0 (length p))
    (λ k. xor-octet (slice_index p k) (stream e nonce k) (octet-at p k h) (octet-at (e (counter nonce (k / 16 + 1))) (k % 16)
    (c (counter nonce (k / 16 + 1)))))

tag-octets : (e : List ℕ → List ℕ) (nonce aad t : List ℕ) → IsCipher e → AreOctets (tag_of e nonce aad t)
unfolding tag_of
tag-octets e nonce aad t c =
    let a : List ℕ = e (counter nonce 0) in
    let b : List ℕ = block_of (ghash (hash_key e) aad t) in
    mapped (λ j. bit_xor (slice_index a j) (slice_index b j)) (range_with_len 0 16)
    (λ j. xor-octet (slice_index a j) (slice_index b j) (octet-at a j (c (counter nonce 0)))
    (octet-at b j (block-octets (ghash (hash_key e) aad t))))

-- ---- ESP

pub keying-cipher : (spi : ℕ) (key : List ℕ) → AreOctets key → IsCipher (keying spi key).cipher
unfolding keying
keying-cipher spi key h = λ b. aes-octets ((length key - 4) / 4) (take (length key - 4) key) b (All-take IsOctet (length key - 4) key h)

padded-octets : (n next : ℕ) (p : List ℕ) → next < 256 → AreOctets p → AreOctets (padded (pad_len n) next p)
padded-octets n next p l h =
    let few : pad_len n < 4 = omega arith in
    let small : pad_len n < 256 = omega (arith, few) in
    All-append IsOctet (p ++ padding (pad_len n)) (pad_len n ∷ next ∷ [])
    (All-append IsOctet p (padding (pad_len n)) h (ranged 1 (pad_len n) (omega (arith, few))))
    (of-each (pad_len n ∷ next ∷ []) (small, (l, tt)))

pub esp-octets : (k : Keying) (s next : ℕ) (p : List ℕ) → IsCipher k.cipher → next < 256 → AreOctets p → AreOctets (esp k s next p)
unfolding esp
esp-octets k s next p c l h =
    let aad : List ℕ = to_be_bytes w32 k.spi ++ to_be_bytes w32 s in
    let iv : List ℕ = to_be_bytes w64 s in
    let t : List ℕ = sealed k.cipher (k.salt ++ iv) (padded (pad_len (length p)) next p) in
    let tag : List ℕ = tag_of k.cipher (k.salt ++ iv) aad t in
    let front = All-append IsOctet (to_be_bytes w32 k.spi) (to_be_bytes w32 s) (word-octets k.spi) (word-octets s) in
    let text = sealed-octets k.cipher (k.salt ++ iv) (padded (pad_len (length p)) next p) c (padded-octets (length p) next p l h) in
    All-append IsOctet ((aad ++ iv) ++ t) tag (All-append IsOctet (aad ++ iv) t (All-append IsOctet aad iv front (long-octets s)) text)
    (tag-octets k.cipher (k.salt ++ iv) aad t c)

-- the text that octets open to
opened-if : (b : Bool) (x y : List ℕ) → AreOctets x → (if b then Some x else None) ≡ Some y → AreOctets y
opened-if true x y h e = subst AreOctets (some-is x y e) h
opened-if false x y h e = cc

pub opened-octets : (k : Keying) (b x : List ℕ) → IsCipher k.cipher → AreOctets b → opened k b ≡ Some x → AreOctets x
unfolding opened
opened-octets k b x c h e =
    opened-if (nat_le 34 (length b) && bytes_eq (icv_of b) (tag_of k.cipher (k.salt ++ iv_of b) (aad_of b) (text_of b)))
    (sealed k.cipher (k.salt ++ iv_of b) (text_of b)) x
    (sealed-octets k.cipher (k.salt ++ iv_of b) (text_of b) c (All-take IsOctet _ _ (All-drop IsOctet 16 b h))) e

-- and the packet in it
packet-if : (b : Bool) (p q : InnerPacket) → AreOctets p.octets → (if b then Some p else None) ≡ Some q → AreOctets q.octets
packet-if true p q h e = subst (λ (z : InnerPacket). AreOctets z.octets) (some-is p q e) h
packet-if false p q h e = cc

pub inner-octets : (x : List ℕ) (p : InnerPacket) → AreOctets x → inner_packet x ≡ Some p → AreOctets p.octets
unfolding inner_packet
inner-octets x p h e = packet-if _ _ p (All-take IsOctet _ x h) e
