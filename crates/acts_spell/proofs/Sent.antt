-- What was sent and comes again is octets, as it was, with a bit changed, or with another time to live.
use Rattle.std.proofs.Common.{◌≡◌, ℕ, zero, suc, ◌+◌, ◌-◌, ◌/◌, ◌%◌, ◌<◌, ◌≤◌, ◌==◌, Bool, true, false, List, [], ◌∷◌, refl, arith, if◌then◌else◌}
use Rattle.std.specs.List.{AllByRecursion}
use Rattle.ikeless_tree.specs.Typed.{AreOctets}
use Rattle.ikeless_tree.specs.declared.command.Peer.{Peer}
use Rattle.hist_acts.specs.declared.act.Act.{Act}
use Rattle.hist_acts.specs.declared.act.Act.TheVariants as acts
use Rattle.hist_world.specs.Arrivals.{flipped, sent_at, sent_count, with_bit}
use Rattle.acts_spell.proofs.Each.{each-if, either-has}
use Rattle.acts_spell.proofs.Octets.{IsOctet, each-of, none, of-each}
use Rattle.acts_spell.proofs.Found.{AreSpelled}

pub sent-octets : (gs : List Peer) (k : ℕ) (h : List Act) → AreSpelled gs h → AreOctets (sent_at k h)
sent-octets gs k [] l = none
sent-octets gs k (acts.Sent f y n o ∷ h) l = either-has AreOctets (k == sent_count h + 1) o (sent_at k h) l.0.1.1 (sent-octets gs k h l.1)
sent-octets gs k (a ∷ h) l = sent-octets gs k h l.1

-- a number of eight bits with one of them changed
by-bit : (b : Bool) (x p : ℕ) → (b ≡ true → x + p < 256) → x < 256 → (if b then x + p else x - p) < 256
by-bit true x p f l = f refl
by-bit false x p f l = omega (arith, l)

bit-octet : (bit x : ℕ) → bit ≤ 7 → x < 256 → with_bit bit x < 256
bit-octet zero x b l = by-bit ((x / 1) % 2 == 0) x 1 (λ e. grind (arith, e, l)) l
bit-octet (suc zero) x b l = by-bit ((x / 2) % 2 == 0) x 2 (λ e. grind (arith, e, l)) l
bit-octet (suc (suc zero)) x b l = by-bit ((x / 4) % 2 == 0) x 4 (λ e. grind (arith, e, l)) l
bit-octet (suc (suc (suc zero))) x b l = by-bit ((x / 8) % 2 == 0) x 8 (λ e. grind (arith, e, l)) l
bit-octet (suc (suc (suc (suc zero)))) x b l = by-bit ((x / 16) % 2 == 0) x 16 (λ e. grind (arith, e, l)) l
bit-octet (suc (suc (suc (suc (suc zero))))) x b l = by-bit ((x / 32) % 2 == 0) x 32 (λ e. grind (arith, e, l)) l
bit-octet (suc (suc (suc (suc (suc (suc zero)))))) x b l = by-bit ((x / 64) % 2 == 0) x 64 (λ e. grind (arith, e, l)) l
bit-octet (suc (suc (suc (suc (suc (suc (suc zero))))))) x b l = by-bit ((x / 128) % 2 == 0) x 128 (λ e. grind (arith, e, l)) l
bit-octet (suc (suc (suc (suc (suc (suc (suc (suc n)))))))) x b l = absurd (omega (arith, b))

flipped-each : (offset bit : ℕ) (o : List ℕ) → bit ≤ 7 → AllByRecursion IsOctet o → AllByRecursion IsOctet (flipped offset bit o)
flipped-each offset bit [] b h = tt
flipped-each offset bit (x ∷ xs) b h =
    each-if IsOctet (offset == 0) (with_bit bit x ∷ xs) (x ∷ flipped (offset - 1) bit xs) (bit-octet bit x b h.0, h.1)
    (h.0, flipped-each (offset - 1) bit xs b h.1)

pub flipped-octets : (offset bit : ℕ) (o : List ℕ) → bit ≤ 7 → AreOctets o → AreOctets (flipped offset bit o)
flipped-octets offset bit o b h = of-each (flipped offset bit o) (flipped-each offset bit o b (each-of o h))
