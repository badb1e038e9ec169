-- Counts that stop.
use Rattle.std.proofs.Common.{◌≡◌, ℕ, ◌+◌, Bool, ap, ◌∙◌, arith}
use Rattle.ikeless_tree.specs.declared.sad.Limits.{Limits}
use Rattle.life_count.specs.Lifetime.{Lifetime, cut, cut_32, cut_64, counted}

-- counts stop once, whether they are cut at the end or on the way
pub cut-more : (most n k : ℕ) → cut most (n + k) ≡ cut most (cut most n + k)
cut-more most n k = grind arith

-- a lifetime with these counts, of which none is cut yet
abbrev pub life-with : Limits → Limits → ℕ → ℕ → ℕ → ℕ → Bool → Lifetime
life-with hard soft installed used octets times is_told = record {
  hard = hard;
  soft = soft;
  installed = installed;
  used = used;
  octets = cut_64 octets;
  packets = cut_32 times;
  is_told = is_told;
}

abbrev life-cut : Limits → Limits → ℕ → ℕ → ℕ → ℕ → Bool → Lifetime
life-cut hard soft installed used octets packets is_told =
    record { hard = hard; soft = soft; installed = installed; used = used; octets = octets; packets = packets; is_told = is_told }

-- one more use
pub counted-life : (hard soft : Limits) (installed used now octets times size : ℕ) (is_told : Bool) →
    life-with hard soft installed now (octets + size) (times + 1) is_told ≡ counted size now
    (life-with hard soft installed used octets times is_told)
counted-life hard soft installed used now octets times size is_told =
    ap (λ n. life-cut hard soft installed now n (cut_32 (times + 1)) is_told) (cut-more 18446744073709551615 octets size)
    ∙ ap (λ n. life-cut hard soft installed now (cut_64 (cut_64 octets + size)) n is_told) (cut-more 4294967295 times 1)
