-- The words that stand for limits of lifetimes (RFC 4301 section 4.4.2.1).
use Rattle.std.specs.Prelude.{ℕ, ◌-◌, ◌^◌, List, [], ◌∷◌, Result, Ok, Err}
use Rattle.std.specs.List.{slice_split}
use Rattle.ikl_base.specs.declared.status.LineFault.{LineFault}
use Rattle.ikeless_tree.specs.declared.sad.Limits.{Limits}
use Rattle.yang_values.specs.Prefixes.{is_slash}
use Rattle.line_words.specs.declared.lifetimes.Lifetimes.{Lifetimes}
use Rattle.line_words.specs.Words.{◌>>=◌, number_in}

-- A time in seconds, octets, packets and an idle time in seconds; octets are below 2^64, the others below 2^32, and 0 is no limit.
unfoldable pub counts_of : LineFault → List ℕ → List ℕ → List ℕ → List ℕ → Result Limits LineFault
counts_of fault time bytes packets idle =
    number_in fault (2 ^ 32 - 1) time >>=
    (λ t. number_in fault (2 ^ 64 - 1) bytes >>=
    (λ b. number_in fault (2 ^ 32 - 1) packets >>= (λ p. number_in fault (2 ^ 32 - 1) idle >>= (λ i.
    Ok (record { time = t; bytes = b; packets = p; idle = i })))))

-- four numbers with slashes between them: seconds, octets, packets and idle seconds
unfoldable pub limits_in : LineFault → List (List ℕ) → Result Limits LineFault
limits_in fault (time ∷ bytes ∷ packets ∷ idle ∷ []) = counts_of fault time bytes packets idle
limits_in fault _ = Err fault

-- one word, with slashes between its four numbers
abbrev pub limits_of : LineFault → List ℕ → Result Limits LineFault
limits_of fault w = limits_in fault (slice_split is_slash w)

-- the hard limits, then the soft ones
unfoldable pub lifetimes_of : LineFault → List ℕ → List ℕ → Result Lifetimes LineFault
lifetimes_of fault hard soft = limits_of fault hard >>= (λ h. limits_of fault soft >>= (λ s. Ok (record { hard = h; soft = s })))
