use Rattle.std.proofs.Common.{◌≡◌, ℕ, List, arith, ap, ◌∙◌, ◌+◌, ◌-◌, take, drop, length}
use Rattle.std.proofs.lemmas.List.{take_rest}
use Rattle.yang_values.specs.Addresses.{longest_run, first_run}
use Rattle.yang_values.proofs.RunLemmas.{longest_run-empty, first_run-empty, longest_run-here, first_run-here, longest_run-later, first_run-later}
use Rattle.yang_values.proofs.groups.+longest.Goals as goal

-- the longest run of the groups but the first
tail : (gs : List ℕ) → longest_run (take (length gs - 1) (drop 1 gs)) ≡ longest_run (drop 1 gs)
tail gs = ap longest_run (take_rest gs 1)

pub returns-in-empty-clause-place : goal.returns-in-empty-clause-place
returns-in-empty-clause-place t c = first_run-empty _ _ c.in-empty.len_below

pub returns-in-empty-clause-length : goal.returns-in-empty-clause-length
returns-in-empty-clause-length t c = longest_run-empty _ c.in-empty.len_below

pub returns-then-here-length-clause-place : goal.returns-then-here-length-clause-place
returns-then-here-length-clause-place t c =
    first_run-here _ c.in-len1-up.len_at_least
    (omega (arith, tail c.args.groups.now, c.longest-place.ensures.length, c.zeros-here.ensures.value))

pub returns-then-here-length-clause-length : goal.returns-then-here-length-clause-length
returns-then-here-length-clause-length t c =
    c.zeros-here.ensures.value
    ∙ longest_run-here _ c.in-len1-up.len_at_least
    (omega (arith, tail c.args.groups.now, c.longest-place.ensures.length, c.zeros-here.ensures.value))

pub returns-else-here-length-clause-place : goal.returns-else-here-length-clause-place
returns-else-here-length-clause-place t c =
    ap (λ k. k + 1) (c.longest-place.ensures.place ∙ ap (λ r. first_run (longest_run r) r) (take_rest c.args.groups.now 1))
    ∙ first_run-later _ c.in-len1-up.len_at_least
    (omega (arith, tail c.args.groups.now, c.longest-place.ensures.length, c.zeros-here.ensures.value))

pub returns-else-here-length-clause-length : goal.returns-else-here-length-clause-length
returns-else-here-length-clause-length t c =
    c.longest-place.ensures.length ∙ tail c.args.groups.now
    ∙ longest_run-later _ c.in-len1-up.len_at_least
    (omega (arith, tail c.args.groups.now, c.longest-place.ensures.length, c.zeros-here.ensures.value))
