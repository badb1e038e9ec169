use Rattle.std.proofs.Common.{◌≡◌, ◌-◌, ◌/◌, ◌^◌, refl, ◌==◌, ◌&&◌, true, false, length, get_or, take, drop, sym, ap, ◌∙◌, eq-eqb, arith}
use Rattle.std.proofs.lemmas.List.{take_rest}
use Rattle.std.proofs.lemmas.Bool.Decides.{nat_tests}
use Rattle.spd_match.specs.Match.{agree}
use Rattle.spd_match.proofs.BitsLemmas.{agree-on, agree-within, all-small}
use Rattle.spd_match.proofs.+agreement.Goals as goal

pub returns-then-x-y : goal.returns-then-x-y
returns-then-x-y t c =
    let xs = c.args.xs.now in
    let ys = c.args.ys.now in
    let same : (get_or xs 0 0 == get_or ys 0 0) ≡ true = eq-eqb (get_or xs 0 0) (get_or ys 0 0) c.if-x-y.true in
    c.agreement.ensures
    ∙ ap (λ b. b && agree (c.args.bits - 8) (take (length xs - 1) (drop 1 xs)) (take (length ys - 1) (drop 1 ys))) (sym same)
    ∙ agree-on c.args.bits xs ys _ _ c.requires (all-small xs c.type_inv.xs) (all-small ys c.type_inv.ys) c.in-len1-up.len_at_least
    (take_rest xs 1) (take_rest ys 1) c.if-bits-ge8.true

pub returns-else-x-y : goal.returns-else-x-y
returns-else-x-y t c =
    let xs = c.args.xs.now in
    let ys = c.args.ys.now in
    let apart : (get_or xs 0 0 == get_or ys 0 0) ≡ false = grind (arith, nat_tests, c.if-x-y.false) in
    apart ∙ ap (λ b. b && agree (c.args.bits - 8) (drop 1 xs) (drop 1 ys)) (sym apart)
    ∙ agree-on c.args.bits xs ys (drop 1 xs) (drop 1 ys) c.requires (all-small xs c.type_inv.xs) (all-small ys c.type_inv.ys)
    c.in-len1-up.len_at_least refl refl c.if-bits-ge8.true

pub returns-else-bits-ge8 : goal.returns-else-bits-ge8
returns-else-bits-ge8 t c =
    let xs = c.args.xs.now in
    let ys = c.args.ys.now in
    ap (λ n. (n / 2 ^ (8 - c.args.bits)) == (c.from-else-bits-ge8.result / 2 ^ (8 - c.args.bits))) c.from.ensures
    ∙ ap (λ n. (get_or xs 0 0 / 2 ^ (8 - c.args.bits)) == (n / 2 ^ (8 - c.args.bits))) c.from-else-bits-ge8.ensures
    ∙ agree-within c.args.bits xs ys c.requires (all-small xs c.type_inv.xs) (all-small ys c.type_inv.ys) c.in-len1-up.len_at_least
    c.if-bits-ge8.false
