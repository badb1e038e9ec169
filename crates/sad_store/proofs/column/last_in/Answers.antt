use Rattle.std.proofs.Common.{◌≡◌, ◌<◌, ◌+◌, ◌-◌, ℕ, true, false, Some, length, sym, ap, ◌∙◌, arith}
use Rattle.sad_store.proofs.ColumnLemmas.{last-back}
use Rattle.sad_store.proofs.column.last_in.Goals as goal

pub loop-i-preserved : goal.loop-i-preserved
loop-i-preserved c =
    let i : ℕ = c.loop-i.i in
    let j : ℕ = i - 1 in
    let front = c.loop-i.invariant.front in
    let some = c.loop-i-test.true in
    let next : j + 1 ≡ i = omega arith in
    let within : j < length c.args.keys.now = omega arith in
    record {
      front = omega arith;
      rest = last-back c.args.key c.args.keys.now i j false next within c.loop-i.invariant.rest (c.is_at.ensures
          ∙ ap Some c.if-is_at.false);
    }

pub returns-then-is_at : goal.returns-then-is_at
returns-then-is_at c =
    let i : ℕ = c.loop-i.i in
    let j : ℕ = i - 1 in
    let front = c.loop-i.invariant.front in
    let some = c.loop-i-test.true in
    let next : j + 1 ≡ i = omega arith in
    let within : j < length c.args.keys.now = omega arith in
    sym (last-back c.args.key c.args.keys.now i j true next within c.loop-i.invariant.rest (c.is_at.ensures ∙ ap Some c.if-is_at.true))
