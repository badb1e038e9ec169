use Rattle.std.proofs.Common.{◌≡◌, ◌<◌, ◌+◌, ◌-◌, ℕ, true, false, Some, length, sym, ap, ◌∙◌, arith}
use Rattle.ip_packet.specs.View.{seen}
use Rattle.sad_store.proofs.PlaceLemmas.{newest-back}
use Rattle.sad_store.proofs.find.newest_up_to.Goals as goal

pub loop-i-preserved : goal.loop-i-preserved
loop-i-preserved c =
    let i : ℕ = c.loop-i.i in
    let j : ℕ = i - 1 in
    let front = c.loop-i.invariant.front in
    let some = c.loop-i-test.true in
    let next : j + 1 ≡ i = omega arith in
    let within : j < length c.args.halves.now = omega arith in
    record {
      front = omega arith;
      rest = newest-back c.args.reqid (seen c.args.v.now) c.args.halves.now i j false next within c.loop-i.invariant.rest
          (c.seals_at.ensures ∙ ap Some c.if-seals_at.false);
    }

pub returns-then-seals_at : goal.returns-then-seals_at
returns-then-seals_at c =
    let i : ℕ = c.loop-i.i in
    let j : ℕ = i - 1 in
    let front = c.loop-i.invariant.front in
    let some = c.loop-i-test.true in
    let next : j + 1 ≡ i = omega arith in
    let within : j < length c.args.halves.now = omega arith in
    sym (newest-back c.args.reqid (seen c.args.v.now) c.args.halves.now i j true next within c.loop-i.invariant.rest (c.seals_at.ensures
    ∙ ap Some c.if-seals_at.true))
