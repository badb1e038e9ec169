use Rattle.std.proofs.Common.{◌≡◌, ℕ, List, [], ◌++◌, take, refl, sym, subst, length-append, arith}
use Rattle.ikl_base.specs.Outside.{Loses}
use Rattle.ikeless_cli.specs.Reader.{Reads, State}
use Rattle.ikeless_cli.proofs.Bytes.{gains_more, gains_none, loses_more, loses_no_more, loses_none}
use Rattle.ikeless_cli.proofs.Ends.{at-end-after, ends-fault, ends-read}
use Rattle.ikeless_cli.proofs.Going.{reads-none, sink-none, sink-on}
use Rattle.ikeless_cli.proofs.replay.run.Goals as goal

pub turns-init : goal.turns-init
turns-init g c =
    let P : State → Type 0 = λ x. Reads [] [] x in
    record {
      so_far = ([], [], loses_none _, gains_none _, subst P (sym c.new-reader.ensures) reads-none, omega arith);
      size = refl;
      source = omega arith;
      sink = sink-none _ _;
    }

pub returns-in-Err-clause-ran : goal.returns-in-Err-clause-ran
returns-in-Err-clause-ran g c =
    let inv = c.turns.invariant.so_far in
    (inv.0, inv.1, loses_no_more _ _ _ _ inv.2 c.in-Err.ensures.gives, inv.3, ends-fault (g.S.Source.left c.read.new.self) _ _ _ inv.4)

pub returns-then-n-eq0-clause-ran : goal.returns-then-n-eq0-clause-ran
returns-then-n-eq0-clause-ran g c =
    let inv = c.turns.invariant.so_far in
    let P : ℕ → Type 0 = λ n. Loses (g.S.Source.left c.turns.input) (g.S.Source.left c.read.new.self) (take n c.read.new.buf) in
    let none = subst P c.if-n-eq0.true c.in-Ok.ensures.gives.octets in (
      inv.0,
      inv.1,
      loses_no_more _ _ _ _ inv.2 none,
      inv.3,
      c.at_end.ensures.ran inv.0 inv.1 _ inv.4
          (at-end-after _ _ (c.in-Ok.ensures.gives.end c.if-n-eq0.true (let size = c.turns.invariant.size in let kept = c.read.auto.buf in
          omega (arith, size, kept))) none),
    )

pub returns-in-Err-take_piece-clause-ran : goal.returns-in-Err-take_piece-clause-ran
returns-in-Err-take_piece-clause-ran g c =
    let inv = c.turns.invariant.so_far in
    let piece : List ℕ = c.split_at.result.0.now in
    let e : take c.in-Ok.n c.read.new.buf ≡ piece = cc in
    let P : List ℕ → Type 0 = λ x. Loses (g.S.Source.left c.turns.input) (g.S.Source.left c.read.new.self) x in
    let step = c.in-Err-take_piece.ensures.takes.0 inv.0 inv.1 inv.4 in (
      inv.0 ++ piece,
      inv.1 ++ step.0,
      loses_more _ _ _ _ _ inv.2 (subst P e c.in-Ok.ensures.gives.octets),
      gains_more _ _ _ _ _ inv.3
          step.1,
      ends-read _ _ inv.0 _ piece (step.2 _ []),
    )

pub turns-preserved : goal.turns-preserved
turns-preserved g c =
    let inv = c.turns.invariant.so_far in
    let step = c.in-Ok-take_piece.ensures.takes inv.0 inv.1 inv.4 in
    let piece : List ℕ = c.split_at.result.0.now in
    let e : take c.in-Ok.n c.read.new.buf ≡ piece = cc in
    let P : List ℕ → Type 0 = λ x. Loses (g.S.Source.left c.turns.input) (g.S.Source.left c.read.new.self) x in
    let size = length-append inv.0 piece in
    record {
      so_far = (
        inv.0 ++ piece,
        inv.1 ++ step.0,
        loses_more _ _ _ _ _ inv.2 (subst P e c.in-Ok.ensures.gives.octets),
        gains_more _ _ _ _ _
            inv.3 step.1,
        step.2,
        omega (arith, size, inv.5),
      );
      size = let size = c.turns.invariant.size in let kept = c.read.auto.buf in omega (arith, size, kept);
      source = omega (arith, c.turns.invariant.source, c.in-Ok.ensures.cause.later);
      sink = sink-on _ _ _ _ _ _ _ c.turns.invariant.sink c.in-Ok-take_piece.ensures.sink;
    }

pub returns-then-n-eq0-clause-last : goal.returns-then-n-eq0-clause-last
returns-then-n-eq0-clause-last g c = rw c.at_end.ensures.no_read_fault c.in-Ok.ensures.outcome
