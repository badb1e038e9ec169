use Rattle.std.proofs.Common.{◌++◌, ◌∷◌, [], List, ℕ, refl}
use Rattle.ikeless_cli.proofs.Going.{ends-early, ends-on, goes-none, goes-on, sink-none, sink-on, takes-on}
use Rattle.ikeless_cli.proofs.Lines.{cut-on}
use Rattle.ikeless_cli.proofs.reader.Reader.take_piece.Goals as goal

pub loop-line-init : goal.loop-line-init
loop-line-init g c = record { so_far = ([], refl, goes-none c.args.self.now _); sink = sink-none _ _ }

pub loop-line-preserved : goal.loop-line-preserved
loop-line-preserved g c =
    let old = c.loop-line.invariant.so_far in
    let line : List ℕ = c.in-Some.line.now ++ 10 ∷ [] in
    record {
      so_far = (
        old.0 ++ line,
        cut-on old.0 c.loop-line.rest.now c.in-Some.line.now c.in-Some.after.now c.args.piece.now old.1 c.in-Some.ensures.1,
        goes-on _ _ _ _ _ _ old.0 line _ refl old.2 c.in-Ok.ensures.takes,
      );
      sink = sink-on _ _ _ _ _ _ _ c.loop-line.invariant.sink c.in-Ok.ensures.sink;
    }

pub returns-in-Err-clause-takes : goal.returns-in-Err-clause-takes
returns-in-Err-clause-takes g c =
    let old = c.loop-line.invariant.so_far in
    let line : List ℕ = c.in-Some.line.now ++ 10 ∷ [] in
    let stops = c.in-Err.ensures.takes in (
      ends-early c.in-Err.status _ _ _ (old.0 ++ line) c.in-Some.after.now c.args.piece.now
          (cut-on old.0 c.loop-line.rest.now c.in-Some.line.now c.in-Some.after.now c.args.piece.now old.1 c.in-Some.ensures.1)
          (ends-on c.in-Err.status _ _ _ _ _ old.0 line _ refl old.2 stops.0),
      stops.1,
    )

pub returns-clause-takes : goal.returns-clause-takes
returns-clause-takes g c =
    let old = c.loop-line.invariant.so_far in
    takes-on c.keep.result _ _ _ _ _ _ old.0 c.loop-line.rest.now c.args.piece.now old.1 old.2 (c.keep.ensures.takes _)
