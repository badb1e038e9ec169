use Rattle.std.proofs.Common.{length, refl, sym, subst}
use Rattle.ikeless_cli.specs.Reader.{Fits, State}
use Rattle.ikeless_cli.proofs.Ends.{ends-no_memory, overflows-octets}
use Rattle.ikeless_cli.proofs.Going.{reads-octets}
use Rattle.ikeless_cli.proofs.reader.Reader.keep.Goals.{in-Ok-extend_from_slice, in-Err-extend_from_slice}
use Rattle.ikeless_cli.proofs.reader.Reader.keep.Goals as goal

pub returns-in-Err-clause-takes : goal.returns-in-Err-clause-takes
returns-in-Err-clause-takes c = λ told. overflows-octets c.in-Err.status c.args.self.now c.args.octets.now _ told c.requires refl
    c.in-Err.ensures.err

pub returns-clause-takes : goal.returns-clause-takes
returns-clause-takes c = λ told. elim c.match-extend_from_slice.branch [
  | in-Ok-extend_from_slice w ↦
      let fits = subst (λ (x : State). Fits x (length c.args.octets.now)) (sym c.self.view_is) c.in-Ok.ensures.ok in
      rw (w.result-is, ← c.self.view_is) (reads-octets _ c.args.octets.now _ told w.in-Ok-extend_from_slice.ensures.items c.requires fits)
  | in-Err-extend_from_slice w ↦ rw (w.result-is) (ends-no_memory c.args.self.now c.args.octets.now told, refl)
]
