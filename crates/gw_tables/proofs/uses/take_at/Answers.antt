use Rattle.std.proofs.Common.{length, refl, ap, ◌∙◌, arith}
use Rattle.sad_store.specs.Halves.{changed, look_at, mark_number, take_number, use_half}
use Rattle.gw_tables.proofs.Lists.{changed-length, changed-twice}
use Rattle.gw_tables.proofs.uses.take_at.Goals as goal

pub used-requires : goal.used-requires
used-requires c =
    let within = c.requires.within in
    let same = ap length c.mark.ensures ∙ changed-length (mark_number c.args.number) c.args.i c.args.halves.now in
    omega arith

pub returns : goal.returns
returns c =
    c.used.ensures.halves
    ∙ (ap (changed (use_half c.args.octets c.args.clock) c.args.i) c.mark.ensures
    ∙ changed-twice (mark_number c.args.number) (use_half c.args.octets c.args.clock)
    (λ y. look_at c.args.clock (take_number c.args.clock c.args.octets c.args.number y)) (λ x. refl) c.args.i c.args.halves.now)
