use Rattle.std.proofs.Common.{length, refl, ap, ◌∙◌, arith}
use Rattle.sad_store.specs.Halves.{changed, look_at, number_next, send, use_half}
use Rattle.gw_tables.proofs.Lists.{changed-length, changed-twice}
use Rattle.gw_tables.proofs.uses.send_at.Goals as goal

pub used-requires : goal.used-requires
used-requires c =
    let within = c.requires.within in
    let same = ap length c.next_number.ensures.halves ∙ changed-length number_next c.args.i c.args.halves.now in
    omega arith

pub returns : goal.returns
returns c =
    c.used.ensures.halves
    ∙ (ap (changed (use_half c.args.octets c.args.clock) c.args.i) c.next_number.ensures.halves
    ∙ changed-twice number_next (use_half c.args.octets c.args.clock) (λ y. look_at c.args.clock (send c.args.clock c.args.octets y))
    (λ x. refl) c.args.i c.args.halves.now)
