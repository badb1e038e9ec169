use Rattle.std.proofs.Common.{ap, ◌∙◌, nat_lt, option_map, slice_get}
use Rattle.gw_tables.specs.Kept.{Kept}
use Rattle.gw_tables.proofs.SoundLemmas.{sound-sent}
use Rattle.gw_tables.proofs.tables.Tables.send.Goals as goal

pub invariant_of-self : goal.invariant_of-self
invariant_of-self c = (
  sound-sent c.self.inside.clock c.args.octets c.args.i c.send_at.new.halves c.send_at.ensures
      (ap (λ (k : Kept). option_map (λ x. nat_lt x.sent 4294967295) (slice_get k.halves c.args.i)) c.self.view_is ∙ c.requires.last)
      c.self.invariant.0,
  c.self.invariant.1,
  c.self.invariant.2,
)
