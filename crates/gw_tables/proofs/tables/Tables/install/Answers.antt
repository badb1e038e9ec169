use Rattle.std.proofs.Common.{ap, ◌∙◌}
use Rattle.sad_store.specs.Install.{install_fault}
use Rattle.gw_tables.specs.Kept.{Kept}
use Rattle.gw_tables.proofs.SoundLemmas.{sound-else, sound-installed}
use Rattle.gw_tables.proofs.tables.Tables.install.Goals as goal

pub invariant_of-self-then-not-is_in : goal.invariant_of-self-then-not-is_in
invariant_of-self-then-not-is_in c = (
  sound-else c.unstand.new.names.items c.self.inside.clock
      (sound-installed c.self.inside.clock c.args.e c.install.new.self c.in-Ok.ensures.ok c.requires.sound
      (ap (λ (k : Kept). install_fault c.args.e k.halves) c.self.view_is ∙ c.requires.free) c.self.invariant.0),
  c.self.invariant.1,
  c.self.invariant.2,
)

pub invariant_of-self-else-not-is_in : goal.invariant_of-self-else-not-is_in
invariant_of-self-else-not-is_in c = (
  sound-installed c.self.inside.clock c.args.e c.install.new.self c.in-Ok.ensures.ok c.requires.sound
      (ap (λ (k : Kept). install_fault c.args.e k.halves) c.self.view_is ∙ c.requires.free) c.self.invariant.0,
  c.self.invariant.1,
  c.self.invariant.2,
)
