-- Before any event the world stands for the past in which nothing happened.
use Rattle.std.proofs.Common.{refl}
use Rattle.hist_acts.specs.declared.event.Header.{Header}
use Rattle.hist_world.specs.Block.{nothing}
use Rattle.acts_spell.specs.Spelled.{IsTold}
use Rattle.ctl_law.proofs.Steps as controller
use Rattle.world_steps.specs.Worlds.{world_of}
use Rattle.world_law.specs.Stands.{StandsFor}

pub begins : (header : Header) → IsTold header nothing → StandsFor header nothing (world_of header)
begins header t = record { nodes = refl; controller = controller.begins header.gateways; sent = refl; clock = refl; taken = refl; told = t }
