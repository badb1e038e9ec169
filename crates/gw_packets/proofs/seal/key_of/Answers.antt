use Rattle.std.proofs.Common.{◌≡◌, ◌⊎◌, List, ℕ, length, subst, sym}
use Rattle.gw_packets.proofs.Entries.{key-fits}
use Rattle.gw_packets.proofs.seal.key_of.Goals as goal

pub of-requires : goal.of-requires
of-requires c = subst (λ (k : List ℕ). (length k ≡ 20) ⊎ (length k ≡ 36)) (sym c.as_slice.ensures) (key-fits c.args.e.now c.requires)
