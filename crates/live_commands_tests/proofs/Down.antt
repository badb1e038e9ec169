-- A dialer of one peer that is down has no peer that is up.
use Rattle.std.proofs.Common.{◌≡◌, ℕ, zero, suc, false, [], ◌∷◌, refl}
use Rattle.live_devices.specs.DialerFaulty.{up_at}
use Rattle.live_devices.specs.declared.peer_faulty.FaultyPeer.{FaultyPeer}

pub one_down : (p : FaultyPeer) → p.peer.is_up ≡ false → (g : ℕ) → up_at (p ∷ []) g ≡ false
one_down p is zero = is
one_down p is (suc g) = refl
