-- The controller with its links, and the dialer that it works with.
use Rattle.std.specs.Prelude.{◌≡◌, ℕ, ◌<◌, ◌≤◌, Bool, false, length}
use Rattle.live_controller.specs.declared.desk.Desk.{Desk}
use Rattle.live_controller.specs.Links.{up_at}
use Rattle.live_controller.specs.Standing.{IsStanding}

-- the controller stands for some past, and each peer has a link
pub record IsDesk (d : Desk) : Type 0 where
  pub standing : IsStanding d.peers d.controller
  pub size : length d.links.items ≡ length d.peers

-- the dialer knows each peer, and exactly those are up whose link is
pub record Serves (d : Desk) (peers : ℕ) (is_up : ℕ → Bool) : Type 0 where
  pub desk : IsDesk d
  pub known : length d.peers ≤ peers
  pub agrees : (g : ℕ) → g < length d.peers → is_up g ≡ up_at d.links.items g

-- the peers are those before, and no link came up
pub record Keeps (old new : Desk) : Type 0 where
  pub peers : new.peers ≡ old.peers
  pub down : (g : ℕ) → up_at old.links.items g ≡ false → up_at new.links.items g ≡ false
