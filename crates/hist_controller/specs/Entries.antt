-- What is presumed of commands and of peers, so that a gateway can take what it is ordered.
use Rattle.std.specs.Prelude.{◌≡◌, ℕ, ◌<◌, true, List, [], ◌∷◌, None, length, map}
use Rattle.ikl_base.specs.Address.{is_one_family}
use Rattle.ikeless_tree.specs.Check.{is_window, spd_fault}
use Rattle.ikeless_tree.specs.Half.{aes_part}
use Rattle.ikeless_tree.specs.declared.command.Peer.{Peer}
use Rattle.hist_controller.specs.Acts.{PlacedCommand, SetPolicy, Tunnel, End, Rekey, Keys, ControllerAct, Accepted}
use Rattle.hist_controller.specs.Past.{keys}
use Rattle.hist_controller.specs.Told.{peer_address}

-- a list of policies has no fault, and the window of a tunnel is one that there is
abbrev pub IsSoundCommand : PlacedCommand → Type 0
IsSoundCommand (SetPolicy g l) = spd_fault l ≡ None
IsSoundCommand (Tunnel t) = is_window t.spec.window ≡ true
IsSoundCommand (End r) = Unit {0}
IsSoundCommand (Rekey r) = Unit {0}
IsSoundCommand (Keys k) = Unit {0}

-- each command that was accepted
abbrev pub SoundCommands : List ControllerAct → Type 0
SoundCommands [] = Unit {0}
SoundCommands (Accepted c ∷ h) = IsSoundCommand c × SoundCommands h
SoundCommands (_ ∷ h) = SoundCommands h

-- the addresses of all peers are of one family
abbrev pub OneFamily : List Peer → Type 0
OneFamily ps = (f g : ℕ) → f < length ps → g < length ps → is_one_family (peer_address ps f) (peer_address ps g) ≡ true

-- the AES keys of the keys accepted, oldest first
abbrev pub aes_parts : List ControllerAct → List (List ℕ)
aes_parts h = map aes_part (keys h)
