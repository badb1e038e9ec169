-- Of which port a fault tells.
use Rattle.std.specs.Prelude.{◌≡◌, ◌⊎◌, ℕ, Option, Some}
use Rattle.ikl_base.specs.declared.fault.OrMemory.{OrMemory}
use Rattle.ikl_base.specs.declared.fault.OrMemory.TheVariants.{Refused, NoMemory}
use Rattle.live_sockets.specs.declared.fault.SocketFault.{SocketFault}
use Rattle.live_sockets.specs.declared.fault.SocketFault.TheVariants.{PortTaken, Unavailable}

-- a port that is taken is this one
abbrev pub IsAt : ℕ → SocketFault → Type 0
IsAt port (PortTaken taken) = taken ≡ port
IsAt port Unavailable = Unit {0}

-- a port that is taken is one of these
abbrev pub IsAtEither : ℕ → Option ℕ → SocketFault → Type 0
IsAtEither control notices (PortTaken taken) = (taken ≡ control) ⊎ (Some taken ≡ notices)
IsAtEither control notices Unavailable = Unit {0}

-- what holds of a refusal; want of memory is none
abbrev pub IfRefused : {T : Type 0} → OrMemory T → (T → Type 0) → Type 0
IfRefused (Refused x) P = P x
IfRefused NoMemory P = Unit {0}
