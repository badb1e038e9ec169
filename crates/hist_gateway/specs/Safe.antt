-- What holds of every history of one gateway.
use Rattle.std.specs.Prelude.{◌≡◌, ℕ, false, List, [], ◌∷◌, if◌then◌else◌}
use Rattle.replay_win.specs.Marks.{is_among}
use Rattle.hist_acts.specs.declared.act.Act.{Act}
use Rattle.hist_acts.specs.declared.act.Act.TheVariants as acts
use Rattle.hist_halves.specs.Halves.{is_half, numbers_taken}
use Rattle.hist_gateway.specs.May.{IsLetOut, IsArrivalIn}

-- the numbers sent under the half since its installation, the newest first
abbrev pub numbers : List ℕ → List ℕ → List Act → List ℕ
numbers g x [] = []
numbers g x (acts.Put f e ∷ h) = if is_half f e.name g x then [] else numbers g x h
numbers g x (acts.Sent f y n o ∷ h) = if is_half f y g x then n ∷ numbers g x h else numbers g x h
numbers g x (_ ∷ h) = numbers g x h

-- An act is safe after its past: in clear only what a bypass entry in force lets goes out or comes in, no number is sent twice
-- under one installation, and none is given that was taken before.
abbrev pub IsGatewayActSafe : List Act → Act → Type 0
IsGatewayActSafe h (acts.Clear f o) = IsLetOut h f o
IsGatewayActSafe h (acts.Pass f o) = IsArrivalIn h f o
IsGatewayActSafe h (acts.Sent f x n o) = is_among n (numbers f x h) ≡ false
IsGatewayActSafe h (acts.Gave f x n o) = is_among n (numbers_taken f x h) ≡ false
IsGatewayActSafe h _ = Unit {0}

-- each act is safe after those before it
abbrev pub IsGatewaySafe : List Act → Type 0
IsGatewaySafe [] = Unit {0}
IsGatewaySafe (a ∷ h) = IsGatewayActSafe h a × IsGatewaySafe h
