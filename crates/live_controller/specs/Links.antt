-- The links to the peers, by their numbers.
use Rattle.std.specs.Prelude.{◌≡◌, ◌≢◌, ℕ, Bool, false, List, [], Option, Some, None, slice_get}
use Rattle.live_controller.specs.declared.link.Link.{Link}

abbrev pub up_of : Option Link → Bool
up_of None = false
up_of (Some link) = link.is_up

abbrev pub responses_of : Option Link → List ℕ
responses_of None = []
responses_of (Some link) = link.responses

abbrev pub notices_of : Option Link → List ℕ
notices_of None = []
notices_of (Some link) = link.notices

-- whether a peer's session is open, and what came of it since the last response and since the last line
abbrev pub up_at : List Link → ℕ → Bool
up_at links g = up_of (slice_get links g)

abbrev pub responses_at : List Link → ℕ → List ℕ
responses_at links g = responses_of (slice_get links g)

abbrev pub notices_at : List Link → ℕ → List ℕ
notices_at links g = notices_of (slice_get links g)

-- no peer has another link than before, but this one
abbrev pub OthersStay : ℕ → List Link → List Link → Type 0
OthersStay g old new = (k : ℕ) → k ≢ g → slice_get new k ≡ slice_get old k
