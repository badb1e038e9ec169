-- The keys accepted, and why keying material is refused (RFC 4106 section 8.1).
use Rattle.std.specs.Prelude.{ℕ, Bool, not, nat_le, Option, Some, None, List, [], ◌∷◌, length, slice_get, if◌then◌else◌}
use Rattle.ikeless_tree.specs.Check.{is_key_length}
use Rattle.ikeless_tree.specs.declared.command.Refusal.{Refusal}
use Rattle.ikeless_tree.specs.declared.command.Refusal.TheVariants as refusals
use Rattle.hist_controller.specs.Law.{is_seen}
use Rattle.ctl_tunnels.specs.declared.keyring.Salt.{Salt}

-- Why keying material is refused, by the first reason that applies: its length, its AES key among those accepted before, or 1,048,576 keys
-- accepted; none where it is accepted.
abbrev pub key_refusal : List ℕ → List (List ℕ) → Option Refusal
key_refusal k keys =
    if not (is_key_length (length k)) then Some refusals.KeyLength
    else if is_seen k keys then Some refusals.KeySeen
    else if nat_le 1048576 (length keys) then Some refusals.KeyLimit
    else None

-- keying material, or no octets where there is none
abbrev pub or_no_octets : Option (List ℕ) → List ℕ
or_no_octets None = []
or_no_octets (Some k) = k

-- the key at a place, or no octets
abbrev pub key_at : ℕ → List (List ℕ) → List ℕ
key_at i keys = or_no_octets (slice_get keys i)

-- the four octets of a salt, in the order of the nonce (RFC 4106 section 4)
abbrev pub salt_octets : Salt → List ℕ
salt_octets s = s.first ∷ s.second ∷ s.third ∷ s.fourth ∷ []
