-- What an event changes in a direction.
use Rattle.std.specs.Prelude.{ℕ, Bool, ◌==◌, not, ◌&&◌, ◌||◌, ◌+◌, List, [], ◌∷◌, Option, Some, None, false, nat_eq, if◌then◌else◌, map, count_by}
use Rattle.std.specs.List.{list_any, filter}
use Rattle.std.specs.HashSet.{contains}
use Rattle.std.specs.Str.{bytes_eq}
use Rattle.ikeless_tree.specs.declared.entry.SpdEntry.{SpdEntry}
use Rattle.ctl_tunnels.specs.declared.progress.Progress.{Progress}
use Rattle.ctl_tunnels.specs.declared.tunnel.Direction.{Direction}
use Rattle.ctl_tunnels.specs.declared.tunnel.Pair.{Pair}
use Rattle.ctl_tunnels.specs.declared.tunnel.Tunnel.{Tunnel}
use Rattle.ctl_tunnels.specs.Steps as steps
use Rattle.ctl_core.specs.declared.change.Change.{Change}
use Rattle.ctl_core.specs.declared.change.Change.TheVariants as changes

-- the reqid is among these
abbrev pub has_reqid : List ℕ → ℕ → Bool
has_reqid rs r = list_any (λ x. x == r) rs

-- How far a direction has come after this change. A cut, a reading and a notice concern it only where the gateway is its sender or its
-- receiver.
abbrev pub changed : Change → Direction → Progress → Progress
changed changes.Nothing d p = p
changed (changes.Ended r) d p = if d.reqid == r then steps.ended p else p
changed (changes.Rekeyed r) d p = steps.wanted_if (d.reqid == r) p
changed (changes.Cut g) d p = steps.cut (d.sender == g) (d.receiver == g) p
changed (changes.Answered o status) d p = steps.answered o status p
changed (changes.Read g shown) d p = steps.read (d.sender == g) (d.receiver == g) (contains nat_eq shown.inbound)
    (contains nat_eq shown.outbound) p
changed (changes.Acquired g reqids) d p = steps.wanted_if ((d.sender == g) && has_reqid reqids.items d.reqid && steps.is_settled p) p
changed (changes.Worn g half) d p = steps.wanted_if (steps.has_newest (d.sender == g) (d.receiver == g) half p) p

-- the reqids of the entries of this name
abbrev pub reqids_of : List ℕ → List SpdEntry → List ℕ
reqids_of name es = map (λ e. e.reqid) (filter (λ e. bytes_eq e.name name) es)

-- the same of a gateway's newest list; none where no list was commanded
abbrev pub reqids_in : List ℕ → Option (List SpdEntry) → List ℕ
reqids_in name None = []
reqids_in name (Some l) = reqids_of name l

-- a tunnel of this reqid is not ended
abbrev pub has_tunnel : ℕ → List Tunnel → List Pair → Bool
has_tunnel r [] ps = false
has_tunnel r (t ∷ ts) [] = false
has_tunnel r (t ∷ ts) (p ∷ ps) = ((t.reqid == r) && not (p.forth.over && p.back.over)) || has_tunnel r ts ps

-- both directions of the tunnel are over with nothing left, so that it may be forgotten
abbrev pub is_spent : Pair → Bool
is_spent p = steps.is_spent p.forth && steps.is_spent p.back

-- how many tunnels aren't ended or have an association left
abbrev pub count_tunnels : List Pair → ℕ
count_tunnels ps = count_by (λ p. not (is_spent p)) ps

-- the tunnels that are not spent, in their order
abbrev pub unspent_tunnels : List Tunnel → List Pair → List Tunnel
unspent_tunnels [] ps = []
unspent_tunnels (t ∷ ts) [] = []
unspent_tunnels (t ∷ ts) (p ∷ ps) = if is_spent p then unspent_tunnels ts ps else t ∷ unspent_tunnels ts ps

-- how far the directions of these tunnels have come, in the same order
abbrev pub unspent_pairs : List Tunnel → List Pair → List Pair
unspent_pairs [] ps = []
unspent_pairs (t ∷ ts) [] = []
unspent_pairs (t ∷ ts) (p ∷ ps) = if is_spent p then unspent_pairs ts ps else p ∷ unspent_pairs ts ps
