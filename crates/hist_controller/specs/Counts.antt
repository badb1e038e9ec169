-- How often things are ordered.
use Rattle.std.specs.Prelude.{◌≡◌, ℕ, ◌+◌, ◌-◌, ◌<◌, Bool, false, ◌==◌, ◌&&◌, not, List, [], ◌∷◌, ◌++◌, Some, length, if◌then◌else◌}
use Rattle.ikeless_tree.specs.declared.entry.SpdEntry.{SpdEntry}
use Rattle.hist_controller.specs.Acts.{Way, ControllerOrder, Policy, PutIn, PutOut, PlacedCommand, SetPolicy, ControllerAct, Opened, Ordered, Accepted}
use Rattle.hist_controller.specs.Past.{keys, directions, is_made_by, is_over, Kind, is_kind, is_start, is_renewal, is_inbound_put_of, is_cause}
use Rattle.hist_controller.specs.Machine.{place}

-- how often such an order of serial n was given
abbrev pub times : Kind → ℕ → List ControllerAct → ℕ
times k n [] = 0
times k n (Ordered g s i o ∷ h) = if is_kind k n o then times k n h + 1 else times k n h
times k n (_ ∷ h) = times k n h

-- how often at this gateway
abbrev pub times_at : Kind → ℕ → ℕ → List ControllerAct → ℕ
times_at k n g [] = 0
times_at k n g (Ordered f s i o ∷ h) = if (g == f) && is_kind k n o then times_at k n g h + 1 else times_at k n g h
times_at k n g (_ ∷ h) = times_at k n g h

-- how often in its newest session
abbrev pub times_now : Kind → ℕ → ℕ → List ControllerAct → ℕ
times_now k n g [] = 0
times_now k n g (Opened f s ∷ h) = if g == f then 0 else times_now k n g h
times_now k n g (Ordered f s i o ∷ h) = if (g == f) && is_kind k n o then times_now k n g h + 1 else times_now k n g h
times_now k n g (_ ∷ h) = times_now k n g h

-- the order puts an outbound half of the direction
abbrev pub is_out_put_of : Way → ControllerOrder → Bool
is_out_put_of d (PutOut x) = d.id == x.way.id
is_out_put_of d (_) = false

-- how many inbound, and outbound, puts were ordered in the direction
abbrev pub in_puts : Way → List ControllerAct → ℕ
in_puts d [] = 0
in_puts d (Ordered g s n o ∷ h) = if is_inbound_put_of d o then in_puts d h + 1 else in_puts d h
in_puts d (_ ∷ h) = in_puts d h

-- how many outbound puts were ordered in the direction
abbrev pub out_puts : Way → List ControllerAct → ℕ
out_puts d [] = 0
out_puts d (Ordered g s n o ∷ h) = if is_out_put_of d o then out_puts d h + 1 else out_puts d h
out_puts d (_ ∷ h) = out_puts d h

-- how many causes of the direction stand since its own command, while its tunnel wasn't ended
abbrev pub cause_count : Way → List ControllerAct → ℕ
cause_count d [] = 0
cause_count d (Accepted c ∷ h) =
    if is_made_by c (length (directions h)) d then (if is_start c then 1 else 0)
    else if is_renewal d c && not (is_over d h) then cause_count d h + 1
    else cause_count d h
cause_count d (a ∷ h) = if is_cause d a h && not (is_over d h) then cause_count d h + 1 else cause_count d h

-- a put has the key whose place its serial is
abbrev pub KeyRight : List ControllerAct → ControllerOrder → Type 0
KeyRight h (PutIn x) = place (x.serial - 1) (keys h) ≡ Some x.key
KeyRight h (PutOut x) = place (x.serial - 1) (keys h) ≡ Some x.key
KeyRight h (_) = Unit {0}

-- each put of a past has its key so
abbrev pub KeysRight : List ControllerAct → Type 0
KeysRight [] = Unit {0}
KeysRight (Ordered g s n o ∷ h) = KeyRight h o × KeysRight h
KeysRight (_ ∷ h) = KeysRight h

-- the list that a command gives this gateway, or none
abbrev pub list_accepted : ℕ → PlacedCommand → List (List SpdEntry)
list_accepted g (SetPolicy f l) = if g == f then l ∷ [] else []
list_accepted g (_) = []

-- the lists accepted for a gateway, oldest first
abbrev pub lists_accepted : ℕ → List ControllerAct → List (List SpdEntry)
lists_accepted g [] = []
lists_accepted g (Accepted c ∷ h) = lists_accepted g h ++ list_accepted g c
lists_accepted g (_ ∷ h) = lists_accepted g h

-- an ordered list is the last one accepted so far: lists never go back
abbrev pub ListRight : ℕ → List ControllerAct → ControllerOrder → Type 0
ListRight g h (Policy l) = (0 < length (lists_accepted g h)) × (place (length (lists_accepted g h) - 1) (lists_accepted g h) ≡ Some l)
ListRight g h (_) = Unit {0}

-- each list of a past was ordered so
abbrev pub ListsRight : List ControllerAct → Type 0
ListsRight [] = Unit {0}
ListsRight (Ordered g s n o ∷ h) = ListRight g h o × ListsRight h
ListsRight (_ ∷ h) = ListsRight h
