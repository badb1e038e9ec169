-- The orders for each half of an association, of this project. Each word looks back over what happened; a past has its newest act first. In each
-- test the name in the act stands first and the name asked for second.
use Rattle.std.specs.Prelude.{ℕ, ◌+◌, nat_lt, ◌&&◌, ◌||◌, Bool, false, List, [], ◌∷◌, Option, Some, None, if◌then◌else◌}
use Rattle.std.specs.Str.{bytes_eq}
use Rattle.ikeless_tree.specs.declared.sad.SadEntry.{SadEntry}
use Rattle.ikeless_tree.specs.declared.entry.Selector.{Selector}
use Rattle.ikeless_tree.specs.declared.order.Order.{Order}
use Rattle.ikeless_tree.specs.declared.order.Order.TheVariants as asks
use Rattle.ikeless_tree.specs.Half.{is_inbound, aes_part}
use Rattle.hist_acts.specs.declared.act.Act.{Act}
use Rattle.hist_acts.specs.declared.act.Act.TheVariants as acts
use Rattle.hist_acts.specs.Sessions.{order_at}

-- the selector as the other end has it
abbrev pub mirrored : Selector → Selector
mirrored s = record {
  local = s.remote;
  remote = s.local;
  proto = s.proto;
  local_ports = s.remote_ports;
  remote_ports = s.local_ports;
}

-- a put of the half was ordered
abbrev pub was_order_given : List ℕ → List Act → Bool
was_order_given x [] = false
was_order_given x (acts.Order f s k (asks.Put e) ∷ h) = bytes_eq e.name x || was_order_given x h
was_order_given x (_ ∷ h) = was_order_given x h

-- what was ordered to be put, and where: the gateway, the session, and the number in it
abbrev pub order_of : List ℕ → List Act → Option SadEntry
order_of x [] = None
order_of x (acts.Order f s k (asks.Put e) ∷ h) = if bytes_eq e.name x then Some e else order_of x h
order_of x (_ ∷ h) = order_of x h

-- the gateway at which the newest put of the half was ordered; no octets where none was
abbrev pub site : List ℕ → List Act → List ℕ
site x [] = []
site x (acts.Order f s k (asks.Put e) ∷ h) = if bytes_eq e.name x then f else site x h
site x (_ ∷ h) = site x h

-- the session in which that put was ordered; 0 where none was
abbrev pub session_of : List ℕ → List Act → ℕ
session_of x [] = 0
session_of x (acts.Order f s k (asks.Put e) ∷ h) = if bytes_eq e.name x then s else session_of x h
session_of x (_ ∷ h) = session_of x h

-- the number of that put among the orders of its session, from 1; 0 where none was
abbrev pub place_of : List ℕ → List Act → ℕ
place_of x [] = 0
place_of x (acts.Order f s k (asks.Put e) ∷ h) = if bytes_eq e.name x then k else place_of x h
place_of x (_ ∷ h) = place_of x h

-- how many puts of inbound halves were ordered
abbrev pub inbounds : List Act → ℕ
inbounds [] = 0
inbounds (acts.Order f s k (asks.Put e) ∷ h) = if is_inbound e.name then inbounds h + 1 else inbounds h
inbounds (_ ∷ h) = inbounds h

-- a put with this AES part was ordered
abbrev pub is_key_used : List ℕ → List Act → Bool
is_key_used part [] = false
is_key_used part (acts.Order f s k (asks.Put e) ∷ h) = bytes_eq (aes_part e.key) part || is_key_used part h
is_key_used part (_ ∷ h) = is_key_used part h

-- a removal of the half was ordered
abbrev pub is_removal_ordered : List ℕ → List Act → Bool
is_removal_ordered x [] = false
is_removal_ordered x (acts.Order f s k (asks.Remove y) ∷ h) = bytes_eq y x || is_removal_ordered x h
is_removal_ordered x (_ ∷ h) = is_removal_ordered x h

-- the order is the put, or a removal, of this half
abbrev pub is_put : List ℕ → Option Order → Bool
is_put x (Some (asks.Put e)) = bytes_eq e.name x
is_put x _ = false

-- the order removes the half of this name; false where there is no order
abbrev pub is_removal : List ℕ → Option Order → Bool
is_removal x (Some (asks.Remove y)) = bytes_eq y x
is_removal x _ = false

-- the put of the half was answered and not refused
abbrev pub is_put_accepted : List ℕ → List Act → Bool
is_put_accepted x [] = false
is_put_accepted x (acts.Answered f s k a ∷ h) = (is_put x (order_at f s k h) && nat_lt a.status 400) || is_put_accepted x h
is_put_accepted x (_ ∷ h) = is_put_accepted x h

-- a removal of the half was answered
abbrev pub is_removal_answered : List ℕ → List Act → Bool
is_removal_answered x [] = false
is_removal_answered x (acts.Answered f s k a ∷ h) = is_removal x (order_at f s k h) || is_removal_answered x h
is_removal_answered x (_ ∷ h) = is_removal_answered x h

-- a removal of the half was handled
abbrev pub is_removal_handled : List ℕ → List Act → Bool
is_removal_handled x [] = false
is_removal_handled x (acts.Handled f s k a ∷ h) = is_removal x (order_at f s k h) || is_removal_handled x h
is_removal_handled x (_ ∷ h) = is_removal_handled x h
