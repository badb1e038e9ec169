-- What waits, what is left, what comes next and what is spent, on worked cases, by computing.
use Rattle.std.proofs.Common.{◌≡◌, true, false, List, [], ◌∷◌, Some, None, codes, refl}
use Rattle.std.specs.Fmt.{digits}
use Rattle.ikeless_tree.specs.Half.{in_name, out_name, aes_part}
use Rattle.ikeless_tree.specs.declared.order.Notice.TheVariants as notices
use Rattle.hist_controller.specs.Acts.{PutIn, PutOut, End, Tunnel, Keys, ControllerAct, Cut, Answered, Heard, Ordered, Accepted}
use Rattle.hist_acts.specs.Past.{after}
use Rattle.hist_controller.specs.Past.{directions, spare}
use Rattle.hist_controller.specs.Law.{tunnels}
use Rattle.hist_controller.specs.Left.{older_left, newest_left}
use Rattle.hist_controller.specs.Own.{own_orders, waiting_order}
use Rattle.hist_controller.specs.Spent.{is_spent, unspent}
use Rattle.hist_controller.specs.Touch.{Nothing, RemovesOut, PutsOut, next_order, does_touch}
use Rattle.hist_controller.specs.Entries.{aes_parts}
use Rattle.hist_controller.proofs.Shown.{spec, at, k1, k2, k3, plain, spent, ab, ba, half, begun}

-- the outbound puts of both directions wait, at different gateways
waits-ab : own_orders ab (after [] begun) ≡ PutOut (half 1 k1 ab) ∷ []
unfolding begun k1 k2
waits-ab = refl

waits-ba : own_orders ba (after [] begun) ≡ PutOut (half 2 k2 ba) ∷ []
unfolding begun k1 k2
waits-ba = refl

nothing-next : next_order (after [] begun) ab ≡ Nothing
unfolding begun k1 k2
nothing-next = refl

-- a rekey: the inbound put of a new association is answered
renewed : List ControllerAct
renewed =
    Answered 0 1 4 (plain 201) ∷ Answered 1 1 4 (plain 201) ∷ Accepted (Keys k3)
    ∷ Heard 1 1 (notices.Expire (codes "in/1") true spent) ∷ Ordered 1 1 5 (PutIn (half 3 k3 ab))
    ∷ Answered 1 1 5 (plain 201) ∷ []

-- the older one and the newest are left, and nothing waits
older-shown : older_left ab (after (after [] begun) renewed) ≡ Some (half 1 k1 ab)
unfolding begun renewed k1 k2 k3
older-shown = refl

newest-shown : newest_left ab (after (after [] begun) renewed) ≡ Some (half 3 k3 ab)
unfolding begun renewed k1 k2 k3
newest-shown = refl

free-shown : waiting_order ab (after (after [] begun) renewed) ≡ None
unfolding begun renewed k1 k2 k3
free-shown = refl

-- the outbound half of the newest is put next, and then that of the older one is removed
put-next : next_order (after (after [] begun) renewed) ab ≡ PutsOut (half 3 k3 ab)
unfolding begun renewed k1 k2 k3 digits in_name out_name
put-next = refl

remove-next : next_order (Answered 0 1 5 (plain 201) ∷ Ordered 0 1 5 (PutOut (half 3 k3 ab)) ∷ after (after [] begun) renewed) ab ≡
    RemovesOut (half 1 k1 ab)
unfolding begun renewed k1 k2 k3 digits in_name out_name
remove-next = refl

-- an order of one direction doesn't touch the other, a cut at a gateway of both does
touches-own : does_touch ab (Ordered 0 1 5 (PutOut (half 3 k3 ab))) (after (after [] begun) renewed) ≡ true
touches-own = refl

leaves-other : does_touch ba (Ordered 0 1 5 (PutOut (half 3 k3 ab))) (after (after [] begun) renewed) ≡ false
leaves-other = refl

touches-both : does_touch ba (Cut 0 1) (after (after [] begun) renewed) ≡ true
touches-both = refl

-- a tunnel that was ended before any association was put is spent, and one with something left isn't
idle : List ControllerAct
idle = Accepted (End 10) ∷ Accepted (Tunnel (at (spec false (codes "a") (codes "b")))) ∷ []

spent-shown : unspent idle (directions idle) ≡ []
unfolding idle
spent-shown = refl

none-counts : tunnels idle (directions idle) ≡ 0
unfolding idle
none-counts = refl

not-spent-shown : is_spent ab (Accepted (End 10) ∷ after [] begun) ≡ false
unfolding begun k1 k2
not-spent-shown = refl

keys-shown : aes_parts (after [] begun) ≡ aes_part k1 ∷ aes_part k2 ∷ []
unfolding begun k1 k2
keys-shown = refl

all-used : spare (after [] begun) ≡ []
unfolding begun k1 k2
all-used = refl
