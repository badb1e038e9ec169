-- A run that keys both directions of a tunnel, by computing: its events meet the conditions of a step.
use Rattle.std.proofs.Common.{◌≡◌, List, [], ◌∷◌, codes, refl, lit≤}
use Rattle.ikl_base.specs.declared.address.Addr.TheVariants.{V4}
use Rattle.ikeless_tree.specs.declared.command.Command.TheVariants as commands
use Rattle.ikeless_tree.specs.declared.command.Peer.{Peer}
use Rattle.ikeless_tree.specs.declared.order.Order.TheVariants as tree
use Rattle.hist_controller.specs.Told.{in_entry, out_entry}
use Rattle.hist_controller.proofs.Shown.{t, k1, k2, plain, ab, ba, half}
use Rattle.ctl_core.specs.declared.acts.CtlAct.TheVariants as done
use Rattle.ctl_core.specs.declared.acts.CtlEvent.{CtlEvent}
use Rattle.ctl_core.specs.declared.acts.CtlEvent.TheVariants as events
use Rattle.ctl_core.specs.Core.{told_nothing}
use Rattle.ctl_law.specs.Told.{MayAllBeTold, run}

abbrev peers : List Peer
peers = record { name = codes "a"; address = V4 (192 ∷ 0 ∷ 2 ∷ 1 ∷ []) }
    ∷ record { name = codes "b"; address = V4 (198 ∷ 51 ∷ 100 ∷ 1 ∷ []) } ∷ []

-- two keys, a tunnel, two sessions, and the answers to the readings and to the inbound puts
abbrev setup : List CtlEvent
setup = events.Command (commands.Keys k1) ∷ events.Command (commands.Keys k2) ∷ events.Command (commands.Tunnel t) ∷ events.Opened 0
    ∷ events.Opened 1
    ∷ events.Answered 0 (plain 200) ∷ events.Answered 1 (plain 200) ∷ events.Answered 1 (plain 201) ∷ events.Answered 0 (plain 201) ∷ []

keyed : run (told_nothing peers) setup
    ≡ done.Order 0 tree.Read ∷ done.Order 1 tree.Read
    ∷ done.Order 1 (tree.Put (in_entry peers (half 1 k1 ab))) ∷ done.Order 0 (tree.Put (in_entry peers (half 2 k2 ba)))
    ∷ done.Order 0 (tree.Put (out_entry peers (half 1 k1 ab))) ∷ done.Order 1 (tree.Put (out_entry peers (half 2 k2 ba))) ∷ []
unfolding k1 k2
keyed = refl

may : MayAllBeTold (told_nothing peers) setup
unfolding k1 k2
may = (tt, (tt, (tt, (lit≤ tt, (lit≤ tt, ((lit≤ tt, refl), ((lit≤ tt, refl), ((lit≤ tt, refl), ((lit≤ tt, refl), tt)))))))))
