-- What was commanded has no fault after each event.
use Rattle.std.proofs.Common.{◌≡◌, ℕ, ◌+◌, Bool, true, false, List, [], ◌∷◌, length, Option, Some, None, if◌then◌else◌}
use Rattle.ikeless_tree.specs.declared.command.Command.{Command}
use Rattle.ikeless_tree.specs.declared.command.Command.TheVariants as commands
use Rattle.ikeless_tree.specs.declared.command.Peer.{Peer}
use Rattle.ikeless_tree.specs.declared.command.Refusal.{Refusal}
use Rattle.ikeless_tree.specs.declared.order.Answer.{Answer}
use Rattle.hist_acts.specs.Past.{after}
use Rattle.hist_controller.specs.Acts.{ControllerOrder, PlacedCommand, ControllerAct, Opened, Cut, Answered, Heard, Ordered, Accepted, Refused, ControllerEvent, Told, Opens, Cuts, Answers, Notices}
use Rattle.hist_controller.specs.Entries.{IsSoundCommand, SoundCommands}
use Rattle.hist_controller.specs.Law.{asked, asked_then, block, by_answer, by_refusal, going, placed_command, refusal}
use Rattle.hist_controller.specs.Past.{answered, is_open, openings, queue}
use Rattle.hist_safety.proofs.Basics.{no}
use Rattle.hist_world.proofs.Controls.{are_orders, then-orders}
use Rattle.rc_operations.specs.Operations.{IsSound}

-- a command without a fault, if the event is one
abbrev pub IsSoundEvent : List Peer → ControllerEvent → Type 0
IsSoundEvent ps (Told c) = IsSoundCommand (placed_command ps c)
IsSoundEvent ps (Opens g) = Unit {0}
IsSoundEvent ps (Cuts g) = Unit {0}
IsSoundEvent ps (Answers g a) = Unit {0}
IsSoundEvent ps (Notices g t) = Unit {0}

pub command-sound : (ps : List Peer) (c : Command) → IsSound c → IsSoundCommand (placed_command ps c)
command-sound ps (commands.Policy gateway list) s = s.lawful.1
command-sound ps (commands.Tunnel spec) s = s.window
command-sound ps (commands.End reqid) s = tt
command-sound ps (commands.Rekey reqid) s = tt
command-sound ps (commands.Keys key) s = tt

orders-sound : (h xs : List ControllerAct) → are_orders xs ≡ true → SoundCommands h → SoundCommands (after h xs)
orders-sound h [] e s = s
orders-sound h (Ordered f k n o ∷ xs) e s = orders-sound (Ordered f k n o ∷ h) xs e s
orders-sound h (Opened f k ∷ xs) e s = absurd (no e)
orders-sound h (Cut f k ∷ xs) e s = absurd (no e)
orders-sound h (Answered f k n a ∷ xs) e s = absurd (no e)
orders-sound h (Heard f k t ∷ xs) e s = absurd (no e)
orders-sound h (Accepted c ∷ xs) e s = absurd (no e)
orders-sound h (Refused w ∷ xs) e s = absurd (no e)

going-sound : (h : List ControllerAct) (a : ControllerAct) → SoundCommands (a ∷ h) → SoundCommands (after h (going h a))
going-sound h a s = orders-sound (a ∷ h) (asked_then (a ∷ h) (asked (a ∷ h) a)) (then-orders h a) s

refused-sound : (h : List ControllerAct) (c : PlacedCommand) (r : Option Refusal) → IsSoundCommand c → SoundCommands h
    → SoundCommands (after h (by_refusal h c r))
refused-sound h c None is s = going-sound h (Accepted c) (is, s)
refused-sound h c (Some w) is s = s

answer-sound : (h : List ControllerAct) (g : ℕ) (a : Answer) (q : List ControllerOrder) → SoundCommands h → SoundCommands
    (after h (by_answer h g a q))
answer-sound h g a [] s = s
answer-sound h g a (o ∷ os) s = going-sound h (Answered g (openings g h) (answered g h + 1) a) s

either-sound : (h : List ControllerAct) (b : Bool) (xs ys : List ControllerAct) → SoundCommands (after h xs) → SoundCommands (after h ys)
    → SoundCommands (after h (if b then xs else ys))
either-sound h true xs ys p q = p
either-sound h false xs ys p q = q

pub block-sound : (ps : List Peer) (h : List ControllerAct) (e : ControllerEvent) → IsSoundEvent ps e → SoundCommands h
    → SoundCommands (after h (block ps h e))
block-sound ps h (Told c) is s = refused-sound h (placed_command ps c) (refusal (length ps) h (placed_command ps c)) is s
block-sound ps h (Opens g) is s = either-sound h (is_open g h) [] (going h (Opened g (openings g h + 1))) s
    (going-sound h (Opened g (openings g h + 1)) s)
block-sound ps h (Cuts g) is s = either-sound h (is_open g h) (going h (Cut g (openings g h))) [] (going-sound h (Cut g (openings g h)) s) s
block-sound ps h (Answers g a) is s = answer-sound h g a (queue g h) s
block-sound ps h (Notices g t) is s = either-sound h (is_open g h) (going h (Heard g (openings g h) t)) []
    (going-sound h (Heard g (openings g h) t) s) s
