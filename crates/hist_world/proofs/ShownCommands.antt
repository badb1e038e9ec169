-- Commands: the reasons why they are refused, a rekey of both directions, and the end of a tunnel while it has waiting orders.
use Rattle.std.proofs.Common.{◌≡◌, ℕ, true, List, [], ◌∷◌, ◌++◌, codes, refl}
use Rattle.std.specs.Fmt.{digits}
use Rattle.ikeless_tree.specs.declared.command.Refusal.TheVariants as refusals
use Rattle.ikeless_tree.specs.declared.command.TunnelSpec.{TunnelSpec}
use Rattle.ikeless_tree.specs.declared.order.Order.TheVariants as asks
use Rattle.ikeless_tree.specs.declared.ends.GoneWhy.TheVariants as gone
use Rattle.ikeless_tree.specs.Half.{in_name, out_name}
use Rattle.reply_table.specs.Reply.{reply}
use Rattle.hist_acts.specs.declared.act.Act.{Act}
use Rattle.hist_acts.specs.declared.act.Act.TheVariants as acts
use Rattle.hist_acts.specs.declared.event.Event.{Event}
use Rattle.hist_acts.specs.declared.event.Event.TheVariants as events
use Rattle.hist_acts.specs.Past.{after}
use Rattle.hist_controller.specs.Acts as own
use Rattle.hist_world.specs.Block.{Past, Shows, history, nothing}
use Rattle.hist_world.proofs.Goes.{Goes, and-then, quiet}
use Rattle.hist_world.proofs.ShownAcquire.{alone, ten_one, ten_two}
use Rattle.hist_world.proofs.Shown.{a, association3, association4, b, in3, in4, key1, key2, key3, key4, limits, plain, two, greatest}
use Rattle.hist_world.proofs.ShownSetup.{after_second_outbound, keyed, keyed_acts, keyed-goes}

-- 28 octets: neither an AES-128 key nor an AES-256 key with its salt
abbrev pub odd_key : List ℕ
odd_key = 0 ∷ 0 ∷ 0 ∷ 0 ∷ 0 ∷ 0 ∷ 0 ∷ 0 ∷ 0 ∷ 0 ∷ 0 ∷ 0 ∷ 0 ∷ 0 ∷ 0 ∷ 0 ∷ 0 ∷ 0 ∷ 0 ∷ 0 ∷ 0 ∷ 0 ∷ 0 ∷ 0 ∷ 0 ∷ 0 ∷ 0 ∷ 0 ∷ []

-- a tunnel from a gateway to itself
abbrev pub looped : TunnelSpec
looped = record {
  reqid = 10;
  now = true;
  first = a;
  second = a;
  first_prefix = ten_one;
  second_prefix = ten_two;
  window = 64;
  hard =
      limits 0 0 0 0;
  soft = limits 0 0 0 0;
}

abbrev pub wrong : List Event
wrong =
    events.Keys key1 ∷ events.Keys key1 ∷ events.Keys odd_key ∷ events.Rekey 9 ∷ events.Tunnel looped ∷ []

pub shown-wrong : (shows : Shows) → history shows alone nothing wrong ≡
    acts.Took 1
    ∷ acts.Took 2 ∷ acts.Refused refusals.KeySeen
    ∷ acts.Took 3 ∷ acts.Refused refusals.KeyLength
    ∷ acts.Took 4 ∷ acts.Refused refusals.NoTunnel
    ∷ acts.Took 5 ∷ acts.Refused refusals.SameGateway ∷ []
unfolding key1
shown-wrong shows = refl

-- A rekey puts a half in each direction. After the end the tunnel isn't known, and the associations are removed one after
-- another, in each direction once nothing of it waits.
abbrev pub ended : List Event
ended =
    events.Keys key3 ∷ events.Keys key4 ∷ events.Rekey 10 ∷ events.End 10 ∷ events.Down b ∷ events.Up b ∷ events.Rekey 10
    ∷ events.Down a ∷ events.Down a ∷ events.Up a ∷ events.Up a ∷ []

abbrev pub ended_acts : List Act
ended_acts =
    acts.Took 24
    ∷ acts.Took 25
    ∷ acts.Took 26 ∷ acts.Order b 1 5 (asks.Put in3) ∷ acts.Order a 1 5 (asks.Put in4)
    ∷ acts.Took 27
    ∷ acts.Took 28 ∷ acts.Put b in3 ∷ acts.Handled b 1 5 (plain 201)
    ∷ acts.Took 29 ∷ acts.Answered b 1 5 (plain 201) ∷ acts.Order a 1 6 (asks.Remove (codes "out/1"))
    ∷ acts.Took 30 ∷ acts.Refused refusals.NoTunnel
    ∷ acts.Took 31 ∷ acts.Put a in4 ∷ acts.Handled a 1 5 (plain 201)
    ∷ acts.Took 32 ∷ acts.Gone a (codes "out/1") gone.Removed ∷ acts.Handled a 1 6 (plain 204)
    ∷ acts.Took 33 ∷ acts.Answered a 1 5 (plain 201) ∷ acts.Order b 1 6 (asks.Remove (codes "out/2"))
    ∷ acts.Took 34 ∷ acts.Answered a 1 6 (plain 204) ∷ acts.Order b 1 7 (asks.Remove (codes "in/1")) ∷ []

abbrev pub ended_own : List own.ControllerAct
ended_own =
    own.Accepted (own.Keys key3)
    ∷ own.Accepted (own.Keys key4)
    ∷ own.Accepted (own.Rekey 10) ∷ own.Ordered 1 1 5 (own.PutIn association3) ∷ own.Ordered 0 1 5 (own.PutIn association4)
    ∷ own.Accepted (own.End 10)
    ∷ own.Answered 1 1 5 (plain 201) ∷ own.Ordered 0 1 6 (own.RemoveOut 1)
    ∷ own.Refused refusals.NoTunnel
    ∷ own.Answered 0 1 5 (plain 201) ∷ own.Ordered 1 1 6 (own.RemoveOut 2)
    ∷ own.Answered 0 1 6 (plain 204) ∷ own.Ordered 1 1 7 (own.RemoveIn 1) ∷ []

abbrev pub after_ended : Past
after_ended = record { world = after after_second_outbound.world ended_acts; controller = after after_second_outbound.controller ended_own }

pub ended-goes : (shows : Shows) → Goes shows (two greatest) after_second_outbound ended ended_acts after_ended
unfolding reply in_name out_name digits key1 key2 key3 key4
ended-goes shows = record { acts = refl; past = refl; genuine = quiet shows (two greatest) after_second_outbound ended refl }

abbrev pub renewed_then_ended : List Event
renewed_then_ended = keyed ++ ended

abbrev pub renewed_then_ended_acts : List Act
renewed_then_ended_acts = keyed_acts ++ ended_acts

pub renewed_then_ended-goes : (shows : Shows) → Goes shows (two greatest) nothing renewed_then_ended renewed_then_ended_acts after_ended
renewed_then_ended-goes shows = and-then (keyed-goes shows greatest) (ended-goes shows)

pub shown-renewed_then_ended : (shows : Shows) → history shows (two greatest) nothing renewed_then_ended ≡ renewed_then_ended_acts
shown-renewed_then_ended shows = (renewed_then_ended-goes shows).acts
