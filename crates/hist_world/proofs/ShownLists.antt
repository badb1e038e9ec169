-- A list of policies is put in force, and another one in its place; and a restart leaves none in force.
use Rattle.std.proofs.Common.{◌≡◌, ◌⊎◌, inl, inr, ◌≤◌, sym, lit≤, ℕ, ◌-◌, ◌==◌, Bool, true, false, List, [], ◌∷◌, Some, None, codes, refl, ap, arith, if◌then◌else◌}
use Rattle.ikl_base.specs.declared.address.Addr.TheVariants.{V4}
use Rattle.ikl_base.specs.declared.address.Prefix.{Prefix}
use Rattle.ikeless_tree.specs.declared.entry.Action.TheVariants as actions
use Rattle.ikeless_tree.specs.declared.entry.Direction.TheVariants as directions
use Rattle.ikeless_tree.specs.declared.entry.SpdEntry.{SpdEntry}
use Rattle.hist_safety.proofs.Basics.{eq-nat, some-is}
use Rattle.ip_packet.specs.View.{view_of}
use Rattle.ikeless_tree.specs.declared.order.Order.TheVariants as asks
use Rattle.ikeless_tree.specs.declared.drops.DropWhy.TheVariants as why
use Rattle.reply_table.specs.Reply.{reply}
use Rattle.spd_match.specs.Match.{holds_packet}
use Rattle.hist_acts.specs.declared.act.Act.{Act}
use Rattle.hist_acts.specs.declared.act.Act.TheVariants as acts
use Rattle.hist_acts.specs.declared.event.Event.{Event}
use Rattle.hist_acts.specs.declared.event.Event.TheVariants as events
use Rattle.hist_acts.specs.Past.{after}
use Rattle.hist_gateway.specs.Let.{let_acts}
use Rattle.hist_world.specs.Block.{Shows, history, nothing}
use Rattle.hist_controller.specs.Machine.{place}
use Rattle.hist_world.specs.Lists.{NeverBack, commanded, put_in_force}
use Rattle.hist_world.proofs.ShownAcquire.{alone, packet_4, ten_one, ten_two}
use Rattle.hist_world.proofs.Shown.{between, a, plain}

abbrev pub any_4 : Prefix
any_4 = record { addr = V4 (0 ∷ 0 ∷ 0 ∷ 0 ∷ []); len = 0; in_range = lit≤ tt; cleared = refl }

abbrev pub discarding : SpdEntry
discarding = record {
  name = codes "d1";
  direction = directions.Out;
  reqid = 0;
  window = 64;
  selector = between ten_one any_4;
  action =
      actions.Discard;
}

abbrev pub bypassing : SpdEntry
bypassing = record {
  name = codes "p1";
  direction = directions.Out;
  reqid = 1;
  window = 64;
  selector = between ten_one ten_two;
  action =
      actions.Bypass;
}

abbrev pub bypasses : List SpdEntry
bypasses = bypassing ∷ []

abbrev pub discards_first : List SpdEntry
discards_first = discarding ∷ bypassing ∷ []

abbrev pub bypasses_first : List SpdEntry
bypasses_first = bypassing ∷ discarding ∷ []

-- the same two entries in the other order: the first one that holds the packet decides
abbrev pub replaced : List Event
replaced =
    events.Policy a discards_first ∷ events.Open a ∷ events.Down a ∷ events.Down a ∷ events.Let a packet_4
    ∷ events.Policy a bypasses_first ∷ events.Down a ∷ events.Let a packet_4 ∷ []

abbrev pub replaced_acts : List Act
replaced_acts =
    acts.Took 1
    ∷ acts.Took 2 ∷ acts.Opened a 1 ∷ acts.Order a 1 1 asks.Read ∷ acts.Order a 1 2 (asks.Policy discards_first)
    ∷ acts.Took 3 ∷ acts.Handled a 1 1 (plain 200)
    ∷ acts.Took 4 ∷ acts.Policy a discards_first ∷ acts.Handled a 1 2 (plain 204)
    ∷ acts.Took 5 ∷ acts.Let a packet_4 ∷ acts.Drop a why.Discard
    ∷ acts.Took 6 ∷ acts.Order a 1 3 (asks.Policy bypasses_first)
    ∷ acts.Took 7 ∷ acts.Policy a bypasses_first ∷ acts.Handled a 1 3 (plain 204)
    ∷ acts.Took 8 ∷ acts.Let a packet_4 ∷ acts.Clear a packet_4 ∷ []

pub shown-replaced : (shows : Shows) → history shows alone nothing replaced ≡ replaced_acts
unfolding let_acts view_of holds_packet reply
shown-replaced shows = refl

-- a list, and none after a restart
abbrev pub lost : List Event
lost =
    events.Policy a bypasses ∷ events.Open a ∷ events.Down a ∷ events.Down a ∷ events.Let a packet_4 ∷ events.Boot a
    ∷ events.Let a packet_4 ∷ []

abbrev pub lost_acts : List Act
lost_acts =
    acts.Took 1
    ∷ acts.Took 2 ∷ acts.Opened a 1 ∷ acts.Order a 1 1 asks.Read ∷ acts.Order a 1 2 (asks.Policy bypasses)
    ∷ acts.Took 3 ∷ acts.Handled a 1 1 (plain 200)
    ∷ acts.Took 4 ∷ acts.Policy a bypasses ∷ acts.Handled a 1 2 (plain 204)
    ∷ acts.Took 5 ∷ acts.Let a packet_4 ∷ acts.Clear a packet_4
    ∷ acts.Took 6 ∷ acts.Boot a
    ∷ acts.Took 7 ∷ acts.Let a packet_4 ∷ acts.Drop a why.NoPolicy ∷ []

pub shown-lost : (shows : Shows) → history shows alone nothing lost ≡ lost_acts
unfolding let_acts view_of holds_packet reply
shown-lost shows = refl

-- ---- both lists of the first history were put in force, in the order in which they were commanded

pub shown-in-order : (commanded a replaced ≡ discards_first ∷ bypasses_first ∷ [])
    × (put_in_force a (after [] replaced_acts) ≡ discards_first ∷ bypasses_first ∷ [])
shown-in-order = (refl, refl)

-- the other order would go back
place-two : (i : ℕ) (l m x : List SpdEntry) → place i (l ∷ m ∷ []) ≡ Some x → ((i ≡ 0) × (l ≡ x)) ⊎ ((i ≡ 1) × (m ≡ x))
place-two i l m x e = by (i == 0) refl (i - 1 == 0) refl e where
  by : (b : Bool) → (i == 0) ≡ b → (c : Bool) → (i - 1 == 0) ≡ c → (if b then Some l else if c then Some m else None) ≡ Some x
      → ((i ≡ 0) × (l ≡ x)) ⊎ ((i ≡ 1) × (m ≡ x))
  by true p c q e = inl (eq-nat i 0 p, some-is l x e)
  by false p true q e = inr (grind (arith, p, q), some-is m x e)
  by false p false q e = cc

first_reqid : List SpdEntry → ℕ
first_reqid [] = 0
first_reqid (e ∷ es) = e.reqid

lists-differ : discards_first ≡ bypasses_first → ⊥
unfolding first_reqid
lists-differ e = let w : 0 ≡ 1 = ap first_reqid e in omega (arith, w)

no-way-back : (i j : ℕ) → i ≤ j → ((i ≡ 0) × (discards_first ≡ bypasses_first)) ⊎ ((i ≡ 1) × (bypasses_first ≡ bypasses_first))
    → ((j ≡ 0) × (discards_first ≡ discards_first)) ⊎ ((j ≡ 1) × (bypasses_first ≡ discards_first)) → ⊥
no-way-back i j low (inl p) q = lists-differ p.1
no-way-back i j low (inr p) (inl q) = let a = p.0 in let b = q.0 in omega (arith, low, a, b)
no-way-back i j low (inr p) (inr q) = lists-differ (sym q.1)

pub shown-back : NeverBack (discards_first ∷ bypasses_first ∷ []) (bypasses_first ∷ discards_first ∷ []) → ⊥
shown-back w = no-way-back w.0 w.3.0 w.3.1 (place-two w.0 discards_first bypasses_first bypasses_first w.2)
    (place-two w.3.0 discards_first bypasses_first discards_first w.3.2)
