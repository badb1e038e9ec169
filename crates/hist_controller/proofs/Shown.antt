-- The definitions on worked cases, by computing: they are not empty.
use Rattle.std.proofs.Common.{◌≡◌, ℕ, Bool, true, false, List, [], ◌∷◌, ◌++◌, Some, None, codes, length, take, refl, lit≤}
use Rattle.std.specs.Fmt.{digits}
use Rattle.ikl_base.specs.declared.address.Addr.TheVariants.{V4, V6}
use Rattle.ikl_base.specs.declared.address.Prefix.{Prefix}
use Rattle.ikeless_tree.specs.Check.{is_key_length}
use Rattle.ikeless_tree.specs.declared.sad.Df.TheVariants as df
use Rattle.ikeless_tree.specs.declared.sad.Limits.{Limits}
use Rattle.ikeless_tree.specs.declared.sad.SadEntry.{SadEntry}
use Rattle.ikeless_tree.specs.declared.command.Command.TheVariants as commands
use Rattle.ikeless_tree.specs.declared.command.Peer.{Peer}
use Rattle.ikeless_tree.specs.declared.command.Refusal.TheVariants as refusals
use Rattle.ikeless_tree.specs.declared.command.TunnelSpec.{TunnelSpec}
use Rattle.ikeless_tree.specs.declared.entry.Action.TheVariants as actions
use Rattle.ikeless_tree.specs.declared.entry.Direction.TheVariants as directions
use Rattle.ikeless_tree.specs.declared.entry.Selector.{Selector}
use Rattle.ikeless_tree.specs.declared.entry.SpdEntry.{SpdEntry}
use Rattle.ikeless_tree.specs.declared.order.Answer.{Answer}
use Rattle.ikeless_tree.specs.declared.order.Notice.TheVariants as notices
use Rattle.ikeless_tree.specs.declared.order.Order.TheVariants as orders
use Rattle.ikeless_tree.specs.declared.error.Tag.TheVariants as tags
use Rattle.ikeless_tree.specs.Half.{in_name, out_name}
use Rattle.hist_acts.specs.declared.act.Act.TheVariants as acts
use Rattle.hist_controller.specs.Acts.{Way, Association, Read, Policy, PutIn, PutOut, RemoveIn, RemoveOut, PlacedTunnel, SetPolicy, Tunnel, End, Rekey, Keys, ControllerAct, Opened, Cut, Answered, Heard, Ordered, Accepted, Refused, ControllerEvent, Told, Opens, Cuts, Answers, Notices}
use Rattle.hist_acts.specs.Past.{after}
use Rattle.hist_controller.specs.Law.{has_tunnel, history, is_seen, refusal, tunnels}
use Rattle.hist_controller.specs.Past.{directions, keys}
use Rattle.hist_controller.specs.Told.{between, all_told}

-- 2001:db8:1::/48 behind a, 2001:db8:2::/48 behind b
pub behind_a : Prefix
behind_a = record {
  addr = V6 (32 ∷ 1 ∷ 13 ∷ 184 ∷ 0 ∷ 1 ∷ 0 ∷ 0 ∷ 0 ∷ 0 ∷ 0 ∷ 0 ∷ 0 ∷ 0 ∷ 0 ∷ 0 ∷ []);
  len = 48;
  in_range = lit≤ tt;
  cleared = refl;
}

pub behind_b : Prefix
behind_b = record {
  addr = V6 (32 ∷ 1 ∷ 13 ∷ 184 ∷ 0 ∷ 2 ∷ 0 ∷ 0 ∷ 0 ∷ 0 ∷ 0 ∷ 0 ∷ 0 ∷ 0 ∷ 0 ∷ 0 ∷ []);
  len = 48;
  in_range = lit≤ tt;
  cleared = refl;
}

abbrev peers : List Peer
peers = record { name = codes "a"; address = V4 (192 ∷ 0 ∷ 2 ∷ 1 ∷ []) }
    ∷ record { name = codes "b"; address = V4 (198 ∷ 51 ∷ 100 ∷ 1 ∷ []) } ∷ []

abbrev entry : Selector → SpdEntry
entry s = record { name = codes "o1"; direction = directions.Out; reqid = 10; window = 64; selector = s; action = actions.Protect }

abbrev list_a : List SpdEntry
list_a = entry (between behind_a behind_b) ∷ []

abbrev list_b : List SpdEntry
list_b = entry (between behind_b behind_a) ∷ []

abbrev limits : ℕ → Limits
limits seconds = record { time = seconds; bytes = 0; packets = 0; idle = 0 }

abbrev pub spent : Limits
spent = record { time = 3600; bytes = 88; packets = 1; idle = 3600 }

-- a tunnel between two gateways, of a lifetime of 3600 seconds
abbrev pub spec : Bool → List ℕ → List ℕ → TunnelSpec
spec now first second = record {
  reqid = 10;
  now = now;
  first = first;
  second = second;
  first_prefix = behind_a;
  second_prefix = behind_b;
  window = 64;
  hard = limits 0;
  soft = limits 3600;
}

abbrev pub t : TunnelSpec
t = spec true (codes "a") (codes "b")

abbrev pub at : TunnelSpec → PlacedTunnel
at s = record { spec = s; first = 0; second = 1 }

unfoldable pub k1 : List ℕ
k1 = 0 ∷ 1 ∷ 2 ∷ 3 ∷ 4 ∷ 5 ∷ 6 ∷ 7 ∷ 8 ∷ 9 ∷ 10 ∷ 11 ∷ 12 ∷ 13 ∷ 14 ∷ 15 ∷ 160 ∷ 161 ∷ 162 ∷ 163 ∷ []

unfoldable pub k2 : List ℕ
k2 = 16 ∷ 17 ∷ 18 ∷ 19 ∷ 20 ∷ 21 ∷ 22 ∷ 23 ∷ 24 ∷ 25 ∷ 26 ∷ 27 ∷ 28 ∷ 29 ∷ 30 ∷ 31 ∷ 176 ∷ 177 ∷ 178 ∷ 179 ∷ []

unfoldable pub k3 : List ℕ
k3 = 32 ∷ 33 ∷ 34 ∷ 35 ∷ 36 ∷ 37 ∷ 38 ∷ 39 ∷ 40 ∷ 41 ∷ 42 ∷ 43 ∷ 44 ∷ 45 ∷ 46 ∷ 47 ∷ 192 ∷ 193 ∷ 194 ∷ 195 ∷ []

k4 : List ℕ
k4 = 48 ∷ 49 ∷ 50 ∷ 51 ∷ 52 ∷ 53 ∷ 54 ∷ 55 ∷ 56 ∷ 57 ∷ 58 ∷ 59 ∷ 60 ∷ 61 ∷ 62 ∷ 63 ∷ 208 ∷ 209 ∷ 210 ∷ 211 ∷ []

abbrev pub plain : ℕ → Answer
plain n = record { status = n; tag = None; names = [] }

abbrev reading : List (List ℕ) → Answer
reading names = record { status = 200; tag = None; names = names }

abbrev absent : Answer
absent = record { status = 404; tag = Some tags.InvalidValue; names = [] }

abbrev denied : Answer
denied = record { status = 409; tag = Some tags.ResourceDenied; names = [] }

-- what an acquire tells of the packet is not looked at
abbrev flow : Selector
flow = between behind_a behind_b

abbrev policy_a : ControllerEvent
policy_a = Told (commands.Policy (codes "a") list_a)

abbrev policy_b : ControllerEvent
policy_b = Told (commands.Policy (codes "b") list_b)

-- a policy of each of two gateways, two keys, a tunnel, two sessions
start : List ControllerEvent
start = policy_a ∷ policy_b ∷ Told (commands.Keys k1) ∷ Told (commands.Keys k2) ∷ Told (commands.Tunnel t) ∷ Opens 0 ∷ Opens 1 ∷ []

-- and the answers to the readings, the lists and the inbound puts
setup : List ControllerEvent
unfolding start
setup = start ++ Answers 0 (reading []) ∷ Answers 0 (plain 204) ∷ Answers 1 (reading []) ∷ Answers 1 (plain 204) ∷ Answers 1 (plain 201)
    ∷ Answers 0 (plain 201) ∷ []

abbrev pub ab : Way
ab = record { id = 0; tunnel = t; sender = 0; receiver = 1; near = behind_a; far = behind_b }

abbrev pub ba : Way
ba = record { id = 1; tunnel = t; sender = 1; receiver = 0; near = behind_b; far = behind_a }

abbrev pub half : ℕ → List ℕ → Way → Association
half n k d = record { serial = n; key = k; way = d }

unfoldable pub begun : List ControllerAct
begun =
    Accepted (SetPolicy 0 list_a) ∷ Accepted (SetPolicy 1 list_b) ∷ Accepted (Keys k1) ∷ Accepted (Keys k2) ∷ Accepted (Tunnel (at t))
    ∷ Opened 0 1 ∷ Ordered 0 1 1 Read ∷ Ordered 0 1 2 (Policy list_a)
    ∷ Opened 1 1 ∷ Ordered 1 1 1 Read ∷ Ordered 1 1 2 (Policy list_b)
    ∷ Answered 0 1 1 (reading []) ∷ Answered 0 1 2 (plain 204)
    ∷ Answered 1 1 1 (reading []) ∷ Ordered 1 1 3 (PutIn (half 1 k1 ab)) ∷ Ordered 0 1 3 (PutIn (half 2 k2 ba))
    ∷ Answered 1 1 2 (plain 204)
    ∷ Answered 1 1 3 (plain 201) ∷ Ordered 0 1 4 (PutOut (half 1 k1 ab))
    ∷ Answered 0 1 3 (plain 201) ∷ Ordered 1 1 4 (PutOut (half 2 k2 ba))
    ∷ []

shown-setup : history peers [] setup ≡ begun
unfolding start setup begun in_name out_name k1 k2 k3 k4 digits
shown-setup = refl

rekeyed : List ControllerEvent
rekeyed = Answers 0 (plain 201) ∷ Answers 1 (plain 201) ∷ Told (commands.Keys k3) ∷ Notices 1 (notices.Expire (codes "in/1") true spent)
    ∷ Answers 1 (plain 201) ∷ Answers 0 (plain 201) ∷ Answers 0 (plain 204) ∷ Answers 1 (plain 204) ∷ []

shown-rekey : history peers (after [] begun) rekeyed ≡
    Answered 0 1 4 (plain 201) ∷ Answered 1 1 4 (plain 201) ∷ Accepted (Keys k3)
    ∷ Heard 1 1 (notices.Expire (codes "in/1") true spent) ∷ Ordered 1 1 5 (PutIn (half 3 k3 ab))
    ∷ Answered 1 1 5 (plain 201) ∷ Ordered 0 1 5 (PutOut (half 3 k3 ab))
    ∷ Answered 0 1 5 (plain 201) ∷ Ordered 0 1 6 (RemoveOut 1)
    ∷ Answered 0 1 6 (plain 204) ∷ Ordered 1 1 6 (RemoveIn 1)
    ∷ Answered 1 1 6 (plain 204) ∷ []
unfolding begun rekeyed in_name out_name k1 k2 k3 k4 digits
shown-rekey = refl

cut : List ControllerEvent
cut =
    Told (commands.Keys k3) ∷ Cuts 0 ∷ Opens 0 ∷ Answers 0 (reading (codes "in/2" ∷ codes "out/1" ∷ []))
    ∷ Answers 0 (plain 204) ∷ Answers 0 (plain 204) ∷ Answers 1 (plain 201) ∷ Answers 1 (plain 204) ∷ []

shown-cut : history peers (after [] begun) cut ≡
    Accepted (Keys k3) ∷ Cut 0 1
    ∷ Opened 0 2 ∷ Ordered 0 2 1 Read ∷ Ordered 0 2 2 (Policy list_a)
    ∷ Answered 0 2 1 (reading (codes "in/2" ∷ codes "out/1" ∷ [])) ∷ Ordered 0 2 3 (RemoveOut 1)
    ∷ Answered 0 2 2 (plain 204)
    ∷ Answered 0 2 3 (plain 204) ∷ Ordered 1 1 5 (RemoveIn 1)
    ∷ Answered 1 1 4 (plain 201)
    ∷ Answered 1 1 5 (plain 204) ∷ Ordered 1 1 6 (PutIn (half 3 k3 ab))
    ∷ []
unfolding begun cut in_name out_name k1 k2 k3 k4 digits
shown-cut = refl

-- both directions stand
up : List ControllerAct
unfolding begun
up = begun ++ Answered 0 1 4 (plain 201) ∷ Answered 1 1 4 (plain 201) ∷ []

-- a gateway that lost its halves: the reading is a cause of both directions, and the earlier one gets the key
rebooted : List ControllerEvent
rebooted = Told (commands.Keys k3) ∷ Cuts 1 ∷ Opens 1 ∷ Answers 1 (reading []) ∷ Notices 1 (notices.BadSpi 257)
    ∷ Notices 1 (notices.BadSpi 257) ∷ Answers 1 (plain 204) ∷ Answers 1 (plain 201) ∷ Told (commands.Keys k4) ∷ []

shown-reboot : history peers (after [] up) rebooted ≡
    Accepted (Keys k3) ∷ Cut 1 1
    ∷ Opened 1 2 ∷ Ordered 1 2 1 Read ∷ Ordered 1 2 2 (Policy list_b)
    ∷ Answered 1 2 1 (reading []) ∷ Ordered 1 2 3 (PutIn (half 3 k3 ab))
    ∷ Heard 1 2 (notices.BadSpi 257) ∷ Ordered 1 2 4 Read
    ∷ Heard 1 2 (notices.BadSpi 257)
    ∷ Answered 1 2 2 (plain 204)
    ∷ Answered 1 2 3 (plain 201) ∷ Ordered 0 1 5 (PutOut (half 3 k3 ab))
    ∷ Accepted (Keys k4) ∷ Ordered 0 1 6 (PutIn (half 4 k4 ba))
    ∷ []
unfolding begun up rebooted in_name out_name k1 k2 k3 k4 digits
shown-reboot = refl

-- the put of out/1 is lost before it was handled, and the reading shows in/2 alone: the removal is ordered all the same
lost : List ControllerEvent
lost = Told (commands.Keys k3) ∷ Cuts 0 ∷ Opens 0 ∷ Answers 0 (reading (codes "in/2" ∷ [])) ∷ Answers 0 (plain 204) ∷ Answers 0 (absent)
    ∷ []

shown-lost : history peers (after [] begun) lost ≡
    Accepted (Keys k3) ∷ Cut 0 1
    ∷ Opened 0 2 ∷ Ordered 0 2 1 Read ∷ Ordered 0 2 2 (Policy list_a)
    ∷ Answered 0 2 1 (reading (codes "in/2" ∷ [])) ∷ Ordered 0 2 3 (RemoveOut 1)
    ∷ Answered 0 2 2 (plain 204)
    ∷ Answered 0 2 3 (absent) ∷ Ordered 1 1 5 (RemoveIn 1)
    ∷ []
unfolding begun lost in_name out_name k1 k2 k3 k4 digits
shown-lost = refl

-- a tunnel without a cause waits for an acquire of a rule with its reqid at the sender
asked_for : TunnelSpec
asked_for = spec false (codes "a") (codes "b")

abbrev asked_ab : Way
asked_ab = record { id = 0; tunnel = asked_for; sender = 0; receiver = 1; near = behind_a; far = behind_b }

abbrev asked_ba : Way
asked_ba = record { id = 1; tunnel = asked_for; sender = 1; receiver = 0; near = behind_b; far = behind_a }

acquired : List ControllerEvent
unfolding asked_for
acquired =
    policy_a ∷ Told (commands.Keys k1) ∷ Opens 0 ∷ Opens 1 ∷ Answers 0 (reading []) ∷ Answers 0 (plain 204) ∷ Answers 1 (reading [])
    ∷ Notices 0 (notices.Acquire (codes "o1") flow) ∷ Told (commands.Tunnel asked_for) ∷ Notices 1 (notices.Acquire (codes "o1") flow)
    ∷ Notices 0 (notices.Acquire (codes "o2") flow) ∷ Notices 0 (notices.Acquire (codes "o1") flow)
    ∷ Notices 0 (notices.Acquire (codes "o1") flow) ∷ Told (commands.Keys k2) ∷ Told (commands.End 10) ∷ Answers 1 (plain 201)
    ∷ Answers 1 (plain 204) ∷ []

shown-acquire : history peers [] acquired ≡
    Accepted (SetPolicy 0 list_a) ∷ Accepted (Keys k1)
    ∷ Opened 0 1 ∷ Ordered 0 1 1 Read ∷ Ordered 0 1 2 (Policy list_a) ∷ Opened 1 1 ∷ Ordered 1 1 1 Read
    ∷ Answered 0 1 1 (reading []) ∷ Answered 0 1 2 (plain 204) ∷ Answered 1 1 1 (reading [])
    ∷ Heard 0 1 (notices.Acquire (codes "o1") flow) ∷ Accepted (Tunnel (at asked_for)) ∷ Heard 1 1 (notices.Acquire (codes "o1") flow)
    ∷ Heard 0 1 (notices.Acquire (codes "o2") flow)
    ∷ Heard 0 1 (notices.Acquire (codes "o1") flow) ∷ Ordered 1 1 2 (PutIn (half 1 k1 asked_ab))
    ∷ Heard 0 1 (notices.Acquire (codes "o1") flow) ∷ Accepted (Keys k2)
    ∷ Accepted (End 10) ∷ Answered 1 1 2 (plain 201) ∷ Ordered 1 1 3 (RemoveIn 1)
    ∷ Answered 1 1 3 (plain 204) ∷ []
unfolding acquired asked_for in_name out_name k1 k2 k3 k4 digits
shown-acquire = refl

-- refusals, in their order
refused : List ControllerEvent
refused =
    Told (commands.Keys k1) ∷ Told (commands.Keys k1) ∷ Told (commands.Keys (k1 ++ k1 ++ take 16 k1)) ∷ Told (commands.Rekey 9)
    ∷ Told (commands.Tunnel (spec true (codes "a") (codes "a")))
    ∷ Told (commands.Tunnel (spec true (codes "a") (codes "c"))) ∷ Told (commands.Tunnel t) ∷ Told (commands.Tunnel t)
    ∷ Told (commands.Policy (codes "c") []) ∷ Told (commands.End 10) ∷ Told (commands.Rekey 10) ∷ Told (commands.Tunnel t)
    ∷ Told (commands.Keys (take 16 k1 ++ 0 ∷ 0 ∷ 0 ∷ 0 ∷ [])) ∷ []

shown-refused : history peers [] refused ≡
    Accepted (Keys k1) ∷ Refused refusals.KeySeen ∷ Refused refusals.KeyLength ∷ Refused refusals.NoTunnel ∷ Refused refusals.SameGateway
    ∷ Refused refusals.UnknownGateway
    ∷ Accepted (Tunnel (at t)) ∷ Refused refusals.TunnelExists ∷ Refused refusals.UnknownGateway ∷ Accepted (End 10)
    ∷ Refused refusals.NoTunnel ∷ Accepted (Tunnel (at t))
    ∷ Refused refusals.KeySeen ∷ []
unfolding refused in_name out_name k1 k2 k3 k4 digits
shown-refused = refl

-- an acquire while an association is in progress is no cause, a rekey is one for both directions
renewed : List ControllerEvent
unfolding asked_for
renewed =
    policy_a ∷ Told (commands.Keys k1) ∷ Told (commands.Keys k2) ∷ Told (commands.Keys k3) ∷ Told (commands.Tunnel asked_for) ∷ Opens 0
    ∷ Opens 1 ∷ Answers 0 (reading []) ∷ Answers 0 (plain 204) ∷ Answers 1 (reading [])
    ∷ Notices 0 (notices.Acquire (codes "o1") flow) ∷ Notices 0 (notices.Acquire (codes "o1") flow) ∷ Answers 1 (plain 201)
    ∷ Answers 0 (plain 201) ∷ Told (commands.Rekey 10) ∷ []

shown-renew : history peers [] renewed ≡
    Accepted (SetPolicy 0 list_a) ∷ Accepted (Keys k1) ∷ Accepted (Keys k2) ∷ Accepted (Keys k3) ∷ Accepted (Tunnel (at asked_for))
    ∷ Opened 0 1 ∷ Ordered 0 1 1 Read ∷ Ordered 0 1 2 (Policy list_a) ∷ Opened 1 1 ∷ Ordered 1 1 1 Read
    ∷ Answered 0 1 1 (reading []) ∷ Answered 0 1 2 (plain 204) ∷ Answered 1 1 1 (reading [])
    ∷ Heard 0 1 (notices.Acquire (codes "o1") flow) ∷ Ordered 1 1 2 (PutIn (half 1 k1 asked_ab))
    ∷ Heard 0 1 (notices.Acquire (codes "o1") flow)
    ∷ Answered 1 1 2 (plain 201) ∷ Ordered 0 1 3 (PutOut (half 1 k1 asked_ab))
    ∷ Answered 0 1 3 (plain 201)
    ∷ Accepted (Rekey 10) ∷ Ordered 1 1 3 (PutIn (half 2 k2 asked_ab)) ∷ Ordered 0 1 4 (PutIn (half 3 k3 asked_ba))
    ∷ []
unfolding renewed asked_for in_name out_name k1 k2 k3 k4 digits
shown-renew = refl

-- a reading that doesn't show in/1 in time abandons it and is a cause: it is removed, and a new one is put; a refused put abandons too and is no cause
abandoned : List ControllerEvent
unfolding asked_for
abandoned =
    policy_a ∷ Told (commands.Keys k1) ∷ Told (commands.Keys k2) ∷ Told (commands.Tunnel asked_for) ∷ Opens 0 ∷ Opens 1
    ∷ Answers 0 (reading []) ∷ Answers 0 (plain 204) ∷ Answers 1 (reading [])
    ∷ Notices 0 (notices.Acquire (codes "o1") flow) ∷ Cuts 0 ∷ Notices 1 (notices.BadSpi 257) ∷ Answers 1 (plain 201)
    ∷ Answers 1 (reading []) ∷ Answers 1 (plain 204) ∷ Opens 0 ∷ Answers 0 (reading []) ∷ Answers 1 (denied) ∷ Answers 1 (plain 204)
    ∷ []

shown-abandon : history peers [] abandoned ≡
    Accepted (SetPolicy 0 list_a) ∷ Accepted (Keys k1) ∷ Accepted (Keys k2) ∷ Accepted (Tunnel (at asked_for))
    ∷ Opened 0 1 ∷ Ordered 0 1 1 Read ∷ Ordered 0 1 2 (Policy list_a) ∷ Opened 1 1 ∷ Ordered 1 1 1 Read
    ∷ Answered 0 1 1 (reading []) ∷ Answered 0 1 2 (plain 204) ∷ Answered 1 1 1 (reading [])
    ∷ Heard 0 1 (notices.Acquire (codes "o1") flow) ∷ Ordered 1 1 2 (PutIn (half 1 k1 asked_ab))
    ∷ Cut 0 1
    ∷ Heard 1 1 (notices.BadSpi 257) ∷ Ordered 1 1 3 Read
    ∷ Answered 1 1 2 (plain 201)
    ∷ Answered 1 1 3 (reading []) ∷ Ordered 1 1 4 (RemoveIn 1)
    ∷ Answered 1 1 4 (plain 204)
    ∷ Opened 0 2 ∷ Ordered 0 2 1 Read ∷ Ordered 0 2 2 (Policy list_a)
    ∷ Answered 0 2 1 (reading []) ∷ Ordered 1 1 5 (PutIn (half 2 k2 asked_ab))
    ∷ Answered 1 1 5 (denied) ∷ Ordered 1 1 6 (RemoveIn 2)
    ∷ Answered 1 1 6 (plain 204)
    ∷ []
unfolding abandoned asked_for in_name out_name k1 k2 k3 k4 digits
shown-abandon = refl

-- a reading that doesn't show an association that was replaced is no cause
replaced : List ControllerEvent
replaced =
    Told (commands.Keys k3) ∷ Told (commands.Keys k4) ∷ Notices 1 (notices.Expire (codes "in/1") true spent) ∷ Answers 1 (plain 201)
    ∷ Answers 0 (plain 201)
    ∷ Notices 1 (notices.BadSpi 257) ∷ Answers 1 (reading (codes "out/2" ∷ codes "in/3" ∷ [])) ∷ Answers 0 (plain 204)
    ∷ Answers 1 (plain 204) ∷ []

shown-replaced : history peers (after [] up) replaced ≡
    Accepted (Keys k3) ∷ Accepted (Keys k4)
    ∷ Heard 1 1 (notices.Expire (codes "in/1") true spent) ∷ Ordered 1 1 5 (PutIn (half 3 k3 ab))
    ∷ Answered 1 1 5 (plain 201) ∷ Ordered 0 1 5 (PutOut (half 3 k3 ab))
    ∷ Answered 0 1 5 (plain 201) ∷ Ordered 0 1 6 (RemoveOut 1)
    ∷ Heard 1 1 (notices.BadSpi 257) ∷ Ordered 1 1 6 Read
    ∷ Answered 1 1 6 (reading (codes "out/2" ∷ codes "in/3" ∷ []))
    ∷ Answered 0 1 6 (plain 204) ∷ Ordered 1 1 7 (RemoveIn 1)
    ∷ Answered 1 1 7 (plain 204) ∷ []
unfolding begun up replaced in_name out_name k1 k2 k3 k4 digits
shown-replaced = refl

-- a second expiry, of the other direction, finds no key left; the next key is put there
without_key : List ControllerEvent
without_key = Answers 0 (plain 201) ∷ Answers 1 (plain 201) ∷ Told (commands.Keys k3) ∷ Notices 1 (notices.Expire (codes "in/1") true spent)
    ∷ Notices 1 (notices.Expire (codes "out/2") true spent) ∷ Told (commands.Keys k4) ∷ []

shown-without-key : history peers (after [] begun) without_key ≡
    Answered 0 1 4 (plain 201) ∷ Answered 1 1 4 (plain 201) ∷ Accepted (Keys k3)
    ∷ Heard 1 1 (notices.Expire (codes "in/1") true spent) ∷ Ordered 1 1 5 (PutIn (half 3 k3 ab))
    ∷ Heard 1 1 (notices.Expire (codes "out/2") true spent)
    ∷ Accepted (Keys k4) ∷ Ordered 0 1 5 (PutIn (half 4 k4 ba))
    ∷ []
unfolding begun without_key in_name out_name k1 k2 k3 k4 digits
shown-without-key = refl

-- the put of in/1 is lost, and out/1 was never ordered: in/1 is removed at once, whether it is there or not
never_ordered : List ControllerEvent
unfolding start
never_ordered =
    start ++ Answers 0 (reading []) ∷ Answers 0 (plain 204) ∷ Answers 1 (reading []) ∷ Answers 1 (plain 204)
    ∷ Cuts 1 ∷ Opens 1 ∷ Answers 1 (reading []) ∷ Answers 1 (plain 204) ∷ Answers 1 absent ∷ []

shown-never-ordered : history peers [] never_ordered ≡
    Accepted (SetPolicy 0 list_a) ∷ Accepted (SetPolicy 1 list_b) ∷ Accepted (Keys k1) ∷ Accepted (Keys k2) ∷ Accepted (Tunnel (at t))
    ∷ Opened 0 1 ∷ Ordered 0 1 1 Read ∷ Ordered 0 1 2 (Policy list_a)
    ∷ Opened 1 1 ∷ Ordered 1 1 1 Read ∷ Ordered 1 1 2 (Policy list_b)
    ∷ Answered 0 1 1 (reading []) ∷ Answered 0 1 2 (plain 204)
    ∷ Answered 1 1 1 (reading []) ∷ Ordered 1 1 3 (PutIn (half 1 k1 ab)) ∷ Ordered 0 1 3 (PutIn (half 2 k2 ba))
    ∷ Answered 1 1 2 (plain 204)
    ∷ Cut 1 1
    ∷ Opened 1 2 ∷ Ordered 1 2 1 Read ∷ Ordered 1 2 2 (Policy list_b)
    ∷ Answered 1 2 1 (reading []) ∷ Ordered 1 2 3 (RemoveIn 1)
    ∷ Answered 1 2 2 (plain 204) ∷ Answered 1 2 3 absent
    ∷ []
unfolding start never_ordered in_name out_name k1 k2 k3 k4 digits
shown-never-ordered = refl

-- an expiry from the wrong gateway is no cause, an overflow from the sender is one, and an expiry of the association before
-- the one put last is none
outrun : List ControllerEvent
outrun =
    Told (commands.Keys k3) ∷ Told (commands.Keys k4) ∷ Notices 0 (notices.Expire (codes "in/1") true spent)
    ∷ Notices 0 (notices.SeqOverflow (codes "out/1"))
    ∷ Notices 1 (notices.Expire (codes "in/1") false spent) ∷ Answers 1 (plain 201) ∷ Answers 0 (plain 201) ∷ Answers 0 (plain 204)
    ∷ Answers 1 (plain 204) ∷ []

shown-outrun : history peers (after [] up) outrun ≡
    Accepted (Keys k3) ∷ Accepted (Keys k4) ∷ Heard 0 1 (notices.Expire (codes "in/1") true spent)
    ∷ Heard 0 1 (notices.SeqOverflow (codes "out/1")) ∷ Ordered 1 1 5 (PutIn (half 3 k3 ab))
    ∷ Heard 1 1 (notices.Expire (codes "in/1") false spent)
    ∷ Answered 1 1 5 (plain 201) ∷ Ordered 0 1 5 (PutOut (half 3 k3 ab))
    ∷ Answered 0 1 5 (plain 201) ∷ Ordered 0 1 6 (RemoveOut 1)
    ∷ Answered 0 1 6 (plain 204) ∷ Ordered 1 1 6 (RemoveIn 1)
    ∷ Answered 1 1 6 (plain 204) ∷ []
unfolding begun up outrun in_name out_name k1 k2 k3 k4 digits
shown-outrun = refl

abbrev other_list : List SpdEntry
other_list = record { name = codes "o1"; direction = directions.Out; reqid = 11; window = 64; selector = flow; action = actions.Protect }
    ∷ []

-- an acquire of an entry with another reqid is no cause, an expiry of an ended association is none, and an acquire while an
-- ended one waits for its removal is one
renewed_late : List ControllerEvent
unfolding asked_for
renewed_late =
    Told (commands.Policy (codes "a") other_list) ∷ Told (commands.Keys k1) ∷ Told (commands.Keys k2) ∷ Told (commands.Keys k3)
    ∷ Told (commands.Tunnel asked_for) ∷ Opens 0 ∷ Opens 1 ∷ Answers 0 (reading []) ∷ Answers 0 (plain 204) ∷ Answers 1 (reading [])
    ∷ Notices 0 (notices.Acquire (codes "o1") flow) ∷ policy_a ∷ Notices 0 (notices.Acquire (codes "o1") flow) ∷ Answers 1 denied
    ∷ Notices 1 (notices.Expire (codes "in/1") true spent) ∷ Answers 1 absent ∷ Notices 0 (notices.Acquire (codes "o1") flow)
    ∷ Answers 1 denied
    ∷ Notices 0 (notices.Acquire (codes "o1") flow) ∷ Answers 1 absent ∷ []

shown-renew-late : history peers [] renewed_late ≡
    Accepted (SetPolicy 0 other_list) ∷ Accepted (Keys k1) ∷ Accepted (Keys k2) ∷ Accepted (Keys k3) ∷ Accepted (Tunnel (at asked_for))
    ∷ Opened 0 1 ∷ Ordered 0 1 1 Read ∷ Ordered 0 1 2 (Policy other_list) ∷ Opened 1 1 ∷ Ordered 1 1 1 Read
    ∷ Answered 0 1 1 (reading []) ∷ Answered 0 1 2 (plain 204) ∷ Answered 1 1 1 (reading [])
    ∷ Heard 0 1 (notices.Acquire (codes "o1") flow)
    ∷ Accepted (SetPolicy 0 list_a) ∷ Ordered 0 1 3 (Policy list_a)
    ∷ Heard 0 1 (notices.Acquire (codes "o1") flow) ∷ Ordered 1 1 2 (PutIn (half 1 k1 asked_ab))
    ∷ Answered 1 1 2 denied ∷ Ordered 1 1 3 (RemoveIn 1)
    ∷ Heard 1 1 (notices.Expire (codes "in/1") true spent)
    ∷ Answered 1 1 3 absent
    ∷ Heard 0 1 (notices.Acquire (codes "o1") flow) ∷ Ordered 1 1 4 (PutIn (half 2 k2 asked_ab))
    ∷ Answered 1 1 4 denied ∷ Ordered 1 1 5 (RemoveIn 2)
    ∷ Heard 0 1 (notices.Acquire (codes "o1") flow)
    ∷ Answered 1 1 5 absent ∷ Ordered 1 1 6 (PutIn (half 3 k3 asked_ab))
    ∷ []
unfolding renewed_late asked_for in_name out_name k1 k2 k3 k4 digits
shown-renew-late = refl

-- the outbound put waits until both sessions are open and read
waited : List ControllerEvent
unfolding asked_for
waited =
    policy_a ∷ Told (commands.Keys k1) ∷ Told (commands.Tunnel asked_for) ∷ Opens 0 ∷ Opens 1 ∷ Answers 0 (reading [])
    ∷ Answers 0 (plain 204) ∷ Answers 1 (reading [])
    ∷ Notices 0 (notices.Acquire (codes "o1") flow) ∷ Cuts 0 ∷ Answers 1 (plain 201) ∷ Cuts 1 ∷ Opens 0 ∷ Answers 0 (reading []) ∷ Opens 1
    ∷ Answers 1 (reading (codes "in/1" ∷ [])) ∷ []

shown-wait : history peers [] waited ≡
    Accepted (SetPolicy 0 list_a) ∷ Accepted (Keys k1) ∷ Accepted (Tunnel (at asked_for))
    ∷ Opened 0 1 ∷ Ordered 0 1 1 Read ∷ Ordered 0 1 2 (Policy list_a) ∷ Opened 1 1 ∷ Ordered 1 1 1 Read
    ∷ Answered 0 1 1 (reading []) ∷ Answered 0 1 2 (plain 204) ∷ Answered 1 1 1 (reading [])
    ∷ Heard 0 1 (notices.Acquire (codes "o1") flow) ∷ Ordered 1 1 2 (PutIn (half 1 k1 asked_ab))
    ∷ Cut 0 1 ∷ Answered 1 1 2 (plain 201) ∷ Cut 1 1
    ∷ Opened 0 2 ∷ Ordered 0 2 1 Read ∷ Ordered 0 2 2 (Policy list_a) ∷ Answered 0 2 1 (reading [])
    ∷ Opened 1 2 ∷ Ordered 1 2 1 Read
    ∷ Answered 1 2 1 (reading (codes "in/1" ∷ [])) ∷ Ordered 0 2 3 (PutOut (half 1 k1 asked_ab))
    ∷ []
unfolding waited asked_for in_name out_name k1 k2 k3 k4 digits
shown-wait = refl

-- a refused outbound put ends its association, whose halves are removed; its key was seen for good
refused_put : List ControllerEvent
refused_put = Answers 0 denied ∷ Answers 0 absent ∷ Answers 1 (plain 201) ∷ Answers 1 (plain 204) ∷ Told (commands.Keys k1) ∷ []

shown-refused-put : history peers (after [] begun) refused_put ≡
    Answered 0 1 4 denied ∷ Ordered 0 1 5 (RemoveOut 1)
    ∷ Answered 0 1 5 absent ∷ Ordered 1 1 5 (RemoveIn 1)
    ∷ Answered 1 1 4 (plain 201) ∷ Answered 1 1 5 (plain 204)
    ∷ Refused refusals.KeySeen
    ∷ []
unfolding begun refused_put in_name out_name k1 k2 k3 k4 digits
shown-refused-put = refl

abbrev again_ab : Way
again_ab = record { id = 2; tunnel = t; sender = 0; receiver = 1; near = behind_a; far = behind_b }

abbrev again_ba : Way
again_ba = record { id = 3; tunnel = t; sender = 1; receiver = 0; near = behind_b; far = behind_a }

-- no key is put for an ended tunnel, and a later one with its reqid has causes of its own
ended_early : List ControllerEvent
ended_early =
    Told (commands.Tunnel t) ∷ Opens 0 ∷ Opens 1 ∷ Answers 0 (reading []) ∷ Answers 1 (reading []) ∷ Told (commands.End 10)
    ∷ Told (commands.Keys k1) ∷ Told (commands.Tunnel t) ∷ Told (commands.Keys k2) ∷ Told (commands.Keys k3) ∷ []

shown-ended-early : history peers [] ended_early ≡
    Accepted (Tunnel (at t)) ∷ Opened 0 1 ∷ Ordered 0 1 1 Read ∷ Opened 1 1 ∷ Ordered 1 1 1 Read ∷ Answered 0 1 1 (reading [])
    ∷ Answered 1 1 1 (reading [])
    ∷ Accepted (End 10) ∷ Accepted (Keys k1)
    ∷ Accepted (Tunnel (at t)) ∷ Ordered 1 1 2 (PutIn (half 1 k1 again_ab))
    ∷ Accepted (Keys k2) ∷ Ordered 0 1 2 (PutIn (half 2 k2 again_ba)) ∷ Accepted (Keys k3)
    ∷ []
unfolding ended_early in_name out_name k1 k2 k3 k4 digits
shown-ended-early = refl

-- a key of 36 octets, the first 16 of which are those of another key
k5 : List ℕ
unfolding k1 k2
k5 = take 16 k1 ++ k2

abbrev second : TunnelSpec
second = record {
  reqid = 20;
  now = false;
  first = codes "a";
  second = codes "b";
  first_prefix = behind_a;
  second_prefix = behind_b;
  window = 64;
  hard = limits 0;
  soft = limits 0;
}

abbrev second_ab : Way
second_ab = record { id = 2; tunnel = second; sender = 0; receiver = 1; near = behind_a; far = behind_b }

abbrev second_ba : Way
second_ba = record { id = 3; tunnel = second; sender = 1; receiver = 0; near = behind_b; far = behind_a }

abbrev one_way : TunnelSpec
one_way = spec false (codes "a") (codes "b")

abbrev one_ab : Way
one_ab = record { id = 0; tunnel = one_way; sender = 0; receiver = 1; near = behind_a; far = behind_b }

abbrev one_ba : Way
one_ba = record { id = 1; tunnel = one_way; sender = 1; receiver = 0; near = behind_b; far = behind_a }

-- a removal that is lost by a cut is ordered again in the next session, of the outbound half and of the inbound one
lost_removals : List ControllerEvent
lost_removals =
    Told (commands.Keys k1) ∷ Told (commands.Tunnel t) ∷ Opens 0 ∷ Opens 1 ∷ Answers 0 (reading []) ∷ Answers 1 (reading [])
    ∷ Answers 1 (plain 201) ∷ Answers 0 (plain 201) ∷ Told (commands.End 10) ∷ Cuts 0 ∷ Opens 0
    ∷ Answers 0 (reading (codes "out/1" ∷ [])) ∷ Answers 0 (plain 204) ∷ Cuts 1 ∷ Opens 1 ∷ Answers 1 (reading (codes "in/1" ∷ []))
    ∷ Answers 1 (plain 204) ∷ []

shown-lost-removals : history peers [] lost_removals ≡
    Accepted (Keys k1) ∷ Accepted (Tunnel (at t)) ∷ Opened 0 1 ∷ Ordered 0 1 1 Read ∷ Opened 1 1 ∷ Ordered 1 1 1 Read
    ∷ Answered 0 1 1 (reading []) ∷ Answered 1 1 1 (reading []) ∷ Ordered 1 1 2 (PutIn (half 1 k1 ab)) ∷ Answered 1 1 2 (plain 201)
    ∷ Ordered 0 1 2 (PutOut (half 1 k1 ab)) ∷ Answered 0 1 2 (plain 201) ∷ Accepted (End 10) ∷ Ordered 0 1 3 (RemoveOut 1) ∷ Cut 0 1
    ∷ Opened 0 2 ∷ Ordered 0 2 1 Read ∷ Answered 0 2 1 (reading (codes "out/1" ∷ [])) ∷ Ordered 0 2 2 (RemoveOut 1)
    ∷ Answered 0 2 2 (plain 204) ∷ Ordered 1 1 3 (RemoveIn 1) ∷ Cut 1 1 ∷ Opened 1 2 ∷ Ordered 1 2 1 Read
    ∷ Answered 1 2 1 (reading (codes "in/1" ∷ [])) ∷ Ordered 1 2 2 (RemoveIn 1) ∷ Answered 1 2 2 (plain 204) ∷ []
unfolding lost_removals in_name out_name k1 k2 k3 k4 k5 digits
shown-lost-removals = refl

-- two tunnels between the same gateways: a rekey and an end of one of them touch no association of the other
two_tunnels : List ControllerEvent
two_tunnels =
    Told (commands.Keys k1) ∷ Told (commands.Keys k2) ∷ Told (commands.Keys k3) ∷ Told (commands.Keys k4) ∷ Told (commands.Tunnel t)
    ∷ Told (commands.Tunnel second) ∷ Opens 0 ∷ Opens 1 ∷ Answers 0 (reading []) ∷ Answers 1 (reading []) ∷ Answers 1 (plain 201)
    ∷ Answers 0 (plain 201) ∷ Answers 0 (plain 201) ∷ Answers 1 (plain 201) ∷ Told (commands.Rekey 20) ∷ Answers 1 (plain 201)
    ∷ Answers 0 (plain 201) ∷ Told (commands.End 20) ∷ Answers 0 (plain 201) ∷ Answers 0 (plain 204) ∷ Answers 1 (plain 201)
    ∷ Answers 1 (plain 204) ∷ Answers 1 (plain 204) ∷ []

shown-two-tunnels : history peers [] two_tunnels ≡
    Accepted (Keys k1) ∷ Accepted (Keys k2) ∷ Accepted (Keys k3) ∷ Accepted (Keys k4) ∷ Accepted (Tunnel (at t))
    ∷ Accepted (Tunnel (at second)) ∷ Opened 0 1 ∷ Ordered 0 1 1 Read ∷ Opened 1 1 ∷ Ordered 1 1 1 Read ∷ Answered 0 1 1 (reading [])
    ∷ Answered 1 1 1 (reading []) ∷ Ordered 1 1 2 (PutIn (half 1 k1 ab)) ∷ Ordered 0 1 2 (PutIn (half 2 k2 ba))
    ∷ Answered 1 1 2 (plain 201) ∷ Ordered 0 1 3 (PutOut (half 1 k1 ab)) ∷ Answered 0 1 2 (plain 201)
    ∷ Ordered 1 1 3 (PutOut (half 2 k2 ba)) ∷ Answered 0 1 3 (plain 201) ∷ Answered 1 1 3 (plain 201) ∷ Accepted (Rekey 20)
    ∷ Ordered 1 1 4 (PutIn (half 3 k3 second_ab)) ∷ Ordered 0 1 4 (PutIn (half 4 k4 second_ba)) ∷ Answered 1 1 4 (plain 201)
    ∷ Ordered 0 1 5 (PutOut (half 3 k3 second_ab)) ∷ Answered 0 1 4 (plain 201) ∷ Ordered 1 1 5 (PutOut (half 4 k4 second_ba))
    ∷ Accepted (End 20) ∷ Answered 0 1 5 (plain 201) ∷ Ordered 0 1 6 (RemoveOut 3) ∷ Answered 0 1 6 (plain 204)
    ∷ Ordered 1 1 6 (RemoveIn 3) ∷ Answered 1 1 5 (plain 201) ∷ Ordered 1 1 7 (RemoveOut 4) ∷ Answered 1 1 6 (plain 204)
    ∷ Answered 1 1 7 (plain 204) ∷ Ordered 0 1 7 (RemoveIn 4) ∷ []
unfolding two_tunnels in_name out_name k1 k2 k3 k4 k5 digits
shown-two-tunnels = refl

-- a reading that is answered before the put of in/1 does not show it, and neither ends it nor is a cause
read_early : List ControllerEvent
read_early =
    Told (commands.Keys k1) ∷ Told (commands.Keys k2) ∷ Opens 0 ∷ Opens 1 ∷ Answers 0 (reading []) ∷ Answers 1 (reading [])
    ∷ Notices 1 (notices.BadSpi 300) ∷ Told (commands.Tunnel t) ∷ Answers 1 (reading []) ∷ Answers 1 (plain 201)
    ∷ Answers 0 (plain 201) ∷ []

shown-read-early : history peers [] read_early ≡
    Accepted (Keys k1) ∷ Accepted (Keys k2) ∷ Opened 0 1 ∷ Ordered 0 1 1 Read ∷ Opened 1 1 ∷ Ordered 1 1 1 Read
    ∷ Answered 0 1 1 (reading []) ∷ Answered 1 1 1 (reading []) ∷ Heard 1 1 (notices.BadSpi 300) ∷ Ordered 1 1 2 Read
    ∷ Accepted (Tunnel (at t)) ∷ Ordered 1 1 3 (PutIn (half 1 k1 ab)) ∷ Ordered 0 1 2 (PutIn (half 2 k2 ba))
    ∷ Answered 1 1 2 (reading []) ∷ Answered 1 1 3 (plain 201) ∷ Ordered 0 1 3 (PutOut (half 1 k1 ab)) ∷ Answered 0 1 2 (plain 201)
    ∷ Ordered 1 1 4 (PutOut (half 2 k2 ba)) ∷ []
unfolding read_early in_name out_name k1 k2 k3 k4 k5 digits
shown-read-early = refl

-- of two ended associations of a direction the older one comes first, and outbound removals come before inbound ones
oldest_first : List ControllerEvent
oldest_first =
    Told (commands.Keys k1) ∷ Told (commands.Keys k2) ∷ Told (commands.Keys k3) ∷ Told (commands.Keys k4)
    ∷ Told (commands.Tunnel one_way) ∷ Opens 0 ∷ Opens 1 ∷ Answers 0 (reading []) ∷ Answers 1 (reading [])
    ∷ Told (commands.Rekey 10) ∷ Answers 1 (plain 201) ∷ Answers 0 (plain 201) ∷ Answers 0 (plain 201) ∷ Answers 1 (plain 201)
    ∷ Told (commands.Rekey 10) ∷ Answers 1 (plain 201) ∷ Answers 0 (plain 201) ∷ Told (commands.End 10) ∷ Cuts 0
    ∷ Answers 1 (plain 201) ∷ Opens 0 ∷ Answers 0 (reading []) ∷ Answers 0 absent ∷ Answers 1 (plain 204) ∷ Answers 0 absent ∷ []

shown-oldest-first : history peers [] oldest_first ≡
    Accepted (Keys k1) ∷ Accepted (Keys k2) ∷ Accepted (Keys k3) ∷ Accepted (Keys k4) ∷ Accepted (Tunnel (at one_way)) ∷ Opened 0 1
    ∷ Ordered 0 1 1 Read ∷ Opened 1 1 ∷ Ordered 1 1 1 Read ∷ Answered 0 1 1 (reading []) ∷ Answered 1 1 1 (reading [])
    ∷ Accepted (Rekey 10) ∷ Ordered 1 1 2 (PutIn (half 1 k1 one_ab)) ∷ Ordered 0 1 2 (PutIn (half 2 k2 one_ba))
    ∷ Answered 1 1 2 (plain 201) ∷ Ordered 0 1 3 (PutOut (half 1 k1 one_ab)) ∷ Answered 0 1 2 (plain 201)
    ∷ Ordered 1 1 3 (PutOut (half 2 k2 one_ba)) ∷ Answered 0 1 3 (plain 201) ∷ Answered 1 1 3 (plain 201) ∷ Accepted (Rekey 10)
    ∷ Ordered 1 1 4 (PutIn (half 3 k3 one_ab)) ∷ Ordered 0 1 4 (PutIn (half 4 k4 one_ba)) ∷ Answered 1 1 4 (plain 201)
    ∷ Ordered 0 1 5 (PutOut (half 3 k3 one_ab)) ∷ Answered 0 1 4 (plain 201) ∷ Ordered 1 1 5 (PutOut (half 4 k4 one_ba))
    ∷ Accepted (End 10) ∷ Cut 0 1 ∷ Answered 1 1 5 (plain 201) ∷ Ordered 1 1 6 (RemoveOut 2) ∷ Opened 0 2 ∷ Ordered 0 2 1 Read
    ∷ Answered 0 2 1 (reading []) ∷ Ordered 0 2 2 (RemoveOut 1) ∷ Answered 0 2 2 absent ∷ Ordered 0 2 3 (RemoveOut 3)
    ∷ Answered 1 1 6 (plain 204) ∷ Ordered 1 1 7 (RemoveOut 4) ∷ Answered 0 2 3 absent ∷ Ordered 1 1 8 (RemoveIn 1) ∷ []
unfolding oldest_first in_name out_name k1 k2 k3 k4 k5 digits
shown-oldest-first = refl

-- an empty list is a list like any other, and what is ordered at an opening is the newest one
emptied : List ControllerEvent
emptied =
    Told (commands.Policy (codes "a") list_a) ∷ Opens 0 ∷ Told (commands.Policy (codes "a") []) ∷ Answers 0 (reading [])
    ∷ Answers 0 (plain 204) ∷ Cuts 0 ∷ Told (commands.Policy (codes "a") list_a) ∷ Told (commands.Policy (codes "a") []) ∷ Opens 0 ∷ []

shown-emptied : history peers [] emptied ≡
    Accepted (SetPolicy 0 list_a) ∷ Opened 0 1 ∷ Ordered 0 1 1 Read ∷ Ordered 0 1 2 (Policy list_a) ∷ Accepted (SetPolicy 0 [])
    ∷ Ordered 0 1 3 (Policy []) ∷ Answered 0 1 1 (reading []) ∷ Answered 0 1 2 (plain 204) ∷ Cut 0 1 ∷ Accepted (SetPolicy 0 list_a)
    ∷ Accepted (SetPolicy 0 []) ∷ Opened 0 2 ∷ Ordered 0 2 1 Read ∷ Ordered 0 2 2 (Policy []) ∷ []
unfolding emptied in_name out_name k1 k2 k3 k4 k5 digits
shown-emptied = refl

-- a key of 36 octets is put like one of 20, and one whose first 16 octets it shares is another AES key
long_keys : List ControllerEvent
long_keys =
    Told (commands.Keys k5) ∷ Told (commands.Keys (take 32 k5 ++ 9 ∷ 9 ∷ 9 ∷ 9 ∷ [])) ∷ Told (commands.Keys k1) ∷ Told (commands.Tunnel t)
    ∷ Opens 0 ∷ Opens 1 ∷ Answers 0 (reading [])
    ∷ Answers 1 (reading []) ∷ Answers 1 (plain 201) ∷ []

shown-long-keys : history peers [] long_keys ≡
    Accepted (Keys k5) ∷ Refused refusals.KeySeen ∷ Accepted (Keys k1) ∷ Accepted (Tunnel (at t)) ∷ Opened 0 1 ∷ Ordered 0 1 1 Read
    ∷ Opened 1 1
    ∷ Ordered 1 1 1 Read ∷ Answered 0 1 1 (reading []) ∷ Answered 1 1 1 (reading []) ∷ Ordered 1 1 2 (PutIn (half 1 k5 ab))
    ∷ Ordered 0 1 2 (PutIn (half 2 k1 ba)) ∷ Answered 1 1 2 (plain 201) ∷ Ordered 0 1 3 (PutOut (half 1 k5 ab)) ∷ []
unfolding long_keys in_name out_name k1 k2 k3 k4 k5 digits
shown-long-keys = refl

-- a tunnel counts while it is not ended or has an association left
counted_tunnels : List ControllerEvent
counted_tunnels = Told (commands.Keys k1) ∷ Told (commands.Tunnel t) ∷ Opens 0 ∷ Opens 1 ∷ Answers 0 (reading []) ∷ Answers 1 (reading [])
    ∷ Told (commands.Tunnel second) ∷ Told (commands.End 10) ∷ []

abbrev tunnels_after : List ControllerEvent → ℕ
tunnels_after es = tunnels (after [] (history peers [] es)) (directions (after [] (history peers [] es)))

shown-counted : tunnels_after counted_tunnels ≡ 2
unfolding counted_tunnels in_name out_name k1 k2 digits
shown-counted = refl

shown-uncounted : tunnels_after (counted_tunnels ++ Answers 1 denied ∷ Answers 1 absent ∷ []) ≡ 1
unfolding counted_tunnels in_name out_name k1 k2 digits
shown-uncounted = refl

-- the first reason that applies: no such gateway, one gateway at both ends, a tunnel that there is
refused_first : List ControllerEvent
refused_first =
    Told (commands.Tunnel t) ∷ Told (commands.Tunnel (spec true (codes "c") (codes "c")))
    ∷ Told (commands.Tunnel (spec true (codes "b") (codes "b")))
    ∷ Told (commands.Tunnel (spec true (codes "b") (codes "a"))) ∷ []

shown-refused-first : history peers [] refused_first ≡
    Accepted (Tunnel (at t)) ∷ Refused refusals.UnknownGateway ∷ Refused refusals.SameGateway ∷ Refused refusals.TunnelExists ∷ []
unfolding refused_first
shown-refused-first = refl

-- The two limits, with a past that has so many in place of one computed: 1,024 tunnels, and 1,048,576 keys. A tunnel that there
-- is, and a key that was seen, come first.
shown-tunnel-limit : (h : List ControllerAct) → has_tunnel 10 h ≡ false → tunnels h (directions h) ≡ 1024
    → refusal 2 h (Tunnel (at t)) ≡ Some refusals.TunnelLimit
shown-tunnel-limit h e n = rw (e, n) refl

shown-last-tunnel : (h : List ControllerAct) → has_tunnel 10 h ≡ false → tunnels h (directions h) ≡ 1023
    → refusal 2 h (Tunnel (at t)) ≡ None
shown-last-tunnel h e n = rw (e, n) refl

shown-tunnel-first : (h : List ControllerAct) → has_tunnel 10 h ≡ true → tunnels h (directions h) ≡ 1024
    → refusal 2 h (Tunnel (at t)) ≡ Some refusals.TunnelExists
shown-tunnel-first h e n = rw e refl

k1-long : is_key_length (length k1) ≡ true
unfolding k1
k1-long = refl

shown-key-limit : (h : List ControllerAct) → is_seen k1 (keys h) ≡ false → length (keys h) ≡ 1048576
    → refusal 2 h (Keys k1) ≡ Some refusals.KeyLimit
shown-key-limit h e n = let l : is_key_length (length k1) ≡ true = k1-long in rw (l, e, n) refl

shown-last-key : (h : List ControllerAct) → is_seen k1 (keys h) ≡ false → length (keys h) ≡ 1048575 → refusal 2 h (Keys k1) ≡ None
shown-last-key h e n = let l : is_key_length (length k1) ≡ true = k1-long in rw (l, e, n) refl

shown-key-first : (h : List ControllerAct) → is_seen k1 (keys h) ≡ true → length (keys h) ≡ 1048576
    → refusal 2 h (Keys k1) ≡ Some refusals.KeySeen
shown-key-first h e n = let l : is_key_length (length k1) ≡ true = k1-long in rw (l, e) refl

-- ## as a transcript has them

entry_of : List ℕ → ℕ → Prefix → Prefix → List ℕ → List ℕ → List ℕ → SadEntry
entry_of name spi own other key local remote = record {
  name = name;
  reqid = 10;
  spi = spi;
  window = 64;
  selector = between own other;
  key =
      key;
  local = V4 local;
  remote = V4 remote;
  df = df.Copy;
  hard = limits 0;
  soft = limits 3600;
}

at_a : List ℕ
at_a = 192 ∷ 0 ∷ 2 ∷ 1 ∷ []

at_b : List ℕ
at_b = 198 ∷ 51 ∷ 100 ∷ 1 ∷ []

shown-told : all_told peers begun ≡
    acts.Opened (codes "a") 1 ∷ acts.Order (codes "a") 1 1 orders.Read ∷ acts.Order (codes "a") 1 2 (orders.Policy list_a)
    ∷ acts.Opened (codes "b") 1 ∷ acts.Order (codes "b") 1 1 orders.Read ∷ acts.Order (codes "b") 1 2 (orders.Policy list_b)
    ∷ acts.Answered (codes "a") 1 1 (reading []) ∷ acts.Answered (codes "a") 1 2 (plain 204)
    ∷ acts.Answered (codes "b") 1 1 (reading [])
    ∷ acts.Order (codes "b") 1 3 (orders.Put (entry_of (codes "in/1") 257 behind_b behind_a k1 at_b at_a))
    ∷ acts.Order (codes "a") 1 3 (orders.Put (entry_of (codes "in/2") 258 behind_a behind_b k2 at_a at_b))
    ∷ acts.Answered (codes "b") 1 2 (plain 204)
    ∷ acts.Answered (codes "b") 1 3 (plain 201)
    ∷ acts.Order (codes "a") 1 4 (orders.Put (entry_of (codes "out/1") 257 behind_a behind_b k1 at_a at_b))
    ∷ acts.Answered (codes "a") 1 3 (plain 201)
    ∷ acts.Order (codes "b") 1 4 (orders.Put (entry_of (codes "out/2") 258 behind_b behind_a k2 at_b at_a))
    ∷ []
unfolding begun entry_of at_a at_b in_name out_name k1 k2 k3 k4 digits
shown-told = refl
