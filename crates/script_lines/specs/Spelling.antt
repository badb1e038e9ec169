-- Which acts a line can spell under the gateways of a header, and what the types say of them.
use Rattle.std.specs.Prelude.{ℕ, ◌^◌, ◌<◌, nat_le, IsTrue, List, length, All}
use Rattle.ikeless_tree.specs.Check.{is_spd_name}
use Rattle.ikeless_tree.specs.declared.command.Peer.{Peer}
use Rattle.ikeless_tree.specs.declared.order.Notice.{Notice}
use Rattle.ikeless_tree.specs.declared.order.Notice.TheVariants as notices
use Rattle.ikeless_tree.specs.declared.order.Order.{Order}
use Rattle.ikeless_tree.specs.declared.order.Order.TheVariants as orders
use Rattle.hist_acts.specs.declared.act.Act.{Act}
use Rattle.hist_acts.specs.declared.act.Act.TheVariants as acts
use Rattle.script_lines.specs.Session.{is_packet}
use Rattle.ikeless_tree.specs.Typed.{AreOctets, AreTypedPolicies, IsTypedHalf, IsTypedOrder, IsTypedAnswer, IsTypedNotice}
use Rattle.line_words.specs.Spelling.{IsKnown, IsListed, IsHalfName, IsInstallable}

-- The list can be in force, the half can be installed, or the name is one that a half can have; a reading is always spelled.
abbrev pub IsOrderSpelled : Order → Type 0
IsOrderSpelled orders.Read = Unit {0}
IsOrderSpelled (orders.Policy list) = IsListed list
IsOrderSpelled (orders.Put e) = IsInstallable e
IsOrderSpelled (orders.Remove name) = IsHalfName name

-- all are names that a half can have
abbrev pub AreHalfNames : List (List ℕ) → Type 0
AreHalfNames names = All IsHalfName names

-- its names are those that an entry or a half can have, and an acquire tells a single packet's flow
abbrev pub IsNoticeSpelled : Notice → Type 0
IsNoticeSpelled (notices.Acquire policy s) = IsTrue (is_spd_name policy) × IsTrue (is_packet s)
IsNoticeSpelled (notices.Expire name soft counts) = IsHalfName name
IsNoticeSpelled (notices.SeqOverflow name) = IsHalfName name
IsNoticeSpelled (notices.BadSpi spi) = Unit {0}

-- an act's gateway is one of the header, and its half has a name of the tree
abbrev pub IsActUnder : List Peer → Act → Type 0
IsActUnder gateways (acts.Took k) = Unit {0}
IsActUnder gateways (acts.Now t) = Unit {0}
IsActUnder gateways (acts.Boot g) = IsKnown gateways g
IsActUnder gateways (acts.Policy g list) = IsKnown gateways g × IsListed list
IsActUnder gateways (acts.Put g e) = IsKnown gateways g × IsInstallable e
IsActUnder gateways (acts.Gone g name w) = IsKnown gateways g × IsHalfName name
IsActUnder gateways (acts.Let g o) = IsKnown gateways g
IsActUnder gateways (acts.Sent g name k o) = IsKnown gateways g × IsHalfName name
IsActUnder gateways (acts.Clear g o) = IsKnown gateways g
IsActUnder gateways (acts.Drop g w) = IsKnown gateways g
IsActUnder gateways (acts.Arrived g o) = IsKnown gateways g
IsActUnder gateways (acts.Gave g name k o) = IsKnown gateways g × IsHalfName name
IsActUnder gateways (acts.Pass g o) = IsKnown gateways g
IsActUnder gateways (acts.Opened g s) = IsKnown gateways g
IsActUnder gateways (acts.Cut g s) = IsKnown gateways g
IsActUnder gateways (acts.Order g s n o) = IsKnown gateways g × IsOrderSpelled o
IsActUnder gateways (acts.Handled g s n a) = IsKnown gateways g × AreHalfNames a.names
IsActUnder gateways (acts.Answered g s n a) = IsKnown gateways g × AreHalfNames a.names
IsActUnder gateways (acts.Notice g s n) = IsKnown gateways g × IsNoticeSpelled n
IsActUnder gateways (acts.Heard g s n) = IsKnown gateways g × IsNoticeSpelled n
IsActUnder gateways (acts.Wire g l o) = IsKnown gateways g × IsTrue (nat_le (length o) 4096)
IsActUnder gateways (acts.Refused w) = Unit {0}

-- its numbers are those of their types, as those of every act that a program has
abbrev pub IsAct : Act → Type 0
IsAct (acts.Took k) = k < 2 ^ 64
IsAct (acts.Now t) = t < 2 ^ 32
IsAct (acts.Policy g list) = AreTypedPolicies list
IsAct (acts.Let g o) = AreOctets o
IsAct (acts.Sent g name k o) = (k < 2 ^ 64) × AreOctets o
IsAct (acts.Clear g o) = AreOctets o
IsAct (acts.Arrived g o) = AreOctets o
IsAct (acts.Gave g name k o) = (k < 2 ^ 64) × AreOctets o
IsAct (acts.Pass g o) = AreOctets o
IsAct (acts.Opened g s) = s < 2 ^ 32
IsAct (acts.Cut g s) = s < 2 ^ 32
IsAct (acts.Put g e) = IsTypedHalf e
IsAct (acts.Order g s n o) = (s < 2 ^ 32) × (n < 2 ^ 64) × IsTypedOrder o
IsAct (acts.Handled g s n a) = (s < 2 ^ 32) × (n < 2 ^ 64) × IsTypedAnswer a
IsAct (acts.Answered g s n a) = (s < 2 ^ 32) × (n < 2 ^ 64) × IsTypedAnswer a
IsAct (acts.Notice g s n) = (s < 2 ^ 32) × IsTypedNotice n
IsAct (acts.Heard g s n) = (s < 2 ^ 32) × IsTypedNotice n
IsAct (acts.Wire g l o) = AreOctets o
IsAct _ = Unit {0}
