-- What every value of the types of the tree has: its numbers are those of their types, and its addresses have their octets.
use Rattle.std.specs.Prelude.{ℕ, ◌^◌, ◌<◌, List, All, Option, Some, None}
use Rattle.ikl_base.specs.Address.{IsAddress}
use Rattle.ikeless_tree.specs.declared.entry.Range.{Range}
use Rattle.ikeless_tree.specs.declared.entry.Selector.{Selector}
use Rattle.ikeless_tree.specs.declared.entry.SpdEntry.{SpdEntry}
use Rattle.ikeless_tree.specs.declared.sad.Limits.{Limits}
use Rattle.ikeless_tree.specs.declared.sad.SadEntry.{SadEntry}
use Rattle.ikeless_tree.specs.declared.sad.SadRow.{SadRow}
use Rattle.ikeless_tree.specs.declared.sad.SaState.{SaState}
use Rattle.ikeless_tree.specs.declared.sad.Tree.{Tree}
use Rattle.ikeless_tree.specs.declared.command.Command.{Command}
use Rattle.ikeless_tree.specs.declared.command.Command.TheVariants as commands
use Rattle.ikeless_tree.specs.declared.command.TunnelSpec.{TunnelSpec}
use Rattle.ikeless_tree.specs.declared.order.Answer.{Answer}
use Rattle.ikeless_tree.specs.declared.order.Notice.{Notice}
use Rattle.ikeless_tree.specs.declared.order.Notice.TheVariants as notices
use Rattle.ikeless_tree.specs.declared.order.Order.{Order}
use Rattle.ikeless_tree.specs.declared.order.Order.TheVariants as orders

-- each number is below 256
abbrev pub AreOctets : List ℕ → Type 0
AreOctets octets = All (λ octet. octet < 256) octets

-- both ports have 16 bits
abbrev pub IsTypedRange : Range → Type 0
IsTypedRange r = (r.start < 2 ^ 16) × (r.end < 2 ^ 16)

-- a protocol number has 8 bits; none stands for any protocol
abbrev pub IsTypedProtocol : Option ℕ → Type 0
IsTypedProtocol None = Unit {0}
IsTypedProtocol (Some n) = n < 2 ^ 8

-- whole addresses, and a protocol and ports of their widths
pub record IsTypedSelector (s : Selector) : Type 0 where
  pub local : IsAddress s.local.addr
  pub remote : IsAddress s.remote.addr
  pub proto : IsTypedProtocol s.proto
  pub local_ports : All IsTypedRange s.local_ports
  pub remote_ports : All IsTypedRange s.remote_ports

-- an entry of the security policy database
pub record IsTypedPolicy (e : SpdEntry) : Type 0 where
  pub reqid : e.reqid < 2 ^ 64
  pub window : e.window < 2 ^ 32
  pub selector : IsTypedSelector e.selector

-- a list of entries of the security policy database
abbrev pub AreTypedPolicies : List SpdEntry → Type 0
AreTypedPolicies es = All IsTypedPolicy es

-- limits or counts: octets in 64 bits, seconds and packets in 32
pub record IsTypedLimits (l : Limits) : Type 0 where
  pub time : l.time < 2 ^ 32
  pub bytes : l.bytes < 2 ^ 64
  pub packets : l.packets < 2 ^ 32
  pub idle : l.idle < 2 ^ 32

-- an entry of the security association database
pub record IsTypedHalf (e : SadEntry) : Type 0 where
  pub reqid : e.reqid < 2 ^ 64
  pub spi : e.spi < 2 ^ 32
  pub window : e.window < 2 ^ 32
  pub selector : IsTypedSelector e.selector
  pub key : AreOctets e.key
  pub local : IsAddress e.local
  pub remote : IsAddress e.remote
  pub hard : IsTypedLimits e.hard
  pub soft : IsTypedLimits e.soft

-- the counts of an association, and the last sequence number in 64 bits
pub record IsTypedState (s : SaState) : Type 0 where
  pub current : IsTypedLimits s.current
  pub top : s.top < 2 ^ 64

-- an entry of the security association database with its counts
pub record IsTypedRow (r : SadRow) : Type 0 where
  pub entry : IsTypedHalf r.entry
  pub state : IsTypedState r.state

-- all entries of the security association database with their counts
abbrev pub AreTypedRows : List SadRow → Type 0
AreTypedRows rows = All IsTypedRow rows

-- both databases of a gateway
pub record IsTypedTree (t : Tree) : Type 0 where
  pub spd : AreTypedPolicies t.spd
  pub sad : AreTypedRows t.sad

-- a tunnel as it is commanded
pub record IsTypedTunnel (t : TunnelSpec) : Type 0 where
  pub reqid : t.reqid < 2 ^ 64
  pub first_prefix : IsAddress t.first_prefix.addr
  pub second_prefix : IsAddress t.second_prefix.addr
  pub window : t.window < 2 ^ 32
  pub hard : IsTypedLimits t.hard
  pub soft : IsTypedLimits t.soft

-- a command to the controller: its policies, its tunnel, its `reqid` of 64 bits, or the octets of its key
abbrev pub IsTypedCommand : Command → Type 0
IsTypedCommand (commands.Policy gateway list) = AreTypedPolicies list
IsTypedCommand (commands.Tunnel spec) = IsTypedTunnel spec
IsTypedCommand (commands.End reqid) = reqid < 2 ^ 64
IsTypedCommand (commands.Rekey reqid) = reqid < 2 ^ 64
IsTypedCommand (commands.Keys key) = AreOctets key

-- what an order carries to a gateway: policies or a half
abbrev pub IsTypedOrder : Order → Type 0
IsTypedOrder orders.Read = Unit {0}
IsTypedOrder (orders.Policy list) = AreTypedPolicies list
IsTypedOrder (orders.Put e) = IsTypedHalf e
IsTypedOrder (orders.Remove name) = Unit {0}

-- the status of an answer has 16 bits
abbrev pub IsTypedAnswer : Answer → Type 0
IsTypedAnswer a = a.status < 2 ^ 16

-- what a notice tells: a selector, counts, or an SPI of 32 bits
abbrev pub IsTypedNotice : Notice → Type 0
IsTypedNotice (notices.Acquire policy selector) = IsTypedSelector selector
IsTypedNotice (notices.Expire name soft current) = IsTypedLimits current
IsTypedNotice (notices.SeqOverflow name) = Unit {0}
IsTypedNotice (notices.BadSpi spi) = spi < 2 ^ 32
