-- The names of halves as numbers, and halves as entries of a gateway's database.
use Rattle.std.specs.Prelude.{◌≡◌, ℕ, ◌+◌, ◌-◌, ◌^◌, ◌<◌, Bool, false, ◌==◌, ◌++◌, Option, Some, None, Result, Ok, Err, List, length, take, drop, codes, nat_le, nat_lt, min, if◌then◌else◌}
use Rattle.std.specs.List.{list_any}
use Rattle.yang_values.specs.Numbers.{u64_of}
use Rattle.yang_values.specs.declared.value.BadValue.{BadValue}
use Rattle.std.specs.Fmt.{decimal}
use Rattle.std.specs.Str.{bytes_eq}
use Rattle.ikl_base.specs.declared.address.Addr.{Addr}
use Rattle.ikl_base.specs.declared.address.Prefix.{Prefix}
use Rattle.ikeless_tree.specs.declared.sad.Df.TheVariants as df
use Rattle.ikeless_tree.specs.declared.sad.SadEntry.{SadEntry}
use Rattle.ikeless_tree.specs.declared.order as orders
use Rattle.ikeless_tree.specs.declared.order.Order.TheVariants as tree
use Rattle.ikeless_tree.specs.Half.{in_name, out_name}
use Rattle.hist_controller.specs.Told.{between}
use Rattle.ctl_tunnels.specs.declared.half.HalfName.{HalfName}
use Rattle.ctl_tunnels.specs.declared.half.Side.{Side}
use Rattle.ctl_tunnels.specs.declared.half.Side.TheVariants as sides
use Rattle.ctl_tunnels.specs.declared.life.HalfOrder.{HalfOrder}
use Rattle.ctl_tunnels.specs.declared.life.Task.{Task}
use Rattle.ctl_tunnels.specs.declared.life.Task.TheVariants as tasks
use Rattle.ctl_tunnels.specs.declared.tunnel.Direction.{Direction}

-- the half of this side and the first serial is the inbound half of the second serial
abbrev pub is_in : Side → ℕ → ℕ → Bool
is_in sides.In n m = n == m
is_in sides.Out n m = false

-- the half of this side and the first serial is the outbound half of the second serial
abbrev pub is_out : Side → ℕ → ℕ → Bool
is_out sides.In n m = false
is_out sides.Out n m = n == m

-- the name is that of the inbound half of this serial
abbrev pub names_in : Option HalfName → ℕ → Bool
names_in None n = false
names_in (Some half) n = is_in half.side n half.serial

-- the name is that of the outbound half of this serial
abbrev pub names_out : Option HalfName → ℕ → Bool
names_out None n = false
names_out (Some half) n = is_out half.side n half.serial

-- a number that fits in 32 bits
abbrev pub number_or_none : Result ℕ BadValue → Option ℕ
number_or_none (Ok n) = if nat_le n 4294967295 then Some n else None
number_or_none (Err bad) = None

-- the number below 2^32 after the front of a name
abbrev pub serial_after : List ℕ → List ℕ → Option ℕ
serial_after front name =
    if nat_lt (length name) (length front) then None
    else if bytes_eq (take (length front) name) front then number_or_none (u64_of (drop (length front) name))
    else None

-- the half of the serial that follows `in/`, or else of the one that follows `out/`
abbrev pub half_by : Option ℕ → Option ℕ → Option HalfName
half_by (Some n) out = Some (record { side = sides.In; serial = n })
half_by None (Some n) = Some (record { side = sides.Out; serial = n })
half_by None None = None

-- the half that a name is of
unfoldable pub half_named : List ℕ → Option HalfName
half_named name = half_by (serial_after (codes "in/") name) (serial_after (codes "out/") name)

-- the inbound half of this serial is among these names
abbrev pub shows_in : List (List ℕ) → ℕ → Bool
shows_in names n = list_any (λ x. names_in (half_named x) n) names

-- the outbound half of this serial is among these names
abbrev pub shows_out : List (List ℕ) → ℕ → Bool
shows_out names n = list_any (λ x. names_out (half_named x) n) names

-- what a name is read as
pub record IsHalfName (name : List ℕ) (half : Option HalfName) : Type 0 where
  pub inbound : (n : ℕ) → n < 2 ^ 32 → bytes_eq (in_name n) name ≡ names_in half n
  pub outbound : (n : ℕ) → n < 2 ^ 32 → bytes_eq (out_name n) name ≡ names_out half n

-- the SPI of both halves of a serial; serials are at most 1,048,576
abbrev pub spi_of : ℕ → ℕ
spi_of n = min (n + 256) (2 ^ 32 - 1)

-- The inbound half as its receiver's SAD gets it (RFC 4301 section 4.4.2): local is the receiver itself, and the selector holds what comes
-- from the prefix behind the sender. The DF bit of an outer header is copied (RFC 4301 section 8.1).
abbrev pub in_entry : Direction → ℕ → List ℕ → Addr → Addr → SadEntry
in_entry d n key sender receiver = record {
  name = in_name n;
  reqid = d.reqid;
  spi = spi_of n;
  window = d.window;
  selector = between d.far d.near;
  key = key;
  local = receiver;
  remote = sender;
  df = df.Copy;
  hard = d.hard;
  soft = d.soft;
}

-- The outbound half as its sender's SAD gets it: local is the sender itself, and the selector holds what goes to the prefix behind
-- the receiver.
abbrev pub out_entry : Direction → ℕ → List ℕ → Addr → Addr → SadEntry
out_entry d n key sender receiver = record {
  name = out_name n;
  reqid = d.reqid;
  spi = spi_of n;
  window = d.window;
  selector = between d.near d.far;
  key = key;
  local = sender;
  remote = receiver;
  df = df.Copy;
  hard = d.hard;
  soft = d.soft;
}

-- a put or a removal as its gateway gets it
abbrev pub order_of : Direction → ℕ → List ℕ → Addr → Addr → Task → orders.Order.Order
order_of d n key sender receiver tasks.PutIn = tree.Put (in_entry d n key sender receiver)
order_of d n key sender receiver tasks.PutOut = tree.Put (out_entry d n key sender receiver)
order_of d n key sender receiver tasks.RemoveIn = tree.Remove (in_name n)
order_of d n key sender receiver tasks.RemoveOut = tree.Remove (out_name n)

-- the serial after a front: the decimal number that follows it, where it is below 2^32
abbrev pub IsSerialAfter : List ℕ → List ℕ → Option ℕ → Type 0
IsSerialAfter front name None = (n : ℕ) → n < 2 ^ 32 → bytes_eq (front ++ decimal n) name ≡ false
IsSerialAfter front name (Some m) = (n : ℕ) → n < 2 ^ 32 → bytes_eq (front ++ decimal n) name ≡ (n == m)
