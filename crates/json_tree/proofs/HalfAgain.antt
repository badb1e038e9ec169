-- What is written for a half stands for it.
use Rattle.std.proofs.Common.{◌≡◌, ℕ, ◌<◌, ◌≤◌, ◌^◌, ◌-◌, ◌==◌, ◌&&◌, nat_lt, if◌then◌else◌, Bool, true, false, List, codes, length, Some, None, Ok, refl, arith}
use Rattle.std.specs.List.{All}
use Rattle.std.proofs.lemmas.Bool.{and_parts, not-false}
use Rattle.std.proofs.lemmas.Bool.Decides.{nat_tests}
use Rattle.serde_json.specs.Data.{Data, Members, no_members, string, object, put}
use Rattle.ikl_base.specs.declared.address.Addr.{Addr}
use Rattle.ikeless_tree.specs.declared.sad.Limits.{Limits}
use Rattle.ikeless_tree.specs.declared.sad.SadEntry.{SadEntry}
use Rattle.ikeless_tree.specs.Check.{is_sad_name, is_key_length, is_window, sad_fault}
use Rattle.yang_values.specs.HexText.{hex_of, hex_colons}
use Rattle.yang_values.specs.Addresses.{IsAddress, address_text}
use Rattle.yang_values.proofs.AddressText.{address_again}
use Rattle.json_values.specs.Written.{count, wide, word}
use Rattle.json_tree.specs.SadEntryWritten.{limits_members, has_no_limits, tunnel_data, encryption_data, with_ends, with_fixed, with_sealing, config_data, sad_entry_data, one_sad_entry}
use Rattle.json_values.specs.Json.{IsAddressText, no_limits, IsLimits, IsSoft, IsEncryption, IsTunnel, IsHalfConfig, IsSadEntry, IsOneSadEntry}
use Rattle.ikeless_tree.specs.Typed.{IsTypedLimits, IsTypedHalf}
use Rattle.json_tree.proofs.Passed.{no_fault}
use Rattle.json_tree.proofs.PolicyAgain.{number_again, wide_again, selector_again, window_again}

abbrev pub CanHex : Type 0
CanHex = (octets : List ℕ) → All (λ o. o < 256) octets → hex_of (hex_colons octets) ≡ Ok octets

address_text_again : (a : Addr) → IsAddress a → IsAddressText a (string (address_text a))
address_text_again a is = (address_text a, refl, address_again a is)

zero_is : (n : ℕ) → (n == 0) ≡ true → n ≡ 0
zero_is n h = grind (arith, nat_tests, h)

pub small : (n : ℕ) → n < 2 ^ 32 → n ≤ 2 ^ 32 - 1
small n h = omega arith

-- the members of limits, by which of them are zero
abbrev limits_where : (t p i b : Bool) → Limits → Members
limits_where t p i b l =
    let time = if t then no_members else put (codes "time") (count l.time) no_members in
    let packets = if p then time else put (codes "packets") (count l.packets) time in
    let idle = if i then packets else put (codes "idle") (count l.idle) packets in
    if b then idle else put (codes "bytes") (wide l.bytes) idle

record AreTests (t p i b : Bool) (l : Limits) : Type 0 where
  time : (l.time == 0) ≡ t
  packets : (l.packets == 0) ≡ p
  idle : (l.idle == 0) ≡ i
  bytes : (l.bytes == 0) ≡ b

limits_by : (t p i b : Bool) (l : Limits) → IsTypedLimits l → AreTests t p i b l → IsLimits l (object (limits_where t p i b l))
limits_by true true true true l typed e = (
  refl,
  record {
    bytes = zero_is l.bytes e.bytes;
    idle = zero_is l.idle e.idle;
    packets = zero_is l.packets e.packets;
    time =
        zero_is l.time e.time;
  },
)
limits_by true true true false l typed e = (
  refl,
  record {
    bytes = wide_again l.bytes typed.bytes;
    idle = zero_is l.idle e.idle;
    packets = zero_is l.packets e.packets;
    time =
        zero_is l.time e.time;
  },
)
limits_by true true false true l typed e = (
  refl,
  record {
    bytes = zero_is l.bytes e.bytes;
    idle = number_again 0 (2 ^ 32 - 1) l.idle (omega arith) (small l.idle typed.idle);
    packets = zero_is l.packets e.packets;
    time = zero_is l.time e.time;
  },
)
limits_by true true false false l typed e = (
  refl,
  record {
    bytes = wide_again l.bytes typed.bytes;
    idle =
        number_again 0 (2 ^ 32 - 1) l.idle (omega arith) (small l.idle typed.idle);
    packets = zero_is l.packets e.packets;
    time =
        zero_is l.time e.time;
  },
)
limits_by true false true true l typed e = (
  refl,
  record {
    bytes = zero_is l.bytes e.bytes;
    idle = zero_is l.idle e.idle;
    packets =
        number_again 0 (2 ^ 32 - 1) l.packets (omega arith) (small l.packets typed.packets);
    time = zero_is l.time e.time;
  },
)
limits_by true false true false l typed e = (
  refl,
  record {
    bytes = wide_again l.bytes typed.bytes;
    idle = zero_is l.idle e.idle;
    packets =
        number_again 0 (2 ^ 32 - 1) l.packets (omega arith) (small l.packets typed.packets);
    time = zero_is l.time e.time;
  },
)
limits_by true false false true l typed e = (
  refl,
  record {
    bytes = zero_is l.bytes e.bytes;
    idle = number_again 0 (2 ^ 32 - 1) l.idle (omega arith) (small l.idle typed.idle);
    packets = number_again 0 (2 ^ 32 - 1) l.packets (omega arith) (small l.packets typed.packets);
    time = zero_is l.time e.time;
  },
)
limits_by true false false false l typed e = (
  refl,
  record {
    bytes = wide_again l.bytes typed.bytes;
    idle =
        number_again 0 (2 ^ 32 - 1) l.idle (omega arith) (small l.idle typed.idle);
    packets =
        number_again 0 (2 ^ 32 - 1) l.packets (omega arith) (small l.packets typed.packets);
    time = zero_is l.time e.time;
  },
)
limits_by false true true true l typed e = (
  refl,
  record {
    bytes = zero_is l.bytes e.bytes;
    idle = zero_is l.idle e.idle;
    packets = zero_is l.packets e.packets;
    time =
        number_again 0 (2 ^ 32 - 1) l.time (omega arith) (small l.time typed.time);
  },
)
limits_by false true true false l typed e = (
  refl,
  record {
    bytes = wide_again l.bytes typed.bytes;
    idle = zero_is l.idle e.idle;
    packets = zero_is l.packets e.packets;
    time =
        number_again 0 (2 ^ 32 - 1) l.time (omega arith) (small l.time typed.time);
  },
)
limits_by false true false true l typed e = (
  refl,
  record {
    bytes = zero_is l.bytes e.bytes;
    idle = number_again 0 (2 ^ 32 - 1) l.idle (omega arith) (small l.idle typed.idle);
    packets = zero_is l.packets e.packets;
    time = number_again 0 (2 ^ 32 - 1) l.time (omega arith) (small l.time typed.time);
  },
)
limits_by false true false false l typed e = (
  refl,
  record {
    bytes = wide_again l.bytes typed.bytes;
    idle =
        number_again 0 (2 ^ 32 - 1) l.idle (omega arith) (small l.idle typed.idle);
    packets = zero_is l.packets e.packets;
    time =
        number_again 0 (2 ^ 32 - 1) l.time (omega arith) (small l.time typed.time);
  },
)
limits_by false false true true l typed e = (
  refl,
  record {
    bytes = zero_is l.bytes e.bytes;
    idle = zero_is l.idle e.idle;
    packets =
        number_again 0 (2 ^ 32 - 1) l.packets (omega arith) (small l.packets typed.packets);
    time =
        number_again 0 (2 ^ 32 - 1) l.time (omega arith) (small l.time typed.time);
  },
)
limits_by false false true false l typed e = (
  refl,
  record {
    bytes = wide_again l.bytes typed.bytes;
    idle = zero_is l.idle e.idle;
    packets =
        number_again 0 (2 ^ 32 - 1) l.packets (omega arith) (small l.packets typed.packets);
    time =
        number_again 0 (2 ^ 32 - 1) l.time (omega arith) (small l.time typed.time);
  },
)
limits_by false false false true l typed e = (
  refl,
  record {
    bytes = zero_is l.bytes e.bytes;
    idle = number_again 0 (2 ^ 32 - 1) l.idle (omega arith) (small l.idle typed.idle);
    packets = number_again 0 (2 ^ 32 - 1) l.packets (omega arith) (small l.packets typed.packets);
    time =
        number_again 0 (2 ^ 32 - 1) l.time (omega arith) (small l.time typed.time);
  },
)
limits_by false false false false l typed e = (
  refl,
  record {
    bytes = wide_again l.bytes typed.bytes;
    idle =
        number_again 0 (2 ^ 32 - 1) l.idle (omega arith) (small l.idle typed.idle);
    packets =
        number_again 0 (2 ^ 32 - 1) l.packets (omega arith) (small l.packets typed.packets);
    time =
        number_again 0 (2 ^ 32 - 1) l.time (omega arith) (small l.time typed.time);
  },
)

pub limits_again : (l : Limits) → IsTypedLimits l → IsLimits l (object (limits_members l))
limits_again l typed = limits_by (l.time == 0) (l.packets == 0) (l.idle == 0) (l.bytes == 0) l typed
    (record { time = refl; packets = refl; idle = refl; bytes = refl })

soft_by : (t p i b : Bool) (l : Limits) → IsTypedLimits l → AreTests t p i b l
    → IsSoft l (object (put (codes "action") (word (codes "replace")) (limits_where t p i b l)))
soft_by true true true true l typed e =
    record {
      members = refl;
      action = refl;
      limits = record {
        bytes = zero_is l.bytes e.bytes;
        idle = zero_is l.idle e.idle;
        packets =
            zero_is l.packets e.packets;
        time = zero_is l.time e.time;
      };
    }
soft_by true true true false l typed e =
    record {
      members = refl;
      action = refl;
      limits = record {
        bytes = wide_again l.bytes typed.bytes;
        idle = zero_is l.idle e.idle;
        packets = zero_is l.packets e.packets;
        time = zero_is l.time e.time;
      };
    }
soft_by true true false true l typed e =
    record {
      members = refl;
      action = refl;
      limits =
          record {
            bytes = zero_is l.bytes e.bytes;
            idle = number_again 0 (2 ^ 32 - 1) l.idle (omega arith) (small l.idle typed.idle);
            packets =
                zero_is l.packets e.packets;
            time = zero_is l.time e.time;
          };
    }
soft_by true true false false l typed e =
    record {
      members = refl;
      action = refl;
      limits = record {
        bytes = wide_again l.bytes typed.bytes;
        idle =
            number_again 0 (2 ^ 32 - 1) l.idle (omega arith) (small l.idle typed.idle);
        packets = zero_is l.packets e.packets;
        time =
            zero_is l.time e.time;
      };
    }
soft_by true false true true l typed e =
    record {
      members = refl;
      action = refl;
      limits = record {
        bytes = zero_is l.bytes e.bytes;
        idle = zero_is l.idle e.idle;
        packets =
            number_again 0 (2 ^ 32 - 1) l.packets (omega arith) (small l.packets typed.packets);
        time = zero_is l.time e.time;
      };
    }
soft_by true false true false l typed e =
    record {
      members = refl;
      action = refl;
      limits = record {
        bytes = wide_again l.bytes typed.bytes;
        idle = zero_is l.idle e.idle;
        packets = number_again 0 (2 ^ 32 - 1) l.packets (omega arith) (small l.packets typed.packets);
        time = zero_is l.time e.time;
      };
    }
soft_by true false false true l typed e =
    record {
      members = refl;
      action = refl;
      limits =
          record {
            bytes = zero_is l.bytes e.bytes;
            idle = number_again 0 (2 ^ 32 - 1) l.idle (omega arith) (small l.idle typed.idle);
            packets =
                number_again 0 (2 ^ 32 - 1) l.packets (omega arith) (small l.packets typed.packets);
            time = zero_is l.time e.time;
          };
    }
soft_by true false false false l typed e =
    record {
      members = refl;
      action = refl;
      limits = record {
        bytes = wide_again l.bytes typed.bytes;
        idle =
            number_again 0 (2 ^ 32 - 1) l.idle (omega arith) (small l.idle typed.idle);
        packets =
            number_again 0 (2 ^ 32 - 1) l.packets (omega arith) (small l.packets typed.packets);
        time = zero_is l.time e.time;
      };
    }
soft_by false true true true l typed e =
    record {
      members = refl;
      action = refl;
      limits = record {
        bytes = zero_is l.bytes e.bytes;
        idle = zero_is l.idle e.idle;
        packets =
            zero_is l.packets e.packets;
        time = number_again 0 (2 ^ 32 - 1) l.time (omega arith) (small l.time typed.time);
      };
    }
soft_by false true true false l typed e =
    record {
      members = refl;
      action = refl;
      limits = record {
        bytes = wide_again l.bytes typed.bytes;
        idle = zero_is l.idle e.idle;
        packets = zero_is l.packets e.packets;
        time = number_again 0 (2 ^ 32 - 1) l.time (omega arith) (small l.time typed.time);
      };
    }
soft_by false true false true l typed e =
    record {
      members = refl;
      action = refl;
      limits =
          record {
            bytes = zero_is l.bytes e.bytes;
            idle = number_again 0 (2 ^ 32 - 1) l.idle (omega arith) (small l.idle typed.idle);
            packets =
                zero_is l.packets e.packets;
            time = number_again 0 (2 ^ 32 - 1) l.time (omega arith) (small l.time typed.time);
          };
    }
soft_by false true false false l typed e =
    record {
      members = refl;
      action = refl;
      limits = record {
        bytes = wide_again l.bytes typed.bytes;
        idle =
            number_again 0 (2 ^ 32 - 1) l.idle (omega arith) (small l.idle typed.idle);
        packets = zero_is l.packets e.packets;
        time =
            number_again 0 (2 ^ 32 - 1) l.time (omega arith) (small l.time typed.time);
      };
    }
soft_by false false true true l typed e =
    record {
      members = refl;
      action = refl;
      limits = record {
        bytes = zero_is l.bytes e.bytes;
        idle = zero_is l.idle e.idle;
        packets =
            number_again 0 (2 ^ 32 - 1) l.packets (omega arith) (small l.packets typed.packets);
        time =
            number_again 0 (2 ^ 32 - 1) l.time (omega arith) (small l.time typed.time);
      };
    }
soft_by false false true false l typed e =
    record {
      members = refl;
      action = refl;
      limits = record {
        bytes = wide_again l.bytes typed.bytes;
        idle = zero_is l.idle e.idle;
        packets = number_again 0 (2 ^ 32 - 1) l.packets (omega arith) (small l.packets typed.packets);
        time =
            number_again 0 (2 ^ 32 - 1) l.time (omega arith) (small l.time typed.time);
      };
    }
soft_by false false false true l typed e =
    record {
      members = refl;
      action = refl;
      limits =
          record {
            bytes = zero_is l.bytes e.bytes;
            idle = number_again 0 (2 ^ 32 - 1) l.idle (omega arith) (small l.idle typed.idle);
            packets =
                number_again 0 (2 ^ 32 - 1) l.packets (omega arith) (small l.packets typed.packets);
            time =
                number_again 0 (2 ^ 32 - 1) l.time (omega arith) (small l.time typed.time);
          };
    }
soft_by false false false false l typed e =
    record {
      members = refl;
      action = refl;
      limits = record {
        bytes = wide_again l.bytes typed.bytes;
        idle =
            number_again 0 (2 ^ 32 - 1) l.idle (omega arith) (small l.idle typed.idle);
        packets =
            number_again 0 (2 ^ 32 - 1) l.packets (omega arith) (small l.packets typed.packets);
        time =
            number_again 0 (2 ^ 32 - 1) l.time (omega arith) (small l.time typed.time);
      };
    }

soft_again : (l : Limits) → IsTypedLimits l → IsSoft l (object (put (codes "action") (word (codes "replace")) (limits_members l)))
soft_again l typed = soft_by (l.time == 0) (l.packets == 0) (l.idle == 0) (l.bytes == 0) l typed
    (record { time = refl; packets = refl; idle = refl; bytes = refl })

pub none_is : (l : Limits) → has_no_limits l ≡ true → l ≡ no_limits
none_is l h =
    let a = and_parts ((l.time == 0) && (l.bytes == 0) && (l.packets == 0)) (l.idle == 0) h in
    let b = and_parts ((l.time == 0) && (l.bytes == 0)) (l.packets == 0) a.0 in
    let c = and_parts (l.time == 0) (l.bytes == 0) b.0 in
    let time = zero_is l.time c.0 in
    let bytes = zero_is l.bytes c.1 in
    let packets = zero_is l.packets b.1 in
    let idle = zero_is l.idle a.1 in
    made l.time l.bytes l.packets l.idle time bytes packets idle
  where
    made : (t b p i : ℕ) → t ≡ 0 → b ≡ 0 → p ≡ 0 → i ≡ 0 → (let m : Limits = record { time = t; bytes = b; packets = p; idle = i } in
        m) ≡ no_limits
    made t b p i e f g h = rw (e, f, g, h) refl

encryption_again : CanHex → (key : List ℕ) → All (λ o. o < 256) key → is_key_length (length key) ≡ true
    → IsEncryption key (encryption_data (Some key))
encryption_again hex key octets long = record { members = refl; algorithm = refl; key = ((hex_colons key, refl, hex key octets), long) }

tunnel_again : (e : SadEntry) → IsTypedHalf e → IsTunnel e (tunnel_data e)
unfolding tunnel_data
tunnel_again e typed = record {
  members = refl;
  df = refl;
  local = address_text_again e.local typed.local;
  remote =
      address_text_again e.remote typed.remote;
}

record IsGood (e : SadEntry) : Type 0 where
  typed : IsTypedHalf e
  name : is_sad_name e.name ≡ true
  spi : 256 ≤ e.spi
  key : is_key_length (length e.key) ≡ true
  window : is_window e.window ≡ true

-- the configuration, by which lifetimes have no limits
abbrev config_where : (h s : Bool) → SadEntry → Data
config_where h s e =
    let soft = if s then with_ends e no_members else put (codes "sa-lifetime-soft")
    (object (put (codes "action") (word (codes "replace")) (limits_members e.soft))) (with_ends e no_members) in
    let hard = if h then soft else put (codes "sa-lifetime-hard") (object (limits_members e.hard)) soft in
    object (with_sealing e.window (Some e.key) (with_fixed hard))

config_by : CanHex → (h s : Bool) (e : SadEntry) → IsGood e → has_no_limits e.hard ≡ h → has_no_limits e.soft ≡ s
    → IsHalfConfig e (config_where h s e)
unfolding with_sealing with_fixed with_ends
config_by hex true true e good eh es = record {
  members = refl;
  window = window_again e.window good.window;
  key = (refl, encryption_again hex e.key good.typed.key good.key);
  extended = refl;
  mode = refl;
  protocol = refl;
  hard = none_is e.hard eh;
  soft = none_is e.soft es;
  overflow = refl;
  spi = number_again 256 (2 ^ 32 - 1) e.spi good.spi (small e.spi good.typed.spi);
  selector = selector_again e.selector good.typed.selector;
  tunnel = tunnel_again e good.typed;
}
config_by hex true false e good eh es = record {
  members = refl;
  window = window_again e.window good.window;
  key = (refl, encryption_again hex e.key good.typed.key good.key);
  extended = refl;
  mode = refl;
  protocol = refl;
  hard = none_is e.hard eh;
  soft = soft_again e.soft good.typed.soft;
  overflow = refl;
  spi = number_again 256 (2 ^ 32 - 1) e.spi good.spi (small e.spi good.typed.spi);
  selector = selector_again e.selector good.typed.selector;
  tunnel = tunnel_again e good.typed;
}
config_by hex false true e good eh es = record {
  members = refl;
  window = window_again e.window good.window;
  key = (refl, encryption_again hex e.key good.typed.key good.key);
  extended = refl;
  mode = refl;
  protocol = refl;
  hard = limits_again e.hard good.typed.hard;
  soft = none_is e.soft es;
  overflow = refl;
  spi = number_again 256 (2 ^ 32 - 1) e.spi good.spi (small e.spi good.typed.spi);
  selector = selector_again e.selector good.typed.selector;
  tunnel = tunnel_again e good.typed;
}
config_by hex false false e good eh es = record {
  members = refl;
  window = window_again e.window good.window;
  key = (refl, encryption_again hex e.key good.typed.key good.key);
  extended = refl;
  mode = refl;
  protocol = refl;
  hard = limits_again e.hard good.typed.hard;
  soft = soft_again e.soft good.typed.soft;
  overflow = refl;
  spi = number_again 256 (2 ^ 32 - 1) e.spi good.spi (small e.spi good.typed.spi);
  selector = selector_again e.selector good.typed.selector;
  tunnel = tunnel_again e good.typed;
}

config_again : CanHex → (e : SadEntry) → IsGood e → IsHalfConfig e (config_data e (Some e.key))
unfolding config_data
config_again hex e good = config_by hex (has_no_limits e.hard) (has_no_limits e.soft) e good refl refl

entry_again : CanHex → (e : SadEntry) → IsGood e → IsSadEntry e (sad_entry_data e)
unfolding sad_entry_data
entry_again hex e good = record {
  members = refl;
  config = config_again hex e good;
  name = (refl, good.name);
  reqid = wide_again e.reqid good.typed.reqid;
}

good_half : (e : SadEntry) → IsTypedHalf e → sad_fault e ≡ None → IsGood e
unfolding sad_fault
good_half e typed h =
    let named = no_fault _ _ _ h in
    let numbered = no_fault _ _ _ named.1 in
    let keyed = no_fault _ _ _ numbered.1 in
    let windowed = no_fault _ _ _ keyed.1 in
    let high : nat_lt e.spi 256 ≡ false = numbered.0 in
    record {
      typed = typed;
      name = not-false _ named.0;
      spi = grind (arith, nat_tests, high);
      key = not-false _ keyed.0;
      window = not-false _ windowed.0;
    }

pub one_half_again : CanHex → (e : SadEntry) → IsTypedHalf e → sad_fault e ≡ None → IsOneSadEntry e (one_sad_entry e)
one_half_again hex e typed h = (refl, (sad_entry_data e, refl, entry_again hex e (good_half e typed h)))
