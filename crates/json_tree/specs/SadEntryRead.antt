-- Reads halves (RFC 9061 section 5.3).
use Rattle.std.specs.Prelude.{ℕ, ◌-◌, ◌^◌, List, codes, Option, Some, None, Result, Ok, Err, ⊤}
use Rattle.serde_json.specs.Data.{Data}
use Rattle.serde_json.specs.Find.{get, as_array}
use Rattle.ikl_base.specs.declared.address.Addr.{Addr}
use Rattle.ikeless_tree.specs.declared.sad.Df.{Df}
use Rattle.ikeless_tree.specs.declared.sad.Limits.{Limits}
use Rattle.ikeless_tree.specs.declared.sad.SadEntry.{SadEntry}
use Rattle.ikeless_tree.specs.Check.{is_sad_name, sad_fault}
use Rattle.json_values.specs.declared.fault.Kind.TheVariants as kinds
use Rattle.json_values.specs.declared.fault.Fault.{Fault}
use Rattle.json_tree.specs.declared.sad_entry_read.Sealing.{Sealing}
use Rattle.json_tree.specs.declared.sad_entry_read.Lifetimes.{Lifetimes}
use Rattle.json_tree.specs.declared.sad_entry_read.TunnelEnds.{TunnelEnds}
use Rattle.json_tree.specs.declared.sad_entry_read.Traffic.{Traffic}
use Rattle.json_tree.specs.declared.sad_entry_read.HalfConfig.{HalfConfig}
use Rattle.json_values.specs.Faults.{here, within, at_member, checked, ◌>>=◌}
use Rattle.json_values.specs.Shapes.{only_in, one_read}
use Rattle.json_values.specs.Leaves.{needed_number, address_leaf, df_leaf, fixed_number, key_leaf, name_in}
use Rattle.json_values.specs.Members.{encryption_shape, tunnel_shape, limits_shape, soft_shape, config_shape, sad_entry_shape}
use Rattle.json_tree.specs.SelectorRead.{selector_of, limits_from}
use Rattle.json_values.specs.Json.{no_limits}
use Rattle.json_tree.specs.PolicyRead.{unset_in, word_in, window_in, reqid_in}

-- AES-GCM with an ICV of 16 octets, the number 20
abbrev pub algorithm_in : Data → Result ⊤ Fault
algorithm_in d = at_member (codes "encryption-algorithm") (fixed_number 20 (get (codes "encryption-algorithm") d))

-- the keying material of a half
abbrev pub key_in : Data → Result (List ℕ) Fault
key_in d = at_member (codes "key") (key_leaf (get (codes "key") d))

-- the keying material of `encryption`, whose algorithm is AES-GCM
unfoldable pub encryption_in : Data → Result (List ℕ) Fault
encryption_in d = encryption_shape d >>= (λ done. algorithm_in d >>= (λ algorithm. key_in d))

-- the keying material of `esp-sa`
unfoldable pub suite_key : Data → Result (List ℕ) Fault
suite_key d = only_in (codes "encryption") d >>= (λ inner. within (codes "encryption") (encryption_in inner))

-- the same of a member that is needed
abbrev pub suite_key_of : Option Data → Result (List ℕ) Fault
suite_key_of None = Err (here kinds.Missing)
suite_key_of (Some d) = within (codes "esp-sa") (suite_key d)

-- the window, the key, and what stands the same in each half
unfoldable pub sealing_in : Data → Result Sealing Fault
sealing_in d =
    window_in d >>= (λ window.
    suite_key_of (get (codes "esp-sa") d) >>= (λ key.
    unset_in (codes "ext-seq-num") d >>= (λ narrow.
    word_in (codes "mode") (codes "tunnel") d >>= (λ mode.
    word_in (codes "protocol-parameters") (codes "esp") d >>= (λ protocol.
    Ok (record { window = window; key = key }))))))

-- the limits of an object; none of its members is needed
unfoldable pub limits_in : Data → Result Limits Fault
limits_in d = limits_shape d >>= (λ done. limits_from d)

-- an absent lifetime has no limits
abbrev pub limits_of : List ℕ → Option Data → Result Limits Fault
limits_of name None = Ok no_limits
limits_of name (Some d) = within name (limits_in d)

-- the soft limits of an object, at which a half can only be replaced
unfoldable pub soft_in : Data → Result Limits Fault
soft_in d = soft_shape d >>= (λ done. word_in (codes "action") (codes "replace") d >>= (λ action. limits_from d))

-- absent soft limits are none
abbrev pub soft_of : Option Data → Result Limits Fault
soft_of None = Ok no_limits
soft_of (Some d) = within (codes "sa-lifetime-soft") (soft_in d)

-- the hard limits and the soft ones; a half doesn't go on after its last sequence number
unfoldable pub lifetimes_in : Data → Result Lifetimes Fault
lifetimes_in d =
    limits_of (codes "sa-lifetime-hard") (get (codes "sa-lifetime-hard") d) >>= (λ hard.
    soft_of (get (codes "sa-lifetime-soft") d) >>= (λ soft.
    unset_in (codes "seq-overflow") d >>= (λ overflow.
    Ok (record { hard = hard; soft = soft }))))

-- where the outer DF bit comes from; `copy` where that is absent
abbrev pub df_in : Data → Result Df Fault
df_in d = at_member (codes "df-bit") (df_leaf (get (codes "df-bit") d))

-- the address in the member of this name
abbrev pub address_in : List ℕ → Data → Result Addr Fault
address_in name d = at_member name (address_leaf (get name d))

-- the two ends of a tunnel, and where its outer DF bit comes from
unfoldable pub tunnel_in : Data → Result TunnelEnds Fault
tunnel_in d =
    tunnel_shape d >>= (λ done.
    df_in d >>= (λ df.
    address_in (codes "local") d >>= (λ local.
    address_in (codes "remote") d >>= (λ remote.
    Ok (record { df = df; local = local; remote = remote })))))

-- the same of a member that is needed
abbrev pub tunnel_of : Option Data → Result TunnelEnds Fault
tunnel_of None = Err (here kinds.Missing)
tunnel_of (Some d) = within (codes "tunnel") (tunnel_in d)

-- the SPI, from 256 on: the smaller ones are reserved (RFC 4303 section 2.1)
abbrev pub spi_in : Data → Result ℕ Fault
spi_in d = at_member (codes "spi") (needed_number 256 (2 ^ 32 - 1) (get (codes "spi") d))

-- the SPI of a half, the packets that it holds and the ends of its tunnel
unfoldable pub traffic_in : Data → Result Traffic Fault
traffic_in d =
    spi_in d >>= (λ spi.
    selector_of (get (codes "traffic-selector") d) >>= (λ selector.
    tunnel_of (get (codes "tunnel") d) >>= (λ tunnel.
    Ok (record { spi = spi; selector = selector; tunnel = tunnel }))))

-- all of `ipsec-sa-config`; the first fault is found in the order of members
unfoldable pub config_in : Data → Result HalfConfig Fault
config_in d =
    config_shape d >>= (λ done.
    sealing_in d >>= (λ sealing.
    lifetimes_in d >>= (λ lifetimes.
    traffic_in d >>= (λ traffic.
    Ok (record { sealing = sealing; lifetimes = lifetimes; traffic = traffic })))))

-- the same of a member that is needed
abbrev pub config_of : Option Data → Result HalfConfig Fault
config_of None = Err (here kinds.Missing)
config_of (Some d) = within (codes "ipsec-sa-config") (config_in d)

-- the half of its configuration, name and number
abbrev pub half_of : HalfConfig → List ℕ → ℕ → SadEntry
half_of c name reqid = record {
  name = name;
  reqid = reqid;
  spi = c.traffic.spi;
  window = c.sealing.window;
  selector = c.traffic.selector;
  key = c.sealing.key;
  local = c.traffic.tunnel.local;
  remote = c.traffic.tunnel.remote;
  df = c.traffic.tunnel.df;
  hard = c.lifetimes.hard;
  soft = c.lifetimes.soft;
}

-- the half of a `sad-entry`
unfoldable pub sad_entry_in : Data → Result SadEntry Fault
sad_entry_in d =
    sad_entry_shape d >>= (λ done.
    config_of (get (codes "ipsec-sa-config") d) >>= (λ config.
    name_in (codes "name") is_sad_name d >>= (λ name.
    reqid_in d >>= (λ reqid.
    Ok (half_of config name reqid)))))

-- the one half of a body, before it is looked at as a whole
unfoldable pub one_half : Data → Result SadEntry Fault
one_half d = only_in (codes "ietf-i2nsf-ikeless:sad-entry") d >>= (λ list. within (codes "ietf-i2nsf-ikeless:sad-entry")
    (one_read sad_entry_in (as_array list)))

-- the body that has one half; what is wrong with it as a whole comes last
unfoldable pub one_sad_entry_in : Data → Result SadEntry Fault
one_sad_entry_in d = one_half d >>= (λ e. checked e (sad_fault e))
