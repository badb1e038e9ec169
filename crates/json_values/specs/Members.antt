-- The names of the members that each object may have, and of those that it is to have (RFC 9061 section 5.3, and the
-- commands of this project).
use Rattle.std.specs.Prelude.{ℕ, List, [], ◌∷◌, codes, Result, ⊤}
use Rattle.serde_json.specs.Data.{Data}
use Rattle.json_values.specs.declared.fault.Fault.{Fault}
use Rattle.json_values.specs.Shapes.{shape}

-- the members of a range of ports
abbrev pub range_names : List (List ℕ)
range_names = codes "end" ∷ codes "start" ∷ []

-- a range of ports: both ends are needed
unfoldable pub range_shape : Data → Result ⊤ Fault
range_shape d = shape range_names range_names d

-- the members of `traffic-selector`
abbrev pub selector_names : List (List ℕ)
selector_names = codes "inner-protocol" ∷ codes "local-ports" ∷ codes "local-prefix" ∷ codes "remote-ports" ∷ codes "remote-prefix" ∷ []

-- `traffic-selector`: both prefixes are needed
unfoldable pub selector_shape : Data → Result ⊤ Fault
selector_shape d = shape selector_names (codes "local-prefix" ∷ codes "remote-prefix" ∷ []) d

-- the members of limits and of counts
abbrev pub limits_names : List (List ℕ)
limits_names = codes "bytes" ∷ codes "idle" ∷ codes "packets" ∷ codes "time" ∷ []

-- counts, all of which are needed
unfoldable pub counts_shape : Data → Result ⊤ Fault
counts_shape d = shape limits_names limits_names d

-- limits, none of which is needed
unfoldable pub limits_shape : Data → Result ⊤ Fault
limits_shape d = shape limits_names [] d

-- soft limits, with what is to be done at them; no member is needed
unfoldable pub soft_shape : Data → Result ⊤ Fault
soft_shape d = shape (codes "action" ∷ limits_names) [] d

-- `ipsec-sa-cfg` of a policy; no member is needed
unfoldable pub suite_shape : Data → Result ⊤ Fault
suite_shape d = shape (codes "ext-seq-num" ∷ codes "mode" ∷ codes "pfp-flag" ∷ codes "protocol-parameters" ∷ codes "seq-overflow"
    ∷ codes "stateful-frag-check" ∷ []) [] d

-- `processing-info`; no member is needed
unfoldable pub processing_shape : Data → Result ⊤ Fault
processing_shape d = shape (codes "action" ∷ codes "ipsec-sa-cfg" ∷ []) [] d

-- `ipsec-policy-config`: the selector is needed
unfoldable pub policy_shape : Data → Result ⊤ Fault
policy_shape d = shape (codes "anti-replay-window-size" ∷ codes "processing-info" ∷ codes "traffic-selector" ∷ []) (codes "traffic-selector"
    ∷ []) d

-- `spd-entry`: all but the `reqid` is needed
unfoldable pub spd_entry_shape : Data → Result ⊤ Fault
spd_entry_shape d = shape (codes "direction" ∷ codes "ipsec-policy-config" ∷ codes "name" ∷ codes "reqid" ∷ []) (codes "direction"
    ∷ codes "ipsec-policy-config" ∷ codes "name" ∷ []) d

-- `encryption`: the key is needed
unfoldable pub encryption_shape : Data → Result ⊤ Fault
encryption_shape d = shape (codes "encryption-algorithm" ∷ codes "key" ∷ []) (codes "key" ∷ []) d

-- `tunnel`: both addresses are needed
unfoldable pub tunnel_shape : Data → Result ⊤ Fault
tunnel_shape d = shape (codes "df-bit" ∷ codes "local" ∷ codes "remote" ∷ []) (codes "local" ∷ codes "remote" ∷ []) d

-- the members of `ipsec-sa-config`
abbrev pub config_names : List (List ℕ)
config_names = codes "anti-replay-window-size" ∷ codes "esp-sa" ∷ codes "ext-seq-num" ∷ codes "mode" ∷ codes "protocol-parameters"
    ∷ codes "sa-lifetime-hard" ∷ codes "sa-lifetime-soft" ∷ codes "seq-overflow" ∷ codes "spi" ∷ codes "traffic-selector" ∷ codes "tunnel"
    ∷ []

-- `ipsec-sa-config`: the key, the SPI, the selector and the ends of the tunnel are needed
unfoldable pub config_shape : Data → Result ⊤ Fault
config_shape d = shape config_names (codes "esp-sa" ∷ codes "spi" ∷ codes "traffic-selector" ∷ codes "tunnel" ∷ []) d

-- `sad-entry`: all but the `reqid` is needed
unfoldable pub sad_entry_shape : Data → Result ⊤ Fault
sad_entry_shape d = shape (codes "ipsec-sa-config" ∷ codes "name" ∷ codes "reqid" ∷ []) (codes "ipsec-sa-config" ∷ codes "name" ∷ []) d

-- the input of `policy`: the gateway and its list are needed
unfoldable pub list_input_shape : Data → Result ⊤ Fault
list_input_shape d = shape (codes "gateway" ∷ codes "spd-entry" ∷ []) (codes "gateway" ∷ codes "spd-entry" ∷ []) d

-- the members of the input of `tunnel` that are needed: all but the limits
abbrev pub tunnel_needs : List (List ℕ)
tunnel_needs = codes "anti-replay-window-size" ∷ codes "first" ∷ codes "first-prefix" ∷ codes "mode" ∷ codes "reqid" ∷ codes "second"
    ∷ codes "second-prefix" ∷ []

-- whether the input of `tunnel` has the members that it must have, and no others
unfoldable pub tunnel_input_shape : Data → Result ⊤ Fault
tunnel_input_shape d = shape (codes "hard" ∷ codes "soft" ∷ tunnel_needs) tunnel_needs d
