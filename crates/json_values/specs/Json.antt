-- Which JSON values stand for what (RFC 7951 over the YANG module ietf-i2nsf-ikeless, RFC 9061 section 5.3): a value
-- has the leaves of its object, in any order of members and each string in any allowed spelling, and no other member.
-- An absent member stands for the value that is said beside it.
use Rattle.std.specs.Prelude.{◌≡◌, ℕ, ◌-◌, ◌^◌, ◌≤◌, Bool, true, false, List, [], ◌∷◌, codes, length, Option, Some, None, Ok, IsUtf8}
use Rattle.serde_json.specs.Data.{Data, unsigned, null, boolean, number, string, array, object, Items, no_items, item}
use Rattle.serde_json.specs.Find.{get}
use Rattle.serde_json.specs.Read.{read}
use Rattle.ikl_base.specs.declared.address.Addr.{Addr}
use Rattle.ikl_base.specs.declared.address.Prefix.{Prefix}
use Rattle.ikeless_tree.specs.declared.entry.Range.{Range}
use Rattle.ikeless_tree.specs.declared.entry.Action.{Action}
use Rattle.ikeless_tree.specs.declared.entry.Action.TheVariants as actions
use Rattle.ikeless_tree.specs.declared.entry.Selector.{Selector}
use Rattle.ikeless_tree.specs.declared.entry.SpdEntry.{SpdEntry}
use Rattle.ikeless_tree.specs.declared.sad.Limits.{Limits}
use Rattle.ikeless_tree.specs.declared.sad.Df.TheVariants as bits
use Rattle.ikeless_tree.specs.declared.sad.SadEntry.{SadEntry}
use Rattle.ikeless_tree.specs.declared.command.Command.{Command}
use Rattle.ikeless_tree.specs.declared.command.Command.TheVariants as commands
use Rattle.ikeless_tree.specs.declared.command.TunnelSpec.{TunnelSpec}
use Rattle.ikeless_tree.specs.Check.{is_spd_name, is_sad_name, is_key_length, is_gateway}
use Rattle.yang_values.specs.Numbers.{u64_of}
use Rattle.yang_values.specs.Addresses.{address_of}
use Rattle.yang_values.specs.Prefixes.{prefix_of}
use Rattle.yang_values.specs.HexText.{hex_of}
use Rattle.ikeless_tree.specs.Words.{direction_word, action_text, df_text, mode_text}
use Rattle.json_values.specs.Members.{range_names, selector_names, limits_names, config_names, tunnel_needs}
use Rattle.json_values.specs.Shapes.{has_unknown}

-- ---- members

-- an object whose members have no other names than these
abbrev pub HasOnly : List (List ℕ) → Data → Type 0
HasOnly names null = ⊥
HasOnly names (boolean b) = ⊥
HasOnly names (number n) = ⊥
HasOnly names (string s) = ⊥
HasOnly names (array ds) = ⊥
HasOnly names (object ms) = has_unknown names ms ≡ false

-- a member that is needed
abbrev pub Needed : (Data → Type 0) → Option Data → Type 0
Needed P None = ⊥
Needed P (Some d) = P d

-- a member that may be absent, where this holds
abbrev pub Optional : (Data → Type 0) → Type 0 → Option Data → Type 0
Optional P absent None = absent
Optional P absent (Some d) = P d

-- ---- leaves

-- the JSON number of n, which is in this range
abbrev pub IsNumber : ℕ → ℕ → ℕ → Data → Type 0
IsNumber least most n d = (d ≡ number (unsigned n)) × (least ≤ n) × (n ≤ most)

-- a string that is this word
abbrev pub IsWord : List ℕ → Data → Type 0
IsWord word d = d ≡ string word

-- the JSON value `false`
abbrev pub IsFalse : Data → Type 0
IsFalse d = d ≡ boolean false

-- a number of 64 bits stands as a string (RFC 7951 section 6.1)
abbrev pub IsWide : ℕ → Data → Type 0
IsWide n d = (t : List ℕ) × (d ≡ string t) × (u64_of t ≡ Ok n)

-- a string that spells this prefix (RFC 6991 section 4, `ip-prefix`)
abbrev pub IsPrefix : Prefix → Data → Type 0
IsPrefix p d = (t : List ℕ) × (d ≡ string t) × (prefix_of t ≡ Ok p)

-- a string that spells this address (RFC 6991 section 4, `ip-address`)
abbrev pub IsAddressText : Addr → Data → Type 0
IsAddressText a d = (t : List ℕ) × (d ≡ string t) × (address_of t ≡ Ok a)

-- a string of these octets in hex, in pairs with colons between them (RFC 6991 section 3, `hex-string`)
abbrev pub IsHex : List ℕ → Data → Type 0
IsHex octets d = (t : List ℕ) × (d ≡ string t) × (hex_of t ≡ Ok octets)

-- the same of keying material: an AES key of 16 or 32 octets and a salt of 4 (RFC 4106 section 8.1)
abbrev pub IsKey : List ℕ → Data → Type 0
IsKey key d = IsHex key d × (is_key_length (length key) ≡ true)

-- a string that is this name, whose octets and length this test allows
abbrev pub IsName : (List ℕ → Bool) → List ℕ → Data → Type 0
IsName is_name name d = (d ≡ string name) × (is_name name ≡ true)

-- the number of an upper layer protocol, or `any`
abbrev pub IsProtocol : Option ℕ → Data → Type 0
IsProtocol None d = IsWord (codes "any") d
IsProtocol (Some n) d = IsNumber 0 255 n d

-- ---- lists

-- as many items as values, each standing for the value at its place
abbrev pub Each : {A : Type 0} → (A → Data → Type 0) → List A → Items → Type 0
Each P [] no_items = Unit {0}
Each P [] (item d ds) = ⊥
Each P (x ∷ xs) no_items = ⊥
Each P (x ∷ xs) (item d ds) = P x d × Each P xs ds

-- a JSON array, whose items stand for these values in their order
abbrev pub IsListOf : {A : Type 0} → (A → Data → Type 0) → List A → Data → Type 0
IsListOf P xs d = (ds : Items) × (d ≡ array ds) × Each P xs ds

-- a list of this one
abbrev pub IsOne : (Data → Type 0) → Data → Type 0
IsOne P d = (e : Data) × (d ≡ array (item e no_items)) × P e

-- an object of one member
abbrev pub IsOnly : List ℕ → (Data → Type 0) → Data → Type 0
IsOnly name P d = HasOnly (name ∷ []) d × Needed P (get name d)

-- ---- selectors

-- a range of ports, both ends counted in
pub record IsRange (r : Range) (d : Data) : Type 0 where
  pub members : HasOnly range_names d
  pub end : Needed (IsNumber 0 65535 r.end) (get (codes "end") d)
  pub start : Needed (IsNumber 0 65535 r.start) (get (codes "start") d)

-- a list of ranges of ports
abbrev pub ArePorts : List Range → Data → Type 0
ArePorts rs d = IsListOf IsRange rs d

-- `traffic-selector`: which packets a policy or a half holds; an absent protocol or list of ports stands for any
pub record IsSelector (s : Selector) (d : Data) : Type 0 where
  pub members : HasOnly selector_names d
  pub proto : Optional (IsProtocol s.proto) (s.proto ≡ None) (get (codes "inner-protocol") d)
  pub local_ports : Optional (ArePorts s.local_ports) (s.local_ports ≡ []) (get (codes "local-ports") d)
  pub local : Needed (IsPrefix s.local) (get (codes "local-prefix") d)
  pub remote_ports : Optional (ArePorts s.remote_ports) (s.remote_ports ≡ []) (get (codes "remote-ports") d)
  pub remote : Needed (IsPrefix s.remote) (get (codes "remote-prefix") d)

-- ---- policies

-- what doesn't change what a gateway does has one value
pub record IsSuite (d : Data) : Type 0 where
  pub members : HasOnly (codes "ext-seq-num" ∷ codes "mode" ∷ codes "pfp-flag" ∷ codes "protocol-parameters" ∷ codes "seq-overflow"
      ∷ codes "stateful-frag-check" ∷ []) d
  pub extended : Optional IsFalse (Unit {0}) (get (codes "ext-seq-num") d)
  pub mode : Optional (IsWord (codes "tunnel")) (Unit {0}) (get (codes "mode") d)
  pub flag : Optional IsFalse (Unit {0}) (get (codes "pfp-flag") d)
  pub protocol : Optional (IsWord (codes "esp")) (Unit {0}) (get (codes "protocol-parameters") d)
  pub overflow : Optional IsFalse (Unit {0}) (get (codes "seq-overflow") d)
  pub fragments : Optional IsFalse (Unit {0}) (get (codes "stateful-frag-check") d)

-- `processing-info`: what is done with a packet; the action that an absent one stands for is `discard`
pub record IsProcessing (x : Action) (d : Data) : Type 0 where
  pub members : HasOnly (codes "action" ∷ codes "ipsec-sa-cfg" ∷ []) d
  pub action : Optional (IsWord (action_text x)) (x ≡ actions.Discard) (get (codes "action") d)
  pub suite : Optional IsSuite (Unit {0}) (get (codes "ipsec-sa-cfg") d)

-- `ipsec-policy-config` of a policy; an absent window has the size 64
pub record IsPolicy (e : SpdEntry) (d : Data) : Type 0 where
  pub members : HasOnly (codes "anti-replay-window-size" ∷ codes "processing-info" ∷ codes "traffic-selector" ∷ []) d
  pub window : Optional (IsNumber 32 4096 e.window) (e.window ≡ 64) (get (codes "anti-replay-window-size") d)
  pub action : Optional (IsProcessing e.action) (e.action ≡ actions.Discard) (get (codes "processing-info") d)
  pub selector : Needed (IsSelector e.selector) (get (codes "traffic-selector") d)

-- `spd-entry`: a policy with its direction, its name and its `reqid`, which is 0 where it is absent
pub record IsSpdEntry (e : SpdEntry) (d : Data) : Type 0 where
  pub members : HasOnly (codes "direction" ∷ codes "ipsec-policy-config" ∷ codes "name" ∷ codes "reqid" ∷ []) d
  pub direction : Needed (IsWord (direction_word e.direction)) (get (codes "direction") d)
  pub policy : Needed (IsPolicy e) (get (codes "ipsec-policy-config") d)
  pub name : Needed (IsName is_spd_name e.name) (get (codes "name") d)
  pub reqid : Optional (IsWide e.reqid) (e.reqid ≡ 0) (get (codes "reqid") d)

-- the body that has all policies
abbrev pub IsSpd : List SpdEntry → Data → Type 0
IsSpd es d = IsOnly (codes "ietf-i2nsf-ikeless:spd") (IsOnly (codes "spd-entry") (IsListOf IsSpdEntry es)) d

-- the body that has one policy
abbrev pub IsOneSpdEntry : SpdEntry → Data → Type 0
IsOneSpdEntry e d = IsOnly (codes "ietf-i2nsf-ikeless:spd-entry") (IsOne (IsSpdEntry e)) d

-- ---- lifetimes

-- the members of limits: octets, seconds idle, packets and seconds; an absent one is 0
pub record HasLimits (l : Limits) (d : Data) : Type 0 where
  pub bytes : Optional (IsWide l.bytes) (l.bytes ≡ 0) (get (codes "bytes") d)
  pub idle : Optional (IsNumber 0 (2 ^ 32 - 1) l.idle) (l.idle ≡ 0) (get (codes "idle") d)
  pub packets : Optional (IsNumber 0 (2 ^ 32 - 1) l.packets) (l.packets ≡ 0) (get (codes "packets") d)
  pub time : Optional (IsNumber 0 (2 ^ 32 - 1) l.time) (l.time ≡ 0) (get (codes "time") d)

-- a limit of 0 is no limit
abbrev pub no_limits : Limits
no_limits = record { time = 0; bytes = 0; packets = 0; idle = 0 }

-- the object of limits, with no member besides
abbrev pub IsLimits : Limits → Data → Type 0
IsLimits l d = HasOnly limits_names d × HasLimits l d

-- the object of soft limits, which may say besides that the half is then to be replaced
pub record IsSoft (l : Limits) (d : Data) : Type 0 where
  pub members : HasOnly (codes "action" ∷ limits_names) d
  pub action : Optional (IsWord (codes "replace")) (Unit {0}) (get (codes "action") d)
  pub limits : HasLimits l d

-- ---- halves

-- AES-GCM with an ICV of 16 octets has the number 20 (RFC 4106 section 8.4)
abbrev pub IsAlgorithm : Data → Type 0
IsAlgorithm d = d ≡ number (unsigned 20)

-- `encryption`: the algorithm, which may be absent, and the keying material
pub record IsEncryption (octets : List ℕ) (d : Data) : Type 0 where
  pub members : HasOnly (codes "encryption-algorithm" ∷ codes "key" ∷ []) d
  pub algorithm : Optional IsAlgorithm (Unit {0}) (get (codes "encryption-algorithm") d)
  pub key : Needed (IsKey octets) (get (codes "key") d)

-- `tunnel`: its two ends, and where the outer DF bit comes from; `copy` where that is absent
pub record IsTunnel (e : SadEntry) (d : Data) : Type 0 where
  pub members : HasOnly (codes "df-bit" ∷ codes "local" ∷ codes "remote" ∷ []) d
  pub df : Optional (IsWord (df_text e.df)) (e.df ≡ bits.Copy) (get (codes "df-bit") d)
  pub local : Needed (IsAddressText e.local) (get (codes "local") d)
  pub remote : Needed (IsAddressText e.remote) (get (codes "remote") d)

-- `ipsec-sa-config` of a half; an absent window has the size 64, an absent lifetime no limits
pub record IsHalfConfig (e : SadEntry) (d : Data) : Type 0 where
  pub members : HasOnly config_names d
  pub window : Optional (IsNumber 32 4096 e.window) (e.window ≡ 64) (get (codes "anti-replay-window-size") d)
  pub key : Needed (IsOnly (codes "encryption") (IsEncryption e.key)) (get (codes "esp-sa") d)
  pub extended : Optional IsFalse (Unit {0}) (get (codes "ext-seq-num") d)
  pub mode : Optional (IsWord (codes "tunnel")) (Unit {0}) (get (codes "mode") d)
  pub protocol : Optional (IsWord (codes "esp")) (Unit {0}) (get (codes "protocol-parameters") d)
  pub hard : Optional (IsLimits e.hard) (e.hard ≡ no_limits) (get (codes "sa-lifetime-hard") d)
  pub soft : Optional (IsSoft e.soft) (e.soft ≡ no_limits) (get (codes "sa-lifetime-soft") d)
  pub overflow : Optional IsFalse (Unit {0}) (get (codes "seq-overflow") d)
  pub spi : Needed (IsNumber 256 (2 ^ 32 - 1) e.spi) (get (codes "spi") d)
  pub selector : Needed (IsSelector e.selector) (get (codes "traffic-selector") d)
  pub tunnel : Needed (IsTunnel e) (get (codes "tunnel") d)

-- `sad-entry`: a half with its name and its `reqid`, which is 0 where it is absent
pub record IsSadEntry (e : SadEntry) (d : Data) : Type 0 where
  pub members : HasOnly (codes "ipsec-sa-config" ∷ codes "name" ∷ codes "reqid" ∷ []) d
  pub config : Needed (IsHalfConfig e) (get (codes "ipsec-sa-config") d)
  pub name : Needed (IsName is_sad_name e.name) (get (codes "name") d)
  pub reqid : Optional (IsWide e.reqid) (e.reqid ≡ 0) (get (codes "reqid") d)

-- the body that has one half
abbrev pub IsOneSadEntry : SadEntry → Data → Type 0
IsOneSadEntry e d = IsOnly (codes "ietf-i2nsf-ikeless:sad-entry") (IsOne (IsSadEntry e)) d

-- ---- commands

-- the input of `policy`: a gateway and the list that it is to have
pub record IsListInput (name : List ℕ) (es : List SpdEntry) (d : Data) : Type 0 where
  pub members : HasOnly (codes "gateway" ∷ codes "spd-entry" ∷ []) d
  pub gateway : Needed (IsName is_gateway name) (get (codes "gateway") d)
  pub list : Needed (IsListOf IsSpdEntry es) (get (codes "spd-entry") d)

-- the input of `tunnel`: both gateways with their prefixes, and what its halves are to have
pub record IsTunnelInput (t : TunnelSpec) (d : Data) : Type 0 where
  pub members : HasOnly (codes "hard" ∷ codes "soft" ∷ tunnel_needs) d
  pub window : Needed (IsNumber 32 4096 t.window) (get (codes "anti-replay-window-size") d)
  pub first : Needed (IsName is_gateway t.first) (get (codes "first") d)
  pub first_prefix : Needed (IsPrefix t.first_prefix) (get (codes "first-prefix") d)
  pub hard : Optional (IsLimits t.hard) (t.hard ≡ no_limits) (get (codes "hard") d)
  pub mode : Needed (IsWord (mode_text t.now)) (get (codes "mode") d)
  pub reqid : Needed (IsWide t.reqid) (get (codes "reqid") d)
  pub second : Needed (IsName is_gateway t.second) (get (codes "second") d)
  pub second_prefix : Needed (IsPrefix t.second_prefix) (get (codes "second-prefix") d)
  pub soft : Optional (IsLimits t.soft) (t.soft ≡ no_limits) (get (codes "soft") d)

-- the input of the operation of this name that gives the command
abbrev pub IsInput : List ℕ → Command → Data → Type 0
IsInput op (commands.Policy gateway list) d = (op ≡ codes "policy") × IsListInput gateway list d
IsInput op (commands.Tunnel spec) d = (op ≡ codes "tunnel") × IsTunnelInput spec d
IsInput op (commands.End reqid) d = (op ≡ codes "end") × IsOnly (codes "reqid") (IsWide reqid) d
IsInput op (commands.Rekey reqid) d = (op ≡ codes "rekey") × IsOnly (codes "reqid") (IsWide reqid) d
IsInput op (commands.Keys key) d = (op ≡ codes "keys") × IsOnly (codes "key") (IsHex key) d

-- the body that gives an operation this command
abbrev pub IsCommand : List ℕ → Command → Data → Type 0
IsCommand op c d = IsOnly (codes "ikl-control:input") (IsInput op c) d

-- ---- bodies

-- octets in UTF-8 whose value is so (RFC 8259)
abbrev pub StandsFor : List ℕ → (Data → Type 0) → Type 0
StandsFor body P = IsUtf8 body × (d : Data) × (read body ≡ Some d) × P d
