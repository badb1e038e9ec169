-- The tokens of what is written, from those of its parts.
use Rattle.std.proofs.Common.{
  ◌≡◌,
  ℕ,
  Bool,
  true,
  false,
  List,
  [],
  ◌∷◌,
  ◌++◌,
  if◌then◌else◌,
  Option,
  Some,
  None,
  Less,
  codes,
  refl,
  sym,
  ap,
  ◌∙◌,
  append_assoc,
  append-nil,
  ◌==◌,
}
use Rattle.std.specs.Ordering.{nat_cmp}
use Rattle.std.specs.Cmp.Lexicographic.{slice_cmp}
use Rattle.json.specs.Token.{Token, key, begin_object, end_object}
use Rattle.serde_json.specs.Data.{Data, string, boolean, array, object, Members, no_members, put}
use Rattle.ikeless_tree.specs.declared.entry.Range.{Range}
use Rattle.ikeless_tree.specs.declared.entry.Selector.{Selector}
use Rattle.ikeless_tree.specs.declared.sad.Limits.{Limits}
use Rattle.ikeless_tree.specs.declared.sad.SadEntry.{SadEntry}
use Rattle.ikl_base.specs.declared.address.Prefix.{Prefix}
use Rattle.yang_values.specs.Prefixes.{prefix_text}
use Rattle.json_values.specs.Written.{count, wide, word, only, range_items, with_ports, proto_data, selector_data}
use Rattle.json_values.specs.Tokens.{value_tokens, member_tokens, tokens_of_members, tokens_of_items}
use Rattle.json_values.proofs.ReadAgain.{AreAfter, joined}
use Rattle.json_values.proofs.TokenLemmas.{first_tokens, one_member, maybe_first, after_maybe, object_tokens, three_parts}
use Rattle.json_tree.specs.SadEntryWritten.{
  with_count,
  with_wide,
  limits_members,
  has_no_limits,
  with_lifetime,
  with_soft,
  tunnel_data,
  with_key,
  encryption_data,
  with_fixed,
  with_sealing,
  with_ends,
  config_data,
}

-- ---- limits

-- the limits behind `bytes`, and those behind them
abbrev from_time : Limits → Members
from_time l = with_count (codes "time") l.time no_members

abbrev from_packets : Limits → Members
from_packets l = with_count (codes "packets") l.packets (from_time l)

abbrev from_idle : Limits → Members
from_idle l = with_count (codes "idle") l.idle (from_packets l)

-- each limit behind `bytes` comes after a name that comes before all three
after_idle : (k : List ℕ) (l : Limits) → slice_cmp nat_cmp k (codes "idle") ≡ Less → slice_cmp nat_cmp k (codes "packets") ≡ Less →
    slice_cmp nat_cmp k (codes "time") ≡ Less → AreAfter k (from_idle l)
after_idle k l idle packets time =
    after_maybe k (codes "idle") (count l.idle) (l.idle == 0) (from_packets l) idle
    (after_maybe k (codes "packets") (count l.packets) (l.packets == 0) (from_time l) packets
    (after_maybe k (codes "time") (count l.time) (l.time == 0) no_members time tt))

after_packets : (l : Limits) → AreAfter (codes "idle") (from_packets l)
after_packets l =
    after_maybe (codes "idle") (codes "packets") (count l.packets) (l.packets == 0) (from_time l) refl
    (after_maybe (codes "idle") (codes "time") (count l.time) (l.time == 0) no_members refl tt)

after_time : (l : Limits) → AreAfter (codes "packets") (from_time l)
after_time l = after_maybe (codes "packets") (codes "time") (count l.time) (l.time == 0) no_members refl tt

after_bytes : (l : Limits) → AreAfter (codes "action") (limits_members l)
after_bytes l = after_maybe (codes "action") (codes "bytes") (wide l.bytes) (l.bytes == 0) (from_idle l) refl
    (after_idle (codes "action") l refl refl refl)

-- the limits one after another
abbrev limits_spelled : Limits → List Token
limits_spelled l = tokens_of_members (with_wide (codes "bytes") l.bytes no_members) ++
    (tokens_of_members (with_count (codes "idle") l.idle no_members)
    ++ (tokens_of_members (with_count (codes "packets") l.packets no_members) ++ tokens_of_members
    (with_count (codes "time") l.time no_members)))

limits_tokens : (l : Limits) → tokens_of_members (limits_members l) ≡ limits_spelled l
limits_tokens l =
    maybe_first (codes "bytes") (wide l.bytes) (l.bytes == 0) (from_idle l) (after_idle (codes "bytes") l refl refl refl)
    ∙ ap (λ s. tokens_of_members (with_wide (codes "bytes") l.bytes no_members) ++ s)
    (maybe_first (codes "idle") (count l.idle) (l.idle == 0) (from_packets l) (after_packets l)
    ∙ ap (λ s. tokens_of_members (with_count (codes "idle") l.idle no_members) ++ s)
    (maybe_first (codes "packets") (count l.packets) (l.packets == 0) (from_time l) (after_time l)))

pub limits_added : (l : Limits) (x z : List Token) → z ≡ x ++ limits_spelled l → z ≡ x ++ tokens_of_members (limits_members l)
limits_added l x z is = is ∙ ap (λ t. x ++ t) (sym (limits_tokens l))

-- ---- a soft lifetime, which has limits

pub soft_added : (l : Limits) (x z : List Token) → has_no_limits l ≡ false
    → z ≡ x ++ (key (codes "sa-lifetime-soft") ∷ begin_object ∷ (member_tokens (codes "action") (word (codes "replace")) ++
    (tokens_of_members (limits_members l) ++ end_object ∷ [])))
    → z ≡ x ++ tokens_of_members (with_soft l no_members)
soft_added l x z some is =
    let inner : Members = put (codes "action") (word (codes "replace")) (limits_members l) in
    let action : tokens_of_members inner ≡ member_tokens (codes "action") (word (codes "replace")) ++ tokens_of_members (limits_members l) =
    first_tokens (codes "action") (word (codes "replace")) (limits_members l) (after_bytes l) in
    let whole : tokens_of_members (with_soft l no_members) ≡ member_tokens (codes "sa-lifetime-soft") (object inner) =
    ap (λ b. tokens_of_members (if b then no_members else put (codes "sa-lifetime-soft") (object inner) no_members)) some ∙ one_member
    (codes "sa-lifetime-soft") (object inner) in
    is ∙ ap (λ t. x ++ t) (sym (whole ∙ ap (λ s. key (codes "sa-lifetime-soft") ∷ s)
    (object_tokens inner ∙ ap (λ s. begin_object ∷ (s ++ end_object ∷ [])) action)))

-- ---- selectors

-- the members of a selector one after another
abbrev spelled : Selector → List Token
spelled s = begin_object ∷ (member_tokens (codes "inner-protocol") (proto_data s.proto)
    ++ (tokens_of_members (with_ports (codes "local-ports") s.local_ports no_members)
    ++ (member_tokens (codes "local-prefix") (string (prefix_text s.local))
    ++ (tokens_of_members (with_ports (codes "remote-ports") s.remote_ports no_members)
    ++ (member_tokens (codes "remote-prefix") (string (prefix_text s.remote)) ++ end_object ∷ [])))))

selector_by : (p : Option ℕ) (ls rs : List Range) (l r : Prefix)
    → spelled (record { local = l; remote = r; proto = p; local_ports = ls; remote_ports = rs }) ≡ value_tokens
    (selector_data (record { local = l; remote = r; proto = p; local_ports = ls; remote_ports = rs }))
unfolding selector_data
selector_by p [] [] l r = refl
selector_by p [] (x ∷ xs) l r = rw (append-nil (tokens_of_items (range_items xs))) refl
selector_by p (y ∷ ys) [] l r = rw (append-nil (tokens_of_items (range_items ys))) refl
selector_by p (y ∷ ys) (x ∷ xs) l r = rw (append-nil (tokens_of_items (range_items ys)), append-nil (tokens_of_items (range_items xs))) refl

pub selector_added : (s : Selector) (x z : List Token) → z ≡ x ++ spelled s → z ≡ x ++ value_tokens (selector_data s)
selector_added s x z is = is ∙ ap (λ t. x ++ t) (selector_by s.proto s.local_ports s.remote_ports s.local s.remote)

-- ---- what is configured

-- the members between the suite and the ends of the tunnel, by which lifetimes have no limits
abbrev lasting_where : (h s : Bool) (hard soft : Data) → Members → Members
lasting_where h s hard soft ends =
    let rest = if s then ends else put (codes "sa-lifetime-soft") soft ends in
    with_fixed (if h then rest else put (codes "sa-lifetime-hard") hard rest)

abbrev lasting_tokens : (h s : Bool) (hard soft : Data) → List Token
lasting_tokens h s hard soft =
    member_tokens (codes "ext-seq-num") (boolean false)
    ++ (member_tokens (codes "mode") (word (codes "tunnel"))
    ++ (member_tokens (codes "protocol-parameters") (word (codes "esp"))
    ++ (tokens_of_members (if h then no_members else put (codes "sa-lifetime-hard") hard no_members)
    ++ (tokens_of_members (if s then no_members else put (codes "sa-lifetime-soft") soft no_members) ++ member_tokens (codes "seq-overflow")
    (boolean false)))))

lasting_by : (h s : Bool) (hard soft : Data) → lasting_tokens h s hard soft ≡ tokens_of_members (lasting_where h s hard soft no_members)
unfolding with_fixed
lasting_by true true hard soft = refl
lasting_by true false hard soft = rw (append-nil (value_tokens soft)) refl
lasting_by false true hard soft = rw (append-nil (value_tokens hard)) refl
lasting_by false false hard soft = rw (append-nil (value_tokens hard), append-nil (value_tokens soft)) refl

pub lasting_added : (hard soft : Limits) (x z : List Token)
    → z ≡ x ++ lasting_tokens (has_no_limits hard) (has_no_limits soft) (object (limits_members hard))
    (object (put (codes "action") (word (codes "replace")) (limits_members soft)))
    → z ≡ x ++ tokens_of_members (with_fixed (with_lifetime (codes "sa-lifetime-hard") hard (with_soft soft no_members)))
lasting_added hard soft x z is = is ∙ ap (λ t. x ++ t) (lasting_by (has_no_limits hard) (has_no_limits soft) (object (limits_members hard))
    (object (put (codes "action") (word (codes "replace")) (limits_members soft))))

-- the parts of what is configured, one after another
abbrev config_spelled : (lasting : Members) (e : SadEntry) (octets : Option (List ℕ)) → List Token
config_spelled lasting e octets =
    begin_object ∷ (tokens_of_members (with_sealing e.window octets no_members) ++
    (tokens_of_members lasting ++ (tokens_of_members (with_ends e no_members) ++ end_object ∷ [])))

config_by : (h s : Bool) (hard soft : Data) (e : SadEntry) (octets : Option (List ℕ))
    → with_sealing e.window octets (lasting_where h s hard soft (with_ends e no_members)) ≡ joined (with_sealing e.window octets no_members)
    (joined (lasting_where h s hard soft no_members) (with_ends e no_members))
unfolding with_sealing with_fixed with_ends
config_by true true hard soft e octets = refl
config_by true false hard soft e octets = refl
config_by false true hard soft e octets = refl
config_by false false hard soft e octets = refl

pub config_added : (e : SadEntry) (octets : Option (List ℕ)) (x z : List Token)
    → z ≡ x ++ (key (codes "ipsec-sa-config") ∷ config_spelled (with_fixed
    (with_lifetime (codes "sa-lifetime-hard") e.hard (with_soft e.soft no_members))) e octets)
    → z ≡ x ++ member_tokens (codes "ipsec-sa-config") (config_data e octets)
unfolding config_data
config_added e octets x z is =
    let hard : Data = object (limits_members e.hard) in
    let soft : Data = object (put (codes "action") (word (codes "replace")) (limits_members e.soft)) in
    let lasting : Members = lasting_where (has_no_limits e.hard) (has_no_limits e.soft) hard soft no_members in
    is ∙ ap (λ t. x ++ (key (codes "ipsec-sa-config") ∷ t)) (three_parts (with_sealing e.window octets no_members) lasting
    (with_ends e no_members)
    ∙ ap (λ ms. value_tokens (object ms)) (sym (config_by (has_no_limits e.hard) (has_no_limits e.soft) hard soft e octets)))

pub sealing_added : (window : ℕ) (octets : Option (List ℕ)) (x z : List Token)
    → z ≡ x ++ (member_tokens (codes "anti-replay-window-size") (count window) ++ member_tokens (codes "esp-sa")
    (only (codes "encryption") (encryption_data octets)))
    → z ≡ x ++ tokens_of_members (with_sealing window octets no_members)
unfolding with_sealing
sealing_added window octets x z is = is ∙ ap (λ t. x ++ (member_tokens (codes "anti-replay-window-size") (count window) ++ t))
    (sym (append-nil (member_tokens (codes "esp-sa") (only (codes "encryption") (encryption_data octets)))))

pub ends_added : (e : SadEntry) (x z : List Token)
    → z ≡ x ++ (member_tokens (codes "spi") (count e.spi) ++ (key (codes "traffic-selector") ∷
    (value_tokens (selector_data e.selector) ++ member_tokens (codes "tunnel") (tunnel_data e))))
    → z ≡ x ++ tokens_of_members (with_ends e no_members)
unfolding with_ends
ends_added e x z is = is ∙ ap (λ t. x ++ (member_tokens (codes "spi") (count e.spi) ++
    (key (codes "traffic-selector") ∷ (value_tokens (selector_data e.selector) ++ t))))
    (sym (append-nil (member_tokens (codes "tunnel") (tunnel_data e))))

-- ---- keys

pub encryption_added : (octets : Option (List ℕ)) (x z : List Token)
    → z ≡ x ++ (key (codes "encryption") ∷ begin_object ∷ (member_tokens (codes "encryption-algorithm") (count 20) ++
    (tokens_of_members (with_key octets no_members) ++ end_object ∷ [])))
    → z ≡ x ++ member_tokens (codes "encryption") (encryption_data octets)
encryption_added None x z is = is
encryption_added (Some octets) x z is = is
