-- Which value of JSON is the notification of which notice (RFC 8040 section 6.4, RFC 7951, with the events of the YANG module
-- ietf-i2nsf-ikeless of RFC 9061 section 5.3): the object of each event by its members, in any order and each string in any
-- allowed spelling, with no other member.
use Rattle.std.specs.Prelude.{◌≡◌, ℕ, ◌-◌, ◌^◌, Bool, List, [], ◌∷◌, codes}
use Rattle.serde_json.specs.Data.{Data, boolean, string}
use Rattle.serde_json.specs.Find.{get}
use Rattle.ikeless_tree.specs.declared.entry.Selector.{Selector}
use Rattle.ikeless_tree.specs.declared.sad.Limits.{Limits}
use Rattle.ikeless_tree.specs.declared.order.Notice.{Notice}
use Rattle.ikeless_tree.specs.declared.order.Notice.TheVariants as notices
use Rattle.ikeless_tree.specs.Check.{is_spd_name, is_sad_name}
use Rattle.json_values.specs.Members.{limits_names}
use Rattle.json_values.specs.Json.{HasOnly, Needed, IsNumber, IsWide, IsName, IsOnly, IsSelector}
use Rattle.notice_lines.specs.Envelope.{event_name, IsWhole}

-- counts, each of which is there
pub record IsCounts (l : Limits) (d : Data) : Type 0 where
  pub members : HasOnly limits_names d
  pub bytes : Needed (IsWide l.bytes) (get (codes "bytes") d)
  pub idle : Needed (IsNumber 0 (2 ^ 32 - 1) l.idle) (get (codes "idle") d)
  pub packets : Needed (IsNumber 0 (2 ^ 32 - 1) l.packets) (get (codes "packets") d)
  pub time : Needed (IsNumber 0 (2 ^ 32 - 1) l.time) (get (codes "time") d)

-- a policy that needs a half for a packet
pub record IsAcquire (policy_name : List ℕ) (s : Selector) (d : Data) : Type 0 where
  pub members : HasOnly (codes "ipsec-policy-name" ∷ codes "traffic-selector" ∷ []) d
  pub policy : Needed (IsName is_spd_name policy_name) (get (codes "ipsec-policy-name") d)
  pub selector : Needed (IsSelector s) (get (codes "traffic-selector") d)
  pub whole : IsWhole s

-- the JSON value of a truth value
abbrev pub IsTruth : Bool → Data → Type 0
IsTruth b d = d ≡ boolean b

-- a half that reached a limit, a soft one or a hard one, with its counts
pub record IsExpiry (half : List ℕ) (is_soft : Bool) (counts : Limits) (d : Data) : Type 0 where
  pub members : HasOnly (codes "ipsec-sa-name" ∷ codes "lifetime-current" ∷ codes "soft-lifetime-expire" ∷ []) d
  pub name : Needed (IsName is_sad_name half) (get (codes "ipsec-sa-name") d)
  pub current : Needed (IsCounts counts) (get (codes "lifetime-current") d)
  pub soft : Needed (IsTruth is_soft) (get (codes "soft-lifetime-expire") d)

-- the object of an event
abbrev pub IsEvent : Notice → Data → Type 0
IsEvent (notices.Acquire policy selector) d = IsAcquire policy selector d
IsEvent (notices.Expire name soft current) d = IsExpiry name soft current d
IsEvent (notices.SeqOverflow name) d = IsOnly (codes "ipsec-sa-name") (IsName is_sad_name name) d
IsEvent (notices.BadSpi spi) d = IsOnly (codes "spi") (IsNumber 0 (2 ^ 32 - 1) spi) d

-- any JSON string
abbrev pub IsText : Data → Type 0
IsText d = (t : List ℕ) × (d ≡ string t)

-- any string is a time
pub record IsEnvelope (n : Notice) (d : Data) : Type 0 where
  pub members : HasOnly (codes "eventTime" ∷ event_name n ∷ []) d
  pub time : Needed IsText (get (codes "eventTime") d)
  pub event : Needed (IsEvent n) (get (event_name n) d)

-- the notification of a notice: the object of its one envelope
abbrev pub IsNotification : Notice → Data → Type 0
IsNotification n d = IsOnly (codes "ietf-restconf:notification") (IsEnvelope n) d
