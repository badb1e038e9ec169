-- The lifetime of an association: what is counted of it, and which limits the counts reach (RFC 4301 section 4.4.2.1).
use Rattle.std.specs.Prelude.{ℕ, ◌+◌, ◌-◌, ◌==◌, ◌&&◌, ◌||◌, nat_le, not, Bool, true, false, List, [], ◌∷◌, if◌then◌else◌}
use Rattle.ikeless_tree.specs.declared.sad.Limits.{Limits}
use Rattle.ikeless_tree.specs.declared.order.Notice.{Notice}
use Rattle.ikeless_tree.specs.declared.order.Notice.TheVariants as notices
use Rattle.life_count.specs.declared.event.LifeEvent.{LifeEvent}
use Rattle.life_count.specs.declared.event.LifeEvent.TheVariants as events

-- ---- counts

-- a count stops at the greatest value of its type, of 32 or 64 bits
abbrev pub cut : ℕ → ℕ → ℕ
cut most n = if nat_le n most then n else most

-- a count of 32 bits
abbrev pub cut_32 : ℕ → ℕ
cut_32 n = cut 4294967295 n

-- a count of 64 bits
abbrev pub cut_64 : ℕ → ℕ
cut_64 n = cut 18446744073709551615 n

-- the counts at this clock of an association that was installed and last used at these times
abbrev pub counts_at : ℕ → ℕ → ℕ → ℕ → ℕ → Limits
counts_at now installed used octets times = record {
  time = cut_32 (now - installed);
  bytes = cut_64 octets;
  packets = cut_32 times;
  idle = cut_32 (now - used);
}

-- ---- limits

-- a count reaches its limit when it is equal or greater; a limit of 0 is none
abbrev pub reaches : ℕ → ℕ → Bool
reaches limit count = not (limit == 0) && nat_le limit count

-- one of the four counts, seconds, octets, packets or seconds idle, reaches its limit
abbrev pub is_reached : Limits → Limits → Bool
is_reached limits c = reaches limits.time c.time
    || (reaches limits.bytes c.bytes || (reaches limits.packets c.packets || reaches limits.idle c.idle))

-- what counts tell under these limits: that a hard one is reached, or else a soft one of which nothing was told
abbrev pub event_by : Limits → Limits → Bool → Limits → LifeEvent
event_by hard soft is_told c = if is_reached hard c then events.Hard else if is_reached soft c && not is_told then events.Soft
    else events.Nothing

-- a hard limit is reached
abbrev pub is_hard : LifeEvent → Bool
is_hard events.Hard = true
is_hard _ = false

-- a soft limit is reached, and is to be told
abbrev pub is_soft : LifeEvent → Bool
is_soft events.Soft = true
is_soft _ = false

-- the notice of what the counts of the association of this name tell
abbrev pub expiry : List ℕ → Limits → LifeEvent → List Notice
expiry name c events.Nothing = []
expiry name c events.Soft = notices.Expire name true c ∷ []
expiry name c events.Hard = notices.Expire name false c ∷ []

-- ---- what is kept

-- The limits, the clock at the installation and at the last use or else at the installation, the ESP octets and the number of the
-- uses, and whether a soft expiry was told that stands.
pub record Lifetime : Type 0 where
  pub hard : Limits
  pub soft : Limits
  pub installed : ℕ
  pub used : ℕ
  pub octets : ℕ
  pub packets : ℕ
  pub is_told : Bool

-- the lifetime of an association that is installed now
abbrev pub begun : Limits → Limits → ℕ → Lifetime
begun hard soft now = record { hard = hard; soft = soft; installed = now; used = now; octets = 0; packets = 0; is_told = false }

-- the counts at this clock
abbrev pub counts_of : ℕ → Lifetime → Limits
counts_of now l = record { time = cut_32 (now - l.installed); bytes = l.octets; packets = l.packets; idle = cut_32 (now - l.used) }

-- after one more use, with these ESP octets at this clock
abbrev pub counted : ℕ → ℕ → Lifetime → Lifetime
counted size now l = record l { used = now; octets = cut_64 (l.octets + size); packets = cut_32 (l.packets + 1) }

-- with word whether a soft expiry stands that was told
abbrev pub with_told : Bool → Lifetime → Lifetime
with_told is_told l = record l { is_told = is_told }

-- what is found at a look at this clock
abbrev pub event_at : ℕ → Lifetime → LifeEvent
event_at now l = event_by l.hard l.soft l.is_told (counts_of now l)

-- after that look
abbrev pub looked : ℕ → Lifetime → Lifetime
looked now l = with_told (is_soft (event_at now l) || l.is_told) l
