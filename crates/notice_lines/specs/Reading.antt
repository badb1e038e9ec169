-- Lines of notifications in pieces, of this project. A line has at most 4,096 octets and ends with LF.
use Rattle.std.specs.Prelude.{◌≡◌, ℕ, ◌+◌, ◌≤◌, ◌==◌, nat_le, List, [], ◌∷◌, ◌++◌, length, take, IsUtf8, Option, Some, None, Result, Ok, Err, if◌then◌else◌}
use Rattle.std.specs.Option.{option_map}
use Rattle.std.specs.List.{flat_map}
use Rattle.serde_json.specs.Data.{Data}
use Rattle.serde_json.specs.Read.{read}
use Rattle.serde_json.specs.Written.{compact_text}
use Rattle.ikl_base.specs.declared.fault.OrMemory.{OrMemory}
use Rattle.ikl_base.specs.declared.fault.OrMemory.TheVariants as failures
use Rattle.ikeless_tree.specs.declared.order.Notice.{Notice}
use Rattle.notice_lines.specs.declared.fault.NoticeFault.{NoticeFault}
use Rattle.notice_lines.specs.declared.fault.NoticeFault.TheVariants as faults
use Rattle.notice_lines.specs.declared.reader.Heard.{Heard}
use Rattle.notice_lines.specs.declared.reader.Heard.TheVariants as heard
use Rattle.notice_lines.specs.Moments.{IsStamp}
use Rattle.notice_lines.specs.Envelope.{notice_data, notice_in}

-- ---- one line

-- the line of a notice at a moment: the compact text of its notification, then LF
pub record IsLine (n : Notice) (seconds : ℕ) (line : List ℕ) : Type 0 where
  pub stamp : List ℕ
  pub at : IsStamp seconds stamp
  pub text : line ≡ compact_text (notice_data n stamp) ++ 10 ∷ []
  pub reads : read (compact_text (notice_data n stamp)) ≡ Some (notice_data n stamp)
  pub utf8 : IsUtf8 (compact_text (notice_data n stamp))

-- a line without its LF that is the notification of a notice: JSON text (RFC 8259), in any order of members and with
-- any white space
pub record HasNotice (line : List ℕ) (n : Notice) : Type 0 where
  pub utf8 : IsUtf8 line
  pub value : Data
  pub reads : read line ≡ Some value
  pub is : notice_in value ≡ Ok n

-- the line is no notification of any notice
abbrev pub HasNone : List ℕ → Type 0
HasNone line = (n : Notice) → HasNotice line n → ⊥

-- ---- octets that come in pieces

-- how many octets stand before the first LF
abbrev pub line_end : List ℕ → Option ℕ
line_end [] = None
line_end (c ∷ cs) = if c == 10 then Some 0 else option_map (λ n. n + 1) (line_end cs)

-- how the octets after a line begin: with less than a line, with too many octets without LF, or with a line of so many
-- octets
pub data Begins : Type 0 where
  Open : Begins
  Long : Begins
  Ends : (n : ℕ) → Begins

-- the same, by where the first LF is and how many octets came
abbrev pub begins_by : Option ℕ → ℕ → Begins
begins_by None size = if nat_le size 4096 then Open else Long
begins_by (Some n) size = if nat_le n 4096 then Ends n else Long

-- how these octets begin, which came after the last line
unfoldable pub begins : List ℕ → Begins
begins octets = begins_by (line_end octets) (length octets)

-- ---- pieces that come one after the other

-- the first one that isn't open
abbrev pub unless_open : Begins → Begins → Begins
unless_open Open later = later
unless_open b later = b

-- the first of the pieces that completes a line or makes it too long decides, where these octets came before
abbrev pub first_begins : List ℕ → List (List ℕ) → Begins
first_begins kept [] = Open
first_begins kept (p ∷ ps) = unless_open (begins (kept ++ p)) (first_begins (kept ++ p) ps)

-- the line is heard as this notice in any pieces, whatever follows it
abbrev pub IsHeard : Notice → List ℕ → Type 0
IsHeard n line = (rest : List ℕ) (pieces : List (List ℕ)) → flat_map (λ piece. piece) pieces ≡ line ++ rest
    → (size : ℕ) × (size + 1 ≡ length line) × (first_begins [] pieces ≡ Ends size)
    × HasNotice (take size (flat_map (λ piece. piece) pieces)) n

-- ---- a reader

-- the fault answered before, and the octets that came after the last line
pub record Reading : Type 0 where
  pub fault : Option NoticeFault
  pub kept : List ℕ

-- a reader that keeps these octets and has answered no fault
abbrev pub kept_only : List ℕ → Reading
kept_only octets = record { fault = None; kept = octets }

-- a fault of the octets after the last line
abbrev pub IsFault : NoticeFault → List ℕ → Type 0
IsFault faults.LineTooLong octets = begins octets ≡ Long
IsFault faults.NotNotice octets = (n : ℕ) × (begins octets ≡ Ends n) × HasNone (take n octets)

-- a line was heard: so many octets of the piece are its last ones
pub record Hears (old : Reading) (piece : List ℕ) (notice : Notice) (taken : ℕ) : Type 0 where
  pub size : ℕ
  pub ends : begins (old.kept ++ piece) ≡ Ends size
  pub has : HasNotice (take size (old.kept ++ piece)) notice
  pub count : length old.kept + taken ≡ size + 1
  pub within : taken ≤ length piece

-- what a piece gives where no fault was answered before
abbrev pub GivesNext : Reading → Reading → List ℕ → Result Heard (OrMemory NoticeFault) → Type 0
GivesNext old new piece (Ok heard.NoneYet) = (begins (old.kept ++ piece) ≡ Open) × (new ≡ kept_only (old.kept ++ piece))
GivesNext old new piece (Ok (heard.Line notice taken)) = Hears old piece notice taken × (new ≡ kept_only [])
GivesNext old new piece (Err (failures.Refused fault)) = IsFault fault (old.kept ++ piece) × (new.fault ≡ Some fault)
GivesNext old new piece (Err failures.NoMemory) = new ≡ old

-- what a piece gives: the fault answered before for good, else what the octets after the last line say
abbrev pub FeedGives : Option NoticeFault → Reading → Reading → List ℕ → Result Heard (OrMemory NoticeFault) → Type 0
FeedGives (Some fault) old new piece result = (result ≡ Err (failures.Refused fault)) × (new ≡ old)
FeedGives None old new piece result = GivesNext old new piece result

-- want of memory, or a line that is no notification
abbrev pub IsNoneOrMemory : OrMemory NoticeFault → List ℕ → Type 0
IsNoneOrMemory failures.NoMemory line = Unit {0}
IsNoneOrMemory (failures.Refused fault) line = (fault ≡ faults.NotNotice) × HasNone line
