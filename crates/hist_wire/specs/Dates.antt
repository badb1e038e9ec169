-- The text of a clock that counts seconds from 1970-01-01 on, and the line of a notice at a moment.
use Rattle.std.specs.Prelude.{ℕ, zero, suc, ◌+◌, ◌/◌, ◌%◌, nat_lt, List, [], ◌∷◌, ◌++◌, pos, if◌then◌else◌}
use Rattle.jiff_core.specs.Calendar.{days_in_month}
use Rattle.serde_json.specs.Written.{compact_text}
use Rattle.ikeless_tree.specs.declared.order.Notice.{Notice}
use Rattle.notice_lines.specs.Moments.{stamp_text}
use Rattle.notice_lines.specs.Envelope.{notice_data}

-- a date of the proleptic Gregorian calendar
pub record Civil : Type 0 where
  pub year : ℕ
  pub month : ℕ
  pub day : ℕ

-- the next day of the calendar, with its leap years
abbrev pub day_after : Civil → Civil
day_after c =
    if nat_lt c.day (days_in_month (pos c.year) c.month) then record { year = c.year; month = c.month; day = c.day + 1 }
    else if nat_lt c.month 12 then record { year = c.year; month = c.month + 1; day = 1 }
    else record { year = c.year + 1; month = 1; day = 1 }

-- the date so many days after 1970-01-01
unfoldable pub civil : ℕ → Civil
civil zero = record { year = 1970; month = 1; day = 1 }
civil (suc n) = day_after (civil n)

-- the date and the time of so many seconds after its midnight in UTC, below 86,400; without leap seconds
abbrev pub stamp_of : Civil → ℕ → List ℕ
stamp_of c rest = stamp_text c.year c.month c.day (rest / 3600) (rest / 60 % 60) (rest % 60)

-- YYYY-MM-DDTHH:MM:SSZ (RFC 3339 section 5.6)
abbrev pub stamp : ℕ → List ℕ
stamp seconds = stamp_of (civil (seconds / 86400)) (seconds % 86400)

-- the line of a notice, with its LF
abbrev pub line_text : Notice → ℕ → List ℕ
line_text n seconds = compact_text (notice_data n (stamp seconds)) ++ 10 ∷ []
