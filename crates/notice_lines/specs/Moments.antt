-- The date and time of a clock that counts seconds from 1970-01-01 on, in UTC, as text (RFC 3339 section 5.6 over the
-- proleptic Gregorian calendar).
use Rattle.std.specs.Prelude.{◌≡◌, ℕ, ◌+◌, ◌*◌, ◌/◌, ◌%◌, ◌<◌, List, [], ◌∷◌, pos}
use Rattle.jiff.specs.Words.{epoch_day}
use Rattle.jiff.specs.Types.{Date}

-- the date with that many days since 1970-01-01, and the time of the rest of the day
pub record IsMoment (seconds year month day hour minute second : ℕ) : Type 0 where
  pub date : (d : Date) × (epoch_day d ≡ pos (seconds / 86400)) × (d.year ≡ pos year) × (d.month ≡ month) × (d.day ≡ day)
  pub time : seconds % 86400 ≡ hour * 3600 + minute * 60 + second
  pub minute_fits : minute < 60
  pub second_fits : second < 60

-- the last decimal digit of a number
abbrev pub digit : ℕ → ℕ
digit n = 48 + n % 10

-- YYYY-MM-DDTHH:MM:SSZ
abbrev pub stamp_text : ℕ → ℕ → ℕ → ℕ → ℕ → ℕ → List ℕ
stamp_text year month day hour minute second =
    digit (year / 1000) ∷ digit (year / 100) ∷ digit (year / 10) ∷ digit year
    ∷ 45 ∷ digit (month / 10) ∷ digit month
    ∷ 45 ∷ digit (day / 10) ∷ digit day
    ∷ 84 ∷ digit (hour / 10) ∷ digit hour
    ∷ 58 ∷ digit (minute / 10) ∷ digit minute
    ∷ 58 ∷ digit (second / 10) ∷ digit second
    ∷ 90 ∷ []

-- the text of this moment
pub record IsStamp (seconds : ℕ) (text : List ℕ) : Type 0 where
  pub year : ℕ
  pub month : ℕ
  pub day : ℕ
  pub hour : ℕ
  pub minute : ℕ
  pub second : ℕ
  pub moment : IsMoment seconds year month day hour minute second
  pub is : text ≡ stamp_text year month day hour minute second
