-- The text of a clock is that of its moment.
use Rattle.std.proofs.Common.{◌≡◌, ℕ, zero, suc, ◌+◌, ◌*◌, ◌/◌, ◌%◌, ◌<◌, ◌≤◌, Bool, true, false, nat_lt, List, [], ◌∷◌, ◌++◌, pos, refl, sym, ◌∙◌, ap, arith, if◌then◌else◌}
use Rattle.std.specs.Int.{IsInRange}
use Rattle.jiff_core.specs.declared.civil.date.Date.{Date}
use Rattle.jiff_core.specs.Calendar.{days_from_civil, days_in_month}
use Rattle.jiff_core.proofs.SignedLemmas.{signed_arith}
use Rattle.jiff_core.proofs.CalendarLemmas.{days_in_month_bounds}
use Rattle.jiff_core.proofs.DateLemmas.{days_from_civil-day, days_from_civil-max, days_from_civil-next_month, days_from_civil-next_year}
use Rattle.serde_json.specs.Written.{compact_text}
use Rattle.ikeless_tree.specs.declared.order.Notice.{Notice}
use Rattle.notice_lines.specs.Moments.{IsStamp}
use Rattle.notice_lines.specs.Envelope.{notice_data}
use Rattle.notice_lines.specs.Reading.{IsLine}
use Rattle.notice_lines.proofs.Stamps.{one_stamp}
use Rattle.hist_wire.specs.Dates.{Civil, civil, line_text, stamp}

-- ---- days since 1970-01-01

-- a date of the library with so many days since 1970-01-01
pub record IsDay (n : ℕ) (c : Civil) : Type 0 where
  pub year : c.year ≤ 9999
  pub month : IsInRange 1 12 c.month
  pub day : IsInRange 1 (days_in_month (pos c.year) c.month) c.day
  pub number : days_from_civil (pos c.year) c.month c.day ≡ pos n

first : days_from_civil (pos 1970) 1 1 ≡ pos 0
unfolding days_from_civil
first = omega (arith, signed_arith)

next-day : (n y m d : ℕ) → IsDay n (record { year = y; month = m; day = d }) → d < days_in_month (pos y) m
    → IsDay (suc n) (record { year = y; month = m; day = d + 1 })
next-day n y m d i less =
    let low = i.day.0 in
    let number = i.number in
    let moved = days_from_civil-day (pos y) m (d + 1) d (omega (arith, low)) low in
    record {
      year = i.year;
      month = i.month;
      day = (omega (arith, low), omega (arith, less));
      number =
          omega (arith, signed_arith, number, moved);
    }

next-month : (n y m d : ℕ) → IsDay n (record { year = y; month = m; day = d }) → d ≡ days_in_month (pos y) m → m < 12
    → IsDay (suc n) (record { year = y; month = m + 1; day = 1 })
next-month n y m d i last less =
    let low = i.month.0 in
    let number = i.number in
    let moved = days_from_civil-next_month (pos y) m d low last in
    let long = days_in_month_bounds (pos y) (m + 1) in
    record {
      year = i.year;
      month = (omega (arith, low), omega (arith, less));
      day = (omega arith, omega (arith, long));
      number =
          omega (arith, signed_arith, number, moved);
    }

december : (y : ℕ) → days_in_month (pos y) 12 ≡ 31
december y = refl

next-year : (n y m d : ℕ) → n < 2932896 → IsDay n (record { year = y; month = m; day = d }) → d ≡ days_in_month (pos y) m → m ≡ 12
    → IsDay (suc n) (record { year = y + 1; month = 1; day = 1 })
next-year n y m d few i last twelve =
    let day : d ≡ 31 = last ∙ ap (days_in_month (pos y)) twelve ∙ december y in
    let number : days_from_civil (pos y) 12 31 ≡ pos n =
    sym (ap (λ z. days_from_civil (pos y) z d) twelve ∙ ap (days_from_civil (pos y) 12) day) ∙ i.number in
    let top : y ≡ 9999 → pos n ≡ pos 2932896 = λ e. sym number ∙ ap (λ z. days_from_civil (pos z) 12 31) e ∙ days_from_civil-max in
    let year = i.year in
    let before : y < 9999 = below y (λ e. let t = top e in omega (arith, signed_arith, t, few)) year in
    let moved = days_from_civil-next_year (pos y) (pos (y + 1)) (omega (arith, signed_arith)) (omega (arith, signed_arith)) in
    let long = days_in_month_bounds (pos (y + 1)) 1 in
    record {
      year = omega (arith, before);
      month = (omega arith, omega arith);
      day = (omega arith, omega (arith, long));
      number =
          omega (arith, signed_arith, number, moved);
    }
  where
    below : (y : ℕ) → (y ≡ 9999 → ⊥) → y ≤ 9999 → y < 9999
    below y not_top le = grind arith

at-end : (d k : ℕ) → nat_lt d k ≡ false → d ≤ k → d ≡ k
at-end d k e le = grind arith

less-is : (d k : ℕ) → nat_lt d k ≡ true → d < k
less-is d k e = grind arith

step : (n y m d : ℕ) → n < 2932896 → IsDay n (record { year = y; month = m; day = d }) → (b c : Bool)
    → nat_lt d (days_in_month (pos y) m) ≡ b → nat_lt m 12 ≡ c
    → IsDay (suc n) (if b then record { year = y; month = m; day = d + 1 } else if c then record { year = y; month = m + 1; day = 1 }
    else record { year = y + 1; month = 1; day = 1 })
step n y m d few i true c p q = next-day n y m d i (less-is d (days_in_month (pos y) m) p)
step n y m d few i false true p q = next-month n y m d i (at-end d (days_in_month (pos y) m) p i.day.1) (less-is m 12 q)
step n y m d few i false false p q = next-year n y m d few i (at-end d (days_in_month (pos y) m) p i.day.1) (at-end m 12 q i.month.1)

-- up to the end of the year 9999
pub is-day : (n : ℕ) → n ≤ 2932896 → IsDay n (civil n)
unfolding civil
is-day zero few = record {
  year = omega arith;
  month = (omega arith, omega arith);
  day =
      (omega arith, let long = days_in_month_bounds (pos 1970) 1 in omega (arith, long));
  number = first;
}
is-day (suc n) few =
    let c : Civil = civil n in
    step n c.year c.month c.day (omega (arith, few)) (is-day n (omega (arith, few))) (nat_lt c.day (days_in_month (pos c.year) c.month))
    (nat_lt c.month 12) refl refl

date-of : (n : ℕ) (c : Civil) → IsDay n c → Date
date-of n c i = record {
  year = pos c.year;
  month = c.month;
  day = c.day;
  year_in = (let y = i.year in
      (omega (arith, signed_arith), omega (arith, signed_arith, y)));
  month_in = i.month;
  day_in = i.day;
}

-- ---- the text

minutes : (r : ℕ) → r < 86400 → r ≡ r / 3600 * 3600 + r / 60 % 60 * 60 + r % 60
minutes r less = omega (arith, less)

pub stamp-is : (seconds : ℕ) → seconds / 86400 ≤ 2932896 → IsStamp seconds (stamp seconds)
unfolding date-of
stamp-is seconds few =
    let n : ℕ = seconds / 86400 in
    let r : ℕ = seconds % 86400 in
    let i : IsDay n (civil n) = is-day n few in
    record {
      year = (civil n).year;
      month = (civil n).month;
      day = (civil n).day;
      hour = r / 3600;
      minute = r / 60 % 60;
      second = r % 60;
      moment = record {
        date = (date-of n (civil n) i, i.number, refl, refl, refl);
        time = minutes r (omega arith);
        minute_fits = omega arith;
        second_fits = omega arith;
      };
      is = refl;
    }

-- the line that is written of a notice is this one
pub line-is : (n : Notice) (seconds : ℕ) (line : List ℕ) → seconds / 86400 ≤ 2932896 → IsLine n seconds line → line ≡ line_text n seconds
line-is n seconds line few l =
    l.text ∙ ap (λ (z : List ℕ). compact_text (notice_data n z) ++ 10 ∷ [])
    (one_stamp seconds l.stamp (stamp seconds) l.at (stamp-is seconds few))
