use Rattle.std.proofs.Common.{arith, ◌≡◌, ◌∙◌, ◌+◌, ◌*◌, ◌/◌, ◌%◌, ◌*ℤ◌, ◌+ℤ◌, ◌≤ℤ◌, pos, ap, to_z, of_z, w8, w64, nat_abs}
use Rattle.std.proofs.lemmas.Result.{IfOk-at_ok}
use Rattle.jiff_core.specs.Date.{epoch_day}
use Rattle.jiff_core.specs.DateTime.{civil_nanos}
use Rattle.jiff_core.proofs.SignedLemmas.{signed_arith, signed_casts}
use Rattle.jiff_core.proofs.DateTimeLemmas.{civil_nanos-parts, time_nanos_bound}
use Rattle.jiff.specs.Words.{plain_zoned, nanos_of_seconds}
use Rattle.jiff.proofs.ZoneFacts.{shows-UTC}
use Rattle.notice_lines.proofs.YearLemmas.{year_from_epoch}
use Rattle.notice_lines.proofs.moment.moment_of.Goals as goal

pub overflow_cast-result : goal.overflow_cast-result
overflow_cast-result c =
    let same : to_z w64 c.args.now ≡ pos c.args.now = omega (arith, signed_casts) in
    let inst : c.unwrap-instant.result.nanosecond ≡ pos c.args.now *ℤ pos 1_000_000_000 =
    IfOk-at_ok _ c.unwrap-instant.ensures c.from_second.ensures.value ∙ ap (λ z. z *ℤ pos 1_000_000_000) same in
    let civil_is : civil_nanos c.datetime-civil.result ≡ pos c.args.now *ℤ pos 1_000_000_000 +ℤ nanos_of_seconds (pos 0) =
    ap civil_nanos c.datetime-civil.ensures ∙ shows-UTC (plain_zoned c.to_zoned.result) c.to_zoned.ensures.zone
    ∙ ap (λ n. n +ℤ nanos_of_seconds (pos 0)) (ap (λ t. t.nanosecond) c.to_zoned.ensures.instant ∙ inst) in
    let parts = civil_nanos-parts c.datetime-civil.result in
    let within = time_nanos_bound c.datetime-civil.result.time in
    let late : pos 0 ≤ℤ epoch_day c.datetime-civil.result.date = omega (arith, signed_arith, civil_is, parts, within) in
    let year = year_from_epoch c.datetime-civil.result.date late in
    grind (arith, signed_casts, year, c.year.ensures, c.datetime-civil.result.date.year_in)

pub returns : goal.returns
returns c =
    let same : to_z w64 c.args.now ≡ pos c.args.now = omega (arith, signed_casts) in
    let inst : c.unwrap-instant.result.nanosecond ≡ pos c.args.now *ℤ pos 1_000_000_000 =
    IfOk-at_ok _ c.unwrap-instant.ensures c.from_second.ensures.value ∙ ap (λ z. z *ℤ pos 1_000_000_000) same in
    let civil_is : civil_nanos c.datetime-civil.result ≡ pos c.args.now *ℤ pos 1_000_000_000 +ℤ nanos_of_seconds (pos 0) =
    ap civil_nanos c.datetime-civil.ensures ∙ shows-UTC (plain_zoned c.to_zoned.result) c.to_zoned.ensures.zone
    ∙ ap (λ n. n +ℤ nanos_of_seconds (pos 0)) (ap (λ t. t.nanosecond) c.to_zoned.ensures.instant ∙ inst) in
    let parts = civil_nanos-parts c.datetime-civil.result in
    let within = time_nanos_bound c.datetime-civil.result.time in
    let late : pos 0 ≤ℤ epoch_day c.datetime-civil.result.date = omega (arith, signed_arith, civil_is, parts, within) in
    let year = year_from_epoch c.datetime-civil.result.date late in
    let day : epoch_day c.datetime-civil.result.date ≡ pos (c.args.now / 86400) = omega (arith, signed_arith, civil_is, parts, within) in
    let t = c.datetime-civil.result.time in
    let seconds : c.args.now % 86400 ≡ t.hour * 3600 + t.minute * 60 + t.second =
    omega (arith, signed_arith, civil_is, parts, within, day, t.hour_in, t.minute_in, t.second_in, t.subsec_in) in
    let hour : nat_abs (to_z w8 (of_z w8 c.hour.result)) ≡ t.hour = grind (arith, signed_casts, c.hour.ensures, t.hour_in) in
    let minute : nat_abs (to_z w8 (of_z w8 c.minute.result)) ≡ t.minute = grind (arith, signed_casts, c.minute.ensures, t.minute_in) in
    let second : nat_abs (to_z w8 (of_z w8 c.second.result)) ≡ t.second = grind (arith, signed_casts, c.second.ensures, t.second_in) in
    record {
      date = (
        c.datetime-civil.result.date,
        day,
        grind (arith, signed_casts, year, c.year.ensures, c.datetime-civil.result.date.year_in),
        grind (arith, signed_casts, c.month.ensures, c.datetime-civil.result.date.month_in),
        grind
            (arith, signed_casts, c.day.ensures, c.datetime-civil.result.date.day_in),
      );
      time = rw (hour, minute, second) seconds;
      minute_fits = rw minute t.minute_in;
      second_fits = rw second t.second_in;
    }
