-- A moment has one text.
use Rattle.std.proofs.Common.{◌≡◌, ℕ, pos, List, refl, sym, ◌∙◌, arith}
use Rattle.jiff_core.proofs.DateLemmas.{epoch_day_injective}
use Rattle.notice_lines.specs.Moments.{IsMoment, IsStamp, stamp_text}

of_pos : (a b : ℕ) → pos a ≡ pos b → a ≡ b
of_pos a b e = cc

-- one clock reading has one date and time
pub one_moment : (n y m d h i s z o e k j t : ℕ) → IsMoment n y m d h i s → IsMoment n z o e k j t → (y ≡ z) × (m ≡ o) × (d ≡ e) × (h ≡ k)
    × (i ≡ j) × (s ≡ t)
one_moment n y m d h i s z o e k j t a b =
    let same = epoch_day_injective a.date.0 b.date.0 (a.date.1 ∙ sym b.date.1) in
    let year : y ≡ z = of_pos y z (sym a.date.2 ∙ same.0 ∙ b.date.2) in
    let month : m ≡ o = sym a.date.3 ∙ same.1 ∙ b.date.3 in
    let day : d ≡ e = sym a.date.4 ∙ same.2 ∙ b.date.4 in
    let p = a.time in let q = b.time in
    let r = a.minute_fits in let u = b.minute_fits in
    let v = a.second_fits in let w = b.second_fits in
    (year, month, day, omega arith, omega arith, omega arith)

pub one_stamp : (n : ℕ) (a b : List ℕ) → IsStamp n a → IsStamp n b → a ≡ b
one_stamp n a b p q =
    let same = one_moment n p.year p.month p.day p.hour p.minute p.second q.year q.month q.day q.hour q.minute q.second p.moment q.moment in
    let one = p.is in let two = q.is in
    let texts : stamp_text p.year p.month p.day p.hour p.minute p.second ≡ stamp_text q.year q.month q.day q.hour q.minute q.second =
    rw (same.0, same.1, same.2, same.3, same.4, same.5) refl in
    one ∙ texts ∙ sym two
