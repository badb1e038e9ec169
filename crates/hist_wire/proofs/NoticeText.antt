-- The line of a notice whose names pass their checks is text that can be written.
use Rattle.std.proofs.Common.{◌≡◌, ℕ, ◌<◌, ◌/◌, ◌%◌, nat_lt, Bool, true, List, codes, IsUtf8, refl, arith}
use Rattle.std.proofs.lemmas.Bool.{and_from}
use Rattle.std.proofs.lemmas.Bool.Decides.{nat_tests}
use Rattle.json.proofs.Printed.Utf8.{IsUtf8-are_ascii, are_ascii}
use Rattle.serde_json.specs.Data.{Data}
use Rattle.ikeless_tree.specs.declared.entry.Selector.{Selector}
use Rattle.ikeless_tree.specs.declared.order.Notice.{Notice}
use Rattle.ikeless_tree.specs.declared.order.Notice.TheVariants as notices
use Rattle.ikeless_tree.specs.declared.sad.Limits.{Limits}
use Rattle.ikeless_tree.specs.Check.{is_sad_name, is_spd_name}
use Rattle.ikeless_tree.specs.Typed.{IsTypedLimits, IsTypedNotice, IsTypedSelector}
use Rattle.json_values.proofs.Plain.{utf8_name}
use Rattle.json_values.proofs.ReadAgain.{IsWritable, write_boolean, write_member, write_none, write_number, write_object, write_text}
use Rattle.json_tree.proofs.Passed.{half_octets, path_octets}
use Rattle.json_tree.proofs.Writable.{write_counts, write_only, write_selector}
use Rattle.notice_lines.specs.Envelope.{acquire_data, envelope_data, event_data, event_name, expire_data, notice_data}
use Rattle.notice_lines.specs.Moments.{digit, stamp_text}
use Rattle.hist_wire.specs.Dates.{civil, stamp}

-- ---- the date

digit-ascii : (n : ℕ) → nat_lt (digit n) 128 ≡ true
digit-ascii n = let small : n % 10 < 10 = omega arith in grind (arith, nat_tests, small)

stamp-ascii : (year month day hour minute second : ℕ) → are_ascii (stamp_text year month day hour minute second) ≡ true
stamp-ascii year month day hour minute second =
    and_from _ _ (digit-ascii (year / 1000)) (and_from _ _ (digit-ascii (year / 100)) (and_from _ _ (digit-ascii (year / 10))
    (and_from _ _ (digit-ascii year)
    (and_from _ _ refl (and_from _ _ (digit-ascii (month / 10)) (and_from _ _ (digit-ascii month)
    (and_from _ _ refl (and_from _ _ (digit-ascii (day / 10)) (and_from _ _ (digit-ascii day)
    (and_from _ _ refl (and_from _ _ (digit-ascii (hour / 10)) (and_from _ _ (digit-ascii hour)
    (and_from _ _ refl (and_from _ _ (digit-ascii (minute / 10)) (and_from _ _ (digit-ascii minute)
    (and_from _ _ refl (and_from _ _ (digit-ascii (second / 10)) (and_from _ _ (digit-ascii second) refl))))))))))))))))))

stamp-utf8 : (seconds : ℕ) → IsUtf8 (stamp seconds)
stamp-utf8 seconds =
    IsUtf8-are_ascii (stamp seconds)
    (stamp-ascii (civil (seconds / 86400)).year (civil (seconds / 86400)).month (civil (seconds / 86400)).day
    (seconds % 86400 / 3600) (seconds % 86400 / 60 % 60) (seconds % 86400 % 60))

-- ---- what is told

-- the name in it passes its check
abbrev pub HasGoodName : Notice → Type 0
HasGoodName (notices.Acquire policy s) = is_spd_name policy ≡ true
HasGoodName (notices.Expire name soft current) = is_sad_name name ≡ true
HasGoodName (notices.SeqOverflow name) = is_sad_name name ≡ true
HasGoodName (notices.BadSpi spi) = Unit {0}

write-acquire : (policy : List ℕ) (s : Selector) → is_spd_name policy ≡ true → IsTypedSelector s → IsWritable (acquire_data policy s)
unfolding acquire_data
write-acquire policy s is h =
    write_object _ (write_member (codes "ipsec-policy-name") _ _ refl (write_text policy (utf8_name policy (path_octets policy is)))
    (write_member (codes "traffic-selector") _ _ refl (write_selector s h) write_none))

write-expire : (name : List ℕ) (soft : Bool) (l : Limits) → is_sad_name name ≡ true → IsTypedLimits l → IsWritable (expire_data name soft l)
unfolding expire_data
write-expire name soft l is h =
    write_object _ (write_member (codes "ipsec-sa-name") _ _ refl (write_text name (utf8_name name (half_octets name is)))
    (write_member (codes "lifetime-current") _ _ refl (write_counts l h)
    (write_member (codes "soft-lifetime-expire") _ _ refl (write_boolean soft) write_none)))

write-event : (n : Notice) → HasGoodName n → IsTypedNotice n → IsWritable (event_data n)
write-event (notices.Acquire policy s) is h = write-acquire policy s is h
write-event (notices.Expire name soft l) is h = write-expire name soft l is h
write-event (notices.SeqOverflow name) is h =
    write_only (codes "ipsec-sa-name") _ refl (write_text name (utf8_name name (half_octets name is)))
write-event (notices.BadSpi spi) is h = write_only (codes "spi") _ refl (write_number spi (omega (arith, h)))

name-ascii : (n : Notice) → are_ascii (event_name n) ≡ true
name-ascii (notices.Acquire policy s) = refl
name-ascii (notices.Expire name soft l) = refl
name-ascii (notices.SeqOverflow name) = refl
name-ascii (notices.BadSpi spi) = refl

pub notice-writable : (n : Notice) (seconds : ℕ) → HasGoodName n → IsTypedNotice n → IsWritable (notice_data n (stamp seconds))
unfolding envelope_data
notice-writable n seconds is h =
    write_only (codes "ietf-restconf:notification") _ refl
    (write_object _ (write_member (codes "eventTime") _ _ refl (write_text (stamp seconds) (stamp-utf8 seconds))
    (write_member (event_name n) _ _ (name-ascii n) (write-event n is h) write_none)))
