-- Every notice has a line that is heard.
use Rattle.std.proofs.Common.{◌≡◌, ◌^◌, ◌<◌, ◌≤◌, ℕ, refl, arith}
use Rattle.serde_json.specs.Data.{Data, depth}
use Rattle.ikeless_tree.specs.declared.order.Notice.{Notice}
use Rattle.ikeless_tree.specs.declared.order.Notice.TheVariants as notices
use Rattle.ikeless_tree.specs.Typed.{IsTypedNotice}
use Rattle.json_values.proofs.ReadAgain.{read_again, utf8_again}
use Rattle.notice_lines.specs.Envelope.{notice_data, IsNotice}
use Rattle.notice_lines.specs.Reading.{IsLine}
use Rattle.notice_lines.proofs.FlatNotice.{flat_notice}
use Rattle.hist_wire.specs.Dates.{line_text, stamp}
use Rattle.hist_wire.proofs.Dates.{stamp-is}
use Rattle.hist_wire.proofs.NoticeText.{HasGoodName, notice-writable}

good_name : (n : Notice) → IsNotice n → HasGoodName n
good_name (notices.Acquire policy s) is = is.0
good_name (notices.Expire name soft current) is = is
good_name (notices.SeqOverflow name) is = is
good_name (notices.BadSpi spi) is = is

pub line_of : (n : Notice) (seconds : ℕ) → IsNotice n → IsTypedNotice n → seconds < 2 ^ 32 → IsLine n seconds (line_text n seconds)
line_of n seconds is typed few =
    let plain = notice-writable n seconds (good_name n is) typed in
    let shallow : depth (notice_data n (stamp seconds)) ≤ 6 = (flat_notice n (stamp seconds)).shallow in
    record {
      stamp = stamp seconds;
      at = stamp-is seconds (omega (arith, few));
      text = refl;
      reads = read_again (notice_data n (stamp seconds)) plain (omega arith);
      utf8 = utf8_again (notice_data n (stamp seconds)) plain;
    }
