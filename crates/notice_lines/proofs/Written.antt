-- What is written is heard.
use Rattle.std.proofs.Common.{◌≡◌, ◌+◌, ◌≤◌, ℕ, List, [], ◌∷◌, ◌++◌, length, ap, ◌∙◌, arith, append_assoc, length-append}
use Rattle.std.specs.List.{flat_map}
use Rattle.serde_json.specs.Written.{compact_text}
use Rattle.ikeless_tree.specs.declared.order.Notice.{Notice}
use Rattle.ikeless_tree.specs.Typed.{IsTypedNotice}
use Rattle.notice_lines.specs.Envelope.{notice_data, IsNotice}
use Rattle.notice_lines.specs.Reading.{IsLine, HasNotice, IsHeard}
use Rattle.notice_lines.proofs.Again.{notice_again}
use Rattle.notice_lines.proofs.Notifications.{notice_back}
use Rattle.notice_lines.proofs.Cuts.{heard_whole}
use Rattle.notice_lines.proofs.Prefixes.{prefix_size}
use Rattle.notice_lines.proofs.Sizes.{plain_notice, sized_notice}
use Rattle.notice_lines.proofs.Text.{PlainNumbers, text_none}

pub written_heard : PlainNumbers → (n : Notice) (seconds : ℕ) (line : List ℕ) → IsNotice n → IsTypedNotice n → IsLine n seconds line
    → IsHeard n line
written_heard plain n seconds line is typed written = λ rest pieces joined.
    let d = notice_data n written.stamp in
    let text = compact_text d in
    let whole : HasNotice text n = record {
      utf8 = written.utf8;
      value = d;
      reads = written.reads;
      is =
          notice_back n d (notice_again n written.stamp is typed);
    } in
    let time : length written.stamp ≤ 20 = let e = ap length written.at.is in omega (arith, e) in
    let size = sized_notice prefix_size n written.stamp time is typed in
    let short : length text ≤ 4096 = omega (arith, size) in
    let all : flat_map (λ piece. piece) pieces ≡ text ++ 10 ∷ rest = joined ∙ ap (λ l. l ++ rest) written.text
    ∙ append_assoc text (10 ∷ []) rest in
    let heard = heard_whole text rest n pieces whole (text_none plain d (plain_notice n written.stamp typed).is) short all in
    let count : length text + 1 ≡ length line = let e = ap length written.text in let f = length-append text (10 ∷ []) in
    omega (arith, e, f) in
    (length text, count, heard.0, heard.1)
