-- The line of a notice is octets.
use Rattle.std.proofs.Common.{ℕ, [], ◌∷◌, refl}
use Rattle.std.proofs.lemmas.List.Elements.{All-append}
use Rattle.serde_json.specs.Written.{compact_text}
use Rattle.ikeless_tree.specs.Typed.{AreOctets}
use Rattle.ikeless_tree.specs.declared.order.Notice.{Notice}
use Rattle.ikeless_tree.specs.declared.order.Notice.TheVariants as notices
use Rattle.json_values.proofs.ReadAgain.{utf8_again}
use Rattle.notice_lines.specs.Envelope.{notice_data}
use Rattle.hist_wire.specs.Dates.{line_text, stamp}
use Rattle.hist_wire.proofs.NoticeText.{HasGoodName, notice-writable}
use Rattle.acts_spell.proofs.Octets.{IsOctet}
use Rattle.acts_spell.proofs.Texts.{utf8-octets, word}
use Rattle.acts_spell.proofs.Found.{IsGoodNotice}

good-name : (n : Notice) → IsGoodNotice n → HasGoodName n
good-name (notices.Acquire policy s) h = h.0.0
good-name (notices.Expire name soft current) h = h.0
good-name (notices.SeqOverflow name) h = h.0
good-name (notices.BadSpi spi) h = h.0

pub line-octets : (n : Notice) (seconds : ℕ) → IsGoodNotice n → AreOctets (line_text n seconds)
line-octets n seconds h =
    All-append IsOctet (compact_text (notice_data n (stamp seconds))) (10 ∷ [])
    (utf8-octets (compact_text (notice_data n (stamp seconds)))
    (utf8_again (notice_data n (stamp seconds)) (notice-writable n seconds (good-name n h) h.1))) (word (10 ∷ []) refl)
