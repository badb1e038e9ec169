-- How acts are spelled, each in one way.
use Rattle.std.specs.Prelude.{ℕ, ◌+◌, List, [], ◌∷◌, ◌++◌, map, Option, Some, None, codes}
use Rattle.std.specs.List.{flat_map}
use Rattle.std.specs.Fmt.{decimal}
use Rattle.ikeless_tree.specs.Words.{drop_text, gone_text, refusal_text, tag_text, softness_text, lane_text}
use Rattle.ikeless_tree.specs.declared.order.Answer.{Answer}
use Rattle.ikeless_tree.specs.declared.order.Notice.{Notice}
use Rattle.ikeless_tree.specs.declared.order.Notice.TheVariants as notices
use Rattle.ikeless_tree.specs.declared.order.Order.{Order}
use Rattle.ikeless_tree.specs.declared.order.Order.TheVariants as orders
use Rattle.ikeless_tree.specs.declared.error.Tag.{Tag}
use Rattle.hist_acts.specs.declared.act.Act.{Act}
use Rattle.hist_acts.specs.declared.act.Act.TheVariants as acts
use Rattle.line_words.specs.Text.{hex_text, limits_text, selector_text, entry_text, half_text, line_text}

-- a dash for none, or the names with commas between them
abbrev pub names_text : List (List ℕ) → List ℕ
names_text [] = codes "-"
names_text (n ∷ ns) = n ++ flat_map (λ m. 44 ∷ m) ns

-- a dash for none, or the error tag as RFC 8040 section 7 spells it
abbrev pub tag_word : Option Tag → List ℕ
tag_word None = codes "-"
tag_word (Some t) = tag_text t

-- the word that says what is ordered, and what that needs
abbrev pub order_words : Order → List (List ℕ)
order_words orders.Read = codes "read" ∷ []
order_words (orders.Policy list) = codes "policy" ∷ map entry_text list
order_words (orders.Put e) = codes "put" ∷ half_text e ∷ []
order_words (orders.Remove name) = codes "remove" ∷ name ∷ []

-- the status, the error tag and the names of an answer
abbrev pub answer_words : Answer → List (List ℕ)
answer_words a = decimal a.status ∷ tag_word a.tag ∷ names_text a.names ∷ []

-- the word that says what the notice is of, and what that needs
abbrev pub notice_words : Notice → List (List ℕ)
notice_words (notices.Acquire policy s) = codes "acquire" ∷ policy ∷ selector_text s ∷ []
notice_words (notices.Expire name soft counts) = codes "expire" ∷ name ∷ softness_text soft ∷ limits_text counts ∷ []
notice_words (notices.SeqOverflow name) = codes "overflow" ∷ name ∷ []
notice_words (notices.BadSpi spi) = codes "bad-spi" ∷ decimal spi ∷ []

-- the words between the spaces of an act's line
abbrev pub act_words : Act → List (List ℕ)
act_words (acts.Took k) = codes "@" ∷ decimal k ∷ []
act_words (acts.Now t) = codes "now" ∷ decimal t ∷ []
act_words (acts.Boot g) = codes "boot" ∷ g ∷ []
act_words (acts.Policy g list) = codes "policy" ∷ g ∷ map entry_text list
act_words (acts.Put g e) = codes "put" ∷ g ∷ half_text e ∷ []
act_words (acts.Gone g name w) = codes "gone" ∷ g ∷ name ∷ gone_text w ∷ []
act_words (acts.Let g o) = codes "let" ∷ g ∷ hex_text o ∷ []
act_words (acts.Sent g name k o) = codes "sent" ∷ g ∷ name ∷ decimal k ∷ hex_text o ∷ []
act_words (acts.Clear g o) = codes "clear" ∷ g ∷ hex_text o ∷ []
act_words (acts.Drop g w) = codes "drop" ∷ g ∷ drop_text w ∷ []
act_words (acts.Arrived g o) = codes "arrived" ∷ g ∷ hex_text o ∷ []
act_words (acts.Gave g name k o) = codes "gave" ∷ g ∷ name ∷ decimal k ∷ hex_text o ∷ []
act_words (acts.Pass g o) = codes "pass" ∷ g ∷ hex_text o ∷ []
act_words (acts.Opened g s) = codes "opened" ∷ g ∷ decimal s ∷ []
act_words (acts.Cut g s) = codes "cut" ∷ g ∷ decimal s ∷ []
act_words (acts.Order g s n o) = codes "order" ∷ g ∷ decimal s ∷ decimal n ∷ order_words o
act_words (acts.Handled g s n a) = codes "handled" ∷ g ∷ decimal s ∷ decimal n ∷ answer_words a
act_words (acts.Answered g s n a) = codes "answered" ∷ g ∷ decimal s ∷ decimal n ∷ answer_words a
act_words (acts.Notice g s n) = codes "notice" ∷ g ∷ decimal s ∷ notice_words n
act_words (acts.Heard g s n) = codes "heard" ∷ g ∷ decimal s ∷ notice_words n
act_words (acts.Wire g l o) = codes "wire" ∷ g ∷ lane_text l ∷ hex_text o ∷ []
act_words (acts.Refused w) = codes "refused" ∷ refusal_text w ∷ []

-- one act, without its LF
unfoldable pub act_text : Act → List ℕ
act_text a = line_text (act_words a)

-- one act as a line of a transcript, with its LF
abbrev pub line_of : Act → List ℕ
line_of a = act_text a ++ 10 ∷ []

-- a line for each act
abbrev pub text_of : List Act → List ℕ
text_of h = flat_map line_of h
