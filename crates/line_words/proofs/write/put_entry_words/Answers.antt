use Rattle.std.proofs.Common.{◌∙◌, ◌++◌, ap}
use Rattle.line_words.specs.Text.{entry_text}
use Rattle.line_words.proofs.PartText.{behind_mapped}
use Rattle.line_words.proofs.write.put_entry_words.Goals as goal

pub returns : goal.returns
returns c = c.in_ok-put_entries.ensures ∙ ap (λ t. c.args.out.now.items ++ t) (behind_mapped 32 entry_text c.args.list.now)
