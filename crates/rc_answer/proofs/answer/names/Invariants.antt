use Rattle.std.proofs.Common.{◌≡◌, drop}
use Rattle.serde_json.specs.View.{items_view}
use Rattle.rc_answer.specs.Answers.{names_in}
use Rattle.rc_answer.proofs.AnswerLemmas.{onto}
use Rattle.rc_answer.proofs.answer.names.Given as goal

abbrev pub invariant-loop-item : goal.invariant-loop-item
invariant-loop-item l = onto l.names (names_in (items_view (drop l.item-index l.items))) ≡ names_in (items_view l.items)
