use Rattle.std.proofs.Common.{◌≡◌, ◌+◌, ◌∙◌, List, ℕ, ap, take, refl, arith}
use Rattle.std.proofs.lemmas.List.{length-set}
use Rattle.std.specs.Prelude.{slice_set}
use Rattle.aes_block.specs.Aes.{first_words}
use Rattle.aes_block.proofs.Schedules.{first_words_more, words_more, words_none}
use Rattle.aes_block.proofs.schedule.expand.Goals as goal

pub first-init : goal.first-init
unfolding first_words
first-init c = (refl, refl)

pub first-preserved : goal.first-preserved
first-preserved c =
    let long = c.first.invariant.0 in (
      length-set c.first.words c.first.i c.key_word.result ∙ long,
      ap (λ (w : List ℕ). take (c.first.i + 1) (slice_set c.first.words c.first.i w)) c.key_word.ensures
          ∙ first_words_more c.first.i c.args.k.now c.first.words (omega arith) c.first.invariant.1,
    )

pub later-init : goal.later-init
later-init c = (
  c.first.invariant.0,
  words_none c.args.n c.args.k.now c.first.words c.first.i (omega (arith, c.first.auto.i-end))
      c.first.invariant.1,
)

pub later-preserved : goal.later-preserved
later-preserved c =
    let long = c.later.invariant.0 in
    let at : ℕ = c.args.n + c.later.i in (
      length-set c.later.words at c.next_word.result ∙ long,
      ap (λ (w : List ℕ). take (c.args.n + (c.later.i + 1)) (slice_set c.later.words at w)) c.next_word.ensures
          ∙ words_more c.args.n c.later.i c.args.k.now c.later.words c.requires.size (omega arith) c.later.invariant.1,
    )

pub returns : goal.returns
returns c =
    let done : c.later.i ≡ c.args.more = omega (arith, c.later.auto.i-end) in
    rw done at c.later.invariant.1
