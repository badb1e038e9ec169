use Rattle.std.proofs.Common.{◌≡◌, map, take}
use Rattle.live_words.proofs.controller.links_at.Given as goal

abbrev pub invariant-loop-place : goal.invariant-loop-place
invariant-loop-place l = l.links ≡ map (λ p. p.link) (take l.place-index l.places)
