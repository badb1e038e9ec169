use Rattle.std.proofs.Common.{◌∙◌, sym, ap, refl, List, ℕ}
use Rattle.gcm_seal.specs.Gcm.{sealed}
use Rattle.gcm_seal.proofs.Texts.{sealed_twice}
use Rattle.gcm_seal.proofs.open_undoes_seal.Goals as goal

pub returns-clause-seals_open : goal.returns-clause-seals_open
returns-clause-seals_open c = λ e nonce aad p. (refl, refl)

pub returns-clause-opens_once : goal.returns-clause-opens_once
returns-clause-opens_once c = λ e nonce aad s t p opens. sealed_twice e nonce p ∙ sym (ap (λ (x : List ℕ). sealed e nonce x) opens.0)

pub returns-clause-tags_open : goal.returns-clause-tags_open
returns-clause-tags_open c = λ e nonce aad s t right. (sealed_twice e nonce s, right)
