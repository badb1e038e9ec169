use Rattle.std.proofs.Common.{rules, ◌≡◌, ◌∙◌, sym, ap, List, ℕ}
use Rattle.aes_block.specs.Schedule.{cipher_of}
use Rattle.gcm_seal.specs.Gcm.{sealed}
use Rattle.gcm_seal.proofs.Texts.{sealed_twice}
use Rattle.gcm_seal.proofs.plain.open_in_place.Goals as goal

pub returns-then-eq : goal.returns-then-eq
returns-then-eq c =
    let e : List ℕ → List ℕ = cipher_of c.args.k.now in
    let same : c.args.tag.now ≡ c.tag_for-right.result = search rules in
    let text_is = sealed_twice e c.args.nonce.now c.args.text.now ∙ ap (λ (t : List ℕ). sealed e c.args.nonce.now t)
    (sym c.add_stream.ensures) in
    ((text_is, same ∙ c.tag_for-right.ensures), c.add_stream.ensures)
