use Rattle.std.proofs.Common.{◌∙◌, ◌∷◌, [], ℕ, List, ap}
use Rattle.std.specs.Prelude.{slice_index}
use Rattle.aes_block.specs.Aes.{s_box}
use Rattle.aes_block.proofs.TTables.{loaded_xor}
use Rattle.aes_block.proofs.columns.last_column.Goals as goal

pub returns : goal.returns
returns c =
    let a = c.s_box-p.ensures ∙ ap (λ (l : List ℕ). s_box (slice_index l 0)) c.to_be_bytes.ensures in
    let b = c.s_box-q.ensures ∙ ap (λ (l : List ℕ). s_box (slice_index l 1)) c.to_be_bytes-2.ensures in
    let d = c.s_box-r.ensures ∙ ap (λ (l : List ℕ). s_box (slice_index l 2)) c.to_be_bytes-3.ensures in
    let e = c.s_box-t.ensures ∙ ap (λ (l : List ℕ). s_box (slice_index l 3)) c.to_be_bytes-4.ensures in
    loaded_xor c.packed.result c.args.k _ _ _ _ (c.packed.ensures ∙ (λ i. a i ∷ b i ∷ d i ∷ e i ∷ []))
