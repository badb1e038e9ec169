use Rattle.std.proofs.Common.{◌≡◌, ◌+◌, ◌-◌, ◌<◌, ◌∙◌, ◌++◌, ℕ, List, length, drop, take, ap, arith, lit<, sym, get_or}
use Rattle.std.specs.Prelude.{slice_range}
use Rattle.std.proofs.lemmas.List.{length-drop, take-append-drop, take_all}
use Rattle.esp_frame.proofs.Frames.{icv_is, iv_is, octets_0, octets_4, text_is}
use Rattle.esp_frame.proofs.frame.fields.Goals as goal

pub returns : goal.returns
returns c =
    let b = c.args.esp.now in
    let head = c.split_at.result.0.now in
    let text = c.split_at-2.result.0.now in
    let icv = c.split_at-2.result.1.now in
    let at : (i : ℕ) → i < 4 → get_or head i 0 ≡ get_or (take 4 b) i 0 = octets_0 b head c.split_at.ensures.front in
    let after : (i : ℕ) → i < 4 → get_or head (4 + i) 0 ≡ get_or (slice_range b 4 8) i 0 = octets_4 b head c.split_at.ensures.front in
    let head_len = c.split_at.ensures.front_len in
    let icv_len : length icv ≡ 16 = omega (arith, c.split_at-2.ensures.back_len, c.split_at.ensures.back_len) in
    let rest = c.split_at.result.1.now in
    let outer : head ++ rest ≡ b = (λ i. c.split_at.ensures.front i ++ c.split_at.ensures.back i) ∙ take-append-drop 16 b in
    let inner : text ++ icv ≡ rest = (λ i. c.split_at-2.ensures.front i ++ c.split_at-2.ensures.back i) ∙ take-append-drop _ rest in
    let parts : b ≡ head ++ (text ++ icv) = sym (ap (λ (l : List ℕ). head ++ l) inner ∙ outer) in (
      omega arith,
      omega (arith, at 0 (lit< tt), at 1 (lit< tt), at 2 (lit< tt), at 3 (lit< tt)),
      omega (arith, after 0 (lit< tt), after 1 (lit< tt), after 2 (lit< tt), after 3 (lit< tt)),
      take_all (length head - 8) (drop 8 head) (omega (arith, length-drop 8 head)) ∙ sym (iv_is b head text icv parts head_len icv_len),
      sym (text_is b head text icv parts head_len icv_len),
      sym (icv_is b head text icv parts head_len icv_len),
    )
