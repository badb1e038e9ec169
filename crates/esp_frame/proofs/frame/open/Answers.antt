use Rattle.std.proofs.Common.{◌≡◌, ◌-◌, ◌≤◌, ◌∙◌, ◌++◌, ℕ, List, length, get_or, ap, arith, refl, sym}
use Rattle.esp_frame.specs.Key.{keying_of}
use Rattle.esp_frame.proofs.Frames.{inner_is, no_inner_is, opens_is, opens_not, rest_is, same_opened, written_is}
use Rattle.esp_frame.proofs.Opens.{leaves_none, leaves_short, leaves_text, result_packet, result_padding, result_short, result_tag}
use Rattle.esp_frame.proofs.frame.open.Goals as goal

pub returns-then-esp-lt-LEAST_LEN-clause-value : goal.returns-then-esp-lt-LEAST_LEN-clause-value
returns-then-esp-lt-LEAST_LEN-clause-value c = result_short (keying_of c.args.sa.now) c.args.esp.now (omega arith)

pub returns-then-esp-lt-LEAST_LEN-clause-after : goal.returns-then-esp-lt-LEAST_LEN-clause-after
returns-then-esp-lt-LEAST_LEN-clause-after c = leaves_short (keying_of c.args.sa.now) c.args.esp.now (omega arith)

pub returns-then-not-open_text : goal.returns-then-not-open_text
returns-then-not-open_text c =
    let k = keying_of c.args.sa.now in
    let b = c.args.esp.now in
    let head = c.split_at_mut-head.result.0.now in
    let text = c.split_at_mut-text.result.0.now in
    let icv = c.split_at_mut-text.result.1.now in
    let parts : b ≡ head ++ (text ++ icv) = c.split_at_mut-head.ensures.value
    ∙ ap (λ (l : List ℕ). head ++ l) c.split_at_mut-text.ensures.value in
    let head_len = c.split_at_mut-head.ensures.front_len in
    let icv_len : length icv ≡ 16 = omega (arith, c.split_at_mut-text.ensures.back_len, c.split_at_mut-head.ensures.back_len) in
    let le : 34 ≤ length b = omega arith in
    let refused = c.if-not-open_text.ensures.refused in
    let none = opens_not b head text icv parts head_len icv_len k refused.0 in
    let same = ap (λ (l : List ℕ). head ++ (l ++ icv)) refused.1 ∙ sym parts in
    record {
      by_definition = (le, none, same);
      value = result_tag k b le none;
      after = same ∙ leaves_none k b none;
    }

pub returns-in-Some : goal.returns-in-Some
returns-in-Some c =
    let k = keying_of c.args.sa.now in
    let b = c.args.esp.now in
    let head = c.split_at_mut-head.result.0.now in
    let text = c.split_at_mut-text.result.0.now in
    let icv = c.split_at_mut-text.result.1.now in
    let parts : b ≡ head ++ (text ++ icv) = c.split_at_mut-head.ensures.value
    ∙ ap (λ (l : List ℕ). head ++ l) c.split_at_mut-text.ensures.value in
    let head_len = c.split_at_mut-head.ensures.front_len in
    let icv_len : length icv ≡ 16 = omega (arith, c.split_at_mut-text.ensures.back_len, c.split_at_mut-head.ensures.back_len) in
    let le : 34 ≤ length b = omega arith in
    let x = c.open_text.new.text in
    let opens = opens_is b head text icv parts head_len icv_len k x le c.if-not-open_text.ensures.opened in
    let same = same_opened b head text icv x parts head_len icv_len k le c.if-not-open_text.ensures.opened in
    let rest = rest_is b head text icv x parts head_len icv_len in
    let after = written_is b head text icv x parts head_len icv_len ∙ leaves_text k b x opens in
    let found = c.in-Some.ensures in
    let next : ℕ = get_or x (length x - 1) 0 in
    let small : c.in-Some.n ≤ length x = omega (arith, found.0) in
    record {
      by_definition = (
        refl,
        omega arith,
        omega (arith, found.0),
        same,
        inner_is head x icv head_len icv_len c.in-Some.n next small found.1,
        rest,
      );
      value = result_packet k b x next c.in-Some.n opens small found.1;
      after = after;
    }

pub returns-in-None : goal.returns-in-None
returns-in-None c =
    let k = keying_of c.args.sa.now in
    let b = c.args.esp.now in
    let head = c.split_at_mut-head.result.0.now in
    let text = c.split_at_mut-text.result.0.now in
    let icv = c.split_at_mut-text.result.1.now in
    let parts : b ≡ head ++ (text ++ icv) = c.split_at_mut-head.ensures.value
    ∙ ap (λ (l : List ℕ). head ++ l) c.split_at_mut-text.ensures.value in
    let head_len = c.split_at_mut-head.ensures.front_len in
    let icv_len : length icv ≡ 16 = omega (arith, c.split_at_mut-text.ensures.back_len, c.split_at_mut-head.ensures.back_len) in
    let le : 34 ≤ length b = omega arith in
    let x = c.open_text.new.text in
    let opens = opens_is b head text icv parts head_len icv_len k x le c.if-not-open_text.ensures.opened in
    let same = same_opened b head text icv x parts head_len icv_len k le c.if-not-open_text.ensures.opened in
    let rest = rest_is b head text icv x parts head_len icv_len in
    let after = written_is b head text icv x parts head_len icv_len ∙ leaves_text k b x opens in
    record {
      by_definition = (same, no_inner_is head x icv head_len icv_len c.in-None.ensures, rest);
      value = result_padding k b x opens c.in-None.ensures;
      after = after;
    }
