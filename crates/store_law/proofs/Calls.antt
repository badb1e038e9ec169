-- After any calls the store is what they give, looking back.
use Rattle.std.proofs.Common.{◌≡◌, List, [], ◌∷◌, map, refl, sym, ap, ◌∙◌}
use Rattle.sad_store.specs.Halves.{names_of}
use Rattle.sad_store.specs.Kept.{are_names_apart}
use Rattle.store_law.specs.Calls.{Call, did, did_all}
use Rattle.store_law.specs.Back.{half_of, there}
use Rattle.store_law.proofs.Apart.{names-apart}
use Rattle.store_law.proofs.OneCall.{names_in, names-back, step}

pub is-given : (h : List Call) → did_all h ≡ map (half_of h) (there h)
is-given [] = refl
is-given (c ∷ h) =
    let before = is-given h in
    let names : names_in (there h) ≡ names_of (did_all h) = sym (names-back h (there h)) ∙ ap names_of (sym before) in
    ap (λ xs. did xs c) before ∙ sym (step h (ap are_names_apart names ∙ names-apart h) c)
