-- What one act more puts into the pipe and into the log.
use Rattle.std.proofs.Common.{◌≡◌, ℕ, List, [], ◌∷◌, ◌++◌, refl, sym, ap, ◌∙◌, ◌+◌, ◌<◌, length, take, get_or, append-nil, append_assoc}
use Rattle.std.proofs.lemmas.List.{take_more}
use Rattle.session_pipe.specs.UnderWay.{UnderWay}
use Rattle.gw_requests.specs.declared.act.GwAct.{GwAct}
use Rattle.world_steps.specs.Nodes.{all_piped, all_sent, piped, sent_of}

pub piped-more : (now : ℕ) (xs : List GwAct) (x : GwAct) (p : UnderWay) → all_piped now (xs ++ x ∷ []) p ≡ piped now x (all_piped now xs p)
piped-more now [] x p = refl
piped-more now (y ∷ ys) x p = piped-more now ys x (piped now y p)

pub sent-more : (xs : List GwAct) (x : GwAct) → all_sent (xs ++ x ∷ []) ≡ all_sent xs ++ sent_of x
sent-more [] x = append-nil (sent_of x)
sent-more (y ∷ ys) x = ap (λ z. sent_of y ++ z) (sent-more ys x) ∙ sym (append_assoc (sent_of y) (all_sent ys) (sent_of x))

-- one act more of those from the front on
front : (xs : List GwAct) (i : ℕ) (x : GwAct) → i < length xs → x ≡ get_or xs i x → take (i + 1) xs ≡ take i xs ++ x ∷ []
front xs i x lt at = take_more xs i x lt ∙ ap (λ z. take i xs ++ z ∷ []) (sym at)

pub piped-step : (now : ℕ) (first old new : UnderWay) (xs : List GwAct) (i : ℕ) (x : GwAct) → i < length xs → x ≡ get_or xs i x
    → old ≡ all_piped now (take i xs) first → new ≡ piped now x old → new ≡ all_piped now (take (i + 1) xs) first
piped-step now first old new xs i x lt at e f =
    f ∙ ap (piped now x) e ∙ sym (piped-more now (take i xs) x first) ∙ ap (λ z. all_piped now z first) (sym (front xs i x lt at))

pub sent-step : (first old new : List (List ℕ)) (xs : List GwAct) (i : ℕ) (x : GwAct) → i < length xs → x ≡ get_or xs i x
    → old ≡ first ++ all_sent (take i xs) → new ≡ old ++ sent_of x → new ≡ first ++ all_sent (take (i + 1) xs)
sent-step first old new xs i x lt at e f =
    f ∙ ap (λ z. z ++ sent_of x) e ∙ append_assoc first (all_sent (take i xs)) (sent_of x)
    ∙ ap (λ z. first ++ z) (sym (sent-more (take i xs) x) ∙ ap all_sent (sym (front xs i x lt at)))
