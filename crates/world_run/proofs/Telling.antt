-- What a gateway did is told behind the act of its event.
use Rattle.std.proofs.Common.{◌≡◌, ℕ, zero, suc, ◌+◌, ◌<◌, ◌&&◌, not, Bool, false, List, [], ◌∷◌, ◌++◌, length, map, take, drop, get_or, set, refl, sym, ap, ◌∙◌, append_assoc, append-nil, arith}
use Rattle.std.specs.List.{flat_map, list_any}
use Rattle.hist_halves.specs.Sealed.{esp_of}
use Rattle.world_steps.specs.Steps.{did_open}
use Rattle.world_steps.specs.Worlds.{was_sent}
use Rattle.world_run.specs.Packets.{is_forged_in}
use Rattle.std.proofs.lemmas.List.{get_or_default, take_more}
use Rattle.std.proofs.lemmas.Grind.{flat_map-append}
use Rattle.hist_acts.specs.declared.act.Act.{Act}
use Rattle.gw_requests.specs.declared.act.GwAct.{GwAct}
use Rattle.gw_core.specs.Machine.{Arrive, Event}
use Rattle.world_steps.specs.Nodes.{Node, acts_told, after_event, all_sent, outcome}
use Rattle.world_nodes.specs.Told.{acted, piped_all}

pub told-behind : (n m : Node) (e : Event) (ys : List GwAct) (before mid after : List Act) (x : Act) → m ≡ acted e n
    → ys ≡ (outcome n e).acts
    → mid ≡ before ++ x ∷ [] → after ≡ mid ++ acts_told m ys → after ≡ before ++ x ∷ acts_told n (outcome n e).acts
told-behind n m e ys before mid after x f g a b =
    b ∙ ap (λ z. z ++ acts_told m ys) a ∙ append_assoc before (x ∷ []) (acts_told m ys)
    ∙ ap (λ z. before ++ x ∷ acts_told z ys) f ∙ ap (λ z. before ++ x ∷ acts_told n z) g

pub node-behind : (n m l : Node) (e : Event) (ys : List GwAct) → m ≡ acted e n → ys ≡ (outcome n e).acts → l ≡ piped_all ys m
    → l ≡ after_event e n
node-behind n m l e ys f g h = h ∙ ap (λ z. piped_all ys z) f ∙ ap (λ z. piped_all z (acted e n)) g

pub sent-behind : (n : Node) (e : Event) (ys : List GwAct) (before after : List (List ℕ)) → ys ≡ (outcome n e).acts
    → after ≡ before ++ all_sent ys
    → after ≡ before ++ all_sent (outcome n e).acts
sent-behind n e ys before after g h = h ∙ ap (λ z. before ++ all_sent z) g

-- ---- one gateway after another

pub mapped-get : (f : Node → Node) (ns : List Node) (i : ℕ) (d : Node) → i < length ns
    → get_or (map f (take i ns) ++ drop i ns) i d ≡ get_or ns i d
mapped-get f [] i d lt = absurd (omega (arith, lt))
mapped-get f (n ∷ ns) zero d lt = refl
mapped-get f (n ∷ ns) (suc i) d lt = mapped-get f ns i d (omega (arith, lt))

mapped-more : (f : Node → Node) (ns : List Node) (i : ℕ) (m : Node) → i < length ns → m ≡ f (get_or ns i m)
    → set (map f (take i ns) ++ drop i ns) i m ≡ map f (take (i + 1) ns) ++ drop (i + 1) ns
mapped-more f [] i m lt e = absurd (omega (arith, lt))
mapped-more f (n ∷ ns) zero m lt e = ap (λ z. z ∷ ns) e
mapped-more f (n ∷ ns) (suc i) m lt e =
    let next : suc i + 1 ≡ suc (i + 1) = omega arith in
    rw next (ap (λ z. f n ∷ z) (mapped-more f ns i m (omega (arith, lt)) e))

pub mapped-step : (f : Node → Node) (ns ms : List Node) (i : ℕ) (x m : Node) → i < length ns → ms ≡ map f (take i ns) ++ drop i ns
    → x ≡ get_or ms i x → m ≡ f x
    → set ms i m ≡ map f (take (i + 1) ns) ++ drop (i + 1) ns
mapped-step f ns ms i x m lt e at g =
    let here : x ≡ get_or ns i x = at ∙ ap (λ z. get_or z i x) e ∙ mapped-get f ns i x lt in
    let there : get_or ns i x ≡ get_or ns i m = get_or_default ns i x m lt in
    ap (λ z. set z i m) e ∙ mapped-more f ns i m lt (g ∙ ap f (here ∙ there))

pub flat-step : {A : Type 0} → (h : Node → List A) (ns ms : List Node) (f : Node → Node) (i : ℕ) (x : Node) (first old new : List A)
    → i < length ns
    → ms ≡ map f (take i ns) ++ drop i ns → x ≡ get_or ms i x → old ≡ first ++ flat_map h (take i ns) → new ≡ old ++ h x
    → new ≡ first ++ flat_map h (take (i + 1) ns)
flat-step h ns ms f i x first old new lt e at a b =
    let here : x ≡ get_or ns i x = at ∙ ap (λ z. get_or z i x) e ∙ mapped-get f ns i x lt in
    let front : take (i + 1) ns ≡ take i ns ++ x ∷ [] = take_more ns i x lt ∙ ap (λ z. take i ns ++ z ∷ []) (sym here) in
    let one : flat_map h (x ∷ []) ≡ h x = append-nil (h x) in
    b ∙ ap (λ z. z ++ h x) a ∙ append_assoc first (flat_map h (take i ns)) (h x)
    ∙ ap (λ z. first ++ (flat_map h (take i ns) ++ z)) (sym one)
    ∙ ap (λ z. first ++ z) (sym (flat_map-append h (take i ns) (x ∷ [])) ∙ ap (flat_map h) (sym front))

pub genuine-is : (o p : List ℕ) (n : Node) (sent : List (List ℕ)) (done : List GwAct) (r : Bool) → done ≡ (outcome n (Arrive o)).acts
    → p ≡ o
    → r ≡ (list_any did_open done && not (was_sent (esp_of p) sent)) → r ≡ false → is_forged_in o n sent ≡ false
genuine-is o p n sent done r f g h e =
    let whole : (list_any did_open done && not (was_sent (esp_of p) sent)) ≡ is_forged_in o n sent =
    ap (λ z. list_any did_open z && not (was_sent (esp_of p) sent)) f
    ∙ ap (λ z. list_any did_open (outcome n (Arrive o)).acts && not (was_sent (esp_of z) sent)) g
    in
    sym whole ∙ sym h ∙ e
