-- A step from what is kept of a past gives the one block that the past allows, and leaves what is kept of the past with it.
use Rattle.std.proofs.Common.{◌≡◌, List, [], ◌∷◌, ◌++◌, ℕ, refl, sym, append_assoc, append-nil, ap, ◌∙◌}
use Rattle.hist_acts.specs.declared.act.Act.{Act}
use Rattle.hist_acts.specs.Past.{after}
use Rattle.hist_gateway.specs.Block.{Gateway, GatewayEvent, gw_block, gw_history}
use Rattle.hist_gateway.specs.State.{state_of, did_all}
use Rattle.hist_gateway.specs.Machine.{next, run}
use Rattle.hist_gateway.specs.May.{AreNewHalves}
use Rattle.hist_gateway.proofs.KeepsLemmas.{keeps}
use Rattle.hist_gateway.proofs.MachineBlocks.{Judges, acts-are}
use Rattle.hist_gateway.proofs.MayAct.{AllFit, may-block, new-halves}

pub keeps-all : (g : List ℕ) (h block : List Act) → AreNewHalves g h block → state_of g (after h block) ≡ did_all g (state_of g h) block
keeps-all g h [] new = refl
keeps-all g h (a ∷ more) new = rw (sym (keeps g h a new.0)) (keeps-all g (a ∷ h) more new.1)

pub next-is : Judges → AllFit → (c : Gateway) (h : List Act) (e : GatewayEvent) → state_of c.name (after h (gw_block c h e)) ≡ next c
    (state_of c.name h) e
next-is judges fits c h e =
    rw (acts-are judges c h e) (keeps-all c.name h (gw_block c h e) (new-halves c c.name h (gw_block c h e) (may-block fits c h e)))

pub run-is : Judges → AllFit → (c : Gateway) (h : List Act) (es : List GatewayEvent) → run c (state_of c.name h) es ≡ gw_history c h es
run-is judges fits c h [] = refl
run-is judges fits c h (e ∷ es) =
    let ih = run-is judges fits c (after h (gw_block c h e)) es in
    let p = acts-are judges c h e in
    let q = next-is judges fits c h e in
    rw (sym q, p, ih) refl

pub after-append : (h xs ys : List Act) → after h (xs ++ ys) ≡ after (after h xs) ys
after-append h [] ys = refl
after-append h (x ∷ xs) ys = after-append (x ∷ h) xs ys

pub history-push : (c : Gateway) (h : List Act) (es : List GatewayEvent) (e : GatewayEvent) →
    gw_history c h (es ++ e ∷ []) ≡ gw_history c h es ++ gw_block c (after h (gw_history c h es)) e
history-push c h [] e = append-nil (gw_block c h e)
history-push c h (d ∷ es) e =
    let b : List Act = gw_block c h d in
    let more : List Act = gw_history c (after h b) es in
    ap (λ x. b ++ x) (history-push c (after h b) es e)
    ∙ (sym (append_assoc b more (gw_block c (after (after h b) more) e))
    ∙ ap (λ p. (b ++ more) ++ gw_block c p e) (sym (after-append h b more)))
