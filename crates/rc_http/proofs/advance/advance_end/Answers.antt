use Rattle.std.proofs.Common.{arith, ◌∙◌, ap, subst, ◌++◌, List, ℕ, Ok, Err}
use Rattle.rc_http.specs.Parts.{LengthIs}
use Rattle.rc_http.proofs.AdvanceLemmas.{end_len, end_fault, end_small, end_body}
use Rattle.rc_http.proofs.advance.advance_end.Goals as goal

pub overflow_add-head : goal.overflow_add-head
overflow_add-head c =
    let is = c.in_ok-extend_from_slice.ensures.items ∙ ap (λ l. c.args.kept.now.items ++ l) c.split_at.ensures.front in
    let long = end_len c.args.kind c.args.kept.now.items c.args.piece.now _ c.args.end c.requires is in
    let small = end_small c.args.kind c.args.kept.now.items c.args.piece.now _ c.args.end c.requires is c.in-Ok.length
    (subst (λ (l : List ℕ). LengthIs c.args.kind l (Ok c.in-Ok.length)) c.deref.ensures.value c.in-Ok.ensures) in
    omega (arith, long, small)

pub advance_body-requires : goal.advance_body-requires
advance_body-requires c =
    let is = c.in_ok-extend_from_slice.ensures.items ∙ ap (λ l. c.args.kept.now.items ++ l) c.split_at.ensures.front in
    end_body c.args.kind c.args.kept.now.items c.args.piece.now _ c.args.end c.requires is _ c.in-Ok.length (omega arith)
    (subst (λ (l : List ℕ). LengthIs c.args.kind l (Ok c.in-Ok.length)) c.deref.ensures.value c.in-Ok.ensures)

pub returns-in-Err-clause-step : goal.returns-in-Err-clause-step
returns-in-Err-clause-step c =
    let is = c.in_ok-extend_from_slice.ensures.items ∙ ap (λ l. c.args.kept.now.items ++ l) c.split_at.ensures.front in
    end_fault c.args.kind c.args.kept.now.items c.args.piece.now _ c.args.end c.requires is c.in-Err.fault
    (subst (λ (l : List ℕ). LengthIs c.args.kind l (Err c.in-Err.fault)) c.deref.ensures.value c.in-Err.ensures)
