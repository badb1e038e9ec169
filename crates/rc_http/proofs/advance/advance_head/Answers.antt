use Rattle.std.proofs.Common.{arith, []}
use Rattle.rc_http.proofs.PlaceLemmas.{len_kept}
use Rattle.rc_http.proofs.AdvanceLemmas.{goes_long, goes_on, ends_late, ends_at}
use Rattle.rc_http.proofs.advance.advance_head.Goals as goal

pub overflow_add-len-in-Ends-1 : goal.overflow_add-len-in-Ends-1
overflow_add-len-in-Ends-1 c =
    let within = (len_kept _ c.in-Ends.end c.args.piece.now [] c.in-Ends.ensures).1 in omega (arith, within)

pub advance_end-requires : goal.advance_end-requires
advance_end-requires c = ends_at c.args.kind _ _ _ c.requires _ c.in-Ends.ensures (omega arith)

pub returns-in-Goes-clause-step : goal.returns-in-Goes-clause-step
returns-in-Goes-clause-step c = goes_long c.args.kind _ _ _ c.requires _ c.in-Goes.ensures (omega arith)

pub returns-in_ok-extend_from_slice-in-Goes-2-clause-step : goal.returns-in_ok-extend_from_slice-in-Goes-2-clause-step
returns-in_ok-extend_from_slice-in-Goes-2-clause-step c =
    goes_on c.args.kind _ _ _ c.requires _ _ c.in-Goes.ensures (omega arith) c.in_ok-extend_from_slice-in-Goes-2.ensures.items

pub returns-in-Ends-clause-step : goal.returns-in-Ends-clause-step
returns-in-Ends-clause-step c = ends_late c.args.kind _ _ _ c.requires _ c.in-Ends.ensures (omega arith)
