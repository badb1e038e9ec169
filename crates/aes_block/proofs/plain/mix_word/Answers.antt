use Rattle.std.proofs.Common.{arith, get_or}
use Rattle.aes_block.proofs.Computed.{times_one, times_three}
use Rattle.aes_block.proofs.plain.mix_word.Goals as goal

pub returns : goal.returns
returns c =
    let w = c.args.w in
    let a3 = times_three (get_or w 0 0) (omega arith) in
    let b3 = times_three (get_or w 1 0) (omega arith) in
    let c3 = times_three (get_or w 2 0) (omega arith) in
    let d3 = times_three (get_or w 3 0) (omega arith) in
    let a1 = times_one (get_or w 0 0) (omega arith) in
    let b1 = times_one (get_or w 1 0) (omega arith) in
    let c1 = times_one (get_or w 2 0) (omega arith) in
    let d1 = times_one (get_or w 3 0) (omega arith) in
    cc
