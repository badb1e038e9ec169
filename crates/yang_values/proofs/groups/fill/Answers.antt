use Rattle.std.proofs.Common.{arith, ap, ◌∙◌, Some, take}
use Rattle.std.proofs.lemmas.List.{length-take-le}
use Rattle.yang_values.proofs.RunLemmas.{fill_is, filled_is}
use Rattle.yang_values.proofs.groups.fill.Goals as goal

pub returns : goal.returns
returns c =
    let front = take c.args.front.now.count c.args.front.now.items in
    let back = take c.args.back.now.count c.args.back.now.items in
    let size = length-take-le c.args.front.now.count c.args.front.now.items (omega arith) in
    let size' = length-take-le c.args.back.now.count c.args.back.now.items (omega arith) in
    let room = c.if-n-m-ge8.false in
    rw (c.copy_from_slice.ensures.after, c.copy_from_slice-2.ensures.after)
    (ap Some (fill_is front back c.args.front.now.count c.args.back.now.count size room)
    ∙ filled_is front back c.args.front.now.count c.args.back.now.count size size' room)
