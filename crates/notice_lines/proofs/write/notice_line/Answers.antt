use Rattle.std.proofs.Common.{◌≤◌, arith}
use Rattle.serde_json.specs.Data.{depth}
use Rattle.notice_lines.specs.Envelope.{notice_data}
use Rattle.notice_lines.proofs.FlatNotice.{flat_notice}
use Rattle.notice_lines.proofs.write.notice_line.Goals as goal

pub written-requires-clause-plain : goal.written-requires-clause-plain
written-requires-clause-plain c = rw c.in_ok-value.ensures (flat_notice c.args.n.now c.stamp-stamp.result).plain

pub written-requires-clause-shallow : goal.written-requires-clause-shallow
written-requires-clause-shallow c =
    let deep : depth (notice_data c.args.n.now c.stamp-stamp.result) ≤ 6 = (flat_notice c.args.n.now c.stamp-stamp.result).shallow in
    rw c.in_ok-value.ensures (omega arith)
