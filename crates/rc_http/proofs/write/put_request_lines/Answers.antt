use Rattle.rc_http.proofs.WriteLemmas.{put_sent, nonempty}
use Rattle.rc_http.proofs.write.put_request_lines.Goals as goal

pub returns : goal.returns
returns c =
    put_sent c.args.m.now.fields c.args.m.now.body _ _ _ _ (nonempty _ _ _ c.as_slice.ensures c.is_empty.ensures c.if-is_empty.false)
    c.in_ok-put_line.ensures c.in_ok-put_line-2.ensures c.in_ok-put_line-3.ensures
