use Rattle.rc_http.proofs.WriteLemmas.{put_type, nonempty}
use Rattle.rc_http.proofs.write.put_type_line.Goals as goal

pub returns : goal.returns
returns c = put_type c.args.m.now.fields c.args.m.now.body _ _ (nonempty _ _ _ c.as_slice.ensures c.is_empty.ensures c.if-is_empty.false)
    c.in_ok-put_line.ensures
