use Rattle.std.proofs.Common.{arith, ◌∙◌, sym}
use Rattle.rc_http.proofs.ValueLemmas.{len_unknown, announced_chunked, announced_none, announced_one, announced_more}
use Rattle.rc_http.proofs.head.announced.Goals as goal

pub returns-then-version-ne1 : goal.returns-then-version-ne1
returns-then-version-ne1 c = sym (len_unknown _ _ _ c.if-version-ne1.true)

pub returns-then-encodings-gt0 : goal.returns-then-encodings-gt0
returns-then-encodings-gt0 c =
    announced_chunked _ _ _ _ (omega arith) c.values-encodings.ensures.count c.if-encodings-gt0.true

pub returns-in-0 : goal.returns-in-0
returns-in-0 c =
    announced_none _ _ _ _ _ (omega arith) c.values-encodings.ensures.count c.values-lengths.ensures.count
    c.if-encodings-gt0.false c.in-0.is

pub returns-in-1 : goal.returns-in-1
returns-in-1 c = c.stated.ensures
    ∙ announced_one _ _ _ _ _ (omega arith) c.values-encodings.ensures.count c.values-lengths.ensures.count
    c.if-encodings-gt0.false _ (c.values-lengths.ensures.lone c.in-1.is)

pub returns-in_default : goal.returns-in_default
returns-in_default c =
    announced_more _ _ _ _ _ (omega arith) c.values-encodings.ensures.count c.values-lengths.ensures.count
    c.if-encodings-gt0.false (omega arith)
