use Rattle.std.proofs.Common.{arith, ap, sym, length, ◌∙◌, ◌∷◌, []}
use Rattle.httparse.specs.Spans.{header_bytes}
use Rattle.rc_http.proofs.ValueLemmas.{values_named, values_other, named_by, count_more, lone_more}
use Rattle.rc_http.proofs.values.values.Goals as goal
use Rattle.rc_http.proofs.values.values.Goals.{then-is_named, else-is_named}

pub loop-span-preserved : goal.loop-span-preserved
loop-span-preserved c = elim c.if-is_named.branch [
  | then-is_named w ↦
      let more = values_named (header_bytes c.args.head.now) c.args.name.now c.args.spans.now c.loop-span.span-index _ c.loop-span-test.true
      (named_by _ _ _ _ _ c.of.ensures c.is_named.ensures w.if-is_named.true) in
      let last = ap (λ b. b.now) w.last-is ∙ w.of-last.ensures in
      record {
        few = omega arith;
        count = count_more _ _ _ _ _ more c.loop-span.invariant.count w.count-is;
        lone = λ one. lone_more _ _ _ _ _ more c.loop-span.invariant.count w.count-is one ∙ ap (λ v. v ∷ []) (sym last);
      }
  | else-is_named w ↦
      let same = values_other (header_bytes c.args.head.now) c.args.name.now c.args.spans.now c.loop-span.span-index _ c.loop-span-test.true
      (named_by _ _ _ _ _ c.of.ensures c.is_named.ensures w.if-is_named.false) in
      record {
        few = omega arith;
        count = w.count-is ∙ c.loop-span.invariant.count ∙ ap length (sym same);
        lone = λ one. same ∙ c.loop-span.invariant.lone (sym w.count-is ∙ one) ∙ ap (λ b. b.now ∷ []) (sym w.last-is);
      }
]
