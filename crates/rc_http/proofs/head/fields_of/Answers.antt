use Rattle.httparse.specs.Spans.{header_bytes}
use Rattle.rc_http.proofs.FieldLemmas.{valid_at, name_fits, name_valid, value_valid}
use Rattle.rc_http.proofs.head.fields_of.Goals as goal

pub add_field-requires-clause-name : goal.add_field-requires-clause-name
add_field-requires-clause-name c =
    let within = c.requires.within c.loop-span.span-index _ c.loop-span-test.true in
    name_valid _ _ c.of.ensures
    (valid_at (header_bytes c.args.head.now) c.args.spans.now c.loop-span.span-index _ c.loop-span-test.true c.requires.fields)
    (name_fits _ _ _ _ c.of.ensures within.0.0 within.0.1 c.requires.short)

pub add_field-requires-clause-value : goal.add_field-requires-clause-value
add_field-requires-clause-value c =
    value_valid _ _ c.of-in-loop-span.ensures
    (valid_at (header_bytes c.args.head.now) c.args.spans.now c.loop-span.span-index _ c.loop-span-test.true c.requires.fields)
