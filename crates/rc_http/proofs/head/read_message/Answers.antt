use Rattle.std.proofs.Common.{◌∙◌}
use Rattle.rc_http.specs.Parts.{head_at}
use Rattle.rc_http.proofs.FieldLemmas.{valid_fields, same_message}
use Rattle.rc_http.proofs.head.read_message.Goals as goal

pub fields_of-requires-clause-fields : goal.fields_of-requires-clause-fields
fields_of-requires-clause-fields c =
    valid_fields c.args.kind c.args.head.now (head_at c.args.head.now c.parts_of.new.room c.in-Some.parts) c.in-Some.ensures.some.reads

pub returns : goal.returns
returns c = (
  head_at c.args.head.now c.parts_of.new.room c.in-Some.parts,
  c.in-Some.ensures.some.reads,
  same_message (head_at c.args.head.now c.parts_of.new.room c.in-Some.parts) _ _ _ _ _
      (c.in_ok-from_slice.ensures ∙ c.of.ensures) (c.in_ok-from_slice-2.ensures ∙ c.of-2.ensures)
      c.in_ok-fields_of.ensures c.in_ok-from_slice-3.ensures,
)
