use Rattle.std.proofs.Common.{◌+◌, ◌-◌, [], ◌∷◌, ◌++◌, take, drop, sym, ap, ◌∙◌, append_assoc, arith}
use Rattle.ikl_base.proofs.FrontLemmas.{adds-then}
use Rattle.yang_values.specs.Addresses.{groups_text, joined}
use Rattle.yang_values.proofs.ShortenedText.{shortened_text}
use Rattle.yang_values.proofs.groups.put_groups.Goals as goal

pub returns : goal.returns
returns c =
    let groups = c.to_groups-groups.result in
    let place = c.longest-place.result.0 in
    let n = c.longest-place.result.1 in
    adds-then _ _ _ _ c.extend_from_slice.new.self.items (joined (take place groups) ++ 58 ∷ 58 ∷ [])
    (joined (take (8 - (place + n)) (drop (place + n) groups)))
    (ap groups_text (sym c.to_groups-groups.ensures)
    ∙ shortened_text groups place n (omega arith) c.longest-place.ensures.place c.longest-place.ensures.length c.if-length-lt2.false)
    (c.in_ok-extend_from_slice.ensures.items ∙ ap (λ x. x ++ 58 ∷ 58 ∷ []) c.in_ok-put_joined.ensures
    ∙ append_assoc c.args.out.now.items (joined (take place groups)) (58 ∷ 58 ∷ []))
    c.put_joined-3.ensures
