use Rattle.std.proofs.Common.{◌≡◌, ◌+◌, ◌++◌, ◌∷◌, [], length, refl, sym, ap, ◌∙◌, subst, arith}
use Rattle.std.proofs.lemmas.Grind.{common_steps}
use Rattle.std.proofs.lemmas.List.{nil_from_length}
use Rattle.ikeless_cli.specs.Reader.{Fits, State, kept}
use Rattle.ikeless_cli.proofs.Ends.{ends-no_memory, overflows-line}
use Rattle.ikeless_cli.proofs.Going.{fits-less, reads-octets, takes-on}
use Rattle.ikeless_cli.proofs.reader.Reader.end_line.Goals as goal

pub returns-in-Err-clause-takes : goal.returns-in-Err-clause-takes
returns-in-Err-clause-takes g c = overflows-line c.in-Err.status c.args.self.now c.args.octets.now _ _ c.requires refl c.in-Err.ensures.err

pub returns-then-is_empty-clause-takes : goal.returns-then-is_empty-clause-takes
returns-then-is_empty-clause-takes g c =
    let s : State = c.args.self.now in
    let size = ap (λ (x : State). length x.line) c.self.view_is in
    let none : s.line ≡ [] = nil_from_length s.line (grind (arith, common_steps, size)) in
    let goes = reads-octets s c.args.octets.now c.args.octets.now _ (sym (ap (λ x. x ++ c.args.octets.now) none)) c.requires
    (fits-less s (length c.args.octets.now) c.in-Ok.ensures.ok) in
    takes-on c.take_whole.result s (kept s.running c.args.octets.now s.whole) c.take_whole.new.self _ _ _ c.args.octets.now (10 ∷ []) _ refl
    goes c.take_whole.ensures.takes

pub returns-in-Ok-extend_from_slice-clause-takes : goal.returns-in-Ok-extend_from_slice-clause-takes
returns-in-Ok-extend_from_slice-clause-takes g c =
    let s : State = kept c.self.inside.running c.self.inside.line.items c.self.inside.whole in
    let fits = subst (λ (x : State). Fits x (length c.args.octets.now + 1)) (sym c.self.view_is) c.in-Ok.ensures.ok in
    let line : c.as_slice.result.now ≡ c.self.inside.line.items ++ c.args.octets.now =
    c.as_slice.ensures.value ∙ (c.in-Ok-extend_from_slice.ensures.items ∙
    (let same : c.replace-line.result.items ≡ c.self.inside.line.items = rw c.replace-line.ensures.value refl in ap
    (λ x. x ++ c.args.octets.now) same)) in
    let goes = reads-octets s c.args.octets.now c.as_slice.result.now _ line c.requires (fits-less s (length c.args.octets.now) fits) in
    rw (← c.self.view_is) (takes-on c.take_whole-in-Ok-extend_from_slice.result s (kept s.running c.as_slice.result.now s.whole)
    c.take_whole-in-Ok-extend_from_slice.new.self _ _ _ c.args.octets.now (10 ∷ []) _ refl goes
    c.take_whole-in-Ok-extend_from_slice.ensures.takes)

pub returns-clause-takes : goal.returns-clause-takes
returns-clause-takes g c = (ends-no_memory c.args.self.now (c.args.octets.now ++ 10 ∷ []) _, refl)
