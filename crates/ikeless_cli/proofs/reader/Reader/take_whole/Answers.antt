use Rattle.std.proofs.Common.{ap, arith, ◌∙◌}
use Rattle.ikeless_cli.specs.Reader.{State}
use Rattle.ikeless_cli.proofs.Going.{goes-to}
use Rattle.ikeless_cli.proofs.reader.Reader.take_whole.Goals as goal

pub returns-in-Ok-clause-takes : goal.returns-in-Ok-clause-takes
returns-in-Ok-clause-takes g c =
    let none = ap (λ (x : State). x.line) c.self.view_is ∙ c.requires.empty in
    let whole = ap (λ (x : State). x.whole) c.self.view_is in
    rw (← c.self.view_is) (goes-to _ _ _ _ _ _ _ _ none (omega arith) (c.in-Ok.ensures.takes c.self.inside.whole c.requires.short
    (omega (arith, whole, c.requires.room))))

pub returns-in-Err-clause-takes : goal.returns-in-Err-clause-takes
returns-in-Err-clause-takes g c =
    let whole = ap (λ (x : State). x.whole) c.self.view_is in
    rw (← c.self.view_is) (c.in-Err.ensures.takes c.self.inside.whole c.requires.short (omega (arith, whole, c.requires.room)))
