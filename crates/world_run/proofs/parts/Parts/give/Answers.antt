use Rattle.std.proofs.Common.{◌≡◌, ◌+◌, ◌^◌, ◌<◌, [], ◌∷◌, ◌++◌, length, sym, ap, subst, ◌∙◌, append_assoc, arith, length-append}
use Rattle.std.specs.List.{All}
use Rattle.std.specs.Vec.Iter.{into_iter_items}
use Rattle.ctl_core.specs.declared.acts.CtlAct.{CtlAct}
use Rattle.world_steps.specs.Worlds.{World}
use Rattle.world_steps.specs.Steps.{giving}
use Rattle.world_steps.specs.Conditions.{AreNamed, IsGiven}
use Rattle.world_run.proofs.Giving.{IsKept, all-middle, giving-more, one-kept}
use Rattle.world_run.proofs.Shapes.{alike-trans, given-alike, named-alike}
use Rattle.world_run.proofs.parts.Parts.give.Goals as goal

pub give_act-requires-clause-given : goal.give_act-requires-clause-given
give_act-requires-clause-given c =
    let whole : c.loop-act.yielded ++ c.in-Some.act ∷ into_iter_items c.next.new.self ≡ c.args.given =
    ap (λ z. c.loop-act.yielded ++ z) (sym c.in-Some.ensures.steps.0) ∙ c.loop-act.invariant.rest
    in
    let all : All (IsGiven c.args.self.now.nodes) (c.loop-act.yielded ++ c.in-Some.act ∷ into_iter_items c.next.new.self) =
    subst (λ z. All (IsGiven c.args.self.now.nodes) z) (sym whole) c.requires.given
    in
    given-alike c.args.self.now.nodes c.loop-act.self.nodes c.in-Some.act c.loop-act.invariant.alike
    (all-middle (IsGiven c.args.self.now.nodes) c.loop-act.yielded (into_iter_items c.next.new.self) c.in-Some.act all)

pub give_act-requires-clause-named : goal.give_act-requires-clause-named
give_act-requires-clause-named c = named-alike c.loop-act.self c.args.self.now c.loop-act.invariant.back c.requires.named

pub loop-act-preserved : goal.loop-act-preserved
loop-act-preserved c =
    let x : CtlAct = c.in-Some.act in
    let whole : c.loop-act.yielded ++ c.in-Some.act ∷ into_iter_items c.next.new.self ≡ c.args.given =
    ap (λ z. c.loop-act.yielded ++ z) (sym c.in-Some.ensures.steps.0) ∙ c.loop-act.invariant.rest
    in
    let all : All (IsGiven c.args.self.now.nodes) (c.loop-act.yielded ++ c.in-Some.act ∷ into_iter_items c.next.new.self) =
    subst (λ z. All (IsGiven c.args.self.now.nodes) z) (sym whole) c.requires.given
    in
    let given : IsGiven c.loop-act.self.nodes c.in-Some.act =
    given-alike c.args.self.now.nodes c.loop-act.self.nodes c.in-Some.act c.loop-act.invariant.alike
    (all-middle (IsGiven c.args.self.now.nodes) c.loop-act.yielded (into_iter_items c.next.new.self) c.in-Some.act all)
    in
    let named : AreNamed c.loop-act.self = named-alike c.loop-act.self c.args.self.now c.loop-act.invariant.back c.requires.named in
    let more = giving-more c.loop-act.yielded c.in-Some.act c.args.self.now in
    let world : c.give_act.new.self ≡ (giving (c.in-Some.act ∷ []) c.loop-act.self).world = c.in_ok-give_act.ensures.world in
    let kept : IsKept (2 ^ 62 + length c.loop-act.yielded) c.loop-act.self c.give_act.new.self =
    subst (λ (z : World). IsKept (2 ^ 62 + length c.loop-act.yielded) c.loop-act.self z) (sym world)
    (one-kept (2 ^ 62 + length c.loop-act.yielded) c.in-Some.act c.loop-act.self named given c.loop-act.invariant.few)
    in
    let count : 2 ^ 62 + length c.loop-act.yielded + 1 ≡ 2 ^ 62 + length (c.loop-act.yielded ++ c.in-Some.act ∷ []) = omega
    (arith, length-append c.loop-act.yielded (c.in-Some.act ∷ [])) in
    record {
      rest = append_assoc c.loop-act.yielded (c.in-Some.act ∷ []) (into_iter_items c.next.new.self) ∙ whole;
      world = world ∙ ap (λ (z : World). (giving (c.in-Some.act ∷ []) z).world) c.loop-act.invariant.world ∙ sym more.world;
      acts = c.in_ok-give_act.ensures.acts ∙ ap (λ z. z ++ (giving (c.in-Some.act ∷ []) c.loop-act.self).acts) c.loop-act.invariant.acts
          ∙ append_assoc c.args.acts.now (giving c.loop-act.yielded c.args.self.now).acts (giving (c.in-Some.act ∷ []) c.loop-act.self).acts
          ∙ ap (λ z. c.args.acts.now ++ z)
          (ap (λ (z : World). (giving c.loop-act.yielded c.args.self.now).acts ++ (giving (c.in-Some.act ∷ []) z).acts)
          c.loop-act.invariant.world ∙ sym more.acts);
      alike = alike-trans c.args.self.now.nodes c.loop-act.self.nodes c.give_act.new.self.nodes c.loop-act.invariant.alike kept.alike;
      back = alike-trans c.give_act.new.self.nodes c.loop-act.self.nodes c.args.self.now.nodes kept.back c.loop-act.invariant.back;
      few = subst (λ z. All (λ n. n.orders < z) c.give_act.new.self.nodes) count kept.few;
    }
