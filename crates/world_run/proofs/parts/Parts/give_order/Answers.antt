use Rattle.std.proofs.Common.{◌≡◌, ◌<◌, ◌++◌, [], ◌∷◌, length, set, Some, slice_get, refl, sym, subst, arith}
use Rattle.std.proofs.lemmas.Option.{slice_get_read}
use Rattle.ctl_core.specs.declared.acts.CtlAct.TheVariants as given
use Rattle.world_steps.specs.Nodes.{Node}
use Rattle.world_steps.specs.Worlds.{World}
use Rattle.world_steps.specs.Steps.{giving}
use Rattle.world_steps.specs.Conditions.{AreNamed}
use Rattle.world_run.specs.contracts.parts.Parts.{the_view}
use Rattle.world_run.proofs.Done.{kept_with}
use Rattle.world_run.proofs.Giving.{given-within, order-acts, order-world}
use Rattle.world_run.proofs.parts.Parts.give_order.Goals as goal

pub returns-in_ok-order-clause-world : goal.returns-in_ok-order-clause-world
returns-in_ok-order-clause-world c =
    let u : World = the_view c.self.inside in
    let x : Node = c.index_mut-node.result.now in
    let within : c.args.gateway < length u.nodes = subst (λ (z : World). c.args.gateway < length z.nodes) (sym c.self.view_is)
    (given-within c.args.self.now c.args.gateway c.args.order c.requires.given) in
    let get : slice_get u.nodes c.args.gateway ≡ Some x = slice_get_read u.nodes
    (length u.nodes) c.args.gateway x refl within c.index_mut-node.ensures.value in
    let named : AreNamed u = subst AreNamed (sym c.self.view_is) c.requires.named in
    let v : World = kept_with u (set u.nodes c.args.gateway c.order.new.self) u.sent in
    subst (λ (z : World). v ≡ (giving (given.Order c.args.gateway c.args.order ∷ []) z).world) c.self.view_is
    (order-world u v c.args.gateway x c.order.new.self c.args.order get (named c.args.gateway x get) c.in_ok-order.ensures.node refl)

pub returns-in_ok-order-clause-acts : goal.returns-in_ok-order-clause-acts
returns-in_ok-order-clause-acts c =
    let u : World = the_view c.self.inside in
    let x : Node = c.index_mut-node.result.now in
    let within : c.args.gateway < length u.nodes = subst (λ (z : World). c.args.gateway < length z.nodes) (sym c.self.view_is)
    (given-within c.args.self.now c.args.gateway c.args.order c.requires.given) in
    let get : slice_get u.nodes c.args.gateway ≡ Some x = slice_get_read u.nodes
    (length u.nodes) c.args.gateway x refl within c.index_mut-node.ensures.value in
    subst (λ (z : World). c.order.new.acts ≡ c.args.acts.now ++ (giving (given.Order c.args.gateway c.args.order ∷ []) z).acts)
    c.self.view_is
    (order-acts u c.args.gateway x c.args.order c.args.acts.now c.order.new.acts get c.in_ok-order.ensures.acts)

pub returns-else-gateway-len-clause-world : goal.returns-else-gateway-len-clause-world
returns-else-gateway-len-clause-world c =
    let u : World = the_view c.self.inside in
    let within : c.args.gateway < length u.nodes = subst (λ (z : World). c.args.gateway < length z.nodes) (sym c.self.view_is)
    (given-within c.args.self.now c.args.gateway c.args.order c.requires.given) in
    absurd (omega (arith, c.len.ensures, c.self.inside.nodes.ok.0, within))

pub returns-else-gateway-len-clause-acts : goal.returns-else-gateway-len-clause-acts
returns-else-gateway-len-clause-acts c =
    let u : World = the_view c.self.inside in
    let within : c.args.gateway < length u.nodes = subst (λ (z : World). c.args.gateway < length z.nodes) (sym c.self.view_is)
    (given-within c.args.self.now c.args.gateway c.args.order c.requires.given) in
    absurd (omega (arith, c.len.ensures, c.self.inside.nodes.ok.0, within))
