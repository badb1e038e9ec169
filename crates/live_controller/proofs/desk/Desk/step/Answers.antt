use Rattle.std.proofs.Common.{◌≡◌, ◌++◌, length, sym, ◌∙◌, ap, subst}
use Rattle.std.specs.Prelude.{All}
use Rattle.ctl_core.specs.Core.{Core}
use Rattle.ctl_core.specs.Step.{stepped}
use Rattle.live_controller.specs.Standing.{IsGiven, IsStanding}
use Rattle.live_controller.specs.Doings.{IsForOpen, OpensBy}
use Rattle.live_controller.proofs.Opening.{step-opens, step-ready}
use Rattle.live_controller.proofs.Ordering.{Faultless}
use Rattle.live_controller.proofs.Standing.{Follows, step-given, step-stands}
use Rattle.live_controller.proofs.desk.Desk.step.Goals as goal

pub returns-clause-desk : goal.returns-clause-desk
returns-clause-desk c =
    let laws : Follows = record {
      acts = c.steps_follow.ensures.acts;
      stands = c.steps_follow.ensures.stands;
      past = c.steps_follow.ensures.past;
      plain = c.steps_follow.ensures.plain;
    } in
    let P : Core → Type 0 = λ x. IsStanding c.args.self.now.peers x in
    record {
      standing = subst P (sym c.in_ok-step.ensures.state)
          (step-stands laws c.args.self.now.peers c.args.self.now.controller c.args.e c.requires.desk.standing c.requires.event);
      size = c.requires.desk.size;
    }

pub returns-clause-given : goal.returns-clause-given
returns-clause-given c =
    let laws : Follows = record {
      acts = c.steps_follow.ensures.acts;
      stands = c.steps_follow.ensures.stands;
      past = c.steps_follow.ensures.past;
      plain = c.steps_follow.ensures.plain;
    } in
    let faultless : Faultless = record {
      inbound = c.orders_without_fault.ensures.inbound;
      outbound = c.orders_without_fault.ensures.outbound;
      list = c.orders_without_fault.ensures.list;
      in_name = c.orders_without_fault.ensures.in_name;
      out_name = c.orders_without_fault.ensures.out_name;
    } in
    let are : c.step.new.acts ≡ (stepped c.args.self.now.controller c.args.e).acts =
    c.in_ok-step.ensures.acts ∙ ap (λ z. z ++ (stepped c.args.self.now.controller c.args.e).acts) c.new-acts.ensures in
    subst (λ z. All (IsGiven c.args.self.now.peers) z) (sym are)
    (step-given laws faultless c.args.self.now.peers c.args.self.now.controller c.args.e c.requires.desk.standing c.requires.event)

pub returns-clause-opens : goal.returns-clause-opens
returns-clause-opens c =
    let laws : Follows = record {
      acts = c.steps_follow.ensures.acts;
      stands = c.steps_follow.ensures.stands;
      past = c.steps_follow.ensures.past;
      plain = c.steps_follow.ensures.plain;
    } in
    let P : Core → Type 0 = λ x. OpensBy (length c.args.self.now.peers) c.args.e c.args.self.now.controller x in
    subst P (sym c.in_ok-step.ensures.state)
    (step-opens laws c.args.self.now.peers c.args.self.now.controller c.args.e c.requires.desk.standing c.requires.event)

pub returns-clause-ready : goal.returns-clause-ready
returns-clause-ready c =
    let laws : Follows = record {
      acts = c.steps_follow.ensures.acts;
      stands = c.steps_follow.ensures.stands;
      past = c.steps_follow.ensures.past;
      plain = c.steps_follow.ensures.plain;
    } in
    let faultless : Faultless = record {
      inbound = c.orders_without_fault.ensures.inbound;
      outbound = c.orders_without_fault.ensures.outbound;
      list = c.orders_without_fault.ensures.list;
      in_name = c.orders_without_fault.ensures.in_name;
      out_name = c.orders_without_fault.ensures.out_name;
    } in
    let are : c.step.new.acts ≡ (stepped c.args.self.now.controller c.args.e).acts =
    c.in_ok-step.ensures.acts ∙ ap (λ z. z ++ (stepped c.args.self.now.controller c.args.e).acts) c.new-acts.ensures in
    let P : Core → Type 0 = λ x. All (IsForOpen x) c.step.new.acts in
    subst P (sym c.in_ok-step.ensures.state)
    (subst (λ z. All (IsForOpen (stepped c.args.self.now.controller c.args.e).core) z) (sym are)
    (step-ready laws faultless c.args.self.now.peers c.args.self.now.controller c.args.e c.requires.desk.standing c.requires.event))
