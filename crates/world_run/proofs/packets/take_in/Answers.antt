use Rattle.std.proofs.Common.{◌≡◌, false, sym, ap, ◌∙◌}
use Rattle.hist_acts.specs.declared.act.Act.TheVariants as acts
use Rattle.gw_core.specs.Machine.{Arrive}
use Rattle.world_steps.specs.Nodes.{Node, outcome}
use Rattle.world_nodes.specs.Told.{acted}
use Rattle.world_run.specs.Packets.{is_forged_in}
use Rattle.world_run.specs.Taken.{go_of}
use Rattle.world_run.proofs.Telling.{genuine-is, node-behind, sent-behind, told-behind}
use Rattle.world_run.proofs.packets.take_in.Goals as goal

pub returns : goal.returns
returns c =
    let n : Node = c.args.node.now in
    let node = c.in_ok-done.ensures.node ∙ ap (λ z. acted (Arrive z) c.args.node.now) c.as_slice.ensures in
    let done = c.in_ok-done.ensures.acts ∙ ap (λ z. (outcome c.args.node.now (Arrive z)).acts) c.as_slice.ensures in
    let genuine : is_forged_in c.args.octets c.args.node.now c.args.sent.now ≡ false = genuine-is c.args.octets c.as_slice-2.result.now
    c.args.node.now c.args.sent.now c.in_ok-done.done c.is_forged-forged.result done c.as_slice-2.ensures c.is_forged-forged.ensures
    c.if-forged.false in
    record {
      go = sym (ap go_of genuine);
      forged = λ h. absurd (cc);
      acts = λ _. told-behind c.args.node.now c.act.new.self
          (Arrive c.args.octets) c.in_ok-done.done c.args.acts.now c.push.new.self c.tell.new.acts
          (acts.Arrived c.args.g c.args.octets) node done c.in_ok-push.ensures.ok c.in_ok-tell.ensures.acts;
      node = λ _. node-behind c.args.node.now c.act.new.self c.tell.new.self
          (Arrive c.args.octets) c.in_ok-done.done node done c.in_ok-tell.ensures.node;
      sent = λ _. sent-behind c.args.node.now
          (Arrive c.args.octets) c.in_ok-done.done c.args.sent.now c.tell.new.sent done c.in_ok-tell.ensures.sent;
    }
