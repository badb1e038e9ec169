use Rattle.std.proofs.Common.{◌≡◌, sym, ◌∙◌, ap, subst}
use Rattle.std.proofs.lemmas.Result.{on_ok_weaker}
use Rattle.ikeless_tree.specs.Typed.{IsTypedTree}
use Rattle.ikeless_tree.specs.declared.sad.Tree.{Tree}
use Rattle.reply_table.specs.declared.ask.Change.{Change}
use Rattle.reply_table.specs.Reply.{reply}
use Rattle.rc_resource.specs.Lists.{IsTree}
use Rattle.rc_resource.specs.declared.reply.Reply.{Reply}
use Rattle.gw_tables.specs.Kept.{tree_of}
use Rattle.gw_requests.specs.Requests.{CanTell, MayChange}
use Rattle.gw_requests.proofs.Changes.{is-tree, may-change}
use Rattle.gw_requests.proofs.request.answer.Goals as goal

pub apply-requires : goal.apply-requires
apply-requires c = subst IsTree (sym c.in_ok-tree.ensures.tree) (is-tree c.args.tables.now c.in_ok-tree.ensures.sound)

pub commit-requires : goal.commit-requires
commit-requires c =
    let made : c.in_ok-tree.tree ≡ tree_of c.args.tables.now = c.in_ok-tree.ensures.tree in
    let left : c.apply.new.tree ≡ (reply (tree_of c.args.tables.now) c.args.ask.now).tree =
    c.in_ok-reply.ensures.tree ∙ ap (λ t. (reply t c.args.ask.now).tree) made in
    let change : c.in_ok-reply.reply.change ≡ (reply (tree_of c.args.tables.now) c.args.ask.now).change =
    ap (λ (r : Reply). r.change) c.in_ok-reply.ensures.reply ∙ ap (λ t. (reply t c.args.ask.now).change) made in
    let sound : IsTree (reply (tree_of c.args.tables.now) c.args.ask.now).tree = subst IsTree left (c.apply.ensures.rules c.requires) in
    let may = may-change c.changes_fit.ensures.before c.changes_fit.ensures.after c.args.tables.now c.args.ask.now sound in
    subst (λ (ch : Change). MayChange c.apply.new.tree.spd ch c.args.tables.now) (sym change)
    (subst (λ (t : Tree). MayChange t.spd (reply (tree_of c.args.tables.now) c.args.ask.now).change c.args.tables.now) (sym left) may)

pub returns-clause-tree : goal.returns-clause-tree
returns-clause-tree c =
    let typed : IsTypedTree c.in_ok-tree.tree = record { spd = c.policies_fit.ensures; sad = c.rows_fit.ensures } in
    let can : CanTell (tree_of c.args.tables.now) = record {
      sound = is-tree c.args.tables.now c.in_ok-tree.ensures.sound;
      typed = subst IsTypedTree c.in_ok-tree.ensures.tree typed;
    } in
    on_ok_weaker c.commit.result (λ done. can) c.commit.ensures.acts
