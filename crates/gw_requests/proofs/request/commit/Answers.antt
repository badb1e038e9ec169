use Rattle.std.proofs.Common.{◌≡◌, ◌++◌, ◌∷◌, [], List, OnOk, sym, ◌∙◌, ap, subst}
use Rattle.reply_table.specs.declared.ask.Change.{Change}
use Rattle.reply_table.specs.declared.ask.Change.TheVariants as changes
use Rattle.gw_requests.specs.Requests.{acts_of_change}
use Rattle.gw_requests.specs.declared.act.GwAct.{GwAct}
use Rattle.gw_requests.specs.declared.act.GwAct.TheVariants as done
use Rattle.gw_requests.proofs.request.commit.Goals as goal

-- the copy of the change is the change
pub returns-in-Put-clause-acts : goal.returns-in-Put-clause-acts
returns-in-Put-clause-acts c =
    let same : c.args.reply.change ≡ changes.Put c.in-Put.e = sym c.in_ok-copy_change.ensures ∙ c.in-Put.is in
    let told : acts_of_change c.args.list c.args.reply.change ++ done.Reply c.args.reply ∷ [] ≡ done.Put c.in-Put.e
    ∷ done.Reply c.args.reply ∷ [] =
    ap (λ (change : Change). acts_of_change c.args.list change ++ done.Reply c.args.reply ∷ []) same in
    subst (λ (more : List GwAct). OnOk c.install.result (c.install.new.acts ≡ c.args.acts.now ++ more)) (sym told) c.install.ensures.acts
