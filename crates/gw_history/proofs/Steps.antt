-- What a gateway does, told as acts, is what the law of a gateway over what it keeps does.
use Rattle.std.proofs.Common.{◌≡◌, ℕ, List, [], ◌∷◌, ◌++◌, map, Option, Some, None, Ok, Err, refl, append_assoc, ap, ◌∙◌}
use Rattle.ikeless_tree.specs.declared.order.Notice.{Notice}
use Rattle.reply_table.specs.declared.ask.Change.{Change}
use Rattle.reply_table.specs.declared.ask.Change.TheVariants as changes
use Rattle.reply_table.specs.Reply as table
use Rattle.rc_resource.specs.Replies.{reply_of}
use Rattle.hist_acts.specs.declared.act.Act.TheVariants as acts
use Rattle.hist_gateway.specs.Look.{given_by}
use Rattle.hist_gateway.specs.Handle.{change_acts}
use Rattle.gw_tables.specs.Kept.{Kept, tree_of}
use Rattle.gw_packets.specs.declared.done.Config.{Config}
use Rattle.gw_packets.specs.declared.done.Done.{Done}
use Rattle.gw_packets.specs.declared.done.PacketAnswer.{PacketAnswer}
use Rattle.gw_packets.specs.declared.done.PacketAnswer.TheVariants as answers
use Rattle.gw_packets.specs.Outbound.{let_in}
use Rattle.gw_packets.specs.Inbound.{arrive}
use Rattle.gw_packets.specs.Looks.{clock_read}
use Rattle.gw_requests.specs.declared.act.GwAct.{GwAct}
use Rattle.gw_requests.specs.declared.act.GwAct.TheVariants as done
use Rattle.gw_requests.specs.Requests.{acts_of_change}
use Rattle.gw_core.specs.Machine.{Event, Let, Arrive, Clock, Handle, Session_taken, act_of_gone, act_of_notice, acts_of_answer, acts_of_done, stepped}
use Rattle.gw_law.specs.Told.{Naming, acts_told, ends_told, if_answered}
use Rattle.gw_law.specs.Steps.{Step, behind, step_of}
use Rattle.gw_law.specs.Steps as law
use Rattle.gw_law.specs.Orderly as orderly
use Rattle.gw_history.specs.Told.{AreTunnelEvents, event_of, gateway_of, naming_after, run_of, step_told, told}

told-more : (n : Naming) (xs ys : List GwAct) → map (told n) (xs ++ ys) ≡ map (told n) xs ++ map (told n) ys
told-more n [] ys = refl
told-more n (x ∷ xs) ys = ap (λ zs. told n x ∷ zs) (told-more n xs ys)

answer-told : (n : Naming) (a : Option PacketAnswer) → map (told n) (acts_of_answer a) ≡ if_answered n.name a
answer-told n None = refl
answer-told n (Some (answers.Clear o)) = refl
answer-told n (Some (answers.Sent x m o)) = refl
answer-told n (Some (answers.Drop w)) = refl
answer-told n (Some (answers.Gave x m o)) = refl
answer-told n (Some (answers.Pass o)) = refl

ends-told : (n : Naming) (names : List (List ℕ)) → map (told n) (map act_of_gone names) ≡ ends_told n.name names
ends-told n [] = refl
ends-told n (x ∷ xs) = ap (λ zs. told n (act_of_gone x) ∷ zs) (ends-told n xs)

notices-told : (n : Naming) (ns : List Notice) → map (told n) (map act_of_notice ns) ≡ given_by n.name n.session ns
notices-told n [] = refl
notices-told n (x ∷ xs) = ap (λ zs. told n (act_of_notice x) ∷ zs) (notices-told n xs)

done-told : (n : Naming) (d : Done) → map (told n) (acts_of_done d) ≡ acts_told n d
done-told n d =
    let ends : List GwAct = map act_of_gone d.gone in
    let notices : List GwAct = map act_of_notice d.notices in
    ap (map (told n)) (append_assoc (acts_of_answer d.answer) ends notices)
    ∙ (told-more n (acts_of_answer d.answer) (ends ++ notices)
    ∙ (ap (λ zs. zs ++ map (told n) (ends ++ notices)) (answer-told n d.answer)
    ∙ ap (λ zs. if_answered n.name d.answer ++ zs)
    (told-more n ends notices
    ∙ (ap (λ zs. zs ++ map (told n) notices) (ends-told n d.gone) ∙ ap (λ zs. ends_told n.name d.gone ++ zs) (notices-told n d.notices)))))

change-told : (n : Naming) (r : table.Outcome) (c : Change) → map (told n) (acts_of_change r.tree.spd c) ≡ change_acts n.name r c
change-told n r changes.Nothing = refl
change-told n r changes.Spd = refl
change-told n r (changes.Put e) = refl
change-told n r (changes.Gone name) = refl

-- ---- one step

pub record IsTold (c : Config) (n : Naming) (k : Kept) (e : Event) (step : Step) : Type 0 where
  pub acts : step_told n e (stepped c e k) ≡ step.acts
  pub kept : (stepped c e k).kept ≡ step.kept
  pub naming : naming_after n e ≡ step.naming

pub step-told : (g : List ℕ) (c : Config) (n : Naming) (k : Kept) (e : Event) → IsTold c n k e (step_of (gateway_of g c) n k (event_of e))
step-told g c n k (Let o) = record {
  acts = ap (λ zs. acts.Let n.name o ∷ zs) (done-told n (let_in c.seq_last o k).done);
  kept = refl;
  naming = refl;
}
step-told g c n k (Arrive o) = record {
  acts = ap (λ zs. acts.Arrived n.name o ∷ zs) (done-told n (arrive c.address o k).done);
  kept = refl;
  naming = refl;
}
step-told g c n k (Clock t) = record {
  acts = ap (λ zs. acts.Now (clock_read t k).kept.clock ∷ zs) (done-told n (clock_read t k).done);
  kept = refl;
  naming = refl;
}
step-told g c n k (Handle (Ok ask)) =
    let r : table.Outcome = table.reply (tree_of k) ask in
    let last : List GwAct = done.Reply (reply_of r) ∷ [] in
    record {
      acts = told-more n (acts_of_change r.tree.spd r.change) last ∙ ap (λ zs. zs ++ map (told n) last) (change-told n r r.change);
      kept = refl;
      naming = refl;
    }
step-told g c n k (Handle (Err e)) = record { acts = refl; kept = refl; naming = refl }
step-told g c n k Session_taken = record { acts = refl; kept = refl; naming = refl }

-- ---- steps, one after another

run-step : (g : List ℕ) (c : Config) (n : Naming) (k : Kept) (e : Event) (es : List Event) (step : Step) → IsTold c n k e step →
    ((m : Naming) (j : Kept) → run_of c m j es ≡ law.run_of (gateway_of g c) m j (map event_of es)) →
    run_of c n k (e ∷ es) ≡ behind step.acts (law.run_of (gateway_of g c) step.naming step.kept (map event_of es))
run-step g c n k e es step told ih =
    ap (λ xs. behind xs (run_of c (naming_after n e) (stepped c e k).kept es)) told.acts
    ∙ ap (behind step.acts)
    (ih (naming_after n e) (stepped c e k).kept
    ∙ (ap (λ m. law.run_of (gateway_of g c) m (stepped c e k).kept (map event_of es)) told.naming
    ∙ ap (λ j. law.run_of (gateway_of g c) step.naming j (map event_of es)) told.kept))

pub run-told : (g : List ℕ) (c : Config) (es : List Event) (n : Naming) (k : Kept) → run_of c n k es ≡ law.run_of (gateway_of g c) n k
    (map event_of es)
run-told g c [] n k = refl
run-told g c (e ∷ es) n k = run-step g c n k e es (step_of (gateway_of g c) n k (event_of e)) (step-told g c n k e) (run-told g c es)

pub tunnels : (es : List Event) → AreTunnelEvents es → orderly.AreTunnelEvents (map event_of es)
tunnels [] p = tt
tunnels (e ∷ es) p = (p.0, tunnels es p.1)
