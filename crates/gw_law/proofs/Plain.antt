-- What holds of each act of a step: of those that put nothing into the databases at once, and of a change where it holds of that.
use Rattle.std.proofs.Common.{ℕ, ◌+◌, not, ◌&&◌, Bool, true, false, find, List, [], ◌∷◌, ◌++◌, All, Option, Some, None, Ok, Err, if◌then◌else◌}
use Rattle.std.proofs.lemmas.List.Elements.{All-append, All-cons, All-nil}
use Rattle.std.specs.List.{list_any}
use Rattle.ikeless_tree.specs.declared.order.Answer.{Answer}
use Rattle.ikeless_tree.specs.declared.order.Notice.{Notice}
use Rattle.ikeless_tree.specs.declared.drops.DropWhy.{DropWhy}
use Rattle.ikeless_tree.specs.declared.ends.GoneWhy.{GoneWhy}
use Rattle.ikeless_tree.specs.declared.ends.GoneWhy.TheVariants as gone
use Rattle.ikeless_tree.specs.declared.entry.SpdEntry.{SpdEntry}
use Rattle.ikeless_tree.specs.declared.sad.SadRow.{SadRow}
use Rattle.ikeless_tree.specs.declared.sad.Tree.{Tree}
use Rattle.ikeless_tree.specs.Check.{is_named}
use Rattle.ikeless_tree.specs.Half.{is_inbound}
use Rattle.reply_table.specs.declared.ask.Ask.{Ask}
use Rattle.reply_table.specs.declared.ask.Ask.TheVariants as asks
use Rattle.reply_table.specs.declared.ask.Change.{Change}
use Rattle.reply_table.specs.declared.ask.Change.TheVariants as changes
use Rattle.reply_table.specs.Reply as table
use Rattle.hist_acts.specs.declared.act.Act.{Act}
use Rattle.hist_acts.specs.declared.act.Act.TheVariants as acts
use Rattle.hist_gateway.specs.Look.{given_by}
use Rattle.hist_gateway.specs.Handle.{answer_of, change_acts, fault_answer}
use Rattle.hist_gateway.specs.Block.{Gateway, GatewayEvent, Let, Arrive, Clock, Handle, Session_taken}
use Rattle.gw_tables.specs.Kept.{Kept, tree_of}
use Rattle.gw_packets.specs.declared.done.PacketAnswer.{PacketAnswer}
use Rattle.gw_packets.specs.declared.done.PacketAnswer.TheVariants as answers
use Rattle.gw_packets.specs.declared.done.Done.{Done}
use Rattle.gw_packets.specs.Outbound.{let_in}
use Rattle.gw_packets.specs.Inbound.{arrive}
use Rattle.gw_packets.specs.Looks.{clock_read}
use Rattle.gw_law.specs.Told.{Naming, acts_told, ends_told, if_answered}
use Rattle.gw_law.specs.Steps.{step_of}
use Rattle.gw_law.specs.Orderly.{AsksTunnel, InstallsTunnel, IsTunnelEvent}

-- it holds of each act that puts nothing into the databases
pub record IsPlain (Q : Act → Type 0) : Type 0 where
  pub let_in : (g o : List ℕ) → Q (acts.Let g o)
  pub arrived : (g o : List ℕ) → Q (acts.Arrived g o)
  pub read : (t : ℕ) → Q (acts.Now t)
  pub clear : (g o : List ℕ) → Q (acts.Clear g o)
  pub sent : (g x : List ℕ) (n : ℕ) (o : List ℕ) → Q (acts.Sent g x n o)
  pub dropped : (g : List ℕ) (w : DropWhy) → Q (acts.Drop g w)
  pub gave : (g x : List ℕ) (n : ℕ) (o : List ℕ) → Q (acts.Gave g x n o)
  pub passed : (g o : List ℕ) → Q (acts.Pass g o)
  pub ended : (g x : List ℕ) (w : GoneWhy) → Q (acts.Gone g x w)
  pub noticed : (g : List ℕ) (s : ℕ) (n : Notice) → Q (acts.Notice g s n)
  pub opened : (g : List ℕ) (s : ℕ) → Q (acts.Opened g s)
  pub handled : (g : List ℕ) (s k : ℕ) (a : Answer) → Q (acts.Handled g s k a)

-- it holds of what the event changes
abbrev pub HoldsOfChange : (Act → Type 0) → Naming → Kept → GatewayEvent → Type 0
HoldsOfChange Q n k (Handle (Ok ask)) = All Q (change_acts n.name (table.reply (tree_of k) ask) (table.reply (tree_of k) ask).change)
HoldsOfChange Q n k _ = Unit {0}

answers-all : (Q : Act → Type 0) → IsPlain Q → (g : List ℕ) (a : Option PacketAnswer) → All Q (if_answered g a)
answers-all Q p g None = All-nil Q
answers-all Q p g (Some (answers.Clear o)) = All-cons Q (acts.Clear g o) [] (p.clear g o) (All-nil Q)
answers-all Q p g (Some (answers.Sent x n o)) = All-cons Q (acts.Sent g x n o) [] (p.sent g x n o) (All-nil Q)
answers-all Q p g (Some (answers.Drop w)) = All-cons Q (acts.Drop g w) [] (p.dropped g w) (All-nil Q)
answers-all Q p g (Some (answers.Gave x n o)) = All-cons Q (acts.Gave g x n o) [] (p.gave g x n o) (All-nil Q)
answers-all Q p g (Some (answers.Pass o)) = All-cons Q (acts.Pass g o) [] (p.passed g o) (All-nil Q)

ends-all : (Q : Act → Type 0) → IsPlain Q → (g : List ℕ) (names : List (List ℕ)) → All Q (ends_told g names)
ends-all Q p g [] = All-nil Q
ends-all Q p g (x ∷ xs) = All-cons Q (acts.Gone g x gone.Hard) (ends_told g xs) (p.ended g x gone.Hard) (ends-all Q p g xs)

notices-all : (Q : Act → Type 0) → IsPlain Q → (g : List ℕ) (s : ℕ) (ns : List Notice) → All Q (given_by g s ns)
notices-all Q p g s [] = All-nil Q
notices-all Q p g s (n ∷ ns) = All-cons Q (acts.Notice g s n) (given_by g s ns) (p.noticed g s n) (notices-all Q p g s ns)

done-all : (Q : Act → Type 0) → IsPlain Q → (n : Naming) (d : Done) → All Q (acts_told n d)
done-all Q p n d =
    All-append Q (if_answered n.name d.answer) (ends_told n.name d.gone ++ given_by n.name n.session d.notices)
    (answers-all Q p n.name d.answer)
    (All-append Q (ends_told n.name d.gone) (given_by n.name n.session d.notices) (ends-all Q p n.name d.gone)
    (notices-all Q p n.name n.session d.notices))

-- it holds of each act of a step
pub step-all : (Q : Act → Type 0) → IsPlain Q → (c : Gateway) (n : Naming) (k : Kept) (e : GatewayEvent) → HoldsOfChange Q n k e
    → All Q (step_of c n k e).acts
step-all Q p c n k (Let o) h = All-cons Q (acts.Let n.name o) (acts_told n (let_in c.seq_last o k).done) (p.let_in n.name o)
    (done-all Q p n (let_in c.seq_last o k).done)
step-all Q p c n k (Arrive o) h = All-cons Q (acts.Arrived n.name o) (acts_told n (arrive c.address o k).done) (p.arrived n.name o)
    (done-all Q p n (arrive c.address o k).done)
step-all Q p c n k (Clock t) h =
    All-cons Q (acts.Now (clock_read t k).kept.clock) (acts_told n (clock_read t k).done) (p.read (clock_read t k).kept.clock)
    (done-all Q p n (clock_read t k).done)
step-all Q p c n k (Handle (Ok ask)) h =
    let r : table.Outcome = table.reply (tree_of k) ask in
    let last : Act = acts.Handled n.name n.session (n.requests + 1) (answer_of r) in
    All-append Q (change_acts n.name r r.change) (last ∷ []) h
    (All-cons Q last [] (p.handled n.name n.session (n.requests + 1) (answer_of r)) (All-nil Q))
step-all Q p c n k (Handle (Err fault)) h =
    All-cons Q (acts.Handled n.name n.session (n.requests + 1) (fault_answer fault)) []
    (p.handled n.name n.session (n.requests + 1) (fault_answer fault)) (All-nil Q)
step-all Q p c n k Session_taken h = All-cons Q (acts.Opened n.name (n.openings + 1)) [] (p.opened n.name (n.openings + 1)) (All-nil Q)

-- ---- halves between addresses of one family

-- a change that puts a half puts one with its tunnel
abbrev PutsTunnel : Change → Type 0
PutsTunnel (changes.Put e) = InstallsTunnel (acts.Put [] e)
PutsTunnel _ = Unit {0}

one : (a : Act) → InstallsTunnel a → All InstallsTunnel (a ∷ [])
one a p = All-cons InstallsTunnel a [] p (All-nil InstallsTunnel)

change-installs : (g : List ℕ) (r : table.Outcome) (c : Change) → PutsTunnel c → All InstallsTunnel (change_acts g r c)
change-installs g r changes.Nothing p = All-nil InstallsTunnel
change-installs g r changes.Spd p = one (acts.Policy g r.tree.spd) tt
change-installs g r (changes.Put e) p = one (acts.Put g e) p
change-installs g r (changes.Gone name) p = one (acts.Gone g name gone.Removed) tt

puts-if : (b : Bool) (x y : table.Outcome) → PutsTunnel x.change → PutsTunnel y.change → PutsTunnel (if b then x else y).change
puts-if true x y p q = p
puts-if false x y p q = q

shows-policy : (t : Tree) (found : Option SpdEntry) → PutsTunnel (table.show_policy t found).change
shows-policy t None = tt
shows-policy t (Some e) = tt

shows-half : (t : Tree) (found : Option SadRow) → PutsTunnel (table.show_half t found).change
shows-half t None = tt
shows-half t (Some r) = tt

puts-ask : (t : Tree) (ask : Ask) → AsksTunnel ask → PutsTunnel (table.reply t ask).change
unfolding table.reply
puts-ask t asks.GetSpd p = tt
puts-ask t (asks.PutSpd list) p = tt
puts-ask t (asks.PostSpd e place) p =
    puts-if (table.has_policy e.name t.spd) _ _ tt
    (puts-if (table.is_spd_full t.spd) _ _ tt (puts-if (not (table.has_point place t.spd)) _ _ tt tt))
puts-ask t (asks.GetSpdEntry name) p = shows-policy t (find (is_named name) t.spd)
puts-ask t (asks.PutSpdEntry e) p = puts-if (table.has_policy e.name t.spd) _ _ tt (puts-if (table.is_spd_full t.spd) _ _ tt tt)
puts-ask t (asks.DeleteSpdEntry name) p = puts-if (table.has_policy name t.spd) _ _ tt tt
puts-ask t asks.GetSad p = tt
puts-ask t (asks.PostSad e) p =
    puts-if (list_any (table.is_row e.name) t.sad) _ _ tt
    (puts-if (is_inbound e.name && table.has_spi e.spi t.sad) _ _ tt (puts-if (table.is_sad_full t.sad) _ _ tt p))
puts-ask t (asks.GetSadEntry name) p = shows-half t (find (table.is_row name) t.sad)
puts-ask t (asks.DeleteSad name) p = puts-if (list_any (table.is_row name) t.sad) _ _ tt tt

installs-plain : IsPlain InstallsTunnel
installs-plain = record {
  let_in = λ g o. tt;
  arrived = λ g o. tt;
  read = λ t. tt;
  clear = λ g o. tt;
  sent = λ g x n o. tt;
  dropped = λ g w. tt;
  gave = λ g x n o. tt;
  passed = λ g o. tt;
  ended = λ g x w. tt;
  noticed = λ g s n. tt;
  opened = λ g s. tt;
  handled = λ g s k a. tt;
}

change-by : (n : Naming) (k : Kept) (e : GatewayEvent) → IsTunnelEvent e → HoldsOfChange InstallsTunnel n k e
change-by n k (Let o) p = tt
change-by n k (Arrive o) p = tt
change-by n k (Clock t) p = tt
change-by n k (Handle (Ok ask)) p =
    let r : table.Outcome = table.reply (tree_of k) ask in
    change-installs n.name r r.change (puts-ask (tree_of k) ask p)
change-by n k (Handle (Err fault)) p = tt
change-by n k Session_taken p = tt

pub step-installs : (c : Gateway) (n : Naming) (k : Kept) (e : GatewayEvent) → IsTunnelEvent e → All InstallsTunnel (step_of c n k e).acts
step-installs c n k e p = step-all InstallsTunnel installs-plain c n k e (change-by n k e p)
