-- A gateway's step can be carried out: what it tells at an event can be written, and its next request is that of its next order.
use Rattle.std.proofs.Common.{◌≡◌, ℕ, true, false, nat_lt, List, [], ◌∷◌, All, map, Ok, sym, subst}
use Rattle.std.proofs.lemmas.Bool.{and_parts}
use Rattle.std.proofs.lemmas.List.Elements.{All-cons, All-nil}
use Rattle.std.specs.List.{AllByRecursion}
use Rattle.ikeless_tree.specs.declared.command.Peer.{Peer}
use Rattle.ikeless_tree.specs.declared.order.Order.{Order}
use Rattle.reply_table.specs.Order.{ask_of}
use Rattle.reply_table.specs.declared.ask.Change.{Change}
use Rattle.reply_table.specs.declared.ask.Change.TheVariants as changes
use Rattle.reply_table.specs.Reply as table
use Rattle.rc_http.specs.Written.{IsWritableResponse}
use Rattle.rc_resource.specs.Messages.{reply_message}
use Rattle.rc_resource.specs.Replies.{reply_of}
use Rattle.hist_acts.specs.declared.act.Act.{Act}
use Rattle.hist_acts.specs.declared.act.Act.TheVariants as acts
use Rattle.hist_acts.specs.declared.event.Header.{Header}
use Rattle.hist_gateway.specs.Arrive.{arrive_acts}
use Rattle.hist_gateway.specs.Let.{let_acts}
use Rattle.hist_gateway.specs.Rows as rows
use Rattle.hist_safety.proofs.Basics.{no}
use Rattle.gw_packets.specs.Inbound as inbound
use Rattle.gw_packets.specs.Looks.{clock_read}
use Rattle.gw_packets.specs.Outbound.{let_in}
use Rattle.gw_requests.specs.declared.act.GwAct.{GwAct}
use Rattle.gw_requests.specs.declared.act.GwAct.TheVariants as done
use Rattle.gw_core.specs.Machine.{Arrive, Clock, Handle, Let}
use Rattle.gw_law.specs.Told.{Naming, kept_of}
use Rattle.gw_history.specs.Told.{told}
use Rattle.gw_tables.specs.Kept as tables
use Rattle.hist_gateway.specs.State.{state_of}
use Rattle.acts_spell.specs.Spelled.{IsSpelled}
use Rattle.world_steps.specs.Nodes.{naming, outcome}
use Rattle.world_steps.specs.Conditions.{IsWritten}
use Rattle.world_law.specs.Stands.{node_of}
use Rattle.world_law.proofs.Blocks.{tail-is, Law, are_plain, block-is, is_plain, plain-done}
use Rattle.world_law.proofs.Clocks.{looked, looks-at, read}
use Rattle.world_law.proofs.Handles.{replied, tree-is}
use Rattle.world_law.proofs.Notices.{notice-is}
use Rattle.world_law.proofs.Turns.{Ready}

-- ---- what is told can be written

one-written : (gs : List Peer) (n : Naming) (x : GwAct) → is_plain x ≡ true → IsSpelled gs (told n x) → IsWritten x
one-written gs n (done.Reply r) p e = absurd (no p)
one-written gs n (done.Notice t) p e = notice-is t e.0.1
one-written gs n _ p e = tt

all-written : (gs : List Peer) (n : Naming) (xs : List GwAct) → are_plain xs ≡ true → AllByRecursion (IsSpelled gs) (map (told n) xs)
    → All IsWritten xs
all-written gs n [] p e = All-nil IsWritten
all-written gs n (x ∷ xs) p e =
    let parts = and_parts (is_plain x) (are_plain xs) p in
    All-cons IsWritten x xs (one-written gs n x parts.0 e.0) (all-written gs n xs parts.1 e.1)

pub let-written : Law → (header : Header) (h : List Act) (p : Peer) (o : List ℕ) → Ready header h
    → AllByRecursion (IsSpelled header.gateways) (let_acts p.name header.seq_last (acts.Let p.name o ∷ h) o)
    → All IsWritten (outcome (node_of header h p) (Let o)).acts
let-written law header h p o ready spelled =
    let n : Naming = naming (node_of header h p) in
    let xs : List GwAct = (outcome (node_of header h p) (Let o)).acts in
    let ys : List Act = let_acts p.name header.seq_last (acts.Let p.name o ∷ h) o in
    let b = block-is law header h p (Let o) (ready.order p.name) (ready.named p) in
    let same : map (told n) xs ≡ ys = tail-is (acts.Let p.name o) (acts.Let p.name o) (map (told n) xs) ys b.acts in
    all-written header.gateways n xs (plain-done (let_in header.seq_last o (kept_of (state_of p.name h))).done)
    (subst (AllByRecursion (IsSpelled header.gateways)) (sym same) spelled)

pub arrive-written : Law → (header : Header) (h : List Act) (p : Peer) (o : List ℕ) → Ready header h
    → AllByRecursion (IsSpelled header.gateways) (arrive_acts p.name p.address (acts.Arrived p.name o ∷ h) o)
    → All IsWritten (outcome (node_of header h p) (Arrive o)).acts
arrive-written law header h p o ready spelled =
    let n : Naming = naming (node_of header h p) in
    let xs : List GwAct = (outcome (node_of header h p) (Arrive o)).acts in
    let ys : List Act = arrive_acts p.name p.address (acts.Arrived p.name o ∷ h) o in
    let b = block-is law header h p (Arrive o) (ready.order p.name) (ready.named p) in
    let same : map (told n) xs ≡ ys = tail-is (acts.Arrived p.name o) (acts.Arrived p.name o) (map (told n) xs) ys b.acts in
    all-written header.gateways n xs (plain-done (inbound.arrive p.address o (kept_of (state_of p.name h))).done)
    (subst (AllByRecursion (IsSpelled header.gateways)) (sym same) spelled)

pub clock-written : Law → (header : Header) (h : List Act) (p : Peer) (t : ℕ) → Ready header h
    → AllByRecursion (IsSpelled header.gateways) (looked (nat_lt (Rattle.hist_acts.specs.Past.clock h) t) p.name (read h t))
    → All IsWritten (outcome (node_of header h p) (Clock t)).acts
clock-written law header h p t ready spelled =
    let n : Naming = naming (node_of header h p) in
    let xs : List GwAct = (outcome (node_of header h p) (Clock t)).acts in
    all-written header.gateways n xs (plain-done (clock_read t (kept_of (state_of p.name h))).done)
    (subst (AllByRecursion (IsSpelled header.gateways)) (sym (looks-at law header h t p ready).acts) spelled)

-- the reply to a request goes with its change
replied-written : (r : table.Outcome) (c : Change) → IsWritableResponse (reply_message (reply_of r)) → All IsWritten (replied r c)
replied-written r changes.Nothing w = All-cons IsWritten (done.Reply (reply_of r)) [] w (All-nil IsWritten)
replied-written r changes.Spd w =
    All-cons IsWritten (done.Spd r.tree.spd) (done.Reply (reply_of r) ∷ []) tt
    (All-cons IsWritten (done.Reply (reply_of r)) [] w (All-nil IsWritten))
replied-written r (changes.Put e) w =
    All-cons IsWritten (done.Put e) (done.Reply (reply_of r) ∷ []) tt
    (All-cons IsWritten (done.Reply (reply_of r)) [] w (All-nil IsWritten))
replied-written r (changes.Gone x) w =
    All-cons IsWritten (done.Gone x false) (done.Reply (reply_of r) ∷ []) tt
    (All-cons IsWritten (done.Reply (reply_of r)) [] w (All-nil IsWritten))

pub handle-written : (header : Header) (h : List Act) (p : Peer) (o : Order)
    → IsWritableResponse (reply_message (reply_of (table.reply (rows.tree_of p.name h) (ask_of o))))
    → All IsWritten (outcome (node_of header h p) (Handle (Ok (ask_of o)))).acts
handle-written header h p o w =
    let r : table.Outcome = table.reply (tables.tree_of (kept_of (state_of p.name h))) (ask_of o) in
    replied-written r r.change (subst (λ t. IsWritableResponse (reply_message (reply_of (table.reply t (ask_of o)))))
    (sym (tree-is p.name h)) w)
