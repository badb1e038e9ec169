-- A gateway that handles its next request makes of the world that stands for a past the one that stands for the past with its block.
use Rattle.std.proofs.Common.{◌≡◌, ℕ, ◌+◌, false, List, [], ◌∷◌, ◌++◌, map, Option, Some, None, Ok, refl, sym, ◌∙◌, ap, subst}
use Rattle.std.specs.Prelude.{find}
use Rattle.std.specs.Option.{option_map}
use Rattle.std.specs.Str.{bytes_eq}
use Rattle.ikeless_tree.specs.declared.command.Peer.{Peer}
use Rattle.ikeless_tree.specs.declared.order.Answer.{Answer}
use Rattle.ikeless_tree.specs.declared.order.Lane.TheVariants as lanes
use Rattle.ikeless_tree.specs.declared.order.Order.{Order}
use Rattle.ikeless_tree.specs.declared.sad.SadEntry.{SadEntry}
use Rattle.ikeless_tree.specs.declared.sad.SadRow.{SadRow}
use Rattle.ikeless_tree.specs.declared.sad.Tree.{Tree}
use Rattle.reply_table.specs.Order.{ask_of}
use Rattle.reply_table.specs.declared.ask.Change.{Change}
use Rattle.reply_table.specs.declared.ask.Change.TheVariants as changes
use Rattle.reply_table.specs.Reply as table
use Rattle.rc_http.specs.Written.{response_text}
use Rattle.rc_resource.specs.Messages.{reply_message}
use Rattle.rc_resource.specs.Replies.{reply_of}
use Rattle.hist_acts.specs.declared.act.Act.{Act}
use Rattle.hist_acts.specs.declared.act.Act.TheVariants as acts
use Rattle.hist_acts.specs.declared.event.Header.{Header}
use Rattle.hist_acts.specs.Past.{after, clock, force}
use Rattle.hist_acts.specs.Sessions.{next_request}
use Rattle.hist_halves.specs.Halves.{live}
use Rattle.hist_gateway.specs.Handle.{requests}
use Rattle.hist_gateway.specs.Machine.{row_from}
use Rattle.hist_gateway.specs.Rows as rows
use Rattle.hist_gateway.specs.State.{half_of, state_of}
use Rattle.hist_gateway.proofs.KeepsLemmas.{same-refl}
use Rattle.hist_gateway.proofs.MachineBlocks.{row-is}
use Rattle.hist_safety.proofs.Basics.{if-new}
use Rattle.session_pipe.specs.Sessions.{KeepsSessions}
use Rattle.session_pipe.specs.UnderWay.{UnderWay, after_push, after_take}
use Rattle.hist_sessions.specs.Pipes.{piped}
use Rattle.hist_sessions.proofs.Pipes.{pipe-follows}
use Rattle.hist_world.specs.Block.{gateway_at, handles_at, with_peer}
use Rattle.hist_wire.specs.Wire.{line_at, pipe_at, request_at, response_at, response_to}
use Rattle.gw_tables.specs.Kept.{Kept}
use Rattle.gw_tables.specs.Kept as tables
use Rattle.gw_requests.specs.declared.act.GwAct.{GwAct}
use Rattle.gw_requests.specs.declared.act.GwAct.TheVariants as done
use Rattle.gw_requests.specs.Requests.{Outcome, acts_of_change}
use Rattle.gw_core.specs.Machine.{Event, Handle}
use Rattle.gw_law.specs.Told.{kept_of}
use Rattle.gw_history.specs.Told.{answer_of, told}
use Rattle.ctl_core.specs.Core.{Core}
use Rattle.world_steps.specs.Nodes.{Node, acts_told, after_request, all_piped, all_sent, naming, outcome}
use Rattle.world_steps.specs.Worlds.{node_at}
use Rattle.world_steps.specs.Steps.{did, down_at}
use Rattle.world_law.specs.Stands.{node_of, sent}
use Rattle.world_law.proofs.Frames.{find-node, found-name, node_with, nodes-away, standing}
use Rattle.world_law.proofs.Blocks.{Law, block-is, clock-told, of-told, sent-told, taken-told}
use Rattle.world_law.proofs.Turns.{IsFound, LeaveOthers, Ready, moved}

-- ---- the databases

rows-are : (g : List ℕ) (h : List Act) (es : List SadEntry) → map (row_from (clock h)) (map (half_of g h) es) ≡ map (rows.row_of g h) es
rows-are g h [] = refl
rows-are g h (e ∷ es) = let r = row-is g h e in let ih = rows-are g h es in cc

abbrev with_rows : List ℕ → List Act → List SadRow → Tree
with_rows g h rows = record { spd = force g h; sad = rows }

pub tree-is : (g : List ℕ) (h : List Act) → tables.tree_of (kept_of (state_of g h)) ≡ rows.tree_of g h
tree-is g h = ap (with_rows g h) (rows-are g h (live g h))

-- ---- what goes up

-- the change and the reply of a request
abbrev pub replied : table.Outcome → Change → List GwAct
replied r c = acts_of_change r.tree.spd c ++ done.Reply (reply_of r) ∷ []

-- the gateway after them, where what is kept is this
abbrev replied_node : Header → List Act → Peer → ℕ → List GwAct → Kept → Node
replied_node header h p now xs kept =
    record (node_with kept (all_piped now xs (after_take lanes.Down
    (pipe_at p.name p.address h))) header h p) { handled = requests p.name h + 1 }

-- the handled request, after this past: the response goes up
record Up (header : Header) (p : Peer) (k : List Act) (s n : ℕ) (r : table.Outcome) (u : UnderWay) : Type 0 where
  pub pipe : piped (request_at p.address) (response_at p.name) line_at p.name k (acts.Handled p.name s n (answer_of (reply_of r)) ∷ []) u
      ≡ after_push lanes.Up (response_text (reply_message (reply_of r))) (after_take lanes.Down u)
  pub counts : (kept : Kept) (pipe : UnderWay)
      → record (node_with kept pipe header k p) { handled = requests p.name k + 1 }
      ≡ node_with kept pipe header (acts.Handled p.name s n (answer_of (reply_of r)) ∷ k) p

goes-up : (header : Header) (p : Peer) (k : List Act) (s n : ℕ) (r : table.Outcome) (u : UnderWay) (a : Answer) → a ≡ answer_of (reply_of r)
    → response_at p.name k a ≡ response_text (reply_message (reply_of r)) → Up header p k s n r u
goes-up header p k s n r u a same text =
    let own = same-refl p.name in
    let b : Answer = answer_of (reply_of r) in
    record {
      pipe =
          if-new (bytes_eq p.name p.name) (after_push lanes.Up (response_at p.name k b) (after_take lanes.Down u)) u own
          ∙ ap (λ z. after_push lanes.Up z (after_take lanes.Down u)) (ap (response_at p.name k) (sym same) ∙ text);
      counts = λ kept pipe. rw own refl;
    }

-- what is known of the request that is handled: the past before its change ends with the number of its event
record IsRequest (p : Peer) (m : ℕ) (k : List Act) (o : Order) (r : table.Outcome) : Type 0 where
  pub next : next_request p.name (acts.Took m ∷ k) ≡ Some o
  pub reply : r ≡ table.reply (rows.tree_of p.name (acts.Took m ∷ k)) (ask_of o)

text-of : (o : Order) (r q : table.Outcome) → r ≡ q
    → response_text (reply_message (reply_of q)) ≡ response_text (reply_message (reply_of r))
text-of o r q e = ap (λ z. response_text (reply_message (reply_of z))) (sym e)

-- the pipe after a request with this change, and the counts
record Leaves (header : Header) (p : Peer) (h : List Act) (xs : List GwAct) : Type 0 where
  pub pipe : (now : ℕ) (u : UnderWay)
      → piped (request_at p.address) (response_at p.name) line_at p.name h (map (told (naming (node_of header h p))) xs) u
      ≡ all_piped now xs (after_take lanes.Down u)
  pub counts : (kept : Kept) (pipe : UnderWay)
      → record (node_with kept pipe header h p) { handled = requests p.name h + 1 }
      ≡ node_with kept pipe header (after h (map (told (naming (node_of header h p))) xs)) p

leaves : (header : Header) (p : Peer) (m : ℕ) (k : List Act) (o : Order) (r : table.Outcome) (c : Change) → IsRequest p m k o r
    → Leaves header p (acts.Took m ∷ k) (replied r c)
leaves header p m k o r changes.Nothing is =
    let h : List Act = acts.Took m ∷ k in
    let n = naming (node_of header h p) in
    let a : Answer = answer_of (reply_of r) in
    let text = ap (response_to p.name h) is.next ∙ text-of o r (table.reply (rows.tree_of p.name h) (ask_of o)) is.reply in
    record {
      pipe = λ now u. (goes-up header p h n.session (n.requests + 1) r u a refl text).pipe;
      counts = λ kept pipe. (goes-up header p h n.session (n.requests + 1) r pipe a refl text).counts kept pipe;
    }
leaves header p m k o r changes.Spd is =
    let h : List Act = acts.Took m ∷ k in
    let n = naming (node_of header h p) in
    let a : Answer = answer_of (reply_of r) in
    let j : List Act = acts.Policy p.name r.tree.spd ∷ h in
    let text = ap (response_to p.name j) is.next ∙ text-of o r (table.reply (rows.tree_of p.name h) (ask_of o)) is.reply in
    record {
      pipe = λ now u. (goes-up header p j n.session (n.requests + 1) r u a refl text).pipe;
      counts = λ kept pipe. (goes-up header p j n.session (n.requests + 1) r pipe a refl text).counts kept pipe;
    }
leaves header p m k o r (changes.Put e) is =
    let h : List Act = acts.Took m ∷ k in
    let n = naming (node_of header h p) in
    let a : Answer = answer_of (reply_of r) in
    let j : List Act = acts.Put p.name e ∷ h in
    let text = ap (response_to p.name j) is.next ∙ text-of o r (table.reply (rows.tree_of p.name h) (ask_of o)) is.reply in
    record {
      pipe = λ now u. (goes-up header p j n.session (n.requests + 1) r u a refl text).pipe;
      counts = λ kept pipe. (goes-up header p j n.session (n.requests + 1) r pipe a refl text).counts kept pipe;
    }
leaves header p m k o r (changes.Gone x) is =
    let h : List Act = acts.Took m ∷ k in
    let n = naming (node_of header h p) in
    let a : Answer = answer_of (reply_of r) in
    let j : List Act = told n (done.Gone x false) ∷ h in
    let text = ap (response_to p.name j) is.next ∙ text-of o r (table.reply (rows.tree_of p.name h) (ask_of o)) is.reply in
    record {
      pipe = λ now u. (goes-up header p j n.session (n.requests + 1) r u a refl text).pipe;
      counts = λ kept pipe. (goes-up header p j n.session (n.requests + 1) r pipe a refl text).counts kept pipe;
    }

-- ---- the gateway after its request

handled-node : (header : Header) (p : Peer) (h : List Act) (xs : List GwAct) (now : ℕ) (kept : Kept) → Leaves header p h xs
    → KeepsSessions (after h (map (told (naming (node_of header h p))) xs))
    → kept ≡ kept_of (state_of p.name (after h (map (told (naming (node_of header h p))) xs)))
    → replied_node header h p now xs kept ≡ node_of header (after h (map (told (naming (node_of header h p))) xs)) p
handled-node header p h xs now kept is keeps same =
    let k : List Act = after h (map (told (naming (node_of header h p))) xs) in
    let u : UnderWay = pipe_at p.name p.address h in
    let pipe : all_piped now xs (after_take lanes.Down u) ≡ pipe_at p.name p.address k =
    sym (is.pipe now u)
    ∙ pipe-follows (request_at p.address) (response_at p.name) line_at p.name h (map (told (naming (node_of header h p))) xs) keeps in
    ap (λ z. replied_node header h p now xs z) same
    ∙ (ap (λ z. record (node_with (kept_of (state_of p.name k)) z header h p) { handled = requests p.name h + 1 }) pipe
    ∙ is.counts (kept_of (state_of p.name k)) (pipe_at p.name p.address k))

-- ---- the whole

abbrev pub DownTurn : Header → List Act → Core → List ℕ → Order → Option Peer → Type 0
DownTurn header h core g o q =
    KeepsSessions (after h (handles_at h (with_peer header g q) (Some o)))
    → down_at (Some o) (standing header h core) (option_map (node_of header h) q)
    ≡ did (handles_at h (with_peer header g q) (Some o)) (standing header (after h (handles_at h (with_peer header g q) (Some o))) core)

down-some : Law → (header : Header) (m : ℕ) (k : List Act) (core : Core) (o : Order) (p : Peer) → Ready header (acts.Took m ∷ k)
    → IsFound header p.name p
    → next_request p.name (acts.Took m ∷ k) ≡ Some o → DownTurn header (acts.Took m ∷ k) core p.name o (Some p)
down-some law header m k core o p ready found next keeps =
    let h : List Act = acts.Took m ∷ k in
    let n : Node = node_of header h p in
    let e : Event = Handle (Ok (ask_of o)) in
    let r : table.Outcome = table.reply (tables.tree_of n.kept) (ask_of o) in
    let out : Outcome = outcome n e in
    let xs : List Act = acts_told n out.acts in
    let b = block-is law header h p e (ready.order p.name) (ready.named p) in
    let is : IsRequest p m k o r = record { next = next; reply = ap (λ t. table.reply t (ask_of o)) (tree-is p.name h) } in
    let kept : out.kept ≡ kept_of (state_of p.name (after h xs)) = b.kept ∙ ap (λ z. kept_of (state_of p.name (after h z))) (sym b.acts) in
    let later : KeepsSessions (after h xs) = subst (λ z. KeepsSessions (after h z)) (sym b.acts) keeps in
    let same : after_request o n ≡ node_of header (after h xs) p =
    handled-node header p h (replied r r.change) out.kept.clock out.kept (leaves header p m k o r r.change is) later kept in
    let others : LeaveOthers header h xs p = λ q away. nodes-away header xs h q (of-told (naming n) out.acts q.name away) in
    ap (did xs) (moved header h xs core p (after_request o n) (sent h ++ all_sent out.acts) ready.apart found same others
    (sym (sent-told (naming n) out.acts h)) (sym (clock-told (naming n) out.acts h)) (sym (taken-told (naming n) out.acts h)))
    ∙ ap (λ zs. did zs (standing header (after h zs) core)) b.acts

down-case : Law → (header : Header) (m : ℕ) (k : List Act) (core : Core) (g : List ℕ) (o : Order) (q : Option Peer)
    → Ready header (acts.Took m ∷ k)
    → find (λ p. bytes_eq p.name g) header.gateways ≡ q → next_request g (acts.Took m ∷ k) ≡ Some o
    → DownTurn header (acts.Took m ∷ k) core g o q
down-case law header m k core g o None ready e next keeps = refl
down-case law header m k core g o (Some p) ready e next keeps =
    subst (λ z. IsFound header z p → next_request z (acts.Took m ∷ k) ≡ Some o → DownTurn header (acts.Took m ∷ k) core z o (Some p))
    (found-name g p header.gateways e)
    (λ found first later. down-some law header m k core o p ready found first later) e next keeps

pub down-turn : Law → (header : Header) (m : ℕ) (k : List Act) (core : Core) (g : List ℕ) (o : Option Order)
    → Ready header (acts.Took m ∷ k)
    → next_request g (acts.Took m ∷ k) ≡ o → KeepsSessions (after (acts.Took m ∷ k) (handles_at (acts.Took m ∷ k) (gateway_at header g) o))
    → down_at o (standing header (acts.Took m ∷ k) core) (node_at g (standing header (acts.Took m ∷ k) core))
    ≡ did (handles_at (acts.Took m ∷ k) (gateway_at header g) o)
    (standing header (after (acts.Took m ∷ k) (handles_at (acts.Took m ∷ k) (gateway_at header g) o)) core)
down-turn law header m k core g None ready next keeps = refl
down-turn law header m k core g (Some o) ready next keeps =
    ap (down_at (Some o) (standing header (acts.Took m ∷ k) core)) (find-node header (acts.Took m ∷ k) g header.gateways)
    ∙ down-case law header m k core g o (find (λ p. bytes_eq p.name g) header.gateways) ready refl next keeps
