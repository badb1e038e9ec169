-- What answers a request has lines.
use Rattle.std.proofs.Common.{◌≡◌, ℕ, ◌+◌, ◌<◌, ◌^◌, ◌&&◌, Bool, true, false, List, [], ◌∷◌, ◌++◌, map, arith, if◌then◌else◌}
use Rattle.std.specs.List.{AllByRecursion, list_any}
use Rattle.std.proofs.lemmas.List.Elements.{All-from_recursion, All-nil}
use Rattle.ikeless_tree.specs.Check.{is_sad_name}
use Rattle.ikeless_tree.specs.Half.{is_inbound}
use Rattle.ikeless_tree.specs.declared.command.Peer.{Peer}
use Rattle.ikeless_tree.specs.declared.order.Order.{Order}
use Rattle.ikeless_tree.specs.declared.order.Order.TheVariants as orders
use Rattle.ikeless_tree.specs.declared.sad.SadEntry.{SadEntry}
use Rattle.ikeless_tree.specs.declared.sad.Tree.{Tree}
use Rattle.line_words.specs.Spelling.{IsHalfName, IsKnown}
use Rattle.reply_table.specs.Order.{ask_of}
use Rattle.reply_table.specs.Reply.{Outcome, At_half, absent, delete_sad, done, exists, full, has_spi, is_row, is_sad_full, made, new_row, post_sad, reply, row_names, spi_taken, with_sad, without_row}
use Rattle.reply_table.specs.declared.ask.Change.{Change}
use Rattle.reply_table.specs.declared.ask.Change.TheVariants as changes
use Rattle.hist_acts.specs.declared.act.Act.{Act}
use Rattle.hist_acts.specs.declared.act.Act.TheVariants as acts
use Rattle.hist_acts.specs.Sessions.{session_taken}
use Rattle.hist_halves.specs.Halves.{live}
use Rattle.hist_gateway.specs.Handle.{answer_of, change_acts, reply_acts, requests}
use Rattle.hist_gateway.specs.Rows.{row_of, tree_of}
use Rattle.script_lines.specs.Spelling.{AreHalfNames}
use Rattle.acts_spell.proofs.Found.{AreSpelled, IsGoodHalf, IsGoodOrder, live-good, session-small}
use Rattle.acts_spell.proofs.Notices.{half-named}

-- where this is answered
record Asked (gs : List Peer) (g : List ℕ) (s k : ℕ) : Type 0 where
  pub known : IsKnown gs g
  pub session : s < 2 ^ 32
  pub number : k < 2 ^ 64

-- a change that has a line
abbrev pub IsGoodChange : List Peer → List ℕ → Outcome → Change → Type 0
IsGoodChange gs g r c = AreSpelled gs (change_acts g r c)

-- an outcome whose acts have lines
pub record IsGoodOutcome (gs : List Peer) (g : List ℕ) (r : Outcome) : Type 0 where
  pub change : IsGoodChange gs g r r.change
  pub names : AreHalfNames r.names
  pub status : r.status < 2 ^ 16

no-names : AreHalfNames []
no-names = All-nil IsHalfName

row-names : (g : List ℕ) (h : List Act) (es : List SadEntry) → AllByRecursion IsGoodHalf es
    → AllByRecursion IsHalfName (row_names (map (row_of g h) es))
row-names g h [] s = tt
row-names g h (e ∷ es) s = (half-named e s.0.0, row-names g h es s.1)

either-good : (gs : List Peer) (g : List ℕ) (b : Bool) (x y : Outcome) → IsGoodOutcome gs g x → IsGoodOutcome gs g y
    → IsGoodOutcome gs g (if b then x else y)
either-good gs g true x y p q = p
either-good gs g false x y p q = q

put-good : (gs : List Peer) (g : List ℕ) (t : Tree) (e : SadEntry) → IsKnown gs g → IsGoodHalf e → IsGoodOutcome gs g (post_sad t e)
put-good gs g t e k h =
    let a : IsGoodOutcome gs g (exists t) = record { change = tt; names = no-names; status = omega arith } in
    let b : IsGoodOutcome gs g (spi_taken t) = record { change = tt; names = no-names; status = omega arith } in
    let c : IsGoodOutcome gs g (full t) = record { change = tt; names = no-names; status = omega arith } in
    let d : IsGoodOutcome gs g (made (At_half e.name) (changes.Put e) (with_sad t (t.sad ++ new_row e ∷ []))) =
    record { change = (((k, h.0), h.1), tt); names = no-names; status = omega arith } in
    either-good gs g (list_any (is_row e.name) t.sad) (exists t) _ a
    (either-good gs g (is_inbound e.name && has_spi e.spi t.sad) (spi_taken t) _ b (either-good gs g (is_sad_full t.sad) (full t) _ c d))

gone-good : (gs : List Peer) (g : List ℕ) (t : Tree) (x : List ℕ) → IsKnown gs g → is_sad_name x ≡ true
    → IsGoodOutcome gs g (delete_sad t x)
gone-good gs g t x k n =
    let a : IsGoodOutcome gs g (done (changes.Gone x) (with_sad t (without_row x t.sad))) =
    record { change = (((k, n), tt), tt); names = no-names; status = omega arith } in
    let b : IsGoodOutcome gs g (absent t) = record { change = tt; names = no-names; status = omega arith } in
    either-good gs g (list_any (is_row x) t.sad) _ (absent t) a b

pub outcome-good : (gs : List Peer) (g : List ℕ) (h : List Act) (o : Order) → IsKnown gs g → AreSpelled gs h → IsGoodOrder o
    → IsGoodOutcome gs g (reply (tree_of g h) (ask_of o))
unfolding reply
outcome-good gs g h orders.Read k s o =
    record { change = tt; names = All-from_recursion IsHalfName _ (row-names g h (live g h) (live-good gs g h s)); status = omega arith }
outcome-good gs g h (orders.Policy list) k s o = record { change = (((k, o.0), o.1), tt); names = no-names; status = omega arith }
outcome-good gs g h (orders.Put e) k s o = put-good gs g (tree_of g h) e k o
outcome-good gs g h (orders.Remove x) k s o = gone-good gs g (tree_of g h) x k o.0

answered : (gs : List Peer) (g : List ℕ) (s k : ℕ) (r : Outcome) → Asked gs g s k → IsGoodOutcome gs g r → (c : Change)
    → IsGoodChange gs g r c
    → AreSpelled gs (change_acts g r c ++ acts.Handled g s k (answer_of r) ∷ [])
answered gs g s k r a o changes.Nothing c = (((a.known, o.names), (a.session, a.number, o.status)), tt)
answered gs g s k r a o changes.Spd c = (c.0, (((a.known, o.names), (a.session, a.number, o.status)), tt))
answered gs g s k r a o (changes.Put e) c = (c.0, (((a.known, o.names), (a.session, a.number, o.status)), tt))
answered gs g s k r a o (changes.Gone x) c = (c.0, (((a.known, o.names), (a.session, a.number, o.status)), tt))

pub request-spelled : (gs : List Peer) (g : List ℕ) (h : List Act) (o : Order) → IsKnown gs g → AreSpelled gs h → IsGoodOrder o
    → requests g h + 1 < 2 ^ 64
    → AreSpelled gs (reply_acts g (session_taken g h) (requests g h + 1) (reply (tree_of g h) (ask_of o)))
request-spelled gs g h o k s good few =
    let r : Outcome = reply (tree_of g h) (ask_of o) in
    let fits = outcome-good gs g h o k s good in
    answered gs g (session_taken g h) (requests g h + 1) r
    (record { known = k; session = session-small gs g h s; number = few }) fits r.change fits.change
