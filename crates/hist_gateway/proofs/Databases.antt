-- The databases after a request are those of its reply.
use Rattle.std.proofs.Common.{◌≡◌, ℕ, ◌+◌, ◌-◌, Bool, true, false, List, [], ◌∷◌, ◌++◌, map, Ok, refl, sym, ◌∙◌, ap, arith, if◌then◌else◌}
use Rattle.std.proofs.lemmas.Bool.{or_parts}
use Rattle.std.specs.Str.{bytes_eq}
use Rattle.ikeless_tree.specs.declared.sad.SadEntry.{SadEntry}
use Rattle.ikeless_tree.specs.declared.sad.SadRow.{SadRow}
use Rattle.ikeless_tree.specs.declared.sad.Tree.{Tree}
use Rattle.ikeless_tree.specs.declared.ends.GoneWhy.TheVariants as gone
use Rattle.ikeless_tree.specs.Half.{is_inbound}
use Rattle.reply_table.specs.declared.ask.Ask.{Ask}
use Rattle.reply_table.specs.declared.ask.Change.{Change}
use Rattle.reply_table.specs.declared.ask.Change.TheVariants as changes
use Rattle.reply_table.specs.Reply as table
use Rattle.life_count.specs.Lifetime.{cut_32}
use Rattle.sad_store.specs.Halves.{fresh}
use Rattle.hist_acts.specs.declared.act.Act.{Act}
use Rattle.hist_acts.specs.declared.act.Act.TheVariants as acts
use Rattle.hist_acts.specs.Past.{after, clock}
use Rattle.hist_acts.specs.Sessions as sessions
use Rattle.hist_halves.specs.Halves.{live, without}
use Rattle.hist_gateway.specs.Rows.{row_of, tree_of}
use Rattle.hist_gateway.specs.Handle.{answer_of, change_acts, requests}
use Rattle.hist_gateway.specs.Block.{Gateway, Handle, gw_block}
use Rattle.hist_gateway.specs.May.{has_half}
use Rattle.hist_gateway.specs.Machine.{row_from}
use Rattle.hist_gateway.proofs.KeepsLemmas.{same-refl, put-half, put-fresh, no-half}
use Rattle.hist_gateway.proofs.MachineBlocks.{row-is}
use Rattle.hist_gateway.proofs.MayAct.{AllFit, any-map}
use Rattle.hist_gateway.proofs.KeptSteps.{after-append}

-- what a reply's change makes of the databases
abbrev pub AllMake : Type 0
AllMake = (t : Tree) (a : Ask) → table.Makes t (table.reply t a) (table.reply t a).change

no-time : (now : ℕ) → cut_32 (now - now) ≡ 0
no-time now = grind arith

same-top : (b : Bool) (n : ℕ) → (if b then n else n) ≡ n
same-top true n = refl
same-top false n = refl

abbrev row-made : SadEntry → ℕ → ℕ → SadRow
row-made e time top = record {
  entry = e;
  state = record {
    current = record { time = time; bytes = 0; packets = 0; idle = time };
    top =
        top;
  };
}

row-fresh : (now : ℕ) (e : SadEntry) → row_from now (fresh now e) ≡ table.new_row e
row-fresh now e =
    ap (λ t. row-made e t (if is_inbound e.name then 0 else 0)) (no-time now)
    ∙ ap (λ top. row-made e 0 top) (same-top (is_inbound e.name) 0)

rows-put : (g : List ℕ) (x : SadEntry) (h : List Act) (es : List SadEntry) → has_half x.name es ≡ false →
    map (row_of g (acts.Put g x ∷ h)) (es ++ x ∷ []) ≡ map (row_of g h) es ++ table.new_row x ∷ []
rows-put g x h [] new =
    let r = row-is g (acts.Put g x ∷ h) x in
    let f = put-fresh g g x h (same-refl g) in
    ap (λ z. z ∷ []) (sym r ∙ (ap (λ z. row_from (clock h) z) f ∙ row-fresh (clock h) x))
rows-put g x h (e ∷ es) new =
    let parts = or_parts (bytes_eq e.name x.name) (has_half x.name es) new in
    let p = put-half g g x h e (no-half g g x e parts.0) in
    let same : row_of g (acts.Put g x ∷ h) e ≡ row_of g h e = sym (row-is g (acts.Put g x ∷ h) e)
    ∙ (ap (λ z. row_from (clock h) z) p ∙ row-is g h e) in
    ap (λ z. z ∷ map (row_of g (acts.Put g x ∷ h)) (es ++ x ∷ [])) same ∙ ap (λ z. row_of g h e ∷ z) (rows-put g x h es parts.1)

rows-step : (g x : List ℕ) (h : List Act) (e : SadEntry) (es : List SadEntry) (b : Bool) → bytes_eq e.name x ≡ b →
    map (row_of g (acts.Gone g x gone.Removed ∷ h)) (without x es) ≡ table.without_row x (map (row_of g h) es) →
    map (row_of g (acts.Gone g x gone.Removed ∷ h)) (without x (e ∷ es)) ≡ table.without_row x (map (row_of g h) (e ∷ es))
rows-step g x h e es true own ih = rw own ih
rows-step g x h e es false own ih = rw own (ap (λ z. row_of g h e ∷ z) ih)

rows-gone : (g x : List ℕ) (h : List Act) (es : List SadEntry) →
    map (row_of g (acts.Gone g x gone.Removed ∷ h)) (without x es) ≡ table.without_row x (map (row_of g h) es)
rows-gone g x h [] = refl
rows-gone g x h (e ∷ es) = rows-step g x h e es (bytes_eq e.name x) refl (rows-gone g x h es)

tree-change : (g : List ℕ) (h : List Act) (r : table.Outcome) (c : Change) → table.Fits (tree_of g h) c → table.Makes (tree_of g h) r c →
    tree_of g (after h (change_acts g r c)) ≡ r.tree
tree-change g h r changes.Nothing fits makes = sym makes.1
tree-change g h r changes.Spd fits makes = rw (same-refl g) (sym makes.1)
tree-change g h r (changes.Put e) fits makes =
    let name = any-map (table.is_row e.name) (row_of g h) (live g h) in
    let rows = rows-put g e h (live g h) (sym name ∙ fits.0) in
    rw (same-refl g) (ap (λ z. table.with_sad (tree_of g h) z) rows ∙ sym makes.1)
tree-change g h r (changes.Gone name) fits makes =
    rw (same-refl g) (ap (λ z. table.with_sad (tree_of g h) z) (rows-gone g name h (live g h)) ∙ sym makes.1)

pub tree-after : AllFit → AllMake → (c : Gateway) (h : List Act) (ask : Ask) →
    tree_of c.name (after h (gw_block c h (Handle (Ok ask)))) ≡ (table.reply (tree_of c.name h) ask).tree
tree-after fits makes c h ask =
    let r : table.Outcome = table.reply (tree_of c.name h) ask in
    let last : List Act = acts.Handled c.name (sessions.session_taken c.name h) (requests c.name h + 1) (answer_of r) ∷ [] in
    ap (tree_of c.name) (after-append h (change_acts c.name r r.change) last)
    ∙ tree-change c.name h r r.change (fits (tree_of c.name h) ask) (makes (tree_of c.name h) ask)
