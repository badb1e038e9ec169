-- What a request and a session make of what is kept is what the law of a gateway makes of it.
use Rattle.std.proofs.Common.{◌≡◌, ℕ, ◌+◌, ◌-◌, Bool, true, false, List, [], ◌∷◌, ◌++◌, map, refl, sym, ap, ◌∙◌, arith, if◌then◌else◌}
use Rattle.std.specs.Str.{bytes_eq}
use Rattle.ikeless_tree.specs.declared.sad.SadEntry.{SadEntry}
use Rattle.ikeless_tree.specs.declared.sad.SadRow.{SadRow}
use Rattle.ikeless_tree.specs.declared.sad.Tree.{Tree}
use Rattle.ikeless_tree.specs.declared.order.Answer.{Answer}
use Rattle.ikeless_tree.specs.declared.ends.GoneWhy.TheVariants as gone
use Rattle.ikeless_tree.specs.Half.{is_inbound}
use Rattle.reply_table.specs.declared.ask.Ask.{Ask}
use Rattle.reply_table.specs.declared.ask.Change.{Change}
use Rattle.reply_table.specs.declared.ask.Change.TheVariants as changes
use Rattle.reply_table.specs.Reply as table
use Rattle.life_count.specs.Lifetime.{cut_32}
use Rattle.sad_store.specs.declared.half.Half.{Half}
use Rattle.sad_store.specs.Halves.{fresh, halves_without, hushed}
use Rattle.hist_acts.specs.declared.act.Act.{Act}
use Rattle.hist_acts.specs.declared.act.Act.TheVariants as acts
use Rattle.hist_gateway.specs.Handle.{answer_of, change_acts}
use Rattle.hist_gateway.specs.State.{GatewayState, did, did_all, quiet, wanted_after, with_halves, with_policy, with_put, with_request, with_session}
use Rattle.hist_gateway.specs.Machine.{row_from}
use Rattle.hist_gateway.proofs.KeepsLemmas.{same-refl}
use Rattle.hist_gateway.proofs.LooksLemmas.{done-more}
use Rattle.gw_tables.specs.Kept.{Kept, kept_after, session_taken, tree_of}
use Rattle.gw_law.specs.Told.{Naming, kept_of, naming_of}
use Rattle.gw_law.specs.Told as told

-- these acts leave this to be kept, and this to name acts
pub record Leaves (g : List ℕ) (s : GatewayState) (xs : List Act) (k : Kept) (n : Naming) : Type 0 where
  pub kept : kept_of (did_all g s xs) ≡ k
  pub naming : naming_of g (did_all g s xs) ≡ n

own : (b : Bool) (x y : GatewayState) → b ≡ true → (if b then x else y) ≡ x
own b x y p = rw p refl

one-left : (g : List ℕ) (s : GatewayState) (a : Act) (z : GatewayState) → did g s a ≡ z → Leaves g s (a ∷ []) (kept_of z) (naming_of g z)
one-left g s a z p = record { kept = ap kept_of p; naming = ap (naming_of g) p }

-- ---- a change

pub change-left : (g : List ℕ) (s : GatewayState) (r : table.Outcome) (c : Change)
    → Leaves g s (change_acts g r c) (kept_after r.tree.spd c (kept_of s)) (naming_of g s)
change-left g s r changes.Nothing = record { kept = refl; naming = refl }
change-left g s r changes.Spd =
    one-left g s (acts.Policy g r.tree.spd) (with_policy r.tree.spd s) (own (bytes_eq g g) (with_policy r.tree.spd s) (quiet s)
    (same-refl g))
change-left g s r (changes.Put e) =
    let z : GatewayState = with_put (s.halves ++ fresh s.clock e ∷ []) (wanted_after e s) s in
    one-left g s (acts.Put g e) z (own (bytes_eq g g) z (quiet s) (same-refl g))
change-left g s r (changes.Gone name) =
    let z : GatewayState = with_halves (halves_without name s.halves) s in
    one-left g s (acts.Gone g name gone.Removed) z (own (bytes_eq g g) z (quiet s) (same-refl g))

handled-left : (g : List ℕ) (s : GatewayState) (t m : ℕ) (a : Answer) → Leaves g s (acts.Handled g t m a ∷ []) (kept_of s)
    (told.with_request (naming_of g s))
handled-left g s t m a = one-left g s (acts.Handled g t m a) (with_request s) (own (bytes_eq g g) (with_request s) (quiet s) (same-refl g))

pub fault-left : (g : List ℕ) (s : GatewayState) (t m : ℕ) (a : Answer) → Leaves g s (acts.Handled g t m a ∷ []) (kept_of s)
    (told.with_request (naming_of g s))
fault-left g s t m a = handled-left g s t m a

pub reply-left : (g : List ℕ) (s : GatewayState) (r : table.Outcome) (t m : ℕ) →
    Leaves g s (change_acts g r r.change ++ acts.Handled g t m (answer_of r) ∷ []) (kept_after r.tree.spd r.change (kept_of s))
    (told.with_request (naming_of g s))
reply-left g s r t m =
    let z : GatewayState = did_all g s (change_acts g r r.change) in
    let last : List Act = acts.Handled g t m (answer_of r) ∷ [] in
    let first = change-left g s r r.change in
    let second = handled-left g z t m (answer_of r) in
    let both = done-more g s (change_acts g r r.change) last in
    record {
      kept = ap kept_of both ∙ (second.kept ∙ first.kept);
      naming = ap (naming_of g) both ∙ (second.naming ∙ ap told.with_request first.naming);
    }

-- ---- a session

pub session-left : (g : List ℕ) (s : GatewayState) → Leaves g s (acts.Opened g (s.openings + 1) ∷ []) (session_taken (kept_of s))
    (told.with_session (naming_of g s))
session-left g s =
    let z : GatewayState = with_session (s.openings + 1) (map hushed s.halves) s in
    one-left g s (acts.Opened g (s.openings + 1)) z (own (bytes_eq g g) z (quiet s) (same-refl g))

-- ---- the databases

-- what a reply's change makes of the databases
abbrev pub AllMake : Type 0
AllMake = (t : Tree) (a : Ask) → table.Makes t (table.reply t a) (table.reply t a).change

no-time : (now : ℕ) → cut_32 (now - now) ≡ 0
no-time now = grind arith

same-top : (b : Bool) (n : ℕ) → (if b then n else n) ≡ n
same-top true n = refl
same-top false n = refl

abbrev row-made : SadEntry → ℕ → ℕ → SadRow
row-made e time top = record {
  entry = e;
  state = record {
    current = record { time = time; bytes = 0; packets = 0; idle = time };
    top =
        top;
  };
}

row-fresh : (now : ℕ) (e : SadEntry) → row_from now (fresh now e) ≡ table.new_row e
row-fresh now e =
    ap (λ t. row-made e t (if is_inbound e.name then 0 else 0)) (no-time now)
    ∙ ap (λ top. row-made e 0 top) (same-top (is_inbound e.name) 0)

rows-end : (now : ℕ) (e : SadEntry) (xs : List Half) → map (row_from now) (xs ++ fresh now e ∷ []) ≡ map (row_from now) xs
    ++ table.new_row e ∷ []
rows-end now e [] = ap (λ r. r ∷ []) (row-fresh now e)
rows-end now e (x ∷ xs) = ap (λ rows. row_from now x ∷ rows) (rows-end now e xs)

rows-step : (now : ℕ) (name : List ℕ) (x : Half) (xs : List Half) (b : Bool) → bytes_eq x.entry.name name ≡ b →
    map (row_from now) (halves_without name xs) ≡ table.without_row name (map (row_from now) xs) →
    map (row_from now) (halves_without name (x ∷ xs)) ≡ table.without_row name (map (row_from now) (x ∷ xs))
rows-step now name x xs true p ih = rw p ih
rows-step now name x xs false p ih = rw p (ap (λ rows. row_from now x ∷ rows) ih)

rows-without : (now : ℕ) (name : List ℕ) (xs : List Half) → map (row_from now) (halves_without name xs) ≡ table.without_row name
    (map (row_from now) xs)
rows-without now name [] = refl
rows-without now name (x ∷ xs) = rows-step now name x xs (bytes_eq x.entry.name name) refl (rows-without now name xs)

tree-by : (k : Kept) (r : table.Outcome) (c : Change) → table.Makes (tree_of k) r c → tree_of (kept_after r.tree.spd c k) ≡ r.tree
tree-by k r changes.Nothing makes = sym makes.1
tree-by k r changes.Spd makes = sym makes.1
tree-by k r (changes.Put e) makes = ap (table.with_sad (tree_of k)) (rows-end k.clock e k.halves) ∙ sym makes.1
tree-by k r (changes.Gone name) makes = ap (table.with_sad (tree_of k)) (rows-without k.clock name k.halves) ∙ sym makes.1

pub tree-left : AllMake → (k : Kept) (ask : Ask) →
    tree_of (kept_after (table.reply (tree_of k) ask).tree.spd (table.reply (tree_of k) ask).change k) ≡ (table.reply (tree_of k) ask).tree
tree-left makes k ask = tree-by k (table.reply (tree_of k) ask) (table.reply (tree_of k) ask).change (makes (tree_of k) ask)
