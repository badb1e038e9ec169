-- Lists of values that are read one by one.
use Rattle.std.proofs.Common.{◌≡◌, ◌<◌, ◌≤◌, ◌+◌, ℕ, List, [], ◌∷◌, ◌++◌, length, get_or, drop, Option, Some, Result, Ok, Err, refl, sym, ◌∙◌, ap, append_assoc, append-nil, arith, decimal}
use Rattle.std.proofs.lemmas.Grind.{common_steps}
use Rattle.serde_json.specs.Data.{Data, Items, item, no_items}
use Rattle.serde_json.specs.View.{view, items_view}
use Rattle.serde_json.specs.declared.value.Value.{Value}
use Rattle.json_values.specs.declared.fault.Fault.{Fault}
use Rattle.ikl_base.specs.declared.fault.OrMemory.{OrMemory}
use Rattle.ikl_base.specs.declared.fault.OrMemory.TheVariants as failures
use Rattle.ikl_base.specs.Answers.{Refuses}
use Rattle.json_values.specs.declared.fault.Kind.TheVariants as kinds
use Rattle.json_values.specs.Faults.{here, within, ◌>>=◌}
use Rattle.json_values.specs.Shapes.{each_item, one_read}

-- what was read before, and what is read of the rest
abbrev pub onto : {A : Type 0} → List A → Result (List A) Fault → Result (List A) Fault
onto front (Ok rest) = Ok (front ++ rest)
onto front (Err e) = Err e

onto-read : {A : Type 0} → (front : List A) (x : A) (rest : Result (List A) Fault) → onto front (rest >>= (λ xs. Ok (x ∷ xs))) ≡ onto (front
    ++ x ∷ []) rest
onto-read front x (Ok rest) = ap Ok (sym (append_assoc front (x ∷ []) rest))
onto-read front x (Err e) = refl

onto-refused : {A : Type 0} → (front : List A) (r : Result A Fault) (e : Fault) (rest : Result (List A) Fault) → r ≡ Err e
    → onto front (r >>= (λ x. rest >>= (λ xs. Ok (x ∷ xs)))) ≡ Err e
onto-refused front r e rest refused = rw refused refl

pub onto-none : {A : Type 0} → (r : Result (List A) Fault) → onto [] r ≡ r
onto-none (Ok rest) = refl
onto-none (Err e) = refl

items-at : (vs : List Value) (i : ℕ) (d : Value) → i < length vs → items_view (drop i vs) ≡ item (view (get_or vs i d))
    (items_view (drop (i + 1) vs))
items-at vs i d inside = ap items_view (let e : drop i vs ≡ get_or vs i d ∷ drop (i + 1) vs = grind (arith, common_steps) in e)

items-end : (vs : List Value) (i : ℕ) → length vs ≤ i → items_view (drop i vs) ≡ no_items
items-end vs i past = ap items_view (let e : drop i vs ≡ [] = grind (arith, common_steps) in e)

pub item-read : {A : Type 0} → (f : Data → Result A Fault) (front : List A) (vs : List Value) (i : ℕ) (d : Value) (x : A) → i < length vs
    → within (decimal i) (f (view (get_or vs i d))) ≡ Ok x →
    onto front (each_item f i (items_view (drop i vs))) ≡ onto (front ++ x ∷ []) (each_item f (i + 1) (items_view (drop (i + 1) vs)))
unfolding each_item
item-read f front vs i d x inside read =
    ap (λ ds. onto front (each_item f i ds)) (items-at vs i d inside)
    ∙ (ap (λ r. onto front (r >>= (λ y. each_item f (i + 1) (items_view (drop (i + 1) vs)) >>= (λ ys. Ok (y ∷ ys))))) read
    ∙ onto-read front x (each_item f (i + 1) (items_view (drop (i + 1) vs))))

pub item-refused : {A : Type 0} → (f : Data → Result A Fault) (front : List A) (vs : List Value) (i : ℕ) (d : Value) (e : Fault)
    → i < length vs → within (decimal i) (f (view (get_or vs i d))) ≡ Err e →
    onto front (each_item f i (items_view (drop i vs))) ≡ Err e
unfolding each_item
item-refused f front vs i d e inside refused =
    ap (λ ds. onto front (each_item f i ds)) (items-at vs i d inside)
    ∙ onto-refused front (within (decimal i) (f (view (get_or vs i d)))) e (each_item f (i + 1) (items_view (drop (i + 1) vs))) refused

pub items-done : {A : Type 0} → (f : Data → Result A Fault) (front : List A) (vs : List Value) (i : ℕ) → length vs ≤ i
    → onto front (each_item f i (items_view (drop i vs))) ≡ Ok front
unfolding each_item
items-done f front vs i past = ap (λ ds. onto front (each_item f i ds)) (items-end vs i past) ∙ ap Ok (append-nil front)

-- a refused item refuses the list, where what was read before is known
pub item-refuses : {A : Type 0} → (f : Data → Result A Fault) (front : List A) (vs : List Value) (i : ℕ) (v : Value) (e : OrMemory Fault)
    (whole : Result (List A) Fault) → i < length vs → v ≡ get_or vs i v →
    onto front (each_item f i (items_view (drop i vs))) ≡ whole → Refuses e (within (decimal i) (f (view v))) → Refuses e whole
item-refuses f front vs i v (failures.Refused fault) whole inside is before refused =
    sym before ∙ item-refused f front vs i v fault inside (ap (λ w. within (decimal i) (f (view w))) (sym is) ∙ refused)
item-refuses f front vs i v failures.NoMemory whole inside is before refused = tt

-- an item read is one more of the list
pub item-more : {A : Type 0} → (f : Data → Result A Fault) (front : List A) (vs : List Value) (i : ℕ) (v : Value) (x : A)
    (whole : Result (List A) Fault) → i < length vs → v ≡ get_or vs i v →
    onto front (each_item f i (items_view (drop i vs))) ≡ whole → within (decimal i) (f (view v)) ≡ Ok x →
    onto (front ++ x ∷ []) (each_item f (i + 1) (items_view (drop (i + 1) vs))) ≡ whole
item-more f front vs i v x whole inside is before read =
    sym (item-read f front vs i v x inside (ap (λ w. within (decimal i) (f (view w))) (sym is) ∙ read)) ∙ before

-- a list of two items or more isn't a list of one
pub one-of_many : {A : Type 0} → (f : Data → Result A Fault) (list : Option Items) (vs : List Value) → list ≡ Some (items_view vs)
    → 2 ≤ length vs → one_read f list ≡ Err (here kinds.Missing)
one-of_many f list [] is long = absurd (omega arith)
one-of_many f list (v ∷ []) is long = absurd (omega arith)
one-of_many f list (v ∷ w ∷ vs) is long = ap (one_read f) is
