-- What a window keeps of the numbers marked.
use Rattle.std.proofs.Common.{◌≡◌, ℕ, ◌+◌, ◌-◌, ◌<◌, ◌≤◌, ◌==◌, ◌&&◌, ◌||◌, nat_le, nat_lt, max, Bool, true, false, List, [], ◌∷◌, fold, refl, sym, ap, ◌∙◌, if◌then◌else◌, arith}
use Rattle.std.specs.List.{range_with_len}
use Rattle.std.proofs.lemmas.Bool.{false≢true}
use Rattle.std.proofs.lemmas.Bool.Decides.{nat_tests}
use Rattle.replay_win.specs.declared.verdict.Verdict.TheVariants.{Fresh, Old, Seen, Zero}
use Rattle.replay_win.specs.Marks.{marked, no_marks, Marks, greatest, is_among, is_below, spanned, judged, verdict_by, verdict_over, window_after}
use Rattle.replay_win.specs.Bitmap.{is_bit_set, is_held}
use Rattle.replay_win.proofs.Among.{is_among-filter, is_among-range, filter-same, filter-none}

pub is_among-spanned : (size top : ℕ) (test : ℕ → Bool) (k : ℕ)
    → is_among k (spanned size top test) ≡ (test k && (nat_le (top + 1 - size) k && nat_lt k (top + 1 - size + size)))
is_among-spanned size top test k = is_among-filter test k (range_with_len (top + 1 - size) size)
    ∙ ap (λ b. test k && b) (is_among-range k (top + 1 - size) size)

pub spanned-none : (size top : ℕ) (test : ℕ → Bool) → ((k : ℕ) → test k ≡ false) → spanned size top test ≡ []
spanned-none size top test none = filter-none test (range_with_len (top + 1 - size) size) none

is_among-greatest : (q : ℕ) (xs : List ℕ) → is_among q xs ≡ true → q ≤ greatest xs
is_among-greatest q [] h = absurd (false≢true h)
is_among-greatest q (x ∷ xs) h = let ih = is_among-greatest q xs in grind (arith, nat_tests, ih)

pub top-window_after : (size : ℕ) (taken : List ℕ) → (window_after size taken).top ≡ greatest taken
top-window_after size [] = refl
top-window_after size (s ∷ taken) = ap (λ t. max t s) (top-window_after size taken)

pub size-window_after : (size : ℕ) (taken : List ℕ) → (window_after size taken).size ≡ size
size-window_after size [] = refl
size-window_after size (s ∷ taken) = size-window_after size taken

-- a number that was taken and isn't below lies in the range
in_range : (size top s q : ℕ) (inside taken : Bool) → inside ≡ taken → (taken ≡ true → q ≤ top) → max top s < q + size
    → (((s == q) || inside) && (nat_le (max top s + 1 - size) q && nat_lt q (max top s + 1 - size + size))) ≡ ((q == s) || taken)
in_range size top s q inside taken same most above = grind (arith, nat_tests)

-- of the numbers that aren't below, the window has those that were taken
is_among-window_after : (size : ℕ) (taken : List ℕ) (q : ℕ) → greatest taken < q + size
    → is_among q (window_after size taken).inside ≡ is_among q taken
is_among-window_after size [] q h = refl
is_among-window_after size (s ∷ taken) q h =
    let w : Marks = window_after size taken in
    let top = top-window_after size taken in
    let width = size-window_after size taken in
    let ih = is_among-window_after size taken q (omega arith) in
    let most = is_among-greatest q taken in
    let now = is_among-spanned w.size (max w.top s) (λ k. (s == k) || is_among k w.inside) q in
    now ∙ in_range w.size w.top s q (is_among q w.inside) (is_among q taken) ih (λ h. rw top (most h)) (omega arith)

-- whether a number was taken counts only where it isn't below
verdict_by-same : (size top s : ℕ) (a b : Bool) → (top < s + size → a ≡ b) → verdict_by size top a s ≡ verdict_by size top b s
verdict_by-same size top s a b same = grind (arith, nat_tests, same)

pub judged-window_after : (size : ℕ) (taken : List ℕ) (s : ℕ) → judged (window_after size taken) s ≡ verdict_over size taken s
judged-window_after size taken s =
    let w : Marks = window_after size taken in
    ap (λ n. verdict_by n w.top (is_among s w.inside) s) (size-window_after size taken)
    ∙ ap (λ t. verdict_by size t (is_among s w.inside) s) (top-window_after size taken)
    ∙ verdict_by-same size (greatest taken) s (is_among s w.inside) (is_among s taken) (is_among-window_after size taken s)

-- the numbers of two lists, those of the second turned round in front
abbrev behind : List ℕ → List ℕ → List ℕ
behind taken [] = taken
behind taken (x ∷ xs) = behind (x ∷ taken) xs

is_among-behind : (q : ℕ) (xs taken : List ℕ) → is_among q (behind taken xs) ≡ (is_among q taken || is_among q xs)
is_among-behind q [] taken = grind arith
is_among-behind q (x ∷ xs) taken = let ih = is_among-behind q xs (x ∷ taken) in grind (arith, ih)

greatest-behind : (xs taken : List ℕ) → greatest (behind taken xs) ≡ max (greatest taken) (greatest xs)
greatest-behind [] taken = omega arith
greatest-behind (x ∷ xs) taken = let ih = greatest-behind xs (x ∷ taken) in omega arith

fold-window_after : (size : ℕ) (xs taken : List ℕ) → fold marked (window_after size taken) xs ≡ window_after size (behind taken xs)
fold-window_after size [] taken = refl
fold-window_after size (x ∷ xs) taken = fold-window_after size xs (x ∷ taken)

-- the verdict hangs on no order
pub judged-fold : (size : ℕ) (taken : List ℕ) (s : ℕ) → judged (fold marked (no_marks size) taken) s ≡ verdict_over size taken s
judged-fold size taken s =
    let most : greatest (behind [] taken) ≡ greatest taken = greatest-behind taken [] ∙ omega arith in
    ap (λ w. judged w s) (fold-window_after size taken [])
    ∙ judged-window_after size (behind [] taken) s
    ∙ ap (λ t. verdict_by size t (is_among s (behind [] taken)) s) most
    ∙ ap (λ b. verdict_by size (greatest taken) b s) (is_among-behind s taken [])

-- ---- a bitmap

-- the numbers inside are those held
is_among-held : (size top : ℕ) (words : List ℕ) (k : ℕ) → is_below size top k ≡ false → is_among k (spanned size top (is_held words top)) ≡
    is_held words top k
is_among-held size top words k above =
    let has = is_among-spanned size top (is_held words top) k in
    let e : is_held words top k ≡ (nat_le k top && is_bit_set words k) = refl in
    grind (arith, nat_tests, has, e)

-- the fields of a window as the value that contracts see
abbrev pub view_of : ℕ → ℕ → List ℕ → Marks
view_of size top words = record { size = size; top = top; inside = spanned size top (is_held words top) }

pub judged-view_of : (size top : ℕ) (words : List ℕ) (s : ℕ) (taken : Bool) → (s == 0) ≡ false → is_below size top s ≡ false
    → is_held words top s ≡ taken →
    judged (view_of size top words) s ≡ (if taken then Seen else Fresh)
judged-view_of size top words s taken some above has =
    ap (λ b. if b then Zero else if is_below size top s then Old else if is_among s (view_of size top words).inside then Seen else Fresh)
    some
    ∙ ap (λ b. if b then Old else if is_among s (view_of size top words).inside then Seen else Fresh) above
    ∙ ap (λ b. if b then Seen else Fresh) (is_among-held size top words s above ∙ has)

-- a fresh number isn't below the window
fresh_by : (none below taken : Bool) → (if none then Zero else if below then Old else if taken then Seen else Fresh) ≡ Fresh → below ≡ false
fresh_by true below taken is = cc
fresh_by false true taken is = cc
fresh_by false false taken is = refl

pub fresh-above : (w : Marks) (s : ℕ) → judged w s ≡ Fresh → w.top < s + w.size
fresh-above w s is = let above = fresh_by (s == 0) (is_below w.size w.top s) (is_among s w.inside) is in grind (arith, nat_tests)

-- the numbers inside after a number was marked
pub spanned-after : (size top s : ℕ) (old new : List ℕ) →
    ((k : ℕ) → max top s < k + size → is_held new (max top s) k ≡ ((s == k) || is_held old top k)) →
    spanned size (max top s) (is_held new (max top s)) ≡ spanned size (max top s) (λ k. (s == k)
    || is_among k (spanned size top (is_held old top)))
spanned-after size top s old new held =
    filter-same (is_held new (max top s)) (λ k. (s == k) || is_among k (spanned size top (is_held old top)))
    (range_with_len (max top s + 1 - size) size)
    (λ k h.
    let within = is_among-range k (max top s + 1 - size) size in
    let near : max top s < k + size = grind (arith, nat_tests, within) in
    let above : is_below size top k ≡ false = grind (arith, nat_tests) in
    held k near ∙ ap (λ b. (s == k) || b) (sym (is_among-held size top old k above)))
