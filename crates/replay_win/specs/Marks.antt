-- The anti-replay window of an association (RFC 4303 section 3.4.3).
use Rattle.std.specs.Prelude.{ℕ, ◌+◌, ◌-◌, ◌==◌, ◌||◌, nat_le, max, Bool, List, [], ◌∷◌, filter, if◌then◌else◌}
use Rattle.std.specs.List.{list_any, range_with_len}
use Rattle.replay_win.specs.declared.verdict.Verdict.{Verdict}
use Rattle.replay_win.specs.declared.verdict.Verdict.TheVariants.{Fresh, Old, Seen, Zero}

-- the number is one of these
abbrev pub is_among : ℕ → List ℕ → Bool
is_among s xs = list_any (λ k. s == k) xs

-- the greatest of the numbers, 0 of none
abbrev pub greatest : List ℕ → ℕ
greatest [] = 0
greatest (x ∷ xs) = max (greatest xs) x

-- the number lies below a window of this size under this greatest number
abbrev pub is_below : ℕ → ℕ → ℕ → Bool
is_below size top s = nat_le (s + size) top

-- the verdict on s, by the greatest number taken and whether s was taken
abbrev pub verdict_by : ℕ → ℕ → Bool → ℕ → Verdict
verdict_by size top is_taken s = if s == 0 then Zero else if is_below size top s then Old else if is_taken then Seen else Fresh

-- the verdict over all the numbers taken, whatever their order
abbrev pub verdict_over : ℕ → List ℕ → ℕ → Verdict
verdict_over size taken s = verdict_by size (greatest taken) (is_among s taken) s

-- what a window keeps: its size, the greatest number marked or 0, and the numbers marked that lie inside, in increasing order
pub record Marks : Type 0 where
  pub size : ℕ
  pub top : ℕ
  pub inside : List ℕ

-- the numbers of a window of this size, under this greatest number, at which a test holds
abbrev pub spanned : ℕ → ℕ → (ℕ → Bool) → List ℕ
spanned size top test = filter test (range_with_len (top + 1 - size) size)

-- a window of this size before any number: nothing is marked
abbrev pub no_marks : ℕ → Marks
no_marks size = record { size = size; top = 0; inside = [] }

-- the window after one more number
abbrev pub marked : Marks → ℕ → Marks
marked w s = record {
  size = w.size;
  top = max w.top s;
  inside = spanned w.size (max w.top s) (λ k. (s == k) || is_among k w.inside);
}

-- the verdict by what the window keeps
abbrev pub judged : Marks → ℕ → Verdict
judged w s = verdict_by w.size w.top (is_among s w.inside) s

-- the window after these numbers, the newest first
abbrev pub window_after : ℕ → List ℕ → Marks
window_after size [] = no_marks size
window_after size (s ∷ taken) = marked (window_after size taken) s
