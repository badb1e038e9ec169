-- Texts of which a front was added.
use Rattle.std.proofs.Common.{◌≡◌, ℕ, List, [], ◌∷◌, ◌++◌, Result, Ok, Err, refl, sym, ap, ◌∙◌, append_assoc, append-nil}
use Rattle.std.specs.Prelude.{IsErr}
use Rattle.ikl_base.specs.Answers.{HoldsFront, Adds}

-- nothing was added
pub front-none : (old text new : List ℕ) → new ≡ old → HoldsFront old text new
front-none old text new e = record { part = []; rest = text; whole = refl; held = e ∙ sym (append-nil old) }

-- a front of the first part was added
pub front-first : (old text new first more : List ℕ) → text ≡ first ++ more → HoldsFront old first new → HoldsFront old text new
front-first old text new first more e f = record {
  part = f.part;
  rest = f.rest ++ more;
  whole = sym (append_assoc f.part f.rest more) ∙ ap (λ x. x ++ more) f.whole ∙ sym e;
  held = f.held;
}

-- all of the first part was added, and a front of the rest
pub front-then : (old text new middle first more : List ℕ) → text ≡ first ++ more → middle ≡ old ++ first → HoldsFront middle more new
    → HoldsFront old text new
front-then old text new middle first more e m f = record {
  part = first ++ f.part;
  rest = f.rest;
  whole = append_assoc first f.part f.rest ∙ ap (λ x. first ++ x) f.whole ∙ sym e;
  held = f.held ∙ ap (λ x. x ++ f.part) m ∙ append_assoc old first f.part;
}

-- all of the first part was added, and nothing of the rest
pub front-whole : (old text new first more : List ℕ) → text ≡ first ++ more → new ≡ old ++ first → HoldsFront old text new
front-whole old text new first more e h = record { part = first; rest = more; whole = sym e; held = h }

-- ## the same of a call's answer

pub adds-refused : {A E : Type 0} (r : Result A E) (old text new : List ℕ) → IsErr r → HoldsFront old text new → Adds r old text new
adds-refused (Ok x) old text new h f = absurd (let no : ⊥ = cc in no)
adds-refused (Err e) old text new h f = f

-- a last call, after the first part was added
pub adds-then : {A E : Type 0} (r : Result A E) (old text new middle first more : List ℕ) → text ≡ first ++ more → middle ≡ old ++ first
    → Adds r middle more new → Adds r old text new
adds-then (Ok x) old text new middle first more e m f = f ∙ ap (λ y. y ++ more) m ∙ append_assoc old first more ∙ ap (λ y. old ++ y) (sym e)
adds-then (Err x) old text new middle first more e m f = front-then old text new middle first more e m f

-- a last call, after the first part and a mark were added
pub adds-marked : {A E : Type 0} (r : Result A E) (old text new before middle first more : List ℕ) (mark : ℕ) → text ≡ first ++ mark ∷ more
    → before ≡ old ++ first → middle ≡ before ++ mark ∷ [] → Adds r middle more new → Adds r old text new
adds-marked r old text new before middle first more mark e b m f =
    adds-then r old text new middle (first ++ mark ∷ []) more (e ∙ sym (append_assoc first (mark ∷ []) more))
    (m ∙ ap (λ x. x ++ mark ∷ []) b ∙ append_assoc old first (mark ∷ [])) f
