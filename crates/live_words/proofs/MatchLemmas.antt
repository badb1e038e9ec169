-- What is matched, and the value of an argument.
use Rattle.std.proofs.Common.{◌≡◌, ℕ, List, [], ◌∷◌, map, string_bytes, Option, Some, None, Result, Ok, Err, inl, inr, refl, sym, ap, subst}
use Rattle.std.specs.declared.string.String.{String}
use Rattle.std.specs.declared.alloc.Global.{Global}
use Rattle.ikl_base.specs.declared.status.LineFault.{LineFault}
use Rattle.ikl_base.specs.declared.status.LineFault.TheVariants as faults
use Rattle.clap.specs.Words.{App, Row, fault_of, kind_of, matches_of}
use Rattle.clap.specs.Kinds.{HasKind, IsAmong, Kinds}
use Rattle.clap.specs.declared.error.Error.{Error}
use Rattle.clap.specs.declared.error.kind.ErrorKind.{ErrorKind}
use Rattle.clap.specs.declared.error.kind.ErrorKind.TheVariants as kind
use Rattle.line_words.specs.Words.{◌>>=◌, one_of}
use Rattle.live_words.specs.Values.{matched, unless_faults}

pub matched-ok : (app : App) (words : List (String Global)) (found : List Row) → fault_of app (map string_bytes words) ≡ []
    → found ≡ matches_of app (map string_bytes words) → matched app words ≡ Ok found
unfolding matched
matched-ok app words found none same =
    let P : List Row → Type 0 = λ r. unless_faults (fault_of app (map string_bytes words)) (matches_of app (map string_bytes words)) ≡ Ok r
    in
    subst P (sym same) (ap (λ (k : Kinds). unless_faults k (matches_of app (map string_bytes words))) none)

among : (k : ErrorKind) (kinds : Kinds) (rows : List Row) → IsAmong k kinds → unless_faults kinds rows ≡ Err faults.Word
among k [] rows is = absurd is
among k (x ∷ xs) rows is = refl

pub matched-err : (app : App) (words : List (String Global)) (e : Error) → HasKind (fault_of app (map string_bytes words)) e
    → (kind_of e ≡ kind.OutOfMemory → ⊥) → matched app words ≡ Err faults.Word
unfolding matched
matched-err app words e (inl memory) other = absurd (other memory)
matched-err app words e (inr is) other = among (kind_of e) (fault_of app (map string_bytes words)) (matches_of app (map string_bytes words))
    is

-- what the value of an argument is read as
pub value-read : {A B : Type 0} (f : A → Result B LineFault) (o : Option A) (x : A) → Some x ≡ o → f x ≡ (one_of faults.Count o >>= f)
value-read {A} f o x e = ap (λ (p : Option A). one_of faults.Count p >>= f) e

pub value-missing : {A B : Type 0} (f : A → Result B LineFault) (o : Option A) → None ≡ o → Err faults.Count ≡ (one_of faults.Count o >>= f)
value-missing {A} f o e = ap (λ (p : Option A). one_of faults.Count p >>= f) e
