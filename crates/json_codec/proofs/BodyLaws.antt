-- Bodies that are read, and what they stand for.
use Rattle.std.proofs.Common.{◌≡◌, ℕ, Bool, true, false, List, Option, Some, None, Result, Ok, Err, IsUtf8, if◌then◌else◌, refl, ap}
use Rattle.std.specs.Str.{is_utf8}
use Rattle.std.proofs.lemmas.Str.{IsUtf8-from_is_utf8}
use Rattle.serde_json.specs.Data.{Data}
use Rattle.serde_json.specs.Read.{read}
use Rattle.json_values.specs.declared.fault.Fault.{Fault}
use Rattle.json_values.specs.Faults.{told}
use Rattle.json_codec.specs.Bodies.{json_of, body_read}
use Rattle.json_values.specs.Json.{StandsFor}
use Rattle.json_codec.proofs.JsonText.{json_is_read}
use Rattle.json_values.proofs.LeafLaws.{ok_is}

told_ok : {A : Type 0} → (r : Result A Fault) (x : A) → told r ≡ Ok x → r ≡ Ok x
told_ok (Ok y) x h = ap Ok (ok_is y x h)
told_ok (Err e) x h = absurd (let no : ⊥ = cc in no)

utf8_by : (body : List ℕ) (d : Data) (t : Bool) → is_utf8 body ≡ t → (if t then read body else None) ≡ Some d → IsUtf8 body
    × (read body ≡ Some d)
utf8_by body d true is h = (IsUtf8-from_is_utf8 body is, h)
utf8_by body d false is h = absurd (let no : ⊥ = cc in no)

read_is_json : (body : List ℕ) (d : Data) → json_of body ≡ Some d → IsUtf8 body × (read body ≡ Some d)
unfolding json_of
read_is_json body d h = utf8_by body d (is_utf8 body) refl h

body_by : {A : Type 0} → (f : Data → Result A Fault) (P : Data → Type 0) (x : A) → ((d : Data) → f d ≡ Ok x → P d)
    → (body : List ℕ) (o : Option Data) → json_of body ≡ o → body_read f o ≡ Ok x → StandsFor body P
body_by f P x step body None is h = absurd (let no : ⊥ = cc in no)
body_by f P x step body (Some d) is h = let j = read_is_json body d is in (j.0, d, j.1, step d (told_ok (f d) x h))

pub body_ok : {A : Type 0} → (f : Data → Result A Fault) (P : Data → Type 0) (x : A) → ((d : Data) → f d ≡ Ok x → P d) → (body : List ℕ)
    → body_read f (json_of body) ≡ Ok x → StandsFor body P
body_ok f P x step body h = body_by f P x step body (json_of body) refl h

pub body_of : {A : Type 0} → (f : Data → Result A Fault) (P : Data → Type 0) (x : A) → ((d : Data) → P d → f d ≡ Ok x) → (body : List ℕ)
    → StandsFor body P → body_read f (json_of body) ≡ Ok x
body_of f P x step body h = rw (json_is_read body h.1 h.0 h.2) (rw (step h.1 h.3) refl)
