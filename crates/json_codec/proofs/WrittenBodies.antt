-- What is read of a text that is written.
use Rattle.std.proofs.Common.{◌≡◌, ℕ, List, Some, Result, Ok, Err, IsUtf8}
use Rattle.std.specs.Prelude.{IfOk}
use Rattle.serde_json.specs.Data.{Data}
use Rattle.serde_json.specs.Read.{read}
use Rattle.ikl_base.specs.declared.fault.NoMemory.{NoMemory}

-- what holds of each text in UTF-8 that is read as this value
pub of_written : (r : Result (List ℕ) NoMemory) (d : Data) (P : List ℕ → Type 0) → ((text : List ℕ) → IsUtf8 text → read text ≡ Some d
    → P text) → IfOk r (λ text. IsUtf8 text) → IfOk r (λ text. read text ≡ Some d) → IfOk r P
of_written (Ok text) d P f utf8 reads = f text utf8 reads
of_written (Err e) d P f utf8 reads = tt
