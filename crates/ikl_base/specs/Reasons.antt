-- The words of reasons why a line is refused, of this project.
use Rattle.std.specs.Prelude.{ℕ, List, [], ◌∷◌, codes, find, Option}
use Rattle.std.specs.Str.{bytes_eq}
use Rattle.ikl_base.specs.declared.status.LineFault.{LineFault}
use Rattle.ikl_base.specs.declared.status.LineFault.TheVariants as faults

-- every reason, once
abbrev pub all_reasons : List LineFault
all_reasons =
    faults.Long ∷ faults.End ∷ faults.Octet ∷ faults.Header ∷ faults.Word ∷ faults.Count ∷ faults.Gateway ∷ faults.Number ∷ faults.Hex
    ∷ faults.Prefix ∷ faults.Limits ∷ faults.Entry ∷ faults.Mode ∷ []

-- the word that stands for a reason where a refused line is reported
abbrev pub reason_text : LineFault → List ℕ
reason_text faults.Long = codes "long"
reason_text faults.End = codes "end"
reason_text faults.Octet = codes "octet"
reason_text faults.Header = codes "header"
reason_text faults.Word = codes "word"
reason_text faults.Count = codes "count"
reason_text faults.Gateway = codes "gateway"
reason_text faults.Number = codes "number"
reason_text faults.Hex = codes "hex"
reason_text faults.Prefix = codes "prefix"
reason_text faults.Limits = codes "limits"
reason_text faults.Entry = codes "entry"
reason_text faults.Mode = codes "mode"

-- the reason of this text
unfoldable pub reason_of : List ℕ → Option LineFault
reason_of text = find (λ reason. bytes_eq (reason_text reason) text) all_reasons
