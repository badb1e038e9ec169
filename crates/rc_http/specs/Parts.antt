-- The parts of a head by where they stand in it.
use Rattle.std.specs.Prelude.{◌≡◌, ℕ, ◌≤◌, List, length, take, map, All, ◌⊎◌, Result, Err}
use Rattle.httparse.specs.declared.spans.HeaderSpan.{HeaderSpan}
use Rattle.http_header.specs.Token.{IsToken}
use Rattle.http_header.specs.FieldValue.{IsFieldValue}
use Rattle.httparse.specs.Spans.{IsHeaderWithin, IsWithin, header_bytes, span_bytes}
use Rattle.rc_http.specs.declared.head.Parts.{Parts}
use Rattle.rc_http.specs.declared.message.HttpFault.{HttpFault}
use Rattle.rc_http.specs.declared.message.HttpFault.TheVariants as faults
use Rattle.rc_http.specs.declared.message.Kind.{Kind}
use Rattle.rc_http.specs.Heads.{Head, Reads, body_len}

-- a name and a value that a map takes, but for the name's length
abbrev pub IsValidField : List ℕ × List ℕ → Type 0
IsValidField field = IsToken field.0 × IsFieldValue field.1

-- what the spans cover
abbrev pub head_at : List ℕ → List HeaderSpan → Parts → Head
head_at head room p = record {
  minor = p.version;
  method = span_bytes head p.method;
  target = span_bytes head p.target;
  status = p.status;
  fields = map (header_bytes head) (take p.fields room);
}

-- the parts are those of the head
pub record IsPartsOf (kind : Kind) (head : List ℕ) (room : List HeaderSpan) (p : Parts) : Type 0 where
  pub method : IsWithin (length head) p.method
  pub target : IsWithin (length head) p.target
  pub count : p.fields ≤ length room
  pub fields : All (IsHeaderWithin (length head)) (take p.fields room)
  pub reads : Reads kind head (head_at head room p)

-- the length of the body after this head, or the first fault
abbrev pub LengthIs : Kind → List ℕ → Result ℕ HttpFault → Type 0
LengthIs kind octets r =
    ((head : Head) × Reads kind octets head × (r ≡ body_len kind head))
    ⊎ (((head : Head) → ¬ (Reads kind octets head)) × (r ≡ Err faults.Head))
