-- The names and values of a head are ones that a map of fields takes.
use Rattle.std.proofs.Common.{◌≡◌, ℕ, ◌<◌, ◌≤◌, List, map, length, get_or, sym, ap, arith, All, slice_range, subst}
use Rattle.std.proofs.lemmas.List.{get_or-map, length-map}
use Rattle.std.proofs.lemmas.List.Elements.{All-map, All-weaker}
use Rattle.httparse.proofs.RunLemmas.{length-slice_range}
use Rattle.httparse.proofs.TrimLemmas.{AllPass-trim_ows}
use Rattle.httparse.specs.Grammar.{IsField, Field}
use Rattle.httparse.specs.Grammar as grammar
use Rattle.httparse.specs.Spans.{name_and_value}
use Rattle.http_header.specs.Token as token
use Rattle.http_header.specs.FieldName.{IsFieldName}
use Rattle.http_header.specs.FieldValue.{FieldValue, IsFieldValue}
use Rattle.http_header.specs.HeaderMap.{Entries}
use Rattle.rc_http.specs.declared.message.Kind.{Kind}
use Rattle.rc_http.specs.declared.message.Kind.TheVariants.{Request, Response}
use Rattle.rc_http.specs.declared.message.HttpMessage.{HttpMessage}
use Rattle.rc_http.specs.Heads.{Head, Reads, fields_map, message_of}
use Rattle.rc_http.specs.Parts.{IsValidField}

-- the two crates mean the same by a token
token_same : (bytes : List ℕ) → grammar.IsToken bytes → token.IsToken bytes
unfolding grammar.is_token_byte token.is_token_byte
token_same bytes t = t

field_valid : (f : Field) → IsField f → IsValidField (name_and_value f)
field_valid f is = (token_same f.name is.name, AllPass-trim_ows grammar.is_value_byte f.raw is.raw)

-- each field of a head is valid
pub valid_fields : (kind : Kind) (octets : List ℕ) (head : Head) → Reads kind octets head → All IsValidField head.fields
valid_fields Request octets head reads =
    let h = reads.0.0 in
    let fields = All-map IsValidField name_and_value h.fields (All-weaker IsField (λ f. IsValidField (name_and_value f)) field_valid
    h.fields reads.0.1.0.fields) in
    subst (λ (x : Head). All IsValidField x.fields) (sym reads.0.2) fields
valid_fields Response octets head reads =
    let h = reads.0.0 in
    let fields = All-map IsValidField name_and_value h.fields (All-weaker IsField (λ f. IsValidField (name_and_value f)) field_valid
    h.fields reads.0.1.0.fields) in
    subst (λ (x : Head). All IsValidField x.fields) (sym reads.0.2) fields

-- a name in a head is short
pub name_fits : (head name : List ℕ) (start end : ℕ) → name ≡ slice_range head start end → start ≤ end → end ≤ length head
    → length head ≤ 8192 → length name ≤ 65535
name_fits head name start end e order within short =
    omega (arith, ap length e, length-slice_range head start end order within, order, within, short)

module _ {S : Type 0} (f : S → List ℕ × List ℕ) where
  -- the name and value of one span
  pub valid_at : (xs : List S) (i : ℕ) (d : S) → i < length xs → All IsValidField (map f xs) → IsValidField (f (get_or xs i d))
  valid_at xs i d lt all =
      subst IsValidField (get_or-map f xs i d (f d) lt) (all i (f d) (omega (arith, lt, length-map xs f)))

pub name_valid : (name : List ℕ) (p : List ℕ × List ℕ) → name ≡ p.0 → IsValidField p → length name ≤ 65535 → IsFieldName name
name_valid name p e valid fits = (subst token.IsToken (sym e) valid.0, fits)

pub value_valid : (value : List ℕ) (p : List ℕ × List ℕ) → value ≡ p.1 → IsValidField p → IsFieldValue value
value_valid value p e valid = subst IsFieldValue (sym e) valid.1

abbrev pub message : List ℕ → List ℕ → ℕ → Entries FieldValue → List ℕ → HttpMessage
message m t s f b = record { method = m; target = t; status = s; fields = f; body = b }

-- a message part by part
pub same_message : (head : Head) (method target body text : List ℕ) (fields : Entries FieldValue)
    → method ≡ head.method → target ≡ head.target → fields ≡ fields_map head.fields → body ≡ text
    → message method target head.status fields body ≡ message_of head text
same_message head method target body text fields a b c d = cc
