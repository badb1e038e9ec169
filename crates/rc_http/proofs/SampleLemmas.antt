-- Two messages that can be written.
use Rattle.std.proofs.Common.{◌≡◌, ℕ, List, [], codes, refl, sym, arith, subst}
use Rattle.std.specs.Fmt.{decimal}
use Rattle.std.proofs.lemmas.Fmt.{decimal-digits_value}
use Rattle.http_header.specs.FieldValue.{FieldValue, plain_value}
use Rattle.http_header.specs.HeaderMap.{Entries, append}
use Rattle.http_header.specs.Token.{lowercase}
use Rattle.rc_http.specs.declared.message.HttpMessage.{HttpMessage}
use Rattle.rc_http.specs.Written.{IsWritableRequest, IsWritableResponse}
use Rattle.rc_http.proofs.FieldLemmas.{message}
use Rattle.rc_http.proofs.ValueLemmas.{decimal_model}

abbrev get_fields : Entries FieldValue
get_fields = append [] (lowercase (codes "Host")) (plain_value (codes "192.0.2.1"))

abbrev get_message : HttpMessage
get_message = message (codes "GET") (codes "/restconf/data/ietf-i2nsf-ikeless:ipsec-ikeless/sad") 0 get_fields []

get_writable : IsWritableRequest get_message
get_writable = record {
  method = refl;
  target = refl;
  status = refl;
  fields = λ name. refl;
  values = refl;
  tells = λ some. absurd (omega (arith, some));
  head = omega arith;
  body = omega arith;
}

pub get_is : (m t b : List ℕ) (f : Entries FieldValue) → m ≡ codes "GET"
    → t ≡ codes "/restconf/data/ietf-i2nsf-ikeless:ipsec-ikeless/sad" → b ≡ []
    → f ≡ append [] (lowercase (codes "Host")) (plain_value (codes "192.0.2.1")) → IsWritableRequest (message m t 0 f b)
get_is m t b f em et eb ef =
    let e : message m t 0 f b ≡ get_message = cc in subst IsWritableRequest (sym e) get_writable

abbrev answer_fields : Entries FieldValue
answer_fields =
    append (append [] (lowercase (codes "Content-Length")) (plain_value (codes "43")))
    (lowercase (codes "Content-Type")) (plain_value (codes "application/yang-data+json"))

forty_three : codes "43" ≡ decimal 43
forty_three = sym (decimal-digits_value decimal_model (codes "43") refl (omega arith) (λ e. absurd (omega (arith, e))) (omega arith))

abbrev answer_body : List ℕ
answer_body = codes "{\"ietf-i2nsf-ikeless:sad\":{\"sad-entry\":[]}}"

abbrev answer_message : HttpMessage
answer_message = message [] [] 200 answer_fields answer_body

answer_writable : IsWritableResponse answer_message
answer_writable = record {
  method = refl;
  target = refl;
  status = refl;
  fields = λ name. refl;
  values = refl;
  tells = λ other. record { len = forty_three; type = λ some. refl };
  none = λ e. absurd (omega (arith, e));
  head = omega arith;
  body = omega arith;
}

pub answer_is : (m t b : List ℕ) (f : Entries FieldValue) → m ≡ [] → t ≡ [] → b ≡ codes "{\"ietf-i2nsf-ikeless:sad\":{\"sad-entry\":[]}}"
    → f ≡ append (append [] (lowercase (codes "Content-Length")) (plain_value (codes "43")))
    (lowercase (codes "Content-Type")) (plain_value (codes "application/yang-data+json"))
    → IsWritableResponse (message m t 200 f b)
answer_is m t b f em et eb ef =
    let e : message m t 200 f b ≡ answer_message = cc in subst IsWritableResponse (sym e) answer_writable
