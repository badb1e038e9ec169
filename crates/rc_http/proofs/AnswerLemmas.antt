-- A response that was written is read again, whatever follows.
use Rattle.std.proofs.Common.{◌≡◌, ◌≢◌, ◌==◌, ◌&&◌, codes, ℕ, ◌≤◌, List, [], ◌∷◌, ◌++◌, map, length, take, drop, Option, Some, None, Ok, Bool, true, false, IsSome, refl, sym, ap, ◌∙◌, arith, subst, append_assoc, length-append, bytes_eq, if◌then◌else◌}
use Rattle.std.specs.List.{list_all}
use Rattle.std.specs.Char.{is_ascii_digit}
use Rattle.std.specs.Str.Parse.{digits_value}
use Rattle.std.proofs.lemmas.List.{map-append, append-nil, length-map}
use Rattle.std.proofs.lemmas.List.Folds.{list_all-append}
use Rattle.std.proofs.lemmas.Slice.Eq.{bytes_eq-Decides}
use Rattle.httparse.specs.Grammar.{crlf, is_token_byte, is_value_byte, is_token, AllPass, ResponseHead, IsResponseHead, print_response}
use Rattle.http_header.specs.FieldValue.{FieldValue}
use Rattle.http_header.specs.HeaderMap.{Entries}
use Rattle.rc_http.specs.declared.message.HttpMessage.{HttpMessage}
use Rattle.rc_http.specs.declared.message.Kind.TheVariants.{Response}
use Rattle.rc_http.specs.HeadEnd.{head_len}
use Rattle.rc_http.specs.Heads.{Head, Reads, body_len, len_without, len_by, stated_len, values_of, message_of, most_body, of_response, fields_map}
use Rattle.rc_http.specs.Looks.{Looks, Gives}
use Rattle.rc_http.specs.Written as written
use Rattle.rc_http.specs.Written.{named, value_in, is_value, lines, head_text, statuses, text_at, status_text, status_line, text_or_none, length_names, type_names, own_names, response_names, response_fields, response_head, response_text, response_again, IsWritableResponse, TellsBody}
use Rattle.rc_http.proofs.AgainLemmas.{all_pass, first_true, rest_true, field_of, plain_fields, printed_fields, read_fields, tokens, stated_decimal, gives_again}
use Rattle.rc_http.proofs.ValueLemmas.{len_known, values_append}
use Rattle.rc_http.proofs.WholeLemmas.{whole_response}

-- ---- the status

-- a row is its number in three digits, a space and a phrase
abbrev is_row : ℕ × List ℕ → Bool
is_row row =
    (length (take 3 row.1) == 3) && list_all is_ascii_digit (take 3 row.1) && (digits_value 10 (take 3 row.1) == row.0)
    && bytes_eq row.1 (take 3 row.1 ++ 32 ∷ drop 4 row.1) && list_all is_value_byte (drop 4 row.1)

text_by : (p : ℕ × List ℕ → Bool) (n : ℕ) (row : ℕ × List ℕ) (rows : List (ℕ × List ℕ)) (t : List ℕ) (b : Bool) → (n == row.0) ≡ b
    → text_at n (row ∷ rows) ≡ Some t → p row ≡ true → (text_at n rows ≡ Some t → p (n, t) ≡ true) → p (n, t) ≡ true
text_by p n row rows t true is e here later =
    let found : Some row.1 ≡ Some t = rw is at e in
    let text : row.1 ≡ t = cc in
    let number : n ≡ row.0 = grind (arith, is) in
    ap (λ k. p (k, t)) number ∙ ap (λ v. p (row.0, v)) (sym text) ∙ here
text_by p n row rows t false is e here later =
    let more : text_at n rows ≡ Some t = rw is at e in later more

text_passes : (p : ℕ × List ℕ → Bool) (n : ℕ) (rows : List (ℕ × List ℕ)) (t : List ℕ) → text_at n rows ≡ Some t
    → list_all p rows ≡ true → p (n, t) ≡ true
text_passes p n [] t e all = cc
text_passes p n (row ∷ rows) t e all =
    text_by p n row rows t (n == row.0) refl e (first_true (p row) (list_all p rows) all)
    (λ later. text_passes p n rows t later (rest_true (p row) (list_all p rows) all))

pub record IsStatus (n : ℕ) (t : List ℕ) : Type 0 where
  pub long : length (take 3 t) ≡ 3
  pub digits : AllPass is_ascii_digit (take 3 t)
  pub number : digits_value 10 (take 3 t) ≡ n
  pub parts : t ≡ take 3 t ++ 32 ∷ drop 4 t
  pub phrase : AllPass is_value_byte (drop 4 t)

same_number : (a b : ℕ) → (a == b) ≡ true → a ≡ b
same_number a b e = grind (arith, e)

same_octets : (a b : List ℕ) → bytes_eq a b ≡ true → a ≡ b
same_octets a b e = grind (arith, e, bytes_eq-Decides a b)

four_true : (a b c d e : Bool) → (a && b && c && d && e) ≡ true → (a ≡ true) × (b ≡ true) × (c ≡ true) × (d ≡ true) × (e ≡ true)
four_true true true true true true is = (refl, refl, refl, refl, refl)
four_true false b c d e is = cc
four_true true false c d e is = cc
four_true true true false d e is = cc
four_true true true true false e is = cc
four_true true true true true false is = cc

row_is : (n : ℕ) (t : List ℕ) → is_row (n, t) ≡ true → IsStatus n t
row_is n t e =
    let all = four_true (length (take 3 t) == 3) (list_all is_ascii_digit (take 3 t)) (digits_value 10 (take 3 t) == n)
    (bytes_eq t (take 3 t ++ 32 ∷ drop 4 t)) (list_all is_value_byte (drop 4 t)) e in
    record {
      long = same_number (length (take 3 t)) 3 all.0;
      digits = all_pass is_ascii_digit (take 3 t) all.1;
      number = same_number (digits_value 10 (take 3 t)) n all.2;
      parts = same_octets t (take 3 t ++ 32 ∷ drop 4 t) all.3;
      phrase = all_pass is_value_byte (drop 4 t) all.4;
    }

status_is : (n : ℕ) (t : List ℕ) → status_text n ≡ Some t → IsStatus n t
status_is n t e = row_is n t (text_passes is_row n statuses t e refl)

-- ---- the fields

length_tokens : (b : Bool) → list_all is_token (if b then [] else codes "Content-Length" ∷ []) ≡ true
unfolding is_token_byte
length_tokens true = refl
length_tokens false = refl

type_tokens : (body : List ℕ) → list_all is_token (type_names body) ≡ true
unfolding is_token_byte
type_tokens [] = refl
type_tokens (b ∷ body) = refl

own_tokens : (a b : Bool) → list_all is_token (if a then codes "Location" ∷ [] else if b then codes "Allow" ∷ [] else []) ≡ true
unfolding is_token_byte
own_tokens true b = refl
own_tokens false true = refl
own_tokens false false = refl

both_true : (a b : Bool) → a ≡ true → b ≡ true → (a && b) ≡ true
both_true a b e f = rw e f

response_tokens : (n : ℕ) (body : List ℕ) → list_all is_token (response_names n body) ≡ true
response_tokens n body =
    list_all-append is_token (length_names n ++ type_names body) (own_names n)
    ∙ both_true (list_all is_token (length_names n ++ type_names body)) (list_all is_token (own_names n))
    (list_all-append is_token (length_names n) (type_names body)
    ∙ both_true (list_all is_token (length_names n)) (list_all is_token (type_names body)) (length_tokens (n == 204)) (type_tokens body))
    (own_tokens (n == 201) (n == 405))

few_length : (b : Bool) → length (if b then [] else codes "Content-Length" ∷ []) ≤ 1
few_length true = omega arith
few_length false = omega arith

few_type : (body : List ℕ) → length (type_names body) ≤ 1
few_type [] = omega arith
few_type (b ∷ body) = omega arith

few_own : (a b : Bool) → length (if a then codes "Location" ∷ [] else if b then codes "Allow" ∷ [] else []) ≤ 1
few_own true b = omega arith
few_own false true = omega arith
few_own false false = omega arith

few_response : (fields : Entries FieldValue) (n : ℕ) (body : List ℕ) → length (named fields (response_names n body)) ≤ 64
few_response fields n body =
    omega (
      arith,
      length-map {B = List ℕ × List ℕ} (response_names n body) (λ name. (name, value_in fields name)),
      length-append (length_names n ++ type_names body) (own_names n),
      length-append (length_names n) (type_names body),
      few_length (n == 204),
      few_type body,
      few_own (n == 201) (n == 405),
    )

-- the values of one name
values_named : (fields : Entries FieldValue) (name : List ℕ) (a b : List (List ℕ))
    → values_of name (named fields (a ++ b)) ≡ values_of name (named fields a) ++ values_of name (named fields b)
values_named fields name a b =
    ap (values_of name) (map-append (λ n. (n, value_in fields n)) a b) ∙ values_append name (named fields a) (named fields b)

values_three : (fields : Entries FieldValue) (name : List ℕ) (a b c : List (List ℕ)) → values_of name (named fields b) ≡ []
    → values_of name (named fields c) ≡ [] → values_of name (named fields (a ++ b ++ c)) ≡ values_of name (named fields a)
values_three fields name a b c no-b no-c =
    values_named fields name (a ++ b) c ∙ ap (λ l. l ++ values_of name (named fields c)) (values_named fields name a b)
    ∙ ap (λ l. (values_of name (named fields a) ++ l) ++ values_of name (named fields c)) no-b
    ∙ ap (λ l. (values_of name (named fields a) ++ []) ++ l) no-c
    ∙ append-nil (values_of name (named fields a) ++ []) ∙ append-nil (values_of name (named fields a))

type_others : (fields : Entries FieldValue) (body : List ℕ)
    → (values_of (codes "Transfer-Encoding") (named fields (type_names body)) ≡ [])
    × (values_of (codes "Content-Length") (named fields (type_names body)) ≡ [])
type_others fields [] = (refl, refl)
type_others fields (b ∷ body) = (refl, refl)

own_others : (fields : Entries FieldValue) (a b : Bool)
    → (values_of (codes "Transfer-Encoding") (named fields (if a then codes "Location" ∷ [] else if b then codes "Allow" ∷ [] else [])) ≡
    [])
    × (values_of (codes "Content-Length") (named fields (if a then codes "Location" ∷ [] else if b then codes "Allow" ∷ [] else [])) ≡ [])
own_others fields true b = (refl, refl)
own_others fields false true = (refl, refl)
own_others fields false false = (refl, refl)

length_encodings : (fields : Entries FieldValue) (b : Bool)
    → values_of (codes "Transfer-Encoding") (named fields (if b then [] else codes "Content-Length" ∷ [])) ≡ []
length_encodings fields true = refl
length_encodings fields false = refl

response_encodings : (fields : Entries FieldValue) (n : ℕ) (body : List ℕ)
    → values_of (codes "Transfer-Encoding") (named fields (response_names n body)) ≡ []
response_encodings fields n body =
    values_three fields (codes "Transfer-Encoding") (length_names n) (type_names body) (own_names n)
    (type_others fields body).0 (own_others fields (n == 201) (n == 405)).0
    ∙ length_encodings fields (n == 204)

lengths_by : (fields : Entries FieldValue) (n : ℕ) (body : List ℕ) (b : Bool) → (n == 204) ≡ b → (n ≢ 204 → TellsBody fields body)
    → (n ≡ 204 → body ≡ []) → length body ≤ most_body Response
    → len_by Response (values_of (codes "Content-Length") (named fields (if b then [] else codes "Content-Length" ∷ []))) ≡ Ok (length body)
lengths_by fields n body true is tells none le =
    let e = none (same_number n 204 is) in ap (λ l. Ok (length l)) (sym e)
lengths_by fields n body false is tells none le =
    let other : n ≢ 204 = grind (arith, is) in
    ap (stated_len Response) (tells other).len ∙ stated_decimal Response (length body) le

response_lengths : (m : HttpMessage) → IsWritableResponse m
    → len_by Response (values_of (codes "Content-Length") (response_fields m)) ≡ Ok (length m.body)
response_lengths m w =
    ap (len_by Response) (values_three m.fields (codes "Content-Length") (length_names m.status) (type_names m.body) (own_names m.status)
    (type_others m.fields m.body).1 (own_others m.fields (m.status == 201) (m.status == 405)).1)
    ∙ lengths_by m.fields m.status m.body (m.status == 204) refl w.tells w.none w.body

-- ---- the head

abbrev answer_with : List ℕ → List (List ℕ × List ℕ) → ResponseHead
answer_with t fs = record {
  blank = [];
  minor = 1;
  digits = take 3 t;
  reason = Some (drop 4 t);
  line_end = crlf;
  fields = map field_of fs;
  last = crlf;
}

answer_is : (m : HttpMessage) (t : List ℕ) → IsWritableResponse m → IsStatus m.status t → IsResponseHead (answer_with t (response_fields m))
answer_is m t w s = record {
  minor = omega arith;
  digits = (s.long, s.digits);
  reason = s.phrase;
  fields = plain_fields (response_fields m) (tokens m.fields (response_names m.status m.body) (response_tokens m.status m.body) w.values);
}

parts_printed : (d p : List ℕ) (fs : List (List ℕ × List ℕ))
    → print_response (record { blank = []; minor = 1; digits = d; reason = Some p; line_end = crlf; fields = map field_of fs; last = crlf })
    ≡ head_text (codes "HTTP/1.1 " ++ (d ++ 32 ∷ p)) fs
unfolding print_response
parts_printed d p fs = rw (printed_fields fs)
    (ap (λ l. codes "HTTP/1.1 " ++ l) (sym (append_assoc ((d ++ 32 ∷ p) ++ written.crlf) (lines fs) written.crlf)))

answer_printed : (t : List ℕ) (fs : List (List ℕ × List ℕ)) → t ≡ take 3 t ++ 32 ∷ drop 4 t
    → print_response (answer_with t fs) ≡ head_text (codes "HTTP/1.1 " ++ t) fs
answer_printed t fs e = parts_printed (take 3 t) (drop 4 t) fs ∙ ap (λ l. head_text (codes "HTTP/1.1 " ++ l) fs) (sym e)

abbrev parts_with : ℕ → List (List ℕ × List ℕ) → Head
parts_with n fs = record { minor = 1; method = []; target = []; status = n; fields = fs }

abbrev parts : HttpMessage → Head
parts m = parts_with m.status (response_fields m)

parts_are : (m : HttpMessage) (t : List ℕ) → IsWritableResponse m → IsStatus m.status t
    → parts m ≡ of_response (answer_with t (response_fields m))
parts_are m t w s =
    let fs = read_fields (response_fields m) (tokens m.fields (response_names m.status m.body) (response_tokens m.status m.body) w.values)
    in
    ap (λ n. parts_with n (response_fields m)) (sym s.number) ∙ ap (λ l. parts_with (digits_value 10 (take 3 t)) l) (sym fs)

response_len : (m : HttpMessage) → IsWritableResponse m → body_len Response (parts m) ≡ Ok (length m.body)
response_len m w =
    len_known Response 1 (response_fields m) refl
    ∙ ap (λ vs. len_without Response vs (values_of (codes "Content-Length") (response_fields m)))
    (response_encodings m.fields m.status m.body)
    ∙ response_lengths m w

abbrev message_with : HttpMessage → List ℕ → List ℕ → HttpMessage
message_with m method target = record {
  method = method;
  target = target;
  status = m.status;
  fields = fields_map (response_fields m);
  body =
      m.body;
}

again_is : (m : HttpMessage) → m.method ≡ [] → m.target ≡ [] → message_of (parts m) m.body ≡ response_again m
again_is m a b = ap (λ l. message_with m l []) (sym a) ∙ ap (λ l. message_with m m.method l) (sym b)

read_with : (m : HttpMessage) (t rest : List ℕ) → IsWritableResponse m → status_text m.status ≡ Some t
    → Looks Response (response_text m ++ rest) (Gives (response_again m) (length (response_text m)))
read_with m t rest w e =
    let s = status_is m.status t e in
    let head = answer_with t (response_fields m) in
    let line : head_text (codes "HTTP/1.1 " ++ t) (response_fields m) ≡ response_head m =
    ap (λ o. head_text (codes "HTTP/1.1 " ++ text_or_none o) (response_fields m)) (sym e) in
    let buf : print_response (answer_with t (response_fields m)) ≡ response_head m = answer_printed t (response_fields m) s.parts ∙ line in
    let is = answer_is m t w s in
    let whole : head_len (response_head m ++ (m.body ++ rest)) ≡ Some (length (response_head m)) =
    ap (λ l. head_len (l ++ (m.body ++ rest))) (sym buf)
    ∙ whole_response (answer_with t (response_fields m)) (m.body ++ rest) is ∙ ap (λ l. Some (length l)) buf in
    let from : response_head m ≡ print_response (answer_with t (response_fields m)) ++ [] =
    sym buf ∙ sym (append-nil (print_response (answer_with t (response_fields m)))) in
    let reads : Reads Response (response_head m) (parts m) =
    ((answer_with t (response_fields m), (is, from), parts_are m t w s), few_response m.fields m.status m.body) in
    let read = gives_again Response (response_head m) m.body rest (parts m) whole w.head reads (response_len m w) in
    subst (λ n. Looks Response (response_text m ++ rest) (Gives n (length (response_text m)))) (again_is m w.method w.target) read

read_by : (m : HttpMessage) (rest : List ℕ) (o : Option (List ℕ)) → IsWritableResponse m → status_text m.status ≡ o → IsSome o
    → Looks Response (response_text m ++ rest) (Gives (response_again m) (length (response_text m)))
read_by m rest None w e some = cc
read_by m rest (Some t) w e some = read_with m t rest w e

pub response_read_again : (m : HttpMessage) (text rest : List ℕ) → IsWritableResponse m → text ≡ response_text m
    → Looks Response (text ++ rest) (Gives (response_again m) (length text))
response_read_again m text rest w is =
    subst (λ l. Looks Response (l ++ rest) (Gives (response_again m) (length l))) (sym is)
    (read_by m rest (status_text m.status) w refl w.status)
