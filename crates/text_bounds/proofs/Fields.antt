-- Messages that can be written, by the lengths of their parts.
use Rattle.std.proofs.Common.{◌≡◌, ◌≢◌, ◌==◌, ◌+◌, ◌^◌, ◌<◌, ◌≤◌, ◌&&◌, not, nat_le, IsTrue, ℕ, Bool, true, false, List, [], ◌∷◌, ◌++◌, codes, length, reverse, refl, sym, ap, subst, arith, length-append, append-nil}
use Rattle.std.specs.Prelude.{IsSome}
use Rattle.std.specs.List.{list_all}
use Rattle.std.specs.Fmt.{decimal}
use Rattle.std.proofs.lemmas.Bool.{and_parts, and_from}
use Rattle.std.proofs.lemmas.Bool.Decides.{nat_tests}
use Rattle.std.proofs.lemmas.Fmt.{length-decimal-le}
use Rattle.std.proofs.lemmas.List.Sums.{AllPass-from_list_all, list_all-from_AllPass}
use Rattle.httparse.proofs.TrimLemmas.{AllPass-reverse}
use Rattle.http_header.specs.HeaderMap.{Entries}
use Rattle.http_header.specs.FieldValue.{FieldValue}
use Rattle.yang_values.specs.Prefixes.{is_value_octet}
use Rattle.yang_values.proofs.PrefixText.{decimal_octets}
use Rattle.rc_http.specs.declared.message.HttpMessage.{HttpMessage}
use Rattle.rc_http.specs.Heads.{fields_map}
use Rattle.rc_http.specs.Written.{SameFields, TellsBody, crlf, field_line, head_text, is_method, is_target, is_unspaced, is_value, lines, named, type_names, request_fields, response_names, status_line, status_text, value_in, IsWritableRequest, IsWritableResponse}
use Rattle.rc_resource.specs.declared.reply.Reply.{Reply}
use Rattle.rc_resource.specs.Messages as messages
use Rattle.rc_resource.specs.Messages.{field, if_type, length_field, own_field, reply_message, type_field}
use Rattle.text_bounds.proofs.Texts.{all_also}

-- ---- values of fields

-- visible ASCII
abbrev pub is_seen : ℕ → Bool
is_seen b = nat_le 33 b && nat_le b 126

seen_or_space : (b : ℕ) → is_seen b ≡ true → (nat_le 32 b && nat_le b 126) ≡ true
seen_or_space b h = grind (arith, nat_tests, h)

seen_no_space : (b : ℕ) → is_seen b ≡ true → not (b == 32) ≡ true
seen_no_space b h = grind (arith, nat_tests, h)

seen_value_octet : (b : ℕ) → is_value_octet b ≡ true → is_seen b ≡ true
seen_value_octet b h = grind (arith, nat_tests, h)

unspaced : (v : List ℕ) → list_all is_seen v ≡ true → is_unspaced v ≡ true
unspaced [] all = refl
unspaced (b ∷ v) all = seen_no_space b (and_parts (is_seen b) (list_all is_seen v) all).0

reversed : (v : List ℕ) → list_all is_seen v ≡ true → list_all is_seen (reverse v) ≡ true
reversed v all = list_all-from_AllPass is_seen (reverse v) (AllPass-reverse is_seen v (AllPass-from_list_all is_seen v all))

-- visible ASCII can be the value of a field
pub seen_value : (v : List ℕ) → list_all is_seen v ≡ true → is_value v ≡ true
seen_value v all =
    and_from _ _ (and_from _ _ (all_also is_seen (λ b. nat_le 32 b && nat_le b 126) seen_or_space v all) (unspaced v all))
    (unspaced (reverse v) (reversed v all))

pub seen_octets : (v : List ℕ) → list_all is_value_octet v ≡ true → list_all is_seen v ≡ true
seen_octets v all = all_also is_value_octet is_seen seen_value_octet v all

count_value : (n : ℕ) → n < 2 ^ 64 → is_value (decimal n) ≡ true
count_value n h = seen_value (decimal n) (seen_octets (decimal n) (decimal_octets n h))

count_size : (n : ℕ) → n < 10 ^ 9 → length (decimal n) ≤ 9
count_size n h = length-decimal-le 9 n (omega arith) h (omega arith)

-- ---- lines

pub record AreLines (n : ℕ) (fields : List (List ℕ × List ℕ)) : Type 0 where
  pub size : length (lines fields) ≤ n

no_lines : AreLines 0 []
no_lines = record { size = omega arith }

-- a field more, whose name and value have k octets at most
one_line : (k n : ℕ) (f : List ℕ × List ℕ) (fs : List (List ℕ × List ℕ)) → length f.0 + length f.1 ≤ k → AreLines n fs
    → AreLines (k + 4 + n) (f ∷ fs)
one_line k n f fs short rest =
    let line : length (field_line f) ≡ length (f.0 ++ 58 ∷ 32 ∷ f.1) + 2 = length-append (f.0 ++ 58 ∷ 32 ∷ f.1) crlf in
    let value : length (f.0 ++ 58 ∷ 32 ∷ f.1) ≡ length f.0 + length (58 ∷ 32 ∷ f.1) = length-append f.0 (58 ∷ 32 ∷ f.1) in
    let all : length (lines (f ∷ fs)) ≡ length (field_line f) + length (lines fs) = length-append (field_line f) (lines fs) in
    let p : length (lines fs) ≤ n = rest.size in
    record { size = omega (arith, line, value, all, p, short) }

head_size : (a n : ℕ) (start : List ℕ) (fields : List (List ℕ × List ℕ)) → length start ≤ a → AreLines n fields
    → length (head_text start fields) ≤ a + n + 4
head_size a n start fields short are =
    let all : length (head_text start fields) ≡ length (start ++ crlf ++ lines fields) + 2 = length-append
    (start ++ crlf ++ lines fields) crlf in
    let front : length (start ++ crlf ++ lines fields) ≡ length (start ++ crlf) + length (lines fields) = length-append (start ++ crlf)
    (lines fields) in
    let first : length (start ++ crlf) ≡ length start + 2 = length-append start crlf in
    let p : length (lines fields) ≤ n = are.size in
    omega (arith, all, front, first, p, short)

-- ---- requests

abbrev asked_with : List ℕ → List ℕ → List (List ℕ × List ℕ) → List ℕ → HttpMessage
asked_with method target fields body = record { method = method; target = target; status = 0; fields = fields_map fields; body = body }

abbrev pub asking : List ℕ → List ℕ → List ℕ → List ℕ → HttpMessage
asking method target host body = asked_with method target (messages.request_fields host body) body

-- the parts of a request that are short enough
pub record IsAsking (method target host body : List ℕ) : Type 0 where
  pub method_is : IsTrue (is_method method)
  pub method_size : length method ≤ 16
  pub target_is : IsTrue (is_target target)
  pub target_size : length target ≤ 1000
  pub host_is : list_all is_seen host ≡ true
  pub host_size : length host ≤ 100
  pub body_size : length body ≤ 1048576

start_size : (method target : List ℕ) → length method ≤ 16 → length target ≤ 1000
    → length (method ++ 32 ∷ target ++ codes " HTTP/1.1") ≤ 1026
start_size method target p q =
    let all : length (method ++ 32 ∷ target ++ codes " HTTP/1.1") ≡ length (method ++ 32 ∷ target) + 9 = length-append
    (method ++ 32 ∷ target) (codes " HTTP/1.1") in
    let front : length (method ++ 32 ∷ target) ≡ length method + length (32 ∷ target) = length-append method (32 ∷ target) in
    omega (arith, all, front, p, q)

within : (a n m : ℕ) → n ≤ a → a ≤ m → n ≤ m
within a n m p q = omega arith

some_size : (b : ℕ) (bs : List ℕ) → (length (b ∷ bs) == 0) ≡ false
some_size b bs = grind (arith, nat_tests)

-- the fields of a request with a body
abbrev with_body : List ℕ → List ℕ → List (List ℕ × List ℕ)
with_body host body = field (codes "Host") host ∷ type_field ∷ length_field body ∷ []

fields_some : (host : List ℕ) (b : ℕ) (bs : List ℕ) → messages.request_fields host (b ∷ bs) ≡ with_body host (b ∷ bs)
fields_some host b bs = rw (some_size b bs) refl

host_line : (host : List ℕ) (n : ℕ) (fs : List (List ℕ × List ℕ)) → length host ≤ 100 → AreLines n fs
    → AreLines (108 + n) ((codes "Host", host) ∷ fs)
host_line host n fs short are = one_line 104 n (codes "Host", host) fs (omega (arith, short)) are

type_line : (n : ℕ) (fs : List (List ℕ × List ℕ)) → AreLines n fs
    → AreLines (42 + n) ((codes "Content-Type", codes "application/yang-data+json") ∷ fs)
type_line n fs are = one_line 38 n (codes "Content-Type", codes "application/yang-data+json") fs (omega arith) are

length_line : (size n : ℕ) (fs : List (List ℕ × List ℕ)) → size < 10 ^ 9 → AreLines n fs
    → AreLines (27 + n) ((codes "Content-Length", decimal size) ∷ fs)
length_line size n fs small are = let digits = count_size size small in one_line 23 n (codes "Content-Length", decimal size) fs (omega
    (arith, digits)) are

body_writable : (method target host : List ℕ) (b : ℕ) (bs : List ℕ) → IsAsking method target host (b ∷ bs)
    → IsWritableRequest (asked_with method target (with_body host (b ∷ bs)) (b ∷ bs))
body_writable method target host b bs is =
    let short = is.body_size in
    record {
      method = is.method_is;
      target = is.target_is;
      status = refl;
      fields = λ name. refl;
      values = and_from _ _ (seen_value host is.host_is) (and_from _ _ refl (and_from _ _ (count_value (length (b ∷ bs)) (omega
          (arith, short))) refl));
      tells = λ some. record { len = refl; type = λ there. refl };
      head = within 1207 _ 8192 (head_size 1026 177 _ (request_fields (asked_with method target (with_body host (b ∷ bs)) (b ∷ bs)))
          (start_size method target is.method_size is.target_size)
          (host_line host 69 _ is.host_size (type_line 27 _ (length_line (length (b ∷ bs)) 0 [] (omega (arith, short)) no_lines))))
          (omega arith);
      body = short;
    }

pub asking_writable : (method target host body : List ℕ) → IsAsking method target host body
    → IsWritableRequest (asking method target host body)
asking_writable method target host [] is = record {
  method = is.method_is;
  target = is.target_is;
  status = refl;
  fields = λ name. refl;
  values = and_from _ _ (seen_value host is.host_is) refl;
  tells = λ some. absurd (omega (arith, some));
  head = within 1138 _ 8192 (head_size 1026 108 _ (request_fields (asking method target host []))
      (start_size method target is.method_size is.target_size)
      (host_line host 0 [] is.host_size no_lines)) (omega arith);
  body = omega arith;
}
asking_writable method target host (b ∷ bs) is =
    subst (λ fs. IsWritableRequest (asked_with method target fs (b ∷ bs))) (sym (fields_some host b bs))
    (body_writable method target host b bs is)

-- ---- responses

abbrev pub answering : ℕ → List (List ℕ × List ℕ) → List ℕ → HttpMessage
answering status fields body = record { method = []; target = []; status = status; fields = fields_map fields; body = body }

-- the fields with these names are as they are written
record IsCarried (m : HttpMessage) (names : List (List ℕ)) : Type 0 where
  pub fields : SameFields m.fields (fields_map (named m.fields names))
  pub values : IsTrue (list_all (λ f. is_value f.1) (named m.fields names))
  pub lines : AreLines 4000 (named m.fields names)

-- a status with which a response can be written
pub record IsKnown (status : ℕ) : Type 0 where
  pub some : IsSome (status_text status)
  pub line : length (status_line status) ≤ 40

carried_writable : (status : ℕ) (fs : List (List ℕ × List ℕ)) (body : List ℕ) (names : List (List ℕ)) → IsKnown status
    → response_names status body ≡ names
    → IsCarried (answering status fs body) names → (status ≢ 204 → TellsBody (fields_map fs) body) →
    (status ≡ 204 → body ≡ []) → length body ≤ 16777216
    → IsWritableResponse (answering status fs body)
carried_writable status fs body names known e carried tells none short =
    let m : HttpMessage = answering status fs body in
    let c : IsCarried m (response_names status body) = subst (IsCarried m) (sym e) carried in
    record {
      method = refl;
      target = refl;
      status = known.some;
      fields = c.fields;
      values = c.values;
      tells = tells;
      none = none;
      head = within 4044 _ 8192 (head_size 40 4000 (status_line status) (named m.fields
          (response_names status body)) known.line c.lines) (omega arith);
      body = short;
    }

more_lines : (m n : ℕ) (fs : List (List ℕ × List ℕ)) → m ≤ n → AreLines m fs → AreLines n fs
more_lines m n fs p f = let q = f.size in record { size = omega (arith, p, q) }

-- a status with no field of its own
pub record IsPlainStatus (status : ℕ) : Type 0 where
  pub known : IsKnown status
  pub full : (status == 204) ≡ false
  pub found : (status == 201) ≡ false
  pub allowed : (status == 405) ≡ false

plain_names : (status : ℕ) (body : List ℕ) → IsPlainStatus status → response_names status body ≡ codes "Content-Length" ∷ type_names body
plain_names status [] s = rw (s.full, s.found, s.allowed) refl
plain_names status (b ∷ body) s = rw (s.full, s.found, s.allowed) refl

not_empty : (status : ℕ) (body : List ℕ) → (status == 204) ≡ false → status ≡ 204 → body ≡ []
not_empty status body other e =
    let wrong : (204 == 204) ≡ false = subst (λ n. (n == 204) ≡ false) e other in
    absurd (let no : ⊥ = cc in no)

-- of an empty body the length alone is told
tells_none : (fields : Entries FieldValue) → value_in fields (codes "Content-Length") ≡ decimal 0 → TellsBody fields []
tells_none fields len = record { len = len; type = λ some. let no : ⊥ = omega (arith, some) in absurd no }

type_some : (b : ℕ) (bs : List ℕ) → if_type (b ∷ bs) ≡ type_field ∷ []
type_some b bs = rw (some_size b bs) refl

short_size : (body : List ℕ) → length body ≤ 16777216 → length body < 10 ^ 9
short_size body short = omega arith

-- a response with a body alone
plain_writable : (status : ℕ) (body : List ℕ) → IsPlainStatus status → length body ≤ 16777216
    → IsWritableResponse (answering status (length_field body ∷ if_type body) body)
plain_writable status [] s short =
    carried_writable status (length_field [] ∷ if_type []) [] (codes "Content-Length" ∷ []) s.known (plain_names status [] s)
    (record {
      fields = λ name. refl;
      values = and_from _ _ (count_value 0 (omega arith)) refl;
      lines = more_lines 27 4000 _ (omega arith) (length_line 0 0 [] (omega arith) no_lines);
    })
    (λ other. tells_none _ refl) (not_empty status [] s.full) short
plain_writable status (b ∷ bs) s short =
    subst (λ fs. IsWritableResponse (answering status (length_field (b ∷ bs) ∷ fs) (b ∷ bs))) (sym (type_some b bs))
    (carried_writable status (length_field (b ∷ bs) ∷ type_field ∷ []) (b ∷ bs)
    (codes "Content-Length" ∷ codes "Content-Type" ∷ []) s.known (plain_names status (b ∷ bs) s)
    (record {
      fields = λ name. refl;
      values = and_from _ _ (count_value (length (b ∷ bs)) (omega (arith, short))) refl;
      lines = more_lines 69 4000 _ (omega arith) (length_line (length (b ∷ bs)) 42 _ (short_size (b ∷ bs) short) (type_line 0 [] no_lines));
    })
    (λ other. record { len = refl; type = λ some. refl }) (not_empty status (b ∷ bs) s.full) short)

plain_fields : (r : Reply) → IsPlainStatus r.status → messages.response_fields r ≡ length_field r.body ∷ if_type r.body
plain_fields r s = rw (s.full, s.found, s.allowed) (ap (λ fs. length_field r.body ∷ fs) (append-nil (if_type r.body)))

-- a reply with such a status
pub reply_writable : (r : Reply) → IsPlainStatus r.status → length r.body ≤ 16777216 → IsWritableResponse (reply_message r)
reply_writable r s short =
    subst (λ fs. IsWritableResponse (answering r.status fs r.body)) (sym (plain_fields r s)) (plain_writable r.status r.body s short)

location_line : (location : List ℕ) (n : ℕ) (fs : List (List ℕ × List ℕ)) → length location ≤ 1000 → AreLines n fs
    → AreLines (1012 + n) ((codes "Location", location) ∷ fs)
location_line location n fs short are = one_line 1008 n (codes "Location", location) fs (omega (arith, short)) are

allow_line : (allow : List ℕ) (n : ℕ) (fs : List (List ℕ × List ℕ)) → length allow ≤ 100 → AreLines n fs
    → AreLines (109 + n) ((codes "Allow", allow) ∷ fs)
allow_line allow n fs short are = one_line 105 n (codes "Allow", allow) fs (omega (arith, short)) are

-- 201 with the path of what was made
pub made_writable : (location : List ℕ) → list_all is_seen location ≡ true → length location ≤ 1000
    → IsWritableResponse (answering 201 (length_field [] ∷ field (codes "Location") location ∷ []) [])
made_writable location seen short =
    carried_writable 201 (length_field [] ∷ field (codes "Location") location ∷ []) [] (codes "Content-Length" ∷ codes "Location" ∷ [])
    (record { some = refl; line = omega arith }) refl
    (record {
      fields = λ name. refl;
      values = and_from _ _ (count_value 0 (omega arith)) (and_from _ _ (seen_value location seen) refl);
      lines = more_lines 1039 4000 _ (omega arith) (length_line 0 1012 _ (omega arith) (location_line location 0 [] short no_lines));
    })
    (λ other. tells_none _ refl) (λ e. refl) (omega arith)

-- 204 with nothing
pub done_writable : IsWritableResponse (answering 204 [] [])
done_writable =
    carried_writable 204 [] [] [] (record { some = refl; line = omega arith }) refl
    (record { fields = λ name. refl; values = refl; lines = more_lines 0 4000 [] (omega arith) no_lines })
    (λ other. absurd (other refl)) (λ e. refl) (omega arith)

-- 405 with the methods that are allowed
pub refused_writable : (allow body : List ℕ) → is_value allow ≡ true → length allow ≤ 100 → length body ≤ 16777216
    → IsWritableResponse (answering 405 (length_field body ∷ if_type body ++ field (codes "Allow") allow ∷ []) body)
refused_writable allow [] is few short =
    carried_writable 405 (length_field [] ∷ if_type [] ++ field (codes "Allow") allow ∷ []) []
    (codes "Content-Length" ∷ codes "Allow" ∷ []) (record { some = refl; line = omega arith }) refl
    (record {
      fields = λ name. refl;
      values = and_from _ _ (count_value 0 (omega arith)) (and_from _ _ is refl);
      lines = more_lines 136 4000 _ (omega arith) (length_line 0 109 _ (omega arith) (allow_line allow 0 [] few no_lines));
    })
    (λ other. tells_none _ refl) (λ e. refl) short
refused_writable allow (b ∷ bs) is few short =
    subst (λ fs. IsWritableResponse (answering 405 (length_field (b ∷ bs) ∷ fs ++ field (codes "Allow") allow ∷ []) (b ∷ bs))) (sym
    (type_some b bs))
    (carried_writable 405 (length_field (b ∷ bs) ∷ (type_field ∷ []) ++ field (codes "Allow") allow ∷ []) (b ∷ bs)
    (codes "Content-Length" ∷ codes "Content-Type" ∷ codes "Allow" ∷ []) (record { some = refl; line = omega arith }) refl
    (record {
      fields = λ name. refl;
      values = and_from _ _ (count_value (length (b ∷ bs)) (omega (arith, short))) (and_from _ _ refl (and_from _ _ is refl));
      lines = more_lines 178 4000 _ (omega arith) (length_line (length (b ∷ bs)) 151 _ (short_size (b ∷ bs) short) (type_line 109 _
          (allow_line allow 0 [] few no_lines)));
    })
    (λ other. record { len = refl; type = λ some. refl }) (λ e. absurd (omega (arith, e))) short)
