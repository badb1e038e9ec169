-- A message that was written is read again, whatever follows.
use Rattle.std.proofs.Common.{◌≡◌, ◌==◌, ◌&&◌, codes, ℕ, ◌+◌, ◌^◌, ◌<◌, ◌≤◌, nat_le, nat_lt, List, [], ◌∷◌, ◌++◌, map, length, take, drop, reverse, Some, Ok, Bool, true, false, IsTrue, refl, sym, ap, ◌∙◌, arith, subst, append_assoc, length-append, All, IsUtf8, inl}
use Rattle.std.specs.List.{list_all, list_any, flat_map}
use Rattle.std.specs.Char.{is_ascii_digit, is_ascii_uppercase, is_ascii_alphanumeric}
use Rattle.std.specs.Fmt.{decimal}
use Rattle.std.specs.Str.Parse.{digits_value}
use Rattle.std.proofs.Math.Seq.{take-append_seam, drop-append_seam}
use Rattle.std.proofs.lemmas.List.{append-nil}
use Rattle.std.proofs.lemmas.List.Elements.{All-nil, All-head, All-tail, All-cons, All-weaker, All-map}
use Rattle.std.proofs.lemmas.Fmt.{digits_decimal, digits_value-decimal, decimal_nonempty, length-decimal-le}
use Rattle.std.proofs.lemmas.Str.Ascii.{IsAscii-from_all}
use Rattle.std.proofs.lemmas.Str.{IsUtf8-from_ascii}
use Rattle.httparse.proofs.TrimLemmas.{AllPass-reverse, trim_ows_space}
use Rattle.httparse.proofs.GrammarLemmas.{cons-append}
use Rattle.httparse.specs.Grammar.{crlf, is_token_byte, is_value_byte, is_uri_byte, is_token, IsToken, AllPass, skip_ows, is_ows, trim_ows, Field, IsField, print_field, RequestHead, IsRequestHead, print_request}
use Rattle.httparse.specs.Spans.{name_and_value}
use Rattle.http_header.specs.FieldValue.{FieldValue}
use Rattle.http_header.specs.HeaderMap.{Entries}
use Rattle.rc_http.specs.declared.message.HttpMessage.{HttpMessage}
use Rattle.rc_http.specs.declared.message.Kind.{Kind}
use Rattle.rc_http.specs.declared.message.Kind.TheVariants.{Request, Response}
use Rattle.rc_http.specs.HeadEnd.{head_len}
use Rattle.rc_http.specs.Heads.{Head, Reads, body_len, len_without, len_by, stated_len, values_of, message_of, most_body, of_request, fields_map}
use Rattle.rc_http.specs.Looks.{Looks, Gives, with_body}
use Rattle.rc_http.specs.Written as written
use Rattle.rc_http.specs.Written.{named, value_in, is_value, is_unspaced, field_line, lines, head_text, request_names, request_fields, request_head, request_text, request_again, IsWritableRequest, TellsBody}
use Rattle.rc_http.proofs.LookLemmas.{looks_after, le_true}
use Rattle.rc_http.proofs.ValueLemmas.{decimal_model, len_known}
use Rattle.rc_http.proofs.WholeLemmas.{whole_request}

-- ---- the length of the body

pub most_small : (kind : Kind) (n : ℕ) → n ≤ most_body kind → n < 2 ^ 64
most_small Request n le = omega (arith, le)
most_small Response n le = omega (arith, le)

most_short : (kind : Kind) (n : ℕ) → n ≤ most_body kind → n < 10 ^ 10
most_short Request n le = omega (arith, le)
most_short Response n le = omega (arith, le)

stated_by : (kind : Kind) (v : List ℕ) (n : ℕ) → 0 < length v → length v ≤ 10 → list_all is_ascii_digit v ≡ true
    → digits_value 10 v ≡ n → n ≤ most_body kind → stated_len kind v ≡ Ok n
stated_by kind v n some few digits value le = grind (arith, some, few, digits, value, le)

-- the decimal text of a length that may be is read as it
pub stated_decimal : (kind : Kind) (n : ℕ) → n ≤ most_body kind → stated_len kind (decimal n) ≡ Ok n
stated_decimal kind n le =
    let small = most_small kind n le in
    let some = decimal_nonempty n small in
    let few = length-decimal-le 10 n (omega arith) (most_short kind n le) small in
    let digits : list_all is_ascii_digit (decimal n) ≡ true = digits_decimal decimal_model n small in
    let value : digits_value 10 (decimal n) ≡ n = digits_value-decimal decimal_model n small in
    stated_by kind (decimal n) n some few digits value le

-- ---- the fields

abbrev pub field_of : List ℕ × List ℕ → Field
field_of f = record { name = f.0; raw = 32 ∷ f.1; end = crlf }

octet_token : (b : ℕ) → IsTrue (is_ascii_uppercase b) → IsTrue (is_token_byte b)
unfolding is_token_byte
octet_token b t = grind (arith, t)

octet_value : (b : ℕ) → IsTrue (nat_le 32 b && nat_le b 126) → IsTrue (is_value_byte b)
octet_value b t = grind (arith, t)

pub first_true : (a b : Bool) → (a && b) ≡ true → a ≡ true
first_true true b e = refl
first_true false b e = e

pub rest_true : (a b : Bool) → (a && b) ≡ true → b ≡ true
rest_true true b e = e
rest_true false b e = cc

-- a test of each octet, as a fact
pub all_pass : (p : ℕ → Bool) (xs : List ℕ) → list_all p xs ≡ true → AllPass p xs
all_pass p [] e = All-nil (λ b. IsTrue (p b))
all_pass p (x ∷ xs) e = All-cons (λ b. IsTrue (p b)) x xs (first_true (p x) (list_all p xs) e)
    (all_pass p xs (rest_true (p x) (list_all p xs) e))

-- one of some octets passes a test that they all pass
any_by : (p : ℕ → Bool) (b x : ℕ) (xs : List ℕ) (t : Bool) → (x == b) ≡ t → list_any (λ c. c == b) (x ∷ xs) ≡ true
    → p x ≡ true → (list_any (λ c. c == b) xs ≡ true → p b ≡ true) → p b ≡ true
any_by p b x xs true is e here later = let same : x ≡ b = grind (arith, is) in ap p (sym same) ∙ here
any_by p b x xs false is e here later = let more : list_any (λ c. c == b) xs ≡ true = rw is at e in later more

any_passes : (p : ℕ → Bool) (b : ℕ) (xs : List ℕ) → list_any (λ c. c == b) xs ≡ true → list_all p xs ≡ true → p b ≡ true
any_passes p b [] e all = cc
any_passes p b (x ∷ xs) e all =
    any_by p b x xs (x == b) refl e (first_true (p x) (list_all p xs) all)
    (λ later. any_passes p b xs later (rest_true (p x) (list_all p xs) all))

-- visible ASCII
abbrev is_seen : ℕ → Bool
is_seen b = nat_lt 32 b && nat_lt b 127

letter_seen : (b : ℕ) → is_ascii_alphanumeric b ≡ true → is_seen b ≡ true
letter_seen b e = grind (arith, e)

target_by : (b : ℕ) (t : Bool) → is_ascii_alphanumeric b ≡ t → written.is_target_octet b ≡ true → is_seen b ≡ true
target_by b true is e = letter_seen b is
target_by b false is e =
    let marks : list_any (λ c. c == b) (codes "/-._~%:=?&") ≡ true = rw is at e in
    any_passes is_seen b (codes "/-._~%:=?&") marks refl

target_seen : (b : ℕ) → IsTrue (written.is_target_octet b) → is_seen b ≡ true
target_seen b t = target_by b (is_ascii_alphanumeric b) refl t

seen_uri : (b : ℕ) → is_seen b ≡ true → IsTrue (is_uri_byte b)
seen_uri b t = grind (arith, t)

seen_ascii : (b : ℕ) → is_seen b ≡ true → b < 128
seen_ascii b t = grind (arith, t)

-- ---- the request line

pub method_token : (method : List ℕ) → IsTrue (written.is_method method) → IsToken method
method_token method t =
    let sizes = first_true (nat_lt 0 (length method) && nat_le (length method) 16) (list_all is_ascii_uppercase method) t in
    let some : 0 < length method = grind (arith, first_true (nat_lt 0 (length method)) (nat_le (length method) 16) sizes) in
    let letters = all_pass is_ascii_uppercase method
    (rest_true (nat_lt 0 (length method) && nat_le (length method) 16) (list_all is_ascii_uppercase method) t) in
    (some, All-weaker (λ b. IsTrue (is_ascii_uppercase b)) (λ b. IsTrue (is_token_byte b)) octet_token method letters)

pub target_uri : (target : List ℕ) → IsTrue (written.is_target target) → (0 < length target) × AllPass is_uri_byte target
target_uri target t =
    let some : 0 < length target = grind (arith, first_true (nat_lt 0 (length target)) (list_all written.is_target_octet target) t) in
    let octets = all_pass written.is_target_octet target (rest_true (nat_lt 0 (length target)) (list_all written.is_target_octet target) t)
    in (
      some,
      All-weaker (λ b. IsTrue (written.is_target_octet b)) (λ b. IsTrue (is_uri_byte b)) (λ b x. seen_uri b (target_seen b x)) target
          octets,
    )

pub target_text : (target : List ℕ) → IsTrue (written.is_target target) → IsUtf8 target
target_text target t =
    let octets = all_pass written.is_target_octet target (rest_true (nat_lt 0 (length target)) (list_all written.is_target_octet target) t)
    in
    IsUtf8-from_ascii target (IsAscii-from_all target
    (All-weaker (λ b. IsTrue (written.is_target_octet b)) (λ b. b < 128) (λ b x. seen_ascii b (target_seen b x)) target octets))

-- ---- the field lines

abbrev is_value_octet : ℕ → Bool
is_value_octet b = nat_le 32 b && nat_le b 126

skip_first : (v : List ℕ) → is_unspaced v ≡ true → AllPass is_value_octet v → skip_ows v ≡ v
skip_first [] e all = refl
skip_first (b ∷ v) e all =
    let first = All-head (λ c. IsTrue (is_value_octet c)) b v all in
    let plain : is_ows b ≡ false = grind (arith, e, first) in
    rw plain refl

-- a value that can be written is one that can be read, and is read as it stands
pub record IsPlainValue (v : List ℕ) : Type 0 where
  pub octets : AllPass is_value_byte v
  pub trimmed : trim_ows (32 ∷ v) ≡ v

pub plain : (v : List ℕ) → is_value v ≡ true → IsPlainValue v
plain v e =
    let front = first_true (list_all is_value_octet v && is_unspaced v) (is_unspaced (reverse v)) e in
    let octets = all_pass is_value_octet v (first_true (list_all is_value_octet v) (is_unspaced v) front) in
    let begins = rest_true (list_all is_value_octet v) (is_unspaced v) front in
    let ends = rest_true (list_all is_value_octet v && is_unspaced v) (is_unspaced (reverse v)) e in
    record {
      octets = All-weaker (λ b. IsTrue (is_value_octet b)) (λ b. IsTrue (is_value_byte b)) octet_value v octets;
      trimmed = trim_ows_space v (skip_first v begins octets) (skip_first (reverse v) ends (AllPass-reverse is_value_octet v octets));
    }

-- the lines of fields with tokens as names and such values
pub record IsPlainField (f : List ℕ × List ℕ) : Type 0 where
  pub name : IsToken f.0
  pub value : IsPlainValue f.1

plain_field : (f : List ℕ × List ℕ) → IsPlainField f → IsField (field_of f)
plain_field f is =
    let space : IsTrue (is_value_byte 32) = refl in
    record { name = is.name; raw = All-cons (λ b. IsTrue (is_value_byte b)) 32 f.1 space is.value.octets }

pub plain_fields : (fs : List (List ℕ × List ℕ)) → All IsPlainField fs → All IsField (map field_of fs)
plain_fields fs all = All-map IsField field_of fs (All-weaker IsPlainField (λ f. IsField (field_of f)) plain_field fs all)

pub printed_fields : (fs : List (List ℕ × List ℕ)) → flat_map print_field (map field_of fs) ≡ lines fs
printed_fields [] = refl
printed_fields (f ∷ fs) = ap (λ l. print_field (field_of f) ++ l) (printed_fields fs)

pub read_fields : (fs : List (List ℕ × List ℕ)) → All IsPlainField fs → map name_and_value (map field_of fs) ≡ fs
read_fields [] all = refl
read_fields (f ∷ fs) all =
    let first : name_and_value (field_of f) ≡ f = ap (λ v. (f.0, v)) (All-head IsPlainField f fs all).value.trimmed in
    let rest = read_fields fs (All-tail IsPlainField f fs all) in
    ap (λ g. g ∷ map name_and_value (map field_of fs)) first ∙ ap (λ l. f ∷ l) rest

-- fields by their names
pub tokens : (fields : Entries FieldValue) (names : List (List ℕ)) → list_all is_token names ≡ true
    → list_all (λ f. is_value f.1) (named fields names) ≡ true → All IsPlainField (named fields names)
tokens fields [] t v = All-nil IsPlainField
tokens fields (name ∷ names) t v =
    let test = first_true (is_token name) (list_all is_token names) t in
    let some : 0 < length name = grind (arith, first_true (nat_lt 0 (length name)) (list_all is_token_byte name) test) in
    let name-is : IsToken name = (some, all_pass is_token_byte name (rest_true (nat_lt 0 (length name)) (list_all is_token_byte name) test))
    in
    let value = plain (value_in fields name)
    (first_true (is_value (value_in fields name)) (list_all (λ f. is_value f.1) (named fields names)) v) in
    All-cons IsPlainField (name, value_in fields name) (named fields names) (record { name = name-is; value = value })
    (tokens fields names (rest_true (is_token name) (list_all is_token names) t)
    (rest_true (is_value (value_in fields name)) (list_all (λ f. is_value f.1) (named fields names)) v))

request_tokens : (body : List ℕ) → list_all is_token (request_names body) ≡ true
unfolding is_token_byte
request_tokens [] = refl
request_tokens (b ∷ body) = refl

-- ---- requests

abbrev head_with : List ℕ → List ℕ → List (List ℕ × List ℕ) → RequestHead
head_with method target fs = record {
  blank = [];
  method = method;
  target = target;
  minor = 1;
  line_end = crlf;
  fields = map field_of fs;
  last = crlf;
}

printed : (method target : List ℕ) (fs : List (List ℕ × List ℕ))
    → print_request (head_with method target fs) ≡ head_text (method ++ 32 ∷ target ++ codes " HTTP/1.1") fs
unfolding print_request
printed method target fs = rw (printed_fields fs) (simp (append_assoc, cons-append))

abbrev head_of : HttpMessage → RequestHead
head_of m = head_with m.method m.target (request_fields m)

head_is : (m : HttpMessage) → IsWritableRequest m → IsRequestHead (head_of m)
head_is m w = record {
  method = method_token m.method w.method;
  target = target_uri m.target w.target;
  target_text = target_text m.target w.target;
  minor = omega arith;
  fields = plain_fields (request_fields m) (tokens m.fields (request_names m.body) (request_tokens m.body) w.values);
}

few_request : (fields : Entries FieldValue) (body : List ℕ) → length (named fields (request_names body)) ≤ 64
few_request fields [] = omega arith
few_request fields (b ∷ body) = omega arith

abbrev message_with : HttpMessage → ℕ → HttpMessage
message_with m n = record { method = m.method; target = m.target; status = n; fields = fields_map (request_fields m); body = m.body }

abbrev parts_with : HttpMessage → List (List ℕ × List ℕ) → Head
parts_with m fs = record { minor = 1; method = m.method; target = m.target; status = 0; fields = fs }

-- the parts of the head
abbrev parts : HttpMessage → Head
parts m = record { minor = 1; method = m.method; target = m.target; status = 0; fields = request_fields m }

parts_are : (m : HttpMessage) → IsWritableRequest m → parts m ≡ of_request (head_of m)
parts_are m w =
    let fs = read_fields (request_fields m) (tokens m.fields (request_names m.body) (request_tokens m.body) w.values) in
    ap (λ l. parts_with m l) (sym fs)

reads_head : (m : HttpMessage) → IsWritableRequest m → Reads Request (request_head m) (parts m)
reads_head m w =
    let buf : request_head m ≡ print_request (head_of m) ++ [] = sym (printed m.method m.target (request_fields m))
    ∙ sym (append-nil (print_request (head_of m))) in
    ((head_of m, (head_is m w, buf), parts_are m w), few_request m.fields m.body)

-- the length of its body
request_encodings : (fields : Entries FieldValue) (body : List ℕ)
    → values_of (codes "Transfer-Encoding") (named fields (request_names body)) ≡ []
request_encodings fields [] = refl
request_encodings fields (b ∷ body) = refl

request_lengths : (fields : Entries FieldValue) (body : List ℕ) → (0 < length body → TellsBody fields body)
    → length body ≤ most_body Request
    → len_by Request (values_of (codes "Content-Length") (named fields (request_names body))) ≡ Ok (length body)
request_lengths fields [] tells le = refl
request_lengths fields (b ∷ body) tells le =
    let len = (tells (omega arith)).len in
    ap (stated_len Request) len ∙ stated_decimal Request (length (b ∷ body)) le

request_len : (m : HttpMessage) → IsWritableRequest m → body_len Request (parts m) ≡ Ok (length m.body)
request_len m w =
    len_known Request 1 (request_fields m) refl
    ∙ ap (λ vs. len_without Request vs (values_of (codes "Content-Length") (request_fields m))) (request_encodings m.fields m.body)
    ∙ request_lengths m.fields m.body w.tells w.body

-- a head and a body that are read, whatever follows
pub gives_again : (kind : Kind) (head body rest : List ℕ) (h : Head) → head_len (head ++ (body ++ rest)) ≡ Some (length head)
    → length head ≤ 8192 → Reads kind head h → body_len kind h ≡ Ok (length body)
    → Looks kind ((head ++ body) ++ rest) (Gives (message_of h body) (length (head ++ body)))
gives_again kind head body rest h whole short reads len =
    let xs : List ℕ = head ++ (body ++ rest) in
    let front : take (length head) (head ++ (body ++ rest)) ≡ head = take-append_seam head (body ++ rest) in
    let back : drop (length head) (head ++ (body ++ rest)) ≡ body ++ rest = drop-append_seam head (body ++ rest) in
    let bodied : take (length body) (drop (length head) (head ++ (body ++ rest))) ≡ body =
    ap (take (length body)) back ∙ take-append_seam body rest in
    let test : nat_le (length head + length body) (length (head ++ (body ++ rest))) ≡ true =
    le_true (length head + length body) (length (head ++ (body ++ rest)))
    (omega (arith, length-append head (body ++ rest), length-append body rest)) in
    let is : with_body (head ++ (body ++ rest)) (length head) h (body_len kind h) ≡ Gives (message_of h body) (length head + length body) =
    rw (len, test, bodied) refl in
    let long : length head + length body ≡ length (head ++ body) = sym (length-append head body) in
    let gives : Gives (message_of h body) (length (head ++ body)) ≡ with_body (head ++ (body ++ rest)) (length head) h (body_len kind h) =
    ap (Gives (message_of h body)) (sym long) ∙ sym is in
    subst (λ l. Looks kind l (Gives (message_of h body) (length (head ++ body)))) (sym (append_assoc head body rest))
    (looks_after kind (head ++ (body ++ rest)) (Gives (message_of h body) (length (head ++ body))) (length head) whole short
    (inl (h, subst (λ l. Reads kind l h) (sym front) reads, gives)))

again_is : (m : HttpMessage) → m.status ≡ 0 → message_of (parts m) m.body ≡ request_again m
again_is m zero = ap (λ n. message_with m n) (sym zero)

pub request_read_again : (m : HttpMessage) (text rest : List ℕ) → IsWritableRequest m → text ≡ request_text m
    → Looks Request (text ++ rest) (Gives (request_again m) (length text))
request_read_again m text rest w is =
    let buf = printed m.method m.target (request_fields m) in
    let whole : head_len (request_head m ++ (m.body ++ rest)) ≡ Some (length (request_head m)) =
    ap (λ l. head_len (l ++ (m.body ++ rest))) (sym buf) ∙ whole_request (head_of m) (m.body ++ rest) (head_is m w)
    ∙ ap (λ l. Some (length l)) buf in
    let read = gives_again Request (request_head m) m.body rest (parts m) whole w.head (reads_head m w) (request_len m w) in
    let again : message_of (parts m) m.body ≡ request_again m = again_is m w.status in
    subst (λ l. Looks Request (l ++ rest) (Gives (request_again m) (length l))) (sym is)
    (subst (λ n. Looks Request (request_text m ++ rest) (Gives n (length (request_text m)))) again read)
