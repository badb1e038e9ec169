-- A head that `httparse` reads is whole where `head_len` says, whatever follows.
use Rattle.std.proofs.Common.{◌≡◌, ◌≢◌, ◌==◌, not, codes, ℕ, suc, ◌+◌, List, [], ◌∷◌, ◌++◌, length, Option, Some, None, true, IsTrue, refl, sym, ap, ◌∙◌, arith, subst, append_assoc, length-append, option_map, All}
use Rattle.std.specs.Option.{option_or}
use Rattle.std.specs.List.{list_all}
use Rattle.std.specs.Char.{is_ascii_digit}
use Rattle.std.proofs.lemmas.List.Elements.{All-nil, All-head, All-tail, All-cons, All-append, All-weaker}
use Rattle.httparse.specs.Grammar.{LineEnd, crlf, lf, print_end, print_blank, print_version, print_section, print_request, print_response, print_reason, reason_phrase, Field, IsField, RequestHead, IsRequestHead, ResponseHead, IsResponseHead, is_token_byte, is_value_byte, is_uri_byte, IsToken, AllPass}
use Rattle.httparse.proofs.GrammarLemmas.{cons-append}
use Rattle.rc_http.specs.HeadEnd.{empty_line_len, text_len, head_len}
use Rattle.rc_http.proofs.PlaceLemmas.{shift_more, shift_none}

-- the octets after a line, through the first empty line
abbrev line_len : List ℕ → Option ℕ
line_len xs = option_or (empty_line_len xs) (text_len xs)

abbrev HasNoFeed : List ℕ → Type 0
HasNoFeed a = All (λ b. b ≢ 10) a

token_octet : (b : ℕ) → IsTrue (is_token_byte b) → (b ≢ 10) × (b ≢ 13)
unfolding is_token_byte
token_octet b t = (
  (λ e. let x : is_token_byte 10 ≡ true = subst (λ k. is_token_byte k ≡ true) e t in cc),
  (λ e. let x : is_token_byte 13 ≡ true = subst (λ k. is_token_byte k ≡ true) e t in cc),
)

value_octet : (b : ℕ) → IsTrue (is_value_byte b) → b ≢ 10
value_octet b t e = let x : is_value_byte 10 ≡ true = subst (λ k. is_value_byte k ≡ true) e t in cc

uri_octet : (b : ℕ) → IsTrue (is_uri_byte b) → b ≢ 10
uri_octet b t e = let x : is_uri_byte 10 ≡ true = subst (λ k. is_uri_byte k ≡ true) e t in cc

shift_one : (o : Option ℕ) → option_map suc o ≡ option_map (λ k. 0 + (1 + k)) o
shift_one None = refl
shift_one (Some k) = let e : suc k ≡ 0 + (1 + k) = omega arith in ap Some e

shift_two : (o : Option ℕ) → option_map suc (option_map suc o) ≡ option_map (λ k. 0 + (2 + k)) o
shift_two None = refl
shift_two (Some k) = let e : suc (suc k) ≡ 0 + (2 + k) = omega arith in ap Some e

shift_three : (i j : ℕ) (o : Option ℕ) → option_map suc (option_map (λ k. i + (j + k)) o) ≡ option_map (λ k. suc i + (j + k)) o
shift_three i j None = refl
shift_three i j (Some k) = let e : suc (i + (j + k)) ≡ suc i + (j + k) = omega arith in ap Some e

text_step : (b : ℕ) (rest : List ℕ) → b ≢ 10 → text_len (b ∷ rest) ≡ option_map suc (text_len rest)
text_step b rest n = grind (arith, n)

-- through the end of a line
text_through : (a xs : List ℕ) (e : LineEnd) → HasNoFeed a
    → text_len (a ++ (print_end e ++ xs)) ≡ option_map (λ k. length a + (length (print_end e) + k)) (line_len xs)
text_through [] xs crlf all = shift_two (line_len xs)
text_through [] xs lf all = shift_one (line_len xs)
text_through (b ∷ a) xs e all =
    let ih = text_through a xs e (All-tail (λ c. c ≢ 10) b a all) in
    text_step b (a ++ (print_end e ++ xs)) (All-head (λ c. c ≢ 10) b a all) ∙ ap (option_map suc) ih
    ∙ shift_three (length a) (length (print_end e)) (line_len xs)

-- a line that isn't empty
line_step : (b : ℕ) (rest : List ℕ) → b ≢ 10 → b ≢ 13 → line_len (b ∷ rest) ≡ text_len (b ∷ rest)
line_step b rest n r = grind (arith, n, r)

line_begins : (name rest : List ℕ) → IsToken name → line_len (name ++ rest) ≡ text_len (name ++ rest)
line_begins [] rest t = absurd (omega (arith, t.0))
line_begins (b ∷ name) rest t =
    let first = token_octet b (All-head (λ c. IsTrue (is_token_byte c)) b name t.1) in
    line_step b (name ++ rest) first.0 first.1

token_line : (name : List ℕ) → IsToken name → HasNoFeed name
token_line name t = All-weaker (λ c. IsTrue (is_token_byte c)) (λ b. b ≢ 10) (λ b x. (token_octet b x).0) name t.1

value_line : (v : List ℕ) → AllPass is_value_byte v → HasNoFeed v
value_line v t = All-weaker (λ c. IsTrue (is_value_byte c)) (λ b. b ≢ 10) value_octet v t

-- the octets of a field's line but its end
abbrev field_text : Field → List ℕ
field_text f = f.name ++ 58 ∷ f.raw

field_split : (f : Field) (fs : List Field) (last : LineEnd) (xs : List ℕ)
    → print_section (f ∷ fs) last ++ xs ≡ field_text f ++ (print_end f.end ++ (print_section fs last ++ xs))
field_split f fs last xs = simp (append_assoc, cons-append)

field_line_is : (f : Field) → IsField f → HasNoFeed (field_text f)
field_line_is f is =
    let colon : 58 ≢ 10 = λ e. omega (arith, e) in
    All-append (λ b. b ≢ 10) f.name (58 ∷ f.raw) (token_line f.name is.name)
    (All-cons (λ b. b ≢ 10) 58 f.raw colon (value_line f.raw is.raw))

section_through : (fs : List Field) (last : LineEnd) (xs : List ℕ) → All IsField fs
    → line_len (print_section fs last ++ xs) ≡ Some (length (print_section fs last))
section_through [] crlf xs all = refl
section_through [] lf xs all = refl
section_through (f ∷ fs) last xs all =
    let is = All-head IsField f fs all in
    let ih = section_through fs last xs (All-tail IsField f fs all) in
    let rest = print_end f.end ++ (print_section fs last ++ xs) in
    let begins = line_begins f.name (58 ∷ f.raw ++ rest) is.name in
    let assoc : f.name ++ (58 ∷ f.raw ++ rest) ≡ field_text f ++ rest = simp (append_assoc, cons-append) in
    let long : length (field_text f) + (length (print_end f.end) + length (print_section fs last)) ≡ length (print_section (f ∷ fs) last) =
    sym (length-append (field_text f) (print_end f.end ++ print_section fs last)
    ∙ ap (λ k. length (field_text f) + k) (length-append (print_end f.end) (print_section fs last)))
    ∙ ap length (simp (append_assoc, cons-append)) in
    ap line_len (field_split f fs last xs ∙ sym assoc) ∙ begins ∙ ap text_len assoc
    ∙ text_through (field_text f) (print_section fs last ++ xs) f.end (field_line_is f is)
    ∙ ap (option_map (λ k. length (field_text f) + (length (print_end f.end) + k))) ih ∙ ap Some long

-- the empty lines before the first line
head_step : (b : ℕ) (rest : List ℕ) → b ≢ 10 → b ≢ 13 → head_len (b ∷ rest) ≡ text_len (b ∷ rest)
head_step b rest n r = grind (arith, n, r)

blank_through : (ends : List LineEnd) (xs : List ℕ)
    → head_len (print_blank ends ++ xs) ≡ option_map (λ k. length (print_blank ends) + k) (head_len xs)
blank_through [] xs = sym (shift_none (head_len xs))
blank_through (crlf ∷ ends) xs =
    ap (λ o. option_map suc (option_map suc o)) (blank_through ends xs)
    ∙ ap (option_map suc) (shift_more (length (print_blank ends)) (head_len xs))
    ∙ shift_more (suc (length (print_blank ends))) (head_len xs)
blank_through (lf ∷ ends) xs = ap (option_map suc) (blank_through ends xs) ∙ shift_more (length (print_blank ends)) (head_len xs)

-- a first line that isn't empty, and the fields
start_through : (start : List ℕ) (e : LineEnd) (fs : List Field) (last : LineEnd) (xs : List ℕ)
    → HasNoFeed start → ((rest : List ℕ) → head_len (start ++ rest) ≡ text_len (start ++ rest)) → All IsField fs
    → head_len (start ++ (print_end e ++ (print_section fs last ++ xs)))
    ≡ Some (length start + (length (print_end e) + length (print_section fs last)))
start_through start e fs last xs clear begins all =
    begins (print_end e ++ (print_section fs last ++ xs)) ∙ text_through start (print_section fs last ++ xs) e clear
    ∙ ap (option_map (λ k. length start + (length (print_end e) + k))) (section_through fs last xs all)

abbrev request_start : RequestHead → List ℕ
request_start h = h.method ++ (32 ∷ (h.target ++ (32 ∷ print_version h.minor)))

request_split : (h : RequestHead) (xs : List ℕ) → print_request h ++ xs
    ≡ print_blank h.blank ++ (request_start h ++ (print_end h.line_end ++ (print_section h.fields h.last ++ xs)))
unfolding print_request
request_split h xs = simp (append_assoc, cons-append)

start_begins : (method rest : List ℕ) → IsToken method → (more : List ℕ) → head_len ((method ++ rest) ++ more) ≡ text_len ((method ++ rest)
    ++ more)
start_begins [] rest t more = absurd (omega (arith, t.0))
start_begins (b ∷ method) rest t more =
    let first = token_octet b (All-head (λ c. IsTrue (is_token_byte c)) b method t.1) in
    head_step b ((method ++ rest) ++ more) first.0 first.1

clear_by : (xs : List ℕ) → list_all (λ b. not (b == 10)) xs ≡ true → HasNoFeed xs
clear_by [] e = All-nil (λ b. b ≢ 10)
clear_by (b ∷ xs) e =
    let here : b ≢ 10 = grind (arith, e) in
    let rest : list_all (λ c. not (c == 10)) xs ≡ true = grind (arith, e) in
    All-cons (λ c. c ≢ 10) b xs here (clear_by xs rest)

version_line : (minor : ℕ) → HasNoFeed (print_version minor)
version_line minor =
    let digit : 48 + minor ≢ 10 = λ e. omega (arith, e) in
    All-append (λ b. b ≢ 10) (codes "HTTP/1.") ((48 + minor) ∷ []) (clear_by (codes "HTTP/1.") refl)
    (All-cons (λ b. b ≢ 10) (48 + minor) [] digit (All-nil (λ b. b ≢ 10)))

spaced_line : (xs : List ℕ) → HasNoFeed xs → HasNoFeed (32 ∷ xs)
spaced_line xs all = let space : 32 ≢ 10 = λ e. omega (arith, e) in All-cons (λ b. b ≢ 10) 32 xs space all

uri_line : (target : List ℕ) → AllPass is_uri_byte target → HasNoFeed target
uri_line v t = All-weaker (λ c. IsTrue (is_uri_byte c)) (λ b. b ≢ 10) uri_octet v t

request_line_is : (h : RequestHead) → IsRequestHead h → HasNoFeed (request_start h)
request_line_is h is =
    All-append (λ b. b ≢ 10) h.method (32 ∷ (h.target ++ (32 ∷ print_version h.minor))) (token_line h.method is.method)
    (spaced_line (h.target ++ (32 ∷ print_version h.minor))
    (All-append (λ b. b ≢ 10) h.target (32 ∷ print_version h.minor) (uri_line h.target is.target.1)
    (spaced_line (print_version h.minor) (version_line h.minor))))

-- the length of a head by its parts
whole_from : (blank start : List ℕ) (e : LineEnd) (fs : List Field) (last : LineEnd) (o : Option ℕ) (all : List ℕ)
    → all ≡ blank ++ (start ++ (print_end e ++ print_section fs last))
    → o ≡ Some (length start + (length (print_end e) + length (print_section fs last)))
    → option_map (λ k. length blank + k) o ≡ Some (length all)
whole_from blank start e fs last o all is found =
    ap (option_map (λ k. length blank + k)) found
    ∙ ap Some (sym (ap length is ∙ length-append blank (start ++ (print_end e ++ print_section fs last))
    ∙ ap (λ k. length blank + k) (length-append start (print_end e ++ print_section fs last)
    ∙ ap (λ k. length start + k) (length-append (print_end e) (print_section fs last)))))

pub whole_request : (h : RequestHead) (xs : List ℕ) → IsRequestHead h → head_len (print_request h ++ xs) ≡ Some (length (print_request h))
unfolding print_request
whole_request h xs is =
    let found = start_through (request_start h) h.line_end h.fields h.last xs (request_line_is h is)
    (start_begins h.method (32 ∷ (h.target ++ (32 ∷ print_version h.minor))) is.method) is.fields in
    let all : print_request h ≡ print_blank h.blank ++ (request_start h ++ (print_end h.line_end ++ print_section h.fields h.last)) =
    simp (append_assoc, cons-append) in
    ap head_len (request_split h xs)
    ∙ blank_through h.blank (request_start h ++ (print_end h.line_end ++ (print_section h.fields h.last ++ xs)))
    ∙ whole_from (print_blank h.blank) (request_start h) h.line_end h.fields h.last
    (head_len (request_start h ++ (print_end h.line_end ++ (print_section h.fields h.last ++ xs)))) (print_request h) all found

-- ---- responses

abbrev response_start : ResponseHead → List ℕ
response_start h = print_version h.minor ++ (32 ∷ (h.digits ++ print_reason h.reason))

response_split : (h : ResponseHead) (xs : List ℕ) → print_response h ++ xs
    ≡ print_blank h.blank ++ (response_start h ++ (print_end h.line_end ++ (print_section h.fields h.last ++ xs)))
unfolding print_response
response_split h xs = simp (append_assoc, cons-append)

digit_octet : (b : ℕ) → IsTrue (is_ascii_digit b) → b ≢ 10
digit_octet b t e = let x : is_ascii_digit 10 ≡ true = subst (λ k. is_ascii_digit k ≡ true) e t in cc

reason_line : (reason : Option (List ℕ)) → AllPass is_value_byte (reason_phrase reason) → HasNoFeed (print_reason reason)
reason_line None all = All-nil (λ b. b ≢ 10)
reason_line (Some phrase) all = spaced_line phrase (value_line phrase all)

response_line_is : (h : ResponseHead) → IsResponseHead h → HasNoFeed (response_start h)
response_line_is h is =
    All-append (λ b. b ≢ 10) (print_version h.minor) (32 ∷ (h.digits ++ print_reason h.reason)) (version_line h.minor)
    (spaced_line (h.digits ++ print_reason h.reason)
    (All-append (λ b. b ≢ 10) h.digits (print_reason h.reason)
    (All-weaker (λ c. IsTrue (is_ascii_digit c)) (λ b. b ≢ 10) digit_octet h.digits is.digits.1)
    (reason_line h.reason is.reason)))

version_begins : (minor : ℕ) (rest more : List ℕ) → head_len ((print_version minor ++ rest) ++ more) ≡ text_len
    ((print_version minor ++ rest) ++ more)
version_begins minor rest more = refl

pub whole_response : (h : ResponseHead) (xs : List ℕ) → IsResponseHead h
    → head_len (print_response h ++ xs) ≡ Some (length (print_response h))
unfolding print_response
whole_response h xs is =
    let found = start_through (response_start h) h.line_end h.fields h.last xs (response_line_is h is)
    (version_begins h.minor (32 ∷ (h.digits ++ print_reason h.reason))) is.fields in
    let all : print_response h ≡ print_blank h.blank ++ (response_start h ++ (print_end h.line_end ++ print_section h.fields h.last)) =
    simp (append_assoc, cons-append) in
    ap head_len (response_split h xs)
    ∙ blank_through h.blank (response_start h ++ (print_end h.line_end ++ (print_section h.fields h.last ++ xs)))
    ∙ whole_from (print_blank h.blank) (response_start h) h.line_end h.fields h.last
    (head_len (response_start h ++ (print_end h.line_end ++ (print_section h.fields h.last ++ xs)))) (print_response h) all found
