-- Texts are octets: UTF-8, decimal digits, words of a table, paths, and messages of HTTP whose values are octets.
use Rattle.std.proofs.Common.{◌≡◌, ℕ, zero, suc, ◌+◌, ◌/◌, ◌%◌, ◌<◌, ◌==◌, nat_lt, cond, Bool, true, false, List, [], ◌∷◌, ◌++◌, map, IsUtf8, inl, inr, refl, subst, arith, slice_get, if◌then◌else◌}
use Rattle.std.specs.Prelude.{flat_map}
use Rattle.std.specs.List.{AllByRecursion, list_all}
use Rattle.std.specs.Fmt.{decimal, digit_glyph, digits, digits_onto}
use Rattle.std.specs.Str.{bytes_eq}
use Rattle.std.proofs.lemmas.Bool.{and_parts}
use Rattle.std.proofs.lemmas.Bool.Decides.{nat_tests}
use Rattle.std.proofs.lemmas.List.Elements.{All-append}
use lib.Utf8.{encode, encodes, scalar, scalar_cases, scalars}
use Rattle.http_header.specs.FieldValue.{FieldValue, plain_value}
use Rattle.http_header.specs.HeaderMap.{Entries, append, append_all, get_all}
use Rattle.http_header.specs.Token.{lowercase}
use Rattle.ikl_base.specs.declared.address.Addr.{Addr}
use Rattle.ikl_base.specs.Address.{IsAddress}
use Rattle.ikeless_tree.specs.Typed.{AreOctets}
use Rattle.yang_values.specs.Addresses.{address_text}
use Rattle.yang_values.specs.Prefixes.{is_value_octet}
use Rattle.yang_values.proofs.PrefixText.{address_plain}
use Rattle.rc_http.specs.Heads.{fields_map, lowered}
use Rattle.rc_http.specs.Written.{bytes_of, crlf, field_line, head_text, lines, named, value_in}
use Rattle.rc_request.specs.Paths.{escape_octet, escaped}
use Rattle.acts_spell.proofs.Each.{each-append, each-if}
use Rattle.acts_spell.proofs.Octets.{IsOctet, each-of, none, of-each}

-- ---- words

abbrev pub are_octets : List ℕ → Bool
are_octets text = list_all (λ b. nat_lt b 256) text

small : (b : ℕ) → nat_lt b 256 ≡ true → b < 256
small b e = grind (arith, nat_tests, e)

word-each : (text : List ℕ) → are_octets text ≡ true → AllByRecursion IsOctet text
word-each [] e = tt
word-each (b ∷ text) e = let p = and_parts (nat_lt b 256) (are_octets text) e in (small b p.0, word-each text p.1)

-- a text that passes the test, as one that is written out
pub word : (text : List ℕ) → are_octets text ≡ true → AreOctets text
word text e = of-each text (word-each text e)

-- octets that pass a narrower test
pub narrow : (p : ℕ → Bool) → ((b : ℕ) → p b ≡ true → b < 256) → (text : List ℕ) → list_all p text ≡ true → AllByRecursion IsOctet text
narrow p f [] e = tt
narrow p f (b ∷ text) e = let q = and_parts (p b) (list_all p text) e in (f b q.0, narrow p f text q.1)

-- ---- UTF-8

two : (c : ℕ) → c < 2048 → AllByRecursion IsOctet ((192 + c / 64) ∷ (128 + c % 64) ∷ [])
two c l = (omega (arith, l), (omega arith, tt))

three : (c : ℕ) → c < 65536 → AllByRecursion IsOctet ((224 + c / 4096) ∷ (128 + c / 64 % 64) ∷ (128 + c % 64) ∷ [])
three c l = (omega (arith, l), (omega arith, (omega arith, tt)))

four : (c : ℕ) → c < 1114112
    → AllByRecursion IsOctet ((240 + c / 262144) ∷ (128 + c / 4096 % 64) ∷ (128 + c / 64 % 64) ∷ (128 + c % 64) ∷ [])
four c l = (omega (arith, l), (omega arith, (omega arith, (omega arith, tt))))

by-size : (c : ℕ) → c < 1114112 → (x y z : Bool) → nat_lt c 128 ≡ x → nat_lt c 2048 ≡ y → nat_lt c 65536 ≡ z
    → AllByRecursion IsOctet
    (cond x (c ∷ []) (cond y ((192 + c / 64) ∷ (128 + c % 64) ∷ []) (cond z ((224 + c / 4096) ∷ (128 + c / 64 % 64) ∷ (128 + c % 64) ∷ [])
    ((240 + c / 262144) ∷ (128 + c / 4096 % 64) ∷ (128 + c / 64 % 64) ∷ (128 + c % 64) ∷ []))))
by-size c l true y z p q r = (grind (arith, nat_tests, p), tt)
by-size c l false true z p q r = two c (grind (arith, nat_tests, q))
by-size c l false false true p q r = three c (grind (arith, nat_tests, r))
by-size c l false false false p q r = four c l

in-range : (c : ℕ) → scalar c ≡ true → c < 1114112
in-range c e = elim (scalar_cases c e) as (λ z. c < 1114112) [ inl h ↦ omega (arith, h) | inr h ↦ h.1 ]

encoded : (c : ℕ) → scalar c ≡ true → AllByRecursion IsOctet (encode c)
unfolding encode
encoded c e = by-size c (in-range c e) (nat_lt c 128) (nat_lt c 2048) (nat_lt c 65536) refl refl refl

all-encoded : (cs : List ℕ) → scalars cs ≡ true → AllByRecursion IsOctet (encodes cs)
all-encoded [] e = tt
all-encoded (c ∷ cs) e =
    let p = and_parts (scalar c) (scalars cs) e in each-append IsOctet (encode c) (encodes cs) (encoded c p.0) (all-encoded cs p.1)

pub utf8-octets : (text : List ℕ) → IsUtf8 text → AreOctets text
utf8-octets text h = subst AreOctets h.1.1 (of-each (encodes h.0) (all-encoded h.0 h.1.0))

-- ---- numbers

glyph-octet : (n : ℕ) → n < 10 → digit_glyph false n < 256
glyph-octet n h = grind (arith, nat_tests, h)

digits-each : (fuel n : ℕ) (acc : List ℕ) → AllByRecursion IsOctet acc → AllByRecursion IsOctet (digits_onto fuel 10 false n acc)
digits-each zero n acc h = h
digits-each (suc fuel) n acc h =
    let all : AllByRecursion IsOctet (digit_glyph false (n % 10) ∷ acc) = (glyph-octet (n % 10) (omega arith), h) in
    each-if IsOctet (n / 10 == 0) (digit_glyph false (n % 10) ∷ acc)
    (digits_onto fuel 10 false (n / 10) (digit_glyph false (n % 10) ∷ acc)) all
    (digits-each fuel (n / 10) (digit_glyph false (n % 10) ∷ acc) all)

pub decimal-octets : (n : ℕ) → AreOctets (decimal n)
unfolding digits
decimal-octets n = of-each (decimal n) (digits-each 64 n [] tt)

-- ---- addresses and paths

value-octet : (b : ℕ) → is_value_octet b ≡ true → b < 256
value-octet b e = grind (arith, nat_tests, e)

pub address-octets : (a : Addr) → IsAddress a → AreOctets (address_text a)
address-octets a h = of-each (address_text a) (narrow is_value_octet value-octet (address_text a) (address_plain a h))

hex-octet : (n : ℕ) → n < 16 → digit_glyph true n < 256
hex-octet n h = grind (arith, nat_tests, h)

escaped-one : (b : ℕ) → b < 256 → AllByRecursion IsOctet (escape_octet b)
escaped-one b l = each-if IsOctet _ (b ∷ []) (37 ∷ digit_glyph true (b / 16 % 16) ∷ digit_glyph true (b % 16) ∷ []) (l, tt)
    (omega arith, (hex-octet (b / 16 % 16) (omega arith), (hex-octet (b % 16) (omega arith), tt)))

escaped-each : (name : List ℕ) → AllByRecursion IsOctet name → AllByRecursion IsOctet (flat_map escape_octet name)
escaped-each [] h = tt
escaped-each (b ∷ name) h = each-append IsOctet (escape_octet b) (flat_map escape_octet name) (escaped-one b h.0) (escaped-each name h.1)

pub escaped-octets : (name : List ℕ) → AllByRecursion IsOctet name → AreOctets (escaped name)
unfolding escaped
escaped-octets name h = of-each (flat_map escape_octet name) (escaped-each name h)

-- ---- fields of HTTP

abbrev AreValues : List FieldValue → Type 0
AreValues vs = AllByRecursion (λ v. AreOctets v.bytes) vs

abbrev AreEntries : Entries FieldValue → Type 0
AreEntries m = AllByRecursion (λ e. AreValues e.1) m

-- each value is octets
abbrev pub HaveOctets : List (List ℕ × List ℕ) → Type 0
HaveOctets fields = AllByRecursion (λ field. AreOctets field.1) fields

appended : (m : Entries FieldValue) (name : List ℕ) (v : FieldValue) → AreOctets v.bytes → AreEntries m → AreEntries (append m name v)
appended [] name v o h = ((o, tt), tt)
appended (e ∷ m) name v o h = by-name (bytes_eq e.0 name) (appended m name v o h.1) where
  by-name : (b : Bool) → AreEntries (append m name v) → AreEntries (if b then (e.0, e.1 ++ v ∷ []) ∷ m else e ∷ append m name v)
  by-name true more = (each-append (λ x. AreOctets x.bytes) e.1 (v ∷ []) h.0 (o, tt), h.1)
  by-name false more = (h.0, more)

mapped-from : (m : Entries FieldValue) (fields : List (List ℕ × List ℕ)) → HaveOctets fields → AreEntries m
    → AreEntries (append_all m (map lowered fields))
mapped-from m [] f h = h
mapped-from m (x ∷ fields) f h =
    mapped-from (append m (lowercase x.0) (plain_value x.1)) fields f.1 (appended m (lowercase x.0) (plain_value x.1) f.0 h)

values-at : (m : Entries FieldValue) (name : List ℕ) → AreEntries m → AreValues (get_all m name)
values-at [] name h = tt
values-at (e ∷ m) name h = each-if (λ v. AreOctets v.bytes) (bytes_eq e.0 name) e.1 (get_all m name) h.0 (values-at m name h.1)

first-octets : (vs : List FieldValue) → AreValues vs → AreOctets (bytes_of (slice_get vs 0))
first-octets [] h = none
first-octets (v ∷ vs) h = h.0

value-octets : (fields : List (List ℕ × List ℕ)) (name : List ℕ) → HaveOctets fields → AreOctets (value_in (fields_map fields) name)
value-octets fields name h =
    first-octets (get_all (fields_map fields) (lowercase name))
    (values-at (fields_map fields) (lowercase name) (mapped-from [] fields h tt))

line-octets : (field : List ℕ × List ℕ) → AreOctets field.0 → AreOctets field.1 → AreOctets (field_line field)
line-octets field n v =
    All-append IsOctet (field.0 ++ (58 ∷ 32 ∷ field.1)) crlf
    (All-append IsOctet field.0 (58 ∷ 32 ∷ field.1) n (of-each (58 ∷ 32 ∷ field.1) (omega arith, (omega arith, each-of field.1 v))))
    (word crlf refl)

lines-octets : (fields : List (List ℕ × List ℕ)) (names : List (List ℕ)) → HaveOctets fields → AllByRecursion AreOctets names
    → AreOctets (lines (named (fields_map fields) names))
lines-octets fields [] h n = none
lines-octets fields (name ∷ names) h n =
    All-append IsOctet (field_line (name, value_in (fields_map fields) name)) (lines (named (fields_map fields) names))
    (line-octets (name, value_in (fields_map fields) name) n.0 (value-octets fields name h)) (lines-octets fields names h n.1)

pub head-octets : (start : List ℕ) (fields : List (List ℕ × List ℕ)) (names : List (List ℕ)) → AreOctets start → HaveOctets fields
    → AllByRecursion AreOctets names
    → AreOctets (head_text start (named (fields_map fields) names))
head-octets start fields names s h n =
    let all : List ℕ = lines (named (fields_map fields) names) in
    let end = word crlf refl in
    All-append IsOctet ((start ++ crlf) ++ all) crlf
    (All-append IsOctet (start ++ crlf) all (All-append IsOctet start crlf s end) (lines-octets fields names h n)) end
