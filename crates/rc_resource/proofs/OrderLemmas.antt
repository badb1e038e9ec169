-- What is read of the request of an order.
use Rattle.std.proofs.Common.{◌≡◌, ℕ, ◌+◌, ◌<◌, suc, ◌==◌, List, [], ◌∷◌, ◌++◌, Bool, true, false, length, take, Some, None, Ok, codes, refl, ap, sym, ◌∙◌, arith, nat_lt, All, ◌≤◌, IsUtf8}
use Rattle.std.specs.List.{list_any, list_all, position_or_len, before_first, flat_map}
use Rattle.std.specs.Option.{option_map}
use Rattle.std.proofs.lemmas.Bool.{agree_below, agree_below_at}
use Rattle.std.proofs.lemmas.Bool.Decides.{nat_tests}
use Rattle.std.proofs.lemmas.Bool.{and_parts}
use Rattle.std.proofs.lemmas.List.Folds.{list_any-append}
use Rattle.std.proofs.lemmas.List.Elements.{All-cons, All-nil, All-head, All-tail}
use Rattle.percent_encoding.proofs.PercentLemmas.{IsByte}
use Rattle.ikl_base.specs.declared.address.Addr.{Addr}
use Rattle.serde_json.specs.Data.{depth}
use Rattle.serde_json.specs.Read.{read}
use Rattle.serde_json.specs.Written.{compact_text}
use Rattle.ikeless_tree.specs.declared.sad.SadEntry.{SadEntry}
use Rattle.ikeless_tree.specs.declared.entry.SpdEntry.{SpdEntry}
use Rattle.ikeless_tree.specs.Check.{is_sad_name, is_path_octet, spd_fault, sad_fault}
use Rattle.ikeless_tree.specs.declared.order.Order.{Order}
use Rattle.ikeless_tree.specs.declared.order.Order.TheVariants as orders
use Rattle.json_tree.specs.SadEntryWritten.{one_sad_entry}
use Rattle.json_codec.specs.Bodies.{sad_entry_of, spd_of}
use Rattle.ikeless_tree.specs.Typed.{AreTypedPolicies, IsTypedHalf, IsTypedOrder}
use Rattle.json_values.specs.Written.{all_policies}
use Rattle.json_tree.proofs.Flat.{flat_all_policies}
use Rattle.json_tree.proofs.FlatRows.{flat_one_sad_entry}
use Rattle.json_tree.proofs.Passed.{half_octets}
use Rattle.reply_table.specs.Order.{ask_of}
use Rattle.rc_request.specs.declared.resource.Resource.TheVariants as resources
use Rattle.rc_request.specs.Paths.{escape_octet, escaped, key_of, half_path, resource_of}
use Rattle.rc_request.specs.Queries.{behind_mark}
use Rattle.rc_request.specs.Operations.{method_of}
use Rattle.rc_resource.specs.Messages.{order_message, IsOrder}
use Rattle.rc_request.specs.Requests.{request_of}
use Rattle.rc_request.proofs.KeyLemmas.{back_again}
use Rattle.rc_resource.proofs.PlaceLemmas.{any_at}
use Rattle.json_values.proofs.ReadAgain.{read_again, utf8_again}
use Rattle.json_tree.proofs.Writable.{write_one_half, write_policies}

-- ---- texts without a mark

take_next : (x : ℕ) (xs : List ℕ) (k : ℕ) → take (1 + k) (x ∷ xs) ≡ x ∷ take k xs
take_next x xs k = let next : 1 + k ≡ suc k = omega arith in rw next refl

before_whole : (p : ℕ → Bool) (xs : List ℕ) → list_any p xs ≡ false → before_first p xs ≡ xs
before_whole p [] h = refl
before_whole p (x ∷ xs) h = by_test (p x) refl h (before_whole p xs)
  where
    by_test : (b : Bool) → p x ≡ b → list_any p (x ∷ xs) ≡ false → (list_any p xs ≡ false → before_first p xs ≡ xs)
        → before_first p (x ∷ xs) ≡ x ∷ xs
    by_test true t h ih = let wrong : ⊥ = cc in absurd wrong
    by_test false t h ih =
        let rest : list_any p xs ≡ false = cc in
        rw t (take_next x xs (position_or_len p xs) ∙ ap (λ ys. x ∷ ys) (ih rest))

behind_none : (mark : ℕ) (text : List ℕ) → list_any (λ c. c == mark) text ≡ false → behind_mark mark text ≡ None
behind_none mark text h =
    let past : nat_lt (position_or_len (λ c. c == mark) text) (length text) ≡ false = sym (any_at (λ c. c == mark) text) ∙ h in
    rw past refl

-- ---- names as they are written

no_slash_in : agree_below (λ b. list_any (λ c. c == 47) (escape_octet b)) (λ b. false) 256 ≡ true
no_slash_in = refl

no_query_in : agree_below (λ b. list_any (λ c. c == 63) (escape_octet b)) (λ b. false) 256 ≡ true
no_query_in = refl

none_joined : (p : ℕ → Bool) (xs ys : List ℕ) → list_any p xs ≡ false → list_any p ys ≡ false → list_any p (xs ++ ys) ≡ false
none_joined p xs ys h k = list_any-append p xs ys ∙ rw (h, k) refl

none_escaped : (p : ℕ → Bool) → agree_below (λ b. list_any p (escape_octet b)) (λ b. false) 256 ≡ true → (name : List ℕ) → All IsByte name
    → list_any p (escaped name) ≡ false
unfolding escaped
none_escaped p none [] small = refl
none_escaped p none (b ∷ bs) small =
    none_joined p (escape_octet b) (flat_map escape_octet bs)
    (agree_below_at (λ c. list_any p (escape_octet c)) (λ c. false) 256 b none (All-head IsByte b bs small))
    (none_escaped p none bs (All-tail IsByte b bs small))

octet_small : (c : ℕ) → is_path_octet c ≡ true → c < 256
octet_small c h = grind (arith, nat_tests, h)

octets_small : (t : List ℕ) → list_all is_path_octet t ≡ true → All IsByte t
octets_small [] h = All-nil IsByte
octets_small (c ∷ cs) h =
    let parts = and_parts (is_path_octet c) (list_all is_path_octet cs) h in
    All-cons IsByte c cs (octet_small c parts.0) (octets_small cs parts.1)

name_small : (name : List ℕ) → is_sad_name name ≡ true → All IsByte name
name_small name h = octets_small name (half_octets name h)

key_again : (name : List ℕ) → is_sad_name name ≡ true → key_of is_sad_name (escaped name) ≡ Some name
unfolding key_of
key_again name h =
    let small = name_small name h in
    rw (none_escaped (λ c. c == 47) no_slash_in name small, back_again name small, h) refl

-- the path of a half is read as that half
half_again : (name : List ℕ) → is_sad_name name ≡ true → resource_of (half_path name) ≡ Some (resources.SadEntry name)
unfolding resource_of
half_again name h = ap (option_map resources.SadEntry) (key_again name h)

path_whole : (name : List ℕ) → is_sad_name name ≡ true → list_any (λ c. c == 63) (half_path name) ≡ false
path_whole name h = none_joined (λ c. c == 63) (codes "/restconf/data/ietf-i2nsf-ikeless:ipsec-ikeless/sad/sad-entry=") (escaped name) refl
    (none_escaped (λ c. c == 63) no_query_in name (name_small name h))

-- ---- requests of orders

removal : (host : Addr) (name : List ℕ) → is_sad_name name ≡ true → request_of (order_message host (orders.Remove name)) ≡ Ok
    (ask_of (orders.Remove name))
unfolding request_of method_of
removal host name h =
    let whole = path_whole name h in
    rw (before_whole (λ c. c == 63) (half_path name) whole, half_again name h, behind_none 63 (half_path name) whole) refl

-- what the codec says of its bodies
abbrev PoliciesReadAgain : Type 0
PoliciesReadAgain = (text : List ℕ) (es : List SpdEntry) → AreTypedPolicies es → spd_fault es ≡ None → IsUtf8 text
    → read text ≡ Some (all_policies es) → spd_of text ≡ Ok es

abbrev HalfReadsAgain : Type 0
HalfReadsAgain = (text : List ℕ) (e : SadEntry) → IsTypedHalf e → sad_fault e ≡ None → IsUtf8 text → read text ≡ Some (one_sad_entry e)
    → sad_entry_of text ≡ Ok e

policies_again : PoliciesReadAgain → (es : List SpdEntry) → AreTypedPolicies es → spd_fault es ≡ None
    → spd_of (compact_text (all_policies es)) ≡ Ok es
policies_again codec es typed h =
    let plain = write_policies es typed h in
    let shallow : depth (all_policies es) ≤ 8 = (flat_all_policies es).shallow in
    codec (compact_text (all_policies es)) es typed h (utf8_again (all_policies es) plain)
    (read_again (all_policies es) plain (omega arith))

put_again : HalfReadsAgain → (e : SadEntry) → IsTypedHalf e → sad_fault e ≡ None → sad_entry_of (compact_text (one_sad_entry e)) ≡ Ok e
put_again codec e typed h =
    let plain = write_one_half e typed h in
    let shallow : depth (one_sad_entry e) ≤ 7 = (flat_one_sad_entry e).shallow in
    codec (compact_text (one_sad_entry e)) e typed h (utf8_again (one_sad_entry e) plain) (read_again (one_sad_entry e) plain (omega arith))

pub order_again : PoliciesReadAgain → HalfReadsAgain → (host : Addr) (o : Order) → IsOrder o → IsTypedOrder o
    → request_of (order_message host o) ≡ Ok (ask_of o)
unfolding request_of resource_of method_of
order_again policies half host orders.Read h typed = refl
order_again policies half host (orders.Policy list) h typed = rw (policies_again policies list typed h) refl
order_again policies half host (orders.Put e) h typed = rw (put_again half e typed h) refl
order_again policies half host (orders.Remove name) h typed = removal host name h
