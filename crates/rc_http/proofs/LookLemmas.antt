-- What octets amount to is one thing, and what follows changes it only while it waits.
use Rattle.std.proofs.Common.{◌≡◌, ◌≢◌, ℕ, ◌+◌, ◌<◌, ◌≤◌, List, [], ◌++◌, length, take, drop, nat_le, nat_lt, Bool, true, false, Option, Some, None, Result, Ok, Err, refl, sym, ap, ◌∙◌, arith, subst, inl, inr, length-append, length-drop, if◌then◌else◌}
use Rattle.std.proofs.lemmas.List.{take-append-le, drop-append-le}
use Rattle.httparse.proofs.GrammarLemmas.{request_unique, response_unique}
use Rattle.rc_http.specs.declared.message.HttpFault.{HttpFault}
use Rattle.rc_http.specs.declared.message.HttpFault.TheVariants as faults
use Rattle.rc_http.specs.declared.message.Kind.{Kind}
use Rattle.rc_http.specs.declared.message.Kind.TheVariants.{Request, Response}
use Rattle.rc_http.specs.HeadEnd.{head_len}
use Rattle.rc_http.specs.Heads.{Head, Reads, body_len, of_request, of_response}
use Rattle.rc_http.specs.Looks.{Looked, Waits, Fails, Looks, LooksBy, LooksWithin, LooksAfter, with_body, most_head}
use Rattle.rc_http.proofs.EndLemmas.{head_kept, head_late}

-- a head has one reading
pub reads_unique : (kind : Kind) (octets : List ℕ) (h k : Head) → Reads kind octets h → Reads kind octets k → h ≡ k
reads_unique Request octets h k x y =
    x.0.2 ∙ ap of_request (request_unique octets x.0.0 y.0.0 [] [] x.0.1 y.0.1).0 ∙ sym y.0.2
reads_unique Response octets h k x y =
    x.0.2 ∙ ap of_response (response_unique octets x.0.0 y.0.0 [] [] x.0.1 y.0.1).0 ∙ sym y.0.2

pub le_true : (n m : ℕ) → n ≤ m → nat_le n m ≡ true
le_true n m le = grind (arith, le)

pub le_false : (n m : ℕ) → m < n → nat_le n m ≡ false
le_false n m lt = grind (arith, lt)

-- by the length of the head
looks_by : (kind : Kind) (xs : List ℕ) (o : Looked) (r : Option ℕ) → head_len xs ≡ r → LooksBy kind xs o r → Looks kind xs o
unfolding Looks
looks_by kind xs o r e x = subst (LooksBy kind xs o) (sym e) x

pub looks_after : (kind : Kind) (xs : List ℕ) (o : Looked) (n : ℕ) → head_len xs ≡ Some n → n ≤ 8192 → LooksAfter kind xs n o
    → Looks kind xs o
looks_after kind xs o n e le x =
    looks_by kind xs o (Some n) e (subst (LooksWithin kind xs n o) (sym (le_true n 8192 le)) x)

pub looks_late : (kind : Kind) (xs : List ℕ) (n : ℕ) → head_len xs ≡ Some n → 8192 < n → Looks kind xs (Fails faults.TooBig)
looks_late kind xs n e lt =
    looks_by kind xs (Fails faults.TooBig) (Some n) e
    (subst (LooksWithin kind xs n (Fails faults.TooBig)) (sym (le_false n 8192 lt)) refl)

pub looks_open : (kind : Kind) (xs : List ℕ) → head_len xs ≡ None → length xs < 8192 → Looks kind xs Waits
looks_open kind xs e lt =
    let t : (if nat_lt (length xs) most_head then Waits else Fails faults.TooBig) ≡ Waits = grind (arith, lt) in
    looks_by kind xs Waits None e (sym t)

pub looks_long : (kind : Kind) (xs : List ℕ) → head_len xs ≡ None → 8192 ≤ length xs → Looks kind xs (Fails faults.TooBig)
looks_long kind xs e le =
    let t : (if nat_lt (length xs) most_head then Waits else Fails faults.TooBig) ≡ Fails faults.TooBig = grind (arith, le) in
    looks_by kind xs (Fails faults.TooBig) None e (sym t)

-- octets amount to one thing
unique_after : (kind : Kind) (xs : List ℕ) (n : ℕ) (o p : Looked) → LooksAfter kind xs n o → LooksAfter kind xs n p → o ≡ p
unique_after kind xs n o p (inl x) (inl y) =
    x.2 ∙ ap (λ h. with_body xs n h (body_len kind h)) (reads_unique kind (take n xs) x.0 y.0 x.1 y.1) ∙ sym y.2
unique_after kind xs n o p (inl x) (inr y) = absurd (y.0 x.0 x.1)
unique_after kind xs n o p (inr x) (inl y) = absurd (x.0 y.0 y.1)
unique_after kind xs n o p (inr x) (inr y) = x.1 ∙ sym y.1

unique_within : (kind : Kind) (xs : List ℕ) (n : ℕ) (o p : Looked) (b : Bool) → LooksWithin kind xs n o b → LooksWithin kind xs n p b
    → o ≡ p
unique_within kind xs n o p true x y = unique_after kind xs n o p x y
unique_within kind xs n o p false x y = x ∙ sym y

unique_by : (kind : Kind) (xs : List ℕ) (o p : Looked) (r : Option ℕ) → LooksBy kind xs o r → LooksBy kind xs p r → o ≡ p
unique_by kind xs o p None x y = x ∙ sym y
unique_by kind xs o p (Some n) x y = unique_within kind xs n o p (nat_le n most_head) x y

pub looks_unique : (kind : Kind) (xs : List ℕ) (o p : Looked) → Looks kind xs o → Looks kind xs p → o ≡ p
unfolding Looks
looks_unique kind xs o p x y = unique_by kind xs o p (head_len xs) x y

-- what follows a message or a fault changes nothing
body_by : (xs ys : List ℕ) (n : ℕ) (h : Head) (len : ℕ) → n ≤ length xs → (b : Bool) → nat_le (n + len) (length xs) ≡ b
    → with_body xs n h (Ok len) ≢ Waits → with_body xs n h (Ok len) ≡ with_body (xs ++ ys) n h (Ok len)
body_by xs ys n h len le true e other =
    let fits : n + len ≤ length xs = grind (arith, e) in
    let more : nat_le (n + len) (length (xs ++ ys)) ≡ true =
    le_true (n + len) (length (xs ++ ys)) (omega (arith, fits, length-append xs ys)) in
    let same : take len (drop n (xs ++ ys)) ≡ take len (drop n xs) =
    ap (take len) (drop-append-le n xs ys le) ∙ take-append-le len (drop n xs) ys (omega (arith, fits, length-drop n xs)) in
    rw (e, more, same) refl
body_by xs ys n h len le false e other = absurd (other (rw e refl))

body_kept : (xs ys : List ℕ) (n : ℕ) (h : Head) (r : Result ℕ HttpFault) → n ≤ length xs → with_body xs n h r ≢ Waits
    → with_body xs n h r ≡ with_body (xs ++ ys) n h r
body_kept xs ys n h (Err f) le other = refl
body_kept xs ys n h (Ok len) le other = body_by xs ys n h len le (nat_le (n + len) (length xs)) refl other

kept_after : (kind : Kind) (xs ys : List ℕ) (n : ℕ) (o : Looked) → n ≤ length xs → o ≢ Waits → LooksAfter kind xs n o
    → LooksAfter kind (xs ++ ys) n o
kept_after kind xs ys n o le other (inl x) =
    inl (
      x.0,
      subst (λ l. Reads kind l x.0) (sym (take-append-le n xs ys le)) x.1,
      x.2 ∙ body_kept xs ys n x.0 (body_len kind x.0) le (λ w. other (x.2 ∙ w)),
    )
kept_after kind xs ys n o le other (inr x) =
    inr ((λ h r. x.0 h (subst (λ l. Reads kind l h) (take-append-le n xs ys le) r)), x.1)

kept_within : (kind : Kind) (xs ys : List ℕ) (n : ℕ) (o : Looked) (b : Bool) → n ≤ length xs → o ≢ Waits → LooksWithin kind xs n o b
    → LooksWithin kind (xs ++ ys) n o b
kept_within kind xs ys n o true le other x = kept_after kind xs ys n o le other x
kept_within kind xs ys n o false le other x = x

kept_long : (kind : Kind) (xs ys : List ℕ) (r : Option ℕ) → head_len xs ≡ None → 8192 ≤ length xs → head_len (xs ++ ys) ≡ r
    → Looks kind (xs ++ ys) (Fails faults.TooBig)
kept_long kind xs ys None e le f = looks_long kind (xs ++ ys) f (omega (arith, le, length-append xs ys))
kept_long kind xs ys (Some m) e le f = looks_late kind (xs ++ ys) m f (omega (arith, le, head_late m xs ys e f))

kept_none : (kind : Kind) (xs ys : List ℕ) (o : Looked) (b : Bool) → nat_lt (length xs) most_head ≡ b → head_len xs ≡ None → o ≢ Waits
    → o ≡ (if nat_lt (length xs) most_head then Waits else Fails faults.TooBig) → Looks kind (xs ++ ys) o
kept_none kind xs ys o true t e other x = absurd (other (x ∙ rw t refl))
kept_none kind xs ys o false t e other x =
    let le : 8192 ≤ length xs = grind (arith, t) in
    let is : o ≡ Fails faults.TooBig = x ∙ rw t refl in
    subst (Looks kind (xs ++ ys)) (sym is) (kept_long kind xs ys (head_len (xs ++ ys)) e le refl)

kept_by : (kind : Kind) (xs ys : List ℕ) (o : Looked) (r : Option ℕ) → head_len xs ≡ r → o ≢ Waits → LooksBy kind xs o r
    → Looks kind (xs ++ ys) o
kept_by kind xs ys o None e other x = kept_none kind xs ys o (nat_lt (length xs) most_head) refl e other x
kept_by kind xs ys o (Some n) e other x =
    let kept = head_kept n xs ys e in
    looks_by kind (xs ++ ys) o (Some n) kept.0 (kept_within kind xs ys n o (nat_le n most_head) kept.1 other x)

pub looks_kept : (kind : Kind) (xs ys : List ℕ) (o : Looked) → o ≢ Waits → Looks kind xs o → Looks kind (xs ++ ys) o
unfolding Looks
looks_kept kind xs ys o other x = kept_by kind xs ys o (head_len xs) refl other x
