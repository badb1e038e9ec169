-- Octets that come in pieces: the messages of them are the same however they are cut.
use Rattle.std.proofs.Common.{◌≡◌, ◌≢◌, ℕ, suc, ◌+◌, ◌<◌, ◌≤◌, List, [], ◌∷◌, ◌++◌, length, take, drop, nat_le, nat_lt, Bool, true, false, Option, Some, None, Result, Ok, Err, refl, sym, ap, ◌∙◌, arith, subst, inl, inr, length-append, length-drop, if◌then◌else◌}
use Rattle.std.proofs.lemmas.List.{take-append-le, take-append-drop, drop-append-le, length-take, length-take-le, append-nil, drop_all}
use Rattle.ikl_base.specs.declared.fault.OrMemory.{OrMemory}
use Rattle.ikl_base.specs.declared.fault.OrMemory.TheVariants.{Refused, NoMemory}
use Rattle.rc_http.specs.declared.feeder.Fed.{Fed}
use Rattle.rc_http.specs.declared.feeder.Fed.TheVariants.{NoneYet, Whole}
use Rattle.rc_http.specs.declared.message.HttpFault.{HttpFault}
use Rattle.rc_http.specs.declared.message.HttpFault.TheVariants as faults
use Rattle.rc_http.specs.declared.message.HttpMessage.{HttpMessage}
use Rattle.rc_http.specs.declared.message.Kind.{Kind}
use Rattle.rc_http.specs.HeadEnd.{head_len}
use Rattle.rc_http.specs.Heads.{Head, Reads, body_len, message_of}
use Rattle.rc_http.specs.Looks.{Waits, Fails, Gives, Looks, LooksBy, LooksWithin, LooksAfter, with_body, most_head}
use Rattle.rc_http.specs.Feeding.{Feeding, fresh, IsSince, IsSinceBy, FeedGives, HasRead, ReadsOn}
use Rattle.rc_http.proofs.EndLemmas.{head_kept, head_front}
use Rattle.rc_http.proofs.LookLemmas.{looks_after, looks_open, looks_kept, looks_unique, le_true, le_false}

-- what a message that is given comes from
pub record IsGiven (kind : Kind) (xs : List ℕ) (m : HttpMessage) (n : ℕ) : Type 0 where
  pub head : ℕ
  pub head_is : head_len xs ≡ Some head
  pub short : head ≤ 8192
  pub parts : Head
  pub reads : Reads kind (take head xs) parts
  pub len : ℕ
  pub len_is : body_len kind parts ≡ Ok len
  pub fits : n ≤ length xs
  pub whole : n ≡ head + len
  pub message : m ≡ message_of parts (take len (drop head xs))

pub gives_waits : (m : HttpMessage) (n : ℕ) → Gives m n ≢ Waits
gives_waits m n e = cc

pub gives_fails : (m : HttpMessage) (n : ℕ) (fault : HttpFault) → Gives m n ≢ Fails fault
gives_fails m n fault e = cc

given_len : (kind : Kind) (xs : List ℕ) (m : HttpMessage) (n head : ℕ) → head_len xs ≡ Some head → head ≤ 8192 → (parts : Head)
    → Reads kind (take head xs) parts → (len : ℕ) → body_len kind parts ≡ Ok len → (b : Bool) → nat_le (head + len) (length xs) ≡ b
    → Gives m n ≡ with_body xs head parts (Ok len) → IsGiven kind xs m n
given_len kind xs m n head e short parts reads len l true t is =
    let fits : head + len ≤ length xs = grind (arith, t) in
    let same : Gives m n ≡ Gives (message_of parts (take len (drop head xs))) (head + len) = is ∙ rw t refl in
    let whole : n ≡ head + len = cc in
    let message : m ≡ message_of parts (take len (drop head xs)) = cc in
    record {
      head = head;
      head_is = e;
      short = short;
      parts = parts;
      reads = reads;
      len = len;
      len_is = l;
      fits =
          omega (arith, whole, fits);
      whole = whole;
      message = message;
    }
given_len kind xs m n head e short parts reads len l false t is =
    let wait : Gives m n ≡ Waits = is ∙ rw t refl in absurd (gives_waits m n wait)

given_body : (kind : Kind) (xs : List ℕ) (m : HttpMessage) (n head : ℕ) → head_len xs ≡ Some head → head ≤ 8192 → (parts : Head)
    → Reads kind (take head xs) parts → (r : Result ℕ HttpFault) → body_len kind parts ≡ r → Gives m n ≡ with_body xs head parts r
    → IsGiven kind xs m n
given_body kind xs m n head e short parts reads (Ok len) l is =
    given_len kind xs m n head e short parts reads len l (nat_le (head + len) (length xs)) refl is
given_body kind xs m n head e short parts reads (Err fault) l is = absurd (gives_fails m n fault is)

given_after : (kind : Kind) (xs : List ℕ) (m : HttpMessage) (n head : ℕ) → head_len xs ≡ Some head → head ≤ 8192
    → LooksAfter kind xs head (Gives m n) → IsGiven kind xs m n
given_after kind xs m n head e short (inl x) =
    given_body kind xs m n head e short x.0 x.1 (body_len kind x.0) refl x.2
given_after kind xs m n head e short (inr x) = absurd (gives_fails m n faults.Head x.1)

given_within : (kind : Kind) (xs : List ℕ) (m : HttpMessage) (n head : ℕ) (b : Bool) → nat_le head most_head ≡ b → head_len xs ≡ Some head
    → LooksWithin kind xs head (Gives m n) b → IsGiven kind xs m n
given_within kind xs m n head true t e x = let short : head ≤ 8192 = grind (arith, t) in given_after kind xs m n head e short x
given_within kind xs m n head false t e x = absurd (gives_fails m n faults.TooBig x)

given_none : (m : HttpMessage) (n k : ℕ) (b : Bool) → nat_lt k most_head ≡ b
    → Gives m n ≡ (if nat_lt k most_head then Waits else Fails faults.TooBig) → ⊥
given_none m n k true t is = gives_waits m n (is ∙ rw t refl)
given_none m n k false t is = gives_fails m n faults.TooBig (is ∙ rw t refl)

given_by : (kind : Kind) (xs : List ℕ) (m : HttpMessage) (n : ℕ) (r : Option ℕ) → head_len xs ≡ r → LooksBy kind xs (Gives m n) r
    → IsGiven kind xs m n
given_by kind xs m n None e x = absurd (given_none m n (length xs) (nat_lt (length xs) most_head) refl x)
given_by kind xs m n (Some head) e x = given_within kind xs m n head (nat_le head most_head) refl e x

pub given : (kind : Kind) (xs : List ℕ) (m : HttpMessage) (n : ℕ) → Looks kind xs (Gives m n) → IsGiven kind xs m n
unfolding Looks
given kind xs m n x = given_by kind xs m n (head_len xs) refl x

-- and back
gives_from : (kind : Kind) (xs : List ℕ) (m : HttpMessage) (n : ℕ) → IsGiven kind xs m n → Looks kind xs (Gives m n)
gives_from kind xs m n g =
    let test : nat_le (g.head + g.len) (length xs) ≡ true = le_true (g.head + g.len) (length xs) (omega (arith, g.fits, g.whole)) in
    let is : with_body xs g.head g.parts (body_len kind g.parts) ≡ Gives (message_of g.parts (take g.len (drop g.head xs)))
    (g.head + g.len) =
    rw (g.len_is, test) refl in
    let same : Gives m n ≡ Gives (message_of g.parts (take g.len (drop g.head xs))) (g.head + g.len) = cc (g.message, g.whole) in
    looks_after kind xs (Gives m n) g.head g.head_is g.short (inl (g.parts, g.reads, same ∙ sym is))

-- octets up to the message's last
module _ (kind : Kind) (xs : List ℕ) (m : HttpMessage) (n : ℕ) (g : IsGiven kind xs m n) where
  -- a front with the whole head
  front_head : (k : ℕ) → g.head ≤ k → k ≤ length xs → (head_len (take k xs) ≡ Some g.head) × (take g.head (take k xs) ≡ take g.head xs)
  front_head k le fits =
      let same : take g.head (take k xs) ≡ take g.head xs =
      sym (take-append-le g.head (take k xs) (drop k xs) (omega (arith, le, length-take-le k xs fits)))
      ∙ ap (take g.head) (take-append-drop k xs) in
      let whole : head_len (take g.head (take k xs)) ≡ Some g.head = ap head_len same ∙ head_front g.head xs g.head_is in
      let all = head_kept g.head (take g.head (take k xs)) (drop g.head (take k xs)) whole in
      (ap head_len (sym (take-append-drop g.head (take k xs))) ∙ all.0, same)

  front_body : take g.len (drop g.head (take n xs)) ≡ take g.len (drop g.head xs)
  front_body =
      let long : length (take n xs) ≡ n = length-take-le n xs g.fits in
      let cut : drop g.head xs ≡ drop g.head (take n xs) ++ drop n xs =
      ap (drop g.head) (sym (take-append-drop n xs)) ∙ drop-append-le g.head (take n xs) (drop n xs) (omega (arith, long, g.whole)) in
      sym (ap (take g.len) cut ∙ take-append-le g.len (drop g.head (take n xs)) (drop n xs)
      (omega (arith, long, g.whole, length-drop g.head (take n xs))))

  pub front_given : IsGiven kind (take n xs) m n
  front_given =
      let f = front_head n (omega (arith, g.whole)) g.fits in
      record {
        head = g.head;
        head_is = f.0;
        short = g.short;
        parts = g.parts;
        reads = subst (λ l. Reads kind l g.parts) (sym f.1) g.reads;
        len = g.len;
        len_is = g.len_is;
        fits = omega (arith, length-take-le n xs g.fits);
        whole = g.whole;
        message = g.message ∙ ap (message_of g.parts) (sym front_body);
      }

pub front_gives : (kind : Kind) (xs : List ℕ) (m : HttpMessage) (n : ℕ) → Looks kind xs (Gives m n) → Looks kind (take n xs) (Gives m n)
front_gives kind xs m n x = gives_from kind (take n xs) m n (front_given kind xs m n (given kind xs m n x))

part_none : (kind : Kind) (xs : List ℕ) (m : HttpMessage) (n k : ℕ) (g : IsGiven kind xs m n) → k < g.head → (r : Option ℕ)
    → head_len (take k xs) ≡ r → head_len (take k xs) ≡ None
part_none kind xs m n k g before None e = e
part_none kind xs m n k g before (Some j) e =
    let later = head_kept j (take k xs) (drop k xs) e in
    let all : Some j ≡ Some g.head = sym later.0 ∙ ap head_len (take-append-drop k xs) ∙ g.head_is in
    let same : j ≡ g.head = cc in
    absurd (omega (arith, same, later.1, before, length-take k xs))

-- a front that ends before the message does waits
part_by : (kind : Kind) (xs : List ℕ) (m : HttpMessage) (n k : ℕ) (g : IsGiven kind xs m n) → k < n → (b : Bool) → nat_le g.head k ≡ b
    → Looks kind (take k xs) Waits
part_by kind xs m n k g lt true t =
    let le : g.head ≤ k = grind (arith, t) in
    let f = front_head kind xs m n g k le (omega (arith, lt, g.fits)) in
    let test : nat_le (g.head + g.len) (length (take k xs)) ≡ false =
    le_false (g.head + g.len) (length (take k xs)) (omega (arith, lt, g.whole, g.fits, length-take-le k xs (omega (arith, lt, g.fits)))) in
    let is : with_body (take k xs) g.head g.parts (body_len kind g.parts) ≡ Waits = rw (g.len_is, test) refl in
    looks_after kind (take k xs) Waits g.head f.0 g.short (inl (g.parts, subst (λ l. Reads kind l g.parts) (sym f.1) g.reads, sym is))
part_by kind xs m n k g lt false t =
    let before : k < g.head = grind (arith, t) in
    let long : length (take k xs) ≡ k = length-take-le k xs (omega (arith, lt, g.fits)) in
    looks_open kind (take k xs) (part_none kind xs m n k g before (head_len (take k xs)) refl) (omega (arith, long, before, g.short))

pub part_waits : (kind : Kind) (xs : List ℕ) (m : HttpMessage) (n k : ℕ) → Looks kind xs (Gives m n) → k < n → Looks kind (take k xs) Waits
part_waits kind xs m n k x lt =
    let g = given kind xs m n x in part_by kind xs m n k g lt (nat_le g.head k) refl

-- ---- runs of calls

fresh_since : (kind : Kind) → IsSince (fresh kind) []
fresh_since kind = (refl, looks_open kind [] refl (omega arith))

pub fresh_read : (kind : Kind) → HasRead (fresh kind) [] []
fresh_read kind = fresh_since kind

-- octets more, by what they do to those since the last message
reads_more : (f after : Feeding) (octets more : List ℕ) (messages extra : List HttpMessage) → after.kind ≡ f.kind
    → ((since : List ℕ) → IsSince f since → HasRead after (since ++ more) extra) → HasRead f octets messages
    → HasRead after (octets ++ more) (messages ++ extra)
reads_more f after octets more [] extra same step x = step octets x
reads_more f after octets more (m ∷ messages) extra same step x =
    let n = x.0 in
    let g = given f.kind octets m x.0 x.1 in
    let kept = looks_kept f.kind octets more (Gives m x.0) (gives_waits m x.0) x.1 in (
      x.0,
      subst (λ k. Looks k (octets ++ more) (Gives m x.0)) (sym same) kept,
      subst (λ l. HasRead after l (messages ++ extra)) (sym (drop-append-le x.0 octets more g.fits))
          (reads_more f after (drop x.0 octets) more messages extra same step x.2),
    )

reads_same : (f after : Feeding) (octets piece : List ℕ) (messages : List HttpMessage) → after.kind ≡ f.kind
    → ((since : List ℕ) → IsSince f since → IsSince after (since ++ piece)) → HasRead f octets messages
    → HasRead after (octets ++ piece) messages
reads_same f after octets piece messages same step x =
    subst (λ l. HasRead after (octets ++ piece) l) (append-nil messages) (reads_more f after octets piece messages [] same step x)

take_after : (xs ys : List ℕ) (k : ℕ) → take (length xs + k) (xs ++ ys) ≡ xs ++ take k ys
take_after [] ys k = let e : 0 + k ≡ k = omega arith in ap (λ n. take n ys) e
take_after (x ∷ xs) ys k =
    let e : suc (length xs) + k ≡ suc (length xs + k) = omega arith in
    ap (λ n. take n (x ∷ (xs ++ ys))) e ∙ ap (λ l. x ∷ l) (take_after xs ys k)

-- a whole message is the next one, and nothing of it is left
whole_next : (f after : Feeding) (piece since : List ℕ) (m : HttpMessage) (taken : ℕ) → after.kind ≡ f.kind
    → FeedGives f.kind since piece after (Ok (Whole m taken)) → HasRead after (since ++ take taken piece) (m ∷ [])
whole_next f after piece since m taken same x =
    let n = length since + taken in
    let cut : take (length since + taken) (since ++ piece) ≡ since ++ take taken piece = take_after since piece taken in
    let front = front_gives f.kind (since ++ piece) m (length since + taken) x.1 in
    let looks : Looks f.kind (since ++ take taken piece) (Gives m (length since + taken)) =
    subst (λ l. Looks f.kind l (Gives m (length since + taken))) cut front in
    let none : drop (length since + taken) (since ++ take taken piece) ≡ [] =
    drop_all (length since + taken) (since ++ take taken piece)
    (omega (arith, length-append since (take taken piece), length-take-le taken piece x.0)) in (
      length since + taken,
      subst (λ k. Looks k (since ++ take taken piece) (Gives m (length since + taken))) (sym same) looks,
      subst (λ l. IsSince after l) (sym none) (subst (λ g. IsSince g []) (sym x.2) (fresh_since f.kind)),
    )

pub pieces : (f after : Feeding) (octets piece : List ℕ) (messages : List HttpMessage) (result : Result Fed (OrMemory HttpFault))
    → after.kind ≡ f.kind → ((since : List ℕ) → IsSince f since → FeedGives f.kind since piece after result)
    → HasRead f octets messages → ReadsOn after octets messages piece result
pieces f after octets piece messages (Ok NoneYet) same gives x =
    reads_same f after octets piece messages same (λ since is. (gives since is).1) x
pieces f after octets piece messages (Ok (Whole m taken)) same gives x =
    reads_more f after octets (take taken piece) messages (m ∷ []) same (λ since is. whole_next f after piece since m taken same
    (gives since is)) x
pieces f after octets piece messages (Err (Refused fault)) same gives x =
    reads_same f after octets piece messages same (λ since is. (gives since is).1) x
pieces f after octets piece messages (Err NoMemory) same gives x = tt

-- ---- the cuts

since_by : (kind : Kind) (kept octets : List ℕ) (fault : Option HttpFault) (m : HttpMessage) (n : ℕ) → IsSinceBy kind kept fault octets
    → Looks kind octets (Gives m n) → ⊥
since_by kind kept octets None m n x y = gives_waits m n (looks_unique kind octets (Gives m n) Waits y x.1)
since_by kind kept octets (Some fault) m n x y = gives_fails m n fault (looks_unique kind octets (Gives m n) (Fails fault) y x)

since_gives : (f : Feeding) (kind : Kind) (octets : List ℕ) (m : HttpMessage) (n : ℕ) → f.kind ≡ kind → IsSince f octets
    → Looks kind octets (Gives m n) → ⊥
since_gives f kind octets m n same x y =
    since_by f.kind f.octets octets f.fault m n x (subst (λ k. Looks k octets (Gives m n)) (sym same) y)

pub cuts : (f g : Feeding) (octets : List ℕ) (xs ys : List HttpMessage) → f.kind ≡ g.kind → HasRead f octets xs → HasRead g octets ys
    → xs ≡ ys
cuts f g octets [] [] same x y = refl
cuts f g octets [] (b ∷ ys) same x y = absurd (since_gives f g.kind octets b y.0 same x y.1)
cuts f g octets (a ∷ xs) [] same x y = absurd (since_gives g f.kind octets a x.0 (sym same) y x.1)
cuts f g octets (a ∷ xs) (b ∷ ys) same x y =
    let one : Gives a x.0 ≡ Gives b y.0 =
    looks_unique f.kind octets (Gives a x.0) (Gives b y.0) x.1 (subst (λ k. Looks k octets (Gives b y.0)) (sym same) y.1) in
    let first : a ≡ b = cc in
    let long : x.0 ≡ y.0 = cc in
    let rest = cuts f g (drop x.0 octets) xs ys same x.2 (subst (λ k. HasRead g (drop k octets) ys) (sym long) y.2) in
    ap (λ m. m ∷ xs) first ∙ ap (λ l. b ∷ l) rest
