-- What feeding a piece gives, whatever was fed before.
use Rattle.std.proofs.Common.{◌≡◌, ◌<◌, ◌≤◌, ◌+◌, ℕ, zero, suc, List, [], ◌∷◌, ◌++◌, length, take, drop, Option, Some, None, Result, Ok, Err, refl, sym, ap, subst, ◌∙◌, arith, append-nil}
use Rattle.std.proofs.lemmas.List.{take_all, take_at}
use Rattle.ikl_base.specs.declared.fault.OrMemory.{OrMemory}
use Rattle.ikl_base.specs.declared.fault.OrMemory.TheVariants.{Refused, NoMemory}
use Rattle.rc_http.specs.declared.feeder.Fed.{Fed}
use Rattle.rc_http.specs.declared.feeder.Fed.TheVariants.{NoneYet, Whole}
use Rattle.rc_http.specs.declared.message.HttpFault.{HttpFault}
use Rattle.rc_http.specs.declared.message.HttpMessage.{HttpMessage}
use Rattle.rc_http.specs.declared.message.Kind.{Kind}
use Rattle.rc_http.specs.Feeding.{Feeding, FeedGives, HasRead, IsSince, IsSinceBy, ReadsOn, fresh}
use Rattle.rc_http.specs.Looks.{Looked, Looks, Waits, Fails, Gives}
use Rattle.live_messages.specs.declared.feed.Brought.{Brought}
use Rattle.live_messages.specs.declared.feed.Brought.TheVariants.{Nothing, Message, Fault}
use Rattle.live_messages.specs.Brings.{GoesOn}
use Rattle.live_messages.specs.Holds.{IsReading}

-- what the crates below show of octets and of feeding
abbrev pub IsOne : Type 0
IsOne = (kind : Kind) (octets : List ℕ) (a b : Looked) → Looks kind octets a → Looks kind octets b → a ≡ b

abbrev pub Ends : Type 0
Ends = (kind : Kind) (octets : List ℕ) (m : HttpMessage) (n : ℕ) → Looks kind octets (Gives m n) → Looks kind (take n octets) (Gives m n)

abbrev pub Gave : Feeding → Feeding → List ℕ → Result Fed (OrMemory HttpFault) → Type 0
Gave f after piece result = (since : List ℕ) → IsSince f since → FeedGives f.kind since piece after result

abbrev pub Joins : Type 0
Joins = (f after : Feeding) (octets piece : List ℕ) (messages : List HttpMessage) (result : Result Fed (OrMemory HttpFault))
    → after.kind ≡ f.kind → Gave f after piece result → HasRead f octets messages → ReadsOn after octets messages piece result

-- ---- what was fed since the last message

since-of : (f : Feeding) (octets : List ℕ) (messages : List HttpMessage) → HasRead f octets messages → (since : List ℕ) × IsSince f since
since-of f octets [] h = (octets, h)
since-of f octets (m ∷ ms) h = since-of f (drop h.0 octets) ms h.2

waits-fails : (fault : HttpFault) → Waits ≡ Fails fault → ⊥
waits-fails fault e = let no : ⊥ = cc in no

gives-waits : (m : HttpMessage) (n : ℕ) → Gives m n ≡ Waits → ⊥
gives-waits m n e = let no : ⊥ = cc in no

gives-fails : (m : HttpMessage) (n : ℕ) (fault : HttpFault) → Gives m n ≡ Fails fault → ⊥
gives-fails m n fault e = let no : ⊥ = cc in no

same-fault : (a b : HttpFault) → Fails a ≡ Fails b → Some a ≡ Some b
same-fault a b e = cc

none-found : IsOne → (kind : Kind) (kept : List ℕ) (fault : Option HttpFault) (since : List ℕ) → IsSinceBy kind kept fault since
    → Looks kind since Waits → fault ≡ None
none-found one kind kept None since s w = refl
none-found one kind kept (Some fault) since s w = absurd (waits-fails fault (one kind since Waits (Fails fault) w s))

one-found : IsOne → (kind : Kind) (kept : List ℕ) (found : Option HttpFault) (since : List ℕ) (fault : HttpFault)
    → IsSinceBy kind kept found since
    → Looks kind since (Fails fault) → found ≡ Some fault
one-found one kind kept None since fault s w = absurd (waits-fails fault (one kind since Waits (Fails fault) s.1 w))
one-found one kind kept (Some other) since fault s w = same-fault other fault (one kind since (Fails other) (Fails fault) s w)

no-message : IsOne → (kind : Kind) (kept : List ℕ) (fault : Option HttpFault) (since : List ℕ) (m : HttpMessage) (n : ℕ)
    → IsSinceBy kind kept fault since → Looks kind since (Gives m n) → ⊥
no-message one kind kept None since m n s g = gives-waits m n (one kind since (Gives m n) Waits g s.1)
no-message one kind kept (Some fault) since m n s g = gives-fails m n fault (one kind since (Gives m n) (Fails fault) g s)

-- ---- what a piece gives

all-of : (octets piece : List ℕ) → octets ++ piece ≡ octets ++ take (length piece) piece
all-of octets piece = ap (λ p. octets ++ p) (sym (take_all (length piece) piece (omega arith)))

-- where a piece is taken whole and no message comes
on-whole : (after : Feeding) (octets piece : List ℕ) (messages : List HttpMessage) → HasRead after (octets ++ piece) messages
    → HasRead after (octets ++ take (length piece) piece) (messages ++ [])
on-whole after octets piece messages h =
    subst (λ ms. HasRead after (octets ++ take (length piece) piece) ms) (sym (append-nil messages))
    (subst (λ o. HasRead after o messages) (all-of octets piece) h)

pub nothing-goes : IsOne → Joins → (f after : Feeding) (piece : List ℕ) → IsReading f → after.kind ≡ f.kind
    → Gave f after piece (Ok NoneYet) → GoesOn f after piece Nothing
nothing-goes one join f after piece reading same gave =
    let since = since-of f reading.0 reading.1 reading.2 in
    let given = gave since.0 since.1 in
    let waits : Looks after.kind (since.0 ++ piece) Waits = subst (λ k. Looks k (since.0 ++ piece) Waits) (sym same) given.0 in
    record {
      kind = same;
      fault = none-found one after.kind after.octets after.fault (since.0 ++ piece) given.1 waits;
      reads = λ octets messages h. on-whole after octets piece messages (join f after octets piece messages (Ok NoneYet) same gave h);
      within = omega arith;
      some = λ some. some;
    }

pub fault-goes : IsOne → Joins → (f after : Feeding) (piece : List ℕ) (fault : HttpFault) → IsReading f → after.kind ≡ f.kind
    → Gave f after piece (Err (Refused fault)) → GoesOn f after piece (Fault fault)
fault-goes one join f after piece fault reading same gave =
    let since = since-of f reading.0 reading.1 reading.2 in
    let given = gave since.0 since.1 in
    let fails : Looks after.kind (since.0 ++ piece) (Fails fault) = subst (λ k. Looks k (since.0 ++ piece) (Fails fault)) (sym same) given.0
    in
    record {
      kind = same;
      fault = one-found one after.kind after.octets after.fault (since.0 ++ piece) fault given.1 fails;
      reads = λ octets messages h. on-whole after octets piece messages (join f after octets piece messages (Err (Refused fault)) same gave
          h);
      within = omega arith;
      some = λ some. some;
    }

-- a message has an octet of the piece
taken-some : IsOne → Ends → (f : Feeding) (since piece : List ℕ) (m : HttpMessage) (taken : ℕ) → IsSince f since
    → Looks f.kind (since ++ piece) (Gives m (length since + taken)) → 0 < taken
taken-some one ends f since piece m zero s g =
    let front : take (length since + 0) (since ++ piece) ≡ since = take_at since piece (length since + 0) (omega arith) in
    let whole : Looks f.kind since (Gives m (length since + 0)) =
    subst (λ o. Looks f.kind o (Gives m (length since + 0))) front (ends f.kind (since ++ piece) m (length since + 0) g) in
    absurd (no-message one f.kind f.octets f.fault since m (length since + 0) s whole)
taken-some one ends f since piece m (suc k) s g = omega arith

no-fault : (after : Feeding) (kind : Kind) → after ≡ fresh kind → after.fault ≡ None
no-fault after kind e = ap (λ (f : Feeding). f.fault) e

pub message-goes : IsOne → Ends → Joins → (f after : Feeding) (piece : List ℕ) (m : HttpMessage) (taken : ℕ) → IsReading f
    → after.kind ≡ f.kind
    → Gave f after piece (Ok (Whole m taken)) → GoesOn f after piece (Message m taken)
message-goes one ends join f after piece m taken reading same gave =
    let since = since-of f reading.0 reading.1 reading.2 in
    let given = gave since.0 since.1 in
    record {
      kind = same;
      fault = no-fault after f.kind given.2;
      reads = λ octets messages h. join f after octets piece messages (Ok (Whole m taken)) same gave h;
      within = given.0;
      some = λ some. taken-some one ends f since.0 piece m taken since.1 given.1;
    }
