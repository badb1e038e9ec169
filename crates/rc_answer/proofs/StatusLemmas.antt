-- The status of an answer that was read.
use Rattle.std.proofs.Common.{◌≡◌, ℕ, ◌==◌, Bool, true, false, if◌then◌else◌, List, Result, Ok, Err, refl, sym, ◌∙◌, subst, arith}
use Rattle.std.proofs.lemmas.Bool.Decides.{nat_tests}
use Rattle.ikeless_tree.specs.declared.entry.SpdEntry.{SpdEntry}
use Rattle.ikeless_tree.specs.declared.order.Answer.{Answer}
use Rattle.ikeless_tree.specs.declared.order.Order.{Order}
use Rattle.ikeless_tree.specs.declared.order.Order.TheVariants as orders
use Rattle.json_values.specs.Faults.{◌>>=◌}
use Rattle.rc_http.specs.declared.message.HttpMessage.{HttpMessage}
use Rattle.rc_answer.specs.declared.answer.BadAnswer.{BadAnswer}
use Rattle.rc_answer.specs.Answers.{answer_of, bad, change_of, done, error_of, is_status_of, names_of, policies_of, reading_of, refusal_of, refused, shown}

equal : (n k : ℕ) → (n == k) ≡ true → n ≡ k
equal n k h = grind (arith, nat_tests, h)

abbrev HasStatus : Order → HttpMessage → Answer → Type 0
HasStatus o m a = (a.status ≡ m.status) × (is_status_of o a.status ≡ true)

with_status : (o : Order) (m : HttpMessage) (a : Answer) (n : ℕ) → is_status_of o n ≡ true → (m.status == n) ≡ true → a.status ≡ n
    → HasStatus o m a
with_status o m a n allowed is same = (same ∙ sym (equal m.status n is), rw same allowed)

-- an answer that is made of what was read
made_of : {A : Type 0} (found : Result A BadAnswer) (f : A → Answer) (n : ℕ) (a : Answer) → ((x : A) → (f x).status ≡ n)
    → (found >>= (λ x. Ok (f x))) ≡ Ok a → a.status ≡ n
made_of (Ok x) f n a same h = let e : f x ≡ a = cc in subst (λ (b : Answer). b.status ≡ n) e (same x)
made_of (Err e) f n a same h = absurd (let no : ⊥ = cc in no)

is_done : (n : ℕ) (a : Answer) → (let r : Result Answer BadAnswer = Ok (done n) in r) ≡ Ok a → a.status ≡ n
is_done n a h = let e : done n ≡ a = cc in subst (λ (b : Answer). b.status ≡ n) e refl

reading_has : (m : HttpMessage) (a : Answer) → reading_of m ≡ Ok a → HasStatus orders.Read m a
reading_has m a h = by_test (m.status == 200) refl h
  where
    by_test : (b : Bool) → (m.status == 200) ≡ b → (if b then names_of m.body >>= (λ names. Ok (shown names)) else Err bad) ≡ Ok a
        → HasStatus orders.Read m a
    by_test true t h = with_status orders.Read m a 200 refl t (made_of (names_of m.body) shown 200 a (λ names. refl) h)
    by_test false t h = absurd (let no : ⊥ = cc in no)

policies_have : (list : List SpdEntry) (m : HttpMessage) (a : Answer) → policies_of m ≡ Ok a → HasStatus (orders.Policy list) m a
policies_have list m a h = by_test (m.status == 204) refl h
  where
    by_test : (b : Bool) → (m.status == 204) ≡ b → (if b then Ok (done 204) else Err bad) ≡ Ok a → HasStatus (orders.Policy list) m a
    by_test true t h = with_status (orders.Policy list) m a 204 refl t (is_done 204 a h)
    by_test false t h = absurd (let no : ⊥ = cc in no)

refusal_has : (o : Order) (n : ℕ) (m : HttpMessage) (a : Answer) → is_status_of o n ≡ true → refusal_of n m ≡ Ok a → HasStatus o m a
refusal_has o n m a allowed h = by_test (m.status == n) refl h
  where
    by_test : (b : Bool) → (m.status == n) ≡ b → (if b then error_of m.body >>= (λ found. Ok (refused n found)) else Err bad) ≡ Ok a
        → HasStatus o m a
    by_test true t h = with_status o m a n allowed t (made_of (error_of m.body) (refused n) n a (λ found. refl) h)
    by_test false t h = absurd (let no : ⊥ = cc in no)

change_has : (o : Order) (success failure : ℕ) (m : HttpMessage) (a : Answer) → is_status_of o success ≡ true
    → is_status_of o failure ≡ true → change_of success failure m ≡ Ok a → HasStatus o m a
change_has o success failure m a good other h = by_test (m.status == success) refl h
  where
    by_test : (b : Bool) → (m.status == success) ≡ b → (if b then Ok (done success) else refusal_of failure m) ≡ Ok a → HasStatus o m a
    by_test true t h = with_status o m a success good t (is_done success a h)
    by_test false t h = refusal_has o failure m a other h

pub answer_has : (o : Order) (m : HttpMessage) (a : Answer) → answer_of o m ≡ Ok a → HasStatus o m a
answer_has orders.Read m a h = reading_has m a h
answer_has (orders.Policy list) m a h = policies_have list m a h
answer_has (orders.Put e) m a h = change_has (orders.Put e) 201 409 m a refl refl h
answer_has (orders.Remove name) m a h = change_has (orders.Remove name) 204 404 m a refl refl h
