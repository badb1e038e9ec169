-- What plans come to.
use Rattle.std.proofs.Common.{◌≡◌, ◌+◌, ℕ, zero, suc, Bool, true, false, List, [], ◌∷◌, ◌++◌, take, length, append_assoc, append-nil, not, ◌&&◌, Option, Some, None, Result, Ok, Err, IfOk, slice_get, refl, ap, sym, ◌∙◌, if◌then◌else◌, arith}
use Rattle.ikeless_tree.specs.declared.order.Notice.{Notice}
use Rattle.life_count.specs.declared.event.LifeEvent.{LifeEvent}
use Rattle.life_count.specs.declared.event.LifeEvent.TheVariants as events
use Rattle.life_count.specs.Lifetime.{counts_of, event_at, expiry, is_reached}
use Rattle.esp_frame.specs.Open.{InnerPacket, inner_packet}
use Rattle.sad_store.specs.declared.half.Half.{Half}
use Rattle.sad_store.specs.Halves.{take_number}
use Rattle.hist_gateway.specs.Places.{names_reached}
use Rattle.gw_tables.specs.Kept.{Kept, with_halves}
use Rattle.gw_packets.specs.Change.{going_by, gone_from}
use Rattle.gw_packets.specs.declared.done.PacketAnswer.{PacketAnswer}
use Rattle.gw_packets.specs.declared.unseal.Unsealed.{Unsealed}
use Rattle.gw_packets.specs.Inbound.{answer_by_packet, opened_by_text}
use Rattle.gw_packets.specs.Looks.{expiries, gone_by, left_by, used}
use Rattle.gw_packets.specs.Opened.{answer_by, taken_by, unsealed_by, unsealed_by_packet}

-- a half that is gone leaves the others
pub gone-left : (name : List ℕ) (event : LifeEvent) (xs : List Half) (k : Kept) → gone_from (going_by name event) (with_halves xs k) ≡
    with_halves (left_by name event xs) k
gone-left name events.Hard xs k = refl
gone-left name events.Soft xs k = refl
gone-left name events.Nothing xs k = refl

-- one half more is told of
pub told-next : (now : ℕ) (xs : List Half) (i : ℕ) (x : Half) → slice_get xs i ≡ Some x →
    expiries now (take i xs) ++ expiry x.entry.name (counts_of now x.life) (event_at now x.life) ≡ expiries now (take (i + 1) xs)
told-next now [] zero x e = cc
told-next now [] (suc i) x e = cc
told-next now (y ∷ ys) zero x e =
    let same : y ≡ x = cc in
    ap (λ z. expiry z.entry.name (counts_of now z.life) (event_at now z.life)) (sym same)
    ∙ sym (append-nil (expiry y.entry.name (counts_of now y.life) (event_at now y.life)))
told-next now (y ∷ ys) (suc i) x e =
    let next : suc i + 1 ≡ suc (i + 1) = omega arith in
    let own : List Notice = expiry y.entry.name (counts_of now y.life) (event_at now y.life) in
    rw next (append_assoc own (expiries now (take i ys)) (expiry x.entry.name (counts_of now x.life) (event_at now x.life))
    ∙ ap (λ ns. own ++ ns) (told-next now ys i x e))

-- one half more is gone, if it reaches a hard limit
gone-is : (b c : Bool) (name : List ℕ) → gone_by name (if b then events.Hard else if c then events.Soft else events.Nothing) ≡
    (if b then name ∷ [] else [])
gone-is true c name = refl
gone-is false true name = refl
gone-is false false name = refl

gone-first : (now : ℕ) (x : Half) (rest : List (List ℕ)) → gone_by x.entry.name (event_at now x.life)
    ++ rest ≡ (if is_reached x.life.hard (counts_of now x.life) then x.entry.name ∷ rest else rest)
gone-first now x rest =
    ap (λ ns. ns ++ rest) (gone-is (is_reached x.life.hard (counts_of now x.life)) (is_reached x.life.soft (counts_of now x.life)
    && not x.life.is_told) x.entry.name)
    ∙ by (is_reached x.life.hard (counts_of now x.life)) x.entry.name rest
  where
    by : (b : Bool) (name : List ℕ) (rest : List (List ℕ)) → (if b then name ∷ [] else []) ++ rest ≡ (if b then name ∷ rest else rest)
    by true name rest = refl
    by false name rest = refl

pub reached-next : (now : ℕ) (xs : List Half) (i : ℕ) (x : Half) → slice_get xs i ≡ Some x →
    names_reached now (take i xs) ++ gone_by x.entry.name (event_at now x.life) ≡ names_reached now (take (i + 1) xs)
reached-next now [] zero x e = cc
reached-next now [] (suc i) x e = cc
reached-next now (y ∷ ys) zero x e =
    let same : y ≡ x = cc in
    ap (λ z. gone_by z.entry.name (event_at now z.life)) (sym same) ∙ (sym (append-nil (gone_by y.entry.name (event_at now y.life)))
    ∙ gone-first now y [])
reached-next now (y ∷ ys) (suc i) x e =
    let next : suc i + 1 ≡ suc (i + 1) = omega arith in
    let own : List (List ℕ) = gone_by y.entry.name (event_at now y.life) in
    let last : List (List ℕ) = gone_by x.entry.name (event_at now x.life) in
    rw next (ap (λ ns. ns ++ last) (sym (gone-first now y (names_reached now (take i ys))))
    ∙ (append_assoc own (names_reached now (take i ys)) last
    ∙ (ap (λ ns. own ++ ns) (reached-next now ys i x e) ∙ gone-first now y (names_reached now (take (i + 1) ys)))))

-- ---- what was opened

taken-packet : (b : List ℕ) (i : ℕ) (x : Half) (n : ℕ) (p : Option InnerPacket) (k : Kept) →
    used (answer_by_packet x.entry n p) i (take_number k.clock (length b) n) (take_number k.clock (length b) n x) k ≡ taken_by b i x n
    (answer_by x.entry n (unsealed_by_packet p)) k
taken-packet b i x n None k = refl
taken-packet b i x n (Some p) k = refl

taken-text : (b : List ℕ) (i : ℕ) (x : Half) (n : ℕ) (text : Option (List ℕ)) (k : Kept) → opened_by_text b i x n text k ≡ taken_by b i x n
    (answer_by x.entry n (unsealed_by text)) k
taken-text b i x n None k = refl
taken-text b i x n (Some text) k = taken-packet b i x n (inner_packet text) k

-- the answer to octets that opened is that to their text
pub taken-by-text : (b : List ℕ) (i : ℕ) (x : Half) (n : ℕ) (text : Option (List ℕ)) (u : Unsealed) (answer : PacketAnswer) (k : Kept) →
    u ≡ unsealed_by text → answer_by x.entry n u ≡ Some answer →
    used answer i (take_number k.clock (length b) n) (take_number k.clock (length b) n x) k ≡ opened_by_text b i x n text k
taken-by-text b i x n text u answer k opened is =
    ap (λ a. taken_by b i x n a k) (sym is ∙ ap (answer_by x.entry n) opened) ∙ sym (taken-text b i x n text k)

pub if-ok-by : {X E : Type 0} {P Q : X → Type 0} → ((x : X) → P x → Q x) → (r : Result X E) → IfOk r P → IfOk r Q
if-ok-by f (Ok x) p = f x p
if-ok-by f (Err e) p = p
