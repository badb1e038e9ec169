-- What accepts and reads give.
use Rattle.std.proofs.Common.{◌≡◌, ◌<◌, ◌==◌, ◌⊎◌, inl, inr, ℕ, min, Bool, true, false, List, [], ◌∷◌, ◌++◌, length, take, drop, Option, Some, None, refl, sym, ap, ◌∙◌, arith, eq-eqb, if◌then◌else◌}
use Rattle.std.proofs.lemmas.Bool.{ne_eqb}
use Rattle.std.proofs.lemmas.List.{take_at, drop_at, length-take-le}
use Rattle.live_devices.specs.Comings.{found, later}
use Rattle.live_devices.specs.Docks.{Accepts, DockHeld, Reads, Replies, has_found, taken}
use Rattle.live_devices.specs.Streams.{Read, Stream, there_now}
use Rattle.live_devices.specs.Reads.{Came, End, Makes, Piece, Waiting, after_read, came_by, came_of, read_size, with_reply}

-- ---- what is told

pub some-same : {T : Type 0} (a b : T) → Some a ≡ Some b → a ≡ b
some-same a b e = cc

pub none-some : {T : Type 0} (b : T) → None ≡ Some b → ⊥
none-some b e = let no : ⊥ = cc in no

pub makes-same : {T : Type 0} (x : Option T) → Makes (λ y. y) x x
makes-same x = λ y e. e

pub makes-on : {T : Type 0} (f g : T → T) (a b c : Option T) → Makes f a b → Makes g b c → Makes (λ x. g (f x)) a c
makes-on f g a b c p q = λ x e. q (f x) (p x e)

-- what is told becomes the same where both say the same
pub makes-as : {T : Type 0} (f g : T → T) (a b : Option T) → ((x : T) → f x ≡ g x) → Makes f a b → Makes g a b
makes-as f g a b same p = λ x e. p x e ∙ ap Some (same x)

-- ---- replies

pub replies-makes : (old new : Option DockHeld) (octets : List ℕ) → Replies old new octets → Makes (with_reply octets) old new
replies-makes None new octets s = λ d e. absurd (none-some d e)
replies-makes (Some old) None octets s = absurd s
replies-makes (Some old) (Some new) octets s = λ d e. ap Some (s ∙ ap (with_reply octets) (some-same old d e))

-- ---- accepts

pub accepts-makes : (old new : Option DockHeld) (answer : Bool) → Accepts old new answer → Makes (λ d. taken (found d.coming) d) old new
accepts-makes None new answer a = λ d e. absurd (none-some d e)
accepts-makes (Some old) None answer a = absurd a
accepts-makes (Some old) (Some new) answer a = λ d e. ap Some (a.1 ∙ ap (λ (x : DockHeld). taken (found x.coming) x) (some-same old d e))

pub accepts-found : (old new : Option DockHeld) (answer : Bool) → Accepts old new answer → (d : DockHeld) → old ≡ Some d
    → answer ≡ has_found (found d.coming)
accepts-found None new answer a d e = absurd (none-some d e)
accepts-found (Some old) None answer a d e = absurd a
accepts-found (Some old) (Some new) answer a d e = a.0 ∙ ap (λ (x : DockHeld). has_found (found x.coming)) (some-same old d e)

-- ---- reads of a stream

-- the stream after a read, and what the read gave
pub record Gave (old new : Stream) (came : Came) : Type 0 where
  pub after : new ≡ after_read old
  pub gives : came ≡ came_of old

abbrev stream : List ℕ → List ℕ → Bool → Stream
stream left there ends = record { left = left; there = there; ends = ends }

stream-is : (old new : Stream) → new.left ≡ drop (read_size old) old.left → new.there ≡ later old.there → new.ends ≡ old.ends
    → new ≡ after_read old
stream-is old new left there ends =
    ap (λ l. stream l new.there new.ends) left ∙ ap (λ t. stream (drop (read_size old) old.left) t new.ends) there
    ∙ ap (λ e. stream (drop (read_size old) old.left) (later old.there) e) ends

-- nothing waited
size-none : (size there : ℕ) → there ≡ 0 → min size there ≡ 0
size-none size there e = omega (arith, e)

size-empty : (long there : ℕ) → long ≡ 0 → min (min long 65536) there ≡ 0
size-empty long there e = omega (arith, e)

none-size : (s : Stream) → (there_now s.there ≡ 0) ⊎ ((length s.left ≡ 0) × (s.ends ≡ false)) → read_size s ≡ 0
none-size s (inl e) = size-none (min (length s.left) 65536) (there_now s.there) e
none-size s (inr e) = size-empty (length s.left) (there_now s.there) e.0

waits : (size : ℕ) (left : List ℕ) (ends : Bool) → length left ≡ 0 → ends ≡ false → came_by size ends left ≡ Waiting
waits size [] ends e f = rw f refl
waits size (x ∷ xs) ends e f = absurd (omega (arith, e))

either : (b : Bool) (x : Came) → x ≡ Waiting → (if b then Waiting else x) ≡ Waiting
either true x e = refl
either false x e = e

at-once : (b : Bool) (x : Came) → b ≡ true → (if b then Waiting else x) ≡ Waiting
at-once true x e = refl
at-once false x e = let no : ⊥ = cc in absurd no

none-came : (s : Stream) → (there_now s.there ≡ 0) ⊎ ((length s.left ≡ 0) × (s.ends ≡ false)) → came_of s ≡ Waiting
none-came s (inl e) = at-once (there_now s.there == 0) (came_by (read_size s) s.ends s.left) (eq-eqb (there_now s.there) 0 e)
none-came s (inr e) = either (there_now s.there == 0) (came_by (read_size s) s.ends s.left) (waits (read_size s) s.left s.ends e.0 e.1)

pub read-none : (old new : Stream) (buf : List ℕ) → Read old new None buf → Gave old new Waiting
read-none old new buf r =
    let size = none-size old (r.none refl) in
    let left : new.left ≡ drop (read_size old) old.left = sym r.octets ∙ ap (λ n. drop n old.left) (sym size) in
    record { after = stream-is old new left r.there r.ends; gives = sym (none-came old (r.none refl)) }

-- the end, or octets
some-size : (s : Stream) (n : ℕ) (buf : List ℕ) → length buf ≡ 65536 → n ≡ min (min (length s.left) (length buf)) (there_now s.there)
    → n ≡ read_size s
some-size s n buf room e = e ∙ ap (λ k. min (min (length s.left) k) (there_now s.there)) room

front-long : (s : Stream) (n : ℕ) (buf : List ℕ) → length buf ≡ 65536 → n ≡ read_size s → length (take n buf) ≡ n
front-long s n buf room e = length-take-le n buf (omega (arith, room, e))

left-is : (s new : Stream) (n : ℕ) (buf : List ℕ) → length buf ≡ 65536 → n ≡ read_size s → s.left ≡ take n buf ++ new.left
    → new.left ≡ drop (read_size s) s.left
left-is s new n buf room e cut =
    sym (drop_at (take n buf) new.left n (front-long s n buf room e)) ∙ ap (λ l. drop n l) (sym cut) ∙ ap (λ k. drop k s.left) e

front-is : (s new : Stream) (n : ℕ) (buf : List ℕ) → length buf ≡ 65536 → n ≡ read_size s → s.left ≡ take n buf ++ new.left
    → take n buf ≡ take (read_size s) s.left
front-is s new n buf room e cut =
    sym (take_at (take n buf) new.left n (front-long s n buf room e)) ∙ ap (λ l. take n l) (sym cut) ∙ ap (λ k. take k s.left) e

not-zero : (n : ℕ) → 0 < n → (n == 0) ≡ false
not-zero n p = ne_eqb n 0 (λ e. let no : ⊥ = omega (arith, p, e) in no)

piece-by : (size : ℕ) (ends : Bool) (left : List ℕ) → 0 < length left → came_by size ends left ≡ Piece (take size left)
piece-by size ends [] p = absurd (omega (arith, p))
piece-by size true (x ∷ xs) p = refl
piece-by size false (x ∷ xs) p = refl

end-by : (size : ℕ) (ends : Bool) (left : List ℕ) → length left ≡ 0 → ends ≡ true → came_by size ends left ≡ End
end-by size ends [] e f = rw f refl
end-by size ends (x ∷ xs) e f = absurd (omega (arith, e))

unless-zero : (b : Bool) (x : Came) → b ≡ false → (if b then Waiting else x) ≡ x
unless-zero true x e = let no : ⊥ = cc in absurd no
unless-zero false x e = refl

pub read-end : (old new : Stream) (n : ℕ) (buf : List ℕ) → length buf ≡ 65536 → n ≡ 0 → Read old new (Some n) buf → Gave old new End
read-end old new n buf room nil r =
    let size = some-size old n buf room r.size in
    let some = r.some in
    let none : length old.left ≡ 0 = omega (arith, size, nil, some.0) in
    let ends : old.ends ≡ true = is-end (length old.left) old.ends none some.1 in
    record {
      after = stream-is old new (left-is old new n buf room size r.octets) r.there r.ends;
      gives = sym (unless-zero (there_now old.there == 0) (came_by (read_size old) old.ends old.left)
          (not-zero (there_now old.there) some.0)
          ∙ end-by (read_size old) old.ends old.left none ends);
    }
  where
    is-end : (long : ℕ) (ends : Bool) → long ≡ 0 → (0 < long) ⊎ (ends ≡ true) → ends ≡ true
    is-end long ends none (inl p) = absurd (omega (arith, none, p))
    is-end long ends none (inr e) = e

pub read-piece : (old new : Stream) (n : ℕ) (buf : List ℕ) → length buf ≡ 65536 → 0 < n → Read old new (Some n) buf
    → Gave old new (Piece (take n buf))
read-piece old new n buf room some r =
    let size = some-size old n buf room r.size in
    let long : 0 < length old.left = omega (arith, size, some) in
    record {
      after = stream-is old new (left-is old new n buf room size r.octets) r.there r.ends;
      gives = ap Piece (front-is old new n buf room size r.octets)
          ∙ sym (unless-zero (there_now old.there == 0) (came_by (read_size old) old.ends old.left)
          (not-zero (there_now old.there) r.some.0)
          ∙ piece-by (read_size old) old.ends old.left long);
    }

-- ---- reads of a dock

abbrev pub read_dock : DockHeld → DockHeld
read_dock d = record d { session = after_read d.session }

dock-is : (old new d : DockHeld) (came : Came) → new ≡ record old { session = new.session } → Gave old.session new.session came
    → Some old ≡ Some d
    → new ≡ read_dock d
dock-is old new d came e gave same =
    let whole : new ≡ read_dock old = e ∙ ap (λ (s : Stream). record old { session = s }) gave.after in
    whole ∙ ap read_dock (some-same old d same)

pub reads-makes : (old new : Option DockHeld) (answer : Option ℕ) (buf : List ℕ) (came : Came)
    → ((a b : Stream) → Read a b answer buf → Gave a b came) → Reads old new answer buf → Makes read_dock old new
reads-makes None new answer buf came gives r = λ d e. absurd (none-some d e)
reads-makes (Some old) None answer buf came gives r = absurd r
reads-makes (Some old) (Some new) answer buf came gives r =
    λ d e. ap Some (dock-is old new d came r.0 (gives old.session new.session r.1) e)

pub reads-found : (old new : Option DockHeld) (answer : Option ℕ) (buf : List ℕ) (came : Came)
    → ((a b : Stream) → Read a b answer buf → Gave a b came) → Reads old new answer buf → (d : DockHeld) → old ≡ Some d
    → came ≡ came_of d.session
reads-found None new answer buf came gives r d e = absurd (none-some d e)
reads-found (Some old) None answer buf came gives r d e = absurd r
reads-found (Some old) (Some new) answer buf came gives r d e =
    (gives old.session new.session r.1).gives ∙ ap (λ (x : DockHeld). came_of x.session) (some-same old d e)
