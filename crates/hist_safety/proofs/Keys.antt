-- No number is sealed twice under one key.
use Rattle.std.proofs.Common.{◌≡◌, ℕ, ◌+◌, ◌≤◌, true, false, ◌&&◌, List, [], ◌∷◌, Some, refl, sym, ◌∙◌, ap, subst, arith, if◌then◌else◌}
use Rattle.std.proofs.lemmas.Bool.{false_from_ne_true}
use Rattle.std.specs.Int.{w64, to_be_bytes}
use Rattle.std.specs.Str.{bytes_eq}
use Rattle.ip_packet.specs.Field.{next_header}
use Rattle.ikeless_tree.specs.declared.sad.SadEntry.{SadEntry}
use Rattle.ikeless_tree.specs.declared.command.Peer.{Peer}
use Rattle.ikeless_tree.specs.Half.{is_inbound, aes_part, in_half, out_half}
use Rattle.hist_acts.specs.declared.act.Act.{Act}
use Rattle.hist_acts.specs.declared.act.Act.TheVariants as acts
use Rattle.esp_frame.specs.Esp.{iv_of}
use Rattle.hist_halves.specs.Sealed.{esp_of}
use Rattle.hist_halves.specs.Halves.{is_half, put_of, sent, was_put}
use Rattle.hist_safety.specs.Orders.{order_of, was_order_given, site}
use Rattle.hist_safety.specs.Carried.{Sends, aes_in, keying_of, was_sealed}
use Rattle.hist_safety.specs.Law.{IsLawful, SendMayHappen}
use Rattle.hist_safety.specs.Kept.{Under}
use Rattle.hist_safety.proofs.Basics.{no, both-left, both-right, half-is, half-true, if-old, more, name-is, or-split, some-is}
use Rattle.hist_safety.proofs.Orders.{put-order, put-was}
use Rattle.hist_safety.proofs.Once.{put-once}
use Rattle.hist_safety.proofs.Pairs.{keys-differ, outbound, pair}
use Rattle.hist_safety.proofs.Frames.{esp-iv, iv-once}

-- the half that was put isn't the one that is put now
pub not-now : (gs : List Peer) (g f x : List ℕ) (d e : SadEntry) (h : List Act) → was_put g d.name h ≡ false → put_of g x h ≡ Some e
    → is_half f d.name g x ≡ false
not-now gs g f x d e h w p =
    false_from_ne_true (is_half f d.name g x) (λ q. let r = (half-is f d.name g x q).1 in
    let s : was_put g d.name h ≡ true = rw r (put-was g x e h p) in no (sym w ∙ s))

under-put : (gs : List Peer) (c iv f : List ℕ) (d : SadEntry) (h : List Act) → ((g : List ℕ) → was_put g d.name h ≡ false) → Under c iv h
    → Under c iv (acts.Put f d ∷ h)
under-put gs c iv f d h w u =
    let q = not-now gs u.0 f u.1 d u.2 h (w u.0) u.4 in
    let s : u.3 ≤ (if is_half f d.name u.0 u.1 then 0 else sent u.0 u.1 h) = rw q u.8 in
    (u.0, u.1, u.2, u.3, if-old (is_half f d.name u.0 u.1) (Some d) (put_of u.0 u.1 h) q ∙ u.4, u.5, u.6, u.7, s, u.9)

under-more : (c iv f y : List ℕ) (n : ℕ) (o : List ℕ) (h : List Act) → Under c iv h → Under c iv (acts.Sent f y n o ∷ h)
under-more c iv f y n o h u = (u.0, u.1, u.2, u.3, u.4, u.5, u.6, u.7, more (is_half f y u.0 u.1) u.3 (sent u.0 u.1 h) u.8, u.9)

under-now : (f y : List ℕ) (n : ℕ) (p o : List ℕ) (h : List Act) (s : Sends f y n p o h)
    → Under (aes_part s.half.key) (iv_of (esp_of o)) (acts.Sent f y n o ∷ acts.Let f p ∷ h)
under-now f y n p o h s =
    let e : iv_of (esp_of o) ≡ to_be_bytes w64 n = ap (λ (z : List ℕ). iv_of z) s.sealed ∙ esp-iv (keying_of s.half) n (next_header p) p in
    let q = half-true f y f y refl refl in
    let k : n ≤ (if is_half f y f y then sent f y h + 1 else sent f y h) = rw q (let r = s.number in omega (arith, r)) in
    (f, y, s.half, n, s.put, refl, e, s.small, k, s.outbound)

under-sent : (f y : List ℕ) (n : ℕ) (o c iv : List ℕ) (h : List Act) → SendMayHappen f y n o h → bytes_eq (aes_in (put_of f y h)) c ≡ true
    → bytes_eq (iv_of (esp_of o)) iv ≡ true → Under c iv (acts.Sent f y n o ∷ h)
under-sent f y n o c iv (acts.Let g p ∷ h) m a b =
    let s : Sends f y n p o h = m.1 in
    let k : aes_part s.half.key ≡ c = sym (ap aes_in s.put) ∙ name-is (aes_in (put_of f y h)) c a in
    let one : Under (aes_part s.half.key) (iv_of (esp_of o)) (acts.Sent f y n o ∷ acts.Let g p ∷ h) =
    subst (λ z. Under (aes_part s.half.key) (iv_of (esp_of o)) (acts.Sent f y n o ∷ acts.Let z p ∷ h)) (sym m.0)
    (under-now f y n p o h s) in
    subst (λ z. Under z iv (acts.Sent f y n o ∷ acts.Let g p ∷ h)) k
    (subst (λ z. Under (aes_part s.half.key) z (acts.Sent f y n o ∷ acts.Let g p ∷ h)) (name-is (iv_of (esp_of o)) iv b) one)
under-sent f y n o c iv [] m a b = absurd m
under-sent f y n o c iv (act ∷ h) m a b = absurd m

pub used-by : (gs : List Peer) (c iv : List ℕ) (h : List Act) → IsLawful gs h → was_sealed c iv h ≡ true → Under c iv h
used-by gs c iv [] l e = absurd (no e)
used-by gs c iv (acts.Sent f y n o ∷ h) l e =
    or-split {A = Under c iv (acts.Sent f y n o ∷ h)} (bytes_eq (aes_in (put_of f y h)) c && bytes_eq (iv_of (esp_of o)) iv)
    (was_sealed c iv h)
    (λ r. under-sent f y n o c iv h l.0 (both-left (bytes_eq (aes_in (put_of f y h)) c) (bytes_eq (iv_of (esp_of o)) iv) r)
    (both-right (bytes_eq (aes_in (put_of f y h)) c) (bytes_eq (iv_of (esp_of o)) iv) r))
    (λ r. under-more c iv f y n o h (used-by gs c iv h l.1 r)) e
used-by gs c iv (acts.Put f d ∷ h) l e = under-put gs c iv f d h (λ g. put-once gs g f d h l.1 l.0.0 l.0.1) (used-by gs c iv h l.1 e)
used-by gs c iv (a ∷ h) l e = used-by gs c iv h l.1 e

-- the key of a half that was put is that of the inbound half of its association
abbrev KeyOf : List ℕ → List ℕ → SadEntry → List Act → Type 0
KeyOf g x e h = (t : List ℕ) × (i : SadEntry) × (x ≡ out_half t) × (order_of (in_half t) h ≡ Some i) × (e.key ≡ i.key)
    × (site (out_half t) h ≡ g)

key-of : (gs : List Peer) (g x : List ℕ) (e : SadEntry) (h : List Act) → IsLawful gs h → put_of g x h ≡ Some e → is_inbound x ≡ false
    → KeyOf g x e h
key-of gs g x e h l p b =
    let o = put-order gs g x e h l p in
    let t = outbound gs x h l o.1 b in
    let w = pair gs t.0 h l (subst (λ z. was_order_given z h ≡ true) t.1 o.1) in
    let s : e ≡ w.0 = some-is e w.0 (sym o.3 ∙ ap (λ (z : List ℕ). order_of z h) t.1 ∙ w.2) in
    (t.0, w.1, t.1, w.3, ap (λ (z : SadEntry). z.key) s ∙ w.4, ap (λ (z : List ℕ). site z h) (sym t.1) ∙ o.2)

-- two halves with one AES part are one
pub one-half : (gs : List Peer) (g f x y : List ℕ) (d e : SadEntry) (h : List Act) → IsLawful gs h → put_of g x h ≡ Some d
    → put_of f y h ≡ Some e → is_inbound x ≡ false → is_inbound y ≡ false → aes_part d.key ≡ aes_part e.key → (g ≡ f) × (x ≡ y)
one-half gs g f x y d e h l p q a b k =
    let u = key-of gs g x d h l p a in
    let v = key-of gs f y e h l q b in
    let s : aes_part u.1.key ≡ aes_part v.1.key = ap aes_part (sym u.4) ∙ k ∙ ap aes_part v.4 in
    let t = keys-differ gs u.0 v.0 u.1 v.1 h l u.3 v.3 s in
    let w : out_half u.0 ≡ out_half v.0 = ap (λ (z : List ℕ). out_half z) t in
    (sym u.5 ∙ ap (λ (z : List ℕ). site z h) w ∙ v.5, u.2 ∙ w ∙ sym v.2)

key-clash : (gs : List Peer) (g x : List ℕ) (n : ℕ) (p o : List ℕ) (h : List Act) → IsLawful gs h → (s : Sends g x n p o h)
    → Under (aes_part s.half.key) (iv_of (esp_of o)) h → ⊥
key-clash gs g x n p o h l s u =
    let w = one-half gs u.0 g u.1 x u.2 s.half h l u.4 s.put u.9 s.outbound u.5 in
    let k : u.3 ≤ sent g x h = subst (λ z. u.3 ≤ sent z x h) w.0 (subst (λ z. u.3 ≤ sent u.0 z h) w.1 u.8) in
    let e : to_be_bytes w64 n ≡ to_be_bytes w64 u.3 =
    sym (ap (λ (z : List ℕ). iv_of z) s.sealed ∙ esp-iv (keying_of s.half) n (next_header p) p) ∙ u.6 in
    let a = s.small in
    let b = u.7 in
    let r = iv-once n u.3 (omega (arith, a)) (omega (arith, b)) e in
    let t = s.number in
    omega (arith, r, t, k)

pub key-safe : (gs : List Peer) (g x : List ℕ) (n : ℕ) (o : List ℕ) (h : List Act) → IsLawful gs h → SendMayHappen g x n o h
    → was_sealed (aes_in (put_of g x h)) (iv_of (esp_of o)) h ≡ false
key-safe gs g x n o (acts.Let f p ∷ h) l m =
    false_from_ne_true (was_sealed (aes_in (put_of g x h)) (iv_of (esp_of o)) h) (λ q.
    let s : Sends g x n p o h = m.1 in
    let u = used-by gs (aes_in (put_of g x h)) (iv_of (esp_of o)) h l.1 q in
    key-clash gs g x n p o h l.1 s (subst (λ z. Under z (iv_of (esp_of o)) h) (ap aes_in s.put) u))
key-safe gs g x n o [] l m = absurd m
key-safe gs g x n o (a ∷ h) l m = absurd m
