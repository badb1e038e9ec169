-- The entries that are put, and the lists and names that are ordered, have no fault.
use Rattle.std.proofs.Common.{◌≡◌, ℕ, ◌+◌, ◌-◌, ◌^◌, ◌%◌, ◌<◌, ◌≤◌, Bool, true, false, ◌==◌, not, ◌||◌, nat_le, nat_lt, List, [], ◌∷◌, ◌++◌, codes, decimal, Option, Some, None, inl, inr, length, map, refl, sym, subst, ◌∙◌, ap, arith, if◌then◌else◌, bytes_eq}
use Rattle.std.proofs.lemmas.Grind.{common_steps}
use Rattle.std.proofs.lemmas.Fmt.{decimal_by_steps, decimal_nonempty, length-decimal-le}
use Rattle.std.proofs.lemmas.Bool.{and_parts}
use Rattle.std.proofs.lemmas.Slice.Eq.{bytes_eq-Decides}
use Rattle.std.specs.List.{list_all}
use Rattle.ikl_base.specs.Address.{is_one_family}
use Rattle.ikeless_tree.specs.Check.{is_word_octet, is_serial, has_front, is_sad_name, is_key_length, is_window, has_empty_range, has_many_ranges, sad_fault, spd_fault}
use Rattle.ikeless_tree.specs.Half.{in_name, out_name, aes_part}
use Rattle.ikeless_tree.specs.declared.command.Peer.{Peer}
use Rattle.ikeless_tree.specs.declared.command.Refusal.TheVariants as refusals
use Rattle.ikeless_tree.specs.declared.entry.SpdEntry.{SpdEntry}
use Rattle.ikeless_tree.specs.declared.sad.SadEntry.{SadEntry}
use Rattle.hist_controller.specs.Acts.{Way, Association, ControllerOrder, Policy, PutIn, PutOut, RemoveIn, RemoveOut, PlacedCommand, SetPolicy, Tunnel, End, Rekey, Keys, ControllerAct, Opened, Cut, Answered, Heard, Ordered, Accepted, Refused}
use Rattle.hist_controller.specs.Past.{list_if, newest_list, keys, key_of, new_ways, directions}
use Rattle.hist_controller.specs.Law.{is_seen, refusal}
use Rattle.hist_controller.specs.Machine.{place}
use Rattle.hist_controller.specs.Clauses.{Has, MayOrder, IsControllerPast}
use Rattle.hist_controller.specs.Counts.{KeyRight}
use Rattle.hist_controller.specs.Orders.{WasOrdered}
use Rattle.hist_controller.specs.Told.{in_entry, out_entry}
use Rattle.hist_controller.specs.Entries.{IsSoundCommand, SoundCommands, OneFamily, aes_parts}
use Rattle.hist_controller.proofs.Lists.{length-both}
use Rattle.hist_controller.proofs.Bools.{or-right}
use Rattle.hist_controller.proofs.Serials.{has-more, put-serial}
use Rattle.hist_controller.proofs.Often.{keyed, place-stays}
use Rattle.hist_controller.proofs.Accepts.{same-bytes, few-keys, few-serials, long-keys, placings}
use Rattle.hist_controller.proofs.Homes.{in-home, out-home, in-removal, out-removal}

-- ## names

digit-word : (m : ℕ) → m < 10 → is_word_octet (48 + m) ≡ true
digit-word m e = grind (arith, common_steps)

all-last : (xs : List ℕ) (x : ℕ) → list_all is_word_octet xs ≡ true → is_word_octet x ≡ true → list_all is_word_octet (xs ++ x ∷ []) ≡ true
all-last [] x e f = rw f refl
all-last (y ∷ xs) x e f = let ih = all-last xs x in grind (arith, ih)

number-words : (n : ℕ) → n < 2 ^ 64 → list_all is_word_octet (decimal n) ≡ true
number-words = decimal_by_steps (λ n ds. list_all is_word_octet ds ≡ true)
    (λ m e. rw (digit-word m e) refl)
    (λ m ds e f. all-last ds (48 + m % 10) f (digit-word (m % 10) (omega arith)))

serial-of : (n : ℕ) → n < 2 ^ 64 → is_serial (decimal n) ≡ true
serial-of n e =
    let a = decimal_nonempty n e in
    let b = length-decimal-le 20 n (omega arith) (omega arith) e in
    let c = number-words n e in
    let a' : nat_le 1 (length (decimal n)) ≡ true = grind (arith, common_steps) in
    let b' : nat_le (length (decimal n)) 60 ≡ true = grind (arith, common_steps) in
    rw (a', b', c) refl

front-fits : (front text : List ℕ) → nat_le (length front) (length (front ++ text)) ≡ true
front-fits front text = let e = length-both front text in grind (arith, common_steps)

pub in-name-read : (n : ℕ) → n < 2 ^ 64 → is_sad_name (in_name n) ≡ true
unfolding in_name
in-name-read n e =
    let l : nat_le (length (codes "in/")) (length (in_name n)) ≡ true = front-fits (codes "in/") (decimal n) in
    rw (serial-of n e, l) refl

pub out-name-read : (n : ℕ) → n < 2 ^ 64 → is_sad_name (out_name n) ≡ true
unfolding out_name
out-name-read n e =
    let l : nat_le (length (codes "out/")) (length (out_name n)) ≡ true = front-fits (codes "out/") (decimal n) in
    let f : has_front (codes "out/") (out_name n) ≡ true = rw (serial-of n e, l) refl in
    or-right (has_front (codes "in/") (out_name n)) (has_front (codes "out/") (out_name n)) f

-- ## keys

all-at : (p : List ℕ → Bool) (i : ℕ) (ks : List (List ℕ)) (k : List ℕ) → place i ks ≡ Some k → list_all p ks ≡ true → p k ≡ true
all-at p i [] k e t = cc
all-at p i (x ∷ ks) k e t = at (i == 0) e (and_parts (p x) (list_all p ks) t) (all-at p (i - 1) ks k)
  where
    at : (b : Bool) → (if b then Some x else place (i - 1) ks) ≡ Some k → (p x ≡ true) × (list_all p ks ≡ true)
        → (place (i - 1) ks ≡ Some k → list_all p ks ≡ true → p k ≡ true) → p k ≡ true
    at true e q f = let w : x ≡ k = cc in ap p (sym w) ∙ q.0
    at false e q f = f e q.1

record Put (h : List ControllerAct) (x : Association) : Type 0 where
  pub key : place (x.serial - 1) (keys h) ≡ Some x.key
  pub first : 1 ≤ x.serial

put-now : (p : ℕ) (h : List ControllerAct) (g s n : ℕ) (o : ControllerOrder) (x : Association) → IsControllerPast p (Ordered g s n o ∷ h)
    → PutIn x ≡ o → Put (Ordered g s n o ∷ h) x
put-now p h g s n o x l e =
    let q = put-serial h g o x l.0.3 (sym e) in
    let k : KeyRight h o = (keyed p (Ordered g s n o ∷ h) l).all.0 in
    let k' : KeyRight h (PutIn x) = subst (KeyRight h) (sym e) k in
    record { key = k'; first = omega arith }

put-of : (p : ℕ) (h : List ControllerAct) → IsControllerPast p h → (g : ℕ) (x : Association) → WasOrdered (PutIn x) g h → Put h x
put-of p [] l g x i = absurd i
put-of p (Opened f s ∷ h) l g x i = let k = put-of p h l.1 g x i in record { key = k.key; first = k.first }
put-of p (Cut f s ∷ h) l g x i = let k = put-of p h l.1 g x i in record { key = k.key; first = k.first }
put-of p (Answered f s n a ∷ h) l g x i = let k = put-of p h l.1 g x i in record { key = k.key; first = k.first }
put-of p (Heard f s t ∷ h) l g x i = let k = put-of p h l.1 g x i in record { key = k.key; first = k.first }
put-of p (Ordered f s n o ∷ h) l g x (inl e) = put-now p h f s n o x l e.0
put-of p (Ordered f s n o ∷ h) l g x (inr i) = let k = put-of p h l.1 g x i in record { key = k.key; first = k.first }
put-of p (Accepted c ∷ h) l g x i = let k = put-of p h l.1 g x i in
    record { key = place-stays (x.serial - 1) (keys h) (key_of c) x.key k.key; first = k.first }
put-of p (Refused w ∷ h) l g x i = let k = put-of p h l.1 g x i in record { key = k.key; first = k.first }

-- ## commands

window-new : (n : ℕ) (c : PlacedCommand) (d : Way) → IsSoundCommand c → Has d (new_ways n c) → is_window d.tunnel.window ≡ true
window-new n (SetPolicy g l) d k i = absurd i
window-new n (Tunnel t) d k (inl e) = ap (λ (y : Way). is_window y.tunnel.window) e ∙ k
window-new n (Tunnel t) d k (inr (inl e)) = ap (λ (y : Way). is_window y.tunnel.window) e ∙ k
window-new n (Tunnel t) d k (inr (inr i)) = absurd i
window-new n (End r) d k i = absurd i
window-new n (Rekey r) d k i = absurd i
window-new n (Keys q) d k i = absurd i

windows : (h : List ControllerAct) → SoundCommands h → (d : Way) → Has d (directions h) → is_window d.tunnel.window ≡ true
windows [] k d i = absurd i
windows (Opened g s ∷ h) k d i = windows h k d i
windows (Cut g s ∷ h) k d i = windows h k d i
windows (Answered g s n a ∷ h) k d i = windows h k d i
windows (Heard g s t ∷ h) k d i = windows h k d i
windows (Ordered g s n o ∷ h) k d i = windows h k d i
windows (Accepted c ∷ h) k d i = elim (has-more d (directions h) (new_ways (length (directions h)) c) i) as
    (λ q. is_window d.tunnel.window ≡ true) [ inl j ↦ windows h k.1 d j | inr j ↦ window-new (length (directions h)) c d k.0 j ]
windows (Refused w ∷ h) k d i = windows h k d i

list-new : (g : ℕ) (c : PlacedCommand) (o : Option (List SpdEntry)) (l : List SpdEntry) → IsSoundCommand c
    → (o ≡ Some l → spd_fault l ≡ None) → list_if g c o ≡ Some l → spd_fault l ≡ None
list-new g (SetPolicy f q) o l k r e = at (g == f) e
  where
    at : (b : Bool) → (if b then Some q else o) ≡ Some l → spd_fault l ≡ None
    at true e = let w : l ≡ q = cc in ap spd_fault w ∙ k
    at false e = r e
list-new g (Tunnel t) o l k r e = r e
list-new g (End n) o l k r e = r e
list-new g (Rekey n) o l k r e = r e
list-new g (Keys q) o l k r e = r e

lists : (h : List ControllerAct) → SoundCommands h → (g : ℕ) (l : List SpdEntry) → newest_list g h ≡ Some l → spd_fault l ≡ None
lists [] k g l e = cc
lists (Opened f s ∷ h) k g l e = lists h k g l e
lists (Cut f s ∷ h) k g l e = lists h k g l e
lists (Answered f s n a ∷ h) k g l e = lists h k g l e
lists (Heard f s t ∷ h) k g l e = lists h k g l e
lists (Ordered f s n o ∷ h) k g l e = lists h k g l e
lists (Accepted c ∷ h) k g l e = list-new g c (newest_list g h) l k.0 (lists h k.1 g l) e
lists (Refused w ∷ h) k g l e = lists h k g l e

-- ## what is ordered

no-fault : (e : SadEntry) → is_sad_name e.name ≡ true → nat_lt e.spi 256 ≡ false → is_key_length (length e.key) ≡ true
    → is_window e.window ≡ true → has_empty_range e.selector ≡ false → has_many_ranges e.selector ≡ false
    → is_one_family e.local e.remote ≡ true → sad_fault e ≡ None
unfolding sad_fault
no-fault e a b c d f g i = rw (a, b, c, d, f, g, i) refl

record Fit (ps : List Peer) (x : Association) : Type 0 where
  pub least : 1 ≤ x.serial
  pub most : x.serial ≤ 1048576
  pub key : is_key_length (length x.key) ≡ true
  pub window : is_window x.way.tunnel.window ≡ true
  pub sender : x.way.sender < length ps
  pub receiver : x.way.receiver < length ps

fit : (ps : List Peer) (h : List ControllerAct) → IsControllerPast (length ps) h → SoundCommands h → (g : ℕ) (x : Association)
    → WasOrdered (PutIn x) g h → Fit ps x
fit ps h l k g x i =
    let a = in-home (length ps) h l g x i in
    let b = put-of (length ps) h l g x i in
    let c = few-serials (length ps) h l in
    let d = few-keys (length ps) h l in
    let m = a.low in
    let w = placings (length ps) h l x.way a.known in
    record {
      least = b.first;
      most = omega arith;
      key = all-at (λ y. is_key_length (length y)) (x.serial - 1) (keys h) x.key b.key (long-keys (length ps) h l);
      window = windows h k x.way a.known;
      sender = w.sender;
      receiver = w.receiver;
    }

high-spi : (n : ℕ) → nat_lt (256 + n) 256 ≡ false
high-spi n = grind (arith, common_steps)

in-passes : (ps : List Peer) (x : Association) → OneFamily ps → Fit ps x → sad_fault (in_entry ps x) ≡ None
in-passes ps x f k = let a = k.most in
    no-fault (in_entry ps x) (in-name-read x.serial (omega arith)) (high-spi x.serial) k.key k.window refl refl
    (f x.way.receiver x.way.sender k.receiver k.sender)

out-passes : (ps : List Peer) (x : Association) → OneFamily ps → Fit ps x → sad_fault (out_entry ps x) ≡ None
out-passes ps x f k = let a = k.most in
    no-fault (out_entry ps x) (out-name-read x.serial (omega arith)) (high-spi x.serial) k.key k.window refl refl
    (f x.way.sender x.way.receiver k.sender k.receiver)

spi-range : (ps : List Peer) (x : Association) → Fit ps x → (257 ≤ 256 + x.serial) × (256 + x.serial ≤ 1048832)
spi-range ps x k = let a = k.least in let b = k.most in (omega arith, omega arith)

pub in-lawful : (ps : List Peer) (h : List ControllerAct) → IsControllerPast (length ps) h → SoundCommands h → OneFamily ps
    → (g : ℕ) (x : Association) → WasOrdered (PutIn x) g h → (sad_fault (in_entry ps x) ≡ None) × (257 ≤ (in_entry ps x).spi)
    × ((in_entry ps x).spi ≤ 1048832)
in-lawful ps h l k f g x i =
    let a = fit ps h l k g x i in
    let b = spi-range ps x a in
    (in-passes ps x f a, b.0, b.1)

pub out-lawful : (ps : List Peer) (h : List ControllerAct) → IsControllerPast (length ps) h → SoundCommands h → OneFamily ps
    → (g : ℕ) (x : Association) → WasOrdered (PutOut x) g h → (sad_fault (out_entry ps x) ≡ None) × (257 ≤ (out_entry ps x).spi)
    × ((out_entry ps x).spi ≤ 1048832)
out-lawful ps h l k f g x i =
    let a = fit ps h l k x.way.receiver x (out-home (length ps) h l g x i).1 in
    let b = spi-range ps x a in
    (out-passes ps x f a, b.0, b.1)

list-ordered : (h : List ControllerAct) (g : ℕ) (o : ControllerOrder) (l : List SpdEntry) → MayOrder h g o → SoundCommands h → Policy l ≡ o
    → spd_fault l ≡ None
list-ordered h g o l m k e = let m' : MayOrder h g (Policy l) = subst (MayOrder h g) (sym e) m in lists h k g l m'.0

pub list-lawful : (p : ℕ) (h : List ControllerAct) → IsControllerPast p h → SoundCommands h → (g : ℕ) (l : List SpdEntry)
    → WasOrdered (Policy l) g h → spd_fault l ≡ None
list-lawful p [] q k g l i = absurd i
list-lawful p (Opened f s ∷ h) q k g l i = list-lawful p h q.1 k g l i
list-lawful p (Cut f s ∷ h) q k g l i = list-lawful p h q.1 k g l i
list-lawful p (Answered f s n a ∷ h) q k g l i = list-lawful p h q.1 k g l i
list-lawful p (Heard f s t ∷ h) q k g l i = list-lawful p h q.1 k g l i
list-lawful p (Ordered f s n o ∷ h) q k g l (inl e) = list-ordered h f o l q.0.3 k e.0
list-lawful p (Ordered f s n o ∷ h) q k g l (inr i) = list-lawful p h q.1 k g l i
list-lawful p (Accepted c ∷ h) q k g l i = list-lawful p h q.1 k.1 g l i
list-lawful p (Refused w ∷ h) q k g l i = list-lawful p h q.1 k g l i

low-put : (p : ℕ) (h : List ControllerAct) → IsControllerPast p h → (g : ℕ) (x : Association) → WasOrdered (PutIn x) g h → x.serial < 2 ^ 64
low-put p h l g x i =
    let a = (in-home p h l g x i).low in
    let c = few-serials p h l in
    let d = few-keys p h l in
    omega arith

pub in-removed-name : (p : ℕ) (h : List ControllerAct) → IsControllerPast p h → (g n : ℕ) → WasOrdered (RemoveIn n) g h
    → is_sad_name (in_name n) ≡ true
in-removed-name p h l g n i =
    let r = in-removal p h l g n i in
    let e : n ≡ r.0.serial = r.1 in
    let a = low-put p h l g r.0 r.2 in
    in-name-read n (omega arith)

pub out-removed-name : (p : ℕ) (h : List ControllerAct) → IsControllerPast p h → (g n : ℕ) → WasOrdered (RemoveOut n) g h
    → is_sad_name (out_name n) ≡ true
out-removed-name p h l g n i =
    let r = out-removal p h l g n i in
    let e : n ≡ r.0.serial = r.1 in
    let o = out-home p h l g r.0 r.2 in
    let a = low-put p h l r.0.way.receiver r.0 o.1 in
    out-name-read n (omega arith)

-- ## AES keys

bytes-equal : (xs ys : List ℕ) → bytes_eq xs ys ≡ true → xs ≡ ys
bytes-equal xs ys e = (bytes_eq-Decides xs ys).0 e

seen-has : (k : List ℕ) (ks : List (List ℕ)) → is_seen k ks ≡ true → Has (aes_part k) (map aes_part ks)
seen-has k [] e = cc
seen-has k (x ∷ ks) e = at (bytes_eq (aes_part x) (aes_part k)) refl e (seen-has k ks)
  where
    at : (b : Bool) → bytes_eq (aes_part x) (aes_part k) ≡ b → (b || is_seen k ks) ≡ true
        → (is_seen k ks ≡ true → Has (aes_part k) (map aes_part ks)) → Has (aes_part k) (map aes_part (x ∷ ks))
    at true t e f = inl (sym (bytes-equal (aes_part x) (aes_part k) t))
    at false t e f = inr (f e)

has-seen : (k : List ℕ) (ks : List (List ℕ)) → Has (aes_part k) (map aes_part ks) → is_seen k ks ≡ true
has-seen k [] i = absurd i
has-seen k (x ∷ ks) (inl e) = rw (same-bytes (aes_part x) (aes_part k) (sym e)) refl
has-seen k (x ∷ ks) (inr i) = or-right (bytes_eq (aes_part x) (aes_part k)) (is_seen k ks) (has-seen k ks i)

key-refused : (a b c : Bool) → (if not a then Some refusals.KeyLength else if b then Some refusals.KeySeen else if c
    then Some refusals.KeyLimit else None) ≡ Some refusals.KeySeen → (a ≡ true) × (b ≡ true)
key-refused true true c e = (refl, refl)
key-refused true false true e = cc
key-refused true false false e = cc
key-refused false b c e = cc

pub refused-seen : (p : ℕ) (h : List ControllerAct) (k : List ℕ) → refusal p h (Keys k) ≡ Some refusals.KeySeen
    → (is_key_length (length k) ≡ true) × Has (aes_part k) (aes_parts h)
refused-seen p h k e = let q = key-refused (is_key_length (length k)) (is_seen k (keys h)) (nat_le 1048576 (length (keys h))) e in
    (q.0, seen-has k (keys h) q.1)

pub seen-refused : (p : ℕ) (h : List ControllerAct) (k : List ℕ) → is_key_length (length k) ≡ true → Has (aes_part k) (aes_parts h)
    → refusal p h (Keys k) ≡ Some refusals.KeySeen
seen-refused p h k e i = rw (e, has-seen k (keys h) i) refl
