-- What a controller orders has lines: lists as they were commanded, halves of tunnels and keys as they were commanded, and names.
use Rattle.std.proofs.Common.{◌≡◌, ℕ, ◌-◌, ◌<◌, ◌≤◌, ◌^◌, ◌==◌, not, cond, Bool, true, false, List, [], ◌∷◌, length, Option, Some, inl, inr, refl, sym, subst, arith, filter, if◌then◌else◌}
use Rattle.std.specs.List.{AllByRecursion}
use Rattle.std.proofs.lemmas.List.Elements.{All-nil}
use Rattle.ikl_base.specs.declared.address.Addr.{Addr}
use Rattle.ikl_base.specs.declared.address.Addr.TheVariants.{V4, V6}
use Rattle.ikl_base.specs.Address.{AreOneFamily, IsAddress, is_one_family}
use Rattle.ikeless_tree.specs.Typed.{AreOctets, IsTypedHalf, IsTypedRange, IsTypedTunnel}
use Rattle.ikeless_tree.specs.declared.command.Peer.{Peer}
use Rattle.ikeless_tree.specs.declared.entry.SpdEntry.{SpdEntry}
use Rattle.hist_controller.specs.Acts.{Way, Association, ControllerOrder, Read, Policy, PutIn, PutOut, RemoveIn, RemoveOut, PlacedCommand, SetPolicy, Tunnel, End, Rekey, Keys, ControllerAct, Opened, Cut, Answered, Heard, Ordered, Accepted, Refused}
use Rattle.hist_controller.specs.Clauses.{Has, IsControllerPast, MayOrder, next_key}
use Rattle.hist_controller.specs.Entries.{OneFamily, SoundCommands}
use Rattle.hist_controller.specs.Past.{directions, inbound_put, is_answer_to, is_made_by, key_of, keys_after, left, list_if, new_ways, newest_list, oldest, queue, RemovingIn, spare}
use Rattle.hist_controller.specs.Told.{in_entry, order_told, out_entry, peer_address}
use Rattle.hist_controller.proofs.Entries.{in-lawful, in-removed-name, out-lawful, out-removed-name}
use Rattle.acts_spell.specs.Spelled.{AreSpelledCommands, IsSpelledCommand}
use Rattle.acts_spell.proofs.Each.{each-append, each-if, some-is}
use Rattle.acts_spell.proofs.Octets.{of-each}
use Rattle.acts_spell.proofs.Found.{IsGoodList, IsGoodOrder}

pub each-has : {X : Type 0} (P : X → Type 0) (x : X) (xs : List X) → AllByRecursion P xs → Has x xs → P x
each-has P x [] h i = absurd i
each-has P x (y ∷ ys) h (inl e) = subst P (sym e) h.0
each-has P x (y ∷ ys) h (inr i) = each-has P x ys h.1 i

each-filtered : {X : Type 0} (P : X → Type 0) (p : X → Bool) (xs : List X) → AllByRecursion P xs → AllByRecursion P (filter p xs)
each-filtered P p [] h = tt
each-filtered P p (x ∷ xs) h = by-test (p x) (each-filtered P p xs h.1) where
  by-test : (b : Bool) → AllByRecursion P (filter p xs) → AllByRecursion P (cond b (x ∷ filter p xs) (filter p xs))
  by-test true m = (h.0, m)
  by-test false m = m

-- ---- lists

list-new : (g : ℕ) (c : PlacedCommand) (o : Option (List SpdEntry)) (l : List SpdEntry) → IsSpelledCommand c → (o ≡ Some l → IsGoodList l)
    → list_if g c o ≡ Some l → IsGoodList l
list-new g (SetPolicy f q) o l k r e = at (g == f) e
  where
    at : (b : Bool) → (if b then Some q else o) ≡ Some l → IsGoodList l
    at true e = subst IsGoodList (some-is q l e) k
    at false e = r e
list-new g (Tunnel t) o l k r e = r e
list-new g (End n) o l k r e = r e
list-new g (Rekey n) o l k r e = r e
list-new g (Keys q) o l k r e = r e

pub list-good : (g : ℕ) (l : List SpdEntry) (h : List ControllerAct) → AreSpelledCommands h → newest_list g h ≡ Some l → IsGoodList l
list-good g l [] k e = cc
list-good g l (Accepted c ∷ h) k e = list-new g c (newest_list g h) l k.0 (list-good g l h k.1) e
list-good g l (Opened f s ∷ h) k e = list-good g l h k e
list-good g l (Cut f s ∷ h) k e = list-good g l h k e
list-good g l (Answered f s n a ∷ h) k e = list-good g l h k e
list-good g l (Heard f s t ∷ h) k e = list-good g l h k e
list-good g l (Ordered f s n o ∷ h) k e = list-good g l h k e
list-good g l (Refused w ∷ h) k e = list-good g l h k e

-- ---- directions and keys

pub record IsGoodWay (d : Way) : Type 0 where
  pub tunnel : IsTypedTunnel d.tunnel
  pub near : IsAddress d.near.addr
  pub far : IsAddress d.far.addr

new-good : (n : ℕ) (c : PlacedCommand) → IsSpelledCommand c → AllByRecursion IsGoodWay (new_ways n c)
new-good n (Tunnel t) k = (
  record { tunnel = k; near = k.first_prefix; far = k.second_prefix },
  (
    record {
      tunnel = k;
      near = k.second_prefix;
      far =
          k.first_prefix;
    },
    tt,
  ),
)
new-good n (SetPolicy g l) k = tt
new-good n (End r) k = tt
new-good n (Rekey r) k = tt
new-good n (Keys q) k = tt

ways-good : (h : List ControllerAct) → AreSpelledCommands h → AllByRecursion IsGoodWay (directions h)
ways-good [] k = tt
ways-good (Accepted c ∷ h) k =
    each-append IsGoodWay (directions h) (new_ways (length (directions h)) c) (ways-good h k.1) (new-good (length (directions h)) c k.0)
ways-good (Opened f s ∷ h) k = ways-good h k
ways-good (Cut f s ∷ h) k = ways-good h k
ways-good (Answered f s n a ∷ h) k = ways-good h k
ways-good (Heard f s t ∷ h) k = ways-good h k
ways-good (Ordered f s n o ∷ h) k = ways-good h k
ways-good (Refused w ∷ h) k = ways-good h k

key-good : (c : PlacedCommand) → IsSpelledCommand c → AllByRecursion AreOctets (key_of c)
key-good (Keys q) k = (k, tt)
key-good (SetPolicy g l) k = tt
key-good (Tunnel t) k = tt
key-good (End r) k = tt
key-good (Rekey r) k = tt

keys-left : (o : ControllerOrder) (ks : List (List ℕ)) → AllByRecursion AreOctets ks → AllByRecursion AreOctets (keys_after o ks)
keys-left (PutIn x) [] h = tt
keys-left (PutIn x) (k ∷ ks) h = h.1
keys-left Read ks h = h
keys-left (Policy l) ks h = h
keys-left (PutOut x) ks h = h
keys-left (RemoveIn n) ks h = h
keys-left (RemoveOut n) ks h = h

spare-good : (h : List ControllerAct) → AreSpelledCommands h → AllByRecursion AreOctets (spare h)
spare-good [] k = tt
spare-good (Accepted c ∷ h) k = each-append AreOctets (spare h) (key_of c) (spare-good h k.1) (key-good c k.0)
spare-good (Opened f s ∷ h) k = spare-good h k
spare-good (Cut f s ∷ h) k = spare-good h k
spare-good (Answered f s n a ∷ h) k = spare-good h k
spare-good (Heard f s t ∷ h) k = spare-good h k
spare-good (Ordered f s n o ∷ h) k = keys-left o (spare h) (spare-good h k)
spare-good (Refused w ∷ h) k = spare-good h k

next-good : (ks : List (List ℕ)) (key : List ℕ) → AllByRecursion AreOctets ks → next_key ks ≡ Some key → AreOctets key
next-good [] key h e = cc
next-good (k ∷ ks) key h e = subst AreOctets (some-is k key e) h.0

-- ---- associations

pub record IsGoodAssociation (x : Association) : Type 0 where
  pub way : IsGoodWay x.way
  pub key : AreOctets x.key

put-good : (h : List ControllerAct) (g : ℕ) (x : Association) → AreSpelledCommands h → MayOrder h g (PutIn x) → IsGoodAssociation x
put-good h g x k m =
    record { way = each-has IsGoodWay x.way (directions h) (ways-good h k) m.of; key = next-good (spare h) x.key (spare-good h k) m.key }

inbound-good : (h : List ControllerAct) (g : ℕ) (d : Way) (o : ControllerOrder) → AreSpelledCommands h → MayOrder h g o
    → AllByRecursion IsGoodAssociation (inbound_put d o)
inbound-good h g d (PutIn x) k m = each-if IsGoodAssociation (d.id == x.way.id) (x ∷ []) [] (put-good h g x k m, tt) tt
inbound-good h g d Read k m = tt
inbound-good h g d (Policy l) k m = tt
inbound-good h g d (PutOut x) k m = tt
inbound-good h g d (RemoveIn n) k m = tt
inbound-good h g d (RemoveOut n) k m = tt

pub left-good : (p : ℕ) (h : List ControllerAct) → IsControllerPast p h → AreSpelledCommands h → (d : Way)
    → AllByRecursion IsGoodAssociation (left d h)
left-good p [] l k d = tt
left-good p (Accepted c ∷ h) l k d =
    each-if IsGoodAssociation (is_made_by c (length (directions h)) d) [] (left d h) tt (left-good p h l.1 k.1 d)
left-good p (Opened f s ∷ h) l k d = left-good p h l.1 k d
left-good p (Cut f s ∷ h) l k d = left-good p h l.1 k d
left-good p (Answered f s n a ∷ h) l k d =
    each-filtered IsGoodAssociation (λ x. not (is_answer_to RemovingIn x.serial (oldest (queue f h)))) (left d h) (left-good p h l.1 k d)
left-good p (Heard f s t ∷ h) l k d = left-good p h l.1 k d
left-good p (Ordered f s n o ∷ h) l k d =
    each-append IsGoodAssociation (left d h) (inbound_put d o) (left-good p h l.1 k d) (inbound-good h f d o k l.0.3)
left-good p (Refused w ∷ h) l k d = left-good p h l.1 k d

-- ---- entries

zero-address : IsAddress (V4 (0 ∷ 0 ∷ 0 ∷ 0 ∷ []))
zero-address = let z : 0 < 256 = omega arith in (refl, of-each (0 ∷ 0 ∷ 0 ∷ 0 ∷ []) (z, (z, (z, (z, tt)))))

address-if : (b : Bool) (x y : Addr) → IsAddress x → IsAddress y → IsAddress (if b then x else y)
address-if true x y p q = p
address-if false x y p q = q

abbrev pub AreAddressed : List Peer → Type 0
AreAddressed ps = AllByRecursion (λ p. IsAddress p.address) ps

pub address-good : (ps : List Peer) (g : ℕ) → AreAddressed ps → IsAddress (peer_address ps g)
address-good [] g h = zero-address
address-good (p ∷ ps) g h = address-if (g == 0) p.address (peer_address ps (g - 1)) h.0 (address-good ps (g - 1) h.1)

fits-32 : (n : ℕ) → n ≤ 1048832 → n < 2 ^ 32
fits-32 n l = omega (arith, l)

in-typed : (ps : List Peer) (x : Association) → AreAddressed ps → IsGoodAssociation x → (in_entry ps x).spi ≤ 1048832
    → IsTypedHalf (in_entry ps x)
in-typed ps x a g l = record {
  reqid = g.way.tunnel.reqid;
  spi = fits-32 (in_entry ps x).spi l;
  window = g.way.tunnel.window;
  selector =
      record {
        local = g.way.far;
        remote = g.way.near;
        proto = tt;
        local_ports = All-nil IsTypedRange;
        remote_ports =
            All-nil IsTypedRange;
      };
  key = g.key;
  local = address-good ps x.way.receiver a;
  remote = address-good ps x.way.sender a;
  hard = g.way.tunnel.hard;
  soft = g.way.tunnel.soft;
}

out-typed : (ps : List Peer) (x : Association) → AreAddressed ps → IsGoodAssociation x → (out_entry ps x).spi ≤ 1048832
    → IsTypedHalf (out_entry ps x)
out-typed ps x a g l = record {
  reqid = g.way.tunnel.reqid;
  spi = fits-32 (out_entry ps x).spi l;
  window = g.way.tunnel.window;
  selector =
      record {
        local = g.way.near;
        remote = g.way.far;
        proto = tt;
        local_ports = All-nil IsTypedRange;
        remote_ports =
            All-nil IsTypedRange;
      };
  key = g.key;
  local = address-good ps x.way.sender a;
  remote = address-good ps x.way.receiver a;
  hard = g.way.tunnel.hard;
  soft = g.way.tunnel.soft;
}

-- ---- orders

-- what is known of the peers
pub record ArePeers (ps : List Peer) : Type 0 where
  pub addressed : AreAddressed ps
  pub family : OneFamily ps

pub order-good : (ps : List Peer) (g s n : ℕ) (o : ControllerOrder) (h : List ControllerAct) → ArePeers ps
    → IsControllerPast (length ps) (Ordered g s n o ∷ h) → SoundCommands h → AreSpelledCommands h
    → IsGoodOrder (order_told ps o)
order-good ps g s n Read h a l c k = (tt, tt)
order-good ps g s n (Policy list) h a l c k = list-good g list h k l.0.3.0
order-good ps g s n (PutIn x) h a l c k =
    let fits = in-lawful ps (Ordered g s n (PutIn x) ∷ h) l c a.family g x (inl (refl, refl)) in
    (fits.0, in-typed ps x a.addressed (put-good h g x k l.0.3) fits.2)
order-good ps g s n (PutOut x) h a l c k =
    let fits = out-lawful ps (Ordered g s n (PutOut x) ∷ h) l c a.family g x (inl (refl, refl)) in
    let m = l.0.3 in
    (fits.0, out-typed ps x a.addressed (each-has IsGoodAssociation x (left m.way h) (left-good (length ps) h l.1 k m.way) m.left) fits.2)
order-good ps g s n (RemoveIn m) h a l c k = (in-removed-name (length ps) (Ordered g s n (RemoveIn m) ∷ h) l g m (inl (refl, refl)), tt)
order-good ps g s n (RemoveOut m) h a l c k = (out-removed-name (length ps) (Ordered g s n (RemoveOut m) ∷ h) l g m (inl (refl, refl)), tt)

-- the addresses of a header's gateways are of one family
pub one-family : (ps : List Peer) → ((f g : ℕ) → f < length ps → g < length ps → AreOneFamily (peer_address ps f) (peer_address ps g))
    → OneFamily ps
one-family ps h = λ f g i j. same (peer_address ps f) (peer_address ps g) (h f g i j) where
  same : (a b : Addr) → AreOneFamily a b → is_one_family a b ≡ true
  same (V4 a) (V4 b) p = refl
  same (V4 a) (V6 b) p = absurd p
  same (V6 a) (V4 b) p = absurd p
  same (V6 a) (V6 b) p = refl
