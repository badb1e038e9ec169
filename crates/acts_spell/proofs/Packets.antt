-- What is seen in octets fits its types: the view of a packet, its flow, and the datagram that is written around it.
use Rattle.std.proofs.Common.{◌≡◌, ℕ, zero, suc, ◌+◌, ◌-◌, ◌/◌, ◌%◌, ◌^◌, ◌<◌, ◌≤◌, ◌==◌, ◌&&◌, ◌||◌, not, nat_lt, Bool, true, false, List, [], ◌∷◌, ◌++◌, All, length, take, drop, slice_index, Option, Some, None, Result, Ok, Err, is_ok, refl, ap, ◌∙◌, subst, arith, if◌then◌else◌}
use Rattle.std.specs.Prelude.{slice_set}
use Rattle.std.proofs.lemmas.Bool.Decides.{nat_tests}
use Rattle.std.proofs.lemmas.List.{length-drop, length-take-le}
use Rattle.std.proofs.lemmas.List.Elements.{All-append, All-cons, All-drop, All-nil, All-set, All-take}
use Rattle.ikl_base.specs.declared.address.Addr.{Addr}
use Rattle.ikl_base.specs.declared.address.Addr.TheVariants.{V4, V6}
use Rattle.ikl_base.specs.Address.{IsAddress, address_cleared, bits_of, cleared_from, is_one_family}
use Rattle.ip_packet.specs.declared.outer.Outer.{Outer}
use Rattle.ip_packet.specs.declared.packet.NotPacket.{NotPacket}
use Rattle.ip_packet.specs.declared.packet.NotPacket.TheVariants as faults
use Rattle.ip_packet.specs.Field.{has_ports, next_header, number_at, ports_of, version, with_number}
use Rattle.ip_packet.specs.Ipv4.{header_length, is_fragment, is_length_wrong, is_sum_wrong, sum_for}
use Rattle.ip_packet.specs.Ipv6.{extension_length, is_extension, is_payload_wrong, passes_end, upper_of, upper_step, upper_within}
use Rattle.ip_packet.specs.Outer.{header_4, header_6, header_between, outer_header}
use Rattle.ip_packet.specs.Ttl.{with_ttl, with_ttl_4, without_sum}
use Rattle.ip_packet.specs.View.{Packet, by_upper, is_short, packet_4, packet_6, view_of, view_of_4, view_of_6}
use Rattle.ikeless_tree.specs.Typed.{AreOctets, IsTypedRange, IsTypedSelector}
use Rattle.ikeless_tree.specs.declared.entry.Direction.TheVariants.{Out}
use Rattle.ikeless_tree.specs.declared.sad.SadEntry.{SadEntry}
use Rattle.esp_frame.specs.Esp.{esp, keying}
use Rattle.spd_match.specs.Match.{local_port, remote_port}
use Rattle.script_lines.specs.Session.{is_one_port, is_packet}
use Rattle.hist_gateway.specs.Datagram.{datagram, flow_of, one_port, outer_of, whole}
use Rattle.acts_spell.proofs.Octets.{IsOctet, each-of, none, octet-at, of-each}

-- ---- views

abbrev pub ArePorts : Option (ℕ × ℕ) → Type 0
ArePorts None = Unit {0}
ArePorts (Some p) = (p.0 < 2 ^ 16) × (p.1 < 2 ^ 16)

pub record IsTypedView (v : Packet) : Type 0 where
  pub src : IsAddress v.src
  pub dst : IsAddress v.dst
  pub family : is_one_family v.src v.dst ≡ true
  pub proto : v.proto < 256
  pub ports : ArePorts v.ports
  pub payload : AreOctets v.payload

pub number-small : (o : List ℕ) (i : ℕ) → AreOctets o → number_at o i < 2 ^ 16
number-small o i h = let a = octet-at o i h in let b = octet-at o (i + 1) h in omega (arith, a, b)

ports-if : (b : Bool) (p : ℕ × ℕ) → (p.0 < 2 ^ 16) × (p.1 < 2 ^ 16) → ArePorts (if b then Some p else None)
ports-if true p h = h
ports-if false p h = tt

ports-typed : (proto : ℕ) (o : List ℕ) → AreOctets o → ArePorts (ports_of proto o)
ports-typed proto o h =
    ports-if (has_ports proto && not (nat_lt (length o) 4)) (number_at o 0, number_at o 2) (number-small o 0 h, number-small o 2 h)

piece : (n i : ℕ) (o : List ℕ) → n + i ≤ length o → length (take n (drop i o)) ≡ n
piece n i o h = let d = length-drop i o in length-take-le n (drop i o) (omega (arith, d, h))

address-4 : (i : ℕ) (o : List ℕ) → AreOctets o → 4 + i ≤ length o → IsAddress (V4 (take 4 (drop i o)))
address-4 i o h l = (piece 4 i o l, All-take IsOctet 4 (drop i o) (All-drop IsOctet i o h))

address-6 : (i : ℕ) (o : List ℕ) → AreOctets o → 16 + i ≤ length o → IsAddress (V6 (take 16 (drop i o)))
address-6 i o h l = (piece 16 i o l, All-take IsOctet 16 (drop i o) (All-drop IsOctet i o h))

typed-4 : (o : List ℕ) → AreOctets o → 20 ≤ length o → IsTypedView (packet_4 o)
typed-4 o h l = record {
  src = address-4 12 o h (omega (arith, l));
  dst = address-4 16 o h (omega (arith, l));
  family = refl;
  proto = octet-at o 9 h;
  ports = ports-typed (slice_index o 9) (drop (header_length o) o) (All-drop IsOctet (header_length o) o h);
  payload = All-drop IsOctet (header_length o) o h;
}

typed-6 : (o : List ℕ) (proto : ℕ) (payload : List ℕ) → AreOctets o → 40 ≤ length o → proto < 256 → AreOctets payload
    → IsTypedView (packet_6 o proto payload)
typed-6 o proto payload h l p q = record {
  src = address-6 8 o h (omega (arith, l));
  dst = address-6 24 o h (omega (arith, l));
  family = refl;
  proto = p;
  ports = ports-typed proto payload q;
  payload = q;
}

-- past a fault that isn't there
no-fault : {A : Type 0} (b : Bool) (e : NotPacket) (r : Result A NotPacket) (v : A) → (if b then Err e else r) ≡ Ok v
    → (b ≡ false) × (r ≡ Ok v)
no-fault true e r v is = cc
no-fault false e r v is = (refl, is)

ok-is : {A : Type 0} (x y : A) → (let r : Result A NotPacket = Ok x in r ≡ Ok y) → x ≡ y
ok-is x y e = grind arith

by-4 : (o : List ℕ) (v : Packet) → AreOctets o → 20 ≤ length o → view_of_4 o ≡ Ok v → IsTypedView v
by-4 o v h l is =
    let a = no-fault (is_length_wrong o) faults.Length _ v is in
    let b = no-fault (is_sum_wrong o) faults.HeaderSum _ v a.1 in
    let c = no-fault (is_fragment o) faults.Fragment (Ok (packet_4 o)) v b.1 in
    subst IsTypedView (ok-is (packet_4 o) v c.1) (typed-4 o h l)

-- the upper layer's protocol and octets
abbrev IsUpper : ℕ × List ℕ → Type 0
IsUpper u = (u.0 < 256) × AreOctets u.1

upper-if : (b : Bool) (u : ℕ × List ℕ) (r : Result (ℕ × List ℕ) NotPacket) (x : ℕ × List ℕ) → IsUpper x → (r ≡ Ok u → IsUpper u)
    → (if b then r else Ok x) ≡ Ok u → IsUpper u
upper-if true u r x p q e = q e
upper-if false u r x p q e = subst IsUpper (ok-is x u e) p

step-upper : (next : ℕ) (o : List ℕ) (r : Result (ℕ × List ℕ) NotPacket) (u : ℕ × List ℕ) → next < 256 → AreOctets o
    → (r ≡ Ok u → IsUpper u) → upper_step next o r ≡ Ok u → IsUpper u
step-upper next o r u l h f e =
    let a = no-fault (next == 44) faults.Fragment _ u e in
    upper-if (is_extension next) u (if passes_end o then Err faults.Length else r) (next, o) (l, h)
    (λ q. f (no-fault (passes_end o) faults.Length r u q).1) a.1

within-upper : (n next : ℕ) (o : List ℕ) (u : ℕ × List ℕ) → next < 256 → AreOctets o → upper_within n next o ≡ Ok u → IsUpper u
within-upper zero next o u l h e = step-upper next o (Err faults.Length) u l h (λ q. cc) e
within-upper (suc n) next o u l h e =
    step-upper next o (upper_within n (slice_index o 0) (drop (extension_length o) o)) u l h
    (within-upper n (slice_index o 0) (drop (extension_length o) o) u (octet-at o 0 h) (All-drop IsOctet (extension_length o) o h)) e

upper-typed : (next : ℕ) (o : List ℕ) (u : ℕ × List ℕ) → next < 256 → AreOctets o → upper_of next o ≡ Ok u → IsUpper u
unfolding upper_of
upper-typed next o u l h e = within-upper (length o) next o u l h e

by-upper : (o : List ℕ) (v : Packet) (r : Result (ℕ × List ℕ) NotPacket) → AreOctets o → 40 ≤ length o
    → ((u : ℕ × List ℕ) → r ≡ Ok u → IsUpper u) → by_upper o r ≡ Ok v → IsTypedView v
by-upper o v (Ok u) h l f e = let t = f u refl in subst IsTypedView (ok-is (packet_6 o u.0 u.1) v e) (typed-6 o u.0 u.1 h l t.0 t.1)
by-upper o v (Err fault) h l f e = cc

by-6 : (o : List ℕ) (v : Packet) → AreOctets o → 40 ≤ length o → view_of_6 o ≡ Ok v → IsTypedView v
by-6 o v h l is =
    let a = no-fault (is_payload_wrong o) faults.Length _ v is in
    by-upper o v (upper_of (slice_index o 6) (drop 40 o)) h l
    (λ u e. upper-typed (slice_index o 6) (drop 40 o) u (octet-at o 6 h) (All-drop IsOctet 40 o h) e) a.1

long-4 : (n : ℕ) (a c : Bool) → ((n == 0) || (true && nat_lt n 20) || (a && c)) ≡ false → 20 ≤ n
long-4 n a c e = grind (arith, nat_tests, e)

long-6 : (n : ℕ) (a b : Bool) → ((n == 0) || (a && b) || (true && nat_lt n 40)) ≡ false → 40 ≤ n
long-6 n a b e = grind (arith, nat_tests, e)

by-version : (o : List ℕ) (v : Packet) (four six : Bool) → version o == 4 ≡ four → version o == 6 ≡ six → AreOctets o → is_short o ≡ false
    → (if four then view_of_4 o else if six then view_of_6 o else Err faults.Version) ≡ Ok v → IsTypedView v
by-version o v true six p q h s e =
    by-4 o v h
    (long-4 (length o) (version o == 6) (nat_lt (length o) 40)
    (subst (λ (z : Bool). ((length o == 0) || (z && nat_lt (length o) 20) || ((version o == 6) && nat_lt (length o) 40)) ≡ false) p s))
    e
by-version o v false true p q h s e =
    by-6 o v h
    (long-6 (length o) (version o == 4) (nat_lt (length o) 20)
    (subst (λ (z : Bool). ((length o == 0) || ((version o == 4) && nat_lt (length o) 20) || (z && nat_lt (length o) 40)) ≡ false) q s))
    e
by-version o v false false p q h s e = cc

pub view-typed : (o : List ℕ) (v : Packet) → AreOctets o → view_of o ≡ Ok v → IsTypedView v
unfolding view_of
view-typed o v h is =
    let a = no-fault (is_short o) faults.Short _ v is in
    by-version o v (version o == 4) (version o == 6) refl refl h a.0 a.1

-- ---- another time to live

set-octets : (o : List ℕ) (i n : ℕ) → n < 256 → AreOctets o → AreOctets (slice_set o i n)
set-octets o i n l h = All-set IsOctet o i n l h

numbered : (o : List ℕ) (i n : ℕ) → n < 65536 → AreOctets o → AreOctets (with_number o i n)
numbered o i n l h = set-octets (slice_set o i (n / 256)) (i + 1) (n % 256) (omega arith) (set-octets o i (n / 256) (omega (arith, l)) h)

ttl-4 : (ttl : ℕ) (o : List ℕ) → ttl < 256 → AreOctets o → AreOctets (with_ttl_4 ttl o)
ttl-4 ttl o l h =
    let bare = numbered (slice_set o 8 ttl) 10 0 (omega arith) (set-octets o 8 ttl l h) in
    numbered (without_sum ttl o) 10 (sum_for (take (header_length o) (without_sum ttl o))) (omega arith) bare

ttl-if : (b c : Bool) (ttl : ℕ) (o : List ℕ) → ttl < 256 → AreOctets o
    → AreOctets (if b then (if c then with_ttl_4 ttl o else slice_set o 7 ttl) else o)
ttl-if true true ttl o l h = ttl-4 ttl o l h
ttl-if true false ttl o l h = set-octets o 7 ttl l h
ttl-if false c ttl o l h = h

pub ttl-octets : (ttl : ℕ) (o : List ℕ) → ttl < 256 → AreOctets o → AreOctets (with_ttl ttl o)
unfolding with_ttl
ttl-octets ttl o l h = ttl-if (is_ok (view_of o)) (version o == 4) ttl o l h

-- ---- the flow of a packet

cleared-octets : (bits : ℕ) (o : List ℕ) → AreOctets o → (length (cleared_from bits o) ≡ length o) × AreOctets (cleared_from bits o)
cleared-octets bits [] h = (refl, none)
cleared-octets bits (x ∷ xs) h =
    let e = each-of (x ∷ xs) h in
    let more = cleared-octets (bits - 8) xs (of-each xs e.1) in
    let l : x < 256 = e.0 in
    (ap suc more.0, All-cons IsOctet (x - x % 2 ^ (8 - bits)) (cleared_from (bits - 8) xs) (omega (arith, l)) more.1)

pub cleared-address : (bits : ℕ) (a : Addr) → IsAddress a → IsAddress (address_cleared bits a)
cleared-address bits (V4 octets) h = let c = cleared-octets bits octets h.1 in (c.0 ∙ h.0, c.1)
cleared-address bits (V6 octets) h = let c = cleared-octets bits octets h.1 in (c.0 ∙ h.0, c.1)

whole-address : (a : Addr) → IsAddress a → IsAddress (whole a).addr
unfolding whole
whole-address a h = cleared-address (bits_of a) a h

whole-all : (a : Addr) → ((whole a).len == bits_of (whole a).addr) ≡ true
unfolding whole
whole-all (V4 octets) = refl
whole-all (V6 octets) = refl

whole-family : (a b : Addr) → is_one_family a b ≡ true → is_one_family (whole a).addr (whole b).addr ≡ true
unfolding whole
whole-family (V4 a) (V4 b) e = refl
whole-family (V4 a) (V6 b) e = e
whole-family (V6 a) (V4 b) e = e
whole-family (V6 a) (V6 b) e = refl

abbrev IsPort : Option ℕ → Type 0
IsPort None = Unit {0}
IsPort (Some n) = n < 2 ^ 16

port-typed : (p : Option ℕ) → IsPort p → All IsTypedRange (one_port p)
port-typed None h = All-nil IsTypedRange
port-typed (Some n) h = All-cons IsTypedRange (record { start = n; end = n }) [] (h, h) (All-nil IsTypedRange)

same : (n : ℕ) → (n == n) ≡ true
same n = grind arith

port-one : (p : Option ℕ) → is_one_port (one_port p) ≡ true
port-one None = refl
port-one (Some n) = same n

local-small : (p : Option (ℕ × ℕ)) → ArePorts p → IsPort (local_port Out p)
local-small None h = tt
local-small (Some p) h = h.0

remote-small : (p : Option (ℕ × ℕ)) → ArePorts p → IsPort (remote_port Out p)
remote-small None h = tt
remote-small (Some p) h = h.1

pub flow-typed : (v : Packet) → IsTypedView v → IsTypedSelector (flow_of v)
flow-typed v t = record {
  local = whole-address v.src t.src;
  remote = whole-address v.dst t.dst;
  proto = t.proto;
  local_ports = port-typed (local_port Out v.ports) (local-small v.ports t.ports);
  remote_ports = port-typed (remote_port Out v.ports) (remote-small v.ports t.ports);
}

pub flow-packet : (v : Packet) → IsTypedView v → is_packet (flow_of v) ≡ true
unfolding is_packet
flow-packet v t =
    rw (
      whole-all v.src,
      whole-all v.dst,
      whole-family v.src v.dst t.family,
      port-one (local_port Out v.ports),
      port-one
          (remote_port Out v.ports),
    ) refl

-- ---- the datagram

abbrev IsNearby : Outer → Type 0
IsNearby o = (o.payload + 20 < 65536) × (o.id < 65536)

df-octet : (b : Bool) → (if b then 64 else 0) < 256
df-octet true = omega arith
df-octet false = omega arith

header-octets-4 : (o : Outer) (a : List ℕ) → IsNearby o → AreOctets a → AreOctets (header_4 o a (sum_for (header_4 o a 0)))
header-octets-4 o a n h =
    let s : ℕ = sum_for (header_4 o a 0) in
    let l : s < 65536 = omega arith in
    let front : List ℕ = 69 ∷ 0 ∷ ((o.payload + 20) / 256) ∷ ((o.payload + 20) % 256) ∷ (o.id / 256) ∷ (o.id % 256)
    ∷ (if o.df then 64 else 0) ∷ 0
    ∷ 64 ∷ 50 ∷ (s / 256) ∷ (s % 256) ∷ [] in
    let p = n.0 in let i = n.1 in
    All-append IsOctet front a
    (of-each front (
      omega arith,
      (
        omega arith,
        (
          omega (arith, p),
          (
            omega arith,
            (
              omega (arith, i),
              (omega arith, (df-octet o.df, (omega arith, (omega arith, (omega arith, (omega (arith, l), (omega arith, tt))))))),
            ),
          ),
        ),
      ),
    )) h

header-octets-6 : (o : Outer) (a : List ℕ) → IsNearby o → AreOctets a → AreOctets (header_6 o a)
header-octets-6 o a n h =
    let front : List ℕ = 96 ∷ 0 ∷ 0 ∷ 0 ∷ (o.payload / 256) ∷ (o.payload % 256) ∷ 50 ∷ 64 ∷ [] in
    let p = n.0 in
    All-append IsOctet front a
    (of-each front (
      omega arith,
      (omega arith, (omega arith, (omega arith, (omega (arith, p), (omega arith, (omega arith, (omega arith, tt))))))),
    )) h

between-octets : (o : Outer) (a b : Addr) → IsNearby o → IsAddress a → IsAddress b → AreOctets (header_between o a b)
between-octets o (V4 a) (V4 b) n p q = header-octets-4 o (a ++ b) n (All-append IsOctet a b p.1 q.1)
between-octets o (V4 a) (V6 b) n p q = none
between-octets o (V6 a) (V4 b) n p q = none
between-octets o (V6 a) (V6 b) n p q = header-octets-6 o (a ++ b) n (All-append IsOctet a b p.1 q.1)

header-octets : (o : Outer) → IsNearby o → IsAddress o.src → IsAddress o.dst → AreOctets (outer_header o)
unfolding outer_header
header-octets o n p q = between-octets o o.src o.dst n p q

pub datagram-octets : (e : SadEntry) (n : ℕ) (v : Packet) (o : List ℕ) → IsAddress e.local → IsAddress e.remote
    → length (esp (keying e.spi e.key) n (next_header o) o) < 65500 → AreOctets (esp (keying e.spi e.key) n (next_header o) o)
    → AreOctets (datagram e n v o)
unfolding datagram
datagram-octets e n v o p q l h =
    let b : List ℕ = esp (keying e.spi e.key) n (next_header o) o in
    All-append IsOctet (outer_header (outer_of e n v (length b))) b
    (header-octets (outer_of e n v (length b)) (omega (arith, l), omega arith) p q) h
