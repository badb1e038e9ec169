-- An event that is read fits its types.
use Rattle.std.proofs.Common.{◌≡◌, ℕ, ◌-◌, ◌^◌, ◌<◌, ◌==◌, nat_le, List, [], ◌∷◌, All, length, Option, Some, None, Ok, subst, arith}
use Rattle.std.specs.Prelude.{codes}
use Rattle.std.specs.List.{list_all, slice_split}
use Rattle.std.specs.Str.{bytes_eq}
use Rattle.std.proofs.lemmas.List.Elements.{All-from_recursion, All-nil}
use Rattle.ikl_base.specs.Address.{IsAddress}
use Rattle.ikl_base.specs.declared.status.LineFault.{LineFault}
use Rattle.ikl_base.specs.declared.status.LineFault.TheVariants as faults
use Rattle.ikeless_tree.specs.Check.{spd_fault}
use Rattle.ikeless_tree.specs.Typed.{AreTypedPolicies, IsTypedLimits, IsTypedPolicy, IsTypedProtocol, IsTypedRange, IsTypedSelector, IsTypedTunnel}
use Rattle.ikeless_tree.specs.declared.command.Peer.{Peer}
use Rattle.ikeless_tree.specs.declared.entry.Range.{Range}
use Rattle.ikeless_tree.specs.declared.entry.Selector.{Selector}
use Rattle.ikeless_tree.specs.declared.entry.SpdEntry.{SpdEntry}
use Rattle.ikeless_tree.specs.declared.fault.TreeFault.{TreeFault}
use Rattle.ikeless_tree.specs.declared.sad.Limits.{Limits}
use Rattle.yang_values.specs.Prefixes.{is_slash}
use Rattle.line_words.specs.declared.entry.Use.{Use}
use Rattle.line_words.specs.declared.lifetimes.Lifetimes.{Lifetimes}
use Rattle.line_words.specs.Words.{◌>>=◌, gateway_of, is_printable, known_of, lane_of, number_in, octets_of, prefix_in, words}
use Rattle.line_words.specs.Entry.{action_of, direction_of, entries_of, entry_in, entry_of, is_comma, is_dash, is_plus, ports_of, proto_of, range_in, range_of, ranges_of, selector_in, selector_of, unless_fault, use_of}
use Rattle.line_words.specs.Limits.{counts_of, lifetimes_of, limits_in, limits_of}
use Rattle.line_words.proofs.TakenSteps.{after, each_has, either, inside, number_most, passed}
use Rattle.event_lines.specs.declared.tunnel.Ends.{Ends}
use Rattle.event_lines.specs.declared.tunnel.Flow.{Flow}
use Rattle.event_lines.specs.Event.{arrive_in, arrive_of, command_in, ends_of, event_in, event_of, flip_of, flow_in, flow_of, from_one, gateway_in, is_numbered, keys_in, let_in, mode_of, policy_in, reqid_in, sent_of, session_in, time_in, ttl_of, tunnel_from, tunnel_in, tunnel_made, tunnel_of, window_of, wire_in}
use Rattle.event_lines.specs.Spelling.{IsEvent}
use Rattle.hist_acts.specs.declared.event.Event.{Event}
use Rattle.hist_acts.specs.declared.event.Event.TheVariants as events
use Rattle.acts_spell.proofs.AddressReads.{octets-read, prefix-word}

-- ---- numbers

within : (fault : LineFault) (most m : ℕ) (w : List ℕ) (n : ℕ) → most < m → number_in fault most w ≡ Ok n → n < m
within fault most m w n l e = let p = number_most fault most w n e in omega (arith, p, l)

long : (fault : LineFault) (w : List ℕ) (n : ℕ) → number_in fault (2 ^ 64 - 1) w ≡ Ok n → n < 2 ^ 64
long fault w n e = within fault (2 ^ 64 - 1) (2 ^ 64) w n (omega arith) e

short : (fault : LineFault) (w : List ℕ) (n : ℕ) → number_in fault (2 ^ 32 - 1) w ≡ Ok n → n < 2 ^ 32
short fault w n e = within fault (2 ^ 32 - 1) (2 ^ 32) w n (omega arith) e

-- ---- selectors

proto-read : (w : List ℕ) (p : Option ℕ) → proto_of w ≡ Ok p → IsTypedProtocol p
unfolding proto_of
proto-read w p is =
    either (IsTypedProtocol p) (bytes_eq w (codes "any")) (Ok None) (number_in faults.Entry 255 w >>= (λ n. Ok (Some n))) p is
    (λ same. subst IsTypedProtocol (inside None p same) tt)
    (λ read. after (IsTypedProtocol p) (number_in faults.Entry 255 w) (λ n. Ok (Some n)) p read
    (λ n found same. subst IsTypedProtocol (inside (Some n) p same) (within faults.Entry 255 256 w n (omega arith) found)))

range-read : (w : List ℕ) (r : Range) → range_of w ≡ Ok r → IsTypedRange r
unfolding range_in
range-read w r read = parts (slice_split is_dash w) read
  where
    parts : (ps : List (List ℕ)) → range_in ps ≡ Ok r → IsTypedRange r
    parts [] is = cc
    parts (a ∷ []) is = cc
    parts (start ∷ end ∷ []) is =
        after (IsTypedRange r) (number_in faults.Entry 65535 start) _ r is
        (λ a first more. after (IsTypedRange r) (number_in faults.Entry 65535 end) _ r more
        (λ b second same. subst IsTypedRange (inside (record { start = a; end = b }) r same)
        (within faults.Entry 65535 65536 start a (omega arith) first, within faults.Entry 65535 65536 end b (omega arith) second)))
    parts (a ∷ b ∷ c ∷ ps) is = cc

ports-read : (w : List ℕ) (rs : List Range) → ports_of w ≡ Ok rs → All IsTypedRange rs
unfolding ports_of
ports-read w rs is =
    let P : Type 0 = All IsTypedRange rs in
    either P (bytes_eq w (codes "any")) _ _ rs is
    (λ same. subst (All IsTypedRange) (inside [] rs same) (All-nil IsTypedRange))
    (λ read. passed P (nat_le (length (slice_split is_plus w)) 8) (ranges_of (slice_split is_plus w)) faults.Entry rs read
    (λ few more. All-from_recursion IsTypedRange rs (each_has IsTypedRange range_of range-read (slice_split is_plus w) rs more)))

selector-read : (local remote proto lp rp : List ℕ) (s : Selector) → selector_of local remote proto lp rp ≡ Ok s → IsTypedSelector s
unfolding selector_of
selector-read local remote proto lp rp s is =
    let P : Type 0 = IsTypedSelector s in
    after P (prefix_in faults.Entry local) _ s is
    (λ l first more. after P (prefix_in faults.Entry remote) _ s more
    (λ r second more2. after P (proto_of proto) _ s more2
    (λ p third more3. after P (ports_of lp) _ s more3
    (λ a fourth more4. after P (ports_of rp) _ s more4
    (λ b fifth same. subst IsTypedSelector (inside (record { local = l; remote = r; proto = p; local_ports = a; remote_ports = b }) s same)
    (record {
      local = prefix-word faults.Entry local l first;
      remote = prefix-word faults.Entry remote r second;
      proto = proto-read proto p third;
      local_ports = ports-read lp a fourth;
      remote_ports = ports-read rp b fifth;
    }))))))

selector-in : (ps : List (List ℕ)) (s : Selector) → selector_in ps ≡ Ok s → IsTypedSelector s
unfolding selector_in
selector-in [] s is = cc
selector-in (a ∷ []) s is = cc
selector-in (a ∷ b ∷ []) s is = cc
selector-in (a ∷ b ∷ c ∷ []) s is = cc
selector-in (a ∷ b ∷ c ∷ d ∷ []) s is = cc
selector-in (a ∷ b ∷ c ∷ d ∷ e ∷ []) s is = selector-read a b c d e s is
selector-in (a ∷ b ∷ c ∷ d ∷ e ∷ f ∷ ps) s is = cc

-- ---- policies

use-read : (direction reqid action : List ℕ) (u : Use) → use_of direction reqid action ≡ Ok u → u.reqid < 2 ^ 64
unfolding use_of
use-read direction reqid action u is =
    let P : Type 0 = u.reqid < 2 ^ 64 in
    after P (direction_of direction) _ u is
    (λ d _ more. after P (number_in faults.Entry (2 ^ 64 - 1) reqid) _ u more
    (λ n read more2. after P (action_of action) _ u more2
    (λ a _ same. subst (λ (z : Use). z.reqid < 2 ^ 64) (inside (record { direction = d; reqid = n; action = a }) u same)
    (long faults.Entry reqid n read))))

entry-read : (w : List ℕ) (e : SpdEntry) → entry_of w ≡ Ok e → IsTypedPolicy e
unfolding entry_in
entry-read w e read = parts (slice_split is_comma w) read
  where
    parts : (ps : List (List ℕ)) → entry_in ps ≡ Ok e → IsTypedPolicy e
    parts [] is = cc
    parts (a ∷ []) is = cc
    parts (a ∷ b ∷ []) is = cc
    parts (a ∷ b ∷ c ∷ []) is = cc
    parts (name ∷ direction ∷ reqid ∷ action ∷ selector) is =
        let P : Type 0 = IsTypedPolicy e in
        after P (use_of direction reqid action) _ e is
        (λ u first more. after P (selector_in selector) _ e more
        (λ s second same. subst IsTypedPolicy
        (inside (record { name = name; direction = u.direction; reqid = u.reqid; window = 64; selector = s; action = u.action }) e same)
        (record { reqid = use-read direction reqid action u first; window = omega arith; selector = selector-in selector s second })))

entries-read : (ws : List (List ℕ)) (es : List SpdEntry) → entries_of ws ≡ Ok es → AreTypedPolicies es
entries-read ws es read = All-from_recursion IsTypedPolicy es (each_has IsTypedPolicy entry_of entry-read ws es read)

kept : (o : Option TreeFault) (list good : List SpdEntry) → AreTypedPolicies list → unless_fault o list ≡ Ok good → AreTypedPolicies good
kept None list good h is = subst AreTypedPolicies (inside list good is) h
kept (Some fault) list good h is = cc

-- ---- limits

counts-read : (fault : LineFault) (time bytes packets idle : List ℕ) (l : Limits) → counts_of fault time bytes packets idle ≡ Ok l
    → IsTypedLimits l
unfolding counts_of
counts-read fault time bytes packets idle l is =
    let P : Type 0 = IsTypedLimits l in
    after P (number_in fault (2 ^ 32 - 1) time) _ l is
    (λ t first more. after P (number_in fault (2 ^ 64 - 1) bytes) _ l more
    (λ b second more2. after P (number_in fault (2 ^ 32 - 1) packets) _ l more2
    (λ p third more3. after P (number_in fault (2 ^ 32 - 1) idle) _ l more3
    (λ i fourth same. subst IsTypedLimits (inside (record { time = t; bytes = b; packets = p; idle = i }) l same)
    (record {
      time = short fault time t first;
      bytes = long fault bytes b second;
      packets = short fault packets p third;
      idle =
          short fault idle i fourth;
    })))))

limits-in : (fault : LineFault) (ps : List (List ℕ)) (l : Limits) → limits_in fault ps ≡ Ok l → IsTypedLimits l
unfolding limits_in
limits-in fault [] l is = cc
limits-in fault (a ∷ []) l is = cc
limits-in fault (a ∷ b ∷ []) l is = cc
limits-in fault (a ∷ b ∷ c ∷ []) l is = cc
limits-in fault (a ∷ b ∷ c ∷ d ∷ []) l is = counts-read fault a b c d l is
limits-in fault (a ∷ b ∷ c ∷ d ∷ e ∷ ps) l is = cc

record AreTypedLifetimes (l : Lifetimes) : Type 0 where
  pub hard : IsTypedLimits l.hard
  pub soft : IsTypedLimits l.soft

lifetimes-read : (fault : LineFault) (hard soft : List ℕ) (l : Lifetimes) → lifetimes_of fault hard soft ≡ Ok l → AreTypedLifetimes l
unfolding lifetimes_of
lifetimes-read fault hard soft l is =
    let P : Type 0 = AreTypedLifetimes l in
    after P (limits_of fault hard) _ l is
    (λ h first more. after P (limits_of fault soft) _ l more
    (λ s second same. subst AreTypedLifetimes (inside (record { hard = h; soft = s }) l same)
    (record { hard = limits-in fault (slice_split is_slash hard) h first; soft = limits-in fault (slice_split is_slash soft) s second })))

-- ---- tunnels

window-read : (w : List ℕ) (n : ℕ) → window_of w ≡ Ok n → n < 2 ^ 32
window-read w n is =
    let P : Type 0 = n < 2 ^ 32 in
    after P (number_in faults.Number 4096 w) _ n is
    (λ m few more. passed P (nat_le 32 m) (Ok m) faults.Number n more
    (λ least same. subst (λ (z : ℕ). z < 2 ^ 32) (inside m n same) (within faults.Number 4096 (2 ^ 32) w m (omega arith) few)))

ends-read : (reqid mode a b : List ℕ) (x : Ends) → ends_of reqid mode a b ≡ Ok x → x.reqid < 2 ^ 64
unfolding ends_of
ends-read reqid mode a b x is =
    let P : Type 0 = x.reqid < 2 ^ 64 in
    after P (number_in faults.Number (2 ^ 64 - 1) reqid) _ x is
    (λ n read more. after P (mode_of mode) _ x more
    (λ m _ more2. after P (gateway_of a) _ x more2
    (λ f _ more3. after P (gateway_of b) _ x more3
    (λ s _ same. subst (λ (z : Ends). z.reqid < 2 ^ 64) (inside (record { reqid = n; now = m; first = f; second = s }) x same)
    (long faults.Number reqid n read)))))

record IsTypedFlow (x : Flow) : Type 0 where
  pub first : IsAddress x.first.addr
  pub second : IsAddress x.second.addr
  pub window : x.window < 2 ^ 32
  pub lifetimes : AreTypedLifetimes x.lifetimes

flow-read : (p q window hard soft : List ℕ) (x : Flow) → flow_of p q window hard soft ≡ Ok x → IsTypedFlow x
unfolding flow_of
flow-read p q window hard soft x is =
    let P : Type 0 = IsTypedFlow x in
    after P (prefix_in faults.Prefix p) _ x is
    (λ f one more. after P (prefix_in faults.Prefix q) _ x more
    (λ s two more2. after P (window_of window) _ x more2
    (λ w three more3. after P (lifetimes_of faults.Limits hard soft) _ x more3
    (λ l four same. subst IsTypedFlow (inside (record { first = f; second = s; window = w; lifetimes = l }) x same) (record {
      first = prefix-word faults.Prefix p f one;
      second = prefix-word faults.Prefix q s two;
      window = window-read window w three;
      lifetimes = lifetimes-read faults.Limits hard soft l four;
    })))))

flow-in : (ws : List (List ℕ)) (x : Flow) → flow_in ws ≡ Ok x → IsTypedFlow x
unfolding flow_in
flow-in [] x is = cc
flow-in (p ∷ []) x is = cc
flow-in (p ∷ q ∷ []) x is = cc
flow-in (p ∷ q ∷ window ∷ []) x is = cc
flow-in (p ∷ q ∷ window ∷ hard ∷ []) x is = cc
flow-in (p ∷ q ∷ window ∷ hard ∷ soft ∷ []) x is = flow-read p q window hard soft x is
flow-in (p ∷ q ∷ window ∷ hard ∷ soft ∷ y ∷ ws) x is = cc

made-typed : (x : Ends) (y : Flow) → x.reqid < 2 ^ 64 → IsTypedFlow y → IsTypedTunnel (tunnel_made x y)
made-typed x y r f = record {
  reqid = r;
  first_prefix = f.first;
  second_prefix = f.second;
  window = f.window;
  hard = f.lifetimes.hard;
  soft = f.lifetimes.soft;
}

tunnel-from : (ws : List (List ℕ)) (e : Event) → tunnel_from ws ≡ Ok e → IsEvent e
unfolding tunnel_from tunnel_of
tunnel-from [] e is = cc
tunnel-from (reqid ∷ []) e is = cc
tunnel-from (reqid ∷ mode ∷ []) e is = cc
tunnel-from (reqid ∷ mode ∷ a ∷ []) e is = cc
tunnel-from (reqid ∷ mode ∷ a ∷ b ∷ more) e is =
    let P : Type 0 = IsEvent e in
    after P (ends_of reqid mode a b) _ e is
    (λ x ends rest. after P (flow_in more) _ e rest
    (λ y flow same. let r : events.Tunnel (tunnel_made x y) ≡ e = cc in
    subst IsEvent r (made-typed x y (ends-read reqid mode a b x ends) (flow-in more y flow))))

tunnel-read : (ws : List (List ℕ)) (e : Event) → tunnel_in ws ≡ Ok e → IsEvent e
unfolding tunnel_in
tunnel-read ws e is = passed (IsEvent e) (length ws == 9) (tunnel_from ws) faults.Count e is (λ _ more. tunnel-from ws e more)

-- ---- the other events

policy-read : (ws : List (List ℕ)) (e : Event) → policy_in ws ≡ Ok e → IsEvent e
unfolding policy_in
policy-read [] e is = cc
policy-read (w ∷ ws) e is =
    let P : Type 0 = IsEvent e in
    passed P (nat_le (length ws) 256) _ faults.Count e is
    (λ _ more. after P (gateway_of w) _ e more
    (λ g known more2. after P (entries_of ws) _ e more2
    (λ list read more3. after P (unless_fault (spd_fault list) list) _ e more3
    (λ good fits same. let q : events.Policy g good ≡ e = cc in
    subst IsEvent q (kept (spd_fault list) list good (entries-read ws list read) fits)))))

let-read : (gateways : List Peer) (ws : List (List ℕ)) (e : Event) → let_in gateways ws ≡ Ok e → IsEvent e
unfolding let_in
let-read gateways [] e is = cc
let-read gateways (w ∷ []) e is = cc
let-read gateways (w ∷ o ∷ []) e is =
    let P : Type 0 = IsEvent e in
    after P (known_of gateways w) _ e is
    (λ g known more. after P (octets_of o) _ e more
    (λ octets read same. let q : events.Let g octets ≡ e = cc in subst IsEvent q (octets-read o octets read)))
let-read gateways (w ∷ o ∷ x ∷ ws) e is = cc

one-read : (w : List ℕ) (k : ℕ) → from_one w ≡ Ok k → k < 2 ^ 64
one-read w k is =
    let P : Type 0 = k < 2 ^ 64 in
    after P (number_in faults.Number (2 ^ 64 - 1) w) _ k is
    (λ n read more. passed P (nat_le 1 n) (Ok n) faults.Number k more
    (λ one same. subst (λ (z : ℕ). z < 2 ^ 64) (inside n k same) (long faults.Number w n read)))

sent-read : (w : List ℕ) (k : ℕ) → sent_of w ≡ Ok k → k < 2 ^ 64
sent-read [] k is = cc
sent-read (c ∷ cs) k is = passed (k < 2 ^ 64) (c == 35) (from_one cs) faults.Word k is (λ _ read. one-read cs k read)

arrival-read : (gateways : List Peer) (gateway w : List ℕ) (e : Event) → arrive_of gateways gateway w ≡ Ok e → IsEvent e
unfolding arrive_of
arrival-read gateways gateway w e is =
    let P : Type 0 = IsEvent e in
    after P (known_of gateways gateway) _ e is
    (λ g known more. either P (is_numbered w) _ _ e more
    (λ read. after P (sent_of w) _ e read
    (λ k sent same. let q : events.ArriveSent g k ≡ e = cc in subst IsEvent q (sent-read w k sent)))
    (λ read. after P (octets_of w) _ e read
    (λ o octets same. let q : events.Arrive g o ≡ e = cc in subst IsEvent q (octets-read w o octets))))

ttl-read : (gateways : List Peer) (gateway sent how ttl : List ℕ) (e : Event) → ttl_of gateways gateway sent how ttl ≡ Ok e → IsEvent e
unfolding ttl_of
ttl-read gateways gateway sent how ttl e is =
    let P : Type 0 = IsEvent e in
    after P (known_of gateways gateway) _ e is
    (λ g known more. after P (sent_of sent) _ e more
    (λ k counted more2. passed P (bytes_eq how (codes "ttl")) _ faults.Word e more2
    (λ _ more3. after P (number_in faults.Number 255 ttl) _ e more3
    (λ t few same. let q : events.ArriveTtl g k t ≡ e = cc in
    subst IsEvent q (sent-read sent k counted, within faults.Number 255 256 ttl t (omega arith) few)))))

flip-read : (gateways : List Peer) (gateway sent how offset bit : List ℕ) (e : Event) → flip_of gateways gateway sent how offset bit ≡ Ok e
    → IsEvent e
unfolding flip_of
flip-read gateways gateway sent how offset bit e is =
    let P : Type 0 = IsEvent e in
    after P (known_of gateways gateway) _ e is
    (λ g known more. after P (sent_of sent) _ e more
    (λ k counted more2. passed P (bytes_eq how (codes "flip")) _ faults.Word e more2
    (λ _ more3. after P (number_in faults.Number (2 ^ 64 - 1) offset) _ e more3
    (λ n far more4. after P (number_in faults.Number 7 bit) _ e more4
    (λ b _ same. let q : events.ArriveFlip g k n b ≡ e = cc in
    subst IsEvent q (sent-read sent k counted, long faults.Number offset n far))))))

arrive-read : (gateways : List Peer) (ws : List (List ℕ)) (e : Event) → arrive_in gateways ws ≡ Ok e → IsEvent e
unfolding arrive_in
arrive-read gateways [] e is = cc
arrive-read gateways (w ∷ []) e is = cc
arrive-read gateways (w ∷ o ∷ []) e is = arrival-read gateways w o e is
arrive-read gateways (w ∷ k ∷ how ∷ []) e is = cc
arrive-read gateways (w ∷ k ∷ how ∷ t ∷ []) e is = ttl-read gateways w k how t e is
arrive-read gateways (w ∷ k ∷ how ∷ n ∷ b ∷ []) e is = flip-read gateways w k how n b e is
arrive-read gateways (w ∷ k ∷ how ∷ n ∷ b ∷ x ∷ ws) e is = cc

wire-read : (gateways : List Peer) (ws : List (List ℕ)) (e : Event) → wire_in gateways ws ≡ Ok e → IsEvent e
unfolding wire_in
wire-read gateways [] e is = cc
wire-read gateways (w ∷ []) e is = cc
wire-read gateways (w ∷ l ∷ []) e is =
    let P : Type 0 = IsEvent e in
    after P (known_of gateways w) _ e is
    (λ g known more. after P (lane_of l) _ e more (λ lane _ same. let q : events.Wire g lane ≡ e = cc in subst IsEvent q tt))
wire-read gateways (w ∷ l ∷ x ∷ ws) e is = cc

keys-read : (ws : List (List ℕ)) (e : Event) → keys_in ws ≡ Ok e → IsEvent e
unfolding keys_in
keys-read [] e is = cc
keys-read (w ∷ []) e is =
    after (IsEvent e) (octets_of w) _ e is (λ o read same. let q : events.Keys o ≡ e = cc in subst IsEvent q (octets-read w o read))
keys-read (w ∷ x ∷ ws) e is = cc

reqid-read : (ws : List (List ℕ)) (n : ℕ) → reqid_in ws ≡ Ok n → n < 2 ^ 64
unfolding reqid_in
reqid-read [] n is = cc
reqid-read (w ∷ []) n is = long faults.Number w n is
reqid-read (w ∷ x ∷ ws) n is = cc

time-read : (ws : List (List ℕ)) (t : ℕ) → time_in ws ≡ Ok t → t < 2 ^ 32
unfolding time_in
time-read [] t is = cc
time-read (w ∷ []) t is = short faults.Number w t is
time-read (w ∷ x ∷ ws) t is = cc

command-read : (w : List ℕ) (ws : List (List ℕ)) (e : Event) → command_in w ws ≡ Ok e → IsEvent e
unfolding command_in
command-read w ws e is =
    let P : Type 0 = IsEvent e in
    either P (bytes_eq w (codes "policy")) _ _ e is (policy-read ws e)
    (λ is2. either P (bytes_eq w (codes "tunnel")) _ _ e is2 (tunnel-read ws e)
    (λ is3. either P (bytes_eq w (codes "end")) _ _ e is3
    (λ read. after P (reqid_in ws) _ e read (λ n few same. let q : events.End n ≡ e = cc in subst IsEvent q (reqid-read ws n few)))
    (λ is4. either P (bytes_eq w (codes "rekey")) _ _ e is4
    (λ read. after P (reqid_in ws) _ e read (λ n few same. let q : events.Rekey n ≡ e = cc in subst IsEvent q (reqid-read ws n few)))
    (λ is5. passed P (bytes_eq w (codes "keys")) _ faults.Word e is5 (λ _ read. keys-read ws e read)))))

-- an event of a gateway alone
alone : (gateways : List Peer) (ws : List (List ℕ)) (f : List ℕ → Event) (e : Event) → ((g : List ℕ) → IsEvent (f g))
    → (gateway_in gateways ws >>= (λ g. Ok (f g))) ≡ Ok e → IsEvent e
alone gateways ws f e typed is =
    after (IsEvent e) (gateway_in gateways ws) (λ g. Ok (f g)) e is (λ g named same. subst IsEvent (inside (f g) e same) (typed g))

session-read : (gateways : List Peer) (w : List ℕ) (ws : List (List ℕ)) (e : Event) → session_in gateways w ws ≡ Ok e → IsEvent e
unfolding session_in
session-read gateways w ws e is =
    let P : Type 0 = IsEvent e in
    either P (bytes_eq w (codes "open")) _ _ e is (alone gateways ws (λ g. events.Open g) e (λ g. tt))
    (λ is2. either P (bytes_eq w (codes "cut")) _ _ e is2 (alone gateways ws (λ g. events.Cut g) e (λ g. tt))
    (λ is3. either P (bytes_eq w (codes "down")) _ _ e is3 (alone gateways ws (λ g. events.Down g) e (λ g. tt))
    (λ is4. either P (bytes_eq w (codes "up")) _ _ e is4 (alone gateways ws (λ g. events.Up g) e (λ g. tt))
    (λ is5. either P (bytes_eq w (codes "note")) _ _ e is5 (alone gateways ws (λ g. events.Note g) e (λ g. tt))
    (command-read w ws e)))))

words-read : (gateways : List Peer) (ws : List (List ℕ)) (e : Event) → event_in gateways ws ≡ Ok e → IsEvent e
unfolding event_in
words-read gateways [] e is = cc
words-read gateways (w ∷ ws) e is =
    let P : Type 0 = IsEvent e in
    either P (bytes_eq w (codes "let")) _ _ e is (let-read gateways ws e)
    (λ is2. either P (bytes_eq w (codes "arrive")) _ _ e is2 (arrive-read gateways ws e)
    (λ is3. either P (bytes_eq w (codes "now")) _ _ e is3
    (λ read. after P (time_in ws) _ e read (λ t few same. let q : events.Now t ≡ e = cc in subst IsEvent q (time-read ws t few)))
    (λ is4. either P (bytes_eq w (codes "boot")) _ _ e is4 (alone gateways ws (λ g. events.Boot g) e (λ g. tt))
    (λ is5. either P (bytes_eq w (codes "wire")) _ _ e is5 (wire-read gateways ws e) (session-read gateways w ws e)))))

pub event-typed : (gateways : List Peer) (line : List ℕ) (e : Event) → event_of gateways line ≡ Ok e → IsEvent e
unfolding event_of
event-typed gateways line e is =
    passed (IsEvent e) (list_all is_printable line) _ faults.Octet e is (λ _ read. words-read gateways (words line) e read)
