-- Selectors and policies that are read, and what they stand for.
use Rattle.std.proofs.Common.{◌≡◌, ℕ, false, List, [], ◌∷◌, codes, Option, Some, None, Ok, refl, sym, ap, subst}
use Rattle.std.specs.Bool.{⊤}
use Rattle.std.specs.List.{list_any}
use Rattle.serde_json.specs.Data.{Data}
use Rattle.serde_json.specs.Find.{get, as_array}
use Rattle.ikeless_tree.specs.declared.entry.Range.{Range}
use Rattle.ikeless_tree.specs.declared.entry.Action.{Action}
use Rattle.ikeless_tree.specs.declared.entry.Action.TheVariants as actions
use Rattle.ikeless_tree.specs.declared.entry.Selector.{Selector}
use Rattle.ikeless_tree.specs.declared.entry.SpdEntry.{SpdEntry}
use Rattle.ikeless_tree.specs.declared.fault.TreeFault.{TreeFault}
use Rattle.ikeless_tree.specs.Check.{is_spd_name, spd_fault}
use Rattle.json_tree.specs.declared.selector_read.Side.{Side}
use Rattle.json_tree.specs.declared.policy_read.PolicyConfig.{PolicyConfig}
use Rattle.json_values.specs.Faults.{at_member, checked}
use Rattle.json_values.specs.Shapes.{lacks, items_read}
use Rattle.json_values.specs.Leaves.{needed_number, prefix_leaf, protocol_leaf, direction_leaf, action_leaf, fixed_word, unset_leaf, name_in}
use Rattle.json_values.specs.Members.{range_names, range_shape, selector_names, selector_shape, suite_shape, processing_shape, policy_shape, spd_entry_shape}
use Rattle.json_tree.specs.SelectorRead.{range_in, ports_in, side_in, selector_in, selector_of}
use Rattle.json_tree.specs.PolicyRead.{unset_in, word_in, window_in, reqid_in, suite_front, suite_back, suite_in, suite_of, processing_in, processing_of, policy_in, policy_of, spd_entry_in, entries_in, database_in, all_entries, spd_in, one_entry, one_spd_entry_in}
use Rattle.json_values.specs.Json.{HasOnly, Needed, Optional, IsNumber, IsWord, IsFalse, IsPrefix, IsRange, ArePorts, IsSelector, IsSuite, IsProcessing, IsPolicy, IsSpdEntry, IsSpd, IsOneSpdEntry}
use Rattle.json_values.proofs.LeafLaws.{ok_is, bind_ok, within_ok, within_of, member_ok, member_of, needed_number_ok, needed_number_of, number_or_ok, number_or_of, wide_or_ok, wide_or_of, needed_prefix_ok, needed_prefix_of, protocol_ok, protocol_of, direction_ok, direction_back, action_ok, action_back, fixed_ok, fixed_of, unset_ok, unset_of, name_ok, name_of}
use Rattle.json_values.proofs.ShapeLaws.{shape_ok, shape_of, there, only_ok, only_of, list_ok, list_of, one_ok, one_of}

-- ---- ranges

pub range_ok : (r : Range) (d : Data) → range_in d ≡ Ok r → IsRange r d
unfolding range_in range_shape
range_ok r d h =
    let a = bind_ok (range_shape d) _ r h in
    let b = bind_ok (at_member (codes "end") (needed_number 0 65535 (get (codes "end") d))) _ r a.2 in
    let c = bind_ok (at_member (codes "start") (needed_number 0 65535 (get (codes "start") d))) _ r b.2 in
    subst (λ (q : Range). IsRange q d) (ok_is _ r c.2) (record {
      members = shape_ok range_names range_names d a.0 a.1;
      end = needed_number_ok 0 65535 b.0 (get (codes "end") d) (member_ok (codes "end") _ b.0 b.1);
      start = needed_number_ok 0 65535 c.0 (get (codes "start") d) (member_ok (codes "start") _ c.0 c.1);
    })

pub range_of : (r : Range) (d : Data) → IsRange r d → range_in d ≡ Ok r
unfolding range_in range_shape
range_of r d h =
    let lacking : list_any (lacks d) range_names ≡ false = rw (there _ _ h.end, there _ _ h.start) refl in
    rw (
      shape_of range_names range_names d h.members lacking,
      needed_number_of 0 65535 r.end (get (codes "end") d) h.end,
      needed_number_of 0 65535 r.start (get (codes "start") d) h.start,
    ) refl

pub ports_ok : (name : List ℕ) (rs : List Range) (leaf : Option Data) → ports_in name leaf ≡ Ok rs → Optional (ArePorts rs) (rs ≡ []) leaf
ports_ok name rs None h = sym (ok_is [] rs h)
ports_ok name rs (Some d) h = list_ok range_in IsRange range_ok d rs (within_ok name (items_read range_in (as_array d)) rs h)

pub ports_of : (name : List ℕ) (rs : List Range) (leaf : Option Data) → Optional (ArePorts rs) (rs ≡ []) leaf → ports_in name leaf ≡ Ok rs
ports_of name rs None h = ap Ok (sym h)
ports_of name rs (Some d) h = within_of name (items_read range_in (as_array d)) rs (list_of range_in IsRange range_of d rs h)

-- ---- selectors

record IsSide (first second : List ℕ) (side : Side) (d : Data) : Type 0 where
  ports : Optional (ArePorts side.ports) (side.ports ≡ []) (get first d)
  prefix : Needed (IsPrefix side.prefix) (get second d)

side_ok : (ports prefix : List ℕ) (side : Side) (d : Data) → side_in ports prefix d ≡ Ok side → IsSide ports prefix side d
unfolding side_in
side_ok ports prefix side d h =
    let a = bind_ok (ports_in ports (get ports d)) _ side h in
    let b = bind_ok (at_member prefix (prefix_leaf (get prefix d))) _ side a.2 in
    subst (λ (q : Side). IsSide ports prefix q d) (ok_is _ side b.2) (record {
      ports = ports_ok ports a.0 (get ports d) a.1;
      prefix = needed_prefix_ok b.0 (get prefix d) (member_ok prefix _ b.0 b.1);
    })

side_of : (ports prefix : List ℕ) (side : Side) (d : Data) → IsSide ports prefix side d → side_in ports prefix d ≡ Ok side
unfolding side_in
side_of ports prefix side d h =
    rw (ports_of ports side.ports (get ports d) h.ports, needed_prefix_of side.prefix (get prefix d) h.prefix) refl

pub selector_ok : (s : Selector) (d : Data) → selector_in d ≡ Ok s → IsSelector s d
unfolding selector_in selector_shape
selector_ok s d h =
    let a = bind_ok (selector_shape d) _ s h in
    let b = bind_ok (at_member (codes "inner-protocol") (protocol_leaf (get (codes "inner-protocol") d))) _ s a.2 in
    let c = bind_ok (side_in (codes "local-ports") (codes "local-prefix") d) _ s b.2 in
    let e = bind_ok (side_in (codes "remote-ports") (codes "remote-prefix") d) _ s c.2 in
    let local = side_ok (codes "local-ports") (codes "local-prefix") c.0 d c.1 in
    let remote = side_ok (codes "remote-ports") (codes "remote-prefix") e.0 d e.1 in
    subst (λ (q : Selector). IsSelector q d) (ok_is _ s e.2) (record {
      members = shape_ok selector_names _ d a.0 a.1;
      proto = protocol_ok b.0 (get (codes "inner-protocol") d) (member_ok (codes "inner-protocol") _ b.0 b.1);
      local_ports = local.ports;
      local = local.prefix;
      remote_ports = remote.ports;
      remote = remote.prefix;
    })

pub selector_back : (s : Selector) (d : Data) → IsSelector s d → selector_in d ≡ Ok s
unfolding selector_in selector_shape
selector_back s d h =
    let lacking : list_any (lacks d) (codes "local-prefix" ∷ codes "remote-prefix" ∷ []) ≡ false =
    rw (there _ _ h.local, there _ _ h.remote) refl in
    let local : Side = record { ports = s.local_ports; prefix = s.local } in
    let remote : Side = record { ports = s.remote_ports; prefix = s.remote } in
    rw (
      shape_of selector_names _ d h.members lacking,
      protocol_of s.proto (get (codes "inner-protocol") d) h.proto,
      side_of (codes "local-ports") (codes "local-prefix") local d (record { ports = h.local_ports; prefix = h.local }),
      side_of (codes "remote-ports") (codes "remote-prefix") remote d (record { ports = h.remote_ports; prefix = h.remote }),
    ) refl

pub selector_of_ok : (s : Selector) (leaf : Option Data) → selector_of leaf ≡ Ok s → Needed (IsSelector s) leaf
selector_of_ok s None h = absurd (let no : ⊥ = cc in no)
selector_of_ok s (Some d) h = selector_ok s d (within_ok (codes "traffic-selector") (selector_in d) s h)

pub selector_of_back : (s : Selector) (leaf : Option Data) → Needed (IsSelector s) leaf → selector_of leaf ≡ Ok s
selector_of_back s None h = absurd h
selector_of_back s (Some d) h = within_of (codes "traffic-selector") (selector_in d) s (selector_back s d h)

-- ---- policies

pub unset_in_ok : (name : List ℕ) (d : Data) (u : ⊤) → unset_in name d ≡ Ok u → Optional IsFalse (Unit {0}) (get name d)
unset_in_ok name d u h = unset_ok (get name d) u (member_ok name (unset_leaf (get name d)) u h)

pub unset_in_of : (name : List ℕ) (d : Data) → Optional IsFalse (Unit {0}) (get name d) → unset_in name d ≡ Ok tt
unset_in_of name d h = member_of name (unset_leaf (get name d)) tt (unset_of (get name d) h)

pub word_in_ok : (name word : List ℕ) (d : Data) (u : ⊤) → word_in name word d ≡ Ok u → Optional (IsWord word) (Unit {0}) (get name d)
word_in_ok name word d u h = fixed_ok word (get name d) u (member_ok name (fixed_word word (get name d)) u h)

pub word_in_of : (name word : List ℕ) (d : Data) → Optional (IsWord word) (Unit {0}) (get name d) → word_in name word d ≡ Ok tt
word_in_of name word d h = member_of name (fixed_word word (get name d)) tt (fixed_of word (get name d) h)

suite_ok : (d : Data) (u : ⊤) → suite_in d ≡ Ok u → IsSuite d
unfolding suite_in suite_shape suite_front suite_back
suite_ok d u h =
    let a = bind_ok (suite_shape d) _ u h in
    let b = bind_ok (suite_front d) _ u a.2 in
    let c = bind_ok (unset_in (codes "ext-seq-num") d) _ b.0 b.1 in
    let e = bind_ok (word_in (codes "mode") (codes "tunnel") d) _ b.0 c.2 in
    let f = bind_ok (word_in (codes "protocol-parameters") (codes "esp") d) _ u b.2 in
    let g = bind_ok (unset_in (codes "seq-overflow") d) _ u f.2 in
    record {
      members = shape_ok _ [] d a.0 a.1;
      extended = unset_in_ok (codes "ext-seq-num") d c.0 c.1;
      mode = word_in_ok (codes "mode") (codes "tunnel") d e.0 e.1;
      flag = unset_in_ok (codes "pfp-flag") d b.0 e.2;
      protocol = word_in_ok (codes "protocol-parameters") (codes "esp") d f.0 f.1;
      overflow = unset_in_ok (codes "seq-overflow") d g.0 g.1;
      fragments = unset_in_ok (codes "stateful-frag-check") d u g.2;
    }

suite_back_of : (d : Data) → IsSuite d → suite_in d ≡ Ok tt
unfolding suite_in suite_shape suite_front suite_back
suite_back_of d h =
    rw (
      shape_of _ [] d h.members refl,
      unset_in_of (codes "ext-seq-num") d h.extended,
      word_in_of (codes "mode") (codes "tunnel") d h.mode,
      unset_in_of (codes "pfp-flag") d h.flag,
      word_in_of (codes "protocol-parameters") (codes "esp") d h.protocol,
      unset_in_of (codes "seq-overflow") d h.overflow,
    ) (unset_in_of (codes "stateful-frag-check") d h.fragments)

suite_of_ok : (leaf : Option Data) (u : ⊤) → suite_of leaf ≡ Ok u → Optional IsSuite (Unit {0}) leaf
suite_of_ok None u h = tt
suite_of_ok (Some d) u h = suite_ok d u (within_ok (codes "ipsec-sa-cfg") (suite_in d) u h)

suite_of_back : (leaf : Option Data) → Optional IsSuite (Unit {0}) leaf → suite_of leaf ≡ Ok tt
suite_of_back None h = refl
suite_of_back (Some d) h = within_of (codes "ipsec-sa-cfg") (suite_in d) tt (suite_back_of d h)

processing_ok : (x : Action) (d : Data) → processing_in d ≡ Ok x → IsProcessing x d
unfolding processing_in processing_shape
processing_ok x d h =
    let a = bind_ok (processing_shape d) _ x h in
    let b = bind_ok (at_member (codes "action") (action_leaf (get (codes "action") d))) _ x a.2 in
    let c = bind_ok (suite_of (get (codes "ipsec-sa-cfg") d)) _ x b.2 in
    subst (λ (q : Action). IsProcessing q d) (ok_is b.0 x c.2) (record {
      members = shape_ok _ [] d a.0 a.1;
      action = action_ok b.0 (get (codes "action") d) (member_ok (codes "action") _ b.0 b.1);
      suite = suite_of_ok (get (codes "ipsec-sa-cfg") d) c.0 c.1;
    })

processing_back : (x : Action) (d : Data) → IsProcessing x d → processing_in d ≡ Ok x
unfolding processing_in processing_shape
processing_back x d h =
    rw (
      shape_of _ [] d h.members refl,
      action_back x (get (codes "action") d) h.action,
      suite_of_back (get (codes "ipsec-sa-cfg") d)
          h.suite,
    ) refl

processing_of_ok : (x : Action) (leaf : Option Data) → processing_of leaf ≡ Ok x → Optional (IsProcessing x) (x ≡ actions.Discard) leaf
processing_of_ok x None h = sym (ok_is actions.Discard x h)
processing_of_ok x (Some d) h = processing_ok x d (within_ok (codes "processing-info") (processing_in d) x h)

processing_of_back : (x : Action) (leaf : Option Data) → Optional (IsProcessing x) (x ≡ actions.Discard) leaf → processing_of leaf ≡ Ok x
processing_of_back x None h = ap Ok (sym h)
processing_of_back x (Some d) h = within_of (codes "processing-info") (processing_in d) x (processing_back x d h)

-- what a policy says beside its direction, name and number
record IsConfig (p : PolicyConfig) (d : Data) : Type 0 where
  members : HasOnly (codes "anti-replay-window-size" ∷ codes "processing-info" ∷ codes "traffic-selector" ∷ []) d
  window : Optional (IsNumber 32 4096 p.window) (p.window ≡ 64) (get (codes "anti-replay-window-size") d)
  action : Optional (IsProcessing p.action) (p.action ≡ actions.Discard) (get (codes "processing-info") d)
  selector : Needed (IsSelector p.selector) (get (codes "traffic-selector") d)

config_ok : (p : PolicyConfig) (d : Data) → policy_in d ≡ Ok p → IsConfig p d
unfolding policy_in policy_shape
config_ok p d h =
    let a = bind_ok (policy_shape d) _ p h in
    let b = bind_ok (window_in d) _ p a.2 in
    let c = bind_ok (processing_of (get (codes "processing-info") d)) _ p b.2 in
    let e = bind_ok (selector_of (get (codes "traffic-selector") d)) _ p c.2 in
    subst (λ (q : PolicyConfig). IsConfig q d) (ok_is _ p e.2) (record {
      members = shape_ok _ _ d a.0 a.1;
      window = number_or_ok 64 32 4096 b.0 (get (codes "anti-replay-window-size") d) (member_ok (codes "anti-replay-window-size") _ b.0
          b.1);
      action = processing_of_ok c.0 (get (codes "processing-info") d) c.1;
      selector = selector_of_ok e.0 (get (codes "traffic-selector") d) e.1;
    })

config_back : (p : PolicyConfig) (d : Data) → IsConfig p d → policy_in d ≡ Ok p
unfolding policy_in policy_shape
config_back p d h =
    let lacking : list_any (lacks d) (codes "traffic-selector" ∷ []) ≡ false = rw (there _ _ h.selector) refl in
    rw (
      shape_of _ (codes "traffic-selector" ∷ []) d h.members lacking,
      number_or_of 64 32 4096 p.window (get (codes "anti-replay-window-size") d) h.window,
      processing_of_back p.action (get (codes "processing-info") d) h.action,
      selector_of_back p.selector (get (codes "traffic-selector") d) h.selector,
    ) refl

policy_of_ok : (e : SpdEntry) (p : PolicyConfig) (leaf : Option Data) → policy_of leaf ≡ Ok p → e.window ≡ p.window → e.action ≡ p.action
    → e.selector ≡ p.selector → Needed (IsPolicy e) leaf
policy_of_ok e p None h i j k = absurd (let no : ⊥ = cc in no)
policy_of_ok e p (Some d) h i j k =
    let c = config_ok p d (within_ok (codes "ipsec-policy-config") (policy_in d) p h) in
    record {
      members = c.members;
      window = subst (λ w. Optional (IsNumber 32 4096 w) (w ≡ 64) (get (codes "anti-replay-window-size") d)) (sym i) c.window;
      action = subst (λ (x : Action). Optional (IsProcessing x) (x ≡ actions.Discard) (get (codes "processing-info") d)) (sym j) c.action;
      selector = subst (λ (s : Selector). Needed (IsSelector s) (get (codes "traffic-selector") d)) (sym k) c.selector;
    }

policy_of_back : (e : SpdEntry) (leaf : Option Data) → Needed (IsPolicy e) leaf
    → policy_of leaf ≡ Ok (record { window = e.window; action = e.action; selector = e.selector })
policy_of_back e None h = absurd h
policy_of_back e (Some d) h =
    within_of (codes "ipsec-policy-config") (policy_in d) _
    (config_back (record { window = e.window; action = e.action; selector = e.selector }) d
    (record { members = h.members; window = h.window; action = h.action; selector = h.selector }))

pub spd_entry_ok : (e : SpdEntry) (d : Data) → spd_entry_in d ≡ Ok e → IsSpdEntry e d
unfolding spd_entry_in spd_entry_shape
spd_entry_ok e d h =
    let a = bind_ok (spd_entry_shape d) _ e h in
    let b = bind_ok (at_member (codes "direction") (direction_leaf (get (codes "direction") d))) _ e a.2 in
    let c = bind_ok (policy_of (get (codes "ipsec-policy-config") d)) _ e b.2 in
    let f = bind_ok (name_in (codes "name") is_spd_name d) _ e c.2 in
    let g = bind_ok (reqid_in d) _ e f.2 in
    let q : SpdEntry = record {
      name = f.0;
      direction = b.0;
      reqid = g.0;
      window = c.0.window;
      selector = c.0.selector;
      action =
          c.0.action;
    } in
    subst (λ (x : SpdEntry). IsSpdEntry x d) (ok_is q e g.2) (record {
      members = shape_ok _ _ d a.0 a.1;
      direction = direction_ok b.0 (get (codes "direction") d) (member_ok (codes "direction") _ b.0 b.1);
      policy = policy_of_ok q c.0 (get (codes "ipsec-policy-config") d) c.1 refl refl refl;
      name = name_ok is_spd_name f.0 (get (codes "name") d) (member_ok (codes "name") _ f.0 f.1);
      reqid = wide_or_ok g.0 (get (codes "reqid") d) (member_ok (codes "reqid") _ g.0 g.1);
    })

pub spd_entry_back : (e : SpdEntry) (d : Data) → IsSpdEntry e d → spd_entry_in d ≡ Ok e
unfolding spd_entry_in spd_entry_shape
spd_entry_back e d h =
    let needs = codes "direction" ∷ codes "ipsec-policy-config" ∷ codes "name" ∷ [] in
    let lacking : list_any (lacks d) needs ≡ false = rw (there _ _ h.direction, there _ _ h.policy, there _ _ h.name) refl in
    rw (
      shape_of _ needs d h.members lacking,
      direction_back e.direction (get (codes "direction") d) h.direction,
      policy_of_back e (get (codes "ipsec-policy-config") d) h.policy,
      name_of is_spd_name e.name (get (codes "name") d) h.name,
      wide_or_of e.reqid (get (codes "reqid") d) h.reqid,
    ) refl

-- ---- bodies

pub checked_ok : {A : Type 0} → (x y : A) (o : Option TreeFault) → checked x o ≡ Ok y → (x ≡ y) × (o ≡ None)
checked_ok x y None h = (ok_is x y h, refl)
checked_ok x y (Some fault) h = absurd (let no : ⊥ = cc in no)

pub spd_ok : (es : List SpdEntry) (d : Data) → spd_in d ≡ Ok es → IsSpd es d × (spd_fault es ≡ None)
unfolding spd_in all_entries database_in
spd_ok es d h =
    let a = bind_ok (all_entries d) _ es h in
    let b = checked_ok a.0 es (spd_fault a.0) a.2 in
    subst (λ (xs : List SpdEntry). IsSpd xs d × (spd_fault xs ≡ None)) b.0 (
      only_ok (codes "ietf-i2nsf-ikeless:spd") database_in _ a.0 d
          (λ e k. only_ok (codes "spd-entry") entries_in _ a.0 e (λ l m. list_ok spd_entry_in IsSpdEntry spd_entry_ok l a.0 m) k) a.1,
      b.1,
    )

pub spd_back : (es : List SpdEntry) (d : Data) → IsSpd es d → spd_fault es ≡ None → spd_in d ≡ Ok es
unfolding spd_in all_entries database_in
spd_back es d h none =
    let all : all_entries d ≡ Ok es = only_of (codes "ietf-i2nsf-ikeless:spd") database_in _ es d
    (λ e k. only_of (codes "spd-entry") entries_in _ es e (λ l m. list_of spd_entry_in IsSpdEntry spd_entry_back l es m) k) h in
    rw (all, none) refl

pub one_spd_ok : (e : SpdEntry) (d : Data) → one_spd_entry_in d ≡ Ok e → IsOneSpdEntry e d × (spd_fault (e ∷ []) ≡ None)
unfolding one_spd_entry_in one_entry
one_spd_ok e d h =
    let a = bind_ok (one_entry d) _ e h in
    let b = checked_ok a.0 e (spd_fault (a.0 ∷ [])) a.2 in
    subst (λ (x : SpdEntry). IsOneSpdEntry x d × (spd_fault (x ∷ []) ≡ None)) b.0 (
      only_ok (codes "ietf-i2nsf-ikeless:spd-entry") _ _ a.0 d (λ l k. one_ok spd_entry_in (IsSpdEntry a.0) a.0
          (λ i m. spd_entry_ok a.0 i m)
          l k) a.1,
      b.1,
    )

pub one_spd_back : (e : SpdEntry) (d : Data) → IsOneSpdEntry e d → spd_fault (e ∷ []) ≡ None → one_spd_entry_in d ≡ Ok e
unfolding one_spd_entry_in one_entry
one_spd_back e d h none =
    let one : one_entry d ≡ Ok e = only_of (codes "ietf-i2nsf-ikeless:spd-entry") _ _ e d
    (λ l k. one_of spd_entry_in (IsSpdEntry e) e (λ i m. spd_entry_back e i m) l k) h in
    rw (one, none) refl
