-- Halves that are read, and what they stand for.
use Rattle.std.proofs.Common.{◌≡◌, ℕ, ◌-◌, ◌^◌, ◌==◌, Bool, true, false, List, [], ◌∷◌, codes, length, if◌then◌else◌, Option, Some, None, option_and_then, Result, Ok, Err, refl, sym, ap, subst, ◌∙◌, arith}
use Rattle.std.specs.Bool.{⊤}
use Rattle.std.specs.List.{list_any}
use Rattle.std.proofs.lemmas.Bool.Decides.{nat_tests}
use Rattle.serde_json.specs.Data.{Data, number, unsigned}
use Rattle.serde_json.specs.Find.{get, as_number, as_u64}
use Rattle.ikl_base.specs.declared.address.Addr.{Addr}
use Rattle.ikeless_tree.specs.declared.sad.Df.TheVariants as bits
use Rattle.ikeless_tree.specs.declared.sad.Limits.{Limits}
use Rattle.ikeless_tree.specs.declared.sad.SadEntry.{SadEntry}
use Rattle.ikeless_tree.specs.Check.{is_sad_name, is_key_length, sad_fault}
use Rattle.yang_values.specs.Addresses.{address_of}
use Rattle.yang_values.specs.HexText.{hex_of}
use Rattle.json_values.specs.declared.fault.Kind.{Kind}
use Rattle.json_values.specs.declared.fault.Kind.TheVariants as kinds
use Rattle.json_tree.specs.declared.sad_entry_read.Sealing.{Sealing}
use Rattle.json_tree.specs.declared.sad_entry_read.Lifetimes.{Lifetimes}
use Rattle.json_tree.specs.declared.sad_entry_read.TunnelEnds.{TunnelEnds}
use Rattle.json_tree.specs.declared.sad_entry_read.Traffic.{Traffic}
use Rattle.json_tree.specs.declared.sad_entry_read.HalfConfig.{HalfConfig}
use Rattle.json_values.specs.Faults.{at_member}
use Rattle.json_values.specs.Shapes.{lacks}
use Rattle.ikeless_tree.specs.Words.{df_text}
use Rattle.json_values.specs.Leaves.{or_form, text_in, address_from, address_leaf, octets_from, octets_leaf, keying, key_leaf, fixed_number, this_number, count_or, wide_or, name_in}
use Rattle.json_values.specs.Members.{limits_names, limits_shape, soft_shape, encryption_shape, tunnel_shape, config_names, config_shape, sad_entry_shape}
use Rattle.json_tree.specs.SelectorRead.{limits_from, selector_of}
use Rattle.json_tree.specs.PolicyRead.{unset_in, word_in, window_in, reqid_in}
use Rattle.json_tree.specs.SadEntryRead.{algorithm_in, key_in, encryption_in, suite_key, suite_key_of, sealing_in, limits_in, limits_of, soft_in, soft_of, lifetimes_in, df_in, address_in, tunnel_in, tunnel_of, spi_in, traffic_in, config_in, config_of, half_of, sad_entry_in, one_half, one_sad_entry_in}
use Rattle.json_values.specs.Json.{HasOnly, Needed, Optional, IsNumber, IsWord, IsFalse, IsHex, IsKey, IsAddressText, IsOnly, HasLimits, no_limits, IsLimits, IsSoft, IsAlgorithm, IsEncryption, IsTunnel, IsHalfConfig, IsSadEntry, IsOneSadEntry}
use Rattle.json_values.proofs.LeafLaws.{ok_is, bind_ok, within_ok, within_of, member_ok, member_of, text_ok, u64_ok, kind_ok, kind_of, df_ok, df_back, needed_number_ok, needed_number_of, number_or_ok, number_or_of, wide_or_ok, wide_or_of, name_ok, name_of}
use Rattle.json_values.proofs.ShapeLaws.{shape_ok, shape_of, there, only_ok, only_of, one_ok, one_of}
use Rattle.json_tree.proofs.PolicyLaws.{unset_in_ok, unset_in_of, word_in_ok, word_in_of, selector_of_ok, selector_of_back, checked_ok}

-- ---- leaves

address_ok : (a : Addr) (leaf : Option Data) → address_leaf leaf ≡ Ok a → Needed (IsAddressText a) leaf
address_ok a None h = absurd (let no : ⊥ = cc in no)
address_ok a (Some d) h = let step = bind_ok (text_in d) address_from a h in
    (step.0, text_ok d step.0 step.1, kind_ok (address_of step.0) a step.2)

address_back : (a : Addr) (leaf : Option Data) → Needed (IsAddressText a) leaf → address_leaf leaf ≡ Ok a
address_back a None h = absurd h
address_back a (Some d) h = rw h.1 (kind_of (address_of h.0) a h.2)

pub octets_ok : (o : List ℕ) (d : Data) → octets_leaf (Some d) ≡ Ok o → IsHex o d
octets_ok o d h = let step = bind_ok (text_in d) octets_from o h in (step.0, text_ok d step.0 step.1, kind_ok (hex_of step.0) o step.2)

pub octets_back : (o : List ℕ) (d : Data) → IsHex o d → octets_leaf (Some d) ≡ Ok o
octets_back o d h = rw h.1 (kind_of (hex_of h.0) o h.2)

keying_by : (k : List ℕ) (t : Bool) (key : List ℕ) → is_key_length (length k) ≡ t
    → (let r : Result (List ℕ) Kind = if t then Ok k else Err kinds.Range in r) ≡ Ok key → (k ≡ key) × (is_key_length (length key) ≡ true)
keying_by k true key e h = let is = ok_is k key h in (is, sym (ap (λ x. is_key_length (length x)) is) ∙ e)
keying_by k false key e h = absurd (let no : ⊥ = cc in no)

key_ok : (key : List ℕ) (leaf : Option Data) → key_leaf leaf ≡ Ok key → Needed (IsKey key) leaf
key_ok key None h = absurd (let no : ⊥ = cc in no)
key_ok key (Some d) h =
    let step = bind_ok (octets_leaf (Some d)) keying key h in
    let parts = keying_by step.0 (is_key_length (length step.0)) key refl step.2 in
    (octets_ok key d (step.1 ∙ ap Ok parts.0), parts.1)

key_back : (key : List ℕ) (leaf : Option Data) → Needed (IsKey key) leaf → key_leaf leaf ≡ Ok key
key_back key None h = absurd h
key_back key (Some d) h =
    let octets : octets_leaf (Some d) ≡ Ok key = octets_back key d h.0 in
    rw octets (rw h.1 refl)

twenty_by : (m : ℕ) (t : Bool) (u : ⊤) → (m == 20) ≡ t → (let r : Result ⊤ Kind = if t then Ok tt else Err kinds.Unsupported in r) ≡ Ok u
    → m ≡ 20
twenty_by m true u e h = grind (arith, nat_tests, e)
twenty_by m false u e h = absurd (let no : ⊥ = cc in no)

algorithm_ok : (leaf : Option Data) (u : ⊤) → fixed_number 20 leaf ≡ Ok u → Optional IsAlgorithm (Unit {0}) leaf
algorithm_ok None u h = tt
algorithm_ok (Some d) u h =
    let step = bind_ok (or_form (option_and_then as_u64 (as_number d))) (this_number 20) u h in
    u64_ok d step.0 step.1 ∙ ap (λ n. number (unsigned n)) (twenty_by step.0 (step.0 == 20) u refl step.2)

algorithm_back : (leaf : Option Data) → Optional IsAlgorithm (Unit {0}) leaf → fixed_number 20 leaf ≡ Ok tt
algorithm_back None h = refl
algorithm_back (Some d) h = rw h refl

-- ---- lifetimes

pub limits_ok : (l : Limits) (d : Data) → limits_from d ≡ Ok l → HasLimits l d
unfolding limits_from
limits_ok l d h =
    let a = bind_ok (at_member (codes "bytes") (wide_or 0 (get (codes "bytes") d))) _ l h in
    let b = bind_ok (at_member (codes "idle") (count_or 0 (get (codes "idle") d))) _ l a.2 in
    let c = bind_ok (at_member (codes "packets") (count_or 0 (get (codes "packets") d))) _ l b.2 in
    let e = bind_ok (at_member (codes "time") (count_or 0 (get (codes "time") d))) _ l c.2 in
    subst (λ (x : Limits). HasLimits x d) (ok_is _ l e.2) (record {
      bytes = wide_or_ok a.0 (get (codes "bytes") d) (member_ok (codes "bytes") _ a.0 a.1);
      idle = number_or_ok 0 0 (2 ^ 32 - 1) b.0 (get (codes "idle") d) (member_ok (codes "idle") _ b.0 b.1);
      packets = number_or_ok 0 0 (2 ^ 32 - 1) c.0 (get (codes "packets") d) (member_ok (codes "packets") _ c.0 c.1);
      time = number_or_ok 0 0 (2 ^ 32 - 1) e.0 (get (codes "time") d) (member_ok (codes "time") _ e.0 e.1);
    })

pub limits_back : (l : Limits) (d : Data) → HasLimits l d → limits_from d ≡ Ok l
unfolding limits_from
limits_back l d h =
    rw (
      wide_or_of l.bytes (get (codes "bytes") d) h.bytes,
      number_or_of 0 0 (2 ^ 32 - 1) l.idle (get (codes "idle") d) h.idle,
      number_or_of 0 0 (2 ^ 32 - 1) l.packets (get (codes "packets") d) h.packets,
      number_or_of 0 0 (2 ^ 32 - 1) l.time (get (codes "time") d) h.time,
    ) refl

pub limits_of_ok : (name : List ℕ) (l : Limits) (leaf : Option Data) → limits_of name leaf ≡ Ok l
    → Optional (IsLimits l) (l ≡ no_limits) leaf
unfolding limits_in limits_shape
limits_of_ok name l None h = sym (ok_is no_limits l h)
limits_of_ok name l (Some d) h =
    let a = bind_ok (limits_shape d) (λ done. limits_from d) l (within_ok name (limits_in d) l h) in
    (shape_ok limits_names [] d a.0 a.1, limits_ok l d a.2)

pub limits_of_back : (name : List ℕ) (l : Limits) (leaf : Option Data) → Optional (IsLimits l) (l ≡ no_limits) leaf
    → limits_of name leaf ≡ Ok l
unfolding limits_in limits_shape
limits_of_back name l None h = ap Ok (sym h)
limits_of_back name l (Some d) h =
    let read : limits_in d ≡ Ok l = rw (shape_of limits_names [] d h.0 refl) (limits_back l d h.1) in
    within_of name (limits_in d) l read

soft_of_ok : (l : Limits) (leaf : Option Data) → soft_of leaf ≡ Ok l → Optional (IsSoft l) (l ≡ no_limits) leaf
unfolding soft_in soft_shape
soft_of_ok l None h = sym (ok_is no_limits l h)
soft_of_ok l (Some d) h =
    let a = bind_ok (soft_shape d) _ l (within_ok (codes "sa-lifetime-soft") (soft_in d) l h) in
    let b = bind_ok (word_in (codes "action") (codes "replace") d) (λ action. limits_from d) l a.2 in
    record {
      members = shape_ok (codes "action" ∷ limits_names) [] d a.0 a.1;
      action = word_in_ok (codes "action") (codes "replace") d b.0 b.1;
      limits = limits_ok l d b.2;
    }

soft_of_back : (l : Limits) (leaf : Option Data) → Optional (IsSoft l) (l ≡ no_limits) leaf → soft_of leaf ≡ Ok l
unfolding soft_in soft_shape
soft_of_back l None h = ap Ok (sym h)
soft_of_back l (Some d) h =
    let read : soft_in d ≡ Ok l =
    rw (shape_of (codes "action" ∷ limits_names) [] d h.members refl, word_in_of (codes "action") (codes "replace") d h.action)
    (limits_back l d h.limits) in
    within_of (codes "sa-lifetime-soft") (soft_in d) l read

-- ---- halves

encryption_ok : (key : List ℕ) (d : Data) → encryption_in d ≡ Ok key → IsEncryption key d
unfolding encryption_in encryption_shape
encryption_ok key d h =
    let a = bind_ok (encryption_shape d) _ key h in
    let b = bind_ok (algorithm_in d) (λ algorithm. key_in d) key a.2 in
    record {
      members = shape_ok (codes "encryption-algorithm" ∷ codes "key" ∷ []) (codes "key" ∷ []) d a.0 a.1;
      algorithm = algorithm_ok (get (codes "encryption-algorithm") d) b.0
          (member_ok (codes "encryption-algorithm") (fixed_number 20 (get (codes "encryption-algorithm") d)) b.0 b.1);
      key = key_ok key (get (codes "key") d) (member_ok (codes "key") (key_leaf (get (codes "key") d)) key b.2);
    }

encryption_back : (key : List ℕ) (d : Data) → IsEncryption key d → encryption_in d ≡ Ok key
unfolding encryption_in encryption_shape
encryption_back key d h =
    let lacking : list_any (lacks d) (codes "key" ∷ []) ≡ false = rw (there _ _ h.key) refl in
    let read : key_in d ≡ Ok key = member_of (codes "key") (key_leaf (get (codes "key") d)) key (key_back key (get (codes "key") d) h.key)
    in
    let algorithm : algorithm_in d ≡ Ok tt =
    member_of (codes "encryption-algorithm") (fixed_number 20 (get (codes "encryption-algorithm") d)) tt
    (algorithm_back (get (codes "encryption-algorithm") d) h.algorithm) in
    rw (shape_of (codes "encryption-algorithm" ∷ codes "key" ∷ []) (codes "key" ∷ []) d h.members lacking, algorithm) read

suite_ok : (key : List ℕ) (leaf : Option Data) → suite_key_of leaf ≡ Ok key → Needed (IsOnly (codes "encryption") (IsEncryption key)) leaf
unfolding suite_key
suite_ok key None h = absurd (let no : ⊥ = cc in no)
suite_ok key (Some d) h = only_ok (codes "encryption") encryption_in (IsEncryption key) key d (λ e k. encryption_ok key e k)
    (within_ok (codes "esp-sa") (suite_key d) key h)

suite_back : (key : List ℕ) (leaf : Option Data) → Needed (IsOnly (codes "encryption") (IsEncryption key)) leaf → suite_key_of leaf ≡ Ok key
unfolding suite_key
suite_back key None h = absurd h
suite_back key (Some d) h =
    let read : suite_key d ≡ Ok key = only_of (codes "encryption") encryption_in (IsEncryption key) key d (λ e k. encryption_back key e k) h
    in
    within_of (codes "esp-sa") (suite_key d) key read

record IsSealing (s : Sealing) (d : Data) : Type 0 where
  window : Optional (IsNumber 32 4096 s.window) (s.window ≡ 64) (get (codes "anti-replay-window-size") d)
  key : Needed (IsOnly (codes "encryption") (IsEncryption s.key)) (get (codes "esp-sa") d)
  extended : Optional IsFalse (Unit {0}) (get (codes "ext-seq-num") d)
  mode : Optional (IsWord (codes "tunnel")) (Unit {0}) (get (codes "mode") d)
  protocol : Optional (IsWord (codes "esp")) (Unit {0}) (get (codes "protocol-parameters") d)

sealing_ok : (s : Sealing) (d : Data) → sealing_in d ≡ Ok s → IsSealing s d
unfolding sealing_in
sealing_ok s d h =
    let a = bind_ok (window_in d) _ s h in
    let b = bind_ok (suite_key_of (get (codes "esp-sa") d)) _ s a.2 in
    let c = bind_ok (unset_in (codes "ext-seq-num") d) _ s b.2 in
    let e = bind_ok (word_in (codes "mode") (codes "tunnel") d) _ s c.2 in
    let f = bind_ok (word_in (codes "protocol-parameters") (codes "esp") d) _ s e.2 in
    subst (λ (x : Sealing). IsSealing x d) (ok_is _ s f.2) (record {
      window = number_or_ok 64 32 4096 a.0 (get (codes "anti-replay-window-size") d) (member_ok (codes "anti-replay-window-size") _ a.0
          a.1);
      key = suite_ok b.0 (get (codes "esp-sa") d) b.1;
      extended = unset_in_ok (codes "ext-seq-num") d c.0 c.1;
      mode = word_in_ok (codes "mode") (codes "tunnel") d e.0 e.1;
      protocol = word_in_ok (codes "protocol-parameters") (codes "esp") d f.0 f.1;
    })

sealing_back : (s : Sealing) (d : Data) → IsSealing s d → sealing_in d ≡ Ok s
unfolding sealing_in
sealing_back s d h =
    rw (
      number_or_of 64 32 4096 s.window (get (codes "anti-replay-window-size") d) h.window,
      suite_back s.key (get (codes "esp-sa") d) h.key,
      unset_in_of (codes "ext-seq-num") d h.extended,
      word_in_of (codes "mode") (codes "tunnel") d h.mode,
      word_in_of (codes "protocol-parameters") (codes "esp") d h.protocol,
    ) refl

record AreLifetimes (l : Lifetimes) (d : Data) : Type 0 where
  hard : Optional (IsLimits l.hard) (l.hard ≡ no_limits) (get (codes "sa-lifetime-hard") d)
  soft : Optional (IsSoft l.soft) (l.soft ≡ no_limits) (get (codes "sa-lifetime-soft") d)
  overflow : Optional IsFalse (Unit {0}) (get (codes "seq-overflow") d)

lifetimes_ok : (l : Lifetimes) (d : Data) → lifetimes_in d ≡ Ok l → AreLifetimes l d
unfolding lifetimes_in
lifetimes_ok l d h =
    let a = bind_ok (limits_of (codes "sa-lifetime-hard") (get (codes "sa-lifetime-hard") d)) _ l h in
    let b = bind_ok (soft_of (get (codes "sa-lifetime-soft") d)) _ l a.2 in
    let c = bind_ok (unset_in (codes "seq-overflow") d) _ l b.2 in
    subst (λ (x : Lifetimes). AreLifetimes x d) (ok_is _ l c.2) (record {
      hard = limits_of_ok (codes "sa-lifetime-hard") a.0 (get (codes "sa-lifetime-hard") d) a.1;
      soft = soft_of_ok b.0 (get (codes "sa-lifetime-soft") d) b.1;
      overflow = unset_in_ok (codes "seq-overflow") d c.0 c.1;
    })

lifetimes_back : (l : Lifetimes) (d : Data) → AreLifetimes l d → lifetimes_in d ≡ Ok l
unfolding lifetimes_in
lifetimes_back l d h =
    rw (
      limits_of_back (codes "sa-lifetime-hard") l.hard (get (codes "sa-lifetime-hard") d) h.hard,
      soft_of_back l.soft (get (codes "sa-lifetime-soft") d) h.soft,
      unset_in_of (codes "seq-overflow") d h.overflow,
    ) refl

record AreEnds (t : TunnelEnds) (d : Data) : Type 0 where
  members : HasOnly (codes "df-bit" ∷ codes "local" ∷ codes "remote" ∷ []) d
  df : Optional (IsWord (df_text t.df)) (t.df ≡ bits.Copy) (get (codes "df-bit") d)
  local : Needed (IsAddressText t.local) (get (codes "local") d)
  remote : Needed (IsAddressText t.remote) (get (codes "remote") d)

ends_ok : (t : TunnelEnds) (d : Data) → tunnel_in d ≡ Ok t → AreEnds t d
unfolding tunnel_in tunnel_shape
ends_ok t d h =
    let a = bind_ok (tunnel_shape d) _ t h in
    let b = bind_ok (df_in d) _ t a.2 in
    let c = bind_ok (address_in (codes "local") d) _ t b.2 in
    let e = bind_ok (address_in (codes "remote") d) _ t c.2 in
    subst (λ (x : TunnelEnds). AreEnds x d) (ok_is _ t e.2) (record {
      members = shape_ok _ _ d a.0 a.1;
      df = df_ok b.0 (get (codes "df-bit") d) (member_ok (codes "df-bit") _ b.0 b.1);
      local = address_ok c.0 (get (codes "local") d) (member_ok (codes "local") _ c.0 c.1);
      remote = address_ok e.0 (get (codes "remote") d) (member_ok (codes "remote") _ e.0 e.1);
    })

ends_back : (t : TunnelEnds) (d : Data) → AreEnds t d → tunnel_in d ≡ Ok t
unfolding tunnel_in tunnel_shape
ends_back t d h =
    let needs = codes "local" ∷ codes "remote" ∷ [] in
    let lacking : list_any (lacks d) needs ≡ false = rw (there _ _ h.local, there _ _ h.remote) refl in
    rw (
      shape_of _ needs d h.members lacking,
      df_back t.df (get (codes "df-bit") d) h.df,
      address_back t.local (get (codes "local") d) h.local,
      address_back t.remote (get (codes "remote") d) h.remote,
    ) refl

abbrev ends_of : SadEntry → TunnelEnds
ends_of e = record { df = e.df; local = e.local; remote = e.remote }

tunnel_ok : (e : SadEntry) (t : TunnelEnds) (leaf : Option Data) → tunnel_of leaf ≡ Ok t → t ≡ ends_of e → Needed (IsTunnel e) leaf
tunnel_ok e t None h is = absurd (let no : ⊥ = cc in no)
tunnel_ok e t (Some d) h is =
    let ends = subst (λ (x : TunnelEnds). AreEnds x d) is (ends_ok t d (within_ok (codes "tunnel") (tunnel_in d) t h)) in
    record { members = ends.members; df = ends.df; local = ends.local; remote = ends.remote }

tunnel_back : (e : SadEntry) (leaf : Option Data) → Needed (IsTunnel e) leaf → tunnel_of leaf ≡ Ok (ends_of e)
tunnel_back e None h = absurd h
tunnel_back e (Some d) h =
    within_of (codes "tunnel") (tunnel_in d) (ends_of e)
    (ends_back (ends_of e) d (record { members = h.members; df = h.df; local = h.local; remote = h.remote }))

abbrev config_from : SadEntry → HalfConfig
config_from e = record {
  sealing = record { window = e.window; key = e.key };
  lifetimes = record { hard = e.hard; soft = e.soft };
  traffic = record { spi = e.spi; selector = e.selector; tunnel = ends_of e };
}

config_ok : (e : SadEntry) (x : HalfConfig) (d : Data) → config_in d ≡ Ok x → x ≡ config_from e → IsHalfConfig e d
unfolding config_in config_shape traffic_in
config_ok e x d h is =
    let a = bind_ok (config_shape d) _ x h in
    let b = bind_ok (sealing_in d) _ x a.2 in
    let c = bind_ok (lifetimes_in d) _ x b.2 in
    let f = bind_ok (traffic_in d) _ x c.2 in
    let g = bind_ok (spi_in d) _ f.0 f.1 in
    let i = bind_ok (selector_of (get (codes "traffic-selector") d)) _ f.0 g.2 in
    let j = bind_ok (tunnel_of (get (codes "tunnel") d)) _ f.0 i.2 in
    let made : (let r : HalfConfig = record { sealing = b.0; lifetimes = c.0; traffic = f.0 } in r) ≡ config_from e = ok_is _ x f.2 ∙ is in
    let traffic : (let r : Traffic = record { spi = g.0; selector = i.0; tunnel = j.0 } in r) ≡ (config_from e).traffic = ok_is _ f.0 j.2
    ∙ ap (λ (r : HalfConfig). r.traffic) made in
    let sealing = subst (λ (s : Sealing). IsSealing s d) (ap (λ (r : HalfConfig). r.sealing) made) (sealing_ok b.0 d b.1) in
    let lifetimes = subst (λ (s : Lifetimes). AreLifetimes s d) (ap (λ (r : HalfConfig). r.lifetimes) made) (lifetimes_ok c.0 d c.1) in
    record {
      members = shape_ok config_names _ d a.0 a.1;
      window = sealing.window;
      key = sealing.key;
      extended = sealing.extended;
      mode = sealing.mode;
      protocol = sealing.protocol;
      hard = lifetimes.hard;
      soft = lifetimes.soft;
      overflow = lifetimes.overflow;
      spi = needed_number_ok 256 (2 ^ 32 - 1) e.spi (get (codes "spi") d) (member_ok (codes "spi") _ g.0 g.1
          ∙ ap (λ (r : Traffic). Ok r.spi) traffic);
      selector = selector_of_ok e.selector (get (codes "traffic-selector") d) (i.1 ∙ ap (λ (r : Traffic). Ok r.selector) traffic);
      tunnel = tunnel_ok e j.0 (get (codes "tunnel") d) j.1 (ap (λ (r : Traffic). r.tunnel) traffic);
    }

traffic_back : (e : SadEntry) (d : Data) → IsHalfConfig e d → traffic_in d ≡ Ok (config_from e).traffic
unfolding traffic_in
traffic_back e d h =
    rw (
      needed_number_of 256 (2 ^ 32 - 1) e.spi (get (codes "spi") d) h.spi,
      selector_of_back e.selector (get (codes "traffic-selector") d) h.selector,
      tunnel_back e (get (codes "tunnel") d) h.tunnel,
    ) refl

config_back : (e : SadEntry) (d : Data) → IsHalfConfig e d → config_in d ≡ Ok (config_from e)
unfolding config_in config_shape
config_back e d h =
    let needs = codes "esp-sa" ∷ codes "spi" ∷ codes "traffic-selector" ∷ codes "tunnel" ∷ [] in
    let lacking : list_any (lacks d) needs ≡ false = rw (there _ _ h.key, there _ _ h.spi, there _ _ h.selector, there _ _ h.tunnel) refl in
    let sealing = sealing_back (config_from e).sealing d (record {
      window = h.window;
      key = h.key;
      extended = h.extended;
      mode = h.mode;
      protocol = h.protocol;
    }) in
    let lifetimes = lifetimes_back (config_from e).lifetimes d (record { hard = h.hard; soft = h.soft; overflow = h.overflow }) in
    rw (shape_of config_names needs d h.members lacking, sealing, lifetimes, traffic_back e d h) refl

config_of_ok : (e : SadEntry) (x : HalfConfig) (leaf : Option Data) → config_of leaf ≡ Ok x → x ≡ config_from e
    → Needed (IsHalfConfig e) leaf
config_of_ok e x None h is = absurd (let no : ⊥ = cc in no)
config_of_ok e x (Some d) h is = config_ok e x d (within_ok (codes "ipsec-sa-config") (config_in d) x h) is

config_of_back : (e : SadEntry) (leaf : Option Data) → Needed (IsHalfConfig e) leaf → config_of leaf ≡ Ok (config_from e)
config_of_back e None h = absurd h
config_of_back e (Some d) h = within_of (codes "ipsec-sa-config") (config_in d) _ (config_back e d h)

sad_entry_ok : (e : SadEntry) (d : Data) → sad_entry_in d ≡ Ok e → IsSadEntry e d
unfolding sad_entry_in sad_entry_shape
sad_entry_ok e d h =
    let a = bind_ok (sad_entry_shape d) _ e h in
    let b = bind_ok (config_of (get (codes "ipsec-sa-config") d)) _ e a.2 in
    let c = bind_ok (name_in (codes "name") is_sad_name d) _ e b.2 in
    let f = bind_ok (reqid_in d) _ e c.2 in
    let q = half_of b.0 c.0 f.0 in
    subst (λ (x : SadEntry). IsSadEntry x d) (ok_is q e f.2) (record {
      members = shape_ok _ _ d a.0 a.1;
      config = config_of_ok q b.0 (get (codes "ipsec-sa-config") d) b.1 refl;
      name = name_ok is_sad_name c.0 (get (codes "name") d) (member_ok (codes "name") _ c.0 c.1);
      reqid = wide_or_ok f.0 (get (codes "reqid") d) (member_ok (codes "reqid") _ f.0 f.1);
    })

sad_entry_back : (e : SadEntry) (d : Data) → IsSadEntry e d → sad_entry_in d ≡ Ok e
unfolding sad_entry_in sad_entry_shape
sad_entry_back e d h =
    let needs = codes "ipsec-sa-config" ∷ codes "name" ∷ [] in
    let lacking : list_any (lacks d) needs ≡ false = rw (there _ _ h.config, there _ _ h.name) refl in
    rw (
      shape_of _ needs d h.members lacking,
      config_of_back e (get (codes "ipsec-sa-config") d) h.config,
      name_of is_sad_name e.name (get (codes "name") d) h.name,
      wide_or_of e.reqid (get (codes "reqid") d) h.reqid,
    ) refl

pub one_sad_ok : (e : SadEntry) (d : Data) → one_sad_entry_in d ≡ Ok e → IsOneSadEntry e d × (sad_fault e ≡ None)
unfolding one_sad_entry_in one_half
one_sad_ok e d h =
    let a = bind_ok (one_half d) _ e h in
    let b = checked_ok a.0 e (sad_fault a.0) a.2 in
    subst (λ (x : SadEntry). IsOneSadEntry x d × (sad_fault x ≡ None)) b.0 (
      only_ok (codes "ietf-i2nsf-ikeless:sad-entry") _ _ a.0 d (λ l k. one_ok sad_entry_in (IsSadEntry a.0) a.0
          (λ i m. sad_entry_ok a.0 i m)
          l k) a.1,
      b.1,
    )

pub one_sad_back : (e : SadEntry) (d : Data) → IsOneSadEntry e d → sad_fault e ≡ None → one_sad_entry_in d ≡ Ok e
unfolding one_sad_entry_in one_half
one_sad_back e d h none =
    let one : one_half d ≡ Ok e = only_of (codes "ietf-i2nsf-ikeless:sad-entry") _ _ e d
    (λ l k. one_of sad_entry_in (IsSadEntry e) e (λ i m. sad_entry_back e i m) l k) h in
    rw (one, none) refl
