-- Notifications that are read, and what they are.
use Rattle.std.proofs.Common.{◌≡◌, ℕ, ◌-◌, ◌^◌, Bool, true, false, List, [], ◌∷◌, codes, is_none, Option, Some, None, Result, Ok, Err, refl, sym, ap, subst, ◌∙◌, if◌then◌else◌}
use Rattle.std.specs.Bool.{⊤}
use Rattle.std.specs.List.{list_any}
use Rattle.std.proofs.lemmas.Bool.{or_parts}
use Rattle.serde_json.specs.Data.{Data, null, boolean, number, string, array, object}
use Rattle.serde_json.specs.Find.{get}
use Rattle.ikeless_tree.specs.declared.entry.Selector.{Selector}
use Rattle.ikeless_tree.specs.declared.sad.Limits.{Limits}
use Rattle.ikeless_tree.specs.declared.order.Notice.{Notice}
use Rattle.ikeless_tree.specs.declared.order.Notice.TheVariants as notices
use Rattle.ikeless_tree.specs.Check.{is_spd_name, is_sad_name, has_empty_range, has_many_ranges}
use Rattle.json_values.specs.declared.fault.Kind.{Kind}
use Rattle.json_values.specs.declared.fault.Kind.TheVariants as kinds
use Rattle.json_values.specs.declared.fault.Fault.{Fault}
use Rattle.json_values.specs.Faults.{◌>>=◌, within, at_member}
use Rattle.json_values.specs.Shapes.{shape, lacks, only_in}
use Rattle.json_values.specs.Leaves.{needed_text, needed_number, name_in}
use Rattle.json_values.specs.Members.{limits_names, counts_shape}
use Rattle.json_values.specs.Json.{HasOnly, Needed, HasLimits}
use Rattle.json_values.proofs.LeafLaws.{ok_is, bind_ok, within_ok, within_of, member_ok, member_of, text_ok, needed_number_ok, needed_number_of, name_ok, name_of}
use Rattle.json_values.proofs.ShapeLaws.{shape_ok, shape_of, shape_needs, needed_from, optional_from, absent, there, only_ok, only_of}
use Rattle.json_tree.specs.SelectorRead.{selector_of, limits_from, counts_in}
use Rattle.json_tree.proofs.PolicyLaws.{selector_of_ok, selector_of_back}
use Rattle.json_tree.proofs.HalfLaws.{limits_ok, limits_back}
use Rattle.notice_lines.specs.Envelope.{acquire_name, expire_name, overflow_name, bad_spi_name, event_name, IsWhole, needed_truth, whole, acquire_shape, acquire_in, expire_shape, counts_of, expire_in, overflow_shape, overflow_in, bad_spi_shape, bad_spi_in, time_shape, event_shape, acquire_else, expire_else, overflow_else, bad_spi_else, envelope_in, notice_in}
use Rattle.notice_lines.specs.Notifications.{IsCounts, IsAcquire, IsTruth, IsExpiry, IsEvent, IsText, IsEnvelope, IsNotification}

-- ---- counts

counts_ok : (l : Limits) (d : Data) → counts_in d ≡ Ok l → IsCounts l d
unfolding counts_in counts_shape
counts_ok l d h =
    let a = bind_ok (counts_shape d) (λ done. limits_from d) l h in
    let needs : list_any (lacks d) limits_names ≡ false = shape_needs limits_names limits_names d a.0 a.1 in
    let bytes = or_parts (is_none (get (codes "bytes") d)) (list_any (lacks d) (codes "idle" ∷ codes "packets" ∷ codes "time" ∷ [])) needs
    in
    let idle = or_parts (is_none (get (codes "idle") d)) (list_any (lacks d) (codes "packets" ∷ codes "time" ∷ [])) bytes.1 in
    let packets = or_parts (is_none (get (codes "packets") d)) (list_any (lacks d) (codes "time" ∷ [])) idle.1 in
    let time = or_parts (is_none (get (codes "time") d)) false packets.1 in
    let has = limits_ok l d a.2 in
    record {
      members = shape_ok limits_names limits_names d a.0 a.1;
      bytes = needed_from _ _ (get (codes "bytes") d) bytes.0 has.bytes;
      idle = needed_from _ _ (get (codes "idle") d) idle.0 has.idle;
      packets = needed_from _ _ (get (codes "packets") d) packets.0 has.packets;
      time = needed_from _ _ (get (codes "time") d) time.0 has.time;
    }

counts_back : (l : Limits) (d : Data) → IsCounts l d → counts_in d ≡ Ok l
unfolding counts_in counts_shape
counts_back l d h =
    let lacking : list_any (lacks d) limits_names ≡ false = rw (there _ _ h.bytes, there _ _ h.idle, there _ _ h.packets, there _ _ h.time)
    refl in
    let has : HasLimits l d = record {
      bytes = optional_from _ _ (get (codes "bytes") d) h.bytes;
      idle = optional_from _ _ (get (codes "idle") d) h.idle;
      packets = optional_from _ _ (get (codes "packets") d) h.packets;
      time = optional_from _ _ (get (codes "time") d) h.time;
    } in
    rw (shape_of limits_names limits_names d h.members lacking) (limits_back l d has)

counts_of_ok : (l : Limits) (leaf : Option Data) → counts_of leaf ≡ Ok l → Needed (IsCounts l) leaf
counts_of_ok l None h = absurd (let no : ⊥ = cc in no)
counts_of_ok l (Some d) h = counts_ok l d (within_ok (codes "lifetime-current") (counts_in d) l h)

counts_of_back : (l : Limits) (leaf : Option Data) → Needed (IsCounts l) leaf → counts_of leaf ≡ Ok l
counts_of_back l None h = absurd h
counts_of_back l (Some d) h = within_of (codes "lifetime-current") (counts_in d) l (counts_back l d h)

-- ---- leaves

truth_ok : (b : Bool) (leaf : Option Data) → needed_truth leaf ≡ Ok b → Needed (IsTruth b) leaf
truth_ok b None h = absurd (let no : ⊥ = cc in no)
truth_ok b (Some null) h = absurd (let no : ⊥ = cc in no)
truth_ok b (Some (boolean c)) h = ap boolean (ok_is c b h)
truth_ok b (Some (number n)) h = absurd (let no : ⊥ = cc in no)
truth_ok b (Some (string s)) h = absurd (let no : ⊥ = cc in no)
truth_ok b (Some (array ds)) h = absurd (let no : ⊥ = cc in no)
truth_ok b (Some (object ms)) h = absurd (let no : ⊥ = cc in no)

truth_back : (b : Bool) (leaf : Option Data) → Needed (IsTruth b) leaf → needed_truth leaf ≡ Ok b
truth_back b None h = absurd h
truth_back b (Some d) h = rw h refl

stamp_ok : (leaf : Option Data) (t : List ℕ) → needed_text leaf ≡ Ok t → Needed IsText leaf
stamp_ok None t h = absurd (let no : ⊥ = cc in no)
stamp_ok (Some d) t h = (t, text_ok d t h)

time_ok : (d : Data) (u : ⊤) → time_shape d ≡ Ok u → Needed IsText (get (codes "eventTime") d)
time_ok d u h =
    let leaf = get (codes "eventTime") d in
    let a = bind_ok (needed_text leaf) (λ stamp. Ok tt) u (member_ok (codes "eventTime") _ u h) in
    stamp_ok leaf a.0 a.1

stamp_back : (leaf : Option Data) → Needed IsText leaf → (let r : Result ⊤ Kind = needed_text leaf >>= (λ stamp. Ok tt) in r) ≡ Ok tt
stamp_back None h = absurd h
stamp_back (Some d) h = rw h.1 refl

time_back : (d : Data) → Needed IsText (get (codes "eventTime") d) → time_shape d ≡ Ok tt
time_back d h = member_of (codes "eventTime") _ tt (stamp_back (get (codes "eventTime") d) h)

whole_by : (p q : Bool) (s t : Selector) → has_empty_range s ≡ p → has_many_ranges s ≡ q →
    (let r : Result Selector Fault = if p then at_member (codes "traffic-selector") (Err kinds.Range) else if q
    then at_member (codes "traffic-selector") (Err kinds.Unsupported) else Ok s in r) ≡ Ok t → (s ≡ t) × IsWhole s
whole_by true q s t e f h = absurd (let no : ⊥ = cc in no)
whole_by false true s t e f h = absurd (let no : ⊥ = cc in no)
whole_by false false s t e f h = (ok_is s t h, (e, f))

whole_back : (s : Selector) → IsWhole s → whole s ≡ Ok s
whole_back s h = rw (h.0, h.1) refl

-- ---- events

abbrev IsEventOf : List ℕ → Data → Notice → Type 0
IsEventOf name d n = (event_name n ≡ name) × IsEvent n d

acquire_ok : (n : Notice) (d : Data) → acquire_in d ≡ Ok n → IsEventOf acquire_name d n
unfolding acquire_in acquire_shape
acquire_ok n d h =
    let a = bind_ok (acquire_shape d) _ n h in
    let b = bind_ok (name_in (codes "ipsec-policy-name") is_spd_name d) _ n a.2 in
    let c = bind_ok (selector_of (get (codes "traffic-selector") d)) _ n b.2 in
    let e = bind_ok (whole c.0) _ n c.2 in
    let w = whole_by (has_empty_range c.0) (has_many_ranges c.0) c.0 e.0 refl refl e.1 in
    subst (IsEventOf acquire_name d) (ap (notices.Acquire b.0) w.0 ∙ ok_is _ n e.2) (
      refl,
      record {
        members = shape_ok _ _ d a.0 a.1;
        policy = name_ok is_spd_name b.0 (get (codes "ipsec-policy-name") d) (member_ok (codes "ipsec-policy-name") _ b.0 b.1);
        selector = selector_of_ok c.0 (get (codes "traffic-selector") d) c.1;
        whole = w.1;
      },
    )

acquire_back : (policy : List ℕ) (s : Selector) (d : Data) → IsAcquire policy s d → acquire_in d ≡ Ok (notices.Acquire policy s)
unfolding acquire_in acquire_shape
acquire_back policy s d h =
    let needs = codes "ipsec-policy-name" ∷ codes "traffic-selector" ∷ [] in
    let lacking : list_any (lacks d) needs ≡ false = rw (there _ _ h.policy, there _ _ h.selector) refl in
    rw (
      shape_of needs needs d h.members lacking,
      name_of is_spd_name policy (get (codes "ipsec-policy-name") d) h.policy,
      selector_of_back s (get (codes "traffic-selector") d) h.selector,
      whole_back s h.whole,
    ) refl

expire_ok : (n : Notice) (d : Data) → expire_in d ≡ Ok n → IsEventOf expire_name d n
unfolding expire_in expire_shape
expire_ok n d h =
    let a = bind_ok (expire_shape d) _ n h in
    let b = bind_ok (name_in (codes "ipsec-sa-name") is_sad_name d) _ n a.2 in
    let c = bind_ok (counts_of (get (codes "lifetime-current") d)) _ n b.2 in
    let e = bind_ok (at_member (codes "soft-lifetime-expire") (needed_truth (get (codes "soft-lifetime-expire") d))) _ n c.2 in
    subst (IsEventOf expire_name d) (ok_is _ n e.2) (
      refl,
      record {
        members = shape_ok _ _ d a.0 a.1;
        name = name_ok is_sad_name b.0 (get (codes "ipsec-sa-name") d) (member_ok (codes "ipsec-sa-name") _ b.0 b.1);
        current = counts_of_ok c.0 (get (codes "lifetime-current") d) c.1;
        soft = truth_ok e.0 (get (codes "soft-lifetime-expire") d) (member_ok (codes "soft-lifetime-expire") _ e.0 e.1);
      },
    )

expire_back : (name : List ℕ) (soft : Bool) (l : Limits) (d : Data) → IsExpiry name soft l d → expire_in d ≡ Ok (notices.Expire name soft l)
unfolding expire_in expire_shape
expire_back name soft l d h =
    let needs = codes "ipsec-sa-name" ∷ codes "lifetime-current" ∷ codes "soft-lifetime-expire" ∷ [] in
    let lacking : list_any (lacks d) needs ≡ false = rw (there _ _ h.name, there _ _ h.current, there _ _ h.soft) refl in
    rw (
      shape_of needs needs d h.members lacking,
      name_of is_sad_name name (get (codes "ipsec-sa-name") d) h.name,
      counts_of_back l (get (codes "lifetime-current") d) h.current,
      truth_back soft (get (codes "soft-lifetime-expire") d) h.soft,
    ) refl

overflow_ok : (n : Notice) (d : Data) → overflow_in d ≡ Ok n → IsEventOf overflow_name d n
unfolding overflow_in overflow_shape
overflow_ok n d h =
    let a = bind_ok (overflow_shape d) _ n h in
    let b = bind_ok (name_in (codes "ipsec-sa-name") is_sad_name d) _ n a.2 in
    subst (IsEventOf overflow_name d) (ok_is _ n b.2) (
      refl,
      (
        shape_ok _ _ d a.0 a.1,
        name_ok is_sad_name b.0 (get (codes "ipsec-sa-name") d) (member_ok (codes "ipsec-sa-name") _ b.0 b.1),
      ),
    )

overflow_back : (name : List ℕ) (d : Data) → IsEvent (notices.SeqOverflow name) d → overflow_in d ≡ Ok (notices.SeqOverflow name)
unfolding overflow_in overflow_shape
overflow_back name d h =
    let needs = codes "ipsec-sa-name" ∷ [] in
    let lacking : list_any (lacks d) needs ≡ false = rw (there _ _ h.1) refl in
    rw (shape_of needs needs d h.0 lacking, name_of is_sad_name name (get (codes "ipsec-sa-name") d) h.1) refl

bad_spi_ok : (n : Notice) (d : Data) → bad_spi_in d ≡ Ok n → IsEventOf bad_spi_name d n
unfolding bad_spi_in bad_spi_shape
bad_spi_ok n d h =
    let a = bind_ok (bad_spi_shape d) _ n h in
    let b = bind_ok (at_member (codes "spi") (needed_number 0 (2 ^ 32 - 1) (get (codes "spi") d))) _ n a.2 in
    subst (IsEventOf bad_spi_name d) (ok_is _ n b.2) (
      refl,
      (
        shape_ok _ _ d a.0 a.1,
        needed_number_ok 0 (2 ^ 32 - 1) b.0 (get (codes "spi") d) (member_ok (codes "spi") _ b.0 b.1),
      ),
    )

bad_spi_back : (spi : ℕ) (d : Data) → IsEvent (notices.BadSpi spi) d → bad_spi_in d ≡ Ok (notices.BadSpi spi)
unfolding bad_spi_in bad_spi_shape
bad_spi_back spi d h =
    let needs = codes "spi" ∷ [] in
    let lacking : list_any (lacks d) needs ≡ false = rw (there _ _ h.1) refl in
    rw (shape_of needs needs d h.0 lacking, needed_number_of 0 (2 ^ 32 - 1) spi (get (codes "spi") d) h.1) refl

-- ---- envelopes

event_ok : (name : List ℕ) (f : Data → Result Notice Fault) (n : Notice) (d event : Data)
    → ((m : Notice) (e : Data) → f e ≡ Ok m → IsEventOf name e m) → get name d ≡ Some event →
    (event_shape name d >>= (λ done. f event)) ≡ Ok n → IsEnvelope n d
unfolding event_shape
event_ok name f n d event step is h =
    let names = codes "eventTime" ∷ name ∷ [] in
    let a = bind_ok (event_shape name d) (λ done. f event) n h in
    let b = bind_ok (shape names names d) (λ done. time_shape d) a.0 a.1 in
    let e = step n event a.2 in
    record {
      members = subst (λ (x : List ℕ). HasOnly (codes "eventTime" ∷ x ∷ []) d) (sym e.0) (shape_ok names names d b.0 b.1);
      time = time_ok d a.0 b.2;
      event = subst (λ (x : List ℕ). Needed (IsEvent n) (get x d)) (sym e.0) (subst (Needed (IsEvent n)) (sym is) e.1);
    }

bad_spi_else_ok : (n : Notice) (d : Data) (leaf : Option Data) → get bad_spi_name d ≡ leaf → bad_spi_else leaf d ≡ Ok n → IsEnvelope n d
bad_spi_else_ok n d None is h = absurd (let no : ⊥ = cc in no)
bad_spi_else_ok n d (Some event) is h = event_ok bad_spi_name bad_spi_in n d event bad_spi_ok is h

overflow_else_ok : (n : Notice) (d : Data) (leaf : Option Data) → get overflow_name d ≡ leaf → overflow_else leaf d ≡ Ok n → IsEnvelope n d
overflow_else_ok n d None is h = bad_spi_else_ok n d (get bad_spi_name d) refl h
overflow_else_ok n d (Some event) is h = event_ok overflow_name overflow_in n d event overflow_ok is h

expire_else_ok : (n : Notice) (d : Data) (leaf : Option Data) → get expire_name d ≡ leaf → expire_else leaf d ≡ Ok n → IsEnvelope n d
expire_else_ok n d None is h = overflow_else_ok n d (get overflow_name d) refl h
expire_else_ok n d (Some event) is h = event_ok expire_name expire_in n d event expire_ok is h

acquire_else_ok : (n : Notice) (d : Data) (leaf : Option Data) → get acquire_name d ≡ leaf → acquire_else leaf d ≡ Ok n → IsEnvelope n d
acquire_else_ok n d None is h = expire_else_ok n d (get expire_name d) refl h
acquire_else_ok n d (Some event) is h = event_ok acquire_name acquire_in n d event acquire_ok is h

envelope_ok : (n : Notice) (d : Data) → envelope_in d ≡ Ok n → IsEnvelope n d
unfolding envelope_in
envelope_ok n d h = acquire_else_ok n d (get acquire_name d) refl h

-- the event of this name, where it is the only one
event_back : (name : List ℕ) (P : Data → Type 0) (f : Data → Result Notice Fault) (n : Notice) (d : Data) (leaf : Option Data)
    → ((e : Data) → P e → f e ≡ Ok n) → get name d ≡ leaf →
    HasOnly (codes "eventTime" ∷ name ∷ []) d → Needed IsText (get (codes "eventTime") d) → Needed P leaf → (event : Data)
    × (get name d ≡ Some event) × ((event_shape name d >>= (λ done. f event)) ≡ Ok n)
unfolding event_shape
event_back name P f n d None step is members time h = absurd h
event_back name P f n d (Some event) step is members time h =
    let names = codes "eventTime" ∷ name ∷ [] in
    let lacking : list_any (lacks d) names ≡ false = rw (there IsText (get (codes "eventTime") d) time, is) refl in
    (event, is, rw (shape_of names names d members lacking, time_back d time) (step event h))

envelope_back : (n : Notice) (d : Data) → IsEnvelope n d → envelope_in d ≡ Ok n
unfolding envelope_in
envelope_back (notices.Acquire policy s) d h =
    let found = event_back acquire_name (IsAcquire policy s) acquire_in (notices.Acquire policy s) d (get acquire_name d)
    (acquire_back policy s) refl h.members h.time h.event in
    rw found.1 found.2
envelope_back (notices.Expire name soft l) d h =
    let found = event_back expire_name (IsExpiry name soft l) expire_in (notices.Expire name soft l) d (get expire_name d)
    (expire_back name soft l) refl h.members h.time h.event in
    rw (absent (codes "eventTime" ∷ expire_name ∷ []) acquire_name d refl h.members, found.1) found.2
envelope_back (notices.SeqOverflow name) d h =
    let found = event_back overflow_name (IsEvent (notices.SeqOverflow name)) overflow_in (notices.SeqOverflow name) d (get overflow_name d)
    (overflow_back name) refl h.members h.time h.event in
    let names = codes "eventTime" ∷ overflow_name ∷ [] in
    rw (absent names acquire_name d refl h.members, absent names expire_name d refl h.members, found.1) found.2
envelope_back (notices.BadSpi spi) d h =
    let found = event_back bad_spi_name (IsEvent (notices.BadSpi spi)) bad_spi_in (notices.BadSpi spi) d (get bad_spi_name d)
    (bad_spi_back spi) refl h.members h.time h.event in
    let names = codes "eventTime" ∷ bad_spi_name ∷ [] in
    rw (
      absent names acquire_name d refl h.members,
      absent names expire_name d refl h.members,
      absent names overflow_name d refl h.members,
      found.1,
    ) found.2

-- ---- notifications

abbrev outer : List ℕ
outer = codes "ietf-restconf:notification"

pub notice_ok : (n : Notice) (d : Data) → notice_in d ≡ Ok n → IsNotification n d
unfolding notice_in
notice_ok n d h =
    let a = bind_ok (only_in outer d) envelope_in n h in
    only_ok outer envelope_in (IsEnvelope n) n d (λ e k. envelope_ok n e k) (rw (a.1, a.2) refl)

pub notice_back : (n : Notice) (d : Data) → IsNotification n d → notice_in d ≡ Ok n
unfolding notice_in
notice_back n d h =
    let a = bind_ok (only_in outer d) (λ e. within outer (envelope_in e)) n
    (only_of outer envelope_in (IsEnvelope n) n d (λ e k. envelope_back n e k) h) in
    rw a.1 (within_ok outer (envelope_in a.0) n a.2)
