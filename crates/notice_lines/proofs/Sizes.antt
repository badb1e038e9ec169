-- The line of a notice has no LF before its end, and is short.
use Rattle.std.proofs.Common.{◌≡◌, ◌+◌, ◌*◌, ◌^◌, ◌<◌, ◌≤◌, nat_le, nat_lt, ◌&&◌, ℕ, Bool, true, false, List, [], ◌∷◌, codes, length, take, drop, ◌||◌, inl, inr, Option, Some, None, refl, arith}
use Rattle.std.specs.List.{All, AllByRecursion, list_all}
use Rattle.std.specs.Fmt.{decimal}
use Rattle.std.specs.Str.{bytes_eq}
use Rattle.std.proofs.lemmas.Bool.{and_parts, or_cases}
use Rattle.std.proofs.lemmas.Fmt.{length-decimal-le}
use Rattle.std.proofs.lemmas.List.{length-drop}
use Rattle.std.proofs.lemmas.List.Elements.{recursion_from_All}
use Rattle.std.proofs.lemmas.Bool.Decides.{nat_tests}
use Rattle.serde_json.specs.Data.{Data, Members, boolean, string, array, no_members}
use Rattle.serde_json.specs.Written.{compact_text}
use Rattle.ikl_base.specs.declared.address.Prefix.{Prefix}
use Rattle.ikeless_tree.specs.declared.entry.Range.{Range}
use Rattle.ikeless_tree.specs.declared.entry.Selector.{Selector}
use Rattle.ikeless_tree.specs.declared.sad.Limits.{Limits}
use Rattle.ikeless_tree.specs.declared.order.Notice.{Notice}
use Rattle.ikeless_tree.specs.declared.order.Notice.TheVariants as notices
use Rattle.ikeless_tree.specs.Check.{is_spd_name, is_sad_name, is_serial, has_front, is_path_octet, is_word_octet, has_many_ranges}
use Rattle.ikeless_tree.specs.Typed.{IsTypedRange, IsTypedProtocol, IsTypedSelector, IsTypedLimits, IsTypedNotice}
use Rattle.yang_values.specs.Addresses.{IsAddress}
use Rattle.yang_values.specs.Prefixes.{prefix_text}
use Rattle.json_values.specs.Written.{count, wide, with_ports, range_data, range_items, proto_data, selector_data}
use Rattle.json_tree.specs.SadEntryWritten.{counts_data}
use Rattle.notice_lines.specs.Envelope.{acquire_data, expire_data, overflow_data, bad_spi_data, event_name, event_data, envelope_data, notice_data, IsNotice}
use Rattle.json_tree.proofs.Writable.{write_selector, write_counts}
use Rattle.notice_lines.proofs.Narrow.{narrow_of}
use Rattle.notice_lines.proofs.Text.{IsPlain, plain_put, plain_none, plain_object, plain_string, plain_boolean, plain_number, IsSized, AreSized, AreSizedItems, sized_put, sized_none, sized_object, sized_array, sized_item, sized_no_items, sized_string, sized_number, sized_boolean, sized_more}

same : (n : ℕ) → n ≤ n
same n = omega arith

-- ---- numbers

plain_selector : (s : Selector) → IsTypedSelector s → IsPlain (selector_data s)
plain_selector s h = record { is = narrow_of (selector_data s) (write_selector s h) }

plain_count : (n : ℕ) → n < 2 ^ 32 → IsPlain (count n)
plain_count n h = plain_number n (omega arith)

plain_counts : (l : Limits) → IsTypedLimits l → IsPlain (counts_data l)
plain_counts l h = record { is = narrow_of (counts_data l) (write_counts l h) }

plain_acquire : (policy : List ℕ) (s : Selector) → IsTypedSelector s → IsPlain (acquire_data policy s)
unfolding acquire_data
plain_acquire policy s h =
    plain_object _ (plain_put (codes "ipsec-policy-name") (string policy) _ (plain_string policy)
    (plain_put (codes "traffic-selector") (selector_data s) _ (plain_selector s h) plain_none))

plain_expire : (name : List ℕ) (soft : Bool) (l : Limits) → IsTypedLimits l → IsPlain (expire_data name soft l)
unfolding expire_data
plain_expire name soft l h =
    plain_object _ (plain_put (codes "ipsec-sa-name") (string name) _ (plain_string name)
    (plain_put (codes "lifetime-current") (counts_data l) _ (plain_counts l h)
    (plain_put (codes "soft-lifetime-expire") (boolean soft) _ (plain_boolean soft) plain_none)))

plain_event : (n : Notice) → IsTypedNotice n → IsPlain (event_data n)
plain_event (notices.Acquire policy s) h = plain_acquire policy s h
plain_event (notices.Expire name soft l) h = plain_expire name soft l h
plain_event (notices.SeqOverflow name) h = plain_object _ (plain_put (codes "ipsec-sa-name") (string name) _ (plain_string name) plain_none)
plain_event (notices.BadSpi spi) h = plain_object _ (plain_put (codes "spi") (count spi) _ (plain_count spi h) plain_none)

plain_envelope : (stamp name : List ℕ) (event : Data) → IsPlain event → IsPlain (envelope_data stamp name event)
unfolding envelope_data
plain_envelope stamp name event h =
    plain_object _ (plain_put (codes "eventTime") (string stamp) _ (plain_string stamp) (plain_put name event _ h plain_none))

pub plain_notice : (n : Notice) (stamp : List ℕ) → IsTypedNotice n → IsPlain (notice_data n stamp)
plain_notice n stamp h =
    plain_object _ (plain_put (codes "ietf-restconf:notification") (envelope_data stamp (event_name n) (event_data n)) _
    (plain_envelope stamp (event_name n) (event_data n) (plain_event n h)) plain_none)

-- ---- lengths

abbrev pub ShortPrefixes : Type 0
ShortPrefixes = (p : Prefix) → IsAddress p.addr → length (prefix_text p) ≤ 46

sized_port : (n : ℕ) → n < 2 ^ 16 → IsSized 5 (count n)
sized_port n h = sized_number 5 n (omega arith) (omega arith) (omega arith)

sized_count : (n : ℕ) → n < 2 ^ 32 → IsSized 10 (count n)
sized_count n h = sized_number 10 n (omega arith) (omega arith) (omega arith)

sized_range : (r : Range) → r.start < 2 ^ 16 → r.end < 2 ^ 16 → IsSized 68 (range_data r)
sized_range r p q =
    sized_object 67 _ (sized_put 40 5 3 (codes "end") (count r.end) _ (same 3) (sized_port r.end q)
    (sized_put 1 5 5 (codes "start") (count r.start) no_members (same 5) (sized_port r.start p) sized_none))

sized_ranges : (rs : List Range) → AllByRecursion IsTypedRange rs → AreSizedItems (69 * length rs + 1) (range_items rs)
sized_ranges [] h = sized_no_items
sized_ranges (r ∷ rs) h =
    let one = (sized_item (69 * length rs + 1) 68 (range_data r) (range_items rs) (sized_range r h.0.0 h.0.1) (sized_ranges rs h.1)).size in
    record { size = omega (arith, one) }

sized_ports : (m n : ℕ) (name : List ℕ) (rs : List Range) (ms : Members) → length name ≤ n → length rs ≤ 8 → All IsTypedRange rs
    → AreSized m ms → AreSized (m + 554 + 6 * n + 4) (with_ports name rs ms)
sized_ports m n name [] ms short few h f = let p = f.size in record { size = omega (arith, p) }
sized_ports m n name (r ∷ rs) ms short few h f =
    let all = (sized_ranges (r ∷ rs) (recursion_from_All IsTypedRange (r ∷ rs) h)).size in
    let bound : AreSizedItems 553 (range_items (r ∷ rs)) = record { size = omega (arith, all, few) } in
    sized_put m 554 n name (array (range_items (r ∷ rs))) ms short (sized_array 553 (range_items (r ∷ rs)) bound) f

sized_proto : (p : Option ℕ) → IsTypedProtocol p → IsSized 20 (proto_data p)
sized_proto None h = sized_string 3 (codes "any") (same 3)
sized_proto (Some n) h = sized_more 3 20 (count n) (omega arith) (sized_number 3 n (omega arith) (omega arith) (omega arith))

few_left : (a b : ℕ) → (nat_lt 8 a || nat_lt 8 b) ≡ false → a ≤ 8
few_left a b e = grind (arith, nat_tests)

few_right : (a b : ℕ) → (nat_lt 8 a || nat_lt 8 b) ≡ false → b ≤ 8
few_right a b e = grind (arith, nat_tests)

sized_selector : ShortPrefixes → (s : Selector) → has_many_ranges s ≡ false → IsTypedSelector s → IsSized 2078 (selector_data s)
unfolding selector_data
sized_selector short s few h =
    sized_object 2077 _
    (sized_put 1969 20 14 (codes "inner-protocol") (proto_data s.proto) _ (same 14) (sized_proto s.proto h.proto)
    (sized_ports 1345 11 (codes "local-ports") s.local_ports _ (same 11) (few_left (length s.local_ports) (length s.remote_ports) few)
    h.local_ports
    (sized_put 991 278 12 (codes "local-prefix") (string (prefix_text s.local)) _ (same 12)
    (sized_string 46 (prefix_text s.local) (short s.local h.local))
    (sized_ports 361 12 (codes "remote-ports") s.remote_ports _ (same 12) (few_right (length s.local_ports) (length s.remote_ports) few)
    h.remote_ports
    (sized_put 1 278 13 (codes "remote-prefix") (string (prefix_text s.remote)) no_members (same 13)
    (sized_string 46 (prefix_text s.remote) (short s.remote h.remote)) sized_none)))))

sized_counts : (l : Limits) → IsTypedLimits l → IsSized 290 (counts_data l)
sized_counts l h =
    sized_object 289 _
    (sized_put 133 122 5 (codes "bytes") (wide l.bytes) _ (same 5)
    (sized_string 20 (decimal l.bytes) (length-decimal-le 20 l.bytes (omega arith) (let b = h.bytes in omega arith) h.bytes))
    (sized_put 95 10 4 (codes "idle") (count l.idle) _ (same 4) (sized_count l.idle h.idle)
    (sized_put 39 10 7 (codes "packets") (count l.packets) _ (same 7) (sized_count l.packets h.packets)
    (sized_put 1 10 4 (codes "time") (count l.time) no_members (same 4) (sized_count l.time h.time) sized_none))))

spd_size : (name : List ℕ) → is_spd_name name ≡ true → length name ≤ 64
spd_size name h = middle (nat_le 1 (length name)) (nat_le (length name) 64) (list_all is_path_octet name) refl h
  where
    middle : (a b c : Bool) → nat_le (length name) 64 ≡ b → (a && b && c) ≡ true → length name ≤ 64
    middle true true c e h = grind arith
    middle true false c e h = absurd (let no : ⊥ = cc in no)
    middle false b c e h = absurd (let no : ⊥ = cc in no)

serial_size : (text : List ℕ) → is_serial text ≡ true → length text ≤ 60
serial_size text h = middle (nat_le 1 (length text)) (nat_le (length text) 60) (list_all is_word_octet text) refl h
  where
    middle : (a b c : Bool) → nat_le (length text) 60 ≡ b → (a && b && c) ≡ true → length text ≤ 60
    middle true true c e h = grind arith
    middle true false c e h = absurd (let no : ⊥ = cc in no)
    middle false b c e h = absurd (let no : ⊥ = cc in no)

front_size : (front name : List ℕ) → length front ≤ 4 → has_front front name ≡ true → length name ≤ 64
front_size front name short h =
    let long = and_parts (nat_le (length front) (length name)) (bytes_eq (take (length front) name) front
    && is_serial (drop (length front) name)) h in
    let parts = and_parts (bytes_eq (take (length front) name) front) (is_serial (drop (length front) name)) long.1 in
    let rest = serial_size (drop (length front) name) parts.1 in
    let size = length-drop (length front) name in
    omega (arith, rest, size)

sad_size : (name : List ℕ) → is_sad_name name ≡ true → length name ≤ 64
sad_size name h = elim (or_cases (has_front (codes "in/") name) (has_front (codes "out/") name) h) [
  | inl here ↦ front_size (codes "in/") name (omega arith) here
  | inr here ↦ front_size (codes "out/") name (omega arith) here
]

sized_acquire : ShortPrefixes → (policy : List ℕ) (s : Selector) → is_spd_name policy ≡ true → has_many_ranges s ≡ false → IsTypedSelector s
    → IsSized 2672 (acquire_data policy s)
unfolding acquire_data
sized_acquire short policy s is few h =
    sized_object 2671 _
    (sized_put 2179 386 17 (codes "ipsec-policy-name") (string policy) _ (same 17) (sized_string 64 policy (spd_size policy is))
    (sized_put 1 2078 16 (codes "traffic-selector") (selector_data s) no_members (same 16) (sized_selector short s few h) sized_none))

sized_expire : (name : List ℕ) (soft : Bool) (l : Limits) → is_sad_name name ≡ true → IsTypedLimits l
    → IsSized 989 (expire_data name soft l)
unfolding expire_data
sized_expire name soft l is h =
    sized_object 988 _
    (sized_put 520 386 13 (codes "ipsec-sa-name") (string name) _ (same 13) (sized_string 64 name (sad_size name is))
    (sized_put 130 290 16 (codes "lifetime-current") (counts_data l) _ (same 16) (sized_counts l h)
    (sized_put 1 5 20 (codes "soft-lifetime-expire") (boolean soft) no_members (same 20) (sized_boolean soft) sized_none)))

sized_event : ShortPrefixes → (n : Notice) → IsNotice n → IsTypedNotice n → IsSized 2672 (event_data n)
sized_event short (notices.Acquire policy s) is h = sized_acquire short policy s is.0 is.1.1 h
sized_event short (notices.Expire name soft l) is h = sized_more 989 2672 (expire_data name soft l) (omega arith)
    (sized_expire name soft l is h)
sized_event short (notices.SeqOverflow name) is h =
    sized_more 470 2672 (overflow_data name) (omega arith)
    (sized_object 469 _ (sized_put 1 386 13 (codes "ipsec-sa-name") (string name) no_members (same 13)
    (sized_string 64 name (sad_size name is)) sized_none))
sized_event short (notices.BadSpi spi) is h =
    sized_more 34 2672 (bad_spi_data spi) (omega arith)
    (sized_object 33 _ (sized_put 1 10 3 (codes "spi") (count spi) no_members (same 3) (sized_count spi h) sized_none))

name_size : (n : Notice) → length (event_name n) ≤ 36
name_size (notices.Acquire policy s) = omega arith
name_size (notices.Expire name soft l) = omega arith
name_size (notices.SeqOverflow name) = omega arith
name_size (notices.BadSpi spi) = omega arith

sized_envelope : (stamp name : List ℕ) (event : Data) → length stamp ≤ 20 → length name ≤ 36 → IsSized 2672 event
    → IsSized 3074 (envelope_data stamp name event)
unfolding envelope_data
sized_envelope stamp name event time short h =
    sized_object 3073 _
    (sized_put 2893 122 9 (codes "eventTime") (string stamp) _ (same 9) (sized_string 20 stamp time)
    (sized_put 1 2672 36 name event no_members short h sized_none))

pub sized_notice : ShortPrefixes → (n : Notice) (stamp : List ℕ) → length stamp ≤ 20 → IsNotice n → IsTypedNotice n
    → length (compact_text (notice_data n stamp)) ≤ 3236
sized_notice short n stamp time is h =
    (sized_object 3235 _ (sized_put 1 3074 26 (codes "ietf-restconf:notification") (envelope_data stamp (event_name n) (event_data n))
    no_members (same 26)
    (sized_envelope stamp (event_name n) (event_data n) time (name_size n) (sized_event short n is h)) sized_none)).size
