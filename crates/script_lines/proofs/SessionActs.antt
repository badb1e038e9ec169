-- The lines of halves, orders, answers and notices are read as those acts.
use Rattle.std.proofs.Common.{◌≡◌, ℕ, ◌-◌, ◌^◌, ◌<◌, nat_lt, Bool, true, false, List, [], ◌∷◌, ◌++◌, length, map, Option, Some, None, Ok, refl, ap, ◌∙◌, arith, append-nil, append_assoc, length-append}
use Rattle.std.specs.Prelude.{codes}
use Rattle.std.specs.List.{All, AllByRecursion, list_all, slice_split, flat_map}
use Rattle.std.specs.Str.{bytes_eq}
use Rattle.std.specs.Fmt.{decimal}
use Rattle.std.proofs.lemmas.Bool.{and_parts, and_from, false_from_ne_true}
use Rattle.std.proofs.lemmas.List.Elements.{recursion_from_All}
use Rattle.std.proofs.lemmas.List.Folds.{list_all-append}
use Rattle.std.proofs.lemmas.Slice.Eq.{bytes_eq-Decides}
use Rattle.ikl_base.specs.declared.status.LineFault.TheVariants as faults
use Rattle.ikeless_tree.proofs.WordLemmas.{tag_again, softness_again}
use Rattle.ikeless_tree.specs.Check.{is_gateway, is_sad_name, is_spd_name, is_path_octet, has_many_ranges}
use Rattle.ikeless_tree.specs.Words.{tag_text, softness_text}
use Rattle.ikeless_tree.specs.declared.sad.Limits.{Limits}
use Rattle.ikeless_tree.specs.declared.sad.SadEntry.{SadEntry}
use Rattle.ikeless_tree.specs.declared.command.Peer.{Peer}
use Rattle.ikeless_tree.specs.declared.entry.Range.{Range}
use Rattle.ikeless_tree.specs.declared.entry.Selector.{Selector}
use Rattle.ikeless_tree.specs.declared.order.Answer.{Answer}
use Rattle.ikeless_tree.specs.declared.order.Notice.{Notice}
use Rattle.ikeless_tree.specs.declared.order.Notice.TheVariants as notices
use Rattle.ikeless_tree.specs.declared.order.Order.{Order}
use Rattle.ikeless_tree.specs.declared.order.Order.TheVariants as orders
use Rattle.ikeless_tree.specs.declared.error.Tag.{Tag}
use Rattle.ikeless_tree.specs.declared.error.Tag.TheVariants as tags
use Rattle.hist_acts.specs.declared.act.Act.TheVariants as acts
use Rattle.hist_acts.specs.Gateways.{is_named as is_gateway_of}
use Rattle.yang_values.proofs.QuadText.{also}
use Rattle.yang_values.specs.Prefixes.{prefix_text}
use Rattle.line_words.specs.Words.{one_of, half_name_of, each}
use Rattle.line_words.specs.Entry.{is_comma, selector_in}
use Rattle.script_lines.specs.Session.{place_of, listed_in, read_in, put_in, remove_of, remove_in, order_of, tag_of, names_of, answer_of, replied_of, replied_in, is_one_port, is_packet, acquire_of, acquire_in, soft_of, expire_of, expire_in, overflow_of, overflow_in, bad_spi_in, notice_of, noticed_of, noticed_in}
use Rattle.line_words.specs.Text.{entry_text, limits_text, proto_text, ports_text, selector_text, half_text}
use Rattle.script_lines.specs.Text.{names_text, tag_word, order_words, answer_words, notice_words, act_text}
use Rattle.script_lines.specs.Act.{put_at, put_in as install_in, order_at, order_in, session_act_in, base_act_in, packet_act_in, act_in, act_of}
use Rattle.line_words.specs.Spelling.{IsHalfName, IsInstallable}
use Rattle.script_lines.specs.Spelling.{AreHalfNames, IsOrderSpelled, IsNoticeSpelled}
use Rattle.line_words.proofs.PartText.{is_part, is_graph, path_part, as_graph, all_behind, each_holds, split_behind}
use Rattle.line_words.proofs.EntryText.{prefix_is_part, proto_is_part, ports_are_part, selector_parts, selector_read, no_comma, number_again}
use Rattle.line_words.proofs.LineText.{AreWords, ReadsDigits, number_word, name_word, list_read, list_words, few_words}
use Rattle.line_words.proofs.LimitsText.{limits_read, limits_part}
use Rattle.line_words.proofs.HalfNames.{half_name_part, half_name_word, half_name_long}
use Rattle.script_lines.proofs.ActLine.{act_line}
use Rattle.line_words.proofs.HalfText.{half_read, half_graph}
use Rattle.ikeless_tree.specs.Typed.{IsTypedHalf, IsTypedNotice, IsTypedOrder, IsTypedRange, IsTypedSelector}

-- ---- halves

pub put_line : ReadsDigits → (gateways : List Peer) (g : List ℕ) (e : SadEntry) → is_gateway g ≡ true → is_gateway_of gateways g ≡ true
    → IsInstallable e → IsTypedHalf e
    → act_of gateways (act_text (acts.Put g e)) ≡ Ok (acts.Put g e)
unfolding act_in packet_act_in base_act_in install_in put_at AreWords
put_line digits gateways g e spelled named fits is =
    act_line gateways (acts.Put g e) (codes "put") (g ∷ half_text e ∷ []) refl (refl, (name_word g spelled, (half_graph e is fits, tt)))
    (rw (named, half_read digits e is fits) refl)

-- ---- orders

-- the words of a line whose last ones are those of an order
order_first : Order → List ℕ
order_first orders.Read = codes "read"
order_first (orders.Policy list) = codes "policy"
order_first (orders.Put e) = codes "put"
order_first (orders.Remove name) = codes "remove"

order_more : Order → List (List ℕ)
order_more orders.Read = []
order_more (orders.Policy list) = map entry_text list
order_more (orders.Put e) = half_text e ∷ []
order_more (orders.Remove name) = name ∷ []

order_both : (o : Order) → order_words o ≡ order_first o ∷ order_more o
unfolding order_first order_more
order_both orders.Read = refl
order_both (orders.Policy list) = refl
order_both (orders.Put e) = refl
order_both (orders.Remove name) = refl

order_read : ReadsDigits → (o : Order) → IsOrderSpelled o → IsTypedOrder o → order_of (order_first o) (order_more o) ≡ Ok o
unfolding order_of read_in listed_in put_in remove_in remove_of order_first order_more
order_read digits orders.Read spelled is = refl
order_read digits (orders.Policy list) spelled is =
    let few = few_words list spelled in
    let read = list_read list spelled is in
    let fits = spelled.fits in
    rw (few, read, fits) refl
order_read digits (orders.Put e) spelled is = rw (half_read digits e is spelled) refl
order_read digits (orders.Remove name) spelled is = rw spelled refl

order_are_words : (o : Order) → IsOrderSpelled o → IsTypedOrder o → AreWords (order_first o ∷ order_more o)
unfolding AreWords order_first order_more
order_are_words orders.Read spelled is = (refl, tt)
order_are_words (orders.Policy list) spelled is = (refl, list_words list spelled is)
order_are_words (orders.Put e) spelled is = (refl, (half_graph e is spelled, tt))
order_are_words (orders.Remove name) spelled is = (refl, (half_name_word name spelled, tt))

place_read : (gateways : List Peer) (g : List ℕ) (s n : ℕ) → is_gateway_of gateways g ≡ true → s < 2 ^ 32 → n < 2 ^ 64
    → place_of gateways g (decimal s) (decimal n) ≡ Ok (record { gateway = g; session = s; request = n })
unfolding place_of
place_read gateways g s n named small request =
    rw (
      named,
      number_again faults.Number s (2 ^ 32 - 1) (omega arith) (omega arith),
      number_again faults.Number n (2 ^ 64 - 1) request
          (omega arith),
    ) refl

order_in_read : ReadsDigits → (gateways : List Peer) (g : List ℕ) (s n : ℕ) (o : Order) → is_gateway_of gateways g ≡ true → IsOrderSpelled o
    → s < 2 ^ 32 → n < 2 ^ 64 → IsTypedOrder o
    → order_in gateways (g ∷ decimal s ∷ decimal n ∷ order_first o ∷ order_more o) ≡ Ok (acts.Order g s n o)
unfolding order_in order_at
order_in_read digits gateways g s n o named written small request is =
    rw (place_read gateways g s n named small request, order_read digits o written is) refl

pub order_line : ReadsDigits → (gateways : List Peer) (g : List ℕ) (s n : ℕ) (o : Order) → is_gateway g ≡ true
    → is_gateway_of gateways g ≡ true → IsOrderSpelled o
    → s < 2 ^ 32 → n < 2 ^ 64 → IsTypedOrder o → act_of gateways (act_text (acts.Order g s n o)) ≡ Ok (acts.Order g s n o)
unfolding act_in packet_act_in base_act_in session_act_in AreWords
order_line digits gateways g s n o spelled named written small request is =
    act_line gateways (acts.Order g s n o) (codes "order") (g ∷ decimal s ∷ decimal n ∷ order_first o ∷ order_more o)
    (ap (λ ws. codes "order" ∷ g ∷ decimal s ∷ decimal n ∷ ws) (order_both o))
    (refl, (name_word g spelled, (number_word s (omega arith), (number_word n request, order_are_words o written is))))
    (order_in_read digits gateways g s n o named written small request is)

-- ---- answers

not_dash : (t : Tag) → bytes_eq (tag_text t) (codes "-") ≡ false
not_dash tags.MalformedMessage = refl
not_dash tags.OperationNotSupported = refl
not_dash tags.TooBig = refl
not_dash tags.InvalidValue = refl
not_dash tags.UnknownElement = refl
not_dash tags.BadElement = refl
not_dash tags.ResourceDenied = refl

tag_read : (t : Option Tag) → tag_of (tag_word t) ≡ Ok t
unfolding tag_of
tag_read None = refl
tag_read (Some t) = rw (not_dash t, tag_again t) refl

tag_graph : (t : Option Tag) → list_all is_graph (tag_word t) ≡ true
tag_graph None = refl
tag_graph (Some tags.MalformedMessage) = refl
tag_graph (Some tags.OperationNotSupported) = refl
tag_graph (Some tags.TooBig) = refl
tag_graph (Some tags.InvalidValue) = refl
tag_graph (Some tags.UnknownElement) = refl
tag_graph (Some tags.BadElement) = refl
tag_graph (Some tags.ResourceDenied) = refl

each_name : (names : List (List ℕ)) → AllByRecursion IsHalfName names → each half_name_of names ≡ Ok names
each_name [] all = refl
each_name (n ∷ ns) all = let ih = each_name ns all.1 in let named = all.0 in rw (named, ih) refl

-- names aren't taken for a dash
no_dash : (n rest : List ℕ) → is_sad_name n ≡ true → bytes_eq (n ++ rest) (codes "-") ≡ false
no_dash n rest named =
    false_from_ne_true (bytes_eq (n ++ rest) (codes "-"))
    (λ same.
    let long = half_name_long n named in
    let e : length (n ++ rest) ≡ 1 = ap length ((bytes_eq-Decides (n ++ rest) (codes "-")).0 same) in
    let m = length-append n rest in
    omega (arith, long, e, m))

names_parts : (names : List (List ℕ)) → AllByRecursion IsHalfName names → AllByRecursion (λ t. list_all is_part t ≡ true) names
names_parts names all = each_holds IsHalfName (λ t. list_all is_part t ≡ true) (λ t is. half_name_part t is) names all

names_read : (names : List (List ℕ)) → AllByRecursion IsHalfName names → names_of (names_text names) ≡ Ok names
unfolding names_of
names_read [] all = refl
names_read (n ∷ ns) all =
    let dash = no_dash n (flat_map (λ m. 44 ∷ m) ns) all.0 in
    let s = split_behind is_comma 44 refl n ns
    (each_holds (λ t. list_all is_part t ≡ true) (λ t. All (λ c. is_comma c ≡ false) t) no_comma (n ∷ ns) (names_parts (n ∷ ns) all)) in
    let read = each_name (n ∷ ns) all in
    rw (dash, s, read) refl

names_graph : (names : List (List ℕ)) → AllByRecursion IsHalfName names → list_all is_graph (names_text names) ≡ true
names_graph [] all = refl
names_graph (n ∷ ns) all =
    list_all-append is_graph n (flat_map (λ m. 44 ∷ m) ns)
    ∙ and_from _ _ (half_name_word n all.0)
    (all_behind is_graph 44 refl ns (each_holds IsHalfName (λ t. list_all is_graph t ≡ true) (λ t is. half_name_word t is) ns all.1))

replied_read : (gateways : List Peer) (g : List ℕ) (s n : ℕ) (a : Answer) → is_gateway_of gateways g ≡ true → AreHalfNames a.names
    → s < 2 ^ 32 → n < 2 ^ 64 → a.status < 65536
    → replied_in gateways (g ∷ decimal s ∷ decimal n ∷ answer_words a) ≡ Ok
    (record { place = record { gateway = g; session = s; request = n }; answer = a })
unfolding replied_in replied_of answer_of
replied_read gateways g s n a named halves small request status =
    rw (
      place_read gateways g s n named small request,
      number_again faults.Number a.status 65535 (omega arith) (omega arith),
      tag_read a.tag,
      names_read a.names (recursion_from_All IsHalfName a.names halves),
    ) refl

replied_words : (what g : List ℕ) (s n : ℕ) (a : Answer) → list_all is_graph what ≡ true → is_gateway g ≡ true → AreHalfNames a.names
    → s < 2 ^ 32 → n < 2 ^ 64 → a.status < 65536
    → AreWords (what ∷ g ∷ decimal s ∷ decimal n ∷ answer_words a)
unfolding AreWords
replied_words what g s n a word spelled halves small request status = (
  word,
  (
    name_word g spelled,
    (
      number_word s (omega arith),
      (
        number_word n request,
        (
          number_word a.status (omega arith),
          (
            tag_graph a.tag,
            (names_graph a.names (recursion_from_All IsHalfName a.names halves), tt),
          ),
        ),
      ),
    ),
  ),
)

pub handled_line : ReadsDigits → (gateways : List Peer) (g : List ℕ) (s n : ℕ) (a : Answer) → is_gateway g ≡ true
    → is_gateway_of gateways g ≡ true → AreHalfNames a.names
    → s < 2 ^ 32 → n < 2 ^ 64 → a.status < 65536 → act_of gateways (act_text (acts.Handled g s n a)) ≡ Ok (acts.Handled g s n a)
unfolding act_in packet_act_in base_act_in session_act_in
handled_line digits gateways g s n a spelled named halves small request status =
    act_line gateways (acts.Handled g s n a) (codes "handled") (g ∷ decimal s ∷ decimal n ∷ answer_words a) refl
    (replied_words (codes "handled") g s n a refl spelled halves small request status)
    (rw (replied_read gateways g s n a named halves small request status) refl)

pub answered_line : ReadsDigits → (gateways : List Peer) (g : List ℕ) (s n : ℕ) (a : Answer) → is_gateway g ≡ true
    → is_gateway_of gateways g ≡ true → AreHalfNames a.names
    → s < 2 ^ 32 → n < 2 ^ 64 → a.status < 65536 → act_of gateways (act_text (acts.Answered g s n a)) ≡ Ok (acts.Answered g s n a)
unfolding act_in packet_act_in base_act_in session_act_in
answered_line digits gateways g s n a spelled named halves small request status =
    act_line gateways (acts.Answered g s n a) (codes "answered") (g ∷ decimal s ∷ decimal n ∷ answer_words a) refl
    (replied_words (codes "answered") g s n a refl spelled halves small request status)
    (rw (replied_read gateways g s n a named halves small request status) refl)

-- ---- notices

one_port : (rs : List Range) → is_one_port rs ≡ true → nat_lt 8 (length rs) ≡ false
one_port [] one = refl
one_port (r ∷ []) one = refl
one_port (r ∷ s ∷ rs) one = cc

packet_few : (s : Selector) → is_packet s ≡ true → has_many_ranges s ≡ false
unfolding is_packet
packet_few s is =
    let last = and_parts _ _ is in
    let near = one_port s.local_ports (and_parts _ _ last.0).1 in
    let far = one_port s.remote_ports last.1 in
    rw (near, far) refl

selector_rest : Selector → List (List ℕ)
selector_rest s = prefix_text s.remote ∷ proto_text s.proto ∷ ports_text s.local_ports ∷ ports_text s.remote_ports ∷ []

five : (a b c d e : List ℕ) → (a ++ 44 ∷ b) ++ 44 ∷ (c ++ 44 ∷ (d ++ 44 ∷ e)) ≡ a ++ flat_map (λ u. 44 ∷ u) (b ∷ c ∷ d ∷ e ∷ [])
five a b c d e = simp (append_assoc, append-nil)

selector_joined : (s : Selector) → selector_text s ≡ prefix_text s.local ++ flat_map (λ u. 44 ∷ u) (selector_rest s)
unfolding selector_text selector_rest
selector_joined s = five (prefix_text s.local) (prefix_text s.remote) (proto_text s.proto) (ports_text s.local_ports)
    (ports_text s.remote_ports)

selector_are_parts : (s : Selector) → IsTypedSelector s → AllByRecursion (λ t. list_all is_part t ≡ true) (prefix_text s.local
    ∷ selector_rest s)
unfolding selector_rest
selector_are_parts s is = (
  prefix_is_part s.local is.local,
  (
    prefix_is_part s.remote is.remote,
    (
      proto_is_part s.proto is.proto,
      (
        ports_are_part s.local_ports (recursion_from_All IsTypedRange s.local_ports is.local_ports),
        (ports_are_part s.remote_ports (recursion_from_All IsTypedRange s.remote_ports is.remote_ports), tt),
      ),
    ),
  ),
)

selector_again : (s : Selector) → IsTypedSelector s → has_many_ranges s ≡ false → selector_in (slice_split is_comma (selector_text s)) ≡ Ok
    s
unfolding selector_rest selector_parts
selector_again s is few =
    ap (λ t. selector_in (slice_split is_comma t)) (selector_joined s)
    ∙ ap selector_in (split_behind is_comma 44 refl (prefix_text s.local) (selector_rest s)
    (each_holds (λ t. list_all is_part t ≡ true) (λ t. All (λ c. is_comma c ≡ false) t) no_comma (prefix_text s.local ∷ selector_rest s)
    (selector_are_parts s is)))
    ∙ selector_read s is few

selector_graph : (s : Selector) → IsTypedSelector s → list_all is_graph (selector_text s) ≡ true
selector_graph s is =
    let all = selector_are_parts s is in
    ap (list_all is_graph) (selector_joined s)
    ∙ list_all-append is_graph (prefix_text s.local) (flat_map (λ u. 44 ∷ u) (selector_rest s))
    ∙ and_from _ _ (as_graph (prefix_text s.local) all.0)
    (all_behind is_graph 44 refl (selector_rest s) (each_holds (λ t. list_all is_part t ≡ true) (λ t. list_all is_graph t ≡ true) as_graph
    (selector_rest s) all.1))

policy_name_word : (name : List ℕ) → is_spd_name name ≡ true → list_all is_graph name ≡ true
policy_name_word name is = as_graph name (also is_path_octet is_part path_part name (and_parts _ _ is).1)

soft_read : (b : Bool) → soft_of (softness_text b) ≡ Ok b
soft_read b = ap (one_of faults.Word) (softness_again b)

soft_word : (b : Bool) → list_all is_graph (softness_text b) ≡ true
soft_word true = refl
soft_word false = refl

notice_first : Notice → List ℕ
notice_first (notices.Acquire policy s) = codes "acquire"
notice_first (notices.Expire name soft counts) = codes "expire"
notice_first (notices.SeqOverflow name) = codes "overflow"
notice_first (notices.BadSpi spi) = codes "bad-spi"

notice_more : Notice → List (List ℕ)
notice_more (notices.Acquire policy s) = policy ∷ selector_text s ∷ []
notice_more (notices.Expire name soft counts) = name ∷ softness_text soft ∷ limits_text counts ∷ []
notice_more (notices.SeqOverflow name) = name ∷ []
notice_more (notices.BadSpi spi) = decimal spi ∷ []

notice_both : (n : Notice) → notice_words n ≡ notice_first n ∷ notice_more n
unfolding notice_first notice_more
notice_both (notices.Acquire policy s) = refl
notice_both (notices.Expire name soft counts) = refl
notice_both (notices.SeqOverflow name) = refl
notice_both (notices.BadSpi spi) = refl

notice_read : (n : Notice) → IsNoticeSpelled n → IsTypedNotice n → notice_of (notice_first n) (notice_more n) ≡ Ok n
unfolding notice_of acquire_in acquire_of expire_in expire_of overflow_in overflow_of bad_spi_in notice_first notice_more
notice_read (notices.Acquire policy s) spelled is =
    let name = spelled.0 in
    let packet = spelled.1 in
    let read = selector_again s is (packet_few s packet) in
    rw (name, read, packet) refl
notice_read (notices.Expire name soft counts) spelled is =
    let b = soft_read soft in
    let c = limits_read faults.Limits counts is in
    rw (spelled, b, c) refl
notice_read (notices.SeqOverflow name) spelled is = rw spelled refl
notice_read (notices.BadSpi spi) spelled is = rw (number_again faults.Number spi (2 ^ 32 - 1) (omega (arith, is)) (omega (arith, is))) refl

notice_are_words : (n : Notice) → IsNoticeSpelled n → IsTypedNotice n → AreWords (notice_first n ∷ notice_more n)
unfolding AreWords notice_first notice_more
notice_are_words (notices.Acquire policy s) spelled is = (refl, (policy_name_word policy spelled.0, (selector_graph s is, tt)))
notice_are_words (notices.Expire name soft counts) spelled is =
    (refl, (half_name_word name spelled, (soft_word soft, (as_graph (limits_text counts) (limits_part counts is), tt))))
notice_are_words (notices.SeqOverflow name) spelled is = (refl, (half_name_word name spelled, tt))
notice_are_words (notices.BadSpi spi) spelled is = (refl, (number_word spi (omega (arith, is)), tt))

noticed_read : (gateways : List Peer) (g : List ℕ) (s : ℕ) (n : Notice) → is_gateway_of gateways g ≡ true → IsNoticeSpelled n → s < 2 ^ 32
    → IsTypedNotice n
    → noticed_in gateways (g ∷ decimal s ∷ notice_first n ∷ notice_more n) ≡ Ok (record { gateway = g; session = s; notice = n })
unfolding noticed_in noticed_of
noticed_read gateways g s n named written small is =
    rw (named, number_again faults.Number s (2 ^ 32 - 1) (omega arith) (omega arith), notice_read n written is) refl

noticed_words : (what g : List ℕ) (s : ℕ) (n : Notice) → list_all is_graph what ≡ true → is_gateway g ≡ true → IsNoticeSpelled n
    → s < 2 ^ 32 → IsTypedNotice n
    → AreWords (what ∷ g ∷ decimal s ∷ notice_first n ∷ notice_more n)
unfolding AreWords
noticed_words what g s n word spelled written small is =
    (word, (name_word g spelled, (number_word s (omega arith), notice_are_words n written is)))

pub notice_line : ReadsDigits → (gateways : List Peer) (g : List ℕ) (s : ℕ) (n : Notice) → is_gateway g ≡ true
    → is_gateway_of gateways g ≡ true → IsNoticeSpelled n
    → s < 2 ^ 32 → IsTypedNotice n → act_of gateways (act_text (acts.Notice g s n)) ≡ Ok (acts.Notice g s n)
unfolding act_in packet_act_in base_act_in session_act_in
notice_line digits gateways g s n spelled named written small is =
    act_line gateways (acts.Notice g s n) (codes "notice") (g ∷ decimal s ∷ notice_first n ∷ notice_more n)
    (ap (λ ws. codes "notice" ∷ g ∷ decimal s ∷ ws) (notice_both n)) (noticed_words (codes "notice") g s n refl spelled written small is)
    (rw (noticed_read gateways g s n named written small is) refl)

pub heard_line : ReadsDigits → (gateways : List Peer) (g : List ℕ) (s : ℕ) (n : Notice) → is_gateway g ≡ true
    → is_gateway_of gateways g ≡ true → IsNoticeSpelled n
    → s < 2 ^ 32 → IsTypedNotice n → act_of gateways (act_text (acts.Heard g s n)) ≡ Ok (acts.Heard g s n)
unfolding act_in packet_act_in base_act_in session_act_in
heard_line digits gateways g s n spelled named written small is =
    act_line gateways (acts.Heard g s n) (codes "heard") (g ∷ decimal s ∷ notice_first n ∷ notice_more n)
    (ap (λ ws. codes "heard" ∷ g ∷ decimal s ∷ ws) (notice_both n)) (noticed_words (codes "heard") g s n refl spelled written small is)
    (rw (noticed_read gateways g s n named written small is) refl)
