-- An order, an answer or a notice that is read is one that a line can spell.
use Rattle.std.proofs.Common.{◌≡◌, ℕ, ◌-◌, ◌^◌, nat_le, true, List, [], ◌∷◌, length, Option, Some, None, Ok, refl, sym, ap, ◌∙◌, subst}
use Rattle.std.specs.Prelude.{codes}
use Rattle.std.specs.List.{slice_split}
use Rattle.std.specs.Str.{bytes_eq}
use Rattle.std.proofs.lemmas.List.Elements.{All-from_recursion}
use Rattle.ikl_base.specs.declared.status.LineFault.TheVariants as faults
use Rattle.ikeless_tree.specs.Check.{spd_fault, sad_fault, is_sad_name, is_spd_name}
use Rattle.ikeless_tree.specs.declared.sad.SadEntry.{SadEntry}
use Rattle.ikeless_tree.specs.declared.command.Peer.{Peer}
use Rattle.ikeless_tree.specs.declared.entry.Selector.{Selector}
use Rattle.ikeless_tree.specs.declared.order.Answer.{Answer}
use Rattle.ikeless_tree.specs.declared.order.Notice.{Notice}
use Rattle.ikeless_tree.specs.declared.order.Notice.TheVariants as notices
use Rattle.ikeless_tree.specs.declared.order.Order.{Order}
use Rattle.ikeless_tree.specs.declared.order.Order.TheVariants as orders
use Rattle.ikeless_tree.specs.declared.fault.TreeFault.{TreeFault}
use Rattle.hist_acts.specs.declared.act.Act.{Act}
use Rattle.hist_acts.specs.declared.act.Act.TheVariants as acts
use Rattle.hist_acts.specs.Gateways.{is_named}
use Rattle.script_lines.specs.declared.session.Place.{Place}
use Rattle.script_lines.specs.declared.session.Replied.{Replied}
use Rattle.script_lines.specs.declared.session.Noticed.{Noticed}
use Rattle.line_words.specs.Words.{known_of, half_name_of, number_in}
use Rattle.line_words.specs.Entry.{is_comma, selector_in, entries_of, unless_fault}
use Rattle.line_words.specs.Half.{half_in, unless_sad_fault, half_of}
use Rattle.line_words.specs.Limits.{limits_of}
use Rattle.script_lines.specs.Session.{place_of, listed_in, read_in, put_in, remove_of, remove_in, order_of, tag_of, names_of, answer_of, replied_of, replied_in, is_packet, policy_name_of, packet_of, acquire_of, acquire_in, soft_of, expire_of, expire_in, overflow_of, overflow_in, bad_spi_in, notice_of, noticed_of, noticed_in}
use Rattle.script_lines.specs.Act.{put_at, put_in as install_in, order_at, order_in, session_act_in}
use Rattle.line_words.specs.Spelling.{IsHalfName, IsInstallable}
use Rattle.script_lines.specs.Spelling.{AreHalfNames, IsOrderSpelled, IsNoticeSpelled, IsActUnder}
use Rattle.line_words.proofs.TakenSteps.{after, passed, either, inside, each_has, listed, known_named}

pub half_named : (w n : List ℕ) → half_name_of w ≡ Ok n → is_sad_name n ≡ true
half_named w n is =
    passed (is_sad_name n ≡ true) (is_sad_name w) (Ok w) faults.Entry n is
    (λ named same. let e : w ≡ n = cc in ap is_sad_name (sym e) ∙ named)

-- ---- halves

half_fits : (w : List ℕ) (e : SadEntry) → half_of w ≡ Ok e → IsInstallable e
unfolding half_of
half_fits w e is =
    after (IsInstallable e) (half_in (slice_split is_comma w)) _ e is (λ x _ more. by_fault x (sad_fault x) refl more)
  where
    by_fault : (x : SadEntry) (o : Option TreeFault) → sad_fault x ≡ o → unless_sad_fault o x ≡ Ok e → IsInstallable e
    by_fault x None none same = let q : x ≡ e = cc in subst IsInstallable q none
    by_fault x (Some fault) some same = cc

pub put_under : (gateways : List Peer) (ws : List (List ℕ)) (a : Act) → install_in gateways ws ≡ Ok a → IsActUnder gateways a
unfolding install_in put_at
put_under gateways [] a is = cc
put_under gateways (w ∷ []) a is = cc
put_under gateways (w ∷ h ∷ []) a is =
    let P : Type 0 = IsActUnder gateways a in
    after P (known_of gateways w) _ a is
    (λ g known more. after P (half_of h) _ a more
    (λ e half same. let q : acts.Put g e ≡ a = cc in subst (IsActUnder gateways) q (known_named gateways w g known, half_fits h e half)))
put_under gateways (w ∷ h ∷ x ∷ ws) a is = cc

-- ---- orders

listed_spelled : (ws : List (List ℕ)) (o : Order) → listed_in ws ≡ Ok o → IsOrderSpelled o
unfolding listed_in
listed_spelled ws o is =
    let P : Type 0 = IsOrderSpelled o in
    passed P (nat_le (length ws) 256) _ faults.Count o is
    (λ _ more. after P (entries_of ws) _ o more
    (λ list read more2. after P (unless_fault (spd_fault list) list) _ o more2
    (λ good fits same. let q : orders.Policy good ≡ o = cc in subst IsOrderSpelled q (listed ws list good read fits))))

read_spelled : (ws : List (List ℕ)) (o : Order) → read_in ws ≡ Ok o → IsOrderSpelled o
unfolding read_in
read_spelled [] o is = let q : orders.Read ≡ o = cc in subst IsOrderSpelled q tt
read_spelled (w ∷ ws) o is = cc

put_spelled : (ws : List (List ℕ)) (o : Order) → put_in ws ≡ Ok o → IsOrderSpelled o
unfolding put_in
put_spelled [] o is = cc
put_spelled (h ∷ []) o is =
    after (IsOrderSpelled o) (half_of h) _ o is (λ e half same. let q : orders.Put e ≡ o = cc in
    subst IsOrderSpelled q (half_fits h e half))
put_spelled (h ∷ x ∷ ws) o is = cc

remove_spelled : (ws : List (List ℕ)) (o : Order) → remove_in ws ≡ Ok o → IsOrderSpelled o
unfolding remove_in remove_of
remove_spelled [] o is = cc
remove_spelled (w ∷ []) o is =
    after (IsOrderSpelled o) (half_name_of w) _ o is (λ n named same. let q : orders.Remove n ≡ o = cc in
    subst IsOrderSpelled q (half_named w n named))
remove_spelled (w ∷ x ∷ ws) o is = cc

order_spelled : (w : List ℕ) (ws : List (List ℕ)) (o : Order) → order_of w ws ≡ Ok o → IsOrderSpelled o
unfolding order_of
order_spelled w ws o is =
    let P : Type 0 = IsOrderSpelled o in
    either P (bytes_eq w (codes "read")) _ _ o is (read_spelled ws o)
    (λ is2. either P (bytes_eq w (codes "policy")) _ _ o is2 (listed_spelled ws o)
    (λ is3. either P (bytes_eq w (codes "put")) _ _ o is3 (put_spelled ws o)
    (λ is4. passed P (bytes_eq w (codes "remove")) _ faults.Word o is4 (λ _ read. remove_spelled ws o read))))

place_named : (gateways : List Peer) (w s n : List ℕ) (p : Place) → place_of gateways w s n ≡ Ok p → is_named gateways p.gateway ≡ true
unfolding place_of
place_named gateways w s n p is =
    let P : Type 0 = is_named gateways p.gateway ≡ true in
    after P (known_of gateways w) _ p is
    (λ g known more. after P (number_in faults.Number (2 ^ 32 - 1) s) _ p more
    (λ x _ more2. after P (number_in faults.Number (2 ^ 64 - 1) n) _ p more2
    (λ y _ same. ap (λ (q : Place). is_named gateways q.gateway) (sym (inside _ p same)) ∙ known_named gateways w g known)))

order_under : (gateways : List Peer) (ws : List (List ℕ)) (a : Act) → order_in gateways ws ≡ Ok a → IsActUnder gateways a
unfolding order_in order_at
order_under gateways [] a is = cc
order_under gateways (w ∷ []) a is = cc
order_under gateways (w ∷ s ∷ []) a is = cc
order_under gateways (w ∷ s ∷ n ∷ []) a is = cc
order_under gateways (w ∷ s ∷ n ∷ o ∷ ws) a is =
    let P : Type 0 = IsActUnder gateways a in
    after P (place_of gateways w s n) _ a is
    (λ p place more. after P (order_of o ws) _ a more
    (λ x order same. let q : acts.Order p.gateway p.session p.request x ≡ a = cc in
    subst (IsActUnder gateways) q (place_named gateways w s n p place, order_spelled o ws x order)))

-- ---- answers

names_spelled : (w : List ℕ) (ns : List (List ℕ)) → names_of w ≡ Ok ns → AreHalfNames ns
unfolding names_of
names_spelled w ns is =
    let P : Type 0 = AreHalfNames ns in
    either P (bytes_eq w (codes "-")) _ _ ns is
    (λ same. let e : ◌≡◌ {A = List (List ℕ)} [] ns = cc in subst AreHalfNames e (All-from_recursion IsHalfName [] tt))
    (λ read. All-from_recursion IsHalfName ns (each_has IsHalfName half_name_of half_named (slice_split is_comma w) ns read))

answer_names : (status tag names : List ℕ) (a : Answer) → answer_of status tag names ≡ Ok a → AreHalfNames a.names
unfolding answer_of
answer_names status tag names a is =
    let P : Type 0 = AreHalfNames a.names in
    after P (number_in faults.Number 65535 status) _ a is
    (λ n _ more. after P (tag_of tag) _ a more
    (λ t _ more2. after P (names_of names) _ a more2
    (λ ns read same. subst (λ (x : Answer). AreHalfNames x.names) (inside _ a same) (names_spelled names ns read))))

replied_under : (gateways : List Peer) (ws : List (List ℕ)) (r : Replied) → replied_in gateways ws ≡ Ok r
    → (is_named gateways r.place.gateway ≡ true) × AreHalfNames r.answer.names
unfolding replied_in replied_of
replied_under gateways [] r is = cc
replied_under gateways (a ∷ []) r is = cc
replied_under gateways (a ∷ b ∷ []) r is = cc
replied_under gateways (a ∷ b ∷ c ∷ []) r is = cc
replied_under gateways (a ∷ b ∷ c ∷ d ∷ []) r is = cc
replied_under gateways (a ∷ b ∷ c ∷ d ∷ e ∷ []) r is = cc
replied_under gateways (w ∷ s ∷ n ∷ status ∷ tag ∷ names ∷ []) r is =
    let P : Type 0 = (is_named gateways r.place.gateway ≡ true) × AreHalfNames r.answer.names in
    after P (place_of gateways w s n) _ r is
    (λ p place more. after P (answer_of status tag names) _ r more
    (λ x answer same. subst (λ (q : Replied). (is_named gateways q.place.gateway ≡ true) × AreHalfNames q.answer.names) (inside _ r same)
    (place_named gateways w s n p place, answer_names status tag names x answer)))
replied_under gateways (a ∷ b ∷ c ∷ d ∷ e ∷ f ∷ g ∷ ws) r is = cc

-- ---- notices

policy_named : (w n : List ℕ) → policy_name_of w ≡ Ok n → is_spd_name n ≡ true
policy_named w n is =
    passed (is_spd_name n ≡ true) (is_spd_name w) (Ok w) faults.Entry n is
    (λ named same. let e : w ≡ n = cc in ap is_spd_name (sym e) ∙ named)

packet_is : (s x : Selector) → packet_of s ≡ Ok x → is_packet x ≡ true
packet_is s x is = passed (is_packet x ≡ true) (is_packet s) (Ok s) faults.Entry x is (λ packet same. let e : s ≡ x = cc in
    ap is_packet (sym e) ∙ packet)

acquire_spelled : (ws : List (List ℕ)) (n : Notice) → acquire_in ws ≡ Ok n → IsNoticeSpelled n
unfolding acquire_in acquire_of
acquire_spelled [] n is = cc
acquire_spelled (w ∷ []) n is = cc
acquire_spelled (w ∷ s ∷ []) n is =
    let P : Type 0 = IsNoticeSpelled n in
    after P (policy_name_of w) _ n is
    (λ policy named more. after P (selector_in (slice_split is_comma s)) _ n more
    (λ x _ more2. after P (packet_of x) _ n more2
    (λ y packet same. let q : notices.Acquire policy y ≡ n = cc in
    subst IsNoticeSpelled q (policy_named w policy named, packet_is x y packet))))
acquire_spelled (w ∷ s ∷ x ∷ ws) n is = cc

expire_spelled : (ws : List (List ℕ)) (n : Notice) → expire_in ws ≡ Ok n → IsNoticeSpelled n
unfolding expire_in expire_of
expire_spelled [] n is = cc
expire_spelled (w ∷ []) n is = cc
expire_spelled (w ∷ s ∷ []) n is = cc
expire_spelled (w ∷ s ∷ c ∷ []) n is =
    let P : Type 0 = IsNoticeSpelled n in
    after P (half_name_of w) _ n is
    (λ name named more. after P (soft_of s) _ n more
    (λ b _ more2. after P (limits_of faults.Limits c) _ n more2
    (λ l _ same. let q : notices.Expire name b l ≡ n = cc in subst IsNoticeSpelled q (half_named w name named))))
expire_spelled (w ∷ s ∷ c ∷ x ∷ ws) n is = cc

overflow_spelled : (ws : List (List ℕ)) (n : Notice) → overflow_in ws ≡ Ok n → IsNoticeSpelled n
unfolding overflow_in overflow_of
overflow_spelled [] n is = cc
overflow_spelled (w ∷ []) n is =
    after (IsNoticeSpelled n) (half_name_of w) _ n is (λ name named same. let q : notices.SeqOverflow name ≡ n = cc in
    subst IsNoticeSpelled q (half_named w name named))
overflow_spelled (w ∷ x ∷ ws) n is = cc

bad_spi_spelled : (ws : List (List ℕ)) (n : Notice) → bad_spi_in ws ≡ Ok n → IsNoticeSpelled n
unfolding bad_spi_in
bad_spi_spelled [] n is = cc
bad_spi_spelled (w ∷ []) n is =
    after (IsNoticeSpelled n) (number_in faults.Number (2 ^ 32 - 1) w) _ n is (λ spi _ same. let q : notices.BadSpi spi ≡ n = cc in
    subst IsNoticeSpelled q tt)
bad_spi_spelled (w ∷ x ∷ ws) n is = cc

notice_spelled : (w : List ℕ) (ws : List (List ℕ)) (n : Notice) → notice_of w ws ≡ Ok n → IsNoticeSpelled n
unfolding notice_of
notice_spelled w ws n is =
    let P : Type 0 = IsNoticeSpelled n in
    either P (bytes_eq w (codes "acquire")) _ _ n is (acquire_spelled ws n)
    (λ is2. either P (bytes_eq w (codes "expire")) _ _ n is2 (expire_spelled ws n)
    (λ is3. either P (bytes_eq w (codes "overflow")) _ _ n is3 (overflow_spelled ws n)
    (λ is4. passed P (bytes_eq w (codes "bad-spi")) _ faults.Word n is4 (λ _ read. bad_spi_spelled ws n read))))

noticed_under : (gateways : List Peer) (ws : List (List ℕ)) (x : Noticed) → noticed_in gateways ws ≡ Ok x
    → (is_named gateways x.gateway ≡ true) × IsNoticeSpelled x.notice
unfolding noticed_in noticed_of
noticed_under gateways [] x is = cc
noticed_under gateways (w ∷ []) x is = cc
noticed_under gateways (w ∷ s ∷ []) x is = cc
noticed_under gateways (w ∷ s ∷ n ∷ ws) x is =
    let P : Type 0 = (is_named gateways x.gateway ≡ true) × IsNoticeSpelled x.notice in
    after P (known_of gateways w) _ x is
    (λ g known more. after P (number_in faults.Number (2 ^ 32 - 1) s) _ x more
    (λ m _ more2. after P (notice_of n ws) _ x more2
    (λ y notice same. subst (λ (q : Noticed). (is_named gateways q.gateway ≡ true) × IsNoticeSpelled q.notice) (inside _ x same)
    (known_named gateways w g known, notice_spelled n ws y notice))))

-- ---- acts

pub session_act_under : (gateways : List Peer) (w : List ℕ) (ws : List (List ℕ)) (a : Act) → session_act_in gateways w ws ≡ Ok a
    → IsActUnder gateways a
unfolding session_act_in
session_act_under gateways w ws a is =
    let P : Type 0 = IsActUnder gateways a in
    either P (bytes_eq w (codes "order")) _ _ a is (order_under gateways ws a)
    (λ is2. either P (bytes_eq w (codes "handled")) _ _ a is2
    (λ read. after P (replied_in gateways ws) _ a read
    (λ r replied same. let q : acts.Handled r.place.gateway r.place.session r.place.request r.answer ≡ a = cc in
    subst (IsActUnder gateways) q (replied_under gateways ws r replied)))
    (λ is3. either P (bytes_eq w (codes "answered")) _ _ a is3
    (λ read. after P (replied_in gateways ws) _ a read
    (λ r replied same. let q : acts.Answered r.place.gateway r.place.session r.place.request r.answer ≡ a = cc in
    subst (IsActUnder gateways) q (replied_under gateways ws r replied)))
    (λ is4. either P (bytes_eq w (codes "notice")) _ _ a is4
    (λ read. after P (noticed_in gateways ws) _ a read
    (λ n noticed same. let q : acts.Notice n.gateway n.session n.notice ≡ a = cc in
    subst (IsActUnder gateways) q (noticed_under gateways ws n noticed)))
    (λ is5. passed P (bytes_eq w (codes "heard")) _ faults.Word a is5
    (λ _ read. after P (noticed_in gateways ws) _ a read
    (λ n noticed same. let q : acts.Heard n.gateway n.session n.notice ≡ a = cc in
    subst (IsActUnder gateways) q (noticed_under gateways ws n noticed)))))))
