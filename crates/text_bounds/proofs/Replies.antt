-- Every reply can be written.
use Rattle.std.proofs.Common.{◌≡◌, ◌≤◌, ◌&&◌, ◌++◌, not, ℕ, Bool, true, false, List, [], ◌∷◌, codes, length, find, Option, Some, None, if◌then◌else◌, refl, subst, arith}
use Rattle.std.specs.Prelude.{IfSome}
use Rattle.std.specs.List.{AllByRecursion, list_any}
use Rattle.std.proofs.lemmas.List.Elements.{recursion_from_All}
use Rattle.serde_json.specs.Data.{array, item, no_items}
use Rattle.serde_json.specs.Written.{compact_text}
use Rattle.ikeless_tree.specs.declared.entry.SpdEntry.{SpdEntry}
use Rattle.ikeless_tree.specs.declared.order.Order.{Order}
use Rattle.ikeless_tree.specs.declared.order.Order.TheVariants as orders
use Rattle.ikeless_tree.specs.declared.error.App.{App}
use Rattle.ikeless_tree.specs.declared.error.App.TheVariants as apps
use Rattle.ikeless_tree.specs.declared.error.Tag.{Tag}
use Rattle.ikeless_tree.specs.declared.error.Tag.TheVariants as tags
use Rattle.ikeless_tree.specs.declared.sad.SadEntry.{SadEntry}
use Rattle.ikeless_tree.specs.declared.sad.SadRow.{SadRow}
use Rattle.ikeless_tree.specs.declared.sad.Tree.{Tree}
use Rattle.ikeless_tree.specs.Check.{is_named, is_spd_name, sad_fault, spd_fault}
use Rattle.rc_request.specs.Paths.{half_path, policy_path}
use Rattle.ikeless_tree.specs.Half.{is_inbound}
use Rattle.ikeless_tree.specs.Typed.{AreTypedPolicies, AreTypedRows, IsTypedPolicy, IsTypedRow, IsTypedTree}
use Rattle.json_values.specs.Written.{only}
use Rattle.json_tree.specs.SadEntryWritten.{ArePassed, all_rows, one_row, row_data, row_items}
use Rattle.json_tree.proofs.Passed.{half_octets, passed_half, passed_name, path_octets}
use Rattle.reply_table.specs.declared.ask.Ask.{Ask}
use Rattle.reply_table.specs.declared.ask.Ask.TheVariants as asks
use Rattle.reply_table.specs.declared.ask.Change.{Change}
use Rattle.reply_table.specs.declared.ask.Change.TheVariants as changes
use Rattle.reply_table.specs.declared.ask.Place.{Place}
use Rattle.reply_table.specs.Order.{ask_of}
use Rattle.reply_table.specs.Reply.{At_half, At_policy, Outcome, Shown, Half, Policies, Policy, absent, done, exists, full, get_sad, has_point, has_policy, has_spi, is_row, is_sad_full, is_spd_full, made, new_row, no_point, post_sad, post_spd, put_at, put_spd_entry, refused, replaced, reply, show_half, show_policy, shows, spi_taken, with_sad, with_spd, without_policy, without_row}
use Rattle.rc_http.specs.Written.{IsWritableResponse}
use Rattle.rc_request.specs.Asks.{IsAsk}
use Rattle.rc_resource.specs.Lists.{IsTree}
use Rattle.rc_resource.specs.Messages.{reply_message, IsOrder}
use Rattle.rc_resource.specs.Replies.{reply_of, shown_text}
use Rattle.notice_lines.proofs.Text.{AreSizedItems, sized_array, sized_item, sized_no_items}
use Rattle.text_bounds.proofs.Errors.{error_size, status_200, status_400, status_404, status_409}
use Rattle.text_bounds.proofs.Fields.{IsPlainStatus, done_writable, made_writable, reply_writable}
use Rattle.text_bounds.proofs.Names.{half_size, policy_size}
use Rattle.text_bounds.proofs.Orders.{half_is_path, passed_entry, passed_policies, policies_size, policy_is_path, policy_text_size}
use Rattle.text_bounds.proofs.Values.{AreSizedHalves, IsSizedHalf, IsSizedPolicy, same, sized_only, sized_row, sized_rows}

-- the response of an outcome can be written
abbrev Sends : Outcome → Type 0
Sends o = IsWritableResponse (reply_message (reply_of o))

either : (b : Bool) (x y : Outcome) → Sends x → Sends y → Sends (if b then x else y)
either true x y p q = p
either false x y p q = q

sends_shown : (t : Tree) (s : Shown) → length (shown_text s) ≤ 16777216 → Sends (shows t s)
sends_shown t s short = reply_writable (reply_of (shows t s)) status_200 short

sends_refused : (status : ℕ) (tag : Tag) (app : App) (t : Tree) → IsPlainStatus status → Sends (refused status tag app t)
sends_refused status tag app t s =
    let size = error_size app None tag tt in
    reply_writable (reply_of (refused status tag app t)) s (omega (arith, size))

sends_done : (c : Change) (t : Tree) → Sends (done c t)
sends_done c t = done_writable

sends_policy_made : (name : List ℕ) (c : Change) (t : Tree) → (e : SpdEntry) → e.name ≡ name → spd_fault (e ∷ []) ≡ None
    → Sends (made (At_policy name) c t)
sends_policy_made name c t e is h =
    let named = subst (λ n. is_spd_name n ≡ true) is (passed_name e h) in
    let path = policy_is_path name (path_octets name named) (policy_size name named) in
    let short = path.size in
    made_writable (policy_path name) path.seen (omega (arith, short))

sends_half_made : (c : Change) (t : Tree) (e : SadEntry) → sad_fault e ≡ None → Sends (made (At_half e.name) c t)
sends_half_made c t e h =
    let named = passed_half e h in
    let path = half_is_path e.name (half_octets e.name named) (half_size e.name named) in
    let short = path.size in
    made_writable (half_path e.name) path.seen (omega (arith, short))

-- ---- what is found

find_by : {X : Type 0} (P : X → Type 0) (x : X) (rest : Option X) (b : Bool) → P x → IfSome rest P → IfSome (if b then Some x else rest) P
find_by P x rest true p q = p
find_by P x rest false p q = q

found : {X : Type 0} (P : X → Type 0) (p : X → Bool) (xs : List X) → AllByRecursion P xs → IfSome (find p xs) P
found P p [] all = tt
found P p (x ∷ xs) all = find_by P x (find p xs) (p x) all.0 (found P p xs all.1)

-- ---- policies

abbrev IsEntry : SpdEntry → Type 0
IsEntry e = IsSizedPolicy e × IsTypedPolicy e

are_entries : (es : List SpdEntry) → AllByRecursion IsSizedPolicy es → AllByRecursion IsTypedPolicy es → AllByRecursion IsEntry es
are_entries [] is h = tt
are_entries (e ∷ es) is h = ((is.0, h.0), are_entries es is.1 h.1)

sends_policy : (t : Tree) (o : Option SpdEntry) → IfSome o IsEntry → Sends (show_policy t o)
sends_policy t None is = sends_refused 404 tags.InvalidValue apps.Absent t status_404
sends_policy t (Some e) is = let size = policy_text_size e is.0 is.1 in sends_shown t (Policy e) (omega (arith, size))

sends_posted_policy : (t : Tree) (e : SpdEntry) (place : Place) → spd_fault (e ∷ []) ≡ None → Sends (post_spd t e place)
sends_posted_policy t e place h =
    let m : Outcome = made (At_policy e.name) changes.Spd (with_spd t (put_at place e t.spd)) in
    let p : Outcome = if not (has_point place t.spd) then no_point t else m in
    let f : Outcome = if is_spd_full t.spd then full t else p in
    either (has_policy e.name t.spd) (exists t) f (sends_refused 409 tags.ResourceDenied apps.Exists t status_409)
    (either (is_spd_full t.spd) (full t) p (sends_refused 409 tags.ResourceDenied apps.Full t status_409)
    (either (not (has_point place t.spd)) (no_point t) m (sends_refused 400 tags.InvalidValue apps.Point t status_400)
    (sends_policy_made e.name changes.Spd (with_spd t (put_at place e t.spd)) e refl h)))

sends_put_policy : (t : Tree) (e : SpdEntry) → spd_fault (e ∷ []) ≡ None → Sends (put_spd_entry t e)
sends_put_policy t e h =
    let d : Outcome = done changes.Spd (with_spd t (replaced e t.spd)) in
    let m : Outcome = made (At_policy e.name) changes.Spd (with_spd t (t.spd ++ e ∷ [])) in
    let f : Outcome = if is_spd_full t.spd then full t else m in
    either (has_policy e.name t.spd) d f (sends_done changes.Spd (with_spd t (replaced e t.spd)))
    (either (is_spd_full t.spd) (full t) m (sends_refused 409 tags.ResourceDenied apps.Full t status_409)
    (sends_policy_made e.name changes.Spd (with_spd t (t.spd ++ e ∷ [])) e refl h))

-- ---- halves

sized_halves : (rs : List SadRow) → ArePassed rs → AreSizedHalves rs
sized_halves [] h = tt
sized_halves (r ∷ rs) h = (passed_entry r.entry h.0, sized_halves rs h.1)

rows_size : (rs : List SadRow) → ArePassed rs → length rs ≤ 4096 → AreTypedRows rs → length (compact_text (all_rows rs)) ≤ 9138221
rows_size rs is few typed =
    let all = (sized_rows rs (sized_halves rs is) (recursion_from_All IsTypedRow rs typed)).size in
    let items : AreSizedItems 9138177 (row_items rs) = record { size = omega (arith, all, few) } in
    (sized_only 9138193 22 (codes "ietf-i2nsf-ikeless:sad") (only (codes "sad-entry") (array (row_items rs))) refl (same 22)
    (sized_only 9138178 9 (codes "sad-entry") (array (row_items rs)) refl (same 9) (sized_array 9138177 (row_items rs) items))).size

row_size : (r : SadRow) → IsSizedHalf r.entry → IsTypedRow r → length (compact_text (one_row r)) ≤ 2267
row_size r is h =
    (sized_only 2233 28 (codes "ietf-i2nsf-ikeless:sad-entry") (array (item (row_data r) no_items)) refl (same 28)
    (sized_array 2232 _ (sized_item 1 2230 (row_data r) no_items (sized_row r is h) sized_no_items))).size

abbrev IsRow : SadRow → Type 0
IsRow r = IsSizedHalf r.entry × IsTypedRow r

are_rows : (rs : List SadRow) → AreSizedHalves rs → AllByRecursion IsTypedRow rs → AllByRecursion IsRow rs
are_rows [] is h = tt
are_rows (r ∷ rs) is h = ((is.0, h.0), are_rows rs is.1 h.1)

sends_half : (t : Tree) (o : Option SadRow) → IfSome o IsRow → Sends (show_half t o)
sends_half t None is = sends_refused 404 tags.InvalidValue apps.Absent t status_404
sends_half t (Some r) is = let size = row_size r is.0 is.1 in sends_shown t (Half r) (omega (arith, size))

sends_halves : (t : Tree) → IsTree t → AreTypedRows t.sad → Sends (get_sad t)
sends_halves t is typed =
    let size = rows_size t.sad is.halves is.few typed in
    reply_writable (reply_of (get_sad t)) status_200 (omega (arith, size))

sends_posted_half : (t : Tree) (e : SadEntry) → sad_fault e ≡ None → Sends (post_sad t e)
sends_posted_half t e h =
    let m : Outcome = made (At_half e.name) (changes.Put e) (with_sad t (t.sad ++ new_row e ∷ [])) in
    let f : Outcome = if is_sad_full t.sad then full t else m in
    let s : Outcome = if is_inbound e.name && has_spi e.spi t.sad then spi_taken t else f in
    either (list_any (is_row e.name) t.sad) (exists t) s (sends_refused 409 tags.ResourceDenied apps.Exists t status_409)
    (either (is_inbound e.name && has_spi e.spi t.sad) (spi_taken t) f (sends_refused 409 tags.ResourceDenied apps.SpiTaken t status_409)
    (either (is_sad_full t.sad) (full t) m (sends_refused 409 tags.ResourceDenied apps.Full t status_409)
    (sends_half_made (changes.Put e) (with_sad t (t.sad ++ new_row e ∷ [])) e h)))

-- ---- asks

pub reply_sent : (t : Tree) (a : Ask) → IsTree t → IsTypedTree t → IsAsk a → IsWritableResponse (reply_message (reply_of (reply t a)))
unfolding reply
reply_sent t asks.GetSpd is typed h =
    let size = policies_size t.spd is.policies typed.spd in sends_shown t (Policies t.spd) (omega (arith, size))
reply_sent t (asks.PutSpd list) is typed h = sends_done changes.Spd (with_spd t list)
reply_sent t (asks.PostSpd e place) is typed h = sends_posted_policy t e place h
reply_sent t (asks.GetSpdEntry name) is typed h =
    sends_policy t (find (is_named name) t.spd)
    (found IsEntry (is_named name) t.spd (are_entries t.spd (passed_policies t.spd is.policies)
    (recursion_from_All IsTypedPolicy t.spd typed.spd)))
reply_sent t (asks.PutSpdEntry e) is typed h = sends_put_policy t e h
reply_sent t (asks.DeleteSpdEntry name) is typed h =
    either (has_policy name t.spd) (done changes.Spd (with_spd t (without_policy name t.spd))) (absent t) (sends_done changes.Spd
    (with_spd t (without_policy name t.spd))) (sends_refused 404 tags.InvalidValue apps.Absent t status_404)
reply_sent t asks.GetSad is typed h = sends_halves t is typed.sad
reply_sent t (asks.PostSad e) is typed h = sends_posted_half t e h
reply_sent t (asks.GetSadEntry name) is typed h =
    sends_half t (find (is_row name) t.sad)
    (found IsRow (is_row name) t.sad (are_rows t.sad (sized_halves t.sad is.halves) (recursion_from_All IsTypedRow t.sad typed.sad)))
reply_sent t (asks.DeleteSad name) is typed h =
    either (list_any (is_row name) t.sad) (done (changes.Gone name) (with_sad t (without_row name t.sad))) (absent t) (sends_done
    (changes.Gone name) (with_sad t (without_row name t.sad))) (sends_refused 404 tags.InvalidValue apps.Absent t status_404)

order_asks : (o : Order) → IsOrder o → IsAsk (ask_of o)
order_asks orders.Read h = tt
order_asks (orders.Policy list) h = h
order_asks (orders.Put e) h = h
order_asks (orders.Remove name) h = tt

pub order_reply_sent : (t : Tree) (o : Order) → IsTree t → AreTypedRows t.sad → AreTypedPolicies t.spd → IsOrder o
    → IsWritableResponse (reply_message (reply_of (reply t (ask_of o))))
order_reply_sent t o is rows policies h = reply_sent t (ask_of o) is (record { spd = policies; sad = rows }) (order_asks o h)
