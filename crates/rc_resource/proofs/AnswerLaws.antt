-- What is read of the replies to orders.
use Rattle.std.proofs.Common.{◌≡◌, ℕ, ◌≤◌, Bool, true, false, ◌&&◌, ◌++◌, if◌then◌else◌, List, [], ◌∷◌, Option, Some, None, Ok, IsUtf8, refl, arith}
use Rattle.std.specs.Prelude.{IfSome}
use Rattle.std.specs.List.{list_any}
use Rattle.serde_json.specs.Data.{depth}
use Rattle.serde_json.specs.Written.{compact_text}
use Rattle.ikeless_tree.specs.declared.sad.SadEntry.{SadEntry}
use Rattle.ikeless_tree.specs.declared.sad.SadRow.{SadRow}
use Rattle.ikeless_tree.specs.declared.sad.Tree.{Tree}
use Rattle.ikeless_tree.specs.declared.order.Order.{Order}
use Rattle.ikeless_tree.specs.declared.order.Order.TheVariants as orders
use Rattle.ikeless_tree.specs.declared.error.Tag.{Tag}
use Rattle.ikeless_tree.specs.declared.error.Tag.TheVariants as tags
use Rattle.ikeless_tree.specs.declared.error.App.{App}
use Rattle.ikeless_tree.specs.declared.error.App.TheVariants as apps
use Rattle.ikeless_tree.specs.Check.{sad_fault}
use Rattle.ikeless_tree.specs.Half.{is_inbound}
use Rattle.ikeless_tree.specs.Typed.{AreTypedRows}
use Rattle.ikeless_tree.proofs.WordLemmas.{tag_again, app_again}
use Rattle.json_tree.specs.SadEntryWritten.{ArePassed, row_data, row_items, with_state, all_rows}
use Rattle.json_values.specs.Shapes.{shape, only_in}
use Rattle.json_tree.proofs.FlatRows.{flat_all_rows}
use Rattle.json_tree.proofs.Passed.{passed_half}
use Rattle.reply_table.specs.declared.ask.Change.TheVariants as changes
use Rattle.reply_table.specs.Order.{ask_of}
use Rattle.reply_table.specs.Reply.{Outcome, At_half, reply, get_sad, refused, made, done, exists, spi_taken, full, absent, row_names, is_row, has_spi, is_sad_full, with_sad, without_row, new_row}
use Rattle.rc_answer.specs.Answers.{answer_of, error_in, error_of, halves_in, name_in, names_in, names_of}
use Rattle.rc_resource.specs.Errors.{error_data}
use Rattle.rc_resource.specs.Laws.{answer_by}
use Rattle.rc_resource.specs.Lists.{IsTree}
use Rattle.rc_resource.specs.Messages.{reply_message}
use Rattle.rc_resource.specs.Replies.{reply_of}
use Rattle.json_tree.proofs.Writable.{write_rows}
use Rattle.json_codec.proofs.JsonText.{json_again}
use Rattle.rc_resource.proofs.ErrorTexts.{write_error}

-- ---- errors

shallow_error : (app : App) (path : Option (List ℕ)) (tag : Tag) → depth (error_data app path tag) ≤ 127
shallow_error app None tag = omega arith
shallow_error app (Some pointer) tag = omega arith

error_found : (app : App) (path : Option (List ℕ)) (tag : Tag) → error_in (error_data app path tag) ≡ Ok (record { tag = tag; app = app })
unfolding shape only_in
error_found app None tag = rw (tag_again tag, app_again app) refl
error_found app (Some pointer) tag = rw (tag_again tag, app_again app) refl

-- the body of a refusal is read as its tags
pub error_again : (app : App) (path : Option (List ℕ)) (tag : Tag) → IfSome path IsUtf8 → error_of (compact_text (error_data app path tag))
    ≡ Ok (record { tag = tag; app = app })
unfolding error_of
error_again app path tag utf8 = rw (json_again (error_data app path tag) (write_error app path tag utf8) (shallow_error app path tag))
    (error_found app path tag)

-- ---- names

name_again : (r : SadRow) → sad_fault r.entry ≡ None → name_in (row_data r) ≡ Ok r.entry.name
unfolding row_data with_state
name_again r h = rw (passed_half r.entry h) refl

each_again : (rs : List SadRow) → ArePassed rs → names_in (row_items rs) ≡ Ok (row_names rs)
each_again [] h = refl
each_again (r ∷ rs) h = rw (name_again r h.0, each_again rs h.1) refl

halves_found : (rs : List SadRow) → ArePassed rs → halves_in (all_rows rs) ≡ Ok (row_names rs)
unfolding shape only_in
halves_found rs h = each_again rs h

names_again : (rs : List SadRow) → AreTypedRows rs → ArePassed rs → names_of (compact_text (all_rows rs)) ≡ Ok (row_names rs)
unfolding names_of
names_again rs typed h =
    let shallow : depth (all_rows rs) ≤ 8 = (flat_all_rows rs).shallow in
    rw (json_again (all_rows rs) (write_rows rs typed h) (omega arith)) (halves_found rs h)

-- ---- answers

abbrev Reads : Order → Outcome → Type 0
Reads o r = answer_of o (reply_message (reply_of r)) ≡ Ok (answer_by r)

either : (o : Order) (b : Bool) (x y : Outcome) → Reads o x → Reads o y → Reads o (if b then x else y)
either o true x y p q = p
either o false x y p q = q

shown_again : (t : Tree) → IsTree t → AreTypedRows t.sad → Reads orders.Read (get_sad t)
shown_again t is typed = rw (names_again t.sad typed is.halves) refl

refused_put : (e : SadEntry) (tag : Tag) (app : App) (t : Tree) → Reads (orders.Put e) (refused 409 tag app t)
refused_put e tag app t = rw (error_again app None tag tt) refl

refused_remove : (name : List ℕ) (tag : Tag) (app : App) (t : Tree) → Reads (orders.Remove name) (refused 404 tag app t)
refused_remove name tag app t = rw (error_again app None tag tt) refl

put_again : (t : Tree) (e : SadEntry) → Reads (orders.Put e) (reply t (ask_of (orders.Put e)))
unfolding reply
put_again t e =
    let m : Outcome = made (At_half e.name) (changes.Put e) (with_sad t (t.sad ++ new_row e ∷ [])) in
    let f : Outcome = if is_sad_full t.sad then full t else m in
    let s : Outcome = if is_inbound e.name && has_spi e.spi t.sad then spi_taken t else f in
    either (orders.Put e) (list_any (is_row e.name) t.sad) (exists t) s (refused_put e tags.ResourceDenied apps.Exists t)
    (either (orders.Put e) (is_inbound e.name && has_spi e.spi t.sad) (spi_taken t) f (refused_put e tags.ResourceDenied apps.SpiTaken t)
    (either (orders.Put e) (is_sad_full t.sad) (full t) m (refused_put e tags.ResourceDenied apps.Full t) refl))

remove_again : (t : Tree) (name : List ℕ) → Reads (orders.Remove name) (reply t (ask_of (orders.Remove name)))
unfolding reply
remove_again t name =
    either (orders.Remove name) (list_any (is_row name) t.sad) (done (changes.Gone name) (with_sad t (without_row name t.sad))) (absent t)
    refl (refused_remove name tags.InvalidValue apps.Absent t)

pub reply_again : (t : Tree) (o : Order) → IsTree t → AreTypedRows t.sad → answer_of o (reply_message (reply_of (reply t (ask_of o)))) ≡ Ok
    (answer_by (reply t (ask_of o)))
unfolding reply
reply_again t orders.Read is typed = shown_again t is typed
reply_again t (orders.Policy list) is typed = refl
reply_again t (orders.Put e) is typed = put_again t e
reply_again t (orders.Remove name) is typed = remove_again t name
