-- Every answer to a request has one of the statuses, with its tag.
use Rattle.std.proofs.Common.{◌≡◌, ℕ, ◌+◌, Bool, true, false, not, ◌&&◌, List, [], ◌∷◌, ◌++◌, find, Option, Some, None, Result, Ok, Err, refl, if◌then◌else◌}
use Rattle.std.proofs.lemmas.Bool.{and_from}
use Rattle.std.specs.List.{list_all, list_any}
use Rattle.ikeless_tree.specs.declared.entry.SpdEntry.{SpdEntry}
use Rattle.ikeless_tree.specs.declared.sad.SadEntry.{SadEntry}
use Rattle.ikeless_tree.specs.declared.sad.SadRow.{SadRow}
use Rattle.ikeless_tree.specs.declared.sad.Tree.{Tree}
use Rattle.ikeless_tree.specs.Check.{is_named}
use Rattle.ikeless_tree.specs.Half.{is_inbound}
use Rattle.reply_table.specs.declared.ask.Ask.{Ask}
use Rattle.reply_table.specs.declared.ask.Ask.TheVariants as asks
use Rattle.reply_table.specs.declared.ask.Change.{Change}
use Rattle.reply_table.specs.declared.ask.Change.TheVariants as changes
use Rattle.reply_table.specs.declared.ask.Place.{Place}
use Rattle.reply_table.specs.Reply as table
use Rattle.hist_acts.specs.declared.act.Act.{Act}
use Rattle.hist_acts.specs.declared.act.Act.TheVariants as acts
use Rattle.hist_acts.specs.Sessions as sessions
use Rattle.hist_gateway.specs.Rows.{tree_of}
use Rattle.hist_gateway.specs.Handle.{Fault, answer_of, change_acts, requests}
use Rattle.hist_gateway.specs.Block.{Gateway, Handle, gw_block}
use Rattle.hist_gateway.specs.Statuses.{is_answer_status, MayCome, has_answer_status}

-- ---- the reply table

-- a reply has one of the statuses
abbrev Answers : table.Outcome → Type 0
Answers r = is_answer_status r.tag r.status ≡ true

either : (b : Bool) (x y : table.Outcome) → Answers x → Answers y → Answers (if b then x else y)
either true x y p q = p
either false x y p q = q

posted : (t : Tree) (e : SpdEntry) (place : Place) → Answers (table.post_spd t e place)
posted t e place =
    let made : table.Outcome = table.made (table.At_policy e.name) changes.Spd (table.with_spd t (table.put_at place e t.spd)) in
    let point : table.Outcome = if not (table.has_point place t.spd) then table.no_point t else made in
    let room : table.Outcome = if table.is_spd_full t.spd then table.full t else point in
    either (table.has_policy e.name t.spd) (table.exists t) room refl
    (either (table.is_spd_full t.spd) (table.full t) point refl (either (not (table.has_point place t.spd)) (table.no_point t) made refl
    refl))

put : (t : Tree) (e : SpdEntry) → Answers (table.put_spd_entry t e)
put t e =
    let made : table.Outcome = table.made (table.At_policy e.name) changes.Spd (table.with_spd t (t.spd ++ e ∷ [])) in
    let room : table.Outcome = if table.is_spd_full t.spd then table.full t else made in
    either (table.has_policy e.name t.spd) (table.done changes.Spd (table.with_spd t (table.replaced e t.spd))) room refl
    (either (table.is_spd_full t.spd) (table.full t) made refl refl)

installed : (t : Tree) (e : SadEntry) → Answers (table.post_sad t e)
installed t e =
    let made : table.Outcome = table.made (table.At_half e.name) (changes.Put e) (table.with_sad t (t.sad ++ table.new_row e ∷ [])) in
    let room : table.Outcome = if table.is_sad_full t.sad then table.full t else made in
    let own : table.Outcome = if is_inbound e.name && table.has_spi e.spi t.sad then table.spi_taken t else room in
    either (list_any (table.is_row e.name) t.sad) (table.exists t) own refl
    (either (is_inbound e.name && table.has_spi e.spi t.sad) (table.spi_taken t) room refl
    (either (table.is_sad_full t.sad) (table.full t) made refl refl))

policy-shown : (t : Tree) (found : Option SpdEntry) → Answers (table.show_policy t found)
policy-shown t None = refl
policy-shown t (Some e) = refl

half-shown : (t : Tree) (found : Option SadRow) → Answers (table.show_half t found)
half-shown t None = refl
half-shown t (Some r) = refl

replies : (t : Tree) (ask : Ask) → Answers (table.reply t ask)
unfolding table.reply
replies t asks.GetSpd = refl
replies t (asks.PutSpd list) = refl
replies t (asks.PostSpd e place) = posted t e place
replies t (asks.GetSpdEntry name) = policy-shown t (find (is_named name) t.spd)
replies t (asks.PutSpdEntry e) = put t e
replies t (asks.DeleteSpdEntry name) =
    either (table.has_policy name t.spd) (table.done changes.Spd (table.with_spd t (table.without_policy name t.spd))) (table.absent t) refl
    refl
replies t asks.GetSad = refl
replies t (asks.PostSad e) = installed t e
replies t (asks.GetSadEntry name) = half-shown t (find (table.is_row name) t.sad)
replies t (asks.DeleteSad name) =
    either (list_any (table.is_row name) t.sad) (table.done (changes.Gone name) (table.with_sad t (table.without_row name t.sad)))
    (table.absent t) refl refl

-- ---- a request

changed : (g : List ℕ) (r : table.Outcome) (c : Change) (last : Act) → has_answer_status last ≡ true
    → list_all has_answer_status (change_acts g r c ++ last ∷ []) ≡ true
changed g r changes.Nothing last e = and_from (has_answer_status last) true e refl
changed g r changes.Spd last e = and_from (has_answer_status last) true e refl
changed g r (changes.Put x) last e = and_from (has_answer_status last) true e refl
changed g r (changes.Gone name) last e = and_from (has_answer_status last) true e refl

pub request-statuses : (c : Gateway) (h : List Act) (request : Result Ask Fault) → MayCome (Handle request)
    → list_all has_answer_status (gw_block c h (Handle request)) ≡ true
request-statuses c h (Ok ask) m =
    let r : table.Outcome = table.reply (tree_of c.name h) ask in
    changed c.name r r.change (acts.Handled c.name (sessions.session_taken c.name h) (requests c.name h + 1) (answer_of r))
    (replies (tree_of c.name h) ask)
request-statuses c h (Err fault) m = and_from (is_answer_status (Some fault.tag) fault.status) true m refl
