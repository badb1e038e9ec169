-- What a reply says of the databases before it.
use Rattle.std.proofs.Common.{◌≡◌, Bool, true, false, not, ◌&&◌, ◌++◌, [], ◌∷◌, Option, Some, None, find, refl, if◌then◌else◌}
use Rattle.std.specs.List.{list_any}
use Rattle.ikeless_tree.specs.declared.entry.SpdEntry.{SpdEntry}
use Rattle.ikeless_tree.specs.declared.sad.SadEntry.{SadEntry}
use Rattle.ikeless_tree.specs.declared.sad.SadRow.{SadRow}
use Rattle.ikeless_tree.specs.declared.sad.Tree.{Tree}
use Rattle.ikeless_tree.specs.Check.{is_named}
use Rattle.ikeless_tree.specs.Half.{is_inbound}
use Rattle.reply_table.specs.declared.ask.Place.{Place}
use Rattle.reply_table.specs.declared.ask.Ask.{Ask}
use Rattle.reply_table.specs.declared.ask.Ask.TheVariants as asks
use Rattle.reply_table.specs.declared.ask.Change.TheVariants as changes
use Rattle.reply_table.specs.Reply.{Outcome, reply, made, done, exists, spi_taken, full, absent, no_point, has_policy, is_spd_full, has_point, put_at, with_spd, replaced, without_policy, post_spd, put_spd_entry, show_policy, At_policy, At_half, is_row, has_spi, is_sad_full, new_row, with_sad, without_row, post_sad, show_half, Fits, Makes}

pick : (t : Tree) (b : Bool) (x y : Outcome) → (b ≡ true → Fits t x.change) → (b ≡ false → Fits t y.change)
    → Fits t (if b then x else y).change
pick t true x y p q = p refl
pick t false x y p q = q refl

fits-post_spd : (t : Tree) (e : SpdEntry) (place : Place) → Fits t (post_spd t e place).change
fits-post_spd t e place =
    let m : Outcome = made (At_policy e.name) changes.Spd (with_spd t (put_at place e t.spd)) in
    let p : Outcome = if not (has_point place t.spd) then no_point t else m in
    let f : Outcome = if is_spd_full t.spd then full t else p in
    pick t (has_policy e.name t.spd) (exists t) f (λ _. tt)
    (λ _. pick t (is_spd_full t.spd) (full t) p (λ _. tt) (λ _. pick t (not (has_point place t.spd)) (no_point t) m (λ _. tt) (λ _. tt)))

fits-put_spd_entry : (t : Tree) (e : SpdEntry) → Fits t (put_spd_entry t e).change
fits-put_spd_entry t e =
    let m : Outcome = made (At_policy e.name) changes.Spd (with_spd t (t.spd ++ e ∷ [])) in
    let f : Outcome = if is_spd_full t.spd then full t else m in
    pick t (has_policy e.name t.spd) (done changes.Spd (with_spd t (replaced e t.spd))) f (λ _. tt)
    (λ _. pick t (is_spd_full t.spd) (full t) m (λ _. tt) (λ _. tt))

fits-show_policy : (t : Tree) (e : Option SpdEntry) → Fits t (show_policy t e).change
fits-show_policy t None = tt
fits-show_policy t (Some e) = tt

fits-show_half : (t : Tree) (r : Option SadRow) → Fits t (show_half t r).change
fits-show_half t None = tt
fits-show_half t (Some r) = tt

fits-post_sad : (t : Tree) (e : SadEntry) → Fits t (post_sad t e).change
fits-post_sad t e =
    let m : Outcome = made (At_half e.name) (changes.Put e) (with_sad t (t.sad ++ new_row e ∷ [])) in
    let f : Outcome = if is_sad_full t.sad then full t else m in
    let s : Outcome = if is_inbound e.name && has_spi e.spi t.sad then spi_taken t else f in
    pick t (list_any (is_row e.name) t.sad) (exists t) s (λ _. tt)
    (λ new. pick t (is_inbound e.name && has_spi e.spi t.sad) (spi_taken t) f (λ _. tt)
    (λ free. pick t (is_sad_full t.sad) (full t) m (λ _. tt) (λ room. (new, free, room))))

pub fits-reply : (t : Tree) (a : Ask) → Fits t (reply t a).change
unfolding reply
fits-reply t asks.GetSpd = tt
fits-reply t (asks.PutSpd list) = tt
fits-reply t (asks.PostSpd e place) = fits-post_spd t e place
fits-reply t (asks.GetSpdEntry name) = fits-show_policy t (find (is_named name) t.spd)
fits-reply t (asks.PutSpdEntry e) = fits-put_spd_entry t e
fits-reply t (asks.DeleteSpdEntry name) =
    pick t (has_policy name t.spd) (done changes.Spd (with_spd t (without_policy name t.spd))) (absent t) (λ _. tt) (λ _. tt)
fits-reply t asks.GetSad = tt
fits-reply t (asks.PostSad e) = fits-post_sad t e
fits-reply t (asks.GetSadEntry name) = fits-show_half t (find (is_row name) t.sad)
fits-reply t (asks.DeleteSad name) =
    pick t (list_any (is_row name) t.sad) (done (changes.Gone name) (with_sad t (without_row name t.sad))) (absent t) (λ there. there)
    (λ _. tt)

-- ---- what is there after it

makes-if : (t : Tree) (b : Bool) (x y : Outcome) → Makes t x x.change → Makes t y y.change
    → Makes t (if b then x else y) (if b then x else y).change
makes-if t true x y p q = p
makes-if t false x y p q = q

makes-post_spd : (t : Tree) (e : SpdEntry) (place : Place) → Makes t (post_spd t e place) (post_spd t e place).change
makes-post_spd t e place =
    let m : Outcome = made (At_policy e.name) changes.Spd (with_spd t (put_at place e t.spd)) in
    let p : Outcome = if not (has_point place t.spd) then no_point t else m in
    let f : Outcome = if is_spd_full t.spd then full t else p in
    makes-if t (has_policy e.name t.spd) (exists t) f (refl, refl)
    (makes-if t (is_spd_full t.spd) (full t) p (refl, refl) (makes-if t (not (has_point place t.spd)) (no_point t) m (refl, refl)
    (refl, refl)))

makes-put_spd_entry : (t : Tree) (e : SpdEntry) → Makes t (put_spd_entry t e) (put_spd_entry t e).change
makes-put_spd_entry t e =
    let m : Outcome = made (At_policy e.name) changes.Spd (with_spd t (t.spd ++ e ∷ [])) in
    let f : Outcome = if is_spd_full t.spd then full t else m in
    makes-if t (has_policy e.name t.spd) (done changes.Spd (with_spd t (replaced e t.spd))) f (refl, refl)
    (makes-if t (is_spd_full t.spd) (full t) m (refl, refl) (refl, refl))

makes-show_policy : (t : Tree) (e : Option SpdEntry) → Makes t (show_policy t e) (show_policy t e).change
makes-show_policy t None = (refl, refl)
makes-show_policy t (Some e) = (refl, refl)

makes-show_half : (t : Tree) (r : Option SadRow) → Makes t (show_half t r) (show_half t r).change
makes-show_half t None = (refl, refl)
makes-show_half t (Some r) = (refl, refl)

makes-post_sad : (t : Tree) (e : SadEntry) → Makes t (post_sad t e) (post_sad t e).change
makes-post_sad t e =
    let m : Outcome = made (At_half e.name) (changes.Put e) (with_sad t (t.sad ++ new_row e ∷ [])) in
    let f : Outcome = if is_sad_full t.sad then full t else m in
    let s : Outcome = if is_inbound e.name && has_spi e.spi t.sad then spi_taken t else f in
    makes-if t (list_any (is_row e.name) t.sad) (exists t) s (refl, refl)
    (makes-if t (is_inbound e.name && has_spi e.spi t.sad) (spi_taken t) f (refl, refl)
    (makes-if t (is_sad_full t.sad) (full t) m (refl, refl) (refl, refl)))

pub makes-reply : (t : Tree) (a : Ask) → Makes t (reply t a) (reply t a).change
unfolding reply
makes-reply t asks.GetSpd = (refl, refl)
makes-reply t (asks.PutSpd list) = (refl, refl)
makes-reply t (asks.PostSpd e place) = makes-post_spd t e place
makes-reply t (asks.GetSpdEntry name) = makes-show_policy t (find (is_named name) t.spd)
makes-reply t (asks.PutSpdEntry e) = makes-put_spd_entry t e
makes-reply t (asks.DeleteSpdEntry name) =
    makes-if t (has_policy name t.spd) (done changes.Spd (with_spd t (without_policy name t.spd))) (absent t) (refl, refl) (refl, refl)
makes-reply t asks.GetSad = (refl, refl)
makes-reply t (asks.PostSad e) = makes-post_sad t e
makes-reply t (asks.GetSadEntry name) = makes-show_half t (find (is_row name) t.sad)
makes-reply t (asks.DeleteSad name) =
    makes-if t (list_any (is_row name) t.sad) (done (changes.Gone name) (with_sad t (without_row name t.sad))) (absent t) (refl, refl)
    (refl, refl)
