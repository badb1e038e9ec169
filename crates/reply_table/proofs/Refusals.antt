-- What a refusal leaves.
use Rattle.std.proofs.Common.{◌≡◌, ℕ, ◌≤◌, Bool, true, false, not, List, Option, Some, None, find, refl, inl, inr, ◌⊎◌, if◌then◌else◌, arith}
use Rattle.std.specs.List.{list_any}
use Rattle.ikeless_tree.specs.declared.entry.SpdEntry.{SpdEntry}
use Rattle.ikeless_tree.specs.declared.sad.SadEntry.{SadEntry}
use Rattle.ikeless_tree.specs.declared.sad.SadRow.{SadRow}
use Rattle.ikeless_tree.specs.declared.sad.Tree.{Tree}
use Rattle.ikeless_tree.specs.Check.{is_named}
use Rattle.ikeless_tree.specs.Half.{is_inbound}
use Rattle.reply_table.specs.declared.ask.Place.{Place}
use Rattle.reply_table.specs.declared.ask.Ask.{Ask}
use Rattle.reply_table.specs.declared.ask.Ask.TheVariants as asks
use Rattle.reply_table.specs.declared.ask.Change.{Change}
use Rattle.reply_table.specs.declared.ask.Change.TheVariants as changes
use Rattle.reply_table.specs.Reply.{Outcome, Location, reply, made, done, exists, spi_taken, full, absent, no_point, has_policy, is_spd_full, has_point, put_at, with_spd, replaced, without_policy, post_spd, put_spd_entry, show_policy, At_policy, At_half, is_row, has_spi, is_sad_full, new_row, with_sad, without_row, post_sad, show_half}
use Rattle.std.specs.Prelude.{◌++◌, ◌∷◌, [], ◌&&◌}

abbrev pub Harmless : Tree → Outcome → Type 0
Harmless t o = 400 ≤ o.status → (o.tree ≡ t) × (o.change ≡ changes.Nothing)

either : (t : Tree) (b : Bool) (x y : Outcome) → Harmless t x → Harmless t y → Harmless t (if b then x else y)
either t true x y p q = p
either t false x y p q = q

good-made : (t : Tree) (l : Location) (c : Change) (after : Tree) → Harmless t (made l c after)
good-made t l c after e = let no : ⊥ = omega (arith, e) in absurd no

good-done : (t : Tree) (c : Change) (after : Tree) → Harmless t (done c after)
good-done t c after e = let no : ⊥ = omega (arith, e) in absurd no

good-post_spd : (t : Tree) (e : SpdEntry) (place : Place) → Harmless t (post_spd t e place)
good-post_spd t e place =
    let m : Outcome = made (At_policy e.name) changes.Spd (with_spd t (put_at place e t.spd)) in
    let p : Outcome = if not (has_point place t.spd) then no_point t else m in
    let f : Outcome = if is_spd_full t.spd then full t else p in
    either t (has_policy e.name t.spd) (exists t) f (λ _. (refl, refl))
    (either t (is_spd_full t.spd) (full t) p (λ _. (refl, refl))
    (either t (not (has_point place t.spd)) (no_point t) m (λ _. (refl, refl))
    (good-made t (At_policy e.name) changes.Spd (with_spd t (put_at place e t.spd)))))

good-put_spd_entry : (t : Tree) (e : SpdEntry) → Harmless t (put_spd_entry t e)
good-put_spd_entry t e =
    let m : Outcome = made (At_policy e.name) changes.Spd (with_spd t (t.spd ++ e ∷ [])) in
    let f : Outcome = if is_spd_full t.spd then full t else m in
    either t (has_policy e.name t.spd) (done changes.Spd (with_spd t (replaced e t.spd))) f
    (good-done t changes.Spd (with_spd t (replaced e t.spd)))
    (either t (is_spd_full t.spd) (full t) m (λ _. (refl, refl))
    (good-made t (At_policy e.name) changes.Spd (with_spd t (t.spd ++ e ∷ []))))

good-show_policy : (t : Tree) (e : Option SpdEntry) → Harmless t (show_policy t e)
good-show_policy t None = λ _. (refl, refl)
good-show_policy t (Some e) = λ _. (refl, refl)

good-show_half : (t : Tree) (r : Option SadRow) → Harmless t (show_half t r)
good-show_half t None = λ _. (refl, refl)
good-show_half t (Some r) = λ _. (refl, refl)

good-post_sad : (t : Tree) (e : SadEntry) → Harmless t (post_sad t e)
good-post_sad t e =
    let m : Outcome = made (At_half e.name) (changes.Put e) (with_sad t (t.sad ++ new_row e ∷ [])) in
    let f : Outcome = if is_sad_full t.sad then full t else m in
    let s : Outcome = if is_inbound e.name && has_spi e.spi t.sad then spi_taken t else f in
    either t (list_any (is_row e.name) t.sad) (exists t) s (λ _. (refl, refl))
    (either t (is_inbound e.name && has_spi e.spi t.sad) (spi_taken t) f (λ _. (refl, refl))
    (either t (is_sad_full t.sad) (full t) m (λ _. (refl, refl))
    (good-made t (At_half e.name) (changes.Put e) (with_sad t (t.sad ++ new_row e ∷ [])))))

pub good-reply : (t : Tree) (a : Ask) → Harmless t (reply t a)
unfolding reply
good-reply t asks.GetSpd = λ _. (refl, refl)
good-reply t (asks.PutSpd list) = good-done t changes.Spd (with_spd t list)
good-reply t (asks.PostSpd e place) = good-post_spd t e place
good-reply t (asks.GetSpdEntry name) = good-show_policy t (find (is_named name) t.spd)
good-reply t (asks.PutSpdEntry e) = good-put_spd_entry t e
good-reply t (asks.DeleteSpdEntry name) = either t (has_policy name t.spd) (done changes.Spd (with_spd t (without_policy name t.spd)))
    (absent t) (good-done t changes.Spd (with_spd t (without_policy name t.spd))) (λ _. (refl, refl))
good-reply t asks.GetSad = λ _. (refl, refl)
good-reply t (asks.PostSad e) = good-post_sad t e
good-reply t (asks.GetSadEntry name) = good-show_half t (find (is_row name) t.sad)
good-reply t (asks.DeleteSad name) =
    either t (list_any (is_row name) t.sad) (done (changes.Gone name) (with_sad t (without_row name t.sad))) (absent t)
    (good-done t (changes.Gone name) (with_sad t (without_row name t.sad))) (λ _. (refl, refl))

-- the statuses of an order's reply
abbrev pub Is : ℕ → ℕ → Outcome → Type 0
Is a b o = (o.status ≡ a) ⊎ (o.status ≡ b)

either-is : (a b : ℕ) (c : Bool) (x y : Outcome) → Is a b x → Is a b y → Is a b (if c then x else y)
either-is a b true x y p q = p
either-is a b false x y p q = q

pub put-is : (t : Tree) (e : SadEntry) → Is 201 409 (reply t (asks.PostSad e))
unfolding reply
put-is t e =
    let m : Outcome = made (At_half e.name) (changes.Put e) (with_sad t (t.sad ++ new_row e ∷ [])) in
    let f : Outcome = if is_sad_full t.sad then full t else m in
    let s : Outcome = if is_inbound e.name && has_spi e.spi t.sad then spi_taken t else f in
    either-is 201 409 (list_any (is_row e.name) t.sad) (exists t) s (inr refl)
    (either-is 201 409 (is_inbound e.name && has_spi e.spi t.sad) (spi_taken t) f (inr refl)
    (either-is 201 409 (is_sad_full t.sad) (full t) m (inr refl) (inl refl)))

pub remove-is : (t : Tree) (name : List ℕ) → Is 204 404 (reply t (asks.DeleteSad name))
unfolding reply
remove-is t name = either-is 204 404 (list_any (is_row name) t.sad) (done (changes.Gone name) (with_sad t (without_row name t.sad)))
    (absent t) (inl refl) (inr refl)
