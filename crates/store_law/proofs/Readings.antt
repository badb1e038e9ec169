-- What the words of a half say.
use Rattle.std.proofs.Common.{◌≡◌, ℕ, zero, suc, not, ◌&&◌, ◌||◌, Bool, true, false, List, [], ◌∷◌, ◌++◌, is_none, map, slice_get, refl, sym, ap, ◌∙◌, arith, if◌then◌else◌}
use Rattle.std.proofs.lemmas.List.Folds.{list_any-append}
use Rattle.std.proofs.lemmas.Slice.Eq.{bytes_eq-Decides}
use Rattle.std.specs.Str.{bytes_eq}
use Rattle.std.specs.Option.{option_map}
use Rattle.ikeless_tree.specs.declared.sad.SadEntry.{SadEntry}
use Rattle.life_count.specs.Lifetime.{counts_of}
use Rattle.life_count.specs.Calls as lives
use Rattle.life_count.proofs.CallLemmas.{event-back}
use Rattle.sad_store.specs.declared.half.Half.{Half}
use Rattle.sad_store.specs.Install.{install_fault}
use Rattle.store_law.specs.Calls.{Call, Install, Remove, Next_number, Mark, Use, Look, Overflow, Session, did_all}
use Rattle.store_law.specs.Back.{befell, entries_without, half_of, has_entry_named, installed_at, is_entry_named, is_put, is_there, may_join, there}
use Rattle.store_law.proofs.Calls.{is-given}
use Rattle.store_law.proofs.OneCall.{life-run, name-sym, none-against}

-- ---- which halves are there

put-there : (name : List ℕ) (e : SadEntry) (es : List SadEntry) (b : Bool) →
    has_entry_named name (if b then es ++ e ∷ [] else es) ≡ ((bytes_eq e.name name && b) || has_entry_named name es)
put-there name e es true = let a = list_any-append (is_entry_named name) es (e ∷ []) in grind (arith, a)
put-there name e es false = grind arith

same-name : (x y z : List ℕ) → bytes_eq x y ≡ true → bytes_eq x z ≡ bytes_eq y z
same-name x y z same = ap (λ n. bytes_eq n z) ((bytes_eq-Decides x y).0 same)

removed-by : (name y : List ℕ) (e : SadEntry) (es : List SadEntry) (b c : Bool) → bytes_eq e.name y ≡ b → bytes_eq y name ≡ c →
    has_entry_named name (entries_without y es) ≡ (not (bytes_eq y name) && has_entry_named name es) →
    has_entry_named name (entries_without y (e ∷ es)) ≡ (not (bytes_eq y name) && has_entry_named name (e ∷ es))
removed-by name y e es true c own is ih =
    let same = same-name e.name y name own in
    rw own (grind (arith, ih, same))
removed-by name y e es false true own is ih =
    let turned : bytes_eq name e.name ≡ bytes_eq y e.name = sym (same-name y name e.name is) in
    let away : bytes_eq e.name name ≡ false = name-sym e.name name ∙ (turned ∙ (name-sym y e.name ∙ own)) in
    rw own (grind (arith, ih, away, is))
removed-by name y e es false false own is ih = rw own (grind (arith, ih, is))

removed-there : (name y : List ℕ) (es : List SadEntry) → has_entry_named name (entries_without y es) ≡ (not (bytes_eq y name)
    && has_entry_named name es)
removed-there name y [] = grind arith
removed-there name y (e ∷ es) = removed-by name y e es (bytes_eq e.name y) (bytes_eq y name) refl refl (removed-there name y es)

pub there-is : (name : List ℕ) (h : List Call) → has_entry_named name (there h) ≡ is_there name h
there-is name [] = refl
there-is name (Install e now ∷ h) = put-there name e (there h) (may_join e (there h)) ∙ ap (λ b. is_put e name h || b) (there-is name h)
there-is name (Remove y ∷ h) = removed-there name y (there h) ∙ ap (λ b. not (bytes_eq y name) && b) (there-is name h)
there-is name (Next_number i ∷ h) = there-is name h
there-is name (Mark i n ∷ h) = there-is name h
there-is name (Use i size now ∷ h) = there-is name h
there-is name (Look i now ∷ h) = there-is name h
there-is name (Overflow i ∷ h) = there-is name h
there-is name (Session ∷ h) = there-is name h

place-back : (h : List Call) (es : List SadEntry) (i : ℕ) → option_map (λ (x : Half). x.entry) (slice_get (map (half_of h) es) i) ≡
    slice_get es i
place-back h [] zero = refl
place-back h [] (suc i) = refl
place-back h (e ∷ es) zero = refl
place-back h (e ∷ es) (suc i) = place-back h es i

pub places-are : (h : List Call) (i : ℕ) → option_map (λ (x : Half). x.entry) (slice_get (did_all h) i) ≡ slice_get (there h) i
places-are h i = ap (λ xs. option_map (λ (x : Half). x.entry) (slice_get xs i)) (is-given h) ∙ place-back h (there h) i

pub joins-are : (h : List Call) (e : SadEntry) → is_none (install_fault e (did_all h)) ≡ may_join e (there h)
joins-are h e = ap (λ xs. is_none (install_fault e xs)) (is-given h) ∙ none-against h e (there h)

-- ---- lifetimes

pub counts-are : (h : List Call) (e : SadEntry) (now : ℕ) → counts_of now (half_of h e).life ≡ lives.counts_after (installed_at e.name h)
    now (befell e.name h)
counts-are h e now = refl

pub event-is : (h : List Call) (e : SadEntry) (c : lives.Call) →
    lives.next_event (half_of h e).life c ≡ lives.told_by e.hard e.soft (installed_at e.name h) (befell e.name h) c
event-is h e c = ap (λ l. lives.next_event l c) (life-run h e) ∙ event-back e.hard e.soft (installed_at e.name h) (befell e.name h) c
