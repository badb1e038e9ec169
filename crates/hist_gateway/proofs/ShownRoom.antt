-- The last half for which a gateway has room, and one more. The past has so many halves, each by its number, in place of one that is
-- written out.
use Rattle.std.proofs.Common.{◌≡◌, ℕ, zero, suc, ◌+◌, ◌==◌, Bool, true, false, ◌&&◌, nat_le, List, [], ◌∷◌, ◌++◌, codes, length, map, Some, None, Ok, refl, sym, ◌∙◌, ap, arith, if◌then◌else◌}
use Rattle.std.proofs.lemmas.List.{length-append, length-map}
use Rattle.std.specs.List.{list_any}
use Rattle.std.specs.Str.{bytes_eq}
use Rattle.ikeless_tree.specs.declared.sad.SadEntry.{SadEntry}
use Rattle.ikeless_tree.specs.declared.error.Tag.TheVariants as tags
use Rattle.ikeless_tree.specs.Half.{is_inbound, out_name}
use Rattle.reply_table.specs.declared.ask.Ask.TheVariants as asks
use Rattle.reply_table.specs.declared.ask.Change.TheVariants as changes
use Rattle.reply_table.specs.Reply as table
use Rattle.hist_acts.specs.declared.act.Act.{Act}
use Rattle.hist_acts.specs.declared.act.Act.TheVariants as acts
use Rattle.hist_acts.specs.Past.{after}
use Rattle.hist_acts.specs.Sessions as sessions
use Rattle.hist_halves.specs.Halves.{live}
use Rattle.hist_gateway.specs.Rows.{row_of, tree_of}
use Rattle.hist_gateway.specs.Handle.{reply_acts, requests}
use Rattle.hist_gateway.specs.Block.{Gateway, Handle, gw_block, gw_history}
use Rattle.hist_gateway.specs.May.{has_half, has_inbound_spi}
use Rattle.hist_gateway.proofs.KeepsLemmas.{same-refl}
use Rattle.hist_gateway.proofs.MayAct.{any-map}
use Rattle.hist_gateway.proofs.PlainReadings.{any-end}
use Rattle.hist_gateway.proofs.Shown.{b, gateway_b, done, refusal, half, between, first_site, second_site, address_a, address_b, limits}

-- ---- a half that is put where its name and its SPI are free

abbrev Free : Gateway → List Act → SadEntry → Type 0
Free c h e = (has_half e.name (live c.name h) ≡ false) × ((is_inbound e.name && has_inbound_spi e.spi (live c.name h)) ≡ false)

rows : (g : List ℕ) (h : List Act) → length (map (row_of g h) (live g h)) ≡ length (live g h)
rows g h = length-map (live g h) (row_of g h)

-- the reply is that of the room alone
by-room : (c : Gateway) (h : List Act) (e : SadEntry) (full : Bool) → Free c h e → nat_le 4096 (length (live c.name h)) ≡ full →
    table.reply (tree_of c.name h) (asks.PostSad e)
    ≡ (if full then table.full (tree_of c.name h) else table.made (table.At_half e.name) (changes.Put e)
    (table.with_sad (tree_of c.name h) ((tree_of c.name h).sad ++ table.new_row e ∷ [])))
unfolding table.reply
by-room c h e full free room =
    let g : List ℕ = c.name in
    let made : table.Outcome =
    table.made (table.At_half e.name) (changes.Put e) (table.with_sad (tree_of g h) ((tree_of g h).sad ++ table.new_row e ∷ [])) in
    let last : table.Outcome = if table.is_sad_full (tree_of g h).sad then table.full (tree_of g h) else made in
    let own : table.Outcome = if is_inbound e.name && table.has_spi e.spi (tree_of g h).sad then table.spi_taken (tree_of g h) else last in
    let name : list_any (table.is_row e.name) (tree_of g h).sad ≡ false = any-map (table.is_row e.name) (row_of g h) (live g h) ∙ free.0 in
    let spi : (is_inbound e.name && table.has_spi e.spi (tree_of g h).sad) ≡ false =
    ap (λ z. is_inbound e.name && z) (any-map (λ r. is_inbound r.entry.name && (r.entry.spi == e.spi)) (row_of g h) (live g h))
    ∙ free.1 in
    ap (λ z. if z then table.exists (tree_of g h) else own) name
    ∙ (ap (λ z. if z then table.spi_taken (tree_of g h) else last) spi
    ∙ ap (λ z. if z then table.full (tree_of g h) else made) (ap (nat_le 4096) (rows g h) ∙ room))

pub shown_put : (c : Gateway) (h : List Act) (e : SadEntry) → Free c h e → nat_le 4096 (length (live c.name h)) ≡ false →
    gw_block c h (Handle (Ok (asks.PostSad e))) ≡ acts.Put c.name e ∷ acts.Handled c.name (sessions.session_taken c.name h)
    (requests c.name h + 1) (done 201) ∷ []
shown_put c h e free room = ap (reply_acts c.name (sessions.session_taken c.name h) (requests c.name h + 1)) (by-room c h e false free room)

pub shown_full : (c : Gateway) (h : List Act) (e : SadEntry) → Free c h e → nat_le 4096 (length (live c.name h)) ≡ true →
    gw_block c h (Handle (Ok (asks.PostSad e))) ≡ acts.Handled c.name (sessions.session_taken c.name h) (requests c.name h + 1)
    (refusal 409 tags.ResourceDenied) ∷ []
shown_full c h e free room = ap (reply_acts c.name (sessions.session_taken c.name h) (requests c.name h + 1)) (by-room c h e true free room)

-- ---- a past with so many outbound halves

abbrev outbound : ℕ → SadEntry
outbound n = half (out_name n) 257 (between first_site second_site) address_b address_a (limits 0 0 0 0) (limits 0 0 0 0)

abbrev inbound : List ℕ → ℕ → SadEntry
inbound name spi = half name spi (between second_site first_site) address_a address_b (limits 0 0 0 0) (limits 0 0 0 0)

abbrev puts : ℕ → List Act
puts zero = []
puts (suc n) = acts.Put b (outbound n) ∷ puts n

so-many : (n : ℕ) → length (live b (puts n)) ≡ n
so-many zero = refl
so-many (suc n) = let m = length-append (live b (puts n)) (outbound n ∷ []) in let ih = so-many n in omega (arith, m, ih)

name-free : (n : ℕ) (rest : List ℕ) → has_half (codes "in/" ++ rest) (live b (puts n)) ≡ false
unfolding out_name
name-free zero rest = refl
name-free (suc n) rest = any-end (λ e. bytes_eq e.name (codes "in/" ++ rest)) (live b (puts n)) (outbound n) ∙ name-free n rest

spi-free : (n spi : ℕ) → has_inbound_spi spi (live b (puts n)) ≡ false
unfolding out_name
spi-free zero spi = refl
spi-free (suc n) spi = any-end (λ e. is_inbound e.name && (e.spi == spi)) (live b (puts n)) (outbound n) ∙ spi-free n spi

-- ---- the 4,096th half is installed, and the next one is refused

abbrev last_half : SadEntry
last_half = inbound (codes "in/1") 258

abbrev one_more : SadEntry
one_more = inbound (codes "in/2") 259

no-requests : (n : ℕ) → requests b (puts n) ≡ 0
no-requests zero = refl
no-requests (suc n) = no-requests n

no-session : (n : ℕ) → sessions.session_taken b (puts n) ≡ 0
no-session zero = refl
no-session (suc n) = no-session n

-- after so many halves
abbrev filled : ℕ → List Act
filled n = acts.Handled b 0 1 (done 201) ∷ acts.Put b last_half ∷ puts n

filled-many : (n : ℕ) → length (live b (filled n)) ≡ n + 1
filled-many n = length-append (live b (puts n)) (last_half ∷ []) ∙ ap (λ (z : ℕ). z + 1) (so-many n)

filled-free : (n : ℕ) → Free gateway_b (filled n) one_more
filled-free n = (
  any-end (λ e. bytes_eq e.name (codes "in/2")) (live b (puts n)) last_half ∙ name-free n (codes "2"),
  any-end (λ e. is_inbound e.name && (e.spi == 259)) (live b (puts n)) last_half ∙ spi-free n 259,
)

first-of : (n : ℕ) → n ≡ 4095 → gw_block gateway_b (puts n) (Handle (Ok (asks.PostSad last_half))) ≡ acts.Put b last_half
    ∷ acts.Handled b 0 1 (done 201) ∷ []
first-of n e =
    shown_put gateway_b (puts n) last_half (name-free n (codes "1"), spi-free n 258) (ap (nat_le 4096) (so-many n ∙ e))
    ∙ (λ i. acts.Put b last_half ∷ acts.Handled b (no-session n i) (no-requests n i + 1) (done 201) ∷ [])

second-of : (n : ℕ) → n ≡ 4095 → gw_block gateway_b (filled n) (Handle (Ok (asks.PostSad one_more))) ≡ acts.Handled b 0 2
    (refusal 409 tags.ResourceDenied) ∷ []
second-of n e =
    shown_full gateway_b (filled n) one_more (filled-free n) (ap (nat_le 4096) (filled-many n ∙ ap (λ (z : ℕ). z + 1) e))
    ∙ (λ i. acts.Handled b (no-session n i) (no-requests n i + 1 + 1) (refusal 409 tags.ResourceDenied) ∷ [])

-- the acts of both, after so many halves
shown_room : (n : ℕ) → n ≡ 4095 → gw_history gateway_b (puts n) (Handle (Ok (asks.PostSad last_half)) ∷ Handle (Ok (asks.PostSad one_more))
    ∷ [])
    ≡ acts.Put b last_half ∷ acts.Handled b 0 1 (done 201) ∷ acts.Handled b 0 2 (refusal 409 tags.ResourceDenied) ∷ []
shown_room n e =
    let rest : List Act → List Act = λ xs. xs ++ gw_history gateway_b (after (puts n) xs) (Handle (Ok (asks.PostSad one_more)) ∷ []) in
    ap rest (first-of n e) ∙ ap (λ xs. acts.Put b last_half ∷ acts.Handled b 0 1 (done 201) ∷ xs ++ []) (second-of n e)
