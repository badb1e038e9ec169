-- The rows of a gateway's database fit their types: what was sent and taken is counted in 64 bits.
use Rattle.std.proofs.Common.{◌≡◌, ℕ, ◌+◌, ◌<◌, ◌^◌, ◌&&◌, max, Bool, true, false, List, [], ◌∷◌, ◌++◌, map, Option, Some, None, Result, Ok, Err, refl, ap, ◌∙◌, arith, if◌then◌else◌}
use Rattle.std.specs.List.{AllByRecursion}
use Rattle.std.specs.Str.{bytes_eq}
use Rattle.ip_packet.specs.declared.packet.NotPacket.{NotPacket}
use Rattle.ip_packet.specs.View.{Packet, view_of}
use Rattle.ikeless_tree.specs.Half.{is_inbound}
use Rattle.ikeless_tree.specs.Typed.{AreOctets}
use Rattle.ikeless_tree.specs.declared.command.Peer.{Peer}
use Rattle.ikeless_tree.specs.declared.sad.SadEntry.{SadEntry}
use Rattle.esp_frame.specs.Esp.{spi_of}
use Rattle.replay_win.specs.Marks.{greatest}
use Rattle.hist_acts.specs.declared.act.Act.{Act}
use Rattle.hist_acts.specs.declared.act.Act.TheVariants as acts
use Rattle.hist_halves.specs.Halves.{arrival_number, is_half, live, number_for, number_if, numbers_taken, sent, with_number}
use Rattle.hist_halves.specs.Sealed.{by_spi, esp_of, is_opened, number_from, payload_of}
use Rattle.hist_gateway.specs.Rows.{row_of, tree_of}
use Rattle.hist_safety.specs.Law.{IsLawful, SendMayHappen}
use Rattle.hist_safety.proofs.Basics.{half-is}
use Rattle.acts_spell.proofs.Each.{each-append, each-if, either-has}
use Rattle.acts_spell.proofs.Octets.{none}
use Rattle.acts_spell.proofs.Packets.{view-typed}
use Rattle.acts_spell.proofs.Arrivals.{from-small}
use Rattle.acts_spell.proofs.Found.{AreSpelled, IsGoodHalf, live-good}
use Rattle.acts_spell.proofs.Notices.{counts-typed}
use Rattle.acts_spell.proofs.Messages.{IsGoodRow}

abbrev IsWide : ℕ → Type 0
IsWide n = n < 2 ^ 64

-- ---- what was sent

next-sent : (g x : List ℕ) (n : ℕ) (o : List ℕ) (h : List Act) → SendMayHappen g x n o h → (n ≡ sent g x h + 1) × (n < 2 ^ 32)
next-sent g x n o [] m = absurd m
next-sent g x n o (acts.Let f p ∷ h) m = (m.1.number, m.1.small)
next-sent g x n o (a ∷ h) m = absurd m

sent-if : (b : Bool) (n : ℕ) → n < 2 ^ 64 → (b ≡ true → n + 1 < 2 ^ 64) → (if b then n + 1 else n) < 2 ^ 64
sent-if true n l f = f refl
sent-if false n l f = l

sent-here : (f y g x : List ℕ) (n : ℕ) (h : List Act) → (n ≡ sent f y h + 1) × (n < 2 ^ 32) → is_half f y g x ≡ true
    → sent g x h + 1 < 2 ^ 64
sent-here f y g x n h s e =
    let p = half-is f y g x e in
    let same : sent f y h ≡ sent g x h = ap (λ (z : List ℕ). sent z y h) p.0 ∙ ap (λ (z : List ℕ). sent g z h) p.1 in
    let a = s.0 in let b = s.1 in
    omega (arith, a, b, same)

sent-wide : (gs : List Peer) (g x : List ℕ) (h : List Act) → IsLawful gs h → sent g x h < 2 ^ 64
sent-wide gs g x [] l = omega arith
sent-wide gs g x (acts.Put f e ∷ h) l = either-has IsWide (is_half f e.name g x) 0 (sent g x h) (omega arith) (sent-wide gs g x h l.1)
sent-wide gs g x (acts.Sent f y n o ∷ h) l =
    sent-if (is_half f y g x) (sent g x h) (sent-wide gs g x h l.1) (sent-here f y g x n h (next-sent f y n o h l.0))
sent-wide gs g x (a ∷ h) l = sent-wide gs g x h l.1

-- ---- what was taken

payload-octets : (o : List ℕ) → AreOctets o → (r : Result Packet NotPacket) → view_of o ≡ r → AreOctets (payload_of r)
payload-octets o h (Ok v) e = (view-typed o v h e).payload
payload-octets o h (Err fault) e = none

pub esp-part : (o : List ℕ) → AreOctets o → AreOctets (esp_of o)
esp-part o h = payload-octets o h (view_of o) refl

abbrev IsWideIf : Option ℕ → Type 0
IsWideIf None = Unit {0}
IsWideIf (Some n) = n < 2 ^ 64

wide-if : (b : Bool) (o : Option ℕ) → IsWideIf o → IsWideIf (if b then o else None)
wide-if true o h = h
wide-if false o h = tt

number-wide : (x b : List ℕ) (top : ℕ) (found : Option SadEntry) → AreOctets b → IsWideIf (number_if x top b found)
number-wide x b top None h = tt
number-wide x b top (Some e) h = wide-if (bytes_eq e.name x) (Some (number_from e top b)) (from-small e top b h)

arrival-wide : (gs : List Peer) (g x numbers : List ℕ) (h : List Act) → AreSpelled gs h → IsWideIf (arrival_number g x numbers h)
arrival-wide gs g x numbers [] s = tt
arrival-wide gs g x numbers (acts.Arrived f o ∷ h) s =
    wide-if (bytes_eq f g) (number_for x (greatest numbers) (live g h) (esp_of o))
    (number-wide x (esp_of o) (greatest numbers) (by_spi (spi_of (esp_of o)) (live g h)) (esp-part o s.0.1))
arrival-wide gs g x numbers (a ∷ h) s = tt

with-wide : (numbers : List ℕ) (o : Option ℕ) → AllByRecursion IsWide numbers → IsWideIf o → AllByRecursion IsWide (with_number numbers o)
with-wide numbers None h n = h
with-wide numbers (Some k) h n = each-append IsWide numbers (k ∷ []) h (n, tt)

taken-wide : (gs : List Peer) (g x : List ℕ) (h : List Act) → AreSpelled gs h → AllByRecursion IsWide (numbers_taken g x h)
taken-wide gs g x [] s = tt
taken-wide gs g x (acts.Put f e ∷ h) s = each-if IsWide (is_half f e.name g x) [] (numbers_taken g x h) tt (taken-wide gs g x h s.1)
taken-wide gs g x (acts.Gave f y n o ∷ h) s =
    let more = taken-wide gs g x h s.1 in
    each-if IsWide (is_half f y g x) (numbers_taken g x h ++ n ∷ []) (numbers_taken g x h)
    (each-append IsWide (numbers_taken g x h) (n ∷ []) more (s.0.1.0, tt)) more
taken-wide gs g x (acts.Drop f w ∷ h) s =
    let more = taken-wide gs g x h s.1 in
    each-if IsWide (bytes_eq f g && is_opened w) (with_number (numbers_taken g x h) (arrival_number g x (numbers_taken g x h) h))
    (numbers_taken g x h)
    (with-wide (numbers_taken g x h) (arrival_number g x (numbers_taken g x h) h) more (arrival-wide gs g x (numbers_taken g x h) h s.1))
    more
taken-wide gs g x (a ∷ h) s = taken-wide gs g x h s.1

greater : (m n : ℕ) → m < 2 ^ 64 → n < 2 ^ 64 → max m n < 2 ^ 64
greater m n p q = grind (arith, p, q)

greatest-wide : (ns : List ℕ) → AllByRecursion IsWide ns → greatest ns < 2 ^ 64
greatest-wide [] h = omega arith
greatest-wide (n ∷ ns) h = greater (greatest ns) n (greatest-wide ns h.1) h.0

-- ---- rows

row-good : (gs : List Peer) (g : List ℕ) (h : List Act) (e : SadEntry) → IsLawful gs h → AreSpelled gs h → IsGoodHalf e
    → IsGoodRow (row_of g h e)
row-good gs g h e l s good =
    let top = either-has IsWide (is_inbound e.name) (greatest (numbers_taken g e.name h)) (sent g e.name h)
    (greatest-wide (numbers_taken g e.name h) (taken-wide gs g e.name h s)) (sent-wide gs g e.name h l) in
    (good.0, record { entry = good.1; state = record { current = counts-typed g e.name h; top = top } })

rows-good : (gs : List Peer) (g : List ℕ) (h : List Act) (es : List SadEntry) → IsLawful gs h → AreSpelled gs h
    → AllByRecursion IsGoodHalf es → AllByRecursion IsGoodRow (map (row_of g h) es)
rows-good gs g h [] l s good = tt
rows-good gs g h (e ∷ es) l s good = (row-good gs g h e l s good.0, rows-good gs g h es l s good.1)

-- the rows that a gateway has after a past
pub tree-good : (gs : List Peer) (g : List ℕ) (h : List Act) → IsLawful gs h → AreSpelled gs h → AllByRecursion IsGoodRow (tree_of g h).sad
tree-good gs g h l s = rows-good gs g h (live g h) l s (live-good gs g h s)
