-- Each act of a history has a line, and no two histories have one text.
use Rattle.std.proofs.Common.{◌≡◌, ℕ, ◌+◌, ◌-◌, ◌<◌, ◌^◌, Bool, true, false, List, [], ◌∷◌, ◌++◌, All, length, refl, sym, subst, append-nil, arith}
use Rattle.std.specs.List.{AllByRecursion}
use Rattle.std.proofs.lemmas.List.Elements.{All-from_recursion, recursion_from_All}
use Rattle.esp_frame.specs.Laws.{SealedLength}
use Rattle.event_lines.specs.Spelling.{IsEvent, IsEventUnder}
use Rattle.hist_acts.specs.declared.event.Event.{Event}
use Rattle.hist_acts.specs.declared.event.Header.{Header}
use Rattle.hist_acts.specs.Past.{events_taken}
use Rattle.hist_world.specs.Block.{Past, block, history, is_forged_event, nothing, past_after, unless_forged}
use Rattle.hist_wire.specs.Wire.{under_way}
use Rattle.acts_spell.specs.Spelled.{IsSpelled, IsSpelledEvent, IsSpelledHeader, IsTold}
use Rattle.acts_spell.proofs.Blocks.{Meets, block-spelled, block-takes, told-after, told-nothing}
use Rattle.acts_spell.proofs.Each.{each-append}
use Rattle.acts_spell.proofs.Found.{AreSpelled}

meets : SealedLength → (header : Header) (p : Past) (e : Event) (n : ℕ) → IsSpelledHeader header → IsSpelledEvent header.gateways e
    → IsTold header p → events_taken p.world + (n + 1) < 2 ^ 32 → Meets header p e
meets sizes header p e n h s t l = record { spelled = h; under = s.0; typed = s.1; told = t; few = omega (arith, l); sizes = sizes }

one-less : (n m k : ℕ) → m ≡ n + 1 → n + (k + 1) < 2 ^ 32 → m + k < 2 ^ 32
one-less n m k e l = omega (arith, e, l)

history-from : SealedLength → (header : Header) (p : Past) (es : List Event) → IsSpelledHeader header
    → AllByRecursion (IsSpelledEvent header.gateways) es → IsTold header p
    → events_taken p.world + length es < 2 ^ 32 → AreSpelled header.gateways (history (under_way header) header p es)
history-from sizes header p [] h s t l = tt
history-from sizes header p (e ∷ es) h s t l =
    let m = meets sizes header p e (length es) h s.0 t (omega (arith, l)) in
    let q : Past = past_after (under_way header) header p e in
    let fits = one-less (events_taken p.world) (events_taken q.world) (length es) (block-takes header p e m) (omega (arith, l)) in
    by-forgery m (is_forged_event header p e) refl (λ u. history-from sizes header q es h s.1 u fits)
  where
    by-forgery : Meets header p e → (b : Bool) → is_forged_event header p e ≡ b
        → (IsTold header (past_after (under_way header) header p e)
        → AreSpelled header.gateways (history (under_way header) header (past_after (under_way header) header p e) es))
        → AreSpelled header.gateways
        (block (under_way header) header p e
        ++ unless_forged b (history (under_way header) header (past_after (under_way header) header p e) es))
    by-forgery m true f more =
        subst (AreSpelled header.gateways) (sym (append-nil (block (under_way header) header p e))) (block-spelled header p e m)
    by-forgery m false f more =
        each-append (IsSpelled header.gateways) (block (under_way header) header p e)
        (history (under_way header) header (past_after (under_way header) header p e) es)
        (block-spelled header p e m) (more (told-after header p e m f))

pub history-spelled : SealedLength → (header : Header) (es : List Event) → IsSpelledHeader header → All (IsSpelledEvent header.gateways) es
    → length es < 2 ^ 32
    → All (IsSpelled header.gateways) (history (under_way header) header nothing es)
history-spelled sizes header es h s l =
    All-from_recursion (IsSpelled header.gateways) (history (under_way header) header nothing es)
    (history-from sizes header nothing es h (recursion_from_All (IsSpelledEvent header.gateways) es s) (told-nothing header)
    (omega (arith, l)))

-- ---- one event

pub act-spelled : SealedLength → (header : Header) (p : Past) (e : Event) → IsSpelledHeader header → IsEventUnder header.gateways e
    → IsEvent e → IsTold header p
    → events_taken p.world < 2 ^ 32 - 1 → All (IsSpelled header.gateways) (block (under_way header) header p e)
act-spelled sizes header p e h u t told few =
    All-from_recursion (IsSpelled header.gateways) (block (under_way header) header p e)
    (block-spelled header p e (record { spelled = h; under = u; typed = t; told = told; few = few; sizes = sizes }))

pub act-told : SealedLength → (header : Header) (p : Past) (e : Event) → IsSpelledHeader header → IsEventUnder header.gateways e → IsEvent e
    → IsTold header p
    → events_taken p.world < 2 ^ 32 - 1 → is_forged_event header p e ≡ false → IsTold header (past_after (under_way header) header p e)
act-told sizes header p e h u t told few f =
    told-after header p e (record { spelled = h; under = u; typed = t; told = told; few = few; sizes = sizes }) f
