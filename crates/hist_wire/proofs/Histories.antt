-- The history of events, said block by block, is that of the law of the whole.
use Rattle.std.proofs.Common.{◌≡◌, ℕ, ◌+◌, Bool, true, false, List, [], ◌∷◌, ◌++◌, length, take, refl, sym, ◌∙◌, ap, subst, inl, inr, ◌⊎◌, arith, length-append}
use Rattle.hist_acts.specs.declared.act.Act.{Act}
use Rattle.hist_acts.specs.declared.event.Event.{Event}
use Rattle.hist_acts.specs.declared.event.Header.{Header}
use Rattle.hist_acts.specs.Past.{after}
use Rattle.hist_safety.specs.Safe.{IsLastSafe, Safe}
use Rattle.hist_safety.proofs.Safe.{safe}
use Rattle.session_pipe.specs.Sessions.{KeepsSessions}
use Rattle.hist_world.specs.Events.{AreEventsOf}
use Rattle.hist_world.specs.Headers.{IsHeader}
use Rattle.hist_world.proofs.Ends.{last-history}
use Rattle.hist_world.proofs.Runs.{lawful-history, start}
use Rattle.hist_sessions.proofs.Keeps.{keep-history}
use Rattle.hist_world.specs.Block.{Past, Shows, block, history, is_forged_event, nothing, past_after}
use Rattle.hist_world.specs.Stands.{past_at}
use Rattle.hist_blocks.specs.Blocks.{blocks, joined, unless_last}
use Rattle.hist_blocks.proofs.Histories.{blocks-length, blocks-take, ends-forged, history-blocks, history-more, history-one}
use Rattle.hist_wire.specs.Wire.{under_way}
use Rattle.hist_wire.specs.Histories.{AreBlocks, IsHistory, LastForged, NoneForged}

-- ---- blocks

are-blocks : (header : Header) (p : Past) (es : List Event) → AreBlocks header p es (blocks (under_way header) header p es)
are-blocks header p [] = tt
are-blocks header p (e ∷ es) =
    (refl, by-forgery (is_forged_event header p e) refl (are-blocks header (past_after (under_way header) header p e) es)) where
      by-forgery : (b : Bool) → is_forged_event header p e ≡ b → AreBlocks header (past_after (under_way header) header p e) es
          (blocks (under_way header) header (past_after (under_way header) header p e) es)
          → ((is_forged_event header p e ≡ true)
          × (unless_last b (blocks (under_way header) header (past_after (under_way header) header p e) es) ≡ []))
          ⊎ ((is_forged_event header p e ≡ false) × AreBlocks header (past_after (under_way header) header p e) es
          (unless_last b (blocks (under_way header) header (past_after (under_way header) header p e) es)))
      by-forgery true f ih = inl (f, refl)
      by-forgery false f ih = inr (f, ih)

only-blocks : (header : Header) (p : Past) (es : List Event) (bs : List (List Act)) → AreBlocks header p es bs
    → bs ≡ blocks (under_way header) header p es
only-blocks header p [] [] a = refl
only-blocks header p [] (b ∷ bs) a = absurd a
only-blocks header p (e ∷ es) [] a = absurd a
only-blocks header p (e ∷ es) (b ∷ bs) a =
    let first : b ≡ block (under_way header) header p e = a.0 in
    let later = rest a.1 (only-blocks header (past_after (under_way header) header p e) es bs) in
    ap (λ (z : List Act). z ∷ bs) first ∙ ap (λ (z : List (List Act)). block (under_way header) header p e ∷ z) later
  where
    rest : ((is_forged_event header p e ≡ true) × (bs ≡ []))
        ⊎ ((is_forged_event header p e ≡ false) × AreBlocks header (past_after (under_way header) header p e) es bs)
        → (AreBlocks header (past_after (under_way header) header p e) es bs
        → bs ≡ blocks (under_way header) header (past_after (under_way header) header p e) es)
        → bs ≡ unless_last (is_forged_event header p e) (blocks (under_way header) header (past_after (under_way header) header p e) es)
    rest (inl q) ih = q.1 ∙ ap (λ b. unless_last b (blocks (under_way header) header (past_after (under_way header) header p e) es))
        (sym q.0)
    rest (inr q) ih = ih q.1 ∙ ap (λ b. unless_last b (blocks (under_way header) header (past_after (under_way header) header p e) es))
        (sym q.0)

-- ---- histories

pub history-is : (header : Header) (es : List Event) → IsHistory header es (history (under_way header) header nothing es)
history-is header es = record {
  blocks = blocks (under_way header) header nothing es;
  each = are-blocks header nothing es;
  all =
      history-blocks (under_way header) header nothing es;
}

pub only-history : (header : Header) (es : List Event) (h : List Act) → IsHistory header es h
    → h ≡ history (under_way header) header nothing es
only-history header es h i = i.all ∙ ap joined (only-blocks header nothing es i.blocks i.each)
    ∙ sym (history-blocks (under_way header) header nothing es)

pub one-history : (header : Header) (es : List Event) (h k : List Act) → IsHistory header es h → IsHistory header es k → h ≡ k
one-history header es h k i j = only-history header es h i ∙ sym (only-history header es k j)

pub more-history : (header : Header) (es : List Event) (e : Event) (h : List Act) → IsHistory header es h → NoneForged header es
    → IsHistory header (es ++ e ∷ []) (h ++ block (under_way header) header (past_at (under_way header) header nothing es) e)
more-history header es e h i n =
    let s : Shows = under_way header in
    let q : Past = past_at s header nothing es in
    let same : h ++ block s header q e ≡ history s header nothing (es ++ e ∷ []) =
    ap (λ (z : List Act). z ++ block s header q e) (only-history header es h i)
    ∙ ap (λ (z : List Act). history s header nothing es ++ z) (sym (history-one s header q e))
    ∙ sym (history-more s header nothing es (e ∷ []) n) in
    subst (IsHistory header (es ++ e ∷ [])) (sym same) (history-is header (es ++ e ∷ []))

pub front-history : (header : Header) (n : ℕ) (es : List Event) (h : List Act) (i : IsHistory header es h)
    → IsHistory header (take n es) (joined (take n i.blocks))
front-history header n es h i =
    let s : Shows = under_way header in
    let same : take n i.blocks ≡ blocks s header nothing (take n es) = ap (take n) (only-blocks header nothing es i.blocks i.each)
    ∙ sym (blocks-take s header nothing n es) in
    record {
      blocks = take n i.blocks;
      each = subst (AreBlocks header nothing (take n es)) (sym same)
          (are-blocks header nothing (take n es));
      all = refl;
    }

pub block-count : (header : Header) (es : List Event) (h : List Act) (i : IsHistory header es h) → NoneForged header es
    → length i.blocks ≡ length es
block-count header es h i n = ap length (only-blocks header nothing es i.blocks i.each) ∙ blocks-length (under_way header) header nothing es
    n

-- ---- what is safe

pub safe-history : (header : Header) (es : List Event) (h : List Act) → IsHeader header → AreEventsOf header es → IsHistory header es h
    → Safe header.gateways (after [] h)
safe-history header es h i k is =
    let s : Shows = under_way header in
    subst (λ (z : List Act). Safe header.gateways (after [] z)) (sym (only-history header es h is))
    (safe header.gateways (after [] (history s header nothing es)) (lawful-history s header nothing es i k (start header)))

pub last-safe : (header : Header) (es : List Event) (h : List Act) → IsHeader header → AreEventsOf header es → IsHistory header es h
    → IsLastSafe header.gateways (after [] h)
last-safe header es h i k is =
    subst (λ (z : List Act). IsLastSafe header.gateways (after [] z)) (sym (only-history header es h is))
    (last-history (under_way header) header nothing es i k (start header))

pub keeps-history : (header : Header) (es : List Event) (h : List Act) → IsHeader header → AreEventsOf header es → IsHistory header es h
    → KeepsSessions (after [] h)
keeps-history header es h i k is =
    subst (λ (z : List Act). KeepsSessions (after [] z)) (sym (only-history header es h is))
    (keep-history (under_way header) header nothing es i k (start header) tt)

-- ---- a forged arrival at the end

no-more : (before later : List Event) (forged : Event) → length (before ++ forged ∷ later) ≡ length before + 1 → later ≡ []
no-more before [] forged e = refl
no-more before (x ∷ later) forged e = let n = length-append before (forged ∷ x ∷ later) in absurd (omega (arith, n, e))

pub last-forged : (header : Header) (es : List Event) → LastForged header es
    → (before : List Event) × (forged : Event) × (es ≡ before ++ forged ∷ []) × NoneForged header before
    × (is_forged_event header (past_at (under_way header) header nothing before) forged ≡ true)
last-forged header es l =
    let f = ends-forged (under_way header) header nothing (length es) es l in
    let none : f.later ≡ [] = no-more f.before f.later f.forged (sym (ap length f.events) ∙ f.number) in
    (f.before, f.forged, f.events ∙ ap (λ (z : List Event). f.before ++ f.forged ∷ z) none, f.genuine, f.forgery)
