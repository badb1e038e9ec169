-- The history of one more event, genuine or forged, and that it is safe.
use Rattle.std.proofs.Common.{◌≡◌, ℕ, ◌+◌, true, false, List, [], ◌∷◌, ◌++◌, length, Option, Some, None, refl, sym, ◌∙◌, ap, arith}
use Rattle.std.proofs.lemmas.List.{nil_from_length}
use Rattle.hist_acts.specs.declared.act.Act.{Act}
use Rattle.hist_acts.specs.declared.act.Act.TheVariants as acts
use Rattle.hist_acts.specs.declared.event.Event.{Event}
use Rattle.hist_acts.specs.declared.event.Header.{Header}
use Rattle.hist_acts.specs.Past.{events_taken}
use Rattle.hist_world.specs.Block.{Past, Shows, block, history, is_forged_event, past_after}
use Rattle.hist_world.specs.Stands.{AreGenuine, past_at}
use Rattle.hist_blocks.specs.Blocks.{first_forged, number_by}
use Rattle.hist_blocks.proofs.Histories.{ends-forged, history-more, history-one}
use Rattle.hist_wire.proofs.Histories.{history-is, last-safe, safe-history}
use Rattle.hist_scripts.proofs.HeaderRead.{header-read}
use Rattle.hist_scripts.proofs.EventRead.{lines-read}
use Rattle.ikeless_cli.specs.Script.{IsScript}
use Rattle.ikeless_cli.specs.Run.{IsHistoryOf, IsSafe}
use Rattle.ikeless_cli.specs.Reader.{acts_of}

pub past-push : (shows : Shows) (header : Header) (p : Past) (es : List Event) (e : Event)
    → past_at shows header p (es ++ e ∷ []) ≡ past_after shows header (past_at shows header p es) e
past-push shows header p [] e = refl
past-push shows header p (x ∷ es) e = past-push shows header (past_after shows header p x) es e

pub genuine-push : (shows : Shows) (header : Header) (p : Past) (es : List Event) (e : Event) → AreGenuine shows header p es
    → is_forged_event header (past_at shows header p es) e ≡ false → AreGenuine shows header p (es ++ e ∷ [])
genuine-push shows header p [] e g f = (f, tt)
genuine-push shows header p (x ∷ es) e g f = (g.0, genuine-push shows header (past_after shows header p x) es e g.1 f)

pub forged-push : (shows : Shows) (header : Header) (p : Past) (es : List Event) (e : Event) → AreGenuine shows header p es
    → is_forged_event header (past_at shows header p es) e ≡ true → first_forged shows header p (es ++ e ∷ []) ≡ Some
    (length (es ++ e ∷ []))
forged-push shows header p [] e g f = ap (λ b. number_by b None) f
forged-push shows header p (x ∷ es) e g f =
    let q : Past = past_after shows header p x in
    ap (λ b. number_by b (first_forged shows header q (es ++ e ∷ []))) g.0
    ∙ ap (λ (o : Option ℕ). number_by false o) (forged-push shows header q es e g.1 f)
    ∙ (let same : length (es ++ e ∷ []) + 1 ≡ length (x ∷ (es ++ e ∷ [])) = omega arith in ap (λ (n : ℕ). Some n) same)

pub history-push : (shows : Shows) (header : Header) (p : Past) (es : List Event) (e : Event) → AreGenuine shows header p es
    → history shows header p (es ++ e ∷ []) ≡ history shows header p es ++ block shows header (past_at shows header p es) e
history-push shows header p es e g =
    history-more shows header p es (e ∷ []) g ∙ ap (λ (z : List Act). history shows header p es ++ z)
    (history-one shows header (past_at shows header p es) e)

-- a forged arrival stands alone in its block
pub forged-block : (shows : Shows) (header : Header) (p : Past) (e : Event) → is_forged_event header p e ≡ true
    → (k : ℕ) × (g : List ℕ) × (o : List ℕ) × (block shows header p e ≡ acts.Took k ∷ acts.Arrived g o ∷ [])
forged-block shows header p e f =
    let r = ends-forged shows header p 1 (e ∷ []) (ap (λ b. number_by b None) f) in
    let size : length r.before ≡ 0 = (let n = r.number in omega (arith, n)) in
    let none : r.before ≡ [] = nil_from_length r.before size in
    let k : ℕ = events_taken (past_at shows header p r.before).world + 1 in
    let last : List Act = acts.Took k ∷ acts.Arrived r.gateway r.octets ∷ [] in (
      k,
      r.gateway,
      r.octets,
      sym (history-one shows header p e) ∙ r.history ∙ ap (λ (z : List Event). history shows header p z ++ last)
          none,
    )

-- ---- what happened at the events of a script

pub happened : (header : Option Header) (es : List Event) → IsHistoryOf header es (acts_of header es)
happened None es = refl
happened (Some h) es = history-is h es

pub acts-safe : (header : Option Header) (lines : List (List ℕ)) (es : List Event) → IsScript header lines es → IsSafe header
    (acts_of header es)
acts-safe None lines es is = tt
acts-safe (Some h) lines es is =
    let one = header-read is.0 h is.3 in
    let all = lines-read h is.1 es is.4 in
    let history = history-is h es in
    (safe-history h es (acts_of (Some h) es) one all history, last-safe h es (acts_of (Some h) es) one all history)
