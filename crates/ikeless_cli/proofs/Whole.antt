-- A whole script without a forged arrival is taken whole: no cause of another status holds over it.
use Rattle.std.proofs.Common.{◌≡◌, ◌≢◌, ◌≤◌, ◌<◌, ◌⊎◌, ℕ, ◌+◌, List, [], ◌∷◌, ◌++◌, length, true, Option, Some, None, Ok, Err, Result, refl, sym, ◌∙◌, ap, append_assoc, append-nil, subst, length-append, arith, inl, inr}
use Rattle.ikl_base.specs.Outside.{Loses}
use Rattle.ikl_base.specs.declared.status.Status.{Status}
use Rattle.ikl_base.specs.declared.status.Status.TheVariants as statuses
use Rattle.ikl_base.specs.declared.status.LineFault.{LineFault}
use Rattle.ikl_base.specs.declared.status.LineFault.TheVariants as faults
use Rattle.hist_acts.specs.declared.act.Act.{Act}
use Rattle.hist_acts.specs.declared.event.Event.{Event}
use Rattle.hist_acts.specs.declared.event.Header.{Header}
use Rattle.hist_world.specs.Block.{Past, Shows, nothing, past_after}
use Rattle.hist_world.specs.Stands as stands
use Rattle.hist_blocks.proofs.Histories.{genuine-none}
use Rattle.hist_wire.specs.Wire.{under_way}
use Rattle.hist_wire.specs.Histories.{NoneForged}
use Rattle.event_lines.specs.Event.{event_of}
use Rattle.event_lines.specs.Header.{header_of}
use Rattle.hist_scripts.specs.Script.{AreLinesOf}
use Rattle.ikeless_cli.specs.Script.{AreLines, HasNoLf, IsScript, Taken, is_inside, joined}
use Rattle.ikeless_cli.specs.Run.{Cause, EndForged, IsBadLine, IsCutOff, IsLongLine, IsTooLong, IsWhole, Ran, Refuses, is_read_fault, is_write_fault}
use Rattle.ikeless_cli.proofs.Lines.{inside-cons}

-- ---- octets between LFs

lf-inside : (c : ℕ) → is_inside c ≡ true → c ≡ 10 → ⊥
lf-inside c inside e = (let no : ⊥ = grind (arith, inside, e) in no)

-- two lines with their LFs are the same where all octets are
line-cut : (l m xs ys : List ℕ) → HasNoLf l → HasNoLf m → l ++ 10 ∷ xs ≡ m ++ 10 ∷ ys → (l ≡ m) × (xs ≡ ys)
line-cut [] [] xs ys p q e = (refl, let same : xs ≡ ys = cc in same)
line-cut [] (d ∷ m) xs ys p q e = absurd (lf-inside d (inside-cons d m q).0 (let same : 10 ≡ d = cc in sym same))
line-cut (c ∷ l) [] xs ys p q e = absurd (lf-inside c (inside-cons c l p).0 (let same : c ≡ 10 = cc in same))
line-cut (c ∷ l) (d ∷ m) xs ys p q e =
    let first : c ≡ d = cc in
    let later : l ++ 10 ∷ xs ≡ m ++ 10 ∷ ys = cc in
    let ih = line-cut l m xs ys (inside-cons c l p).1 (inside-cons d m q).1 later in
    (ap (λ (x : ℕ). x ∷ l) first ∙ ap (λ (x : List ℕ). d ∷ x) ih.0, ih.1)

-- no LF comes within octets that have none
no-lf : (l m xs ys : List ℕ) → HasNoLf l → length m < length l → l ++ xs ≡ m ++ 10 ∷ ys → ⊥
no-lf [] m xs ys p size e = absurd (omega (arith, size))
no-lf (c ∷ l) [] xs ys p size e = lf-inside c (inside-cons c l p).0 (let same : c ≡ 10 = cc in same)
no-lf (c ∷ l) (d ∷ m) xs ys p size e =
    let later : l ++ xs ≡ m ++ 10 ∷ ys = cc in
    no-lf l m xs ys (inside-cons c l p).1 (omega (arith, size)) later

-- ---- lines

-- the octets of a script after some of its lines are those of its other lines
record Rest (ls : List (List ℕ)) (xs : List ℕ) (ms : List (List ℕ)) : Type 0 where
  pub more : List (List ℕ)
  pub lines : ms ≡ ls ++ more
  pub octets : xs ≡ joined more
  pub each : AreLines more

one-line : (l : List ℕ) (ls : List (List ℕ)) (xs : List ℕ) → joined (l ∷ ls) ++ xs ≡ l ++ 10 ∷ (joined ls ++ xs)
one-line l ls xs = append_assoc (l ++ 10 ∷ []) (joined ls) xs ∙ append_assoc l (10 ∷ []) (joined ls ++ xs)

rest-of : (ls : List (List ℕ)) (octets : List ℕ) (ms : List (List ℕ)) → AreLines ls → AreLines ms → joined ls ++ octets ≡ joined ms → Rest
    ls octets ms
rest-of [] octets ms are all e = record { more = ms; lines = refl; octets = e; each = all }
rest-of (l ∷ ls) octets [] are all e =
    let whole : l ++ 10 ∷ (joined ls ++ octets) ≡ [] = sym (one-line l ls octets) ∙ e in
    let size = ap length whole in
    let cut = length-append l (10 ∷ (joined ls ++ octets)) in
    absurd (omega (arith, size, cut))
rest-of (l ∷ ls) octets (m ∷ ms) are all e =
    let both : l ++ 10 ∷ (joined ls ++ octets) ≡ m ++ 10 ∷ joined ms = sym (one-line l ls octets) ∙ e ∙ append_assoc m (10 ∷ []) (joined ms)
    in
    let cut = line-cut l m (joined ls ++ octets) (joined ms) are.0.inside all.0.inside both in
    let ih = rest-of ls octets ms are.1 all.1 cut.1 in
    record {
      more = ih.more;
      lines = ap (λ (x : List ℕ). x ∷ ms) (sym cut.0) ∙ ap (λ (x : List (List ℕ)). l ∷ x) ih.lines;
      octets = ih.octets;
      each = ih.each;
    }

-- ---- events

-- the lines after some of a script's lines are those of the events after theirs
record Later (h : Header) (es : List Event) (ls : List (List ℕ)) (fs : List Event) : Type 0 where
  pub later : List Event
  pub events : fs ≡ es ++ later
  pub are : AreLinesOf h ls later

later-of : (h : Header) (ls ms : List (List ℕ)) (es fs : List Event) → AreLinesOf h ls es → AreLinesOf h (ls ++ ms) fs → Later h es ms fs
later-of h [] ms [] fs are all = record { later = fs; events = refl; are = all }
later-of h [] ms (e ∷ es) fs are all = absurd are
later-of h (l ∷ ls) ms [] fs are all = absurd are
later-of h (l ∷ ls) ms (e ∷ es) [] are all = absurd all
later-of h (l ∷ ls) ms (e ∷ es) (f ∷ fs) are all =
    let both : Ok e ≡ Ok f = sym are.0 ∙ all.0 in
    let same : e ≡ f = cc in
    let ih = later-of h ls ms es fs are.1 all.1 in
    record { later = ih.later; events = ap (λ (x : Event). x ∷ fs) (sym same) ∙ ap (λ (x : List Event). e ∷ x) ih.events; are = ih.are }

genuine-front : (shows : Shows) (header : Header) (p : Past) (es fs : List Event) → stands.AreGenuine shows header p (es ++ fs) →
    stands.AreGenuine shows header p es
genuine-front shows header p [] fs g = tt
genuine-front shows header p (e ∷ es) fs g = (g.0, genuine-front shows header (past_after shows header p e) es fs g.1)

-- what comes in a script after these lines: its header, or further events
abbrev Continues : Option Header → List Event → List (List ℕ) → Header → List Event → Type 0
Continues None es more h all = IsScript (Some h) more all
Continues (Some k) es more h all = Later k es more all × NoneForged k all

continues : (header : Option Header) (lines : List (List ℕ)) (es : List Event) (h : Header) (all : List (List ℕ)) (fs : List Event)
    (more : List (List ℕ))
    → IsScript header lines es → IsScript (Some h) all fs → NoneForged h fs → all ≡ lines ++ more → Continues header es more h fs
continues None lines es h all fs more is whole genuine e =
    let P : List (List ℕ) → Type 0 = λ x. IsScript (Some h) x fs in
    subst P (e ∙ ap (λ (x : List (List ℕ)). x ++ more) is.0) whole
continues (Some k) lines es h all fs more is whole genuine e =
    let both : whole.0 ∷ whole.1 ≡ is.0 ∷ (is.1 ++ more) = sym whole.2 ∙ e ∙ ap (λ (x : List (List ℕ)). x ++ more) is.2 in
    let first : whole.0 ≡ is.0 = cc in
    let others : whole.1 ≡ is.1 ++ more = cc in
    let read : Ok h ≡ Ok k = sym whole.3 ∙ ap header_of first ∙ is.3 in
    let same : h ≡ k = cc in
    let P : List (List ℕ) → Type 0 = λ x. AreLinesOf h x fs in
    let Q : Header → Type 0 = λ x. AreLinesOf x (is.1 ++ more) fs in
    let N : Header → Type 0 = λ x. NoneForged x fs in
    (later-of k is.1 more es fs is.4 (subst Q same (subst P others whole.4)), subst N same genuine)

-- ---- no other cause

other : {A B : Type 0} (x : Result A B) (a : A) (b : B) → x ≡ Ok a → x ≡ Err b → ⊥
other x a b p q = (let both : Ok a ≡ Err b = sym p ∙ q in let no : ⊥ = cc in no)

-- the first line of the rest is read
is-read : (header : Option Header) (es : List Event) (line : List ℕ) (more : List (List ℕ)) (h : Header) (fs : List Event)
    (reason : LineFault)
    → Continues header es (line ∷ more) h fs → Refuses header line reason → ⊥
is-read None es line more h fs reason is refused =
    let both : line ∷ more ≡ is.0 ∷ is.1 = is.2 in
    let same : line ≡ is.0 = cc in
    other (header_of line) h reason (ap header_of same ∙ is.3) refused
is-read (Some k) es line more h fs reason is refused = later is.0.later is.0.are where
  later : (later : List Event) → AreLinesOf k (line ∷ more) later → ⊥
  later [] are = absurd are
  later (e ∷ es) are = other (event_of k.gateways line) e reason are.0 refused

no-bad : (header : Option Header) (es : List Event) (line ys : List ℕ) (more : List (List ℕ)) (h : Header) (fs : List Event)
    (reason : LineFault)
    → Continues header es more h fs → AreLines more → HasNoLf line → line ++ 10 ∷ ys ≡ joined more → Refuses header line reason → ⊥
no-bad header es line ys [] h fs reason is each inside e refused =
    let size = ap length e in
    let cut = length-append line (10 ∷ ys) in
    absurd (omega (arith, size, cut))
no-bad header es line ys (m ∷ more) h fs reason is each inside e refused =
    let cut = line-cut line m ys (joined more) inside each.0.inside (e ∙ append_assoc m (10 ∷ []) (joined more)) in
    let P : List ℕ → Type 0 = λ x. Refuses header x reason in
    is-read header es m more h fs reason is (subst P cut.0 refused)

no-long : (line ys : List ℕ) (next : ℕ) (more : List (List ℕ)) → AreLines more → HasNoLf line → length line ≡ 1048576 → line ++ next ∷ ys ≡
    joined more → ⊥
no-long line ys next [] each inside full e =
    let size = ap length e in
    let cut = length-append line (next ∷ ys) in
    absurd (omega (arith, size, cut))
no-long line ys next (m ∷ more) each inside full e =
    let short = each.0.short in
    no-lf line m (next ∷ ys) (joined more) inside (omega (arith, short, full)) (e ∙ append_assoc m (10 ∷ []) (joined more))

no-cut : (header : Option Header) (es : List Event) (rest : List ℕ) (more : List (List ℕ)) (h : Header) (fs : List Event)
    → Continues header es more h fs → AreLines more → HasNoLf rest → rest ≡ joined more → (rest ≢ []) ⊎ (header ≡ None) → ⊥
no-cut header es rest [] h fs is each inside e (inl some) = some e
no-cut None es rest [] h fs is each inside e (inr none) = (let size = ap length is.2 in absurd (omega (arith, size)))
no-cut (Some k) es rest [] h fs is each inside e (inr none) = absurd (let no : ⊥ = cc in no)
no-cut header es rest (m ∷ more) h fs is each inside e some =
    let both : rest ++ [] ≡ m ++ 10 ∷ joined more = append-nil rest ∙ e ∙ append_assoc m (10 ∷ []) (joined more) in
    let size = ap length both in
    let left = length-append rest [] in
    let right = length-append m (10 ∷ joined more) in
    no-lf rest m [] (joined more) inside (omega (arith, size, left, right)) both

no-forged : (header : Option Header) (es : List Event) (more : List (List ℕ)) (h : Header) (fs : List Event) → Continues header es more h fs
    → EndForged header es → ⊥
no-forged None es more h fs is forged = absurd forged
no-forged (Some k) es more h fs is forged =
    let N : List Event → Type 0 = λ x. NoneForged k x in
    let genuine = genuine-front (under_way k) k nothing es is.0.later (subst N is.0.events is.1) in
    let none = genuine-none (under_way k) k nothing es genuine in
    (let both : None ≡ Some (length es) = sym none ∙ forged in let no : ⊥ = cc in no)

-- ---- the statuses

abbrev pub IsEnd : Status → Type 0
IsEnd status = (status ≡ statuses.Done) ⊎ (status ≡ statuses.NoMemory)

record Part (script octets left : List ℕ) (w : IsWhole script) (t : Taken octets) : Type 0 where
  pub rest : Rest t.lines (t.rest ++ left) w.lines
  pub on : Continues t.header t.events rest.more w.header w.events
  pub size : length (joined t.lines) + length t.rest ≤ 67108864

part-of : (script octets left : List ℕ) (w : IsWhole script) (t : Taken octets) → script ≡ octets ++ left → Part script octets left w t
part-of script octets left w t e =
    let same : joined t.lines ++ (t.rest ++ left) ≡ joined w.lines =
    sym (append_assoc (joined t.lines) t.rest left) ∙ ap (λ (x : List ℕ). x ++ left) (sym t.octets) ∙ sym e ∙ w.octets in
    let rest = rest-of t.lines (t.rest ++ left) w.lines t.each w.each same in
    let all = ap length e in
    let first = length-append octets left in
    let part = ap length t.octets in
    let second = length-append (joined t.lines) t.rest in
    let within = w.within in
    record {
      rest = rest;
      on = continues t.header t.lines t.events w.header w.lines w.events rest.more t.script w.says w.genuine rest.lines;
      size = omega (arith, all, first, part, second, within);
    }

-- octets before what is left, cut at an octet
cut-at : (rest left line : List ℕ) (next : ℕ) (more joins : List ℕ) → rest ≡ line ++ next ∷ more → rest ++ left ≡ joins → line ++ next ∷
    (more ++ left) ≡ joins
cut-at rest left line next more joins cut e = sym (append_assoc line (next ∷ more) left) ∙ ap (λ (x : List ℕ). x ++ left) (sym cut) ∙ e

no-refusal : (script octets left : List ℕ) (w : IsWhole script) (t : Taken octets) (reason : LineFault) → Part script octets left w t
    → IsBadLine t.header t.lines t.rest reason ⊎ (IsLongLine t.lines t.rest ⊎ IsCutOff t.header t.lines t.rest (Some left)) → ⊥
no-refusal script octets left w t reason p (inl b) =
    no-bad t.header t.events b.line (b.comes.more ++ left) p.rest.more w.header w.events reason p.on p.rest.each b.comes.begun.inside
    (cut-at t.rest left b.line 10 b.comes.more (joined p.rest.more) b.comes.cut p.rest.octets) b.refused
no-refusal script octets left w t reason p (inr (inl b)) =
    no-long b.line (b.comes.more ++ left) b.next p.rest.more p.rest.each b.comes.begun.inside b.full
    (cut-at t.rest left b.line b.next b.comes.more (joined p.rest.more) b.comes.cut p.rest.octets)
no-refusal script octets left w t reason p (inr (inr b)) =
    let all : t.rest ≡ joined p.rest.more = sym (append-nil t.rest) ∙ ap (λ (x : List ℕ). t.rest ++ x) (sym b.end) ∙ p.rest.octets in
    no-cut t.header t.events t.rest p.rest.more w.header w.events p.on p.rest.each b.begun.inside all b.some

too-long : (script octets left : List ℕ) (w : IsWhole script) (t : Taken octets) → Part script octets left w t → IsTooLong t.lines t.rest →
    ⊥
too-long script octets left w t p b =
    let size = p.size in
    let full = b.full in
    let cut = ap length b.comes.cut in
    let sum = length-append b.line (b.next ∷ b.comes.more) in
    absurd (omega (arith, size, full, cut, sum))

ends-so : (script octets left : List ℕ) (w : IsWhole script) (status : Status) (t : Taken octets) (happened : List Act) → Part script octets
    left w t → Cause status t happened (Some left)
    → (is_read_fault status ≡ true → ⊥) → (is_write_fault status ≡ true → ⊥) → IsEnd status
ends-so script octets left w statuses.Done t happened p cause r k = inl refl
ends-so script octets left w (statuses.Line line reason) t happened p cause r k = absurd (by cause.1) where
  by : IsBadLine t.header t.lines t.rest reason ⊎ (((reason ≡ faults.Long) × IsLongLine t.lines t.rest) ⊎
      ((reason ≡ faults.End) × IsCutOff t.header t.lines t.rest (Some left))) → ⊥
  by (inl b) = no-refusal script octets left w t reason p (inl b)
  by (inr (inl b)) = no-refusal script octets left w t reason p (inr (inl b.1))
  by (inr (inr b)) = no-refusal script octets left w t reason p (inr (inr b.1))
ends-so script octets left w statuses.ReadFault t happened p cause r k = absurd (r refl)
ends-so script octets left w statuses.WriteFault t happened p cause r k = absurd (k refl)
ends-so script octets left w statuses.NoMemory t happened p cause r k = inr refl
ends-so script octets left w (statuses.Forged line arrived) t happened p cause r k = absurd
    (no-forged t.header t.events p.rest.more w.header w.events p.on cause.2)
ends-so script octets left w statuses.TooLong t happened p cause r k = absurd (too-long script octets left w t p cause.0)
ends-so script octets left w status t happened p cause r k = absurd cause

-- a whole script ends as Done, or for want of memory, where no device failed
pub ends-whole : (script octets written : List ℕ) (before left : Option (List ℕ)) (status : Status) → IsWhole script → before ≡ Some script
    → Loses before left octets → Ran status left octets written
    → (is_read_fault status ≡ true → ⊥) → (is_write_fault status ≡ true → ⊥) → IsEnd status
ends-whole script octets written None left status w is loses ran r k = absurd (let no : ⊥ = cc in no)
ends-whole script octets written (Some old) None status w is loses ran r k = absurd loses
ends-whole script octets written (Some old) (Some left) status w is loses ran r k =
    let same : old ≡ script = cc in
    ends-so script octets left w status ran.0 ran.1 (part-of script octets left w ran.0 (sym same ∙ loses)) ran.5 r k
