-- How a run goes on, line by line.
use Rattle.std.proofs.Common.{◌≡◌, ◌≤◌, ◌<◌, ℕ, ◌+◌, List, [], ◌∷◌, ◌++◌, length, Bool, false, Option, None, Ok, Err, Result, refl, sym, ◌∙◌, ap, append_assoc, append-nil, subst, length-append, arith}
use Rattle.ikl_base.specs.Outside.{Gains, HasRisen}
use Rattle.ikl_base.specs.declared.status.Status.{Status}
use Rattle.ikeless_cli.specs.declared.running.Running.{Running}
use Rattle.ikeless_cli.specs.Run.{Ran}
use Rattle.ikeless_cli.specs.Script.{HasNoLf, IsLine, joined}
use Rattle.ikeless_cli.specs.Reader.{EndsWith, Fits, Goes, Reads, SinkTells, State, Takes, TakesLine, fresh, kept}
use Rattle.ikeless_cli.proofs.Bytes.{gains_none, gains_more}
use Rattle.ikeless_cli.proofs.Lines.{inside-append, joined-push, line-joined}

pub fits-less : (s : State) (n : ℕ) → Fits s (n + 1) → Fits s n
fits-less s n fits = let short = fits.short in let within = fits.within in record
    { short = omega (arith, short); within = omega (arith, within) }

-- more octets of a line
pub reads-octets : (s : State) (xs line' : List ℕ) (a : Option (List ℕ)) → line' ≡ s.line ++ xs → HasNoLf xs → Fits s (length xs) → Goes s
    (kept s.running line' s.whole) a a xs
reads-octets s xs line' a e inside fits i t rd =
    let P : List ℕ → Type 0 = λ x. Reads (i ++ xs) (t ++ []) (kept s.running x s.whole) in
    let size = length-append s.line xs in
    let short = fits.short in
    let within = fits.within in (
      [],
      gains_none a,
      subst P (sym e) (record {
        lines = rd.lines;
        events = rd.events;
        octets = ap (λ x. x ++ xs) rd.octets ∙ append_assoc (joined rd.lines) s.line xs;
        stands = rd.stands;
        written = append-nil t ∙ rd.written;
        inside = inside-append s.line xs rd.inside inside;
        short = omega (arith, size, short);
        count = rd.count;
        within = omega (arith, size, within);
      }),
    )

-- an LF ends a line, which is taken
pub reads-line : (r r' : Option Running) (line text : List ℕ) (whole : ℕ) (a b : Option (List ℕ)) → TakesLine r r' line text None
    → length line < 1048576 → whole + length line < 67108864 → Gains a b text → Goes (kept r line whole)
    (kept r' [] (whole + length line + 1)) a b (10 ∷ [])
reads-line r r' line text whole a b takes short room gains i t rd =
    let is : IsLine line = record { inside = rd.inside; short = short } in
    let step = takes.more rd.lines rd.events is rd.stands in
    let all = ap length (joined-push rd.lines line) in
    let first = length-append (joined rd.lines) (line ++ 10 ∷ []) in
    let second = length-append line (10 ∷ []) in
    let count = rd.count in (
      text,
      gains,
      record {
        lines = rd.lines ++ line ∷ [];
        events = step.events;
        octets = line-joined i rd.lines line [] rd.octets;
        stands = step.stands;
        written = ap (λ x. x ++ text) rd.written ∙ sym step.written;
        inside = refl;
        short = omega arith;
        count = omega (arith, all, first, second, count);
        within = omega (arith, room);
      },
    )

pub goes-to : (old : State) (r : Option Running) (line : List ℕ) (n whole : ℕ) (a b : Option (List ℕ)) (xs : List ℕ) → line ≡ [] → whole ≡ n
    → Goes old (kept r [] n) a b xs → Goes old (kept r line whole) a b xs
goes-to old r line n whole a b xs none same goes =
    let P : List ℕ → Type 0 = λ x. Goes old (kept r x whole) a b xs in
    let Q : ℕ → Type 0 = λ x. Goes old (kept r [] x) a b xs in
    subst P (sym none) (subst Q (sym same) goes)

-- nothing was read
pub reads-none : Reads [] [] fresh
reads-none = record {
  lines = [];
  events = [];
  octets = refl;
  stands = record { each = tt; script = (refl, refl); genuine = tt; state = tt };
  written = refl;
  inside = refl;
  short = omega arith;
  count = refl;
  within = omega arith;
}

-- no octets
pub goes-none : (s : State) (a : Option (List ℕ)) → Goes s s a a []
goes-none s a i t rd =
    let P : List ℕ → Type 0 = λ x. Reads x (t ++ []) s in
    let Q : List ℕ → Type 0 = λ x. Reads i x s in
    ([], gains_none a, subst P (sym (append-nil i)) (subst Q (sym (append-nil t)) rd))

-- two steps are one
pub goes-on : (old mid new : State) (a b c : Option (List ℕ)) (xs ys zs : List ℕ) → xs ++ ys ≡ zs → Goes old mid a b xs → Goes mid new b c
    ys → Goes old new a c zs
goes-on old mid new a b c xs ys zs e p q i t r =
    let first = p i t r in
    let second = q (i ++ xs) (t ++ first.0) first.2 in
    let P : List ℕ → Type 0 = λ x. Reads x (t ++ (first.0 ++ second.0)) new in
    let Q : List ℕ → Type 0 = λ x. Reads ((i ++ xs) ++ ys) x new in (
      first.0 ++ second.0,
      gains_more a b c first.0 second.0 first.1 second.1,
      subst P (append_assoc i xs ys ∙ ap (λ x. i ++ x) e) (subst Q (append_assoc t first.0 second.0) second.2),
    )

-- a step, and then the end
pub ends-on : (status : Status) (old mid : State) (a b c : Option (List ℕ)) (xs ys zs : List ℕ) → xs ++ ys ≡ zs → Goes old mid a b xs →
    EndsWith status mid b c ys → EndsWith status old a c zs
ends-on status old mid a b c xs ys zs e p q i t r =
    let first = p i t r in
    let second = q (i ++ xs) (t ++ first.0) first.2 in (
      first.0 ++ second.0,
      gains_more a b c first.0 second.0 first.1 second.1,
      λ left after.
          let P : List ℕ → Type 0 = λ x. Ran status left x (t ++ (first.0 ++ second.0)) in
          let Q : List ℕ → Type 0 = λ x. Ran status left ((i ++ xs) ++ (ys ++ after)) x in
          let whole : (i ++ xs) ++ (ys ++ after) ≡ i ++ (zs ++ after) =
          append_assoc i xs (ys ++ after) ∙ ap (λ x. i ++ x) (sym (append_assoc xs ys after) ∙ ap (λ x. x ++ after) e) in
          subst P whole (subst Q (append_assoc t first.0 second.0) (second.2 left after)),
    )

-- the end, whatever comes after it
pub ends-early : (status : Status) (old : State) (a b : Option (List ℕ)) (xs ys zs : List ℕ) → xs ++ ys ≡ zs → EndsWith status old a b xs →
    EndsWith status old a b zs
ends-early status old a b xs ys zs e p i t r =
    let first = p i t r in (
      first.0,
      first.1,
      λ left after.
          let P : List ℕ → Type 0 = λ x. Ran status left (i ++ x) (t ++ first.0) in
          subst P (sym (append_assoc xs ys after) ∙ ap (λ x. x ++ after) e) (first.2 left (ys ++ after)),
    )

pub takes-on : (result : Result Unit Status) (old mid new : State) (a b c : Option (List ℕ)) (xs ys zs : List ℕ) → xs ++ ys ≡ zs → Goes old
    mid a b xs → Takes result mid new b c ys
    → Takes result old new a c zs
takes-on (Ok x) old mid new a b c xs ys zs e p q = goes-on old mid new a b c xs ys zs e p q
takes-on (Err status) old mid new a b c xs ys zs e p q = (ends-on status old mid a b c xs ys zs e p q.0, q.1)

risen-later : (a b c : ℕ) → a ≤ b → HasRisen b c → HasRisen a c
risen-later a b c later risen = omega (arith, later, risen)

-- what a sink tells of no calls
pub sink-none : (faults : ℕ) (told : Option Bool) → SinkTells faults faults told told false
sink-none faults told = record {
  later = omega arith;
  risen = λ e. absurd (let no : ⊥ = cc in no);
  failed = λ e. absurd (let no : ⊥ = cc in no);
  calm = λ e calm. calm;
}

-- what a sink tells of calls, and then of more calls
pub sink-on : (a b c : ℕ) (x y z : Option Bool) (broke : Bool) → SinkTells a b x y false → SinkTells b c y z broke → SinkTells a c x z broke
sink-on a b c x y z broke p q = record {
  later = let first = p.later in let second = q.later in omega (arith, first, second);
  risen = λ e. risen-later a b c p.later (q.risen e);
  failed = q.failed;
  calm = λ e calm. q.calm e (p.calm refl calm);
}
