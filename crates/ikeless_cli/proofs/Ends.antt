-- How a run ends: within the octets of a line, at its LF, between two octets.
use Rattle.std.proofs.Common.{◌≡◌, ◌≢◌, ◌≤◌, ◌<◌, ◌⊎◌, ℕ, ◌+◌, List, [], ◌∷◌, ◌++◌, length, take, drop, get_or, false, Option, Some, None, IsSome, refl, sym, ◌∙◌, ap, append_assoc, append-nil, subst, length-append, arith, inl, inr}
use Rattle.std.proofs.lemmas.Grind.{common_steps}
use Rattle.ikl_base.specs.Outside.{AtEnd, Gains, Loses}
use Rattle.ikl_base.specs.declared.status.Status.{Status}
use Rattle.ikl_base.specs.declared.status.Status.TheVariants as statuses
use Rattle.ikl_base.specs.declared.status.LineFault.{LineFault}
use Rattle.ikl_base.specs.declared.status.LineFault.TheVariants as faults
use Rattle.hist_acts.specs.declared.event.Event.{Event}
use Rattle.hist_acts.specs.declared.event.Header.{Header}
use Rattle.script_lines.specs.Text.{text_of}
use Rattle.ikeless_cli.specs.declared.running.Running.{Running}
use Rattle.ikeless_cli.specs.Script.{AreLines, HasNoLf, IsLine, IsScript, Taken, joined}
use Rattle.ikeless_cli.specs.Run.{AreGenuine, Cause, EndForged, HasBegun, IsWritten, Ran, Refuses, is_read_fault}
use Rattle.ikeless_cli.specs.Reader.{After, EndsWith, Fits, Overflows, Reads, Stands, State, Takes, TakesLine, acts_of, kept, header_kept, ends_forged, lines_of}
use Rattle.ikeless_cli.proofs.Going.{ends-early, ends-on, reads-line, reads-octets}
use Rattle.ikeless_cli.proofs.Bytes.{gains_none}
use Rattle.ikeless_cli.proofs.Events.{acts-safe, happened}
use Rattle.ikeless_cli.proofs.Lines.{AreLinesOf-length, inside-take, joined-push, line-joined}

-- ---- what was taken between two octets

-- the number of lines taken
lines-length : (running : Option Running) (lines : List (List ℕ)) (events : List Event) → Stands running lines events → length lines ≡
    lines_of running
lines-length None lines events stands = ap length stands.script.0
lines-length (Some r) lines events stands =
    let script = stands.script in
    let all : length lines ≡ length (script.0 ∷ script.1) = ap length script.2 in
    let more = AreLinesOf-length r.world.header script.1 events script.4 in
    let taken = stands.state.1 in
    omega (arith, all, more, taken)

numbered : (running : Option Running) (lines : List (List ℕ)) (events : List Event) (number : ℕ) → Stands running lines events → number ≡
    lines_of running + 1 → number ≡ length lines + 1
numbered running lines events number stands e = let counted = lines-length running lines events stands in omega (arith, counted, e)

begun : (i t : List ℕ) (s : State) → (r : Reads i t s) → HasBegun r.lines s.line
begun i t s r = record {
  inside = r.inside;
  short = r.short;
  within = (let count = r.count in let within = r.within in omega
      (arith, count, within));
}

octets-at : (i t more : List ℕ) (s : State) → (r : Reads i t s) → i ++ more ≡ joined r.lines ++ (s.line ++ more)
octets-at i t more s r = ap (λ x. x ++ more) r.octets ∙ append_assoc (joined r.lines) s.line more

within-at : (i t : List ℕ) (s : State) → (r : Reads i t s) → length (joined r.lines) ≤ 67108864
within-at i t s r = let count = r.count in let within = r.within in omega (arith, count, within)

-- the octets before these are the lines taken and the line that has begun
abbrev taken_at : (i t more : List ℕ) (s : State) → Reads i t s → Taken (i ++ more)
taken_at i t more s r = record {
  header = header_kept s.running;
  lines = r.lines;
  events = r.events;
  rest = s.line ++ more;
  octets = octets-at i t more s r;
  each = r.stands.each;
  within = within-at i t s r;
  script = r.stands.script;
}

-- a run that ends between two octets, before these
ran : (status : Status) (left : Option (List ℕ)) (i t more : List ℕ) (s : State) → (r : Reads i t s)
    → IsWritten status (t ++ []) (text_of (acts_of (header_kept s.running) r.events))
    → Cause status (taken_at i t more s r) (acts_of (header_kept s.running) r.events) left → Ran status left (i ++ more) (t ++ [])
ran status left i t more s r written cause = (
  taken_at i t more s r,
  acts_of (header_kept s.running) r.events,
  happened (header_kept s.running) r.events,
  acts-safe (header_kept s.running) r.lines r.events r.stands.script,
  written,
  cause,
)

wrote : (i t : List ℕ) (s : State) → (r : Reads i t s) → t ++ [] ≡ text_of (acts_of (header_kept s.running) r.events)
wrote i t s r = append-nil t ∙ r.written

-- ---- within a line

-- a whole line can't be taken
pub ends-line : (running : Option Running) (line : List ℕ) (whole number : ℕ) (reason : LineFault) (a : Option (List ℕ)) → number ≡ lines_of
    running + 1
    → length line < 1048576 → whole + length line < 67108864 → Refuses (header_kept running) line reason
    → EndsWith (statuses.Line number reason) (kept running line whole) a a (10 ∷ [])
ends-line running line whole number reason a e short room refused i t r =
    let s : State = kept running line whole in
    let count = r.count in (
      [],
      gains_none a,
      λ left after. ran (statuses.Line number reason) left i t (10 ∷ after) s r (wrote i t s r) (
        numbered running r.lines r.events number r.stands e,
        inl (record {
          line = line;
          comes = record { more = after; cut = refl; begun = begun i t s r };
          short = short;
          room = omega (arith, count, room);
          refused = refused;
        }),
        r.stands.genuine,
      ),
    )

-- an octet comes after 1 MiB of a line
ends-long : (s : State) (number octet : ℕ) (a : Option (List ℕ)) → number ≡ lines_of s.running + 1 → 1048576 ≤ length s.line → s.whole +
    length s.line < 67108864
    → EndsWith (statuses.Line number faults.Long) s a a (octet ∷ [])
ends-long s number octet a e long room i t r =
    let short = r.short in
    let count = r.count in (
      [],
      gains_none a,
      λ left after. ran (statuses.Line number faults.Long) left i t (octet ∷ after) s r (wrote i t s r) (
        numbered s.running r.lines r.events number r.stands e,
        inr (inl (
          refl,
          record {
            line = s.line;
            next = octet;
            comes = record { more = after; cut = refl; begun = begun i t s r };
            full = omega (arith, short, long);
            room = omega (arith, count, room);
          },
        )),
        r.stands.genuine,
      ),
    )

-- the octet after 64 MiB
ends-too_long : (s : State) (octet : ℕ) (a : Option (List ℕ)) → 67108864 ≤ s.whole + length s.line → EndsWith statuses.TooLong s a a
    (octet ∷ [])
ends-too_long s octet a full i t r =
    let count = r.count in
    let within = r.within in (
      [],
      gains_none a,
      λ left after. ran statuses.TooLong left i t (octet ∷ after) s r (wrote i t s r) (
        record {
          line = s.line;
          next = octet;
          comes = record { more = after; cut = refl; begun = begun i t s r };
          full = omega (arith, count, within, full);
        },
        r.stands.genuine,
      ),
    )

pub ends-no_memory : (s : State) (octets : List ℕ) (a : Option (List ℕ)) → EndsWith statuses.NoMemory s a a octets
ends-no_memory s octets a i t r = (
  [],
  gains_none a,
  λ left after. ran statuses.NoMemory left i t (octets ++ after) s r (wrote i t s r)
      r.stands.genuine,
)

-- ---- at the octet that passes a limit

cut-at : (xs : List ℕ) (n : ℕ) → n < length xs → (take n xs ++ get_or xs n 0 ∷ []) ++ drop (n + 1) xs ≡ xs
cut-at xs n inside = grind (arith, common_steps)

front : (n : ℕ) (xs ys : List ℕ) → n ≤ length xs → take n (xs ++ ys) ≡ take n xs
front n xs ys inside = grind (arith, common_steps)

-- so many octets of a line, and then the end at the next one
ends-at : (status : Status) (s : State) (n : ℕ) (octets end : List ℕ) (a : Option (List ℕ)) → HasNoLf octets → n ≤ length octets → n <
    length (octets ++ end) → Fits s n
    → ((line : List ℕ) (octet : ℕ) → length line ≡ length s.line + n → EndsWith status (kept s.running line s.whole) a a (octet ∷ [])) →
    EndsWith status s a a (octets ++ end)
ends-at status s n octets end a inside before some fits last =
    let all : List ℕ = octets ++ end in
    let xs : List ℕ = take n all in
    let next : ℕ = get_or all n 0 in
    let same : take n all ≡ take n octets = front n octets end before in
    let none : HasNoLf xs = (let P : List ℕ → Type 0 = λ x. HasNoLf x in subst P (sym same) (inside-take n octets inside)) in
    let size : length xs ≡ n = grind (arith, common_steps) in
    let room : Fits s (length xs) = (let F : ℕ → Type 0 = λ x. Fits s x in subst F (sym size) fits) in
    let longer = length-append s.line xs in
    let goes = reads-octets s xs (s.line ++ xs) a refl none room in
    let stops = last (s.line ++ xs) next (omega (arith, longer, size)) in
    ends-early status s a a (xs ++ next ∷ []) (drop (n + 1) all) all (cut-at all n some)
    (ends-on status s (kept s.running (s.line ++ xs) s.whole) a a a xs (next ∷ []) (xs ++ next ∷ []) refl goes stops)

pub overflows-too_long : (s : State) (count left : ℕ) → Fits s 0 → left + (s.whole + length s.line) ≡ 67108864 → length s.line + left ≤
    1048576 → left < count → Overflows statuses.TooLong s count
overflows-too_long s count left now is before more octets end a inside one size =
    let sum = length-append octets end in (
      ends-at statuses.TooLong s left octets end a inside (omega (arith, one, size, more, sum)) (omega (arith, size, more))
          (record { short = before; within = omega (arith, is) }) (λ line octet longer.
          ends-too_long (kept s.running line s.whole) octet a (omega (arith, longer, is))),
      refl,
    )

pub overflows-long : (s : State) (count short number : ℕ) → number ≡ lines_of s.running + 1 → short + length s.line ≡ 1048576 → s.whole +
    length s.line + short < 67108864 → short < count
    → Overflows (statuses.Line number faults.Long) s count
overflows-long s count short number e is before more octets end a inside one size =
    let sum = length-append octets end in (
      ends-at (statuses.Line number faults.Long) s short octets end a inside (omega (arith, one, size, more, sum))
          (omega (arith, size, more))
          (record { short = omega (arith, is); within = omega (arith, before) })
          (λ line octet longer. ends-long (kept s.running line s.whole) number octet a e (omega (arith, longer, is))
          (omega (arith, longer, before))),
      refl,
    )

pub overflows-octets : (status : Status) (s : State) (octets : List ℕ) (count : ℕ) (a : Option (List ℕ)) → HasNoLf octets → count ≡ length
    octets → Overflows status s count
    → EndsWith status s a a octets × (is_read_fault status ≡ false)
overflows-octets status s octets count a inside size over =
    let same = append-nil octets in
    let P : List ℕ → Type 0 = λ x. EndsWith status s a a x × (is_read_fault status ≡ false) in
    subst P same (over octets [] a inside (omega arith) (size ∙ ap length (sym same)))

pub overflows-line : (status : Status) (s : State) (octets : List ℕ) (count : ℕ) (a : Option (List ℕ)) → HasNoLf octets → count ≡ length
    octets + 1 → Overflows status s count
    → EndsWith status s a a (octets ++ 10 ∷ []) × (is_read_fault status ≡ false)
overflows-line status s octets count a inside size over = over octets (10 ∷ []) a inside (omega arith)
    (let sum = length-append octets (10 ∷ []) in omega (arith, size, sum))

-- ---- at the LF of a line whose block was written

within-push : (lines : List (List ℕ)) (line : List ℕ) (whole : ℕ) → whole ≡ length (joined lines) → whole + length line < 67108864 → length
    (joined (lines ++ line ∷ [])) ≤ 67108864
within-push lines line whole count room =
    let all = ap length (joined-push lines line) in
    let first = length-append (joined lines) (line ++ 10 ∷ []) in
    let second = length-append line (10 ∷ []) in
    omega (arith, all, first, second, count, room)

number-push : (running : Option Running) (lines : List (List ℕ)) (events : List Event) (line : List ℕ) (number : ℕ) → Stands running lines
    events → number ≡ lines_of running + 1
    → number ≡ length (lines ++ line ∷ [])
number-push running lines events line number stands e =
    let counted = numbered running lines events number stands e in
    let size = length-append lines (line ∷ []) in
    omega (arith, counted, size)

-- a forged arrival
ends-forged : (running new : Option Running) (line text octets : List ℕ) (whole number : ℕ) (a b : Option (List ℕ)) → TakesLine running new
    line text (Some octets)
    → number ≡ lines_of running + 1 → length line < 1048576 → whole + length line < 67108864 → Gains a b text
    → EndsWith (statuses.Forged number octets) (kept running line whole) a b (10 ∷ [])
ends-forged running new line text octets whole number a b takes e short room gains i t r =
    let is : IsLine line = record { inside = r.inside; short = short } in
    let over = takes.more r.lines r.events is r.stands in
    let h : Option Header = Some over.header in (
      text,
      gains,
      λ left after. (
        record {
          header = h;
          lines = r.lines ++ line ∷ [];
          events = over.events;
          rest = after;
          octets = line-joined i r.lines line after r.octets;
          each = over.each;
          within = within-push r.lines line whole r.count room;
          script = over.script;
        },
        acts_of h over.events,
        happened h over.events,
        acts-safe h (r.lines ++ line ∷ []) over.events over.script,
        ap (λ x. x ++ text) r.written ∙ sym over.written,
        (number-push running r.lines r.events line number r.stands e, over.last, over.forged),
      ),
    )

-- what was taken with a line, forged or not
record Took (running : Option Running) (lines : List (List ℕ)) (before text : List ℕ) : Type 0 where
  pub header : Option Header
  pub events : List Event
  pub each : AreLines lines
  pub script : IsScript header lines events
  pub ends : AreGenuine header events ⊎ EndForged header events
  pub written : text_of (acts_of header events) ≡ before ++ text

took : (new : Option Running) (lines : List (List ℕ)) (before text : List ℕ) (forged : Option (List ℕ)) → After new lines before text forged
    → Took new lines before text
took new lines before text None on = record {
  header = header_kept new;
  events = on.events;
  each = on.stands.each;
  script = on.stands.script;
  ends = inl on.stands.genuine;
  written = on.written;
}
took new lines before text (Some octets) over = record {
  header = Some over.header;
  events = over.events;
  each = over.each;
  script = over.script;
  ends = inr over.forged;
  written = over.written;
}

-- the sink failed in the block of a line
pub breaks : (running new : Option Running) (line text part more : List ℕ) (forged : Option (List ℕ)) (whole : ℕ) (a b : Option (List ℕ)) →
    TakesLine running new line text forged
    → length line < 1048576 → whole + length line < 67108864 → part ++ more ≡ text → Gains a b part
    → EndsWith statuses.WriteFault (kept running line whole) a b (10 ∷ [])
breaks running new line text part more forged whole a b takes short room cut gains i t r =
    let is : IsLine line = record { inside = r.inside; short = short } in
    let step = took new (r.lines ++ line ∷ []) (text_of (acts_of (header_kept running) r.events)) text forged
    (takes.more r.lines r.events is r.stands) in (
      part,
      gains,
      λ left after. (
        record {
          header = step.header;
          lines = r.lines ++ line ∷ [];
          events = step.events;
          rest = after;
          octets = line-joined i r.lines line after r.octets;
          each = step.each;
          within = within-push r.lines line whole r.count room;
          script = step.script;
        },
        acts_of step.header step.events,
        happened step.header step.events,
        acts-safe step.header (r.lines ++ line ∷ []) step.events step.script,
        (more, append_assoc t part more ∙ (ap (λ x. t ++ x) cut ∙ (ap (λ x. x ++ text) r.written ∙ sym step.written))),
        step.ends,
      ),
    )

-- a line that was taken and whose block was written: the run ends at a forged arrival, and else goes on
pub line-takes : (running new : Option Running) (line text : List ℕ) (forged : Option (List ℕ)) (whole number : ℕ) (a b : Option (List ℕ)) →
    TakesLine running new line text forged
    → number ≡ lines_of running + 1 → length line < 1048576 → whole + length line < 67108864 → Gains a b text
    → Takes (ends_forged number forged) (kept running line whole) (kept new [] (whole + length line + 1)) a b (10 ∷ [])
line-takes running new line text None whole number a b takes e short room gains = reads-line running new line text whole a b takes short
    room gains
line-takes running new line text (Some octets) whole number a b takes e short room gains =
    (ends-forged running new line text octets whole number a b takes e short room gains, refl)

-- ---- between two octets

ran-here : (status : Status) (left : Option (List ℕ)) (i t : List ℕ) → Ran status left (i ++ []) (t ++ []) → Ran status left i t
ran-here status left i t r =
    let P : List ℕ → Type 0 = λ x. Ran status left x t in
    let Q : List ℕ → Type 0 = λ x. Ran status left (i ++ []) x in
    subst P (append-nil i) (subst Q (append-nil t) r)

pub ends-done : (left : Option (List ℕ)) (i t : List ℕ) (s : State) → Reads i t s → AtEnd left → s.line ≡ [] → IsSome
    (header_kept s.running) → Ran statuses.Done left i t
ends-done left i t s r end empty some =
    ran-here statuses.Done left i t (ran statuses.Done left i t [] s r (wrote i t s r)
    (append-nil s.line ∙ empty, end, some, r.stands.genuine))

begun-here : (lines : List (List ℕ)) (line : List ℕ) → HasBegun lines line → HasBegun lines (line ++ [])
begun-here lines line b = subst (HasBegun lines) (sym (append-nil line)) b

pub ends-cut_off : (left : Option (List ℕ)) (i t : List ℕ) (s : State) (number : ℕ) → Reads i t s → AtEnd left → number ≡ lines_of s.running
    + 1 → (s.line ≢ []) ⊎ (header_kept s.running ≡ None)
    → Ran (statuses.Line number faults.End) left i t
ends-cut_off left i t s number r end e some =
    let P : List ℕ → Type 0 = λ x. (x ≢ []) ⊎ (header_kept s.running ≡ None) in
    ran-here (statuses.Line number faults.End) left i t
    (ran (statuses.Line number faults.End) left i t [] s r (wrote i t s r) (
      numbered s.running r.lines r.events number r.stands e,
      inr (inr (
        refl,
        record {
          end = end;
          begun = begun-here r.lines s.line (begun i t s r);
          some = subst P (sym (append-nil s.line)) some;
        },
      )),
      r.stands.genuine,
    ))

pub ends-fault : (left : Option (List ℕ)) (i t : List ℕ) (s : State) → Reads i t s → Ran statuses.ReadFault left i t
ends-fault left i t s r =
    ran-here statuses.ReadFault left i t (ran statuses.ReadFault left i t [] s r (wrote i t s r)
    (begun-here r.lines s.line (begun i t s r), r.stands.genuine))

-- within the octets that were read last
pub ends-read : (status : Status) (left : Option (List ℕ)) (i t xs : List ℕ) → Ran status left (i ++ (xs ++ [])) t → Ran status left
    (i ++ xs) t
ends-read status left i t xs r =
    let P : List ℕ → Type 0 = λ x. Ran status left (i ++ x) t in
    subst P (append-nil xs) r

pub isnt-empty : (xs : List ℕ) → 0 < length xs → xs ≢ []
isnt-empty xs e empty = let size = ap length empty in absurd (omega (arith, e, size))

pub at-end-after : (a b : Option (List ℕ)) → AtEnd a → Loses a b [] → AtEnd b
at-end-after None None end none = tt
at-end-after None (Some b) end none = absurd none
at-end-after (Some a) None end none = absurd none
at-end-after (Some a) (Some b) end none = sym none ∙ end

-- a run never ends for its words
pub words-never : (status : Status) (left : Option (List ℕ)) (i t : List ℕ) → Ran status left i t → status ≡ statuses.Words → ⊥
words-never status left i t r e = let P : Status → Type 0 = λ s. Cause s r.0 r.1 left in subst P e r.5
