-- A line that is taken: the header, or the event of a later line.
use Rattle.std.proofs.Common.{Bool, false, ◌≡◌, ℕ, ◌+◌, List, [], ◌∷◌, ◌++◌, Option, Some, None, Ok, refl, sym, ◌∙◌, ap, append_assoc, subst, length-append, arith}
use Rattle.std.proofs.lemmas.List.Concat.{flat_map-append}
use Rattle.hist_acts.specs.declared.act.Act.{Act}
use Rattle.hist_acts.specs.declared.act.Act.TheVariants as acts
use Rattle.hist_acts.specs.declared.event.Event.{Event}
use Rattle.hist_acts.specs.declared.event.Header.{Header}
use Rattle.hist_world.specs.Block.{Past, block, history, nothing}
use Rattle.hist_wire.specs.Wire.{under_way}
use Rattle.event_lines.specs.Event.{event_of}
use Rattle.event_lines.specs.Header.{header_of}
use Rattle.script_lines.specs.Text.{text_of, line_of}
use Rattle.world_run.specs.declared.go.Go.{Go}
use Rattle.world_run.specs.declared.go.Go.TheVariants as goes
use Rattle.world_run.specs.Kept.{Stepped, Whole}
use Rattle.world_steps.specs.Worlds.{World}
use Rattle.world_law.specs.Stands.{StandsFor}
use Rattle.ikeless_cli.specs.declared.running.Running.{Running}
use Rattle.ikeless_cli.specs.Reader.{IsLive, TakesLine, acts_of, arrival_of, forged_of, past_of}
use Rattle.ikeless_cli.proofs.Lines.{AreLines-push, AreLinesOf-push}
use Rattle.ikeless_cli.proofs.Events.{forged-block, forged-push, genuine-push, history-push, past-push}

text_of-append : (xs ys : List Act) → text_of (xs ++ ys) ≡ text_of xs ++ text_of ys
text_of-append xs ys = flat_map-append line_of xs ys

-- the world of a script, with the number of events that it took
abbrev running : Header → World → Bool → ℕ → Running
running h k spent n = record { world = record { header = h; world = k; is_spent = spent }; events = n }

-- the header's line has no block
takes-first : (h : Header) (k : World) (spent : Bool) (line text : List ℕ) → header_of line ≡ Ok h → StandsFor h nothing k → text ≡ []
    → TakesLine None (Some (running h k spent 0)) line text None
takes-first h k spent line text says start none = record {
  more = λ lines events is stands. record {
    events = [];
    stands = record {
      each = AreLines-push lines line stands.each is;
      script = (line, [], ap (λ (x : List (List ℕ)). x ++ line ∷ []) stands.script.0, says, tt);
      genuine = tt;
      state = (start, refl);
    };
    written = sym none;
  };
}

pub takes-header : (h : Header) (w : Whole) (line text : List ℕ) → header_of line ≡ Ok h → w.header ≡ h → StandsFor h nothing w.world → text
    ≡ []
    → TakesLine None (Some (record { world = w; events = 0 })) line text None
takes-header h w line text says same start none =
    let P : Header → Type 0 = λ x. TakesLine None (Some (running x w.world w.is_spent 0)) line text None in
    subst P (sym same) (takes-first h w.world w.is_spent line text says start none)

-- the text of one more event
text-push : (h : Header) (es : List Event) (e : Event) (xs : List Act) (text : List ℕ) → history (under_way h) h nothing (es ++ e ∷ []) ≡
    acts_of (Some h) es ++ block (under_way h) h (past_of h es) e
    → xs ≡ block (under_way h) h (past_of h es) e → text ≡ text_of xs → text_of (acts_of (Some h) (es ++ e ∷ [])) ≡ text_of
    (acts_of (Some h) es) ++ text
text-push h es e xs text grown did written =
    ap text_of grown
    ∙ text_of-append (acts_of (Some h) es) (block (under_way h) h (past_of h es) e)
    ∙ ap (λ (x : List ℕ). text_of (acts_of (Some h) es) ++ x) (sym (written ∙ ap text_of did))

takes-on : (h : Header) (k k' : World) (s s' : Bool) (n : ℕ) (e : Event) (xs : List Act) (line text : List ℕ) → event_of h.gateways line ≡
    Ok e
    → ((p : Past) → StandsFor h p k → Stepped h p e [] xs k' goes.On) → text ≡ text_of xs
    → TakesLine (Some (running h k s n)) (Some (running h k' s' (n + 1))) line text None
takes-on h k k' s s' n e xs line text says step written = record {
  more = λ lines events is stands.
      let p : Past = past_of h events in
      let script = stands.script in
      let state = stands.state in
      let did = step p state.0 in
      let size = length-append events (e ∷ []) in
      let count = state.1 in
      let Q : Past → Type 0 = λ q. StandsFor h q k' in
      record {
        events = events ++ e ∷ [];
        stands = record {
          each = AreLines-push lines line stands.each is;
          script = (
            script.0,
            script.1 ++ line ∷ [],
            ap (λ (x : List (List ℕ)). x ++ line ∷ []) script.2,
            script.3,
            AreLinesOf-push h
                script.1 events line e script.4 says,
          );
          genuine = genuine-push (under_way h) h nothing events e stands.genuine did.1;
          state = (subst Q (sym (past-push (under_way h) h nothing events e)) did.2, omega (arith, size, count));
        };
        written = text-push h events e xs text (history-push (under_way h) h nothing events e stands.genuine) did.0 written;
      };
}

takes-forged : (h : Header) (k k' : World) (s : Bool) (n : ℕ) (e : Event) (xs : List Act) (line text : List ℕ) (new : Option Running) →
    event_of h.gateways line ≡ Ok e
    → ((p : Past) → StandsFor h p k → Stepped h p e [] xs k' goes.Forged) → text ≡ text_of xs
    → TakesLine (Some (running h k s n)) new line text (Some (arrival_of xs))
takes-forged h k k' s n e xs line text new says step written = record {
  more = λ lines events is stands.
      let p : Past = past_of h events in
      let script = stands.script in
      let did = step p stands.state.0 in
      let last = forged-block (under_way h) h p e did.1 in
      let octets : arrival_of xs ≡ last.2 = ap arrival_of (did.0 ∙ last.3) in
      let grown = history-push (under_way h) h nothing events e stands.genuine in
      let before : List Act = acts_of (Some h) events in
      let older : List Act = before ++ acts.Took last.0 ∷ [] in
      record {
        header = h;
        events = events ++ e ∷ [];
        each = AreLines-push lines line stands.each is;
        script = (
          script.0,
          script.1 ++ line ∷ [],
          ap (λ (x : List (List ℕ)). x ++ line ∷ []) script.2,
          script.3,
          AreLinesOf-push h script.1
              events line e script.4 says,
        );
        forged = forged-push (under_way h) h nothing events e stands.genuine did.1;
        last = (
          older,
          last.1,
          grown
              ∙ ap (λ (x : List Act). before ++ x) last.3
              ∙ sym (append_assoc before (acts.Took last.0 ∷ []) (acts.Arrived last.1 last.2 ∷ []))
              ∙ ap (λ (x : List ℕ). older ++ acts.Arrived last.1 x ∷ []) (sym octets),
        );
        written = text-push h events e xs text grown did.0 written;
      };
}

takes-by : (h : Header) (k k' : World) (s s' : Bool) (n : ℕ) (e : Event) (xs : List Act) (line text : List ℕ) (go : Go) → event_of
    h.gateways line ≡ Ok e
    → ((p : Past) → StandsFor h p k → Stepped h p e [] xs k' go) → text ≡ text_of xs
    → TakesLine (Some (running h k s n)) (Some (running h k' s' (n + 1))) line text (forged_of xs go)
takes-by h k k' s s' n e xs line text goes.On says step written = takes-on h k k' s s' n e xs line text says step written
takes-by h k k' s s' n e xs line text goes.Forged says step written = takes-forged h k k' s n e xs line text _ says step written

-- a line that says an event is taken with the block of the event
pub takes-event : (w w' : Whole) (n : ℕ) (e : Event) (old xs : List Act) (line text : List ℕ) (go : Go) (forged : Option (List ℕ)) →
    event_of w.header.gateways line ≡ Ok e → w'.header ≡ w.header → old ≡ []
    → ((p : Past) → StandsFor w.header p w.world → Stepped w.header p e old xs w'.world go) → text ≡ text_of xs → forged ≡ forged_of xs go
    → TakesLine (Some (record { world = w; events = n })) (Some (record { world = w'; events = n + 1 })) line text forged
takes-event w w' n e old xs line text go forged says same none step written is =
    let r : Running = record { world = w; events = n } in
    let P : Option (List ℕ) → Type 0 = λ x. TakesLine (Some r) (Some (record { world = w'; events = n + 1 })) line text x in
    let Q : List Act → Type 0 = λ x. (p : Past) → StandsFor w.header p w.world → Stepped w.header p e x xs w'.world go in
    let H : Header → Type 0 = λ x. TakesLine (Some r) (Some (running x w'.world w'.is_spent (n + 1))) line text (forged_of xs go) in
    subst P (sym is) (subst H (sym same) (takes-by w.header w.world w'.world w.is_spent w'.is_spent n e xs line text go says
    (subst Q none step) written))

-- and where it isn't forged the world can be stepped again
pub lives : (w w' : Whole) (n : ℕ) (xs : List Act) (go : Go) → (go ≡ goes.On → w'.is_spent ≡ false) → w.world.taken ≡ n →
    (go ≡ goes.On → w'.world.taken ≡ w.world.taken + 1)
    → forged_of xs go ≡ None → IsLive (Some (record { world = w'; events = n + 1 }))
lives w w' n xs goes.On on count next none = (on refl, next refl ∙ ap (λ (k : ℕ). k + 1) count)
lives w w' n xs goes.Forged on count next none = absurd (let no : ⊥ = cc in no)
