-- Histories block by block: what appending events, taking fewer of them and a forged arrival make of one.
use Rattle.std.proofs.Common.{◌≡◌, ℕ, zero, suc, ◌+◌, Bool, true, false, List, [], ◌∷◌, ◌++◌, length, take, Option, Some, None, refl, sym, ◌∙◌, ap, append-nil, append_assoc, arith, if◌then◌else◌}
use Rattle.hist_acts.specs.declared.act.Act.{Act}
use Rattle.hist_acts.specs.declared.act.Act.TheVariants as acts
use Rattle.hist_acts.specs.declared.event.Event.{Event}
use Rattle.hist_acts.specs.declared.event.Event.TheVariants as events
use Rattle.hist_acts.specs.declared.event.Header.{Header}
use Rattle.hist_acts.specs.Past.{events_taken}
use Rattle.hist_controller.specs.Told.{all_told}
use Rattle.ip_packet.specs.Ttl.{with_ttl}
use Rattle.hist_gateway.specs.Block as node
use Rattle.hist_safety.proofs.Basics.{no}
use Rattle.hist_world.specs.Arrivals.{flipped, is_forged, sent_at}
use Rattle.hist_world.specs.Block.{Past, Shows, arrives_at, block, by_arrival, controller_acts, gateway_acts, gateway_at, history, is_forged_event, is_forged_event_at, is_forgery, past_after, took, unless_forged}
use Rattle.hist_world.specs.Stands.{AreGenuine, past_at}
use Rattle.hist_blocks.specs.Blocks.{blocks, first_forged, joined, number_by, unless_last}
use Rattle.hist_blocks.specs.Ends.{EndsForged, IsArrivalAlone}

-- ---- a history is its blocks

join-unless : (b : Bool) (xs : List Act) (bs : List (List Act)) → xs ≡ joined bs → unless_forged b xs ≡ joined (unless_last b bs)
join-unless true xs bs e = refl
join-unless false xs bs e = e

pub history-blocks : (shows : Shows) (header : Header) (p : Past) (es : List Event)
    → history shows header p es ≡ joined (blocks shows header p es)
history-blocks shows header p [] = refl
history-blocks shows header p (e ∷ es) =
    let q : Past = past_after shows header p e in
    ap (λ (z : List Act). block shows header p e ++ z)
    (join-unless (is_forged_event header p e) (history shows header q es) (blocks shows header q es) (history-blocks shows header q es))

take-unless : (b : Bool) (n : ℕ) (xs ys : List (List Act)) → xs ≡ take n ys → unless_last b xs ≡ take n (unless_last b ys)
take-unless true zero xs ys e = refl
take-unless true (suc n) xs ys e = refl
take-unless false n xs ys e = e

-- fewer events have the first of the blocks
pub blocks-take : (shows : Shows) (header : Header) (p : Past) (n : ℕ) (es : List Event)
    → blocks shows header p (take n es) ≡ take n (blocks shows header p es)
blocks-take shows header p zero [] = refl
blocks-take shows header p zero (e ∷ es) = refl
blocks-take shows header p (suc n) [] = refl
blocks-take shows header p (suc n) (e ∷ es) =
    let q : Past = past_after shows header p e in
    ap (λ (z : List (List Act)). block shows header p e ∷ z)
    (take-unless (is_forged_event header p e) n (blocks shows header q (take n es)) (blocks shows header q es)
    (blocks-take shows header q n es))

-- ---- no forged arrival

unless-none : {A : Type 0} (b : Bool) (more less : A) → b ≡ false → (if b then less else more) ≡ more
unless-none true more less e = absurd (no (sym e))
unless-none false more less e = refl

pub history-more : (shows : Shows) (header : Header) (p : Past) (es more : List Event) → AreGenuine shows header p es
    → history shows header p (es ++ more) ≡ history shows header p es ++ history shows header (past_at shows header p es) more
history-more shows header p [] more g = refl
history-more shows header p (e ∷ es) more g =
    let q : Past = past_after shows header p e in
    let xs : List Act = block shows header p e in
    let ih = history-more shows header q es more g.1 in
    ap (λ b. xs ++ unless_forged b (history shows header q (es ++ more))) g.0
    ∙ ap (λ (z : List Act). xs ++ z) ih
    ∙ sym (append_assoc xs (history shows header q es) (history shows header (past_at shows header q es) more))
    ∙ ap (λ b. (xs ++ unless_forged b (history shows header q es)) ++ history shows header (past_at shows header q es) more) (sym g.0)

pub history-one : (shows : Shows) (header : Header) (p : Past) (e : Event) → history shows header p (e ∷ []) ≡ block shows header p e
history-one shows header p e = last (is_forged_event header p e) where
  last : (b : Bool) → block shows header p e ++ unless_forged b [] ≡ block shows header p e
  last true = append-nil (block shows header p e)
  last false = append-nil (block shows header p e)

pub blocks-length : (shows : Shows) (header : Header) (p : Past) (es : List Event) → AreGenuine shows header p es
    → length (blocks shows header p es) ≡ length es
blocks-length shows header p [] g = refl
blocks-length shows header p (e ∷ es) g =
    let q : Past = past_after shows header p e in
    ap (λ b. suc (length (unless_last b (blocks shows header q es)))) g.0 ∙ ap suc (blocks-length shows header q es g.1)

none-by : (b : Bool) (o : Option ℕ) → number_by b o ≡ None → (b ≡ false) × (o ≡ None)
none-by true o e = absurd (let bad : ⊥ = cc in bad)
none-by false None e = (refl, refl)
none-by false (Some n) e = absurd (let bad : ⊥ = cc in bad)

by-none : (b : Bool) (o : Option ℕ) → b ≡ false → o ≡ None → number_by b o ≡ None
by-none b o p q = rw (p, q) refl

pub genuine-none : (shows : Shows) (header : Header) (p : Past) (es : List Event) → AreGenuine shows header p es
    → first_forged shows header p es ≡ None
genuine-none shows header p [] g = refl
genuine-none shows header p (e ∷ es) g =
    let q : Past = past_after shows header p e in
    by-none (is_forged_event header p e) (first_forged shows header q es) g.0 (genuine-none shows header q es g.1)

pub none-genuine : (shows : Shows) (header : Header) (p : Past) (es : List Event) → first_forged shows header p es ≡ None
    → AreGenuine shows header p es
none-genuine shows header p [] e = tt
none-genuine shows header p (x ∷ es) e =
    let q : Past = past_after shows header p x in
    let n = none-by (is_forged_event header p x) (first_forged shows header q es) e in
    (n.0, none-genuine shows header q es n.1)

-- ---- a forged arrival

-- a forged event is an arrival, and it alone stands in its block
alone-at : (header : Header) (w : List Act) (a : List ℕ × List ℕ) (c : Option node.Gateway) → is_forgery w a.1 c ≡ true → (g : List ℕ)
    × (arrives_at w a.1 c ≡ acts.Arrived g a.1 ∷ [])
alone-at header w a None f = absurd (no f)
alone-at header w a (Some c) f = (c.name, alone (is_forged c.name c.address w a.1) f) where
  alone : (b : Bool) → b ≡ true → (if b then acts.Arrived c.name a.1 ∷ [] else node.gw_block c w (node.Arrive a.1)) ≡ acts.Arrived c.name
      a.1 ∷ []
  alone true e = refl
  alone false e = absurd (no e)

arrival-alone : (header : Header) (w : List Act) (a : Option (List ℕ × List ℕ)) → is_forged_event_at header w a ≡ true
    → IsArrivalAlone (by_arrival header w a)
arrival-alone header w None f = absurd (no f)
arrival-alone header w (Some a) f = let r = alone-at header w a (gateway_at header a.0) f in (r.0, a.1, r.1)

events-alone : (shows : Shows) (header : Header) (p : Past) (e : Event) → is_forged_event header p e ≡ true
    → IsArrivalAlone (gateway_acts shows header (took p.world) e ++ all_told header.gateways (controller_acts header p e))
events-alone shows header p (events.Arrive g o) f = let r = arrival-alone header (took p.world) (Some (g, o)) f in
    (r.0, r.1, append-nil _ ∙ r.2)
events-alone shows header p (events.ArriveSent g k) f = let r = arrival-alone header (took p.world) (Some (g, sent_at k (took p.world))) f
    in (r.0, r.1, append-nil _ ∙ r.2)
events-alone shows header p (events.ArriveFlip g k offset bit) f = let r =
    arrival-alone header (took p.world) (Some (g, flipped offset bit (sent_at k (took p.world)))) f in (r.0, r.1, append-nil _ ∙ r.2)
events-alone shows header p (events.ArriveTtl g k ttl) f = let r =
    arrival-alone header (took p.world) (Some (g, with_ttl ttl (sent_at k (took p.world)))) f in (r.0, r.1, append-nil _ ∙ r.2)
events-alone shows header p e f = absurd (no f)

alone-block : (shows : Shows) (header : Header) (p : Past) (e : Event) (more : List Act) → is_forged_event header p e ≡ true
    → (g : List ℕ) × (o : List ℕ) × (block shows header p e ≡ acts.Took (events_taken p.world + 1) ∷ acts.Arrived g o ∷ [])
    × (block shows header p e ++ unless_forged (is_forged_event header p e) more ≡ acts.Took (events_taken p.world + 1) ∷ acts.Arrived g o
    ∷ [])
alone-block shows header p e more f =
    let r = events-alone shows header p e f in
    let b : block shows header p e ≡ acts.Took (events_taken p.world + 1) ∷ acts.Arrived r.0 r.1 ∷ [] =
    ap (λ (z : List Act). acts.Took (events_taken p.world + 1) ∷ z) r.2 in
    (r.0, r.1, b, ap (λ c. block shows header p e ++ unless_forged c more) f ∙ append-nil (block shows header p e) ∙ b)

later-number : (b : Bool) (o : Option ℕ) (k : ℕ) → b ≡ false → number_by b o ≡ Some k → (n : ℕ) × (o ≡ Some n) × (k ≡ n + 1)
later-number true o k f e = absurd (no (sym f))
later-number false None k f e = absurd (let bad : ⊥ = cc in bad)
later-number false (Some n) k f e = (n, refl, let same : n + 1 ≡ k = cc in sym same)

first-number : (b : Bool) (o : Option ℕ) (k : ℕ) → b ≡ true → number_by b o ≡ Some k → k ≡ 1
first-number true o k f e = let same : 1 ≡ k = cc in sym same
first-number false o k f e = absurd (no f)

later-ends : (shows : Shows) (header : Header) (p : Past) (x : Event) (k n : ℕ) (es : List Event) → is_forged_event header p x ≡ false
    → k ≡ n + 1
    → EndsForged shows header (past_after shows header p x) n es → EndsForged shows header p k (x ∷ es)
later-ends shows header p x k n es f next ih =
    let q : Past = past_after shows header p x in
    let xs : List Act = block shows header p x in
    let last : List Act = acts.Took (events_taken (past_at shows header q ih.before).world + 1) ∷ acts.Arrived ih.gateway ih.octets ∷ [] in
    record {
      before = x ∷ ih.before;
      forged = ih.forged;
      later = ih.later;
      events = ap (λ (z : List Event). x ∷ z) ih.events;
      number = (let a = ih.number in omega (arith, a, next));
      genuine = (f, ih.genuine);
      forgery = ih.forgery;
      gateway = ih.gateway;
      octets = ih.octets;
      last = ih.last;
      history = ap (λ b. xs ++ unless_forged b (history shows header q es)) f
          ∙ ap (λ (z : List Act). xs ++ z) ih.history
          ∙ sym (append_assoc xs (history shows header q ih.before) last)
          ∙ ap (λ b. (xs ++ unless_forged b (history shows header q ih.before)) ++ last) (sym f);
    }

first-ends : (shows : Shows) (header : Header) (p : Past) (x : Event) (k : ℕ) (es : List Event) → is_forged_event header p x ≡ true → k ≡ 1
    → EndsForged shows header p k (x ∷ es)
first-ends shows header p x k es f one =
    let r = alone-block shows header p x (history shows header (past_after shows header p x) es) f in
    record {
      before = [];
      forged = x;
      later = es;
      events = refl;
      number = one;
      genuine = tt;
      forgery = f;
      gateway = r.0;
      octets = r.1;
      last = r.2;
      history = r.3;
    }

ends-by : (shows : Shows) (header : Header) (p : Past) (x : Event) (k : ℕ) (es : List Event) (b : Bool) → is_forged_event header p x ≡ b
    → ((n : ℕ) → first_forged shows header (past_after shows header p x) es ≡ Some n → EndsForged shows header (past_after shows header p x)
    n es)
    → number_by (is_forged_event header p x) (first_forged shows header (past_after shows header p x) es) ≡ Some k
    → EndsForged shows header p k (x ∷ es)
ends-by shows header p x k es true f ih e =
    first-ends shows header p x k es f
    (first-number (is_forged_event header p x) (first_forged shows header (past_after shows header p x) es) k f e)
ends-by shows header p x k es false f ih e =
    let n = later-number (is_forged_event header p x) (first_forged shows header (past_after shows header p x) es) k f e in
    later-ends shows header p x k n.0 es f n.2 (ih n.0 n.1)

pub ends-forged : (shows : Shows) (header : Header) (p : Past) (k : ℕ) (es : List Event) → first_forged shows header p es ≡ Some k
    → EndsForged shows header p k es
ends-forged shows header p k [] e = absurd (let bad : ⊥ = cc in bad)
ends-forged shows header p k (x ∷ es) e =
    ends-by shows header p x k es (is_forged_event header p x) refl (λ n. ends-forged shows header (past_after shows header p x) n es) e

-- what comes after a forged arrival changes nothing
over-by : (shows : Shows) (header : Header) (p : Past) (x : Event) (k : ℕ) (es more : List Event) (b : Bool)
    → is_forged_event header p x ≡ b
    → ((n : ℕ) → first_forged shows header (past_after shows header p x) es ≡ Some n → history shows header (past_after shows header p x)
    (es ++ more) ≡ history shows header (past_after shows header p x) es)
    → number_by (is_forged_event header p x) (first_forged shows header (past_after shows header p x) es) ≡ Some k
    → history shows header p (x ∷ es ++ more) ≡ history shows header p (x ∷ es)
over-by shows header p x k es more true f ih e =
    let q : Past = past_after shows header p x in
    ap (λ b. block shows header p x ++ unless_forged b (history shows header q (es ++ more))) f
    ∙ ap (λ b. block shows header p x ++ unless_forged b (history shows header q es)) (sym f)
over-by shows header p x k es more false f ih e =
    let n = later-number (is_forged_event header p x) (first_forged shows header (past_after shows header p x) es) k f e in
    ap (λ (z : List Act). block shows header p x ++ unless_forged (is_forged_event header p x) z) (ih n.0 n.1)

pub history-over : (shows : Shows) (header : Header) (p : Past) (k : ℕ) (es more : List Event) → first_forged shows header p es ≡ Some k
    → history shows header p (es ++ more) ≡ history shows header p es
history-over shows header p k [] more e = absurd (let bad : ⊥ = cc in bad)
history-over shows header p k (x ∷ es) more e =
    over-by shows header p x k es more (is_forged_event header p x) refl (λ n. history-over shows header (past_after shows header p x) n es
    more) e
