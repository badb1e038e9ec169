-- Histories that are shown in pieces, one after another.
use Rattle.std.proofs.Common.{◌≡◌, ℕ, ◌+◌, Bool, true, false, not, ◌&&◌, nat_lt, List, [], ◌∷◌, ◌++◌, length, Option, Some, None, Ok, refl, sym, ◌∙◌, ap, subst, append-nil, append_assoc, if◌then◌else◌}
use Rattle.std.proofs.lemmas.Bool.{and_right}
use Rattle.std.specs.List.{list_all}
use Rattle.ikl_base.specs.declared.address.Addr.{Addr}
use Rattle.ip_packet.specs.View.{Packet, view_of}
use Rattle.ikeless_tree.specs.declared.sad.SadEntry.{SadEntry}
use Rattle.ikeless_tree.specs.declared.entry.Direction.TheVariants.{In}
use Rattle.ikeless_tree.specs.declared.order.Notice.TheVariants as notices
use Rattle.ikeless_tree.specs.declared.drops.DropWhy.TheVariants as why
use Rattle.esp_frame.specs.Esp.{keying, seq_of, spi_of}
use Rattle.esp_frame.specs.Open.{opened}
use Rattle.replay_win.specs.declared.verdict.Verdict.TheVariants.{Fresh, Seen}
use Rattle.replay_win.specs.Marks.{greatest, verdict_over}
use Rattle.ikeless_tree.specs.Half.{other_half}
use Rattle.spd_match.specs.Match.{first_entry}
use Rattle.hist_acts.specs.declared.act.Act.{Act}
use Rattle.hist_acts.specs.declared.act.Act.TheVariants as acts
use Rattle.hist_acts.specs.declared.event.Event.{Event}
use Rattle.hist_acts.specs.declared.event.Event.TheVariants as events
use Rattle.hist_acts.specs.declared.event.Header.{Header}
use Rattle.hist_acts.specs.Past.{after, events_taken, force}
use Rattle.hist_halves.specs.Halves.{is_sealed, live, numbers_taken}
use Rattle.hist_halves.specs.Sealed.{by_spi, number_of}
use Rattle.hist_gateway.specs.Arrive.{arrive_acts, arrive_by_entry, arrive_by_half, by_number, by_text, by_verdict, arrive_by_view, drops, esp_acts, is_sealed_for}
use Rattle.hist_gateway.specs.Block as node
use Rattle.hist_gateway.specs.Let.{unless}
use Rattle.hist_gateway.specs.Look.{tells}
use Rattle.hist_gateway.specs.Stands.{does_bad_spi_stand}
use Rattle.hist_controller.specs.Told.{all_told}
use Rattle.hist_safety.proofs.Basics.{both-left, both-right, no}
use Rattle.hist_safety.proofs.Frames.{number-field}
use Rattle.hist_world.specs.Arrivals.{does_open, is_esp_forged, is_forged, is_fresh, is_half_forged, is_view_forged}
use Rattle.hist_world.specs.Block.{Past, Shows, arrives_at, block, controller_acts, gateway_acts, history, past_after, took, unless_forged, is_forged_event}
use Rattle.hist_world.specs.Stands.{AreGenuine, past_at}

-- these events have these acts after what happened, leave this, and no arrival among them is forged
pub record Goes (shows : Shows) (header : Header) (p : Past) (es : List Event) (xs : List Act) (q : Past) : Type 0 where
  pub acts : history shows header p es ≡ xs
  pub past : past_at shows header p es ≡ q
  pub genuine : AreGenuine shows header p es

history-more : (shows : Shows) (header : Header) (p : Past) (es fs : List Event) → AreGenuine shows header p es
    → history shows header p (es ++ fs) ≡ history shows header p es ++ history shows header (past_at shows header p es) fs
history-more shows header p [] fs g = refl
history-more shows header p (e ∷ es) fs g =
    let xs : List Act = block shows header p e in
    let q : Past = past_after shows header p e in
    let more : List Act = history shows header q (es ++ fs) in
    let rest : List Act = history shows header q es in
    ap (λ b. xs ++ unless_forged b more) g.0 ∙ ap (λ z. xs ++ z) (history-more shows header q es fs g.1)
    ∙ sym (append_assoc xs rest (history shows header (past_at shows header q es) fs))
    ∙ ap (λ b. (xs ++ unless_forged b rest) ++ history shows header (past_at shows header q es) fs) (sym g.0)

past-more : (shows : Shows) (header : Header) (p : Past) (es fs : List Event) → past_at shows header p (es ++ fs) ≡ past_at shows header
    (past_at shows header p es) fs
past-more shows header p [] fs = refl
past-more shows header p (e ∷ es) fs = past-more shows header (past_after shows header p e) es fs

genuine-more : (shows : Shows) (header : Header) (p : Past) (es fs : List Event) → AreGenuine shows header p es
    → AreGenuine shows header (past_at shows header p es) fs → AreGenuine shows header p (es ++ fs)
genuine-more shows header p [] fs g h = h
genuine-more shows header p (e ∷ es) fs g h = (g.0, genuine-more shows header (past_after shows header p e) es fs g.1 h)

-- one piece and then the next
pub and-then : {shows : Shows} {header : Header} {p q r : Past} {es fs : List Event} {xs ys : List Act} → Goes shows header p es xs q
    → Goes shows header q fs ys r → Goes shows header p (es ++ fs) (xs ++ ys) r
and-then {shows = shows} {header = header} {p = p} {r = r} {es = es} {fs = fs} {xs = xs} {ys = ys} a b =
    let next : Goes shows header (past_at shows header p es) fs ys r = subst (λ z. Goes shows header z fs ys r) (sym a.past) b in
    record {
      acts = history-more shows header p es fs a.genuine ∙ ap (λ z. z ++ history shows header (past_at shows header p es) fs) a.acts
          ∙ ap (λ z. xs ++ z) next.acts;
      past = past-more shows header p es fs ∙ next.past;
      genuine = genuine-more shows header p es fs a.genuine next.genuine;
    }

-- a forged arrival ends the history
pub ends : {shows : Shows} {header : Header} {p q : Past} {es : List Event} {xs : List Act} (e : Event) (fs : List Event) (ys : List Act)
    → Goes shows header p es xs q
    → is_forged_event header q e ≡ true → block shows header q e ≡ ys → history shows header p (es ++ e ∷ fs) ≡ xs ++ ys
ends {shows = shows} {header = header} {p = p} {q = q} {es = es} {xs = xs} e fs ys a f w =
    let more : List Act = history shows header (past_after shows header q e) fs in
    let last : history shows header q (e ∷ fs) ≡ ys = ap (λ b. block shows header q e ++ unless_forged b more) f
    ∙ append-nil (block shows header q e) ∙ w in
    history-more shows header p es (e ∷ fs) a.genuine ∙ ap (λ z. z ++ history shows header (past_at shows header p es) (e ∷ fs)) a.acts
    ∙ ap (λ z. xs ++ history shows header z (e ∷ fs)) a.past ∙ ap (λ z. xs ++ z) last

-- ---- an arrival that isn't forged

abbrev pub arrived : Past → List Act → Past
arrived p xs = record { world = after (took p.world) xs; controller = p.controller }

by-genuine : (h : List Act) (o : List ℕ) (c : node.Gateway) (xs : List Act) → is_forged c.name c.address h o ≡ false
    → node.gw_block c h (node.Arrive o) ≡ xs → arrives_at h o (Some c) ≡ xs
by-genuine h o c xs f e = ap (λ b. if b then acts.Arrived c.name o ∷ [] else node.gw_block c h (node.Arrive o)) f ∙ e

-- the datagram o comes to the gateway c at the event e
pub record Comes (shows : Shows) (header : Header) (p : Past) (e : Event) (c : node.Gateway) (o : List ℕ) : Type 0 where
  pub acts : gateway_acts shows header (took p.world) e ≡ arrives_at (took p.world) o (Some c)
  pub none : controller_acts header p e ≡ []
  pub test : is_forged_event header p e ≡ is_forged c.name c.address (took p.world) o

pub arrives : (shows : Shows) (header : Header) (p : Past) (e : Event) (c : node.Gateway) (o : List ℕ) (xs : List Act)
    → Comes shows header p e c o
    → is_forged c.name c.address (took p.world) o ≡ false → node.gw_block c (took p.world) (node.Arrive o) ≡ xs
    → Goes shows header p (e ∷ []) (acts.Took (events_taken p.world + 1) ∷ xs) (arrived p xs)
arrives shows header p e c o xs m f w =
    let h : List Act = took p.world in
    let genuine : is_forged_event header p e ≡ false = m.test ∙ f in
    let first : gateway_acts shows header h e ≡ xs = m.acts ∙ by-genuine h o c xs f w in
    let all : gateway_acts shows header h e ++ all_told header.gateways (controller_acts header p e) ≡ xs =
    ap (λ z. z ++ all_told header.gateways (controller_acts header p e)) first ∙ ap (λ z. xs ++ all_told header.gateways z) m.none
    ∙ append-nil xs in
    let own : block shows header p e ≡ acts.Took (events_taken p.world + 1) ∷ xs = ap (λ z. acts.Took (events_taken p.world + 1) ∷ z) all in
    record {
      acts = ap (λ b. block shows header p e ++ unless_forged b []) genuine ∙ append-nil (block shows header p e) ∙ own;
      past = (λ i. record { world = after p.world (own i); controller = after p.controller (m.none i) });
      genuine = (genuine, tt);
    }

-- ---- it comes to no half that a forged one could come to

forged-view : (g : List ℕ) (own : Addr) (h : List Act) (o : List ℕ) (v : Packet) → view_of o ≡ Ok v → is_esp_forged g h v.payload ≡ false
    → is_forged g own h o ≡ false
forged-view g own h o v e f = ap (is_view_forged g own h) e ∙ and_right (is_sealed_for own v) (is_esp_forged g h v.payload) f

pub genuine-no-half : (g : List ℕ) (own : Addr) (h : List Act) (o : List ℕ) (v : Packet) → view_of o ≡ Ok v
    → by_spi (spi_of v.payload) (live g h) ≡ None → is_forged g own h o ≡ false
genuine-no-half g own h o v e n =
    let b : List ℕ = v.payload in
    forged-view g own h o v e (and_right (not (nat_lt (length b) 34)) (is_half_forged g h b (by_spi (spi_of b) (live g h)))
    (ap (is_half_forged g h b) n))

-- or its octets were sent
pub genuine-sent : (g : List ℕ) (own : Addr) (h : List Act) (o : List ℕ) (v : Packet) (d : SadEntry) → view_of o ≡ Ok v
    → by_spi (spi_of v.payload) (live g h) ≡ Some d
    → is_sealed (other_half d.name) v.payload h ≡ true → is_forged g own h o ≡ false
genuine-sent g own h o v d e n s =
    let b : List ℕ = v.payload in
    let fresh : Bool = is_fresh (verdict_over d.window (numbers_taken g d.name h) (number_of d (numbers_taken g d.name h) b)) in
    let opens : Bool = does_open (opened (keying d.spi d.key) b) in
    let last : (fresh && (opens && not (is_sealed (other_half d.name) b h))) ≡ false =
    and_right fresh (opens && not (is_sealed (other_half d.name) b h)) (and_right opens (not (is_sealed (other_half d.name) b h))
    (ap (λ (z : Bool). not z) s)) in
    forged-view g own h o v e (and_right (not (nat_lt (length b) 34)) (is_half_forged g h b (by_spi (spi_of b) (live g h)))
    (ap (is_half_forged g h b) n ∙ last))

-- or they don't open
pub genuine-closed : (g : List ℕ) (own : Addr) (h : List Act) (o : List ℕ) (v : Packet) (d : SadEntry) → view_of o ≡ Ok v
    → by_spi (spi_of v.payload) (live g h) ≡ Some d
    → opened (keying d.spi d.key) v.payload ≡ None → is_forged g own h o ≡ false
genuine-closed g own h o v d e n s =
    let b : List ℕ = v.payload in
    let fresh : Bool = is_fresh (verdict_over d.window (numbers_taken g d.name h) (number_of d (numbers_taken g d.name h) b)) in
    let after_opening : Bool = not (is_sealed (other_half d.name) b h) in
    let last : (fresh && (does_open (opened (keying d.spi d.key) b) && after_opening)) ≡ false =
    and_right fresh (does_open (opened (keying d.spi d.key) b) && after_opening) (ap (λ z. does_open z && after_opening) s) in
    forged-view g own h o v e (and_right (not (nat_lt (length b) 34)) (is_half_forged g h b (by_spi (spi_of b) (live g h)))
    (ap (is_half_forged g h b) n ∙ last))

-- ---- what answers it

pub answers-text : (g : List ℕ) (own : Addr) (h : List Act) (o : List ℕ) (v : Packet) (d : SadEntry) (n : ℕ) (text : Option (List ℕ))
    → view_of o ≡ Ok v → is_sealed_for own v ≡ true → nat_lt (length v.payload) 34 ≡ false
    → by_spi (spi_of v.payload) (live g h) ≡ Some d → seq_of v.payload ≡ n → verdict_over d.window (numbers_taken g d.name h) n ≡ Fresh
    → opened (keying d.spi d.key) v.payload ≡ text → arrive_acts g own h o ≡ by_text g h d n text
unfolding arrive_acts
answers-text g own h o v d n text e own_is long found number fresh opens =
    let b : List ℕ = v.payload in
    ap (arrive_by_view g own h o) e
    ∙ ap (λ z. if z then esp_acts g h b else arrive_by_entry g o (first_entry (force g h) In v) ∷ []) own_is
    ∙ ap (λ z. if z then drops g why.Short else arrive_by_half g h b (by_spi (spi_of b) (live g h))) long
    ∙ ap (arrive_by_half g h b) found
    ∙ ap (λ (z : ℕ). by_number g h b d z) (number-field d (greatest (numbers_taken g d.name h)) b ∙ number)
    ∙ ap (by_verdict g h b d n) fresh
    ∙ ap (by_text g h d n) opens

pub answers-seen : (g : List ℕ) (own : Addr) (h : List Act) (o : List ℕ) (v : Packet) (d : SadEntry) (n : ℕ) → view_of o ≡ Ok v
    → is_sealed_for own v ≡ true → nat_lt (length v.payload) 34 ≡ false
    → by_spi (spi_of v.payload) (live g h) ≡ Some d → seq_of v.payload ≡ n → verdict_over d.window (numbers_taken g d.name h) n ≡ Seen
    → arrive_acts g own h o ≡ drops g why.Seen
unfolding arrive_acts
answers-seen g own h o v d n e own_is long found number seen =
    let b : List ℕ = v.payload in
    ap (arrive_by_view g own h o) e
    ∙ ap (λ z. if z then esp_acts g h b else arrive_by_entry g o (first_entry (force g h) In v) ∷ []) own_is
    ∙ ap (λ z. if z then drops g why.Short else arrive_by_half g h b (by_spi (spi_of b) (live g h))) long
    ∙ ap (arrive_by_half g h b) found
    ∙ ap (λ (z : ℕ). by_number g h b d z) (number-field d (greatest (numbers_taken g d.name h)) b ∙ number)
    ∙ ap (by_verdict g h b d n) seen

pub answers-no-half : (g : List ℕ) (own : Addr) (h : List Act) (o : List ℕ) (v : Packet) (spi : ℕ) (xs : List Act) → view_of o ≡ Ok v
    → is_sealed_for own v ≡ true → nat_lt (length v.payload) 34 ≡ false
    → spi_of v.payload ≡ spi → by_spi spi (live g h) ≡ None → acts.Drop g why.BadSpi
    ∷ unless (does_bad_spi_stand g spi h) (tells g h (notices.BadSpi spi)) ≡ xs → arrive_acts g own h o ≡ xs
unfolding arrive_acts
answers-no-half g own h o v spi xs e own_is long named found w =
    let b : List ℕ = v.payload in
    ap (arrive_by_view g own h o) e
    ∙ ap (λ z. if z then esp_acts g h b else arrive_by_entry g o (first_entry (force g h) In v) ∷ []) own_is
    ∙ ap (λ z. if z then drops g why.Short else arrive_by_half g h b (by_spi (spi_of b) (live g h))) long
    ∙ ap (arrive_by_half g h b) (ap (λ (z : ℕ). by_spi z (live g h)) named ∙ found)
    ∙ ap (λ (z : ℕ). acts.Drop g why.BadSpi ∷ unless (does_bad_spi_stand g z h) (tells g h (notices.BadSpi z))) named
    ∙ w

-- ---- events that are no arrival

abbrev pub is_quiet : Event → Bool
is_quiet (events.Arrive g o) = false
is_quiet (events.ArriveSent g k) = false
is_quiet (events.ArriveFlip g k offset bit) = false
is_quiet (events.ArriveTtl g k ttl) = false
is_quiet _ = true

quiet-one : (header : Header) (p : Past) (e : Event) → is_quiet e ≡ true → is_forged_event header p e ≡ false
quiet-one header p (events.Arrive g o) q = absurd (no q)
quiet-one header p (events.ArriveSent g k) q = absurd (no q)
quiet-one header p (events.ArriveFlip g k offset bit) q = absurd (no q)
quiet-one header p (events.ArriveTtl g k ttl) q = absurd (no q)
quiet-one header p e q = refl

pub quiet : (shows : Shows) (header : Header) (p : Past) (es : List Event) → list_all is_quiet es ≡ true → AreGenuine shows header p es
quiet shows header p [] q = tt
quiet shows header p (e ∷ es) q = (
  quiet-one header p e (both-left (is_quiet e) (list_all is_quiet es) q),
  quiet shows header (past_after shows header p e) es
      (both-right (is_quiet e) (list_all is_quiet es) q),
)
