-- No history ends with an arrival that must be given.
use Rattle.std.proofs.Common.{◌≡◌, ℕ, ◌+◌, Bool, true, false, ◌&&◌, not, nat_lt, List, [], ◌∷◌, ◌++◌, length, Option, Some, None, Result, Ok, refl, sym, ap, subst, ◌∙◌, append-nil, if◌then◌else◌}
use Rattle.std.proofs.lemmas.Bool.{and_right}
use Rattle.ikl_base.specs.declared.address.Addr.{Addr}
use Rattle.ip_packet.specs.declared.packet.NotPacket.{NotPacket}
use Rattle.ip_packet.specs.Ttl.{with_ttl}
use Rattle.ip_packet.specs.View.{Packet}
use Rattle.ikeless_tree.specs.declared.sad.SadEntry.{SadEntry}
use Rattle.ikeless_tree.specs.declared.command.Peer.{Peer}
use Rattle.esp_frame.specs.Esp.{keying, spi_of}
use Rattle.esp_frame.specs.Open.{opened}
use Rattle.replay_win.specs.Marks.{verdict_over}
use Rattle.ikeless_tree.specs.Half.{other_half}
use Rattle.hist_acts.specs.declared.act.Act.{Act}
use Rattle.hist_acts.specs.declared.act.Act.TheVariants as acts
use Rattle.hist_acts.specs.declared.event.Event.{Event}
use Rattle.hist_acts.specs.declared.event.Event.TheVariants as events
use Rattle.hist_acts.specs.declared.event.Header.{Header}
use Rattle.hist_acts.specs.Past.{after, events_taken}
use Rattle.hist_halves.specs.Sealed.{by_spi, esp_of, number_of}
use Rattle.hist_halves.specs.Halves.{is_sealed, live, numbers_taken}
use Rattle.hist_gateway.specs.Arrive.{is_sealed_for}
use Rattle.hist_gateway.specs.Block as node
use Rattle.hist_safety.specs.Law.{IsLawful, is_ready}
use Rattle.hist_safety.specs.Safe.{IsLastSafe, MustGive}
use Rattle.hist_safety.proofs.Basics.{no}
use Rattle.hist_safety.proofs.Safe.{last-genuine}
use Rattle.hist_safety.proofs.Window.{delivered}
use Rattle.hist_world.specs.Arrivals.{does_open, flipped, is_esp_forged, is_forged, is_fresh, is_half_forged, is_view_forged, sent_at}
use Rattle.hist_world.specs.Block.{Past, Shows, arrives_at, block, gateway_at, history, is_forged_event, is_forgery, past_after, took, unless_forged}
use Rattle.hist_world.specs.Events.{AreEventsOf}
use Rattle.hist_world.specs.Headers.{IsHeader}
use Rattle.hist_world.specs.Stands.{Stands}
use Rattle.hist_world.proofs.Arrives.{esp-is}
use Rattle.hist_world.proofs.Runs.{after-append, step}

sent-not : (t f d s : Bool) → s ≡ true → (t && (f && (d && not s))) ≡ false
sent-not true true true s e = ap not e
sent-not true true false s e = ap (λ z. false) e
sent-not true false d s e = ap (λ z. false) e
sent-not false f d s e = ap (λ z. false) e

-- what must be given was sent, so it is not forged
not-forged : (gs : List Peer) (g o t p : List ℕ) (half : SadEntry) (own : Addr) (h : List Act) → IsLawful gs h → MustGive gs g o t p half h
    → is_forged g own h o ≡ false
not-forged gs g o t p half own h l m =
    let d = delivered gs g o t p half h l m in
    let sealed = last-genuine gs g o t p half h l m d.half d.text d.comes d.opens in
    let b = esp-is o d.comes.packet d.comes.view in
    let e : SadEntry = d.half in
    let v5 : is_half_forged g h (esp_of o) (Some e) ≡ false =
    sent-not true (is_fresh (verdict_over e.window (numbers_taken g e.name h) (number_of e (numbers_taken g e.name h) (esp_of o))))
    (does_open (opened (keying e.spi e.key) (esp_of o))) (is_sealed (other_half e.name) (esp_of o) h) sealed in
    let v4 : is_half_forged g h (esp_of o) (by_spi (spi_of (esp_of o)) (live g h)) ≡ false =
    subst (λ (z : Option SadEntry). is_half_forged g h (esp_of o) z ≡ false) (sym d.comes.found) v5 in
    let v3 : is_esp_forged g h (esp_of o) ≡ false =
    and_right (not (nat_lt (length (esp_of o)) 34)) (is_half_forged g h (esp_of o) (by_spi (spi_of (esp_of o)) (live g h))) v4 in
    let v2 : is_esp_forged g h d.comes.packet.payload ≡ false = subst (λ (z : List ℕ). is_esp_forged g h z ≡ false) b v3 in
    let v1 : is_view_forged g own h (Ok d.comes.packet) ≡ false =
    and_right (is_sealed_for own d.comes.packet) (is_esp_forged g h d.comes.packet.payload) v2 in
    subst (λ (r : Result Packet NotPacket). is_view_forged g own h r ≡ false) (sym d.comes.view) v1

-- where no question is open, none is at the end
ready-last : (gs : List Peer) (h : List Act) → is_ready h ≡ true → IsLastSafe gs h
ready-last gs [] r = tt
ready-last gs (acts.Arrived g o ∷ h) r = absurd (no r)
ready-last gs (a ∷ h) r = tt

forged-case : (gs : List Peer) (w : List Act) (o : List ℕ) (c : node.Gateway) (b : Bool) → is_forged c.name c.address w o ≡ b → b ≡ true
    → IsLawful gs w → IsLastSafe gs (after w (if b then acts.Arrived c.name o ∷ [] else node.gw_block c w (node.Arrive o)))
forged-case gs w o c true e f l = λ t p half m. no (sym (not-forged gs c.name o t p half c.address w l m) ∙ e)
forged-case gs w o c false e f l = absurd (no f)

forged-last : (gs : List Peer) (w : List Act) (o : List ℕ) (c : Option node.Gateway) → is_forgery w o c ≡ true → IsLawful gs w
    → IsLastSafe gs (after w (arrives_at w o c))
forged-last gs w o None e l = absurd (no e)
forged-last gs w o (Some c) e l = forged-case gs w o c (is_forged c.name c.address w o) refl e l

forged-end : (header : Header) (p : Past) (o : List ℕ) (c : Option node.Gateway) → is_forgery (took p.world) o c ≡ true → Stands header p
    → IsLastSafe header.gateways (after p.world (acts.Took (events_taken p.world + 1) ∷ (arrives_at (took p.world) o c ++ [])))
forged-end header p o c e s = subst (λ z. IsLastSafe header.gateways (after (took p.world) z))
    (sym (append-nil (arrives_at (took p.world) o c))) (forged-last header.gateways (took p.world) o c e (s.ready, s.lawful))

forged-block : (shows : Shows) (header : Header) (p : Past) (e : Event) → Stands header p → is_forged_event header p e ≡ true
    → IsLastSafe header.gateways (after p.world (block shows header p e))
forged-block shows header p (events.Arrive g o) s f = forged-end header p o (gateway_at header g) f s
forged-block shows header p (events.ArriveSent g m) s f = forged-end header p (sent_at m (took p.world)) (gateway_at header g) f s
forged-block shows header p (events.ArriveFlip g m offset bit) s f = forged-end header p (flipped offset bit (sent_at m (took p.world)))
    (gateway_at header g) f s
forged-block shows header p (events.ArriveTtl g m ttl) s f = forged-end header p (with_ttl ttl (sent_at m (took p.world)))
    (gateway_at header g) f s
forged-block shows header p e s f = absurd (no f)

pub last-history : (shows : Shows) (header : Header) (p : Past) (es : List Event) → IsHeader header → AreEventsOf header es
    → Stands header p
    → IsLastSafe header.gateways (after p.world (history shows header p es))
last-history shows header p [] i k s = ready-last header.gateways p.world s.ready
last-history shows header p (e ∷ es) i k s =
    last-case (is_forged_event header p e) refl (λ t. last-history shows header (past_after shows header p e) es i k.1 t) where
      last-case : (b : Bool) → is_forged_event header p e ≡ b
          → (Stands header (past_after shows header p e)
          → IsLastSafe header.gateways (after (past_after shows header p e).world (history shows header (past_after shows header p e) es)))
          → IsLastSafe header.gateways
          (after p.world (block shows header p e ++ unless_forged b (history shows header (past_after shows header p e) es)))
      last-case true f ih =
          subst (λ z. IsLastSafe header.gateways (after p.world z)) (sym (append-nil (block shows header p e)))
          (forged-block shows header p e s f)
      last-case false f ih =
          subst (IsLastSafe header.gateways)
          (sym (after-append p.world (block shows header p e) (history shows header (past_after shows header p e) es)))
          (ih (step shows header p e i k.0 s f).stands)
