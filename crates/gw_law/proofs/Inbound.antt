-- What is done with a datagram from outside is what the law of a gateway does.
use Rattle.std.proofs.Common.{◌≡◌, ◌⊎◌, inl, inr, ℕ, ◌==◌, Bool, true, false, not, nat_lt, List, [], ◌∷◌, length, find, position, Option, Some, None, Result, Ok, Err, map, take, refl, sym, ap, ◌∙◌, subst, option_and_then, slice_get, if◌then◌else◌}
use Rattle.std.specs.List.{list_any}
use Rattle.std.specs.Str.{bytes_eq}
use Rattle.ikl_base.specs.declared.address.Addr.{Addr}
use Rattle.ip_packet.specs.declared.packet.NotPacket.{NotPacket}
use Rattle.ip_packet.specs.View.{Packet, view_of}
use Rattle.ikeless_tree.specs.declared.sad.SadEntry.{SadEntry}
use Rattle.ikeless_tree.specs.declared.entry.SpdEntry.{SpdEntry}
use Rattle.ikeless_tree.specs.declared.entry.Action.{Action}
use Rattle.ikeless_tree.specs.declared.entry.Action.TheVariants as actions
use Rattle.ikeless_tree.specs.declared.entry.Direction.TheVariants.{In}
use Rattle.ikeless_tree.specs.declared.order.Notice.TheVariants as notices
use Rattle.ikeless_tree.specs.declared.drops.DropWhy.{DropWhy}
use Rattle.ikeless_tree.specs.declared.drops.DropWhy.TheVariants as why
use Rattle.esp_frame.specs.Esp.{keying, spi_of}
use Rattle.esp_frame.specs.Open as esp
use Rattle.replay_win.specs.declared.verdict.Verdict.{Verdict}
use Rattle.replay_win.specs.declared.verdict.Verdict.TheVariants as verdicts
use Rattle.replay_win.specs.Marks.{judged}
use Rattle.spd_match.specs.Match.{first_entry, holds_packet}
use Rattle.sad_store.specs.declared.half.Half.{Half}
use Rattle.sad_store.specs.Halves.{changed, entries_of, half_by_spi, is_half_of_spi, take_number}
use Rattle.sad_store.proofs.PlaceLemmas.{found-there}
use Rattle.hist_acts.specs.declared.act.Act.{Act}
use Rattle.hist_acts.specs.declared.act.Act.TheVariants as acts
use Rattle.hist_halves.specs.Sealed.{by_spi, esp_of, is_opened, number_from, payload_of}
use Rattle.hist_gateway.specs.Datagram.{fault_why}
use Rattle.hist_gateway.specs.Uses.{octets_in}
use Rattle.hist_gateway.specs.State.{GatewayState, did, given_under, number_opened, quiet, with_arrival, with_halves}
use Rattle.hist_gateway.specs.Machine.{in_by_half, in_by_text, in_by_verdict, in_by_view, in_esp, look_of, tells_of, uses_of}
use Rattle.hist_gateway.specs.Arrive as arrive
use Rattle.hist_gateway.proofs.KeepsLemmas.{same-refl}
use Rattle.hist_gateway.proofs.PlacesLemmas.{bad-spi-at, given-at, opened-at}
use Rattle.gw_packets.specs.declared.done.PacketAnswer.{PacketAnswer}
use Rattle.gw_packets.specs.declared.done.PacketAnswer.TheVariants as answers
use Rattle.gw_packets.specs.Looks.{used}
use Rattle.gw_packets.specs.Inbound as inbound
use Rattle.gw_law.specs.Told.{answer_told, kept_of}
use Rattle.gw_law.specs.Orderly.{IsOrderly}
use Rattle.gw_law.proofs.Used.{IsTold, told-answer, told-drop, told-if, told-notice, told-unless, told-use}
use Rattle.gw_law.proofs.Outbound.{fault-quiet}

-- ---- what was found inside

-- the packet is given, or it is dropped after its tag was right
abbrev IsUse : SadEntry → ℕ → PacketAnswer → Type 0
IsUse e n a = ((p : List ℕ) × (a ≡ answers.Gave e.name n p)) ⊎ ((w : DropWhy) × (a ≡ answers.Drop w) × (is_opened w ≡ true))

-- the answer is told as the law's act, and is one of a use
record IsFound (g : List ℕ) (e : SadEntry) (n : ℕ) (act : Act) (a : PacketAnswer) : Type 0 where
  told : act ≡ answer_told g a
  use-of : IsUse e n a

found-drop : (g : List ℕ) (e : SadEntry) (n : ℕ) (w : DropWhy) → is_opened w ≡ true → IsFound g e n (acts.Drop g w) (answers.Drop w)
found-drop g e n w p = record { told = refl; use-of = inr (w, refl, p) }

found-if : (g : List ℕ) (e : SadEntry) (n : ℕ) (x y : Act) (a b : PacketAnswer) (c : Bool) → IsFound g e n x a → IsFound g e n y b →
    IsFound g e n (if c then x else y) (if c then a else b)
found-if g e n x y a b true p q = p
found-if g e n x y a b false p q = q

found-gave : (g : List ℕ) (e : SadEntry) (n : ℕ) (p : List ℕ) → IsFound g e n (acts.Gave g e.name n p) (answers.Gave e.name n p)
found-gave g e n p = record { told = refl; use-of = inl (p, refl) }

found-view : (g : List ℕ) (e : SadEntry) (n next : ℕ) (p : List ℕ) (r : Result Packet NotPacket)
    → IsFound g e n (arrive.by_inner g e n next p r) (inbound.answer_by_view e n next p r)
found-view g e n next p (Err fault) = found-drop g e n why.Inner refl
found-view g e n next p (Ok v) =
    found-if g e n _ _ _ _ (not (arrive.is_told_version next p)) (found-drop g e n why.Inner refl)
    (found-if g e n _ _ _ _ (holds_packet e.selector In v) (found-gave g e n p) (found-drop g e n why.Selector refl))

found-packet : (g : List ℕ) (e : SadEntry) (n : ℕ) (p : Option esp.InnerPacket)
    → IsFound g e n (arrive.by_packet g e n p) (inbound.answer_by_packet e n p)
found-packet g e n None = found-drop g e n why.Padding refl
found-packet g e n (Some p) =
    found-if g e n _ _ _ _ (p.next == 59) (found-drop g e n why.Dummy refl) (found-view g e n p.next p.octets (view_of p.octets))

-- ---- a use of the half that the datagram is for

-- the half stands at this place, and the ESP octets of the datagram are for it, with this number
record IsFor (s : GatewayState) (o b : List ℕ) (i : ℕ) (x : Half) (n : ℕ) : Type 0 where
  there : slice_get s.halves i ≡ Some x
  octets : esp_of o ≡ b
  spi : by_spi (spi_of b) (entries_of s.halves) ≡ Some x.entry
  number : n ≡ number_from x.entry x.window.top b

if-both : (b c : Bool) (x y z : GatewayState) → b ≡ true → c ≡ true → (if b then (if c then x else y) else z) ≡ x
if-both b c x y z p q = rw (p, q) refl

if-true : (b : Bool) (x y : GatewayState) → b ≡ true → (if b then x else y) ≡ x
if-true b x y p = rw p refl

did-use : (g : List ℕ) (s : GatewayState) (o b : List ℕ) (i : ℕ) (x : Half) (n : ℕ) (a : PacketAnswer) → IsOrderly s → IsFor s o b i x n
    → IsUse x.entry n a →
    did g (with_arrival o s) (answer_told g a) ≡ with_halves (changed (take_number s.clock (length b) n) i s.halves) s
did-use g s o b i x n a k f (inl (p, is)) =
    let given = given-at s.clock (length b) n i x s.halves k.apart f.there in
    rw is
    (if-true (bytes_eq g g) (with_halves (map (given_under x.entry.name s.clock (octets_in (Some o)) n) s.halves) s) (quiet s) (same-refl g)
    ∙ (ap (λ z. with_halves (map (given_under x.entry.name s.clock (length z) n) s.halves) s) f.octets ∙ ap (λ hs. with_halves hs s) given))
did-use g s o b i x n a k f (inr (w, is, p)) =
    let spi : by_spi (spi_of (esp_of o)) (entries_of s.halves) ≡ Some x.entry = ap (λ z. by_spi (spi_of z) (entries_of s.halves)) f.octets
    ∙ f.spi in
    let opened = opened-at o s.clock i x s.halves k.apart f.there spi in
    let size : octets_in (Some o) ≡ length b = ap length f.octets in
    let number : number_from x.entry x.window.top (esp_of o) ≡ n = ap (number_from x.entry x.window.top) f.octets ∙ sym f.number in
    rw is
    (if-both (bytes_eq g g) (is_opened w) (number_opened (with_arrival o s)) (quiet s) (quiet s) (same-refl g) p
    ∙ (ap (λ hs. with_halves hs s) opened
    ∙ (ap (λ l. with_halves (changed (take_number s.clock l (number_from x.entry x.window.top (esp_of o))) i s.halves) s) size
    ∙ ap (λ m. with_halves (changed (take_number s.clock (length b) m) i s.halves) s) number)))

in-use : (g : List ℕ) (s : GatewayState) (o b : List ℕ) (i : ℕ) (x : Half) (n : ℕ) (act : Act) (a : PacketAnswer) → IsOrderly s
    → IsFor s o b i x n → IsFound g x.entry n act a →
    IsTold g s (with_arrival o s) (uses_of g s o x n act) (used a i (take_number s.clock (length b) n) (take_number s.clock (length b) n x)
    (kept_of s))
in-use g s o b i x n act a k f found =
    let told = told-use g s (with_arrival o s) a i (take_number s.clock (length b) n) x k f.there (λ z. refl)
    (did-use g s o b i x n a k f found.use-of) in
    let out = used a i (take_number s.clock (length b) n) (take_number s.clock (length b) n x) (kept_of s) in
    let size : length b ≡ octets_in (Some o) = sym (ap length f.octets) in
    subst (λ l. IsTold g s (with_arrival o s) (act ∷ look_of g s.session s.clock (take_number s.clock l n x ∷ [])) out) size
    (subst (λ z. IsTold g s (with_arrival o s) (z ∷ look_of g s.session s.clock (take_number s.clock (length b) n x ∷ [])) out)
    (sym found.told) told)

-- ---- ESP

in-text : (g : List ℕ) (s : GatewayState) (o b : List ℕ) (i : ℕ) (x : Half) (n : ℕ) (text : Option (List ℕ)) → IsOrderly s
    → IsFor s o b i x n →
    IsTold g s (with_arrival o s) (in_by_text g s o x n text) (inbound.opened_by_text b i x n text (kept_of s))
in-text g s o b i x n None k f = told-drop g s (with_arrival o s) why.Auth refl refl
in-text g s o b i x n (Some text) k f =
    in-use g s o b i x n (arrive.by_packet g x.entry n (esp.inner_packet text)) (inbound.answer_by_packet x.entry n (esp.inner_packet text))
    k f
    (found-packet g x.entry n (esp.inner_packet text))

in-verdict : (g : List ℕ) (s : GatewayState) (o b : List ℕ) (i : ℕ) (x : Half) (n : ℕ) (w : Verdict) → IsOrderly s → IsFor s o b i x n →
    IsTold g s (with_arrival o s) (in_by_verdict g s o b x n w) (inbound.opened_by_verdict b i x n w (kept_of s))
in-verdict g s o b i x n verdicts.Zero k f = told-drop g s (with_arrival o s) why.Zero refl refl
in-verdict g s o b i x n verdicts.Old k f = told-drop g s (with_arrival o s) why.Old refl refl
in-verdict g s o b i x n verdicts.Seen k f = told-drop g s (with_arrival o s) why.Seen refl refl
in-verdict g s o b i x n verdicts.Fresh k f = in-text g s o b i x n (esp.opened (keying x.entry.spi x.entry.key) b) k f

no-half : (g : List ℕ) (s : GatewayState) (o b : List ℕ) → IsOrderly s →
    IsTold g s (with_arrival o s) (in_by_half g s o b None) (inbound.without_half (spi_of b) (kept_of s))
no-half g s o b k =
    told-unless g s (with_arrival o s) why.BadSpi (tells_of g s (notices.BadSpi (spi_of b))) _ (list_any (λ z. z == spi_of b) s.bad_spis)
    (told-drop g s (with_arrival o s) why.BadSpi refl refl)
    (told-notice g s (with_arrival o s) why.BadSpi (notices.BadSpi (spi_of b)) s.halves (take 64 (spi_of b ∷ s.bad_spis)) refl refl
    (bad-spi-at (spi_of b) s.halves) refl)

entry-step : (spi : ℕ) (y x : Half) (ys : List Half) (c : Bool)
    → (find (is_half_of_spi spi) ys ≡ Some x → by_spi spi (entries_of ys) ≡ Some x.entry) →
    (if c then Some y else find (is_half_of_spi spi) ys) ≡ Some x → (if c then Some y.entry else by_spi spi (entries_of ys)) ≡ Some x.entry
entry-step spi y x ys true ih p = let e : y ≡ x = cc in ap (λ z. Some z.entry) e
entry-step spi y x ys false ih p = ih p

-- the entry that an SPI names is that of the half
entry-by : (spi : ℕ) (xs : List Half) (x : Half) → half_by_spi spi xs ≡ Some x → by_spi spi (entries_of xs) ≡ Some x.entry
entry-by spi [] x p = let c : None ≡ Some x = p in cc
entry-by spi (y ∷ ys) x p = entry-step spi y x ys (is_half_of_spi spi y) (λ q. entry-by spi ys x q) p

in-half : (g : List ℕ) (s : GatewayState) (o b : List ℕ) (i : ℕ) (found : Option Half) → IsOrderly s → esp_of o ≡ b
    → slice_get s.halves i ≡ found → half_by_spi (spi_of b) s.halves ≡ found →
    IsTold g s (with_arrival o s) (in_by_half g s o b found) (inbound.opened_at b i found (kept_of s))
in-half g s o b i None k e at spi = no-half g s o b k
in-half g s o b i (Some x) k e at spi =
    let n : ℕ = number_from x.entry x.window.top b in
    in-verdict g s o b i x n (judged x.window n) k (record {
      there = at;
      octets = e;
      spi = entry-by (spi_of b) s.halves x spi;
      number =
          refl;
    })

in-place : (g : List ℕ) (s : GatewayState) (o b : List ℕ) (place : Option ℕ) → IsOrderly s → esp_of o ≡ b
    → option_and_then (slice_get s.halves) place ≡ half_by_spi (spi_of b) s.halves →
    IsTold g s (with_arrival o s) (in_by_half g s o b (half_by_spi (spi_of b) s.halves)) (inbound.opened_by_place b place (kept_of s))
in-place g s o b None k e at =
    subst (λ found. IsTold g s (with_arrival o s) (in_by_half g s o b found) (inbound.without_half (spi_of b) (kept_of s))) at
    (no-half g s o b k)
in-place g s o b (Some i) k e at =
    subst (λ found. IsTold g s (with_arrival o s) (in_by_half g s o b found) (inbound.opened_at b i (slice_get s.halves i) (kept_of s))) at
    (in-half g s o b i (slice_get s.halves i) k e refl (sym at))

in-octets : (g : List ℕ) (s : GatewayState) (o b : List ℕ) → IsOrderly s → esp_of o ≡ b →
    IsTold g s (with_arrival o s) (in_esp g s o b) (inbound.opened_esp b (kept_of s))
in-octets g s o b k e =
    told-if g s (with_arrival o s) _ _ _ _ (nat_lt (length b) 34) (told-drop g s (with_arrival o s) why.Short refl refl)
    (in-place g s o b (position (is_half_of_spi (spi_of b)) s.halves) k e (found-there (is_half_of_spi (spi_of b)) s.halves))

-- ---- what comes in clear

in-action : (g : List ℕ) (s : GatewayState) (o : List ℕ) (a : Action) →
    IsTold g s (with_arrival o s) (arrive.arrive_by_action g o a ∷ []) (inbound.clear_by_action o a (kept_of s))
in-action g s o actions.Protect = told-drop g s (with_arrival o s) why.ClearRefused refl refl
in-action g s o actions.Bypass = told-answer g s (with_arrival o s) (answers.Pass o) refl
in-action g s o actions.Discard = told-drop g s (with_arrival o s) why.Discard refl refl

in-entry : (g : List ℕ) (s : GatewayState) (o : List ℕ) (p : Option SpdEntry) →
    IsTold g s (with_arrival o s) (arrive.arrive_by_entry g o p ∷ []) (inbound.clear_by_entry o p (kept_of s))
in-entry g s o None = told-drop g s (with_arrival o s) why.NoPolicy refl refl
in-entry g s o (Some p) = in-action g s o p.action

in-view : (g : List ℕ) (own : Addr) (s : GatewayState) (o : List ℕ) (r : Result Packet NotPacket) → IsOrderly s → view_of o ≡ r →
    IsTold g s (with_arrival o s) (in_by_view g own s o r) (inbound.arrive_by_view own o r (kept_of s))
in-view g own s o (Err fault) k e = told-drop g s (with_arrival o s) (fault_why fault) (fault-quiet fault) refl
in-view g own s o (Ok v) k e =
    told-if g s (with_arrival o s) _ _ _ _ (arrive.is_sealed_for own v) (in-octets g s o v.payload k (ap payload_of e))
    (in-entry g s o (first_entry s.spd In v))

pub arrive-told : (g : List ℕ) (own : Addr) (s : GatewayState) (o : List ℕ) → IsOrderly s →
    IsTold g s (with_arrival o s) (in_by_view g own s o (view_of o)) (inbound.arrive own o (kept_of s))
arrive-told g own s o k = in-view g own s o (view_of o) k refl
