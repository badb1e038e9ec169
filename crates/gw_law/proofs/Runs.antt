-- Event after event, a gateway's acts are its history, from its start, from any lawful past and after a restart.
use Rattle.std.proofs.Common.{◌≡◌, ℕ, Bool, true, false, nat_lt, List, [], ◌∷◌, ◌++◌, All, length, None, refl, sym, ap, ◌∙◌, arith, subst, if◌then◌else◌}
use Rattle.std.proofs.lemmas.List.Elements.{All-cons, All-nil}
use Rattle.hist_acts.specs.declared.act.Act.{Act}
use Rattle.hist_acts.specs.declared.act.Act.TheVariants as acts
use Rattle.hist_acts.specs.Past.{after, clock}
use Rattle.std.specs.Str.{bytes_eq}
use Rattle.ikl_base.specs.Address.{AreOneFamily}
use Rattle.ip_packet.specs.Field.{next_header}
use Rattle.ip_packet.specs.View.{Packet}
use Rattle.ikeless_tree.specs.declared.sad.SadEntry.{SadEntry}
use Rattle.esp_frame.specs.Esp.{esp, keying}
use Rattle.esp_frame.specs.Laws.{SealedLength}
use Rattle.hist_halves.specs.Sealed.{esp_of}
use Rattle.hist_gateway.specs.Datagram.{datagram}
use Rattle.hist_gateway.specs.Block.{Gateway, GatewayEvent, gw_block, gw_history}
use Rattle.hist_gateway.specs.May.{IsGatewayPast}
use Rattle.hist_gateway.specs.Safe.{IsGatewaySafe}
use Rattle.hist_gateway.specs.State.{GatewayState, state_of}
use Rattle.hist_gateway.specs.State as states
use Rattle.hist_gateway.specs.Machine.{acts_of, next}
use Rattle.hist_gateway.proofs.KeepsLemmas.{keeps, same-refl}
use Rattle.hist_gateway.proofs.KeptSteps.{after-append}
use Rattle.gw_tables.specs.Kept.{Kept, booted, with_clock}
use Rattle.gw_packets.specs.Outcome.{Outcome, outcome}
use Rattle.gw_packets.specs.Looks.{clock_read, looked}
use Rattle.gw_law.specs.Told.{Naming, begun, kept_of, naming_of, restarted}
use Rattle.gw_law.specs.Steps.{Step, lives_after, lives_of, run_of, step_of}
use Rattle.gw_law.specs.Orderly.{AreTunnelEvents, AreTunnelLives, InstallsTunnel, IsOrderly, IsTunnelEvent}
use Rattle.gw_law.proofs.Outbound.{AreSized}
use Rattle.gw_law.proofs.Pasts.{all-after, orderly-past}
use Rattle.gw_law.proofs.Events.{step-is}
use Rattle.gw_law.proofs.Plain.{step-installs}

-- the law of the gateway, as the crate below proves it
pub record Law : Type 0 where
  pub sized : AreSized
  pub acts : (c : Gateway) (h : List Act) (e : GatewayEvent) → acts_of c (state_of c.name h) e ≡ gw_block c h e
  pub keeps : (c : Gateway) (h : List Act) (e : GatewayEvent) → state_of c.name (after h (gw_block c h e)) ≡ next c (state_of c.name h) e
  pub lawful : (c : Gateway) (h : List Act) (e : GatewayEvent) → IsGatewayPast c h → IsGatewayPast c (after h (gw_block c h e))
  pub safe : (c : Gateway) (h : List Act) → IsGatewayPast c h → IsGatewaySafe h

-- what an event does after a past
pub record IsBlock (c : Gateway) (h : List Act) (e : GatewayEvent) : Type 0 where
  pub acts : (step_of c (naming_of c.name (state_of c.name h)) (kept_of (state_of c.name h)) e).acts ≡ gw_block c h e
  pub kept : (step_of c (naming_of c.name (state_of c.name h)) (kept_of (state_of c.name h)) e).kept ≡ kept_of
      (state_of c.name (after h (gw_block c h e)))
  pub naming : (step_of c (naming_of c.name (state_of c.name h)) (kept_of (state_of c.name h)) e).naming ≡ naming_of c.name
      (state_of c.name (after h (gw_block c h e)))

pub block-is : Law → (c : Gateway) (h : List Act) (e : GatewayEvent) → IsGatewayPast c h → All InstallsTunnel h → IsBlock c h e
block-is law c h e l t =
    let s : GatewayState = state_of c.name h in
    let step = step-is law.sized c s e (orderly-past c c.name h l t) in
    record {
      acts = sym step.acts ∙ law.acts c h e;
      kept = sym step.kept ∙ ap kept_of (sym (law.keeps c h e));
      naming = sym step.naming ∙ ap (naming_of c.name) (sym (law.keeps c h e));
    }

pub installs-after : Law → (c : Gateway) (h : List Act) (e : GatewayEvent) → IsGatewayPast c h → All InstallsTunnel h → IsTunnelEvent e
    → All InstallsTunnel (after h (gw_block c h e))
installs-after law c h e l t p =
    let s : GatewayState = state_of c.name h in
    let block = block-is law c h e l t in
    all-after InstallsTunnel h (gw_block c h e) t
    (subst (All InstallsTunnel) block.acts (step-installs c (naming_of c.name s) (kept_of s) e p))

-- what events do after a past
pub record IsHistory (c : Gateway) (h : List Act) (es : List GatewayEvent) (run : Step) : Type 0 where
  pub acts : run.acts ≡ gw_history c h es
  pub kept : run.kept ≡ kept_of (state_of c.name (after h (gw_history c h es)))
  pub naming : run.naming ≡ naming_of c.name (state_of c.name (after h (gw_history c h es)))

-- the run of a gateway that keeps what is kept of a past
abbrev pub run_after : Gateway → List Act → List GatewayEvent → Step
run_after c h es = run_of c (naming_of c.name (state_of c.name h)) (kept_of (state_of c.name h)) es

run-step : (c : Gateway) (h : List Act) (e : GatewayEvent) (es : List GatewayEvent) (k : Kept) (n : Naming) → IsBlock c h e →
    k ≡ (step_of c (naming_of c.name (state_of c.name h)) (kept_of (state_of c.name h)) e).kept →
    n ≡ (step_of c (naming_of c.name (state_of c.name h)) (kept_of (state_of c.name h)) e).naming →
    IsHistory c (after h (gw_block c h e)) es (run_of c n k es) → IsHistory c h (e ∷ es) (run_after c h (e ∷ es))
run-step c h e es k n block same-kept same-naming ih =
    let later : List Act = after h (gw_block c h e) in
    let step : Step = step_of c (naming_of c.name (state_of c.name h)) (kept_of (state_of c.name h)) e in
    let ih' : IsHistory c later es (run_of c step.naming step.kept es) =
    subst (λ m. IsHistory c later es (run_of c m step.kept es)) same-naming (subst (λ z. IsHistory c later es (run_of c n z es)) same-kept
    ih) in
    let joined = after-append h (gw_block c h e) (gw_history c later es) in
    record {
      acts = ap (λ zs. zs ++ (run_of c step.naming step.kept es).acts) block.acts ∙ ap (λ zs. gw_block c h e ++ zs) ih'.acts;
      kept = ih'.kept ∙ ap (λ p. kept_of (state_of c.name p)) (sym joined);
      naming = ih'.naming ∙ ap (λ p. naming_of c.name (state_of c.name p)) (sym joined);
    }

pub run-is : Law → (c : Gateway) (h : List Act) (es : List GatewayEvent) → IsGatewayPast c h → All InstallsTunnel h → AreTunnelEvents es
    → IsHistory c h es (run_after c h es)
run-is law c h [] l t p = record { acts = refl; kept = refl; naming = refl }
run-is law c h (e ∷ es) l t p =
    let later : List Act = after h (gw_block c h e) in
    let block = block-is law c h e l t in
    let ih = run-is law c later es (law.lawful c h e l) (installs-after law c h e l t p.0) p.1 in
    run-step c h e es (kept_of (state_of c.name later)) (naming_of c.name (state_of c.name later)) block (sym block.kept) (sym block.naming)
    ih

pub past-on : Law → (c : Gateway) (h : List Act) (es : List GatewayEvent) → IsGatewayPast c h → All InstallsTunnel h → AreTunnelEvents es →
    IsGatewayPast c (after h (gw_history c h es)) × All InstallsTunnel (after h (gw_history c h es))
past-on law c h [] l t p = (l, t)
past-on law c h (e ∷ es) l t p =
    let later : List Act = after h (gw_block c h e) in
    rw (after-append h (gw_block c h e) (gw_history c later es))
    (past-on law c later es (law.lawful c h e l) (installs-after law c h e l t p.0) p.1)

pub orderly-on : Law → (c : Gateway) (h : List Act) (es : List GatewayEvent) → IsGatewayPast c h → All InstallsTunnel h → AreTunnelEvents es
    →
    IsOrderly (state_of c.name (after h (gw_history c h es)))
orderly-on law c h es l t p =
    let on = past-on law c h es l t p in
    orderly-past c c.name (after h (gw_history c h es)) on.0 on.1

-- what is told of a run is safe
pub safe-run : Law → (c : Gateway) (h : List Act) (es : List GatewayEvent) → IsGatewayPast c h → All InstallsTunnel h → AreTunnelEvents es →
    IsGatewaySafe (after h (run_after c h es).acts)
safe-run law c h es l t p =
    let on = past-on law c h es l t p in
    subst (λ zs. IsGatewaySafe (after h zs)) (sym (run-is law c h es l t p).acts) (law.safe c (after h (gw_history c h es)) on.0)

-- ---- from the start

pub run-begun : Law → (c : Gateway) (es : List GatewayEvent) → AreTunnelEvents es → IsHistory c [] es (run_of c (begun c.name) booted es)
run-begun law c es p = run-is law c [] es tt (All-nil InstallsTunnel) p

-- ---- after a restart

-- a reading right after the start gives the clock, and does nothing else
read-by : (t : ℕ) (b : Bool) → nat_lt 0 t ≡ b → (if b then looked (with_clock t booted) else outcome None [] [] booted) ≡ outcome None [] []
    (with_clock t booted)
read-by t true p = refl
read-by t false p = let e : 0 ≡ t = grind arith in ap (λ m. outcome None [] [] (with_clock m booted)) e

pub read-first : (t : ℕ) → clock_read t booted ≡ outcome None [] [] (with_clock t booted)
read-first t = read-by t (nat_lt 0 t) refl

state-after : (g : List ℕ) (h : List Act) → state_of g (acts.Boot g ∷ h) ≡ states.restarted (state_of g h)
state-after g h = keeps g h (acts.Boot g) tt ∙ own (bytes_eq g g) (same-refl g)
  where
    own : (b : Bool) → b ≡ true → (if b then states.restarted (state_of g h) else states.quiet (state_of g h)) ≡ states.restarted
        (state_of g h)
    own b p = rw p refl

pub kept-restarted : (g : List ℕ) (h : List Act) → kept_of (state_of g (acts.Boot g ∷ h)) ≡ (clock_read (clock h) booted).kept
kept-restarted g h = ap kept_of (state-after g h) ∙ ap (λ (out : Outcome). out.kept) (sym (read-first (clock h)))

pub naming-restarted : (g : List ℕ) (h : List Act) → naming_of g (state_of g (acts.Boot g ∷ h)) ≡ restarted (naming_of g (state_of g h))
naming-restarted g h = ap (naming_of g) (state-after g h)

pub run-restarted : Law → (c : Gateway) (h : List Act) (es : List GatewayEvent) → IsGatewayPast c h → All InstallsTunnel h
    → AreTunnelEvents es →
    IsHistory c (acts.Boot c.name ∷ h) es (run_of c (restarted (naming_of c.name (state_of c.name h))) (clock_read (clock h) booted).kept
    es)
run-restarted law c h es l t p =
    let past : List Act = acts.Boot c.name ∷ h in
    subst (λ n. IsHistory c past es (run_of c n (clock_read (clock h) booted).kept es)) (naming-restarted c.name h)
    (subst (λ k. IsHistory c past es (run_of c (naming_of c.name (state_of c.name past)) k es)) (kept-restarted c.name h)
    (run-is law c past es (tt, l) (All-cons InstallsTunnel (acts.Boot c.name) h tt t) p))

-- ---- lives

-- lives of a gateway that keeps what is kept of a past
abbrev LivesAfter : Gateway → List Act → List (List GatewayEvent) → Type 0
LivesAfter c h lives = lives_of c (naming_of c.name (state_of c.name h)) (kept_of (state_of c.name h)) lives ≡ lives_after c h lives

life-step : (c : Gateway) (h : List Act) (es : List GatewayEvent) (more : List (List GatewayEvent)) (run : Step) → IsHistory c h es run →
    LivesAfter c (acts.Boot c.name ∷ after h (gw_history c h es)) more →
    run.acts ++ acts.Boot c.name ∷ lives_of c (restarted run.naming) (clock_read run.kept.clock booted).kept more ≡ lives_after c h (es
    ∷ more)
life-step c h es more run is ih =
    let mid : List Act = after h (gw_history c h es) in
    let past : List Act = acts.Boot c.name ∷ mid in
    let naming : restarted run.naming ≡ naming_of c.name (state_of c.name past) = ap restarted is.naming ∙ sym (naming-restarted c.name mid)
    in
    let kept : (clock_read run.kept.clock booted).kept ≡ kept_of (state_of c.name past) =
    ap (λ (k : Kept). (clock_read k.clock booted).kept) is.kept ∙ sym (kept-restarted c.name mid) in
    ap (λ xs. xs ++ acts.Boot c.name ∷ lives_of c (restarted run.naming) (clock_read run.kept.clock booted).kept more) is.acts
    ∙ ap (λ xs. gw_history c h es ++ acts.Boot c.name ∷ xs)
    (ap (λ n. lives_of c n (clock_read run.kept.clock booted).kept more) naming
    ∙ (ap (λ k. lives_of c (naming_of c.name (state_of c.name past)) k more) kept ∙ ih))

pub lives-are : Law → (c : Gateway) (h : List Act) (lives : List (List GatewayEvent)) → IsGatewayPast c h → All InstallsTunnel h
    → AreTunnelLives lives → LivesAfter c h lives
lives-are law c h [] l t p = refl
lives-are law c h (es ∷ more) l t p =
    let on = past-on law c h es l t p.0 in
    let mid : List Act = after h (gw_history c h es) in
    life-step c h es more (run_after c h es) (run-is law c h es l t p.0)
    (lives-are law c (acts.Boot c.name ∷ mid) more (tt, on.0) (All-cons InstallsTunnel (acts.Boot c.name) mid tt on.1) p.1)

lawful-lives : Law → (c : Gateway) (h : List Act) (lives : List (List GatewayEvent)) → IsGatewayPast c h → All InstallsTunnel h
    → AreTunnelLives lives →
    IsGatewayPast c (after h (lives_after c h lives))
lawful-lives law c h [] l t p = l
lawful-lives law c h (es ∷ more) l t p =
    let on = past-on law c h es l t p.0 in
    let mid : List Act = after h (gw_history c h es) in
    rw (after-append h (gw_history c h es) (acts.Boot c.name ∷ lives_after c (acts.Boot c.name ∷ mid) more))
    (lawful-lives law c (acts.Boot c.name ∷ mid) more (tt, on.0) (All-cons InstallsTunnel (acts.Boot c.name) mid tt on.1) p.1)

pub lives-begun : Law → (c : Gateway) (lives : List (List GatewayEvent)) → AreTunnelLives lives
    → lives_of c (begun c.name) booted lives ≡ lives_after c [] lives
lives-begun law c lives p = lives-are law c [] lives tt (All-nil InstallsTunnel) p

pub safe-lives : Law → (c : Gateway) (lives : List (List GatewayEvent)) → AreTunnelLives lives
    → IsGatewaySafe (after [] (lives_of c (begun c.name) booted lives))
safe-lives law c lives p =
    subst (λ xs. IsGatewaySafe (after [] xs)) (sym (lives-begun law c lives p))
    (law.safe c (after [] (lives_after c [] lives)) (lawful-lives law c [] lives tt (All-nil InstallsTunnel) p))

-- ---- the law of the crate below, from its functions

pub sizes-are : ((e : SadEntry) (n : ℕ) (v : Packet) (o : List ℕ) → AreOneFamily e.local e.remote
    → esp_of (datagram e n v o) ≡ esp (keying e.spi e.key) n (next_header o) o) →
    SealedLength → AreSized
sizes-are octets len e n v o family = ap length (octets e n v o family) ∙ len (keying e.spi e.key) n (next_header o) o
