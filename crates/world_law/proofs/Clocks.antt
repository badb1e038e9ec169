-- A reading of the clock, which all gateways take one after another, makes of the world that stands for a past the one that stands for
-- the past with its block.
use Rattle.std.proofs.Common.{◌≡◌, ℕ, Bool, true, false, nat_lt, max, List, [], ◌∷◌, ◌++◌, map, take, refl, sym, ◌∙◌, ap, subst, append-nil, append_assoc, arith, if◌then◌else◌}
use Rattle.std.specs.List.{flat_map}
use Rattle.std.specs.Str.{bytes_eq}
use Rattle.ikeless_tree.specs.declared.command.Peer.{Peer}
use Rattle.ikeless_tree.specs.declared.order.Notice.{Notice}
use Rattle.ikeless_tree.specs.declared.ends.GoneWhy.{GoneWhy}
use Rattle.sad_store.specs.Halves.{halves_without}
use Rattle.hist_acts.specs.declared.act.Act.{Act}
use Rattle.hist_acts.specs.declared.act.Act.TheVariants as acts
use Rattle.hist_acts.specs.declared.event.Header.{Header}
use Rattle.hist_acts.specs.Past.{after, clock, events_taken}
use Rattle.hist_acts.specs.Sessions.{session_taken}
use Rattle.hist_halves.specs.Halves.{live}
use Rattle.hist_gateway.specs.Look.{look}
use Rattle.hist_gateway.specs.Machine.{look_of}
use Rattle.hist_gateway.specs.May.{AreNewHalves}
use Rattle.hist_gateway.specs.Stands.{with_spi}
use Rattle.hist_gateway.specs.State as states
use Rattle.hist_gateway.specs.State.{GatewayState, did_all, did_at, note, quiet, state_of, with_acquire}
use Rattle.hist_gateway.proofs.KeepsLemmas.{same-refl, same-sym}
use Rattle.hist_gateway.proofs.KeptSteps.{after-append, keeps-all}
use Rattle.hist_gateway.proofs.MachineBlocks.{look-is}
use Rattle.hist_safety.proofs.Basics.{both-left, both-right, no}
use Rattle.session_pipe.specs.Sessions.{KeepsSessions}
use Rattle.session_pipe.specs.UnderWay.{UnderWay}
use Rattle.hist_sessions.proofs.Pipes.{keeps-before, pipe-follows}
use Rattle.hist_world.specs.Block.{clock_block, looks, raised}
use Rattle.hist_world.proofs.Followers.{are_followers, is_follower, look-follows}
use Rattle.hist_wire.specs.Wire.{line_at, pipe_at, request_at, response_at}
use Rattle.gw_tables.specs.Kept.{Kept}
use Rattle.gw_packets.specs.Looks.{clock_read}
use Rattle.gw_requests.specs.Requests.{Outcome}
use Rattle.gw_core.specs.Machine.{Clock}
use Rattle.gw_law.specs.Told.{Naming, kept_of}
use Rattle.ctl_core.specs.Core.{Core}
use Rattle.world_steps.specs.Nodes.{Node, acts_told, after_event, all_piped, all_sent, naming, outcome}
use Rattle.world_steps.specs.Steps.{clock_acts, did}
use Rattle.world_steps.specs.Steps as steps
use Rattle.world_law.specs.Stands.{node_of, sent}
use Rattle.world_law.proofs.Frames.{AreApart, AreOthers, node_with, nodes-away, standing}
use Rattle.world_law.proofs.Blocks.{tail-is, Law, block-is, clock-told, of-told, pipe-told, plain-done, rest-told, sent-told, session-told, taken-told}
use Rattle.world_law.proofs.Turns.{Ready}

-- ---- looks, over what is kept

gone-kept : (b : Bool) (x : List ℕ) (s t : GatewayState) (f : List ℕ) (w : GoneWhy) → kept_of s ≡ kept_of t
    → kept_of (if b then did_at s (acts.Gone f x w) else quiet s) ≡ kept_of (if b then did_at t (acts.Gone f x w) else quiet t)
gone-kept true x s t f w e = ap (λ (k : Kept). record k { halves = halves_without x k.halves }) e
gone-kept false x s t f w e = e

abbrev noticed : Notice → Kept → Kept
noticed n k = record k { halves = map (note n) k.halves; acquires = with_acquire n k.acquires; bad_spis = take 64 (with_spi n k.bad_spis) }

notice-kept : (b : Bool) (s t : GatewayState) (f : List ℕ) (m : ℕ) (n : Notice) → kept_of s ≡ kept_of t
    → kept_of (if b then did_at s (acts.Notice f m n) else quiet s) ≡ kept_of (if b then did_at t (acts.Notice f m n) else quiet t)
notice-kept true s t f m n e = ap (noticed n) e
notice-kept false s t f m n e = e

follower-kept : (g : List ℕ) (a : Act) (s t : GatewayState) → is_follower a ≡ true → kept_of s ≡ kept_of t
    → kept_of (states.did g s a) ≡ kept_of (states.did g t a)
follower-kept g (acts.Gone f x w) s t p e = gone-kept (bytes_eq f g) x s t f w e
follower-kept g (acts.Notice f m n) s t p e = notice-kept (bytes_eq f g) s t f m n e
follower-kept g a s t p e = absurd (no p)

followers-kept : (g : List ℕ) (xs : List Act) (s t : GatewayState) → are_followers xs ≡ true → kept_of s ≡ kept_of t
    → kept_of (did_all g s xs) ≡ kept_of (did_all g t xs)
followers-kept g [] s t p e = e
followers-kept g (a ∷ xs) s t p e =
    followers-kept g xs (states.did g s a) (states.did g t a) (both-right (is_follower a) (are_followers xs) p)
    (follower-kept g a s t (both-left (is_follower a) (are_followers xs) p) e)

followers-new : (g : List ℕ) (k xs : List Act) → are_followers xs ≡ true → AreNewHalves g k xs
followers-new g k [] p = tt
followers-new g k (acts.Gone f x w ∷ xs) p =
    (tt, followers-new g (acts.Gone f x w ∷ k) xs (both-right (is_follower (acts.Gone f x w)) (are_followers xs) p))
followers-new g k (acts.Notice f m n ∷ xs) p = (tt, followers-new g (acts.Notice f m n ∷ k) xs p)
followers-new g k (a ∷ xs) p = absurd (no p)

-- acts of looks leave the same of what is the same
later-kept : (g : List ℕ) (k j xs : List Act) → are_followers xs ≡ true → kept_of (state_of g k) ≡ kept_of (state_of g j)
    → kept_of (state_of g (after k xs)) ≡ kept_of (state_of g (after j xs))
later-kept g k j xs p e =
    ap kept_of (keeps-all g k xs (followers-new g k xs p))
    ∙ (followers-kept g xs (state_of g k) (state_of g j) p e ∙ ap kept_of (sym (keeps-all g j xs (followers-new g j xs p))))

-- and a look sees the same
abbrev look_over : List ℕ → ℕ → Kept → List Act
look_over g session kept = look_of g session kept.clock kept.halves

look-same : (g : List ℕ) (k j : List Act) → kept_of (state_of g k) ≡ kept_of (state_of g j) → session_taken g k ≡ session_taken g j
    → look g k (live g k) ≡ look g j (live g j)
look-same g k j e s =
    sym (look-is g k (live g k))
    ∙ (ap (λ z. look_over g z (kept_of (state_of g k))) s ∙ (ap (look_over g (session_taken g j)) e ∙ look-is g j (live g j)))

-- ---- the turn of one gateway

abbrev pub read : List Act → ℕ → List Act
read h t = acts.Now (max t (clock h)) ∷ h

abbrev out_of : Header → List Act → ℕ → Peer → Outcome
out_of header h t p = outcome (node_of header h p) (Clock t)

abbrev pub turn : Header → List Act → ℕ → Peer → List Act
turn header h t p = acts_told (node_of header h p) (out_of header h t p).acts

abbrev pub looked : Bool → List ℕ → List Act → List Act
looked b g k = if b then look g k (live g k) else []

pub record Looks (header : Header) (h : List Act) (t : ℕ) (p : Peer) : Type 0 where
  pub acts : turn header h t p ≡ looked (nat_lt (clock h) t) p.name (read h t)
  pub kept : (out_of header h t p).kept ≡ kept_of (state_of p.name (after (read h t) (turn header h t p)))
  pub follow : are_followers (turn header h t p) ≡ true

looked-follow : (b : Bool) (g : List ℕ) (k : List Act) → are_followers (looked b g k) ≡ true
looked-follow true g k = look-follows g k (live g k)
looked-follow false g k = refl

looked-same : (b : Bool) (g : List ℕ) (k j : List Act) → kept_of (state_of g k) ≡ kept_of (state_of g j)
    → session_taken g k ≡ session_taken g j → looked b g k ≡ looked b g j
looked-same true g k j e s = look-same g k j e s
looked-same false g k j e s = refl

pub looks-at : Law → (header : Header) (h : List Act) (t : ℕ) (p : Peer) → Ready header h → Looks header h t p
looks-at law header h t p ready =
    let b = block-is law header h p (Clock t) (ready.order p.name) (ready.named p) in
    let xs : List Act = turn header h t p in
    let ys : List Act = looked (nat_lt (clock h) t) p.name (read h t) in
    let same : xs ≡ ys = tail-is (acts.Now (out_of header h t p).kept.clock) (acts.Now (max t (clock h))) xs ys b.acts in
    record {
      acts = same;
      kept = b.kept ∙ ap (λ z. kept_of (state_of p.name (after (read h t) z))) (sym same);
      follow = ap are_followers same ∙ looked-follow (nat_lt (clock h) t) p.name (read h t);
    }

-- ---- one gateway after another

abbrev turns : Header → List Act → ℕ → List Peer → List Act
turns header h t [] = []
turns header h t (p ∷ ps) = turn header h t p ++ turns header h t ps

-- another gateway stays
turn-away : (header : Header) (h k : List Act) (t : ℕ) (p q : Peer) → bytes_eq p.name q.name ≡ false
    → node_of header (after k (turn header h t p)) q ≡ node_of header k q
turn-away header h k t p q e =
    nodes-away header (turn header h t p) k q (of-told (naming (node_of header h p)) (out_of header h t p).acts q.name e)

turns-away : (header : Header) (h k : List Act) (t : ℕ) (ps : List Peer) (q : Peer) → AreOthers q.name ps
    → node_of header (after k (turns header h t ps)) q ≡ node_of header k q
turns-away header h k t [] q e = refl
turns-away header h k t (p ∷ ps) q e =
    ap (λ z. node_of header z q) (after-append k (turn header h t p) (turns header h t ps))
    ∙ (turns-away header h (after k (turn header h t p)) t ps q e.1 ∙ turn-away header h k t p q e.0)

-- of these gateways the past k says what the past j says
abbrev AreSame : Header → List Act → List Act → List Peer → Type 0
AreSame header j k [] = Unit {0}
AreSame header j k (q ∷ qs) =
    (node_of header k q ≡ node_of header j q) × (session_taken q.name k ≡ session_taken q.name j) × AreSame header j k qs

same-self : (header : Header) (j : List Act) (ps : List Peer) → AreSame header j j ps
same-self header j [] = tt
same-self header j (q ∷ qs) = (refl, refl, same-self header j qs)

same-after : (header : Header) (h j k : List Act) (t : ℕ) (p : Peer) (qs : List Peer) → AreOthers p.name qs → AreSame header j k qs
    → AreSame header j (after k (turn header h t p)) qs
same-after header h j k t p [] o s = tt
same-after header h j k t p (q ∷ qs) o s = (
  turn-away header h k t p q (same-sym p.name q.name ∙ o.0) ∙ s.0,
  session-told (naming (node_of header h p)) q.name (out_of header h t p).acts k ∙ s.1,
  same-after header h j k t p qs o.1 s.2,
)

clock-turn : (header : Header) (h k : List Act) (t : ℕ) (p : Peer) → clock (after k (turn header h t p)) ≡ clock k
clock-turn header h k t p = clock-told (naming (node_of header h p)) (out_of header h t p).acts k

-- the acts are those of the law, in its order
abbrev all_looked : Bool → List Act → List Peer → List Act
all_looked b k ps = if b then looks k ps else []

none-looked : (b : Bool) (g : List ℕ) (k : List Act) (ps : List Peer)
    → looked b g k ++ all_looked b (after k (looked b g k)) ps
    ≡ (if b then look g k (live g k) ++ looks (after k (look g k (live g k))) ps else [])
none-looked true g k ps = refl
none-looked false g k ps = refl

no-peers : (b : Bool) (k : List Act) → all_looked b k [] ≡ []
no-peers true k = refl
no-peers false k = refl

turns-looked : Law → (header : Header) (h k : List Act) (t : ℕ) (ps : List Peer) → Ready header h → AreApart ps
    → AreSame header (read h t) k ps → all_looked (nat_lt (clock h) t) k ps ≡ turns header h t ps
turns-looked law header h k t [] ready apart s = no-peers (nat_lt (clock h) t) k
turns-looked law header h k t (p ∷ ps) ready apart s =
    let b : Bool = nat_lt (clock h) t in
    let xs : List Act = turn header h t p in
    let first : looked b p.name k ≡ xs =
    looked-same b p.name k (read h t) (ap (λ (n : Node). n.kept) s.0) s.1 ∙ sym (looks-at law header h t p ready).acts in
    let rest = turns-looked law header h (after k xs) t ps ready apart.1 (same-after header h (read h t) k t p ps apart.0 s.2) in
    sym (none-looked b p.name k ps) ∙ (ap (λ z. z ++ all_looked b (after k z) ps) first ∙ ap (λ z. xs ++ z) rest)

-- and leave each gateway as it leaves itself
turn-node : Law → (header : Header) (h k : List Act) (t : ℕ) (p : Peer) → Ready header h → node_of header k p ≡ node_of header (read h t) p
    → clock k ≡ clock (read h t)
    → KeepsSessions (after k (turn header h t p))
    → node_of header (after k (turn header h t p)) p ≡ after_event (Clock t) (node_of header h p)
turn-node law header h k t p ready same reads keeps =
    let n : Naming = naming (node_of header h p) in
    let out : Outcome = out_of header h t p in
    let xs : List Act = turn header h t p in
    let j : List Act = read h t in
    let w : List Act = after k xs in
    let looked_at = looks-at law header h t p ready in
    let plain = plain-done (clock_read t (kept_of (state_of p.name h))).done in
    let kept : kept_of (state_of p.name w) ≡ out.kept =
    later-kept p.name k j xs looked_at.follow (ap (λ (z : Node). z.kept) same) ∙ sym looked_at.kept in
    let now : clock k ≡ out.kept.clock = reads ∙ (sym (clock-told n out.acts j) ∙ ap (λ (z : Kept). z.clock) (sym looked_at.kept)) in
    let u : UnderWay = pipe_at p.name p.address k in
    let pipe : pipe_at p.name p.address w ≡ all_piped out.kept.clock out.acts (pipe_at p.name p.address h) =
    sym (pipe-follows (request_at p.address) (response_at p.name) line_at p.name k xs keeps)
    ∙ (pipe-told p.address n p.name out.kept.clock out.acts k u plain (same-refl p.name) now
    ∙ ap (all_piped out.kept.clock out.acts) (ap (λ (z : Node). z.pipe) same)) in
    ap (λ z. node_with z (pipe_at p.name p.address w) header w p) kept
    ∙ (ap (λ z. node_with out.kept z header w p) pipe
    ∙ (rest-told out.kept (all_piped out.kept.clock out.acts (pipe_at p.name p.address h)) header n out.acts k p plain
    ∙ ap (λ (z : Node). record z { kept = out.kept; pipe = all_piped out.kept.clock out.acts (pipe_at p.name p.address h) }) same))

turns-nodes : Law → (header : Header) (h k : List Act) (t : ℕ) (ps : List Peer) → Ready header h → AreApart ps
    → AreSame header (read h t) k ps → clock k ≡ clock (read h t)
    → KeepsSessions (after k (turns header h t ps))
    → map (after_event (Clock t)) (map (node_of header h) ps) ≡ map (node_of header (after k (turns header h t ps))) ps
turns-nodes law header h k t [] ready apart s reads keeps = refl
turns-nodes law header h k t (p ∷ ps) ready apart s reads keeps =
    let xs : List Act = turn header h t p in
    let more : List Act = turns header h t ps in
    let joined = after-append k xs more in
    let later : KeepsSessions (after (after k xs) more) = subst KeepsSessions joined keeps in
    let own : node_of header (after k xs) p ≡ after_event (Clock t) (node_of header h p) =
    turn-node law header h k t p ready s.0 reads (keeps-before (after k xs) more later) in
    let first : after_event (Clock t) (node_of header h p) ≡ node_of header (after k (xs ++ more)) p =
    sym (ap (λ z. node_of header z p) joined ∙ (turns-away header h (after k xs) t ps p apart.0 ∙ own)) in
    let rest = turns-nodes law header h (after k xs) t ps ready apart.1 (same-after header h (read h t) k t p ps apart.0 s.2)
    (clock-turn header h k t p ∙ reads) later in
    let all : map (after_event (Clock t)) (map (node_of header h) ps) ≡ map (node_of header (after k (xs ++ more))) ps =
    rest ∙ ap (λ z. map (node_of header z) ps) (sym joined) in
    ap (λ z. z ∷ map (after_event (Clock t)) (map (node_of header h) ps)) first ∙ ap (λ z. node_of header (after k (xs ++ more)) p ∷ z) all

-- ---- the rest of the world

turns-sent : (header : Header) (h k : List Act) (t : ℕ) (ps : List Peer)
    → sent k ++ flat_map (λ n. all_sent (outcome n (Clock t)).acts) (map (node_of header h) ps) ≡ sent (after k (turns header h t ps))
turns-sent header h k t [] = append-nil (sent k)
turns-sent header h k t (p ∷ ps) =
    let xs : List Act = turn header h t p in
    let own : List (List ℕ) = all_sent (out_of header h t p).acts in
    let more : List (List ℕ) = flat_map (λ n. all_sent (outcome n (Clock t)).acts) (map (node_of header h) ps) in
    sym (append_assoc (sent k) own more)
    ∙ (ap (λ z. z ++ more) (sym (sent-told (naming (node_of header h p)) (out_of header h t p).acts k))
    ∙ (turns-sent header h (after k xs) t ps ∙ ap sent (sym (after-append k xs (turns header h t ps)))))

turns-clock : (header : Header) (h k : List Act) (t : ℕ) (ps : List Peer) → clock (after k (turns header h t ps)) ≡ clock k
turns-clock header h k t [] = refl
turns-clock header h k t (p ∷ ps) =
    ap clock (after-append k (turn header h t p) (turns header h t ps))
    ∙ (turns-clock header h (after k (turn header h t p)) t ps ∙ clock-turn header h k t p)

turns-taken : (header : Header) (h k : List Act) (t : ℕ) (ps : List Peer) → events_taken (after k (turns header h t ps)) ≡ events_taken k
turns-taken header h k t [] = refl
turns-taken header h k t (p ∷ ps) =
    ap events_taken (after-append k (turn header h t p) (turns header h t ps))
    ∙ (turns-taken header h (after k (turn header h t p)) t ps ∙ taken-told (naming (node_of header h p)) (out_of header h t p).acts k)

acts-told : (header : Header) (h : List Act) (t : ℕ) (ps : List Peer) → clock_acts t (map (node_of header h) ps) ≡ turns header h t ps
acts-told header h t [] = refl
acts-told header h t (p ∷ ps) = ap (λ z. turn header h t p ++ z) (acts-told header h t ps)

raised-is : (header : Header) (j : List Act) (b : Bool) → all_looked b j header.gateways ≡ raised header j b
raised-is header j true = refl
raised-is header j false = refl

twice : (t c : ℕ) → max t c ≡ max (max t c) c
twice t c = omega arith

pub now-turn : Law → (header : Header) (h : List Act) (core : Core) (t : ℕ) → Ready header h
    → KeepsSessions (after h (clock_block header h t))
    → did (acts.Now (max t (clock h)) ∷ clock_acts t (map (node_of header h) header.gateways)) (steps.clock_read t (standing header h core))
    ≡ did (clock_block header h t) (standing header (after h (clock_block header h t)) core)
now-turn law header h core t ready keeps =
    let j : List Act = read h t in
    let xs : List Act = turns header h t header.gateways in
    let same = same-self header j header.gateways in
    let block : xs ≡ raised header j (nat_lt (clock h) t) =
    sym (turns-looked law header h j t header.gateways ready ready.apart same) ∙ raised-is header j (nat_lt (clock h) t) in
    let later : KeepsSessions (after j xs) = subst (λ z. KeepsSessions (after j z)) (sym block) keeps in
    let nodes = turns-nodes law header h j t header.gateways ready ready.apart same refl later in
    let sends = turns-sent header h j t header.gateways in
    let reads : max t (clock h) ≡ clock (after j xs) = twice t (clock h) ∙ sym (turns-clock header h j t header.gateways) in
    let counts = sym (turns-taken header h j t header.gateways) in
    let world : steps.clock_read t (standing header h core) ≡ standing header (after j xs) core =
    (λ i. record { nodes = nodes i; controller = core; sent = sends i; clock = reads i; taken = counts i }) in
    ap (λ zs. did (acts.Now (max t (clock h)) ∷ zs) (steps.clock_read t (standing header h core))) (acts-told header h t header.gateways)
    ∙ (ap (did (acts.Now (max t (clock h)) ∷ xs)) world
    ∙ ap (λ zs. did (acts.Now (max t (clock h)) ∷ zs) (standing header (after j zs) core)) block)
