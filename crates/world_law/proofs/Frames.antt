-- What stands for a past, act by act: an act is of one gateway at most, and leaves the others as they were.
use Rattle.std.proofs.Common.{◌≡◌, ℕ, ◌+◌, ◌-◌, ◌<◌, ◌==◌, ◌&&◌, ◌||◌, Bool, true, false, not, List, [], ◌∷◌, ◌++◌, drop, map, length, Some, refl, sym, ◌∙◌, ap, subst, arith, if◌then◌else◌}
use Rattle.std.proofs.lemmas.Bool.{or_parts, true≢false}
use Rattle.std.specs.Prelude.{find}
use Rattle.std.specs.List.{list_any}
use Rattle.std.specs.Option.{option_map}
use Rattle.std.specs.Str.{bytes_eq}
use Rattle.ikeless_tree.specs.declared.command.Peer.{Peer}
use Rattle.hist_acts.specs.declared.act.Act.{Act}
use Rattle.hist_acts.specs.declared.act.Act.TheVariants as acts
use Rattle.hist_acts.specs.declared.event.Header.{Header}
use Rattle.hist_acts.specs.Past.{after, clock, events_taken}
use Rattle.hist_acts.specs.Sessions.{answered, openings, orders}
use Rattle.hist_acts.specs.Sessions as sessions
use Rattle.hist_gateway.specs.Handle.{requests}
use Rattle.hist_gateway.specs.May.{IsNewHalf}
use Rattle.hist_gateway.specs.State.{state_of}
use Rattle.hist_gateway.specs.State as states
use Rattle.hist_gateway.proofs.KeepsLemmas.{did-away, keeps, same-is, same-sym}
use Rattle.hist_controller.specs.Told.{Named, peer_name}
use Rattle.hist_safety.proofs.Basics.{some-is}
use Rattle.session_pipe.specs.Past as pipes
use Rattle.session_pipe.specs.UnderWay.{UnderWay}
use Rattle.hist_wire.specs.Wire.{line_at, pipe_at, request_at, response_at}
use Rattle.gw_tables.specs.Kept.{Kept}
use Rattle.gw_law.specs.Told.{kept_of}
use Rattle.ctl_core.specs.Core.{Core}
use Rattle.hist_world.specs.Block.{Past}
use Rattle.world_steps.specs.Nodes.{Node}
use Rattle.world_steps.specs.Worlds.{World, placed}
use Rattle.world_law.specs.Stands.{StandsFor, node_of, sent}

-- ---- the gateways of a header have names of their own

-- none of these has the name
abbrev pub AreOthers : List ℕ → List Peer → Type 0
AreOthers g [] = Unit {0}
AreOthers g (p ∷ ps) = (bytes_eq p.name g ≡ false) × AreOthers g ps

abbrev pub AreApart : List Peer → Type 0
AreApart [] = Unit {0}
AreApart (p ∷ ps) = AreOthers p.name ps × AreApart ps

next-name : (p : Peer) (ps : List Peer) (i : ℕ) → peer_name (p ∷ ps) (i + 1) ≡ peer_name ps i
next-name p ps i =
    let z : (i + 1 == 0) ≡ false = grind arith in
    let m : i + 1 - 1 ≡ i = omega arith in
    rw z (ap (peer_name ps) m)

others-by : (g : List ℕ) (ps : List Peer) → ((i : ℕ) → i < length ps → bytes_eq (peer_name ps i) g ≡ false) → AreOthers g ps
others-by g [] f = tt
others-by g (p ∷ ps) f =
    (f 0 (omega arith), others-by g ps (λ i l. ap (λ z. bytes_eq z g) (sym (next-name p ps i)) ∙ f (i + 1) (omega (arith, l))))

pub apart-named : (ps : List Peer) → Named ps → AreApart ps
apart-named [] n = tt
apart-named (p ∷ ps) n =
    (others-by p.name ps (λ i l. first i l), apart-named ps (λ f g i j. later f g i j))
  where
    first : (i : ℕ) → i < length ps → bytes_eq (peer_name ps i) p.name ≡ false
    first i l =
        let z : (0 == i + 1) ≡ false = grind arith in
        ap (λ z. bytes_eq z p.name) (sym (next-name p ps i)) ∙ n (i + 1) 0 (omega (arith, l)) (omega arith) ∙ z

    same-next : (f g : ℕ) (b : Bool) → (g == f) ≡ b → (g + 1 == f + 1) ≡ b
    same-next f g true e = grind (arith, e)
    same-next f g false e = grind (arith, e)

    later : (f g : ℕ) → f < length ps → g < length ps → bytes_eq (peer_name ps f) (peer_name ps g) ≡ (g == f)
    later f g i j =
        ap (λ z. bytes_eq z (peer_name ps g)) (sym (next-name p ps f))
        ∙ ap (λ z. bytes_eq (peer_name (p ∷ ps) (f + 1)) z) (sym (next-name p ps g))
        ∙ n (f + 1) (g + 1) (omega (arith, i)) (omega (arith, j)) ∙ same-next f g (g == f) refl

-- ---- the gateway of a name

pub find-node : (header : Header) (h : List Act) (g : List ℕ) (ps : List Peer)
    → find (λ n. bytes_eq n.name g) (map (node_of header h) ps) ≡ option_map (node_of header h) (find (λ p. bytes_eq p.name g) ps)
find-node header h g [] = refl
find-node header h g (p ∷ ps) = by-name (bytes_eq p.name g) (find-node header h g ps) where
  by-name : (b : Bool)
      → find (λ n. bytes_eq n.name g) (map (node_of header h) ps) ≡ option_map (node_of header h) (find (λ q. bytes_eq q.name g) ps)
      → (if b then Some (node_of header h p) else find (λ n. bytes_eq n.name g) (map (node_of header h) ps))
      ≡ option_map (node_of header h) (if b then Some p else find (λ q. bytes_eq q.name g) ps)
  by-name true ih = refl
  by-name false ih = ih

-- what is found has the name
pub found-name : (g : List ℕ) (p : Peer) (ps : List Peer) → find (λ q. bytes_eq q.name g) ps ≡ Some p → p.name ≡ g
found-name g p [] e = absurd (cc)
found-name g p (q ∷ ps) e = by-name (bytes_eq q.name g) refl e (found-name g p ps) where
  by-name : (b : Bool) → bytes_eq q.name g ≡ b → (if b then Some q else find (λ r. bytes_eq r.name g) ps) ≡ Some p
      → (find (λ r. bytes_eq r.name g) ps ≡ Some p → p.name ≡ g) → p.name ≡ g
  by-name true s e ih = ap (λ (r : Peer). r.name) (sym (some-is q p e)) ∙ same-is q.name g s
  by-name false s e ih = ih e

-- one gateway changes, and is put in its place
pub placed-is : (header : Header) (h k : List Act) (p : Peer) (ps : List Peer) → AreApart ps
    → find (λ q. bytes_eq q.name p.name) ps ≡ Some p
    → ((q : Peer) → bytes_eq p.name q.name ≡ false → node_of header k q ≡ node_of header h q)
    → placed (node_of header k p) (map (node_of header h) ps) ≡ map (node_of header k) ps
placed-is header h k p [] apart e stays = absurd (cc)
placed-is header h k p (q ∷ ps) apart e stays =
    by-name (bytes_eq q.name p.name) refl e (λ f. placed-is header h k p ps apart.1 f stays) where
      rest : (rs : List Peer) → AreOthers p.name rs → map (node_of header h) rs ≡ map (node_of header k) rs
      rest [] o = refl
      rest (r ∷ rs) o =
          ap (λ z. z ∷ map (node_of header h) rs) (sym (stays r (same-sym p.name r.name ∙ o.0)))
          ∙ ap (λ z. node_of header k r ∷ z) (rest rs o.1)

      by-name : (b : Bool) → bytes_eq q.name p.name ≡ b → (if b then Some q else find (λ r. bytes_eq r.name p.name) ps) ≡ Some p
          → (find (λ r. bytes_eq r.name p.name) ps ≡ Some p → placed (node_of header k p) (map (node_of header h) ps) ≡ map
          (node_of header k) ps)
          → (if b then node_of header k p ∷ map (node_of header h) ps else node_of header h q ∷ placed (node_of header k p)
          (map (node_of header h) ps))
          ≡ node_of header k q ∷ map (node_of header k) ps
      by-name true s e ih =
          let same : q ≡ p = some-is q p e in
          ap (λ z. node_of header k z ∷ map (node_of header h) ps) (sym same)
          ∙ ap (λ z. node_of header k q ∷ z) (rest ps (subst (λ (z : Peer). AreOthers z.name ps) same apart.0))
      by-name false s e ih =
          ap (λ z. z ∷ placed (node_of header k p) (map (node_of header h) ps)) (sym (stays q (same-sym p.name q.name ∙ s)))
          ∙ ap (λ z. node_of header k q ∷ z) (ih e)

-- ---- an act of another gateway, or of none

-- the act is of this gateway, or of all
abbrev pub is_of : List ℕ → Act → Bool
is_of g (acts.Took k) = false
is_of g (acts.Now t) = true
is_of g (acts.Boot f) = bytes_eq f g
is_of g (acts.Policy f list) = bytes_eq f g
is_of g (acts.Put f e) = bytes_eq f g
is_of g (acts.Gone f x w) = bytes_eq f g
is_of g (acts.Let f o) = bytes_eq f g
is_of g (acts.Sent f x n o) = bytes_eq f g
is_of g (acts.Clear f o) = bytes_eq f g
is_of g (acts.Drop f w) = bytes_eq f g
is_of g (acts.Arrived f o) = bytes_eq f g
is_of g (acts.Gave f x n o) = bytes_eq f g
is_of g (acts.Pass f o) = bytes_eq f g
is_of g (acts.Opened f s) = bytes_eq f g
is_of g (acts.Cut f s) = bytes_eq f g
is_of g (acts.Order f s k o) = bytes_eq f g
is_of g (acts.Handled f s k a) = bytes_eq f g
is_of g (acts.Answered f s k a) = bytes_eq f g
is_of g (acts.Notice f s n) = bytes_eq f g
is_of g (acts.Heard f s n) = bytes_eq f g
is_of g (acts.Refused w) = false
is_of g (acts.Wire f l o) = false

-- what is kept changes by an act that is at the gateway
at-of : (g : List ℕ) (a : Act) → is_of g a ≡ false → states.is_at g a ≡ false
at-of g (acts.Now t) e = e
at-of g (acts.Boot f) e = e
at-of g (acts.Policy f list) e = e
at-of g (acts.Put f x) e = e
at-of g (acts.Gone f x w) e = e
at-of g (acts.Sent f x n o) e = e
at-of g (acts.Drop f w) e = e
at-of g (acts.Arrived f o) e = e
at-of g (acts.Gave f x n o) e = e
at-of g (acts.Opened f s) e = e
at-of g (acts.Handled f s k a) e = e
at-of g (acts.Notice f s n) e = e
at-of g _ e = refl

new-away : (g : List ℕ) (h : List Act) (a : Act) → states.is_at g a ≡ false → IsNewHalf g h a
new-away g h (acts.Put f x) away = λ at. absurd (true≢false (sym at ∙ away))
new-away g h a away = tt

pub kept-away : (g : List ℕ) (a : Act) (h : List Act) → states.is_at g a ≡ false → kept_of (state_of g (a ∷ h)) ≡ kept_of (state_of g h)
kept-away g a h away = ap kept_of (keeps g h a (new-away g h a away) ∙ sym (did-away g (state_of g h) a away))

-- a gateway after a past, but for what is kept and what is under way
abbrev pub node_with : Kept → UnderWay → Header → List Act → Peer → Node
node_with kept pipe header h p = record {
  name = p.name;
  config = record { address = p.address; seq_last = header.seq_last };
  kept = kept;
  pipe = pipe;
  orders = orders p.name (openings p.name h) h;
  handled = requests p.name h;
  answered = answered p.name (openings p.name h) h;
}

-- The counts of a gateway: sessions, the one that is open and the one taken, then what is under way of them, then how many orders were
-- given, requests handled and answers heard.
abbrev counted : Kept → Header → Peer → ℕ → Bool → ℕ → List (List ℕ) → List (List ℕ) → List (List ℕ) → ℕ → ℕ → ℕ → Node
counted kept header p o b t down up note given handled heard = record {
  name = p.name;
  config = record { address = p.address; seq_last = header.seq_last };
  kept = kept;
  pipe = record {
    openings = o;
    is_open = b;
    is_taken = not (t == 0);
    down = if t == 0 then [] else down;
    up = if b then up else [];
    note = if b then note else [];
  };
  orders = given;
  handled = handled;
  answered = heard;
}

-- what is under way of a session
abbrev going_down : Peer → List Act → ℕ → List (List ℕ)
going_down p h t = drop (sessions.handled p.name t h) (pipes.requests (request_at p.address) p.name t h)

abbrev going_up : Peer → List Act → ℕ → List (List ℕ)
going_up p h o = drop (answered p.name o h) (pipes.responses (response_at p.name) p.name o h)

abbrev noted : Peer → List Act → ℕ → List (List ℕ)
noted p h o = drop (sessions.notices_heard p.name o h) (pipes.lines line_at p.name o h)

rest-away : (kept : Kept) (header : Header) (a : Act) (h : List Act) (p : Peer) → is_of p.name a ≡ false
    → node_with kept (pipe_at p.name p.address (a ∷ h)) header (a ∷ h) p ≡ node_with kept (pipe_at p.name p.address h) header h p
rest-away kept header (acts.Boot f) h p e =
    let g : List ℕ = p.name in
    let o : ℕ = openings g h in
    ap (λ (here : Bool). counted kept header p o (sessions.is_open g h) (if here then 0 else sessions.session_taken g h)
    (going_down p h (if here then 0 else sessions.session_taken g h)) (going_up p h o) (noted p h o)
    (orders g o h) (if here then 0 else requests g h) (answered g o h)) e
rest-away kept header (acts.Opened f s) h p e =
    let g : List ℕ = p.name in
    ap (λ (here : Bool). counted kept header p (if here then openings g h + 1 else openings g h) (here || sessions.is_open g h)
    (if here then s else sessions.session_taken g h)
    (going_down p h (if here then s else sessions.session_taken g h)) (going_up p h (if here then openings g h + 1 else openings g h))
    (noted p h (if here then openings g h + 1 else openings g h))
    (orders g (if here then openings g h + 1 else openings g h) h) (if here then 0 else requests g h)
    (answered g (if here then openings g h + 1 else openings g h) h)) e
rest-away kept header (acts.Cut f s) h p e =
    let g : List ℕ = p.name in
    let o : ℕ = openings g h in
    ap (λ (here : Bool). counted kept header p o (not here && sessions.is_open g h) (sessions.session_taken g h)
    (going_down p h (sessions.session_taken g h)) (going_up p h o) (noted p h o) (orders g o h) (requests g h) (answered g o h)) e
rest-away kept header (acts.Order f s k q) h p e =
    let g : List ℕ = p.name in
    let o : ℕ = openings g h in
    let t : ℕ = sessions.session_taken g h in
    let rs : List (List ℕ) = pipes.requests (request_at p.address) g t h in
    ap (λ (here : Bool). counted kept header p o (sessions.is_open g h) t
    (drop (sessions.handled g t h) (if here && (s == t) then rs ++ request_at p.address h q ∷ [] else rs)) (going_up p h o) (noted p h o)
    (if here && (s == o) then orders g o h + 1 else orders g o h) (requests g h) (answered g o h)) e
rest-away kept header (acts.Handled f s k a) h p e =
    let g : List ℕ = p.name in
    let o : ℕ = openings g h in
    let t : ℕ = sessions.session_taken g h in
    let us : List (List ℕ) = pipes.responses (response_at g) g o h in
    ap (λ (here : Bool). counted kept header p o (sessions.is_open g h) t
    (drop (if here && (s == t) then sessions.handled g t h + 1 else sessions.handled g t h) (pipes.requests (request_at p.address) g t h))
    (drop (answered g o h) (if here && (s == o) then us ++ response_at g h a ∷ [] else us)) (noted p h o)
    (orders g o h) (if here then requests g h + 1 else requests g h) (answered g o h)) e
rest-away kept header (acts.Answered f s k a) h p e =
    let g : List ℕ = p.name in
    let o : ℕ = openings g h in
    ap (λ (here : Bool). counted kept header p o (sessions.is_open g h) (sessions.session_taken g h)
    (going_down p h (sessions.session_taken g h)) (drop (if here && (s == o) then answered g o h + 1 else answered g o h)
    (pipes.responses (response_at g) g o h)) (noted p h o)
    (orders g o h) (requests g h) (if here && (s == o) then answered g o h + 1 else answered g o h)) e
rest-away kept header (acts.Notice f s n) h p e =
    let g : List ℕ = p.name in
    let o : ℕ = openings g h in
    let ls : List (List ℕ) = pipes.lines line_at g o h in
    ap (λ (here : Bool). counted kept header p o (sessions.is_open g h) (sessions.session_taken g h)
    (going_down p h (sessions.session_taken g h)) (going_up p h o)
    (drop (sessions.notices_heard g o h) (if here && (s == o) then ls ++ line_at h n ∷ [] else ls))
    (orders g o h) (requests g h) (answered g o h)) e
rest-away kept header (acts.Heard f s n) h p e =
    let g : List ℕ = p.name in
    let o : ℕ = openings g h in
    ap (λ (here : Bool). counted kept header p o (sessions.is_open g h) (sessions.session_taken g h)
    (going_down p h (sessions.session_taken g h)) (going_up p h o)
    (drop (if here && (s == o) then sessions.notices_heard g o h + 1 else sessions.notices_heard g o h) (pipes.lines line_at g o h))
    (orders g o h) (requests g h) (answered g o h)) e
rest-away kept header a h p e = refl

-- it leaves the gateway as it was
pub node-away : (header : Header) (a : Act) (h : List Act) (p : Peer) → is_of p.name a ≡ false
    → node_of header (a ∷ h) p ≡ node_of header h p
node-away header a h p e =
    ap (λ k. node_with k (pipe_at p.name p.address (a ∷ h)) header (a ∷ h) p) (kept-away p.name a h (at-of p.name a e))
    ∙ rest-away (kept_of (state_of p.name h)) header a h p e

pub nodes-away : (header : Header) (xs h : List Act) (p : Peer) → list_any (is_of p.name) xs ≡ false
    → node_of header (after h xs) p ≡ node_of header h p
nodes-away header [] h p e = refl
nodes-away header (a ∷ xs) h p e =
    let parts = or_parts (is_of p.name a) (list_any (is_of p.name) xs) e in
    nodes-away header xs (a ∷ h) p parts.1 ∙ node-away header a h p parts.0

-- the same of all gateways
pub all-away : (header : Header) (a : Act) (h : List Act) (ps : List Peer) → ((p : Peer) → is_of p.name a ≡ false)
    → map (node_of header (a ∷ h)) ps ≡ map (node_of header h) ps
all-away header a h [] e = refl
all-away header a h (p ∷ ps) e =
    ap (λ z. z ∷ map (node_of header (a ∷ h)) ps) (node-away header a h p (e p))
    ∙ ap (λ z. node_of header h p ∷ z) (all-away header a h ps e)

-- ---- the world that stands for a past

-- with this controller
abbrev pub standing : Header → List Act → Core → World
standing header h core = record {
  nodes = map (node_of header h) header.gateways;
  controller = core;
  sent = sent h;
  clock = clock h;
  taken = events_taken h;
}

pub standing-is : (header : Header) (p : Past) (w : World) → StandsFor header p w → w ≡ standing header p.world w.controller
standing-is header p w s =
    (λ i. record { nodes = s.nodes i; controller = w.controller; sent = s.sent i; clock = s.clock i; taken = s.taken i })
