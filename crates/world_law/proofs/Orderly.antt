-- What a gateway keeps of a lawful past of the whole is in order, and its acts are named as the past says.
use Rattle.std.proofs.Common.{◌≡◌, ℕ, zero, suc, ◌≤◌, ◌==◌, Bool, true, false, not, List, [], ◌∷◌, All, length, map, take, ◌⊎◌, inl, inr, Some, refl, sym, ◌∙◌, ap, arith, if◌then◌else◌}
use Rattle.std.proofs.lemmas.List.Elements.{All-cons, All-map, All-nil}
use Rattle.ikl_base.specs.Address.{AreOneFamily}
use Rattle.ikeless_tree.specs.declared.command.Peer.{Peer}
use Rattle.ikeless_tree.specs.declared.sad.SadEntry.{SadEntry}
use Rattle.replay_win.specs.Marks.{no_marks}
use Rattle.hist_acts.specs.declared.act.Act.{Act}
use Rattle.hist_acts.specs.declared.act.Act.TheVariants as acts
use Rattle.hist_acts.specs.declared.event.Header.{Header}
use Rattle.hist_acts.specs.Sessions.{openings, session_taken}
use Rattle.hist_halves.specs.Halves.{is_half, live, numbers_taken, put_of}
use Rattle.hist_gateway.specs.Handle.{requests}
use Rattle.hist_gateway.specs.Stands.{bad_spis}
use Rattle.hist_gateway.specs.State.{half_of, state_of}
use Rattle.hist_controller.specs.Acts.{ControllerAct}
use Rattle.hist_controller.specs.Halves.{PlainAnswers}
use Rattle.hist_controller.specs.Told.{Named}
use Rattle.hist_controller.proofs.KeptState.{length-map}
use Rattle.hist_safety.specs.Kept.{Kept}
use Rattle.hist_safety.specs.Law.{IsLawful}
use Rattle.hist_safety.proofs.Basics.{eq-nat, half-true, if-new, no, self}
use Rattle.hist_safety.proofs.Invariant.{kept}
use Rattle.hist_safety.proofs.Orders.{put-order}
use Rattle.hist_safety.proofs.Pairs.{ends}
use Rattle.hist_world.specs.Stands.{Meet}
use Rattle.hist_world.proofs.Fresh.{live-apart}
use Rattle.hist_world.proofs.Room.{few-live}
use Rattle.gw_law.specs.Told.{Naming, naming_of}
use Rattle.gw_law.specs.Orderly.{HasOwnWindow, HasTunnel, InstallsTunnel, IsOrderly}
use Rattle.gw_law.proofs.Pasts.{apart-is, live-all, size-is}
use Rattle.world_steps.specs.Nodes.{naming}
use Rattle.world_law.specs.Stands.{node_of}

-- ---- what is kept

-- what was installed has its tunnel
put-family : (gs : List Peer) (f : List ℕ) (e : SadEntry) (h : List Act) → IsLawful gs (acts.Put f e ∷ h) → AreOneFamily e.local e.remote
put-family gs f e h l =
    let here : put_of f e.name (acts.Put f e ∷ h) ≡ Some e =
    if-new (is_half f e.name f e.name) (Some e) (put_of f e.name h) (half-true f e.name f e.name refl refl) in
    let o = put-order gs f e.name e (acts.Put f e ∷ h) l here in
    ends gs e.name e (acts.Put f e ∷ h) l o.3

pub installs : (gs : List Peer) (h : List Act) → IsLawful gs h → All InstallsTunnel h
installs gs [] l = All-nil InstallsTunnel
installs gs (acts.Put f e ∷ h) l = All-cons InstallsTunnel (acts.Put f e) h (put-family gs f e h l) (installs gs h l.1)
installs gs (a ∷ h) l = All-cons InstallsTunnel a h tt (installs gs h l.1)

abbrev HasEnds : SadEntry → Type 0
HasEnds e = AreOneFamily e.local e.remote

windows : (g : List ℕ) (h : List Act) (es : List SadEntry) → All HasOwnWindow (map (half_of g h) es)
windows g h [] = All-nil HasOwnWindow
windows g h (e ∷ es) =
    All-cons HasOwnWindow (half_of g h e) (map (half_of g h) es) (size-is (no_marks e.window) (numbers_taken g e.name h)) (windows g h es)

take-twice : (n : ℕ) (xs : List ℕ) → take n (take n xs) ≡ take n xs
take-twice zero xs = refl
take-twice (suc n) [] = refl
take-twice (suc n) (x ∷ xs) = ap (λ ys. x ∷ ys) (take-twice n xs)

few : (g : List ℕ) (h : List Act) → length (live g h) ≤ 4096 → length (map (half_of g h) (live g h)) ≤ 4096
few g h l = let same = length-map (half_of g h) (live g h) in omega (arith, same, l)

pub orderly : (gs : List Peer) (h : List Act) (c : List ControllerAct) (g : List ℕ) → IsLawful gs h → Meet gs h c → Named gs
    → PlainAnswers c → IsOrderly (state_of g h)
orderly gs h c g l m names plain = record {
  apart = apart-is g h (live g h) ∙ live-apart gs g h l;
  few = few g h (few-live gs h c g l m names plain);
  tunnels = All-map HasTunnel (half_of g h) (live g h) (live-all HasEnds InstallsTunnel (λ f e p. p) g h (installs gs h l));
  windows = windows g h (live g h);
  few_spis = take-twice 64 (bad_spis g h);
}

-- ---- what names the acts

-- the session taken is the last one that was opened, or none
session-case : (s o : ℕ) (b : Bool) → (s == 0) ≡ b → (s ≡ 0) ⊎ (s ≡ o) → (if not b then o else 0) ≡ s
session-case s o true e q = sym (eq-nat s 0 e)
session-case s o false e (inl q) = absurd (no (sym e ∙ ap (λ (z : ℕ). z == 0) q ∙ self 0))
session-case s o false e (inr q) = sym q

abbrev with_session : List ℕ → List Act → ℕ → Naming
with_session g h s = record { name = g; openings = openings g h; session = s; requests = requests g h }

pub naming-is : (gs : List Peer) (header : Header) (h : List Act) (p : Peer) → IsLawful gs h
    → naming (node_of header h p) ≡ naming_of p.name (state_of p.name h)
naming-is gs header h p l =
    let k : Kept h = kept gs h l in
    ap (with_session p.name h) (session-case (session_taken p.name h) (openings p.name h) (session_taken p.name h == 0) refl
    (k.taken_last p.name))
