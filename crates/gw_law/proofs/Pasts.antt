-- What is kept of every lawful past is in order.
use Rattle.std.proofs.Common.{◌≡◌, ◌≤◌, ℕ, zero, suc, Bool, true, false, not, ◌&&◌, ◌||◌, List, [], ◌∷◌, ◌++◌, All, fold, length, map, take, refl, ap, ◌∙◌, arith, if◌then◌else◌}
use Rattle.std.proofs.lemmas.Bool.{leb-true}
use Rattle.std.proofs.lemmas.List.Elements.{All-append, All-cons, All-head, All-map, All-nil, All-tail}
use Rattle.std.specs.List.{list_any}
use Rattle.std.specs.Str.{bytes_eq}
use Rattle.ikl_base.specs.Address.{AreOneFamily}
use Rattle.ikeless_tree.specs.declared.sad.SadEntry.{SadEntry}
use Rattle.replay_win.specs.Marks.{Marks, marked, no_marks}
use Rattle.sad_store.specs.Halves.{names_of}
use Rattle.sad_store.specs.Kept.{are_names_apart}
use Rattle.hist_acts.specs.declared.act.Act.{Act}
use Rattle.hist_acts.specs.declared.act.Act.TheVariants as acts
use Rattle.hist_acts.specs.Past.{after}
use Rattle.hist_halves.specs.Halves.{live, numbers_taken, without}
use Rattle.hist_gateway.specs.Block.{Gateway}
use Rattle.hist_gateway.specs.May.{AreHalves, IsGatewayPast, are_apart, has_half}
use Rattle.hist_gateway.specs.Stands.{bad_spis}
use Rattle.hist_gateway.specs.State.{half_of, state_of}
use Rattle.hist_gateway.proofs.LiveHalves.{halves-are}
use Rattle.hist_gateway.proofs.MayAct.{lawful-installed}
use Rattle.gw_law.specs.Orderly.{HasOwnWindow, HasTunnel, InstallsTunnel, IsOrderly}

-- ---- names

names-any : (g : List ℕ) (h : List Act) (name : List ℕ) (es : List SadEntry)
    → list_any (λ y. bytes_eq y name) (names_of (map (half_of g h) es)) ≡ has_half name es
names-any g h name [] = refl
names-any g h name (e ∷ es) = ap (λ b. bytes_eq e.name name || b) (names-any g h name es)

pub apart-is : (g : List ℕ) (h : List Act) (es : List SadEntry) → are_names_apart (names_of (map (half_of g h) es)) ≡ are_apart es
apart-is g h [] = refl
apart-is g h (e ∷ es) =
    ap (λ b. not b && are_names_apart (names_of (map (half_of g h) es))) (names-any g h e.name es)
    ∙ ap (λ b. not (has_half e.name es) && b) (apart-is g h es)

same-length : (g : List ℕ) (h : List Act) (es : List SadEntry) → length (map (half_of g h) es) ≡ length es
same-length g h [] = refl
same-length g h (e ∷ es) = let ih = same-length g h es in omega (arith, ih)

-- ---- SPIs

take-twice : (n : ℕ) (xs : List ℕ) → take n (take n xs) ≡ take n xs
take-twice zero xs = refl
take-twice (suc n) [] = refl
take-twice (suc n) (x ∷ xs) = ap (λ ys. x ∷ ys) (take-twice n xs)

-- ---- windows

pub size-is : (w : Marks) (ns : List ℕ) → (fold marked w ns).size ≡ w.size
size-is w [] = refl
size-is w (n ∷ ns) = size-is (marked w n) ns

windows-are : (g : List ℕ) (h : List Act) (es : List SadEntry) → All HasOwnWindow (map (half_of g h) es)
windows-are g h [] = All-nil HasOwnWindow
windows-are g h (e ∷ es) =
    All-cons HasOwnWindow (half_of g h e) (map (half_of g h) es) (size-is (no_marks e.window) (numbers_taken g e.name h))
    (windows-are g h es)

-- ---- what was installed

all-if : (P : SadEntry → Type 0) (b : Bool) (xs ys : List SadEntry) → All P xs → All P ys → All P (if b then xs else ys)
all-if P true xs ys p q = p
all-if P false xs ys p q = q

all-without : (P : SadEntry → Type 0) (name : List ℕ) (es : List SadEntry) → All P es → All P (without name es)
all-without P name [] p = p
all-without P name (e ∷ es) p =
    let rest = all-without P name es (All-tail P e es p) in
    all-if P (bytes_eq e.name name) (without name es) (e ∷ without name es) rest (All-cons P e (without name es) (All-head P e es p) rest)

-- what holds of each half that was installed holds of each live one
pub live-all : (P : SadEntry → Type 0) (Q : Act → Type 0) → ((f : List ℕ) (e : SadEntry) → Q (acts.Put f e) → P e)
    → (g : List ℕ) (h : List Act) → All Q h → All P (live g h)
live-all P Q put g [] l = All-nil P
live-all P Q put g (acts.Put f e ∷ h) l =
    let rest = live-all P Q put g h (All-tail Q (acts.Put f e) h l) in
    all-if P (bytes_eq f g) (live g h ++ e ∷ []) (live g h)
    (All-append P (live g h) (e ∷ []) rest (All-cons P e [] (put f e (All-head Q (acts.Put f e) h l)) (All-nil P))) rest
live-all P Q put g (acts.Gone f x w ∷ h) l =
    let rest = live-all P Q put g h (All-tail Q (acts.Gone f x w) h l) in
    all-if P (bytes_eq f g) (without x (live g h)) (live g h) (all-without P x (live g h) rest) rest
live-all P Q put g (acts.Boot f ∷ h) l =
    all-if P (bytes_eq f g) [] (live g h) (All-nil P) (live-all P Q put g h (All-tail Q (acts.Boot f) h l))
live-all P Q put g (a ∷ h) l = live-all P Q put g h (All-tail Q a h l)

pub all-after : (Q : Act → Type 0) (h xs : List Act) → All Q h → All Q xs → All Q (after h xs)
all-after Q h [] p q = p
all-after Q h (x ∷ xs) p q = all-after Q (x ∷ h) xs (All-cons Q x h (All-head Q x xs q) p) (All-tail Q x xs q)

-- ---- the whole

abbrev HasTunnelEnds : SadEntry → Type 0
HasTunnelEnds e = AreOneFamily e.local e.remote

pub few-halves : (g : List ℕ) (h : List Act) → AreHalves g h → length (map (half_of g h) (live g h)) ≤ 4096
few-halves g h are =
    let few = leb-true (length (live g h)) 4096 are.few in
    let same = same-length g h (live g h) in
    omega (arith, few, same)

pub orderly-by : (g : List ℕ) (h : List Act) → AreHalves g h → All InstallsTunnel h → IsOrderly (state_of g h)
orderly-by g h are l =
    record {
      apart = apart-is g h (live g h) ∙ are.apart;
      few = few-halves g h are;
      tunnels = All-map HasTunnel (half_of g h) (live g h) (live-all HasTunnelEnds InstallsTunnel (λ f e p. p) g h l);
      windows = windows-are g h (live g h);
      few_spis = take-twice 64 (bad_spis g h);
    }

pub orderly-past : (c : Gateway) (g : List ℕ) (h : List Act) → IsGatewayPast c h → All InstallsTunnel h → IsOrderly (state_of g h)
orderly-past c g h l t = orderly-by g h (halves-are g h (lawful-installed c g h l)) t
