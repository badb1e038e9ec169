-- The five parts together.
use Rattle.std.proofs.Common.{◌≡◌, ℕ, true, false, List, [], ◌∷◌, ◌⊎◌, sym, ◌∙◌, ap, subst}
use Rattle.ikeless_tree.specs.declared.sad.SadEntry.{SadEntry}
use Rattle.ikeless_tree.specs.declared.command.Peer.{Peer}
use Rattle.ikeless_tree.specs.Half.{is_inbound, other_half, in_half, out_half}
use Rattle.hist_acts.specs.declared.act.Act.{Act}
use Rattle.hist_acts.specs.declared.act.Act.TheVariants as acts
use Rattle.hist_halves.specs.Sealed.{esp_of, number_of}
use Rattle.hist_halves.specs.Halves.{is_lapsed, is_live, is_sealed, numbers_taken, was_put}
use Rattle.hist_safety.specs.Orders.{site}
use Rattle.hist_safety.specs.Carried.{IsGenuine, Sends}
use Rattle.hist_safety.specs.Law.{IsLawful, IsWhole, MayHappen, SendMayHappen}
use Rattle.hist_safety.specs.Safe.{IsArrivalSafe, IsClearSafe, IsGaveSafe, IsKeySafe, IsLastSafe, IsSentSafe, MustGive, Safe}
use Rattle.hist_safety.proofs.Orders.{was}
use Rattle.hist_safety.proofs.Pairs.{outbound}
use Rattle.hist_safety.proofs.Halves.{live-was, sent-safe}
use Rattle.hist_safety.proofs.Keys.{key-safe}
use Rattle.hist_safety.proofs.Window.{answer, delivered, gave-safe, same-found}
use Rattle.hist_safety.proofs.Carried.{sent-sealed}

abbrev InboundStands : List ℕ → List Act → Type 0
InboundStands y h = (was_put (site y h) y h ≡ true) × ((is_live (site y h) y h ≡ true) ⊎ (is_lapsed (site y h) y h ≡ true))

sent-by : (gs : List Peer) (g x : List ℕ) (h : List Act) → IsLawful gs h → is_live g x h ≡ true → is_inbound x ≡ false
    → InboundStands (other_half x) h
sent-by gs g x h l v b =
    let t = outbound gs x h l (was gs g x h l (live-was g x h v)).0 b in
    let one = sent-safe gs g t.0 h l (subst (λ z. is_live g z h ≡ true) t.1 v) in
    subst (λ z. InboundStands z h) (sym (ap other_half t.1)) one

sent-stands : (gs : List Peer) (g x : List ℕ) (n : ℕ) (o : List ℕ) (h : List Act) → IsLawful gs h → SendMayHappen g x n o h
    → InboundStands (other_half x) h
sent-stands gs g x n o (acts.Let f p ∷ h) l m = let s : Sends g x n p o h = m.1 in sent-by gs g x h l.1 s.live s.outbound
sent-stands gs g x n o [] l m = absurd m
sent-stands gs g x n o (a ∷ h) l m = absurd m

arrival-safe : (gs : List Peer) (a : Act) (h : List Act) → IsLawful gs h → MayHappen gs a h → IsArrivalSafe gs a h
arrival-safe gs a (acts.Arrived g o ∷ h) l m =
    λ t p half must. answer gs a g o (in_half t) (number_of half (numbers_taken g (in_half t) h) (esp_of o)) p h m
    (delivered gs g o t p half h l.1 must)
arrival-safe gs a [] l m = tt
arrival-safe gs a (b ∷ h) l m = tt

act-safe : (gs : List Peer) (a : Act) (h : List Act) → IsLawful gs h → MayHappen gs a h → IsClearSafe a h × IsKeySafe a h × IsGaveSafe a h
    × IsSentSafe a h
act-safe gs (acts.Clear g o) h l m = (m, tt, tt, tt)
act-safe gs (acts.Sent g x n o) h l m = (tt, key-safe gs g x n o h l m, tt, sent-stands gs g x n o h l m)
act-safe gs (acts.Gave g x n p) h l m = (tt, tt, gave-safe gs g x n p h l m, tt)
act-safe gs a h l m = (tt, tt, tt, tt)

-- every lawful past is safe
pub safe : (gs : List Peer) (h : List Act) → IsLawful gs h → Safe gs h
safe gs [] l = tt
safe gs (a ∷ h) l = let s = act-safe gs a h l.1 l.0 in (s.0, s.1, s.2, s.3, arrival-safe gs a h l.1 l.0, safe gs h l.1)

-- what must be given is genuine, so a whole history has its answer
pub last-genuine : (gs : List Peer) (g o t p : List ℕ) (half : SadEntry) (h : List Act) → IsLawful gs h → MustGive gs g o t p half h
    → IsGenuine gs g o h
last-genuine gs g o t p half h l m = λ e text comes opens.
    let d = delivered gs g o t p half h l m in
    let s = same-found gs g o d.half e h d.comes comes in
    let n : out_half t ≡ other_half e.name = sym (ap other_half d.name) ∙ ap (λ (z : SadEntry). other_half z.name) s in
    subst (λ z. is_sealed z (esp_of o) h ≡ true) n (sent-sealed m.sender (out_half t) m.number (esp_of o) p h m.unchanged)

pub last-safe : (gs : List Peer) (h : List Act) → IsLawful gs h → IsWhole gs h → IsLastSafe gs h
last-safe gs (acts.Arrived g o ∷ h) l w = λ t p half m. w (last-genuine gs g o t p half h l.1 m)
last-safe gs [] l w = tt
last-safe gs (a ∷ h) l w = tt
