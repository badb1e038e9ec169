-- The run of a gateway over what happened.
use Rattle.std.proofs.Common.{◌≡◌, ℕ, List, [], ◌∷◌, ◌++◌, true, false, Option, Some, None, Result, Ok, Err, refl, sym, ap, ◌∙◌, append-nil, append_assoc}
use Rattle.reply_table.specs.declared.ask.Ask.{Ask}
use Rattle.rc_request.specs.declared.error.RcError.{RcError}
use Rattle.rc_request.specs.Requests.{request_of}
use Rattle.hist_acts.specs.declared.act.Act.{Act}
use Rattle.gw_packets.specs.declared.done.Config.{Config}
use Rattle.gw_tables.specs.Kept as tables
use Rattle.gw_tables.specs.Kept.{Kept}
use Rattle.gw_core.specs.Machine.{Event, Handle, stepped}
use Rattle.gw_law.specs.Steps.{Step, behind}
use Rattle.gw_law.specs.Told.{Naming, begun}
use Rattle.gw_history.specs.Told.{AreTunnelEvents, naming_after, run_of, step_told}
use Rattle.live_gateway.specs.Carried.{Devices}
use Rattle.live_gateway.specs.Past.{Accepted, Broken, Came_in, Inside, Item, Message, Outside, Seconds, event_of, events_at, happened, kept_by, kept_of}
use Rattle.live_gateway.specs.Found.{AreFound, IsFound, IsTunnelled}
use Rattle.live_gateway.specs.History.{run_by, told_by}

-- ---- more events

behind-both : (xs ys : List Act) (s : Step) → behind xs (behind ys s) ≡ behind (xs ++ ys) s
behind-both xs ys s = ap (λ (zs : List Act). record s { acts = zs }) (sym (append_assoc xs ys s.acts))

run-more : (c : Config) (es fs : List Event) (n : Naming) (k : Kept)
    → run_of c n k (es ++ fs) ≡ behind (run_of c n k es).acts (run_of c (run_of c n k es).naming (run_of c n k es).kept fs)
run-more c [] fs n k = refl
run-more c (e ∷ es) fs n k =
    let xs : List Act = step_told n e (stepped c e k) in
    let r : Step = run_of c (naming_after n e) (stepped c e k).kept es in
    ap (behind xs) (run-more c es fs (naming_after n e) (stepped c e k).kept) ∙ behind-both xs r.acts (run_of c r.naming r.kept fs)

-- ---- one thing more that came

one-kept : (c : Config) (n : Naming) (k : Kept) (o : Option Event) → (run_of c n k (events_at o)).kept ≡ kept_by c o k
one-kept c n k None = refl
one-kept c n k (Some e) = refl

one-told : (c : Config) (n : Naming) (k : Kept) (o : Option Event) → (run_of c n k (events_at o)).acts ≡ told_by c n k o
one-told c n k None = refl
one-told c n k (Some e) = append-nil (step_told n e (stepped c e k))

pub run-kept : (c : Config) (g : List ℕ) (past : List Item) → (run_by c g past).kept ≡ kept_of c past
run-kept c g [] = refl
run-kept c g (x ∷ past) =
    let r : Step = run_by c g past in
    ap (λ (s : Step). s.kept) (run-more c (happened past) (events_at (event_of x)) (begun g) tables.booted)
    ∙ one-kept c r.naming r.kept (event_of x) ∙ ap (kept_by c (event_of x)) (run-kept c g past)

pub run-acts : (c : Config) (g : List ℕ) (past : List Item) (x : Item)
    → (run_by c g (x ∷ past)).acts ≡ (run_by c g past).acts ++ told_by c (run_by c g past).naming (kept_of c past) (event_of x)
run-acts c g past x =
    let r : Step = run_by c g past in
    ap (λ (s : Step). s.acts) (run-more c (happened past) (events_at (event_of x)) (begun g) tables.booted)
    ∙ ap (λ zs. r.acts ++ zs) (one-told c r.naming r.kept (event_of x) ∙ ap (λ (k : Kept). told_by c r.naming k (event_of x))
    (run-kept c g past))

-- ---- the tunnels that were asked for

tunnels-on : (es fs : List Event) → AreTunnelEvents es → AreTunnelEvents fs → AreTunnelEvents (es ++ fs)
tunnels-on [] fs p q = q
tunnels-on (e ∷ es) fs p q = (p.0, tunnels-on es fs p.1 q)

asked-tunnel : (r : Result Ask RcError)
    → IsTunnelled r → AreTunnelEvents (Handle r ∷ [])
asked-tunnel (Ok ask) p = (p, tt)
asked-tunnel (Err e) p = (tt, tt)

item-tunnels : (c : Config) (start : Devices) (past : List Item) (x : Item) → IsFound c start past x
    → AreTunnelEvents (events_at (event_of x))
item-tunnels c start past (Seconds now) p = (tt, tt)
item-tunnels c start past (Inside None) p = tt
item-tunnels c start past (Inside (Some o)) p = (tt, tt)
item-tunnels c start past (Outside None) p = tt
item-tunnels c start past (Outside (Some o)) p = (tt, tt)
item-tunnels c start past (Accepted true) p = (tt, tt)
item-tunnels c start past (Accepted false) p = tt
item-tunnels c start past (Came_in came) p = tt
item-tunnels c start past (Message m) p = asked-tunnel (request_of m) p
item-tunnels c start past (Broken f) p = (tt, tt)

pub found-tunnels : (c : Config) (start : Devices) (past : List Item) → AreFound c start past → AreTunnelEvents (happened past)
found-tunnels c start [] f = tt
found-tunnels c start (x ∷ past) f =
    tunnels-on (happened past) (events_at (event_of x)) (found-tunnels c start past f.1) (item-tunnels c start past x f.0)
