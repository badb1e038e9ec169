-- What follows a gateway's answer in its block: halves that are gone by a hard limit, and notices.
use Rattle.std.proofs.Common.{◌≡◌, ℕ, Bool, true, false, List, [], ◌∷◌, ◌++◌, refl, if◌then◌else◌}
use Rattle.std.proofs.lemmas.Bool.{and_from}
use Rattle.std.specs.List.{list_all}
use Rattle.ikeless_tree.specs.declared.sad.SadEntry.{SadEntry}
use Rattle.ikeless_tree.specs.declared.command.Peer.{Peer}
use Rattle.ikeless_tree.specs.declared.order.Notice.{Notice}
use Rattle.ikeless_tree.specs.declared.ends.GoneWhy.{GoneWhy}
use Rattle.ikeless_tree.specs.declared.ends.GoneWhy.TheVariants as gone
use Rattle.life_count.specs.Lifetime.{is_reached, expiry}
use Rattle.hist_acts.specs.declared.act.Act.{Act}
use Rattle.hist_acts.specs.declared.act.Act.TheVariants as acts
use Rattle.hist_acts.specs.Past.{after}
use Rattle.hist_acts.specs.Sessions as sessions
use Rattle.hist_halves.specs.Halves.{is_hard, live}
use Rattle.hist_gateway.specs.Uses.{counts}
use Rattle.hist_gateway.specs.Look.{event_of, given_by, goings, expiries, look}
use Rattle.hist_gateway.specs.Let.{unless}
use Rattle.hist_safety.specs.Law.{AllMayHappen, MayHappen, is_ready}
use Rattle.hist_safety.proofs.Basics.{no, both-left, both-right}
use Rattle.hist_world.specs.Block.{looks}

abbrev pub is_follower : Act → Bool
is_follower (acts.Gone f x w) = is_hard w
is_follower (acts.Notice f s n) = true
is_follower _ = false

abbrev pub are_followers : List Act → Bool
are_followers xs = list_all is_follower xs

hard-may : (gs : List Peer) (f x : List ℕ) (w : GoneWhy) (h : List Act) → is_ready h ≡ true → is_hard w ≡ true
    → MayHappen gs (acts.Gone f x w) h × (is_ready (acts.Gone f x w ∷ h) ≡ true)
hard-may gs f x gone.Removed h r p = absurd (no p)
hard-may gs f x gone.Hard h r p = (r, refl)

-- they may happen, and leave no question
pub follow : (gs : List Peer) (h xs : List Act) → is_ready h ≡ true → are_followers xs ≡ true → AllMayHappen gs h xs
    × (is_ready (after h xs) ≡ true)
follow gs h [] r p = (tt, r)
follow gs h (acts.Gone f x w ∷ xs) r p =
    let a = hard-may gs f x w h r (both-left (is_hard w) (are_followers xs) p) in
    let t = follow gs (acts.Gone f x w ∷ h) xs a.1 (both-right (is_hard w) (are_followers xs) p) in
    ((a.0, t.0), t.1)
follow gs h (acts.Notice f s n ∷ xs) r p = let t = follow gs (acts.Notice f s n ∷ h) xs refl p in ((r, t.0), t.1)
follow gs h (a ∷ xs) r p = absurd (no p)

pub joined : (xs ys : List Act) → are_followers xs ≡ true → are_followers ys ≡ true → are_followers (xs ++ ys) ≡ true
joined [] ys p q = q
joined (a ∷ xs) ys p q = and_from (is_follower a) (are_followers (xs ++ ys)) (both-left (is_follower a) (are_followers xs) p)
    (joined xs ys (both-right (is_follower a) (are_followers xs) p) q)

pub either : (b : Bool) (xs ys : List Act) → are_followers xs ≡ true → are_followers ys ≡ true → are_followers (if b then xs else ys) ≡ true
either true xs ys p q = p
either false xs ys p q = q

pub unless-follows : (b : Bool) (xs : List Act) → are_followers xs ≡ true → are_followers (unless b xs) ≡ true
unless-follows true xs p = refl
unless-follows false xs p = p

given-follows : (g : List ℕ) (s : ℕ) (ns : List Notice) → are_followers (given_by g s ns) ≡ true
given-follows g s [] = refl
given-follows g s (n ∷ ns) = given-follows g s ns

goings-follow : (g : List ℕ) (h : List Act) (es : List SadEntry) → are_followers (goings g h es) ≡ true
goings-follow g h [] = refl
goings-follow g h (e ∷ es) =
    either (is_reached e.hard (counts g e.name h)) (acts.Gone g e.name gone.Hard ∷ goings g h es) (goings g h es) (goings-follow g h es)
    (goings-follow g h es)

expiries-follow : (g : List ℕ) (h : List Act) (es : List SadEntry) → are_followers (expiries g h es) ≡ true
expiries-follow g h [] = refl
expiries-follow g h (e ∷ es) =
    let ns : List Notice = expiry e.name (counts g e.name h) (event_of g h e) in
    joined (given_by g (sessions.session_taken g h) ns) (expiries g h es) (given-follows g (sessions.session_taken g h) ns)
    (expiries-follow g h es)

pub look-follows : (g : List ℕ) (h : List Act) (es : List SadEntry) → are_followers (look g h es) ≡ true
look-follows g h es = joined (goings g h es) (expiries g h es) (goings-follow g h es) (expiries-follow g h es)

pub looks-follow : (h : List Act) (ps : List Peer) → are_followers (looks h ps) ≡ true
looks-follow h [] = refl
looks-follow h (p ∷ ps) =
    let xs : List Act = look p.name h (live p.name h) in
    joined xs (looks (after h xs) ps) (look-follows p.name h (live p.name h)) (looks-follow (after h xs) ps)
