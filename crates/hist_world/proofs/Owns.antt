-- The acts of gateways leave the controller's part of what happened as it is.
use Rattle.std.proofs.Common.{◌≡◌, ℕ, Bool, true, false, List, [], ◌∷◌, ◌++◌, refl, ◌∙◌, ap}
use Rattle.std.proofs.lemmas.Bool.{and_from}
use Rattle.std.specs.List.{list_all}
use Rattle.ikl_base.specs.declared.address.Addr.{Addr}
use Rattle.ikeless_tree.specs.declared.order.Answer.{Answer}
use Rattle.reply_table.specs.Reply.{Outcome}
use Rattle.reply_table.specs.declared.ask.Change.{Change}
use Rattle.reply_table.specs.declared.ask.Change.TheVariants as changes
use Rattle.hist_acts.specs.declared.act.Act.{Act}
use Rattle.hist_acts.specs.declared.act.Act.TheVariants as acts
use Rattle.hist_acts.specs.Past.{after}
use Rattle.hist_gateway.specs.Arrive.{arrive_acts}
use Rattle.hist_gateway.specs.Handle.{change_acts}
use Rattle.hist_gateway.specs.Let.{let_acts}
use Rattle.hist_safety.proofs.Basics.{no, both-left, both-right}
use Rattle.hist_world.specs.Parts.{controllers_part}
use Rattle.hist_world.proofs.Arrives.{ArriveAnswer, arrive-shape}
use Rattle.hist_world.proofs.Followers.{are_followers, is_follower}
use Rattle.hist_world.proofs.Lets.{LetAnswer, Shaped, let-shape}

-- an act in which the controller takes no part
abbrev pub is_own : Act → Bool
is_own (acts.Opened f s) = false
is_own (acts.Cut f s) = false
is_own (acts.Order f s k o) = false
is_own (acts.Answered f s k a) = false
is_own (acts.Heard f s n) = false
is_own (acts.Refused w) = false
is_own _ = true

abbrev pub are_own : List Act → Bool
are_own xs = list_all is_own xs

one-own : (a : Act) (h : List Act) → is_own a ≡ true → controllers_part (a ∷ h) ≡ controllers_part h
one-own (acts.Opened f s) h e = absurd (no e)
one-own (acts.Cut f s) h e = absurd (no e)
one-own (acts.Order f s k o) h e = absurd (no e)
one-own (acts.Answered f s k a) h e = absurd (no e)
one-own (acts.Heard f s n) h e = absurd (no e)
one-own (acts.Refused w) h e = absurd (no e)
one-own a h e = refl

pub own-part : (h xs : List Act) → are_own xs ≡ true → controllers_part (after h xs) ≡ controllers_part h
own-part h [] e = refl
own-part h (a ∷ xs) e = own-part (a ∷ h) xs (both-right (is_own a) (are_own xs) e) ∙ one-own a h (both-left (is_own a) (are_own xs) e)

follower-own : (a : Act) → is_follower a ≡ true → is_own a ≡ true
follower-own (acts.Gone f x w) e = refl
follower-own (acts.Notice f s n) e = refl
follower-own a e = absurd (no e)

pub followers-own : (xs : List Act) → are_followers xs ≡ true → are_own xs ≡ true
followers-own [] e = refl
followers-own (a ∷ xs) e = and_from (is_own a) (are_own xs) (follower-own a (both-left (is_follower a) (are_followers xs) e))
    (followers-own xs (both-right (is_follower a) (are_followers xs) e))

let-own : (g : List ℕ) (a : Act) → LetAnswer g a → is_own a ≡ true
let-own g (acts.Clear f o) e = refl
let-own g (acts.Sent f x n d) e = refl
let-own g (acts.Drop f w) e = refl
let-own g a e = absurd e

arrive-own : (g : List ℕ) (a : Act) → ArriveAnswer g a → is_own a ≡ true
arrive-own g (acts.Gave f x n p) e = refl
arrive-own g (acts.Pass f o) e = refl
arrive-own g (acts.Drop f w) e = refl
arrive-own g a e = absurd e

shaped-own : (ok : Act → Type 0) (xs : List Act) → ((a : Act) → ok a → is_own a ≡ true) → Shaped ok xs → are_own xs ≡ true
shaped-own ok xs f s = ap are_own s.parts ∙ and_from (is_own s.first) (are_own s.rest) (f s.first s.fits) (followers-own s.rest s.follow)

pub lets-own : (g o : List ℕ) (q : ℕ) (h : List Act) → are_own (let_acts g q h o) ≡ true
lets-own g o q h = shaped-own (LetAnswer g) (let_acts g q h o) (let-own g) (let-shape g o q h)

pub arrivals-own : (g : List ℕ) (own : Addr) (h : List Act) (o : List ℕ) → are_own (arrive_acts g own h o) ≡ true
arrivals-own g own h o = shaped-own (ArriveAnswer g) (arrive_acts g own h o) (arrive-own g) (arrive-shape g own h o)

pub changes-own : (g : List ℕ) (s k : ℕ) (r : Outcome) (a : Answer) (c : Change) → are_own (change_acts g r c ++ acts.Handled g s k a ∷ [])
    ≡ true
changes-own g s k r a changes.Nothing = refl
changes-own g s k r a changes.Spd = refl
changes-own g s k r a (changes.Put e) = refl
changes-own g s k r a (changes.Gone x) = refl
