-- A half ends, and an expiry is told, exactly where a limit is reached.
use Rattle.std.proofs.Common.{◌≡◌, ℕ, Bool, true, false, not, ◌&&◌, ◌||◌, nat_lt, max, List, [], ◌∷◌, ◌++◌, refl, sym, ◌∙◌, ap, if◌then◌else◌}
use Rattle.std.proofs.Math.Bool.{or-false, and-true, and-false}
use Rattle.std.proofs.lemmas.List.Folds.{list_any-append}
use Rattle.std.specs.List.{list_any}
use Rattle.std.specs.Str.{bytes_eq}
use Rattle.ikeless_tree.specs.declared.sad.Limits.{Limits}
use Rattle.ikeless_tree.specs.declared.sad.SadEntry.{SadEntry}
use Rattle.ikeless_tree.specs.declared.ends.GoneWhy.TheVariants as gone
use Rattle.life_count.specs.declared.event.LifeEvent.TheVariants as life
use Rattle.life_count.specs.Lifetime.{is_reached, expiry}
use Rattle.hist_acts.specs.declared.act.Act.{Act}
use Rattle.hist_acts.specs.declared.act.Act.TheVariants as acts
use Rattle.hist_acts.specs.Past.{clock}
use Rattle.hist_acts.specs.Sessions as sessions
use Rattle.hist_halves.specs.Halves.{live}
use Rattle.hist_gateway.specs.Uses.{counts}
use Rattle.hist_gateway.specs.Stands.{was_soft_given}
use Rattle.hist_gateway.specs.Look.{expiries, given_by, goings, look}
use Rattle.hist_gateway.specs.Block.{Gateway, Clock, clock_acts, gw_block}
use Rattle.hist_gateway.specs.Expiries.{is_hard_end, is_hard_expiry, is_soft_expiry, reaches_hard, reaches_soft}

-- ---- what goes

goes-if : (g x : List ℕ) (e : SadEntry) (rest : List Act) (b : Bool) → list_any (is_hard_end x) (if b then acts.Gone g e.name gone.Hard
    ∷ rest else rest) ≡ ((bytes_eq e.name x && b) || list_any (is_hard_end x) rest)
goes-if g x e rest true = ap (λ z. z || list_any (is_hard_end x) rest) (sym (and-true (bytes_eq e.name x)))
goes-if g x e rest false = ap (λ z. z || list_any (is_hard_end x) rest) (sym (and-false (bytes_eq e.name x)))

goings-end : (g x : List ℕ) (h : List Act) (es : List SadEntry) → list_any (is_hard_end x) (goings g h es) ≡ list_any (reaches_hard g h x)
    es
goings-end g x h [] = refl
goings-end g x h (e ∷ es) =
    goes-if g x e (goings g h es) (is_reached e.hard (counts g e.name h))
    ∙ ap (λ z. (bytes_eq e.name x && is_reached e.hard (counts g e.name h)) || z) (goings-end g x h es)

goes-quiet : (p : Act → Bool) (g : List ℕ) (e : SadEntry) (rest : List Act) → p (acts.Gone g e.name gone.Hard) ≡ false → (b : Bool)
    → list_any p (if b then acts.Gone g e.name gone.Hard ∷ rest else rest) ≡ list_any p rest
goes-quiet p g e rest q true = ap (λ z. z || list_any p rest) q
goes-quiet p g e rest q false = refl

pub goings-quiet : (p : Act → Bool) (g : List ℕ) (h : List Act) → ((e : SadEntry) → p (acts.Gone g e.name gone.Hard) ≡ false)
    → (es : List SadEntry) → list_any p (goings g h es) ≡ false
goings-quiet p g h q [] = refl
goings-quiet p g h q (e ∷ es) = goes-quiet p g e (goings g h es) (q e) (is_reached e.hard (counts g e.name h)) ∙ goings-quiet p g h q es

-- ---- what is told

tells-end : (g x name : List ℕ) (n : ℕ) (c : Limits) (rest : List Act) (b s t : Bool)
    → list_any (is_hard_end x) (given_by g n (expiry name c (if b then life.Hard else if s && not t then life.Soft else life.Nothing))
    ++ rest) ≡ list_any (is_hard_end x) rest
tells-end g x name n c rest true s t = refl
tells-end g x name n c rest false true true = refl
tells-end g x name n c rest false true false = refl
tells-end g x name n c rest false false t = refl

tells-hard : (g x name : List ℕ) (n : ℕ) (c : Limits) (rest : List Act) (b s t : Bool)
    → list_any (is_hard_expiry x) (given_by g n (expiry name c (if b then life.Hard else if s && not t then life.Soft else life.Nothing))
    ++ rest) ≡ ((bytes_eq name x && b) || list_any (is_hard_expiry x) rest)
tells-hard g x name n c rest true s t = refl
tells-hard g x name n c rest false true true = ap (λ z. z || list_any (is_hard_expiry x) rest) (sym (and-false (bytes_eq name x)))
tells-hard g x name n c rest false true false = refl
tells-hard g x name n c rest false false t = ap (λ z. z || list_any (is_hard_expiry x) rest) (sym (and-false (bytes_eq name x)))

tells-soft : (g x name : List ℕ) (n : ℕ) (c : Limits) (rest : List Act) (b s t : Bool)
    → list_any (is_soft_expiry x) (given_by g n (expiry name c (if b then life.Hard else if s && not t then life.Soft else life.Nothing))
    ++ rest) ≡ ((bytes_eq name x && (not b && (s && not t))) || list_any (is_soft_expiry x) rest)
tells-soft g x name n c rest true s t = refl
tells-soft g x name n c rest false true true = ap (λ z. z || list_any (is_soft_expiry x) rest) (sym (and-false (bytes_eq name x)))
tells-soft g x name n c rest false true false = refl
tells-soft g x name n c rest false false t = ap (λ z. z || list_any (is_soft_expiry x) rest) (sym (and-false (bytes_eq name x)))

expiries-end : (g x : List ℕ) (h : List Act) (es : List SadEntry) → list_any (is_hard_end x) (expiries g h es) ≡ false
expiries-end g x h [] = refl
expiries-end g x h (e ∷ es) =
    tells-end g x e.name (sessions.session_taken g h) (counts g e.name h) (expiries g h es) (is_reached e.hard (counts g e.name h))
    (is_reached e.soft (counts g e.name h)) (was_soft_given g e.name h)
    ∙ expiries-end g x h es

expiries-hard : (g x : List ℕ) (h : List Act) (es : List SadEntry) → list_any (is_hard_expiry x) (expiries g h es) ≡ list_any
    (reaches_hard g h x) es
expiries-hard g x h [] = refl
expiries-hard g x h (e ∷ es) =
    tells-hard g x e.name (sessions.session_taken g h) (counts g e.name h) (expiries g h es) (is_reached e.hard (counts g e.name h))
    (is_reached e.soft (counts g e.name h)) (was_soft_given g e.name h)
    ∙ ap (λ z. (bytes_eq e.name x && is_reached e.hard (counts g e.name h)) || z) (expiries-hard g x h es)

expiries-soft : (g x : List ℕ) (h : List Act) (es : List SadEntry) → list_any (is_soft_expiry x) (expiries g h es) ≡ list_any
    (reaches_soft g h x) es
expiries-soft g x h [] = refl
expiries-soft g x h (e ∷ es) =
    tells-soft g x e.name (sessions.session_taken g h) (counts g e.name h) (expiries g h es) (is_reached e.hard (counts g e.name h))
    (is_reached e.soft (counts g e.name h)) (was_soft_given g e.name h)
    ∙ ap (λ z. (bytes_eq e.name x
    && (not (is_reached e.hard (counts g e.name h)) && (is_reached e.soft (counts g e.name h) && not (was_soft_given g e.name h))))
    || z) (expiries-soft g x h es)

-- ---- at a look, and at a reading of the clock

pub look-end : (g x : List ℕ) (h : List Act) (es : List SadEntry) → list_any (is_hard_end x) (look g h es) ≡ list_any (reaches_hard g h x)
    es
look-end g x h es = list_any-append (is_hard_end x) (goings g h es) (expiries g h es)
    ∙ (ap (λ z. list_any (is_hard_end x) (goings g h es) || z) (expiries-end g x h es)
    ∙ (or-false (list_any (is_hard_end x) (goings g h es)) ∙ goings-end g x h es))

pub look-hard : (g x : List ℕ) (h : List Act) (es : List SadEntry) → list_any (is_hard_expiry x) (look g h es) ≡ list_any
    (reaches_hard g h x) es
look-hard g x h es = list_any-append (is_hard_expiry x) (goings g h es) (expiries g h es)
    ∙ (ap (λ z. z || list_any (is_hard_expiry x) (expiries g h es)) (goings-quiet (is_hard_expiry x) g h (λ e. refl) es)
    ∙ expiries-hard g x h es)

pub look-soft : (g x : List ℕ) (h : List Act) (es : List SadEntry) → list_any (is_soft_expiry x) (look g h es) ≡ list_any
    (reaches_soft g h x) es
look-soft g x h es = list_any-append (is_soft_expiry x) (goings g h es) (expiries g h es)
    ∙ (ap (λ z. z || list_any (is_soft_expiry x) (expiries g h es)) (goings-quiet (is_soft_expiry x) g h (λ e. refl) es)
    ∙ expiries-soft g x h es)

pub clock-if : (p : Act → Bool) (g : List ℕ) (h : List Act) (r b : Bool) → list_any p (look g h (live g h)) ≡ r
    → list_any p (clock_acts g h b) ≡ (b && r)
clock-if p g h r true e = e
clock-if p g h r false e = refl

pub clock-end : (c : Gateway) (h : List Act) (t : ℕ) (x : List ℕ) → list_any (is_hard_end x) (gw_block c h (Clock t)) ≡ (nat_lt (clock h) t
    && list_any (reaches_hard c.name (acts.Now (max t (clock h)) ∷ h) x) (live c.name h))
clock-end c h t x = clock-if (is_hard_end x) c.name (acts.Now (max t (clock h)) ∷ h) _ (nat_lt (clock h) t)
    (look-end c.name x (acts.Now (max t (clock h)) ∷ h) (live c.name h))

pub clock-hard : (c : Gateway) (h : List Act) (t : ℕ) (x : List ℕ) → list_any (is_hard_expiry x) (gw_block c h (Clock t)) ≡
    (nat_lt (clock h) t && list_any (reaches_hard c.name (acts.Now (max t (clock h)) ∷ h) x) (live c.name h))
clock-hard c h t x = clock-if (is_hard_expiry x) c.name (acts.Now (max t (clock h)) ∷ h) _ (nat_lt (clock h) t)
    (look-hard c.name x (acts.Now (max t (clock h)) ∷ h) (live c.name h))

pub clock-soft : (c : Gateway) (h : List Act) (t : ℕ) (x : List ℕ) → list_any (is_soft_expiry x) (gw_block c h (Clock t)) ≡
    (nat_lt (clock h) t && list_any (reaches_soft c.name (acts.Now (max t (clock h)) ∷ h) x) (live c.name h))
clock-soft c h t x = clock-if (is_soft_expiry x) c.name (acts.Now (max t (clock h)) ∷ h) _ (nat_lt (clock h) t)
    (look-soft c.name x (acts.Now (max t (clock h)) ∷ h) (live c.name h))
