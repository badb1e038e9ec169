-- What stays of the gateways whatever happens: their names and their addresses.
use Rattle.std.proofs.Common.{◌≡◌, ℕ, zero, suc, ◌+◌, ◌<◌, ◌≤◌, ◌^◌, Bool, true, false, cond, not, List, [], ◌∷◌, length, map, get_or, set, Option, Some, None, slice_get, refl, sym, ap, subst, ◌∙◌, arith}
use Rattle.std.specs.List.{All, position_or_len}
use Rattle.std.specs.Str.{bytes_eq}
use Rattle.std.proofs.Math.Seq.{map-set_same}
use Rattle.std.proofs.lemmas.List.Elements.{All-weaker}
use Rattle.gw_packets.specs.declared.done.Config.{Config}
use Rattle.ctl_core.specs.declared.acts.CtlAct.{CtlAct}
use Rattle.ctl_core.specs.declared.acts.CtlAct.TheVariants as given
use Rattle.world_steps.specs.Nodes.{Node}
use Rattle.world_steps.specs.Worlds.{World, number_of}
use Rattle.world_steps.specs.Conditions.{AreNamed, IsGiven, IsSent}

abbrev pub name_of : Node → List ℕ
name_of n = n.name

abbrev pub config_of : Node → Config
config_of n = n.config

-- the same gateways, one for one
pub record AreAlike (ns ms : List Node) : Type 0 where
  pub names : map name_of ns ≡ map name_of ms
  pub configs : map config_of ns ≡ map config_of ms

pub alike-refl : (ns : List Node) → AreAlike ns ns
alike-refl ns = record { names = refl; configs = refl }

pub alike-back : (ns ms : List Node) → AreAlike ns ms → AreAlike ms ns
alike-back ns ms a = record { names = sym a.names; configs = sym a.configs }

pub alike-trans : (ns ms ls : List Node) → AreAlike ns ms → AreAlike ms ls → AreAlike ns ls
alike-trans ns ms ls a b = record { names = a.names ∙ b.names; configs = a.configs ∙ b.configs }

-- one of them is another, of its name and address
pub alike-set : (ns : List Node) (i : ℕ) (m d : Node) → m.name ≡ (get_or ns i d).name → m.config ≡ (get_or ns i d).config
    → AreAlike (set ns i m) ns
alike-set ns i m d e f = record { names = map-set_same name_of ns i m d e; configs = map-set_same config_of ns i m d f }

-- the number of a name is of the names alone
number-alike : (g : List ℕ) (ns ms : List Node) → map name_of ns ≡ map name_of ms
    → position_or_len (λ (n : Node). bytes_eq n.name g) ns ≡ position_or_len (λ (n : Node). bytes_eq n.name g) ms
number-alike g [] [] e = refl
number-alike g [] (m ∷ ms) e = absurd (cc)
number-alike g (n ∷ ns) [] e = absurd (cc)
number-alike g (n ∷ ns) (m ∷ ms) e =
    let first : n.name ≡ m.name = cc in
    let rest : map name_of ns ≡ map name_of ms = cc in
    let ih = number-alike g ns ms rest in
    rw first (ap (λ k. cond (not (bytes_eq m.name g)) (1 + k) 0) ih)

-- what stands at a place has a twin there
pub record IsTwin (n : Node) (ms : List Node) (i : ℕ) : Type 0 where
  pub twin : Node
  pub get : slice_get ms i ≡ Some twin
  pub name : twin.name ≡ n.name
  pub config : twin.config ≡ n.config

pub twin-at : (ns ms : List Node) (i : ℕ) (n : Node) → AreAlike ns ms → slice_get ns i ≡ Some n → IsTwin n ms i
twin-at [] ms i n a e = absurd (cc)
twin-at (k ∷ ns) [] i n a e = let f = a.names in absurd (cc)
twin-at (k ∷ ns) (m ∷ ms) zero n a e =
    let f = a.names in
    let g = a.configs in
    record { twin = m; get = refl; name = cc; config = cc }
twin-at (k ∷ ns) (m ∷ ms) (suc i) n a e =
    let f = a.names in
    let g = a.configs in
    let t = twin-at ns ms i n (record { names = cc; configs = cc }) e in
    record { twin = t.twin; get = t.get; name = t.name; config = t.config }

pub named-alike : (v w : World) → AreAlike v.nodes w.nodes → AreNamed w → AreNamed v
named-alike v w a named i n e =
    let t = twin-at v.nodes w.nodes i n a e in
    let num : number_of n.name v ≡ number_of n.name w = number-alike n.name v.nodes w.nodes a.names in
    let same : number_of t.twin.name w ≡ i = named i t.twin t.get in
    num ∙ ap (λ g. number_of g w) (sym t.name) ∙ same

pub given-alike : (ns ms : List Node) (x : CtlAct) → AreAlike ns ms → IsGiven ns x → IsGiven ms x
given-alike ns ms (given.Refused why) a g = tt
given-alike ns ms (given.Order i o) a (n, e, s) =
    let t = twin-at ns ms i n a e in
    (t.twin, t.get, subst (λ (c : Config). IsSent c.address o) (sym t.config) s)

pub all-given-alike : (ns ms : List Node) (xs : List CtlAct) → AreAlike ns ms → All (IsGiven ns) xs → All (IsGiven ms) xs
all-given-alike ns ms xs a g = All-weaker (IsGiven ns) (IsGiven ms) (λ x. given-alike ns ms x a) xs g
