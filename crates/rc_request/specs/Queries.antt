-- The query of a request (RFC 8040 section 4.8): where a new policy stands, by `insert` and `point` (sections 4.8.5 and
-- 4.8.6). Of this project: a point may leave out `/restconf/data`.
use Rattle.std.specs.Prelude.{ℕ, ◌==◌, nat_lt, List, [], ◌∷◌, length, map, codes, if◌then◌else◌, Option, Some, None, option_and_then}
use Rattle.std.specs.List.{slice_split, position_or_len, before_first, after_first}
use Rattle.std.specs.Option.{option_map}
use Rattle.std.specs.Str.{bytes_eq}
use Rattle.std.specs.Borrow.{Bor}
use Rattle.percent_encoding.specs.Percent.{percent_decode}
use Rattle.ikeless_tree.specs.Check.{is_spd_name}
use Rattle.reply_table.specs.declared.ask.Place.{Place}
use Rattle.reply_table.specs.declared.ask.Place.TheVariants as places
use Rattle.rc_request.specs.declared.query.Parameters.{Parameters}
use Rattle.rc_request.specs.Paths.{after_front, key_of}

-- ---- parameters

-- the texts that these references point to
abbrev pub texts : List (Bor (List ℕ)) → List (List ℕ)
texts list = map (λ (text : Bor (List ℕ)). text.now) list

-- what stands before the first mark, or all
abbrev pub before_mark : ℕ → List ℕ → List ℕ
before_mark mark text = before_first (λ c. c == mark) text

-- what stands behind the first mark, where there is one
abbrev pub behind_mark : ℕ → List ℕ → Option (List ℕ)
behind_mark mark text =
    if nat_lt (position_or_len (λ c. c == mark) text) (length text) then Some (after_first (λ c. c == mark) text) else None

-- a query before its parameters are read
abbrev pub no_parameters : Parameters
no_parameters = record { insert = None; point = None }

-- none is repeated
abbrev pub with_insert : Parameters → List ℕ → Option (List ℕ) → Option Parameters
with_insert found value None = Some (record { insert = Some value; point = found.point })
with_insert found value (Some earlier) = None

-- the same of `point`
abbrev pub with_point : Parameters → List ℕ → Option (List ℕ) → Option Parameters
with_point found value None = Some (record { insert = found.insert; point = Some value })
with_point found value (Some earlier) = None

-- the name stands without escapes, the value may have some
abbrev pub with_value : Parameters → List ℕ → Option (List ℕ) → Option Parameters
with_value found name None = None
with_value found name (Some value) =
    if bytes_eq name (codes "insert") then with_insert found (percent_decode value) found.insert
    else if bytes_eq name (codes "point") then with_point found (percent_decode value) found.point
    else None

-- one parameter more: a name, `=` and a value
unfoldable pub with_parameter : Parameters → List ℕ → Option Parameters
with_parameter found text = with_value found (before_mark 61 text) (behind_mark 61 text)

-- all these parameters more, or none where one of them is wrong
abbrev pub with_parameters : Parameters → List (List ℕ) → Option Parameters
with_parameters found [] = Some found
with_parameters found (text ∷ texts) = option_and_then (λ more. with_parameters more texts) (with_parameter found text)

-- the parameters, between `&`
unfoldable pub parameters_of : List ℕ → Option Parameters
parameters_of query = with_parameters no_parameters (slice_split (λ c. c == 38) query)

-- ---- places

-- the policy's name of a list key
abbrev pub key_in : Option (List ℕ) → Option (List ℕ)
key_in None = None
key_in (Some key) = key_of is_spd_name key

-- the policy of a path that begins with the module's container
abbrev pub in_short : Option (List ℕ) → Option (List ℕ)
in_short None = None
in_short (Some text) = key_in (after_front (codes "/spd/spd-entry=") text)

-- the policy of a path with `/restconf/data` before the container, or without it
abbrev pub in_either : List ℕ → Option (List ℕ) → Option (List ℕ)
in_either path (Some text) = key_in (after_front (codes "/spd/spd-entry=") text)
in_either path None = in_short (after_front (codes "/ietf-i2nsf-ikeless:ipsec-ikeless") path)

-- the name of the policy that a point is the path of
unfoldable pub policy_at : List ℕ → Option (List ℕ)
policy_at path = in_either path (after_front (codes "/restconf/data/ietf-i2nsf-ikeless:ipsec-ikeless") path)

-- the policy of a point, where there is one
abbrev pub pointed : Option (List ℕ) → Option (List ℕ)
pointed None = None
pointed (Some path) = policy_at path

-- a place that has no point
abbrev pub alone : Place → Option (List ℕ) → Option Place
alone place None = Some place
alone place (Some path) = None

-- the place of a value of `insert`: `before` and `after` need a point, `first` and `last` have none
unfoldable pub place_for : List ℕ → Option (List ℕ) → Option Place
place_for insert point =
    if bytes_eq insert (codes "first") then alone places.First point
    else if bytes_eq insert (codes "last") then alone places.Last point
    else if bytes_eq insert (codes "before") then option_map places.Before (pointed point)
    else if bytes_eq insert (codes "after") then option_map places.After (pointed point)
    else None

-- without `insert` the place is the last, and there is no point
abbrev pub place_by : Option (List ℕ) → Option (List ℕ) → Option Place
place_by None point = alone places.Last point
place_by (Some insert) point = place_for insert point

-- the place that parameters say, if they are right
abbrev pub place_in : Option Parameters → Option Place
place_in None = None
place_in (Some found) = place_by found.insert found.point

-- the place that the query of a request for a new policy says; without a query it is the last
abbrev pub place_of : Option (List ℕ) → Option Place
place_of None = Some places.Last
place_of (Some query) = place_in (parameters_of query)
