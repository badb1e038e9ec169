-- The tokens of values (RFC 8259), which `json_values::Tokens` writes one by one.
use Rattle.std.specs.Prelude.{ℕ, List, [], ◌∷◌, ◌++◌}
use Rattle.json.specs.Token.{Token, key}
use Rattle.json.specs.Tree.{json_tokens, items_tokens}
use Rattle.serde_json.specs.Data.{Data, Items, Members, no_members, member}
use Rattle.serde_json.specs.Written.{outline, items_outline}

-- the tokens of a value, and of a member with its name
abbrev pub value_tokens : Data → List Token
value_tokens d = json_tokens (outline d)

abbrev pub member_tokens : List ℕ → Data → List Token
member_tokens name d = key name ∷ value_tokens d

-- the tokens of members, without the brackets round them
abbrev pub tokens_of_members : Members → List Token
tokens_of_members no_members = []
tokens_of_members (member name d ms) = member_tokens name d ++ tokens_of_members ms

-- the tokens of items, up to the bracket that closes them
abbrev pub tokens_of_items : Items → List Token
tokens_of_items ds = items_tokens (items_outline ds)
