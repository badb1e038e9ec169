-- Where the head of a message ends (RFC 9112 section 2.1, with lines that end as section 2.2 lets them: in CR LF or
-- in LF). The empty lines before the first line are passed over.
use Rattle.std.specs.Prelude.{ℕ, suc, ◌==◌, ◌||◌, Bool, List, [], ◌∷◌, if◌then◌else◌, Option, Some, None, option_map}
use Rattle.std.specs.Option.{option_or}

-- CR or LF
abbrev pub is_line_octet : ℕ → Bool
is_line_octet b = b == 13 || b == 10

-- the octets begin with LF: then its length
abbrev pub feed_len : List ℕ → Option ℕ
feed_len [] = None
feed_len (b ∷ rest) = if b == 10 then Some 1 else None

-- the octets begin with an empty line: then its length
abbrev pub empty_line_len : List ℕ → Option ℕ
empty_line_len [] = None
empty_line_len (b ∷ rest) = if b == 13 then option_map suc (feed_len rest) else feed_len (b ∷ rest)

-- the octets, which begin inside of a line, through the first empty line
abbrev pub text_len : List ℕ → Option ℕ
text_len [] = None
text_len (b ∷ rest) =
    option_map suc (if b == 10 then option_or (empty_line_len rest) (text_len rest) else text_len rest)

-- the octets through the first empty line after the first octet that is neither CR nor LF
abbrev pub head_len : List ℕ → Option ℕ
head_len [] = None
head_len (b ∷ rest) = option_map suc (if is_line_octet b then head_len rest else text_len rest)
