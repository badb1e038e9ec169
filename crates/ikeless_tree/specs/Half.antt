-- The names of halves, of this project, and the parts of their keys. A tunnel's two halves have one serial: the inbound one is
-- named `in/` and the serial, the outbound one `out/` and the serial.
use Rattle.std.specs.Prelude.{ℕ, ◌-◌, Bool, List, ◌++◌, codes, length, take, drop, if◌then◌else◌}
use Rattle.std.specs.Fmt.{decimal}
use Rattle.std.specs.Str.{bytes_eq}

-- the direction of a half is the front of its name
abbrev pub is_inbound : List ℕ → Bool
is_inbound name = bytes_eq (take 3 name) (codes "in/")

-- the halves whose serial is written so
abbrev pub in_half : List ℕ → List ℕ
in_half serial = codes "in/" ++ serial

-- the name of the outbound half of this serial
abbrev pub out_half : List ℕ → List ℕ
out_half serial = codes "out/" ++ serial

-- the name of the other half, which has the same serial
abbrev pub other_half : List ℕ → List ℕ
other_half name = if is_inbound name then out_half (drop 3 name) else in_half (drop 4 name)

-- the halves of a serial that is a number
unfoldable pub in_name : ℕ → List ℕ
in_name n = in_half (decimal n)

-- the name of the outbound half of the association with this number
unfoldable pub out_name : ℕ → List ℕ
out_name n = out_half (decimal n)

-- the AES part of a key: all but the salt of 4 octets at its end (RFC 4106 section 8.1)
abbrev pub aes_part : List ℕ → List ℕ
aes_part key = take (length key - 4) key
