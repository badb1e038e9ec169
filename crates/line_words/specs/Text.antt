-- How the words of a line are spelled, each in one way.
use Rattle.std.specs.Prelude.{ℕ, ◌+◌, List, [], ◌∷◌, ◌++◌, Option, Some, None, codes}
use Rattle.std.specs.List.{flat_map}
use Rattle.std.specs.Fmt.{decimal}
use Rattle.yang_values.specs.Addresses.{address_text}
use Rattle.yang_values.specs.HexText.{digits_text}
use Rattle.yang_values.specs.Prefixes.{prefix_text}
use Rattle.ikeless_tree.specs.Words.{direction_text, action_text, df_text}
use Rattle.ikeless_tree.specs.declared.entry.Range.{Range}
use Rattle.ikeless_tree.specs.declared.entry.Selector.{Selector}
use Rattle.ikeless_tree.specs.declared.entry.SpdEntry.{SpdEntry}
use Rattle.ikeless_tree.specs.declared.sad.Limits.{Limits}
use Rattle.ikeless_tree.specs.declared.sad.SadEntry.{SadEntry}

-- octets as digits, or a dash for none
abbrev pub hex_text : List ℕ → List ℕ
hex_text [] = codes "-"
hex_text (b ∷ bs) = digits_text (b ∷ bs)

-- `any`, or the number of the protocol of the next layer
abbrev pub proto_text : Option ℕ → List ℕ
proto_text None = codes "any"
proto_text (Some n) = decimal n

-- the first and the last port, also where they are the same
abbrev pub range_text : Range → List ℕ
range_text r = decimal r.start ++ 45 ∷ decimal r.end

-- a plus and a range of ports, for each of them
abbrev pub more_ranges_text : List Range → List ℕ
more_ranges_text rs = flat_map (λ r. 43 ∷ range_text r) rs

-- any port, or the ranges joined by a plus
abbrev pub ports_text : List Range → List ℕ
ports_text [] = codes "any"
ports_text (r ∷ rs) = range_text r ++ more_ranges_text rs

-- the prefix of the local addresses and that of the remote ones
abbrev pub prefixes_text : Selector → List ℕ
prefixes_text s = prefix_text s.local ++ 44 ∷ prefix_text s.remote

-- the local ports and the remote ones
abbrev pub both_ports_text : Selector → List ℕ
both_ports_text s = ports_text s.local_ports ++ 44 ∷ ports_text s.remote_ports

-- five parts with commas between them: two prefixes, the protocol and two lists of ports
unfoldable pub selector_text : Selector → List ℕ
selector_text s = prefixes_text s ++ 44 ∷ (proto_text s.proto ++ 44 ∷ both_ports_text s)

-- the first two parts of an entry: its name and its direction
abbrev pub name_text : SpdEntry → List ℕ
name_text e = e.name ++ 44 ∷ direction_text e.direction

-- the next two: its reqid and its action
abbrev pub use_text : SpdEntry → List ℕ
use_text e = decimal e.reqid ++ 44 ∷ action_text e.action

-- nine parts with commas between them; the window isn't spelled
unfoldable pub entry_text : SpdEntry → List ℕ
entry_text e = name_text e ++ 44 ∷ (use_text e ++ 44 ∷ selector_text e.selector)

-- each entry after a space
abbrev pub entries_text : List SpdEntry → List ℕ
entries_text es = flat_map (λ e. 32 ∷ entry_text e) es

-- seconds, octets, packets and idle seconds
abbrev pub limits_text : Limits → List ℕ
limits_text l = decimal l.time ++ 47 ∷ (decimal l.bytes ++ 47 ∷ (decimal l.packets ++ 47 ∷ decimal l.idle))

-- three parts: the reqid, the SPI and the size of the anti-replay window
abbrev pub half_numbers_text : SadEntry → List ℕ
half_numbers_text e = decimal e.reqid ++ 44 ∷ (decimal e.spi ++ 44 ∷ decimal e.window)

-- three parts: both ends of the tunnel, the half's own gateway first, and where the DF bit comes from
abbrev pub half_tunnel_text : SadEntry → List ℕ
half_tunnel_text e = address_text e.local ++ 44 ∷ (address_text e.remote ++ 44 ∷ df_text e.df)

-- two parts: the hard limits and the soft ones
abbrev pub half_lifetimes_text : SadEntry → List ℕ
half_lifetimes_text e = limits_text e.hard ++ 44 ∷ limits_text e.soft

-- the last six parts: keying material in hex, the tunnel and the limits
abbrev pub half_keys_text : SadEntry → List ℕ
half_keys_text e = digits_text e.key ++ 44 ∷ (half_tunnel_text e ++ 44 ∷ half_lifetimes_text e)

-- fifteen parts with commas between them
unfoldable pub half_text : SadEntry → List ℕ
half_text e = e.name ++ 44 ∷ (half_numbers_text e ++ 44 ∷ (selector_text e.selector ++ 44 ∷ half_keys_text e))

-- words, each after a space
abbrev pub spaced : List (List ℕ) → List ℕ
spaced ws = flat_map (λ w. 32 ∷ w) ws

-- a line of a first word and more words
abbrev pub line_text : List (List ℕ) → List ℕ
line_text [] = []
line_text (w ∷ ws) = w ++ spaced ws
