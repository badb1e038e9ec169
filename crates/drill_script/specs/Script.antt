-- The script of the drill (of this project: docs/FORMATS.md). Gateways have the numbers 1 to 3 and the names a to c.
use Rattle.std.specs.Prelude.{ℕ, zero, suc, ◌+◌, ◌-◌, ◌%◌, List, [], ◌∷◌, ◌++◌, codes}
use Rattle.std.specs.Fmt.{decimal}
use Rattle.yang_values.specs.HexText.{digits_text}
use Rattle.line_words.specs.Text.{line_text}
use Rattle.drill_script.specs.declared.drawing.Kind.{Kind}
use Rattle.drill_script.specs.declared.drawing.Kind.TheVariants as kinds
use Rattle.drill_script.specs.Drawn.{drawn, gateway_of, target_of, upper_of, kind_of, is_let, is_now, many}

-- ---- the lines before the drawn ones

-- the header, and a protecting entry from each gateway's prefix to each other one's
abbrev pub policies_text : List ℕ
policies_text =
    codes "world seq-last 4294967295 a=192.0.2.1 b=192.0.2.2 c=192.0.2.3\n"
    ++ (codes "policy a o2,out,12,protect,10.1.0.0/16,10.2.0.0/16,any,any,any o3,out,13,protect,10.1.0.0/16,10.3.0.0/16,any,any,any\n"
    ++ (codes "policy b o1,out,12,protect,10.2.0.0/16,10.1.0.0/16,any,any,any o3,out,23,protect,10.2.0.0/16,10.3.0.0/16,any,any,any\n"
    ++ codes "policy c o1,out,13,protect,10.3.0.0/16,10.1.0.0/16,any,any,any o2,out,23,protect,10.3.0.0/16,10.2.0.0/16,any,any,any\n"))

-- k in 16 octets and in 4, the most significant first
abbrev pub key_of : ℕ → List ℕ
key_of k = 0 ∷ 0 ∷ 0 ∷ 0 ∷ 0 ∷ 0 ∷ 0 ∷ 0 ∷ 0 ∷ 0 ∷ 0 ∷ 0 ∷ 0 ∷ 0 ∷ 0 ∷ k ∷ 0 ∷ 0 ∷ 0 ∷ k ∷ []

-- the line that commands the k-th key
abbrev pub key_line : ℕ → List ℕ
key_line k = line_text (codes "keys" ∷ digits_text (key_of k) ∷ [])

-- the keys from 1 to k
unfoldable pub keys_text : ℕ → List ℕ
keys_text zero = []
keys_text (suc k) = keys_text k ++ (key_line (suc k) ++ 10 ∷ [])

-- a tunnel between each two gateways, and their sessions
abbrev pub tunnels_text : List ℕ
tunnels_text =
    codes "tunnel 12 now a b 10.1.0.0/16 10.2.0.0/16 64 0/0/0/0 600/0/0/0\n"
    ++ (codes "tunnel 13 now a c 10.1.0.0/16 10.3.0.0/16 64 0/0/0/0 600/0/0/0\n"
    ++ (codes "tunnel 23 now b c 10.2.0.0/16 10.3.0.0/16 64 0/0/0/0 600/0/0/0\n"
    ++ codes "open a\nopen b\nopen c\n"))

-- ---- a drawn line

-- `a`, `b` or `c`
abbrev pub name_of : ℕ → List ℕ
name_of gateway = (96 + gateway) ∷ []

-- a UDP packet over IPv4 from 10.I.0.5 port 4660 to 10.J.0.9 port 53, whose header sum is 26c0 less I and J
abbrev pub packet_of : ℕ → ℕ → List ℕ
packet_of i j =
    69 ∷ 0 ∷ 0 ∷ 32 ∷ 0 ∷ 0 ∷ 64 ∷ 0 ∷ 64 ∷ 17 ∷ 38 ∷ (192 - (i + j)) ∷ 10 ∷ i ∷ 0 ∷ 5 ∷ 10 ∷ j ∷ 0 ∷ 9
    ∷ 18 ∷ 52 ∷ 0 ∷ 53 ∷ 0 ∷ 12 ∷ 0 ∷ 0 ∷ 97 ∷ 98 ∷ 99 ∷ 100 ∷ []

-- what happens, and at which gateway
abbrev pub at : List ℕ → ℕ → List ℕ
at what gateway = line_text (what ∷ name_of gateway ∷ [])

-- the line of a kind at a gateway: a packet for the target, one of the datagrams sent, or a time
abbrev pub line_at : Kind → ℕ → ℕ → ℕ → ℕ → List ℕ
line_at kinds.Let gateway target which time = line_text (codes "let" ∷ name_of gateway ∷ digits_text (packet_of gateway target) ∷ [])
line_at kinds.Arrive gateway target which time = line_text (codes "arrive" ∷ name_of gateway ∷ (35 ∷ decimal which) ∷ [])
line_at kinds.Down gateway target which time = at (codes "down") gateway
line_at kinds.Up gateway target which time = at (codes "up") gateway
line_at kinds.Note gateway target which time = at (codes "note") gateway
line_at kinds.Boot gateway target which time = at (codes "boot") gateway
line_at kinds.Now gateway target which time = line_text (codes "now" ∷ decimal time ∷ [])
line_at kinds.Cut gateway target which time = at (codes "cut") gateway
line_at kinds.Open gateway target which time = at (codes "open") gateway

-- the line of a drawn number after so many packets and times
abbrev pub drawn_line : ℕ → ℕ → ℕ → List ℕ
drawn_line x lets nows = line_at (kind_of x) (gateway_of x) (target_of x) (1 + upper_of x % (lets + 1)) (nows + 1)

-- the first k drawn lines
unfoldable pub drawn_text : ℕ → ℕ → List ℕ
drawn_text n zero = []
drawn_text n (suc k) = drawn_text n k ++ (drawn_line (drawn n (suc k)) (many is_let n k) (many is_now n k) ++ 10 ∷ [])

-- ---- the whole

-- the script that the number n draws: a header and 73 lines that are the same for all n, and 20,000 lines that are drawn
abbrev pub script_of : ℕ → List ℕ
script_of n = policies_text ++ (keys_text 64 ++ (tunnels_text ++ drawn_text n 20000))
