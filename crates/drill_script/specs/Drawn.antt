-- The numbers that are drawn, and what the line of one says (of this project: docs/FORMATS.md).
use Rattle.std.specs.Prelude.{ℕ, zero, suc, ◌+◌, ◌*◌, ◌/◌, ◌%◌, ◌^◌, ◌==◌, nat_le, Bool, true, false, if◌then◌else◌}
use Rattle.drill_script.specs.declared.drawing.Kind.{Kind}
use Rattle.drill_script.specs.declared.drawing.Kind.TheVariants as kinds

-- the number drawn after x
abbrev pub next : ℕ → ℕ
next x = (x * 6364136223846793005 + 1442695040888963407) % 2 ^ 64

-- the k-th number drawn, from 1; before them stands n
unfoldable pub drawn : ℕ → ℕ → ℕ
drawn n zero = n
drawn n (suc k) = next (drawn n k)

-- its gateway, from 1 to 3
abbrev pub gateway_of : ℕ → ℕ
gateway_of x = 1 + x / 2 ^ 40 % 3

-- the next gateway in the ring 1, 2, 3, or the one after that
abbrev pub target_of : ℕ → ℕ
target_of x = 1 + (gateway_of x + x / 2 ^ 44 % 2) % 3

-- its upper bits
abbrev pub upper_of : ℕ → ℕ
upper_of x = x / 2 ^ 45

-- one in 64 of these lines restarts a gateway, the others raise the clock
abbrev pub clock_kind : ℕ → Kind
clock_kind upper = if upper % 64 == 0 then kinds.Boot else kinds.Now

-- one in 16 of these lines cuts a session, the others open one
abbrev pub session_kind : ℕ → Kind
session_kind upper = if upper % 16 == 0 then kinds.Cut else kinds.Open

-- the kind of a line by four bits of its number, and by the upper bits where two kinds share a place
abbrev pub kind_at : ℕ → ℕ → Kind
kind_at place upper =
    if nat_le place 3 then kinds.Let
    else if nat_le place 6 then kinds.Arrive
    else if nat_le place 9 then kinds.Down
    else if nat_le place 12 then kinds.Up
    else if place == 13 then kinds.Note
    else if place == 14 then clock_kind upper
    else session_kind upper

-- what its line says
abbrev pub kind_of : ℕ → Kind
kind_of x = kind_at (x / 2 ^ 33 % 16) (upper_of x)

-- the line lets a packet in
abbrev pub is_let : Kind → Bool
is_let kinds.Let = true
is_let _ = false

-- the line has a reading of the clock
abbrev pub is_now : Kind → Bool
is_now kinds.Now = true
is_now _ = false

-- one more where this line is such a one
abbrev pub one_more : Bool → ℕ → ℕ
one_more true n = n + 1
one_more false n = n

-- how many of the first k lines are such lines
unfoldable pub many : (Kind → Bool) → ℕ → ℕ → ℕ
many is_such n zero = 0
many is_such n (suc k) = one_more (is_such (kind_of (drawn n (suc k)))) (many is_such n k)
