-- What is counted of a transcript, and the line that says it (of this project: docs/FORMATS.md).
use Rattle.std.specs.Prelude.{ℕ, ◌==◌, nat_eq, Bool, true, false, List, [], ◌∷◌, ◌++◌, codes, count_by}
use Rattle.std.specs.List.{slice_split, starts_with}
use Rattle.std.specs.Fmt.{decimal}
use Rattle.hist_acts.specs.declared.act.Act.{Act}
use Rattle.hist_acts.specs.declared.act.Act.TheVariants as acts
use Rattle.line_words.specs.Text.{line_text}
use Rattle.drill_script.specs.declared.tallying.Tally.{Tally}

-- ---- of what happened

-- a datagram left a gateway, sealed
abbrev pub is_sent : Act → Bool
is_sent (acts.Sent g name k o) = true
is_sent _ = false

-- a packet came out of a tunnel
abbrev pub is_gave : Act → Bool
is_gave (acts.Gave g name k o) = true
is_gave _ = false

-- a packet left a gateway in clear
abbrev pub is_clear : Act → Bool
is_clear (acts.Clear g o) = true
is_clear _ = false

-- a packet from inside or a datagram from outside was dropped
abbrev pub is_drop : Act → Bool
is_drop (acts.Drop g w) = true
is_drop _ = false

-- the controller gave an order
abbrev pub is_order : Act → Bool
is_order (acts.Order g s n o) = true
is_order _ = false

-- how many acts of each kind there are
abbrev pub tally_of : List Act → Tally
tally_of happened = record {
  sent = count_by is_sent happened;
  gave = count_by is_gave happened;
  clear = count_by is_clear happened;
  dropped = count_by is_drop happened;
  orders = count_by is_order happened;
}

-- ---- of lines

-- an LF
abbrev pub is_line_end : ℕ → Bool
is_line_end c = c == 10

-- a line begins with these octets
abbrev pub begins : List ℕ → List ℕ → Bool
begins front line = starts_with nat_eq line front

-- how many of the lines begin with these octets
abbrev pub lines_with : List ℕ → List (List ℕ) → ℕ
lines_with front lines = count_by (begins front) lines

-- how many lines begin with each word
abbrev pub tally_in : List (List ℕ) → Tally
tally_in lines = record {
  sent = lines_with (codes "sent ") lines;
  gave = lines_with (codes "gave ") lines;
  clear = lines_with (codes "clear ") lines;
  dropped = lines_with (codes "drop ") lines;
  orders = lines_with (codes "order ") lines;
}

-- the same counts of a whole transcript, which is cut at each LF
abbrev pub tally_of_text : List ℕ → Tally
tally_of_text text = tally_in (slice_split is_line_end text)

-- ---- the line

-- the number that drew the script, and how many events it has
abbrev pub begin_words : ℕ → List (List ℕ)
begin_words n = decimal n ∷ codes "events" ∷ decimal 20073 ∷ []

-- the counts of what was sent sealed, given out of tunnels, and sent in clear
abbrev pub given_words : Tally → List (List ℕ)
given_words t = codes "sent" ∷ decimal t.sent ∷ codes "gave" ∷ decimal t.gave ∷ codes "clear" ∷ decimal t.clear ∷ []

-- the counts of what was dropped, and of what was ordered
abbrev pub other_words : Tally → List (List ℕ)
other_words t = codes "drop" ∷ decimal t.dropped ∷ codes "order" ∷ decimal t.orders ∷ []

-- the counts of a drill, and the exit number of its run
unfoldable pub summary_text : ℕ → Tally → ℕ → List ℕ
summary_text n t status =
    line_text (codes "drill" ∷ (begin_words n ++ (given_words t ++ (other_words t ++ codes "status" ∷ decimal status ∷ [])))) ++ 10 ∷ []
