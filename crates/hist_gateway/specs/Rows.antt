-- What a gateway shows of its databases.
use Rattle.std.specs.Prelude.{ℕ, List, map, if◌then◌else◌}
use Rattle.ikeless_tree.specs.declared.sad.SadEntry.{SadEntry}
use Rattle.ikeless_tree.specs.declared.sad.SadRow.{SadRow}
use Rattle.ikeless_tree.specs.declared.sad.Tree.{Tree}
use Rattle.ikeless_tree.specs.Half.{is_inbound}
use Rattle.hist_acts.specs.declared.act.Act.{Act}
use Rattle.hist_acts.specs.Past.{force}
use Rattle.replay_win.specs.Marks.{greatest}
use Rattle.hist_halves.specs.Halves.{live, sent, numbers_taken}
use Rattle.hist_gateway.specs.Uses.{counts}

-- the greatest number taken of an inbound half, and the last number sent of an outbound one
abbrev pub last_sequence : List ℕ → List Act → SadEntry → ℕ
last_sequence g h e = if is_inbound e.name then greatest (numbers_taken g e.name h) else sent g e.name h

-- a half as a request sees it, with its counts and its last number
abbrev pub row_of : List ℕ → List Act → SadEntry → SadRow
row_of g h e = record { entry = e; state = record { current = counts g e.name h; top = last_sequence g h e } }

-- both databases: the list in force, and the live halves in the order of their installation
abbrev pub tree_of : List ℕ → List Act → Tree
tree_of g h = record { spd = force g h; sad = map (row_of g h) (live g h) }
