-- What a gateway keeps: its policies, its halves, the notices that stand, and the clock.
use Rattle.std.specs.Prelude.{ℕ, not, List, [], ◌∷◌, ◌++◌, map, filter, if◌then◌else◌}
use Rattle.ikeless_tree.specs.Half.{is_inbound}
use Rattle.ikeless_tree.specs.declared.entry.SpdEntry.{SpdEntry}
use Rattle.ikeless_tree.specs.declared.sad.SadEntry.{SadEntry}
use Rattle.ikeless_tree.specs.declared.sad.Tree.{Tree}
use Rattle.reply_table.specs.declared.ask.Change.{Change}
use Rattle.reply_table.specs.declared.ask.Change.TheVariants as changes
use Rattle.sad_store.specs.declared.half.Half.{Half}
use Rattle.sad_store.specs.Halves.{fresh, hushed, halves_without}
use Rattle.hist_gateway.specs.Machine.{row_from}
use Rattle.hist_gateway.specs.Stands.{has_reqid}

-- The list in force, the halves in the order of installation, the policies whose acquire stands, the SPIs whose notice stands with
-- the newest first, and the clock.
pub record Kept : Type 0 where
  pub spd : List SpdEntry
  pub halves : List Half
  pub acquires : List (List ℕ)
  pub bad_spis : List ℕ
  pub clock : ℕ

-- ---- after requests, sessions and the start

-- the halves are these
abbrev pub with_halves : List Half → Kept → Kept
with_halves halves k = record k { halves = halves }

-- the clock stands at this
abbrev pub with_clock : ℕ → Kept → Kept
with_clock now k = record k { clock = now }

-- a gateway that has just started
abbrev pub booted : Kept
booted = record { spd = []; halves = []; acquires = []; bad_spis = []; clock = 0 }

-- nothing that was told stands once a session is taken
abbrev pub session_taken : Kept → Kept
session_taken k = record k { halves = map hushed k.halves; acquires = []; bad_spis = [] }

-- another list is in force
abbrev pub with_list : List SpdEntry → Kept → Kept
with_list list k = record k { spd = list; acquires = [] }

-- of these policies those whose reqid isn't this one
abbrev pub unwanted : ℕ → List SpdEntry → List (List ℕ) → List (List ℕ)
unwanted reqid list names = filter (λ p. not (has_reqid p reqid list)) names

-- the acquires that stand once this half is installed
abbrev pub acquires_after : SadEntry → Kept → List (List ℕ)
acquires_after e k = if not (is_inbound e.name) then unwanted e.reqid k.spd k.acquires else k.acquires

-- the half is installed behind all others at this clock
abbrev pub installed : SadEntry → Kept → Kept
installed e k = record k { halves = k.halves ++ fresh k.clock e ∷ []; acquires = acquires_after e k }

-- the half of this name is gone
abbrev pub removed : List ℕ → Kept → Kept
removed name k = with_halves (halves_without name k.halves) k

-- ---- requests

-- the databases, as requests see them
abbrev pub tree_of : Kept → Tree
tree_of k = record { spd = k.spd; sad = map (row_from k.clock) k.halves }

-- after a request that leaves this list of policies and changes this
abbrev pub kept_after : List SpdEntry → Change → Kept → Kept
kept_after list changes.Nothing k = k
kept_after list changes.Spd k = with_list list k
kept_after list (changes.Put e) k = installed e k
kept_after list (changes.Gone name) k = removed name k
