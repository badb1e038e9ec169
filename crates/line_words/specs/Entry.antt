-- The words that stand for policies.
use Rattle.std.specs.Prelude.{ℕ, ◌-◌, ◌^◌, ◌==◌, nat_le, Bool, List, [], ◌∷◌, length, codes, if◌then◌else◌, Option, Some, None, Result, Ok, Err}
use Rattle.std.specs.List.{slice_split}
use Rattle.std.specs.Str.{bytes_eq}
use Rattle.ikl_base.specs.declared.status.LineFault.{LineFault}
use Rattle.ikl_base.specs.declared.status.LineFault.TheVariants as faults
use Rattle.ikeless_tree.specs.declared.entry.Direction.{Direction}
use Rattle.ikeless_tree.specs.declared.entry.Action.{Action}
use Rattle.ikeless_tree.specs.Words as table
use Rattle.ikeless_tree.specs.declared.entry.Range.{Range}
use Rattle.ikeless_tree.specs.declared.entry.Selector.{Selector}
use Rattle.ikeless_tree.specs.declared.entry.SpdEntry.{SpdEntry}
use Rattle.ikeless_tree.specs.declared.fault.TreeFault.{TreeFault}
use Rattle.line_words.specs.declared.entry.Use.{Use}
use Rattle.line_words.specs.Words.{◌>>=◌, one_of, each, number_in, prefix_in}

-- between the parts of an entry and of a half
abbrev pub is_comma : ℕ → Bool
is_comma c = c == 44

-- between two ranges of ports
abbrev pub is_plus : ℕ → Bool
is_plus c = c == 43

-- between the first and the last port of a range
abbrev pub is_dash : ℕ → Bool
is_dash c = c == 45

-- `in` or `out`
abbrev pub direction_of : List ℕ → Result Direction LineFault
direction_of w = one_of faults.Entry (table.direction_of w)

-- `protect`, `bypass` or `discard` (RFC 4301 section 4.4.1)
abbrev pub action_of : List ℕ → Result Action LineFault
action_of w = one_of faults.Entry (table.action_of w)

-- any protocol, or a number below 256
unfoldable pub proto_of : List ℕ → Result (Option ℕ) LineFault
proto_of w = if bytes_eq w (codes "any") then Ok None else number_in faults.Entry 255 w >>= (λ n. Ok (Some n))

-- two ports with a dash between them
unfoldable pub range_in : List (List ℕ) → Result Range LineFault
range_in (start ∷ end ∷ []) =
    number_in faults.Entry 65535 start >>= (λ a. number_in faults.Entry 65535 end >>= (λ b. Ok (record { start = a; end = b })))
range_in _ = Err faults.Entry

-- `START-END`; that it doesn't start above its end is asked of the whole list later
abbrev pub range_of : List ℕ → Result Range LineFault
range_of w = range_in (slice_split is_dash w)

-- each word a range of ports
abbrev pub ranges_of : List (List ℕ) → Result (List Range) LineFault
ranges_of words = each range_of words

-- any port, or 1 to 8 ranges joined by a plus
unfoldable pub ports_of : List ℕ → Result (List Range) LineFault
ports_of w =
    if bytes_eq w (codes "any") then Ok []
    else if nat_le (length (slice_split is_plus w)) 8 then ranges_of (slice_split is_plus w)
    else Err faults.Entry

-- the selector of two prefixes, a protocol and two lists of ports
unfoldable pub selector_of : List ℕ → List ℕ → List ℕ → List ℕ → List ℕ → Result Selector LineFault
selector_of local remote proto local_ports remote_ports =
    prefix_in faults.Entry local >>=
    (λ l. prefix_in faults.Entry remote >>=
    (λ r. proto_of proto >>= (λ p. ports_of local_ports >>= (λ lp. ports_of remote_ports >>= (λ rp.
    Ok (record { local = l; remote = r; proto = p; local_ports = lp; remote_ports = rp }))))))

-- a direction, the number that names the policy's associations, and an action
unfoldable pub use_of : List ℕ → List ℕ → List ℕ → Result Use LineFault
use_of direction reqid action =
    direction_of direction >>= (λ d. number_in faults.Entry (2 ^ 64 - 1) reqid >>=
    (λ n. action_of action >>= (λ a. Ok (record { direction = d; reqid = n; action = a }))))

-- the selector of five parts
unfoldable pub selector_in : List (List ℕ) → Result Selector LineFault
selector_in (local ∷ remote ∷ proto ∷ local_ports ∷ remote_ports ∷ []) = selector_of local remote proto local_ports remote_ports
selector_in _ = Err faults.Entry

-- the entry of nine parts: a name, what it is used for, and a selector; its window is 64
unfoldable pub entry_in : List (List ℕ) → Result SpdEntry LineFault
entry_in (name ∷ direction ∷ reqid ∷ action ∷ selector) =
    use_of direction reqid action >>= (λ u. selector_in selector >>= (λ s.
    Ok (record { name = name; direction = u.direction; reqid = u.reqid; window = 64; selector = s; action = u.action })))
entry_in _ = Err faults.Entry

-- one word, with commas between its nine parts
abbrev pub entry_of : List ℕ → Result SpdEntry LineFault
entry_of w = entry_in (slice_split is_comma w)

-- a list of policies, one word for each entry, in the order in which they are tried
abbrev pub entries_of : List (List ℕ) → Result (List SpdEntry) LineFault
entries_of words = each entry_of words

-- a list that can be in force
abbrev pub unless_fault : Option TreeFault → List SpdEntry → Result (List SpdEntry) LineFault
unless_fault None list = Ok list
unless_fault (Some fault) list = Err faults.Entry
