-- What octets are heard as that are one line and nothing more.
use Rattle.std.proofs.Common.{◌≡◌, ◌++◌, ℕ, List, [], ◌∷◌, take, Option, Some, None, Result, Ok, Err, IfOk, refl, sym, ap, subst, ◌∙◌, append-nil}
use Rattle.std.specs.List.{flat_map}
use Rattle.ikl_base.specs.declared.fault.NoMemory.{NoMemory}
use Rattle.ikeless_tree.specs.declared.order.Notice.{Notice}
use Rattle.notice_lines.specs.declared.fault.NoticeFault.{NoticeFault}
use Rattle.notice_lines.specs.declared.fault.NoticeFault.TheVariants as faults
use Rattle.notice_lines.specs.Reading.{Begins, Ends, Long, Open, HasNotice, IsFault, IsHeard, begins, first_begins}
use Rattle.session_messages.specs.Whole.{IsHeardAs, IsLineOf}

abbrev Unique : Type 0
Unique = (line : List ℕ) (n m : Notice) → HasNotice line n → HasNotice line m → n ≡ m

-- ---- what a new reader gives

end_of : Begins → ℕ
end_of (Ends n) = n
end_of Open = 0
end_of Long = 0

same_end : (a b : ℕ) → Ends a ≡ Ends b → a ≡ b
unfolding end_of
same_end a b e = ap end_of e

long_ends : (n : ℕ) → Long ≡ Ends n → ⊥
long_ends n e = let no : ⊥ = cc in no

pub fault_line : (octets : List ℕ) (fault : NoticeFault) → IsFault fault octets → IsHeardAs octets None
fault_line octets faults.LineTooLong is n line = long_ends line.size (sym is ∙ line.ends)
fault_line octets faults.NotNotice is n line =
    let same : is.0 ≡ line.size = same_end is.0 line.size (sym is.1 ∙ line.ends) in
    let P : ℕ → Type 0 = λ k. HasNotice (take k octets) n in
    is.2 n (subst P (sym same) line.has)

-- ---- lines that are heard

unless_open_open : (octets : List ℕ) (b : Begins) → begins octets ≡ b → first_begins [] (octets ∷ []) ≡ b
unless_open_open octets Open e = rw e refl
unless_open_open octets Long e = rw e refl
unless_open_open octets (Ends n) e = rw e refl

line_of : (octets : List ℕ) (n : Notice) → IsHeard n octets → IsLineOf n octets
line_of octets n h =
    let joined : flat_map (λ piece. piece) (octets ∷ []) ≡ octets ++ [] = refl in
    let found = h [] (octets ∷ []) joined in
    let first : begins octets ≡ Ends found.0 = sym (unless_open_open octets (begins octets) refl) ∙ found.2 in
    let P : List ℕ → Type 0 = λ l. HasNotice (take found.0 l) n in
    record { size = found.0; ends = first; whole = found.1; has = subst P (append-nil octets) found.3 }

same_line : Unique → (octets : List ℕ) (n m : Notice) → IsLineOf n octets → IsLineOf m octets → n ≡ m
same_line unique octets n m a b =
    let same : b.size ≡ a.size = same_end b.size a.size (sym b.ends ∙ a.ends) in
    let P : ℕ → Type 0 = λ k. HasNotice (take k octets) m in
    unique (take a.size octets) n m a.has (subst P same b.has)

pub heard_line : Unique → (octets : List ℕ) (result : Result (Option Notice) NoMemory) → IfOk result (λ x. IsHeardAs octets x)
    → (n : Notice) → IsHeard n octets → IfOk result (λ x. x ≡ Some n)
heard_line unique octets (Ok (Some m)) found n h = ap Some (same_line unique octets m n found (line_of octets n h))
heard_line unique octets (Ok None) found n h = absurd (found n (line_of octets n h))
heard_line unique octets (Err e) found n h = tt
