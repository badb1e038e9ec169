-- Notifications as JSON (RFC 8040 section 6.4, RFC 7951, with the events of the YANG module ietf-i2nsf-ikeless of
-- RFC 9061 section 5.3): the one value that is written, and the values that are read.
use Rattle.std.specs.Prelude.{◌≡◌, ℕ, ◌-◌, ◌^◌, Bool, true, false, List, [], ◌∷◌, codes, Option, Some, None, Result, Ok, Err, ⊤, if◌then◌else◌}
use Rattle.serde_json.specs.Data.{Data, boolean, string, object, no_members, put}
use Rattle.serde_json.specs.Find.{get, as_bool}
use Rattle.ikeless_tree.specs.declared.entry.Selector.{Selector}
use Rattle.ikeless_tree.specs.declared.sad.Limits.{Limits}
use Rattle.ikeless_tree.specs.declared.order.Notice.{Notice}
use Rattle.ikeless_tree.specs.declared.order.Notice.TheVariants as notices
use Rattle.ikeless_tree.specs.Check.{is_spd_name, is_sad_name, has_empty_range, has_many_ranges}
use Rattle.json_values.specs.declared.fault.Kind.{Kind}
use Rattle.json_values.specs.declared.fault.Kind.TheVariants as kinds
use Rattle.json_values.specs.declared.fault.Fault.{Fault}
use Rattle.json_values.specs.Written.{count, only, selector_data}
use Rattle.json_tree.specs.SadEntryWritten.{counts_data}
use Rattle.json_values.specs.Faults.{◌>>=◌, here, within, at_member}
use Rattle.json_values.specs.Shapes.{shape, only_in}
use Rattle.json_values.specs.Leaves.{or_form, or_missing, needed_text, needed_number, name_in}
use Rattle.json_tree.specs.SelectorRead.{selector_of, counts_in}

-- ---- events

-- a packet needs an association that isn't there
abbrev pub acquire_name : List ℕ
acquire_name = codes "ietf-i2nsf-ikeless:sadb-acquire"

-- an association reached a limit of its lifetime
abbrev pub expire_name : List ℕ
expire_name = codes "ietf-i2nsf-ikeless:sadb-expire"

-- the sequence numbers of an association are used up
abbrev pub overflow_name : List ℕ
overflow_name = codes "ietf-i2nsf-ikeless:sadb-seq-overflow"

-- a datagram came with an SPI that no association has
abbrev pub bad_spi_name : List ℕ
bad_spi_name = codes "ietf-i2nsf-ikeless:sadb-bad-spi"

-- ---- what is written

-- the name of the event that a notice is
abbrev pub event_name : Notice → List ℕ
event_name (notices.Acquire policy selector) = acquire_name
event_name (notices.Expire name soft current) = expire_name
event_name (notices.SeqOverflow name) = overflow_name
event_name (notices.BadSpi spi) = bad_spi_name

-- the policy that asks for an association, and the packets that it is for
unfoldable pub acquire_data : List ℕ → Selector → Data
acquire_data policy selector =
    object (put (codes "ipsec-policy-name") (string policy) (put (codes "traffic-selector") (selector_data selector) no_members))

-- the half, its counts at that moment, and whether the limit was a soft one
unfoldable pub expire_data : List ℕ → Bool → Limits → Data
expire_data name soft current = object (put (codes "ipsec-sa-name") (string name)
    (put (codes "lifetime-current") (counts_data current)
    (put (codes "soft-lifetime-expire") (boolean soft) no_members)))

-- the half whose numbers are used up
abbrev pub overflow_data : List ℕ → Data
overflow_data name = only (codes "ipsec-sa-name") (string name)

-- the SPI of the datagram
abbrev pub bad_spi_data : ℕ → Data
bad_spi_data spi = only (codes "spi") (count spi)

-- the object of the event
abbrev pub event_data : Notice → Data
event_data (notices.Acquire policy selector) = acquire_data policy selector
event_data (notices.Expire name soft current) = expire_data name soft current
event_data (notices.SeqOverflow name) = overflow_data name
event_data (notices.BadSpi spi) = bad_spi_data spi

-- the time, and the object of the event under its name
unfoldable pub envelope_data : List ℕ → List ℕ → Data → Data
envelope_data stamp name event = object (put (codes "eventTime") (string stamp) (put name event no_members))

-- the notification of a notice, with this text as its time
abbrev pub notice_data : Notice → List ℕ → Data
notice_data n stamp = only (codes "ietf-restconf:notification") (envelope_data stamp (event_name n) (event_data n))

-- a selector with at most 8 ranges in each list of ports, none of which starts above its end
abbrev pub IsWhole : Selector → Type 0
IsWhole s = (has_empty_range s ≡ false) × (has_many_ranges s ≡ false)

-- a notice with names of a policy or a half and a whole selector
abbrev pub IsNotice : Notice → Type 0
IsNotice (notices.Acquire policy selector) = (is_spd_name policy ≡ true) × IsWhole selector
IsNotice (notices.Expire name soft current) = is_sad_name name ≡ true
IsNotice (notices.SeqOverflow name) = is_sad_name name ≡ true
IsNotice (notices.BadSpi spi) = Unit {0}

-- ---- what is read

-- the truth value of a leaf that is needed
abbrev pub needed_truth : Option Data → Result Bool Kind
needed_truth leaf = or_missing leaf >>= (λ d. or_form (as_bool d))

-- a selector without an empty range and with at most 8 ranges in each list of ports
abbrev pub whole : Selector → Result Selector Fault
whole s =
    if has_empty_range s then at_member (codes "traffic-selector") (Err kinds.Range)
    else if has_many_ranges s then at_member (codes "traffic-selector") (Err kinds.Unsupported)
    else Ok s

-- both members are needed
unfoldable pub acquire_shape : Data → Result ⊤ Fault
acquire_shape d = shape (codes "ipsec-policy-name" ∷ codes "traffic-selector" ∷ []) (codes "ipsec-policy-name" ∷ codes "traffic-selector"
    ∷ []) d

-- the acquire of an object
unfoldable pub acquire_in : Data → Result Notice Fault
acquire_in d =
    acquire_shape d >>= (λ done.
    name_in (codes "ipsec-policy-name") is_spd_name d >>= (λ policy.
    selector_of (get (codes "traffic-selector") d) >>= (λ found.
    whole found >>= (λ selector.
    Ok (notices.Acquire policy selector)))))

-- all members are needed
unfoldable pub expire_shape : Data → Result ⊤ Fault
expire_shape d = shape (codes "ipsec-sa-name" ∷ codes "lifetime-current" ∷ codes "soft-lifetime-expire" ∷ [])
    (codes "ipsec-sa-name" ∷ codes "lifetime-current" ∷ codes "soft-lifetime-expire" ∷ []) d

-- the counts of a member that is needed
abbrev pub counts_of : Option Data → Result Limits Fault
counts_of None = Err (here kinds.Missing)
counts_of (Some d) = within (codes "lifetime-current") (counts_in d)

-- the expiry of an object
unfoldable pub expire_in : Data → Result Notice Fault
expire_in d =
    expire_shape d >>= (λ done.
    name_in (codes "ipsec-sa-name") is_sad_name d >>= (λ name.
    counts_of (get (codes "lifetime-current") d) >>= (λ current.
    at_member (codes "soft-lifetime-expire") (needed_truth (get (codes "soft-lifetime-expire") d)) >>= (λ soft.
    Ok (notices.Expire name soft current)))))

-- the name of the half is needed
unfoldable pub overflow_shape : Data → Result ⊤ Fault
overflow_shape d = shape (codes "ipsec-sa-name" ∷ []) (codes "ipsec-sa-name" ∷ []) d

-- the overflow of an object
unfoldable pub overflow_in : Data → Result Notice Fault
overflow_in d =
    overflow_shape d >>= (λ done.
    name_in (codes "ipsec-sa-name") is_sad_name d >>= (λ name.
    Ok (notices.SeqOverflow name)))

-- the SPI is needed
unfoldable pub bad_spi_shape : Data → Result ⊤ Fault
bad_spi_shape d = shape (codes "spi" ∷ []) (codes "spi" ∷ []) d

-- the bad SPI of an object; any number of 32 bits can be one
unfoldable pub bad_spi_in : Data → Result Notice Fault
bad_spi_in d =
    bad_spi_shape d >>= (λ done.
    at_member (codes "spi") (needed_number 0 (2 ^ 32 - 1) (get (codes "spi") d)) >>= (λ spi.
    Ok (notices.BadSpi spi)))

-- any string is a time
abbrev pub time_shape : Data → Result ⊤ Fault
time_shape d = at_member (codes "eventTime") (needed_text (get (codes "eventTime") d) >>= (λ stamp. Ok tt))

-- an object of a time and this event alone
unfoldable pub event_shape : List ℕ → Data → Result ⊤ Fault
event_shape name d = shape (codes "eventTime" ∷ name ∷ []) (codes "eventTime" ∷ name ∷ []) d >>= (λ done. time_shape d)

-- a notification of an acquire, with no other event beside it
abbrev pub acquire_event : Data → Data → Result Notice Fault
acquire_event event d = event_shape acquire_name d >>= (λ done. acquire_in event)

-- a notification of an expiry, with no other event beside it
abbrev pub expire_event : Data → Data → Result Notice Fault
expire_event event d = event_shape expire_name d >>= (λ done. expire_in event)

-- a notification of an overflow, with no other event beside it
abbrev pub overflow_event : Data → Data → Result Notice Fault
overflow_event event d = event_shape overflow_name d >>= (λ done. overflow_in event)

-- a notification of a bad SPI, with no other event beside it
abbrev pub bad_spi_event : Data → Data → Result Notice Fault
bad_spi_event event d = event_shape bad_spi_name d >>= (λ done. bad_spi_in event)

-- the first of the four events that stands in the object; where a second one stands, too, it is unknown
abbrev pub bad_spi_else : Option Data → Data → Result Notice Fault
bad_spi_else None d = Err (here kinds.Missing)
bad_spi_else (Some event) d = bad_spi_event event d

-- an overflow, or what is looked for behind it
abbrev pub overflow_else : Option Data → Data → Result Notice Fault
overflow_else None d = bad_spi_else (get bad_spi_name d) d
overflow_else (Some event) d = overflow_event event d

-- an expiry, or what is looked for behind it
abbrev pub expire_else : Option Data → Data → Result Notice Fault
expire_else None d = overflow_else (get overflow_name d) d
expire_else (Some event) d = expire_event event d

-- an acquire, or what is looked for behind it
abbrev pub acquire_else : Option Data → Data → Result Notice Fault
acquire_else None d = expire_else (get expire_name d) d
acquire_else (Some event) d = acquire_event event d

-- the notice of the object that has the time and the event
unfoldable pub envelope_in : Data → Result Notice Fault
envelope_in d = acquire_else (get acquire_name d) d

-- the notice of a notification
unfoldable pub notice_in : Data → Result Notice Fault
notice_in d = only_in (codes "ietf-restconf:notification") d >>= envelope_in
