-- The words of sessions: orders, answers and notices.
use Rattle.std.specs.Prelude.{ℕ, ◌-◌, ◌^◌, ◌==◌, ◌&&◌, nat_le, Bool, true, false, List, [], ◌∷◌, length, codes, if◌then◌else◌, Option, Some, None, Result, Ok, Err}
use Rattle.std.specs.List.{slice_split}
use Rattle.std.specs.Str.{bytes_eq}
use Rattle.ikl_base.specs.Address.{bits_of, is_one_family}
use Rattle.ikl_base.specs.declared.address.Prefix.{Prefix}
use Rattle.ikl_base.specs.declared.status.LineFault.{LineFault}
use Rattle.ikl_base.specs.declared.status.LineFault.TheVariants as faults
use Rattle.ikeless_tree.specs.Check.{spd_fault, is_spd_name}
use Rattle.ikeless_tree.specs.Words as table
use Rattle.ikeless_tree.specs.declared.command.Peer.{Peer}
use Rattle.ikeless_tree.specs.declared.entry.Range.{Range}
use Rattle.ikeless_tree.specs.declared.entry.Selector.{Selector}
use Rattle.ikeless_tree.specs.declared.order.Answer.{Answer}
use Rattle.ikeless_tree.specs.declared.order.Notice.{Notice}
use Rattle.ikeless_tree.specs.declared.order.Notice.TheVariants as notices
use Rattle.ikeless_tree.specs.declared.order.Order.{Order}
use Rattle.ikeless_tree.specs.declared.order.Order.TheVariants as orders
use Rattle.ikeless_tree.specs.declared.error.Tag.{Tag}
use Rattle.script_lines.specs.declared.session.Place.{Place}
use Rattle.script_lines.specs.declared.session.Replied.{Replied}
use Rattle.script_lines.specs.declared.session.Noticed.{Noticed}
use Rattle.line_words.specs.Words.{◌>>=◌, one_of, known_of, number_in, each, half_name_of}
use Rattle.line_words.specs.Entry.{is_comma, selector_in, entries_of, unless_fault}
use Rattle.line_words.specs.Half.{half_of}
use Rattle.line_words.specs.Limits.{limits_of}

-- a gateway, the number of its session, and that of a request in it
unfoldable pub place_of : List Peer → List ℕ → List ℕ → List ℕ → Result Place LineFault
place_of gateways gateway session request =
    known_of gateways gateway >>= (λ g. number_in faults.Number (2 ^ 32 - 1) session >>= (λ s. number_in faults.Number (2 ^ 64 - 1) request
    >>= (λ n.
    Ok (record { gateway = g; session = s; request = n }))))

-- ---- orders

-- a list that can be in force
unfoldable pub listed_in : List (List ℕ) → Result Order LineFault
listed_in entries =
    if nat_le (length entries) 256
    then entries_of entries >>= (λ list. unless_fault (spd_fault list) list >>= (λ good. Ok (orders.Policy good)))
    else Err faults.Count

-- a reading, with no more words
unfoldable pub read_in : List (List ℕ) → Result Order LineFault
read_in [] = Ok orders.Read
read_in _ = Err faults.Count

-- the put of a half that can be installed, which is one word
unfoldable pub put_in : List (List ℕ) → Result Order LineFault
put_in (half ∷ []) = half_of half >>= (λ e. Ok (orders.Put e))
put_in _ = Err faults.Count

-- the removal of a half by its name
unfoldable pub remove_of : List ℕ → Result Order LineFault
remove_of name = half_name_of name >>= (λ n. Ok (orders.Remove n))

-- a removal, with one word and no more
unfoldable pub remove_in : List (List ℕ) → Result Order LineFault
remove_in (name ∷ []) = remove_of name
remove_in _ = Err faults.Count

-- first the word that says what is ordered, then the number of words after it, then these words
unfoldable pub order_of : List ℕ → List (List ℕ) → Result Order LineFault
order_of w ws =
    if bytes_eq w (codes "read") then read_in ws
    else if bytes_eq w (codes "policy") then listed_in ws
    else if bytes_eq w (codes "put") then put_in ws
    else if bytes_eq w (codes "remove") then remove_in ws
    else Err faults.Word

-- ---- answers

-- a dash for none, or an error tag
unfoldable pub tag_of : List ℕ → Result (Option Tag) LineFault
tag_of w = if bytes_eq w (codes "-") then Ok None else one_of faults.Word (table.tag_of w) >>= (λ t. Ok (Some t))

-- a dash for none, or names of halves joined by commas
unfoldable pub names_of : List ℕ → Result (List (List ℕ)) LineFault
names_of w = if bytes_eq w (codes "-") then Ok [] else each half_name_of (slice_split is_comma w)

-- A status below 65,536, an error tag of RESTCONF or none (RFC 8040 section 7), and the names that a reading tells.
unfoldable pub answer_of : List ℕ → List ℕ → List ℕ → Result Answer LineFault
answer_of status tag names =
    number_in faults.Number 65535 status >>=
    (λ n. tag_of tag >>= (λ t. names_of names >>= (λ ns. Ok (record { status = n; tag = t; names = ns }))))

-- an answer by the place of its request, and its own three words
unfoldable pub replied_of : List Peer → List ℕ → List ℕ → List ℕ → List ℕ → List ℕ → List ℕ → Result Replied LineFault
replied_of gateways gateway session request status tag names =
    place_of gateways gateway session request >>= (λ p. answer_of status tag names >>= (λ a. Ok (record { place = p; answer = a })))

-- the place of a request, and the answer to it
unfoldable pub replied_in : List Peer → List (List ℕ) → Result Replied LineFault
replied_in gateways (gateway ∷ session ∷ request ∷ status ∷ tag ∷ names ∷ []) = replied_of gateways gateway session request status tag names
replied_in gateways _ = Err faults.Count

-- ---- notices

-- a prefix of the whole length
abbrev pub is_whole : Prefix → Bool
is_whole p = p.len == bits_of p.addr

-- the selector tells one protocol of the next layer, not any
abbrev pub has_proto : Option ℕ → Bool
has_proto None = false
has_proto (Some n) = true

-- one port, or any
abbrev pub is_one_port : List Range → Bool
is_one_port [] = true
is_one_port (r ∷ []) = r.start == r.end
is_one_port (r ∷ s ∷ rs) = false

-- the addresses, the protocol and the ports of one packet
unfoldable pub is_packet : Selector → Bool
is_packet s =
    is_whole s.local && is_whole s.remote && is_one_family s.local.addr s.remote.addr && has_proto s.proto && is_one_port s.local_ports
    && is_one_port s.remote_ports

-- a name that an entry of the SPD can have
abbrev pub policy_name_of : List ℕ → Result (List ℕ) LineFault
policy_name_of w = if is_spd_name w then Ok w else Err faults.Entry

-- a selector that tells a single packet's flow, as an acquire does (RFC 4301 section 4.4.1)
abbrev pub packet_of : Selector → Result Selector LineFault
packet_of s = if is_packet s then Ok s else Err faults.Entry

-- A packet found no half to seal it: the name of the entry that says protect, and the packet's flow.
unfoldable pub acquire_of : List ℕ → List ℕ → Result Notice LineFault
acquire_of name selector =
    policy_name_of name >>= (λ n. selector_in (slice_split is_comma selector) >>=
    (λ s. packet_of s >>= (λ good. Ok (notices.Acquire n good))))

-- an acquire, with two words and no more
unfoldable pub acquire_in : List (List ℕ) → Result Notice LineFault
acquire_in (name ∷ selector ∷ []) = acquire_of name selector
acquire_in _ = Err faults.Count

-- whether the soft limit or the hard one was reached
abbrev pub soft_of : List ℕ → Result Bool LineFault
soft_of w = one_of faults.Word (table.softness_of w)

-- A half's limit is reached: its name, whether the limit is a soft one, and its counts at that moment.
unfoldable pub expire_of : List ℕ → List ℕ → List ℕ → Result Notice LineFault
expire_of name soft counts =
    half_name_of name >>= (λ n. soft_of soft >>= (λ b. limits_of faults.Limits counts >>= (λ c. Ok (notices.Expire n b c))))

-- an expiry, with three words and no more
unfoldable pub expire_in : List (List ℕ) → Result Notice LineFault
expire_in (name ∷ soft ∷ counts ∷ []) = expire_of name soft counts
expire_in _ = Err faults.Count

-- the sequence numbers of the half of this name are used up
unfoldable pub overflow_of : List ℕ → Result Notice LineFault
overflow_of name = half_name_of name >>= (λ n. Ok (notices.SeqOverflow n))

-- an overflow, with one word and no more
unfoldable pub overflow_in : List (List ℕ) → Result Notice LineFault
overflow_in (name ∷ []) = overflow_of name
overflow_in _ = Err faults.Count

-- a datagram came with an SPI that no half has; one word and no more
unfoldable pub bad_spi_in : List (List ℕ) → Result Notice LineFault
bad_spi_in (spi ∷ []) = number_in faults.Number (2 ^ 32 - 1) spi >>= (λ n. Ok (notices.BadSpi n))
bad_spi_in _ = Err faults.Count

-- first the word that says what it is of, then the number of words after it, then these words
unfoldable pub notice_of : List ℕ → List (List ℕ) → Result Notice LineFault
notice_of w ws =
    if bytes_eq w (codes "acquire") then acquire_in ws
    else if bytes_eq w (codes "expire") then expire_in ws
    else if bytes_eq w (codes "overflow") then overflow_in ws
    else if bytes_eq w (codes "bad-spi") then bad_spi_in ws
    else Err faults.Word

-- a notice by its gateway, its session, the word that says what it is of, and the words after that
unfoldable pub noticed_of : List Peer → List ℕ → List ℕ → List ℕ → List (List ℕ) → Result Noticed LineFault
noticed_of gateways gateway session w ws =
    known_of gateways gateway >>= (λ g. number_in faults.Number (2 ^ 32 - 1) session >>= (λ s. notice_of w ws >>= (λ n.
    Ok (record { gateway = g; session = s; notice = n }))))

-- a gateway, the number of its session, and a notice
unfoldable pub noticed_in : List Peer → List (List ℕ) → Result Noticed LineFault
noticed_in gateways (gateway ∷ session ∷ w ∷ ws) = noticed_of gateways gateway session w ws
noticed_in gateways _ = Err faults.Count
