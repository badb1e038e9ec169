-- The words that stand for halves: entries of the security association database (RFC 4301 section 4.4.2).
use Rattle.std.specs.Prelude.{ℕ, ◌-◌, ◌^◌, List, [], ◌∷◌, Option, Some, None, Result, Ok, Err}
use Rattle.std.specs.List.{slice_split}
use Rattle.ikl_base.specs.declared.address.Addr.{Addr}
use Rattle.ikl_base.specs.declared.status.LineFault.{LineFault}
use Rattle.ikl_base.specs.declared.status.LineFault.TheVariants as faults
use Rattle.ikeless_tree.specs.Check.{sad_fault}
use Rattle.ikeless_tree.specs.declared.sad.Df.{Df}
use Rattle.ikeless_tree.specs.Words as table
use Rattle.ikeless_tree.specs.declared.sad.SadEntry.{SadEntry}
use Rattle.ikeless_tree.specs.declared.fault.TreeFault.{TreeFault}
use Rattle.yang_values.specs.Addresses.{address_of}
use Rattle.yang_values.specs.HexText.{digits_of}
use Rattle.line_words.specs.declared.halves.HalfNumbers.{HalfNumbers}
use Rattle.line_words.specs.declared.halves.HalfTunnel.{HalfTunnel}
use Rattle.line_words.specs.declared.halves.HalfKeys.{HalfKeys}
use Rattle.line_words.specs.declared.halves.HalfRest.{HalfRest}
use Rattle.line_words.specs.Words.{◌>>=◌, or_fault, one_of, number_in}
use Rattle.line_words.specs.Entry.{is_comma, selector_of}
use Rattle.line_words.specs.Limits.{lifetimes_of}

-- where the DF bit of an outer header comes from: `clear`, `set` or `copy` (RFC 4301 section 4.4.2.1)
abbrev pub df_of : List ℕ → Result Df LineFault
df_of w = one_of faults.Entry (table.df_of w)

-- an address at which the half's tunnel begins or ends
abbrev pub end_of : List ℕ → Result Addr LineFault
end_of w = or_fault faults.Entry (address_of w)

-- keying material, as hex digits: an AES key and a salt of four octets (RFC 4106 section 8.1)
abbrev pub key_of : List ℕ → Result (List ℕ) LineFault
key_of w = or_fault faults.Entry (digits_of w)

-- the number of its policy, its SPI and its window
unfoldable pub half_numbers_of : List ℕ → List ℕ → List ℕ → Result HalfNumbers LineFault
half_numbers_of reqid spi window =
    number_in faults.Entry (2 ^ 64 - 1) reqid >>=
    (λ n. number_in faults.Entry (2 ^ 32 - 1) spi >>= (λ s. number_in faults.Entry (2 ^ 32 - 1) window >>= (λ w.
    Ok (record { reqid = n; spi = s; window = w }))))

-- the ends of its tunnel, and where the DF bit comes from
unfoldable pub half_tunnel_of : List ℕ → List ℕ → List ℕ → Result HalfTunnel LineFault
half_tunnel_of local remote df =
    end_of local >>= (λ l. end_of remote >>= (λ r. df_of df >>= (λ d. Ok (record { local = l; remote = r; df = d }))))

-- the last six parts of a half: keying material, both ends of its tunnel, the DF bit, its hard limits and its soft ones
unfoldable pub half_keys_of : List ℕ → List ℕ → List ℕ → List ℕ → List ℕ → List ℕ → Result HalfKeys LineFault
half_keys_of key local remote df hard soft =
    key_of key >>= (λ k. half_tunnel_of local remote df >>= (λ t. lifetimes_of faults.Entry hard soft >>= (λ l.
    Ok (record { key = k; tunnel = t; lifetimes = l }))))

-- the same six parts, where there are neither more nor fewer
unfoldable pub half_keys_in : List (List ℕ) → Result HalfKeys LineFault
half_keys_in (key ∷ local ∷ remote ∷ df ∷ hard ∷ soft ∷ []) = half_keys_of key local remote df hard soft
half_keys_in _ = Err faults.Entry

-- what stands after the three numbers of a half: its selector in five parts, and then its keying material, tunnel and limits
unfoldable pub half_rest_of : List ℕ → List ℕ → List ℕ → List ℕ → List ℕ → List (List ℕ) → Result HalfRest LineFault
half_rest_of local remote proto local_ports remote_ports more =
    selector_of local remote proto local_ports remote_ports >>= (λ s. half_keys_in more >>= (λ k. Ok (record { selector = s; keys = k })))

-- the same eleven parts, of which at least five must be there to be read as a selector
unfoldable pub half_rest_in : List (List ℕ) → Result HalfRest LineFault
half_rest_in (local ∷ remote ∷ proto ∷ local_ports ∷ remote_ports ∷ more) = half_rest_of local remote proto local_ports remote_ports more
half_rest_in _ = Err faults.Entry

-- the half with this name, these three numbers and these other parts
abbrev pub half_made : List ℕ → HalfNumbers → HalfRest → SadEntry
half_made name n r = record {
  name = name;
  reqid = n.reqid;
  spi = n.spi;
  window = n.window;
  selector = r.selector;
  key = r.keys.key;
  local = r.keys.tunnel.local;
  remote = r.keys.tunnel.remote;
  df = r.keys.tunnel.df;
  hard = r.keys.lifetimes.hard;
  soft = r.keys.lifetimes.soft;
}

-- the half of its name, its three numbers and the eleven parts after them
unfoldable pub half_from : List ℕ → List ℕ → List ℕ → List ℕ → List (List ℕ) → Result SadEntry LineFault
half_from name reqid spi window more =
    half_numbers_of reqid spi window >>= (λ n. half_rest_in more >>= (λ r. Ok (half_made name n r)))

-- fifteen parts: a name, three numbers, a selector, a key, a tunnel and lifetimes
unfoldable pub half_in : List (List ℕ) → Result SadEntry LineFault
half_in (name ∷ reqid ∷ spi ∷ window ∷ more) = half_from name reqid spi window more
half_in _ = Err faults.Entry

-- a half that can be installed
abbrev pub unless_sad_fault : Option TreeFault → SadEntry → Result SadEntry LineFault
unless_sad_fault None e = Ok e
unless_sad_fault (Some fault) e = Err faults.Entry

-- one word, with commas between its fifteen parts, that is a half which can be installed
unfoldable pub half_of : List ℕ → Result SadEntry LineFault
half_of w = half_in (slice_split is_comma w) >>= (λ e. unless_sad_fault (sad_fault e) e)
