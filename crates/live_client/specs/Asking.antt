-- One call of a client on its peer: it is dialled, the octets of the command's request are written to it, and then it is read once
-- in each turn until an answer is fixed.
use Rattle.std.specs.Prelude.{◌≡◌, ◌⊎◌, ℕ, ◌+◌, ◌<◌, ◌≤◌, Bool, true, false, List, [], ◌++◌, length, take, Option, Some, None, IfSome, Result, Ok, Err}
use Rattle.ikl_base.specs.Outside.{HasRisen}
use Rattle.live_devices.specs.Dialers.{Becomes, PeerHeld, Reads, dialled, hung_up, wrote}
use Rattle.rc_http.specs.declared.message.Kind.TheVariants.{Response}
use Rattle.rc_http.specs.Feeding.{Feeding}
use Rattle.rc_http.specs.Looks.{Looks, Waits}
use Rattle.rc_operations.specs.declared.told.Told.{Told}
use Rattle.live_client.specs.declared.fault.AskFault.{AskFault}
use Rattle.live_client.specs.declared.fault.AskFault.TheVariants as faults
use Rattle.live_client.specs.Replies.{IsBad, IsTold, IsWaiting}

-- ---- reads

-- a read that found nothing there
pub record FindsNone (held next : Option PeerHeld) : Type 0 where
  pub buf : List ℕ
  pub room : length buf ≡ 65536
  pub reads : Reads held next None buf

-- a read that gave these octets
pub record Finds (held next : Option PeerHeld) (octets : List ℕ) : Type 0 where
  pub buf : List ℕ
  pub room : length buf ≡ 65536
  pub size : ℕ
  pub some : 0 < size
  pub reads : Reads held next (Some size) buf
  pub are : octets ≡ take size buf

-- a read that found the end
pub record FindsEnd (held next : Option PeerHeld) : Type 0 where
  pub buf : List ℕ
  pub room : length buf ≡ 65536
  pub reads : Reads held next (Some 0) buf

-- after these octets, one read more: these are all octets then
abbrev pub Goes : Option PeerHeld → Option PeerHeld → List ℕ → List ℕ → Type 0
Goes held next octets all = (FindsNone held next × (all ≡ octets)) ⊎ ((more : List ℕ) × Finds held next more × (all ≡ octets ++ more))

-- so many reads, one after another, gave these octets
pub data Gave (start : Option PeerHeld) : ℕ → List ℕ → Option PeerHeld → Type 0 where
  begins : Gave start 0 [] start
  goes : (turns : ℕ) (octets all : List ℕ) (held next : Option PeerHeld) → Gave start turns octets held → Goes held next octets all
      → Gave start (turns + 1) all next

-- what one read brings after these octets, and which are kept
abbrev pub Brings : Option PeerHeld → Option PeerHeld → List ℕ → Feeding → List ℕ → Result (Option Told) AskFault → Type 0
Brings held next octets f kept (Ok None) = Goes held next octets kept × IsWaiting f kept
Brings held next octets f kept (Ok (Some told)) = (all : List ℕ) × Goes held next octets all × IsTold all told
Brings held next octets f kept (Err faults.LinkFault) = Unit {0}
Brings held next octets f kept (Err (faults.BadReply bad)) = (Goes held next octets bad × IsBad bad) ⊎ (FindsEnd held next × (bad ≡ octets))
Brings held next octets f kept (Err faults.TurnsSpent) = ⊥
Brings held next octets f kept (Err faults.NoMemory) = Unit {0}

-- ---- answers

-- a response that says this was read within so many turns
pub record Answered (start : Option PeerHeld) (turns : ℕ) (last : Option PeerHeld) (told : Told) : Type 0 where
  pub turn : ℕ
  pub within : turn ≤ turns
  pub octets : List ℕ
  pub gave : Gave start turn octets last
  pub is : IsTold octets told

-- octets that are no response, or one that says nothing, were read within so many turns
pub record Misread (start : Option PeerHeld) (turns : ℕ) (last : Option PeerHeld) (octets : List ℕ) : Type 0 where
  pub turn : ℕ
  pub within : turn ≤ turns
  pub gave : Gave start turn octets last
  pub is : IsBad octets

-- the end was found within so many turns, before the octets were a whole response
pub record CutOff (start : Option PeerHeld) (turns : ℕ) (last : Option PeerHeld) (octets : List ℕ) : Type 0 where
  pub turn : ℕ
  pub within : turn < turns
  pub held : Option PeerHeld
  pub gave : Gave start turn octets held
  pub end : FindsEnd held last
  pub waits : Looks Response octets Waits

-- so many turns passed, and what was read is no whole response
pub record Spent (start : Option PeerHeld) (turns : ℕ) (last : Option PeerHeld) : Type 0 where
  pub octets : List ℕ
  pub gave : Gave start turns octets last
  pub waits : Looks Response octets Waits

-- what was read of a peer once it was asked, and what is answered
abbrev pub Replied : Option PeerHeld → ℕ → Option PeerHeld → Result Told AskFault → Type 0
Replied start turns last (Ok told) = Answered start turns last told
Replied start turns last (Err faults.LinkFault) = Unit {0}
Replied start turns last (Err (faults.BadReply octets)) = Misread start turns last octets ⊎ CutOff start turns last octets
Replied start turns last (Err faults.TurnsSpent) = Spent start turns last
Replied start turns last (Err faults.NoMemory) = Unit {0}

-- exactly these octets were written to the peer, and then it was read
pub record Asks (request : List ℕ) (up : Option PeerHeld) (turns : ℕ) (last : Option PeerHeld) (result : Result Told AskFault) : Type 0
  where
    pub asked : Option PeerHeld
    pub writes : Becomes (wrote request) up asked
    pub replied : Replied asked turns last result

-- The peer that is up was asked and replied. Nothing is said where the link failed or memory ran out.
abbrev pub Conversed : List ℕ → Option PeerHeld → ℕ → Option PeerHeld → Result Told AskFault → Type 0
Conversed request up turns last (Ok told) = Asks request up turns last (Ok told)
Conversed request up turns last (Err faults.LinkFault) = Unit {0}
Conversed request up turns last (Err (faults.BadReply octets)) = Asks request up turns last (Err (faults.BadReply octets))
Conversed request up turns last (Err faults.TurnsSpent) = Asks request up turns last (Err faults.TurnsSpent)
Conversed request up turns last (Err faults.NoMemory) = Unit {0}

-- the peer was dialled, asked, and hung up
pub record Calls (request : List ℕ) (before : Option PeerHeld) (turns : ℕ) (after : Option PeerHeld) (result : Result Told AskFault) : Type
    0 where
  pub up : Option PeerHeld
  pub dials : Becomes dialled before up
  pub last : Option PeerHeld
  pub asks : Asks request up turns last result
  pub hangs_up : Becomes hung_up last after

-- every answer but that of a link that failed, and want of memory
abbrev pub Called : List ℕ → Option PeerHeld → ℕ → Option PeerHeld → Result Told AskFault → Type 0
Called request before turns after (Ok told) = Calls request before turns after (Ok told)
Called request before turns after (Err faults.LinkFault) = Unit {0}
Called request before turns after (Err (faults.BadReply octets)) = Calls request before turns after (Err (faults.BadReply octets))
Called request before turns after (Err faults.TurnsSpent) = Calls request before turns after (Err faults.TurnsSpent)
Called request before turns after (Err faults.NoMemory) = Unit {0}

-- ---- faults

-- a call on the peer failed, and not what it said
abbrev pub is_link_fault : AskFault → Bool
is_link_fault faults.LinkFault = true
is_link_fault (faults.BadReply octets) = false
is_link_fault faults.TurnsSpent = false
is_link_fault faults.NoMemory = false

-- the answer is that a call on the peer failed
abbrev pub is_link : {A : Type 0} → Result A AskFault → Bool
is_link (Ok x) = false
is_link (Err fault) = is_link_fault fault

-- what the count of a peer and its last call tell of several calls: the last of them failed, or none did
pub record LinkTells (before now : ℕ) (told : Option Bool) (link : Bool) : Type 0 where
  pub later : before ≤ now
  pub risen : link ≡ true → HasRisen before now
  pub kept : link ≡ false → now ≡ before
  pub last : IfSome told (λ failed. failed ≡ link)

-- the same, where it may be that memory ran out before the first call
abbrev pub CallTells : ℕ → ℕ → Option Bool → Option Bool → Result Told AskFault → Type 0
CallTells before now was told (Ok x) = LinkTells before now told false
CallTells before now was told (Err faults.LinkFault) = LinkTells before now told true
CallTells before now was told (Err (faults.BadReply octets)) = LinkTells before now told false
CallTells before now was told (Err faults.TurnsSpent) = LinkTells before now told false
CallTells before now was told (Err faults.NoMemory) = LinkTells before now told false ⊎ ((now ≡ before) × (told ≡ was))
