-- What the octets read of a response say, and what a client answers of them.
use Rattle.std.specs.Prelude.{◌≡◌, ◌⊎◌, ℕ, List, Option, Some, None, Result, Ok, Err}
use Rattle.rc_http.specs.declared.message.HttpFault.{HttpFault}
use Rattle.rc_http.specs.declared.message.HttpMessage.{HttpMessage}
use Rattle.rc_http.specs.declared.message.Kind.TheVariants.{Response}
use Rattle.rc_http.specs.Feeding.{Feeding, IsSince}
use Rattle.rc_http.specs.Looks.{Fails, Gives, Looks, Waits}
use Rattle.rc_answer.specs.declared.answer.BadAnswer.{BadAnswer}
use Rattle.rc_operations.specs.declared.told.Told.{Told}
use Rattle.rc_operations.specs.Replies.{told_of}
use Rattle.live_client.specs.declared.fault.AskFault.{AskFault}
use Rattle.live_client.specs.declared.fault.AskFault.TheVariants as faults

-- the octets begin with a whole response, which says this
pub record IsTold (octets : List ℕ) (told : Told) : Type 0 where
  pub message : HttpMessage
  pub size : ℕ
  pub whole : Looks Response octets (Gives message size)
  pub says : told_of message ≡ Ok told

-- the octets begin with a whole response that says nothing
pub record IsMute (octets : List ℕ) : Type 0 where
  pub message : HttpMessage
  pub size : ℕ
  pub whole : Looks Response octets (Gives message size)
  pub why : BadAnswer
  pub says : told_of message ≡ Err why

-- the octets are no response, or begin with one that says nothing
abbrev pub IsBad : List ℕ → Type 0
IsBad octets = IsMute octets ⊎ ((fault : HttpFault) × Looks Response octets (Fails fault))

-- these octets were fed to the reader, and are no whole response yet
pub record IsWaiting (f : Feeding) (octets : List ℕ) : Type 0 where
  pub kind : f.kind ≡ Response
  pub since : IsSince f octets
  pub waits : Looks Response octets Waits

-- what is answered to a whole response, of which this is stated
abbrev pub Says : List ℕ → Result Told BadAnswer → Result (Option Told) AskFault → Type 0
Says octets stated (Ok None) = ⊥
Says octets stated (Ok (Some told)) = stated ≡ Ok told
Says octets stated (Err faults.LinkFault) = ⊥
Says octets stated (Err (faults.BadReply bad)) = (bad ≡ octets) × (why : BadAnswer) × (stated ≡ Err why)
Says octets stated (Err faults.TurnsSpent) = ⊥
Says octets stated (Err faults.NoMemory) = Unit {0}

-- what is answered once these octets were read; nothing where they are no whole response, and then these are kept
abbrev pub Takes : List ℕ → Feeding → List ℕ → Result (Option Told) AskFault → Type 0
Takes octets f kept (Ok None) = (kept ≡ octets) × IsWaiting f kept
Takes octets f kept (Ok (Some told)) = IsTold octets told
Takes octets f kept (Err faults.LinkFault) = ⊥
Takes octets f kept (Err (faults.BadReply bad)) = (bad ≡ octets) × IsBad octets
Takes octets f kept (Err faults.TurnsSpent) = ⊥
Takes octets f kept (Err faults.NoMemory) = Unit {0}
