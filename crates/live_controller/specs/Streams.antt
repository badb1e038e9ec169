-- What comes on the streams of a session, as octets in any pieces.
use Rattle.std.specs.Prelude.{◌≡◌, ◌+◌, ◌<◌, ◌≤◌, ℕ, List, [], ◌++◌, length, take, None}
use Rattle.ikeless_tree.specs.declared.order.Notice.{Notice}
use Rattle.rc_http.specs.declared.message.HttpMessage.{HttpMessage}
use Rattle.rc_http.specs.declared.message.Kind.{Kind}
use Rattle.rc_http.specs.Feeding.{Feeding}
use Rattle.rc_http.specs.Looks.{Fails, Gives, Looks, Waits}
use Rattle.notice_lines.specs.declared.fault.NoticeFault.{NoticeFault}
use Rattle.notice_lines.specs.Reading.{Ends, HasNotice, IsFault, Open, Reading, begins}
use Rattle.live_controller.specs.declared.messages.Brought.{Brought}
use Rattle.live_controller.specs.declared.messages.Brought.TheVariants as brought
use Rattle.live_controller.specs.declared.notices.Noted.{Noted}
use Rattle.live_controller.specs.declared.notices.Noted.TheVariants as noted

-- ---- messages

-- the octets since the last message are none that is whole
pub record IsWaiting (sort : Kind) (f : Feeding) : Type 0 where
  pub kind : f.kind ≡ sort
  pub fault : f.fault ≡ None
  pub waits : Looks sort f.octets Waits

-- a message is whole after so many octets of the piece
pub record IsWhole (kind : Kind) (since piece : List ℕ) (m : HttpMessage) (taken : ℕ) : Type 0 where
  pub whole : Looks kind (since ++ piece) (Gives m (length since + taken))
  pub some : 0 < taken
  pub within : taken ≤ length piece

-- what a piece brings after the octets since the last message, and which octets there are then since the last message
abbrev pub Brings : Kind → List ℕ → List ℕ → List ℕ → Brought → Type 0
Brings kind since now piece brought.NoneYet = Looks kind (since ++ piece) Waits × (now ≡ since ++ piece)
Brings kind since now piece (brought.Whole m taken) = IsWhole kind since piece m taken × (now ≡ [])
Brings kind since now piece (brought.Broken fault) = Looks kind (since ++ piece) (Fails fault)

-- ---- notices

-- the octets since the last line are less than one
pub record IsPart (r : Reading) : Type 0 where
  pub fault : r.fault ≡ None
  pub unended : begins r.kept ≡ Open

-- a line is whole after so many octets of the piece, and is that of this notice
pub record IsNoted (since piece : List ℕ) (n : Notice) (taken : ℕ) : Type 0 where
  pub size : ℕ
  pub ends : begins (since ++ piece) ≡ Ends size
  pub has : HasNotice (take size (since ++ piece)) n
  pub count : length since + taken ≡ size + 1
  pub some : 0 < taken
  pub within : taken ≤ length piece

-- what a piece brings after the octets since the last line, and which octets there are then since the last line
abbrev pub Notes : List ℕ → List ℕ → List ℕ → Noted → Type 0
Notes since now piece noted.NoneYet = (begins (since ++ piece) ≡ Open) × (now ≡ since ++ piece)
Notes since now piece (noted.Line n taken) = IsNoted since piece n taken × (now ≡ [])
Notes since now piece noted.Broken = (fault : NoticeFault) × IsFault fault (since ++ piece)
