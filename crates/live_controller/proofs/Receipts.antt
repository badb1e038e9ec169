-- What reads of a peer give.
use Rattle.std.proofs.Common.{◌≡◌, ◌<◌, ℕ, List, length, take, Option, Some, None, sym, ap, subst, ◌∙◌}
use Rattle.live_devices.specs.Comings.{found}
use Rattle.live_devices.specs.Dialers.{PeerHeld, StaysBut}
use Rattle.live_devices.specs.Dialers as dialers
use Rattle.live_devices.specs.Streams.{Read, Stream}
use Rattle.live_devices.specs.Reads.{Came, End, Makes, Piece, Waiting, came_of}
use Rattle.live_devices.proofs.Reading.{Gave, none-some, read-end, read-none, read-piece, some-same}
use Rattle.live_controller.specs.Past.{Heard, Told}
use Rattle.live_controller.specs.Found.{called_at, read_control, read_notices}
use Rattle.live_controller.proofs.Doing.{one-peer}

-- ---- reads of a peer

control-is : (old new p : PeerHeld) (came : Came) → new ≡ record old { control = new.control } → Gave old.control new.control came
    → Some old ≡ Some p
    → new ≡ read_control p
control-is old new p came e gave same =
    let whole : new ≡ read_control old = e ∙ ap (λ (s : Stream). record old { control = s }) gave.after in
    whole ∙ ap read_control (some-same old p same)

pub control-makes : (old new : Option PeerHeld) (answer : Option ℕ) (buf : List ℕ) (came : Came)
    → ((a b : Stream) → Read a b answer buf → Gave a b came) → dialers.Reads old new answer buf → Makes read_control old new
control-makes None new answer buf came gives r = λ p e. absurd (none-some p e)
control-makes (Some old) None answer buf came gives r = absurd r
control-makes (Some old) (Some new) answer buf came gives r = λ p e.
    ap Some (control-is old new p came r.0 (gives old.control new.control r.1) e)

pub control-found : (old new : Option PeerHeld) (answer : Option ℕ) (buf : List ℕ) (came : Came)
    → ((a b : Stream) → Read a b answer buf → Gave a b came) → dialers.Reads old new answer buf → (p : PeerHeld) → old ≡ Some p
    → came ≡ came_of p.control
control-found None new answer buf came gives r p e = absurd (none-some p e)
control-found (Some old) None answer buf came gives r p e = absurd r
control-found (Some old) (Some new) answer buf came gives r p e =
    (gives old.control new.control r.1).gives ∙ ap (λ (x : PeerHeld). came_of x.control) (some-same old p e)

notices-is : (old new p : PeerHeld) (came : Came) → new ≡ record old { notices = new.notices } → Gave old.notices new.notices came
    → Some old ≡ Some p
    → new ≡ read_notices p
notices-is old new p came e gave same =
    let whole : new ≡ read_notices old = e ∙ ap (λ (s : Stream). record old { notices = s }) gave.after in
    whole ∙ ap read_notices (some-same old p same)

pub notices-makes : (old new : Option PeerHeld) (answer : Option ℕ) (buf : List ℕ) (came : Came)
    → ((a b : Stream) → Read a b answer buf → Gave a b came) → dialers.ReadsNotice old new answer buf → Makes read_notices old new
notices-makes None new answer buf came gives r = λ p e. absurd (none-some p e)
notices-makes (Some old) None answer buf came gives r = absurd r
notices-makes (Some old) (Some new) answer buf came gives r = λ p e.
    ap Some (notices-is old new p came r.0 (gives old.notices new.notices r.1) e)

pub notices-found : (old new : Option PeerHeld) (answer : Option ℕ) (buf : List ℕ) (came : Came)
    → ((a b : Stream) → Read a b answer buf → Gave a b came) → dialers.ReadsNotice old new answer buf → (p : PeerHeld) → old ≡ Some p
    → came ≡ came_of p.notices
notices-found None new answer buf came gives r p e = absurd (none-some p e)
notices-found (Some old) None answer buf came gives r p e = absurd r
notices-found (Some old) (Some new) answer buf came gives r p e =
    (gives old.notices new.notices r.1).gives ∙ ap (λ (x : PeerHeld). came_of x.notices) (some-same old p e)

-- what a read of one peer's stream came to
pub record ControlCame (g : ℕ) (was is : ℕ → Option PeerHeld) (came : Came) : Type 0 where
  pub called : (k : ℕ) → Makes (called_at k (Heard g came)) (was k) (is k)
  pub found : (p : PeerHeld) → was g ≡ Some p → came ≡ came_of p.control

pub record NoticesCame (g : ℕ) (was is : ℕ → Option PeerHeld) (came : Came) : Type 0 where
  pub called : (k : ℕ) → Makes (called_at k (Told g came)) (was k) (is k)
  pub found : (p : PeerHeld) → was g ≡ Some p → came ≡ came_of p.notices

control-came : (g : ℕ) (was is : ℕ → Option PeerHeld) (answer : Option ℕ) (buf : List ℕ) (came : Came)
    → ((a b : Stream) → Read a b answer buf → Gave a b came) → dialers.Reads (was g) (is g) answer buf → StaysBut g was is
    → ControlCame g was is came
control-came g was is answer buf came gives r others = record {
  called = one-peer read_control was is g (control-makes (was g) (is g) answer buf came gives r) others;
  found = control-found (was g) (is g) answer buf came gives r;
}

notices-came : (g : ℕ) (was is : ℕ → Option PeerHeld) (answer : Option ℕ) (buf : List ℕ) (came : Came)
    → ((a b : Stream) → Read a b answer buf → Gave a b came) → dialers.ReadsNotice (was g) (is g) answer buf → StaysBut g was is
    → NoticesCame g was is came
notices-came g was is answer buf came gives r others = record {
  called = one-peer read_notices was is g (notices-makes (was g) (is g) answer buf came gives r) others;
  found = notices-found (was g) (is g) answer buf came gives r;
}

pub control-none : (g : ℕ) (was is : ℕ → Option PeerHeld) (buf : List ℕ) → dialers.Reads (was g) (is g) None buf → StaysBut g was is
    → ControlCame g was is Waiting
control-none g was is buf = control-came g was is None buf Waiting (λ a b r. read-none a b buf r)

pub control-end : (g n : ℕ) (was is : ℕ → Option PeerHeld) (buf : List ℕ) → length buf ≡ 65536 → n ≡ 0 → dialers.Reads (was g) (is g)
    (Some n) buf
    → StaysBut g was is → ControlCame g was is End
control-end g n was is buf room nil = control-came g was is (Some n) buf End (λ a b r. read-end a b n buf room nil r)

pub control-piece : (g n : ℕ) (was is : ℕ → Option PeerHeld) (buf piece : List ℕ) → length buf ≡ 65536 → 0 < n → piece ≡ take n buf
    → dialers.Reads (was g) (is g) (Some n) buf → StaysBut g was is → ControlCame g was is (Piece piece)
control-piece g n was is buf piece room some same r others =
    let P : List ℕ → Type 0 = λ octets. ControlCame g was is (Piece octets) in
    subst P (sym same) (control-came g was is (Some n) buf (Piece (take n buf)) (λ a b q. read-piece a b n buf room some q) r others)

pub notices-none : (g : ℕ) (was is : ℕ → Option PeerHeld) (buf : List ℕ) → dialers.ReadsNotice (was g) (is g) None buf → StaysBut g was is
    → NoticesCame g was is Waiting
notices-none g was is buf = notices-came g was is None buf Waiting (λ a b r. read-none a b buf r)

pub notices-end : (g n : ℕ) (was is : ℕ → Option PeerHeld) (buf : List ℕ) → length buf ≡ 65536 → n ≡ 0
    → dialers.ReadsNotice (was g) (is g) (Some n) buf → StaysBut g was is → NoticesCame g was is End
notices-end g n was is buf room nil = notices-came g was is (Some n) buf End (λ a b r. read-end a b n buf room nil r)

pub notices-piece : (g n : ℕ) (was is : ℕ → Option PeerHeld) (buf piece : List ℕ) → length buf ≡ 65536 → 0 < n → piece ≡ take n buf
    → dialers.ReadsNotice (was g) (is g) (Some n) buf → StaysBut g was is → NoticesCame g was is (Piece piece)
notices-piece g n was is buf piece room some same r others =
    let P : List ℕ → Type 0 = λ octets. NoticesCame g was is (Piece octets) in
    subst P (sym same) (notices-came g was is (Some n) buf (Piece (take n buf)) (λ a b q. read-piece a b n buf room some q) r others)
