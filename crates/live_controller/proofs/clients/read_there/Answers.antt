use Rattle.std.proofs.Common.{◌≡◌, ◌<◌, List, ℕ, ◌∷◌, Some, None, take, length, refl, subst, arith}
use Rattle.std.proofs.lemmas.Result.{on_ok_weaker}
use Rattle.live_devices.specs.Reads.{End, Piece, Waiting}
use Rattle.live_devices.proofs.Reading.{Gave, read-end, read-none, read-piece, reads-found, reads-makes}
use Rattle.live_controller.specs.Past.{Came_in}
use Rattle.live_controller.proofs.Doing.{later-same}
use Rattle.live_controller.proofs.Replying.{at-most-as, quiet-back}
use Rattle.live_controller.proofs.Requesting.{end-on, piece-on, waiting-on}
use Rattle.live_controller.proofs.clients.read_there.Goals as goal

pub returns-in-Err-clause-later : goal.returns-in-Err-clause-later
returns-in-Err-clause-later g c = later-same _

pub returns-in-Err-clause-goes : goal.returns-in-Err-clause-goes
returns-in-Err-clause-goes g c = λ calm quiet. absurd (quiet (c.in-Err.ensures.cause.failed refl))

pub returns-in-Ok-None-clause-later : goal.returns-in-Ok-None-clause-later
returns-in-Ok-None-clause-later g c = later-same _

pub returns-in-Ok-None-clause-goes : goal.returns-in-Ok-None-clause-goes
returns-in-Ok-None-clause-goes g c = λ calm quiet ps start past st.
    let gives = rw c.in-Ok-None.field-0-is at c.in-Ok-None.ensures.gives in
    waiting-on ps start past _ _ _ _ c.args.session.now c.requires.there
    (reads-makes _ _ None c.read.new.buf Waiting (λ a b r. read-none a b c.read.new.buf r) gives.1)
    (reads-found _ _ None c.read.new.buf Waiting (λ a b r. read-none a b c.read.new.buf r) gives.1) st

pub returns-then-n-eq0-clause-later : goal.returns-then-n-eq0-clause-later
returns-then-n-eq0-clause-later g c = later-same _

pub returns-then-n-eq0-clause-goes : goal.returns-then-n-eq0-clause-goes
returns-then-n-eq0-clause-goes g c = λ calm quiet ps start past st.
    let gives = rw c.in-Ok-Some.field-0-is at c.in-Ok-Some.ensures.gives in
    let room : length c.read.new.buf ≡ 65536 = omega (arith, c.read.auto.buf, c.requires.room) in
    end-on ps start past _ _ _ _ c.args.session.now _ c.requires.there refl
    (reads-makes _ _ (Some c.in-Ok-Some.n) c.read.new.buf End (λ a b r. read-end a b c.in-Ok-Some.n c.read.new.buf room c.if-n-eq0.true r)
    gives.1)
    (reads-found _ _ (Some c.in-Ok-Some.n) c.read.new.buf End (λ a b r. read-end a b c.in-Ok-Some.n c.read.new.buf room c.if-n-eq0.true r)
    gives.1) st

pub returns-else-n-eq0-clause-goes : goal.returns-else-n-eq0-clause-goes
returns-else-n-eq0-clause-goes g c =
    let gives = rw c.in-Ok-Some.field-0-is at c.in-Ok-Some.ensures.gives in
    let room : length c.read.new.buf ≡ 65536 = omega (arith, c.read.auto.buf, c.requires.room) in
    let some : 0 < c.in-Ok-Some.n = omega (arith, c.if-n-eq0.false) in
    let piece : List ℕ = c.split_at.result.0.now in
    let e : take c.in-Ok-Some.n c.read.new.buf ≡ piece = cc in
    on_ok_weaker c.take_requests.result (λ goes calm quiet ps start past st.
    let still = quiet-back _ _ _ (at-most-as _ _ (c.in-Ok-Some.ensures.cause.kept refl)) quiet in
    let came = piece-on ps start past piece _ (g.D.Dock.held c.read.new.self) _ _ _ c.requires.there
    (reads-makes _ _ (Some c.in-Ok-Some.n) c.read.new.buf (Piece piece)
    (λ a b r. subst (λ x. Gave a b (Piece x)) e (read-piece a b c.in-Ok-Some.n c.read.new.buf room some r)) gives.1)
    (reads-found _ _ (Some c.in-Ok-Some.n) c.read.new.buf (Piece piece)
    (λ a b r. subst (λ x. Gave a b (Piece x)) e (read-piece a b c.in-Ok-Some.n c.read.new.buf room some r)) gives.1) st in
    let more = goes calm still ps start (Came_in (Piece piece) ∷ past) came in (Piece piece, more.0, more.1, more.2))
    c.take_requests.ensures.goes
