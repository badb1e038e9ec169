use Rattle.std.proofs.Common.{◌≡◌, ◌<◌, List, ℕ, [], ◌∷◌, Some, None, take, length, refl, subst, arith}
use Rattle.std.proofs.lemmas.Result.{on_ok_weaker}
use Rattle.live_devices.specs.Reads.{End, Piece, Waiting}
use Rattle.live_devices.proofs.Reading.{Gave, read-end, read-none, read-piece, reads-found, reads-makes}
use Rattle.live_gateway.specs.Past.{Came_in}
use Rattle.live_gateway.proofs.Sessions.{end-goes, failed-goes, piece-goes, waiting-goes}
use Rattle.live_gateway.proofs.Telling.{some_there}
use Rattle.live_gateway.proofs.session.read_there.Goals as goal

pub returns-in-Err-clause-goes : goal.returns-in-Err-clause-goes
returns-in-Err-clause-goes g c = λ cfg start past st. (
  Waiting,
  [],
  tt,
  failed-goes cfg start _ _ past (Came_in Waiting ∷ past) [] [] _ _ _ _ c.in-Err.ensures.cause.later
      (c.in-Err.ensures.cause.failed refl) st,
)

pub returns-in-Ok-None-clause-goes : goal.returns-in-Ok-None-clause-goes
returns-in-Ok-None-clause-goes g c = λ cfg start past st.
    let gives = rw c.in-Ok-None.field-0-is at c.in-Ok-None.ensures.gives in (
      Waiting,
      [],
      tt,
      waiting-goes cfg start _ (g.D.Dock.held c.read.new.self) (g.D.Dock.faults c.read.new.self) past _ _
          (c.in-Ok-None.ensures.cause.kept refl) (some_there _ c.requires.there) st
          (reads-makes _ _ None c.read.new.buf Waiting (λ a b r. read-none a b c.read.new.buf r) gives.1)
          (reads-found _ _ None c.read.new.buf Waiting (λ a b r. read-none a b c.read.new.buf r) gives.1),
    )

pub returns-then-n-eq0-clause-goes : goal.returns-then-n-eq0-clause-goes
returns-then-n-eq0-clause-goes g c = λ cfg start past st.
    let gives = rw c.in-Ok-Some.field-0-is at c.in-Ok-Some.ensures.gives in
    let room : length c.read.new.buf ≡ 65536 = omega (arith, c.read.auto.buf, c.requires.room) in (
      End,
      [],
      tt,
      end-goes c.readers_hold.ensures cfg start _ (g.D.Dock.held c.read.new.self) (g.D.Dock.faults c.read.new.self) past _ _ None
          (c.in-Ok-Some.ensures.cause.kept refl) (some_there _ c.requires.there) refl st
          (reads-makes _ _ (Some c.in-Ok-Some.n) c.read.new.buf End (λ a b r. read-end a b c.in-Ok-Some.n c.read.new.buf room
          c.if-n-eq0.true r) gives.1)
          (reads-found _ _ (Some c.in-Ok-Some.n) c.read.new.buf End (λ a b r. read-end a b c.in-Ok-Some.n c.read.new.buf room
          c.if-n-eq0.true r) gives.1),
    )

pub returns-else-n-eq0-clause-goes : goal.returns-else-n-eq0-clause-goes
returns-else-n-eq0-clause-goes g c =
    let gives = rw c.in-Ok-Some.field-0-is at c.in-Ok-Some.ensures.gives in
    let room : length c.read.new.buf ≡ 65536 = omega (arith, c.read.auto.buf, c.requires.room) in
    let some : 0 < c.in-Ok-Some.n = omega (arith, c.if-n-eq0.false) in
    let piece : List ℕ = c.split_at.result.0.now in
    let e : take c.in-Ok-Some.n c.read.new.buf ≡ piece = cc in
    on_ok_weaker c.take_piece.result (λ goes cfg start past st.
    let came = piece-goes cfg start _ (g.D.Dock.held c.read.new.self) (g.D.Dock.faults c.read.new.self) past piece _ _
    (c.in-Ok-Some.ensures.cause.kept refl) (some_there _ c.requires.there) st
    (reads-makes _ _ (Some c.in-Ok-Some.n) c.read.new.buf (Piece piece)
    (λ a b r. subst (λ x. Gave a b (Piece x)) e (read-piece a b c.in-Ok-Some.n c.read.new.buf room some r)) gives.1)
    (reads-found _ _ (Some c.in-Ok-Some.n) c.read.new.buf (Piece piece)
    (λ a b r. subst (λ x. Gave a b (Piece x)) e (read-piece a b c.in-Ok-Some.n c.read.new.buf room some r)) gives.1) in
    let more = goes cfg start (Came_in (Piece piece) ∷ past) came in (Piece piece, more.0, more.1, more.2)) c.take_piece.ensures.goes
