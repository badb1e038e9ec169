use Rattle.std.proofs.Common.{◌≡◌, ◌<◌, List, ℕ, [], ◌∷◌, length, take, refl, arith}
use Rattle.std.proofs.lemmas.Result.{on_ok_weaker}
use Rattle.live_devices.specs.Reads.{End, Piece, Waiting}
use Rattle.live_controller.specs.Past.{Told}
use Rattle.live_controller.proofs.Doing.{calm-back, calm-front, later-by}
use Rattle.live_controller.proofs.Noting.{told-end, told-goes, told-piece, told-waits}
use Rattle.live_controller.proofs.Receipts.{notices-end, notices-none, notices-piece}
use Rattle.live_controller.proofs.desk.Desk.read_notices.Goals as goal

pub returns-in-Ok-None-clause-goes : goal.returns-in-Ok-None-clause-goes
returns-in-Ok-None-clause-goes g c = λ calm ps start past st.
    let call = c.in-Ok-None.ensures in
    let gives = rw c.in-Ok-None.field-0-is at call.gives in
    let came = notices-none c.args.g _ _ c.read_notice.new.buf gives.1 call.others.0 in
    told-goes ps start past c.args.g Waiting [] _ _ tt
    (told-waits ps start past c.args.g _ _ c.args.self.now c.requires.known c.requires.up st came.called came.found)

pub returns-then-n-eq0-clause-goes : goal.returns-then-n-eq0-clause-goes
returns-then-n-eq0-clause-goes g c =
    let call = c.in-Ok-Some.ensures in
    let gives = rw c.in-Ok-Some.field-0-is at call.gives in
    let room : length c.read_notice.new.buf ≡ 65536 = omega (arith, c.read_notice.auto.buf, c.requires.room) in
    let came = notices-end c.args.g c.in-Ok-Some.n _ _ c.read_notice.new.buf room c.if-n-eq0.true gives.1 call.others.0 in
    let first = later-by _ _ c.args.g _ call.cause call.counts.0 in
    on_ok_weaker c.cut.result (λ does calm ps start past st.
    told-goes ps start past c.args.g End [] _ _ tt
    (told-end ps start past c.args.g _ _ _ c.args.self.now c.cut.new.self c.requires.known c.requires.up st came.called came.found
    (does (calm-back _ _ _ first calm) st.agrees))) c.cut.ensures.does

pub returns-else-n-eq0-clause-goes : goal.returns-else-n-eq0-clause-goes
returns-else-n-eq0-clause-goes g c =
    let call = c.in-Ok-Some.ensures in
    let gives = rw c.in-Ok-Some.field-0-is at call.gives in
    let room : length c.read_notice.new.buf ≡ 65536 = omega (arith, c.read_notice.auto.buf, c.requires.room) in
    let some : 0 < c.in-Ok-Some.n = omega (arith, c.if-n-eq0.false) in
    let piece : List ℕ = c.split_at.result.0.now in
    let same : piece ≡ take c.in-Ok-Some.n c.read_notice.new.buf = cc in
    let came = notices-piece c.args.g c.in-Ok-Some.n _ _ c.read_notice.new.buf piece room some same gives.1 call.others.0 in
    let first = later-by _ _ c.args.g _ call.cause call.counts.0 in
    on_ok_weaker c.take_notices.result (λ goes calm ps start past st.
    let read = told-piece ps start past c.args.g piece _ _ c.args.self.now c.requires.known c.requires.up st came.called came.found in
    let taken = goes (calm-back _ _ _ first calm) ps start (Told c.args.g (Piece piece) ∷ past) read in
    told-goes ps start past c.args.g (Piece piece) taken.0 _ _ taken.1 taken.2) c.take_notices.ensures.goes

pub returns-in-Err-clause-goes : goal.returns-in-Err-clause-goes
returns-in-Err-clause-goes g c =
    on_ok_weaker c.cut-in-Err.result (λ later calm ps start past st.
    absurd (calm-front _ _ _ later calm c.args.g (c.in-Err.ensures.cause.failed refl))) c.cut-in-Err.ensures.later
