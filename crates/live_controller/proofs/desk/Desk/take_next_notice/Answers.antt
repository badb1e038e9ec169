use Rattle.std.proofs.Common.{[], ◌∷◌, drop, length, refl}
use Rattle.live_controller.specs.Past.{Line, NoLine}
use Rattle.live_controller.proofs.Hearing.{Fed, agrees-fed}
use Rattle.live_controller.proofs.Noting.{line-breaks, line-goes, line-waits}
use Rattle.live_controller.proofs.desk.Desk.take_next_notice.Goals as goal

pub returns-in-NoneYet-clause-goes : goal.returns-in-NoneYet-clause-goes
returns-in-NoneYet-clause-goes g c = λ calm ps start past st.
    let fed = c.in_ok-feed_notices.ensures in
    let notes = rw c.in-NoneYet.is at fed.notes in (
      [],
      tt,
      line-waits ps start past c.args.g c.args.piece.now _ c.args.self.now c.feed_notices.new.self
          (record { peers = fed.peers; core = fed.core; up = fed.up; others = fed.others }) fed.responses notes.0 notes.1 c.requires.up st,
    )

pub returns-in_ok-cut-in-Broken-clause-goes : goal.returns-in_ok-cut-in-Broken-clause-goes
returns-in_ok-cut-in-Broken-clause-goes g c = λ calm ps start past st.
    let fed = c.in_ok-feed_notices.ensures in
    let notes = rw c.in-Broken.is at fed.notes in
    let all : Fed c.args.g c.args.self.now c.feed_notices.new.self =
    record { peers = fed.peers; core = fed.core; up = fed.up; others = fed.others } in
    let does = c.in_ok-cut-in-Broken.ensures.does calm (agrees-fed c.args.g _ _ all st.agrees) in (
      NoLine c.args.g notes.0 ∷ [],
      (refl, tt),
      line-breaks ps start past c.args.g c.args.piece.now (drop (length c.args.piece.now) c.args.piece.now) notes.0 _ _ c.args.self.now
          c.feed_notices.new.self c.cut.new.self c.requires.known all notes.1 c.requires.up c.in_ok-cut-in-Broken.ensures.down does st,
    )

pub returns-in_ok-take_notice-in-Line-clause-goes : goal.returns-in_ok-take_notice-in-Line-clause-goes
returns-in_ok-take_notice-in-Line-clause-goes g c = λ calm ps start past st.
    let fed = c.in_ok-feed_notices.ensures in
    let notes = rw c.in-Line.is at fed.notes in
    let all : Fed c.args.g c.args.self.now c.feed_notices.new.self =
    record { peers = fed.peers; core = fed.core; up = fed.up; others = fed.others } in
    let does = c.in_ok-take_notice-in-Line.ensures.does calm (agrees-fed c.args.g _ _ all st.agrees) in (
      Line c.args.g c.in-Line.notice notes.0.size ∷ [],
      (refl, tt),
      line-goes ps start past c.args.g c.args.piece.now c.in-Line.notice c.in-Line.taken _ _ c.args.self.now c.feed_notices.new.self
          c.take_notice.new.self c.requires.known all fed.responses notes.0 notes.1 c.requires.up does st,
    )
