use Rattle.std.proofs.Common.{◌+◌, [], ◌∷◌, drop, length, refl}
use Rattle.live_controller.specs.Links.{responses_at}
use Rattle.live_controller.specs.Past.{NoResponse, Response}
use Rattle.live_controller.proofs.Hearing.{Fed, agrees-fed, response-breaks, response-goes, response-waits}
use Rattle.live_controller.proofs.desk.Desk.take_next_response.Goals as goal

pub returns-in-NoneYet-clause-goes : goal.returns-in-NoneYet-clause-goes
returns-in-NoneYet-clause-goes g c = λ calm ps start past st.
    let fed = c.in_ok-feed_responses.ensures in
    let brings = rw c.in-NoneYet.is at fed.brings in (
      [],
      tt,
      response-waits ps start past c.args.g c.args.piece.now _ c.args.self.now c.feed_responses.new.self
          (record { peers = fed.peers; core = fed.core; up = fed.up; others = fed.others }) fed.notices brings.0 brings.1 c.requires.up st,
    )

pub returns-in_ok-cut-in-Broken-clause-goes : goal.returns-in_ok-cut-in-Broken-clause-goes
returns-in_ok-cut-in-Broken-clause-goes g c = λ calm ps start past st.
    let fed = c.in_ok-feed_responses.ensures in
    let brings = rw c.in-Broken.is at fed.brings in
    let all : Fed c.args.g c.args.self.now c.feed_responses.new.self =
    record { peers = fed.peers; core = fed.core; up = fed.up; others = fed.others } in
    let does = c.in_ok-cut-in-Broken.ensures.does calm (agrees-fed c.args.g _ _ all st.agrees) in (
      NoResponse c.args.g c.in-Broken.field-0 ∷ [],
      (refl, tt),
      response-breaks ps start past c.args.g c.args.piece.now (drop (length c.args.piece.now) c.args.piece.now) c.in-Broken.field-0 _ _
          c.args.self.now
          c.feed_responses.new.self c.cut.new.self c.requires.known all brings c.requires.up c.in_ok-cut-in-Broken.ensures.down does st,
    )

pub returns-in_ok-take_response-in-Whole-clause-goes : goal.returns-in_ok-take_response-in-Whole-clause-goes
returns-in_ok-take_response-in-Whole-clause-goes g c = λ calm ps start past st.
    let fed = c.in_ok-feed_responses.ensures in
    let brings = rw c.in-Whole.is at fed.brings in
    let all : Fed c.args.g c.args.self.now c.feed_responses.new.self =
    record { peers = fed.peers; core = fed.core; up = fed.up; others = fed.others } in
    let does = c.in_ok-take_response-in-Whole.ensures.does calm (agrees-fed c.args.g _ _ all st.agrees) in (
      Response c.args.g c.in-Whole.message (length (responses_at c.args.self.now.links.items c.args.g) + c.in-Whole.taken) ∷ [],
      (refl, tt),
      response-goes ps start past c.args.g c.args.piece.now c.in-Whole.message c.in-Whole.taken _ _ c.args.self.now
          c.feed_responses.new.self
          c.take_response.new.self c.requires.known all fed.notices brings.0 brings.1 c.requires.up does st,
    )
