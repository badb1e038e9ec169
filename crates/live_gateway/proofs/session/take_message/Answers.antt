use Rattle.std.proofs.Common.{[], ◌∷◌}
use Rattle.live_gateway.specs.Past.{Broken, Message}
use Rattle.live_gateway.proofs.Sessions.{broken-goes, message-goes, nothing-goes}
use Rattle.live_gateway.proofs.Telling.{may_fed}
use Rattle.live_gateway.proofs.session.take_message.Goals as goal

pub returns-in-Err-clause-may : goal.returns-in-Err-clause-may
returns-in-Err-clause-may g c = may_fed _ _ _ c.in-Err.ensures.stays c.requires.may

pub returns-in-Ok-Nothing-clause-may : goal.returns-in-Ok-Nothing-clause-may
returns-in-Ok-Nothing-clause-may g c = may_fed _ _ _ c.in-Ok-Nothing.ensures.stays c.requires.may

pub returns-in-Ok-Nothing-clause-goes : goal.returns-in-Ok-Nothing-clause-goes
returns-in-Ok-Nothing-clause-goes g c = λ cfg start past st.
    let feeds = rw c.in-Ok-Nothing.field-0-is at c.in-Ok-Nothing.ensures.feeds in
    ([], tt, nothing-goes cfg start _ past c.args.piece.now _ _ c.feed.new.session feeds st)

pub returns-in-Ok-clause-goes : goal.returns-in-Ok-clause-goes
returns-in-Ok-clause-goes g c = λ cfg start past st.
    let feeds = rw c.in-Ok-Message.field-0-is at c.in-Ok-Message.ensures.feeds in (
      Message c.in-Ok-Message.message ∷ [],
      tt,
      message-goes cfg start _ _ past c.args.piece.now c.in-Ok-Message.message c.in-Ok-Message.taken _ _ _ _ _ feeds c.in-Ok.ensures.tunnel
          st
          c.in-Ok.ensures.does,
    )

pub returns-in-Ok-end_by-clause-goes : goal.returns-in-Ok-end_by-clause-goes
returns-in-Ok-end_by-clause-goes g c = λ cfg start past st.
    let feeds = rw c.in-Ok-Fault.field-0-is at c.in-Ok-Fault.ensures.feeds in
    let does = c.in-Ok-end_by.ensures.does in (
      Broken c.in-Ok-Fault.fault ∷ [],
      tt,
      broken-goes c.readers_hold.ensures cfg start _ _ past c.args.piece.now _ c.in-Ok-Fault.fault _ _ _ _ does.0 _ feeds
          c.in-Ok-end_by.ensures.ended
          st does.1,
    )
