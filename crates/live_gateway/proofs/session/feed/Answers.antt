use Rattle.std.proofs.Common.{ap, is_some, refl}
use Rattle.std.proofs.lemmas.Result.{IfOk-weaker}
use Rattle.live_gateway.proofs.Telling.{feeds_none, feeds_some, is_read, read_fed}
use Rattle.live_gateway.proofs.session.feed.Goals as goal

pub returns-in-None-clause-feeds : goal.returns-in-None-clause-feeds
returns-in-None-clause-feeds c = feeds_none c.args.session.now c.args.session.now c.args.piece.now c.in-None.is refl

pub returns-in-Some-clause-feeds : goal.returns-in-Some-clause-feeds
returns-in-Some-clause-feeds c =
    IfOk-weaker c.feed_next.result _ _ (λ b goes. feeds_some c.args.session.now _ c.feed_next.new.feeder c.args.piece.now b c.in-Some.is
    goes)
    c.feed_next.ensures.goes

pub returns-in-Some-clause-read : goal.returns-in-Some-clause-read
returns-in-Some-clause-read c =
    read_fed c.feed_next.result _ c.feed_next.new.feeder c.args.piece.now (is_read c.args.session.now _ c.in-Some.is c.requires)
    c.feed_next.ensures.goes
    c.feed_next.ensures.memory

pub returns-in-Some-clause-stays : goal.returns-in-Some-clause-stays
returns-in-Some-clause-stays c = λ e. ap is_some c.in-Some.is

pub feed_next-requires : goal.feed_next-requires
feed_next-requires c = is_read c.args.session.now _ c.in-Some.is c.requires
