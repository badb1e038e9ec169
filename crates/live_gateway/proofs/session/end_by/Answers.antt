use Rattle.live_gateway.proofs.session.end_by.Goals as goal

pub returns-clause-does : goal.returns-clause-does
returns-clause-does g c = (c.refuse.new.node.session, c.in-Ok.ensures.does)
