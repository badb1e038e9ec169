use Rattle.live_client.proofs.Replying.{begun_waits}
use Rattle.live_client.proofs.reading.Reading.begun.Goals as goal

pub returns-clause-waiting : goal.returns-clause-waiting
returns-clause-waiting c = begun_waits c.responses.result c.new.result.items c.responses.ensures c.new.ensures.items
