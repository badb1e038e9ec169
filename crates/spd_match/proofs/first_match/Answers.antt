use Rattle.std.proofs.Common.{◌∙◌, ap, option_and_then, slice_get}
use Rattle.ip_packet.specs.View.{seen}
use Rattle.spd_match.specs.Match.{decides}
use Rattle.spd_match.proofs.KeptLemmas.{found}
use Rattle.spd_match.proofs.first_match.Goals as goal

pub returns-clause-entry : goal.returns-clause-entry
returns-clause-entry c = ap (λ place. option_and_then (slice_get c.args.list.now) place) c.place_of.ensures
    ∙ found (decides c.args.d (seen c.args.v.now)) c.args.list.now
