use Rattle.drill_script.proofs.Transcripts.{transcript-counts}
use Rattle.drill_script.proofs.laws.lines_count_acts.Goals as goal

pub returns : goal.returns
returns c = transcript-counts c.digits_read_again.ensures
