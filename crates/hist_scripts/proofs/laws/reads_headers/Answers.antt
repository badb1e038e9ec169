use Rattle.hist_scripts.proofs.HeaderRead.{header-read}
use Rattle.hist_scripts.proofs.laws.reads_headers.Goals as goal

pub returns : goal.returns
returns c = header-read
