use Rattle.esp_frame.proofs.Opens.{opened_finds, opened_is, opens_once}
use Rattle.esp_frame.proofs.text_law.Goals as goal

pub returns-clause-once : goal.returns-clause-once
returns-clause-once c = opens_once

pub returns-clause-exact : goal.returns-clause-exact
returns-clause-exact c = opened_is

pub returns-clause-finds : goal.returns-clause-finds
returns-clause-finds c = opened_finds
