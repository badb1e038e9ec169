use Rattle.esp_frame.proofs.Opens.{length-esp, sealed_fields, sealed_opens}
use Rattle.esp_frame.proofs.seal_law.Goals as goal

pub returns-clause-opens : goal.returns-clause-opens
returns-clause-opens c = sealed_opens

pub returns-clause-len : goal.returns-clause-len
returns-clause-len c = length-esp

pub returns-clause-fields : goal.returns-clause-fields
returns-clause-fields c = sealed_fields
