use Rattle.esp_frame.proofs.Opens.{inner_once, packet_finds, packet_is}
use Rattle.esp_frame.proofs.packet_law.Goals as goal

pub returns-clause-once : goal.returns-clause-once
returns-clause-once c = inner_once

pub returns-clause-exact : goal.returns-clause-exact
returns-clause-exact c = packet_is

pub returns-clause-finds : goal.returns-clause-finds
returns-clause-finds c = packet_finds
