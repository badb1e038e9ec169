use Rattle.hist_controller.proofs.KeysInTurn.{spare-keys, left-key, left-serial}
use Rattle.hist_controller.proofs.facts.takes_keys_in_turn.Goals as goal

pub returns-clause-spare : goal.returns-clause-spare
returns-clause-spare c = spare-keys

pub returns-clause-key : goal.returns-clause-key
returns-clause-key c = left-key

pub returns-clause-serial : goal.returns-clause-serial
returns-clause-serial c = left-serial
