use Rattle.yang_values.proofs.PartsLemmas.{split_at_mark, split_without_mark}
use Rattle.yang_values.proofs.parts.first_part.Goals as goal

pub returns-in-Some-clause-value : goal.returns-in-Some-clause-value
returns-in-Some-clause-value c = (split_at_mark _ _ _ _ c.in-Some.ensures).0

pub returns-in-Some-clause-shorter : goal.returns-in-Some-clause-shorter
returns-in-Some-clause-shorter c = (split_at_mark _ _ _ _ c.in-Some.ensures).1

pub returns-in-None-clause-value : goal.returns-in-None-clause-value
returns-in-None-clause-value c = split_without_mark _ _ c.in-None.ensures
