use Rattle.gf_poly.proofs.Field.{multiply-lt, multiply-one, multiply-xor, multiply_assoc, multiply_comm}
use Rattle.gf_poly.proofs.ring_law.Goals as goal

pub returns-clause-fits : goal.returns-clause-fits
returns-clause-fits c = λ d low a b small. multiply-lt d low small a b

pub returns-clause-associates : goal.returns-clause-associates
returns-clause-associates c = λ d low x y z small. multiply_assoc d low small x y z

pub returns-clause-commutes : goal.returns-clause-commutes
returns-clause-commutes c = λ d low a b small. multiply_comm d low small a b

pub returns-clause-distributes : goal.returns-clause-distributes
returns-clause-distributes c = λ d low x y z small. multiply-xor d low small x y z

pub returns-clause-unit : goal.returns-clause-unit
returns-clause-unit c = λ d low b small some. multiply-one d low small some b
