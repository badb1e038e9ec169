use Rattle.gf_poly.proofs.Division.{divided, modulus, quotient, quotient-lt, remainder-lt}
use Rattle.gf_poly.proofs.division_law.Goals as goal

pub returns-clause-divides : goal.returns-clause-divides
unfolding modulus
returns-clause-divides c = λ d low n p small some lt. (
  quotient d low small n p,
  quotient-lt d low small n p,
  divided d low small n p lt
      some,
)

pub returns-clause-fits : goal.returns-clause-fits
returns-clause-fits c = λ d low n p small some. remainder-lt d low small n p some
