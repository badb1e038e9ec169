-- Ranges of values, and what `clap` says of the commands.
use Rattle.std.proofs.Common.{◌≡◌, true, Option, Some, None, IsSomeAnd, ap, refl}
use Rattle.clap.specs.Words.{is_simple_and_free}
use Rattle.live_words.specs.Apps.{gateway_app, controller_app, client_app, drill_app}

pub some-is : {T : Type 0} (o : Option T) (x : T) → IsSomeAnd o (λ r. r ≡ x) → o ≡ Some x
some-is (Some r) x h = ap Some h
some-is None x h = absurd h

-- ---- each command is a simple one

pub gateway-simple : is_simple_and_free gateway_app ≡ true
unfolding gateway_app
gateway-simple = refl

pub controller-simple : is_simple_and_free controller_app ≡ true
unfolding controller_app
controller-simple = refl

pub client-simple : is_simple_and_free client_app ≡ true
unfolding client_app
client-simple = refl

pub drill-simple : is_simple_and_free drill_app ≡ true
unfolding drill_app
drill-simple = refl
