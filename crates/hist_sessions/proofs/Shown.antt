-- One session by its acts: two orders, an answer, two notices of which one is heard, and a cut after which the second order is
-- handled.
use Rattle.std.proofs.Common.{◌≡◌, List, [], ◌∷◌, true, false, refl}
use Rattle.ikeless_tree.specs.declared.order.Notice.TheVariants as notices
use Rattle.ikeless_tree.specs.declared.order.Order.TheVariants as asks
use Rattle.hist_acts.specs.declared.act.Act.{Act}
use Rattle.hist_acts.specs.declared.act.Act.TheVariants as acts
use Rattle.hist_acts.specs.Past.{after}
use Rattle.session_pipe.specs.Past.{pipe_of}
use Rattle.session_pipe.specs.Sessions.{KeepsSessions}
use Rattle.session_pipe.specs.UnderWay.{UnderWay, no_session}
use Rattle.hist_world.proofs.Shown.{a, plain}
use Rattle.hist_sessions.specs.Heard.{answers_given, answers_heard, told}
use Rattle.hist_sessions.specs.Pipes.{piped}

abbrev session : List Act
session = acts.Opened a 1 ∷ acts.Order a 1 1 asks.Read ∷ acts.Order a 1 2 (asks.Policy []) ∷ acts.Handled a 1 1 (plain 200)
    ∷ acts.Notice a 1 (notices.BadSpi 7)
    ∷ acts.Notice a 1 (notices.BadSpi 8) ∷ acts.Answered a 1 1 (plain 200) ∷ acts.Heard a 1 (notices.BadSpi 7) ∷ []

abbrev ended : List Act
ended = acts.Cut a 1 ∷ acts.Policy a [] ∷ acts.Handled a 1 2 (plain 204) ∷ []

shown-keeps : KeepsSessions (after (after [] session) ended)
shown-keeps = (
  (refl, refl, (asks.Policy [], refl)),
  (
    tt,
    (
      (refl, refl),
      (
        (refl, refl),
        (
          (refl, refl, refl),
          (
            refl,
            (refl, ((refl, refl, (asks.Read, refl)), ((refl, refl, refl), ((refl, refl, refl), ((refl, refl), tt))))),
          ),
        ),
      ),
    ),
  ),
)

shown-given : answers_given a 1 (after (after [] session) ended) ≡ plain 200 ∷ plain 204 ∷ []
shown-given = refl

shown-heard : answers_heard a 1 (after (after [] session) ended) ≡ plain 200 ∷ []
shown-heard = refl

shown-told : told a 1 (after (after [] session) ended) ≡ notices.BadSpi 7 ∷ []
shown-told = refl

-- each message as one octet
abbrev calls : List Act → List Act → UnderWay → UnderWay
calls h more p = piped (λ w o. 1 ∷ []) (λ w r. 2 ∷ []) (λ w n. 3 ∷ []) a h more p

-- the second request and the second notice are under way
shown-under-way : calls [] session no_session ≡ record {
  openings = 1;
  is_open = true;
  is_taken = true;
  down = (1 ∷ []) ∷ [];
  up = [];
  note = (3 ∷ []) ∷ [];
}
shown-under-way = refl

-- after the cut nothing is heard any more
shown-ended : calls (after [] session) ended (calls [] session no_session) ≡ record {
  openings = 1;
  is_open = false;
  is_taken = true;
  down =
      [];
  up = [];
  note = [];
}
shown-ended = refl

shown-stands : pipe_of (λ w o. 1 ∷ []) (λ w r. 2 ∷ []) (λ w n. 3 ∷ []) a (after [] session) ≡ calls [] session no_session
shown-stands = refl
