-- A Feeder that is new, and one that has answered a fault.
use Rattle.std.proofs.Common.{◌≡◌, ◌≢◌, ℕ, List, [], ◌++◌, Some, refl, sym, arith, subst}
use Rattle.rc_http.specs.declared.message.HttpFault.{HttpFault}
use Rattle.rc_http.specs.declared.place.Place.TheVariants.{Before}
use Rattle.rc_http.specs.Feeding.{Feeding, IsSince, IsSinceBy}
use Rattle.rc_http.specs.Looks.{Looks, Fails, Waits}
use Rattle.rc_http.specs.Places.{place_after}
use Rattle.rc_http.specs.Stages.{IsHeadStage}
use Rattle.rc_http.proofs.LookLemmas.{looks_kept}

start_empty : IsHeadStage [] Before
unfolding place_after
start_empty = record { place_is = refl; short = omega arith }

pub start_stage : (kept : List ℕ) → kept ≡ [] → IsHeadStage kept Before
start_stage kept e = subst (λ l. IsHeadStage l Before) (sym e) start_empty

pub failed_again : (f : Feeding) (fault : HttpFault) (since piece : List ℕ) → f.fault ≡ Some fault → IsSince f since
    → Looks f.kind (since ++ piece) (Fails fault) × IsSince f (since ++ piece)
failed_again f fault since piece e x =
    let failed = subst (λ r. IsSinceBy f.kind f.octets r since) e x in
    let other : Fails fault ≢ Waits = λ w. cc in
    let later = looks_kept f.kind since piece (Fails fault) other failed in
    (later, subst (λ r. IsSinceBy f.kind f.octets r (since ++ piece)) (sym e) later)
