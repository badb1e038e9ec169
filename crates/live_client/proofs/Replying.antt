-- A reader of responses to which nothing was fed.
use Rattle.std.proofs.Common.{◌≡◌, ℕ, List, [], refl, sym, subst}
use Rattle.rc_http.specs.declared.message.Kind.TheVariants.{Response}
use Rattle.rc_http.specs.Feeding.{fresh, Feeding}
use Rattle.rc_http.specs.Looks.{Looks, Waits}
use Rattle.live_client.specs.Replies.{IsWaiting}

waits_none : Looks Response [] Waits
unfolding Looks
waits_none = refl

pub begun_waits : (f : Feeding) (octets : List ℕ) → f ≡ fresh Response → octets ≡ [] → IsWaiting f octets
begun_waits f octets new none =
    let P : Feeding → Type 0 = λ x. IsWaiting x octets in
    let Q : List ℕ → Type 0 = λ o. IsWaiting (fresh Response) o in
    subst P (sym new) (subst Q (sym none) (record { kind = refl; since = (refl, waits_none); waits = waits_none }))
