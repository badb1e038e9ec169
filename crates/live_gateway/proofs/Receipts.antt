-- What receipts, accepts and reads give.
use Rattle.std.proofs.Common.{◌≡◌, ℕ, min, List, length, take, Option, Some, None, refl, ap, ◌∙◌, arith}
use Rattle.std.proofs.lemmas.List.{take_min}
use Rattle.live_devices.specs.Comings.{found}
use Rattle.live_devices.specs.Wires.{IsReceived, Receives, WireHeld}
use Rattle.live_devices.specs.Reads.{Makes}
use Rattle.live_devices.proofs.Reading.{none-some, some-same}
use Rattle.live_gateway.specs.Found.{cut, received}

-- ---- wires

pub receives-makes : (old new : Option WireHeld) (answer : Option ℕ) (into : List ℕ) → Receives old new answer into → Makes received old new
receives-makes None new answer into r = λ w e. absurd (none-some w e)
receives-makes (Some old) None answer into r = absurd r
receives-makes (Some old) (Some new) answer into r = λ w e. ap Some (r.0 ∙ ap received (some-same old w e))

-- what an answer gives of a buffer
abbrev pub datagram_in : Option ℕ → List ℕ → Option (List ℕ)
datagram_in None into = None
datagram_in (Some n) into = Some (take n into)

cut-is : (n : ℕ) (d into : List ℕ) → length into ≡ 65575 → n ≡ min (length d) (length into) → take n into ≡ take n d
    → take n into ≡ take 65575 d
cut-is n d into room size same =
    let first : take n d ≡ take (min 65575 (length d)) d = ap (λ k. take k d) (omega (arith, size, room)) in
    same ∙ first ∙ take_min 65575 d

received-cut : (x : Option (List ℕ)) (answer : Option ℕ) (into : List ℕ) → length into ≡ 65575 → IsReceived x answer into
    → datagram_in answer into ≡ cut x
received-cut None None into room r = refl
received-cut None (Some n) into room r = absurd r
received-cut (Some d) None into room r = absurd r
received-cut (Some d) (Some n) into room r = ap Some (cut-is n d into room r.0 r.1)

pub receives-found : (old new : Option WireHeld) (answer : Option ℕ) (into : List ℕ) → length into ≡ 65575 → Receives old new answer into
    → (w : WireHeld) → old ≡ Some w → datagram_in answer into ≡ cut (found w.coming)
receives-found None new answer into room r w e = absurd (none-some w e)
receives-found (Some old) None answer into room r w e = absurd r
receives-found (Some old) (Some new) answer into room r w e =
    received-cut (found old.coming) answer into room r.1 ∙ ap (λ (v : WireHeld). cut (found v.coming)) (some-same old w e)
