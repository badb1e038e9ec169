-- What the words of a command say can be done.
use Rattle.std.proofs.Common.{◌≡◌, ℕ, ◌≤◌, true, false, nat_le, List, Result, Ok, Err, IsOk, IsErr, refl, sym, ◌∙◌, subst}
use Rattle.std.specs.Prelude.{codes}
use Rattle.std.proofs.lemmas.Bool.{leb-true}
use Rattle.std.specs.declared.string.String.{String}
use Rattle.std.specs.declared.alloc.Global.{Global}
use Rattle.ikl_base.specs.declared.status.LineFault.{LineFault}
use Rattle.ikl_base.specs.declared.status.LineFault.TheVariants as faults
use Rattle.line_words.specs.Words.{number_in}
use Rattle.line_words.proofs.TakenSteps.{after, passed, inside, number_most}
use Rattle.clap.specs.Words.{Row}
use Rattle.gw_packets.specs.declared.done.Config.{Config}
use Rattle.gw_core.specs.Machine.{CanBoot}
use Rattle.live_words.specs.declared.gateway.GatewayWords.{GatewayWords}
use Rattle.live_words.specs.Apps.{gateway_app}
use Rattle.live_words.specs.Values.{address_at, count_at, count_of, matched_by, not_zero, port_at, value_at}
use Rattle.live_words.specs.Gateway.{config_in, wires_in, gateway_in, gateway_words_of}

-- ---- any words

false-true : false ≡ true → ⊥
false-true e = let none : ⊥ = cc in none

pub is-ok : {A : Type 0} (stated : Result A LineFault) (x : A) → stated ≡ Ok x → IsOk stated
is-ok (Ok y) x e = refl
is-ok (Err e) x is = cc

pub not-err : {A : Type 0} (stated : Result A LineFault) (x : A) → stated ≡ Ok x → IsErr stated → ⊥
not-err (Ok y) x e err = false-true err
not-err (Err e) x is err = cc

pub not-ok : {A : Type 0} (stated : Result A LineFault) → IsErr stated → IsOk stated → ⊥
not-ok (Ok y) err ok = false-true err
not-ok (Err e) err ok = false-true ok

pub err-isnt : {A : Type 0} (stated : Result A LineFault) (x : A) → IsErr stated → stated ≡ Ok x → ⊥
err-isnt stated x err is = not-err stated x is err

pub same-value : {A : Type 0} (stated : Result A LineFault) (x y : A) → stated ≡ Ok x → stated ≡ Ok y → x ≡ y
same-value stated x y a b = inside x y (sym a ∙ b)

-- ---- a gateway can have the limit of its numbers

count-bounds : (w : List ℕ) (n : ℕ) → count_of w ≡ Ok n → (1 ≤ n) × (n ≤ 4294967295)
count-bounds w n is =
    let P : Type 0 = (1 ≤ n) × (n ≤ 4294967295) in
    after P (number_in faults.Number 4294967295 w) not_zero n is
    (λ m read more. passed P (nat_le 1 m) (Ok m) faults.Number n more
    (λ low same.
    let most = number_most faults.Number 4294967295 w m read in
    let e = inside m n same in
    subst (λ z. (1 ≤ z) × (z ≤ 4294967295)) e (leb-true 1 m low, most)))

count-at-bounds : (name : List ℕ) (rows : List Row) (n : ℕ) → count_at name rows ≡ Ok n → (1 ≤ n) × (n ≤ 4294967295)
count-at-bounds name rows n is = after ((1 ≤ n) × (n ≤ 4294967295)) (value_at name rows) count_of n is (λ w _ more. count-bounds w n more)

config-boots : (rows : List Row) (c : Config) → config_in rows ≡ Ok c → CanBoot c
unfolding config_in
config-boots rows c is =
    let P : Type 0 = CanBoot c in
    after P (address_at (codes "address") rows) _ c is
    (λ a _ more. after P (count_at (codes "seq-last") rows) _ c more
    (λ n read same. subst CanBoot (inside _ c same) (count-at-bounds (codes "seq-last") rows n read)))

rows-boot : (rows : List Row) (w : GatewayWords) → gateway_in rows ≡ Ok w → CanBoot w.config
unfolding gateway_in
rows-boot rows w is =
    let P : Type 0 = CanBoot w.config in
    after P (config_in rows) _ w is
    (λ config read more. after P (wires_in rows) _ w more
    (λ _ _ more2. after P (port_at (codes "control") rows) _ w more2
    (λ _ _ more3. after P (port_at (codes "notice") rows) _ w more3
    (λ _ _ more4. after P (count_at (codes "turns") rows) _ w more4
    (λ _ _ same. subst (λ (v : GatewayWords). CanBoot v.config) (inside _ w same) (config-boots rows config read))))))

pub words-boot : (words : List (String Global)) (w : GatewayWords) → gateway_words_of words ≡ Ok w → CanBoot w.config
words-boot words w is = after (CanBoot w.config) (matched_by (codes "gateway") gateway_app words) gateway_in w is
    (λ rows _ more. rows-boot rows w more)
