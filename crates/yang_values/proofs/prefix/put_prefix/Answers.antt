use Rattle.std.proofs.Common.{◌∷◌, ◌++◌, sym, ap, refl}
use Rattle.std.specs.Fmt.{decimal}
use Rattle.yang_values.specs.Addresses.{address_text}
use Rattle.yang_values.specs.Prefixes.{prefix_text}
use Rattle.ikl_base.proofs.FrontLemmas.{front-first, adds-refused, adds-marked}
use Rattle.yang_values.proofs.prefix.put_prefix.Goals as goal

pub returns-in_err-put_address : goal.returns-in_err-put_address
unfolding prefix_text
returns-in_err-put_address c =
    adds-refused _ _ _ _ c.from_residual.ensures.0
    (front-first _ _ _ (address_text c.args.p.now.addr) (47 ∷ decimal c.args.p.now.len) refl c.in_err-put_address.ensures)

pub returns : goal.returns
unfolding prefix_text
returns c =
    adds-marked _ _ _ _ _ _ (address_text c.args.p.now.addr) (decimal c.from.result) 47
    (ap (λ n. address_text c.args.p.now.addr ++ 47 ∷ decimal n) (sym c.from.ensures))
    c.in_ok-put_address.ensures c.in_ok-push.ensures.items c.put_number.ensures
