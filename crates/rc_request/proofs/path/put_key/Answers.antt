use Rattle.std.proofs.Common.{arith, ap, ◌++◌, string_bytes}
use Rattle.std.proofs.lemmas.List.Elements.{All-from_get_or}
use Rattle.percent_encoding.proofs.PercentLemmas.{IsByte}
use Rattle.rc_request.proofs.KeyLemmas.{text_same}
use Rattle.rc_request.proofs.path.put_key.Goals as goal

pub returns : goal.returns
returns c =
    let small = All-from_get_or IsByte c.args.name.now 0 (λ i within. omega (arith, c.type_inv.name i)) in
    rw (c.in_ok-append_to.ensures.ok, c.percent_encode.ensures.text)
    (ap (λ t. string_bytes c.args.path.now ++ t) (text_same c.args.name.now small))
