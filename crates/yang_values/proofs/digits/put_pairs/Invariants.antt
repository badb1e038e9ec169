use Rattle.std.proofs.Common.{◌≡◌, ◌++◌, ◌∷◌, take}
use Rattle.std.specs.List.{flat_map}
use Rattle.yang_values.specs.HexText.{pair_text}
use Rattle.yang_values.proofs.digits.put_pairs.Given as goal

abbrev pub invariant-loop-octet : goal.invariant-loop-octet
invariant-loop-octet l = l.out.items ≡ l.fn.out.items ++ flat_map (λ octet. 58 ∷ pair_text octet) (take l.octet-index l.octets)
