use Rattle.std.proofs.Common.{append_assoc}
use Rattle.json_codec.proofs.CommandTokens.{second_added}
use Rattle.json_values.proofs.TokenLemmas.{after_ok}
use Rattle.json_codec.proofs.command_write.add_second.Goals as goal

pub returns : goal.returns
returns c = after_ok c.add_lifetime.result c.add_lifetime.ensures (λ h. second_added c.args.spec.now c.args.out.now c.add_lifetime.new.out
    (simp (h, c.in_ok-add_prefix.ensures, c.in_ok-add_gateway.ensures, c.in_ok-wide.ensures, append_assoc)))
