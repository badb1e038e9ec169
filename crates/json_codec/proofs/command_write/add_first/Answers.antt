use Rattle.std.proofs.Common.{append_assoc}
use Rattle.json_codec.proofs.CommandTokens.{first_added}
use Rattle.json_values.proofs.TokenLemmas.{after_ok}
use Rattle.json_codec.proofs.command_write.add_first.Goals as goal

pub returns : goal.returns
returns c = after_ok c.word.result c.word.ensures (λ h. first_added c.args.spec.now c.args.out.now c.word.new.self
    (simp (h, c.in_ok-add_lifetime.ensures, c.in_ok-add_prefix.ensures, c.in_ok-add_gateway.ensures, c.mode_text.ensures, append_assoc)))
