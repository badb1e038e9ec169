use Rattle.std.proofs.Common.{append_assoc}
use Rattle.json_codec.proofs.CommandTokens.{tunnel_added}
use Rattle.json_values.proofs.TokenLemmas.{after_ok}
use Rattle.json_codec.proofs.command_write.add_tunnel.Goals as goal

pub returns : goal.returns
returns c = after_ok c.end_object.result c.end_object.ensures (λ h. tunnel_added c.args.spec.now c.args.out.now c.end_object.new.self
    (simp (h, c.in_ok-add_second.ensures, c.in_ok-add_first.ensures, c.in_ok-count.ensures, c.in_ok-begin_object.ensures, append_assoc)))
