use Rattle.std.proofs.Common.{◌≡◌, ℕ, refl, ap, ◌∙◌}
use Rattle.hist_controller.specs.Law.{is_seen}
use Rattle.ctl_tunnels.specs.Rings.{salt_octets}
use Rattle.ctl_tunnels.proofs.Keys.{seen-lookup}
use Rattle.ctl_tunnels.proofs.keyring.Keyring.is_seen.Goals as goal

pub returns : goal.returns
returns c = c.contains_key.ensures ∙ seen-lookup (λ v. v.items) salt_octets (λ _. refl) c.args.key.now c.aes_key.result.now
    c.aes_key.ensures c.self.inside.salts.entries ∙ ap (is_seen c.args.key.now) c.self.view_is
