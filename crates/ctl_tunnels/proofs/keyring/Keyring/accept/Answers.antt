use Rattle.std.proofs.Common.{◌≡◌, ℕ, ◌-◌, List, map, ◌++◌, length, take, drop, refl, sym, ap, ◌∙◌, arith}
use Rattle.std.proofs.lemmas.List.{take-append-drop}
use Rattle.indexmap.proofs.CallerLemmas.{insert_entry-new}
use Rattle.ctl_tunnels.specs.Rings.{salt_octets}
use Rattle.ctl_tunnels.proofs.Keys.{absent, one-more}
use Rattle.ctl_tunnels.proofs.keyring.Keyring.accept.Goals as goal

pub returns-clause-ok : goal.returns-clause-ok
returns-clause-ok c =
    let part = c.in_ok-aes.ensures.items ∙ c.aes_key.ensures in
    let none = absent (λ v. v.items) salt_octets (λ _. refl) c.args.key.now c.in_ok-aes.aes.items part c.self.inside.salts.entries
    c.args.self.now c.self.view_is c.requires in
    one-more (λ v. v.items) salt_octets c.self.inside.salts.entries c.insert.new.self.entries c.in_ok-aes.aes c.salt_of.result
    c.args.key.now c.args.self.now c.self.view_is
    (c.in_ok-insert.ensures.entries ∙ insert_entry-new _ c.self.inside.salts c.in_ok-aes.aes c.salt_of.result none)
    (ap (λ x. x ++ salt_octets c.salt_of.result) part ∙ ap (λ x. take (length c.args.key.now - 4) c.args.key.now ++ x) c.salt_of.ensures
    ∙ take-append-drop (length c.args.key.now - 4) c.args.key.now)
