use Rattle.std.proofs.Common.{ℕ, ◌||◌, Bool, arith, ap, ◌∙◌, List, nat_eq}
use Rattle.std.specs.HashSet.{contains}
use Rattle.ctl_tunnels.specs.Halves.{half_named, names_in, names_out}
use Rattle.ctl_tunnels.proofs.Marks.{one-name-more}
use Rattle.ctl_tunnels.proofs.shown.Shown.of.Goals as goal

pub loop-name-preserved : goal.loop-name-preserved
loop-name-preserved c = (
  λ n. one-name-more (λ x. names_in (half_named x) n) c.args.names.now c.loop-name.name-index c.name-item.result
      (contains nat_eq c.loop-name.shown.inbound n) _ (omega arith) c.name-item.is (c.loop-name.invariant.0 n)
      (c.in_ok-add.ensures.inbound n ∙ ap (λ y. contains nat_eq c.loop-name.shown.inbound n || names_in (half_named y) n)
      c.as_slice.ensures),
  λ n. one-name-more (λ x. names_out (half_named x) n) c.args.names.now c.loop-name.name-index c.name-item.result
      (contains nat_eq c.loop-name.shown.outbound n) _ (omega arith) c.name-item.is (c.loop-name.invariant.1 n)
      (c.in_ok-add.ensures.outbound n ∙ ap (λ y. contains nat_eq c.loop-name.shown.outbound n || names_out (half_named y) n)
      c.as_slice.ensures),
)
