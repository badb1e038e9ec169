-- How far a direction has come is told by five parts.
use Rattle.std.proofs.Common.{◌≡◌, Bool, ◌||◌, List, ◌++◌, Option, Some, None, refl, ap, arith}
use Rattle.std.specs.Option.{option_map}
use Rattle.std.specs.List.{list_any}
use Rattle.hist_controller.specs.Acts.{Way, Association, ControllerAct}
use Rattle.hist_controller.specs.Past.{left}
use Rattle.hist_controller.specs.Clauses.{Has}
use Rattle.hist_controller.proofs.Gives.{first-some}
use Rattle.ctl_tunnels.specs.declared.life.HalfOrder.{HalfOrder}
use Rattle.ctl_tunnels.specs.declared.life.Life.{Life}
use Rattle.ctl_tunnels.specs.declared.progress.Progress.{Progress}
use Rattle.ctl_tunnels.specs.Steps as steps
use Rattle.hist_controller.specs.Left.{listed, newest_left, older_left}

abbrev pub progress : Bool → Bool → Option HalfOrder → Option Life → Option Life → Progress
progress o w q a b = record { over = o; wanted = w; waits = q; older = a; newer = b }

pub same-progress : (o p w v : Bool) (q r : Option HalfOrder) (a b m n : Option Life) → o ≡ p → w ≡ v → q ≡ r → a ≡ b → m ≡ n
    → progress o w q a m ≡ progress p v r b n
same-progress o p w v q r a b m n e f g i j = rw (e, f, g, i, j) refl

pub same-first : (f k : Association → Life) (o : Option Association) → ((x : Association) → o ≡ Some x → f x ≡ k x)
    → option_map f o ≡ option_map k o
same-first f k None e = refl
same-first f k (Some x) e = ap Some (e x refl)

pub made-first : (g : Life → Life) (f k : Association → Life) (o : Option Association) → ((x : Association) → o ≡ Some x → g (f x) ≡ k x)
    → steps.made g (option_map f o) ≡ option_map k o
made-first g f k None e = refl
made-first g f k (Some x) e = ap Some (e x refl)

pub kept-first : (g : Life → Option Life) (f k : Association → Life) (o : Option Association)
    → ((x : Association) → o ≡ Some x → g (f x) ≡ Some (k x)) → steps.kept g (option_map f o) ≡ option_map k o
kept-first g f k None e = refl
kept-first g f k (Some x) e = e x refl

pub older-left : (d : Way) (h : List ControllerAct) (x : Association) → older_left d h ≡ Some x → Has x (left d h)
older-left d h x e = (first-some _ (left d h) x e).0

pub newest-left : (d : Way) (h : List ControllerAct) (x : Association) → newest_left d h ≡ Some x → Has x (left d h)
newest-left d h x e = (first-some _ (left d h) x e).0

pub any-two : (p : Association → Bool) (q : Life → Bool) (f : Association → Life) (a b : Option Association)
    → ((x : Association) → p x ≡ q (f x)) → list_any p (listed a ++ listed b) ≡ (steps.when q (option_map f a)
    || steps.when q (option_map f b))
any-two p q f None None e = refl
any-two p q f None (Some x) e = rw (e x) (grind arith)
any-two p q f (Some y) None e = rw (e y) (grind arith)
any-two p q f (Some y) (Some x) e = rw (e y, e x) (grind arith)
