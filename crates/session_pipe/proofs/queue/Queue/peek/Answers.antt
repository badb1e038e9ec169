use Rattle.std.proofs.Common.{◌≡◌, ◌++◌, ◌∷◌, take, length, ap, sym, ◌∙◌, arith}
use Rattle.std.proofs.lemmas.List.{length-take}
use Rattle.std.specs.List.{flat_map}
use Rattle.std.specs.VecDeque.Iter.{deque_iter_rest}
use Rattle.session_pipe.proofs.Octets.{take_more_octets}
use Rattle.session_pipe.proofs.queue.Queue.peek.Goals as goal

pub loop-message-preserved : goal.loop-message-preserved
loop-message-preserved c =
    let put = c.in_ok-put_some.ensures.ok in
    let front : deque_iter_rest c.loop-message.message-iterator ≡ c.in-Some.message.now ∷ deque_iter_rest c.next.new.self =
    c.in-Some.ensures.steps in
    let whole = ap (λ rest. take c.args.k (c.loop-message.octets.items ++ flat_map (λ message. message) rest)) (sym front)
    ∙ c.loop-message.invariant.3 in
    let same : c.as_slice.result.now ≡ c.in-Some.message.now = c.as_slice.ensures in
    let added = put ∙ ap (λ m. take c.args.k (c.loop-message.octets.items ++ m)) same in
    let size = ap length put ∙ length-take c.args.k (c.loop-message.octets.items ++ c.as_slice.result.now) in (
      tt,
      tt,
      omega (arith, size),
      take_more_octets c.args.k c.put_some.new.octets.items c.loop-message.octets.items c.in-Some.message.now
          (flat_map (λ message. message) (deque_iter_rest c.next.new.self)) (take c.args.k (flat_map (λ message. message) c.args.self.now))
          whole added,
    )
