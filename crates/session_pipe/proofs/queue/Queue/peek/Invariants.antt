use Rattle.std.proofs.Common.{◌≡◌, ◌≤◌, ◌++◌, take, length}
use Rattle.std.specs.List.{flat_map}
use Rattle.std.specs.VecDeque.Iter.{deque_iter_rest}
use Rattle.session_pipe.proofs.queue.Queue.peek.Given as goal

abbrev pub invariant-loop-message : goal.invariant-loop-message
invariant-loop-message l =
    (goal.iterator-loop-message).can_next l.message-iterator ×
    (goal.iterator-loop-message).is_finite l.message-iterator ×
    (length l.octets.items ≤ l.k) ×
    (take l.k (l.octets.items ++ flat_map (λ message. message) (deque_iter_rest l.message-iterator)) ≡ take l.k
    (flat_map (λ message. message) l.fn.self))
