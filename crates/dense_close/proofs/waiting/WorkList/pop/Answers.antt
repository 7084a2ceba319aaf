use Rattle.std.proofs.Common.{ℕ, ◌+◌, sym, subst, set, false, deque_len, arith}
use Rattle.std.specs.VecDeque.{deque_capacity}
use Rattle.dense_close.specs.Waiting.{HasRoom}
use Rattle.dense_close.proofs.Room.{room_taken}
use Rattle.dense_close.proofs.waiting.WorkList.pop.Goals as goal

pub invariant_of-self : goal.invariant_of-self
invariant_of-self c =
    let here = c.self.inside in
    let e = c.in-Some.ensures in
    let R : ℕ → Type 0 = λ n. HasRoom (deque_len c.pop_front.new.self + deque_len here.late) n (deque_capacity here.late) (set here.marks.items c.in-Some.first.0 false) in
    subst R (sym e.capacity) (room_taken _ _ _ _ here.marks.items _ c.self.invariant (omega (arith, e.len)))

pub invariant_of-self-2 : goal.invariant_of-self-2
invariant_of-self-2 c =
    let here = c.self.inside in
    let none = c.in_default.ensures in
    let e = c.in_ok-c.ensures in
    let R : ℕ → ℕ → Type 0 = λ m n. HasRoom (deque_len c.pop_front.new.self + deque_len c.pop_front-2.new.self) m n (set here.marks.items c.in_ok-c.c.0 false) in
    subst (λ m. R m (deque_capacity c.pop_front-2.new.self)) (sym none.capacity)
    (subst (λ n. R (deque_capacity here.early) n) (sym e.capacity) (room_taken _ _ _ _ here.marks.items _ c.self.invariant (omega (arith, none.len, e.len))))
