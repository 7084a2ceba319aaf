use Rattle.std.proofs.Common.{◌≡◌, ℕ, ◌+◌, ◌∙◌, sym, set, true, deque_len, ap, subst, get_or, length, false, arith}
use Rattle.std.specs.VecDeque.{deque_capacity}
use Rattle.dense_close.specs.Waiting.{HasRoom}
use Rattle.dense_close.proofs.Room.{late_left, room_added}
use Rattle.dense_close.proofs.waiting.WorkList.add_late.Goals as goal

pub push_back_reserved-requires : goal.push_back_reserved-requires
push_back_reserved-requires c =
    let marks = c.self.inside.marks.items in
    late_left _ _ _ _ marks c.args.c.0 c.self.invariant (omega (arith, c.requires.c, ap (λ w. length w.marks) c.self.view_is)) (subst (λ z. get_or marks c.args.c.0 z ≡ false) c.if-index.false (sym c.index.ensures ∙ c.if-index.false))

pub invariant_of-self : goal.invariant_of-self
invariant_of-self c =
    let here = c.self.inside in
    let marks = here.marks.items in
    let e = c.push_back_reserved.ensures in
    let unset = subst (λ z. get_or marks c.args.c.0 z ≡ false) c.if-index.false (sym c.index.ensures ∙ c.if-index.false) in
    let R : ℕ → Type 0 = λ n. HasRoom (deque_len here.early + deque_len c.push_back_reserved.new.self) (deque_capacity here.early) n (set marks c.args.c.0 true) in
    subst R (sym e.capacity) (room_added _ _ _ _ marks c.args.c.0 c.self.invariant (omega (arith, c.requires.c, ap (λ w. length w.marks) c.self.view_is)) unset (omega (arith, e.len)))
