use Rattle.std.proofs.Common.{ℕ, ◌++◌, sym, ap, ◌∙◌, subst, set, false, deque_len, deque_capacity, arith}
use Rattle.prop_engine.specs.Watching.{HasRoom, MarkedWait, is_marked}
use Rattle.prop_engine.proofs.Room.{room_taken}
use Rattle.prop_engine.proofs.Waits.{rest_waits, later_first, others_stay}
use Rattle.prop_engine.proofs.waiting.WorkList.pop.Goals as goal

pub invariant_of-self : goal.invariant_of-self
invariant_of-self c =
    let here = c.self.inside in
    let e = c.in-Some.ensures in
    let R : ℕ → Type 0 = λ n. HasRoom (deque_len c.pop_front.new.self) (deque_len here.later) n (deque_capacity here.later) (set here.marks.items c.in-Some.c.0 false) here.many.items in
    subst R (sym e.capacity) (room_taken _ _ _ _ _ _ here.marks.items _ c.in-Some.c.0 c.self.invariant (omega (arith, e.len)))

pub invariant_of-self-2 : goal.invariant_of-self-2
invariant_of-self-2 c =
    let here = c.self.inside in
    let first = c.in_default.ensures in
    let e = c.in_ok-c.ensures in
    let marks = set here.marks.items c.in_ok-c.c.0 false in
    let R : ℕ → Type 0 = λ n. HasRoom (deque_len c.pop_front.new.self) (deque_len c.pop_front-2.new.self) n (deque_capacity c.pop_front-2.new.self) marks here.many.items in
    let S : ℕ → Type 0 = λ n. HasRoom (deque_len c.pop_front.new.self) (deque_len c.pop_front-2.new.self) (deque_capacity here.first) n marks here.many.items in
    subst R (sym first.capacity) (subst S (sym e.capacity) (room_taken _ _ _ _ _ _ here.marks.items _ c.in_ok-c.c.0 c.self.invariant (omega (arith, first.len, e.len))))

pub returns-in-Some-clause-waiting : goal.returns-in-Some-clause-waiting
returns-in-Some-clause-waiting c =
    let here = c.self.inside in
    rest_waits here.marks.items (here.first.items ++ here.later.items) (c.pop_front.new.self.items ++ here.later.items) c.in-Some.c (ap (λ l. l ++ here.later.items) c.in-Some.ensures.items) (subst MarkedWait (sym c.self.view_is) c.requires.waiting)

pub returns-in-Some-clause-some : goal.returns-in-Some-clause-some
returns-in-Some-clause-some c = ap (λ w. w.queue) (sym c.self.view_is) ∙ ap (λ l. l ++ c.self.inside.later.items) c.in-Some.ensures.items

pub returns-in-Some-clause-others : goal.returns-in-Some-clause-others
returns-in-Some-clause-others c k h = others_stay c.self.inside.marks.items c.in-Some.c.0 k h ∙ ap (λ w. is_marked w k) c.self.view_is

pub returns-clause-waiting : goal.returns-clause-waiting
returns-clause-waiting c =
    let here = c.self.inside in
    let first = c.in_default.ensures in
    let first_left = c.pop_front.new.self.items in
    let later_left = c.pop_front-2.new.self.items in
    rest_waits here.marks.items (here.first.items ++ here.later.items) (first_left ++ later_left) c.in_ok-c.c (later_first here.first.items first_left here.later.items later_left c.in_ok-c.c first.items first.rest c.in_ok-c.ensures.items) (subst MarkedWait (sym c.self.view_is) c.requires.waiting)

pub returns-clause-some : goal.returns-clause-some
returns-clause-some c =
    let here = c.self.inside in
    let first = c.in_default.ensures in
    ap (λ w. w.queue) (sym c.self.view_is) ∙ later_first here.first.items c.pop_front.new.self.items here.later.items c.pop_front-2.new.self.items c.in_ok-c.c first.items first.rest c.in_ok-c.ensures.items

pub returns-clause-others : goal.returns-clause-others
returns-clause-others c k h = others_stay c.self.inside.marks.items c.in_ok-c.c.0 k h ∙ ap (λ w. is_marked w k) c.self.view_is
