use Rattle.prop_engine.proofs.Waits.{mark_read, first_waits, later_waits, first_allowed, later_allowed}
use Rattle.std.proofs.Common.{◌≡◌, ℕ, ◌<◌, ◌∙◌, sym, set, true, deque_len, deque_capacity, ap, subst, get_or, length, false, arith}
use Rattle.prop_engine.specs.Watching.{HasRoom, MarkedWait, is_marked, all_waiting}
use Rattle.prop_engine.proofs.Room.{first_left, later_left, room_added}
use Rattle.prop_engine.proofs.waiting.WorkList.add.Goals as goal

pub push_back_reserved-requires : goal.push_back_reserved-requires
push_back_reserved-requires c =
    let marks = c.self.inside.marks.items in
    later_left _ _ _ _ marks _ c.args.c.0 c.self.invariant (omega (arith, c.requires.c, ap (λ w. length w.marks) c.self.view_is)) (subst (λ z. get_or marks c.args.c.0 z ≡ false) c.if-index.false (sym c.index.ensures ∙ c.if-index.false))

pub invariant_of-self : goal.invariant_of-self
invariant_of-self c =
    let marks = c.self.inside.marks.items in
    let e = c.push_back_reserved.ensures in
    let unset = subst (λ z. get_or marks c.args.c.0 z ≡ false) c.if-index.false (sym c.index.ensures ∙ c.if-index.false) in
    let R : ℕ → Type 0 = λ n. HasRoom (deque_len c.self.inside.first) (deque_len c.push_back_reserved.new.self) (deque_capacity c.self.inside.first) n (set marks c.args.c.0 true) c.self.inside.many.items in
    subst R (sym e.capacity) (room_added _ _ _ _ _ _ marks _ c.args.c.0 c.self.invariant (omega (arith, c.requires.c, ap (λ w. length w.marks) c.self.view_is)) unset (omega (arith, e.len)))

pub push_back_reserved-requires-2 : goal.push_back_reserved-requires-2
push_back_reserved-requires-2 c =
    let marks = c.self.inside.marks.items in
    first_left _ _ _ _ marks _ c.args.c.0 c.self.invariant (omega (arith, c.requires.c, ap (λ w. length w.marks) c.self.view_is)) (subst (λ z. get_or marks c.args.c.0 z ≡ false) c.if-index.false (sym c.index.ensures ∙ c.if-index.false))

pub invariant_of-self-2 : goal.invariant_of-self-2
invariant_of-self-2 c =
    let marks = c.self.inside.marks.items in
    let e = c.push_back_reserved-2.ensures in
    let unset = subst (λ z. get_or marks c.args.c.0 z ≡ false) c.if-index.false (sym c.index.ensures ∙ c.if-index.false) in
    let R : ℕ → Type 0 = λ n. HasRoom (deque_len c.push_back_reserved-2.new.self) (deque_len c.self.inside.later) n (deque_capacity c.self.inside.later) (set marks c.args.c.0 true) c.self.inside.many.items in
    subst R (sym e.capacity) (room_added _ _ _ _ _ _ marks _ c.args.c.0 c.self.invariant (omega (arith, c.requires.c, ap (λ w. length w.marks) c.self.view_is)) unset (omega (arith, e.len)))

pub returns-then-index-clause-marked : goal.returns-then-index-clause-marked
returns-then-index-clause-marked c =
    let below : c.args.c.0 < length c.self.inside.marks.items = omega (arith, c.requires.c, ap (λ w. length w.marks) c.self.view_is) in
    subst (λ w. is_marked w c.args.c.0 ≡ true) c.self.view_is (mark_read c.self.inside.marks.items c.args.c.0 c.index.result.now below (sym c.index.ensures ∙ c.if-index.true))

pub returns-then-index-2-clause-waiting : goal.returns-then-index-2-clause-waiting
returns-then-index-2-clause-waiting c =
    later_waits c.self.inside.marks.items c.self.inside.first.items c.self.inside.later.items c.push_back_reserved.new.self.items c.args.c c.push_back_reserved.ensures.items (subst MarkedWait (sym c.self.view_is) c.requires.waiting)

pub returns-then-index-2-clause-allowed : goal.returns-then-index-2-clause-allowed
returns-then-index-2-clause-allowed c ok h i =
    later_allowed c.self.inside.first.items c.self.inside.later.items c.push_back_reserved.new.self.items c.args.c c.push_back_reserved.ensures.items ok h (subst (λ w. all_waiting ok w ≡ true) (sym c.self.view_is) i)

pub returns-clause-waiting : goal.returns-clause-waiting
returns-clause-waiting c =
    first_waits c.self.inside.marks.items c.self.inside.first.items c.self.inside.later.items c.push_back_reserved-2.new.self.items c.args.c c.push_back_reserved-2.ensures.items (subst MarkedWait (sym c.self.view_is) c.requires.waiting)

pub returns-clause-allowed : goal.returns-clause-allowed
returns-clause-allowed c ok h i =
    first_allowed c.self.inside.first.items c.self.inside.later.items c.push_back_reserved-2.new.self.items c.args.c c.push_back_reserved-2.ensures.items ok h (subst (λ w. all_waiting ok w ≡ true) (sym c.self.view_is) i)
