use Rattle.std.proofs.Common.{rules, ◌≡◌, ◌≢◌, sym, subst, false}
use Rattle.std.specs.Prelude.{pos, ◌≤ℤ◌, ◌<ℤ◌}
use Rattle.std.proofs.lemmas.Int.{ints, to_z-of_z}
use mir.Val.{SFits}
use mir.Syntax.{w64}
use Rattle.fd_store.specs.Held.{Held}
use Rattle.qc_model.specs.Domains.{values_left, box_without, least_value, greatest_value, has_empty}
use Rattle.model_arguments.proofs.Boxes.{some_left}
use Rattle.model_arguments.proofs.Kept.{lower, reaches}
use Rattle.dense_quiet.specs.Slack.{IsMeasured, IsNear, IsBounded, IsFar}
use Rattle.dense_quiet.proofs.Bounded.{none_far}
use Rattle.dense_close.proofs.Barred.{measured}
use Rattle.dense_close.proofs.AtMost.{some_room, same_near, stretch_far, full_far, near_far, bounded_far}
use Rattle.dense_close.proofs.Cuts.{cut_step, less_after}
use Rattle.dense_close.proofs.bounding.cut_far.Goals as goal

pub returns-then-factor-eq0-clause-near : goal.returns-then-factor-eq0-clause-near
returns-then-factor-eq0-clause-near c =
    let s_fits : SFits w64 c.args.room = search rules in
    let n_fits : SFits w64 c.args.factor = search rules in
    let none : c.args.factor ≡ pos 0 = search (rules, ints) in
    let near : IsNear c.args.room c.args.factor (values_left c.args.remains.now.box c.args.x.0) = same_near c.args.room c.args.factor (values_left c.args.remains.now.box c.args.x.0) none (some_room c.args.problem.now c.args.c.0 c.args.room c.args.remains.now.box c.requires.c c.requires.bounded) in
    near

pub past_room-far-requires-clause-measured : goal.past_room-far-requires-clause-measured
past_room-far-requires-clause-measured c =
    let g = c.args.problem.now in
    let box = c.args.remains.now.box in
    let u = c.min-least.result in
    let v = c.max-greatest.result in
    let n_fits : SFits w64 c.args.factor = search rules in
    let u_fits : SFits w64 u = search rules in
    let v_fits : SFits w64 v = search rules in
    let low : u ≡ least_value (values_left box c.args.x.0) = subst (λ (h : Held). u ≡ least_value (values_left h.box c.args.x.0)) c.store.ensures c.min-least.ensures in
    let high : v ≡ greatest_value (values_left box c.args.x.0) = subst (λ (h : Held). v ≡ greatest_value (values_left h.box c.args.x.0)) c.store-2.ensures c.max-greatest.ensures in
    let some : c.args.factor ≢ pos 0 = search (rules, ints) in
    let all : IsMeasured c.args.factor u v = measured g c.known.ensures c.args.c.0 box c.args.x c.args.factor u v c.requires.declared c.requires.full c.requires.c c.requires.x some c.requires.place low high in
    simp to_z-of_z all

pub past_room-far-requires-clause-room : goal.past_room-far-requires-clause-room
past_room-far-requires-clause-room c =
    let s_fits : SFits w64 c.args.room = search rules in
    let long : pos 0 ≤ℤ c.args.room = some_room c.args.problem.now c.args.c.0 c.args.room c.args.remains.now.box c.requires.c c.requires.bounded in
    simp to_z-of_z long

pub returns-then-high-low-clause-near : goal.returns-then-high-low-clause-near
returns-then-high-low-clause-near c =
    let g = c.args.problem.now in
    let box = c.args.remains.now.box in
    let u = c.min-least.result in
    let v = c.max-greatest.result in
    let n_fits : SFits w64 c.args.factor = search rules in
    let u_fits : SFits w64 u = search rules in
    let v_fits : SFits w64 v = search rules in
    let low : u ≡ least_value (values_left box c.args.x.0) = subst (λ (h : Held). u ≡ least_value (values_left h.box c.args.x.0)) c.store.ensures c.min-least.ensures in
    let high : v ≡ greatest_value (values_left box c.args.x.0) = subst (λ (h : Held). v ≡ greatest_value (values_left h.box c.args.x.0)) c.store-2.ensures c.max-greatest.ensures in
    let s = c.past_room-far.result in
    let s_fits : SFits w64 c.args.room = search rules in
    let l_fits : SFits w64 s.low = search rules in
    let h_fits : SFits w64 s.high = search rules in
    let told : IsFar c.args.room c.args.factor u v s.low s.high = simp to_z-of_z at c.past_room-far.ensures in
    let far : IsFar c.args.room c.args.factor (least_value (values_left box c.args.x.0)) (greatest_value (values_left box c.args.x.0)) s.low s.high = subst (λ z. IsFar c.args.room c.args.factor z (greatest_value (values_left box c.args.x.0)) s.low s.high) low (subst (λ z. IsFar c.args.room c.args.factor u z s.low s.high) high told) in
    let none : s.high <ℤ s.low = lower s.high s.low (simp to_z-of_z at c.if-high-low.true) in
    let near : IsNear c.args.room c.args.factor (values_left box c.args.x.0) =
    none_far c.args.room c.args.factor (values_left box c.args.x.0) s.low s.high (some_left box c.args.x.0 c.requires.full c.requires.x) (some_room g c.args.c.0 c.args.room box c.requires.c c.requires.bounded) far none in
    near

pub returns-clause-cut : goal.returns-clause-cut
returns-clause-cut c =
    let g = c.args.problem.now in
    let box = c.args.remains.now.box in
    let u = c.min-least.result in
    let v = c.max-greatest.result in
    let n_fits : SFits w64 c.args.factor = search rules in
    let u_fits : SFits w64 u = search rules in
    let v_fits : SFits w64 v = search rules in
    let low : u ≡ least_value (values_left box c.args.x.0) = subst (λ (h : Held). u ≡ least_value (values_left h.box c.args.x.0)) c.store.ensures c.min-least.ensures in
    let high : v ≡ greatest_value (values_left box c.args.x.0) = subst (λ (h : Held). v ≡ greatest_value (values_left h.box c.args.x.0)) c.store-2.ensures c.max-greatest.ensures in
    let s = c.past_room-far.result in
    let s_fits : SFits w64 c.args.room = search rules in
    let l_fits : SFits w64 s.low = search rules in
    let h_fits : SFits w64 s.high = search rules in
    let told : IsFar c.args.room c.args.factor u v s.low s.high = simp to_z-of_z at c.past_room-far.ensures in
    let far : IsFar c.args.room c.args.factor (least_value (values_left box c.args.x.0)) (greatest_value (values_left box c.args.x.0)) s.low s.high = subst (λ z. IsFar c.args.room c.args.factor z (greatest_value (values_left box c.args.x.0)) s.low s.high) low (subst (λ z. IsFar c.args.room c.args.factor u z s.low s.high) high told) in
    let content : c.cut.new.self.box ≡ box_without box c.args.x.0 s.low s.high = simp to_z-of_z at c.cut.ensures.content in
    let order : s.low ≤ℤ s.high = reaches s.high s.low (simp to_z-of_z at c.if-high-low.false) in
    cut_step g c.known.ensures c.args.c.0 c.args.x.0 box s.low s.high c.cut.new.self.box c.requires.declared c.requires.full (stretch_far g c.known.ensures c.args.c.0 box c.args.x c.args.factor c.args.room s.low s.high c.requires.declared c.requires.full c.requires.x c.requires.c c.requires.bounded c.requires.place far order) content

pub returns-clause-gone : goal.returns-clause-gone
returns-clause-gone c =
    let g = c.args.problem.now in
    let box = c.args.remains.now.box in
    let u = c.min-least.result in
    let v = c.max-greatest.result in
    let n_fits : SFits w64 c.args.factor = search rules in
    let u_fits : SFits w64 u = search rules in
    let v_fits : SFits w64 v = search rules in
    let low : u ≡ least_value (values_left box c.args.x.0) = subst (λ (h : Held). u ≡ least_value (values_left h.box c.args.x.0)) c.store.ensures c.min-least.ensures in
    let high : v ≡ greatest_value (values_left box c.args.x.0) = subst (λ (h : Held). v ≡ greatest_value (values_left h.box c.args.x.0)) c.store-2.ensures c.max-greatest.ensures in
    let s = c.past_room-far.result in
    let s_fits : SFits w64 c.args.room = search rules in
    let l_fits : SFits w64 s.low = search rules in
    let h_fits : SFits w64 s.high = search rules in
    let told : IsFar c.args.room c.args.factor u v s.low s.high = simp to_z-of_z at c.past_room-far.ensures in
    let far : IsFar c.args.room c.args.factor (least_value (values_left box c.args.x.0)) (greatest_value (values_left box c.args.x.0)) s.low s.high = subst (λ z. IsFar c.args.room c.args.factor z (greatest_value (values_left box c.args.x.0)) s.low s.high) low (subst (λ z. IsFar c.args.room c.args.factor u z s.low s.high) high told) in
    let content : c.cut.new.self.box ≡ box_without box c.args.x.0 s.low s.high = simp to_z-of_z at c.cut.ensures.content in
    let order : s.low ≤ℤ s.high = reaches s.high s.low (simp to_z-of_z at c.if-high-low.false) in
    less_after g c.args.c.0 c.args.x.0 box s.low s.high c.cut.new.self.box c.requires.x (stretch_far g c.known.ensures c.args.c.0 box c.args.x c.args.factor c.args.room s.low s.high c.requires.declared c.requires.full c.requires.x c.requires.c c.requires.bounded c.requires.place far order) content

pub returns-clause-full : goal.returns-clause-full
returns-clause-full c =
    let g = c.args.problem.now in
    let box = c.args.remains.now.box in
    let u = c.min-least.result in
    let v = c.max-greatest.result in
    let n_fits : SFits w64 c.args.factor = search rules in
    let u_fits : SFits w64 u = search rules in
    let v_fits : SFits w64 v = search rules in
    let low : u ≡ least_value (values_left box c.args.x.0) = subst (λ (h : Held). u ≡ least_value (values_left h.box c.args.x.0)) c.store.ensures c.min-least.ensures in
    let high : v ≡ greatest_value (values_left box c.args.x.0) = subst (λ (h : Held). v ≡ greatest_value (values_left h.box c.args.x.0)) c.store-2.ensures c.max-greatest.ensures in
    let s = c.past_room-far.result in
    let s_fits : SFits w64 c.args.room = search rules in
    let l_fits : SFits w64 s.low = search rules in
    let h_fits : SFits w64 s.high = search rules in
    let told : IsFar c.args.room c.args.factor u v s.low s.high = simp to_z-of_z at c.past_room-far.ensures in
    let far : IsFar c.args.room c.args.factor (least_value (values_left box c.args.x.0)) (greatest_value (values_left box c.args.x.0)) s.low s.high = subst (λ z. IsFar c.args.room c.args.factor z (greatest_value (values_left box c.args.x.0)) s.low s.high) low (subst (λ z. IsFar c.args.room c.args.factor u z s.low s.high) high told) in
    let content : c.cut.new.self.box ≡ box_without box c.args.x.0 s.low s.high = simp to_z-of_z at c.cut.ensures.content in
    let order : s.low ≤ℤ s.high = reaches s.high s.low (simp to_z-of_z at c.if-high-low.false) in
    subst (λ b. has_empty b ≡ false) (sym content) (full_far g c.known.ensures c.args.c.0 box c.args.x c.args.factor c.args.room s.low s.high c.requires.declared c.requires.full c.requires.x c.requires.c c.requires.bounded c.requires.place far)

pub returns-clause-near : goal.returns-clause-near
returns-clause-near c =
    let g = c.args.problem.now in
    let box = c.args.remains.now.box in
    let u = c.min-least.result in
    let v = c.max-greatest.result in
    let n_fits : SFits w64 c.args.factor = search rules in
    let u_fits : SFits w64 u = search rules in
    let v_fits : SFits w64 v = search rules in
    let low : u ≡ least_value (values_left box c.args.x.0) = subst (λ (h : Held). u ≡ least_value (values_left h.box c.args.x.0)) c.store.ensures c.min-least.ensures in
    let high : v ≡ greatest_value (values_left box c.args.x.0) = subst (λ (h : Held). v ≡ greatest_value (values_left h.box c.args.x.0)) c.store-2.ensures c.max-greatest.ensures in
    let s = c.past_room-far.result in
    let s_fits : SFits w64 c.args.room = search rules in
    let l_fits : SFits w64 s.low = search rules in
    let h_fits : SFits w64 s.high = search rules in
    let told : IsFar c.args.room c.args.factor u v s.low s.high = simp to_z-of_z at c.past_room-far.ensures in
    let far : IsFar c.args.room c.args.factor (least_value (values_left box c.args.x.0)) (greatest_value (values_left box c.args.x.0)) s.low s.high = subst (λ z. IsFar c.args.room c.args.factor z (greatest_value (values_left box c.args.x.0)) s.low s.high) low (subst (λ z. IsFar c.args.room c.args.factor u z s.low s.high) high told) in
    let content : c.cut.new.self.box ≡ box_without box c.args.x.0 s.low s.high = simp to_z-of_z at c.cut.ensures.content in
    let order : s.low ≤ℤ s.high = reaches s.high s.low (simp to_z-of_z at c.if-high-low.false) in
    let near : IsNear c.args.room c.args.factor (values_left c.cut.new.self.box c.args.x.0) = subst (λ b. IsNear c.args.room c.args.factor (values_left b c.args.x.0)) (sym content) (near_far g c.known.ensures c.args.c.0 box c.args.x c.args.factor c.args.room s.low s.high c.requires.declared c.requires.full c.requires.x c.requires.c c.requires.bounded c.requires.place far) in
    near

pub returns-clause-bounded : goal.returns-clause-bounded
returns-clause-bounded c = λ r there.
    let g = c.args.problem.now in
    let box = c.args.remains.now.box in
    let u = c.min-least.result in
    let v = c.max-greatest.result in
    let n_fits : SFits w64 c.args.factor = search rules in
    let u_fits : SFits w64 u = search rules in
    let v_fits : SFits w64 v = search rules in
    let low : u ≡ least_value (values_left box c.args.x.0) = subst (λ (h : Held). u ≡ least_value (values_left h.box c.args.x.0)) c.store.ensures c.min-least.ensures in
    let high : v ≡ greatest_value (values_left box c.args.x.0) = subst (λ (h : Held). v ≡ greatest_value (values_left h.box c.args.x.0)) c.store-2.ensures c.max-greatest.ensures in
    let s = c.past_room-far.result in
    let s_fits : SFits w64 c.args.room = search rules in
    let l_fits : SFits w64 s.low = search rules in
    let h_fits : SFits w64 s.high = search rules in
    let told : IsFar c.args.room c.args.factor u v s.low s.high = simp to_z-of_z at c.past_room-far.ensures in
    let far : IsFar c.args.room c.args.factor (least_value (values_left box c.args.x.0)) (greatest_value (values_left box c.args.x.0)) s.low s.high = subst (λ z. IsFar c.args.room c.args.factor z (greatest_value (values_left box c.args.x.0)) s.low s.high) low (subst (λ z. IsFar c.args.room c.args.factor u z s.low s.high) high told) in
    let content : c.cut.new.self.box ≡ box_without box c.args.x.0 s.low s.high = simp to_z-of_z at c.cut.ensures.content in
    let order : s.low ≤ℤ s.high = reaches s.high s.low (simp to_z-of_z at c.if-high-low.false) in
    let bounded : IsBounded r c.args.room c.cut.new.self.box = subst (λ b. IsBounded r c.args.room b) (sym content) (bounded_far g c.known.ensures c.args.c.0 box c.args.x c.args.factor c.args.room s.low s.high c.requires.declared c.requires.full c.requires.x c.requires.c c.requires.bounded c.requires.place far r there) in
    bounded
