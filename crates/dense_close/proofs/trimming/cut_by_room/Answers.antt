use Rattle.std.proofs.Common.{rules, ◌≡◌, subst}
use Rattle.std.proofs.lemmas.Int.{to_z-of_z}
use mir.Val.{SFits}
use mir.Syntax.{w64}
use Rattle.fd_store.specs.Held.{Held}
use Rattle.qc_model.specs.Domains.{values_left, declared_box, least_value, greatest_value}
use Rattle.dense_closing.proofs.Within.{sub_self}
use Rattle.dense_quiet.specs.Slack.{IsMeasured, IsPast}
use Rattle.dense_close.proofs.Barred.{measured, barred_over, barred_under, barred_after}
use Rattle.dense_close.proofs.trimming.cut_by_room.Goals as goal

pub is_free-requires : goal.is_free-requires
is_free-requires c =
    let g = c.args.problem.now in
    let box = c.args.remains.now.box in
    let u = c.min-least.result in
    let v = c.max-greatest.result in
    let n_fits : SFits w64 c.args.factor = search rules in
    let u_fits : SFits w64 u = search rules in
    let v_fits : SFits w64 v = search rules in
    let low : u ≡ least_value (values_left box c.args.x.0) = subst (λ (h : Held). u ≡ least_value (values_left h.box c.args.x.0)) c.store.ensures c.min-least.ensures in
    let high : v ≡ greatest_value (values_left box c.args.x.0) = subst (λ (h : Held). v ≡ greatest_value (values_left h.box c.args.x.0)) c.store-2.ensures c.max-greatest.ensures in
    let all : IsMeasured c.args.factor u v = measured g c.known.ensures c.args.c.0 box c.args.x c.args.factor u v c.requires.declared c.requires.full c.requires.c c.requires.x c.requires.some c.requires.place low high in
    simp to_z-of_z all

pub past_greatest-below-requires-clause-measured : goal.past_greatest-below-requires-clause-measured
past_greatest-below-requires-clause-measured c =
    let g = c.args.problem.now in
    let box = c.args.remains.now.box in
    let u = c.min-least.result in
    let v = c.max-greatest.result in
    let n_fits : SFits w64 c.args.factor = search rules in
    let u_fits : SFits w64 u = search rules in
    let v_fits : SFits w64 v = search rules in
    let low : u ≡ least_value (values_left box c.args.x.0) = subst (λ (h : Held). u ≡ least_value (values_left h.box c.args.x.0)) c.store.ensures c.min-least.ensures in
    let high : v ≡ greatest_value (values_left box c.args.x.0) = subst (λ (h : Held). v ≡ greatest_value (values_left h.box c.args.x.0)) c.store-2.ensures c.max-greatest.ensures in
    let all : IsMeasured c.args.factor u v = measured g c.known.ensures c.args.c.0 box c.args.x c.args.factor u v c.requires.declared c.requires.full c.requires.c c.requires.x c.requires.some c.requires.place low high in
    simp to_z-of_z all

pub past_least-above-requires-clause-measured : goal.past_least-above-requires-clause-measured
past_least-above-requires-clause-measured c =
    let g = c.args.problem.now in
    let box = c.args.remains.now.box in
    let u = c.min-least.result in
    let v = c.max-greatest.result in
    let n_fits : SFits w64 c.args.factor = search rules in
    let u_fits : SFits w64 u = search rules in
    let v_fits : SFits w64 v = search rules in
    let low : u ≡ least_value (values_left box c.args.x.0) = subst (λ (h : Held). u ≡ least_value (values_left h.box c.args.x.0)) c.store.ensures c.min-least.ensures in
    let high : v ≡ greatest_value (values_left box c.args.x.0) = subst (λ (h : Held). v ≡ greatest_value (values_left h.box c.args.x.0)) c.store-2.ensures c.max-greatest.ensures in
    let all : IsMeasured c.args.factor u v = measured g c.known.ensures c.args.c.0 box c.args.x c.args.factor u v c.requires.declared c.requires.full c.requires.c c.requires.x c.requires.some c.requires.place low high in
    simp to_z-of_z all

pub cut_stretch-from_below-requires-clause-barred : goal.cut_stretch-from_below-requires-clause-barred
cut_stretch-from_below-requires-clause-barred c =
    let g = c.args.problem.now in
    let box = c.args.remains.now.box in
    let v = c.max-greatest.result in
    let s = c.past_greatest-below.result in
    let n_fits : SFits w64 c.args.factor = search rules in
    let v_fits : SFits w64 v = search rules in
    let is : v ≡ greatest_value (values_left box c.args.x.0) = subst (λ (h : Held). v ≡ greatest_value (values_left h.box c.args.x.0)) c.store-2.ensures c.max-greatest.ensures in
    let past : IsPast c.args.room c.args.factor v s.low s.high = simp to_z-of_z at c.past_greatest-below.ensures in
    barred_under g c.args.c.0 box c.args.x c.args.factor c.args.room v s.low s.high c.requires.x c.requires.tells c.requires.place is past

pub cut_stretch-from_above-requires-clause-barred : goal.cut_stretch-from_above-requires-clause-barred
cut_stretch-from_above-requires-clause-barred c =
    let g = c.args.problem.now in
    let box = c.args.remains.now.box in
    let v = c.min-least.result in
    let s = c.past_least-above.result in
    let n_fits : SFits w64 c.args.factor = search rules in
    let v_fits : SFits w64 v = search rules in
    let is : v ≡ least_value (values_left box c.args.x.0) = subst (λ (h : Held). v ≡ least_value (values_left h.box c.args.x.0)) c.store.ensures c.min-least.ensures in
    let past : IsPast c.args.room c.args.factor v s.low s.high = simp to_z-of_z at c.past_least-above.ensures in
    let cut = c.cut_stretch-from_below.ensures.cut in
    barred_after g c.args.c.0 c.args.x.0 box c.cut_stretch-from_below.new.remains.box s.low s.high cut.count cut.others (cut.fewer box (sub_self box (declared_box g) c.requires.declared))
    (barred_over g c.args.c.0 box c.args.x c.args.factor c.args.room v s.low s.high c.requires.x c.requires.tells c.requires.place is past)
