use Rattle.std.proofs.Common.{◌≡◌, ◌∙◌, Some, ap, rules, w64}
use Rattle.std.specs.Int.{int_min, int_max}
use Rattle.std.proofs.lemmas.Int.{to_z-of_z}
use mir.Val.{SFits}
use Rattle.dense_nest.proofs.Bests.{better, better_min, better_max}
use Rattle.dense_nest.proofs.basics.better_of.Goals as goal

pub returns-in-Min : goal.returns-in-Min
returns-in-Min c = λ values h.
    let best = c.in-Some.best in
    let value = c.args.value in
    let fits : SFits w64 best = search rules in
    let fits_value : SFits w64 value = search rules in
    let fits_result : SFits w64 c.min.result = search rules in
    let e : c.min.result ≡ int_min best value = simp to_z-of_z at c.min.ensures.value in
    let first = c.in-Some-first.first.now in
    ap Some (simp to_z-of_z (e ∙ better_min first.sense best value c.in-Min.is)) ∙ better c.args.list.now c.args.held best value first values c.in-Some.is c.in-Some-first.ensures.value h

pub returns-in-Max : goal.returns-in-Max
returns-in-Max c = λ values h.
    let best = c.in-Some.best in
    let value = c.args.value in
    let fits : SFits w64 best = search rules in
    let fits_value : SFits w64 value = search rules in
    let fits_result : SFits w64 c.max.result = search rules in
    let e : c.max.result ≡ int_max best value = simp to_z-of_z at c.max.ensures.value in
    let first = c.in-Some-first.first.now in
    ap Some (simp to_z-of_z (e ∙ better_max first.sense best value c.in-Max.is)) ∙ better c.args.list.now c.args.held best value first values c.in-Some.is c.in-Some-first.ensures.value h
