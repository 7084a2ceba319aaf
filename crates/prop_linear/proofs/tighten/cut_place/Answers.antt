use Rattle.std.proofs.Common.{◌∙◌, ◌+◌, sym, ap, subst, rules, arith, take, get_or, add-one, ℤ}
use Rattle.std.specs.Prelude.{pos, ◌≤ℤ◌}
use Rattle.std.proofs.lemmas.Int.{to_z-of_z, ints}
use mir.Val.{SFits}
use mir.Syntax.{w64}
use Rattle.qc_model.specs.declared.problem.Arg.TheVariants.{Var}
use Rattle.qc_model.specs.Domains.{Box, values_left, values_outside, has_empty}
use Rattle.qc_model.specs.Refuted.{left_to}
use Rattle.model_arguments.proofs.Boxes.{set_full}
use Rattle.prop_linear.specs.Tightening.{AlikeOutside, AllNear, IsNear, IsTightening, least_sum}
use Rattle.prop_linear.specs.Sides.{signed}
use Rattle.prop_linear.proofs.Alike.{alike_at}
use Rattle.prop_linear.proofs.Moves.{near_more, near_after, near_number, sum_kept}
use Rattle.prop_linear.proofs.Sides.{signed_length, sides_rise}
use Rattle.prop_linear.proofs.Found.{placed, open_there, cut_of, cut_left}
use Rattle.prop_linear.proofs.tighten.cut_place.Goals as goal

no_less : (a : ℤ) → a ≤ℤ a
no_less a = omega (arith, ints)

pub place_cut-requires-clause-x : goal.place_cut-requires-clause-x
place_cut-requires-clause-x c =
    placed c.args.asked.problem.now c.args.asked.rule.now c.args.store.now.box c.args.items.now c.args.k c.in-Var.x (Var (record { 0 = 0 })) c.requires.fits c.requires.sees c.requires.place c.in-Var.is

pub place_cut-requires-clause-open : goal.place_cut-requires-clause-open
place_cut-requires-clause-open c =
    open_there c.args.asked.problem.now c.args.asked.rule.now c.args.store.now.box c.args.items.now c.args.k c.in-Var.x (Var (record { 0 = 0 })) c.known.ensures.domains c.requires.fits c.requires.sees c.requires.place c.in-Var.is

pub prune-requires-clause-cut : goal.prune-requires-clause-cut
prune-requires-clause-cut c =
    let f_fits : SFits w64 c.factor_at-factor.result = search rules in
    let ns = signed c.args.negative c.args.factors.now in
    let xs = c.args.items.now in
    let box = c.args.store.now.box in
    let k = c.args.k in
    let cut = c.in-Some.cut in
    let m = placed c.args.asked.problem.now c.args.asked.rule.now box xs k c.in-Var.x (Var (record { 0 = 0 })) c.requires.fits c.requires.sees c.requires.place c.in-Var.is in
    let t = simp to_z-of_z at c.in-Some.ensures.some in
    let T : ℤ → Type 0 = λ n. IsTightening n c.args.s (values_left box c.in-Var.x.0) cut.lo cut.hi in
    let u = subst T c.factor_at-factor.ensures t.1 in
    cut_of c.args.asked.rule.now ns xs c.args.s box k c.in-Var.x cut (Var (record { 0 = 0 })) c.requires.past c.requires.once (omega (arith, signed_length c.args.negative c.args.factors.now, c.requires.equal, c.requires.place)) c.requires.place c.in-Var.is m t.0 u

pub returns-in-Num-clause-near : goal.returns-in-Num-clause-near
returns-in-Num-clause-near c a =
    let box = c.args.store.now.box in
    let ns = signed c.args.negative c.args.factors.now in
    let xs = c.args.items.now in
    let n = get_or ns c.args.k (pos 0) in
    rw add-one
    (near_more c.args.s ns xs c.args.k box (pos 0) (Var (record { 0 = 0 })) (omega (arith, signed_length c.args.negative c.args.factors.now, c.requires.equal, c.requires.place)) c.requires.place a
    (subst (λ z. IsNear n c.args.s (left_to box z)) (sym c.in-Num.is) (near_number n c.args.s c.in-Num.field-0)))

pub returns-in-None-clause-near : goal.returns-in-None-clause-near
returns-in-None-clause-near c a =
    let f_fits : SFits w64 c.factor_at-factor.result = search rules in
    let box = c.args.store.now.box in
    let ns = signed c.args.negative c.args.factors.now in
    let xs = c.args.items.now in
    let n = get_or ns c.args.k (pos 0) in
    let t = simp to_z-of_z at c.in-None.ensures.none in
    let N : ℤ → Type 0 = λ z. IsNear z c.args.s (values_left box c.in-Var.x.0) in
    let u = subst N c.factor_at-factor.ensures t in
    rw add-one
    (near_more c.args.s ns xs c.args.k box (pos 0) (Var (record { 0 = 0 })) (omega (arith, signed_length c.args.negative c.args.factors.now, c.requires.equal, c.requires.place)) c.requires.place a
    (subst (λ z. IsNear n c.args.s (left_to box z)) (sym c.in-Var.is) u))

pub returns-in-Num-clause-rises : goal.returns-in-Num-clause-rises
returns-in-Num-clause-rises c b = no_less (least_sum (signed b c.args.factors.now) c.args.items.now c.args.store.now.box)

pub returns-in-None-clause-rises : goal.returns-in-None-clause-rises
returns-in-None-clause-rises c b = no_less (least_sum (signed b c.args.factors.now) c.args.items.now c.args.store.now.box)

pub returns-in_ok-prune-in-Some-clause-full : goal.returns-in_ok-prune-in-Some-clause-full
returns-in_ok-prune-in-Some-clause-full c =
    let f_fits : SFits w64 c.factor_at-factor.result = search rules in
    let box = c.args.store.now.box in
    let t = simp to_z-of_z at c.in-Some.ensures.some in
    let e = cut_left box c.prune.new.store.box c.in-Var.x c.in-Some.cut t.0 c.in_ok-prune-in-Some.ensures.content in
    ap has_empty e ∙ set_full box c.in-Var.x.0 (values_outside c.in-Some.cut.lo c.in-Some.cut.hi (values_left box c.in-Var.x.0)) c.requires.fits.full t.1.left

pub returns-in_ok-prune-in-Some-clause-rises : goal.returns-in_ok-prune-in-Some-clause-rises
returns-in_ok-prune-in-Some-clause-rises c b =
    let f_fits : SFits w64 c.factor_at-factor.result = search rules in
    let ns = c.args.factors.now in
    let xs = c.args.items.now in
    let box = c.args.store.now.box in
    let cut = c.in-Some.cut in
    let t = simp to_z-of_z at c.in-Some.ensures.some in
    let e = cut_left box c.prune.new.store.box c.in-Var.x cut t.0 c.in_ok-prune-in-Some.ensures.content in
    let m = placed c.args.asked.problem.now c.args.asked.rule.now box xs c.args.k c.in-Var.x (Var (record { 0 = 0 })) c.requires.fits c.requires.sees c.requires.place c.in-Var.is in
    let R : Box → Type 0 = λ z. least_sum (signed b ns) xs box ≤ℤ least_sum (signed b ns) xs z in
    subst R (sym e) (sides_rise ns xs c.args.k box c.in-Var.x cut.lo cut.hi (Var (record { 0 = 0 })) c.requires.once (omega (arith, c.requires.equal, c.requires.place)) c.requires.place c.in-Var.is m t.1.left b)

pub returns-in_ok-prune-in-Some-clause-sum : goal.returns-in_ok-prune-in-Some-clause-sum
returns-in_ok-prune-in-Some-clause-sum c =
    let f_fits : SFits w64 c.factor_at-factor.result = search rules in
    let ns = signed c.args.negative c.args.factors.now in
    let xs = c.args.items.now in
    let box = c.args.store.now.box in
    let cut = c.in-Some.cut in
    let t = simp to_z-of_z at c.in-Some.ensures.some in
    let T : ℤ → Type 0 = λ n. IsTightening n c.args.s (values_left box c.in-Var.x.0) cut.lo cut.hi in
    let u = subst T c.factor_at-factor.ensures t.1 in
    let e = cut_left box c.prune.new.store.box c.in-Var.x cut t.0 c.in_ok-prune-in-Some.ensures.content in
    let m = placed c.args.asked.problem.now c.args.asked.rule.now box xs c.args.k c.in-Var.x (Var (record { 0 = 0 })) c.requires.fits c.requires.sees c.requires.place c.in-Var.is in
    ap (least_sum ns xs) e
    ∙ sum_kept ns xs c.args.s box c.args.k c.in-Var.x cut.lo cut.hi (Var (record { 0 = 0 })) c.requires.once (omega (arith, signed_length c.args.negative c.args.factors.now, c.requires.equal, c.requires.place)) c.requires.place c.in-Var.is m u

pub returns-in_ok-prune-in-Some-clause-near : goal.returns-in_ok-prune-in-Some-clause-near
returns-in_ok-prune-in-Some-clause-near c a =
    let f_fits : SFits w64 c.factor_at-factor.result = search rules in
    let box = c.args.store.now.box in
    let ns = signed c.args.negative c.args.factors.now in
    let xs = c.args.items.now in
    let cut = c.in-Some.cut in
    let t = simp to_z-of_z at c.in-Some.ensures.some in
    let T : ℤ → Type 0 = λ n. IsTightening n c.args.s (values_left box c.in-Var.x.0) cut.lo cut.hi in
    let u = subst T c.factor_at-factor.ensures t.1 in
    let e = cut_left box c.prune.new.store.box c.in-Var.x cut t.0 c.in_ok-prune-in-Some.ensures.content in
    let m = placed c.args.asked.problem.now c.args.asked.rule.now box xs c.args.k c.in-Var.x (Var (record { 0 = 0 })) c.requires.fits c.requires.sees c.requires.place c.in-Var.is in
    let N : Box → Type 0 = λ b. AllNear c.args.s (take (c.args.k + 1) ns) (take (c.args.k + 1) xs) b in
    subst N (sym e)
    (rw add-one
    (near_after c.args.s ns xs c.args.k box c.in-Var.x cut.lo cut.hi (Var (record { 0 = 0 })) c.requires.once (omega (arith, signed_length c.args.negative c.args.factors.now, c.requires.equal, c.requires.place)) c.requires.place c.in-Var.is m u a))

pub returns-in_ok-prune-in-Some-clause-alike : goal.returns-in_ok-prune-in-Some-clause-alike
returns-in_ok-prune-in-Some-clause-alike c =
    let f_fits : SFits w64 c.factor_at-factor.result = search rules in
    let box = c.args.store.now.box in
    let xs = c.args.items.now in
    let cut = c.in-Some.cut in
    let t = simp to_z-of_z at c.in-Some.ensures.some in
    let e = cut_left box c.prune.new.store.box c.in-Var.x cut t.0 c.in_ok-prune-in-Some.ensures.content in
    let A : Box → Type 0 = λ b. AlikeOutside xs box b in
    subst A (sym e) (alike_at xs box c.args.k c.in-Var.x (values_outside cut.lo cut.hi (values_left box c.in-Var.x.0)) (Var (record { 0 = 0 })) c.requires.place c.in-Var.is)
