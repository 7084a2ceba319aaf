use Rattle.std.proofs.Common.{◌+◌, ◌∙◌, sym, ap, subst, arith, true, length, take, get_or, rules, ℤ}
use Rattle.std.specs.Prelude.{◌≤ℤ◌, pos, ◌+ℤ◌}
use Rattle.std.proofs.lemmas.Int.{ints, to_z-of_z}
use mir.Val.{SFits}
use mir.Syntax.{w64}
use Rattle.qc_model.specs.declared.problem.Arg.TheVariants.{Var}
use Rattle.qc_model.specs.Domains.{Box}
use Rattle.prop_base.specs.Pruning.{is_just}
use Rattle.prop_base.proofs.Prunings.{prunes_more, fits_after}
use Rattle.prop_linear.specs.Tightening.{AllNear, least_sum}
use Rattle.prop_linear.specs.Sides.{signed}
use Rattle.prop_linear.proofs.Alike.{alike_more}
use Rattle.prop_linear.proofs.Sides.{past_more}
use Rattle.prop_linear.proofs.Found.{placed, open_there}
use Rattle.prop_linear.proofs.Sided.{near_both, number_default}
use Rattle.prop_linear.proofs.Still.{same_box}
use Rattle.prop_linear.proofs.rounds.tighten_both.Goals as goal

no_less : (a : ℤ) → a ≤ℤ a
no_less a = omega (arith, ints)

pub is_near_both-requires-clause-x : goal.is_near_both-requires-clause-x
is_near_both-requires-clause-x c =
    placed c.args.asked.problem.now c.args.asked.rule.now c.args.store.now.box c.args.items.now c.args.k c.in-Var.x (Var (record { 0 = 0 })) c.requires.fits c.requires.sees c.requires.place c.in-Var.is

pub is_near_both-requires-clause-open : goal.is_near_both-requires-clause-open
is_near_both-requires-clause-open c =
    open_there c.args.asked.problem.now c.args.asked.rule.now c.args.store.now.box c.args.items.now c.args.k c.in-Var.x (Var (record { 0 = 0 })) c.known.ensures.domains c.requires.fits c.requires.sees c.requires.place c.in-Var.is

pub returns-in_default-clause-rises : goal.returns-in_default-clause-rises
returns-in_default-clause-rises c b = no_less (least_sum (signed b c.args.factors.now) c.args.items.now c.args.store.now.box)

pub returns-then-is_near_both-clause-rises : goal.returns-then-is_near_both-clause-rises
returns-then-is_near_both-clause-rises c b = no_less (least_sum (signed b c.args.factors.now) c.args.items.now c.args.store.now.box)

pub returns-in_default-clause-near : goal.returns-in_default-clause-near
returns-in_default-clause-near c e a =
    number_default c.args.factors.now c.args.items.now c.args.k c.args.s c.args.t c.args.store.now.box (Var (record { 0 = 0 })) c.requires.equal c.requires.place c.in_default.not-Var a

pub returns-then-is_near_both-clause-near : goal.returns-then-is_near_both-clause-near
returns-then-is_near_both-clause-near c e a =
    let n_fits : SFits w64 (get_or c.args.factors.now c.args.k (pos 0)) = search rules in
    let ns = c.args.factors.now in
    let xs = c.args.items.now in
    let box = c.args.store.now.box in
    let k = c.args.k in
    let over = simp to_z-of_z at c.is_near_both.ensures.over c.if-is_near_both.true in
    let under = simp to_z-of_z at c.is_near_both.ensures.under c.if-is_near_both.true in
    near_both ns xs k c.args.s c.args.t box c.in-Var.x (Var (record { 0 = 0 })) c.requires.equal c.requires.place c.in-Var.is over under a

pub tighten_place-requires-2-clause-fits : goal.tighten_place-requires-2-clause-fits
tighten_place-requires-2-clause-fits c = fits_after c.args.asked c.requires.fits c.tighten_place.ensures.pruning c.in_ok-over.ensures.full

pub tighten_place-requires-2-clause-past : goal.tighten_place-requires-2-clause-past
tighten_place-requires-2-clause-past c =
    let ms = signed true c.args.factors.now in
    let xs = c.args.items.now in
    let old = least_sum ms xs c.args.store.now.box in
    let new = least_sum ms xs c.tighten_place.new.store.box in
    let r = c.in_ok-over.ensures.rises true in
    past_more c.args.asked.rule.now c.args.store.now.box c.tighten_place.new.store.box ms xs (old +ℤ pos c.args.t) (new +ℤ pos c.args.t) c.in_ok-over.ensures.alike (omega (arith, ints, r)) c.requires.under

pub returns-in_err-under-clause-pruning : goal.returns-in_err-under-clause-pruning
returns-in_err-under-clause-pruning c =
    prunes_more c.args.asked c.tighten_place.ensures.pruning c.tighten_place-2.ensures.pruning

pub returns-then-over-clause-pruning : goal.returns-then-over-clause-pruning
returns-then-over-clause-pruning c =
    prunes_more c.args.asked c.tighten_place.ensures.pruning c.tighten_place-2.ensures.pruning

pub returns-else-over-clause-near : goal.returns-else-over-clause-near
returns-else-over-clause-near c e a =
    let ns = c.args.factors.now in
    let ms = signed true ns in
    let xs = c.args.items.now in
    let k = c.args.k in
    let mid = same_box (is_just c.args.asked.c.0) c.args.asked.problem.now _ _ _ _ c.tighten_place.ensures.pruning (c.in_ok-over.ensures.grown.1 c.if-over.false) in
    let end = same_box (is_just c.args.asked.c.0) c.args.asked.problem.now _ _ _ _ c.tighten_place-2.ensures.pruning (c.in_ok-under.ensures.grown.1 e) in
    let S : Box → Type 0 = λ b. AllNear c.args.s (take (k + 1) ns) (take (k + 1) xs) b in
    let T : Box → Type 0 = λ b. AllNear c.args.t (take (k + 1) ms) (take (k + 1) xs) b in
    let U : Box → Type 0 = λ b. AllNear c.args.t (take k ms) (take k xs) b in
    (subst S mid (c.in_ok-over.ensures.near a.0), subst T (end ∙ mid) (c.in_ok-under.ensures.near (subst U (sym mid) a.1)))

pub returns-then-over-clause-alike : goal.returns-then-over-clause-alike
returns-then-over-clause-alike c =
    alike_more c.args.items.now c.args.store.now.box c.tighten_place.new.store.box c.tighten_place-2.new.store.box c.in_ok-over.ensures.alike c.in_ok-under.ensures.alike

pub returns-else-over-clause-alike : goal.returns-else-over-clause-alike
returns-else-over-clause-alike c =
    alike_more c.args.items.now c.args.store.now.box c.tighten_place.new.store.box c.tighten_place-2.new.store.box c.in_ok-over.ensures.alike c.in_ok-under.ensures.alike

pub returns-then-over-clause-rises : goal.returns-then-over-clause-rises
returns-then-over-clause-rises c b = omega (arith, ints, c.in_ok-over.ensures.rises b, c.in_ok-under.ensures.rises b)

pub returns-else-over-clause-rises : goal.returns-else-over-clause-rises
returns-else-over-clause-rises c b = omega (arith, ints, c.in_ok-over.ensures.rises b, c.in_ok-under.ensures.rises b)

pub returns-else-over-clause-pruning : goal.returns-else-over-clause-pruning
returns-else-over-clause-pruning c =
    prunes_more c.args.asked c.tighten_place.ensures.pruning c.tighten_place-2.ensures.pruning

pub returns-else-over-clause-grown : goal.returns-else-over-clause-grown
returns-else-over-clause-grown c =
    let same = c.in_ok-over.ensures.grown.1 c.if-over.false in
    ((λ e. omega (arith, c.in_ok-under.ensures.grown.0 e, ap length same)), (λ e. c.in_ok-under.ensures.grown.1 e ∙ same))
