use Rattle.std.proofs.Common.{◌≡◌, length, subst, arith, true, false}
use Rattle.std.specs.Prelude.{IfOk, OnOk, pos, ◌+ℤ◌}
use Rattle.std.proofs.lemmas.Int.{ints}
use Rattle.prop_base.specs.Pruning.{is_just}
use Rattle.prop_base.proofs.Prunings.{prunes_more, fits_after}
use Rattle.prop_linear.specs.Tightening.{AlikeOutside, least_sum}
use Rattle.prop_linear.specs.Sides.{AreNear, signed}
use Rattle.prop_linear.proofs.Sides.{past_more}
use Rattle.prop_linear.proofs.Still.{same_box}
use Rattle.prop_linear.proofs.rounds.tighten_first.Goals as goal

pub tighten_round-requires-clause-fits : goal.tighten_round-requires-clause-fits
tighten_round-requires-clause-fits c = fits_after c.args.asked c.requires.fits c.tighten_both.ensures.pruning c.in_ok-tighten_both.ensures.full

pub tighten_round-requires-clause-over : goal.tighten_round-requires-clause-over
tighten_round-requires-clause-over c =
    let ns = c.args.factors.now in
    let xs = c.args.items.now in
    let old = least_sum ns xs c.args.store.now.box in
    let new = least_sum ns xs c.tighten_both.new.store.box in
    let r = c.in_ok-tighten_both.ensures.rises false in
    past_more c.args.asked.rule.now c.args.store.now.box c.tighten_both.new.store.box ns xs (old +ℤ pos c.args.s) (new +ℤ pos c.args.s) c.in_ok-tighten_both.ensures.alike (omega (arith, ints, r)) c.requires.over

pub tighten_round-requires-clause-under : goal.tighten_round-requires-clause-under
tighten_round-requires-clause-under c =
    let ms = signed true c.args.factors.now in
    let xs = c.args.items.now in
    let old = least_sum ms xs c.args.store.now.box in
    let new = least_sum ms xs c.tighten_both.new.store.box in
    let r = c.in_ok-tighten_both.ensures.rises true in
    past_more c.args.asked.rule.now c.args.store.now.box c.tighten_both.new.store.box ms xs (old +ℤ pos c.args.t) (new +ℤ pos c.args.t) c.in_ok-tighten_both.ensures.alike (omega (arith, ints, r)) c.requires.under

pub returns-clause-pruning : goal.returns-clause-pruning
returns-clause-pruning c = prunes_more c.args.asked c.tighten_both.ensures.pruning c.tighten_round.ensures.pruning

pub returns-clause-alike : goal.returns-clause-alike
returns-clause-alike c =
    let mid = same_box (is_just c.args.asked.c.0) c.args.asked.problem.now _ _ _ _ c.tighten_both.ensures.pruning (c.in_ok-tighten_both.ensures.grown.1 c.if-branch.false) in
    subst (λ b. OnOk c.tighten_round.result (AlikeOutside c.args.items.now b c.tighten_round.new.store.box)) mid c.tighten_round.ensures.alike

pub returns-clause-near : goal.returns-clause-near
returns-clause-near c =
    let mid = same_box (is_just c.args.asked.c.0) c.args.asked.problem.now _ _ _ _ c.tighten_both.ensures.pruning (c.in_ok-tighten_both.ensures.grown.1 c.if-branch.false) in
    subst (λ b. IfOk c.tighten_round.result (λ r. r ≡ false → AreNear (length c.args.items.now) c.args.s c.args.t c.args.factors.now c.args.items.now b)) mid c.tighten_round.ensures.near
