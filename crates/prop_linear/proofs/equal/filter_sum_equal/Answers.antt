use Rattle.std.proofs.Common.{◌≡◌, ◌<◌, refl, sym, ap, subst, arith, rules, length, true, false, Bool, ℕ}
use Rattle.std.proofs.lemmas.Int.{to_z-of_z}
use mir.Val.{SFits}
use mir.Syntax.{w64}
use Rattle.prop_base.specs.Filtering.{Fits}
use Rattle.prop_base.specs.Pruning.{is_just, IsFiltered}
use Rattle.prop_base.proofs.Steps.{pruning_total}
use Rattle.prop_base.specs.declared.answer.Filtered.{Filtered}
use Rattle.prop_base.proofs.Prunings.{prunes_more, fits_after}
use Rattle.prop_linear.specs.Sides.{IsRound}
use Rattle.prop_linear.proofs.Alike.{alike_more, balanced_again}
use Rattle.prop_linear.proofs.Still.{ended_filtered, open_again}
use Rattle.prop_linear.proofs.equal.filter_sum_equal.Goals as goal

pub run_round-requires-clause-balanced : goal.run_round-requires-clause-balanced
run_round-requires-clause-balanced c =
    let b_fits : SFits w64 c.args.bound = search rules in
    simp to_z-of_z (balanced_again c.args.asked.rule.now c.args.factors.now c.args.items.now c.args.bound c.args.store.now.box c.loop-changed.store.box c.loop-changed.invariant.alike c.requires.balanced)

pub returns-in_err-run_round-clause-pruning : goal.returns-in_err-run_round-clause-pruning
returns-in_err-run_round-clause-pruning c =
    prunes_more c.args.asked c.loop-changed.invariant.pruning c.run_round.ensures.pruning

pub returns-in-Emptied-clause-pruning : goal.returns-in-Emptied-clause-pruning
returns-in-Emptied-clause-pruning c =
    prunes_more c.args.asked c.loop-changed.invariant.pruning c.run_round.ensures.pruning

pub returns-in-Stable-clause-pruning : goal.returns-in-Stable-clause-pruning
returns-in-Stable-clause-pruning c =
    prunes_more c.args.asked c.loop-changed.invariant.pruning c.run_round.ensures.pruning

pub returns-in-Stable-clause-answer : goal.returns-in-Stable-clause-answer
returns-in-Stable-clause-answer c =
    let i = c.loop-changed.invariant in
    let r = c.args.asked.rule.now in
    let a = subst (λ f. IsRound f r c.run_round.new.store.box c.loop-changed.steps c.run_round.new.steps) c.in-Stable.is c.in_ok-run_round.ensures.answer in
    let F : Filtered → Type 0 = λ f. IsFiltered f r c.run_round.new.store.box c.args.steps.now c.run_round.new.steps in
    subst F (sym c.ended.ensures) (ended_filtered c.loop-changed.changed r c.run_round.new.store.box c.args.steps.now c.loop-changed.steps c.run_round.new.steps i.same i.grown a)

pub loop-changed-smaller : goal.loop-changed-smaller
loop-changed-smaller c =
    let a = subst (λ f. IsRound f c.args.asked.rule.now c.run_round.new.store.box c.loop-changed.steps c.run_round.new.steps) c.in-Changed.is c.in_ok-run_round.ensures.answer in
    omega (arith, a.1, pruning_total (is_just c.args.asked.c.0) c.args.asked.problem.now _ _ _ _ c.run_round.ensures.pruning)

-- steps were appended before, or none
longer : (b : Bool) (n m k : ℕ) → (b ≡ false → m ≡ n) → (b ≡ true → n < m) → m < k → n < k
longer true n m k p q h = omega (arith, q refl, h)
longer false n m k p q h = omega (arith, p refl, h)

pub loop-changed-preserved : goal.loop-changed-preserved
loop-changed-preserved c =
    let i = c.loop-changed.invariant in
    let g = c.args.asked.problem.now in
    let r = c.args.asked.rule.now in
    let a = subst (λ f. IsRound f r c.run_round.new.store.box c.loop-changed.steps c.run_round.new.steps) c.in-Changed.is c.in_ok-run_round.ensures.answer in
    let fits : Fits c.args.asked c.run_round.new.store = fits_after c.args.asked i.fits c.run_round.ensures.pruning a.0 in
    record {
      pruning = prunes_more c.args.asked i.pruning c.run_round.ensures.pruning;
      fits = fits;
      opened = open_again g r c.loop-changed.store.box c.run_round.new.store.box c.args.items.now c.known.ensures.domains fits c.requires.sees i.opened;
      alike = alike_more c.args.items.now c.args.store.now.box c.loop-changed.store.box c.run_round.new.store.box i.alike (c.in_ok-run_round.ensures.alike c.in-Changed.is);
      same = λ e. cc;
      grown = λ e. longer c.loop-changed.changed _ _ _ (λ f. ap length (i.same f)) i.grown a.1;
    }
