use Rattle.std.proofs.Common.{◌≡◌, ◌∙◌, ◌<◌, ap, subst, length, map, true, false, arith, Bool, ℕ, refl}
use Rattle.qc_model.specs.declared.problem.Arg.TheVariants.{Var}
use Rattle.qc_model.specs.Closed.{keeps_ends}
use Rattle.qc_model.specs.Domains.{has_empty}
use Rattle.qc_model.specs.Refuted.{left_to}
use Rattle.prop_base.specs.declared.answer.Filtered.{Filtered}
use Rattle.prop_base.specs.Pruning.{is_just}
use Rattle.prop_base.proofs.Steps.{pruning_total}
use Rattle.prop_base.proofs.Prunings.{prunes_more, fits_after}
use Rattle.prop_different.specs.Parts.{IsPart}
use Rattle.prop_different.specs.Quiet.{AllQuiet}
use Rattle.prop_different.proofs.Items.{quiet_items}
use Rattle.prop_different.proofs.Placed.{placed}
use Rattle.prop_different.proofs.rounds.settle_all.Goals as goal

pub returns-in_err-round-clause-pruning : goal.returns-in_err-round-clause-pruning
returns-in_err-round-clause-pruning c =
    prunes_more c.args.asked c.loop-changed.invariant.pruning c.round.ensures.pruning

pub returns-in-Emptied-clause-pruning : goal.returns-in-Emptied-clause-pruning
returns-in-Emptied-clause-pruning c = prunes_more c.args.asked c.loop-changed.invariant.pruning c.round.ensures.pruning

pub loop-changed-smaller : goal.loop-changed-smaller
loop-changed-smaller c =
    let A : Filtered → Type 0 = λ f. IsPart f (λ box. AllQuiet (map (left_to box) c.args.items.now)) c.loop-changed.store.box c.round.new.store.box c.loop-changed.steps c.round.new.steps in
    let a = subst A c.in-Changed.is c.in_ok-round.ensures.answer in
    omega (arith, a.1, pruning_total (is_just c.args.asked.c.0) c.args.asked.problem.now _ _ _ _ c.round.ensures.pruning)

not_false : true ≡ false → ⊥
not_false e = cc

-- steps were appended before, or none
longer : (b : Bool) (n m k : ℕ) → (b ≡ false → m ≡ n) → (b ≡ true → n < m) → m < k → n < k
longer true n m k p q h = omega (arith, q refl, h)
longer false n m k p q h = omega (arith, p refl, h)

pub loop-changed-preserved : goal.loop-changed-preserved
loop-changed-preserved c =
    let i = c.loop-changed.invariant in
    let A : Filtered → Type 0 = λ f. IsPart f (λ box. AllQuiet (map (left_to box) c.args.items.now)) c.loop-changed.store.box c.round.new.store.box c.loop-changed.steps c.round.new.steps in
    let a = subst A c.in-Changed.is c.in_ok-round.ensures.answer in
    record {
      pruning = prunes_more c.args.asked i.pruning c.round.ensures.pruning;
      fits = fits_after c.args.asked i.fits c.round.ensures.pruning a.0;
      same = λ e. absurd (not_false e);
      grown = λ e. longer c.loop-changed.changed _ _ _ (λ f. ap length (i.same f)) i.grown a.1;
    }

pub returns-then-changed-clause-answer : goal.returns-then-changed-clause-answer
returns-then-changed-clause-answer c =
    let i = c.loop-changed.invariant in
    let g = c.args.asked.problem.now in
    let r = c.args.asked.rule.now in
    let xs = c.args.items.now in
    let box = c.loop-changed.store.box in
    let A : Filtered → Type 0 = λ f. IsPart f (λ b. AllQuiet (map (left_to b) xs)) box c.round.new.store.box c.loop-changed.steps c.round.new.steps in
    let a = subst A c.in-Stable.is c.in_ok-round.ensures.answer in
    let keeps = quiet_items g r xs box (Var (record { 0 = 0 })) c.requires.different (λ k x h q. placed g r box xs k x (Var (record { 0 = 0 })) i.fits c.requires.different h q) a.2 in
    (ap has_empty a.0 ∙ i.fits.full, λ e. omega (arith, i.grown c.if-changed.true, ap length e, ap length a.1), ap (λ b. keeps_ends b r) a.0 ∙ keeps)

pub returns-else-changed-clause-answer : goal.returns-else-changed-clause-answer
returns-else-changed-clause-answer c =
    let i = c.loop-changed.invariant in
    let g = c.args.asked.problem.now in
    let r = c.args.asked.rule.now in
    let xs = c.args.items.now in
    let box = c.loop-changed.store.box in
    let A : Filtered → Type 0 = λ f. IsPart f (λ b. AllQuiet (map (left_to b) xs)) box c.round.new.store.box c.loop-changed.steps c.round.new.steps in
    let a = subst A c.in-Stable.is c.in_ok-round.ensures.answer in
    let keeps = quiet_items g r xs box (Var (record { 0 = 0 })) c.requires.different (λ k x h q. placed g r box xs k x (Var (record { 0 = 0 })) i.fits c.requires.different h q) a.2 in
    (ap has_empty a.0 ∙ i.fits.full, a.1 ∙ i.same c.if-changed.false, ap (λ b. keeps_ends b r) a.0 ∙ keeps)
