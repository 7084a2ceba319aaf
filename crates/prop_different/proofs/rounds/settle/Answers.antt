use Rattle.std.proofs.Common.{◌≡◌, ◌∙◌, ◌<◌, ◌+◌, sym, ap, subst, length, map, get_or, [], true, false, arith, Bool, ℕ, refl}
use Rattle.qc_model.specs.Domains.{Box, least_value}
use Rattle.qc_model.specs.Refuted.{left_to}
use Rattle.prop_base.specs.Pruning.{is_just}
use Rattle.prop_base.proofs.Steps.{pruning_step}
use Rattle.prop_base.proofs.Prunings.{prunes_more, fits_after}
use Rattle.prop_different.specs.Quiet.{IsQuiet}
use Rattle.prop_different.proofs.rounds.settle.Goals as goal

pub returns-in_err-prune-clause-pruning : goal.returns-in_err-prune-clause-pruning
returns-in_err-prune-clause-pruning c = prunes_more c.args.asked c.loop-cut.invariant.pruning c.prune.ensures.pruning

pub returns-then-branch-clause-pruning : goal.returns-then-branch-clause-pruning
returns-then-branch-clause-pruning c = prunes_more c.args.asked c.loop-cut.invariant.pruning c.prune.ensures.pruning

pub loop-cut-smaller : goal.loop-cut-smaller
loop-cut-smaller c = pruning_step (is_just c.args.asked.c.0) c.args.asked.problem.now _ _ _ _ c.prune.ensures.pruning c.in_ok-prune.ensures.grown

not_false : true ≡ false → ⊥
not_false e = cc

-- steps were appended before, or none
longer : (b : Bool) (n m k : ℕ) → (b ≡ false → m ≡ n) → (b ≡ true → n < m) → k ≡ m + 1 → n < k
longer true n m k p q h = omega (arith, q refl)
longer false n m k p q h = omega (arith, p refl)

pub loop-cut-preserved : goal.loop-cut-preserved
loop-cut-preserved c =
    let i = c.loop-cut.invariant in
    record {
      pruning = prunes_more c.args.asked i.pruning c.prune.ensures.pruning;
      fits = fits_after c.args.asked i.fits c.prune.ensures.pruning (sym c.in_ok-prune.ensures.emptied ∙ c.if-branch.false);
      kept = λ e. absurd (not_false e);
      same = λ e. absurd (not_false e);
      grown = λ e. longer c.loop-cut.changed _ _ _ (λ f. ap length (i.same f)) i.grown c.in_ok-prune.ensures.grown;
    }

pub returns-then-changed-clause-answer : goal.returns-then-changed-clause-answer
returns-then-changed-clause-answer c =
    let i = c.loop-cut.invariant in
    (i.fits.full, i.grown c.if-changed.true)

pub returns-else-changed-clause-answer : goal.returns-else-changed-clause-answer
returns-else-changed-clause-answer c =
    let i = c.loop-cut.invariant in
    let kept = i.kept c.if-changed.false in
    let P : Box → Type 0 = λ box. IsQuiet (map (left_to box) c.args.items.now) (least_value (get_or (map (left_to box) c.args.items.now) c.args.place [])) in
    (kept, i.same c.if-changed.false, subst P kept c.in_default.ensures.none)
