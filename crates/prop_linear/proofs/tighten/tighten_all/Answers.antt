use Rattle.std.proofs.Common.{◌≡◌, ◌∙◌, ◌<◌, ◌+◌, sym, ap, subst, arith, length, take, true, false, Bool, ℕ, refl, ℤ}
use Rattle.std.specs.Prelude.{pos, ◌+ℤ◌}
use Rattle.std.proofs.lemmas.List.{take_all}
use Rattle.qc_model.specs.declared.problem.Arg.TheVariants.{Num}
use Rattle.model_arguments.proofs.Bools.{clash}
use Rattle.prop_base.proofs.Prunings.{prunes_more, fits_after}
use Rattle.prop_linear.specs.Tightening.{AllNear, least_sum}
use Rattle.prop_linear.specs.Sides.{IsPast, signed}
use Rattle.prop_linear.proofs.Moves.{keeps_items}
use Rattle.prop_linear.proofs.Alike.{alike_more, bounded_again}
use Rattle.prop_linear.proofs.Sides.{bounded_past, signed_length}
use Rattle.prop_linear.proofs.Found.{placed}
use Rattle.prop_linear.proofs.tighten.tighten_all.Goals.{then-branch, else-branch}
use Rattle.prop_linear.proofs.tighten.tighten_all.Goals as goal

pub tighten_place-requires-clause-past : goal.tighten_place-requires-clause-past
tighten_place-requires-clause-past c =
    let r = c.args.asked.rule.now in
    let ns = signed c.args.negative c.args.factors.now in
    let xs = c.args.items.now in
    let P : ℤ → Type 0 = λ z. IsPast r c.loop-k.store.box ns xs (z +ℤ pos c.args.s) in
    let bound = least_sum ns xs c.args.store.now.box +ℤ pos c.args.s in
    subst P (sym c.loop-k.invariant.sum) (bounded_past r c.loop-k.store.box ns xs bound (bounded_again r ns xs bound c.args.store.now.box c.loop-k.store.box c.loop-k.invariant.alike c.requires.bounded))

pub returns-in_err-tighten_place-clause-pruning : goal.returns-in_err-tighten_place-clause-pruning
returns-in_err-tighten_place-clause-pruning c =
    prunes_more c.args.asked c.loop-k.invariant.pruning c.tighten_place.ensures.pruning

-- steps were appended before, or none
longer : (b : Bool) (n m k : ℕ) → (b ≡ false → m ≡ n) → (b ≡ true → n < m) → k ≡ m + 1 → n < k
longer true n m k p q h = omega (arith, q refl)
longer false n m k p q h = omega (arith, p refl)

pub loop-k-preserved : goal.loop-k-preserved
loop-k-preserved c =
    let i = c.loop-k.invariant in
    let t = c.in_ok-tighten_place.ensures in
    let pruned = prunes_more c.args.asked i.pruning c.tighten_place.ensures.pruning in
    let fits = fits_after c.args.asked i.fits c.tighten_place.ensures.pruning t.full in
    let alike = alike_more c.args.items.now c.args.store.now.box c.loop-k.store.box c.tighten_place.new.store.box i.alike t.alike in
    elim c.if-branch.branch [
      | then-branch w ↦
          (record {
            pruning = pruned;
            fits = fits;
            alike = alike;
            sum = t.sum ∙ i.sum;
            near = t.near i.near;
            same = λ e. absurd (clash c.if-branch.changed w.changed-is e);
            grown = λ e. longer c.loop-k.changed _ _ _ (λ f. ap length (i.same f)) i.grown (t.grown.0 w.if-branch.true);
          })
      | else-branch w ↦
          (record {
            pruning = pruned;
            fits = fits;
            alike = alike;
            sum = t.sum ∙ i.sum;
            near = t.near i.near;
            same = λ e. t.grown.1 w.if-branch.false ∙ i.same (sym w.changed-is ∙ e);
            grown = λ e. omega (arith, i.grown (sym w.changed-is ∙ e), ap length (t.grown.1 w.if-branch.false));
          })
    ]

pub returns-clause-keeps : goal.returns-clause-keeps
returns-clause-keeps c =
    let i = c.loop-k.invariant in
    let g = c.args.asked.problem.now in
    let r = c.args.asked.rule.now in
    let ns = signed c.args.negative c.args.factors.now in
    let xs = c.args.items.now in
    let box = c.loop-k.store.box in
    let k = c.loop-k.k in
    let all_ns : take k ns ≡ ns = take_all k ns (omega (arith, signed_length c.args.negative c.args.factors.now, c.requires.equal)) in
    let all_xs : take k xs ≡ xs = take_all k xs (omega arith) in
    let near : AllNear c.args.s ns xs box =
    subst (λ l. AllNear c.args.s l xs box) all_ns (subst (λ l. AllNear c.args.s (take k ns) l box) all_xs i.near) in
    let bound = least_sum ns xs c.args.store.now.box +ℤ pos c.args.s in
    keeps_items r ns xs bound c.args.s box (bounded_again r ns xs bound c.args.store.now.box box i.alike c.requires.bounded) c.requires.once (signed_length c.args.negative c.args.factors.now ∙ c.requires.equal)
    (λ j x h q. placed g r box xs j x (Num (pos 0)) i.fits c.requires.sees h q)
    (ap (λ z. z +ℤ pos c.args.s) (sym i.sum)) near
