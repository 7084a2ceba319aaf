use Rattle.std.proofs.Common.{◌≡◌, ◌∙◌, ◌<◌, ◌+◌, sym, ap, subst, arith, length, true, false, Bool, ℕ, ℤ, refl}
use Rattle.std.specs.Prelude.{pos, ◌+ℤ◌, ◌≤ℤ◌}
use Rattle.std.proofs.lemmas.Int.{ints}
use Rattle.qc_model.specs.Domains.{Box}
use Rattle.model_arguments.proofs.Bools.{clash}
use Rattle.prop_base.specs.Pruning.{is_just}
use Rattle.prop_base.proofs.Prunings.{prunes_more, fits_after}
use Rattle.prop_linear.specs.Tightening.{least_sum}
use Rattle.prop_linear.specs.Sides.{AreNear, signed}
use Rattle.prop_linear.proofs.Alike.{alike_more}
use Rattle.prop_linear.proofs.Sides.{past_more}
use Rattle.prop_linear.proofs.Still.{same_box}
use Rattle.prop_linear.proofs.rounds.tighten_round.Goals.{then-branch, else-branch}
use Rattle.prop_linear.proofs.rounds.tighten_round.Goals as goal

pub tighten_both-requires-clause-over : goal.tighten_both-requires-clause-over
tighten_both-requires-clause-over c =
    let ns = c.args.factors.now in
    let xs = c.args.items.now in
    let old = least_sum ns xs c.args.store.now.box in
    let new = least_sum ns xs c.loop-k.store.box in
    let r = c.loop-k.invariant.rises false in
    past_more c.args.asked.rule.now c.args.store.now.box c.loop-k.store.box ns xs (old +ℤ pos c.args.s) (new +ℤ pos c.args.s) c.loop-k.invariant.alike (omega (arith, ints, r)) c.requires.over

pub tighten_both-requires-clause-under : goal.tighten_both-requires-clause-under
tighten_both-requires-clause-under c =
    let ms = signed true c.args.factors.now in
    let xs = c.args.items.now in
    let old = least_sum ms xs c.args.store.now.box in
    let new = least_sum ms xs c.loop-k.store.box in
    let r = c.loop-k.invariant.rises true in
    past_more c.args.asked.rule.now c.args.store.now.box c.loop-k.store.box ms xs (old +ℤ pos c.args.t) (new +ℤ pos c.args.t) c.loop-k.invariant.alike (omega (arith, ints, r)) c.requires.under

pub returns-in_err-tighten_both-clause-pruning : goal.returns-in_err-tighten_both-clause-pruning
returns-in_err-tighten_both-clause-pruning c =
    prunes_more c.args.asked c.loop-k.invariant.pruning c.tighten_both.ensures.pruning

longer : (b : Bool) (n m k : ℕ) → (b ≡ false → m ≡ n) → (b ≡ true → n < m) → m < k → n < k
longer true n m k p q h = omega (arith, q refl, h)
longer false n m k p q h = omega (arith, p refl, h)

rise_on : (a b d : ℤ) → a ≤ℤ b → b ≤ℤ d → a ≤ℤ d
rise_on a b d h k = omega (arith, ints, h, k)

pub loop-k-preserved : goal.loop-k-preserved
loop-k-preserved c =
    let i = c.loop-k.invariant in
    let t = c.in_ok-tighten_both.ensures in
    let g = c.args.asked.problem.now in
    let ok = is_just c.args.asked.c.0 in
    let ns = c.args.factors.now in
    let xs = c.args.items.now in
    let pruned = prunes_more c.args.asked i.pruning c.tighten_both.ensures.pruning in
    let fits = fits_after c.args.asked i.fits c.tighten_both.ensures.pruning t.full in
    let rises : (b : Bool) → least_sum (signed b ns) xs c.args.store.now.box ≤ℤ least_sum (signed b ns) xs c.tighten_both.new.store.box = λ b. rise_on (least_sum (signed b ns) xs c.args.store.now.box) (least_sum (signed b ns) xs c.loop-k.store.box) (least_sum (signed b ns) xs c.tighten_both.new.store.box) (i.rises b) (t.rises b) in
    let alike = alike_more xs c.args.store.now.box c.loop-k.store.box c.tighten_both.new.store.box i.alike t.alike in
    elim c.if-branch.branch [
      | then-branch w ↦
          (record {
            pruning = pruned;
            fits = fits;
            rises = rises;
            alike = alike;
            near = λ e. absurd (clash c.if-branch.changed w.changed-is e);
            same = λ e. absurd (clash c.if-branch.changed w.changed-is e);
            grown = λ e. longer c.loop-k.changed _ _ _ (λ f. ap length (i.same f)) i.grown (t.grown.0 w.if-branch.true);
          })
      | else-branch w ↦
          (record {
            pruning = pruned;
            fits = fits;
            rises = rises;
            alike = alike;
            near = λ e.
                let unchanged = sym w.changed-is ∙ e in
                let box = same_box ok g _ _ _ _ i.pruning (i.same unchanged) in
                let N : Box → Type 0 = λ b. AreNear (c.loop-k.k + 1) c.args.s c.args.t ns xs b in
                let M : Box → Type 0 = λ b. AreNear c.loop-k.k c.args.s c.args.t ns xs b in
                subst N box (t.near w.if-branch.false (subst M (sym box) (i.near unchanged)));
            same = λ e. t.grown.1 w.if-branch.false ∙ i.same (sym w.changed-is ∙ e);
            grown = λ e. omega (arith, i.grown (sym w.changed-is ∙ e), ap length (t.grown.1 w.if-branch.false));
          })
    ]
