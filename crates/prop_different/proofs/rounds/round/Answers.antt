use Rattle.std.proofs.Common.{◌≡◌, ◌∙◌, ℕ, ◌<◌, sym, ap, subst, length, map, get_or, [], true, false, arith, Bool, refl}
use Rattle.std.proofs.lemmas.List.{length-map}
use Rattle.qc_model.specs.Domains.{Box, least_value, has_empty}
use Rattle.qc_model.specs.Refuted.{left_to}
use Rattle.prop_base.specs.declared.answer.Filtered.{Filtered}
use Rattle.prop_base.proofs.Prunings.{prunes_more, fits_after}
use Rattle.prop_different.specs.Parts.{IsPart}
use Rattle.prop_different.specs.Quiet.{IsQuiet}
use Rattle.qc_refuter.proofs.Fill.{one_more}
use Rattle.prop_different.proofs.rounds.round.Goals.{in-Stable, in-Changed}
use Rattle.prop_different.proofs.rounds.round.Goals as goal

pub returns-in_err-take_turn-clause-pruning : goal.returns-in_err-take_turn-clause-pruning
returns-in_err-take_turn-clause-pruning c =
    prunes_more c.args.asked c.loop-k.invariant.pruning c.take_turn.ensures.pruning

pub returns-in-Emptied-clause-pruning : goal.returns-in-Emptied-clause-pruning
returns-in-Emptied-clause-pruning c = prunes_more c.args.asked c.loop-k.invariant.pruning c.take_turn.ensures.pruning

-- steps were appended before, or none
longer : (b : Bool) (n m k : ℕ) → (b ≡ false → m ≡ n) → (b ≡ true → n < m) → m < k → n < k
longer true n m k p q h = omega (arith, q refl, h)
longer false n m k p q h = omega (arith, p refl, h)

not_both : (b : Bool) → b ≡ true → b ≡ false → ⊥
not_both true h k = cc
not_both false h k = cc

pub loop-k-preserved : goal.loop-k-preserved
loop-k-preserved c =
    let i = c.loop-k.invariant in
    let xs = c.args.items.now in
    let k = c.loop-k.k in
    let pruned = prunes_more c.args.asked i.pruning c.take_turn.ensures.pruning in
    let Q : Box → ℕ → Type 0 = λ box j. IsQuiet (map (left_to box) xs) (least_value (get_or (map (left_to box) xs) j [])) in
    let A : Filtered → Type 0 = λ f. IsPart f (λ box. ((j : ℕ) → j < k → Q box j) → Q box k) c.loop-k.store.box c.take_turn.new.store.box c.loop-k.steps c.take_turn.new.steps in
    elim c.match-branch-2.branch [
      | in-Stable w ↦
          (let a = subst A w.in-Stable.is c.in_ok-take_turn.ensures.answer in
          record {
            pruning = pruned;
            fits = fits_after c.args.asked i.fits c.take_turn.ensures.pruning (ap has_empty a.0 ∙ i.fits.full);
            kept = λ e. a.0 ∙ i.kept (sym w.changed-is ∙ e);
            same = λ e. a.1 ∙ i.same (sym w.changed-is ∙ e);
            grown = λ e. omega (arith, i.grown (sym w.changed-is ∙ e), ap length a.1);
            quiet = λ e.
                let before = i.quiet (sym w.changed-is ∙ e) in
                let N : Box → Type 0 = λ box. ((j : ℕ) → j < k → Q box j) → Q box k in
                one_more (Q c.args.store.now.box) k before (subst N (i.kept (sym w.changed-is ∙ e)) a.2 before);
          })
      | in-Changed w ↦
          (let a = subst A w.in-Changed.is c.in_ok-take_turn.ensures.answer in
          record {
            pruning = pruned;
            fits = fits_after c.args.asked i.fits c.take_turn.ensures.pruning a.0;
            kept = λ e. absurd (not_both c.match-branch-2.changed w.changed-is e);
            same = λ e. absurd (not_both c.match-branch-2.changed w.changed-is e);
            grown = λ e. longer c.loop-k.changed _ _ _ (λ f. ap length (i.same f)) i.grown a.1;
            quiet = λ e. absurd (not_both c.match-branch-2.changed w.changed-is e);
          })
    ]

pub returns-else-changed-clause-answer : goal.returns-else-changed-clause-answer
returns-else-changed-clause-answer c =
    let i = c.loop-k.invariant in
    (i.kept c.if-changed.false, i.same c.if-changed.false, λ j h. i.quiet c.if-changed.false j (omega (arith, h, length-map c.args.items.now (left_to c.args.store.now.box), c.loop-k-test.false)))
