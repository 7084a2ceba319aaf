use Rattle.std.proofs.Common.{◌≡◌, ◌<◌, ◌≤◌, ◌+◌, ◌++◌, ◌∷◌, ◌∙◌, List, ℕ, sym, ap, refl, length, get_or, drop, add-one, append_assoc, append-nil}
use Rattle.std.proofs.Math.Seq.{drop-cons}
use Rattle.std.proofs.lemmas.List.{drop_all}
use Rattle.proof_tree.specs.declared.tree.Step.{Step}
use Rattle.proof_text.specs.Parts.{step_text, steps_text}
use Rattle.proof_text.proofs.write.put_steps.Goals as goal

-- with one more step written, the rest of them follows
step_written : (now next whole : List ℕ) (steps : List Step) (k : ℕ) (other : Step) → k < length steps → now ++ steps_text (drop k steps) ≡ whole → next ≡ now ++ step_text (get_or steps k other) → next ++ steps_text (drop (k + 1) steps) ≡ whole
step_written now next whole steps k other lt h e =
    let rest : drop k steps ≡ get_or steps k other ∷ drop (k + 1) steps = rw (add-one, drop-cons steps k other) refl in
    ap (λ (l : List ℕ). l ++ steps_text (drop (k + 1) steps)) e
    ∙ append_assoc now (step_text (get_or steps k other)) (steps_text (drop (k + 1) steps))
    ∙ ap (λ ss. now ++ steps_text ss) (sym rest)
    ∙ h

-- past the last step all is written
all_written : (now whole : List ℕ) (steps : List Step) (k : ℕ) → length steps ≤ k → now ++ steps_text (drop k steps) ≡ whole → now ≡ whole
all_written now whole steps k le h = sym (append-nil now) ∙ ap (λ ss. now ++ steps_text ss) (sym (drop_all k steps le)) ∙ h

pub loop-step-preserved : goal.loop-step-preserved
loop-step-preserved c = step_written c.loop-step.out.items _ _ c.args.steps.now c.loop-step.step-index _ c.loop-step-test.true c.loop-step.invariant c.in_ok-put_step.ensures

pub returns : goal.returns
returns c = all_written c.loop-step.out.items _ c.args.steps.now c.loop-step.step-index c.loop-step-test.false c.loop-step.invariant
