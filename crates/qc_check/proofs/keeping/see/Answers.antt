use Rattle.std.proofs.Common.{◌≡◌, ◌∙◌, refl, sym, subst, inr, List, ◌∷◌}
use Rattle.std.specs.Prelude.{IsTrue}
use Rattle.proof_alike.specs.Alike.{is_looked_at}
use Rattle.likeness.specs.Likeness.{line_looks}
use Rattle.qc_check.specs.Places.{StartHeld}
use Rattle.qc_check.proofs.keeping.see.Goals as goal

first_same : (s t : StartHeld) (xs ys : List StartHeld) → ◌≡◌ {A = List StartHeld} (s ∷ xs) (t ∷ ys) → s ≡ t
first_same s t xs ys e = cc

pub returns-else-not-looks_at : goal.returns-else-not-looks_at
returns-else-not-looks_at c =
    let g = c.args.memory.now in
    let x = c.in-Prune.x.0 in
    inr (
      refl,
      λ s more e.
          let here = c.in-Some.ensures.some in
          let same = first_same s (record { start = c.in-Some.start; values = here.0 }) more _ (sym e ∙ here.1) in
          subst (λ l. IsTrue (line_looks g s.start.node.scope l)) (sym c.in-Prune.is)
          (subst (λ (t : StartHeld). IsTrue (is_looked_at g t.start.node.scope x)) (sym same) (c.looks_at.ensures c.if-not-looks_at.false)),
    )
