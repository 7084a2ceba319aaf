use Rattle.std.proofs.Common.{◌≡◌, ◌∷◌, List, ℤ, subst}
use Rattle.qc_check.specs.Places.{StartHeld, rest}
use Rattle.qc_check.proofs.Places.{top_is}
use Rattle.qc_check.proofs.starts.Starts.last.Goals as goal

pub returns-clause-some : goal.returns-clause-some
returns-clause-some c =
    let m = c.self.inside in
    subst (λ (ss : List StartHeld). (x : List ℤ) × (ss ≡ record { start = c.index.result.now; values = x } ∷ rest ss)) c.self.view_is
    (top_is m.places.items m.values.items m.width m.depth c.index.result.now c.if-self-eq0.false c.self.invariant.filled c.index.ensures)
