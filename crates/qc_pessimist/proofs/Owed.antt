-- What the calls that make the new problem owe.
use Rattle.std.proofs.Common.{◌≡◌, sym, subst, ℕ, ◌≤◌, Bool, length}
use Rattle.qc_model.specs.Content.{Game}
use Rattle.qc_model.specs.Valid.{IsValid}
use Rattle.qc_pessimist.specs.Opposed.{with_opposing, opposed_game}
use Rattle.qc_pessimist.specs.Laws.{ReadsAtWorst}
use Rattle.qc_pessimist.proofs.AtWorst.{reads_at_worst}
use Rattle.qc_pessimist.proofs.Valid.{stays_valid}

pub reads_as : (q : ℕ → Bool) (g h : Game) → h ≡ opposed_game q g → ReadsAtWorst q g h
reads_as q g h e = subst (ReadsAtWorst q g) (sym e) (reads_at_worst q g)

pub few_scopes : (q : ℕ → Bool) (g h : Game) → h ≡ opposed_game q g → length h.scopes ≤ 64 → length (with_opposing q 0 g.scopes) ≤ 64
few_scopes q g h e few = subst (λ k. length k.scopes ≤ 64) e few

pub draft_valid : (q : ℕ → Bool) (g h : Game) → IsValid g → h ≡ opposed_game q g → length h.scopes ≤ 64 → IsValid h
draft_valid q g h v e few = subst IsValid (sym e) (stays_valid q g v (few_scopes q g h e few))
