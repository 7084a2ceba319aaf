-- What a node comes to, by what is told of it.
use Rattle.std.proofs.Common.{◌≡◌, List, sym, ap, ◌∙◌, ℤ}
use Rattle.qc_model.specs.Verdict.{lost, exact, at_most, unknown}
use Rattle.joins.specs.declared.leaves.Found.TheVariants.{Lost, Exact, AtMost, Unknown}
use Rattle.joins.specs.Seen.{verdict_of}
use Rattle.proof_tree.specs.Finding.{Finding}
use Rattle.qc_play.specs.declared.shown.Shown.{Shown}
use Rattle.qc_play.specs.Shown.{Shows}

module _ (f : Finding) (v : List ℤ) (s : Shown) (h : Shows f v s) where
  pub shown_exact : s.found ≡ Exact → f.verdict ≡ exact v
  shown_exact e = sym h.verdict ∙ ap (λ z. verdict_of z v) e

  pub shown_lost : s.found ≡ Lost → f.verdict ≡ lost
  shown_lost e = sym h.verdict ∙ ap (λ z. verdict_of z v) e

  pub shown_bounded : (n : ℤ) → s.found ≡ AtMost n → f.verdict ≡ at_most n
  shown_bounded n e = sym h.verdict ∙ ap (λ z. verdict_of z v) e

  pub shown_unknown : s.found ≡ Unknown → f.verdict ≡ unknown
  shown_unknown e = sym h.verdict ∙ ap (λ z. verdict_of z v) e
