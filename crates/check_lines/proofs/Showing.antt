-- What a certificate proves, by what its lines come to.
use Rattle.std.proofs.Common.{◌≡◌, ℕ, ◌<◌, ◌-◌, ◌^◌, min, Bool, not, ◌&&◌, List, [], refl, sym, ap, ◌∙◌, arith, Option, Some, None, ℤ}
use Rattle.std.specs.Prelude.{◌==◌}
use Rattle.std.proofs.lemmas.Bool.Decides.{nat_tests}
use Rattle.qc_model.specs.Content.{Game}
use Rattle.qc_model.specs.Verdict.{is_exact, is_lost, is_unknown}
use Rattle.joins.specs.declared.leaves.Found.{Found}
use Rattle.joins.specs.declared.leaves.Found.TheVariants.{Lost, Exact, AtMost, Unknown}
use Rattle.joins.specs.Seen.{verdict_of}
use Rattle.proof_tree.specs.declared.tree.Outcome.{Outcome}
use Rattle.proof_tree.specs.declared.tree.Outcome.TheVariants.{True, False, Open}
use Rattle.proof_tree.specs.Tree.{Tree}
use Rattle.proof_tree.specs.Read.{root_finding}
use Rattle.proof_tree.specs.Proves.{proves, shows, optimises_first, is_value}
use Rattle.proof_tree.specs.Counts.{turns_of}
use Rattle.check_lines.specs.declared.answer.Answer.{Answer}
use Rattle.check_lines.specs.Found.{IsAnswer}
use Rattle.check_lines.specs.Shown.{answer_shows}

-- the vector is of no matter
bare_exact : (f : Found) (w : List ℤ) → is_exact (verdict_of f w) ≡ is_exact (verdict_of f [])
bare_exact Lost w = refl
bare_exact Exact w = refl
bare_exact (AtMost n) w = refl
bare_exact Unknown w = refl

bare_lost : (f : Found) (w : List ℤ) → is_lost (verdict_of f w) ≡ is_lost (verdict_of f [])
bare_lost Lost w = refl
bare_lost Exact w = refl
bare_lost (AtMost n) w = refl
bare_lost Unknown w = refl

pub bare_unknown : (f : Found) (w : List ℤ) → is_unknown (verdict_of f w) ≡ is_unknown (verdict_of f [])
bare_unknown Lost w = refl
bare_unknown Exact w = refl
bare_unknown (AtMost n) w = refl
bare_unknown Unknown w = refl

-- fewer turns than can be counted are counted exactly
same_count : (a n : ℕ) → n < 2 ^ 64 - 1 → (a == n) ≡ (min a (2 ^ 64 - 1) == n)
same_count a n h = grind (arith, nat_tests)

pub three : (a a' b b' c c' : Bool) → a ≡ a' → b ≡ b' → c ≡ c' → (a && b && c) ≡ (a' && b' && c')
three a a' b b' c c' e f k = rw (e, f, k) refl

-- so few turns were taken that they can be counted
abbrev pub IsCounted : Outcome → Type 0
IsCounted True = Unit {0}
IsCounted False = Unit {0}
IsCounted (Open n) = n < 2 ^ 64 - 1

module _ (g : Game) (t : Tree) (f : Answer) (a : IsAnswer g t f) where
  pub shows_answer : (o : Outcome) (p : Option ℤ) → IsCounted o → shows g t (root_finding g t) o p ≡ answer_shows g.scopes f o p
  shows_answer True None few = ap (λ b. b && not (optimises_first g.scopes)) (ap is_exact a.verdict ∙ bare_exact f.found a.vector)
  shows_answer True (Some v) few = three _ _ _ _ _ _ (ap is_exact a.verdict ∙ bare_exact f.found a.vector) refl (ap (is_value v) (sym a.own))
  shows_answer False None few = ap is_lost a.verdict ∙ bare_lost f.found a.vector
  shows_answer False (Some v) few = refl
  shows_answer (Open n) None few =
      three _ _ _ _ _ _ (ap is_unknown a.verdict ∙ bare_unknown f.found a.vector)
      (same_count (turns_of t) n few ∙ ap (λ k. k == n) (sym a.turns)) (sym a.has_open)
  shows_answer (Open n) (Some v) few = refl

  pub proves_answer : (o : Outcome) (p : Option ℤ) → IsCounted o → proves g o p t ≡ answer_shows g.scopes f o p
  proves_answer o p few = ap (λ b. b && shows g t (root_finding g t) o p) a.in_place ∙ shows_answer o p few
