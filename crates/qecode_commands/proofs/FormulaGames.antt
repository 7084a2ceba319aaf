-- The games of formulas: what is stated of them is so of the formulas.
use Rattle.std.proofs.Common.{◌↔◌, ℕ, List, Bool, true, false, Option, Some, None, ℤ, IsTrue, IsFalse, refl, subst}
use Rattle.qc_model.specs.Content.{Game}
use Rattle.qc_model.specs.Game.{IsWon}
use Rattle.proof_tree.specs.declared.tree.Outcome.{Outcome}
use Rattle.proof_tree.specs.declared.tree.Outcome.TheVariants.{True, False, Open as OpenOutcome}
use Rattle.proof_tree.specs.Tree.{Tree}
use Rattle.proof_tree.specs.Meaning.{OutcomeMeans}
use Rattle.qdimacs.specs.Formula.{Formula, is_true}
use Rattle.qdimacs.specs.Content.{game_of}
use Rattle.qdimacs.specs.Refusals.{formula_of}
use Rattle.qdimacs.specs.Read.{IsProblemOf as IsGameOf}
use Rattle.qecode_commands.specs.declared.status.Status.{Status}
use Rattle.qecode_commands.specs.declared.status.Status.TheVariants.{Done, Open}
use Rattle.qecode_commands.specs.Answers.{SolvesProblem, PrintsProblem}
use Rattle.qecode_commands.specs.Certifies.{Certifies}
use Rattle.qecode_commands.specs.Formulas.{Tells, Decides, DecidesFormula, RewritesFormula}

pub is_false : (b : Bool) → (IsTrue b → ⊥) → IsFalse b
is_false true never = absurd (never refl)
is_false false never = refl

tells : (φ : Formula) (o : Outcome) (v : Option ℤ) (t : Tree) → (IsWon (game_of φ) ↔ IsTrue (is_true φ)) → OutcomeMeans o v (game_of φ) t → Tells o φ
tells φ True None t won means = won.0 means.won
tells φ True (Some v) t won means = won.0 means.0.won
tells φ False v t won means = is_false (is_true φ) (λ is. means.not_won (won.1 is))
tells φ (OpenOutcome n) v t won means = tt

decides : (φ : Formula) (turns : ℕ) (s : Status) (t : List ℕ) → (IsWon (game_of φ) ↔ IsTrue (is_true φ)) → Certifies (game_of φ) turns s t → Decides φ turns s t
decides φ turns s t won c = record { certifies = c; tells = tells φ c.outcome c.optimum c.root won c.means }

decides_by : (φ : Formula) (turns : ℕ) (s : Status) (t : List ℕ) → (IsWon (game_of φ) ↔ IsTrue (is_true φ)) → SolvesProblem turns (game_of φ) s t → DecidesFormula turns φ s t
decides_by φ turns Done t won h = decides φ turns Done t won h
decides_by φ turns Open t won h = decides φ turns Open t won h
decides_by φ turns s t won h = h

-- a formula's game that was solved
pub decided : (bytes : List ℕ) (g : Game) (turns : ℕ) (h : IsGameOf bytes g) (s : Status) (t : List ℕ) → SolvesProblem turns g s t → DecidesFormula turns (formula_of h.file) s t
decided bytes g turns h s t x =
    let φ = formula_of h.file in
    decides_by φ turns s t (subst (λ q. IsWon q ↔ IsTrue (is_true φ)) h.content h.meaning) (subst (λ q. SolvesProblem turns q s t) h.content x)

rewrites_by : (φ : Formula) (s : Status) (t : List ℕ) → PrintsProblem (game_of φ) s t → RewritesFormula φ s t
rewrites_by φ Done t h = h
rewrites_by φ s t h = h

-- and one that was printed
pub rewritten : (bytes : List ℕ) (g : Game) (h : IsGameOf bytes g) (s : Status) (t : List ℕ) → PrintsProblem g s t → RewritesFormula (formula_of h.file) s t
rewritten bytes g h s t x = rewrites_by (formula_of h.file) s t (subst (λ q. PrintsProblem q s t) h.content x)
