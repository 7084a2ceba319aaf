-- The games of formulas: what is stated of them is so of the formulas.
use Rattle.std.proofs.Common.{◌↔◌, ℕ, List, IsTrue, inl, inr, subst}
use Rattle.qc_model.specs.declared.problem.Kind.{Kind}
use Rattle.qc_model.specs.declared.problem.Kind.TheVariants.{Exists, Forall}
use Rattle.qc_model.specs.Content.{Game}
use Rattle.qc_model.specs.Game.{IsWon}
use Rattle.qdimacs.specs.Formula.{Formula, is_true}
use Rattle.qdimacs.specs.Content.{game_of}
use Rattle.qdimacs.specs.Refusals.{formula_of}
use Rattle.qdimacs.specs.Read.{IsProblemOf as IsGameOf}
use Rattle.lemma_judge.specs.Stated.{LosesGame}
use Rattle.qecode_commands.specs.declared.status.Status.{Status}
use Rattle.qecode_commands.proofs.FormulaGames.{is_false, decided as decided_by_tree}
use Rattle.dense_commands.specs.Answers.{SolvesByList, SolvesGame, TellsLoser, DecidesByList, DecidesGame}

tells : (φ : Formula) (loser : Kind) → (IsWon (game_of φ) ↔ IsTrue (is_true φ)) → LosesGame loser (game_of φ) → TellsLoser loser φ
tells φ Exists won lost = is_false (is_true φ) (λ is. lost (won.1 is))
tells φ Forall won is = won.0 is

decided_by_list : (bytes : List ℕ) (g : Game) (h : IsGameOf bytes g) (s : Status) (t : List ℕ) → SolvesByList g s t → DecidesByList (formula_of h.file) s t
decided_by_list bytes g h s t solved =
    let φ = formula_of h.file in
    let list : SolvesByList (game_of φ) s t = subst (λ q. SolvesByList q s t) h.content solved in
    let won : IsWon (game_of φ) ↔ IsTrue (is_true φ) = subst (λ q. IsWon q ↔ IsTrue (is_true φ)) h.content h.meaning in
    record { list = list; tells = tells φ list.loser won list.proof.means }

-- a formula's game that was solved
pub decided : (bytes : List ℕ) (g : Game) (turns : ℕ) (h : IsGameOf bytes g) (s : Status) (t : List ℕ) → SolvesGame turns g s t → DecidesGame turns (formula_of h.file) s t
decided bytes g turns h s t x = elim x [ inl l ↦ inl (decided_by_list bytes g h s t l) | inr k ↦ inr (decided_by_tree bytes g turns h s t k) ]
