-- The lines of a solution, written, are what `solve` answers, and a summary of them what `generate` does.
use Rattle.std.proofs.Common.{◌≡◌, ◌∙◌, ℕ, List, Option, ℤ, ap, sym, subst}
use Rattle.qc_model.specs.Content.{Game}
use Rattle.proof_tree.specs.declared.line.Line.{Line}
use Rattle.proof_tree.specs.declared.tree.Outcome.{Outcome}
use Rattle.proof_tree.specs.declared.tree.Outcome.TheVariants.{True, False, Open as OpenOutcome}
use Rattle.strategy_arena.specs.Certificate.{text_of_lines}
use Rattle.game_search.specs.Solution.{SolutionLines}
use Rattle.qecode_commands.specs.declared.status.Status.{Status}
use Rattle.qecode_commands.specs.Answers.{SolvesProblem}
use Rattle.qecode_commands.specs.Certifies.{status_of, Certifies}

abbrev pub certified : (g : Game) (turns : ℕ) (o : Outcome) (v : Option ℤ) (lines : List Line) (s : Status) (t : List ℕ) →
    SolutionLines g turns o v lines → s ≡ status_of o → t ≡ text_of_lines o v lines → Certifies g turns s t
certified g turns o v lines s t h ends text = record {
  outcome = o;
  optimum = v;
  root = h.tree;
  proved = h.solution.proves;
  ordered = h.solution.in_order;
  diligent = h.solution.diligent;
  incumbents = h.solution.incumbents;
  few = h.solution.few;
  spent = h.solution.spent;
  spellable = h.solution.has_text;
  spelled = text ∙ ap (text_of_lines o v) h.is_lines;
  ends = ends;
  means = h.solution.means;
}

answered : (g : Game) (turns : ℕ) (o : Outcome) (s : Status) (t : List ℕ) → s ≡ status_of o → Certifies g turns s t → SolvesProblem turns g s t
answered g turns True s t e c = subst (λ q. SolvesProblem turns g q t) (sym e) (subst (λ q. Certifies g turns q t) e c)
answered g turns False s t e c = subst (λ q. SolvesProblem turns g q t) (sym e) (subst (λ q. Certifies g turns q t) e c)
answered g turns (OpenOutcome n) s t e c = subst (λ q. SolvesProblem turns g q t) (sym e) (subst (λ q. Certifies g turns q t) e c)

pub solved : (g : Game) (turns : ℕ) (o : Outcome) (v : Option ℤ) (lines : List Line) → SolutionLines g turns o v lines →
    (s : Status) (t : List ℕ) → (s ≡ status_of o) × (t ≡ text_of_lines o v lines) → SolvesProblem turns g s t
solved g turns o v lines h s t is = answered g turns o s t is.0 (certified g turns o v lines s t h is.0 is.1)
