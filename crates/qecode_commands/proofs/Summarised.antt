-- A summary of a solution, written, is what `generate` answers.
use Rattle.std.proofs.Common.{◌≡◌, ◌∙◌, ℕ, List, ◌++◌, Option, ℤ, ap, sym, subst, refl, length, append_assoc}
use Rattle.std.specs.Prelude.{codes, decimal}
use Rattle.proof_tree.specs.Text.{outcome_text}
use Rattle.qc_model.specs.Content.{Game}
use Rattle.proof_tree.specs.declared.line.Line.{Line}
use Rattle.proof_tree.specs.declared.tree.Outcome.{Outcome}
use Rattle.proof_tree.specs.declared.tree.Outcome.TheVariants.{True, False, Open as OpenOutcome}
use Rattle.strategy_arena.specs.Certificate.{text_of_lines}
use Rattle.game_search.specs.Solution.{SolutionLines}
use Rattle.qecode_commands.specs.declared.status.Status.{Status}
use Rattle.qecode_commands.specs.Words.{usual_turns}
use Rattle.qecode_commands.specs.Certifies.{status_of}
use Rattle.qecode_commands.specs.Summaries.{summary_text, text_if_open, Summarises, SummarisesProblem}
use Rattle.qecode_commands.proofs.Certified.{certified}

made : (g : Game) (o : Outcome) (v : Option ℤ) (lines : List Line) (summary : List ℕ) (s : Status) (t : List ℕ) →
    SolutionLines g usual_turns o v lines → summary ≡ summary_text g o v → s ≡ status_of o → t ≡ summary ++ text_if_open o (text_of_lines o v lines) → Summarises g s t
made g o v lines summary s t h is ends text = record {
  certificate = text_of_lines o v lines;
  certifies = certified g usual_turns o v lines s (text_of_lines o v lines) h ends refl;
  written = text ∙ ap (λ (x : List ℕ). x ++ text_if_open o (text_of_lines o v lines)) is;
}

answers : (g : Game) (o : Outcome) (s : Status) (t : List ℕ) → s ≡ status_of o → Summarises g s t → SummarisesProblem g s t
answers g True s t e c = subst (λ q. SummarisesProblem g q t) (sym e) (subst (λ q. Summarises g q t) e c)
answers g False s t e c = subst (λ q. SummarisesProblem g q t) (sym e) (subst (λ q. Summarises g q t) e c)
answers g (OpenOutcome n) s t e c = subst (λ q. SummarisesProblem g q t) (sym e) (subst (λ q. Summarises g q t) e c)

pub summarised : (g : Game) (o : Outcome) (v : Option ℤ) (lines : List Line) (summary : List ℕ) → SolutionLines g usual_turns o v lines → summary ≡ summary_text g o v →
    (s : Status) (t : List ℕ) → (s ≡ status_of o) × (t ≡ summary ++ text_if_open o (text_of_lines o v lines)) → SummarisesProblem g s t
summarised g o v lines summary h is s t wrote = answers g o s t wrote.0 (made g o v lines summary s t h is wrote.0 wrote.1)

regrouped : (v b c d out : List ℕ) → v ++ (b ++ (c ++ (d ++ out))) ≡ v ++ b ++ c ++ d ++ out
regrouped v b c d out = simp append_assoc

-- the parts of a summary, as they are put together
pub summary_is : (g : Game) (o : Outcome) (v : Option ℤ) (variables constraints : ℕ) (text : List ℕ) → variables ≡ length g.variables → constraints ≡ length g.constraints →
    text ≡ codes "variables " ++ (decimal variables ++ (codes "\nconstraints " ++ (decimal constraints ++ (codes "\noutcome " ++ outcome_text o v)))) → text ≡ summary_text g o v
summary_is g o v variables constraints text a b e =
    e ∙ (ap (λ (x : List ℕ). codes "variables " ++ x) (regrouped (decimal variables) (codes "\nconstraints ") (decimal constraints) (codes "\noutcome ") (outcome_text o v))
    ∙ (ap (λ (n : ℕ). codes "variables " ++ decimal n ++ codes "\nconstraints " ++ decimal constraints ++ codes "\noutcome " ++ outcome_text o v) a
    ∙ ap (λ (n : ℕ). codes "variables " ++ decimal (length g.variables) ++ codes "\nconstraints " ++ decimal n ++ codes "\noutcome " ++ outcome_text o v) b))
