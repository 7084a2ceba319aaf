-- The lines of two solutions, written side by side, are what `worst` with `--gap` answers.
use Rattle.std.proofs.Common.{◌≡◌, ◌∙◌, ◌⊎◌, ◌*◌, ℕ, List, [], ◌∷◌, ◌++◌, Option, ℤ, ap, sym, subst, refl, inl, inr, length, map, append_assoc}
use Rattle.std.specs.Prelude.{codes}
use Rattle.std.proofs.lemmas.List.{length-map}
use Rattle.qc_model.specs.declared.problem.Variable.{Variable}
use Rattle.qc_model.specs.Content.{Game}
use Rattle.qc_model.specs.Domains.{domain_values}
use Rattle.qc_model.specs.Turns.{value_product, full_turns_of}
use Rattle.proof_tree.specs.declared.line.Line.{Line}
use Rattle.proof_tree.specs.declared.tree.Outcome.{Outcome}
use Rattle.proof_tree.specs.declared.tree.Outcome.TheVariants.{True, False, Open as OpenOutcome}
use Rattle.proof_tree.specs.Text.{outcome_text}
use Rattle.strategy_arena.specs.Certificate.{text_of_lines}
use Rattle.game_search.specs.Solution.{SolutionLines}
use Rattle.qc_pessimist.specs.declared.reading.Places.{Places}
use Rattle.qc_pessimist.specs.Opposed.{move_variable}
use Rattle.qecode_commands.specs.declared.status.Status.{Status}
use Rattle.qecode_commands.specs.declared.status.Status.TheVariants.{Done, Open}
use Rattle.qecode_commands.specs.Words.{usual_turns}
use Rattle.qecode_commands.specs.Certifies.{status_of}
use Rattle.qecode_commands.specs.Readings.{worst_game}
use Rattle.qecode_commands.specs.Summaries.{text_if_open}
use Rattle.qecode_commands.specs.Gap.{gap_lines, gap_status, Settles, Compares, ComparesGames}
use Rattle.qecode_commands.proofs.Certified.{certified}

abbrev settled : (g : Game) (o : Outcome) (v : Option ℤ) (lines : List Line) → SolutionLines g usual_turns o v lines → Settles g
settled g o v lines h = record {
  status = status_of o;
  text = text_of_lines o v lines;
  certifies = certified g usual_turns o v lines (status_of o) (text_of_lines o v lines) h refl refl;
}

both : (g h : Game) (o p : Outcome) (v w : Option ℤ) (best worst : List Line) (lines : List ℕ) (s : Status) (t : List ℕ) →
    SolutionLines g usual_turns o v best → SolutionLines h usual_turns p w worst → lines ≡ gap_lines o v p w → s ≡ gap_status o p →
    t ≡ lines ++ text_if_open o (text_of_lines o v best) ++ text_if_open p (text_of_lines p w worst) → Compares g h s t
both g h o p v w best worst lines s t first second is ends text = record {
  best = settled g o v best first;
  worst = settled h p w worst second;
  ends = ends;
  written = text ∙ ap (λ (x : List ℕ). x ++ text_if_open o (text_of_lines o v best) ++ text_if_open p (text_of_lines p w worst)) is;
}

settled_or_open : (p : Outcome) → (status_of p ≡ Done) ⊎ (status_of p ≡ Open)
settled_or_open True = inl refl
settled_or_open False = inl refl
settled_or_open (OpenOutcome n) = inr refl

both_settled_or_not : (o p : Outcome) → (gap_status o p ≡ Done) ⊎ (gap_status o p ≡ Open)
both_settled_or_not True p = settled_or_open p
both_settled_or_not False p = settled_or_open p
both_settled_or_not (OpenOutcome n) p = inr refl

answers : (g h : Game) (o p : Outcome) (s : Status) (t : List ℕ) → s ≡ gap_status o p → Compares g h s t → ComparesGames g h s t
answers g h o p s t e c =
    elim (both_settled_or_not o p) [
      | inl d ↦ subst (λ q. ComparesGames g h q t) (sym (e ∙ d)) (subst (λ q. Compares g h q t) (e ∙ d) c)
      | inr d ↦ subst (λ q. ComparesGames g h q t) (sym (e ∙ d)) (subst (λ q. Compares g h q t) (e ∙ d) c)
    ]

pub compared : (g h : Game) (o p : Outcome) (v w : Option ℤ) (best worst : List Line) (lines : List ℕ) →
    SolutionLines g usual_turns o v best → SolutionLines h usual_turns p w worst → lines ≡ gap_lines o v p w → (s : Status) (t : List ℕ) →
    (s ≡ gap_status o p) × (t ≡ lines ++ text_if_open o (text_of_lines o v best) ++ text_if_open p (text_of_lines p w worst)) → ComparesGames g h s t
compared g h o p v w best worst lines first second is s t wrote =
    answers g h o p s t wrote.0 (both g h o p v w best worst lines s t first second is wrote.0 wrote.1)

-- the lines, as they are put together
pub lines_are : (o p : Outcome) (v w : Option ℤ) (first second text : List ℕ) → first ≡ outcome_text o v → second ≡ outcome_text p w →
    text ≡ codes "best " ++ (first ++ (codes "worst " ++ second)) → text ≡ gap_lines o v p w
lines_are o p v w first second text a b e =
    e ∙ (regrouped (codes "best ") first (codes "worst ") second
    ∙ (ap (λ (x : List ℕ). codes "best " ++ x ++ codes "worst " ++ second) a ∙ ap (λ (x : List ℕ). codes "best " ++ outcome_text o v ++ codes "worst " ++ x) b)) where
      regrouped : (a b c d : List ℕ) → a ++ (b ++ (c ++ d)) ≡ a ++ b ++ c ++ d
      regrouped a b c d = simp append_assoc

same_product : (f : ℕ → ℕ) (xs : List Variable) → value_product (map (move_variable f) xs) ≡ value_product xs
same_product f [] = refl
same_product f (x ∷ xs) = ap (λ (n : ℕ). length (domain_values x.domain) * n) (same_product f xs)

-- opposing scopes have no variables
pub same_turns : (places : Places) (g : Game) → full_turns_of (worst_game places g) ≡ full_turns_of g
same_turns places g = rw (length-map, same_product) refl
