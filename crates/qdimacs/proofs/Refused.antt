-- The first refusal, step by step.
use Rattle.std.proofs.Common.{◌≡◌, sym, ap, ◌∙◌, ℕ, Bool, not, filter, List, map, Option, None}
use Rattle.qdimacs.specs.declared.tree.NumberText.{NumberText}
use Rattle.qdimacs.specs.declared.fault.QdimacsKind.TheVariants.{OutOfRange, Repeated, WrongCount, TooMany}
use Rattle.qdimacs.specs.Grammar.{File}
use Rattle.qdimacs.specs.Refusals.{none_known, out_of_range, repeated_in_sets, wrong_count, great_count, great_part, free_variables, known_after_sets, count_up, first_some, refused_for, first_refusal}

pub record IsGood (f : File) : Type 0 where
  pub range : out_of_range f ≡ None
  pub once : repeated_in_sets none_known f.sets ≡ None
  pub count : wrong_count f ≡ None
  pub few : great_count f ≡ None

pub by_part : (f : File) (free : List ℕ) (o : Option ℕ) → IsGood f → free ≡ free_variables f → great_part f free ≡ o → first_refusal f ≡ refused_for TooMany o None
by_part f free o g e h =
    ap (λ p. refused_for OutOfRange p (refused_for Repeated (repeated_in_sets none_known f.sets) (refused_for WrongCount (wrong_count f) (refused_for TooMany (first_some (great_count f) (great_part f (free_variables f))) None)))) g.range
    ∙ ap (λ p. refused_for Repeated p (refused_for WrongCount (wrong_count f) (refused_for TooMany (first_some (great_count f) (great_part f (free_variables f))) None))) g.once
    ∙ ap (λ p. refused_for WrongCount p (refused_for TooMany (first_some (great_count f) (great_part f (free_variables f))) None)) g.count
    ∙ ap (λ p. refused_for TooMany (first_some p (great_part f (free_variables f))) None) g.few
    ∙ ap (λ xs. refused_for TooMany (great_part f xs) None) (sym e)
    ∙ ap (λ p. refused_for TooMany p None) h

pub free_is : (f : File) (m : ℕ) (known : ℕ → Bool) (vs ws : List NumberText) → m ≡ f.variables.value → ws ≡ vs → known ≡ known_after_sets none_known f.sets →
    map (λ (n : NumberText). n.value) vs ≡ filter (λ x. not (known x)) (count_up 1 m) → map (λ (n : NumberText). n.value) ws ≡ free_variables f
free_is f m known vs ws l e k h =
    ap (λ us. map (λ (n : NumberText). n.value) us) e ∙ h ∙ ap (λ n. filter (λ x. not (known x)) (count_up 1 n)) l ∙ ap (λ p. filter (λ x. not (p x)) (count_up 1 f.variables.value)) k
