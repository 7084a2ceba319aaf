-- The incumbent of the scope right above: what it beats is beaten there.
use Rattle.std.proofs.Common.{◌≡◌, ◌∙◌, ◌<◌, ◌-◌, ℕ, suc, refl, sym, ap, subst, arith, Bool, true, false, List, ◌∷◌, ℤ, Some, length, drop}
use Rattle.qc_model.specs.declared.problem.Condition.{Condition}
use Rattle.qc_model.specs.Content.{Game}
use Rattle.qc_model.specs.Demands.{demands}
use Rattle.qc_model.specs.ExistsVerdict.{best_vector, beats}
use Rattle.qc_model.specs.Verdict.{Seen, is_exact, some_node, exact_vectors, first_value, is_none_of}
use Rattle.joins.specs.Bests.{AllLong, incumbent_by}
use Rattle.joins.specs.Columns.{first_sense}
use Rattle.joins.specs.Joins.{StandsAt, game_of}
use Rattle.joins.specs.Verdicts.{wishes_at, incumbent_at}
use Rattle.joins.specs.declared.joins.Joins.{Joins}
use Rattle.joins.proofs.AtScope.{stands_long}
use Rattle.search_parts.specs.Beaten.{firsts, is_beaten}
use Rattle.search_walk.specs.Rivals.{above_at, StandsAbove}
use Rattle.search_parts.proofs.Beating.{first_is_one}
use Rattle.search_walk.proofs.Ruling.{incumbent_so, some_vectors, wishes_are}

-- one of the exact leaves beats what the incumbent beats
reached_beats : (joins : Joins) (i : ℕ) (c : Condition) (d : List Condition) → i < length (game_of joins).scopes → wishes_at (game_of joins) i ≡ c ∷ d → (best : ℤ) (up : List Seen) → StandsAt joins i up → Some best ≡ incumbent_at (game_of joins) i up →
    (n : ℤ) → beats c.sense (is_none_of d) best n ≡ true → is_beaten (wishes_at (game_of joins) i) (firsts up) n ≡ true
reached_beats joins i c d scope e best up s said n h = by (some_node is_exact up) refl (said ∙ incumbent_so g (drop i g.scopes) (demands g i) c d up e)
  where
    g : Game
    g = game_of joins

    by : (b : Bool) → some_node is_exact up ≡ b → Some best ≡ incumbent_by b (best_vector (c ∷ d) (exact_vectors up)) → is_beaten (wishes_at g i) (firsts up) n ≡ true
    by true q r =
        let first : best ≡ first_value (best_vector (c ∷ d) (exact_vectors up)) = cc in
        let long : AllLong (c ∷ d) (exact_vectors up) = stands_long joins i up c d scope s e in
        ap (λ (l : List Condition). is_beaten l (firsts up) n) e
        ∙ first_is_one (λ m. beats c.sense (is_none_of d) m n) c d (exact_vectors up) long (some_vectors up q) (subst (λ m. beats c.sense (is_none_of d) m n ≡ true) first h)
    by false q r = cc

one_more : (i : ℕ) → ¬ (i ≡ 0) → i ≡ suc (i - 1)
one_more i h = omega arith

-- at a scope below another, whose list is c ∷ d
module _ (joins : Joins) (i : ℕ) (some : ¬ (i ≡ 0)) (scope : i < length (game_of joins).scopes) (c : Condition) (d : List Condition) (e : wishes_at (game_of joins) (i - 1) ≡ c ∷ d) where
  above_is : i - 1 < length (game_of joins).scopes
  above_is = omega (arith, scope)

  pub rival_sense : first_sense (demands (game_of joins) i) ≡ c.sense
  rival_sense =
      let list : demands (game_of joins) (suc (i - 1)) ≡ c ∷ d = wishes_are (game_of joins) (i - 1) c d above_is e in
      ap first_sense (ap (demands (game_of joins)) (one_more i some) ∙ list)

  pub rival_beats : (alone : Bool) (best : ℤ) → is_none_of d ≡ alone → ((up : List Seen) → StandsAt joins (i - 1) up → Some best ≡ incumbent_at (game_of joins) (i - 1) up) → (up : List Seen) → StandsAbove joins i up → (n : ℤ) → beats c.sense alone best n ≡ true →
      above_at (game_of joins) i up n ≡ true
  rival_beats alone best none said =
      subst (λ k. (up : List Seen) → StandsAbove joins k up → (n : ℤ) → beats c.sense alone best n ≡ true → above_at (game_of joins) k up n ≡ true) (sym (one_more i some))
      (λ up s n h. reached_beats joins (i - 1) c d above_is e best up s (said up s) n (ap (λ k. beats c.sense k best n) none ∙ h))
