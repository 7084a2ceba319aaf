-- The value that an existential scope's own condition has, as the table of verdicts finds it.
use Rattle.std.proofs.Common.{◌≡◌, ℕ, suc, Bool, true, false, not, ◌&&◌, List, [], ◌∷◌, ◌++◌, map, refl, ◌∙◌, ℤ, Some, None, cond, drop}
use Rattle.std.specs.List.{list_all}
use Rattle.qc_model.specs.declared.problem.Kind.TheVariants.{Exists}
use Rattle.qc_model.specs.declared.problem.Scope.{Scope}
use Rattle.qc_model.specs.declared.problem.Condition.{Condition}
use Rattle.qc_model.specs.Content.{Game}
use Rattle.qc_model.specs.Plan.{Plan}
use Rattle.qc_model.specs.Value.{value}
use Rattle.qc_model.specs.Optimal.{Optimal}
use Rattle.qc_model.specs.Demands.{vector, IsBestVector}
use Rattle.qc_model.specs.Verdict.{lost, exact, unknown, is_lost, is_exact, each_node, exact_vectors, bounds, is_none_of, first_value}
use Rattle.qc_model.specs.ExistsVerdict.{best_vector, beats, some_open, exists_own}
use Rattle.model_laws.specs.Positions.{Chosen}
use Rattle.model_laws.specs.Verdicts.{Claim, seen_in, EachChoice, IsCovered}
use Rattle.model_laws.proofs.Better.{and_first, and_second}
use Rattle.model_laws.proofs.Choices.{own_value_is}
use Rattle.model_laws.proofs.Choosing.{exact_mean}

-- a scope has an own value only by the third of its rules
found_by : (x y z : Bool) (w : List ℤ) (n : ℤ) → cond (is_exact (cond x lost (cond y unknown (cond z (exact (drop 1 w)) unknown)))) (Some (first_value w)) None ≡ Some n →
    (y ≡ false) × ((z ≡ true) × (first_value w ≡ n))
found_by true y z w n e = cc
found_by false true z w n e = cc
found_by false false true w n e = (refl, (refl, let q : Some (first_value w) ≡ Some n = e in cc))
found_by false false false w n e = cc

first_is_own : (g : Game) (later : List Scope) (i : ℕ) (a : List ℤ) (c : Condition) (d : List Condition) (w : List ℤ) → IsBestVector g (c ∷ d) a (Chosen g i a (Optimal g later (suc i))) w →
    (p : Plan) → Optimal g (record { kind = Exists; condition = Some c } ∷ later) i a p → value g p c.target a ≡ first_value w
first_is_own g later i a c d [] b p o = let q : value g b.some.0 c.target a ∷ vector g d a b.some.0 ≡ [] = b.some.2 in cc
first_is_own g later i a c d (x ∷ w) b p o = own_value_is g later i a c d x w b p o

pub own_mean : (g : Game) (later : List Scope) (c : Condition) (i : ℕ) (a : List ℤ) (d : List Condition) (ls : List Claim) (n : ℤ) →
    EachChoice g (c ∷ d) a (λ t s. Optimal g later (suc i) (a ++ t) s) (Chosen g i a (Optimal g later (suc i))) ls →
    IsCovered g (c ∷ d) a (λ t s. Optimal g later (suc i) (a ++ t) s) (Chosen g i a (Optimal g later (suc i))) ls →
    exists_own (Some c) (c ∷ d) (map seen_in ls) ≡ Some n →
    (p : Plan) → Optimal g (record { kind = Exists; condition = Some c } ∷ later) i a p → value g p c.target a ≡ n
own_mean g later c i a d ls n h k e p o =
    let vs = exact_vectors (map seen_in ls) in
    let bs = bounds (map seen_in ls) in
    let w = best_vector (c ∷ d) vs in
    let beaten = list_all (beats c.sense (is_none_of d) (first_value w)) bs in
    let r = found_by (each_node is_lost (map seen_in ls) && is_none_of bs) (some_open (map seen_in ls)) (not (is_none_of vs) && beaten) w n e in
    let best = exact_mean g c d a (λ t s. Optimal g later (suc i) (a ++ t) s) (Chosen g i a (Optimal g later (suc i))) ls h k r.0
    (and_first (not (is_none_of vs)) beaten r.1.0) (and_second (not (is_none_of vs)) beaten r.1.0) in
    first_is_own g later i a c d w best p o ∙ r.1.1
