-- The value that is told of a scope's own condition.
use Rattle.std.proofs.Common.{◌≡◌, inl, inr, Bool, true, false, not, ◌&&◌, cond, List, [], ◌∷◌, refl, sym, ◌∙◌, subst, ℤ, Option, Some, None}
use Rattle.std.specs.List.{list_all}
use Rattle.std.proofs.lemmas.Bool.{and_parts}
use Rattle.qc_model.specs.declared.problem.Condition.{Condition}
use Rattle.qc_model.specs.declared.problem.Scope.{Scope}
use Rattle.qc_model.specs.Demands.{vector, is_better_vector}
use Rattle.qc_model.specs.ExistsVerdict.{best_vector, best_number, beats, some_open, without_own, exists_verdict, exists_own}
use Rattle.qc_model.specs.Optimal.{Optimal}
use Rattle.qc_model.specs.Plan.{Plan}
use Rattle.qc_model.specs.Valid.{IsValid}
use Rattle.qc_model.specs.Value.{value}
use Rattle.qc_model.specs.Verdict.{Verdict, lost, exact, at_most, unknown, Seen, is_exact, is_lost, each_node, bounds, exact_vectors, is_none_of, first_value}
use Rattle.model_laws.specs.Positions.{existential, optimising}
use Rattle.model_laws.proofs.Choosing.{best_one}
use Rattle.proof_tree.specs.Place.{list_after, next_scopes}
use Rattle.dense_meaning.specs.Throughout.{PlaysLie}
use Rattle.dense_tree.specs.Place.{Setting, Place}
use Rattle.dense_tree.specs.Verdicts.{loosened, best_of, exists_comes_to, scope_comes_to, scope_own}
use Rattle.dense_laws.specs.Stands.{StandsNode}
use Rattle.dense_laws.specs.Says.{IsAt, SomeHolds, SomeBest, EachReached, ChoicesSay, OwnSays}
use Rattle.dense_laws.proofs.Conclude.{HasChoice, choice_of, choice_long, held_best}
use Rattle.dense_laws.proofs.Conditions.{own_is}
use Rattle.dense_laws.proofs.Nodes.{reached_at, lie_of}

-- a loose node is exact nowhere
exact_before : (s : Setting) (p : Place) (v : Verdict) → is_exact (loosened s p v) ≡ true → is_exact v ≡ true
exact_before s p lost h = h
exact_before s p (exact v) h = refl
exact_before s p (at_most n) h = h
exact_before s p unknown h = h

best_inexact : (d : List Condition) (seen : List Seen) (bs : List ℤ) → is_exact (best_of d seen bs) ≡ true → ⊥
best_inexact [] seen bs h = cc
best_inexact (c ∷ d) seen bs h = by (each_node is_lost seen && is_none_of (bounds seen)) h
  where
    by : (b : Bool) → is_exact (cond b (at_most (best_number c.sense bs)) unknown) ≡ true → ⊥
    by true h = cc
    by false h = cc

-- when the table says exact
exact_tests : (a b c : Bool) (v : List ℤ) (w : Verdict) → is_exact w ≡ false → is_exact (cond a lost (cond b unknown (cond c (exact v) w))) ≡ true → (b ≡ false) × (c ≡ true)
exact_tests true b c v w n h = cc
exact_tests false true c v w n h = cc
exact_tests false false true v w n h = (refl, refl)
exact_tests false false false v w n h = cc

some_is : (b : Bool) (m n : ℤ) → cond b (Some m) None ≡ Some n → m ≡ n
some_is true m n e = cc
some_is false m n e = cc

module _ (s : Setting) (valid : IsValid s.game) (p : Place) (st : StandsNode s p) (x : Option Condition) (later : List Scope) (e : p.later ≡ existential x ∷ later) (seen : List Seen) (bests : List ℤ) (h : ChoicesSay s p seen bests) where
  module _ (c : Condition) (ls : List Scope) (q : p.later ≡ optimising c ∷ ls) (none : bests ≡ []) (a : List ℤ) (at : IsAt s p a) where
    reached : EachReached s.game ls p.number (c ∷ p.list) a seen
    reached = subst (λ zs. EachReached s.game (next_scopes zs) p.number (list_after s.game zs p.list) a seen) q (reached_at s valid p st x later e seen bests h a at)

    held : (r : Plan) → Optimal s.game (optimising c ∷ ls) p.number a r → SomeHolds s.game (c ∷ p.list) a r seen
    held r o =
        let l : PlaysLie p.box a r = lie_of s valid p st c ls q a at.position r o in
        subst (λ zs. SomeHolds s.game (list_after s.game zs p.list) a r seen) q
        (elim (h.held a at r (record { optimal = subst (λ zs. Optimal s.game zs p.number a r) (sym q) o; lies = l })) [
          | inl k ↦ k
          | inr k ↦ absurd (subst (λ us. SomeBest s.game p.list a r us) none k)
        ])

    value_is : (v : List ℤ) → HasChoice s.game ls p.number (c ∷ p.list) a v → ((r : Plan) → Optimal s.game (optimising c ∷ ls) p.number a r → is_better_vector (c ∷ p.list) (vector s.game (c ∷ p.list) a r) v ≡ false) →
        (r : Plan) → Optimal s.game (optimising c ∷ ls) p.number a r → value s.game r c.target a ≡ first_value v
    value_is [] k f r o = let l = choice_long s.game ls p.number (c ∷ p.list) a [] k in cc
    value_is (y ∷ w) k f r o = own_is s.game c p.list ls p.number a y w k f r o

    told : is_exact (exists_verdict (Some c) (c ∷ p.list) seen) ≡ true → (n : ℤ) → exists_own (Some c) (c ∷ p.list) seen ≡ Some n → (r : Plan) → Optimal s.game (optimising c ∷ ls) p.number a r → value s.game r c.target a ≡ n
    told ex n own r o =
        let v = best_vector (c ∷ p.list) (exact_vectors seen) in
        let t = exact_tests (each_node is_lost seen && is_none_of (bounds seen)) (some_open seen) (not (is_none_of (exact_vectors seen)) && list_all (beats c.sense (is_none_of p.list) (first_value v)) (bounds seen)) (without_own (Some c) v) unknown refl ex in
        let w = and_parts (not (is_none_of (exact_vectors seen))) (list_all (beats c.sense (is_none_of p.list) (first_value v)) (bounds seen)) t.1 in
        value_is v (choice_of s.game ls p.number (c ∷ p.list) a seen reached v (best_one (c ∷ p.list) (exact_vectors seen) w.0))
        (λ u k. held_best s.game c p.list ls p.number a seen reached t.0 w.1 u (held u k)) r o
        ∙ some_is (is_exact (exists_verdict (Some c) (c ∷ p.list) seen)) (first_value v) n own

  pub player_own : OwnSays s p (loosened s p (scope_comes_to s p p.later seen bests)) (scope_own s p p.later seen)
  player_own ex n own a at c ls q r o = by bests refl (subst (λ zs. is_exact (scope_comes_to s p zs seen bests) ≡ true) q (exact_before s p (scope_comes_to s p p.later seen bests) ex))
    where
      by : (bs : List ℤ) → bests ≡ bs → is_exact (exists_comes_to (Some c) s p seen bests) ≡ true → value s.game r c.target a ≡ n
      by [] k ex = told c ls q k a at (subst (λ us. is_exact (exists_comes_to (Some c) s p seen us) ≡ true) k ex) n (subst (λ zs. scope_own s p zs seen ≡ Some n) q own) r (subst (λ zs. Optimal s.game zs p.number a r) q o)
      by (b ∷ bs) k ex = absurd (best_inexact p.list seen (b ∷ bs) (subst (λ us. is_exact (exists_comes_to (Some c) s p seen us) ≡ true) k ex))
