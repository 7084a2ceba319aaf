-- What is told of a node again, where the positions look the same.
use Rattle.std.proofs.Common.{◌≡◌, ◌⊎◌, ℕ, suc, ◌+◌, false, List, [], ◌∷◌, ◌++◌, length, drop, sym, ◌∙◌, subst, ℤ, None}
use Rattle.std.specs.Prelude.{slice_get}
use Rattle.qc_model.specs.declared.problem.Condition.{Condition}
use Rattle.qc_model.specs.declared.problem.Scope.{Scope}
use Rattle.qc_model.specs.Content.{Game}
use Rattle.qc_model.specs.Demands.{is_better_vector}
use Rattle.qc_model.specs.Domains.{InBox, Box}
use Rattle.qc_model.specs.Game.{before}
use Rattle.qc_model.specs.Optimal.{is_better, Optimal}
use Rattle.qc_model.specs.Plan.{Plan, finish, choose, answer, Entries, no_entries, entry}
use Rattle.qc_model.specs.Value.{inner_target}
use Rattle.qc_model.specs.Verdict.{Verdict, lost, exact, at_most, unknown}
use Rattle.proof_meaning.proofs.Boxes.{in_append, in_rest}
use Rattle.proof_tree.specs.Meaning.{FirstIsNoBetter}
use Rattle.dense_meaning.specs.Throughout.{PlaysLie, EachLies, IsOptimalWithin, Says}
use Rattle.dense_meaning.proofs.WholePlays.{append_none}
use Rattle.dense_laws.proofs.Close.{append_more}
use Rattle.dense_laws.proofs.Same.{IsOf, EachOf, EachWish, SameAfter, same_back, optimal_same, vector_same, value_same}

-- plays that lie past the position in a box lie past the other one in a box that leaves as much there
module _ (n : ℕ) (a b : List ℤ) (first : length a ≡ n) (second : length b ≡ n) (P Q : Box) (same : drop n P ≡ drop n Q) (there : InBox b Q) where
  moved : (u : List ℤ) → InBox (a ++ u) P → InBox (b ++ u) Q
  moved u h =
      in_append b u Q there
      (subst (λ k. InBox u (drop k Q)) (sym second) (subst (InBox u) same (subst (λ k. InBox u (drop k P)) first (in_rest a u P h))))

  mutual
    pub lie_moved : (r : Plan) (u : List ℤ) → PlaysLie P (a ++ u) r → PlaysLie Q (b ++ u) r
    lie_moved finish u h = moved u h
    lie_moved (choose t s) u h = subst (λ w. PlaysLie Q w s) (sym (append_more b u t)) (lie_moved s (u ++ t) (subst (λ w. PlaysLie P w s) (append_more a u t) h))
    lie_moved (answer l) u h = (moved u h.0, each_moved l u h.1)

    each_moved : (l : Entries) (u : List ℤ) → EachLies P (a ++ u) l → EachLies Q (b ++ u) l
    each_moved no_entries u h = tt
    each_moved (entry t s rest) u h =
        (subst (λ w. PlaysLie Q w s) (sym (append_more b u t)) (lie_moved s (u ++ t) (subst (λ w. PlaysLie P w s) (append_more a u t) h.0)), each_moved rest u h.1)

  pub plays_moved : (r : Plan) → PlaysLie P a r → PlaysLie Q b r
  plays_moved r h = subst (λ w. PlaysLie Q w r) (append_none b) (lie_moved r [] (subst (λ w. PlaysLie P w r) (sym (append_none a)) h))

-- at two positions after which the same is allowed and the same numbers come out
module _ (g : Game) (N : ℕ → Type 0) (inner : (q : ℕ) → (slice_get g.aggregates q ≡ None) ⊎ IsOf N (inner_target (slice_get g.aggregates q))) (goal : before g (suc (length g.scopes)) ≡ before g (length g.scopes))
    (later : List Scope) (i : ℕ) (left : i + length later ≡ length g.scopes) (wishes : EachWish N later) (d : List Condition) (demanded : EachOf N d)
    (a b : List ℤ) (same : SameAfter g N inner i a b) (P Q : Box) (lie : (r : Plan) → Optimal g later i b r → PlaysLie P a r → PlaysLie Q b r) where
  over : (r : Plan) → IsOptimalWithin g later i P a r → IsOptimalWithin g later i Q b r
  over r o = let k = optimal_same g N inner goal later i wishes left a b same r o.optimal in record { optimal = k; lies = lie r k o.lies }

  -- what is said at the one is so at the other
  pub says_again : (v : Verdict) → Says v g later i d Q b → Says v g later i d P a
  says_again lost h = λ r o. h r (over r o)
  says_again (exact v) h = record {
    some = (h.some.0, optimal_same g N inner goal later i wishes left b a (same_back g N inner i a b same) h.some.0 h.some.1, vector_same g N inner h.some.0 d a b demanded same.values ∙ h.some.2);
    best = λ r o. subst (λ u. is_better_vector d u v ≡ false) (sym (vector_same g N inner r d a b demanded same.values)) (h.best r (over r o));
  }
  says_again (at_most m) h = λ r o. by d demanded r (h r (over r o))
    where
      by : (e : List Condition) → EachOf N e → (r : Plan) → FirstIsNoBetter g e b r m → FirstIsNoBetter g e a r m
      by [] w r k = tt
      by (c ∷ e) w r k = subst (λ z. is_better c.sense z m ≡ false) (sym (value_same g N inner r c.target a b w.0 same.values)) k
  says_again unknown h = tt
