-- The game with opposing scopes reads the old one at the worst ties.
use Rattle.std.proofs.Common.{◌≡◌, refl, sym, ap, ◌∙◌, subst, ℕ, suc, ◌+◌, Bool, true, false, List, [], ◌∷◌, ◌++◌, drop, length, append-nil, arith}
use Rattle.std.specs.Prelude.{◌↔◌, Option, Some, None, ℤ}
use Rattle.qc_model.specs.declared.problem.Kind.{Kind}
use Rattle.qc_model.specs.declared.problem.Kind.TheVariants.{Exists, Forall}
use Rattle.qc_model.specs.declared.problem.Condition.{Condition}
use Rattle.qc_model.specs.declared.problem.Scope.{Scope}
use Rattle.qc_model.specs.Content.{Game}
use Rattle.qc_model.specs.Game.{AfterMove, Wins, IsWon}
use Rattle.qc_model.specs.Plan.{Plan}
use Rattle.qc_model.specs.Value.{value}
use Rattle.qc_model.specs.Optimal.{Optimal}
use Rattle.proof_tree.specs.Meaning.{HasOptimum, OptimumBy, IsOptimum}
use Rattle.model_laws.proofs.Existence.{won_by_strategy}
use Rattle.qc_pessimist.specs.Worst.{chosen_wish, Meets, OptimalAtWorst, HasPessimisticOptimum, PessimisticBy, IsPessimisticOptimum}
use Rattle.qc_pessimist.specs.Opposed.{added, with_opposing, moved, opposed_game, put_empty, map_turn, with_empty_choices}
use Rattle.qc_pessimist.specs.Laws.{ReadsAtWorst}
use Rattle.qc_pessimist.proofs.Numbers.{moved_zero, moved_next, drop_none, drop_next}
use Rattle.qc_pessimist.proofs.Agree.{SameScope, IsPass, same_scope, added_is_pass, same_aggregates, move_to, move_from, pass_is_move, pass_is_empty}
use Rattle.qc_pessimist.proofs.Follows.{Corresponds, AtScope, plan_worth, meets_corresponds, choices_correspond, answers_correspond}

module _ (q : ℕ → Bool) (g : Game) where
  -- the new place of scope i
  abbrev at : ℕ → ℕ
  at i = moved q 0 g.scopes i

  -- one scope: the wish w is that of its owner where it is chosen, and n is the place of the next old scope
  scope_corresponds : (b : Bool) (k : Kind) (x : Option Condition) (later : List Scope) (i n : ℕ) (O : List ℤ → Plan → Type 0) (f : Plan → Plan) →
      n ≡ suc (at i + length (added (chosen_wish b k x))) → (n ≡ suc (suc (at i)) → IsPass (opposed_game q g) (suc (at i))) →
      Corresponds g (opposed_game q g) O (Optimal (opposed_game q g) later n) f →
      Corresponds g (opposed_game q g) (AtScope k x g i (Meets (chosen_wish b k x) g O) O)
      (AtScope k x (opposed_game q g) (at i) (Optimal (opposed_game q g) (added (chosen_wish b k x) ++ later) (suc (at i))) (Optimal (opposed_game q g) (added (chosen_wish b k x) ++ later) (suc (at i))))
      (map_turn (λ r. put_empty (chosen_wish b k x) (f r)) f)
  scope_corresponds b Exists x later i n O f e pass c =
      choices_correspond g (opposed_game q g) i (at i) (same_scope q g i) (same_aggregates q g) x (Meets (chosen_wish b Exists x) g O) (Optimal (opposed_game q g) (added (chosen_wish b Exists x) ++ later) (suc (at i))) O
      (Optimal (opposed_game q g) (added (chosen_wish b Exists x) ++ later) (suc (at i))) (λ r. put_empty (chosen_wish b Exists x) (f r)) f
      (meets_corresponds g (opposed_game q g) (chosen_wish b Exists x) later (at i) n O f e pass c) c.worth
  scope_corresponds false Forall x later i n O f e pass c =
      let k = meets_corresponds g (opposed_game q g) None later (at i) n O f e pass c in
      answers_correspond g (opposed_game q g) i (at i) (same_scope q g i) (same_aggregates q g) x O (Optimal (opposed_game q g) later (suc (at i))) O (Optimal (opposed_game q g) later (suc (at i))) f f k c.worth
  scope_corresponds true Forall x later i n O f e pass c =
      let k = meets_corresponds g (opposed_game q g) None later (at i) n O f e pass c in
      answers_correspond g (opposed_game q g) i (at i) (same_scope q g i) (same_aggregates q g) x O (Optimal (opposed_game q g) later (suc (at i))) O (Optimal (opposed_game q g) later (suc (at i))) f f k c.worth

  -- from scope i on
  pub corresponds : (later : List Scope) (i : ℕ) → drop i g.scopes ≡ later →
      Corresponds g (opposed_game q g) (OptimalAtWorst q g later i) (Optimal (opposed_game q g) (with_opposing q i later) (at i)) (with_empty_choices q later i)
  corresponds [] i e = record {
    to = λ b s o. (o.0, (same_scope q g i).allowed b ∙ o.1);
    from = λ b s o. (o.0, sym ((same_scope q g i).allowed b) ∙ o.1);
    form = λ b p o. (p, refl);
    worth = λ b s x. plan_worth g (opposed_game q g) (same_aggregates q g) s x b;
  }
  corresponds (scope ∷ later) i e =
      let next = moved_next q 0 i i g.scopes scope later (omega arith) e in
      scope_corresponds (q i) scope.kind scope.condition (with_opposing q (suc i) later) i (at (suc i)) (OptimalAtWorst q g later (suc i)) (with_empty_choices q later (suc i))
      next (added_is_pass q g i) (corresponds later (suc i) (drop_next i g.scopes scope later e))

  -- who wins, by the same recursion
  kind_wins : (k : Kind) (i j : ℕ) → SameScope g (opposed_game q g) i j → (a : List ℤ) (V W : List ℤ → Type 0) → ((b : List ℤ) → V b ↔ W b) →
      AfterMove k g i a V ↔ AfterMove k (opposed_game q g) j a W
  kind_wins Exists i j e a V W f =
      (λ w. (w.0, move_to g (opposed_game q g) i j e a w.0 w.1, (f (a ++ w.0)).0 w.2), λ w. (w.0, move_from g (opposed_game q g) i j e a w.0 w.1, (f (a ++ w.0)).1 w.2))
  kind_wins Forall i j e a V W f =
      (λ w t m. (f (a ++ t)).0 (w t (move_from g (opposed_game q g) i j e a t m)), λ w t m. (f (a ++ t)).1 (w t (move_to g (opposed_game q g) i j e a t m)))

  passed_wins : (w : Option Condition) (later : List Scope) (j n : ℕ) (V : List ℤ → Type 0) → n ≡ suc (j + length (added w)) → (n ≡ suc (suc j) → IsPass (opposed_game q g) (suc j)) →
      ((b : List ℤ) → V b ↔ Wins (opposed_game q g) later n b) → (b : List ℤ) → V b ↔ Wins (opposed_game q g) (added w ++ later) (suc j) b
  passed_wins None later j n V e pass f b = subst (λ m. V b ↔ Wins (opposed_game q g) later m b) (e ∙ plain j) (f b)
    where
      plain : (j : ℕ) → suc (j + 0) ≡ suc j
      plain j = omega arith
  passed_wins (Some c) later j n V e pass f b =
      let next : n ≡ suc (suc j) = e ∙ one_more j in
      let here : V b ↔ Wins (opposed_game q g) later (suc (suc j)) b = subst (λ m. V b ↔ Wins (opposed_game q g) later m b) next (f b) in (
        λ v. ([], pass_is_move (opposed_game q g) (suc j) (pass next) b, subst (Wins (opposed_game q g) later (suc (suc j))) (sym (append-nil b)) (here.0 v)),
        λ w. here.1 (subst (Wins (opposed_game q g) later (suc (suc j))) (ap (λ t. b ++ t) (pass_is_empty (opposed_game q g) (suc j) (pass next) b w.0 w.1) ∙ append-nil b) w.2),
      )
    where
      one_more : (j : ℕ) → suc (j + 1) ≡ suc (suc j)
      one_more j = omega arith

  wins_together : (later : List Scope) (i : ℕ) → drop i g.scopes ≡ later → (a : List ℤ) → Wins g later i a ↔ Wins (opposed_game q g) (with_opposing q i later) (at i) a
  wins_together [] i e a = (λ w. (same_scope q g i).allowed a ∙ w, λ w. sym ((same_scope q g i).allowed a) ∙ w)
  wins_together (scope ∷ later) i e a =
      kind_wins scope.kind i (at i) (same_scope q g i) a (Wins g later (suc i)) (Wins (opposed_game q g) (added (chosen_wish (q i) scope.kind scope.condition) ++ with_opposing q (suc i) later) (suc (at i)))
      (passed_wins (chosen_wish (q i) scope.kind scope.condition) (with_opposing q (suc i) later) (at i) (at (suc i)) (Wins g later (suc i)) (moved_next q 0 i i g.scopes scope later (omega arith) e) (added_is_pass q g i)
      (wins_together later (suc i) (drop_next i g.scopes scope later e)))

  whole : Corresponds g (opposed_game q g) (OptimalAtWorst q g g.scopes 0) (Optimal (opposed_game q g) (with_opposing q 0 g.scopes) 0) (with_empty_choices q g.scopes 0)
  whole =
      subst (λ n. Corresponds g (opposed_game q g) (OptimalAtWorst q g g.scopes 0) (Optimal (opposed_game q g) (with_opposing q 0 g.scopes) n) (with_empty_choices q g.scopes 0))
      (moved_zero q 0 g.scopes) (corresponds g.scopes 0 (drop_none g.scopes))

  won_together : IsWon (opposed_game q g) ↔ IsWon g
  won_together =
      let w = subst (λ n. Wins g g.scopes 0 [] ↔ Wins (opposed_game q g) (with_opposing q 0 g.scopes) n []) (moved_zero q 0 g.scopes) (wins_together g.scopes 0 (drop_none g.scopes) []) in
      (w.1, w.0)

  optimum_of : (c : Condition) (v : ℤ) → HasOptimum c (opposed_game q g) v ↔ HasPessimisticOptimum q c g v
  optimum_of c v = (
    λ o. record { won = won_together.0 o.won; has_value = λ s k. sym (whole.worth [] s c.target) ∙ o.has_value (with_empty_choices q g.scopes 0 s) (whole.to [] s k) },
    λ o. record {
      won = won_together.1 o.won;
      has_value = λ p k.
          let n = whole.form [] p k in
          ap (λ r. value (opposed_game q g) r c.target []) n.1 ∙ whole.worth [] n.0 c.target
          ∙ o.has_value n.0 (whole.from [] n.0 (subst (Optimal (opposed_game q g) (with_opposing q 0 g.scopes) 0 []) n.1 k));
    },
  )

  optimum_by : (scopes : List Scope) (v : ℤ) → IsOptimum (with_opposing q 0 scopes) (opposed_game q g) v ↔ IsPessimisticOptimum q scopes g v
  optimum_by [] v = (λ h. h, λ h. h)
  optimum_by (s ∷ later) v = by_condition s.condition
    where
      by_condition : (x : Option Condition) → OptimumBy x (opposed_game q g) v ↔ PessimisticBy q x g v
      by_condition None = (λ h. h, λ h. h)
      by_condition (Some c) = optimum_of c v

  pub reads_at_worst : ReadsAtWorst q g (opposed_game q g)
  reads_at_worst = record {
    strategies = λ s. (whole.to [] s, whole.from [] s);
    no_others = λ p o. whole.form [] p o;
    worth = λ s x. whole.worth [] s x;
    won = won_together;
    won_by_strategy = won_by;
    optimum = optimum_by g.scopes;
  }
    where
      won_by : IsWon g ↔ ((s : Plan) × OptimalAtWorst q g g.scopes 0 [] s)
      won_by = (
        λ w. let p = (won_by_strategy (opposed_game q g) (with_opposing q 0 g.scopes) 0 []).0 (won_together.1 w) in
            let n = whole.form [] p.0 p.1 in (n.0, whole.from [] n.0 (subst (Optimal (opposed_game q g) (with_opposing q 0 g.scopes) 0 []) n.1 p.1)),
        λ s. won_together.0 ((won_by_strategy (opposed_game q g) (with_opposing q 0 g.scopes) 0 []).1 (with_empty_choices q g.scopes 0 s.0, whole.to [] s.0 s.1)),
      )
