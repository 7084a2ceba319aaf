-- Where a line of play ends: at the goal, and at a scope that nobody passes.
use Rattle.std.proofs.Common.{◌≡◌, inl, ℕ, suc, Bool, true, false, List, [], ◌∷◌, length, drop, refl, sym, ap, ◌∙◌, subst, ℤ, Option, arith}
use Rattle.std.specs.Prelude.{IsTrue}
use Rattle.qc_model.specs.declared.problem.Kind.TheVariants.{Exists, Forall}
use Rattle.qc_model.specs.declared.problem.Target.{Target}
use Rattle.qc_model.specs.declared.problem.Target.TheVariants.{Var, Aggregate as Agg}
use Rattle.qc_model.specs.declared.problem.Scope.{Scope}
use Rattle.qc_model.specs.declared.problem.Condition.{Condition}
use Rattle.qc_model.specs.Content.{Game}
use Rattle.qc_model.specs.Lists.{Among}
use Rattle.qc_model.specs.Game.{allows, moves}
use Rattle.qc_model.specs.Plan.{Plan, finish, choose, answer, IsFinish}
use Rattle.qc_model.specs.Value.{value}
use Rattle.qc_model.specs.Optimal.{Optimal}
use Rattle.qc_model.specs.Demands.{vector, is_better_vector, demands, demands_through}
use Rattle.qc_model.specs.Bottlenecks.{bottleneck_last}
use Rattle.qc_model.specs.ForallVerdict.{entry_value, entry_values, numbers_for, goal_verdict, stuck_verdict}
use Rattle.qc_model.specs.Sees.{IsVisibleAtEnd, AllVisible}
use Rattle.qc_model.specs.Valid.{IsValid}
use Rattle.qc_model.proofs.Moves.{moves_to}
use Rattle.model_laws.specs.Positions.{Chosen}
use Rattle.model_laws.specs.Branches.{BestAfter}
use Rattle.model_laws.specs.Verdicts.{Means, HasNoMove}
use Rattle.model_laws.proofs.Better.{vector_false}
use Rattle.model_laws.proofs.Universal.{vector_not_self, optimal_universal}
use Rattle.model_laws.proofs.Choices.{to_chosen}
use Rattle.model_laws.proofs.Validity.{valid_lists}

-- at the goal each entry names a variable
end_value : (g : Game) (i : ℕ) (a : List ℤ) (ns : ℕ → List ℤ) (t : Target) → IsVisibleAtEnd g i t → value g finish t a ≡ entry_value g a ns t
end_value g i a ns (Var x) h = refl
end_value g i a ns (Agg q) h = absurd h

end_values : (g : Game) (i : ℕ) (a : List ℤ) (ns : ℕ → List ℤ) (d : List Condition) → AllVisible g [] i d → vector g d a finish ≡ entry_values g d a ns
end_values g i a ns [] h = refl
end_values g i a ns (c ∷ d) h =
    ap (λ z. z ∷ vector g d a finish) (end_value g i a ns c.target h.0)
    ∙ ap (λ zs. entry_value g a ns c.target ∷ zs) (end_values g i a ns d h.1)

finish_alone : (g : Game) (d : List Condition) (a : List ℤ) (s : Plan) → IsFinish s → is_better_vector d (vector g d a s) (vector g d a finish) ≡ false
finish_alone g d a finish h = vector_false d (vector g d a finish) (vector g d a finish) (vector_not_self d (vector g d a finish))
finish_alone g d a (choose t s) h = absurd h
finish_alone g d a (answer l) h = absurd h

goal_by : (g : Game) (i : ℕ) (a : List ℤ) (d : List Condition) (b : Bool) → AllVisible g [] i d → Means g d a (λ s. IsFinish s × IsTrue b) (goal_verdict g b d a)
goal_by g i a d true h = record {
  some = (finish, (tt, refl), end_values g i a (numbers_for d []) d h);
  none_better = λ s o. subst (λ v. is_better_vector d (vector g d a s) v ≡ false) (end_values g i a (numbers_for d []) d h) (finish_alone g d a s o.0);
}
goal_by g i a d false h = λ s o. (let e : false ≡ true = o.1 in cc)

pub goal_mean : (g : Game) (i : ℕ) (a : List ℤ) (d : List Condition) → AllVisible g [] i d → Means g d a (Optimal g [] i a) (goal_verdict g (allows g i a) d a)
goal_mean g i a d h = goal_by g i a d (allows g i a) h

drop_all : {X : Type 0} (xs : List X) → drop (length xs) xs ≡ []
drop_all [] = refl
drop_all (x ∷ xs) = drop_all xs

pub valid_goal : (g : Game) (a : List ℤ) → IsValid g → Means g (demands g (length g.scopes)) a (Optimal g [] (length g.scopes) a) (goal_verdict g (allows g (length g.scopes) a) (demands g (length g.scopes)) a)
valid_goal g a v =
    let n = length g.scopes in
    goal_mean g n a (demands g n) (subst (λ scopes. AllVisible g scopes n (demands g n)) (drop_all g.scopes) (valid_lists g n v (omega arith)))

no_choice : (g : Game) (i : ℕ) (a : List ℤ) (R : List ℤ → Plan → Type 0) → HasNoMove g i a → (s : Plan) → ¬ Chosen g i a R s
no_choice g i a R n finish h = h
no_choice g i a R n (choose t s) h = n t h.is_move
no_choice g i a R n (answer l) h = h

-- an existential scope that no tuple passes is lost
pub stuck_exists : (g : Game) (later : List Scope) (x : Option Condition) (i : ℕ) (a : List ℤ) (d : List Condition) → HasNoMove g i a →
    Means g d a (Optimal g (record { kind = Exists; condition = x } ∷ later) i a) (stuck_verdict g Exists d a)
stuck_exists g later x i a d n = λ s o. no_choice g i a (Optimal g later (suc i)) n s (to_chosen x g later i a s o)

none_among : {X : Type 0} (xs : List X) → ((x : X) → ¬ Among x xs) → xs ≡ []
none_among [] f = refl
none_among (x ∷ xs) f = absurd (f x (inl refl))

-- at a universal scope without an allowed tuple the empty answer has the fold over no branch
pub stuck_forall : (g : Game) (later : List Scope) (x : Option Condition) (i : ℕ) (a : List ℤ) (d : List Condition) → bottleneck_last g d ≡ true → HasNoMove g i a →
    Means g d a (Optimal g (record { kind = Forall; condition = x } ∷ later) i a) (stuck_verdict g Forall d a)
stuck_forall g later x i a d h n =
    let none : moves g i a ≡ [] = none_among (moves g i a) (λ t m. n t (moves_to g i a t m)) in
    optimal_universal g later x i a d [] h (subst (λ ts. BestAfter g (demands_through g d) a (Optimal g later (suc i)) ts []) (sym none) tt)
