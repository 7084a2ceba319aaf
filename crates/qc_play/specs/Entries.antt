-- What is kept of the leaves of a scope's own tree that go on.
use Rattle.std.specs.Prelude.{◌≡◌, ⊤, ℕ, Bool, true, Option, Some, None, List, [], ◌∷◌, drop, map, IsTrue, IsFalse, ℤ}
use Rattle.qc_model.specs.declared.problem.Condition.{Condition}
use Rattle.qc_model.specs.Plan.{Plan, finish, choose, Entries, no_entries, entry}
use Rattle.qc_model.specs.Demands.{is_better_vector}
use Rattle.qc_model.specs.Verdict.{is_lost, is_exact, each_node, exact_vectors, is_none_of}
use Rattle.qc_model.specs.ExistsVerdict.{best_vector}
use Rattle.proof_tree.specs.Finding.{Finding, Leaf, leaf_barred, leaf_skipped, leaf_bound, leaf_node, seen_of, is_exact_at, first_choice}
use Rattle.qc_play.specs.declared.best.Best.{Best}
use Rattle.qc_play.specs.declared.plan.PlanEntry.{PlanEntry}
use Rattle.qc_play.specs.declared.counter.CounterEntry.{CounterEntry}
use Rattle.qc_play.specs.Shape.{plan_of, tree_of_counter, all_entries, all_replies}

-- an entry for each leaf that goes on, in their order, with the plan of its node; n values stand before the scope
abbrev pub entries_on : (Finding → Plan) → ℕ → List Leaf → Entries
entries_on plan n [] = no_entries
entries_on plan n (leaf_barred ∷ ls) = entries_on plan n ls
entries_on plan n (leaf_skipped ∷ ls) = entries_on plan n ls
entries_on plan n (leaf_bound m ∷ ls) = entries_on plan n ls
entries_on plan n (leaf_node w f ∷ ls) = entry (drop n w) (plan f) (entries_on plan n ls)

-- none of the vectors is better than v
abbrev pub NoneBetter : List Condition → List ℤ → List (List ℤ) → Type 0
NoneBetter d v [] = ⊤
NoneBetter d v (w ∷ ws) = IsFalse (is_better_vector d w v) × NoneBetter d v ws

-- the leaf is the first of the best exact ones, by the list d
pub record IsBest (d : List Condition) (n : ℕ) (b : Best) (ls : List Leaf) : Type 0 where
  pub some : IsFalse (is_none_of (exact_vectors (map seen_of ls)))
  pub vector : b.vector ≡ best_vector d (exact_vectors (map seen_of ls))
  pub none_better : NoneBetter d b.vector (exact_vectors (map seen_of ls))
  pub first : first_choice (is_exact_at b.vector) (λ f. f.strategy) n ls ≡ choose b.tuple (plan_of b.plan)

-- there is none where no leaf is exact
abbrev pub KeepsBest : List Condition → ℕ → Option Best → List Leaf → Type 0
KeepsBest d n None ls = exact_vectors (map seen_of ls) ≡ []
KeepsBest d n (Some b) ls = IsBest d n b ls

-- a vector takes the place of the best one, if there is one
abbrev pub wins_over : List Condition → Option Best → List ℤ → Bool
wins_over d None v = true
wins_over d (Some b) v = is_better_vector d v b.vector

abbrev pub best_choice : Option Best → Plan
best_choice None = finish
best_choice (Some b) = choose b.tuple (plan_of b.plan)

-- the first lost leaf, if one is
abbrev pub lost_choice : Option CounterEntry → Plan
lost_choice None = finish
lost_choice (Some e) = choose e.tuple (tree_of_counter e.counter)

abbrev pub KeepsFirst : ℕ → Option CounterEntry → List Leaf → Type 0
KeepsFirst n o ls = first_choice is_lost (λ f. f.counter) n ls ≡ lost_choice o

-- a reply for each leaf, where each is lost
abbrev pub KeepsReplies : ℕ → List CounterEntry → List Leaf → Type 0
KeepsReplies n es ls = IsTrue (each_node is_lost (map seen_of ls)) → all_replies es ≡ entries_on (λ f. f.counter) n ls

-- an answer for each leaf, where each is exact
abbrev pub KeepsAnswers : ℕ → List PlanEntry → List Leaf → Type 0
KeepsAnswers n es ls = IsTrue (each_node is_exact (map seen_of ls)) → all_entries es ≡ entries_on (λ f. f.strategy) n ls
