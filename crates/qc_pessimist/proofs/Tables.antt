-- The table of new places, and what it makes of the parts of a valid game.
use Rattle.std.proofs.Common.{◌≡◌, refl, ap, ◌∙◌, ℕ, zero, suc, ◌+◌, ◌<◌, ◌≤◌, Bool, true, List, [], ◌∷◌, map, length, arith}
use Rattle.std.specs.Prelude.{nat_le}
use Rattle.std.proofs.lemmas.Bool.Decides.{nat_tests}
use Rattle.std.proofs.lemmas.Bool.{and_parts}
use Rattle.qc_model.specs.declared.problem.Scope.{Scope}
use Rattle.qc_model.specs.declared.problem.Variable.{Variable}
use Rattle.qc_model.specs.declared.problem.Aggregate.{Aggregate}
use Rattle.qc_model.specs.Content.{Game, Rule}
use Rattle.qc_model.specs.Valid.{IsValid, is_in_order}
use Rattle.qc_pessimist.specs.Opposed.{added_after, with_opposing, moved, move_variable, move_aggregate, move_rule, opposed_game}
use Rattle.qc_pessimist.specs.Table.{places_from, place_in}

place_is : (q : ℕ → Bool) (i : ℕ) (scopes : List Scope) (n k : ℕ) → k ≤ length scopes → place_in (places_from q i scopes n) k ≡ n + moved q i scopes k
place_is q i [] n zero h = omega arith
place_is q i [] n (suc k) h = absurd (omega arith)
place_is q i (s ∷ later) n zero h = omega arith
place_is q i (s ∷ later) n (suc k) h =
    place_is q (suc i) later (n + 1 + length (added_after q i s)) k (omega arith) ∙ shift n (length (added_after q i s)) (moved q (suc i) later k)
  where
    shift : (a b c : ℕ) → a + 1 + b + c ≡ a + suc (b + c)
    shift a b c = omega arith

pub place_at : (q : ℕ → Bool) (scopes : List Scope) (k : ℕ) → k < length scopes + 1 → place_in (places_from q 0 scopes 0) k ≡ moved q 0 scopes k
place_at q scopes k h = place_is q 0 scopes 0 k (omega arith) ∙ none (moved q 0 scopes k)
  where
    none : (n : ℕ) → 0 + n ≡ n
    none n = omega arith

pub first_below : (n i : ℕ) (is : List ℕ) → is_in_order n (i ∷ is) ≡ true → i < n
first_below n i [] h = grind (arith, nat_tests)
first_below n i (j ∷ is) h =
    let p = and_parts (nat_le i j) (is_in_order n (j ∷ is)) h in
    let later = first_below n j is p.1 in
    let up : nat_le i j ≡ true = p.0 in
    grind (arith, nat_tests)

pub rest_in_order : (n i : ℕ) (is : List ℕ) → is_in_order n (i ∷ is) ≡ true → is_in_order n is ≡ true
rest_in_order n i [] h = refl
rest_in_order n i (j ∷ is) h = (and_parts (nat_le i j) (is_in_order n (j ∷ is)) h).1

-- parts in order, whose numbers are below n, move alike by functions that agree below n
module _ {X : Type 0} (owner : X → ℕ) (move : (ℕ → ℕ) → X → X) (by : (f h : ℕ → ℕ) (x : X) → f (owner x) ≡ h (owner x) → move f x ≡ move h x) where
  same_moved : (f h : ℕ → ℕ) (n : ℕ) → ((k : ℕ) → k < n → f k ≡ h k) → (xs : List X) → is_in_order n (map owner xs) ≡ true → map (move f) xs ≡ map (move h) xs
  same_moved f h n e [] o = refl
  same_moved f h n e (x ∷ xs) o =
      ap (λ y. y ∷ map (move f) xs) (by f h x (e (owner x) (first_below n (owner x) (map owner xs) o)))
      ∙ ap (λ ys. move h x ∷ ys) (same_moved f h n e xs (rest_in_order n (owner x) (map owner xs) o))

module _ (q : ℕ → Bool) (g : Game) (v : IsValid g) where
  pub variables_move : map (move_variable (place_in (places_from q 0 g.scopes 0))) g.variables ≡ map (move_variable (moved q 0 g.scopes)) g.variables
  variables_move =
      same_moved (λ (x : Variable). x.scope.0) move_variable (λ f h x e. ap (λ n. record { name = x.name; scope = record { 0 = n }; domain = x.domain }) e)
      (place_in (places_from q 0 g.scopes 0)) (moved q 0 g.scopes) (length g.scopes) (λ k h. place_at q g.scopes k (omega arith)) g.variables v.variable_order

  pub aggregates_move : map (move_aggregate (place_in (places_from q 0 g.scopes 0))) g.aggregates ≡ map (move_aggregate (moved q 0 g.scopes)) g.aggregates
  aggregates_move =
      same_moved (λ (x : Aggregate). x.scope.0) move_aggregate (λ f h x e. ap (λ n. record { name = x.name; scope = record { 0 = n }; fold = x.fold; target = x.target }) e)
      (place_in (places_from q 0 g.scopes 0)) (moved q 0 g.scopes) (length g.scopes) (λ k h. place_at q g.scopes k (omega arith)) g.aggregates v.aggregate_order

  pub constraints_move : map (move_rule (place_in (places_from q 0 g.scopes 0))) g.constraints ≡ map (move_rule (moved q 0 g.scopes)) g.constraints
  constraints_move =
      same_moved (λ (c : Rule). c.owner.0) move_rule (λ f h c e. ap (λ n. record { owner = record { 0 = n }; pred = c.pred; args = c.args }) e)
      (place_in (places_from q 0 g.scopes 0)) (moved q 0 g.scopes) (length g.scopes + 1) (place_at q g.scopes) g.constraints v.constraint_order

  -- the four lists as they are made, by the table
  pub made_game : (ps : List ℕ) → ps ≡ places_from q 0 g.scopes 0 → (h : Game) → h.scopes ≡ with_opposing q 0 g.scopes →
      h.variables ≡ map (move_variable (place_in ps)) g.variables → h.aggregates ≡ map (move_aggregate (place_in ps)) g.aggregates →
      h.constraints ≡ map (move_rule (place_in ps)) g.constraints → h ≡ opposed_game q g
  made_game ps e h a b c d =
      ap (λ xs. record { scopes = xs; variables = h.variables; aggregates = h.aggregates; constraints = h.constraints }) a
      ∙ ap (λ xs. record { scopes = with_opposing q 0 g.scopes; variables = xs; aggregates = h.aggregates; constraints = h.constraints }) (b ∙ ap (λ ts. map (move_variable (place_in ts)) g.variables) e ∙ variables_move)
      ∙ ap (λ xs. record { scopes = with_opposing q 0 g.scopes; variables = map (move_variable (moved q 0 g.scopes)) g.variables; aggregates = xs; constraints = h.constraints })
      (c ∙ ap (λ ts. map (move_aggregate (place_in ts)) g.aggregates) e ∙ aggregates_move)
      ∙ ap (λ xs. record { scopes = with_opposing q 0 g.scopes; variables = map (move_variable (moved q 0 g.scopes)) g.variables; aggregates = map (move_aggregate (moved q 0 g.scopes)) g.aggregates; constraints = xs })
      (d ∙ ap (λ ts. map (move_rule (place_in ts)) g.constraints) e ∙ constraints_move)
