-- What holds at every scope of a valid game: its list is visible, and no variable stands at the goal.
use Rattle.std.proofs.Common.{◌≡◌, ℕ, zero, suc, ◌+◌, ◌<◌, ◌≤◌, true, List, [], ◌∷◌, length, map, take, drop, refl, subst, cond, arith}
use Rattle.std.specs.Prelude.{nat_lt, nat_le}
use Rattle.std.specs.List.{sum_by}
use Rattle.std.proofs.lemmas.List.{length-map, length-drop}
use Rattle.std.proofs.lemmas.List.Sums.{sum_by-cons}
use Rattle.std.proofs.lemmas.Bool.Decides.{nat_tests}
use Rattle.std.proofs.lemmas.Bool.{and_parts}
use Rattle.qc_model.specs.declared.problem.Scope.{Scope}
use Rattle.qc_model.specs.declared.problem.Condition.{Condition}
use Rattle.qc_model.specs.declared.problem.Variable.{Variable}
use Rattle.qc_model.specs.Content.{Game}
use Rattle.qc_model.specs.Domains.{Box, declared_box, domain_values}
use Rattle.qc_model.specs.Game.{before}
use Rattle.qc_model.specs.Block.{of_kind}
use Rattle.qc_model.specs.Demands.{demands, demands_from, demands_after}
use Rattle.qc_model.specs.Bottlenecks.{bottleneck_last, bottlenecks_last}
use Rattle.qc_model.specs.Sees.{SeesRight}
use Rattle.qc_model.specs.Valid.{IsValid, is_in_order}
use Rattle.model_laws.proofs.Better.{and_second}
use Rattle.model_laws.proofs.Seen.{demands_visible}
use Rattle.proof_meaning.proofs.Trees.{Asked}

sees_dropped : (g : Game) (scopes : List Scope) (n i : ℕ) → SeesRight g scopes i → SeesRight g (drop n scopes) (n + i)
sees_dropped g scopes zero i s = subst (SeesRight g scopes) (let e : i ≡ 0 + i = omega arith in e) s
sees_dropped g [] (suc n) i s = tt
sees_dropped g (x ∷ scopes) (suc n) i s = subst (SeesRight g (drop n scopes)) (let e : n + suc i ≡ suc n + i = omega arith in e) (sees_dropped g scopes n (suc i) s.1)

pub sees_from : (g : Game) → IsValid g → (i : ℕ) → SeesRight g (drop i g.scopes) i
sees_from g valid i = subst (SeesRight g (drop i g.scopes)) (let e : i + 0 ≡ i = omega arith in e) (sees_dropped g g.scopes i 0 valid.sees)

last_dropped : (g : Game) (scopes : List Scope) (n : ℕ) (d : List Condition) → bottlenecks_last g scopes d ≡ true → bottlenecks_last g (drop n scopes) (demands_from g (take n scopes) d) ≡ true
last_dropped g scopes zero d b = b
last_dropped g [] (suc n) d b = refl
last_dropped g (s ∷ scopes) (suc n) d b =
    last_dropped g scopes n (demands_after g s.kind s.condition d)
    (and_second (of_kind s.kind true (bottleneck_last g d)) (bottlenecks_last g scopes (demands_after g s.kind s.condition d)) b)

pub asked_from : (g : Game) → IsValid g → (i : ℕ) → i ≤ length g.scopes → Asked g (drop i g.scopes) i (demands g i)
asked_from g valid i le = (demands_visible g i le valid.sees, last_dropped g g.scopes i [] valid.bottlenecks)

pub left_from : (g : Game) (i : ℕ) → i ≤ length g.scopes → i + length (drop i g.scopes) ≡ length g.scopes
left_from g i le = omega (arith, length-drop i g.scopes)

-- each variable stands before the goal
abbrev stands : ℕ → Variable → ℕ
stands n x = cond (nat_lt x.scope.0 n) 1 0

abbrev owners : List Variable → List ℕ
owners xs = map (λ x. x.scope.0) xs

first_below : (n i : ℕ) (is : List ℕ) → is_in_order n (i ∷ is) ≡ true → i < n
first_below n i [] e = lt i n e
  where
    lt : (i n : ℕ) → nat_lt i n ≡ true → i < n
    lt i n e = grind (arith, nat_tests)
first_below n i (h ∷ is) e =
    let p = and_parts (nat_le i h) (is_in_order n (h ∷ is)) e in
    let l = le i h p.0 in
    let r = first_below n h is p.1 in omega arith
  where
    le : (i h : ℕ) → nat_le i h ≡ true → i ≤ h
    le i h e = grind (arith, nat_tests)

rest_in_order : (n i : ℕ) (is : List ℕ) → is_in_order n (i ∷ is) ≡ true → is_in_order n is ≡ true
rest_in_order n i [] e = refl
rest_in_order n i (h ∷ is) e = (and_parts (nat_le i h) (is_in_order n (h ∷ is)) e).1

all_stand : (n : ℕ) (xs : List Variable) → is_in_order n (owners xs) ≡ true → sum_by (stands n) xs ≡ length xs
all_stand n [] e = refl
all_stand n (x ∷ xs) e =
    omega (arith, sum_by-cons (stands n) x xs, all_stand n xs (rest_in_order n x.scope.0 (owners xs) e), one x.scope.0 (first_below n x.scope.0 (owners xs) e))
  where
    one : (a : ℕ) → a < n → ◌≡◌ {A = ℕ} (cond (nat_lt a n) 1 0) 1
    one a l = grind (arith, nat_tests)

none_dropped : {X : Type 0} (n : ℕ) (xs : List X) → length xs ≤ n → drop n xs ≡ []
none_dropped zero [] l = refl
none_dropped zero (x ∷ xs) l = absurd (omega arith)
none_dropped (suc n) [] l = refl
none_dropped (suc n) (x ∷ xs) l = none_dropped n xs (omega arith)

-- after the goal no domains are left
pub none_left : (g : Game) → IsValid g → (n : ℕ) (box : Box) → length g.scopes ≤ n → n ≤ length g.scopes → length box ≡ length (declared_box g) → drop (before g n) box ≡ []
none_left g valid n box low high size =
    none_dropped (before g n) box (omega (arith, size, length-map g.variables (λ x. domain_values x.domain), subst (λ m. sum_by (stands m) g.variables ≡ length g.variables) same (all_stand (length g.scopes) g.variables valid.variable_order)))
  where
    same : length g.scopes ≡ n
    same = omega arith
