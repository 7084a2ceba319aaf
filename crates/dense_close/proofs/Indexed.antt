-- The constraints that have each variable, as more are told.
use Rattle.std.proofs.Common.{◌≡◌, ℕ, zero, suc, ◌+◌, ◌<◌, ◌≤◌, ◌++◌, ◌⊎◌, inl, inr, Bool, true, List, [], ◌∷◌, length, take, get_or, refl, sym, ap, ◌∙◌, subst, arith}
use Rattle.std.specs.Prelude.{nat_lt, slice_get, Some}
use Rattle.std.specs.List.{list_all}
use Rattle.std.proofs.lemmas.Bool.Decides.{nat_tests}
use Rattle.qc_model.specs.declared.problem.VarId.{VarId}
use Rattle.std.proofs.lemmas.Option.{same_Some}
use Rattle.std.proofs.lemmas.Bool.{and_from}
use Rattle.qc_model.specs.Arguments.{variables_of}
use Rattle.qc_model.specs.Content.{Game, Rule}
use Rattle.qc_model.proofs.Readable.{first, second}
use Rattle.model_arguments.specs.Written.{variable_numbers}
use Rattle.dense_quiet.proofs.Sums.{last_or_before}
use Rattle.dense_close.specs.Index.{Having, Index, own, has_it, HasGrown, IsIndexTo}

pub grown_more : (a b c : Having) → HasGrown a b → HasGrown b c → HasGrown a c
grown_more a b c p q = record { count = q.count ∙ p.count; kept = λ k x h. q.kept k x (p.kept k x h) }

pub all_weaker : {X : Type 0} (p q : X → Bool) (xs : List X) → ((x : X) → p x ≡ true → q x ≡ true) → list_all p xs ≡ true → list_all q xs ≡ true
all_weaker p q [] f h = refl
all_weaker p q (x ∷ xs) f h = and_from (q x) (list_all q xs) (f x (first (p x) (list_all p xs) h)) (all_weaker p q xs f (second (p x) (list_all p xs) h))

-- one more of the variables
pub all_more : (p : ℕ → Bool) (xs : List VarId) (i : ℕ) (d : VarId) → i < length xs → list_all p (variable_numbers (take i xs)) ≡ true → p (get_or xs i d).0 ≡ true → list_all p (variable_numbers (take (i + 1) xs)) ≡ true
all_more p xs i d l h e = ap (λ n. list_all p (variable_numbers (take n xs))) (one_more i) ∙ go xs i l h e
  where
    one_more : (i : ℕ) → i + 1 ≡ suc i
    one_more i = omega arith

    go : (xs : List VarId) (i : ℕ) → i < length xs → list_all p (variable_numbers (take i xs)) ≡ true → p (get_or xs i d).0 ≡ true → list_all p (variable_numbers (take (suc i) xs)) ≡ true
    go [] i l h e = absurd (omega arith)
    go (x ∷ xs) zero l h e = and_from (p x.0) true e refl
    go (x ∷ xs) (suc i) l h e =
        and_from (p x.0) (list_all p (variable_numbers (take (suc i) xs))) (first (p x.0) (list_all p (variable_numbers (take i xs))) h) (go xs i (omega arith) (second (p x.0) (list_all p (variable_numbers (take i xs))) h) e)

pub added_more : (own : List VarId) (i : ℕ) (d : VarId) (k : ℕ) (hs then : Having) → i < length own → HasGrown hs then → list_all (has_it hs k) (variable_numbers (take i own)) ≡ true → has_it then k (get_or own i d).0 ≡ true →
    list_all (has_it then k) (variable_numbers (take (i + 1) own)) ≡ true
added_more own i d k hs then l g h e =
    all_more (has_it then k) own i d l (all_weaker (has_it hs k) (has_it then k) (variable_numbers (take i own)) (λ x m. g.kept k x m) h) e

-- a variable that is one of them
pub place_of : (n : ℕ) (own : List VarId) (i : ℕ) (d : VarId) → i < length own → list_all (λ x. nat_lt x n) (variable_numbers own) ≡ true → (get_or own i d).0 < n
place_of n [] i d l h = absurd (omega arith)
place_of n (x ∷ own) zero d l h = less x.0 n (first (nat_lt x.0 n) (list_all (λ y. nat_lt y n) (variable_numbers own)) h)
  where
    less : (j n : ℕ) → nat_lt j n ≡ true → j < n
    less j n h = grind (arith, nat_tests)
place_of n (x ∷ own) (suc i) d l h = place_of n own i d (omega arith) (second (nat_lt x.0 n) (list_all (λ y. nat_lt y n) (variable_numbers own)) h)

-- those of more variables are of as many
pub place_grown : (n m : ℕ) (own : List VarId) (i : ℕ) (d : VarId) → m ≡ n → i < length own → list_all (λ x. nat_lt x n) (variable_numbers own) ≡ true → (get_or own i d).0 < m
place_grown n m own i d e l h = subst (λ k. (get_or own i d).0 < k) (sym e) (place_of n own i d l h)

-- all of the variables
pub whole : (p : ℕ → Bool) (xs : List VarId) (i : ℕ) → length xs ≤ i → list_all p (variable_numbers (take i xs)) ≡ true → list_all p (variable_numbers xs) ≡ true
whole p xs i l h = ap (λ ys. list_all p (variable_numbers ys)) (sym (all xs i l)) ∙ h
  where
    all : (xs : List VarId) (i : ℕ) → length xs ≤ i → take i xs ≡ xs
    all [] zero l = refl
    all [] (suc i) l = refl
    all (x ∷ xs) zero l = absurd (omega arith)
    all (x ∷ xs) (suc i) l = ap (λ ys. x ∷ ys) (all xs i (omega arith))

-- one more constraint
own_before : (os : List (List VarId)) (items : List VarId) (k : ℕ) → k < length os → own (os ++ items ∷ []) k ≡ own os k
own_before [] items k l = absurd (omega arith)
own_before (o ∷ os) items zero l = refl
own_before (o ∷ os) items (suc k) l = own_before os items k (omega arith)

own_last : (os : List (List VarId)) (items : List VarId) → own (os ++ items ∷ []) (length os) ≡ items
own_last [] items = refl
own_last (o ∷ os) items = own_last os items

pub index_more : (g : Game) (n : ℕ) (c : Rule) (i j : Index) (items : List VarId) → slice_get g.constraints n ≡ Some c → IsIndexTo n g i → j.own ≡ i.own ++ items ∷ [] → HasGrown i.having j.having →
    variable_numbers items ≡ variables_of c.args → list_all (has_it j.having n) (variable_numbers items) ≡ true → IsIndexTo (n + 1) g j
index_more g n c i j items there h e grown own_is told = record {
  count = let l = ap length e in let m = h.count in let p = one_longer i.own items in omega arith;
  variables = grown.count ∙ h.variables;
  own_are = λ k r l s. ap (λ os. variable_numbers (own os k)) e ∙ by k r s (last_or_before k n l);
  told = λ k r l s. marked k r s (last_or_before k n l);
}
  where
    one_longer : (os : List (List VarId)) (items : List VarId) → length (os ++ items ∷ []) ≡ length os + 1
    one_longer [] items = refl
    one_longer (o ∷ os) items = let l = one_longer os items in omega arith

    same : (k : ℕ) (r : Rule) → slice_get g.constraints k ≡ Some r → k ≡ n → c ≡ r
    same k r s m = same_Some c r (sym there ∙ (ap (slice_get g.constraints) (sym m) ∙ s))

    by : (k : ℕ) (r : Rule) → slice_get g.constraints k ≡ Some r → (k < n) ⊎ (k ≡ n) → variable_numbers (own (i.own ++ items ∷ []) k) ≡ variables_of r.args
    by k r s (inl m) = ap variable_numbers (own_before i.own items k (let q = h.count in omega arith)) ∙ h.own_are k r m s
    by k r s (inr m) = ap (λ p. variable_numbers (own (i.own ++ items ∷ []) p)) (m ∙ sym h.count) ∙ (ap variable_numbers (own_last i.own items) ∙ (own_is ∙ ap (λ (z : Rule). variables_of z.args) (same k r s m)))

    marked : (k : ℕ) (r : Rule) → slice_get g.constraints k ≡ Some r → (k < n) ⊎ (k ≡ n) → list_all (has_it j.having k) (variables_of r.args) ≡ true
    marked k r s (inl m) = all_weaker (has_it i.having k) (has_it j.having k) (variables_of r.args) (λ x w. grown.kept k x w) (h.told k r m s)
    marked k r s (inr m) =
        subst (λ p. list_all (has_it j.having p) (variables_of r.args) ≡ true) (sym m)
        (subst (λ (z : Rule). list_all (has_it j.having n) (variables_of z.args) ≡ true) (same k r s m) (subst (λ xs. list_all (has_it j.having n) xs ≡ true) own_is told))

-- the constraint at a place
pub some_at : (cs : List Rule) (k : ℕ) → k < length cs → (c : Rule) × (slice_get cs k ≡ Some c)
some_at [] k l = absurd (omega arith)
some_at (c ∷ cs) zero l = (c, refl)
some_at (c ∷ cs) (suc k) l = some_at cs k (omega arith)
