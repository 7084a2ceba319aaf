-- Whether values are the same, part by part.
use Rattle.std.proofs.Common.{◌≡◌, ◌∙◌, ◌+◌, ◌<◌, ℕ, suc, Bool, true, false, ◌&&◌, List, [], ◌∷◌, ◌++◌, ◌==◌, inl, inr, length, drop, map, refl, sym, ap, subst, arith, ℤ}
use Rattle.std.specs.Prelude.{flat_map, get_or, slice_index_or, pos}
use Rattle.std.specs.Ordering.{int_eq}
use Rattle.std.proofs.lemmas.Bool.Decides.{nat_tests}
use Rattle.std.proofs.lemmas.Int.{ints}
use Rattle.std.proofs.lemmas.List.{at_drop_more, map-append}
use Rattle.std.proofs.lemmas.Bool.{or_cases, and_from}
use Rattle.qc_model.specs.Domains.{Values, is_single, least_value}
use Rattle.qc_model.specs.Lists.{same_values}
use Rattle.qc_model.proofs.Conjunctions.{first, second}
use Rattle.proof_alike.specs.Alike.{is_among}
use Rattle.likeness.specs.Seeing.{values_of}

pub same_append : (us vs xs ys : List ℤ) → length us ≡ length vs → same_values (us ++ xs) (vs ++ ys) ≡ (same_values us vs && same_values xs ys)
same_append [] [] xs ys l = refl
same_append [] (v ∷ vs) xs ys l = absurd (omega (arith, l))
same_append (u ∷ us) [] xs ys l = absurd (omega (arith, l))
same_append (u ∷ us) (v ∷ vs) xs ys l = ap (λ b. int_eq u v && b) (same_append us vs xs ys (omega (arith, l))) ∙ regroup (int_eq u v) (same_values us vs) (same_values xs ys)
  where
    regroup : (a b c : Bool) → (a && (b && c)) ≡ ((a && b) && c)
    regroup true b c = refl
    regroup false b c = refl

-- the variables of items, item by item
as_many : (here there : List ℤ) (ns : List ℕ) → length (values_of here ns) ≡ length (values_of there ns)
as_many here there [] = refl
as_many here there (n ∷ ns) = ap suc (as_many here there ns)

module _ {X : Type 0} (f : X → List ℕ) (here there : List ℤ) where
  parts : (x : X) (xs : List X) →
      same_values (values_of here (flat_map f (x ∷ xs))) (values_of there (flat_map f (x ∷ xs)))
      ≡ (same_values (values_of here (f x)) (values_of there (f x)) && same_values (values_of here (flat_map f xs)) (values_of there (flat_map f xs)))
  parts x xs =
      ap (λ us. same_values us (values_of there (f x ++ flat_map f xs))) (map-append (λ y. slice_index_or here y (pos 0)) (f x) (flat_map f xs))
      ∙ (ap (same_values (values_of here (f x) ++ values_of here (flat_map f xs))) (map-append (λ y. slice_index_or there y (pos 0)) (f x) (flat_map f xs))
      ∙ same_append (values_of here (f x)) (values_of there (f x)) (values_of here (flat_map f xs)) (values_of there (flat_map f xs)) (as_many here there (f x)))

  -- from item to item
  pub same_step : (xs : List X) (k : ℕ) (x : X) → k < length xs → x ≡ get_or xs k x →
      same_values (values_of here (flat_map f (drop k xs))) (values_of there (flat_map f (drop k xs)))
      ≡ (same_values (values_of here (f x)) (values_of there (f x)) && same_values (values_of here (flat_map f (drop (k + 1) xs))) (values_of there (flat_map f (drop (k + 1) xs))))
  same_step xs k x l e =
      at_drop_more (λ ys. same_values (values_of here (flat_map f ys)) (values_of there (flat_map f ys))) xs k x l
      ∙ (ap (λ y. same_values (values_of here (flat_map f (y ∷ drop (k + 1) xs))) (values_of there (flat_map f (y ∷ drop (k + 1) xs)))) (sym e) ∙ parts x (drop (k + 1) xs))

-- a test of two parts, of which the first is known
pub first_holds : (r a b : Bool) → r ≡ (a && b) → a ≡ true → r ≡ b
first_holds r a b e h = e ∙ ap (λ z. z && b) h

pub first_fails : (r a b : Bool) → r ≡ (a && b) → a ≡ false → false ≡ r
first_fails r a b e h = sym (e ∙ ap (λ z. z && b) h)

-- one number each
pub one_same : (a b : ℤ) → same_values (a ∷ []) (b ∷ []) ≡ int_eq a b
one_same a b = by (int_eq a b)
  where
    by : (t : Bool) → (t && true) ≡ t
    by true = refl
    by false = refl

pub single_same : (d e : Values) → is_single d ≡ true → is_single e ≡ true → same_values d e ≡ int_eq (least_value d) (least_value e)
single_same [] e h k = cc
single_same (v ∷ []) [] h k = cc
single_same (v ∷ []) (w ∷ []) h k = one_same v w
single_same (v ∷ []) (w ∷ x ∷ e) h k = cc
single_same (v ∷ w ∷ d) e h k = cc

-- lists that are the same
pub same_lists : (us vs : List ℤ) → same_values us vs ≡ true → us ≡ vs
same_lists [] [] e = refl
same_lists [] (v ∷ vs) e = cc
same_lists (u ∷ us) [] e = cc
same_lists (u ∷ us) (v ∷ vs) e =
    ap (λ z. z ∷ us) (equal u v (first (int_eq u v) (same_values us vs) e)) ∙ ap (λ zs. v ∷ zs) (same_lists us vs (second (int_eq u v) (same_values us vs) e))
  where
    equal : (m n : ℤ) → int_eq m n ≡ true → m ≡ n
    equal m n e = grind (arith, ints)

pub same_itself : (us : List ℤ) → same_values us us ≡ true
same_itself [] = refl
same_itself (u ∷ us) = and_from (int_eq u u) (same_values us us) (equal u) (same_itself us)
  where
    equal : (n : ℤ) → int_eq n n ≡ true
    equal n = grind (arith, ints)

-- two functions that do the same at each of the numbers
pub same_at : (f h : ℕ → ℤ) (xs : List ℕ) (x : ℕ) → map f xs ≡ map h xs → is_among xs x ≡ true → f x ≡ h x
same_at f h [] x e m = cc
same_at f h (y ∷ xs) x e m = elim (or_cases (y == x) (is_among xs x) m) [
  | inl q ↦ subst (λ z. f z ≡ h z) (equal_numbers y x q) (front (f y) (h y) (map f xs) (map h xs) e)
  | inr n ↦ same_at f h xs x (rest (f y) (h y) (map f xs) (map h xs) e) n
]
  where
    equal_numbers : (j k : ℕ) → (j == k) ≡ true → j ≡ k
    equal_numbers j k e = grind (arith, nat_tests)

    front : (p q : ℤ) (ps qs : List ℤ) → p ∷ ps ≡ q ∷ qs → p ≡ q
    front p q ps qs e = cc

    rest : (p q : ℤ) (ps qs : List ℤ) → p ∷ ps ≡ q ∷ qs → ps ≡ qs
    rest p q ps qs e = cc
