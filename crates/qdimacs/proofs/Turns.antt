-- The variables of a block are given values one by one, or by one tuple.
use Rattle.std.proofs.Common.{◌≡◌, refl, sym, ap, ◌∙◌, subst, ℕ, Bool, true, false, cond, List, [], ◌∷◌, ◌++◌, map, length, inl, inr, ℤ, append_assoc, append-nil, length-append, arith}
use Rattle.std.specs.Prelude.{◌==◌, pos}
use Rattle.std.proofs.Math.Path.{fun_ext}
use Rattle.std.proofs.lemmas.Bool.{or_cases, or_left, or_right, and_parts, and_from, eqb-true}
use Rattle.qc_model.specs.declared.problem.Kind.{Kind}
use Rattle.qc_model.specs.declared.problem.Kind.TheVariants.{Exists, Forall}
use Rattle.qc_model.specs.Lists.{Among, LiesIn, Distinct}
use Rattle.qc_model.specs.Holds.{is_one}
use Rattle.qdimacs.specs.Formula.{Literal, Quantified, assign, by_kind, is_true_after}
use Rattle.qdimacs.proofs.Values.{bits, valued}

abbrev pub bit : Bool → ℤ
bit false = pos 0
bit true = pos 1

is_bit : (b : Bool) → b ≡ is_one (bit b)
is_bit false = refl
is_bit true = refl

-- y isn't both x and z where these differ
order_of_tests : (p q b w r s : Bool) → (p ≡ true → q ≡ true → ⊥) → cond p b r ≡ s → cond p b (cond q w r) ≡ cond q w s
order_of_tests true true b w r s n h = absurd (n refl refl)
order_of_tests true false b w r s n h = h
order_of_tests false true b w r s n h = refl
order_of_tests false false b w r s n h = h

-- one more value
more_at : (done : List ℕ) (x : ℕ) (after : List ℕ) (a : List ℤ) (b : Bool) → length a ≡ length done → ¬ Among x done → (y : ℕ) → assign x b (valued (done ++ x ∷ after) a) y ≡ valued (done ++ x ∷ after) (a ++ bit b ∷ []) y
more_at [] x after [] b e new y = ap (λ c. cond (y == x) c (valued (x ∷ after) [] y)) (is_bit b) ∙ none (y == x) after
  where
    none : (t : Bool) (after : List ℕ) → cond t (is_one (bit b)) false ≡ cond t (is_one (bit b)) (valued after [] y)
    none t [] = refl
    none t (z ∷ zs) = refl
more_at [] x after (v ∷ a) b e new y = absurd (omega arith)
more_at (z ∷ done) x after [] b e new y = absurd (omega arith)
more_at (z ∷ done) x after (v ∷ a) b e new y =
    order_of_tests (y == x) (y == z) b (is_one v) (valued (done ++ x ∷ after) a y) (valued (done ++ x ∷ after) (a ++ bit b ∷ []) y)
    (λ p q. new (inl (sym (eqb-true y x p) ∙ eqb-true y z q)))
    (more_at done x after a b (omega (arith, e)) (λ m. new (inr m)) y)

pub one_more : (done : List ℕ) (x : ℕ) (after : List ℕ) (a : List ℤ) (b : Bool) → length a ≡ length done → ¬ Among x done → assign x b (valued (done ++ x ∷ after) a) ≡ valued (done ++ x ∷ after) (a ++ bit b ∷ [])
one_more done x after a b e new = fun_ext (more_at done x after a b e new)

-- T holds with some value of each variable, or with all, one after the other
abbrev pub block_true : Kind → List ℕ → (List ℤ → Bool) → List ℤ → Bool
block_true k [] T a = T a
block_true k (x ∷ xs) T a = by_kind k (block_true k xs T (a ++ pos 0 ∷ [])) (block_true k xs T (a ++ pos 1 ∷ []))

-- the domains of so many variables
abbrev pub domains : List ℕ → List (List ℤ)
domains xs = map (λ x. bits) xs

-- T holds after some tuple, or after each
abbrev pub AfterTuple : Kind → List (List ℤ) → (List ℤ → Type 0) → Type 0
AfterTuple Exists ds W = (t : List ℤ) × LiesIn t ds × W t
AfterTuple Forall ds W = (t : List ℤ) → LiesIn t ds → W t

module _ (T : List ℤ → Bool) where
  to_some : (xs : List ℕ) (a : List ℤ) → block_true Exists xs T a ≡ true → (t : List ℤ) × LiesIn t (domains xs) × (T (a ++ t) ≡ true)
  to_some [] a h = ([], tt, ap T (append-nil a) ∙ h)
  to_some (x ∷ xs) a h =
      elim (or_cases (block_true Exists xs T (a ++ pos 0 ∷ [])) (block_true Exists xs T (a ++ pos 1 ∷ [])) h) [
        | inl p ↦ (let r = to_some xs (a ++ pos 0 ∷ []) p in (pos 0 ∷ r.0, (inl refl, r.1), ap T (sym (append_assoc a (pos 0 ∷ []) r.0)) ∙ r.2))
        | inr p ↦ (let r = to_some xs (a ++ pos 1 ∷ []) p in (pos 1 ∷ r.0, (inr (inl refl), r.1), ap T (sym (append_assoc a (pos 1 ∷ []) r.0)) ∙ r.2))
      ]

  from_some : (xs : List ℕ) (a t : List ℤ) → LiesIn t (domains xs) → T (a ++ t) ≡ true → block_true Exists xs T a ≡ true
  from_some [] a [] l h = ap T (sym (append-nil a)) ∙ h
  from_some [] a (v ∷ t) l h = absurd l
  from_some (x ∷ xs) a [] l h = absurd l
  from_some (x ∷ xs) a (v ∷ t) l h =
      let at = λ (w : ℤ) (e : v ≡ w). from_some xs (a ++ w ∷ []) t l.1 (ap T (append_assoc a (w ∷ []) t) ∙ sym (ap (λ (u : ℤ). T (a ++ u ∷ t)) e) ∙ h) in
      elim l.0 [
        | inl e ↦ or_left (block_true Exists xs T (a ++ pos 0 ∷ [])) (block_true Exists xs T (a ++ pos 1 ∷ [])) (at (pos 0) e)
        | inr m ↦ elim m [
          | inl e ↦ or_right (block_true Exists xs T (a ++ pos 0 ∷ [])) (block_true Exists xs T (a ++ pos 1 ∷ [])) (at (pos 1) e)
          | inr n ↦ absurd n
        ]
      ]

  to_each : (xs : List ℕ) (a : List ℤ) → block_true Forall xs T a ≡ true → (t : List ℤ) → LiesIn t (domains xs) → T (a ++ t) ≡ true
  to_each [] a h [] l = ap T (append-nil a) ∙ h
  to_each [] a h (v ∷ t) l = absurd l
  to_each (x ∷ xs) a h [] l = absurd l
  to_each (x ∷ xs) a h (v ∷ t) l =
      let p = and_parts (block_true Forall xs T (a ++ pos 0 ∷ [])) (block_true Forall xs T (a ++ pos 1 ∷ [])) h in
      elim l.0 [
        | inl e ↦ ap (λ (u : ℤ). T (a ++ u ∷ t)) e ∙ sym (ap T (append_assoc a (pos 0 ∷ []) t)) ∙ to_each xs (a ++ pos 0 ∷ []) p.0 t l.1
        | inr m ↦ elim m [
          | inl e ↦ ap (λ (u : ℤ). T (a ++ u ∷ t)) e ∙ sym (ap T (append_assoc a (pos 1 ∷ []) t)) ∙ to_each xs (a ++ pos 1 ∷ []) p.1 t l.1
          | inr n ↦ absurd n
        ]
      ]

  from_each : (xs : List ℕ) (a : List ℤ) → ((t : List ℤ) → LiesIn t (domains xs) → T (a ++ t) ≡ true) → block_true Forall xs T a ≡ true
  from_each [] a h = ap T (sym (append-nil a)) ∙ h [] tt
  from_each (x ∷ xs) a h =
      and_from (block_true Forall xs T (a ++ pos 0 ∷ [])) (block_true Forall xs T (a ++ pos 1 ∷ []))
      (from_each xs (a ++ pos 0 ∷ []) (λ t l. ap T (append_assoc a (pos 0 ∷ []) t) ∙ h (pos 0 ∷ t) (inl refl, l)))
      (from_each xs (a ++ pos 1 ∷ []) (λ t l. ap T (append_assoc a (pos 1 ∷ []) t) ∙ h (pos 1 ∷ t) (inr (inl refl), l)))

  pub to_tuple : (k : Kind) (xs : List ℕ) (a : List ℤ) → block_true k xs T a ≡ true → AfterTuple k (domains xs) (λ t. T (a ++ t) ≡ true)
  to_tuple Exists xs a h = to_some xs a h
  to_tuple Forall xs a h = to_each xs a h

  pub from_tuple : (k : Kind) (xs : List ℕ) (a : List ℤ) → AfterTuple k (domains xs) (λ t. T (a ++ t) ≡ true) → block_true k xs T a ≡ true
  from_tuple Exists xs a h = from_some xs a h.0 h.1 h.2
  from_tuple Forall xs a h = from_each xs a h

-- no item of a list without repeats stands before itself
pub not_before : (done : List ℕ) (x : ℕ) (after : List ℕ) → Distinct (done ++ x ∷ after) → ¬ Among x done
not_before [] x after d m = m
not_before (z ∷ done) x after d m = elim m [ inl e ↦ d.0 (subst (λ u. Among u (done ++ x ∷ after)) e (here done)) | inr n ↦ not_before done x after d.1 n ]
  where
    here : (ys : List ℕ) → Among x (ys ++ x ∷ after)
    here [] = inl refl
    here (y ∷ ys) = inr (here ys)

module _ (cs : List (List Literal)) (later : List Quantified) (all : List ℕ) (differ : Distinct all) where
  abbrev rest : Kind → List ℕ → List Quantified
  rest k xs = map (λ x. record { kind = k; variable = x }) xs ++ later

  -- with the variables in order, the formula's own way is that of the block
  pub block_is : (k : Kind) (done xs after : List ℕ) (a : List ℤ) → all ≡ done ++ (xs ++ after) → length a ≡ length done →
      is_true_after (map (λ x. record { kind = k; variable = x }) xs ++ later) cs (valued all a) ≡ block_true k xs (λ b. is_true_after later cs (valued all b)) a
  block_is k done [] after a e n = refl
  block_is k done (x ∷ xs) after a e n =
      ap (λ f. by_kind k (is_true_after (rest k xs) cs f) (is_true_after (rest k xs) cs (assign x true (valued all a)))) (step false)
      ∙ ap (λ f. by_kind k (is_true_after (rest k xs) cs (valued all (a ++ pos 0 ∷ []))) (is_true_after (rest k xs) cs f)) (step true)
      ∙ ap (λ b. by_kind k b (is_true_after (rest k xs) cs (valued all (a ++ pos 1 ∷ [])))) (next (pos 0) (block_is k (done ++ x ∷ []) xs after (a ++ pos 0 ∷ [])))
      ∙ ap (λ b. by_kind k (block_true k xs (λ b. is_true_after later cs (valued all b)) (a ++ pos 0 ∷ [])) b) (next (pos 1) (block_is k (done ++ x ∷ []) xs after (a ++ pos 1 ∷ [])))
    where
      step : (b : Bool) → assign x b (valued all a) ≡ valued all (a ++ bit b ∷ [])
      step b =
          subst (λ o. assign x b (valued o a) ≡ valued o (a ++ bit b ∷ [])) (sym e)
          (one_more done x (xs ++ after) a b n (not_before done x (xs ++ after) (subst Distinct e differ)))

      next : {A : Type 0} (v : ℤ) → (all ≡ (done ++ x ∷ []) ++ (xs ++ after) → length (a ++ v ∷ []) ≡ length (done ++ x ∷ []) → A) → A
      next v f = f (e ∙ sym (append_assoc done (x ∷ []) (xs ++ after))) (omega (arith, length-append {A = ℤ}, length-append {A = ℕ}, n))
