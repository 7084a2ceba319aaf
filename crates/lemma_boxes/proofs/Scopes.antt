-- Where the variables of a valid game stand, and the position of a lemma.
use Rattle.std.proofs.Common.{◌≡◌, ◌⊎◌, inl, inr, ℕ, zero, suc, ◌+◌, ◌≤◌, ◌<◌, Bool, true, false, ◌&&◌, List, [], ◌∷◌, length, map, refl, ap, ◌∙◌, arith, cond, Option, Some, None, slice_get}
use Rattle.std.specs.Prelude.{max, nat_le, nat_lt}
use Rattle.std.specs.List.{count_by}
use Rattle.std.proofs.lemmas.Bool.Decides.{nat_tests}
use Rattle.std.proofs.lemmas.Bool.{and_parts, cases_lt, and_from}
use Rattle.qc_model.specs.declared.problem.Kind.{Kind}
use Rattle.qc_model.specs.declared.problem.Variable.{Variable}
use Rattle.qc_model.specs.Content.{Game}
use Rattle.qc_model.specs.Lists.{Among}
use Rattle.qc_model.specs.Domains.{declared_box}
use Rattle.qc_model.specs.Game.{before, is_of_scope}
use Rattle.qc_model.specs.Counter.{opposite}
use Rattle.qc_model.specs.Valid.{IsValid, is_in_order}
use Rattle.qc_model.proofs.Before.{before-le}
use Rattle.model_table.proofs.Crowded.{count_step}
use Rattle.proof_meaning.proofs.FreeFront.{before_wider}
use Rattle.proof_meaning.proofs.Widths.{in_scope}
use Rattle.lemma_list.specs.declared.lemma.Literal.{Literal}
use Rattle.lemma_list.specs.Lemmas.{Lemma}
use Rattle.lemma_list.specs.Places.{is_kind, side_at, of_its_scope, is_chosen_from, is_chosen_before, after_scope, place_of, place, is_winners, is_answer}
use Rattle.lemma_boxes.proofs.Lists.{differ, get_among}

pub le_of : (x y : ℕ) → nat_le x y ≡ true → x ≤ y
le_of x y e = grind (arith, nat_tests)

pub lt_of : (x y : ℕ) → nat_lt x y ≡ true → x < y
lt_of x y e = grind (arith, nat_tests)

le_is : (x y : ℕ) → x ≤ y → nat_le x y ≡ true
le_is x y l = grind (arith, nat_tests)

lt_is : (x y : ℕ) → x < y → nat_lt x y ≡ true
lt_is x y l = grind (arith, nat_tests)

lt_not : (x y : ℕ) → y ≤ x → nat_lt x y ≡ false
lt_not x y l = grind (arith, nat_tests)

-- variables in the order of their scopes
abbrev owners : List Variable → List ℕ
owners xs = map (λ x. x.scope.0) xs

abbrev count_before : ℕ → List Variable → ℕ
count_before i xs = count_by (λ x. nat_lt x.scope.0 i) xs

order_rest : (n : ℕ) (x : Variable) (xs : List Variable) → is_in_order n (owners (x ∷ xs)) ≡ true → is_in_order n (owners xs) ≡ true
order_rest n x [] e = refl
order_rest n x (y ∷ xs) e = (and_parts (nat_le x.scope.0 y.scope.0) (is_in_order n (owners (y ∷ xs))) e).1

lowest : (n : ℕ) (x y : Variable) (xs : List Variable) → is_in_order n (owners (x ∷ xs)) ≡ true → Among y xs → x.scope.0 ≤ y.scope.0
lowest n x y [] e m = absurd m
lowest n x y (z ∷ xs) e m =
    let p = and_parts (nat_le x.scope.0 z.scope.0) (is_in_order n (owners (z ∷ xs))) e in
    let l = le_of x.scope.0 z.scope.0 p.0 in
    elim m [ inl q ↦ (let s : y.scope.0 ≡ z.scope.0 = ap (λ v. v.scope.0) q in omega arith) | inr t ↦ (let r = lowest n z y xs p.1 t in omega arith) ]

pub order_below : (n i : ℕ) (is : List ℕ) → is_in_order n is ≡ true → Among i is → i < n
order_below n i [] e m = absurd m
order_below n i (j ∷ []) e m = elim m [ inl q ↦ (let l = lt_of j n e in omega arith) | inr t ↦ absurd t ]
order_below n i (j ∷ h ∷ is) e m =
    let p = and_parts (nat_le j h) (is_in_order n (h ∷ is)) e in
    elim m [ inl q ↦ (let l = le_of j h p.0 in let r = order_below n h (h ∷ is) p.1 (inl refl) in omega arith) | inr t ↦ order_below n i (h ∷ is) p.1 t ]

pub among_map : {X : Type 0} (f : X → ℕ) (x : X) (xs : List X) → Among x xs → Among (f x) (map f xs)
among_map f x [] m = absurd m
among_map f x (y ∷ xs) m = elim m [ inl e ↦ inl (ap f e) | inr t ↦ inr (among_map f x xs t) ]

abbrev one_if : Bool → ℕ
one_if b = cond b 1 0

counted : (i : ℕ) (x : Variable) (xs : List Variable) → count_before i (x ∷ xs) ≡ one_if (nat_lt x.scope.0 i) + count_before i xs
counted i x xs = count_step (λ y. nat_lt y.scope.0 i) x xs

one_below : (x i : ℕ) → x < i → one_if (nat_lt x i) ≡ 1
one_below x i l = ap one_if (lt_is x i l)

none_above : (x i : ℕ) → i ≤ x → one_if (nat_lt x i) ≡ 0
none_above x i l = ap one_if (lt_not x i l)

one_at_most : (b : Bool) → one_if b ≤ 1
one_at_most true = omega arith
one_at_most false = omega arith

none_counted : (n i : ℕ) (x : Variable) (xs : List Variable) → is_in_order n (owners (x ∷ xs)) ≡ true → i ≤ x.scope.0 → count_before i (x ∷ xs) ≡ 0
none_counted n i x [] e l = omega (arith, counted i x [], none_above x.scope.0 i l)
none_counted n i x (y ∷ xs) e l =
    let p = and_parts (nat_le x.scope.0 y.scope.0) (is_in_order n (owners (y ∷ xs))) e in
    let up = le_of x.scope.0 y.scope.0 p.0 in
    omega (arith, counted i x (y ∷ xs), none_above x.scope.0 i l, none_counted n i y xs p.1 (omega arith))

some_same : (x y : Variable) → Some x ≡ Some y → x ≡ y
some_same x y e = cc

same_scope : (x y : Variable) → Some x ≡ Some y → x.scope.0 ≡ y.scope.0
same_scope x y e = ap (λ v. v.scope.0) (some_same x y e)

stands_below : (n i k : ℕ) (x : Variable) (xs : List Variable) → is_in_order n (owners xs) ≡ true → slice_get xs k ≡ Some x → x.scope.0 < i → k < count_before i xs
stands_below n i k x [] o e l = cc
stands_below n i zero x (y ∷ xs) o e l =
    let s = same_scope y x e in
    omega (arith, counted i y xs, one_below y.scope.0 i (omega arith))
stands_below n i (suc k) x (y ∷ xs) o e l =
    let low = lowest n y x xs o (get_among xs k x e) in
    omega (arith, counted i y xs, one_below y.scope.0 i (omega arith), stands_below n i k x xs (order_rest n y xs o) e l)

stands_above : (n i k : ℕ) (x : Variable) (xs : List Variable) → is_in_order n (owners xs) ≡ true → slice_get xs k ≡ Some x → i ≤ x.scope.0 → count_before i xs ≤ k
stands_above n i k x [] o e l = cc
stands_above n i zero x (y ∷ xs) o e l =
    let s = same_scope y x e in
    omega (arith, none_counted n i y xs o (omega arith))
stands_above n i (suc k) x (y ∷ xs) o e l = omega (arith, counted i y xs, one_at_most (nat_lt y.scope.0 i), stands_above n i k x xs (order_rest n y xs o) e l)

-- the variable that P holds of
pub record Its (p : ℕ → Bool) (o : Option Variable) : Type 0 where
  pub variable : Variable
  pub is : o ≡ Some variable
  pub holds : p variable.scope.0 ≡ true

its : (p : ℕ → Bool) (o : Option Variable) → of_its_scope p o ≡ true → Its p o
its p None e = absurd (differ e)
its p (Some v) e = record { variable = v; is = refl; holds = e }

-- the scope that chooses a variable
pub record Chosen (k : Kind) (g : Game) (i x : ℕ) : Type 0 where
  pub scope : ℕ
  pub side : is_kind k (side_at g scope) ≡ true
  pub from : i ≤ scope
  pub most : scope < length g.scopes
  pub of_scope : is_of_scope g scope x ≡ true

-- x is one of scope i, or of a later one
pub split_chosen : (k : Kind) (g : Game) (i x : ℕ) (j : ℕ) → is_kind k (side_at g j) ≡ true → i ≤ j → (i ≡ j) ⊎ (suc i ≤ j)
split_chosen k g i x j e l = grind arith

pub wider_before : (g : Game) (i j x : ℕ) → i ≤ j → is_chosen_before g i x ≡ true → is_chosen_before g j x ≡ true
wider_before g i j x l e = by (slice_get g.variables x) e
  where
    by : (o : Option Variable) → of_its_scope (λ s. nat_lt s i) o ≡ true → of_its_scope (λ s. nat_lt s j) o ≡ true
    by None e = e
    by (Some v) e = let h = lt_of v.scope.0 i e in lt_is v.scope.0 j (omega arith)

module _ (g : Game) (valid : IsValid g) where
  of_scope_is : (x : ℕ) (v : Variable) → slice_get g.variables x ≡ Some v → is_of_scope g v.scope.0 x ≡ true
  of_scope_is x v e =
      and_from (nat_le (before g v.scope.0) x) (nat_lt x (before g (suc v.scope.0)))
      (le_is (before g v.scope.0) x (stands_above (length g.scopes) v.scope.0 x v g.variables valid.variable_order e (omega arith)))
      (lt_is x (before g (suc v.scope.0)) (stands_below (length g.scopes) (suc v.scope.0) x v g.variables valid.variable_order e (omega arith)))

  scope_below : (x : ℕ) (v : Variable) → slice_get g.variables x ≡ Some v → v.scope.0 < length g.scopes
  scope_below x v e = order_below (length g.scopes) v.scope.0 (owners g.variables) valid.variable_order (among_map (λ y. y.scope.0) v g.variables (get_among g.variables x v e))

  pub chosen_below : (i x : ℕ) → is_chosen_before g i x ≡ true → x < before g i
  chosen_below i x e =
      let r = its (λ j. nat_lt j i) (slice_get g.variables x) e in
      stands_below (length g.scopes) i x r.variable g.variables valid.variable_order r.is (lt_of r.variable.scope.0 i r.holds)

  pub chosen_is : (k : Kind) (i x : ℕ) → is_chosen_from k g i x ≡ true → Chosen k g i x
  chosen_is k i x e =
      let r = its (λ j. is_kind k (side_at g j) && nat_le i j) (slice_get g.variables x) e in
      let p = and_parts (is_kind k (side_at g r.variable.scope.0)) (nat_le i r.variable.scope.0) r.holds in
      record {
        scope = r.variable.scope.0;
        side = p.0;
        from = le_of i r.variable.scope.0 p.1;
        most = scope_below x r.variable r.is;
        of_scope = of_scope_is x r.variable r.is;
      }

  pub chosen_cases : (k : Kind) (i x : ℕ) → is_chosen_from k g i x ≡ true → ((is_kind k (side_at g i) ≡ true) × (is_of_scope g i x ≡ true)) ⊎ (is_chosen_from k g (suc i) x ≡ true)
  chosen_cases k i x e =
      let r = its (λ j. is_kind k (side_at g j) && nat_le i j) (slice_get g.variables x) e in
      let p = and_parts (is_kind k (side_at g r.variable.scope.0)) (nat_le i r.variable.scope.0) r.holds in
      elim (split_chosen k g i x r.variable.scope.0 p.0 (le_of i r.variable.scope.0 p.1)) [
        | inl q ↦ inl (ap (λ j. is_kind k (side_at g j)) q ∙ p.0, ap (λ j. is_of_scope g j x) q ∙ of_scope_is x r.variable r.is)
        | inr l ↦ inr (
            ap (of_its_scope (λ j. is_kind k (side_at g j) && nat_le (suc i) j)) r.is
            ∙ and_from (is_kind k (side_at g r.variable.scope.0)) (nat_le (suc i) r.variable.scope.0) p.0 (le_is (suc i) r.variable.scope.0 l))
      ]

  -- a variable that is chosen from scope i on isn't one before, and is one of the game
  pub chosen_late : (k : Kind) (i x : ℕ) → is_chosen_from k g i x ≡ true → (before g i ≤ x) × (x < length (declared_box g))
  chosen_late k i x e =
      let c = chosen_is k i x e in
      let p = in_scope g c.scope x c.of_scope in
      let up = before_wider g i c.scope c.from in
      let most = before-le g (suc c.scope) in
      (omega arith, omega arith)

  -- the variable x stands before the scope that has an answer to it
  pub answer_after : (m : Lemma) (x y j : ℕ) → is_answer g m x y ≡ true → is_of_scope g j y ≡ true → x < before g j
  answer_after m x y j e s =
      let q = (and_parts (is_winners g m y) (of_its_scope (λ i. is_chosen_from (opposite m.loser) g (suc i) y) (slice_get g.variables x)) e).1 in
      let r = its (λ i. is_chosen_from (opposite m.loser) g (suc i) y) (slice_get g.variables x) q in
      let c = chosen_is (opposite m.loser) (suc r.variable.scope.0) y r.holds in
      let own = in_scope g r.variable.scope.0 x (of_scope_is x r.variable r.is) in
      let here = in_scope g c.scope y c.of_scope in
      let there = in_scope g j y s in
      let low = before_wider g (suc r.variable.scope.0) c.scope c.from in
      elim (cases_lt j c.scope) [
        | inl z ↦ (let up = before_wider g (suc j) c.scope z in absurd (omega arith))
        | inr z ↦ (let up = before_wider g c.scope j z in omega arith)
      ]

  place_most : (k : Kind) (ls : List Literal) → place_of g k ls ≤ length g.scopes
  place_most k [] = omega arith
  place_most k (l ∷ ls) = most (cond (is_chosen_from k g 0 l.x.0) (after_scope (slice_get g.variables l.x.0)) 0) (place_of g k ls) (length g.scopes) (one (is_chosen_from k g 0 l.x.0)) (place_most k ls)
    where
      most : (a b n : ℕ) → a ≤ n → b ≤ n → max a b ≤ n
      most a b n l h = grind arith

      after : (o : Option Variable) → slice_get g.variables l.x.0 ≡ o → after_scope o ≤ length g.scopes
      after None e = omega arith
      after (Some v) e = scope_below l.x.0 v e

      one : (b : Bool) → cond b (after_scope (slice_get g.variables l.x.0)) 0 ≤ length g.scopes
      one true = after (slice_get g.variables l.x.0) refl
      one false = omega arith

  pub starts : (m : Lemma) → place g m ≤ length g.scopes
  starts m = place_most m.loser m.literals
