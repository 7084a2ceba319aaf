-- Members of sets among the values of a variable.
use Rattle.std.proofs.Common.{◌≡◌, ℕ, zero, suc, ◌<◌, ◌≤◌, ◌+◌, ◌-◌, ◌⊎◌, inl, inr, Bool, true, false, not, ◌||◌, List, [], ◌∷◌, None, Some, length, get_or, set, refl, sym, ap, ◌∙◌, subst, arith, ℤ}
use Rattle.std.specs.Prelude.{pos, ◌<ℤ◌, ◌≤ℤ◌, int_lt, int_le}
use Rattle.std.specs.List.{list_any}
use Rattle.std.specs.Ordering.{int_eq}
use Rattle.std.proofs.lemmas.Int.{ints}
use Rattle.std.proofs.lemmas.Bool.Decides.{Decides-int_eq, nat_tests}
use Rattle.std.proofs.lemmas.Bool.{false_from_ne_true}
use Rattle.qc_model.specs.declared.problem.Arg.{Arg}
use Rattle.qc_model.specs.declared.problem.Arg.TheVariants.{Var}
use Rattle.qc_model.specs.declared.problem.VarId.{VarId}
use Rattle.qc_model.specs.declared.problem.Set.{Set}
use Rattle.qc_model.specs.declared.problem.Set.TheVariants.{Range as SetRange, Listed as SetListed}
use Rattle.qc_model.specs.Content.{Rule}
use Rattle.qc_model.specs.Domains.{Values, Box, values_left, values_within, is_within, has_value, set_has, is_ascending, least_value, greatest_value}
use Rattle.qc_model.specs.Refuted.{refuted_by, left_to}
use Rattle.model_arguments.proofs.Values.{value_passes, above_first, ascending_rest, has_first}
use Rattle.model_arguments.proofs.Bools.{clash}
use Rattle.qc_refuter.proofs.Domains.{some_left, small_left}
use Rattle.qc_refuter.proofs.Listed.{less_by, all_at, listed_at, same_most, less_most}
use Rattle.qc_refuter.proofs.Walks.{some_found}
use Rattle.fd_store.specs.Held.{values_from, values_up_to, least_of, greatest_of}
use Rattle.qc_refuter.specs.Met.{is_open}
use Rattle.qc_refuter.proofs.Commons.{from_some, from_none, up_to_some, up_to_none}
use Rattle.model_arguments.proofs.Kept.{through, low_end, high_end, passes, was_left, apart, at_least, at_most, same_end}
use Rattle.prop_compare.proofs.Sides.{set_to}
use Rattle.prop_element.specs.Hulls.{IsHull}
use Rattle.prop_element.specs.Members.{IsMembership, IsFirst, IsLast, NonePasses}

inside : (l h v : ℤ) → l ≤ℤ v → int_le v h ≡ true → is_within l h v ≡ true
inside l h v p q = grind (arith, ints)

inside_up : (l h v : ℤ) → int_le l v ≡ true → v ≤ℤ h → is_within l h v ≡ true
inside_up l h v p q = grind (arith, ints)

over : (v h : ℤ) → int_le v h ≡ false → h <ℤ v
over v h p = grind (arith, ints)

-- a range
pub range_first : (d : Values) (low high v : ℤ) → Some v ≡ least_of (values_from low d) → int_le v high ≡ true → IsFirst (set_has (SetRange low high)) d v
range_first d low high v h k =
    let p = from_some d low v h in
    record {
      there = p.there;
      passes = inside low high v p.up k;
      all = λ u l m. p.all u l (at_least low high u m);
    }

pub range_past : (d : Values) (low high v : ℤ) → Some v ≡ least_of (values_from low d) → int_le v high ≡ false → NonePasses (set_has (SetRange low high)) d
range_past d low high v h k u l m =
    let p = from_some d low v h in
    apart high v (over v high k) (through v u high (p.all u l (at_least low high u m)) (at_most low high u m))

pub range_none : (d : Values) (low high : ℤ) → None ≡ least_of (values_from low d) → NonePasses (set_has (SetRange low high)) d
range_none d low high h u l m = from_none d low u h l (at_least low high u m)

pub range_last : (d : Values) (low high v : ℤ) → Some v ≡ greatest_of (values_up_to high d) → int_le low v ≡ true → IsLast (set_has (SetRange low high)) d v
range_last d low high v h k =
    let p = up_to_some d high v h in
    record {
      there = p.there;
      passes = inside_up low high v k p.down;
      all = λ u l m. p.all u l (at_most low high u m);
    }

pub range_before : (d : Values) (low high v : ℤ) → Some v ≡ greatest_of (values_up_to high d) → int_le low v ≡ false → NonePasses (set_has (SetRange low high)) d
range_before d low high v h k u l m =
    let p = up_to_some d high v h in
    apart v low (over low v k) (through low u v (at_least low high u m) (p.all u l (at_most low high u m)))

pub range_none_back : (d : Values) (low high : ℤ) → None ≡ greatest_of (values_up_to high d) → NonePasses (set_has (SetRange low high)) d
range_none_back d low high h u l m = up_to_none d high u h l (at_most low high u m)

-- a number of the list that is left, and none before it or after it
pub left_none : (d : Values) (v : ℤ) → v <ℤ least_value d → has_value d v ≡ false
left_none d v h = false_from_ne_true (has_value d v) (λ k. apart v (least_value d) h (low_end d v k))

pub left_none_over : (d : Values) (v : ℤ) → greatest_value d <ℤ v → has_value d v ≡ false
left_none_over d v h = false_from_ne_true (has_value d v) (λ k. apart (greatest_value d) v h (high_end d v k))

-- u is one of the first or among the others
one_of : (u x : ℤ) (xs : List ℤ) → list_any (int_eq u) (x ∷ xs) ≡ true → (u ≡ x) ⊎ (list_any (int_eq u) xs ≡ true)
one_of u x xs h = by (int_eq u x) (Decides-int_eq u x).0 h
  where
    by : (b : Bool) → (b ≡ true → u ≡ x) → (b || list_any (int_eq u) xs) ≡ true → (u ≡ x) ⊎ (list_any (int_eq u) xs ≡ true)
    by true e h = inl (e refl)
    by false e h = inr h

pub none_listed : (d : Values) (ns : List ℤ) → ((j : ℕ) → j < length ns → has_value d (get_or ns j (pos 0)) ≡ false) → NonePasses (set_has (SetListed ns)) d
none_listed d [] f u l m = cc
none_listed d (n ∷ ns) f u l m = by (one_of u n ns m) (λ k. none_listed d ns (λ j h. f (suc j) (omega arith)) u l k)
  where
    by : (u ≡ n) ⊎ (list_any (int_eq u) ns ≡ true) → (list_any (int_eq u) ns ≡ true → ⊥) → ⊥
    by (inl e) g = clash (has_value d u) l (subst (λ z. has_value d z ≡ false) (sym e) (f 0 (omega arith)))
    by (inr k) g = g k

-- none before those that are left, and none after
first_least : (d : Values) (ns : List ℤ) (k : ℕ) → is_ascending ns ≡ true → k < length ns → ((j : ℕ) → j < k → has_value d (get_or ns j (pos 0)) ≡ false) → (u : ℤ) → has_value d u ≡ true → list_any (int_eq u) ns ≡ true → get_or ns k (pos 0) ≤ℤ u
first_least d [] k a h f u l m = cc
first_least d (n ∷ ns) zero a h f u l m = by (one_of u n ns m)
  where
    by : (u ≡ n) ⊎ (list_any (int_eq u) ns ≡ true) → n ≤ℤ u
    by (inl e) = subst (λ z. n ≤ℤ z) (sym e) (same_most n)
    by (inr k) = less_most n u (less_by n u (value_passes (int_lt n) ns u (above_first n ns a) k))
first_least d (n ∷ ns) (suc k) a h f u l m = by (one_of u n ns m) (λ i. first_least d ns k (ascending_rest n ns a) (omega arith) (λ j g. f (suc j) (omega arith)) u l i)
  where
    by : (u ≡ n) ⊎ (list_any (int_eq u) ns ≡ true) → (list_any (int_eq u) ns ≡ true → get_or ns k (pos 0) ≤ℤ u) → get_or ns k (pos 0) ≤ℤ u
    by (inl e) g = absurd (clash (has_value d u) l (subst (λ z. has_value d z ≡ false) (sym e) (f 0 (omega arith))))
    by (inr i) g = g i

last_greatest : (d : Values) (ns : List ℤ) (k : ℕ) → is_ascending ns ≡ true → k < length ns → ((j : ℕ) → k < j → j < length ns → has_value d (get_or ns j (pos 0)) ≡ false) → (u : ℤ) → has_value d u ≡ true → list_any (int_eq u) ns ≡ true → u ≤ℤ get_or ns k (pos 0)
last_greatest d [] k a h f u l m = cc
last_greatest d (n ∷ ns) zero a h f u l m = by (one_of u n ns m)
  where
    by : (u ≡ n) ⊎ (list_any (int_eq u) ns ≡ true) → u ≤ℤ n
    by (inl e) = subst (λ z. z ≤ℤ n) (sym e) (same_most n)
    by (inr k) = absurd (none_listed d ns (λ j g. f (suc j) (omega arith) (omega arith)) u l k)
last_greatest d (n ∷ ns) (suc k) a h f u l m = by (one_of u n ns m) (λ i. last_greatest d ns k (ascending_rest n ns a) (omega arith) (λ j g q. f (suc j) (omega arith) (omega arith)) u l i)
  where
    by : (u ≡ n) ⊎ (list_any (int_eq u) ns ≡ true) → (list_any (int_eq u) ns ≡ true → u ≤ℤ get_or ns k (pos 0)) → u ≤ℤ get_or ns k (pos 0)
    by (inl e) g = subst (λ z. z ≤ℤ get_or ns k (pos 0)) (sym e) (less_most n (get_or ns k (pos 0)) (less_by n (get_or ns k (pos 0)) (all_at (int_lt n) ns k (pos 0) (above_first n ns a) (omega arith))))
    by (inr i) g = g i

pub listed_first : (d : Values) (ns : List ℤ) (k : ℕ) → is_ascending ns ≡ true → k < length ns → ((j : ℕ) → j < k → has_value d (get_or ns j (pos 0)) ≡ false) → has_value d (get_or ns k (pos 0)) ≡ true → IsFirst (set_has (SetListed ns)) d (get_or ns k (pos 0))
listed_first d ns k a h f t = record {
  there = t;
  passes = listed_at ns k h;
  all = first_least d ns k a h f;
}

pub listed_last : (d : Values) (ns : List ℤ) (k : ℕ) → is_ascending ns ≡ true → k < length ns → ((j : ℕ) → k < j → j < length ns → has_value d (get_or ns j (pos 0)) ≡ false) → has_value d (get_or ns k (pos 0)) ≡ true → IsLast (set_has (SetListed ns)) d (get_or ns k (pos 0))
listed_last d ns k a h f t = record {
  there = t;
  passes = listed_at ns k h;
  all = last_greatest d ns k a h f;
}

-- one place more, before or after
pub one_more : (f : ℕ → Bool) (k : ℕ) → ((j : ℕ) → j < k → f j ≡ false) → f k ≡ false → (j : ℕ) → j < k + 1 → f j ≡ false
one_more f k g h j l = by (order j k l)
  where
    order : (j k : ℕ) → j < k + 1 → (j < k) ⊎ (j ≡ k)
    order j k l = grind (arith, nat_tests)

    by : (j < k) ⊎ (j ≡ k) → f j ≡ false
    by (inl m) = g j m
    by (inr e) = subst (λ z. f z ≡ false) (sym e) h

pub one_before : (f : ℕ → Bool) (k n : ℕ) → ((j : ℕ) → k ≤ j → j < n → f j ≡ false) → f (k - 1) ≡ false → (j : ℕ) → k - 1 ≤ j → j < n → f j ≡ false
one_before f k n g h j l m = by (order j k l)
  where
    order : (j k : ℕ) → k - 1 ≤ j → (k ≤ j) ⊎ (j ≡ k - 1)
    order j k l = grind (arith, nat_tests)

    by : (k ≤ j) ⊎ (j ≡ k - 1) → f j ≡ false
    by (inl o) = g j o m
    by (inr e) = subst (λ z. f z ≡ false) (sym e) h

-- what the constraint refutes
pub any_none : (p : ℤ → Bool) (us : Values) → NonePasses p us → not (list_any p us) ≡ true
any_none p [] f = refl
any_none p (u ∷ us) f = by (p u) (f u (has_first u us)) (any_none p us (λ w h. f w (later (int_eq w u) (has_value us w) h)))
  where
    later : (a b : Bool) → b ≡ true → (a || b) ≡ true
    later true b e = refl
    later false b e = e

    by : (b : Bool) → (b ≡ true → ⊥) → not (list_any p us) ≡ true → not (b || list_any p us) ≡ true
    by true g h = absurd (g refl)
    by false g h = h

pub any_some : (p : ℤ → Bool) (us : Values) (v : ℤ) → has_value us v ≡ true → p v ≡ true → not (list_any p us) ≡ false
any_some p us v h k = ap not (sym (some_found p us v h k))

-- a constraint that says of the values of x no more than that some passes
pub passing_hull : (c : Rule) (box : Box) (x : VarId) (p : ℤ → Bool) (low high : ℤ) → is_open box (Var x) ≡ true → ((us : Values) → refuted_by c (set box x.0 us) ≡ not (list_any p us)) → IsFirst p (values_left box x.0) low → IsLast p (values_left box x.0) high →
    IsHull c box x.0 low high
passing_hull c box x p low high o m f l =
    let d = values_left box x.0 in
    record {
      small_low = small_left d low o f.there;
      small_high = small_left d high o l.there;
      below = λ i j k e. m (values_within i j d) ∙ any_none p (values_within i j d)
          (λ u t g. apart j low e (through low u j (f.all u (was_left (is_within i j) d u t) g) (at_most i j u (passes (is_within i j) d u t))));
      above = λ i j k e. m (values_within i j d) ∙ any_none p (values_within i j d)
          (λ u t g. apart high i e (through i u high (at_least i j u (passes (is_within i j) d u t)) (l.all u (was_left (is_within i j) d u t) g)));
      first = λ e _.
          let q = same_end low (least_value d) e (low_end d low f.there) in
          one (least_value d) (subst (λ z. p z ≡ true) q f.passes);
      last = λ _ e.
          let q = same_end high (greatest_value d) (high_end d high l.there) e in
          one (greatest_value d) (subst (λ z. p z ≡ true) q l.passes);
    }
  where
    one : (v : ℤ) → p v ≡ true → refuted_by c (set box x.0 (v ∷ [])) ≡ false
    one v h = m (v ∷ []) ∙ any_some p (v ∷ []) v (has_first v []) h

pub none_refuted : (c : Rule) (box : Box) (a : Arg) (s : Set) → IsMembership c a s → NonePasses (set_has s) (left_to box a) → refuted_by c box ≡ true
none_refuted c box a s m f = m.refuted box ∙ any_none (set_has s) (left_to box a) f

pub members_hull : (c : Rule) (box : Box) (x : VarId) (s : Set) (low high : ℤ) → is_open box (Var x) ≡ true → IsMembership c (Var x) s → IsFirst (set_has s) (values_left box x.0) low → IsLast (set_has s) (values_left box x.0) high → IsHull c box x.0 low high
members_hull c box x s low high o m f l =
    passing_hull c box x (set_has s) low high o
    (λ us. m.refuted (set box x.0 us) ∙ ap (λ z. not (list_any (set_has s) z)) (set_to box x us (some_left (values_left box x.0) o)))
    f l
