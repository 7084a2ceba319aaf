-- The lists of constraints by variables, as they grow.
use Rattle.std.proofs.Common.{◌≡◌, ℕ, zero, suc, ◌<◌, ◌≤◌, ◌+◌, Bool, true, ◌&&◌, ◌||◌, List, [], ◌∷◌, ◌++◌, length, length-append, take, set, get_or, refl, sym, ap, ◌∙◌, subst, arith, ◌⊎◌, inl, inr}
use Rattle.std.specs.Prelude.{nat_le, flat_map, slice_get, ◌==◌, false, Some, Result, Ok, Err, OnOk, OnErr}
use Rattle.std.specs.List.{list_all}
use Rattle.std.proofs.lemmas.Bool.Decides.{nat_tests}
use Rattle.std.proofs.lemmas.Option.{same_Some}
use Rattle.qc_model.specs.declared.problem.Arg.{Arg}
use Rattle.qc_model.specs.declared.problem.Argument.{Argument}
use Rattle.qc_model.specs.declared.problem.Argument.TheVariants.{Many}
use Rattle.std.proofs.lemmas.List.{take_all}
use Rattle.std.proofs.lemmas.List.Folds.{list_all-append, list_any-append}
use Rattle.std.proofs.lemmas.Bool.{or_left, or_right, and_from}
use Rattle.qc_model.specs.Arguments.{arg_variables, argument_variables, variables_of}
use Rattle.qc_model.specs.Content.{Rule, Game}
use Rattle.qc_model.specs.Valid.{IsValid, is_constraint, argument_sees, are_of_sorts, have_lengths}
use Rattle.qc_model.specs.Meaning.{meaning_of}
use Rattle.qc_model.specs.Signature.{arg_kinds_of}
use Rattle.qc_model.proofs.Readable.{first, second}
use Rattle.model_arguments.specs.Written.{args_at, items_of}
use Rattle.model_arguments.proofs.Bools.{clash}
use Rattle.prop_engine.specs.declared.watching.HeldBy.{HeldBy}
use Rattle.prop_engine.specs.declared.watching.Watch.{Watch}
use Rattle.prop_engine.specs.Watching.{Watches, watchers, is_watched, has_number, ascends, has_watch, HasGrown, AscendTo, IsHeld, IsRight, AreRight}
use Rattle.prop_engine.proofs.Rules.{of_all}

pub grown_more : (a b c : Watches) → HasGrown a b → HasGrown b c → HasGrown a c
grown_more a b c p q = record {
  count = q.count ∙ p.count;
  kept = λ k x h. q.kept k x (p.kept k x h);
}

pub all_weaker : {X : Type 0} (p q : X → Bool) (xs : List X) → ((x : X) → p x ≡ true → q x ≡ true) → list_all p xs ≡ true → list_all q xs ≡ true
all_weaker p q [] f h = refl
all_weaker p q (x ∷ xs) f h = and_from (q x) (list_all q xs) (f x (first (p x) (list_all p xs) h)) (all_weaker p q xs f (second (p x) (list_all p xs) h))

one_more : (i : ℕ) → i + 1 ≡ suc i
one_more i = omega arith

all_suc : {X : Type 0} (p : X → Bool) (xs : List X) (i : ℕ) (d : X) → i < length xs → list_all p (take i xs) ≡ true → p (get_or xs i d) ≡ true → list_all p (take (suc i) xs) ≡ true
all_suc p [] i d l h e = absurd (omega arith)
all_suc p (x ∷ xs) zero d l h e = and_from (p x) true e refl
all_suc p (x ∷ xs) (suc i) d l h e =
    and_from (p x) (list_all p (take (suc i) xs)) (first (p x) (list_all p (take i xs)) h) (all_suc p xs i d (omega arith) (second (p x) (list_all p (take i xs)) h) e)

all_more : {X : Type 0} (p : X → Bool) (xs : List X) (i : ℕ) (d : X) → i < length xs → list_all p (take i xs) ≡ true → p (get_or xs i d) ≡ true → list_all p (take (i + 1) xs) ≡ true
all_more p xs i d l h e = ap (λ n. list_all p (take n xs)) (one_more i) ∙ all_suc p xs i d l h e

-- one more of a list whose items name variables
pub watched_more : {X : Type 0} (f : X → List ℕ) (xs : List X) (i : ℕ) (d : X) (k : ℕ) (ws vs : Watches) → i < length xs → HasGrown ws vs →
    list_all (λ a. list_all (is_watched ws k) (f a)) (take i xs) ≡ true → list_all (is_watched vs k) (f (get_or xs i d)) ≡ true →
    list_all (λ a. list_all (is_watched vs k) (f a)) (take (i + 1) xs) ≡ true
watched_more f xs i d k ws vs l g h e =
    all_more (λ a. list_all (is_watched vs k) (f a)) xs i d l
    (all_weaker (λ a. list_all (is_watched ws k) (f a)) (λ a. list_all (is_watched vs k) (f a)) (take i xs) (λ a m. all_weaker (is_watched ws k) (is_watched vs k) (f a) (λ x n. g.kept k x n) m) h)
    e

-- each item passes where all do
pub item_passes : {X : Type 0} (p : X → Bool) (xs : List X) (i : ℕ) (d : X) → i < length xs → list_all p xs ≡ true → p (get_or xs i d) ≡ true
item_passes p [] i d l h = absurd (omega arith)
item_passes p (x ∷ xs) zero d l h = first (p x) (list_all p xs) h
item_passes p (x ∷ xs) (suc i) d l h = item_passes p xs i d (omega (arith, l)) (second (p x) (list_all p xs) h)

-- all pass where as many as there are do
pub all_passed : {X : Type 0} (p : X → Bool) (xs : List X) (i : ℕ) → length xs ≤ i → list_all p (take i xs) ≡ true → list_all p xs ≡ true
all_passed p xs i l h = ap (list_all p) (sym (take_all i xs l)) ∙ h

-- lists that stay as they are
pub grown_none : (a : Watches) → HasGrown a a
grown_none a = record { count = refl; kept = λ k x h. h }

pub all_flat : {X : Type 0} (p : ℕ → Bool) (f : X → List ℕ) (xs : List X) → list_all (λ a. list_all p (f a)) xs ≡ true → list_all p (flat_map f xs) ≡ true
all_flat p f [] h = refl
all_flat p f (x ∷ xs) h =
    list_all-append p (f x) (flat_map f xs)
    ∙ and_from (list_all p (f x)) (list_all p (flat_map f xs)) (first (list_all p (f x)) (list_all (λ a. list_all p (f a)) xs) h) (all_flat p f xs (second (list_all p (f x)) (list_all (λ a. list_all p (f a)) xs) h))

pub all_flat_ok : {X T E : Type 0} (r : Result T E) (p : ℕ → Bool) (f : X → List ℕ) (xs : List X) → OnOk r (list_all (λ a. list_all p (f a)) xs ≡ true) → OnOk r (list_all p (flat_map f xs) ≡ true)
all_flat_ok (Ok t) p f xs h = all_flat p f xs h
all_flat_ok (Err e) p f xs h = h

-- a constraint of a valid problem sees its variables
pub rule_sees : (g : Game) (k : ℕ) (c : Rule) → IsValid g → slice_get g.constraints k ≡ Some c → list_all (argument_sees g.variables c.owner.0) c.args ≡ true
rule_sees g k c v e =
    second (are_of_sorts g.variables (arg_kinds_of c.pred) c.args && have_lengths (meaning_of c.pred) c.args) (list_all (argument_sees g.variables c.owner.0) c.args) (of_all (is_constraint g.variables) g.constraints k c v.constraints e)

-- one more constraint
pub rules_more : (cs : List Rule) (n : ℕ) (c : Rule) (ws vs : Watches) → HasGrown ws vs → slice_get cs n ≡ Some c → list_all (λ a. list_all (is_watched vs n) (argument_variables a)) c.args ≡ true →
    ((k : ℕ) (r : Rule) → k < n → slice_get cs k ≡ Some r → list_all (is_watched ws k) (variables_of r.args) ≡ true) →
    (k : ℕ) (r : Rule) → k < n + 1 → slice_get cs k ≡ Some r → list_all (is_watched vs k) (variables_of r.args) ≡ true
rules_more cs n c ws vs g e h f k r l s =
    elim (lower k n l) [
      | inl m ↦ all_weaker (is_watched ws k) (is_watched vs k) (variables_of r.args) (λ x w. g.kept k x w) (f k r m s)
      | inr m ↦
          let same = same_Some c r (sym e ∙ (ap (slice_get cs) (sym m) ∙ s)) in
          subst (λ j. list_all (is_watched vs j) (variables_of r.args) ≡ true) (sym m) (subst (λ z. list_all (is_watched vs n) (variables_of z.args) ≡ true) same (all_flat (is_watched vs n) argument_variables c.args h))
    ]
  where
    lower : (k n : ℕ) → k < n + 1 → (k < n) ⊎ (k ≡ n)
    lower zero zero h = inr refl
    lower zero (suc n) h = inl (omega arith)
    lower (suc k) zero h = absurd (omega (arith, h))
    lower (suc k) (suc n) h = elim (lower k n (omega (arith, h))) [ inl m ↦ inl (omega (arith, m)) | inr m ↦ inr (ap suc m) ]

pub below_all : (cs : List Rule) (k : ℕ) (c : Rule) → slice_get cs k ≡ Some c → k < length cs
below_all [] k c h = cc
below_all (r ∷ cs) zero c h = omega arith
below_all (r ∷ cs) (suc k) c h = omega (arith, below_all cs k c h)

-- a watch more of x, in the list of x
get_last : {X : Type 0} (xs : List X) (i : ℕ) (w v : X) → slice_get (xs ++ w ∷ []) i ≡ Some v → (slice_get xs i ≡ Some v) ⊎ (w ≡ v)
get_last [] zero w v h = inr (same_Some w v h)
get_last [] (suc i) w v h = cc
get_last (x ∷ xs) zero w v h = inl h
get_last (x ∷ xs) (suc i) w v h = get_last xs i w v h

watchers_set : (ws : Watches) (x y : ℕ) (l : List Watch) → (watchers (set ws x l) y ≡ watchers ws y) ⊎ ((x ≡ y) × (watchers (set ws x l) y ≡ l))
watchers_set [] x y l = inl refl
watchers_set (v ∷ ws) zero zero l = inr (refl, refl)
watchers_set (v ∷ ws) zero (suc y) l = inl refl
watchers_set (v ∷ ws) (suc x) zero l = inl refl
watchers_set (v ∷ ws) (suc x) (suc y) l = elim (watchers_set ws x y l) [ inl e ↦ inl e | inr e ↦ inr (ap suc e.0, e.1) ]

pub right_pushed : (g : Game) (ws : Watches) (x : ℕ) (w : Watch) → IsRight g x w → AreRight g ws → AreRight g (set ws x (watchers ws x ++ w ∷ []))
right_pushed g ws x w r a y i v h =
    elim (watchers_set ws x y (watchers ws x ++ w ∷ [])) [
      | inl e ↦ a y i v (ap (λ l. slice_get l i) (sym e) ∙ h)
      | inr e ↦
          elim (get_last (watchers ws x) i w v (ap (λ l. slice_get l i) (sym e.1) ∙ h)) [
            | inl s ↦ subst (λ z. IsRight g z v) e.0 (a x i v s)
            | inr s ↦ subst (λ z. IsRight g z v) e.0 (subst (IsRight g x) s r)
          ]
    ]

right_same : (g : Game) (ws : Watches) (x : ℕ) → AreRight g ws → AreRight g (set ws x (watchers ws x))
right_same g ws x a y i v h =
    elim (watchers_set ws x y (watchers ws x)) [
      | inl e ↦ a y i v (ap (λ l. slice_get l i) (sym e) ∙ h)
      | inr e ↦ subst (λ z. IsRight g z v) e.0 (a x i v (ap (λ l. slice_get l i) (sym e.1) ∙ h))
    ]

-- the list of x, whatever stands for none
pub list_of : (ws : Watches) (x : ℕ) (l d : List Watch) → x < length ws → l ≡ get_or ws x d → l ≡ watchers ws x
list_of ws x l d b e = e ∙ same ws x b
  where
    same : (ws : Watches) (x : ℕ) → x < length ws → get_or ws x d ≡ watchers ws x
    same [] x b = absurd (omega arith)
    same (v ∷ ws) zero b = refl
    same (v ∷ ws) (suc x) b = same ws x (omega (arith, b))

pub right_after : {T E : Type 0} (r : Result T E) (g : Game) (ws : Watches) (x : ℕ) (w : Watch) (old new : List Watch) → OnOk r (new ≡ old ++ w ∷ []) → OnErr r (new ≡ old) → old ≡ watchers ws x → IsRight g x w → AreRight g ws →
    AreRight g (set ws x new)
right_after (Ok t) g ws x w old new o e s i a = subst (λ l. AreRight g (set ws x l)) (ap (λ l. l ++ w ∷ []) (sym s) ∙ sym o) (right_pushed g ws x w i a)
right_after (Err z) g ws x w old new o e s i a = subst (λ l. AreRight g (set ws x l)) (sym s ∙ sym e) (right_same g ws x a)

pub right_one : (g : Game) (k : ℕ) (c : Rule) (h : HeldBy) (x : ℕ) → slice_get g.constraints k ≡ Some c → IsHeld h c x → (r : Rule) → slice_get g.constraints k ≡ Some r → IsHeld h r x
right_one g k c h x e i r s = subst (λ z. IsHeld h z x) (same_Some c r (sym e ∙ s)) i

pub none_right : (g : Game) (ws : Watches) → ((x : ℕ) → watchers ws x ≡ []) → AreRight g ws
none_right g ws n x i w h = let e = ap (λ l. slice_get l i) (sym (n x)) ∙ h in cc

-- as many lists as before and one more
pub count_more : (ws : Watches) (n : ℕ) → length ws ≡ n → length (ws ++ [] ∷ []) ≡ n + 1
count_more ws n e = omega (arith, e, length-append ws ([] ∷ []))

pub none_more : (ws : Watches) → ((x : ℕ) → watchers ws x ≡ []) → (x : ℕ) → watchers (ws ++ [] ∷ []) x ≡ []
none_more [] n zero = refl
none_more [] n (suc x) = refl
none_more (v ∷ ws) n zero = n zero
none_more (v ∷ ws) n (suc x) = none_more ws (λ y. n (suc y)) x

-- a variable of an item is one of all
has_append : (xs ys : List ℕ) (x : ℕ) → has_number (xs ++ ys) x ≡ (has_number xs x || has_number ys x)
has_append xs ys x = list_any-append (λ y. y == x) xs ys

pub flat_has : (xs : List Arg) (i : ℕ) (d : Arg) (x : ℕ) → i < length xs → has_number (arg_variables (get_or xs i d)) x ≡ true → has_number (flat_map arg_variables xs) x ≡ true
flat_has [] i d x l h = absurd (omega arith)
flat_has (a ∷ xs) zero d x l h = has_append (arg_variables a) (flat_map arg_variables xs) x ∙ or_left (has_number (arg_variables a) x) (has_number (flat_map arg_variables xs) x) h
flat_has (a ∷ xs) (suc i) d x l h =
    has_append (arg_variables a) (flat_map arg_variables xs) x ∙ or_right (has_number (arg_variables a) x) (has_number (flat_map arg_variables xs) x) (flat_has xs i d x (omega (arith, l)) h)

pub own_number : (x : ℕ) → has_number (x ∷ []) x ≡ true
own_number x = or_left (x == x) false (same_number x)
  where
    same_number : (k : ℕ) → (k == k) ≡ true
    same_number k = grind (arith, nat_tests)

-- an array of a clause
pub array_at : (args : List Argument) (k : ℕ) (xs : List Arg) (x : ℕ) → slice_get args k ≡ Some (Many xs) → has_number (flat_map arg_variables xs) x ≡ true → has_number (flat_map arg_variables (args_at args k)) x ≡ true
array_at args k xs x e h = ap (λ o. has_number (flat_map arg_variables (items_of o)) x) e ∙ h

-- one more at the end of a list that ascends
all_last : {X : Type 0} (p : X → Bool) (xs : List X) (x : X) → list_all p xs ≡ true → p x ≡ true → list_all p (xs ++ x ∷ []) ≡ true
all_last p xs x h e = list_all-append p xs (x ∷ []) ∙ and_from (list_all p xs) (p x && true) h (and_from (p x) true e refl)

ascends_last : (ws : List Watch) (w : Watch) → list_all (λ v. nat_le v.c.0 w.c.0) ws ≡ true → ascends ws ≡ true → ascends (ws ++ w ∷ []) ≡ true
ascends_last [] w h a = refl
ascends_last (v ∷ ws) w h a =
    let later = list_all (λ u. nat_le v.c.0 u.c.0) in
    and_from (later (ws ++ w ∷ [])) (ascends (ws ++ w ∷ []))
    (all_last (λ u. nat_le v.c.0 u.c.0) ws w (first (later ws) (ascends ws) a) (first (nat_le v.c.0 w.c.0) (list_all (λ u. nat_le u.c.0 w.c.0) ws) h))
    (ascends_last ws w (second (nat_le v.c.0 w.c.0) (list_all (λ u. nat_le u.c.0 w.c.0) ws) h) (second (later ws) (ascends ws) a))

not_above : (k : ℕ) → nat_le k k ≡ true
not_above k = grind (arith, nat_tests)

ascend_list : (ws : Watches) (k x : ℕ) (l : List Watch) → list_all (λ w. nat_le w.c.0 k) l ≡ true → ascends l ≡ true → AscendTo k ws → AscendTo k (set ws x l)
ascend_list ws k x l m o a = record {
  most = λ y. elim (watchers_set ws x y l) [ inl e ↦ ap (list_all (λ w. nat_le w.c.0 k)) e ∙ a.most y | inr e ↦ ap (list_all (λ w. nat_le w.c.0 k)) e.1 ∙ m ];
  order = λ y. elim (watchers_set ws x y l) [ inl e ↦ ap ascends e ∙ a.order y | inr e ↦ ap ascends e.1 ∙ o ];
}

pub ascend_after : {T E : Type 0} (r : Result T E) (ws : Watches) (x : ℕ) (w : Watch) (old new : List Watch) → OnOk r (new ≡ old ++ w ∷ []) → OnErr r (new ≡ old) → old ≡ watchers ws x → AscendTo w.c.0 ws →
    AscendTo w.c.0 (set ws x new)
ascend_after (Ok t) ws x w old new o e s a =
    let added = ap (λ l. l ++ w ∷ []) (sym s) ∙ sym o in
    subst (λ l. AscendTo w.c.0 (set ws x l)) added
    (ascend_list ws w.c.0 x (watchers ws x ++ w ∷ []) (all_last (λ v. nat_le v.c.0 w.c.0) (watchers ws x) w (a.most x) (not_above w.c.0)) (ascends_last (watchers ws x) w (a.most x) (a.order x)) a)
ascend_after (Err z) ws x w old new o e s a =
    subst (λ l. AscendTo w.c.0 (set ws x l)) (sym s ∙ sym e) (ascend_list ws w.c.0 x (watchers ws x) (a.most x) (a.order x) a)

-- what ascends to k ascends to the next
pub ascend_next : (k : ℕ) (ws : Watches) → AscendTo k ws → AscendTo (k + 1) ws
ascend_next k ws a = record {
  most = λ x. all_weaker (λ w. nat_le w.c.0 k) (λ w. nat_le w.c.0 (k + 1)) (watchers ws x) (λ w h. above w.c.0 k h) (a.most x);
  order = a.order;
}
  where
    above : (j k : ℕ) → nat_le j k ≡ true → nat_le j (k + 1) ≡ true
    above j k h = grind (arith, nat_tests)

-- lists without a watch ascend
pub none_ascend : (k : ℕ) (ws : Watches) → ((x : ℕ) → watchers ws x ≡ []) → AscendTo k ws
none_ascend k ws n = record {
  most = λ x. ap (list_all (λ w. nat_le w.c.0 k)) (n x);
  order = λ x. ap ascends (n x);
}

-- below the number at a place, all stand before it
none_early : (ws : List Watch) (n k : ℕ) → list_all (λ v. nat_le n v.c.0) ws ≡ true → k < n → has_watch ws k ≡ false
none_early [] n k h l = refl
none_early (w ∷ ws) n k h l =
    neither (w.c.0 == k) (has_watch ws k) (other w.c.0 n k (first (nat_le n w.c.0) (list_all (λ v. nat_le n v.c.0) ws) h) l) (none_early ws n k (second (nat_le n w.c.0) (list_all (λ v. nat_le n v.c.0) ws) h) l)
  where
    other : (j n k : ℕ) → nat_le n j ≡ true → k < n → (j == k) ≡ false
    other j n k h l = grind (arith, nat_tests)

    neither : (a b : Bool) → a ≡ false → b ≡ false → (a || b) ≡ false
    neither a b p q = ap (λ z. z || b) p ∙ q

pub has_early : (ws : List Watch) (i k : ℕ) (d : Watch) → ascends ws ≡ true → i < length ws → k < (get_or ws i d).c.0 → has_watch ws k ≡ true → has_watch (take i ws) k ≡ true
has_early [] i k d a l b h = absurd (omega (arith, l))
has_early (w ∷ ws) zero k d a l b h = let n = apart w.c.0 k b in let e = none_early ws w.c.0 k (first (list_all (λ v. nat_le w.c.0 v.c.0) ws) (ascends ws) a) b in let t = ap (λ z. z || has_watch ws k) (sym n) ∙ h in absurd (clash (has_watch ws k) t e)
  where
    apart : (j k : ℕ) → k < j → (j == k) ≡ false
    apart j k l = grind (arith, nat_tests)
has_early (w ∷ ws) (suc i) k d a l b h =
    by (w.c.0 == k) (has_early ws i k d (second (list_all (λ v. nat_le w.c.0 v.c.0) ws) (ascends ws) a) (omega (arith, l)) b) h
  where
    by : (b : Bool) → (has_watch ws k ≡ true → has_watch (take i ws) k ≡ true) → (b || has_watch ws k) ≡ true → (b || has_watch (take i ws) k) ≡ true
    by true f h = refl
    by false f h = f h
