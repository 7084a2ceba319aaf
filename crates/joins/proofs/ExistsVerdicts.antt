-- The verdict by what an existential join keeps is that of the leaves.
use Rattle.std.proofs.Common.{◌≡◌, ◌⊎◌, inl, inr, Bool, true, false, not, ◌&&◌, ◌||◌, cond, Option, Some, None, List, [], ◌∷◌, ◌++◌, map, length, refl, sym, ap, ◌∙◌, subst, arith}
use Rattle.std.specs.Prelude.{ℤ, is_none, int_lt}
use Rattle.std.specs.List.{list_all}
use Rattle.std.specs.Ordering.{int_eq}
use Rattle.std.proofs.lemmas.Int.{ints}
use Rattle.std.proofs.lemmas.Bool.Decides.{Decides-int_eq}
use Rattle.std.proofs.lemmas.Bool.{or_left, false_from_ne_true}
use Rattle.qc_model.specs.declared.problem.Sense.{Sense}
use Rattle.qc_model.specs.declared.problem.Sense.TheVariants.{Min, Max}
use Rattle.qc_model.specs.declared.problem.Condition.{Condition}
use Rattle.qc_model.specs.Optimal.{is_better}
use Rattle.qc_model.specs.Demands.{is_better_vector}
use Rattle.qc_model.specs.Verdict.{Verdict, lost, exact, at_most, unknown, Seen, is_lost, is_exact, each_node, exact_vectors, bounds, is_none_of, first_value}
use Rattle.qc_model.specs.ExistsVerdict.{best_from, best_vector, best_number_from, best_number, without_own, beats, some_open, exists_verdict, exists_own}
use Rattle.joins.specs.Bests.{best_bound, AllLong, better_of, beats_bound, best_known, is_settled, bounded, unsettled, verdict_by, own_by}
use Rattle.joins.specs.ExistsJoin.{Keeps}
use Rattle.joins.proofs.Compared.{better_assoc}
use Rattle.joins.proofs.Bests.{some_exact_is, append_nothing, and_true}

and_implies : (p q : Bool) → (p ≡ true → q ≡ true) → (p && q) ≡ p
and_implies true q f = f refl
and_implies false q f = refl

and_implied : (p q : Bool) → (q ≡ true → p ≡ true) → (p && q) ≡ q
and_implied true q f = refl
and_implied false true f = f refl
and_implied false false f = refl

and_assoc : (a b c : Bool) → (a && (b && c)) ≡ ((a && b) && c)
and_assoc true b c = refl
and_assoc false b c = refl

either : (a e b : Bool) → (a || (e && b)) ≡ true → (a ≡ true) ⊎ ((e ≡ true) × (b ≡ true))
either true e b h = inl refl
either false true b h = inr (refl, h)
either false false b h = cc

or_right : (a e b : Bool) → e ≡ true → b ≡ true → (a || (e && b)) ≡ true
or_right true e b h k = refl
or_right false true b h k = k
or_right false false b h k = cc

-- what beats a number beats one that is no better
better_than_worse : (s : Sense) (n m k : ℤ) → is_better s k m ≡ false → is_better s n m ≡ true → is_better s n k ≡ true
better_than_worse Min n m k f h = grind (arith, ints)
better_than_worse Max n m k f h = grind (arith, ints)

tie_or_better : (s : Sense) (m k : ℤ) → is_better s k m ≡ false → (is_better s m k ≡ true) ⊎ (m ≡ k)
tie_or_better Min m k f = by (int_lt m k) refl
  where
    by : (b : Bool) → int_lt m k ≡ b → (int_lt m k ≡ true) ⊎ (m ≡ k)
    by true e = inl e
    by false e = inr (omega (arith, ints))
tie_or_better Max m k f = by (int_lt k m) refl
  where
    by : (b : Bool) → int_lt k m ≡ b → (int_lt k m ≡ true) ⊎ (m ≡ k)
    by true e = inl e
    by false e = inr (omega (arith, ints))

beats_worse : (s : Sense) (a : Bool) (n m k : ℤ) → is_better s k m ≡ false → beats s a n m ≡ true → beats s a n k ≡ true
beats_worse s a n m k f h = elim (either (is_better s n m) a (int_eq n m) h) [
  | inl p ↦ or_left (is_better s n k) (a && int_eq n k) (better_than_worse s n m k f p)
  | inr q ↦ (let e : n ≡ m = (Decides-int_eq n m).0 q.1 in elim (tie_or_better s m k f) [
    | inl p ↦ or_left (is_better s n k) (a && int_eq n k) (subst (λ z. is_better s z k ≡ true) (sym e) p)
    | inr t ↦ or_right (is_better s n k) a (int_eq n k) q.0 ((Decides-int_eq n k).1 (e ∙ t))
  ])
]

turned : (s : Sense) (x y : ℤ) → is_better s x y ≡ true → is_better s y x ≡ false
turned Min x y h = false_from_ne_true (int_lt y x) (λ e. omega (arith, ints))
turned Max x y h = false_from_ne_true (int_lt x y) (λ e. omega (arith, ints))

two_as_one : (s : Sense) (a : Bool) (n m k : ℤ) → (beats s a n m && beats s a n k) ≡ beats s a n (better_of s m k)
two_as_one s a n m k = by (is_better s k m) refl
  where
    by : (b : Bool) → is_better s k m ≡ b → (beats s a n m && beats s a n k) ≡ beats s a n (cond b k m)
    by true e = and_implied (beats s a n m) (beats s a n k) (beats_worse s a n k m (turned s k m e))
    by false e = and_implies (beats s a n m) (beats s a n k) (beats_worse s a n m k e)

-- a number that beats the best of the bounds beats each of them
beats_each : (s : Sense) (a : Bool) (n m : ℤ) (ms : List ℤ) → list_all (beats s a n) (m ∷ ms) ≡ beats s a n (best_number_from s m ms)
beats_each s a n m [] = sym (and_true (beats s a n m))
beats_each s a n m (k ∷ ms) =
    and_assoc (beats s a n m) (beats s a n k) (list_all (beats s a n) ms)
    ∙ ap (λ b. b && list_all (beats s a n) ms) (two_as_one s a n m k)
    ∙ beats_each s a n (better_of s m k) ms

number_from_better : (s : Sense) (n m : ℤ) (ms : List ℤ) → best_number_from s (better_of s n m) ms ≡ better_of s n (best_number_from s m ms)
number_from_better s n m [] = refl
number_from_better s n m (k ∷ ms) = ap (λ z. best_number_from s z ms) (better_assoc s n m k) ∙ number_from_better s n (better_of s m k) ms

number_join : (s : Sense) (n : ℤ) (xs : List ℤ) (m : ℤ) (ms : List ℤ) → best_number_from s n (xs ++ m ∷ ms) ≡ better_of s (best_number_from s n xs) (best_number_from s m ms)
number_join s n [] m ms = number_from_better s n m ms
number_join s n (x ∷ xs) m ms = number_join s (better_of s n x) xs m ms

-- the first value of the best vector is the best first value
first_choice : (b e r : Bool) (x y : ℤ) (xs ys : List ℤ) → (e ≡ true → y ≡ x) → first_value (cond (b || (e && r)) (y ∷ ys) (x ∷ xs)) ≡ cond b y x
first_choice true e r x y xs ys f = refl
first_choice false true true x y xs ys f = f refl
first_choice false true false x y xs ys f = refl
first_choice false false r x y xs ys f = refl

choice_long : (d : List Condition) (b : Bool) (u w : List ℤ) → length u ≡ length d → length w ≡ length d → length (cond b w u) ≡ length d
choice_long d true u w l k = k
choice_long d false u w l k = l

first_of_two : (c : Condition) (d : List Condition) (u w : List ℤ) → length u ≡ length (c ∷ d) → length w ≡ length (c ∷ d) → first_value (cond (is_better_vector (c ∷ d) w u) w u) ≡ better_of c.sense (first_value u) (first_value w)
first_of_two c d [] w l k = absurd (omega (arith, l))
first_of_two c d (x ∷ u) [] l k = absurd (omega (arith, k))
first_of_two c d (x ∷ u) (y ∷ w) l k = first_choice (is_better c.sense y x) (int_eq y x) (is_better_vector d w u) x y u w (λ e. (Decides-int_eq y x).0 e)

pub first_of_best : (c : Condition) (d : List Condition) (u : List ℤ) (vs : List (List ℤ)) → length u ≡ length (c ∷ d) → AllLong (c ∷ d) vs → first_value (best_from (c ∷ d) u vs) ≡ best_number_from c.sense (first_value u) (map first_value vs)
first_of_best c d u [] l ls = refl
first_of_best c d u (w ∷ vs) l ls =
    first_of_best c d (cond (is_better_vector (c ∷ d) w u) w u) vs (choice_long (c ∷ d) (is_better_vector (c ∷ d) w u) u w l ls.0) ls.1
    ∙ ap (λ z. best_number_from c.sense z (map first_value vs)) (first_of_two c d u w l ls.0)

known_is : (c : Condition) (d : List Condition) (vs : List (List ℤ)) (ms : List ℤ) → AllLong (c ∷ d) vs →
    best_known c.sense (not (is_none_of vs)) (first_value (best_vector (c ∷ d) vs)) (best_bound (c ∷ d) ms) ≡ best_number c.sense (map first_value vs ++ ms)
known_is c d [] [] ls = refl
known_is c d [] (m ∷ ms) ls = refl
known_is c d (v ∷ vs) [] ls = first_of_best c d v vs ls.0 ls.1 ∙ ap (best_number_from c.sense (first_value v)) (sym (append_nothing (map first_value vs)))
known_is c d (v ∷ vs) (m ∷ ms) ls =
    ap (λ z. better_of c.sense z (best_number_from c.sense m ms)) (first_of_best c d v vs ls.0 ls.1)
    ∙ sym (number_join c.sense (first_value v) (map first_value vs) m ms)

beats_is : (c : Condition) (d : List Condition) (a : Bool) (n : ℤ) (ms : List ℤ) → beats_bound c.sense a n (best_bound (c ∷ d) ms) ≡ list_all (beats c.sense a n) ms
beats_is c d a n [] = refl
beats_is c d a n (m ∷ ms) = sym (beats_each c.sense a n m ms)

none_is : (c : Condition) (d : List Condition) (ms : List ℤ) → is_none (best_bound (c ∷ d) ms) ≡ is_none_of ms
none_is c d [] = refl
none_is c d (m ∷ ms) = refl

shuffle : (a o e : Bool) (x y : Verdict) → cond (not a && (not o && e)) x (cond a lost (cond o unknown y)) ≡ cond a lost (cond o unknown (cond e x y))
shuffle true o e x y = refl
shuffle false true e x y = refl
shuffle false false true x y = refl
shuffle false false false x y = refl

best_nothing : (v : List ℤ) (vs : List (List ℤ)) → best_from [] v vs ≡ v
best_nothing v [] = refl
best_nothing v (w ∷ vs) = best_nothing v vs

no_length : (v : List ℤ) → length v ≡ 0 → v ≡ []
no_length [] e = refl
no_length (x ∷ v) e = absurd (omega (arith, e))

plain_best : (vs : List (List ℤ)) → AllLong [] vs → best_vector [] vs ≡ []
plain_best [] ls = refl
plain_best (v ∷ vs) ls = best_nothing v vs ∙ no_length v ls.0

own_of_nothing : (own : Option Condition) → without_own own [] ≡ []
own_of_nothing None = refl
own_of_nothing (Some c) = refl

-- the verdict by what is kept of the leaves, with each part in its place
verdict_kept : (own : Option Condition) (d : List Condition) (l o h : Bool) (v : List ℤ) (b : Option ℤ) (xs : List Seen) → Keeps d l o h v b xs →
    verdict_by own d l o h v b ≡ verdict_by own d (each_node is_lost xs) (some_open xs) (not (is_none_of (exact_vectors xs))) (best_vector d (exact_vectors xs)) (best_bound d (bounds xs))
verdict_kept own d l o h v b xs k =
    ap (λ (z : Bool). verdict_by own d z o h v b) k.all_lost_is
    ∙ ap (λ (z : Bool). verdict_by own d (each_node is_lost xs) z h v b) k.is_open_is
    ∙ ap (λ (z : Bool). verdict_by own d (each_node is_lost xs) (some_open xs) z v b) (k.has_exact_is ∙ some_exact_is xs)
    ∙ ap (λ (z : List ℤ). verdict_by own d (each_node is_lost xs) (some_open xs) (not (is_none_of (exact_vectors xs))) z b) k.best_is
    ∙ ap (λ (z : Option ℤ). verdict_by own d (each_node is_lost xs) (some_open xs) (not (is_none_of (exact_vectors xs))) (best_vector d (exact_vectors xs)) z) k.bound_is

whole : (own : Option Condition) (d : List Condition) (xs : List Seen) → AllLong d (exact_vectors xs) →
    verdict_by own d (each_node is_lost xs) (some_open xs) (not (is_none_of (exact_vectors xs))) (best_vector d (exact_vectors xs)) (best_bound d (bounds xs)) ≡ exists_verdict own d xs
whole own [] xs ls =
    ap (λ (z : List ℤ). cond (not (is_none_of (exact_vectors xs))) (exact (without_own own z)) (cond (each_node is_lost xs) lost unknown)) (plain_best (exact_vectors xs) ls)
    ∙ ap (λ (z : List ℤ). cond (not (is_none_of (exact_vectors xs))) (exact z) (cond (each_node is_lost xs) lost unknown)) (own_of_nothing own)
    ∙ ap (λ (z : Bool). cond z (exact []) (cond (each_node is_lost xs) lost unknown)) (sym (some_exact_is xs))
whole own (c ∷ d) xs ls =
    let vs = exact_vectors xs in
    let ms = bounds xs in
    let v = best_vector (c ∷ d) vs in
    let l = each_node is_lost xs in
    let o = some_open xs in
    let h = not (is_none_of vs) in
    let b = best_bound (c ∷ d) ms in
    let n = first_value v in
    let x : Verdict = exact (without_own own v) in
    let f : Verdict = cond (is_none own) (at_most (best_known c.sense h n b)) unknown in
    shuffle (l && is_none b) o (h && beats_bound c.sense (is_none_of d) n b) x f
    ∙ ap (λ (z : Bool). cond (l && z) lost (cond o unknown (cond (h && beats_bound c.sense (is_none_of d) n b) x f))) (none_is c d ms)
    ∙ ap (λ (z : Bool). cond (l && is_none_of ms) lost (cond o unknown (cond (h && z) x f))) (beats_is c d (is_none_of d) n ms)
    ∙ ap (λ (z : ℤ). cond (l && is_none_of ms) lost (cond o unknown (cond (h && list_all (beats c.sense (is_none_of d) n) ms) x (cond (is_none own) (at_most z) unknown)))) (known_is c d vs ms ls)

pub verdict_is : (own : Option Condition) (d : List Condition) (l o h : Bool) (v : List ℤ) (b : Option ℤ) (xs : List Seen) → Keeps d l o h v b xs →
    verdict_by own d l o h v b ≡ exists_verdict own d xs
verdict_is own d l o h v b xs k = verdict_kept own d l o h v b xs k ∙ whole own d xs k.long

-- exact is what is settled
bounded_not_exact : (own : Option Condition) (s : Sense) (l o h : Bool) (v : List ℤ) (b : Option ℤ) → is_exact (bounded own s l o h v b) ≡ false
bounded_not_exact own s l o h v b = by (l && is_none b) o (is_none own)
  where
    by : (p q r : Bool) → is_exact (cond p lost (cond q unknown (cond r (at_most (best_known s h (first_value v) b)) unknown))) ≡ false
    by true q r = refl
    by false true r = refl
    by false false true = refl
    by false false false = refl

not_exact : (own : Option Condition) (d : List Condition) (l o h : Bool) (v : List ℤ) (b : Option ℤ) → is_exact (unsettled own d l o h v b) ≡ false
not_exact own [] true o h v b = refl
not_exact own [] false o h v b = refl
not_exact own (c ∷ d) l o h v b = bounded_not_exact own c.sense l o h v b

settled_is : (own : Option Condition) (d : List Condition) (l o h : Bool) (v : List ℤ) (b : Option ℤ) → is_exact (verdict_by own d l o h v b) ≡ is_settled d l o h v b
settled_is own d l o h v b = by (is_settled d l o h v b)
  where
    by : (p : Bool) → is_exact (cond p (exact (without_own own v)) (unsettled own d l o h v b)) ≡ p
    by true = refl
    by false = not_exact own d l o h v b

pub own_is : (own : Option Condition) (d : List Condition) (l o h : Bool) (v : List ℤ) (b : Option ℤ) (xs : List Seen) → Keeps d l o h v b xs →
    own_by own (is_settled d l o h v b) v ≡ exists_own own d xs
own_is None d l o h v b xs k = refl
own_is (Some c) d l o h v b xs k =
    ap (λ (z : Bool). cond z (Some (first_value v)) None) (sym (settled_is (Some c) d l o h v b) ∙ ap is_exact (verdict_is (Some c) d l o h v b xs k))
    ∙ ap (λ (z : List ℤ). cond (is_exact (exists_verdict (Some c) d xs)) (Some (first_value z)) None) k.best_is

settled_true : (own : Option Condition) (p : Bool) (x y : Verdict) → p ≡ true → x ≡ cond p x y
settled_true own true x y e = refl
settled_true own false x y e = cc

settled_false : (p : Bool) (x y : Verdict) → p ≡ false → y ≡ cond p x y
settled_false true x y e = cc
settled_false false x y e = refl

pub when_settled : (own : Option Condition) (d : List Condition) (l o h : Bool) (v : List ℤ) (b : Option ℤ) (xs : List Seen) → is_settled d l o h v b ≡ true → Keeps d l o h v b xs →
    exact (without_own own v) ≡ exists_verdict own d xs
when_settled own d l o h v b xs e k =
    settled_true own (is_settled d l o h v b) (exact (without_own own v)) (unsettled own d l o h v b) e ∙ verdict_is own d l o h v b xs k

pub when_unsettled : (own : Option Condition) (d : List Condition) (l o h : Bool) (v : List ℤ) (b : Option ℤ) (xs : List Seen) → is_settled d l o h v b ≡ false → Keeps d l o h v b xs →
    unsettled own d l o h v b ≡ exists_verdict own d xs
when_unsettled own d l o h v b xs e k =
    settled_false (is_settled d l o h v b) (exact (without_own own v)) (unsettled own d l o h v b) e ∙ verdict_is own d l o h v b xs k

own_when : (own : Option Condition) (c : Condition) (p : Bool) (v : List ℤ) → own ≡ Some c → p ≡ true → Some (first_value v) ≡ own_by own p v
own_when None c p v e h = cc
own_when (Some q) c true v e h = refl
own_when (Some q) c false v e h = cc

own_else : (own : Option Condition) (p : Bool) (v : List ℤ) → p ≡ false → None ≡ own_by own p v
own_else None p v h = refl
own_else (Some q) true v h = cc
own_else (Some q) false v h = refl

pub own_settled : (own : Option Condition) (c : Condition) (d : List Condition) (l o h : Bool) (v : List ℤ) (b : Option ℤ) (xs : List Seen) → own ≡ Some c → is_settled d l o h v b ≡ true → Keeps d l o h v b xs →
    Some (first_value v) ≡ exists_own own d xs
own_settled own c d l o h v b xs q e k = own_when own c (is_settled d l o h v b) v q e ∙ own_is own d l o h v b xs k

pub own_unsettled : (own : Option Condition) (d : List Condition) (l o h : Bool) (v : List ℤ) (b : Option ℤ) (xs : List Seen) → is_settled d l o h v b ≡ false → Keeps d l o h v b xs →
    None ≡ exists_own own d xs
own_unsettled own d l o h v b xs e k = own_else own (is_settled d l o h v b) v e ∙ own_is own d l o h v b xs k
