-- Where no full range has an end of an item that doesn't lie in it, no end is refuted.
use Rattle.std.proofs.Common.{◌≡◌, ◌⊎◌, inl, inr, ℕ, zero, suc, ◌+◌, ◌-◌, ◌<◌, ◌≤◌, Bool, true, false, ◌&&◌, cond, List, [], ◌∷◌, length, set, get_or, refl, sym, ap, ◌∙◌, subst, arith, ℤ}
use Rattle.std.specs.Prelude.{pos, ◌+ℤ◌, ◌-ℤ◌, ◌≤ℤ◌, ◌<ℤ◌, int_le, int_lt, count_by, nat_abs}
use Rattle.std.proofs.lemmas.Int.{ints}
use Rattle.std.proofs.lemmas.List.Sums.{sum_by-cons}
use Rattle.std.proofs.lemmas.Bool.{and_parts}
use Rattle.qc_model.specs.Domains.{Values, least_value, greatest_value}
use Rattle.qc_model.specs.Left.{has_crowd}
use Rattle.qc_model.proofs.Sound.{differ}
use Rattle.model_table.proofs.CrowdEnds.{crowd_has_ends}
use Rattle.qc_refuter.specs.Full.{lies_in, held}
use Rattle.qc_refuter.proofs.Fill.{held_of_crowd, crowd_of_held, least_to_greatest}
use Rattle.prop_different.specs.Quiet.{is_among, IsApart, IsQuiet, AllQuiet}

-- one item is replaced
count_set : (p : Values → Bool) (ds : List Values) (k : ℕ) (us : Values) → k < length ds → count_by p (set ds k us) + cond (p (get_or ds k [])) 1 0 ≡ count_by p ds + cond (p us) 1 0
count_set p [] k us h = absurd (omega (arith, h))
count_set p (d ∷ ds) zero us h = omega (arith, sum_by-cons (λ y. cond (p y) 1 0) us ds, sum_by-cons (λ y. cond (p y) 1 0) d ds)
count_set p (d ∷ ds) (suc k) us h =
    omega (arith, sum_by-cons (λ y. cond (p y) 1 0) d (set ds k us), sum_by-cons (λ y. cond (p y) 1 0) d ds, count_set p ds k us (omega (arith, h)))

count_more : (p q : Values → Bool) (ds : List Values) → ((j : ℕ) → j < length ds → p (get_or ds j []) ≡ true → q (get_or ds j []) ≡ true) → count_by p ds ≤ count_by q ds
count_more p q [] f = omega arith
count_more p q (d ∷ ds) f =
    omega (arith, sum_by-cons (λ y. cond (p y) 1 0) d ds, sum_by-cons (λ y. cond (q y) 1 0) d ds, count_more p q ds (λ j h. f (suc j) (omega (arith, h))), by (p d) refl (q d) refl (f 0 (omega arith)))
  where
    by : (a : Bool) → p d ≡ a → (b : Bool) → q d ≡ b → (p d ≡ true → q d ≡ true) → cond a 1 0 ≤ cond b 1 0
    by true e true g h = omega arith
    by true e false g h = absurd (differ (sym g ∙ h e))
    by false e b g h = omega arith

none_counted : (p : Values → Bool) (ds : List Values) → ((j : ℕ) → j < length ds → p (get_or ds j []) ≡ false) → count_by p ds ≡ 0
none_counted p [] f = refl
none_counted p (d ∷ ds) f =
    omega (arith, sum_by-cons (λ y. cond (p y) 1 0) d ds, ap {B = ℕ} (λ b. cond b 1 0) (f 0 (omega arith)), none_counted p ds (λ j h. f (suc j) (omega (arith, h))))

-- an item that passes, with the least value of those that do
record IsLowest (p : Values → Bool) (ds : List Values) : Type 0 where
  place : ℕ
  within : place < length ds
  passes : p (get_or ds place []) ≡ true
  lowest : (j : ℕ) → j < length ds → p (get_or ds j []) ≡ true → least_value (get_or ds place []) ≤ℤ least_value (get_or ds j [])

abbrev NonePasses : (Values → Bool) → List Values → Type 0
NonePasses p ds = (j : ℕ) → j < length ds → p (get_or ds j []) ≡ false

same : (a : ℤ) → a ≤ℤ a
same a = omega (arith, ints)

lowest_item : (p : Values → Bool) (ds : List Values) → NonePasses p ds ⊎ IsLowest p ds
lowest_item p [] = inl (λ j h. absurd (omega (arith, h)))
lowest_item p (x ∷ xs) = by (p x) refl (lowest_item p xs)
  where
    by : (b : Bool) → p x ≡ b → NonePasses p xs ⊎ IsLowest p xs → NonePasses p (x ∷ xs) ⊎ IsLowest p (x ∷ xs)
    by false e (inl n) = inl none
      where
        none : (j : ℕ) → j < length (x ∷ xs) → p (get_or (x ∷ xs) j []) ≡ false
        none zero h = e
        none (suc j) h = n j (omega (arith, h))
    by false e (inr l) = inr (record { place = suc l.place; within = omega (arith, l.within); passes = l.passes; lowest = low })
      where
        low : (j : ℕ) → j < length (x ∷ xs) → p (get_or (x ∷ xs) j []) ≡ true → least_value (get_or xs l.place []) ≤ℤ least_value (get_or (x ∷ xs) j [])
        low zero h q = absurd (differ (sym e ∙ q))
        low (suc j) h q = l.lowest j (omega (arith, h)) q
    by true e (inl n) = inr (record { place = 0; within = omega arith; passes = e; lowest = low })
      where
        low : (j : ℕ) → j < length (x ∷ xs) → p (get_or (x ∷ xs) j []) ≡ true → least_value x ≤ℤ least_value (get_or (x ∷ xs) j [])
        low zero h q = same (least_value x)
        low (suc j) h q = absurd (differ (sym (n j (omega (arith, h))) ∙ q))
    by true e (inr l) = choose (int_le (least_value x) (least_value (get_or xs l.place []))) refl
      where
        choose : (b : Bool) → int_le (least_value x) (least_value (get_or xs l.place [])) ≡ b → NonePasses p (x ∷ xs) ⊎ IsLowest p (x ∷ xs)
        choose true c = inr (record { place = 0; within = omega arith; passes = e; lowest = low })
          where
            low : (j : ℕ) → j < length (x ∷ xs) → p (get_or (x ∷ xs) j []) ≡ true → least_value x ≤ℤ least_value (get_or (x ∷ xs) j [])
            low zero h q = same (least_value x)
            low (suc j) h q = below (least_value x) (least_value (get_or xs l.place [])) (least_value (get_or xs j [])) c (l.lowest j (omega (arith, h)) q)
              where
                below : (a b d : ℤ) → int_le a b ≡ true → b ≤ℤ d → a ≤ℤ d
                below a b d c k = omega (arith, ints, c, k)
        choose false c = inr (record { place = suc l.place; within = omega (arith, l.within); passes = l.passes; lowest = low })
          where
            low : (j : ℕ) → j < length (x ∷ xs) → p (get_or (x ∷ xs) j []) ≡ true → least_value (get_or xs l.place []) ≤ℤ least_value (get_or (x ∷ xs) j [])
            low zero h q = above (least_value x) (least_value (get_or xs l.place [])) c
              where
                above : (a b : ℤ) → int_le a b ≡ false → b ≤ℤ a
                above a b c = omega (arith, ints, c)
            low (suc j) h q = l.lowest j (omega (arith, h)) q

-- what lies among the n numbers from l on
lies_ends : (l : ℤ) (n : ℕ) (d : Values) → lies_in l n d ≡ true → (l ≤ℤ least_value d) × (greatest_value d <ℤ (l +ℤ pos n))
lies_ends l n d e =
    let p = and_parts (int_le l (least_value d)) (int_lt (greatest_value d) (l +ℤ pos n)) e in
    (omega (arith, ints, p.0), omega (arith, ints, p.1))

pub lies_from : (l : ℤ) (n : ℕ) (d : Values) → l ≤ℤ least_value d → greatest_value d <ℤ (l +ℤ pos n) → lies_in l n d ≡ true
lies_from l n d a b = by (least_value d) (greatest_value d) a b
  where
    by : (x y : ℤ) → l ≤ℤ x → y <ℤ (l +ℤ pos n) → (int_le l x && int_lt y (l +ℤ pos n)) ≡ true
    by x y a b = grind (arith, ints, a, b)

-- where each range that begins at a least value has room, a range that no item more fits in begins at one, and is full
record IsFull (ds : List Values) (l : ℤ) (n : ℕ) : Type 0 where
  quiet : IsQuiet ds l
  full : held ds l n ≡ n

full_begins : (ds : List Values) (l : ℤ) (n : ℕ) → AllQuiet ds → 0 < n → n ≤ held ds l n → IsFull ds l n
full_begins ds l n all some h = by (lowest_item (lies_in l n) ds)
  where
    by : NonePasses (lies_in l n) ds ⊎ IsLowest (lies_in l n) ds → IsFull ds l n
    by (inl none) = absurd (omega (arith, some, h, none_counted (lies_in l n) ds none))
    by (inr w) =
        let d = get_or ds w.place [] in
        let ends = lies_ends l n d w.passes in
        let r = nat_abs (least_value d -ℤ l) in
        let q = all w.place w.within in
        from (least_value d) r (start (least_value d) ends.0)
        (short (least_value d) (greatest_value d) r (start (least_value d) ends.0) (least_to_greatest d) ends.1)
        q
        (λ j k p. let e = lies_ends l n (get_or ds j []) p in (w.lowest j k p, e.1))
      where
        start : (a : ℤ) → l ≤ℤ a → a ≡ l +ℤ pos (nat_abs (a -ℤ l))
        start a e = omega (arith, ints, e)

        short : (a b : ℤ) (r : ℕ) → a ≡ l +ℤ pos r → a ≤ℤ b → b <ℤ (l +ℤ pos n) → r < n
        short a b r e f g = omega (arith, ints, e, f, g)

        from : (a : ℤ) (r : ℕ) → a ≡ l +ℤ pos r → r < n → IsQuiet ds a → ((j : ℕ) → j < length ds → lies_in l n (get_or ds j []) ≡ true → (a ≤ℤ least_value (get_or ds j [])) × (greatest_value (get_or ds j []) <ℤ (l +ℤ pos n))) → IsFull ds l n
        from a r e s q f =
            let more = count_more (lies_in l n) (lies_in a (n - r)) ds (λ j k p. let g = f j k p in lies_from a (n - r) (get_or ds j []) g.0 (until (greatest_value (get_or ds j [])) g.1)) in
            let none : r ≡ 0 = omega (arith, more, q.room (n - r), h, s) in
            let here : a ≡ l = begins a r e none in
            let quiet : IsQuiet ds l = subst (λ z. IsQuiet ds z) here q in
            record { quiet = quiet; full = omega (arith, quiet.room n, h) }
          where
            until : (b : ℤ) → b <ℤ (l +ℤ pos n) → b <ℤ (a +ℤ pos (n - r))
            until b k = omega (arith, ints, k, e, s)

            begins : (a : ℤ) (r : ℕ) → a ≡ l +ℤ pos r → r ≡ 0 → a ≡ l
            begins a r e z = omega (arith, ints, e, z)

-- with one item at one of its ends, no range holds too many
pub quiet_keeps : (ds : List Values) (k : ℕ) (v : ℤ) → AllQuiet ds → k < length ds → (v ≡ least_value (get_or ds k [])) ⊎ (v ≡ greatest_value (get_or ds k [])) → has_crowd (set ds k (v ∷ [])) ≡ false
quiet_keeps ds k v all h end = by (has_crowd (set ds k (v ∷ []))) refl
  where
    clash : (n now was : ℕ) (a b : Bool) → n < now → now + cond a 1 0 ≡ was + cond b 1 0 → was ≡ n → (a ≡ false → b ≡ false) → ⊥
    clash n now was true true l e f g = omega (arith, l, e, f)
    clash n now was true false l e f g = omega (arith, l, e, f)
    clash n now was false true l e f g = differ (sym (g refl))
    clash n now was false false l e f g = omega (arith, l, e, f)

    enough : (n now was : ℕ) (a b : Bool) → n < now → now + cond a 1 0 ≡ was + cond b 1 0 → n ≤ was
    enough n now was true true l e = omega (arith, l, e)
    enough n now was true false l e = omega (arith, l, e)
    enough n now was false true l e = omega (arith, l, e)
    enough n now was false false l e = omega (arith, l, e)

    outside : (l : ℤ) (n : ℕ) → IsApart l n (get_or ds k []) → lies_in l n (get_or ds k []) ≡ false → lies_in l n (v ∷ []) ≡ false
    outside l n (inl i) e = absurd (differ (sym e ∙ i))
    outside l n (inr o) e = elim end [ inl q ↦ ap (is_among l n) q ∙ o.0 | inr q ↦ ap (is_among l n) q ∙ o.1 ]

    crowded : (l : ℤ) (n : ℕ) → 0 < n → n < held (set ds k (v ∷ [])) l n → ⊥
    crowded l n some c =
        let was = lies_in l n (get_or ds k []) in
        let now = lies_in l n (v ∷ []) in
        let moved = count_set (lies_in l n) ds k (v ∷ []) h in
        let f = full_begins ds l n all some (enough n (held (set ds k (v ∷ [])) l n) (held ds l n) was now c moved) in
        clash n (held (set ds k (v ∷ [])) l n) (held ds l n) was now c moved f.full (outside l n (f.quiet.apart n some f.full k h))

    by : (b : Bool) → has_crowd (set ds k (v ∷ [])) ≡ b → b ≡ false
    by true e =
        let p = crowd_has_ends (set ds k (v ∷ [])) e in
        let q = held_of_crowd (set ds k (v ∷ [])) p.0 p.1 p.2 in
        absurd (crowded p.0 (suc q.0) (omega arith) q.1)
    by false e = refl

-- an item that is kept within a range that the others fill is one too many
pub full_refutes : (ds : List Values) (l : ℤ) (n k : ℕ) (us : Values) → k < length ds → held ds l n ≡ n → lies_in l n (get_or ds k []) ≡ false → lies_in l n us ≡ true → has_crowd (set ds k us) ≡ true
full_refutes ds l n k us h f out inside =
    crowd_of_held (set ds k us) l n (omega (arith, count_set (lies_in l n) ds k us h, ap {B = ℕ} (λ b. cond b 1 0) out, ap {B = ℕ} (λ b. cond b 1 0) inside, f))
