-- Items counted by where they end.
use Rattle.std.proofs.Common.{◌≡◌, ◌≢◌, inl, ℕ, zero, suc, ◌+◌, ◌-◌, ◌<◌, ◌≤◌, ◌==◌, set, Bool, true, false, ◌&&◌, ◌||◌, cond, List, [], ◌∷◌, ◌++◌, length, map, take, get_or, refl, sym, ap, ◌∙◌, subst, arith, ℤ}
use Rattle.std.specs.Prelude.{pos, ◌+ℤ◌, ◌-ℤ◌, ◌≤ℤ◌, int_le, int_lt, count_by, nat_abs}
use Rattle.std.specs.Ordering.{int_eq}
use Rattle.std.specs.List.{list_any}
use Rattle.std.proofs.lemmas.Int.{ints}
use Rattle.std.proofs.lemmas.Bool.{eqb-true, and_parts}
use Rattle.std.proofs.lemmas.Bool.Decides.{nat_tests}
use Rattle.std.proofs.lemmas.List.{length-map, length-take, take_more, get_or-set_same, get_or-set_other}
use Rattle.std.proofs.lemmas.List.Sums.{sum_by-cons, sum_by_more, count_by-le-length}
use Rattle.qc_model.specs.declared.problem.Arg.{Arg}
use Rattle.qc_model.specs.Domains.{Values, Box, least_value, greatest_value}
use Rattle.qc_model.specs.Left.{is_crowded, has_crowd}
use Rattle.qc_model.specs.Refuted.{left_to}
use Rattle.qc_model.proofs.Sound.{lo_of, hi_of}
use Rattle.model_table.proofs.Crowded.{ends_within}
use Rattle.model_table.proofs.CrowdEnds.{crowd_of_ends}
use Rattle.qc_refuter.specs.Full.{lies_in, held, ends_past, first_sum, IsWidest, AreWidest, IsRoomy}

count_both : {X : Type 0} (p q r : X → Bool) (xs : List X) → ((x : X) → cond (p x) 1 0 ≡ cond (q x) 1 0 + cond (r x) 1 0) → count_by p xs ≡ count_by q xs + count_by r xs
count_both p q r [] f = omega arith
count_both p q r (x ∷ xs) f =
    omega (arith, sum_by-cons (λ y. cond (p y) 1 0) x xs, sum_by-cons (λ y. cond (q y) 1 0) x xs, sum_by-cons (λ y. cond (r y) 1 0) x xs, f x, count_both p q r xs f)

pub count_same : {X : Type 0} (p q : X → Bool) (xs : List X) → ((x : X) → p x ≡ q x) → count_by p xs ≡ count_by q xs
count_same p q [] f = refl
count_same p q (x ∷ xs) f =
    omega (arith, sum_by-cons (λ y. cond (p y) 1 0) x xs, sum_by-cons (λ y. cond (q y) 1 0) x xs, ap {B = ℕ} (λ b. cond b 1 0) (f x), count_same p q xs f)

count_none : {X : Type 0} (p : X → Bool) (xs : List X) → ((x : X) → p x ≡ false) → count_by p xs ≡ 0
count_none p [] f = refl
count_none p (x ∷ xs) f = omega (arith, sum_by-cons (λ y. cond (p y) 1 0) x xs, ap {B = ℕ} (λ b. cond b 1 0) (f x), count_none p xs f)

pub least_to_greatest : (d : Values) → least_value d ≤ℤ greatest_value d
least_to_greatest [] = omega (arith, ints)
least_to_greatest (v ∷ d) = let a = lo_of v (v ∷ d) (inl refl) in let b = hi_of v (v ∷ d) (inl refl) in omega (arith, ints)

-- among no numbers lies no item
held_none : (ds : List Values) (l : ℤ) → held ds l 0 ≡ 0
held_none ds l = count_none (lies_in l 0) ds (λ d. none (least_value d) (greatest_value d) (least_to_greatest d))
  where
    none : (a b : ℤ) → a ≤ℤ b → (int_le l a && int_lt b (l +ℤ pos 0)) ≡ false
    none a b h = by (int_le l a) refl (int_lt b (l +ℤ pos 0)) refl
      where
        by : (p : Bool) → int_le l a ≡ p → (q : Bool) → int_lt b (l +ℤ pos 0) ≡ q → (p && q) ≡ false
        by true e true f = absurd (omega (arith, ints, e, f, h))
        by true e false f = refl
        by false e q f = refl

-- with one number more, those that end there come in
held_more : (ds : List Values) (l : ℤ) (n : ℕ) → held ds l (suc n) ≡ held ds l n + count_by (ends_past l n) ds
held_more ds l n = count_both (lies_in l (suc n)) (lies_in l n) (ends_past l n) ds (λ d. one (least_value d) (greatest_value d))
  where
    one : (a b : ℤ) → cond (int_le l a && int_lt b (l +ℤ pos (suc n))) 1 0 ≡ cond (int_le l a && int_lt b (l +ℤ pos n)) 1 0 + cond (int_le l a && int_eq b (l +ℤ pos n)) 1 0
    one a b = by (int_le l a)
      where
        last : (p : Bool) → int_lt b (l +ℤ pos (suc n)) ≡ p → (q : Bool) → int_lt b (l +ℤ pos n) ≡ q → (r : Bool) → int_eq b (l +ℤ pos n) ≡ r → cond p 1 0 ≡ cond q 1 0 + cond r 1 0
        last true e true f true g = absurd (grind (arith, ints, f, g))
        last true e true f false g = refl
        last true e false f true g = refl
        last true e false f false g = absurd (grind (arith, ints, e, f, g))
        last false e true f r g = absurd (grind (arith, ints, e, f))
        last false e false f true g = absurd (grind (arith, ints, e, g))
        last false e false f false g = refl

        by : (p : Bool) → cond (p && int_lt b (l +ℤ pos (suc n))) 1 0 ≡ cond (p && int_lt b (l +ℤ pos n)) 1 0 + cond (p && int_eq b (l +ℤ pos n)) 1 0
        by true = last (int_lt b (l +ℤ pos (suc n))) refl (int_lt b (l +ℤ pos n)) refl (int_eq b (l +ℤ pos n)) refl
        by false = refl

first_more : (ns : List ℕ) (n : ℕ) → n < length ns → first_sum ns (suc n) ≡ first_sum ns n + get_or ns n 0
first_more ns n h = ap (first_sum ns) next ∙ sum_by_more {X = ℕ} (λ x. x) ns n 0 h
  where
    next : suc n ≡ n + 1
    next = omega arith

-- the sums of what ends at each place are how many lie among the first numbers
pub sums_held : (ds : List Values) (l : ℤ) (ns : List ℕ) → ((k : ℕ) → k < length ns → get_or ns k 0 ≡ count_by (ends_past l k) ds) → (n : ℕ) → n ≤ length ns → first_sum ns n ≡ held ds l n
sums_held ds l ns f zero h = sym (held_none ds l)
sums_held ds l ns f (suc n) h =
    omega (arith, held_more ds l n, f n (omega arith), sums_held ds l ns f n (omega arith), first_more ns n (omega arith))

-- one item more is counted
pub counted_take : (p : Values → Bool) (box : Box) (items : List Arg) (k : ℕ) (x : Arg) → k < length items →
    count_by p (map (left_to box) (take (k + 1) items)) ≡ count_by p (map (left_to box) (take k items)) + cond (p (left_to box (get_or items k x))) 1 0
counted_take p box items k x h =
    ap (λ l. count_by p (map (left_to box) l)) (take_more items k x h) ∙ push (take k items) (get_or items k x)
  where
    push : (xs : List Arg) (y : Arg) → count_by p (map (left_to box) (xs ++ y ∷ [])) ≡ count_by p (map (left_to box) xs) + cond (p (left_to box y)) 1 0
    push [] y = sum_by-cons (λ z. cond (p z) 1 0) (left_to box y) [] ∙ omega arith
    push (z ∷ xs) y =
        omega (arith, sum_by-cons (λ w. cond (p w) 1 0) (left_to box z) (map (left_to box) (xs ++ y ∷ [])), sum_by-cons (λ w. cond (p w) 1 0) (left_to box z) (map (left_to box) xs), push xs y)

pub few_counted : (p : Values → Bool) (box : Box) (items : List Arg) (k : ℕ) → count_by p (map (left_to box) (take k items)) ≤ k
few_counted p box items k =
    omega (arith, count_by-le-length p (map (left_to box) (take k items)), length-map (take k items) (left_to box), length-take k items)

-- and the first ones are no more than all
counted_first : (p : Values → Bool) (box : Box) (items : List Arg) (k : ℕ) → count_by p (map (left_to box) (take k items)) ≤ count_by p (map (left_to box) items)
counted_first p box [] zero = omega arith
counted_first p box [] (suc k) = omega arith
counted_first p box (a ∷ items) zero = omega arith
counted_first p box (a ∷ items) (suc k) =
    omega (arith, sum_by-cons (λ z. cond (p z) 1 0) (left_to box a) (map (left_to box) (take k items)), sum_by-cons (λ z. cond (p z) 1 0) (left_to box a) (map (left_to box) items), counted_first p box items k)

-- the item at a place passes, and some before it do
pub passed_before : (p : Values → Bool) (box : Box) (items : List Arg) (k n : ℕ) (x : Arg) → k < length items → p (left_to box (get_or items k x)) ≡ true → n ≤ count_by p (map (left_to box) (take k items)) →
    n < count_by p (map (left_to box) (take (k + 1) items))
passed_before p box items k n x h e m = omega (arith, counted_take p box items k x h, ap {B = ℕ} (λ b. cond b 1 0) e, m)

-- more items than numbers are a crowd
pub crowd_of_held : (ds : List Values) (l : ℤ) (n : ℕ) → n < held ds l n → has_crowd ds ≡ true
crowd_of_held ds l zero h = absurd (omega (arith, held_none ds l))
crowd_of_held ds l (suc m) h =
    let h_end = l +ℤ pos m in
    crowd_of_ends ds l h_end (by (count_by (ends_within l h_end) ds) (omega (arith, h, count_same (ends_within l h_end) (lies_in l (suc m)) ds (λ d. ap (λ b. int_le l (least_value d) && b) (upto (greatest_value d))))))
  where
    upto : (b : ℤ) → int_le b (l +ℤ pos m) ≡ int_lt b (l +ℤ pos (suc m))
    upto b = grind (arith, ints)

    starts : int_le l (l +ℤ pos m) ≡ true
    starts = grind (arith, ints)

    above : (c : ℕ) → suc m < c → int_lt (((l +ℤ pos m) -ℤ l) +ℤ pos 1) (pos c) ≡ true
    above c k = grind (arith, ints)

    by : (c : ℕ) → suc m < c → (int_le l (l +ℤ pos m) && int_lt (((l +ℤ pos m) -ℤ l) +ℤ pos 1) (pos c)) ≡ true
    by c k = ap (λ b. b && int_lt (((l +ℤ pos m) -ℤ l) +ℤ pos 1) (pos c)) starts ∙ above c k

-- two items that lie in one number
pub crowd_of_two : (box : Box) (items : List Arg) (l : ℤ) (k : ℕ) (x : Arg) → k < length items → lies_in l 1 (left_to box (get_or items k x)) ≡ true → 1 ≤ count_by (lies_in l 1) (map (left_to box) (take k items)) →
    has_crowd (map (left_to box) items) ≡ true
crowd_of_two box items l k x h e m =
    crowd_of_held (map (left_to box) items) l 1 (omega (arith, passed_before (lies_in l 1) box items k 1 x h e m, counted_first (lies_in l 1) box items (k + 1)))

-- and a crowd is more items than numbers
pub held_of_crowd : (ds : List Values) (l h : ℤ) → is_crowded ds l h ≡ true → (m : ℕ) × (suc m < held ds l (suc m))
held_of_crowd ds l h e =
    let p = and_parts (int_le l h) (int_lt ((h -ℤ l) +ℤ pos 1) (pos (count_by (ends_within l h) ds))) e in
    let m = nat_abs (h -ℤ l) in
    let far : h ≡ l +ℤ pos m = omega (arith, ints, p.0) in
    let same = count_same (ends_within l h) (lies_in l (suc m)) ds (λ d. ap (λ b. int_le l (least_value d) && b) (upto m far (greatest_value d))) in
    (m, omega (arith, same, wide m (count_by (ends_within l h) ds) far p.1))
  where
    upto : (m : ℕ) → h ≡ l +ℤ pos m → (b : ℤ) → int_le b h ≡ int_lt b (l +ℤ pos (suc m))
    upto m far b = grind (arith, ints)

    wide : (m c : ℕ) → h ≡ l +ℤ pos m → int_lt ((h -ℤ l) +ℤ pos 1) (pos c) ≡ true → suc m < c
    wide m c far k = omega (arith, ints, far, k)

-- no crowd begins at the least value of the item at a place
abbrev pub IsUncrowded : List Values → ℕ → Type 0
IsUncrowded ds k = list_any (λ e. is_crowded ds (least_value (get_or ds k [])) (greatest_value e)) ds ≡ false

pub uncrowded : (ds : List Values) → ((k : ℕ) → k < length ds → IsUncrowded ds k) → has_crowd ds ≡ false
uncrowded ds f = none_at (λ d. list_any (λ e. is_crowded ds (least_value d) (greatest_value e)) ds) ds f
  where
    none_at : (p : Values → Bool) (es : List Values) → ((k : ℕ) → k < length es → p (get_or es k []) ≡ false) → list_any p es ≡ false
    none_at p [] f = refl
    none_at p (e ∷ es) f = ap (λ b. b || list_any p es) (f 0 (omega arith)) ∙ none_at p es (λ k h. f (suc k) (omega (arith, h)))

pub none_any : {X : Type 0} (p : X → Bool) (xs : List X) → ((x : X) → p x ≡ false) → list_any p xs ≡ false
none_any p [] f = refl
none_any p (x ∷ xs) f = ap (λ b. b || list_any p xs) (f x) ∙ none_any p xs f

widest_most : (f : ℕ → ℕ) (k j : ℕ) → IsWidest f k j → f k ≤ k
widest_most f k j v = by (k - j) refl
  where
    by : (r : ℕ) → k - j ≡ r → f k ≤ k
    by zero e = let same : j ≡ k = omega (arith, v.most) in let g : f k ≡ k = subst (λ m. f m ≡ m) same v.full in omega (arith, g)
    by (suc r) e = omega (arith, v.rest k (omega arith) (omega arith))

widest_roomy : (f : ℕ → ℕ) (ns : List ℕ) (t n : ℕ) → AreWidest f ns t → n ≤ length ns → f n ≤ n
widest_roomy f ns t n w h = by (length ns - n) refl
  where
    by : (r : ℕ) → length ns - n ≡ r → f n ≤ n
    by zero e = let same : length ns ≡ n = omega (arith, h) in subst (λ m. f m ≤ m) same (widest_most f (length ns) t w.whole)
    by (suc r) e = widest_most f n (get_or ns n 0) (w.each n (omega arith))

-- range by range: none, one that is full, and one that isn't
pub widest_none : (f : ℕ → ℕ) → f 0 ≡ 0 → IsWidest f 0 0
widest_none f e = record { most = omega arith; full = e; rest = λ n a b. absurd (omega (arith, a, b)) }

pub widest_here : (f : ℕ → ℕ) (k : ℕ) → f (k + 1) ≡ k + 1 → IsWidest f (k + 1) (k + 1)
widest_here f k e = record { most = omega arith; full = e; rest = λ n a b. absurd (omega (arith, a, b)) }

pub widest_same : (f : ℕ → ℕ) (k j : ℕ) → IsWidest f k j → f (k + 1) < k + 1 → IsWidest f (k + 1) j
widest_same f k j w h = record {
  most = omega (arith, w.most);
  full = w.full;
  rest = λ n a b. by n a (k + 1 - n) refl b;
}
  where
    by : (n : ℕ) → j < n → (r : ℕ) → k + 1 - n ≡ r → n ≤ k + 1 → f n < n
    by n a zero e b = let same : k + 1 ≡ n = omega (arith, e, b) in subst (λ m. f m < m) same h
    by n a (suc r) e b = w.rest n a (omega (arith, e))

-- the widest by the sums of counts is the widest by what lies there
pub widest_held : (f g : ℕ → ℕ) (ns : List ℕ) (t : ℕ) → ((n : ℕ) → n ≤ length ns → f n ≡ g n) → AreWidest f ns t → AreWidest g ns t
widest_held f g ns t e w = record {
  each = λ k h. one k (get_or ns k 0) (omega (arith, h)) (w.each k h);
  whole = one (length ns) t (omega arith) w.whole;
}
  where
    one : (k j : ℕ) → k ≤ length ns → IsWidest f k j → IsWidest g k j
    one k j h v = record {
      most = v.most;
      full = sym (e j (omega (arith, h, v.most))) ∙ v.full;
      rest = λ n a b. omega (arith, e n (omega (arith, h, b)), v.rest n a b);
    }

pub held_roomy : (ds : List Values) (l : ℤ) (ns : List ℕ) (t : ℕ) → length ns ≡ length ds → AreWidest (held ds l) ns t → IsRoomy ds l
held_roomy ds l ns t e w n = by (n - length ns) refl
  where
    by : (r : ℕ) → n - length ns ≡ r → held ds l n ≤ n
    by zero q = widest_roomy (held ds l) ns t n w (omega arith)
    by (suc r) q = omega (arith, count_by-le-length (lies_in l n) ds, e)

-- where an item ends, from numbers that were read
pub past_order : (l a g : ℤ) → int_lt a l ≡ false → a ≤ℤ g → l ≤ℤ g
past_order l a g h k = omega (arith, ints, h, k)

pub past_is : (l a g y z : ℤ) (k : ℕ) → a ≡ y → g ≡ z → int_lt a l ≡ false → l +ℤ pos k ≡ g → (int_le l y ≡ true) × (z ≡ l +ℤ pos k)
past_is l a g y z k f i h j = (grind (arith, ints, f, h), omega (arith, ints, i, j))

-- it is counted there, and nowhere else
counted_here : (l a b : ℤ) (k : ℕ) → int_le l a ≡ true → b ≡ l +ℤ pos k → (int_le l a && int_eq b (l +ℤ pos k)) ≡ true
counted_here l a b k h e = grind (arith, ints, h, e)

counted_not : (l a b : ℤ) (past k : ℕ) → b ≡ l +ℤ pos past → k ≢ past → (int_le l a && int_eq b (l +ℤ pos k)) ≡ false
counted_not l a b past k e n = by (int_le l a) (other e n)
  where
    other : b ≡ l +ℤ pos past → k ≢ past → int_eq b (l +ℤ pos k) ≡ false
    other e n = grind (arith, ints, e, n)

    by : (p : Bool) → int_eq b (l +ℤ pos k) ≡ false → (p && int_eq b (l +ℤ pos k)) ≡ false
    by true h = h
    by false h = refl

pub not_past : (l : ℤ) (past k n : ℕ) (d : Values) → greatest_value d ≡ l +ℤ pos past → k < past → n ≡ n + cond (ends_past l k d) 1 0
not_past l past k n d e h = omega (arith, ap {B = ℕ} (λ b. cond b 1 0) (counted_not l (least_value d) (greatest_value d) past k e (λ q. omega (arith, q, h))))

pub past_counted : (l : ℤ) (past k : ℕ) (d : Values) (ns : List ℕ) → int_le l (least_value d) ≡ true → greatest_value d ≡ l +ℤ pos past → past < length ns →
    get_or (set ns past (get_or ns past 0 + 1)) k 0 ≡ get_or ns k 0 + cond (ends_past l k d) 1 0
past_counted l past k d ns h e w = by (k == past) refl
  where
    apart : (a b : ℕ) → (a == b) ≡ false → a ≢ b
    apart a b h = grind (arith, nat_tests)

    here : get_or (set ns past (get_or ns past 0 + 1)) past 0 ≡ get_or ns past 0 + cond (ends_past l past d) 1 0
    here =
        omega (arith, get_or-set_same ns past (get_or ns past 0 + 1) 0 w, ap {B = ℕ} (λ b. cond b 1 0) (counted_here l (least_value d) (greatest_value d) past h e))

    by : (b : Bool) → (k == past) ≡ b → get_or (set ns past (get_or ns past 0 + 1)) k 0 ≡ get_or ns k 0 + cond (ends_past l k d) 1 0
    by true q = subst (λ m. get_or (set ns past (get_or ns past 0 + 1)) m 0 ≡ get_or ns m 0 + cond (ends_past l m d) 1 0) (sym (eqb-true k past q)) here
    by false q =
        let n = apart k past q in
        omega (arith, get_or-set_other ns past k (get_or ns past 0 + 1) 0 n, ap {B = ℕ} (λ b. cond b 1 0) (counted_not l (least_value d) (greatest_value d) past k e n))

pub one_more : (P : ℕ → Type 0) (k : ℕ) → ((j : ℕ) → j < k → P j) → P k → (j : ℕ) → j < k + 1 → P j
one_more P k f p j h = by (k - j) refl
  where
    by : (r : ℕ) → k - j ≡ r → P j
    by zero e = let same : k ≡ j = omega (arith, e, h) in subst P same p
    by (suc r) e = f j (omega (arith, e))
