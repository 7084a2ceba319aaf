-- Terms that can be more than one number, and sums of them.
use Rattle.std.proofs.Common.{◌≡◌, ◌⊎◌, inl, inr, ℕ, zero, suc, ◌*◌, ◌<◌, ◌≤◌, Bool, true, false, not, ◌&&◌, ◌||◌, List, [], ◌∷◌, length, map, get_or, refl, sym, ap, ◌∙◌, subst, arith, ℤ}
use Rattle.std.specs.Prelude.{pos, negsuc, ◌+ℤ◌, ◌-ℤ◌, ◌*ℤ◌, ◌≤ℤ◌, ◌<ℤ◌, nat_abs, ◌==◌, int_lt}
use Rattle.std.specs.Int.{int_min, int_max}
use Rattle.std.specs.List.{list_all}
use Rattle.std.specs.Ordering.{int_eq}
use Rattle.std.proofs.Math.Nat.{mul-le-mul}
use Rattle.std.proofs.Math.IntN.{zero-*ℤ}
use Rattle.std.proofs.lemmas.Int.{ints, clamps}
use Rattle.std.proofs.lemmas.List.{get_or-set_same, length-map}
use Rattle.std.proofs.lemmas.Bool.Decides.{Decides-int_eq, nat_tests}
use Rattle.std.proofs.lemmas.Bool.{or_left, or_right, not_from_false, and_from}
use Rattle.qc_model.specs.declared.problem.Arg.{Arg}
use Rattle.qc_model.specs.declared.problem.Arg.TheVariants.{Var, Num}
use Rattle.qc_model.specs.declared.problem.VarId.{VarId}
use Rattle.qc_model.specs.Closed.{refutes_at, keeps_ends}
use Rattle.qc_model.specs.Content.{Rule}
use Rattle.qc_model.specs.Domains.{Values, Box, values_left, box_at, least_value, greatest_value, is_none_left, is_single, is_ascending, has_value}
use Rattle.qc_model.specs.Left.{sum_range}
use Rattle.qc_model.specs.Ranges.{Range, range_of, range_of_list, point, is_point, product, range_sum}
use Rattle.qc_model.specs.Refuted.{left_to}
use Rattle.qc_model.specs.Valid.{is_number}
use Rattle.qc_model.proofs.Readable.{first, second}
use Rattle.model_arguments.proofs.Values.{has_least, has_greatest}
use Rattle.model_arguments.proofs.Kept.{low_end, high_end}
use Rattle.model_arguments.proofs.Items.{other_left, all_by}
use Rattle.model_arguments.proofs.Bools.{not_false}
use Rattle.qc_refuter.proofs.Domains.{some_left}
use Rattle.qc_refuter.specs.Met.{is_domain_left, is_open}
use Rattle.qc_refuter.proofs.Terms.{open_at}
use Rattle.prop_base.specs.Closed.{keeps_arg}
use Rattle.model_arguments.specs.Repeats.{same_variable}
use Rattle.prop_linear.specs.Tightening.{AlikeOutside, term_of}
use Rattle.prop_linear.specs.Unequal.{is_loose, IsUnequal}
use Rattle.prop_linear.proofs.Alike.{alike_same, alike_at}
use Rattle.prop_linear.proofs.Spread.{low_of, high_of, up_gap, down_gap}

-- a term and a sum are in order
term_order : (a : ℤ) (d : Values) → (term_of a d).from ≤ℤ (term_of a d).to
term_order a d = by (a *ℤ least_value d) (a *ℤ greatest_value d) (term_of a d).from (term_of a d).to (low_of a (least_value d) (greatest_value d)) (high_of a (least_value d) (greatest_value d))
  where
    by : (p q f t : ℤ) → f ≡ int_min p q → t ≡ int_max p q → f ≤ℤ t
    by p q f t h k = omega (arith, ints, clamps, h, k)

pub sum_order : (ns : List ℤ) (ds : List Values) → (sum_range ns ds).from ≤ℤ (sum_range ns ds).to
sum_order [] ds = omega (arith, ints)
sum_order (n ∷ ns) [] = omega (arith, ints)
sum_order (n ∷ ns) (d ∷ ds) = by (term_of n d).from (sum_range ns ds).from (term_of n d).to (sum_range ns ds).to (term_order n d) (sum_order ns ds)
  where
    by : (a b c d : ℤ) → a ≤ℤ c → b ≤ℤ d → (a +ℤ b) ≤ℤ (c +ℤ d)
    by a b c d h k = omega (arith, ints, h, k)

-- a loose term has room
pub two_apart : (d : Values) → is_domain_left d ≡ true → is_single d ≡ false → least_value d <ℤ greatest_value d
two_apart [] o s = cc
two_apart (v ∷ []) o s = cc
two_apart (v ∷ w ∷ vs) o s =
    let d = v ∷ w ∷ vs in
    let asc = second (not (is_none_left d)) (is_ascending d) (first (not (is_none_left d) && is_ascending d) (list_all is_number d) o) in
    let vw = first (int_lt v w) (is_ascending (w ∷ vs)) asc in
    by v w (least_value d) (greatest_value d) vw (low_end d v (first_has v (w ∷ vs))) (high_end d w (next_has v w vs))
  where
    same : (v : ℤ) → int_eq v v ≡ true
    same v = (Decides-int_eq v v).1 refl

    first_has : (v : ℤ) (vs : Values) → has_value (v ∷ vs) v ≡ true
    first_has v vs = or_left (int_eq v v) (has_value vs v) (same v)

    next_has : (v w : ℤ) (vs : Values) → has_value (v ∷ w ∷ vs) w ≡ true
    next_has v w vs = or_right (int_eq w v) (has_value (w ∷ vs) w) (first_has w vs)

    by : (v w l g : ℤ) → int_lt v w ≡ true → l ≤ℤ v → w ≤ℤ g → l <ℤ g
    by v w l g h i j = grind (arith, ints)

some : (m : ℕ) → 1 ≤ suc m
some m = omega arith

up_room : (m : ℕ) (l g : ℤ) → l <ℤ g → (pos (suc m) *ℤ l) <ℤ (pos (suc m) *ℤ g)
up_room m l g h =
    let u = up_gap (suc m) l g (omega (arith, ints, h)) in
    let one : 1 ≤ nat_abs (g -ℤ l) = omega (arith, ints, h) in
    let b : 1 * 1 ≤ suc m * nat_abs (g -ℤ l) = mul-le-mul (some m) one in
    by (pos (suc m) *ℤ l) (pos (suc m) *ℤ g) (suc m * nat_abs (g -ℤ l)) u b
  where
    by : (p q : ℤ) (r : ℕ) → q ≡ p +ℤ pos r → 1 ≤ r → p <ℤ q
    by p q r h k = omega (arith, ints, h, k)

down_room : (m : ℕ) (l g : ℤ) → l <ℤ g → (negsuc m *ℤ g) <ℤ (negsuc m *ℤ l)
down_room m l g h =
    let u = down_gap m l g (omega (arith, ints, h)) in
    let one : 1 ≤ nat_abs (g -ℤ l) = omega (arith, ints, h) in
    let b : 1 * 1 ≤ suc m * nat_abs (g -ℤ l) = mul-le-mul (some m) one in
    by (negsuc m *ℤ l) (negsuc m *ℤ g) (suc m * nat_abs (g -ℤ l)) u b
  where
    by : (p q : ℤ) (r : ℕ) → q +ℤ pos r ≡ p → 1 ≤ r → q <ℤ p
    by p q r h k = omega (arith, ints, h, k)

room : (a l g : ℤ) → int_eq a (pos 0) ≡ false → l <ℤ g → (product (point a) (range_of l g)).from <ℤ (product (point a) (range_of l g)).to
room (pos zero) l g n h = absurd (no ((Decides-int_eq (pos 0) (pos 0)).1 refl) n)
  where
    no : int_eq (pos 0) (pos 0) ≡ true → int_eq (pos 0) (pos 0) ≡ false → ⊥
    no h k = cc
room (pos (suc m)) l g n h = omega (arith, ints, clamps, low_of (pos (suc m)) l g, high_of (pos (suc m)) l g, up_room m l g h)
room (negsuc m) l g n h = omega (arith, ints, clamps, low_of (negsuc m) l g, high_of (negsuc m) l g, down_room m l g h)

pub loose_apart : (a : ℤ) (d : Values) → is_domain_left d ≡ true → is_loose a d ≡ true → (term_of a d).from <ℤ (term_of a d).to
loose_apart a d o h =
    room a (least_value d) (greatest_value d) (not_false (int_eq a (pos 0)) (first (not (int_eq a (pos 0))) (not (is_single d)) h))
    (two_apart d o (not_false (is_single d) (second (not (int_eq a (pos 0))) (not (is_single d)) h)))

-- a sum with a term that has room is no single number
pub sum_apart : (ns : List ℤ) (ds : List Values) (k : ℕ) → k < length ns → k < length ds → (term_of (get_or ns k (pos 0)) (get_or ds k [])).from <ℤ (term_of (get_or ns k (pos 0)) (get_or ds k [])).to →
    (sum_range ns ds).from <ℤ (sum_range ns ds).to
sum_apart [] ds k h l r = absurd (omega arith)
sum_apart (n ∷ ns) [] k h l r = absurd (omega arith)
sum_apart (n ∷ ns) (d ∷ ds) zero h l r = by (term_of n d).from (sum_range ns ds).from (term_of n d).to (sum_range ns ds).to r (sum_order ns ds)
  where
    by : (a b c d : ℤ) → a <ℤ c → b ≤ℤ d → (a +ℤ b) <ℤ (c +ℤ d)
    by a b c d h k = omega (arith, ints, h, k)
sum_apart (n ∷ ns) (d ∷ ds) (suc k) h l r = by (term_of n d).from (sum_range ns ds).from (term_of n d).to (sum_range ns ds).to (term_order n d) (sum_apart ns ds k (omega arith) (omega arith) r)
  where
    by : (a b c d : ℤ) → a ≤ℤ c → b <ℤ d → (a +ℤ b) <ℤ (c +ℤ d)
    by a b c d h k = omega (arith, ints, h, k)

pub apart_point : (n : ℤ) (r : Range) → r.from <ℤ r.to → is_point n r ≡ false
apart_point n r h = by (int_eq r.from n) (int_eq r.to n) (λ e f. none r.from r.to h ((Decides-int_eq r.from n).0 e) ((Decides-int_eq r.to n).0 f))
  where
    none : (f t : ℤ) → f <ℤ t → f ≡ n → t ≡ n → ⊥
    none f t h e g = omega (arith, ints, h, e, g)

    by : (a b : Bool) → (a ≡ true → b ≡ true → ⊥) → (a && b) ≡ false
    by true true f = absurd (f refl refl)
    by true false f = refl
    by false b f = refl

-- what is left to the item at a place
pub left_at_place : (box : Box) (xs : List Arg) (k : ℕ) (e : Arg) → k < length xs → get_or (map (left_to box) xs) k [] ≡ left_to box (get_or xs k e)
left_at_place box [] k e h = absurd (omega arith)
left_at_place box (x ∷ xs) zero e h = refl
left_at_place box (x ∷ xs) (suc k) e h = left_at_place box xs k e (omega arith)

pub length_left : (box : Box) (xs : List Arg) → length (map (left_to box) xs) ≡ length xs
length_left box xs = length-map xs (left_to box)

-- a loose place of another variable keeps the sum from being one number
loose_keeps : (c : Rule) (ns : List ℤ) (xs : List Arg) (bound : ℤ) (box : Box) (x : VarId) (v : ℤ) (k : ℕ) (e : Arg) → IsUnequal c box ns xs bound → AlikeOutside xs box (box_at box x.0 v) → list_all (is_open box) xs ≡ true → k < length ns → k < length xs →
    is_loose (get_or ns k (pos 0)) (left_to box (get_or xs k e)) ≡ true → same_variable (get_or xs k e) (Var x) ≡ false → refutes_at c box x.0 v ≡ false
loose_keeps c ns xs bound box x v k e u f o h l s n =
    let at = box_at box x.0 v in
    let ds = map (left_to at) xs in
    let a = get_or ns k (pos 0) in
    let d = left_to box (get_or xs k e) in
    let same : get_or ds k [] ≡ d = left_at_place at xs k e l ∙ other_left box x (v ∷ []) (get_or xs k e) n in
    let P : Values → Type 0 = λ z. (term_of a z).from <ℤ (term_of a z).to in
    u.refuted at f ∙ apart_point bound (sum_range ns ds) (sum_apart ns ds k h (omega (arith, length_left at xs, l)) (subst P (sym same) (loose_apart a d (open_at box xs k e l o) s)))

-- of two variables that differ, one isn't the third
either_differs : (a b z : Arg) → same_variable a b ≡ false → same_variable a z ≡ true → same_variable b z ≡ true → ⊥
either_differs (Var x) (Var y) (Var z) h k l = no x.0 y.0 z.0 h k l
  where
    no : (x y z : ℕ) → (y == x) ≡ false → (z == x) ≡ true → (z == y) ≡ true → ⊥
    no x y z h k l = grind (arith, nat_tests)
either_differs (Var x) (Var y) (Num n) h k l = cc
either_differs (Var x) (Num n) z h k l = cc
either_differs (Num n) b z h k l = cc

two_keep : (c : Rule) (ns : List ℤ) (xs : List Arg) (bound : ℤ) (box : Box) (x : VarId) (v : ℤ) (p q : ℕ) (e : Arg) → IsUnequal c box ns xs bound → AlikeOutside xs box (box_at box x.0 v) → list_all (is_open box) xs ≡ true → length ns ≡ length xs → p < length xs → q < length xs →
    is_loose (get_or ns p (pos 0)) (left_to box (get_or xs p e)) ≡ true → is_loose (get_or ns q (pos 0)) (left_to box (get_or xs q e)) ≡ true → same_variable (get_or xs p e) (get_or xs q e) ≡ false → refutes_at c box x.0 v ≡ false
two_keep c ns xs bound box x v p q e u f o l h k s t d =
    by (same_variable (get_or xs p e) (Var x)) (same_variable (get_or xs q e) (Var x)) (either_differs (get_or xs p e) (get_or xs q e) (Var x) d)
    (loose_keeps c ns xs bound box x v p e u f o (omega (arith, l, h)) h s) (loose_keeps c ns xs bound box x v q e u f o (omega (arith, l, k)) k t)
  where
    by : (a b : Bool) → (a ≡ true → b ≡ true → ⊥) → (a ≡ false → refutes_at c box x.0 v ≡ false) → (b ≡ false → refutes_at c box x.0 v ≡ false) → refutes_at c box x.0 v ≡ false
    by true true n f g = absurd (n refl refl)
    by false b n f g = f refl
    by true false n f g = g refl

pub keeps_both : (c : Rule) (box : Box) (a : Arg) → ((x : VarId) (v : ℤ) → a ≡ Var x → has_value (values_left box x.0) v ≡ true → refutes_at c box x.0 v ≡ false) → ((x : VarId) → a ≡ Var x → is_none_left (values_left box x.0) ≡ false) → keeps_arg c box a ≡ true
keeps_both c box (Num n) f g = refl
keeps_both c box (Var x) f g =
    let d = values_left box x.0 in
    let some = g x refl in
    and_from (not (refutes_at c box x.0 (least_value d))) (not (refutes_at c box x.0 (greatest_value d)))
    (not_from_false (refutes_at c box x.0 (least_value d)) (f x (least_value d) refl (has_least d some)))
    (not_from_false (refutes_at c box x.0 (greatest_value d)) (f x (greatest_value d) refl (has_greatest d some)))

pub open_some : (box : Box) (a : Arg) (x : VarId) → is_open box a ≡ true → a ≡ Var x → is_none_left (values_left box x.0) ≡ false
open_some box a x o h = some_left (values_left box x.0) (ap (is_open box) (sym h) ∙ o)

-- a sum with a loose place isn't one number
loose_apart_point : (ns : List ℤ) (xs : List Arg) (bound : ℤ) (box : Box) (k : ℕ) (e : Arg) → list_all (is_open box) xs ≡ true → k < length ns → k < length xs → is_loose (get_or ns k (pos 0)) (left_to box (get_or xs k e)) ≡ true → is_point bound (sum_range ns (map (left_to box) xs)) ≡ false
loose_apart_point ns xs bound box k e o h l s =
    let a = get_or ns k (pos 0) in
    let ds = map (left_to box) xs in
    let P : Values → Type 0 = λ z. (term_of a z).from <ℤ (term_of a z).to in
    apart_point bound (sum_range ns ds) (sum_apart ns ds k h (omega (arith, length_left box xs, l)) (subst P (sym (left_at_place box xs k e l)) (loose_apart a (left_to box (get_or xs k e)) (open_at box xs k e l o) s)))

-- where two places are loose, of variables that differ, all ends are kept
pub two_loose : (c : Rule) (ns : List ℤ) (xs : List Arg) (bound : ℤ) (box : Box) (p q : ℕ) (e : Arg) → IsUnequal c box ns xs bound → list_all (is_open box) xs ≡ true → length ns ≡ length xs → p < length xs → q < length xs →
    is_loose (get_or ns p (pos 0)) (left_to box (get_or xs p e)) ≡ true → is_loose (get_or ns q (pos 0)) (left_to box (get_or xs q e)) ≡ true → same_variable (get_or xs p e) (get_or xs q e) ≡ false → keeps_ends box c ≡ true
two_loose c ns xs bound box p q e u o l h k s t d =
    u.own box (alike_same xs box) (u.refuted box (alike_same xs box) ∙ loose_apart_point ns xs bound box p e o (omega (arith, l, h)) h s)
    (all_by (keeps_arg c box) xs e
    (λ j m. keeps_both c box (get_or xs j e) (λ x v f g. two_keep c ns xs bound box x v p q e u (alike_at xs box j x (v ∷ []) e m f) o l h k s t d) (λ x f. open_some box (get_or xs j e) x (open_at box xs j e m o) f)))

-- a term that isn't loose stays as it is where a variable takes one of its values
pub no_term : (d : Values) → term_of (pos 0) d ≡ range_of (pos 0) (pos 0)
no_term d = by (pos 0 *ℤ least_value d) (pos 0 *ℤ greatest_value d) (zero-*ℤ (least_value d)) (zero-*ℤ (greatest_value d))
  where
    by : (p q : ℤ) → p ≡ pos 0 → q ≡ pos 0 → range_of_list (p ∷ q ∷ p ∷ q ∷ []) ≡ range_of (pos 0) (pos 0)
    by p q h k = ap (λ z. range_of_list (z ∷ q ∷ z ∷ q ∷ [])) h ∙ ap (λ z. range_of_list (pos 0 ∷ z ∷ pos 0 ∷ z ∷ [])) k

pub only_value : (d : Values) (v : ℤ) → is_single d ≡ true → has_value d v ≡ true → v ∷ [] ≡ d
only_value [] v s h = cc
only_value (w ∷ []) v s h = ap (λ z. z ∷ []) (by (int_eq v w) (Decides-int_eq v w).0 h)
  where
    by : (b : Bool) → (b ≡ true → v ≡ w) → (b || false) ≡ true → v ≡ w
    by true e f = e refl
    by false e f = cc
only_value (w ∷ u ∷ d) v s h = cc

tight_left : (box : Box) (x : VarId) (v : ℤ) (a : Arg) → x.0 < length box → has_value (values_left box x.0) v ≡ true → is_single (left_to box a) ≡ true → left_to (box_at box x.0 v) a ≡ left_to box a
tight_left box x v a m h s = by (same_variable a (Var x)) a refl s
  where
    by : (b : Bool) (a : Arg) → same_variable a (Var x) ≡ b → is_single (left_to box a) ≡ true → left_to (box_at box x.0 v) a ≡ left_to box a
    by false a e s = other_left box x (v ∷ []) a e
    by true (Num n) e s = cc
    by true (Var y) e s =
        let q : y.0 ≡ x.0 = sym (same x.0 y.0 e) in
        let one : values_left (box_at box x.0 v) y.0 ≡ v ∷ [] = ap (values_left (box_at box x.0 v)) q ∙ get_or-set_same box x.0 (v ∷ []) [] m in
        let here : has_value (values_left box y.0) v ≡ true = ap (λ k. has_value (values_left box k) v) q ∙ h in
        one ∙ only_value (values_left box y.0) v s here
      where
        same : (a b : ℕ) → (a == b) ≡ true → a ≡ b
        same a b h = grind (arith, nat_tests)

tight_term : (box : Box) (x : VarId) (v : ℤ) (n : ℤ) (a : Arg) → x.0 < length box → has_value (values_left box x.0) v ≡ true → is_loose n (left_to box a) ≡ false → term_of n (left_to (box_at box x.0 v) a) ≡ term_of n (left_to box a)
tight_term box x v n a m h t = by (int_eq n (pos 0)) (is_single (left_to box a)) ((Decides-int_eq n (pos 0)).0) (tight_left box x v a m h) t
  where
    by : (z s : Bool) → (z ≡ true → n ≡ pos 0) → (s ≡ true → left_to (box_at box x.0 v) a ≡ left_to box a) → (not z && not s) ≡ false → term_of n (left_to (box_at box x.0 v) a) ≡ term_of n (left_to box a)
    by true s e f t =
        let q = e refl in
        ap (λ k. term_of k (left_to (box_at box x.0 v) a)) q ∙ (no_term (left_to (box_at box x.0 v) a) ∙ (sym (no_term (left_to box a)) ∙ sym (ap (λ k. term_of k (left_to box a)) q)))
    by false true e f t = ap (term_of n) (f refl)
    by false false e f t = cc

stays_term : (box : Box) (x : VarId) (v : ℤ) (n : ℤ) (a : Arg) → x.0 < length box → has_value (values_left box x.0) v ≡ true → (is_loose n (left_to box a) ≡ false) ⊎ (same_variable a (Var x) ≡ false) → term_of n (left_to (box_at box x.0 v) a) ≡ term_of n (left_to box a)
stays_term box x v n a m h (inl t) = tight_term box x v n a m h t
stays_term box x v n a m h (inr d) = ap (term_of n) (other_left box x (v ∷ []) a d)

-- so does the sum, where the variable's own terms aren't loose
pub stays_sum : (ns : List ℤ) (xs : List Arg) (box : Box) (x : VarId) (v : ℤ) (e : Arg) → x.0 < length box → has_value (values_left box x.0) v ≡ true → length ns ≡ length xs →
    ((j : ℕ) → j < length xs → (is_loose (get_or ns j (pos 0)) (left_to box (get_or xs j e)) ≡ false) ⊎ (same_variable (get_or xs j e) (Var x) ≡ false)) → sum_range ns (map (left_to (box_at box x.0 v)) xs) ≡ sum_range ns (map (left_to box) xs)
stays_sum [] xs box x v e m h l f = refl
stays_sum (n ∷ ns) [] box x v e m h l f = refl
stays_sum (n ∷ ns) (a ∷ xs) box x v e m h l f =
    let at = box_at box x.0 v in
    ap (λ t. range_sum t (sum_range ns (map (left_to at) xs))) (stays_term box x v n a m h (f 0 (omega arith)))
    ∙ ap (range_sum (term_of n (left_to box a))) (stays_sum ns xs box x v e m h (omega (arith, l)) (λ j k. f (suc j) (omega (arith, k))))

-- where no place is loose, the constraint is decided
pub none_loose : (c : Rule) (ns : List ℤ) (xs : List Arg) (bound : ℤ) (box : Box) (e : Arg) → IsUnequal c box ns xs bound → list_all (is_open box) xs ≡ true → length ns ≡ length xs → ((j : ℕ) (x : VarId) → j < length xs → get_or xs j e ≡ Var x → x.0 < length box) →
    ((j : ℕ) → j < length xs → is_loose (get_or ns j (pos 0)) (left_to box (get_or xs j e)) ≡ false) → is_point bound (sum_range ns (map (left_to box) xs)) ≡ false → keeps_ends box c ≡ true
none_loose c ns xs bound box e u o l m f r =
    u.own box (alike_same xs box) (u.refuted box (alike_same xs box) ∙ r)
    (all_by (keeps_arg c box) xs e
    (λ j k. keeps_both c box (get_or xs j e) (λ x v h g. u.refuted (box_at box x.0 v) (alike_at xs box j x (v ∷ []) e k h) ∙ (ap (is_point bound) (stays_sum ns xs box x v e (m j x k h) g l (λ i q. inl (f i q))) ∙ r)) (λ x h. open_some box (get_or xs j e) x (open_at box xs j e k o) h)))
