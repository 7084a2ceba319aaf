-- Where items begin and end, counted from the least number that there is.
use Rattle.std.proofs.Common.{◌≡◌, ℕ, suc, ◌+◌, ◌<◌, ◌≤◌, Bool, true, false, ◌&&◌, cond, List, [], ◌∷◌, length, map, get_or, set, nat_le, refl, sym, ap, ◌∙◌, subst, arith, ℤ, IsPermutation}
use Rattle.std.specs.Prelude.{pos, negsuc, ◌+ℤ◌, ◌-ℤ◌, ◌≤ℤ◌, int_le, int_lt, nat_abs}
use Rattle.std.specs.List.{All, Contains, count_by, list_all}
use Rattle.std.proofs.lemmas.Bool.Decides.{nat_tests}
use Rattle.std.proofs.lemmas.Int.{ints}
use Rattle.std.proofs.lemmas.List.{length-map, get_or_default, get_or-set_same, get_or-set_other}
use Rattle.std.proofs.lemmas.List.Elements.{All-from_get_or, Contains-get_or}
use Rattle.std.proofs.lemmas.List.Sorted.{All-permutation, Contains-permutation, sum_by-IsPermutation}
use Rattle.std.proofs.lemmas.List.Sums.{sum_by-cons}
use Rattle.std.proofs.lemmas.Bool.{and_parts}
use Rattle.qc_model.specs.declared.problem.Arg.{Arg}
use Rattle.qc_model.specs.declared.problem.Arg.TheVariants.{Var}
use Rattle.qc_model.specs.Domains.{Values, Box, least_value, greatest_value}
use Rattle.qc_model.specs.Left.{is_crowded, has_crowd}
use Rattle.qc_model.specs.Refuted.{left_to}
use Rattle.qc_model.specs.Valid.{is_number}
use Rattle.model_table.proofs.Crowded.{ends_within}
use Rattle.model_table.proofs.CrowdEnds.{crowd_of_ends}
use Rattle.qc_refuter.specs.declared.stretches.Ends.{Ends}
use Rattle.qc_refuter.specs.Met.{is_open, is_domain_left}
use Rattle.qc_refuter.specs.Stretches.{lies, AreEndsOf, IsPlaced}
use Rattle.qc_refuter.proofs.Fill.{least_to_greatest, none_any, IsUncrowded, uncrowded, one_more}
use Rattle.qc_refuter.proofs.Seated.{AreUncrowded}
use Rattle.qc_refuter.proofs.Terms.{greatest_small, open_at, item_left}

pub from_least : (v : ℤ) → is_number v ≡ true → negsuc 999999999 ≤ℤ v
from_least v h = grind (arith, ints, nat_tests)

up_to_greatest : (v : ℤ) → is_number v ≡ true → v ≤ℤ pos 1000000000
up_to_greatest v h = grind (arith, ints, nat_tests)

-- the number that is counted as n
abbrev number_at : ℕ → ℤ
number_at n = pos n -ℤ pos 1000000000

lies_alike : (l h : ℕ) (d : Values) (e : Ends) → AreEndsOf d e → lies l h e ≡ ends_within (number_at l) (number_at h) d
lies_alike l h d e s = by (nat_le l e.low) (nat_le e.high h) (int_le (number_at l) (least_value d)) (int_le (greatest_value d) (number_at h)) (low l e.low (least_value d) s.low) (high h e.high (greatest_value d) s.high)
  where
    low : (l n : ℕ) (v : ℤ) → pos n ≡ v +ℤ pos 1000000000 → nat_le l n ≡ int_le (number_at l) v
    low l n v q = grind (arith, ints, nat_tests)

    high : (h n : ℕ) (v : ℤ) → pos n ≡ v +ℤ pos 1000000000 → nat_le n h ≡ int_le v (number_at h)
    high h n v q = grind (arith, ints, nat_tests)

    by : (a b p q : Bool) → a ≡ p → b ≡ q → (a && b) ≡ (p && q)
    by a b p q f g = cc

-- as many lie in a range by their ends as by their values
ends_count : (ds : List Values) (es : List Ends) (z : Ends) → length ds ≡ length es → ((k : ℕ) → k < length es → AreEndsOf (get_or ds k []) (get_or es k z)) → (l h : ℕ) →
    count_by (lies l h) es ≡ count_by (ends_within (number_at l) (number_at h)) ds
ends_count [] [] z n f l h = refl
ends_count [] (e ∷ es) z n f l h = absurd (omega (arith, n))
ends_count (d ∷ ds) [] z n f l h = absurd (omega (arith, n))
ends_count (d ∷ ds) (e ∷ es) z n f l h =
    omega (arith, sum_by-cons (λ y. cond (lies l h y) 1 0) e es, sum_by-cons (λ y. cond (ends_within (number_at l) (number_at h) y) 1 0) d ds, ap {B = ℕ} (λ b. cond b 1 0) (lies_alike l h d e (f 0 (omega arith))), ends_count ds es z (omega (arith, n)) (λ k m. f (suc k) (omega (arith, m))) l h)

-- more items than numbers, and never more
crowd_counted : (ds : List Values) (l h c : ℕ) → l ≤ h → h + 1 < l + c → c ≡ count_by (ends_within (number_at l) (number_at h)) ds → has_crowd ds ≡ true
crowd_counted ds l h c m k e =
    crowd_of_ends ds (number_at l) (number_at h) (subst (λ n. (int_le (number_at l) (number_at h) && int_lt ((number_at h -ℤ number_at l) +ℤ pos 1) (pos n)) ≡ true) e (joined (int_le (number_at l) (number_at h)) (int_lt ((number_at h -ℤ number_at l) +ℤ pos 1) (pos c)) order more))
  where
    order : int_le (number_at l) (number_at h) ≡ true
    order = grind (arith, ints)

    more : int_lt ((number_at h -ℤ number_at l) +ℤ pos 1) (pos c) ≡ true
    more = grind (arith, ints)

    joined : (a b : Bool) → a ≡ true → b ≡ true → (a && b) ≡ true
    joined a b p q = cc

none_crowded : (ds : List Values) (l : ℕ) (v : ℤ) → pos l ≡ v +ℤ pos 1000000000 → ((h : ℕ) → l ≤ h → l + count_by (ends_within (number_at l) (number_at h)) ds ≤ h + 1) → (z : ℤ) → is_crowded ds v z ≡ false
none_crowded ds l v e f z = by (is_crowded ds v z) refl
  where
    clash : (c h : ℕ) → z ≡ number_at h → int_lt ((z -ℤ v) +ℤ pos 1) (pos c) ≡ true → l + c ≤ h + 1 → ⊥
    clash c h q p k = omega (arith, ints, e, q, p, k)

    from : v ≡ number_at l
    from = omega (arith, ints, e)

    by : (b : Bool) → is_crowded ds v z ≡ b → b ≡ false
    by false q = refl
    by true q =
        let p = and_parts (int_le v z) (int_lt ((z -ℤ v) +ℤ pos 1) (pos (count_by (ends_within v z) ds))) q in
        let h = l + nat_abs (z -ℤ v) in
        let to : z ≡ number_at h = omega (arith, ints, e, p.0) in
        let few : l + count_by (ends_within v z) ds ≤ h + 1 = subst (λ y. l + count_by (ends_within v y) ds ≤ h + 1) (sym to) (subst (λ x. l + count_by (ends_within x (number_at h)) ds ≤ h + 1) (sym from) (f h (omega arith))) in
        absurd (clash (count_by (ends_within v z) ds) h to p.1 few)

-- the ends of items as they were read, and in order
pub record AreRead (box : Box) (items : List Arg) (ends sorted : List Ends) (lows ordered : List ℕ) : Type 0 where
  pub met : list_all (is_open box) items ≡ true
  pub many_ends : length ends ≡ length items
  pub many_lows : length lows ≡ length items
  pub ends_of : (k : ℕ) (e : Ends) → k < length items → AreEndsOf (get_or (map (left_to box) items) k []) (get_or ends k e)
  pub lows_of : (k : ℕ) (e : Ends) → k < length items → get_or lows k 0 ≡ (get_or ends k e).low
  pub same_ends : IsPermutation ends sorted
  pub same_lows : IsPermutation lows ordered

-- each begins at a least value
placed_one : (box : Box) (items : List Arg) (ends sorted : List Ends) (lows ordered : List ℕ) → AreRead box items ends sorted lows ordered → (k : ℕ) (z : Ends) → k < length items → IsPlaced ordered (get_or ends k z)
placed_one box items ends sorted lows ordered r k z h =
    let low = get_or lows k 0 in
    let m : Contains ordered low = Contains-permutation lows ordered low r.same_lows (Contains-get_or lows k 0 (omega (arith, h, r.many_lows))) in
    let d = get_or (map (left_to box) items) k [] in
    let e = r.ends_of k z h in
    let a : Arg = Var (record { 0 = 0 }) in
    let open_one : is_domain_left d ≡ true = subst (λ y. is_domain_left y ≡ true) (sym (item_left box items k a h)) (open_at box items k a h r.met) in
    let few = up_to_greatest (greatest_value d) (greatest_small d open_one) in
    record {
      place = m.0;
      within = m.1;
      begins = get_or_default ordered m.0 0 low m.1 ∙ (m.2 ∙ r.lows_of k z h);
      order = omega (arith, ints, e.low, e.high, least_to_greatest d);
      small = omega (arith, ints, e.high, few);
    }

pub placed_all : (box : Box) (items : List Arg) (ends sorted : List Ends) (lows ordered : List ℕ) → AreRead box items ends sorted lows ordered → All (IsPlaced ordered) sorted
placed_all box items ends sorted lows ordered r =
    let z : Ends = record { low = 0; high = 0 } in
    All-permutation (IsPlaced ordered) ends sorted r.same_ends (All-from_get_or (IsPlaced ordered) ends z (λ k h. placed_one box items ends sorted lows ordered r k z (omega (arith, h, r.many_ends))))

-- and as many lie in each range
sorted_count : (box : Box) (items : List Arg) (ends sorted : List Ends) (lows ordered : List ℕ) → AreRead box items ends sorted lows ordered → (l h : ℕ) → count_by (lies l h) sorted ≡ count_by (ends_within (number_at l) (number_at h)) (map (left_to box) items)
sorted_count box items ends sorted lows ordered r l h =
    let z : Ends = record { low = 0; high = 0 } in
    sum_by-IsPermutation (λ e. cond (lies l h e) 1 0) ends sorted r.same_ends
    ∙ ends_count (map (left_to box) items) ends z (length-map items (left_to box) ∙ sym r.many_ends) (λ k m. r.ends_of k z (omega (arith, m, r.many_ends))) l h

crowd_read : (box : Box) (items : List Arg) (ends sorted : List Ends) (lows ordered : List ℕ) → AreRead box items ends sorted lows ordered → (l : ℕ) × (h : ℕ) × (l ≤ h) × (h + 1 < l + count_by (lies l h) sorted) →
    has_crowd (map (left_to box) items) ≡ true
crowd_read box items ends sorted lows ordered r q =
    crowd_counted (map (left_to box) items) q.0 q.1 (count_by (lies q.0 q.1) sorted) q.2 q.3 (sorted_count box items ends sorted lows ordered r q.0 q.1)

none_read : (box : Box) (items : List Arg) (ends sorted : List Ends) (lows ordered : List ℕ) → AreRead box items ends sorted lows ordered → AreUncrowded ordered sorted → has_crowd (map (left_to box) items) ≡ false
none_read box items ends sorted lows ordered r none = uncrowded ds one
  where
    ds : List Values
    ds = map (left_to box) items

    z : Ends
    z = record { low = 0; high = 0 }

    few : (k : ℕ) → k < length items → (h : ℕ) → (get_or ends k z).low ≤ h → (get_or ends k z).low + count_by (ends_within (number_at (get_or ends k z).low) (number_at h)) ds ≤ h + 1
    few k m h p =
        let s = placed_one box items ends sorted lows ordered r k z m in
        subst (λ n. (get_or ends k z).low + n ≤ h + 1) (sorted_count box items ends sorted lows ordered r (get_or ends k z).low h)
        (subst (λ l. l ≤ h → l + count_by (lies l h) sorted ≤ h + 1) s.begins (none s.place h s.within) p)

    one : (k : ℕ) → k < length ds → IsUncrowded ds k
    one k h =
        let m : k < length items = omega (arith, h, length-map items (left_to box)) in
        none_any (λ e. is_crowded ds (least_value (get_or ds k [])) (greatest_value e)) ds
        (λ e. none_crowded ds (get_or ends k z).low (least_value (get_or ds k [])) (r.ends_of k z m).low (few k m) (greatest_value e))

pub told : (box : Box) (items : List Arg) (ends sorted : List Ends) (lows ordered : List ℕ) → AreRead box items ends sorted lows ordered → (b : Bool) →
    (b ≡ true → (l : ℕ) × (h : ℕ) × (l ≤ h) × (h + 1 < l + count_by (lies l h) sorted)) → (b ≡ false → AreUncrowded ordered sorted) → b ≡ has_crowd (map (left_to box) items)
told box items ends sorted lows ordered r true f g = sym (crowd_read box items ends sorted lows ordered r (f refl))
told box items ends sorted lows ordered r false f g = sym (none_read box items ends sorted lows ordered r (g refl))

-- the ends of one item more were read, and put at the next place
pub ends_more : (box : Box) (items : List Arg) (ends : List Ends) (k : ℕ) (r : Ends) → k < length items → k < length ends → AreEndsOf (left_to box (get_or items k (Var (record { 0 = 0 })))) r →
    ((j : ℕ) (e : Ends) → j < k → AreEndsOf (get_or (map (left_to box) items) j []) (get_or ends j e)) →
    (j : ℕ) (e : Ends) → j < k + 1 → AreEndsOf (get_or (map (left_to box) items) j []) (get_or (set ends k r) j e)
ends_more box items ends k r h m a told j e l =
    one_more (λ i. AreEndsOf (get_or (map (left_to box) items) i []) (get_or (set ends k r) i e)) k
    (λ i n. subst (AreEndsOf (get_or (map (left_to box) items) i [])) (sym (get_or-set_other ends k i r e (λ q. omega (arith, q, n)))) (told i e n))
    (subst (λ d. AreEndsOf d (get_or (set ends k r) k e)) (sym (item_left box items k (Var (record { 0 = 0 })) h))
    (subst (AreEndsOf (left_to box (get_or items k (Var (record { 0 = 0 }))))) (sym (get_or-set_same ends k r e m)) a))
    j l

-- where they begin was put at the same place
pub lows_more : (ends : List Ends) (lows : List ℕ) (k : ℕ) (r : Ends) → k < length ends → k < length lows →
    ((j : ℕ) (e : Ends) → j < k → get_or lows j 0 ≡ (get_or ends j e).low) →
    (j : ℕ) (e : Ends) → j < k + 1 → get_or (set lows k r.low) j 0 ≡ (get_or (set ends k r) j e).low
lows_more ends lows k r h m told j e l =
    one_more (λ i. get_or (set lows k r.low) i 0 ≡ (get_or (set ends k r) i e).low) k
    (λ i n. get_or-set_other lows k i r.low 0 (λ q. omega (arith, q, n)) ∙ (told i e n ∙ sym (ap (λ (o : Ends). o.low) (get_or-set_other ends k i r e (λ q. omega (arith, q, n))))))
    (get_or-set_same lows k r.low 0 m ∙ sym (ap (λ (o : Ends). o.low) (get_or-set_same ends k r e h)))
    j l
