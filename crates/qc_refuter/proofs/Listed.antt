-- Numbers in ascending order, and the members of a set from a number on.
use Rattle.std.proofs.Common.{◌≡◌, ℕ, zero, suc, ◌<◌, ◌≤◌, ◌+◌, ◌⊎◌, inl, inr, Bool, true, false, not, ◌&&◌, ◌||◌, List, [], ◌∷◌, Option, None, Some, length, get_or, refl, sym, ap, ◌∙◌, subst, arith, ℤ, Ok, Err, IsTrue, add-one}
use Rattle.std.specs.Prelude.{pos, ◌<ℤ◌, ◌≤ℤ◌, nat_abs, ◌-ℤ◌, int_lt, int_le, nat_le}
use Rattle.std.specs.List.{list_any, list_all}
use Rattle.std.specs.List.Sorted.{IsBinarySearchResult, IsSearchInRange, IsSortedBy}
use Rattle.std.specs.Ordering.{int_eq, int_cmp, is_lt, MatchOrdering}
use Rattle.std.specs.declared.cmp.Ordering.{Ordering}
use Rattle.std.specs.declared.cmp.Ordering.TheVariants.{Less, Equal, Greater}
use Rattle.std.proofs.lemmas.Int.{ints}
use Rattle.std.proofs.lemmas.Cmp.{int_ranked, int_cmp_total}
use Rattle.std.proofs.lemmas.Bool.Decides.{Decides-int_eq, nat_tests}
use Rattle.std.proofs.lemmas.List.Sorted.{searchable_from_sorted}
use Rattle.std.proofs.lemmas.Bool.{false_from_ne_true}
use Rattle.qc_model.specs.declared.problem.Argument.{Argument}
use Rattle.qc_model.specs.declared.problem.Argument.TheVariants.{One, Many, Numbers, Members}
use Rattle.qc_model.specs.declared.problem.Set.{Set}
use Rattle.qc_model.specs.declared.problem.Set.TheVariants.{Range as SetRange, Listed as SetListed}
use Rattle.qc_model.specs.Arguments.{members}
use Rattle.qc_model.specs.Domains.{Values, Box, has_value, set_has, is_ascending, is_none_left, is_within, least_value, greatest_value}
use Rattle.qc_model.specs.Holds.{same_truth}
use Rattle.qc_model.specs.Valid.{is_set, is_number, is_listed, has_gap}
use Rattle.qc_model.proofs.Readable.{first, second}
use Rattle.model_arguments.specs.Written.{set_at}
use Rattle.model_arguments.proofs.Values.{value_passes, above_first, ascending_rest, has_least, has_greatest}
use Rattle.model_arguments.proofs.Bools.{clash}
use Rattle.model_arguments.proofs.Kept.{low_end, high_end, through, apart, same_end, lower, reaches, at_least, at_most, small_between, is_out_low, is_out_high, under_high}
use Rattle.qc_refuter.specs.Members.{IsMemberFrom, NoMemberFrom}
use Rattle.qc_refuter.specs.Met.{lefts, is_domain_left, is_met, are_met}
use Rattle.qc_refuter.proofs.Commons.{IsFrom}
use Rattle.qc_refuter.proofs.Domains.{some_left}
use Rattle.qc_refuter.proofs.Walks.{IsWalked, some_found, none_passes}

-- numbers in ascending order
pub less_by : (a b : ℤ) → int_lt a b ≡ true → a <ℤ b
less_by a b h = grind (arith, ints)

pub all_at : (p : ℤ → Bool) (xs : List ℤ) (k : ℕ) (d : ℤ) → list_all p xs ≡ true → k < length xs → p (get_or xs k d) ≡ true
all_at p [] k d h m = absurd (omega arith)
all_at p (x ∷ xs) zero d h m = first (p x) (list_all p xs) h
all_at p (x ∷ xs) (suc k) d h m = all_at p xs k d (second (p x) (list_all p xs) h) (omega arith)

rising : (xs : List ℤ) (j k : ℕ) → is_ascending xs ≡ true → j < k → k < length xs → get_or xs j (pos 0) <ℤ get_or xs k (pos 0)
rising [] j k a h m = absurd (omega arith)
rising (x ∷ xs) j zero a h m = absurd (omega arith)
rising (x ∷ xs) zero (suc k) a h m = less_by x (get_or xs k (pos 0)) (all_at (int_lt x) xs k (pos 0) (above_first x xs a) (omega arith))
rising (x ∷ xs) (suc j) (suc k) a h m = rising xs j k (ascending_rest x xs a) (omega arith) (omega arith)

-- where a search ended
cmp_less : (x y : ℤ) → int_cmp y x ≡ Less → y <ℤ x
cmp_less x y e = go (int_cmp y x) (int_ranked y x (int_cmp y x) refl) e
  where
    go : (o : Ordering) → MatchOrdering o (y <ℤ x) (y ≡ x) (x <ℤ y) → o ≡ Less → y <ℤ x
    go Less q e = q
    go Equal q e = cc
    go Greater q e = cc

cmp_greater : (x y : ℤ) → int_cmp y x ≡ Greater → x <ℤ y
cmp_greater x y e = go (int_cmp y x) (int_ranked y x (int_cmp y x) refl) e
  where
    go : (o : Ordering) → MatchOrdering o (y <ℤ x) (y ≡ x) (x <ℤ y) → o ≡ Greater → x <ℤ y
    go Less q e = cc
    go Equal q e = cc
    go Greater q e = q

cmp_equal : (x y : ℤ) → int_cmp y x ≡ Equal → y ≡ x
cmp_equal x y e = go (int_cmp y x) (int_ranked y x (int_cmp y x) refl) e
  where
    go : (o : Ordering) → MatchOrdering o (y <ℤ x) (y ≡ x) (x <ℤ y) → o ≡ Equal → y ≡ x
    go Less q e = cc
    go Equal q e = q
    go Greater q e = cc

ascends_at : (xs : List ℤ) (k : ℕ) (d : ℤ) → is_ascending xs ≡ true → suc k < length xs → int_lt (get_or xs k d) (get_or xs (suc k) d) ≡ true
ascends_at [] k d h m = absurd (omega arith)
ascends_at (x ∷ []) k d h m = absurd (omega arith)
ascends_at (x ∷ y ∷ xs) zero d h m = first (int_lt x y) (is_ascending (y ∷ xs)) h
ascends_at (x ∷ y ∷ xs) (suc k) d h m = ascends_at (y ∷ xs) k d (second (int_lt x y) (is_ascending (y ∷ xs)) h) (omega arith)

not_lower : (a b : ℤ) → int_lt a b ≡ true → is_lt (int_cmp b a) ≡ false
not_lower a b h = go (int_cmp b a) (int_ranked b a (int_cmp b a) refl)
  where
    go : (o : Ordering) → MatchOrdering o (b <ℤ a) (b ≡ a) (a <ℤ b) → is_lt o ≡ false
    go Less q = absurd (omega (arith, ints, q))
    go Equal q = refl
    go Greater q = refl

sorted : (xs : List ℤ) → is_ascending xs ≡ true → IsSortedBy (λ a b. is_lt (int_cmp a b)) xs
sorted xs h k d low m = rw add-one (not_lower (get_or xs k d) (get_or xs (suc k) d) (ascends_at xs k d h (omega arith)))

pub found_from : (xs : List ℤ) (x : ℤ) (i j : ℕ) → IsTrue (is_ascending xs) → IsSearchInRange (Ok i) (length xs) → IsBinarySearchResult (λ y. int_cmp y x) xs (Ok i) → j < i → get_or xs j (pos 0) <ℤ x
found_from xs x i j up within at h = subst (λ z. get_or xs j (pos 0) <ℤ z) (cmp_equal x (get_or xs i (pos 0)) (at (pos 0))) (rising xs j i up h within)

pub found_past : (xs : List ℤ) (x : ℤ) (i j : ℕ) → IsTrue (is_ascending xs) → IsBinarySearchResult (λ y. int_cmp y x) xs (Ok i) → i + 1 ≤ j → j < length xs → x <ℤ get_or xs j (pos 0)
found_past xs x i j up at h m = subst (λ z. z <ℤ get_or xs j (pos 0)) (cmp_equal x (get_or xs i (pos 0)) (at (pos 0))) (rising xs i j up (omega (arith, h)) m)

pub missed_from : (xs : List ℤ) (x : ℤ) (i j : ℕ) → IsTrue (is_ascending xs) → IsSearchInRange (Err i) (length xs) → IsBinarySearchResult (λ y. int_cmp y x) xs (Err i) → j < i → get_or xs j (pos 0) <ℤ x
missed_from xs x i j up within at l =
    let parted = at (searchable_from_sorted int_cmp_total (λ y. y) xs x (sorted xs up)) in
    cmp_less x (get_or xs j (pos 0)) (parted.0 j (pos 0) (omega arith) l)

pub missed_past : (xs : List ℤ) (x : ℤ) (i j : ℕ) → IsTrue (is_ascending xs) → IsSearchInRange (Err i) (length xs) → IsBinarySearchResult (λ y. int_cmp y x) xs (Err i) → i ≤ j → j < length xs → x <ℤ get_or xs j (pos 0)
missed_past xs x i j up within at l m =
    let parted = at (searchable_from_sorted int_cmp_total (λ y. y) xs x (sorted xs up)) in
    cmp_greater x (get_or xs j (pos 0)) (parted.1 j (pos 0) l m)

pub listed_at : (ns : List ℤ) (k : ℕ) → k < length ns → list_any (int_eq (get_or ns k (pos 0))) ns ≡ true
listed_at [] k h = absurd (omega arith)
listed_at (n ∷ ns) zero h = here (int_eq n n) ((Decides-int_eq n n).1 refl)
  where
    here : (b : Bool) → b ≡ true → (b || list_any (int_eq n) ns) ≡ true
    here true e = refl
    here false e = cc
listed_at (n ∷ ns) (suc k) h = later (int_eq (get_or ns k (pos 0)) n) (list_any (int_eq (get_or ns k (pos 0))) ns) (listed_at ns k (omega arith))
  where
    later : (a b : Bool) → b ≡ true → (a || b) ≡ true
    later true b e = refl
    later false b e = e

-- the place of a number of the list
pub record IsPlaced (ns : List ℤ) (u : ℤ) : Type 0 where
  pub at : ℕ
  pub within : at < length ns
  pub is : get_or ns at (pos 0) ≡ u

pub placed : (ns : List ℤ) (u : ℤ) → list_any (int_eq u) ns ≡ true → IsPlaced ns u
placed [] u h = cc
placed (n ∷ ns) u h = by (int_eq u n) (Decides-int_eq u n).0 (placed ns u) h
  where
    by : (b : Bool) → (b ≡ true → u ≡ n) → (list_any (int_eq u) ns ≡ true → IsPlaced ns u) → (b || list_any (int_eq u) ns) ≡ true → IsPlaced (n ∷ ns) u
    by true e f k = record { at = 0; within = omega arith; is = sym (e refl) }
    by false e f k = let p = f k in let m = p.within in record { at = suc p.at; within = omega (arith, m); is = p.is }

-- the least number from v on, where a search for it ended
pub same_most : (v : ℤ) → v ≤ℤ v
same_most v = grind (arith, ints)

pub less_most : (u v : ℤ) → u <ℤ v → u ≤ℤ v
less_most u v h = omega (arith, ints, h)

pub found_here : (ns : List ℤ) (v : ℤ) (i : ℕ) → IsSearchInRange (Ok i) (length ns) → IsBinarySearchResult (λ y. int_cmp y v) ns (Ok i) → IsMemberFrom (SetListed ns) v v
found_here ns v i within at = record {
  up = same_most v;
  member = subst (λ z. list_any (int_eq z) ns ≡ true) (cmp_equal v (get_or ns i (pos 0)) (at (pos 0))) (listed_at ns i within);
  all = λ u l m. l;
}

pub found_next : (ns : List ℤ) (v : ℤ) (i : ℕ) → IsTrue (is_ascending ns) → IsSearchInRange (Err i) (length ns) → IsBinarySearchResult (λ y. int_cmp y v) ns (Err i) → i < length ns → IsMemberFrom (SetListed ns) v (get_or ns i (pos 0))
found_next ns v i up within at h = record {
  up = less_most v (get_or ns i (pos 0)) (missed_past ns v i i up within at (omega arith) h);
  member = listed_at ns i h;
  all = λ u l m. let p = placed ns u m in
      let w = p.within in
      subst (λ z. get_or ns i (pos 0) ≤ℤ z) p.is (elim (order p.at i) [
        | inl b ↦ absurd (apart u v (subst (λ z. z <ℤ v) p.is (missed_from ns v i p.at up within at b)) l)
        | inr (inl e) ↦ subst (λ k. get_or ns i (pos 0) ≤ℤ get_or ns k (pos 0)) (sym e) (same_most (get_or ns i (pos 0)))
        | inr (inr b) ↦ less_most (get_or ns i (pos 0)) (get_or ns p.at (pos 0)) (rising ns i p.at up b w)
      ]);
}
  where
    order : (j i : ℕ) → (j < i) ⊎ ((j ≡ i) ⊎ (i < j))
    order j i = grind (arith, nat_tests)

pub found_none : (ns : List ℤ) (v : ℤ) (i : ℕ) → IsTrue (is_ascending ns) → IsSearchInRange (Err i) (length ns) → IsBinarySearchResult (λ y. int_cmp y v) ns (Err i) → length ns ≤ i → NoMemberFrom (SetListed ns) v
found_none ns v i up within at h u l m =
    let p = placed ns u m in
    let w = p.within in
    apart u v (subst (λ z. z <ℤ v) p.is (missed_from ns v i p.at up within at (omega (arith, w, h)))) l

-- members are numbers
pub member_small : (s : Set) (m : ℤ) → is_set s ≡ true → set_has s m ≡ true → is_number m ≡ true
member_small (SetRange low high) m h k =
    let b = first (is_number low && is_number high) (int_le low high) h in
    small_between low high m (first (is_number low) (is_number high) b) (second (is_number low) (is_number high) b) (at_least low high m k) (at_most low high m k)
member_small (SetListed ns) m h k =
    let few = nat_le (length ns) 100000 in
    value_passes is_number ns m (second few (list_all is_number ns) (first (few && list_all is_number ns) (is_ascending ns) (first (is_listed ns) (is_none_left ns || has_gap ns) h))) k

-- from value to member: what comes from the walk's number on
reached : (v u : ℤ) → (u <ℤ v → ⊥) → v ≤ℤ u
reached v u f = by (int_lt u v) refl
  where
    by : (t : Bool) → int_lt u v ≡ t → v ≤ℤ u
    by true e = absurd (f (lower u v e))
    by false e = reaches u v e

member_after : (s : Set) (d : Values) (v w u : ℤ) → IsWalked (set_has s) d v → IsFrom d v w → has_value d u ≡ true → set_has s u ≡ true → w ≤ℤ u
member_after s d v w u f n h i = n.all u h (reached v u (λ l. clash (set_has s u) i (f u h l)))

pub walked_to : (s : Set) (d : Values) (v w m : ℤ) → IsWalked (set_has s) d v → IsFrom d v w → IsMemberFrom s w m → IsWalked (set_has s) d m
walked_to s d v w m f n k u h l = false_from_ne_true (set_has s u) (λ i. apart u m l (k.all u (member_after s d v w u f n h i) i))

pub all_walked : (s : Set) (d : Values) (v w : ℤ) → IsWalked (set_has s) d v → IsFrom d v w → NoMemberFrom s w → false ≡ list_any (set_has s) d
all_walked s d v w f n k = none_passes (set_has s) d (λ u h. false_from_ne_true (set_has s u) (λ i. k u (member_after s d v w u f n h i) i))

pub met : (s : Set) (d : Values) (v w m : ℤ) → IsFrom d v w → IsMemberFrom s w m → int_le m w ≡ true → true ≡ list_any (set_has s) d
met s d v w m n k t = some_found (set_has s) d w n.there (subst (λ z. set_has s z ≡ true) (same_end m w (ordered m w t) k.up) k.member)
  where
    ordered : (a b : ℤ) → int_le a b ≡ true → a ≤ℤ b
    ordered a b h = grind (arith, ints)

pub member_walk_smaller : (s : Set) (d : Values) (v w m : ℤ) → is_set s ≡ true → IsFrom d v w → IsMemberFrom s w m → int_le m w ≡ false → nat_abs (pos 1000000001 -ℤ m) < nat_abs (pos 1000000001 -ℤ v)
member_walk_smaller s d v w m h n k t = smaller v w m n.up t (under_high m (member_small s m h k.member))
  where
    smaller : (v w m : ℤ) → v ≤ℤ w → int_le m w ≡ false → m ≤ℤ pos 1000000000 → nat_abs (pos 1000000001 -ℤ m) < nat_abs (pos 1000000001 -ℤ v)
    smaller v w m h t k = grind (arith, ints)

-- a value beyond a range
pub beyond_low : (d : Values) (low high l : ℤ) → is_domain_left d ≡ true → l ≡ least_value d → int_lt l low ≡ true → int_lt l low ≡ list_any (λ v. not (set_has (SetRange low high) v)) d
beyond_low d low high l o e t =
    let out : ℤ → Bool = λ v. not (set_has (SetRange low high) v) in
    t ∙ some_found out d (least_value d) (has_least d (some_left d o)) (is_out_low low high (least_value d) (subst (λ z. z <ℤ low) e (lower l low t)))

pub beyond_high : (d : Values) (low high l h : ℤ) → is_domain_left d ≡ true → l ≡ least_value d → int_lt l low ≡ false → h ≡ greatest_value d → int_lt high h ≡ list_any (λ v. not (set_has (SetRange low high) v)) d
beyond_high d low high l h o e t q = by (int_lt high h) refl
  where
    within : (v : ℤ) → low ≤ℤ v → v ≤ℤ high → not (is_within low high v) ≡ false
    within v a b = grind (arith, ints)

    by : (b : Bool) → int_lt high h ≡ b → b ≡ list_any (λ v. not (set_has (SetRange low high) v)) d
    by true k = some_found (λ v. not (set_has (SetRange low high) v)) d (greatest_value d) (has_greatest d (some_left d o)) (is_out_high low high (greatest_value d) (subst (λ z. high <ℤ z) q (lower high h k)))
    by false k = none_passes (λ v. not (set_has (SetRange low high) v)) d
        (λ v i. within v (through low l v (reaches l low t) (subst (λ z. z ≤ℤ v) (sym e) (low_end d v i))) (through v h high (subst (λ z. v ≤ℤ z) (sym q) (high_end d v i)) (reaches high h k)))

-- the set of a constraint, by its place
set_there : (box : Box) (args : List Argument) (k : ℕ) (s : Set) → set_at args k ≡ Some s → members (lefts box args) k ≡ s
set_there box [] zero s h = cc
set_there box [] (suc k) s h = cc
set_there box (One a ∷ args) zero s h = cc
set_there box (Many xs ∷ args) zero s h = cc
set_there box (Numbers ns ∷ args) zero s h = cc
set_there box (Members t ∷ args) zero s h = ap (λ (o : Option Set). elim o [ None ↦ t | Some z ↦ z ]) h
set_there box (a ∷ args) (suc k) s h = set_there box args k s h

set_missing : (box : Box) (args : List Argument) (k : ℕ) → set_at args k ≡ None → members (lefts box args) k ≡ SetListed []
set_missing box [] zero h = refl
set_missing box [] (suc k) h = refl
set_missing box (One a ∷ args) zero h = refl
set_missing box (Many xs ∷ args) zero h = refl
set_missing box (Numbers ns ∷ args) zero h = refl
set_missing box (Members t ∷ args) zero h = cc
set_missing box (a ∷ args) (suc k) h = set_missing box args k h

pub set_met : (box : Box) (args : List Argument) (k : ℕ) (s : Set) → are_met box args ≡ true → set_at args k ≡ Some s → is_set s ≡ true
set_met box [] zero s m h = cc
set_met box [] (suc k) s m h = cc
set_met box (One a ∷ args) zero s m h = cc
set_met box (Many xs ∷ args) zero s m h = cc
set_met box (Numbers ns ∷ args) zero s m h = cc
set_met box (Members t ∷ args) zero s m h = subst (λ z. is_set z ≡ true) (set_there box (Members t ∷ args) zero s h) (first (is_set t) (are_met box args) m)
set_met box (a ∷ args) (suc k) s m h = set_met box args k s (second (is_met box a) (are_met box args) m) h

-- what is asked of the values left
pub asked_inside : (box : Box) (args : List Argument) (s : Set) (d : Values) (w : Bool) → set_at args 1 ≡ Some s → w ≡ true → list_any (set_has s) d ≡ list_any (λ v. same_truth w (set_has (members (lefts box args) 1) v)) d
asked_inside box args s d true h e = ap (λ (z : Set). list_any (set_has z) d) (sym (set_there box args 1 s h))
asked_inside box args s d false h e = cc

pub asked_outside : (box : Box) (args : List Argument) (s : Set) (d : Values) (w : Bool) → set_at args 1 ≡ Some s → w ≡ false → list_any (λ v. not (set_has s v)) d ≡ list_any (λ v. same_truth w (set_has (members (lefts box args) 1) v)) d
asked_outside box args s d true h e = cc
asked_outside box args s d false h e = ap (λ (z : Set). list_any (λ v. not (set_has z v)) d) (sym (set_there box args 1 s h))

pub asked_of_none : (box : Box) (args : List Argument) (d : Values) (w : Bool) → set_at args 1 ≡ None → is_domain_left d ≡ true → not w ≡ list_any (λ v. same_truth w (set_has (members (lefts box args) 1) v)) d
asked_of_none box args d w h o = by w d (some_left d o) ∙ ap (λ (z : Set). list_any (λ v. same_truth w (set_has z v)) d) (sym (set_missing box args 1 h))
  where
    by : (w : Bool) (d : Values) → is_none_left d ≡ false → not w ≡ list_any (λ v. same_truth w false) d
    by true d n = none_passes (λ v. false) d (λ v i. refl)
    by false [] n = cc
    by false (v ∷ d) n = refl
