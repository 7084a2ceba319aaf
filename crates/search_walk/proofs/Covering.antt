-- One case that covers the values before one that is left.
use Rattle.std.proofs.Common.{◌≡◌, inl, inr, ℕ, zero, suc, ◌<◌, Bool, true, false, ◌||◌, cond, List, [], ◌∷◌, length, drop, filter, refl, sym, ap, ◌∙◌, arith, Option, Some, None, subst, take, length-drop}
use Rattle.std.specs.Prelude.{ℤ, int_le, int_lt, nat_lt, slice_get}
use Rattle.std.specs.Ordering.{int_eq}
use Rattle.std.specs.List.{list_all, list_any}
use Rattle.std.proofs.lemmas.Int.{ints}
use Rattle.std.proofs.lemmas.Bool.Decides.{Decides-int_eq}
use Rattle.std.proofs.lemmas.Bool.{and_from, and_parts}
use Rattle.qc_model.specs.Lists.{Among}
use Rattle.qc_model.specs.Domains.{Values, is_ascending, is_none_left, is_single, has_value, greatest_value}
use Rattle.qc_model.specs.Valid.{is_number}
use Rattle.model_levels.proofs.Items.{drop_at}
use Rattle.fd_store.specs.Held.{values_from}
use Rattle.proof_tree.specs.Cover.{is_cover, uncovered}
use Rattle.search_box.specs.Rests.{IsFirst, IsLast}
use Rattle.search_parts.specs.Uppers.{upto_all, upto_between, upto_first}
use Rattle.search_parts.proofs.Covers.{has_item}
use Rattle.search_parts.proofs.Bools.{is_below}
use Rattle.search_parts.proofs.Numbers.{numbers_dropped}
use Rattle.search_walk.proofs.Places.{several}

pub ascends_after : (d : Values) (v : ℤ) → is_ascending (v ∷ d) ≡ true → is_ascending d ≡ true
ascends_after [] v e = refl
ascends_after (w ∷ d) v e = (and_parts (int_lt v w) (is_ascending (w ∷ d)) e).1

-- the first values up to one
pub has_at : (d : Values) (n : ℕ) → n < length d → (v : ℤ) × (slice_get d n ≡ Some v)
has_at [] n h = absurd (omega arith)
has_at (u ∷ d) zero h = (u, refl)
has_at (u ∷ d) (suc n) h = has_at d n (omega arith)

among_at : (d : Values) (n : ℕ) (v : ℤ) → slice_get d n ≡ Some v → Among v d
among_at [] n v e = cc
among_at (u ∷ d) zero v e = let h : v ≡ u = cc in inl h
among_at (u ∷ d) (suc n) v e = inr (among_at d n v e)

first_below : (v : ℤ) (d : Values) (n : ℕ) (m : ℤ) → is_ascending (v ∷ d) ≡ true → slice_get d n ≡ Some m → int_lt v m ≡ true
first_below v [] n m a e = cc
first_below v (u ∷ d) zero m a e =
    let h : u ≡ m = cc in
    subst (λ w. int_lt v w ≡ true) h (and_parts (int_lt v u) (is_ascending (u ∷ d)) a).0
first_below v (u ∷ d) (suc n) m a e =
    let p = and_parts (int_lt v u) (is_ascending (u ∷ d)) a in
    through v u m p.0 (first_below u d n m p.1 e)
  where
    through : (v u m : ℤ) → int_lt v u ≡ true → int_lt u m ≡ true → int_lt v m ≡ true
    through v u m h k = grind (arith, ints)

none_up_to : (v : ℤ) (d : Values) → is_ascending (v ∷ d) ≡ true → filter (λ u. int_le u v) d ≡ []
none_up_to v d a = go d (λ n m e. first_below v d n m a e)
  where
    go : (d : Values) → ((n : ℕ) (m : ℤ) → slice_get d n ≡ Some m → int_lt v m ≡ true) → filter (λ u. int_le u v) d ≡ []
    go [] f = refl
    go (u ∷ d) f =
        ap (λ b. cond b (u ∷ filter (λ w. int_le w v) d) (filter (λ w. int_le w v) d)) (above v u (f 0 u refl)) ∙ go d (λ n m e. f (suc n) m e)
      where
        above : (v u : ℤ) → int_lt v u ≡ true → int_le u v ≡ false
        above v u h = grind (arith, ints)

filter_first : (d : Values) (n : ℕ) (m : ℤ) → is_ascending d ≡ true → slice_get d n ≡ Some m → filter (λ v. int_le v m) d ≡ take (suc n) d
filter_first [] n m a e = cc
filter_first (v ∷ d) zero m a e =
    let h : v ≡ m = cc in
    subst (λ w. filter (λ u. int_le u w) (v ∷ d) ≡ v ∷ []) h
    (ap (λ b. cond b (v ∷ filter (λ u. int_le u v) d) (filter (λ u. int_le u v) d)) (same v) ∙ ap (λ us. v ∷ us) (none_up_to v d a))
  where
    same : (v : ℤ) → int_le v v ≡ true
    same v = grind (arith, ints)
filter_first (v ∷ d) (suc n) m a e =
    ap (λ b. cond b (v ∷ filter (λ u. int_le u m) d) (filter (λ u. int_le u m) d)) (less v m (first_below v d n m a e))
    ∙ ap (λ us. v ∷ us) (filter_first d n m (ascends_after d v a) e)
  where
    less : (v m : ℤ) → int_lt v m ≡ true → int_le v m ≡ true
    less v m h = grind (arith, ints)

length_take : (n : ℕ) (d : Values) → n < length d → length (take n d) ≡ n
length_take zero d h = refl
length_take (suc n) [] h = absurd (omega arith)
length_take (suc n) (v ∷ d) h = ap suc (length_take n d (omega arith))

pub record CoversFirst (n : ℕ) (vs : Values) : Type 0 where
  pub is_case : is_cover (upto_first n vs) vs ≡ true
  pub leaves_rest : uncovered (upto_first n vs) vs ≡ drop n vs

pub covers_first : (n : ℕ) (vs : Values) → is_ascending vs ≡ true → suc n < length vs → CoversFirst (suc n) vs
covers_first n [] a h = absurd (omega arith)
covers_first zero (v ∷ vs) a h = record { is_case = refl; leaves_rest = refl }
covers_first (suc n) (v ∷ vs) a h =
    let d = v ∷ vs in
    let s = has_at d (suc n) (omega arith) in
    let m = s.0 in
    let first = filter_first d (suc n) m a s.1 in
    let size : length (filter (λ u. int_le u m) d) ≡ suc (suc n) = ap length first ∙ length_take (suc (suc n)) d h in
    record {
      is_case = ap (λ u. is_cover u d) s.1 ∙ and_from _ _ (has_item m d (among_at d (suc n) m s.1)) (ap (nat_lt 1) size ∙ is_below 1 (suc (suc n)) (omega arith));
      leaves_rest = ap (λ u. uncovered u d) s.1 ∙ ap (λ l. drop l d) size;
    }

-- the values from one of them on
pub index_of : (d : Values) (v : ℤ) → has_value d v ≡ true → (n : ℕ) × (slice_get d n ≡ Some v)
index_of [] v h = absurd cc
index_of (u ∷ d) v h = by (int_eq v u) (λ e. same v u e) (index_of d v) h
  where
    same : (v u : ℤ) → int_eq v u ≡ true → u ≡ v
    same v u e = sym ((Decides-int_eq v u).0 e)

    by : (b : Bool) → (b ≡ true → u ≡ v) → (has_value d v ≡ true → (n : ℕ) × (slice_get d n ≡ Some v)) → (b || list_any (int_eq v) d) ≡ true → (n : ℕ) × (slice_get (u ∷ d) n ≡ Some v)
    by true f k h = (0, ap Some (f refl))
    by false f k h = let r = k h in (suc r.0, r.1)

none_below : (m : ℤ) (d : Values) → ((n : ℕ) (v : ℤ) → slice_get d n ≡ Some v → int_lt m v ≡ true) → values_from m d ≡ d
none_below m [] f = refl
none_below m (v ∷ d) f =
    ap (λ b. cond b (v ∷ values_from m d) (values_from m d)) (at_least m v (f 0 v refl)) ∙ ap (λ us. v ∷ us) (none_below m d (λ n w e. f (suc n) w e))
  where
    at_least : (m v : ℤ) → int_lt m v ≡ true → int_le m v ≡ true
    at_least m v h = grind (arith, ints)

pub from_at : (d : Values) (n : ℕ) (v : ℤ) → is_ascending d ≡ true → slice_get d n ≡ Some v → values_from v d ≡ drop n d
from_at [] n v a e = cc
from_at (u ∷ d) zero v a e =
    let h : u ≡ v = cc in
    subst (λ w. values_from w (u ∷ d) ≡ u ∷ d) h
    (ap (λ b. cond b (u ∷ values_from u d) (values_from u d)) (same u) ∙ ap (λ us. u ∷ us) (none_below u d (λ n w f. first_below u d n w a f)))
  where
    same : (v : ℤ) → int_le v v ≡ true
    same v = grind (arith, ints)
from_at (u ∷ d) (suc n) v a e =
    ap (λ b. cond b (u ∷ values_from v d) (values_from v d)) (more u v (first_below u d n v a e)) ∙ from_at d n v (ascends_after d u a) e
  where
    more : (u v : ℤ) → int_lt u v ≡ true → int_le v u ≡ false
    more u v h = grind (arith, ints)

-- values begin with the one from which on they are taken
pub from_here : (d : Values) (v : ℤ) → is_ascending d ≡ true → has_value d v ≡ true → (rest : Values) × (values_from v d ≡ v ∷ rest)
from_here d v a h = let r = index_of d v h in (drop (suc r.0) d, from_at d r.0 v a r.1 ∙ drop_at r.0 d v r.1)

within_length : (d : Values) (n : ℕ) (v : ℤ) → slice_get d n ≡ Some v → n < length d
within_length [] n v e = cc
within_length (u ∷ d) zero v e = omega arith
within_length (u ∷ d) (suc n) v e = let h = within_length d n v e in omega (arith, h)

not_whole : {X : Type 0} (n : ℕ) (xs : List X) → n < length xs → drop n xs ≡ xs → n ≡ 0
not_whole n xs h e = omega (arith, ap length e, length-drop n xs)

-- the upper value of the case for all values from v on, where u is the last
pub upto_rest : (d : Values) (v u : ℤ) → is_ascending d ≡ true → has_value d v ≡ true → IsLast d u → upto_all (values_from v d) ≡ upto_between v u
upto_rest d v u a h l = go (values_from v d) (from_here d v a h).0 (from_here d v a h).1 (l.last v h) (l.alone v h)
  where
    go : (es rest : Values) → es ≡ v ∷ rest → greatest_value es ≡ u → is_single es ≡ int_eq v u → upto_all es ≡ upto_between v u
    go [] rest e f s = cc
    go (w ∷ []) rest e f s = ap (λ b. cond b None (Some u)) s
    go (w ∷ z ∷ es) rest e f s = ap Some f ∙ ap (λ b. cond b None (Some u)) s

-- what comes before v among the values: nothing, or the value p
pub record IsJustBefore (d : Values) (p v : ℤ) : Type 0 where
  pub left : has_value d p ≡ true
  pub rest : values_from p d ≡ p ∷ values_from v d

abbrev pub ComesAfter : Values → Option ℤ → ℤ → Type 0
ComesAfter d None v = values_from v d ≡ d
ComesAfter d (Some p) v = IsJustBefore d p v

-- the case for the values from the first to the one before v
pub record CoversBefore (u : Option ℤ) (d : Values) (v : ℤ) : Type 0 where
  pub is_case : is_cover u d ≡ true
  pub leaves_rest : uncovered u d ≡ values_from v d

pub covers_before : (d : Values) (first p v : ℤ) → is_ascending d ≡ true → IsFirst d first → has_value d v ≡ true → IsJustBefore d p v → CoversBefore (upto_between first p) d v
covers_before d first p v a f h b =
    let r = index_of d p b.left in
    let s = from_here d v a h in
    let from_p = from_at d r.0 p a r.1 ∙ drop_at r.0 d p r.1 in
    let rest : drop (suc r.0) d ≡ values_from v d = tails p (drop (suc r.0) d) p (values_from v d) (sym from_p ∙ b.rest) in
    let more : suc r.0 < length d = shorter d (suc r.0) v s.0 (rest ∙ s.1) in
    let c = covers_first r.0 d a more in
    let u : upto_first (suc r.0) d ≡ upto_between first p = by r.0 r.1 in
    subst (λ w. CoversBefore w d v) u (record { is_case = c.is_case; leaves_rest = c.leaves_rest ∙ rest })
  where
    tails : (x : ℤ) (xs : Values) (y : ℤ) (ys : Values) → ◌≡◌ {A = Values} (x ∷ xs) (y ∷ ys) → xs ≡ ys
    tails x xs y ys e = cc

    shorter : (d : Values) (n : ℕ) (v : ℤ) (rest : Values) → drop n d ≡ v ∷ rest → n < length d
    shorter d n v rest e = omega (arith, ap length e, length-drop n d)

    first_at : slice_get d 0 ≡ Some first
    first_at =
        let q = index_of d first f.left in
        subst (λ n. slice_get d n ≡ Some first) (not_whole q.0 d (within_length d q.0 first q.1) (sym (from_at d q.0 first a q.1) ∙ f.all)) q.1

    equal : (x : ℤ) → int_eq x x ≡ true
    equal x = (Decides-int_eq x x).1 refl

    other : (x y : ℤ) → int_lt x y ≡ true → int_eq x y ≡ false
    other x y e = grind (arith, ints, Decides-int_eq)

    first_less : (d : Values) (n : ℕ) → is_ascending d ≡ true → slice_get d 0 ≡ Some first → slice_get d (suc n) ≡ Some p → int_lt first p ≡ true
    first_less [] n a e g = cc
    first_less (w ∷ d) n a e g = let q : w ≡ first = cc in subst (λ z. int_lt z p ≡ true) q (first_below w d n p a g)

    same : (o : Option ℤ) → o ≡ Some first → o ≡ Some p → first ≡ p
    same o e g = cc

    by : (n : ℕ) → slice_get d n ≡ Some p → upto_first (suc n) d ≡ upto_between first p
    by zero e = let q : first ≡ p = same (slice_get d 0) first_at e in sym (ap (λ b. cond b None (Some p)) (subst (λ z. int_eq first z ≡ true) q (equal first)))
    by (suc n) e = e ∙ sym (ap (λ b. cond b None (Some p)) (other first p (first_less d n a first_at e)))

pub covers_after : (d : Values) (first : ℤ) (before : Option ℤ) (v : ℤ) → is_ascending d ≡ true → IsFirst d first → has_value d v ≡ true → ComesAfter d before v → (p : ℤ) → before ≡ Some p →
    (is_cover (upto_between first p) d ≡ true) × (uncovered (upto_between first p) d ≡ values_from v d)
covers_after d first None v a f h b p e = cc
covers_after d first (Some q) v a f h b p e =
    let same : q ≡ p = cc in
    let c = covers_before d first q v a f h b in
    subst (λ r. (is_cover (upto_between first r) d ≡ true) × (uncovered (upto_between first r) d ≡ values_from v d)) same (c.is_case, c.leaves_rest)

-- the values from v on, where u is the last
pub record IsRest (d : Values) (v u : ℤ) : Type 0 where
  pub some : is_none_left (values_from v d) ≡ false
  pub numbers : list_all is_number (values_from v d) ≡ true
  pub upto : upto_all (values_from v d) ≡ upto_between v u

pub rest_of : (d : Values) (v u : ℤ) → is_ascending d ≡ true → list_all is_number d ≡ true → has_value d v ≡ true → IsLast d u → IsRest d v u
rest_of d v u a n h l =
    let r = index_of d v h in
    record {
      some = ap is_none_left (from_here d v a h).1;
      numbers = ap (list_all is_number) (from_at d r.0 v a r.1) ∙ numbers_dropped r.0 d n;
      upto = upto_rest d v u a h l;
    }

pub many_of : (d : Values) (v : ℤ) → is_single d ≡ false → has_value d v ≡ true → 1 < length d
many_of d v e h = let r = index_of d v h in several d r.0 e (within_length d r.0 v r.1)
