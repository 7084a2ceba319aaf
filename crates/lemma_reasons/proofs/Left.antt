-- Which values are left to a variable.
use Rattle.std.proofs.Common.{◌≡◌, ◌<◌, ◌≤◌, ◌∙◌, Bool, true, false, not, ◌&&◌, ◌||◌, ℕ, zero, suc, slice_get, ◌+◌, List, [], ◌∷◌, length, drop, get_or, Some, None, refl, sym, ap, subst, arith, ℤ}
use Rattle.std.specs.Prelude.{int_lt, int_le, ◌<ℤ◌, ◌≤ℤ◌, ◌+ℤ◌, ◌-ℤ◌, nat_abs, FitsSigned, pos, negsuc}
use Rattle.std.specs.List.{list_any, list_all}
use Rattle.std.specs.Prelude.{◌==◌}
use Rattle.std.proofs.lemmas.Int.{ints}
use Rattle.std.proofs.lemmas.List.{at_drop_more, at_drop_all}
use mir.Syntax.{w64}
use Rattle.std.proofs.lemmas.Bool.Decides.{nat_tests}
use Rattle.std.proofs.lemmas.Bool.{false_from_ne_true, and_parts}
use Rattle.qc_model.specs.Domains.{Values, has_value, is_within, least_value, greatest_value}
use Rattle.model_arguments.proofs.Kept.{low_end, high_end, inside, at_least, at_most, through, over_low, under_high}
use Rattle.fd_store.specs.Held.{values_from, least_of}
use Rattle.qc_refuter.specs.Met.{is_domain_left}
use Rattle.qc_refuter.proofs.Domains.{small_left}
use Rattle.qc_refuter.proofs.Commons.{IsFrom, from_some, from_none}
use Rattle.lemma_list.specs.declared.lemma.Literal.{Literal}
use Rattle.lemma_list.specs.Literals.{meets}
use Rattle.qc_refuter.proofs.Walks.{IsWalked, some_found, none_passes, all_passed}

ordered : (a b : ℤ) → int_le a b ≡ true → a ≤ℤ b
ordered a b h = grind (arith, ints)

over : (a b : ℤ) → int_le a b ≡ false → a ≤ℤ b → ⊥
over a b h k = grind (arith, ints)

-- no value from lo on is left, or some
pub none_within : (d : Values) (lo hi : ℤ) → None ≡ least_of (values_from lo d) → false ≡ list_any (is_within lo hi) d
none_within d lo hi h = none_passes (is_within lo hi) d (λ w k. false_from_ne_true (is_within lo hi w) (λ e. from_none d lo w h k (at_least lo hi w e)))

pub some_within : (d : Values) (lo hi v : ℤ) → Some v ≡ least_of (values_from lo d) → int_le v hi ≡ list_any (is_within lo hi) d
some_within d lo hi v h = by (int_le v hi) refl
  where
    n : IsFrom d lo v
    n = from_some d lo v h

    by : (b : Bool) → int_le v hi ≡ b → b ≡ list_any (is_within lo hi) d
    by true e = some_found (is_within lo hi) d v n.there (inside lo hi v n.up (ordered v hi e))
    by false e =
        none_passes (is_within lo hi) d
        (λ w k. false_from_ne_true (is_within lo hi w) (λ i. over v hi e (through v w hi (n.all w k (at_least lo hi w i)) (at_most lo hi w i))))

-- some value passes one test or the other
pub any_or : (p q : ℤ → Bool) (d : Values) → list_any (λ v. p v || q v) d ≡ (list_any p d || list_any q d)
any_or p q [] = refl
any_or p q (v ∷ d) = regroup (p v) (q v) (list_any (λ v. p v || q v) d) (list_any p d) (list_any q d) (any_or p q d)
  where
    regroup : (a b x y z : Bool) → x ≡ (y || z) → ((a || b) || x) ≡ ((a || y) || (b || z))
    regroup true b x y z e = refl
    regroup false true x y true e = sym (late y true)
      where
        late : (y z : Bool) → (y || true) ≡ true
        late true z = refl
        late false z = refl
    regroup false true x true false e = refl
    regroup false true x false false e = refl
    regroup false false x y z e = e

pub none_at_all : (d : Values) → false ≡ list_any (λ v. false) d
none_at_all [] = refl
none_at_all (v ∷ d) = none_at_all d

pub none_if : (b : Bool) (p : ℤ → Bool) (d : Values) → b ≡ false → false ≡ list_any (λ v. b && p v) d
none_if true p d e = cc
none_if false p d e = none_at_all d

-- up to the end of a range all values pass
pub walked_past : (p : ℤ → Bool) (d : Values) (v w h : ℤ) → IsWalked p d v → IsFrom d v w → ((u : ℤ) → w ≤ℤ u → u ≤ℤ h → p u ≡ false) → IsWalked p d (h +ℤ pos 1)
walked_past p d v w h f n here u k m = by (int_lt u v) refl
  where
    before : (u v : ℤ) → int_lt u v ≡ true → u <ℤ v
    before u v e = grind (arith, ints)

    beyond : (u v : ℤ) → int_lt u v ≡ false → v ≤ℤ u
    beyond u v e = grind (arith, ints)

    back : (u h : ℤ) → u <ℤ (h +ℤ pos 1) → u ≤ℤ h
    back u h m = omega (arith, ints, m)

    by : (b : Bool) → int_lt u v ≡ b → p u ≡ false
    by true e = f u k (before u v e)
    by false e = here u (n.all u k (beyond u v e)) (back u h m)

pub all_past : (p : ℤ → Bool) (d : Values) (v w h : ℤ) → is_domain_left d ≡ true → IsWalked p d v → IsFrom d v w → ((u : ℤ) → w ≤ℤ u → u ≤ℤ h → p u ≡ false) → int_le (pos 1000000000) h ≡ true → false ≡ list_any p d
all_past p d v w h o f n here k =
    none_passes p d (λ u m. walked_past p d v w h f n here u m (below u h (under_high u (small_left d u o m)) k))
  where
    below : (u h : ℤ) → u ≤ℤ pos 1000000000 → int_le (pos 1000000000) h ≡ true → u <ℤ (h +ℤ pos 1)
    below u h l k = grind (arith, ints)

pub past_smaller : (d : Values) (v w h : ℤ) → is_domain_left d ≡ true → IsFrom d v w → w ≤ℤ h → int_le (pos 1000000000) h ≡ false → nat_abs (pos 1000000001 -ℤ (h +ℤ pos 1)) < nat_abs (pos 1000000001 -ℤ v)
past_smaller d v w h o n l k = smaller v w h n.up l k
  where
    smaller : (v w h : ℤ) → v ≤ℤ w → w ≤ℤ h → int_le (pos 1000000000) h ≡ false → nat_abs (pos 1000000001 -ℤ (h +ℤ pos 1)) < nat_abs (pos 1000000001 -ℤ v)
    smaller v w h a b c = grind (arith, ints)

pub past_fits : (d : Values) (v w h : ℤ) → is_domain_left d ≡ true → IsFrom d v w → w ≤ℤ h → int_le (pos 1000000000) h ≡ false → FitsSigned w64 (h +ℤ pos 1)
past_fits d v w h o n l k = fits w h (over_low w (small_left d w o n.there)) l k
  where
    fits : (w h : ℤ) → negsuc 999999999 ≤ℤ w → w ≤ℤ h → int_le (pos 1000000000) h ≡ false → FitsSigned w64 (h +ℤ pos 1)
    fits w h a b c = grind (arith, ints)

-- all values meet what none misses
pub all_meet : (p : ℤ → Bool) (d : Values) (r b : Bool) → r ≡ list_any (λ v. not (p v)) d → r ≡ false → true ≡ (list_all p d || b)
all_meet p d r b e f = ap (λ z. z || b) (ap not (sym f) ∙ (ap not e ∙ all_passed p d))

pub some_miss : (p : ℤ → Bool) (d : Values) (r b c : Bool) → r ≡ list_any (λ v. not (p v)) d → r ≡ true → c ≡ b → c ≡ (list_all p d || b)
some_miss p d r b c e f g = g ∙ ap (λ z. z || b) (ap not (sym f) ∙ (ap not e ∙ all_passed p d))

pub none_there : (p : ℤ → Bool) (d : Values) (b : Bool) → d ≡ [] → true ≡ (list_all p d || b)
none_there p [] b e = refl
none_there p (v ∷ d) b e = cc

pub both_asked : (a b c d : Bool) → a ≡ c → a ≡ true → b ≡ d → b ≡ (c && d)
both_asked a b c d e f g = g ∙ ap (λ z. z && d) (sym f ∙ e)

pub not_asked : (a c d : Bool) → a ≡ c → a ≡ false → false ≡ (c && d)
not_asked a c d e f = ap (λ z. z && d) (sym f ∙ e)

-- from literal to literal
pub some_step : (ls : List Literal) (k : ℕ) (e : Literal) (x : ℕ) (d : Values) (r : Bool) → k < length ls → r ≡ list_any (λ v. (get_or ls k e).x.0 == x && is_within (get_or ls k e).lo (get_or ls k e).hi v) d →
    (r || list_any (meets (drop (k + 1) ls) x) d) ≡ list_any (meets (drop k ls) x) d
some_step ls k e x d r h f =
    let l = get_or ls k e in
    let p : ℤ → Bool = λ v. l.x.0 == x && is_within l.lo l.hi v in
    let rest = drop (k + 1) ls in
    ap (λ z. z || list_any (meets rest x) d) f ∙ (sym (any_or p (meets rest x) d) ∙ sym (at_drop_more (λ m. list_any (meets m x) d) ls k e h))

pub some_end : (ls : List Literal) (k : ℕ) (x : ℕ) (d : Values) → length ls ≤ k → false ≡ list_any (meets (drop k ls) x) d
some_end ls k x d h = none_at_all d ∙ sym (at_drop_all (λ m. list_any (meets m x) d) ls k h)

-- where the ends lie in a range, all values do
pub all_of : (p : ℤ → Bool) (d : Values) → ((v : ℤ) → has_value d v ≡ true → p v ≡ true) → list_all p d ≡ true
all_of p d f = sym (all_passed p d) ∙ ap not (sym (none_passes (λ v. not (p v)) d (λ v h. ap not (f v h))))

pub ends_within : (d : Values) (lo hi l h : ℤ) → l ≡ least_value d → h ≡ greatest_value d → int_lt l lo ≡ false → int_le h hi ≡ true → list_all (is_within lo hi) d ≡ true
ends_within d lo hi l h e f a b =
    all_of (is_within lo hi) d
    (λ v m. inside lo hi v
    (through lo l v (beyond_low l lo a) (subst (λ z. z ≤ℤ v) (sym e) (low_end d v m)))
    (through v h hi (subst (λ z. v ≤ℤ z) (sym f) (high_end d v m)) (ordered h hi b)))
  where
    beyond_low : (l lo : ℤ) → int_lt l lo ≡ false → lo ≤ℤ l
    beyond_low l lo a = grind (arith, ints)

own_number : (x : ℕ) → (x == x) ≡ true
own_number x = grind (arith, nat_tests)

meets_own : (ls : List Literal) (k : ℕ) (l : Literal) (v : ℤ) → slice_get ls k ≡ Some l → is_within l.lo l.hi v ≡ true → meets ls l.x.0 v ≡ true
meets_own [] k l v e h = cc
meets_own (m ∷ ls) zero l v e h =
    let same : m ≡ l = cc in
    either (m.x.0 == l.x.0 && is_within m.lo m.hi v) (meets ls l.x.0 v)
    (subst (λ (n : Literal). (n.x.0 == l.x.0 && is_within n.lo n.hi v) ≡ true) (sym same) (ap (λ b. b && is_within l.lo l.hi v) (own_number l.x.0) ∙ h))
  where
    either : (a b : Bool) → a ≡ true → (a || b) ≡ true
    either true b e = refl
    either false b e = cc
meets_own (m ∷ ls) (suc k) l v e h = other (m.x.0 == l.x.0 && is_within m.lo m.hi v) (meets ls l.x.0 v) (meets_own ls k l v e h)
  where
    other : (a b : Bool) → b ≡ true → (a || b) ≡ true
    other true b e = refl
    other false b e = e

pub all_meet_own : (ls : List Literal) (k : ℕ) (l : Literal) (d : Values) (b : Bool) → slice_get ls k ≡ Some l → list_all (is_within l.lo l.hi) d ≡ true → true ≡ (list_all (meets ls l.x.0) d || b)
all_meet_own ls k l d b e h = ap (λ z. z || b) (sym (all ls k l d e h))
  where
    together : (a b : Bool) → a ≡ true → b ≡ true → (a && b) ≡ true
    together a b e f = ap (λ c. c && b) e ∙ f

    all : (ls : List Literal) (k : ℕ) (l : Literal) (d : Values) → slice_get ls k ≡ Some l → list_all (is_within l.lo l.hi) d ≡ true → list_all (meets ls l.x.0) d ≡ true
    all ls k l [] e h = refl
    all ls k l (v ∷ d) e h =
        let r = and_parts (is_within l.lo l.hi v) (list_all (is_within l.lo l.hi) d) h in
        together (meets ls l.x.0 v) (list_all (meets ls l.x.0) d) (meets_own ls k l v e r.0) (all ls k l d e r.1)
