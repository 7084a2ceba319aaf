-- A walk from value to value, from the least that is left on.
use Rattle.std.proofs.Common.{◌≡◌, ◌<◌, inl, inr, Bool, true, false, not, ◌&&◌, ◌||◌, [], ◌∷◌, None, refl, sym, subst, arith, ℤ}
use Rattle.std.specs.Prelude.{int_lt, ◌<ℤ◌, ◌≤ℤ◌, ◌+ℤ◌, ◌-ℤ◌, nat_abs, FitsSigned, pos, negsuc}
use Rattle.std.specs.List.{list_any, list_all}
use Rattle.std.specs.Ordering.{int_eq}
use Rattle.std.proofs.lemmas.Int.{ints}
use Rattle.std.proofs.lemmas.Bool.Decides.{Decides-int_eq}
use Rattle.qc_model.specs.Domains.{Values, has_value, least_value}
use Rattle.qc_model.specs.Lists.{Among}
use Rattle.qc_model.proofs.Sound.{has_it}
use Rattle.model_arguments.proofs.Kept.{low_end, same_end, lower, reaches, less_of, apart, over_low, under_high}
use Rattle.fd_store.specs.Held.{values_from, least_of}
use Rattle.qc_refuter.specs.Met.{is_domain_left}
use Rattle.qc_refuter.proofs.Domains.{small_left}
use Rattle.qc_refuter.proofs.Commons.{IsFrom, from_none}
use mir.Syntax.{w64}

-- all values below v were tried, and none passes
abbrev pub IsWalked : (ℤ → Bool) → Values → ℤ → Type 0
IsWalked p d v = (w : ℤ) → has_value d w ≡ true → w <ℤ v → p w ≡ false

pub some_found : (p : ℤ → Bool) (d : Values) (v : ℤ) → has_value d v ≡ true → p v ≡ true → true ≡ list_any p d
some_found p [] v h k = cc
some_found p (x ∷ d) v h k = by (int_eq v x) (Decides-int_eq v x).0 (λ g. some_found p d v g k) h
  where
    or_left : (a b : Bool) → a ≡ true → true ≡ (a || b)
    or_left true b e = refl
    or_left false b e = cc

    or_right : (a b : Bool) → true ≡ b → true ≡ (a || b)
    or_right true b e = refl
    or_right false b e = e

    by : (b : Bool) → (b ≡ true → v ≡ x) → (has_value d v ≡ true → true ≡ list_any p d) → (b || has_value d v) ≡ true → true ≡ (p x || list_any p d)
    by true e f g = or_left (p x) (list_any p d) (subst (λ z. p z ≡ true) (e refl) k)
    by false e f g = or_right (p x) (list_any p d) (f g)

none_of : (p : ℤ → Bool) (us : Values) → ((v : ℤ) → Among v us → p v ≡ false) → false ≡ list_any p us
none_of p [] g = refl
none_of p (u ∷ us) g = or_none (p u) (list_any p us) (g u (inl refl)) (none_of p us (λ v a. g v (inr a)))
  where
    or_none : (a b : Bool) → a ≡ false → false ≡ b → false ≡ (a || b)
    or_none true b h k = cc
    or_none false b h k = k

pub none_passes : (p : ℤ → Bool) (d : Values) → ((w : ℤ) → has_value d w ≡ true → p w ≡ false) → false ≡ list_any p d
none_passes p d f = none_of p d (λ w a. f w (has_it d w a))

pub none_walked : (p : ℤ → Bool) (d : Values) (v : ℤ) → IsWalked p d v → None ≡ least_of (values_from v d) → false ≡ list_any p d
none_walked p d v f h = none_passes p d (λ w k. f w k (less_of w v (λ l. from_none d v w h k l)))

pub none_before : (p : ℤ → Bool) (d : Values) (v : ℤ) → v ≡ least_value d → IsWalked p d v
none_before p d v e w h m = absurd (apart w v m (subst (λ z. z ≤ℤ w) (sym e) (low_end d w h)))

-- one more value
pub walked_on : (p : ℤ → Bool) (d : Values) (v w : ℤ) → IsWalked p d v → IsFrom d v w → p w ≡ false → IsWalked p d (w +ℤ pos 1)
walked_on p d v w f n here u h m = by (int_lt u v) (lower u v) (λ e. same_end u w (back u w m) (n.all u h (reaches u v e)))
  where
    back : (u w : ℤ) → u <ℤ (w +ℤ pos 1) → u ≤ℤ w
    back u w m = omega (arith, ints, m)

    by : (b : Bool) → (b ≡ true → u <ℤ v) → (b ≡ false → u ≡ w) → p u ≡ false
    by true e q = f u h (e refl)
    by false e q = subst (λ z. p z ≡ false) (sym (q refl)) here

pub walk_smaller : (d : Values) (v w : ℤ) → is_domain_left d ≡ true → IsFrom d v w → nat_abs (pos 1000000001 -ℤ (w +ℤ pos 1)) < nat_abs (pos 1000000001 -ℤ v)
walk_smaller d v w o n = smaller v w n.up (under_high w (small_left d w o n.there))
  where
    smaller : (v w : ℤ) → v ≤ℤ w → w ≤ℤ pos 1000000000 → nat_abs (pos 1000000001 -ℤ (w +ℤ pos 1)) < nat_abs (pos 1000000001 -ℤ v)
    smaller v w h k = grind (arith, ints)

pub next_fits : (d : Values) (v w : ℤ) → is_domain_left d ≡ true → IsFrom d v w → FitsSigned w64 (w +ℤ pos 1)
next_fits d v w o n = fits w (over_low w (small_left d w o n.there)) (under_high w (small_left d w o n.there))
  where
    fits : (w : ℤ) → negsuc 999999999 ≤ℤ w → w ≤ℤ pos 1000000000 → FitsSigned w64 (w +ℤ pos 1)
    fits w h k = grind (arith, ints)

pub all_passed : (p : ℤ → Bool) (d : Values) → not (list_any (λ v. not (p v)) d) ≡ list_all p d
all_passed p [] = refl
all_passed p (v ∷ d) = by (p v) (list_any (λ v. not (p v)) d) (list_all p d) (all_passed p d)
  where
    by : (a b c : Bool) → not b ≡ c → not (not a || b) ≡ (a && c)
    by true b c h = h
    by false b c h = refl
