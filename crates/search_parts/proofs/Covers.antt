-- One case that covers all values that are left, or those before one of them.
use Rattle.std.proofs.Common.{◌≡◌, inl, inr, Bool, true, false, ◌||◌, cond, [], ◌∷◌, length, drop, filter, refl, ap, ◌∙◌, arith}
use Rattle.std.specs.Prelude.{ℤ, int_le, int_lt, nat_lt, ◌≤ℤ◌}
use Rattle.std.specs.Ordering.{int_eq}
use Rattle.std.specs.List.{list_any}
use Rattle.std.proofs.lemmas.Int.{ints}
use Rattle.std.proofs.lemmas.Bool.Decides.{Decides-int_eq}
use Rattle.std.proofs.lemmas.Bool.{and_from}
use Rattle.qc_model.specs.Lists.{Among}
use Rattle.qc_model.specs.Domains.{Values, has_value, greatest_value, greatest_from}
use Rattle.qc_model.proofs.Sound.{hi_of}
use Rattle.proof_tree.specs.Cover.{is_cover, uncovered}
use Rattle.search_parts.specs.Uppers.{upto_all}
use Rattle.search_parts.proofs.Bools.{is_below}

greatest_item : (n : ℤ) (d : Values) → Among (greatest_from n d) (n ∷ d)
greatest_item n [] = inl refl
greatest_item n (v ∷ d) = by (int_lt n v) (greatest_item v d) (greatest_item n d)
  where
    by : (b : Bool) → Among (greatest_from v d) (v ∷ d) → Among (greatest_from n d) (n ∷ d) → Among (greatest_from (cond b v n) d) (n ∷ v ∷ d)
    by true f g = inr f
    by false f (inl q) = inl q
    by false f (inr t) = inr (inr t)

pub has_item : (v : ℤ) (d : Values) → Among v d → has_value d v ≡ true
has_item v [] h = absurd h
has_item v (w ∷ d) (inl e) = ap (λ b. b || list_any (int_eq v) d) (same v w e)
  where
    same : (v w : ℤ) → v ≡ w → int_eq v w ≡ true
    same v w e = grind (arith, Decides-int_eq)
has_item v (w ∷ d) (inr h) = later (int_eq v w) (has_item v d h)
  where
    later : (b : Bool) → list_any (int_eq v) d ≡ true → (b || list_any (int_eq v) d) ≡ true
    later true e = refl
    later false e = e

all_up_to : (m : ℤ) (d : Values) → ((v : ℤ) → Among v d → v ≤ℤ m) → filter (λ v. int_le v m) d ≡ d
all_up_to m [] f = refl
all_up_to m (v ∷ d) f =
    ap (λ b. cond b (v ∷ filter (λ u. int_le u m) d) (filter (λ u. int_le u m) d)) (test v m (f v (inl refl)))
    ∙ ap (λ vs. v ∷ vs) (all_up_to m d (λ u h. f u (inr h)))
  where
    test : (v m : ℤ) → v ≤ℤ m → int_le v m ≡ true
    test v m h = grind (arith, ints)

all_dropped : (d : Values) → drop (length d) d ≡ []
all_dropped [] = refl
all_dropped (v ∷ d) = all_dropped d

pub record CoversAll (vs : Values) : Type 0 where
  pub is_case : is_cover (upto_all vs) vs ≡ true
  pub leaves_none : uncovered (upto_all vs) vs ≡ []

pub covers_all : (v : ℤ) (vs : Values) → CoversAll (v ∷ vs)
covers_all v [] = record { is_case = refl; leaves_none = refl }
covers_all v (w ∷ vs) =
    let d = v ∷ w ∷ vs in
    let whole = all_up_to (greatest_value d) d (λ u h. hi_of u d h) in
    record {
      is_case = and_from _ _ (has_item (greatest_value d) d (greatest_item v (w ∷ vs))) (ap (λ es. nat_lt 1 (length es)) whole ∙ is_below 1 (length d) (omega arith));
      leaves_none = ap (λ es. drop (length es) d) whole ∙ all_dropped d;
    }
