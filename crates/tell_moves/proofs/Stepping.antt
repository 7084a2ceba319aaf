-- Going over ascending values from the least on.
use Rattle.std.proofs.Common.{◌≡◌, ◌∙◌, ◌<◌, SFits, w64, take, drop, None, negsuc, Bool, true, false, not, ◌||◌, cond, [], ◌∷◌, ℤ, pos, ◌+ℤ◌, refl, sym, ap, subst, Some, filter, int_le, int_lt, int_eq, arith}
use Rattle.std.specs.Prelude.{◌-ℤ◌, nat_abs}
use Rattle.std.specs.List.{list_all}
use Rattle.std.proofs.lemmas.Int.{ints}
use Rattle.std.proofs.lemmas.Bool.Decides.{nat_tests, Decides-int_eq}
use Rattle.qc_model.specs.Domains.{Values, values_within, is_within, is_none_left, has_value, is_ascending}
use Rattle.qc_model.specs.Valid.{is_number}
use Rattle.qc_model.proofs.Readable.{first, second}
use Rattle.model_arguments.proofs.Values.{above_first, ascending_rest, value_passes}
use Rattle.model_arguments.proofs.Kept.{was_left}
use Rattle.fd_store.specs.Held.{values_from, least_of}
use Rattle.box_laws.proofs.Firsts.{passes}
use Rattle.check_box.specs.Cases.{IsCase}
use Rattle.check_box.proofs.Cuts.{one_case}

-- the first of the values from a number on, and those after it
pub record IsNext (vs : Values) (at v : ℤ) : Type 0 where
  pub has : has_value vs v ≡ true
  pub number : is_number v ≡ true
  pub from : int_le at v ≡ true
  pub rest : values_from at vs ≡ v ∷ values_from (v +ℤ pos 1) vs

pub next_is : (vs : Values) (at v : ℤ) → is_ascending vs ≡ true → list_all is_number vs ≡ true → Some v ≡ least_of (values_from at vs) → IsNext vs at v
next_is vs at v a n e = by (values_from at vs) refl
  where
    one : IsCase vs at None v v
    one = one_case vs at v a n e

    yes : (b : Bool) → (b || false) ≡ b
    yes true = refl
    yes false = refl

    inside : (v u : ℤ) → is_within v v u ≡ true → v ≡ u
    inside v u h = grind (arith, ints)

    by : (us : Values) → values_from at vs ≡ us → IsNext vs at v
    by [] f = let h : not (is_none_left (values_from at vs)) ≡ true = one.is in let k : not (is_none_left []) ≡ true = sym (ap (λ us. not (is_none_left us)) f) ∙ h in cc
    by (u ∷ us) f =
        let only : u ∷ [] ≡ values_within v v vs = sym (ap (λ (ws : Values). take 1 ws) f) ∙ one.covers in
        let same : v ≡ u = inside v u (passes (is_within v v) vs u [] (sym only)) in
        let here : has_value vs v ≡ true = was_left (is_within v v) vs v (ap (λ ws. has_value ws v) (sym only) ∙ (yes (int_eq v u) ∙ (Decides-int_eq v u).1 same)) in
        record {
          has = here;
          number = value_passes is_number vs v n here;
          from = subst (λ z. int_le at z ≡ true) (sym same) (passes (int_le at) vs u us f);
          rest = f ∙ (ap (λ (z : ℤ). z ∷ us) (sym same) ∙ ap (λ ws. v ∷ ws) (sym (ap (λ (ws : Values). drop 1 ws) f) ∙ one.leaves));
        }

-- the number after it is one of 64 bits, and nearer to the end
pub next_above : (v : ℤ) → is_number v ≡ true → int_le (negsuc 999999999) (v +ℤ pos 1) ≡ true
next_above v n = grind (arith, nat_tests, ints)

pub next_below : (v : ℤ) → is_number v ≡ true → int_le (v +ℤ pos 1) (pos 1000000001) ≡ true
next_below v n = grind (arith, nat_tests, ints)

pub next_fits : (v : ℤ) → is_number v ≡ true → SFits w64 (v +ℤ pos 1)
next_fits v n = grind (arith, nat_tests, ints)

pub next_nearer : (at v : ℤ) → int_le at v ≡ true → is_number v ≡ true → nat_abs (pos 1000000001 -ℤ (v +ℤ pos 1)) < nat_abs (pos 1000000001 -ℤ at)
next_nearer at v l n = grind (arith, nat_tests, ints)

-- no value from a number on
pub none_next : (vs : Values) (at : ℤ) → None ≡ least_of (values_from at vs) → values_from at vs ≡ []
none_next vs at e = by (values_from at vs) refl e
  where
    by : (us : Values) → values_from at vs ≡ us → None ≡ least_of us → values_from at vs ≡ []
    by [] f e = f
    by (u ∷ us) f e = cc
