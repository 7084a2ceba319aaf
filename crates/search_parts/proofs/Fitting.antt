-- The numbers of a branch's cases: each upper value is one of the variable's values, so a number that a text can have.
use Rattle.std.proofs.Common.{◌≡◌, refl, sym, subst, ℕ, ◌≤◌, ◌<◌, ◌+◌, Bool, true, false, ◌||◌, Option, Some, None, [], ◌∷◌, ℤ, arith, le-leb}
use Rattle.std.specs.Prelude.{nat_lt}
use Rattle.std.specs.List.{list_all}
use Rattle.std.specs.Ordering.{int_eq}
use Rattle.std.proofs.lemmas.Bool.Decides.{Decides-int_eq}
use Rattle.std.proofs.lemmas.Bool.{and_parts}
use Rattle.qc_model.specs.Domains.{Values, has_value}
use Rattle.qc_model.specs.Valid.{is_number}
use Rattle.proof_tree.specs.declared.tree.Version.TheVariants.{Two}
use Rattle.proof_tree.specs.Cover.{cover, is_cover}
use Rattle.proof_tree.specs.Text.{is_place, upto_fits}

equal_number : (high v : ℤ) → int_eq high v ≡ true → is_number v ≡ true → is_number high ≡ true
equal_number high v e n = subst (λ w. is_number w ≡ true) (sym ((Decides-int_eq high v).0 e)) n

pub number_among : (vs : Values) (high : ℤ) → list_all is_number vs ≡ true → has_value vs high ≡ true → is_number high ≡ true
number_among [] high e h = absurd cc
number_among (v ∷ vs) high e h =
    let p = and_parts (is_number v) (list_all is_number vs) e in by (int_eq high v) (λ k. equal_number high v k p.0) (number_among vs high p.1) h
  where
    by : (b : Bool) → (b ≡ true → is_number high ≡ true) → (has_value vs high ≡ true → is_number high ≡ true) → (b || has_value vs high) ≡ true →
        is_number high ≡ true
    by true k m h = k refl
    by false k m h = m h

-- the upper value of a case that covers some of the values
pub upper_fits : (upto : Option ℤ) (vs : Values) → list_all is_number vs ≡ true → is_cover upto vs ≡ true → upto_fits Two upto ≡ true
upper_fits None vs e h = refl
upper_fits (Some high) vs e h = number_among vs high e (and_parts (has_value vs high) (nat_lt 1 (cover (Some high) vs)) h).0

-- a variable of a valid game
pub place_fits : (x stop n : ℕ) → x < stop → stop ≤ n → n ≤ 500 → is_place 500 x ≡ true
place_fits x stop n lt le few = le-leb (x + 1) 500 (omega arith)
