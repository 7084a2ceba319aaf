-- Each made game is valid.
use Rattle.std.proofs.Common.{◌≡◌, refl, ℕ, ◌≤◌, ◌-◌, ◌==◌, Bool, true, false, ◌&&◌, cond, List, [], ◌∷◌, length, lit≤, le-leb, arith}
use Rattle.std.specs.Prelude.{nat_le, map, flat_map, ℤ, pos}
use Rattle.std.specs.List.{list_all}
use Rattle.std.proofs.lemmas.Bool.{and_from}
use Rattle.qc_model.specs.Valid.{IsValid, is_number, is_constraint}
use Rattle.model_generated.specs.Links.{gap, demand, link_of, base, bases_of, bases, demands, customers}
use Rattle.model_generated.specs.Pricing.{eleven_variables, six_rules, generated_game}

small : (m : ℕ) → m ≤ 20 → is_number (pos m) ≡ true
small m h = le-leb m 1000000000 (omega arith)

choice_small : (b : Bool) (m : ℕ) → cond b (10 - m) 20 ≤ 20
choice_small true m = omega arith
choice_small false m = omega arith

base_is_number : (n k j : ℕ) → is_number (pos (base n k j)) ≡ true
base_is_number n k j = small (base n k j) (choice_small (j == link_of k) (gap n j))

bases_are_numbers : (n : ℕ) (ks : List ℕ) → list_all is_number (flat_map (bases_of n) ks) ≡ true
bases_are_numbers n [] = refl
bases_are_numbers n (k ∷ ks) =
    and_from _ _ (base_is_number n k 1) (and_from _ _ (base_is_number n k 2) (and_from _ _ (base_is_number n k 3) (bases_are_numbers n ks)))

demand_is_number : (n k : ℕ) → is_number (pos (demand n k)) ≡ true
demand_is_number n k = small (demand n k) (omega arith)

demands_are_numbers : (n : ℕ) (ks : List ℕ) → list_all is_number (map (λ k. pos (demand n k)) ks) ≡ true
demands_are_numbers n [] = refl
demands_are_numbers n (k ∷ ks) = and_from _ _ (demand_is_number n k) (demands_are_numbers n ks)

rules_are_valid : (bs ds : List ℤ) → nat_le (length bs) 100000 ≡ true → nat_le (length ds) 100000 ≡ true →
    list_all is_number bs ≡ true → list_all is_number ds ≡ true → list_all (is_constraint eleven_variables) (six_rules bs ds) ≡ true
rules_are_valid bs ds b d bn dn = rw (b, d, bn, dn) refl

pub generated_is_valid : (n : ℕ) → IsValid (generated_game n)
generated_is_valid n =
    record {
      few_scopes = lit≤ tt;
      few_variables = lit≤ tt;
      few_aggregates = lit≤ tt;
      few_constraints = lit≤ tt;
      variable_order = refl;
      constraint_order = refl;
      aggregate_order = refl;
      names = refl;
      distinct_names = refl;
      domains = refl;
      widths = lit≤ tt;
      scopes = refl;
      aggregates = refl;
      constraints = rules_are_valid (bases n) (demands n) refl refl (bases_are_numbers n customers) (demands_are_numbers n customers);
      sees = (refl, ((lit≤ tt, tt), (lit≤ tt, tt)));
      bottlenecks = refl;
    }
