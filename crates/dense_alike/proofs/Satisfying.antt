-- A clause whose variables have the same values in two positions sees the same of both.
use Rattle.std.proofs.Common.{◌≡◌, ◌∙◌, ℕ, zero, suc, Bool, true, ◌||◌, cond, List, [], ◌∷◌, length, map, ap, refl, arith, ℤ, pos, Option, Some, None}
use Rattle.std.specs.Prelude.{slice_get, slice_index_or}
use Rattle.std.specs.List.{list_any}
use Rattle.qc_model.specs.Arguments.{Filled, fill, many, variables_of}
use Rattle.qc_model.specs.Content.{Rule}
use Rattle.qc_model.specs.Lists.{same_values}
use Rattle.proof_alike.specs.Reading.{as_clause, known_value, is_known_as, is_satisfied, own_values, seen_as}
use Rattle.proof_alike.proofs.Filling.{fill_all}
use Rattle.dense_alike.proofs.Seeing.{same_at, same_itself, same_lists}

get_alike : (us vs : List ℤ) (k : ℕ) → length us ≡ length vs → slice_index_or us k (pos 0) ≡ slice_index_or vs k (pos 0) → slice_get us k ≡ slice_get vs k
get_alike [] [] k l e = refl
get_alike [] (v ∷ vs) k l e = absurd (omega (arith, l))
get_alike (u ∷ us) [] k l e = absurd (omega (arith, l))
get_alike (u ∷ us) (v ∷ vs) zero l e = ap Some e
get_alike (u ∷ us) (v ∷ vs) (suc k) l e = get_alike us vs k (omega (arith, l)) e

pub clause_alike : (here there : List ℤ) (c : Rule) → length here ≡ length there → same_values (own_values here c) (own_values there c) ≡ true → (p : ℕ → Bool) → same_values (seen_as as_clause p here c) (seen_as as_clause p there c) ≡ true
clause_alike here there c l e p =
    ap (λ us. same_values us (seen_as as_clause p there c)) seen ∙ same_itself (seen_as as_clause p there c)
  where
    own : own_values here c ≡ own_values there c
    own = same_lists (own_values here c) (own_values there c) e

    filled : map (fill (known_value p here)) c.args ≡ map (fill (known_value p there)) c.args
    filled =
        fill_all (known_value p here) (known_value p there) c.args
        (record {
          number = λ n. refl;
          variable = λ x m. ap (λ (o : Option ℤ). cond (p x.0) o None) (get_alike here there x.0 l (same_at (λ y. slice_index_or here y (pos 0)) (λ y. slice_index_or there y (pos 0)) (variables_of c.args) x.0 own m));
        })

    satisfied : is_satisfied p here c ≡ is_satisfied p there c
    satisfied = ap (λ (zs : List (Filled (Option ℤ))). list_any (is_known_as (pos 1)) (many zs 0) || list_any (is_known_as (pos 0)) (many zs 1)) filled

    seen : seen_as as_clause p here c ≡ seen_as as_clause p there c
    seen = ap (λ s. cond s [] (own_values here c)) satisfied ∙ ap (λ us. cond (is_satisfied p there c) [] us) own
