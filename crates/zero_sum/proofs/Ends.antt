-- The ends of a declared domain.
use Rattle.std.proofs.Common.{◌≡◌, sym, ap, ◌∙◌, ℕ, zero, suc, ◌-◌, ◌<◌, true, false, List, [], ◌∷◌, map, length, get_or, arith, ℤ}
use Rattle.std.specs.Prelude.{Some, slice_get, slice_index_or}
use Rattle.qc_model.specs.declared.problem.Domain.{Domain}
use Rattle.qc_model.specs.declared.problem.Variable.{Variable}
use Rattle.qc_model.specs.Content.{Game}
use Rattle.qc_model.specs.Domains.{Values, declared_box, domain_values, greatest_value, least_value, values_left, is_none_left}
use Rattle.qc_model.specs.Valid.{IsValid, is_domain, is_variable_with, is_integer_domain}
use Rattle.qc_model.proofs.DomainValues.{domain_full}
use Rattle.qc_model.proofs.Widths.{least_is_first, greatest_is_last}
use Rattle.model_levels.proofs.Ascends.{domain_ascends}
use Rattle.zero_sum.specs.declared.stake.Stake.{Stake}
use Rattle.zero_sum.specs.Stake.{stake_of}
use Rattle.zero_sum.proofs.Valid.{all_get, stake_sound}

got : {X : Type 0} (xs : List X) (k : ℕ) (x d : X) → slice_get xs k ≡ Some x → x ≡ get_or xs k d
got [] k x d e = absurd cc
got (y ∷ ys) zero x d e = cc
got (y ∷ ys) (suc k) x d e = got ys k x d e

pub some_values : (d : Domain) → is_domain d ≡ true → 0 < length (domain_values d)
some_values d h = by (domain_values d) (domain_full d h)
  where
    by : (vs : Values) → is_none_left vs ≡ false → 0 < length vs
    by [] e = absurd cc
    by (v ∷ vs) e = omega arith

pub first_is_least : (d : Domain) (n : ℤ) → is_domain d ≡ true → slice_get (domain_values d) 0 ≡ Some n → n ≡ least_value (domain_values d)
first_is_least d n h e = got (domain_values d) 0 n n e ∙ sym (least_is_first (domain_values d) n (some_values d h) (domain_ascends d h))

pub last_is_greatest : (d : Domain) (n : ℤ) (k : ℕ) → is_domain d ≡ true → k ≡ length (domain_values d) - 1 → slice_get (domain_values d) k ≡ Some n → n ≡ greatest_value (domain_values d)
last_is_greatest d n k h at e =
    got (domain_values d) k n n e ∙ ap (λ m. get_or (domain_values d) m n) at ∙ sym (greatest_is_last (domain_values d) n (some_values d h) (domain_ascends d h))

pub is_declared : (g : Game) (z : Stake) → IsValid g → stake_of g ≡ Some z → z.variable.0 < length g.variables
is_declared g z valid e = by g.variables z.variable.0 (stake_sound g z valid e).integer
  where
    by : (xs : List Variable) (k : ℕ) → is_variable_with is_integer_domain (slice_get xs k) ≡ true → k < length xs
    by [] k h = absurd cc
    by (x ∷ xs) zero h = omega arith
    by (x ∷ xs) (suc k) h = let r = by xs k h in omega arith

pub has_domain : (g : Game) (k : ℕ) (x : Variable) → IsValid g → slice_get g.variables k ≡ Some x → is_domain x.domain ≡ true
has_domain g k x valid e = all_get (λ (y : Variable). is_domain y.domain) g.variables k x valid.domains e

pub values_of : (g : Game) (k : ℕ) (x : Variable) → slice_get g.variables k ≡ Some x → domain_values x.domain ≡ values_left (declared_box g) k
values_of g k x e = by g.variables k e
  where
    by : (xs : List Variable) (k : ℕ) → slice_get xs k ≡ Some x → domain_values x.domain ≡ slice_index_or (map (λ (y : Variable). domain_values y.domain) xs) k []
    by [] k e = absurd cc
    by (y ∷ ys) zero e = let same : y ≡ x = cc in ap (λ (w : Variable). domain_values w.domain) (sym same)
    by (y ∷ ys) (suc k) e = by ys k e
