-- The ends of a declared domain.
use Rattle.std.proofs.Common.{◌≡◌, ℕ, zero, suc, ◌<◌, ◌-◌, true, false, List, [], ◌∷◌, length, map, sym, ap, ◌∙◌, subst, arith, ℤ, get_or}
use Rattle.std.specs.Prelude.{slice_get, Some, int_lt}
use Rattle.std.specs.List.{list_all}
use Rattle.std.proofs.lemmas.List.{length-map}
use Rattle.std.proofs.lemmas.Option.{same_Some}
use Rattle.qc_model.specs.declared.problem.Domain.{Domain}
use Rattle.qc_model.specs.declared.problem.Variable.{Variable}
use Rattle.qc_model.specs.Content.{Game}
use Rattle.qc_model.specs.Domains.{Values, Box, domain_values, declared_box, values_left, is_none_left, least_value, greatest_value, is_sub_box}
use Rattle.qc_model.specs.Valid.{is_domain}
use Rattle.qc_model.proofs.DomainValues.{domain_full}
use Rattle.qc_model.proofs.Readable.{first, second}
use Rattle.qc_model.proofs.Widths.{least_is_first, greatest_is_last}
use Rattle.model_arguments.proofs.Boxes.{sub_length}
use Rattle.model_levels.proofs.Ascends.{domain_ascends}

-- a box has as many variables as are declared
pub place_declared : (g : Game) (box : Box) (x : ℕ) → is_sub_box box (declared_box g) ≡ true → x < length box → x < length g.variables
place_declared g box x h l = omega (arith, l, sub_length box (declared_box g) h, length-map g.variables (λ (y : Variable). domain_values y.domain))

-- the domain of each variable passes, and its values are those of the declared box
domain_at : (xs : List Variable) (k : ℕ) (x : Variable) → list_all (λ y. is_domain y.domain) xs ≡ true → slice_get xs k ≡ Some x → is_domain x.domain ≡ true
domain_at [] k x h e = cc
domain_at (y ∷ ys) zero x h e = subst (λ (z : Variable). is_domain z.domain ≡ true) (same_Some y x e) (first (is_domain y.domain) (list_all (λ z. is_domain z.domain) ys) h)
domain_at (y ∷ ys) (suc k) x h e = domain_at ys k x (second (is_domain y.domain) (list_all (λ z. is_domain z.domain) ys) h) e

pub passes_at : (g : Game) (k : ℕ) (x : Variable) → list_all (λ y. is_domain y.domain) g.variables ≡ true → slice_get g.variables k ≡ Some x → is_domain x.domain ≡ true
passes_at g k x h e = domain_at g.variables k x h e

values_at : (xs : List Variable) (k : ℕ) (x : Variable) → slice_get xs k ≡ Some x → values_left (map (λ y. domain_values y.domain) xs) k ≡ domain_values x.domain
values_at [] k x e = cc
values_at (y ∷ ys) zero x e = ap (λ (z : Variable). domain_values z.domain) (same_Some y x e)
values_at (y ∷ ys) (suc k) x e = values_at ys k x e

pub some_values : (d : Domain) → is_domain d ≡ true → 0 < length (domain_values d)
some_values d h = by (domain_values d) (domain_full d h)
  where
    by : (vs : Values) → is_none_left vs ≡ false → 0 < length vs
    by [] e = cc
    by (v ∷ vs) e = omega arith

got : (vs : Values) (k : ℕ) (v d : ℤ) → slice_get vs k ≡ Some v → v ≡ get_or vs k d
got [] k v d e = cc
got (w ∷ vs) zero v d e = sym (same_Some w v e)
got (w ∷ vs) (suc k) v d e = got vs k v d e

-- its first value is its least, and its last one its greatest
pub least_declared : (g : Game) (k : ℕ) (x : Variable) (n m : ℤ) → list_all (λ y. is_domain y.domain) g.variables ≡ true → slice_get g.variables k ≡ Some x → slice_get (domain_values x.domain) 0 ≡ Some n → int_lt n m ≡ false →
    int_lt (least_value (values_left (declared_box g) k)) m ≡ false
least_declared g k x n m h s e f =
    let d = passes_at g k x h s in
    let least = least_is_first (domain_values x.domain) n (some_values x.domain d) (domain_ascends x.domain d) in
    ap (λ z. int_lt z m) (ap least_value (values_at g.variables k x s) ∙ (least ∙ sym (got (domain_values x.domain) 0 n n e))) ∙ f

pub greatest_declared : (g : Game) (k i : ℕ) (x : Variable) (n m : ℤ) → list_all (λ y. is_domain y.domain) g.variables ≡ true → slice_get g.variables k ≡ Some x → i ≡ length (domain_values x.domain) - 1 → slice_get (domain_values x.domain) i ≡ Some n →
    int_lt m n ≡ false → int_lt m (greatest_value (values_left (declared_box g) k)) ≡ false
greatest_declared g k i x n m h s l e f =
    let d = passes_at g k x h s in
    let greatest = greatest_is_last (domain_values x.domain) n (some_values x.domain d) (domain_ascends x.domain d) in
    ap (λ z. int_lt m z) (ap greatest_value (values_at g.variables k x s) ∙ (greatest ∙ (ap (λ j. get_or (domain_values x.domain) j n) (sym l) ∙ sym (got (domain_values x.domain) i n n e)))) ∙ f
