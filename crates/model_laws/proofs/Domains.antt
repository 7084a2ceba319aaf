-- Declared domains have no repeats where the listed ones have none.
use Rattle.std.proofs.Common.{◌≡◌, inl, inr, ℕ, zero, suc, ◌+◌, Bool, true, false, List, [], ◌∷◌, map, ℤ, ◌≤ℤ◌, ◌+ℤ◌, pos, arith, cond}
use Rattle.std.specs.Prelude.{⊤, ◌-ℤ◌, nat_abs, int_lt}
use Rattle.std.proofs.lemmas.Int.{ints}
use Rattle.qc_model.specs.declared.problem.Domain.{Domain}
use Rattle.qc_model.specs.declared.problem.Domain.TheVariants.{Bits, Range, Listed}
use Rattle.qc_model.specs.declared.problem.Variable.{Variable}
use Rattle.qc_model.specs.Content.{Game}
use Rattle.qc_model.specs.Lists.{Among, numbers_from}
use Rattle.qc_model.specs.Domains.{declared_box, domain_values}
use Rattle.model_laws.specs.Distinct.{Distinct, EachDistinct}

-- a listed domain has no repeats
abbrev pub ListedDiffer : Domain → Type 0
ListedDiffer Bits = ⊤
ListedDiffer (Range lo hi) = ⊤
ListedDiffer (Listed ns) = Distinct ns

abbrev pub EachListedDiffers : List Variable → Type 0
EachListedDiffers [] = ⊤
EachListedDiffers (x ∷ xs) = ListedDiffer x.domain × EachListedDiffers xs

-- the numbers from lo on are at least lo
from_on : (lo : ℤ) (k : ℕ) (x : ℤ) → Among x (numbers_from lo k) → lo ≤ℤ x
from_on lo zero x m = absurd m
from_on lo (suc k) x m = elim m [ inl e ↦ at lo x e | inr n ↦ over lo x (from_on (lo +ℤ pos 1) k x n) ]
  where
    at : (lo x : ℤ) → x ≡ lo → lo ≤ℤ x
    at lo x e = omega (arith, ints)

    over : (lo x : ℤ) → (lo +ℤ pos 1) ≤ℤ x → lo ≤ℤ x
    over lo x h = omega (arith, ints)

numbers_differ : (lo : ℤ) (k : ℕ) → Distinct (numbers_from lo k)
numbers_differ lo zero = tt
numbers_differ lo (suc k) = (λ m. not_over lo (from_on (lo +ℤ pos 1) k lo m), numbers_differ (lo +ℤ pos 1) k)
  where
    not_over : (lo : ℤ) → ¬ ((lo +ℤ pos 1) ≤ℤ lo)
    not_over lo h = omega (arith, ints)

domain_differs : (d : Domain) → ListedDiffer d → Distinct (domain_values d)
domain_differs Bits h = (λ m. elim m [ inl e ↦ (let q : pos 0 ≡ pos 1 = e in apart q) | inr n ↦ n ], (λ m. m, tt))
  where
    apart : ¬ (pos 0 ≡ pos 1)
    apart q = omega (arith, ints)
domain_differs (Range lo hi) h = by (int_lt hi lo)
  where
    by : (b : Bool) → Distinct (cond b [] (numbers_from lo (nat_abs (hi -ℤ lo) + 1)))
    by true = tt
    by false = numbers_differ lo (nat_abs (hi -ℤ lo) + 1)
domain_differs (Listed ns) h = h

variables_differ : (xs : List Variable) → EachListedDiffers xs → EachDistinct (map (λ x. domain_values x.domain) xs)
variables_differ [] h = tt
variables_differ (x ∷ xs) h = (domain_differs x.domain h.0, variables_differ xs h.1)

pub domains_differ : (g : Game) → EachListedDiffers g.variables → EachDistinct (declared_box g)
domains_differ g h = variables_differ g.variables h
