-- What a clause sees of a stack.
use Rattle.std.specs.Prelude.{ℕ, List, refl}
use Rattle.std.specs.Coded.{Coded, code_by, coded×, coded_ℕ, coded_list}

-- the items, from the first to the last, and how many more the stack takes with no new memory
pub record Held (X : Type 0) : Type 0 where
  pub items : List X
  pub spare : ℕ

abbrev pub held_code : {X : Type 0} → Coded X → Coded (Held X)
held_code {X} c = code_by (List X × ℕ) (coded× (coded_list c) coded_ℕ) (λ h. (h.items, h.spare)) (λ p. record { items = p.0; spare = p.1 }) (λ _. refl)
