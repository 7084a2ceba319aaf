-- How many turns a game can take at most.
use Rattle.std.specs.Prelude.{◌*◌, ◌^◌, ℕ, min, List, [], ◌∷◌, length}
use Rattle.qc_model.specs.declared.problem.Variable.{Variable}
use Rattle.qc_model.specs.Content.{Game}
use Rattle.qc_model.specs.Domains.{domain_values}

-- the product of the numbers of declared values
abbrev pub value_product : List Variable → ℕ
value_product [] = 1
value_product (x ∷ xs) = length (domain_values x.domain) * value_product xs

-- as many as variables times that product, or 2 ^ 63 where that is smaller
abbrev pub full_turns_of : Game → ℕ
full_turns_of g = min (length g.variables * value_product g.variables) (2 ^ 63)
