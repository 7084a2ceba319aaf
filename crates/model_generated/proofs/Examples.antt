-- The numbers of two made games, computed.
use Rattle.std.proofs.Common.{◌≡◌, refl, [], ◌∷◌}
use Rattle.std.specs.Prelude.{pos, map}
use Rattle.model_generated.specs.Links.{gap, link_of, bases_of, demands}

gaps_of_0 : map (gap 0) (1 ∷ 2 ∷ 3 ∷ []) ≡ 4 ∷ 6 ∷ 8 ∷ []
gaps_of_0 = refl

gaps_of_7 : map (gap 7) (1 ∷ 2 ∷ 3 ∷ []) ≡ 5 ∷ 1 ∷ 7 ∷ []
gaps_of_7 = refl

-- 1 where the customer's number is a multiple of three, else 2
demands_of_0 : demands 0 ≡ pos 2 ∷ pos 2 ∷ pos 1 ∷ pos 2 ∷ pos 2 ∷ pos 1 ∷ pos 2 ∷ pos 2 ∷ pos 1 ∷ pos 2 ∷ pos 2 ∷ pos 1 ∷ []
demands_of_0 = refl

demands_of_7 : demands 7 ≡ pos 3 ∷ pos 3 ∷ pos 2 ∷ pos 3 ∷ pos 3 ∷ pos 2 ∷ pos 3 ∷ pos 3 ∷ pos 2 ∷ pos 3 ∷ pos 3 ∷ pos 2 ∷ []
demands_of_7 = refl

-- customers 1, 4, 7 and 10 have the first link
links : map link_of (1 ∷ 2 ∷ 3 ∷ 4 ∷ 12 ∷ []) ≡ 1 ∷ 2 ∷ 3 ∷ 1 ∷ 3 ∷ []
links = refl

bases_of_first : bases_of 0 1 ≡ pos 6 ∷ pos 20 ∷ pos 20 ∷ pos 10 ∷ []
bases_of_first = refl

bases_of_fifth : bases_of 7 5 ≡ pos 20 ∷ pos 9 ∷ pos 20 ∷ pos 10 ∷ []
bases_of_fifth = refl
