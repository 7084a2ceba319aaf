-- Literals: when they hold, and what a box that is cut to them has left.
use Rattle.std.specs.Prelude.{ℕ, ◌==◌, nat_lt, Bool, true, ◌&&◌, ◌||◌, List, [], ◌∷◌, filter, set, slice_index_or, ℤ, pos, int_lt, int_le}
use Rattle.std.specs.List.{list_any, list_all}
use Rattle.qc_model.specs.Domains.{Box, values_left, is_within}
use Rattle.lemma_list.specs.declared.lemma.Literal.{Literal}

-- the value is in the range of some literal on x
abbrev pub meets : List Literal → ℕ → ℤ → Bool
meets ls x v = list_any (λ l. l.x.0 == x && is_within l.lo l.hi v) ls

-- each variable with a literal has a value that meets its literals
abbrev pub literals_hold : List Literal → List ℤ → Bool
literals_hold ls a = list_all (λ l. meets ls l.x.0 (slice_index_or a l.x.0 (pos 0))) ls

-- the box cut to the values that meet the literals
abbrev pub cut_to : List Literal → List Literal → Box → Box
cut_to ls [] box = box
cut_to ls (l ∷ rest) box = cut_to ls rest (set box l.x.0 (filter (meets ls l.x.0) (values_left box l.x.0)))

abbrev pub box_to : List Literal → Box → Box
box_to ls box = cut_to ls ls box

-- the variable comes later, or its range does
abbrev pub comes_after : Literal → Literal → Bool
comes_after l r = nat_lt l.x.0 r.x.0 || (l.x.0 == r.x.0 && int_lt l.hi r.lo)

-- variables ascend, and so do the ranges of each
abbrev pub are_in_order : List Literal → Bool
are_in_order [] = true
are_in_order (l ∷ []) = int_le l.lo l.hi
are_in_order (l ∷ r ∷ rest) = int_le l.lo l.hi && comes_after l r && are_in_order (r ∷ rest)
