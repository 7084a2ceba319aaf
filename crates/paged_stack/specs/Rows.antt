-- What the row of a page owns and lends, at items of the row R.
use Rattle.std.specs.Prelude.{ℕ, zero, suc, ◌*◌, ◌^◌, List, [], ◌∷◌}
use Rattle.std.specs.Mem.{type_size}
use base.Fraction.{full_share}
use base.Fml.{Lft, Fml, ffalse, fsep, flt}
use mir.Syntax.{Ty, ty_array}
use mir.Raw.{raw}
use denote.RattleType.{RattleType}
use denote.Memory.{lone}
use denote.RawPtr.{Ptr, lies_at, room_for, in_block, ◌+ₚ◌}
use denote.Sharing.{nothing, said, beside}
use denote.Struct.Lending.{lent_at}

-- n items, as one type
abbrev pub items_type : RattleType → ℕ → Ty
items_type R n = ty_array (raw (lone R.mir)) n

-- the bytes that the items of a page take
abbrev pub row_bytes : RattleType → ℕ
row_bytes R = 1024 * type_size R

-- n places from p on, of which the first hold xs
abbrev pub places : (R : RattleType) → Ptr → ℕ → List R.Denot → Fml
places R p n [] = room_for (items_type R n) p
places R p zero (x ∷ xs) = ffalse
places R p (suc n) (x ∷ xs) = fsep (lies_at R full_share p x) (places R (p +ₚ type_size R) n xs)

abbrev pub row_owns : (R : RattleType) → Ptr → List R.Denot → Fml
row_owns R p xs = fsep (flt (row_bytes R) (2 ^ 63)) (in_block p (places R p 1024 xs))

abbrev pub places_lent : (R : RattleType) → Ptr → List R.Denot → Lft → Fml
places_lent R p [] = nothing
places_lent R p (x ∷ xs) = beside (lent_at R p x) (places_lent R (p +ₚ type_size R) xs)

abbrev pub row_lent : (R : RattleType) → Ptr → List R.Denot → Lft → Fml
row_lent R p xs = beside (said (flt (row_bytes R) (2 ^ 63))) (places_lent R p xs)
