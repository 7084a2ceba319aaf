-- What a page's block owns, whole and in its two parts. t is the allocator's right to free a block.
use Rattle.std.specs.Prelude.{◌≡◌, ℕ, ◌+◌, ◌/◌, ◌%◌, ◌^◌, ◌<◌}
use mir.Syntax.{Ty, w64, w128, ty_int, ty_array}
use base.Fml.{Fml, fsep, fex, fwand}
use denote.RattleType.{RattleType}
use denote.RawPtr.{Ptr, room_for, ◌+ₚ◌}
use Rattle.paged_stack.specs.Rows.{items_type, row_bytes}

-- n bytes for items fit in a block with a node after them
abbrev pub IsCapacity : ℕ → Type 0
IsCapacity n = (n % 16 ≡ 0) × (n + 32 < 2 ^ 63)

-- k units of 16 bytes
abbrev pub units : ℕ → Ty
units k = ty_array (ty_int w128) k

-- the type of a block with n bytes for items
abbrev pub block_type : ℕ → Ty
block_type n = units ((n + 32) / 16)

abbrev pub block_owns : (Ty → Ptr → Fml) → Ptr → ℕ → Fml
block_owns t p n = fsep (room_for (block_type n) p) (t (block_type n) p)

-- k words of 8 bytes
abbrev pub words : ℕ → Ty
words k = ty_array (ty_int w64) k

-- a block has the row at p, and at q the node after it
abbrev pub IsParted : RattleType → Ptr → Ptr → Type 0
IsParted R p q = (q ≡ p +ₚ row_bytes R) × IsCapacity (row_bytes R)

-- the row and the node, given back empty, make the block whole, which may then be freed
abbrev pub deed_owns : (Ty → Ptr → Fml) → RattleType → Ptr → Ptr → Fml
deed_owns t R p q = fex (IsParted R p q) (λ _.
    fsep (fwand (room_for (items_type R 1024) p) (room_for (units (row_bytes R / 16)) p)) (fsep (fwand (room_for (words 4) q) (room_for (units 2) q)) (t (block_type (row_bytes R)) p)))
