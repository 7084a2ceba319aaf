-- What the nodes of a chain own and lend, at elements of the row R.
use Rattle.std.specs.Prelude.{ℕ, List, [], ◌∷◌, map}
use base.Fraction.{full_share}
use base.Fml.{Lft, Fml, ftrue, ffalse, fsep, fwand}
use mir.Syntax.{Ty, ty_ptr, ty_struct, tcons, tnil}
use mir.Raw.{raw}
use prog.Memory.{align, up}
use denote.RattleType.{RattleType}
use denote.Memory.{lone}
use denote.Sharing.{nothing, beside}
use denote.RawPtr.{Ptr, RawPtr, lies_at, room_for, ◌+ₚ◌}
use denote.Struct.Lending.{lent_at}
use Rattle.paged_stack.specs.Links.{Link}

-- room for an R at p
abbrev pub room_owns : RattleType → Ptr → Fml
room_owns R p = room_for (raw (lone R.mir)) p

-- where the element lies in a node
abbrev pub elem_offset : RattleType → ℕ
elem_offset R = up (align (lone R.mir)) 16

-- where the elements lie
abbrev pub elem_places : RattleType → List Link → List Ptr
elem_places R = map (λ l. l.0 +ₚ elem_offset R)

-- ownership of a node's two pointers
abbrev pub link_owns : Link → Fml
link_owns l = fsep (lies_at RawPtr full_share (l.0 +ₚ 0) l.1) (lies_at RawPtr full_share (l.0 +ₚ 8) l.2)

module _ (R : RattleType) where
  -- values that lie at the places ps, one at each
  abbrev pub spread : List Ptr → List R.Denot → Fml
  spread [] [] = ftrue
  spread [] (x ∷ xs) = ffalse
  spread (p ∷ ps) [] = ffalse
  spread (p ∷ ps) (x ∷ xs) = fsep (lies_at R full_share p x) (spread ps xs)

  -- the type of `Node`, as the machine sees it
  abbrev pub node_type : Ty
  node_type = ty_struct [] (tcons ty_ptr (tcons ty_ptr (tcons (raw (lone R.mir)) tnil)))

  -- the three fields, given back empty, make the whole room
  abbrev pub fields_rejoin : Ptr → Fml
  fields_rejoin p = fwand (fsep (room_for ty_ptr (p +ₚ 0)) (fsep (room_for ty_ptr (p +ₚ 8)) (room_for (raw (lone R.mir)) (p +ₚ elem_offset R)))) (room_for node_type p)

  -- the nodes but for their elements
  abbrev pub frames : List Link → Fml
  frames [] = ftrue
  frames (l ∷ ls) = fsep (fsep (link_owns l) (fields_rejoin l.0)) (frames ls)

  -- the elements and the rest of the nodes
  abbrev pub nodes_own : List Link → List R.Denot → Fml
  nodes_own ls xs = fsep (spread (elem_places R ls) xs) (frames ls)

  -- what a `&` holds of the elements at their places
  abbrev pub spread_lent : List Ptr → List R.Denot → Lft → Fml
  spread_lent [] xs = nothing
  spread_lent (p ∷ ps) [] = nothing
  spread_lent (p ∷ ps) (x ∷ xs) = beside (lent_at R p x) (spread_lent ps xs)

-- of the pointers
abbrev pub links_lent : List Link → Lft → Fml
links_lent [] = nothing
links_lent (l ∷ ls) = beside (beside (lent_at RawPtr (l.0 +ₚ 0) l.1) (lent_at RawPtr (l.0 +ₚ 8) l.2)) (links_lent ls)

-- and of both
abbrev pub nodes_lent : (R : RattleType) → List Link → List R.Denot → Lft → Fml
nodes_lent R ls xs = beside (spread_lent R (elem_places R ls) xs) (links_lent ls)
