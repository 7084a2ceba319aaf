-- A `&` to the nodes is made where one to an element is, and has the laws of what a `&` holds. Assumes `Logic`.
use mathlib.Core.List.{List, [], ◌∷◌}
use seplogic.Ra.Ura.{Ura}
use base.Fml.{Lft, Fml, ftrue, ffalse, Incl}
use base.Fraction.{full_share}
use types.Logic.{Logic}
use denote.RattleType.{RattleType, RowLaws}
use denote.Param.Laws.{Laws}
use denote.RawPtr.{Ptr, RawPtr, lies_at, ◌+ₚ◌, ptr_row_laws}
use denote.Sharing.{ShrLaws, beside}
use denote.SharingLaws.{beside_shr_laws, nothing_shr_laws}
use denote.Shares.{Shares-less}
use denote.Param.Shared.{copy_shared}
use contract.BorrowLft.{⊑_static}
use denote.Struct.Field.{RawPtr-field}
use denote.Struct.Laws.{RawPtr-copy}
use denote.Struct.Lending.{lent_at, lent_at_shr_laws, Lends-lies, Lends-first, Lends, Lends-both, Lends-nothing}
use Rattle.paged_stack.specs.Links.{Link}
use Rattle.paged_stack.specs.Ownership.{spread, elem_places, link_owns, fields_rejoin, frames, nodes_own, links_lent, spread_lent, nodes_lent}

pub links_lent_laws : (ls : List Link) → ShrLaws (links_lent ls)
links_lent_laws [] = nothing_shr_laws
links_lent_laws (l ∷ ls) = beside_shr_laws _ _ (beside_shr_laws _ _ (lent_at_shr_laws RawPtr ptr_row_laws (l.0 +ₚ 0) l.1) (lent_at_shr_laws RawPtr ptr_row_laws (l.0 +ₚ 8) l.2)) (links_lent_laws ls)

module _ (R : RattleType) (L : RowLaws R) where
  pub spread_lent_laws : (ps : List Ptr) (xs : List R.Denot) → ShrLaws (spread_lent R ps xs)
  spread_lent_laws [] xs = nothing_shr_laws
  spread_lent_laws (p ∷ ps) [] = nothing_shr_laws
  spread_lent_laws (p ∷ ps) (x ∷ xs) = beside_shr_laws _ _ (lent_at_shr_laws R L p x) (spread_lent_laws ps xs)

  pub nodes_lent_laws : (ls : List Link) (xs : List R.Denot) → ShrLaws (nodes_lent R ls xs)
  nodes_lent_laws ls xs = beside_shr_laws _ _ (spread_lent_laws (elem_places R ls) xs) (links_lent_laws ls)

module _ {M : Type 1} {𝓤 : Ura M} (𝓛 : Logic 𝓤) (l : Lft) where
  pointer : (p x : Ptr) → Lends 𝓛 (lies_at RawPtr full_share p x) (lent_at RawPtr p x) l
  pointer p x = Lends-lies 𝓛 RawPtr l p x (Shares-less 𝓛 RawPtr [] l (⊑_static l) ((copy_shared RawPtr-field RawPtr-copy).shares M 𝓤 𝓛) x)

  module _ (R : RattleType) where
    pub Lends-frames : (ls : List Link) → Lends 𝓛 (frames R ls) (links_lent ls) l
    Lends-frames [] = Lends-nothing 𝓛 ftrue l
    Lends-frames (n ∷ ls) =
        let t : Lft → Fml = beside (lent_at RawPtr (n.0 +ₚ 0) n.1) (lent_at RawPtr (n.0 +ₚ 8) n.2) in
        Lends-both 𝓛 _ (frames R ls) t (links_lent ls) l
        (Lends-first 𝓛 (link_owns n) (fields_rejoin R n.0) t l (Lends-both 𝓛 _ _ (lent_at RawPtr (n.0 +ₚ 0) n.1) (lent_at RawPtr (n.0 +ₚ 8) n.2) l (pointer (n.0 +ₚ 0) n.1) (pointer (n.0 +ₚ 8) n.2)))
        (Lends-frames ls)

    module _ (L : Laws R) (inc : Incl l R.lives) where
      Lends-spread : (ps : List Ptr) (xs : List R.Denot) → Lends 𝓛 (spread R ps xs) (spread_lent R ps xs) l
      Lends-spread [] [] = Lends-nothing 𝓛 ftrue l
      Lends-spread [] (x ∷ xs) = Lends-nothing 𝓛 ffalse l
      Lends-spread (p ∷ ps) [] = Lends-nothing 𝓛 ffalse l
      Lends-spread (p ∷ ps) (x ∷ xs) =
          Lends-both 𝓛 (lies_at R full_share p x) (spread R ps xs) (lent_at R p x) (spread_lent R ps xs) l (Lends-lies 𝓛 R l p x (Shares-less 𝓛 R R.lives l inc (L.shares 𝓛) x)) (Lends-spread ps xs)

      pub Lends-nodes : (ls : List Link) (xs : List R.Denot) → Lends 𝓛 (nodes_own R ls xs) (nodes_lent R ls xs) l
      Lends-nodes ls xs =
          let ps = elem_places R ls in
          Lends-both 𝓛 (spread R ps xs) (frames R ls) (spread_lent R ps xs) (links_lent ls) l (Lends-spread ps xs) (Lends-frames ls)
