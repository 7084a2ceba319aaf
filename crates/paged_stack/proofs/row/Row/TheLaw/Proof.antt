-- A `&` to a row is made where one to an item is. It lends the bound on its size and each item. Assumes `Logic`.
use mathlib.Core.List.{List, [], ◌∷◌, ◌++◌}
use Prim.Native.Nat.{ℕ, zero, suc, ◌^◌}
use seplogic.Ra.Ura.{Ura}
use base.Fml.{Lft, flt, Incl-trans}
use types.Logic.{Logic}
use contract.BorrowLft.{meet_⊑_left}
use denote.RattleType.{RattleType, RowLaws}
use denote.Sharing.{ShrLaws, said}
use denote.SharingLaws.{nothing_shr_laws, said_shr_laws, beside_shr_laws}
use denote.RawPtr.{Ptr, block_ptr, null_ptr, lies_at, in_block, ◌+ₚ◌}
use denote.Shares.{Shares, Shares-less}
use denote.Param.Laws.{Laws}
use denote.Param.Shared.{copy_shared}
use denote.Struct.Field.{RawPtr-field}
use denote.Struct.Laws.{RawPtr-copy}
use denote.Struct.Lending.{lent_at, lent_at_shr_laws, Lends, Lends-false, Lends-lies, Lends-said, Lends-nothing, Lends-both, of_Lends}
use base.Fraction.{full_share}
use Rattle.std.specs.Mem.{type_size}
use Rattle.paged_stack.specs.Rows.{row_bytes, places, places_lent}
use Rattle.paged_stack.specs.contracts.row.Row as C
use Rattle.paged_stack.proofs.row.Row.TheLaw.Statement.{statement}

module _ (R : RattleType) (L : RowLaws R) where
  places_laws : (p : Ptr) (xs : List R.Denot) → ShrLaws (places_lent R p xs)
  places_laws p [] = nothing_shr_laws
  places_laws p (x ∷ xs) = beside_shr_laws (lent_at R p x) (places_lent R (p +ₚ type_size R) xs) (lent_at_shr_laws R L p x) (places_laws (p +ₚ type_size R) xs)

module _ {M : Type 1} {𝓤 : Ura M} (𝓛 : Logic 𝓤) (R : RattleType) (l : Lft) (s : Shares 𝓛 R l) where
  Lends-places : (p : Ptr) (n : ℕ) (xs : List R.Denot) → Lends 𝓛 (places R p n xs) (places_lent R p xs) l
  Lends-places p n [] = Lends-nothing 𝓛 (places R p n []) l
  Lends-places p zero (x ∷ xs) = Lends-false 𝓛 (places_lent R p (x ∷ xs)) l
  Lends-places p (suc n) (x ∷ xs) =
      Lends-both 𝓛 (lies_at R full_share p x) (places R (p +ₚ type_size R) n xs) (lent_at R p x) (places_lent R (p +ₚ type_size R) xs) l (Lends-lies 𝓛 R l p x (s x)) (Lends-places (p +ₚ type_size R) n xs)

  Lends-row : (p : Ptr) (xs : List R.Denot) → Lends 𝓛 (in_block p (places R p 1024 xs)) (places_lent R p xs) l
  Lends-row (block_ptr b o) xs = Lends-places (block_ptr b o) 1024 xs
  Lends-row null_ptr xs = Lends-false 𝓛 (places_lent R null_ptr xs) l

pub shares : (R : RattleType) (L : Laws R) → statement R L
shares R L = of_Lends (C.struct R) (C.the_codes R.Denot R.coded) (C.the_heap R) (C.the_lent R)
    (λ d p. let small = flt (row_bytes R) (2 ^ 63) in beside_shr_laws (said small) (places_lent R d.ptr d.items) (said_shr_laws small tt) (places_laws R L.shr_laws d.ptr d.items))
    (copy_shared RawPtr-field RawPtr-copy, tt)
    (λ M 𝓤 𝓛 d p.
    let l = (C.the_row R).lives in
    let small = flt (row_bytes R) (2 ^ 63) in
    Lends-both 𝓛 small (in_block d.ptr (places R d.ptr 1024 d.items)) (said small) (places_lent R d.ptr d.items) l (Lends-said 𝓛 small tt l)
    (Lends-row 𝓛 R l (Shares-less 𝓛 R R.lives l (Incl-trans (meet_⊑_left (R.lives ++ []) _) (meet_⊑_left R.lives [])) (L.shares 𝓛)) d.ptr d.items))
