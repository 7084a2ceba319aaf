-- What a `&` to the nodes shows. Assumes `Logic`.
--     nodes_Seen                  [`head`; `tail`; `len`; the elements; the pointers]
--     pointer_in, pointer_out, number_in, number_out      a word is opened, and shut
--     elem_at, link_lent_at       what is lent of the i-th node
use mathlib.Core.Path.{refl}
use Prim.Native.Nat.{ℕ, zero, suc, ◌+◌, ◌<◌, ◌^◌}
use native.Mathlib.Omega.{arith}
use mathlib.Core.List.{List, [], ◌∷◌}
use lib.ListN.{length, get_or}
use seplogic.Ra.Ura.{Ura}
use mir.Syntax.{Args, a_type, w64, ty_int, ty_ptr}
use mir.Val.{Val, vint}
use base.Logic.{ent, via, fst∗, snd∗}
use base.Fml.{Lft, Share, fsep, fat, flft}
use types.Logic.{Logic, sem}
use types.Kit.{Item, Goal, Seq, Step, Soaks, step, ‵, ◌$◌, move, drop, rewrite, fsplit, fsplit3, fjoin, feq_l, feq_i, flt_l, flt_i}
use denote.Builtin.{usize}
use denote.RattleType.{RattleType}
use denote.Param.{param, layouts}
use denote.Memory.{cell_at, part_at, hidden_shr}
use denote.Copied.{plain_Copied, uint_Copied}
use denote.RawPtr.{Ptr, RawPtr, coded_ptr, ptr_own, rawptr_pure, ptr_val, ◌+ₚ◌}
use denote.Struct.Laws.{RawPtr-laws}
use denote.Struct.Lending.{lent_at}
use denote.Opens.{Shut, unhide, hide}
use denote.Steps.{looks, shuts}
use Rattle.paged_stack.specs.declared.nodes.Nodes.{Nodes}
use Rattle.paged_stack.specs.contracts.nodes.Nodes as C
use Rattle.paged_stack.specs.Links.{Link}
use Rattle.paged_stack.specs.Ownership.{elem_offset, elem_places, links_lent, spread_lent}
use Rattle.paged_stack.proofs.Memory.Chained.{link_at}

module _ (Y : RattleType) where
  abbrev pub args : Args
  args = layouts (a_type ∷ []) (Y, tt)

  abbrev pub R : RattleType
  R = param 0 Y

  abbrev pub Cr : RattleType
  Cr = C.the_row R

module _ {M : Type 1} {𝓤 : Ura M} {𝓛 : Logic 𝓤} {K : Type 0} {Γ : List (Item 𝓤)} {G : Goal 𝓤 𝓛.H} where
  pub nodes_Seen : K → (S : RattleType) {κ : Lft} (d : Nodes S.Denot) (b o : ℕ)
      → Step K 𝓛 (‵ (hidden_shr RawPtr κ d.head b (o + 0)) ∷ ‵ (hidden_shr RawPtr κ d.tail b (o + 8)) ∷ ‵ (hidden_shr usize κ d.len b (o + 16))
      ∷ ‵ (spread_lent S (elem_places S d.links) d.items κ) ∷ ‵ (links_lent d.links κ) ∷ Γ) G (‵ (hidden_shr (C.the_row S) κ d b o) ∷ Γ) G
  nodes_Seen t S d b o = step (λ s.
      unhide t $ fsplit t $ move t (1 ∷ []) $ fsplit t $ move t (2 ∷ []) $ fsplit t $ move t (1 ∷ []) $ drop t $ fsplit3 t $ move t (2 ∷ []) $ fsplit t $ move t (1 ∷ []) $ drop t $
      hide t $ move t (2 ∷ []) $ hide t $ move t (2 ∷ []) $ hide t $ s)

  pub pointer_in : K → Soaks G → {κ : Lft} {q : Share} (p : Ptr) (b at : ℕ)
      → ((part : Share) → Seq K 𝓛 (‵ (fat part ty_ptr b at (ptr_val p)) ∷ Shut 𝓛 κ q (part_at RawPtr part p b at) ∷ Γ) G) → Seq K 𝓛 (‵ (hidden_shr RawPtr κ p b at) ∷ ‵ (flft κ q) ∷ Γ) G
  pointer_in t z p b at k =
      looks t z RawPtr (plain_Copied 𝓛 Ptr coded_ptr (ty_ptr ∷ []) ptr_own rawptr_pure ptr_val RawPtr-laws.tells).opens p b at (λ part vs. move t (1 ∷ []) $ feq_l t (λ e.
      rewrite t 0 (λ (us : List Val). ‵ (cell_at part RawPtr.mir us b at)) e refl $ move t (2 ∷ []) $ drop t $ k part))

  pub pointer_out : K → Soaks G → {κ : Lft} {q part : Share} (p : Ptr) (b at : ℕ)
      → Step K 𝓛 (‵ (flft κ q) ∷ Γ) G (‵ (fat part ty_ptr b at (ptr_val p)) ∷ Shut 𝓛 κ q (part_at RawPtr part p b at) ∷ Γ) G
  pointer_out t z {part = part} p b at = step (λ s.
      feq_i t (List Val) (ptr_val p ∷ []) (ptr_val p ∷ []) refl $ move t (1 ∷ 0 ∷ []) $ shuts t z RawPtr part p (ptr_val p ∷ []) b at $ s)

  pub number_in : K → Soaks G → {κ : Lft} {q : Share} (n b at : ℕ)
      → ((part : Share) → Seq K 𝓛 (‵ (fat part (ty_int w64) b at (vint w64 n)) ∷ Shut 𝓛 κ q (part_at usize part n b at) ∷ Γ) G) → Seq K 𝓛 (‵ (hidden_shr usize κ n b at) ∷ ‵ (flft κ q) ∷ Γ) G
  number_in t z n b at k =
      looks t z usize (uint_Copied 𝓛 w64).opens n b at (λ part vs. move t (1 ∷ []) $ fsplit t $ feq_l t (λ e. flt_l t (λ fn.
      rewrite t 0 (λ (us : List Val). ‵ (cell_at part usize.mir us b at)) e refl $ move t (2 ∷ []) $ drop t $ k part)))

  pub number_out : K → Soaks G → {κ : Lft} {q part : Share} (n b at : ℕ) → n < 2 ^ 64
      → Step K 𝓛 (‵ (flft κ q) ∷ Γ) G (‵ (fat part (ty_int w64) b at (vint w64 n)) ∷ Shut 𝓛 κ q (part_at usize part n b at) ∷ Γ) G
  number_out t z {part = part} n b at fn = step (λ s.
      flt_i t n (2 ^ 64) fn $ feq_i t (List Val) (vint w64 n ∷ []) (vint w64 n ∷ []) refl $ fjoin t $ move t (1 ∷ 0 ∷ []) $ shuts t z usize part n (vint w64 n ∷ []) b at $ s)

module _ {M : Type 1} {𝓤 : Ura M} (𝓛 : Logic 𝓤) (κ : Lft) where
  pub elem_at : (S : RattleType) (ls : List Link) (xs : List S.Denot) (i : ℕ) (d : S.Denot) → i < length ls → i < length xs
      → ent 𝓤 (sem 𝓛 (spread_lent S (elem_places S ls) xs κ)) (sem 𝓛 (lent_at S ((link_at ls i).0 +ₚ elem_offset S) (get_or xs i d) κ))
  elem_at S [] xs i d p q = absurd (omega arith)
  elem_at S (l ∷ ls) [] i d p q = absurd (omega arith)
  elem_at S (l ∷ ls) (x ∷ xs) zero d p q = fst∗ 𝓤 _ (sem 𝓛 (spread_lent S (elem_places S ls) xs κ))
  elem_at S (l ∷ ls) (x ∷ xs) (suc i) d p q = via 𝓤 _ (snd∗ 𝓤 (sem 𝓛 (lent_at S (l.0 +ₚ elem_offset S) x κ)) _) (elem_at S ls xs i d (omega arith) (omega arith))

  pub link_lent_at : (ls : List Link) (i : ℕ) → i < length ls
      → ent 𝓤 (sem 𝓛 (links_lent ls κ)) (sem 𝓛 (fsep (lent_at RawPtr ((link_at ls i).0 +ₚ 0) (link_at ls i).1 κ) (lent_at RawPtr ((link_at ls i).0 +ₚ 8) (link_at ls i).2 κ)))
  link_lent_at [] i p = absurd (omega arith)
  link_lent_at (l ∷ ls) zero p = fst∗ 𝓤 _ (sem 𝓛 (links_lent ls κ))
  link_lent_at (l ∷ ls) (suc i) p = via 𝓤 _ (snd∗ 𝓤 (sem 𝓛 (fsep (lent_at RawPtr (l.0 +ₚ 0) l.1 κ) (lent_at RawPtr (l.0 +ₚ 8) l.2 κ))) _) (link_lent_at ls i (omega arith))
