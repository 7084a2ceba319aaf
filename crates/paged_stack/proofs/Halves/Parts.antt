-- A block comes apart into its row and the room for its node, and they make it whole again. Assumes `Logic`.
use Rattle.std.proofs.Common.{◌≡◌, ℕ, zero, suc, ◌+◌, ◌*◌, ◌/◌, [], ◌∷◌, refl, sym, ap, subst, ◌∙◌, arith}
use seplogic.Ra.Ura.{Ura}
use mir.Syntax.{Ty, Width, w8, w16, w32, w64, w128, ty_int}
use mir.Val.{bytes}
use base.Logic.{SProp, ent, sep, apply∗}
use base.Fml.{Fml, fsep, fwand, froom}
use prog.Memory.{align}
use prog.Align.{align_w, align-bytes, Dv, →dv, dv_self}
use mir.Raw.{raw as bare}
use prog.RawLaws.{size-raw}
use denote.RattleType.{RattleType}
use denote.Memory.{lone}
use Rattle.std.specs.Align.{type_align}
use types.Logic.{Logic, sem}
use types.Kit.{‵, ◌⊛◌, ◌$◌, ◌∵◌, !, qed, by, move, keep, use1, use2, split, rewrite, fsplit3, fjoin, fjoin3, fpack, done}
use denote.RawPtr.{Ptr, block_ptr, room_for}
use denote.RawPtr.Room.{room_cut, room_glue, past}
use Rattle.std.specs.Mem.{type_size}
use Rattle.paged_stack.proofs.Memory.El.{El, R, τ as item}
use Rattle.paged_stack.specs.Rows.{items_type, row_bytes}
use Rattle.paged_stack.specs.Blocks.{IsCapacity, IsParted, units, words, block_type, block_owns, deed_owns}

past_units : (k o : ℕ) → past (ty_int w128) k o ≡ o + k * 16
past_units zero o = omega arith
past_units (suc k) o = past_units k (o + 16) ∙ omega arith

-- each alignment divides 16
bytes_divide : (w : Width) → Dv (bytes w) 16
bytes_divide w8 = →dv 1 16 refl
bytes_divide w16 = →dv 2 16 refl
bytes_divide w32 = →dv 4 16 refl
bytes_divide w64 = →dv 8 16 refl
bytes_divide w128 = →dv 16 16 refl

pub align_divides : (τ : Ty) → Dv (align τ) 16
align_divides τ = subst (λ (k : ℕ). Dv k 16) (sym (align-bytes τ)) (bytes_divide (align_w τ))

module _ (E : El) where
  abbrev pub cap : ℕ
  cap = row_bytes (R E)

  whole : cap / 16 * 16 ≡ cap
  whole = let is : cap ≡ 1024 * type_size (R E) = refl in omega arith

  sum : (cap + 32) / 16 ≡ cap / 16 + 2
  sum = omega arith

  far : (o : ℕ) → past (ty_int w128) (cap / 16) o ≡ o + cap
  far o = past_units (cap / 16) o ∙ ap (λ (k : ℕ). o + k) whole

module _ (E : El) {M : Type 1} {𝓤 : Ura M} (𝓛 : Logic 𝓤) (t : Ty → Ptr → Fml) (b o : ℕ) where
  open 𝓛 use {H}

  abbrev c : ℕ
  c = cap E

  abbrev items : Ty
  items = items_type (R E) 1024

  abbrev ⟦◌⟧ : Fml → SProp 𝓤
  ⟦ P ⟧ = sem 𝓛 P

  abbrev pub made : Ptr → Fml
  made q = fsep (fwand (froom items b o) (froom (units (c / 16)) b o)) (fsep (fwand (room_for (words 4) q) (room_for (units 2) q)) (t (block_type c) (block_ptr b o)))

  pub comes_apart : IsCapacity c → ent 𝓤 ⟦ block_owns t (block_ptr b o) c ⟧ (sep 𝓤 (H.room items b o) (sep 𝓤 (H.room (words 4) b (o + c)) ⟦ deed_owns t (R E) (block_ptr b o) (block_ptr b (o + c)) ⟧))
  comes_apart fits =
      qed 𝓛 (‵ (froom (block_type c) b o) ∷ ‵ (t (block_type c) (block_ptr b o)) ∷ []) ∵ rewrite ! 0 (λ (k : ℕ). ‵ (froom (units k) b o)) (sum E) refl $
      use1 𝓛 (‵ (froom (units (c / 16)) b o) ⊛ ‵ (froom (units 2) b (past (ty_int w128) (c / 16) o))) (room_cut 𝓛 (ty_int w128) (c / 16) 2 b o) $ split ! $
      use1 𝓛 (‵ (froom items b o) ⊛ ‵ (fwand (froom items b o) (froom (units (c / 16)) b o))) (𝓛.laws.room_as (units (c / 16)) items b o (ap (λ (k : ℕ). 1024 * k) (size-raw (item E)) ∙ sym (whole E)) (align_divides items)) $ split ! $
      move ! (2 ∷ []) $ rewrite ! 0 (λ (d : ℕ). ‵ (froom (units 2) b d)) (far E o) refl $
      use1 𝓛 (‵ (froom (words 4) b (o + c)) ⊛ ‵ (fwand (froom (words 4) b (o + c)) (froom (units 2) b (o + c)))) (𝓛.laws.room_as (units 2) (words 4) b (o + c) refl tt) $ split ! $
      -- [the words; their way back; the items; theirs; the token]
      move ! (3 ∷ 1 ∷ 4 ∷ []) $ fjoin3 ! $ fpack ! (IsParted (R E) (block_ptr b o) (block_ptr b (o + c))) (λ _. made (block_ptr b (o + c))) (refl, fits) $ move ! (2 ∷ 1 ∷ 0 ∷ []) $ done !

  pub goes_together : (q : Ptr) → q ≡ block_ptr b (o + c) → ent 𝓤 (sep 𝓤 (H.room items b o) (sep 𝓤 ⟦ room_for (words 4) q ⟧ ⟦ made q ⟧)) ⟦ block_owns t (block_ptr b o) c ⟧
  goes_together q e =
      qed 𝓛 (‵ (froom items b o) ∷ ‵ (room_for (words 4) q) ∷ ‵ (made q) ∷ []) ∵ move ! (2 ∷ []) $ fsplit3 ! $
      -- [the items' way back; the words'; the token; the items; the words]
      move ! (3 ∷ 0 ∷ []) $ use2 𝓛 (‵ (froom (units (c / 16)) b o)) (apply∗ 𝓤 (H.room items b o) (H.room (units (c / 16)) b o)) $
      move ! (3 ∷ 1 ∷ []) $ use2 𝓛 (‵ (room_for (units 2) q)) (apply∗ 𝓤 ⟦ room_for (words 4) q ⟧ ⟦ room_for (units 2) q ⟧) $
      rewrite ! 0 (λ (r : Ptr). ‵ (room_for (units 2) r)) e refl $ rewrite ! 0 (λ (d : ℕ). ‵ (froom (units 2) b d)) (sym (far E o)) refl $ move ! (1 ∷ 0 ∷ []) $
      use2 𝓛 (‵ (froom (units (c / 16 + 2)) b o)) (room_glue 𝓛 (ty_int w128) (c / 16) 2 b o) $ rewrite ! 0 (λ (k : ℕ). ‵ (froom (units k) b o)) (sym (sum E)) refl $ fjoin ! $ done !

-- the words as room for a node, and back
module _ {M : Type 1} {𝓤 : Ura M} (𝓛 : Logic 𝓤) (N : RattleType) (b o : ℕ) (sized : type_size N ≡ 32) (aligned : type_align N ≡ 8) where
  open 𝓛 use {H}

  abbrev τ : Ty
  τ = lone N.mir

  pub words_as : ent 𝓤 (H.room (words 4) b o) (H.room (bare τ) b o)
  words_as = qed 𝓛 (‵ (froom (words 4) b o) ∷ []) ∵
      use1 𝓛 (‵ (froom τ b o) ⊛ ‵ (fwand (froom τ b o) (froom (words 4) b o))) (𝓛.laws.room_as (words 4) τ b o sized (subst (λ (k : ℕ). Dv k 8) (sym aligned) (dv_self 8))) $ split ! $
      keep ! (0 ∷ []) $ by ! (𝓛.laws.room-raw τ b o)

  pub as_words : ent 𝓤 (H.room (bare τ) b o) (H.room (words 4) b o)
  as_words = qed 𝓛 (‵ (froom (bare τ) b o) ∷ []) ∵
      use1 𝓛 (‵ (froom τ b o)) (𝓛.laws.raw-room τ b o) $
      use1 𝓛 (‵ (froom (words 4) b o) ⊛ ‵ (fwand (froom (words 4) b o) (froom τ b o))) (𝓛.laws.room_as τ (words 4) b o (sym sized) (subst (λ (k : ℕ). Dv 8 k) (sym aligned) (dv_self 8))) $ split ! $
      keep ! (0 ∷ []) $ done !
