-- What a `&` to a `Row` shows: its word, and a `&` to each item. Assumes `Logic`.
use mathlib.Core.Path.{◌≡◌, refl, sym, ap, ◌∙◌}
use Prim.Native.Nat.{ℕ, zero, suc, ◌+◌, ◌*◌, ◌<◌, ◌^◌}
use native.Mathlib.Nat.{not-suc-le-zero, le_of_suc-le-suc}
use mathlib.Core.List.{List, [], ◌∷◌}
use lib.ListN.{length, get_or}
use seplogic.Ra.Ura.{Ura}
use mir.Syntax.{ty_ptr}
use mir.Val.{Val, vptr}
use base.Logic.{ent, sep, never}
use base.Fml.{Lft, Share, fat, flt, flft, fhide}
use types.Logic.{Logic, sem}
use types.Kit.{Goal, Soaks, Step, step, Seq, Item, ‵, ◌⊛◌, ◌$◌, ◌∵◌, !, qed, by, move, keep, drop, use1, split, rewrite, fsplit, feq_l, feq_i, done}
use denote.Memory.{cell_at, part_at, hidden_shr}
use denote.Copied.{plain_Copied}
use denote.RawPtr.{Ptr, RawPtr, block_ptr, null_ptr, coded_ptr, ptr_own, rawptr_pure, ptr_val}
use denote.Index.{place, place_is}
use denote.Struct.Laws.{RawPtr-laws}
use denote.Struct.Lending.{lent_at, lent_out}
use denote.Opens.{Shut, unhide}
use denote.Steps.{looks, shuts}
use Rattle.paged_stack.proofs.Memory.El.{El, R, X}
use Rattle.paged_stack.specs.Rows.{row_bytes, places_lent}
use Rattle.paged_stack.specs.contracts.row.Row as C
use Rattle.paged_stack.proofs.Items.Places.{sz}
use Rattle.paged_stack.proofs.Items.Opens.{Sr, el_d, Words}

module _ (E : El) {M : Type 1} {𝓤 : Ura M} (𝓛 : Logic 𝓤) (κ : Lft) where
  pub shown : (d : el_d E) (b o : ℕ) → ent 𝓤 (sem 𝓛 (hidden_shr (Sr E) κ d b o)) (sep 𝓤 (sem 𝓛 (hidden_shr RawPtr κ d.ptr b (o + 0)))
      (sep 𝓤 (sem 𝓛 (flt (row_bytes (R E)) (2 ^ 63))) (sem 𝓛 (places_lent (R E) d.ptr d.items κ))))
  shown d b o = qed 𝓛 (‵ (hidden_shr (Sr E) κ d b o) ∷ []) ∵
      use1 𝓛 (‵ (hidden_shr (Words E) κ (d.ptr, tt) b o) ⊛ ‵ (fhide (C.the_lent (R E) d d.ptr κ))) (lent_out 𝓛 (C.struct (R E)) (C.the_codes (X E) (R E).coded) (C.the_heap (R E)) (C.the_lent (R E)) κ d b o) $ split ! $
      unhide ! $ fsplit ! $ fsplit ! $ keep ! (0 ∷ 3 ∷ []) $ done !

  pub none_at_null : (xs : List (X E)) (i : ℕ) → i < length xs → ent 𝓤 (sem 𝓛 (places_lent (R E) null_ptr xs κ)) (never 𝓤)
  none_at_null [] i l = absurd (not-suc-le-zero l)
  none_at_null (x ∷ xs) i l = qed 𝓛 (‵ (lent_at (R E) null_ptr x κ) ∷ ‵ (places_lent (R E) null_ptr xs κ) ∷ []) ∵ fsplit ! $ keep ! (0 ∷ []) $ done !

  one_lent : (b o : ℕ) (xs : List (X E)) (i : ℕ) (d : X E) → i < length xs
      → ent 𝓤 (sem 𝓛 (places_lent (R E) (block_ptr b o) xs κ)) (sem 𝓛 (hidden_shr (R E) κ (get_or xs i d) b (place (sz E) o i)))
  one_lent b o [] i d l = absurd (not-suc-le-zero l)
  one_lent b o (x ∷ xs) zero d l = qed 𝓛 (‵ (lent_at (R E) (block_ptr b o) x κ) ∷ ‵ (places_lent (R E) (block_ptr b (o + sz E)) xs κ) ∷ []) ∵
      fsplit ! $ keep ! (1 ∷ []) $ done !
  one_lent b o (x ∷ xs) (suc i) d l = qed 𝓛 (‵ (lent_at (R E) (block_ptr b o) x κ) ∷ ‵ (places_lent (R E) (block_ptr b (o + sz E)) xs κ) ∷ []) ∵
      drop ! $ by ! (one_lent b (o + sz E) xs i d (le_of_suc-le-suc l))

  pub value_lent : (b o : ℕ) (xs : List (X E)) (i : ℕ) (d : X E) → i < length xs
      → ent 𝓤 (sem 𝓛 (places_lent (R E) (block_ptr b o) xs κ)) (sem 𝓛 (hidden_shr (R E) κ (get_or xs i d) b (i * sz E + o)))
  value_lent b o xs i d l = qed 𝓛 (‵ (places_lent (R E) (block_ptr b o) xs κ) ∷ []) ∵
      use1 𝓛 (‵ (hidden_shr (R E) κ (get_or xs i d) b (place (sz E) o i))) (one_lent b o xs i d l) $ rewrite ! 0 (λ (k : ℕ). ‵ (hidden_shr (R E) κ (get_or xs i d) b k)) (place_is (sz E) o i) refl $ done !

module _ {M : Type 1} {𝓤 : Ura M} {𝓛 : Logic 𝓤} {K : Type 0} {Γ : List (Item 𝓤)} {G : Goal 𝓤 𝓛.H} where
  -- the same of a pointer into a block
  pub pointer_in : K → Soaks G → {κ : Lft} {q : Share} (p : Ptr) (pb po : ℕ) → p ≡ block_ptr pb po → (b at : ℕ)
      → ((q' : Share) → Seq K 𝓛 (‵ (fat q' ty_ptr b at (vptr pb po)) ∷ Shut 𝓛 κ q (part_at RawPtr q' p b at) ∷ Γ) G) → Seq K 𝓛 (‵ (hidden_shr RawPtr κ p b at) ∷ ‵ (flft κ q) ∷ Γ) G
  pointer_in t z p pb po is b at k =
      looks t z RawPtr (plain_Copied 𝓛 Ptr coded_ptr (ty_ptr ∷ []) ptr_own rawptr_pure ptr_val RawPtr-laws.tells).opens p b at (λ q' vs. move t (1 ∷ []) $ feq_l t (λ e.
      rewrite t 0 (λ (us : List Val). ‵ (cell_at q' RawPtr.mir us b at)) (e ∙ ap (λ (r : Ptr). ptr_val r ∷ []) is) refl $ move t (2 ∷ []) $ drop t $ k q'))

  pub pointer_out : K → Soaks G → {κ : Lft} {q q' : Share} (p : Ptr) (pb po : ℕ) → p ≡ block_ptr pb po → (b at : ℕ)
      → Step K 𝓛 (‵ (flft κ q) ∷ Γ) G (‵ (fat q' ty_ptr b at (vptr pb po)) ∷ Shut 𝓛 κ q (part_at RawPtr q' p b at) ∷ Γ) G
  pointer_out t z {q' = q'} p pb po is b at = step (λ s.
      feq_i t (List Val) (vptr pb po ∷ []) (ptr_val p ∷ []) (ap (λ (r : Ptr). ptr_val r ∷ []) (sym is)) $ move t (1 ∷ 0 ∷ []) $ shuts t z RawPtr q' p (vptr pb po ∷ []) b at $ s)
