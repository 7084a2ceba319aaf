-- What a `Row` owns is taken apart and made, and a `&mut` to one is opened and closed. Assumes `Logic`.
use mathlib.Core.Path.{◌≡◌, refl, sym, ap, ◌∙◌}
use Prim.Native.Nat.{ℕ, ◌<◌, ◌^◌}
use mathlib.Core.List.{List, [], ◌∷◌}
use seplogic.Ra.Ura.{Ura}
use base.Fraction.{full_share}
use mir.Val.{Val}
use base.Logic.{id⊢, never}
use base.Stored.{Gv}
use base.Fml.{Lft, GName, Share, Fml, fsep, flt, flft, fobs, fauth, fbor, fobor}
use types.Logic.{Logic}
use types.Kit.{Goal, Soaks, Step, step, Seq, Item, ‵, ◌$◌, move, rewrite, fsplit, fjoin, flt_l, flt_i}
use types.SemTy.{Body}
use denote.RattleType.{RattleType}
use denote.Memory.{cell_at, mem}
use denote.RawPtr.{Ptr, block_ptr, in_block, in_a_block}
use denote.Steps.{opens, closes}
use denote.Struct.Struct.{Struct}
use denote.Struct.Owning.{Owning, shape}
use Rattle.std.proofs.RcSteps.{word}
use Rattle.paged_stack.proofs.Memory.El.{El, R, X}
use Rattle.paged_stack.proofs.Memory.Words.{word_had, word_made}
use Rattle.paged_stack.specs.Rows.{row_bytes, places}
use Rattle.paged_stack.specs.declared.row.Row.{Row}
use Rattle.paged_stack.specs.contracts.row.Row as C

module _ (E : El) where
  abbrev pub owning : Owning
  owning = C.the_type (R E)

  abbrev pub Sr : RattleType
  Sr = C.the_row (R E)

  abbrev pub el_d : Type 0
  el_d = Row (X E)

  -- the data field, as a plain struct
  abbrev pub Words : RattleType
  Words = Struct (shape owning)

  abbrev pub lies : el_d → ℕ → ℕ → Fml
  lies d b o = places (R E) (block_ptr b o) 1024 d.items

module _ (E : El) {M : Type 1} {𝓤 : Ura M} {𝓛 : Logic 𝓤} {K : Type 0} {Γ : List (Item 𝓤)} {G : Goal 𝓤 𝓛.H} where
  pub row_had : K → (d : el_d E) (vs : List Val)
      → ((b o : ℕ) → d.ptr ≡ block_ptr b o → vs ≡ word (block_ptr b o) ∷ [] → row_bytes (R E) < 2 ^ 63 → Seq K 𝓛 (‵ (lies E d b o) ∷ Γ) G)
      → Seq K 𝓛 (‵ ((Sr E).own_val d vs) ∷ Γ) G
  row_had t d vs k =
      fsplit t $ word_had t d.ptr vs (λ e. fsplit t $ flt_l t (λ fit.
      in_a_block t d.ptr (λ p. in_block p (places (R E) p 1024 d.items)) (id⊢ 𝓤 (never 𝓤)) (λ b o at. k b o at (e ∙ ap (λ (p : Ptr). word p ∷ []) at) fit)))

  pub row_made : K → (d : el_d E) (b o : ℕ) → d.ptr ≡ block_ptr b o → row_bytes (R E) < 2 ^ 63
      → Step K 𝓛 (‵ ((Sr E).own_val d (word (block_ptr b o) ∷ [])) ∷ Γ) G (‵ (lies E d b o) ∷ Γ) G
  row_made t d b o at fit = step (λ s.
      flt_i t (row_bytes (R E)) (2 ^ 63) fit $ fjoin t $ word_made t (block_ptr b o) $ fjoin t $
      rewrite t 0 (λ (p : Ptr). ‵ (fsep ((Words E).own_val (p, tt) (word (block_ptr b o) ∷ [])) (fsep (flt (row_bytes (R E)) (2 ^ 63)) (in_block p (places (R E) p 1024 d.items))))) (sym at) refl $ s)

module _ (E : El) {M : Type 1} {𝓤 : Ura M} {𝓛 : Logic 𝓤} {K : Type 0} {Γ : List (Item 𝓤)} {G : Goal 𝓤 𝓛.H} where
  -- [the places; the word; the open borrow; obs; auth]
  pub row_opens : K → Soaks G → {κ : Lft} {q : Share} {γ : GName} (d : el_d E) (rb ro : ℕ)
      → ((b o : ℕ) → d.ptr ≡ block_ptr b o → row_bytes (R E) < 2 ^ 63
      → Seq K 𝓛 (‵ (lies E d b o) ∷ ‵ (cell_at full_share (Sr E).mir (word (block_ptr b o) ∷ []) rb ro) ∷ ‵ (fobor κ q (Body (mem (Sr E)) rb ro γ)) ∷ ‵ (fobs γ ((Sr E).coded.code d)) ∷ ‵ (fauth γ ((Sr E).coded.code d)) ∷ Γ) G)
      → Seq K 𝓛 (‵ (fobs γ ((Sr E).coded.code d)) ∷ ‵ (fbor κ (Body (mem (Sr E)) rb ro γ)) ∷ ‵ (flft κ q) ∷ Γ) G
  row_opens t z d rb ro k =
      opens t z (Sr E) {h = d} rb ro (λ vs. move t (1 ∷ []) $ row_had E t d vs (λ b o at is fit.
      rewrite t 1 (λ (ws : List Val). ‵ (cell_at full_share (Sr E).mir ws rb ro)) is refl $ k b o at fit))

  pub row_closes : K → Soaks G → {κ : Lft} {q : Share} {u v : Gv} {γ : GName} (d : el_d E) (b o rb ro : ℕ) → d.ptr ≡ block_ptr b o → row_bytes (R E) < 2 ^ 63
      → Step K 𝓛 (‵ (fobs γ ((Sr E).coded.code d)) ∷ ‵ (fbor κ (Body (mem (Sr E)) rb ro γ)) ∷ ‵ (flft κ q) ∷ Γ) G
      (‵ (lies E d b o) ∷ ‵ (cell_at full_share (Sr E).mir (word (block_ptr b o) ∷ []) rb ro) ∷ ‵ (fobor κ q (Body (mem (Sr E)) rb ro γ)) ∷ ‵ (fobs γ u) ∷ ‵ (fauth γ v) ∷ Γ) G
  row_closes t z d b o rb ro at fit = step (λ s. row_made E t d b o at fit $ move t (1 ∷ 0 ∷ []) $ closes t z (Sr E) d (word (block_ptr b o) ∷ []) rb ro $ s)
