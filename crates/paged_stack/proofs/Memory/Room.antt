-- A `Room` by value is room at its place. Assumes `Logic`.
use mathlib.Core.Path.{◌≡◌, ap, ◌∙◌}
use Prim.Native.Nat.{ℕ}
use mathlib.Core.List.{List, [], ◌∷◌}
use seplogic.Ra.Ura.{Ura}
use mir.Syntax.{Ty}
use mir.Val.{Val}
use mir.Raw.{raw as bare}
use base.Logic.{id⊢, never}
use base.Fml.{froom}
use types.Logic.{Logic}
use types.Kit.{Item, Goal, Seq, Step, step, ‵, ◌$◌, fsplit, fjoin}
use denote.RattleType.{RattleType}
use denote.Memory.{lone}
use denote.RawPtr.{Ptr, block_ptr, in_a_block}
use Rattle.std.proofs.RcSteps.{word}
use Rattle.paged_stack.specs.Ownership.{room_owns}
use Rattle.paged_stack.specs.contracts.nodes.Room as V
use Rattle.paged_stack.proofs.Memory.Words.{word_had, word_made}

-- Y is the row for which there is room
module _ (Y : RattleType) where
  abbrev pub Room : RattleType
  Room = V.the_row Y

  abbrev pub place_ty : Ty
  place_ty = bare (lone Y.mir)

  module _ {M : Type 1} {𝓤 : Ura M} {𝓛 : Logic 𝓤} {K : Type 0} {Γ : List (Item 𝓤)} {G : Goal 𝓤 𝓛.H} where
    pub Room-had : K → (d : Room.Denot) (vs : List Val)
        → ((b o : ℕ) → d.ptr ≡ block_ptr b o → vs ≡ word (block_ptr b o) ∷ [] → Seq K 𝓛 (‵ (froom place_ty b o) ∷ Γ) G) → Seq K 𝓛 (‵ (Room.own_val d vs) ∷ Γ) G
    Room-had t d vs k =
        fsplit t $ word_had t d.ptr vs (λ e. in_a_block t d.ptr (room_owns Y) (id⊢ 𝓤 (never 𝓤)) (λ b o at. k b o at (e ∙ ap (λ (p : Ptr). word p ∷ []) at)))

    pub Room-made : K → (b o : ℕ) → Step K 𝓛 (‵ (Room.own_val (record { ptr = block_ptr b o }) (word (block_ptr b o) ∷ [])) ∷ Γ) G (‵ (froom place_ty b o) ∷ Γ) G
    Room-made t b o = step (λ s. word_made t (block_ptr b o) $ fjoin t $ s)
