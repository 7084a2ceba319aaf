-- The type of the elements of a chain, or of the items of a row, under short names. Assumes `Logic`.
use mathlib.Core.List.{List, [], ◌∷◌}
use mathlib.Core.Path.{◌≡◌, refl}
use Prim.Native.Nat.{ℕ}
use lib.Dec.{T}
use seplogic.Ra.Ura.{Ura}
use base.Fraction.{full_share}
use base.Logic.{ent, sep, ex, guard}
use types.Logic.{Logic, sem}
use denote.Laws.{Lawful, Typed}
use denote.Memory.{part_at}
use Rattle.std.proofs.BoxSteps.Steps as Boxes
use mir.Syntax.{Ty, Args, a_type, given}
use mir.Val.{Val, has_ty, WT}
use base.Fml.{Fml, ftrue}
use denote.RattleType.{RattleType}
use denote.Param.{layout, layouts, param}
use denote.Param.Laws.{Laws, param_laws}
use Rattle.std.proofs.BoxSteps.Form.{Bx}

pub record El : Type 2 where
  pub row : RattleType
  pub laws : Laws row

module _ (E : El) where
  abbrev pub R : RattleType
  R = param 0 E.row

  abbrev pub args : Args
  args = layouts (a_type ∷ []) (E.row, tt)

  abbrev pub X : Type 0
  X = E.row.Denot

  abbrev pub τ : Ty
  τ = layout E.row

  abbrev pub own : X → List Val → Fml
  own = E.row.own_val

  abbrev pub Good : Val → Type 0
  Good v = T (has_ty τ v) × WT v

  -- the element in a box of no allocator, for the steps that std has
  abbrev pub boxed : Bx
  boxed = record { row = E.row; laws = E.laws; al = record { row = E.row; laws = E.laws; g = record { dealloc_token = λ _ _ _. ftrue }; d = given 0; drops = given 0 } }

  abbrev pub lawful : {M : Type 1} {𝓤 : Ura M} (𝓛 : Logic 𝓤) → Lawful 𝓛 R
  lawful 𝓛 = (param_laws 0 E.row E.laws).lawful 𝓛

  pub one : (vs : List Val) → Typed (τ ∷ []) vs → (v : Val) × (vs ≡ v ∷ []) × Good v
  one [] t = absurd t
  one (v ∷ []) t = (v, refl, t.0)
  one (v ∷ w ∷ vs) t = absurd t.1

module _ (E : El) {M : Type 1} {𝓤 : Ura M} (𝓛 : Logic 𝓤) (b : ℕ) where
  open 𝓛 use {H}

  pub el_out : (x : X E) (o : ℕ) → ent 𝓤 (sem 𝓛 (part_at (R E) full_share x b o)) (ex 𝓤 (λ (v : Val). guard 𝓤 (Good E v) (sep 𝓤 (H.at full_share (τ E) b o v) (sem 𝓛 (own E x (v ∷ []))))))
  el_out x o = Boxes.el_out (boxed E) 𝓛 x b o

  pub el_in : (x : X E) (o : ℕ) (v : Val) → ent 𝓤 (sep 𝓤 (H.at full_share (τ E) b o v) (sem 𝓛 (own E x (v ∷ [])))) (sem 𝓛 (part_at (R E) full_share x b o))
  el_in x o v = Boxes.el_in (boxed E) 𝓛 x b o v
