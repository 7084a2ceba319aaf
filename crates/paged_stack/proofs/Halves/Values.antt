-- The machine values of a `Block` and of a `Deed`: what is owned tells them, and is made of nothing.
use Rattle.std.proofs.Common.{◌≡◌, ℕ, ◌^◌, ◌<◌, List, [], ◌∷◌, ◌++◌, refl, ◌∙◌, w64}
use seplogic.Ra.Ura.{Ura}
use mir.Val.{Val, vint, vstruct, vcons, vnil, of_list}
use base.Logic.{ent, emp}
use base.Fml.{Fml}
use types.Logic.{Logic, sem}
use denote.RattleType.{RattleType}
use denote.Builtin.{usize}
use denote.RawPtr.{Ptr, RawPtr, ptr_val}
use denote.Shadow.{shadow, makes_shadow}
use denote.Struct.Struct.{Struct}

-- a struct by its fields alone: what it owns does not read its name
abbrev pub plainly : List RattleType → RattleType
plainly Rs = Struct (record { name = []; args = []; types = []; fields = Rs })

abbrev pub block_val : Ptr → ℕ → Val
block_val p0 n1 = vstruct (vcons (ptr_val p0) (vcons (vint w64 n1) (vcons (vstruct vnil) vnil)))

abbrev pub block_own : Ptr → ℕ → List Val → Fml
block_own p0 n1 = (plainly (RawPtr ∷ usize ∷ plainly [] ∷ [])).own_val (p0, (n1, (tt, tt)))

pub block_told : (p0 : Ptr) (n1 : ℕ) (vs : List Val) → shadow (block_own p0 n1 vs) → (vs ≡ block_val p0 n1 ∷ []) × (n1 < 2 ^ 64)
block_told p0 n1 vs s = (s.1.0 ∙ (λ i. vstruct (of_list (s.1.1.0 i ++ (s.1.1.1.0.0 i ++ (s.1.1.1.1.0.1.0 i ++ [])))) ∷ []), s.1.1.1.0.1)

pub block_made : {M : Type 1} {𝓤 : Ura M} (𝓛 : Logic 𝓤) (p0 : Ptr) (n1 : ℕ) → (n1 < 2 ^ 64) → ent 𝓤 (emp 𝓤) (sem 𝓛 (block_own p0 n1 (block_val p0 n1 ∷ [])))
block_made 𝓛 p0 n1 f = makes_shadow 𝓛 (block_own p0 n1 (block_val p0 n1 ∷ [])) (λ _. (tt, (tt, ((tt, tt), ((λ _. (tt, tt)), tt))))) ((ptr_val p0 ∷ [], (vint w64 n1 ∷ [], (vstruct vnil ∷ [], tt))), (refl, (refl, ((refl, f), ((tt, (refl, tt)), tt)))))

abbrev pub deed_val : Val
deed_val = vstruct (vcons (vstruct vnil) vnil)

abbrev pub deed_own : List Val → Fml
deed_own = (plainly (plainly [] ∷ [])).own_val (tt, tt)

pub deed_told : (vs : List Val) → shadow (deed_own vs) → (vs ≡ deed_val ∷ []) × Unit {0}
deed_told vs s = (s.1.0 ∙ (λ i. vstruct (of_list (s.1.1.0.1.0 i ++ [])) ∷ []), tt)

pub deed_made : {M : Type 1} {𝓤 : Ura M} (𝓛 : Logic 𝓤) → Unit {0} → ent 𝓤 (emp 𝓤) (sem 𝓛 (deed_own (deed_val ∷ [])))
deed_made 𝓛 f = makes_shadow 𝓛 (deed_own (deed_val ∷ [])) (λ _. (tt, ((λ _. (tt, tt)), tt))) ((vstruct vnil ∷ [], tt), (refl, ((tt, (refl, tt)), tt)))
