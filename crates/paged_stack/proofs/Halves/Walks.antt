-- What the walks share: the type of a parameter, and what follows a part of a body. Assumes `Logic`.
use Rattle.std.proofs.Common.{ℕ, zero, suc, List, [], ◌∷◌}
use seplogic.Ra.Ura.{Ura}
use mir.Syntax.{Body}
use prog.Wp.{Env, Calls, Loops, Wp, after_seq, after_block}
use prog.Model.{Model}
use types.Logic.{Logic}
use types.Kit.{Post, any_q, post}
use contract.Running.{Running, tables}
use sound.WpLaws.{FmC}
use denote.Builtin.{unit}
use denote.Signature.{Slot, plain}
use denote.Triple.Table.{framed}

abbrev pub slot_at : {n : ℕ} → ℕ → List (Slot n) → Slot n
slot_at k [] = plain (λ _. unit)
slot_at zero (s ∷ ss) = s
slot_at (suc k) (s ∷ ss) = slot_at k ss

module _ {M : Type 1} {𝓤 : Ura M} (𝓛 : Logic 𝓤) where
  open 𝓛 use {H}

  abbrev pub then_runs : Calls 𝓤 H → Loops 𝓤 H → Env 𝓤 H → Body → Post 𝓤 H → Post 𝓤 H
  then_runs C Λ E b q = any_q (after_seq 𝓤 H (Wp 𝓤 H C Λ E b (post 𝓤 H q)) (post 𝓤 H q))

  abbrev pub out_of_block : Post 𝓤 H → Post 𝓤 H
  out_of_block q = any_q (after_block 𝓤 H (post 𝓤 H q))

  pub fm : (𝓜 : Model 𝓤 H) (𝓡 : Running 𝓤 H 𝓜) → FmC 𝓤 H 𝓛.laws (tables 𝓤 H 𝓜 𝓡 𝓡.env).C
  fm 𝓜 𝓡 = framed 𝓤 H 𝓜 (tables 𝓤 H 𝓜 𝓡 𝓡.env)
