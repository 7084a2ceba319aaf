use Rattle.std.proofs.Common.{◌++◌, refl}
use Rattle.proof_meaning.proofs.Blocks.{blocked_less, blocked_next}
use Rattle.proof_meaning.proofs.InnerNodes.{horizon_blocks}
use Rattle.proof_meaning.proofs.laws.horizons_block.Goals as goal

pub returns-clause-stands : goal.returns-clause-stands
returns-clause-stands c = horizon_blocks

pub returns-clause-within : goal.returns-clause-within
returns-clause-within c = blocked_less

pub returns-clause-next : goal.returns-clause-next
returns-clause-next c = λ g i a t box h m blocked. blocked_next g i a t (a ++ t) box h refl m blocked
