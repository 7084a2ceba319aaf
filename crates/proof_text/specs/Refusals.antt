-- Want of memory among the refusals.
use Rattle.proof_text.specs.declared.part_fault.PartFault.{PartFault}
use Rattle.proof_text.specs.declared.part_fault.PartFault.TheVariants.{Wrong, Deep, Memory}

abbrev pub IsMemory : PartFault → Type 0
IsMemory (Wrong left) = ⊥
IsMemory (Deep left) = ⊥
IsMemory (Memory e) = Unit {0}
