-- A `&` to the nodes is made where one to an element is. Assumes `Logic`.
use mathlib.Core.List.{[], ◌++◌}
use base.Fml.{Incl-trans}
use contract.BorrowLft.{meet_⊑_left}
use denote.RattleType.{RattleType}
use denote.Param.Laws.{Laws}
use denote.Param.Shared.{copy_shared}
use denote.Struct.Field.{RawPtr-field, usize-field}
use denote.Struct.Laws.{RawPtr-copy, usize-copy}
use denote.Struct.Lending.{of_Lends}
use Rattle.paged_stack.specs.contracts.nodes.Nodes as C
use Rattle.paged_stack.proofs.nodes.Nodes.TheLaw.Statement.{statement}
use Rattle.paged_stack.proofs.Memory.Shared.{nodes_lent_laws, Lends-nodes}

pub shares : (R : RattleType) (L : Laws R) → statement R L
shares R L = of_Lends (C.struct R) (C.the_codes R.Denot R.coded) (C.the_heap R) (C.the_lent R)
    (λ d p. nodes_lent_laws R L.shr_laws d.links d.items) (copy_shared RawPtr-field RawPtr-copy, (copy_shared RawPtr-field RawPtr-copy, (copy_shared usize-field usize-copy, tt)))
    (λ M 𝓤 𝓛 d p. Lends-nodes 𝓛 (C.the_row R).lives R L (Incl-trans (meet_⊑_left (R.lives ++ []) _) (meet_⊑_left R.lives [])) d.links d.items)
