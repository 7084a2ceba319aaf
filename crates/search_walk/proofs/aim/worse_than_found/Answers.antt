use Rattle.std.proofs.Common.{refl, subst, false, Option}
use Rattle.search_walk.specs.Aims.{IsAim, IsAimed}
use Rattle.search_walk.specs.declared.aim.Aim.{Aim}
use Rattle.search_walk.proofs.Ruling.{span_of}
use Rattle.search_walk.proofs.aim.worse_than_found.Goals as goal

pub returns : goal.returns
returns c g i aimed =
    let a = c.in-Some.aim in
    let m : IsAim g i a = subst (λ (o : Option Aim). IsAimed g i o) c.in-Some.is aimed in
    span_of g i a (record { sense = a.sense; variable = a.variable; is_alone = false }) _ c.worse_than.result m c.worse_than.ensures refl refl
