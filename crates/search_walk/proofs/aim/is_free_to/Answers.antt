use Rattle.std.proofs.Common.{◌∙◌, sym, ap, drop, arith, add-one}
use Rattle.qc_model.specs.Block.{no_condition_to}
use Rattle.search_walk.proofs.Ruling.{free_stops, free_goes_on}
use Rattle.search_walk.proofs.aim.is_free_to.Goals as goal

pub loop-k-init : goal.loop-k-init
loop-k-init c = ap (λ n. no_condition_to c.args.last (drop n c.args.problem.now.scopes) n) (add-one c.args.i)

pub returns-then-is_wished : goal.returns-then-is_wished
returns-then-is_wished c =
    let ss = c.args.problem.now.scopes in
    sym (free_stops ss c.args.last c.loop-k.k c.is_wished.result (omega (arith, c.loop-k-test.true, c.scopes-k-end.ensures)) c.is_wished.ensures c.if-is_wished.true) ∙ c.loop-k.invariant

pub loop-k-preserved : goal.loop-k-preserved
loop-k-preserved c =
    let ss = c.args.problem.now.scopes in
    free_goes_on ss c.args.last c.loop-k.k c.is_wished.result (omega (arith, c.loop-k-test.true, c.scopes-k-end.ensures)) c.is_wished.ensures c.if-is_wished.false ∙ c.loop-k.invariant
