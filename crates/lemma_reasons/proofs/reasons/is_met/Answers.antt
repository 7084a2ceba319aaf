use Rattle.std.proofs.Common.{◌∙◌, ◌&&◌, arith}
use Rattle.std.specs.List.{list_any}
use Rattle.qc_model.specs.Domains.{values_left}
use Rattle.lemma_list.specs.Literals.{meets}
use Rattle.lemma_reasons.specs.Answering.{answered_by}
use Rattle.lemma_reasons.proofs.Asking.{variable_open, none_past}
use Rattle.lemma_reasons.proofs.Left.{all_meet, some_miss, none_there, both_asked, not_asked}
use Rattle.lemma_reasons.proofs.reasons.is_met.Goals as goal

pub some_misses-requires : goal.some_misses-requires
some_misses-requires c = variable_open c.args.problem.now c.args.store.now.box c.args.literal.x.0 c.known.ensures.domains c.requires (omega arith)

pub returns-then-literal-count : goal.returns-then-literal-count
returns-then-literal-count c =
    let x = c.args.literal.x.0 in
    let p = meets c.args.literals.now x in
    let d = values_left c.args.store.now.box x in
    none_there p d (answered_by c.args.problem.now c.args.answers x && list_any p d) (none_past c.args.store.now.box x (omega arith))

pub returns-then-not-some_misses : goal.returns-then-not-some_misses
returns-then-not-some_misses c =
    let x = c.args.literal.x.0 in
    let p = meets c.args.literals.now x in
    let d = values_left c.args.store.now.box x in
    all_meet p d c.some_misses.result (answered_by c.args.problem.now c.args.answers x && list_any p d) c.some_misses.ensures c.if-not-some_misses.true

pub returns-then-may_answer : goal.returns-then-may_answer
returns-then-may_answer c =
    let x = c.args.literal.x.0 in
    let p = meets c.args.literals.now x in
    let d = values_left c.args.store.now.box x in
    let may = answered_by c.args.problem.now c.args.answers x in
    some_miss p d c.some_misses.result (may && list_any p d) c.some_meets.result c.some_misses.ensures c.if-not-some_misses.false
    (both_asked c.may_answer.result c.some_meets.result may (list_any p d) c.may_answer.ensures c.if-may_answer.true c.some_meets.ensures)

pub returns-else-may_answer : goal.returns-else-may_answer
returns-else-may_answer c =
    let x = c.args.literal.x.0 in
    let p = meets c.args.literals.now x in
    let d = values_left c.args.store.now.box x in
    let may = answered_by c.args.problem.now c.args.answers x in
    some_miss p d c.some_misses.result (may && list_any p d) c.may_answer.result c.some_misses.ensures c.if-not-some_misses.false
    (c.if-may_answer.false ∙ not_asked c.may_answer.result may (list_any p d) c.may_answer.ensures c.if-may_answer.false)
