use Rattle.std.proofs.Common.{◌≡◌, [], ◌∷◌, ◌++◌, length, ap, sym, ◌∙◌, arith}
use Rattle.std.proofs.lemmas.List.{length-append}
use Rattle.qc_model.specs.Demands.{demands, demands_after}
use Rattle.joins.proofs.DemandSteps.{demands_short, list_read, lists_more}
use Rattle.joins.proofs.demands.Demands.new.Goals as goal

pub list_after-list-requires : goal.list_after-list-requires
list_after-list-requires c =
    let g = c.args.problem.now in
    let i = c.loop-i.i in
    let e : c.as_slice.result.now ≡ demands g i =
    c.as_slice.ensures.value ∙ sym (list_read c.loop-i.lists.items i c.index.result.now (omega (arith, c.loop-i.invariant.count)) c.index.ensures) ∙ c.loop-i.invariant.list i (omega arith) in
    let n : length c.as_slice.result.now ≡ length (demands g i) = ap length e in
    let s = demands_short g i in
    omega (arith, n, s, c.loop-i-test.true, c.scopes-count.ensures, c.known.ensures.few_scopes)

pub loop-i-preserved : goal.loop-i-preserved
loop-i-preserved c =
    let g = c.args.problem.now in
    let i = c.loop-i.i in
    let lists = c.loop-i.lists.items in
    let v = c.in_ok-from_slice.field-0 in
    let pushed : c.push-in-loop-i.new.self.items ≡ lists ++ v ∷ [] = c.in_ok-push-2.ensures.items in
    let after : v.items ≡ demands_after g c.scope.result.now.kind c.scope.result.now.condition c.index.result.now.items =
    c.in_ok-from_slice.ensures.items ∙ c.entries.ensures ∙ c.list_after-list.ensures.list ∙ ap (demands_after g c.scope.result.now.kind c.scope.result.now.condition) c.as_slice.ensures.value in
    let n = length-append lists (v ∷ []) in
    rw pushed
    (record {
      count = omega (arith, n, c.loop-i.invariant.count);
      list = lists_more g lists i c.index.result.now v c.scope.result.now c.loop-i.invariant.count c.index.ensures c.loop-i.invariant.list c.scope.ensures after;
    })
