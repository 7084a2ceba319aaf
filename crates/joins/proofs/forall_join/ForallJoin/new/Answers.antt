use Rattle.std.proofs.Common.{◌≡◌, [], length, map, ap, ◌∙◌, arith, rules}
use Rattle.std.proofs.lemmas.Int.{to_z-of_z}
use mir.Val.{SFits}
use mir.Syntax.{w64}
use Rattle.qc_model.specs.Demands.{demands, first_namings}
use Rattle.joins.specs.Columns.{known_of, TotalsAre, fresh_column, sources_of, first_sense}
use Rattle.joins.proofs.DemandSteps.{demands_short}
use Rattle.joins.proofs.Gathered.{fresh_sources, fresh_totals, gathers_none}
use Rattle.joins.proofs.forall_join.ForallJoin.new.Goals as goal

pub fresh_columns-requires : goal.fresh_columns-requires
fresh_columns-requires c =
    let g = c.args.problem.now in
    let i = c.args.i.0 in
    let n : length c.list-list.result.now ≡ length (demands g i) = ap length (c.list-list.ensures g c.requires.lists) in
    let s = demands_short g i in
    omega (arith, n, s, c.requires.scope, c.known.ensures.few_scopes)

pub returns-clause-stands : goal.returns-clause-stands
returns-clause-stands c =
    let g = c.args.problem.now in
    let d = c.list-list.result.now in
    let cs = c.in_ok-columns.columns.items in
    let result_fits : SFits w64 c.known_of_none-known.result = search rules in
    let made : cs ≡ map (fresh_column g (first_namings [] d)) d = c.in_ok-columns.ensures in
    let totals : TotalsAre [] cs = rw made (fresh_totals g (first_namings [] d) d) in
    let known : c.known_of_none-known.result ≡ known_of cs [] = c.known_of_none-known.ensures ∙ ap (λ xs. known_of xs []) c.as_slice.ensures.value in
    simp to_z-of_z (gathers_none cs c.known_of_none-known.result totals known)

pub returns-clause-scope : goal.returns-clause-scope
returns-clause-scope c =
    let g = c.args.problem.now in
    let d = c.list-list.result.now in
    let own : d ≡ demands g c.args.i.0 = c.list-list.ensures g c.requires.lists in
    let made = c.in_ok-columns.ensures in
    record {
      sources = ap (map (λ c. c.source)) made ∙ fresh_sources g (first_namings [] d) d ∙ ap (sources_of g) own;
      sense = c.first_sense.ensures ∙ ap first_sense own;
    }
