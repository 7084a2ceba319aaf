use Rattle.std.proofs.Common.{rules, ◌≡◌, ◌∙◌, sym, ap, subst, false, arith}
use Rattle.qc_model.specs.Domains.{declared_box, has_empty}
use Rattle.qc_model.specs.Lists.{Among}
use Rattle.model_arguments.specs.Written.{variable_numbers}
use Rattle.dense_closing.proofs.Within.{sub_self}
use Rattle.dense_close.proofs.Advised.{advice_smaller}
use Rattle.dense_close.proofs.Found.{own_at}
use Rattle.dense_close.proofs.Trimmed.{trimmed_more}
use Rattle.dense_close.proofs.Narrowed.{narrowed_more}
use Rattle.dense_close.proofs.revising.trim.Goals as goal

pub trim_own-requires-clause-own : goal.trim_own-requires-clause-own
trim_own-requires-clause-own c = λ r e.
    let t = c.args.task.now in
    let own_is = ap variable_numbers c.own-own.ensures ∙ t.index_is.own_are c.args.c.0 r e in
    subst (Among _) own_is (own_at c.own-own.result.now c.loop-place.place _ (omega (arith, c.loop-place-test.true)))

pub loop-place-preserved : goal.loop-place-preserved
loop-place-preserved c =
    let t = c.args.task.now in
    let i = c.loop-place.invariant in
    let e = c.trim_own.ensures in
    let full : has_empty c.trim_own.new.remains.box ≡ false = sym c.is_empty.ensures ∙ c.if-is_empty.false in
    let narrowed = narrowed_more t.taking t.problem.now t.from t.stop c.args.remains.now.box c.loop-place.remains.box c.trim_own.new.remains.box i.narrowed e.narrowed in
    record {
      narrowed = narrowed;
      past = search rules;
      declared = narrowed.fewer (declared_box t.problem.now) c.requires.declared;
      full = full;
      tells = λ r q.
          advice_smaller t.problem.now c.known.ensures c.args.c.0 r c.args.advice c.trim_own.new.remains.box c.loop-place.remains.box q (narrowed.fewer (declared_box t.problem.now) c.requires.declared)
          (e.narrowed.fewer c.loop-place.remains.box (sub_self c.loop-place.remains.box (declared_box t.problem.now) i.declared)) full (i.tells r q);
      listed = e.list;
      others = e.others;
      looked = trimmed_more t.taking t.problem.now c.args.c.0 c.loop-place.look c.trim_own.result c.both-look.result c.args.list.now c.loop-place.list c.trim_own.new.list c.args.remains.now.box c.loop-place.remains.box c.trim_own.new.remains.box c.both-look.ensures.changed
          c.both-look.ensures.seen i.looked e.looked;
    }

pub returns-then-is_empty-clause-narrowed : goal.returns-then-is_empty-clause-narrowed
returns-then-is_empty-clause-narrowed c =
    let t = c.args.task.now in
    narrowed_more t.taking t.problem.now t.from t.stop c.args.remains.now.box c.loop-place.remains.box c.trim_own.new.remains.box c.loop-place.invariant.narrowed c.trim_own.ensures.narrowed

pub returns-then-is_empty-clause-looked : goal.returns-then-is_empty-clause-looked
returns-then-is_empty-clause-looked c =
    let t = c.args.task.now in
    let i = c.loop-place.invariant in
    let e = c.trim_own.ensures in
    trimmed_more t.taking t.problem.now c.args.c.0 c.loop-place.look c.trim_own.result c.both-look.result c.args.list.now c.loop-place.list c.trim_own.new.list c.args.remains.now.box c.loop-place.remains.box c.trim_own.new.remains.box c.both-look.ensures.changed
    c.both-look.ensures.seen i.looked e.looked
