use Rattle.std.proofs.Common.{◌-◌, ◌∙◌, refl, sym, arith}
use Rattle.qc_model.specs.declared.problem.Arg.TheVariants.{Var}
use Rattle.model_arguments.proofs.Marks.{none_marked, none_repeated, repeat_found, repeat_none, one_marked}
use Rattle.model_arguments.proofs.repeats.is_repeated.Goals as goal

pub loop-k-init : goal.loop-k-init
loop-k-init c = record { within = omega arith; marks = refl; none = none_repeated c.args.items.now; marked = none_marked c.args.items.now }

pub returns-then-mark : goal.returns-then-mark
returns-then-mark c =
    let i = c.loop-k.invariant in
    let test = c.loop-k-test.true in
    let p = sym c.has_mark.ensures ∙ c.if-not-has_mark.false in
    sym (repeat_found c.loop-k.marks c.args.items.now (c.loop-k.k - 1) c.loop-k.k (Var (record { 0 = 0 })) (omega (arith, test)) (omega (arith, test, i.within)) i.marked p (sym c.mark.ensures.was ∙ c.if-mark.true))

pub loop-k-preserved : goal.loop-k-preserved
loop-k-preserved c =
    let i = c.loop-k.invariant in
    let test = c.loop-k-test.true in
    let xs = c.args.items.now in
    let p = sym c.has_mark.ensures ∙ c.if-not-has_mark.false in
    record {
      within = omega (arith, i.within);
      marks = c.mark.ensures.length ∙ i.marks;
      none = repeat_none c.loop-k.marks xs (c.loop-k.k - 1) c.loop-k.k (Var (record { 0 = 0 })) (omega (arith, test)) (omega (arith, test, i.within)) i.marked p (sym c.mark.ensures.was ∙ c.if-mark.false) i.none;
      marked = one_marked c.loop-k.marks c.mark.new.marks xs (c.loop-k.k - 1) c.loop-k.k (Var (record { 0 = 0 })) (omega (arith, test)) (omega (arith, test, i.within)) i.marked c.mark.ensures.marked;
    }
