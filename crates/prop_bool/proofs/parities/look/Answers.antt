use Rattle.std.proofs.Common.{◌≡◌, Bool, true, false, refl, sym, subst}
use mathlib.Core.Bool.{beq}
use Rattle.qc_model.specs.Holds.{same_truth}
use Rattle.prop_bool.specs.declared.findings.Finding.TheVariants.{Loses}
use Rattle.prop_bool.specs.Findings.{IsFinding}
use Rattle.prop_bool.specs.Parities.{differ}
use Rattle.prop_bool.proofs.Odds.{odd_refuted, odd_closed, free_closed, open_found}
use Rattle.prop_bool.proofs.parities.look.Goals as goal

same_test : (a b : Bool) → beq a b ≡ same_truth a b
same_test true true = refl
same_test true false = refl
same_test false true = refl
same_test false false = refl

agree : (a b o : Bool) → a ≡ b → beq b o ≡ true → differ o a ≡ false
agree true true true h k = refl
agree true true false h k = cc
agree false false false h k = refl
agree false false true h k = cc
agree true false o h k = cc
agree false true o h k = cc

unlike : (a b o : Bool) → a ≡ b → beq b o ≡ false → differ o a ≡ true
unlike true true true h k = cc
unlike true true false h k = refl
unlike false false false h k = cc
unlike false false true h k = refl
unlike true false o h k = cc
unlike false true o h k = cc

pub returns-then-is_odd-odd : goal.returns-then-is_odd-odd
returns-then-is_odd-odd c =
    let t = c.in-Decided.ensures in
    odd_closed c.args.problem.now c.args.rule.now c.args.items.now c.args.odd c.requires.says c.args.store.now.box c.requires.asked t.0 (agree _ c.in-Decided.is_odd c.args.odd t.1 c.if-is_odd-odd.true)

pub returns-else-is_odd-odd : goal.returns-else-is_odd-odd
returns-else-is_odd-odd c =
    let t = c.in-Decided.ensures in
    odd_refuted c.args.problem.now c.args.rule.now c.args.items.now c.args.odd c.requires.says c.args.store.now.box c.requires.asked t.0 (unlike _ c.in-Decided.is_odd c.args.odd t.1 c.if-is_odd-odd.false)

pub returns-in-Free : goal.returns-in-Free
returns-in-Free c = free_closed c.args.problem.now c.args.rule.now c.args.items.now c.args.odd c.requires.says c.args.store.now.box c.requires.asked c.in-Free.ensures

pub returns-in-Open : goal.returns-in-Open
returns-in-Open c =
    let r = c.args.rule.now in
    let box = c.args.store.now.box in
    subst (λ b. IsFinding (Loses c.in-Open.x b) r box) (sym (same_test c.args.odd c.in-Open.others))
    (open_found c.args.problem.now r c.args.items.now c.args.odd c.requires.says box c.in-Open.x c.in-Open.others c.requires.asked c.in-Open.ensures)
