use Rattle.std.proofs.Common.{rules, ◌≡◌, ◌<◌, ◌+◌, ◌∙◌, ℕ, ℤ, sym, ap, subst, get_or, true, arith}
use Rattle.std.specs.Prelude.{pos, slice_get, Some}
use Rattle.std.proofs.lemmas.Int.{to_z-of_z}
use Rattle.std.proofs.lemmas.Bool.{or_parts}
use mir.Val.{SFits}
use mir.Syntax.{w64}
use Rattle.model_arguments.specs.Written.{args_at, ints_at}
use Rattle.qc_model.specs.declared.problem.Arg.{Arg}
use Rattle.qc_model.specs.declared.problem.Arg.TheVariants.{Var}
use Rattle.qc_model.specs.Content.{Rule}
use Rattle.qc_model.specs.Domains.{declared_box, is_sub_box}
use Rattle.qc_model.specs.Refuted.{left_to}
use Rattle.dense_closing.proofs.Within.{sub_self}
use Rattle.dense_quiet.specs.Slack.{IsNear, IsBounded, AreNear, SparesTaken, is_taken}
use Rattle.dense_quiet.specs.Taking.{takes_of}
use Rattle.dense_quiet.proofs.Bounded.{near_smaller, bounded_spares}
use Rattle.dense_quiet.proofs.Sums.{near_more, below}
use Rattle.dense_close.proofs.AtMost.{cut_gone}
use Rattle.dense_close.proofs.Looked.{one_rule}
use Rattle.dense_close.proofs.Narrowed.{narrowed_more}
use Rattle.dense_close.proofs.bounding.bound_all.Goals as goal

pub loop-k-preserved : goal.loop-k-preserved
loop-k-preserved c =
    let t = c.args.task.now in
    let g = t.problem.now in
    let i = c.loop-k.invariant in
    let e = c.bound_term-changed.ensures in
    let own = c.constraint.result.now in
    let ok = takes_of t.taking g own in
    let s = c.args.room in
    let k = c.loop-k.k in
    let left = c.loop-k.remains.box in
    let now = c.bound_term-changed.new.remains.box in
    let ns = c.numbers_at-factors.result.now in
    let xs = c.items_at-items.result.now in
    let s_fits : SFits w64 s = search rules in
    let n_fits : SFits w64 (get_or ns k (pos 0)) = search rules in
    let factors : ns ≡ ints_at own.args 0 = c.numbers_at-factors.ensures ∙ ap (λ a. ints_at a 0) c.arguments-args.ensures in
    let items : xs ≡ args_at own.args 1 = c.items_at-items.ensures ∙ ap (λ a. args_at a 1) c.arguments-args.ensures in
    let narrowed = narrowed_more t.taking g t.from t.stop c.args.remains.now.box left now i.narrowed e.narrowed in
    let declared = narrowed.fewer (declared_box g) c.requires.declared in
    let sub : is_sub_box now left ≡ true = e.narrowed.fewer left (sub_self left (declared_box g) i.declared) in
    let one : is_taken ok (get_or xs k (Var (record { 0 = 0 }))) ≡ true → IsNear s (get_or ns k (pos 0)) (left_to now (get_or xs k (Var (record { 0 = 0 })))) = simp to_z-of_z at (e.near own c.constraint.ensures) in
    let was : (j : ℕ) (n : ℤ) (a : Arg) → j < k → slice_get (ints_at own.args 0) j ≡ Some n → slice_get (args_at own.args 1) j ≡ Some a → is_taken ok a ≡ true → IsNear s n (left_to left a) = simp to_z-of_z at (i.near own c.constraint.ensures) in
    let before : (j : ℕ) (n : ℤ) (a : Arg) → j < k → slice_get ns j ≡ Some n → slice_get xs j ≡ Some a → is_taken ok a ≡ true → IsNear s n (left_to now a) =
    λ j n a l p q w.
    (let there = subst (λ z. slice_get z j ≡ Some a) items q in
    near_smaller g c.known.ensures c.args.c.0 own now left c.constraint.ensures declared sub e.full s j n a there (was j n a l (subst (λ z. slice_get z j ≡ Some n) factors p) there w)) in
    let all = near_more ok s k ns xs now (pos 0) (Var (record { 0 = 0 })) before one in
    let near : (j : ℕ) (n : ℤ) (a : Arg) → j < k + 1 → slice_get (ints_at own.args 0) j ≡ Some n → slice_get (args_at own.args 1) j ≡ Some a → is_taken ok a ≡ true → IsNear s n (left_to now a) =
    λ j n a l p q w. all j n a l (subst (λ z. slice_get z j ≡ Some n) (sym factors) p) (subst (λ z. slice_get z j ≡ Some a) (sym items) q) w in
    let nears : (r : Rule) → slice_get g.constraints c.args.c.0 ≡ Some r → (j : ℕ) (n : ℤ) (a : Arg) → j < k + 1 → slice_get (ints_at r.args 0) j ≡ Some n → slice_get (args_at r.args 1) j ≡ Some a → is_taken (takes_of t.taking g r) a ≡ true → IsNear s n (left_to now a) =
    one_rule g c.args.c.0 own c.constraint.ensures (λ z. (j : ℕ) (n : ℤ) (a : Arg) → j < k + 1 → slice_get (ints_at z.args 0) j ≡ Some n → slice_get (args_at z.args 1) j ≡ Some a → is_taken (takes_of t.taking g z) a ≡ true → IsNear s n (left_to now a)) near in
    record {
      narrowed = narrowed;
      past = search rules;
      declared = declared;
      full = e.full;
      listed = e.list;
      others = e.others;
      gone = cut_gone c.loop-k.changed c.bound_term-changed.result c.args.remains.now.box left now i.gone e.gone;
      same = λ h. (let both = or_parts c.loop-k.changed c.bound_term-changed.result h in e.listed both.1 ∙ i.same both.0);
      bounded = e.bounded;
      near = simp to_z-of_z nears;
    }

pub returns-clause-spares : goal.returns-clause-spares
returns-clause-spares c = λ r e.
    let t = c.args.task.now in
    let g = t.problem.now in
    let own = c.constraint.result.now in
    let s = c.args.room in
    let now = c.loop-k.remains.box in
    let ns = c.numbers_at-factors.result.now in
    let xs = c.items_at-items.result.now in
    let factors : ns ≡ ints_at own.args 0 = c.numbers_at-factors.ensures ∙ ap (λ a. ints_at a 0) c.arguments-args.ensures in
    let items : xs ≡ args_at own.args 1 = c.items_at-items.ensures ∙ ap (λ a. args_at a 1) c.arguments-args.ensures in
    let s_fits : SFits w64 s = search rules in
    let was : (j : ℕ) (n : ℤ) (a : Arg) → j < c.loop-k.k → slice_get (ints_at own.args 0) j ≡ Some n → slice_get (args_at own.args 1) j ≡ Some a → is_taken (takes_of t.taking g own) a ≡ true → IsNear s n (left_to now a) = simp to_z-of_z at (c.loop-k.invariant.near own c.constraint.ensures) in
    let bounded : IsBounded own s now = simp to_z-of_z at (c.loop-k.invariant.bounded own c.constraint.ensures) in
    let near : AreNear (takes_of t.taking g own) s (ints_at own.args 0) (args_at own.args 1) now =
    λ j n a p q w.
    (let low = below ns j n (subst (λ z. slice_get z j ≡ Some n) (sym factors) p) in
    let less = below xs j a (subst (λ z. slice_get z j ≡ Some a) (sym items) q) in
    was j n a (omega (arith, low, less, c.min-k-end.ensures, c.loop-k-test.false)) p q w) in
    one_rule g c.args.c.0 own c.constraint.ensures (λ z. SparesTaken (takes_of t.taking g) z now) (bounded_spares (takes_of t.taking g) own s now bounded near) r e
