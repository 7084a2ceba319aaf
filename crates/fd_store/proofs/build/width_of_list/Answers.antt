use Rattle.std.proofs.Common.{◌≡◌, ◌≤◌, ◌<◌, ◌+◌, ◌-◌, ◌∙◌, ℕ, sym, ap, subst, arith, ℤ}
use Rattle.std.specs.Prelude.{pos, negsuc, ◌+ℤ◌, ◌≤ℤ◌}
use Rattle.std.proofs.lemmas.Int.{ints}
use mir.Val.{to_z, of_z}
use mir.Syntax.{w64}
use Rattle.qc_model.specs.Domains.{least_value, greatest_value}
use Rattle.qc_model.specs.Valid.{width_of}
use Rattle.fd_store.proofs.ListSpan.{list_span, least_fits, greatest_fits}
use Rattle.fd_store.proofs.Ranged.{fit_is}
use Rattle.fd_store.proofs.build.width_of_list.Goals as goal

offset_is : (l g : ℤ) (n k : ℕ) → 0 < n → g ≡ l +ℤ pos (n - 1) → g ≡ l +ℤ pos k → k + 1 ≡ n
offset_is l g n k h e q = omega (arith, ints)

least_high : (l : ℤ) (n : ℕ) → (l +ℤ pos n) ≤ℤ pos 1000000001 → l ≤ℤ pos 1000000001
least_high l n h = omega (arith, ints)

least_low : (l g : ℤ) (n : ℕ) → g ≡ l +ℤ pos n → l ≤ℤ g
least_low l g n e = omega (arith, ints)

near : (l g : ℤ) (n : ℕ) → n ≤ 1048576 → g ≡ l +ℤ pos (n - 1) → g ≤ℤ (l +ℤ pos 1048576)
near l g n h e = omega (arith, ints)

pub offset_of-requires-clause-low : goal.offset_of-requires-clause-low
offset_of-requires-clause-low c =
    let ns = c.args.numbers.now in
    subst (λ z. negsuc 999999999 ≤ℤ z) (sym (fit_is _ _ c.first_of.ensures (least_fits ns c.requires))) (list_span ns c.requires).low

pub offset_of-requires-clause-high : goal.offset_of-requires-clause-high
offset_of-requires-clause-high c =
    let ns = c.args.numbers.now in
    subst (λ z. z ≤ℤ pos 1000000001) (sym (fit_is _ _ c.first_of.ensures (least_fits ns c.requires))) (least_high (least_value ns) (width_of ns) (list_span ns c.requires).high)

pub offset_of-requires-clause-from : goal.offset_of-requires-clause-from
offset_of-requires-clause-from c =
    let ns = c.args.numbers.now in
    subst (λ z. z ≤ℤ to_z w64 (of_z w64 c.last_of.result)) (sym (fit_is _ _ c.first_of.ensures (least_fits ns c.requires)))
    (subst (λ z. least_value ns ≤ℤ z) (sym (fit_is _ _ c.last_of.ensures (greatest_fits ns c.requires))) (least_low (least_value ns) (greatest_value ns) (width_of ns - 1) (list_span ns c.requires).top))

pub offset_of-requires-clause-below : goal.offset_of-requires-clause-below
offset_of-requires-clause-below c =
    let ns = c.args.numbers.now in
    let s = list_span ns c.requires in
    subst (λ z. to_z w64 (of_z w64 c.last_of.result) ≤ℤ (z +ℤ pos 1048576)) (sym (fit_is _ _ c.first_of.ensures (least_fits ns c.requires)))
    (subst (λ z. z ≤ℤ (least_value ns +ℤ pos 1048576)) (sym (fit_is _ _ c.last_of.ensures (greatest_fits ns c.requires))) (near (least_value ns) (greatest_value ns) (width_of ns) s.narrow s.top))

pub returns : goal.returns
returns c =
    let ns = c.args.numbers.now in
    let s = list_span ns c.requires in
    offset_is (least_value ns) (greatest_value ns) (width_of ns) c.offset_of.result (omega arith) s.top
    (sym (fit_is _ _ c.last_of.ensures (greatest_fits ns c.requires)) ∙ (c.offset_of.ensures ∙ ap (λ z. z +ℤ pos c.offset_of.result) (fit_is _ _ c.first_of.ensures (least_fits ns c.requires))))

pub overflow_add-result : goal.overflow_add-result
overflow_add-result c =
    let ns = c.args.numbers.now in
    let s = list_span ns c.requires in
    let e : c.offset_of.result + 1 ≡ width_of ns = offset_is (least_value ns) (greatest_value ns) (width_of ns) c.offset_of.result (omega arith) s.top
    (sym (fit_is _ _ c.last_of.ensures (greatest_fits ns c.requires)) ∙ (c.offset_of.ensures ∙ ap (λ z. z +ℤ pos c.offset_of.result) (fit_is _ _ c.first_of.ensures (least_fits ns c.requires)))) in
    omega (arith, e, s.narrow)
