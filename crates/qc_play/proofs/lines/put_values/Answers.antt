use Rattle.std.proofs.Common.{◌≡◌, ◌∙◌, ◌+◌, ◌<◌, ℕ, ℤ, List, ◌++◌, length, get_or, drop, sym, ap, append_assoc, arith, rules, w64, SFits, pos}
use Rattle.std.specs.Prelude.{codes}
use Rattle.std.specs.Fmt.{signed_decimal}
use Rattle.std.proofs.lemmas.Int.{to_z-of_z}
use Rattle.std.proofs.lemmas.List.{append-nil, at_drop_more, at_drop_all}
use Rattle.qc_play.specs.PlayText.{values_text}
use Rattle.qc_play.proofs.lines.put_values.Goals as goal

one_more : (vs : List ℤ) (i : ℕ) (old between new all : List ℕ) → i < length vs → between ≡ old ++ codes " " →
    new ≡ between ++ signed_decimal (get_or vs i (pos 0)) →
    old ++ values_text (drop i vs) ≡ all → new ++ values_text (drop (i + 1) vs) ≡ all
one_more vs i old between new all lt a b h =
    let word = signed_decimal (get_or vs i (pos 0)) in
    let rest = values_text (drop (i + 1) vs) in
    ap (λ ys. ys ++ rest) (b ∙ ap (λ ys. ys ++ word) a ∙ append_assoc old (codes " ") word)
    ∙ append_assoc old (codes " " ++ word) rest
    ∙ ap (λ ys. old ++ ys) (sym (at_drop_more values_text vs i (pos 0) lt)) ∙ h

pub loop-value-preserved : goal.loop-value-preserved
loop-value-preserved c =
    let f : SFits w64 (get_or c.args.values.now c.loop-value.value-index (pos 0)) = search rules in
    let put = simp to_z-of_z at c.in_ok-put_value.ensures in
    one_more c.args.values.now c.loop-value.value-index c.loop-value.out.items c.extend_from_slice.new.self.items
    c.put_value.new.out.items _ (omega arith) c.in_ok-extend_from_slice.ensures.items put c.loop-value.invariant

pub returns : goal.returns
returns c =
    let vs = c.args.values.now in
    let old = c.loop-value.out.items in
    sym (append-nil old) ∙ ap (λ ys. old ++ ys) (sym (at_drop_all values_text vs c.loop-value.value-index (omega arith)))
    ∙ c.loop-value.invariant
