-- Items of a constraint whose variables stand once, and what a box leaves to them.
use Rattle.std.proofs.Common.{◌≡◌, ◌⊎◌, inl, inr, ℕ, ◌<◌, Bool, true, false, not, List, [], ◌∷◌, length, map, get_or, refl, sym, ap, ◌∙◌, subst, arith, ℤ}
use Rattle.std.specs.Prelude.{pos, ◌+ℤ◌, ◌≤ℤ◌, ◌<ℤ◌}
use Rattle.std.proofs.lemmas.Int.{ints}
use Rattle.std.proofs.lemmas.List.{get_or-map, length-map}
use Rattle.std.proofs.lemmas.Bool.{and_from}
use Rattle.qc_model.specs.declared.problem.Arg.{Arg}
use Rattle.qc_model.specs.declared.problem.Arg.TheVariants.{Var, Num}
use Rattle.qc_model.specs.declared.problem.VarId.{VarId}
use Rattle.qc_model.specs.Closed.{refutes_at, keeps_ends}
use Rattle.qc_model.specs.Content.{Game, Rule}
use Rattle.qc_model.specs.Domains.{Values, Box, values_left, values_within, box_within, box_at, least_value, greatest_value, has_value, is_within, is_none_left}
use Rattle.qc_model.specs.Left.{has_crowd}
use Rattle.qc_model.specs.Refuted.{left_to, refuted_by}
use Rattle.qc_model.proofs.Readable.{first}
use Rattle.model_arguments.proofs.Values.{has_least, has_greatest}
use Rattle.model_arguments.proofs.Items.{one_left, all_by}
use Rattle.qc_refuter.specs.Full.{lies_in, held}
use Rattle.qc_refuter.proofs.Fill.{crowd_of_held}
use Rattle.qc_refuter.proofs.Seen.{has_within}
use Rattle.prop_base.specs.Closed.{IsCut, keeps_arg}
use Rattle.prop_base.specs.declared.cuts.Cut.{Cut}
use Rattle.prop_different.specs.Different.{IsDifferent, IsFullCut}
use Rattle.prop_different.specs.Quiet.{AllQuiet}
use Rattle.prop_different.proofs.Hall.{lies_from, quiet_keeps, full_refutes}

-- what is left to it, among what is left to all
here : (box : Box) (x : VarId) (xs : List Arg) (k : ℕ) (e : Arg) → k < length xs → get_or xs k e ≡ Var x → get_or (map (left_to box) xs) k [] ≡ values_left box x.0
here box x xs k e l q = get_or-map (left_to box) xs k e [] l ∙ ap (left_to box) q

fit : (box : Box) (xs : List Arg) (k : ℕ) → k < length xs → k < length (map (left_to box) xs)
fit box xs k l = omega (arith, l, length-map xs (left_to box))

-- an end of an item isn't refuted
keeps_value : (g : Game) (c : Rule) (xs : List Arg) (box : Box) (k : ℕ) (x : VarId) (v : ℤ) (e : Arg) → IsDifferent g c xs → AllQuiet (map (left_to box) xs) → k < length xs → get_or xs k e ≡ Var x → x.0 < length box →
    (v ≡ least_value (values_left box x.0)) ⊎ (v ≡ greatest_value (values_left box x.0)) → not (refutes_at c box x.0 v) ≡ true
keeps_value g c xs box k x v e d all l q m end =
    not_true (refutes_at c box x.0 v)
    (d.refuted (box_at box x.0 v)
    ∙ (ap has_crowd (one_left box x (v ∷ []) xs k e d.once l q m)
    ∙ quiet_keeps (map (left_to box) xs) k v all (fit box xs k l) (as_item end)))
  where
    not_true : (b : Bool) → b ≡ false → not b ≡ true
    not_true true h = cc
    not_true false h = refl

    as_item : (v ≡ least_value (values_left box x.0)) ⊎ (v ≡ greatest_value (values_left box x.0)) → (v ≡ least_value (get_or (map (left_to box) xs) k [])) ⊎ (v ≡ greatest_value (get_or (map (left_to box) xs) k []))
    as_item (inl h) = inl (h ∙ sym (ap least_value (here box x xs k e l q)))
    as_item (inr h) = inr (h ∙ sym (ap greatest_value (here box x xs k e l q)))

keeps_item : (g : Game) (c : Rule) (xs : List Arg) (box : Box) (k : ℕ) (a : Arg) (e : Arg) → IsDifferent g c xs → AllQuiet (map (left_to box) xs) → k < length xs → get_or xs k e ≡ a →
    ((x : VarId) → a ≡ Var x → x.0 < length box) → keeps_arg c box a ≡ true
keeps_item g c xs box k (Num n) e d all l q f = refl
keeps_item g c xs box k (Var x) e d all l q f =
    and_from (not (refutes_at c box x.0 (least_value (values_left box x.0)))) (not (refutes_at c box x.0 (greatest_value (values_left box x.0))))
    (keeps_value g c xs box k x (least_value (values_left box x.0)) e d all l q (f x refl) (inl refl))
    (keeps_value g c xs box k x (greatest_value (values_left box x.0)) e d all l q (f x refl) (inr refl))

-- where all is quiet, no end is refuted
pub quiet_items : (g : Game) (c : Rule) (xs : List Arg) (box : Box) (e : Arg) → IsDifferent g c xs → ((k : ℕ) (x : VarId) → k < length xs → get_or xs k e ≡ Var x → x.0 < length box) → AllQuiet (map (left_to box) xs) →
    keeps_ends box c ≡ true
quiet_items g c xs box e d f all =
    d.own box (all_by (keeps_arg c box) xs e (λ k h. keeps_item g c xs box k (get_or xs k e) e d all h refl (λ x q. f k x h q)))

-- ends of the values within a range
within_ends : (low high : ℤ) (vs : Values) → is_none_left (values_within low high vs) ≡ false → (low ≤ℤ least_value (values_within low high vs)) × (greatest_value (values_within low high vs) ≤ℤ high)
within_ends low high vs s =
    let us = values_within low high vs in
    let a = first (is_within low high (least_value us)) (has_value vs (least_value us)) (sym (has_within vs low high (least_value us)) ∙ has_least us s) in
    let b = first (is_within low high (greatest_value us)) (has_value vs (greatest_value us)) (sym (has_within vs low high (greatest_value us)) ∙ has_greatest us s) in
    (above (least_value us) a, below (greatest_value us) b)
  where
    above : (v : ℤ) → is_within low high v ≡ true → low ≤ℤ v
    above v h = grind (arith, ints, h)

    below : (v : ℤ) → is_within low high v ≡ true → v ≤ℤ high
    below v h = grind (arith, ints, h)

-- what a full range takes from an item is refuted
pub full_cut : (g : Game) (c : Rule) (xs : List Arg) (box : Box) (k : ℕ) (x : VarId) (l : ℤ) (cut : Cut) (e : Arg) → IsDifferent g c xs → k < length xs → get_or xs k e ≡ Var x → x.0 < length box →
    cut.x ≡ x → IsFullCut (map (left_to box) xs) l (values_left box x.0) cut.lo cut.hi → IsCut c box cut
full_cut g c xs box k x l cut e d h q m f t =
    let ds = map (left_to box) xs in
    let us = values_within cut.lo cut.hi (values_left box x.0) in
    let P : VarId → Type 0 = λ y. IsCut c box (record { x = y; lo = cut.lo; hi = cut.hi }) in
    let w = within_ends cut.lo cut.hi (values_left box x.0) t.some in
    let inside = lies_from l t.numbers us (low_end (least_value us) w.0) (high_end (greatest_value us) w.1) in
    let out = ap (lies_in l t.numbers) (here box x xs k e h q) ∙ t.outside in
    subst P (sym f)
    (record {
      x = m;
      low = t.small_low;
      high = t.small_high;
      some = t.some;
      refuted =
          d.refuted (box_within box x.0 cut.lo cut.hi)
          ∙ (ap has_crowd (one_left box x us xs k e d.once h q m) ∙ full_refutes ds l t.numbers k us (fit box xs k h) t.full out inside);
    })
  where
    low_end : (v : ℤ) → cut.lo ≤ℤ v → l ≤ℤ v
    low_end v g = omega (arith, ints, g, t.from)

    high_end : (v : ℤ) → v ≤ℤ cut.hi → v <ℤ (l +ℤ pos t.numbers)
    high_end v g = omega (arith, ints, g, t.to)

-- a range that holds too many refutes the box
pub crowd_refutes : (g : Game) (c : Rule) (xs : List Arg) (box : Box) (l : ℤ) (n : ℕ) → IsDifferent g c xs → n < held (map (left_to box) xs) l n → refuted_by c box ≡ true
crowd_refutes g c xs box l n d h = d.refuted box ∙ crowd_of_held (map (left_to box) xs) l n h
