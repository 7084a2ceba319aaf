-- Values of a variable that a sum refutes because they are past its room.
use Rattle.std.proofs.Common.{◌≡◌, ◌≢◌, ℕ, zero, suc, ◌<◌, true, false, List, [], ◌∷◌, length, set, refl, sym, ap, ◌∙◌, subst, arith, ℤ}
use Rattle.std.specs.Prelude.{pos, ◌*ℤ◌, ◌≤ℤ◌, ◌<ℤ◌, int_lt, slice_get, Some}
use Rattle.std.specs.List.{list_all}
use Rattle.std.proofs.lemmas.Int.{ints}
use Rattle.std.proofs.lemmas.Option.{same_Some}
use Rattle.qc_model.specs.declared.problem.Argument.{Argument}
use Rattle.qc_model.specs.declared.problem.Argument.TheVariants.{One, Many, Numbers, Members}
use Rattle.qc_model.specs.declared.problem.VarId.{VarId}
use Rattle.qc_model.specs.Content.{Game, Rule}
use Rattle.qc_model.specs.Domains.{Values, Box, values_left, has_value, is_within, is_sub_box, least_value, greatest_value, has_empty}
use Rattle.qc_model.specs.Refuted.{refuted_by}
use Rattle.qc_model.specs.Valid.{IsValid, is_number}
use Rattle.model_arguments.specs.Asked.{is_box_of}
use Rattle.model_arguments.specs.Written.{ints_at}
use Rattle.model_arguments.proofs.Boxes.{some_left, left_small}
use Rattle.model_arguments.proofs.Kept.{ordered, at_least, at_most, is_lower}
use Rattle.model_arguments.proofs.Values.{value_passes}
use Rattle.model_table.proofs.Ordered.{constraint_at}
use Rattle.qc_refuter.proofs.Ready.{rule_met}
use Rattle.qc_refuter.specs.Met.{is_met, are_met}
use Rattle.qc_model.proofs.Readable.{first, second}
use Rattle.dense_quiet.specs.declared.slack.Room.{Room}
use Rattle.dense_quiet.specs.declared.stretch.Kept.{Kept}
use Rattle.dense_closing.proofs.Within.{all_from, sub_values}
use Rattle.dense_close.specs.Cutting.{IsBarred, IsSureOf}
use Rattle.dense_quiet.specs.Slack.{RoomTells, IsTermOf, IsMeasured, IsPast}
use Rattle.dense_close.proofs.Cuts.{least_small, greatest_small}
use Rattle.dense_close.proofs.Indexed.{some_at}
use Rattle.dense_quiet.proofs.PastRoom.{IsIn, term, least_in, greatest_in, past_refuted}

-- the numbers of a constraint are within the limit
pub number_passes : (ns : List ℤ) (i : ℕ) (n : ℤ) → list_all is_number ns ≡ true → slice_get ns i ≡ Some n → is_number n ≡ true
number_passes [] zero n h e = cc
number_passes [] (suc i) n h e = cc
number_passes (m ∷ ns) zero n h e = subst (λ z. is_number z ≡ true) (same_Some m n e) (first (is_number m) (list_all is_number ns) h)
number_passes (m ∷ ns) (suc i) n h e = number_passes ns i n (second (is_number m) (list_all is_number ns) h) e

pub numbers_small : (box : Box) (args : List Argument) (k : ℕ) → are_met box args ≡ true → list_all is_number (ints_at args k) ≡ true
numbers_small box [] zero h = refl
numbers_small box [] (suc k) h = refl
numbers_small box (One a ∷ args) zero h = refl
numbers_small box (Many xs ∷ args) zero h = refl
numbers_small box (Numbers ns ∷ args) zero h = first (list_all is_number ns) (are_met box args) h
numbers_small box (Members s ∷ args) zero h = refl
numbers_small box (a ∷ args) (suc k) h = numbers_small box args k (second (is_met box a) (are_met box args) h)

factor_small : (box : Box) (c : Rule) (n : ℤ) (x : VarId) → are_met box c.args ≡ true → IsTermOf c n x → is_number n ≡ true
factor_small box c n x h t = number_passes (ints_at c.args 0) t.place n (numbers_small box c.args 0 h) t.factor

pub measured : (g : Game) → IsValid g → (k : ℕ) (box : Box) (x : VarId) (n u v : ℤ) → is_box_of g box ≡ true → has_empty box ≡ false → k < length g.constraints → x.0 < length box → n ≢ pos 0 →
    ((c : Rule) → slice_get g.constraints k ≡ Some c → IsTermOf c n x) → u ≡ least_value (values_left box x.0) → v ≡ greatest_value (values_left box x.0) → IsMeasured n u v
measured g valid k box x n u v d f there l some at low high =
    let r = some_at g.constraints k there in
    let small = left_small g box x.0 valid.domains d in
    let met = rule_met g box valid.domains d f r.0 (constraint_at g valid k r.0 r.1) in
    record {
      small = factor_small box r.0 n x met (at r.0 r.1);
      some = some;
      low = subst (λ z. is_number z ≡ true) (sym low) (least_small box x.0 l f small);
      high = subst (λ z. is_number z ≡ true) (sym high) (greatest_small box x.0 l f small);
      order = subst (λ z. z ≤ℤ v) (sym low) (subst (λ z. least_value (values_left box x.0) ≤ℤ z) (sym high) (ordered (values_left box x.0) (some_left box x.0 f l)));
    }

pub barred_over : (g : Game) (k : ℕ) (box : Box) (x : VarId) (n : ℤ) (r : Room) (w low high : ℤ) → x.0 < length box → ((c : Rule) → slice_get g.constraints k ≡ Some c → RoomTells c r box) → ((c : Rule) → slice_get g.constraints k ≡ Some c → IsTermOf c n x) →
    w ≡ least_value (values_left box x.0) → IsPast r n w low high → IsBarred g k x.0 box low high
barred_over g k box x n r w low high l t at e p = λ c there vs some left within.
    past_refuted c r box x n l (t c there) (at c there) w low high (subst (λ z. IsIn (n *ℤ z) (term n (values_left box x.0))) (sym e) (least_in n (values_left box x.0))) vs some within p

pub barred_under : (g : Game) (k : ℕ) (box : Box) (x : VarId) (n : ℤ) (r : Room) (w low high : ℤ) → x.0 < length box → ((c : Rule) → slice_get g.constraints k ≡ Some c → RoomTells c r box) → ((c : Rule) → slice_get g.constraints k ≡ Some c → IsTermOf c n x) →
    w ≡ greatest_value (values_left box x.0) → IsPast r n w low high → IsBarred g k x.0 box low high
barred_under g k box x n r w low high l t at e p = λ c there vs some left within.
    past_refuted c r box x n l (t c there) (at c there) w low high (subst (λ z. IsIn (n *ℤ z) (term n (values_left box x.0))) (sym e) (greatest_in n (values_left box x.0))) vs some within p

-- values that are barred stay so while the variable loses others
same_left : (a b : Box) → length a ≡ length b → ((y : ℕ) → values_left a y ≡ values_left b y) → a ≡ b
same_left [] [] e f = refl
same_left [] (d ∷ b) e f = cc
same_left (d ∷ a) [] e f = cc
same_left (c ∷ a) (d ∷ b) e f = ap (λ z. z ∷ a) (f 0) ∙ ap (λ z. d ∷ z) (same_left a b (omega (arith, e)) (λ y. f (suc y)))

set_alike : (a b : Box) (x : ℕ) (us : Values) → length a ≡ length b → ((y : ℕ) → y ≢ x → values_left a y ≡ values_left b y) → set a x us ≡ set b x us
set_alike [] [] x us e f = refl
set_alike [] (d ∷ b) x us e f = cc
set_alike (d ∷ a) [] x us e f = cc
set_alike (c ∷ a) (d ∷ b) zero us e f = ap (λ z. us ∷ z) (same_left a b (omega (arith, e)) (λ y. f (suc y) (λ q. never_zero y q)))
  where
    never_zero : (y : ℕ) → suc y ≡ 0 → ⊥
    never_zero y q = omega arith
set_alike (c ∷ a) (d ∷ b) (suc x) us e f = ap (λ z. z ∷ set a x us) (f 0 (λ q. never_zero x q)) ∙ ap (λ z. d ∷ z) (set_alike a b x us (omega (arith, e)) (λ y n. f (suc y) (λ q. n (omega (arith, q)))))
  where
    never_zero : (y : ℕ) → 0 ≡ suc y → ⊥
    never_zero y q = omega arith

left_before : (box now : Box) (x : ℕ) (vs : Values) → is_sub_box now box ≡ true → list_all (has_value (values_left now x)) vs ≡ true → list_all (has_value (values_left box x)) vs ≡ true
left_before box now x vs s left = all_from (has_value (values_left box x)) vs (λ v m. value_passes (has_value (values_left box x)) (values_left now x) v (sub_values now box x s) (value_passes (has_value (values_left now x)) vs v left m))

pub barred_after : (g : Game) (k x : ℕ) (box now : Box) (low high : ℤ) → length now ≡ length box → ((y : ℕ) → y ≢ x → values_left now y ≡ values_left box y) → is_sub_box now box ≡ true → IsBarred g k x box low high → IsBarred g k x now low high
barred_after g k x box now low high e f s b = λ c there vs some left within.
    subst (λ z. refuted_by c z ≡ true) (sym (set_alike now box x vs e f)) (b c there vs some (left_before box now x vs s left) within)

-- so do those outside of what is left for sure
pub sure_after : (s : Kept) (g : Game) (k x : ℕ) (box now : Box) → length now ≡ length box → ((y : ℕ) → y ≢ x → values_left now y ≡ values_left box y) → is_sub_box now box ≡ true → IsSureOf s g k x box → IsSureOf s g k x now
sure_after s g k x box now e f b h = λ sure c there.
    let was = h sure c there in
    record {
      below = λ vs some left p. subst (λ z. refuted_by c z ≡ true) (sym (set_alike now box x vs e f)) (was.below vs some (left_before box now x vs b left) p);
      above = λ vs some left p. subst (λ z. refuted_by c z ≡ true) (sym (set_alike now box x vs e f)) (was.above vs some (left_before box now x vs b left) p);
    }

-- values on one side of it are barred
pub barred_below : (s : Kept) (g : Game) (k x : ℕ) (box : Box) (from to : ℤ) → s.sure ≡ true → to <ℤ s.stretch.low → IsSureOf s g k x box → IsBarred g k x box from to
barred_below s g k x box from to sure below h = λ c there vs some left within.
    (h sure c there).below vs some left (all_from (λ v. int_lt v s.stretch.low) vs (λ v m. is_lower v s.stretch.low (under v to s.stretch.low (at_most from to v (value_passes (is_within from to) vs v within m)) below)))
  where
    under : (a b c : ℤ) → a ≤ℤ b → b <ℤ c → a <ℤ c
    under a b c h k = omega (arith, ints)

pub barred_above : (s : Kept) (g : Game) (k x : ℕ) (box : Box) (from to : ℤ) → s.sure ≡ true → s.stretch.high <ℤ from → IsSureOf s g k x box → IsBarred g k x box from to
barred_above s g k x box from to sure above h = λ c there vs some left within.
    (h sure c there).above vs some left (all_from (λ v. int_lt s.stretch.high v) vs (λ v m. is_lower s.stretch.high v (over s.stretch.high from v above (at_least from to v (value_passes (is_within from to) vs v within m)))))
  where
    over : (a b c : ℤ) → a <ℤ b → b ≤ℤ c → a <ℤ c
    over a b c h k = omega (arith, ints)
