-- The constraint that an integer is the greater of two.
use Rattle.std.proofs.Common.{◌≡◌, true, false, ◌&&◌, ◌||◌, List, [], ◌∷◌, refl, sym, ap, ◌∙◌, subst}
use Rattle.std.specs.List.{list_all}
use Rattle.std.proofs.lemmas.Bool.{or_parts, and_from}
use Rattle.qc_model.specs.declared.problem.Arg.{Arg}
use Rattle.qc_model.specs.declared.problem.Arg.TheVariants.{Var}
use Rattle.qc_model.specs.declared.problem.Argument.{Argument}
use Rattle.qc_model.specs.declared.problem.Argument.TheVariants.{One}
use Rattle.qc_model.specs.declared.problem.Pred.TheVariants.{IntMax}
use Rattle.qc_model.specs.declared.problem.VarId.{VarId}
use Rattle.qc_model.specs.Content.{Game, Rule}
use Rattle.qc_model.specs.Domains.{Box}
use Rattle.qc_model.specs.Left.{range_at, span}
use Rattle.qc_model.specs.Meaning.{meaning_of}
use Rattle.qc_model.specs.Ranges.{ranges_miss, greater_range}
use Rattle.qc_model.specs.Refuted.{left_to, refuted_as}
use Rattle.qc_model.specs.Valid.{is_domain}
use Rattle.qc_model.proofs.Readable.{first, second}
use Rattle.model_arguments.specs.Asked.{IsAsked}
use Rattle.model_arguments.specs.Repeats.{same_variable}
use Rattle.model_arguments.specs.Written.{arg_at}
use Rattle.model_arguments.proofs.Items.{flipped}
use Rattle.model_arguments.proofs.Written.{left_written}
use Rattle.qc_refuter.specs.Met.{lefts, is_open, are_met}
use Rattle.qc_refuter.proofs.Ready.{rule_met}
use Rattle.prop_base.specs.Closed.{keeps_arg, keeps_argument}
use Rattle.prop_base.proofs.Keeps.{keeps_all}
use Rattle.prop_arith.specs.declared.greater.Ends.{Ends}
use Rattle.prop_arith.specs.declared.greater.Greater.{Greater}
use Rattle.prop_arith.specs.Greater.{AreOpen, IsGreater, IsGreaterRule, IsHull, has_twice, has_no_greater, ends_left, ends_beside, ends_miss, greater_ends}
use Rattle.prop_arith.proofs.GreaterHulls.{Refutes, refutes_turned, no_greater_turned, third_hull, first_hull}
use Rattle.prop_arith.proofs.Three.{three_shape}

-- as written
written_refutes : (c : Rule) → c.pred ≡ IntMax → Refutes c (arg_at c.args 0) (arg_at c.args 1) (arg_at c.args 2)
written_refutes c e box =
    let l = lefts box c.args in
    let d = left_to box (arg_at c.args 0) in
    let f = left_to box (arg_at c.args 1) in
    ap (λ p. refuted_as (meaning_of p) l) e
    ∙ (ap (λ v. ranges_miss (greater_range (span v) (range_at l 1)) (range_at l 2)) (left_written box c.args 0)
    ∙ (ap (λ v. ranges_miss (greater_range (span d) (span v)) (range_at l 2)) (left_written box c.args 1)
    ∙ ap (λ v. ranges_miss (greater_range (span d) (span f)) (span v)) (left_written box c.args 2)))

written_own : (g : Game) (c : Rule) (box at : Box) → IsAsked g c at → c.pred ≡ IntMax → keeps_arg c box (arg_at c.args 0) ≡ true → keeps_arg c box (arg_at c.args 1) ≡ true → keeps_arg c box (arg_at c.args 2) ≡ true →
    list_all (keeps_argument c box) c.args ≡ true
written_own g c box at a e =
    let s = three_shape g.variables c IntMax a.rule e refl in
    let P : List Argument → Type 0 = λ args. keeps_arg c box (arg_at args 0) ≡ true → keeps_arg c box (arg_at args 1) ≡ true → keeps_arg c box (arg_at args 2) ≡ true → list_all (keeps_argument c box) args ≡ true in
    subst P (sym s.is)
    (λ p q r. and_from (keeps_arg c box s.a) (keeps_arg c box s.b && (keeps_arg c box s.c && true)) p (and_from (keeps_arg c box s.b) (keeps_arg c box s.c && true) q (and_from (keeps_arg c box s.c) true r refl)))

pub greater_is : (g : Game) (c : Rule) (box : Box) (t : Greater) → IsAsked g c box → IsGreaterRule t c → IsGreater c t
greater_is g c at t a h = record {
  once = h.once;
  refuted = λ box.
      written_refutes c h.pred box
      ∙ sym (ap (λ z. has_no_greater (left_to box z) (left_to box t.second) (left_to box t.third)) h.first
      ∙ (ap (λ z. has_no_greater (left_to box (arg_at c.args 0)) (left_to box z) (left_to box t.third)) h.second
      ∙ ap (λ z. has_no_greater (left_to box (arg_at c.args 0)) (left_to box (arg_at c.args 1)) (left_to box z)) h.third));
  own = λ box p q r.
      keeps_all c box (written_own g c box at a h.pred (ap (keeps_arg c box) (sym h.first) ∙ p) (ap (keeps_arg c box) (sym h.second) ∙ q) (ap (keeps_arg c box) (sym h.third) ∙ r));
}

record AllOpen (box : Box) (args : List Argument) : Type 0 where
  a : is_open box (arg_at args 0) ≡ true
  b : is_open box (arg_at args 1) ≡ true
  c : is_open box (arg_at args 2) ≡ true

all_open : (box : Box) (x y z : Arg) → are_met box (One x ∷ One y ∷ One z ∷ []) ≡ true → AllOpen box (One x ∷ One y ∷ One z ∷ [])
all_open box x y z h =
    let last = is_open box z && true in
    let k = second (is_open box x) (is_open box y && last) h in
    record {
      a = first (is_open box x) (is_open box y && last) h;
      b = first (is_open box y) last k;
      c = first (is_open box z) true (second (is_open box y) last k);
    }

pub greater_open : (g : Game) (c : Rule) (box : Box) (t : Greater) → list_all (λ x. is_domain x.domain) g.variables ≡ true → IsAsked g c box → c.pred ≡ IntMax → t.first ≡ arg_at c.args 0 → t.second ≡ arg_at c.args 1 → t.third ≡ arg_at c.args 2 → AreOpen box t
greater_open g c box t d a e f s l =
    let three = three_shape g.variables c IntMax a.rule e refl in
    let P : List Argument → Type 0 = λ args. are_met box args ≡ true → AllOpen box args in
    let all = subst P (sym three.is) (all_open box three.a three.b three.c) (rule_met g box d a.declared a.full c a.rule) in
    record {
      first = ap (is_open box) f ∙ all.a;
      second = ap (is_open box) s ∙ all.b;
      third = ap (is_open box) l ∙ all.c;
    }

-- none stands twice
record AreApart (t : Greater) : Type 0 where
  first_second : same_variable t.first t.second ≡ false
  first_third : same_variable t.first t.third ≡ false
  second_third : same_variable t.second t.third ≡ false

apart_of : (t : Greater) → has_twice t ≡ false → AreApart t
apart_of t h =
    let p = or_parts (same_variable t.first t.second) (same_variable t.first t.third || same_variable t.second t.third) h in
    let q = or_parts (same_variable t.first t.third) (same_variable t.second t.third) p.1 in
    record { first_second = p.0; first_third = q.0; second_third = q.1 }

-- what the third may keep, and each of the others, where the box isn't refuted
abbrev hull_of : Rule → Box → VarId → Ends → Type 0
hull_of c box x e = IsHull c box x.0 e.least e.greatest

pub third_keeps : (c : Rule) (box : Box) (t : Greater) (x : VarId) → IsGreater c t → AreOpen box t → t.third ≡ Var x → hull_of c box x (greater_ends (ends_left (left_to box t.first)) (ends_left (left_to box t.second)))
third_keeps c box t x g o e =
    let p = apart_of t g.once in
    third_hull c box t.first t.second x
    (subst (Refutes c t.first t.second) e g.refuted)
    (subst (λ a. is_open box a ≡ true) e o.third)
    o.first
    o.second
    (subst (λ a. same_variable t.first a ≡ false) e p.first_third)
    (subst (λ a. same_variable t.second a ≡ false) e p.second_third)

pub first_keeps : (c : Rule) (box : Box) (t : Greater) (x : VarId) → IsGreater c t → AreOpen box t → has_no_greater (left_to box t.first) (left_to box t.second) (left_to box t.third) ≡ false → t.first ≡ Var x →
    hull_of c box x (ends_beside (ends_left (left_to box t.second)) (ends_left (left_to box t.third)))
first_keeps c box t x g o k e =
    let p = apart_of t g.once in
    first_hull c box x t.second t.third
    (subst (λ a. Refutes c a t.second t.third) e g.refuted)
    (subst (λ a. is_open box a ≡ true) e o.first)
    o.third
    (flipped (Var x) t.second (subst (λ a. same_variable a t.second ≡ false) e p.first_second))
    (flipped (Var x) t.third (subst (λ a. same_variable a t.third ≡ false) e p.first_third))
    (subst (λ a. has_no_greater (left_to box a) (left_to box t.second) (left_to box t.third) ≡ false) e k)

pub second_keeps : (c : Rule) (box : Box) (t : Greater) (x : VarId) → IsGreater c t → AreOpen box t → has_no_greater (left_to box t.first) (left_to box t.second) (left_to box t.third) ≡ false → t.second ≡ Var x →
    hull_of c box x (ends_beside (ends_left (left_to box t.first)) (ends_left (left_to box t.third)))
second_keeps c box t x g o k e =
    let p = apart_of t g.once in
    first_hull c box x t.first t.third
    (refutes_turned c t.first (Var x) t.third (subst (λ a. Refutes c t.first a t.third) e g.refuted))
    (subst (λ a. is_open box a ≡ true) e o.second)
    o.third
    (subst (λ a. same_variable t.first a ≡ false) e p.first_second)
    (flipped (Var x) t.third (subst (λ a. same_variable a t.third ≡ false) e p.second_third))
    (subst (λ a. has_no_greater (left_to box a) (left_to box t.first) (left_to box t.third) ≡ false) e (no_greater_turned (left_to box t.second) (left_to box t.first) (left_to box t.third) ∙ k))

-- by the ends as they were read
pub third_read : (c : Rule) (box : Box) (t : Greater) (x : VarId) (d e k : Ends) → IsGreater c t → AreOpen box t → d ≡ ends_left (left_to box t.first) → e ≡ ends_left (left_to box t.second) → k ≡ greater_ends d e → t.third ≡ Var x → hull_of c box x k
third_read c box t x d e k g o p q h v =
    subst (hull_of c box x) (sym (h ∙ (ap (λ z. greater_ends z e) p ∙ ap (greater_ends (ends_left (left_to box t.first))) q))) (third_keeps c box t x g o v)

some_greater : (box : Box) (t : Greater) (d e f k : Ends) → d ≡ ends_left (left_to box t.first) → e ≡ ends_left (left_to box t.second) → f ≡ ends_left (left_to box t.third) → k ≡ greater_ends d e → ends_miss k f ≡ false →
    has_no_greater (left_to box t.first) (left_to box t.second) (left_to box t.third) ≡ false
some_greater box t d e f k p q r h m =
    ap (ends_miss (greater_ends (ends_left (left_to box t.first)) (ends_left (left_to box t.second)))) (sym r)
    ∙ (ap (λ z. ends_miss z f) (sym (h ∙ (ap (λ z. greater_ends z e) p ∙ ap (greater_ends (ends_left (left_to box t.first))) q))) ∙ m)

pub first_read : (c : Rule) (box : Box) (t : Greater) (x : VarId) (d e f k j : Ends) → IsGreater c t → AreOpen box t → d ≡ ends_left (left_to box t.first) → e ≡ ends_left (left_to box t.second) → f ≡ ends_left (left_to box t.third) → k ≡ greater_ends d e → ends_miss k f ≡ false →
    j ≡ ends_beside e f → t.first ≡ Var x → hull_of c box x j
first_read c box t x d e f k j g o p q r h m i v =
    subst (hull_of c box x) (sym (i ∙ (ap (λ z. ends_beside z f) q ∙ ap (ends_beside (ends_left (left_to box t.second))) r)))
    (first_keeps c box t x g o (some_greater box t d e f k p q r h m) v)

pub second_read : (c : Rule) (box : Box) (t : Greater) (x : VarId) (d e f k j : Ends) → IsGreater c t → AreOpen box t → d ≡ ends_left (left_to box t.first) → e ≡ ends_left (left_to box t.second) → f ≡ ends_left (left_to box t.third) → k ≡ greater_ends d e → ends_miss k f ≡ false →
    j ≡ ends_beside d f → t.second ≡ Var x → hull_of c box x j
second_read c box t x d e f k j g o p q r h m i v =
    subst (hull_of c box x) (sym (i ∙ (ap (λ z. ends_beside z f) p ∙ ap (ends_beside (ends_left (left_to box t.first))) r)))
    (second_keeps c box t x g o (some_greater box t d e f k p q r h m) v)
