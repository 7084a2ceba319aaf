-- What an at-most sum takes of its variables' ends.
use Rattle.std.proofs.Common.{◌≡◌, inl, inr, ℕ, zero, suc, ◌<◌, Bool, true, false, ◌||◌, List, [], ◌∷◌, ◌++◌, length, get_or, refl, sym, ap, ◌∙◌, subst, cond, arith, ℤ}
use Rattle.std.specs.Prelude.{nat_le, pos, ◌+ℤ◌, ◌*ℤ◌, ◌≤ℤ◌, int_lt, slice_get, flat_map, Some}
use Rattle.std.specs.List.{list_all}
use Rattle.std.proofs.Math.IntN.{zero-*ℤ}
use Rattle.std.proofs.lemmas.Int.{ints}
use Rattle.std.proofs.lemmas.List.{get_or-set_same}
use Rattle.std.proofs.lemmas.Option.{same_Some}
use Rattle.qc_model.specs.declared.problem.Arg.{Arg}
use Rattle.qc_model.specs.declared.problem.Arg.TheVariants.{Var, Num}
use Rattle.qc_model.specs.declared.problem.Argument.{Argument}
use Rattle.qc_model.specs.declared.problem.Argument.TheVariants.{One, Many, Numbers, Members}
use Rattle.qc_model.specs.declared.problem.VarId.{VarId}
use Rattle.qc_model.specs.Arguments.{arg_variables, argument_variables, variables_of}
use Rattle.qc_model.specs.Content.{Game, Rule}
use Rattle.qc_model.specs.Domains.{Values, Box, declared_box, values_left, values_outside, box_without, least_value, greatest_value, has_empty}
use Rattle.qc_model.specs.Lists.{Among}
use Rattle.qc_model.specs.Valid.{IsValid, is_number}
use Rattle.qc_model.proofs.Readable.{first, second}
use Rattle.model_arguments.specs.Asked.{is_box_of}
use Rattle.model_arguments.specs.Written.{args_at, ints_at}
use Rattle.model_arguments.proofs.Boxes.{some_left, set_full, sub_without}
use Rattle.model_levels.specs.Spans.{is_between, IsSpanOf}
use Rattle.model_table.proofs.Ordered.{constraint_at}
use Rattle.fd_store.specs.Held.{count_left}
use Rattle.qc_refuter.specs.Met.{is_open, is_met, are_met}
use Rattle.qc_refuter.proofs.Ready.{rule_met}
use Rattle.dense_closing.proofs.Within.{sub_self}
use Rattle.dense_quiet.specs.declared.taking.Taking.{Taking}
use Rattle.dense_quiet.specs.Taking.{takes_of}
use Rattle.dense_quiet.specs.Slack.{most_room, IsNear, IsBounded, IsTermOf, IsItemOf, least_end, IsFar}
use Rattle.dense_quiet.proofs.Bounded.{far_some, far_near, far_least, bounded_tells, bounded_left}
use Rattle.dense_quiet.proofs.PastRoom.{IsIn, term, least_in, greatest_in, past_refuted}
use Rattle.dense_close.specs.declared.cutting.End.TheVariants.{Least, Greatest}
use Rattle.dense_close.specs.Cutting.{IsStretch, IsBarred, IsCut, HasCut}
use Rattle.dense_close.specs.Narrowing.{IsNarrowed}
use Rattle.dense_close.proofs.Barred.{number_passes, numbers_small}
use Rattle.dense_close.proofs.Cuts.{stretch_barred, itself}
use Rattle.dense_close.proofs.Indexed.{some_at}
use Rattle.dense_close.proofs.Narrowed.{owned_by}

-- its items are variables of the sum
among_first : (xs ys : List ℕ) (x : ℕ) → Among x xs → Among x (xs ++ ys)
among_first [] ys x m = absurd m
among_first (y ∷ xs) ys x (inl e) = inl e
among_first (y ∷ xs) ys x (inr m) = inr (among_first xs ys x m)

among_second : (xs ys : List ℕ) (x : ℕ) → Among x ys → Among x (xs ++ ys)
among_second [] ys x m = m
among_second (y ∷ xs) ys x m = inr (among_second xs ys x m)

item_in : (xs : List Arg) (i : ℕ) (y : VarId) → slice_get xs i ≡ Some (Var y) → Among y.0 (flat_map arg_variables xs)
item_in [] zero y h = cc
item_in [] (suc i) y h = cc
item_in (Num n ∷ xs) zero y h = cc
item_in (Num n ∷ xs) (suc i) y h = item_in xs i y h
item_in (Var z ∷ xs) zero y h = inl (same (same_Some (Var z) (Var y) h))
  where
    same : Var z ≡ Var y → y.0 ≡ z.0
    same e = cc
item_in (Var z ∷ xs) (suc i) y h = inr (item_in xs i y h)

pub item_own : (args : List Argument) (k i : ℕ) (y : VarId) → slice_get (args_at args k) i ≡ Some (Var y) → Among y.0 (variables_of args)
item_own [] zero i y h = cc
item_own [] (suc k) i y h = cc
item_own (One a ∷ args) zero i y h = cc
item_own (Many xs ∷ args) zero i y h = among_first (flat_map arg_variables xs) (variables_of args) y.0 (item_in xs i y h)
item_own (Numbers ns ∷ args) zero i y h = cc
item_own (Members s ∷ args) zero i y h = cc
item_own (a ∷ args) (suc k) i y h = among_second (argument_variables a) (variables_of args) y.0 (item_own args k i y h)

pub term_of : (c : Rule) (n : ℤ) (a : Arg) (x : VarId) → a ≡ Var x → IsItemOf c n a → IsTermOf c n x
term_of c n a x e h = record { place = h.place; factor = h.factor; item = h.item ∙ ap Some e }

-- their numbers are within the limit, and some are left to each of them
open_items : (box : Box) (args : List Argument) (k : ℕ) → are_met box args ≡ true → list_all (is_open box) (args_at args k) ≡ true
open_items box [] zero h = refl
open_items box [] (suc k) h = refl
open_items box (One a ∷ args) zero h = refl
open_items box (Many xs ∷ args) zero h = second (nat_le (length xs) 1000) (list_all (is_open box) xs) (first (is_met box (Many xs)) (are_met box args) h)
open_items box (Numbers ns ∷ args) zero h = refl
open_items box (Members s ∷ args) zero h = refl
open_items box (a ∷ args) (suc k) h = open_items box args k (second (is_met box a) (are_met box args) h)

item_passes : (p : Arg → Bool) (xs : List Arg) (i : ℕ) (a : Arg) → list_all p xs ≡ true → slice_get xs i ≡ Some a → p a ≡ true
item_passes p [] zero a h e = cc
item_passes p [] (suc i) a h e = cc
item_passes p (x ∷ xs) zero a h e = subst (λ z. p z ≡ true) (same_Some x a e) (first (p x) (list_all p xs) h)
item_passes p (x ∷ xs) (suc i) a h e = item_passes p xs i a (second (p x) (list_all p xs) h) e

module _ (g : Game) (valid : IsValid g) (k : ℕ) (box : Box) (c : Rule) (n : ℤ) (a : Arg) (there : slice_get g.constraints k ≡ Some c) (d : is_box_of g box ≡ true) (full : has_empty box ≡ false) (at : IsItemOf c n a) where
  met : are_met box c.args ≡ true
  met = rule_met g box valid.domains d full c (constraint_at g valid k c there)

  pub item_number : is_number n ≡ true
  item_number = number_passes (ints_at c.args 0) at.place n (numbers_small box c.args 0 met) at.factor

  pub item_open : is_open box a ≡ true
  item_open = item_passes (is_open box) (args_at c.args 1) at.place a (open_items box c.args 1 met) at.item

pub got_at : {X : Type 0} (xs : List X) (k : ℕ) (d : X) → k < length xs → slice_get xs k ≡ Some (get_or xs k d)
got_at [] k d l = absurd (omega arith)
got_at (x ∷ xs) zero d l = refl
got_at (x ∷ xs) (suc k) d l = got_at xs k d (omega arith)

-- what it takes of a variable no closed box has
pub cut_narrows : (t : Taking) (g : Game) (i stop first end k x : ℕ) (c : Rule) (box now : Box) → IsSpanOf g i stop first end → is_between first end k ≡ true → slice_get g.constraints k ≡ Some c → Among x (variables_of c.args) → takes_of t g c x ≡ true → IsCut g k x box now → IsNarrowed t g i stop box now
cut_narrows t g i stop first end k x c box now s b there own taken h = record { fewer = h.fewer; around = λ small within closed. h.around (takes_of t g) i stop c there (owned_by g i stop first end k c s b there) own taken small within closed }

pub same_near : (s n : ℤ) (d : Values) → n ≡ pos 0 → pos 0 ≤ℤ s → IsNear s n d
same_near s n d e z = record { up = never (n *ℤ greatest_value d) (n *ℤ least_value d) (nothing (greatest_value d)) (nothing (least_value d)); down = never (n *ℤ least_value d) (n *ℤ greatest_value d) (nothing (least_value d)) (nothing (greatest_value d)) }
  where
    nothing : (v : ℤ) → n *ℤ v ≡ pos 0
    nothing v = ap (λ m. m *ℤ v) e ∙ zero-*ℤ v

    never : (p q : ℤ) → p ≡ pos 0 → q ≡ pos 0 → p ≤ℤ (q +ℤ s)
    never p q h k = omega (arith, ints)

-- room that each such constraint has
pub some_room : (g : Game) (k : ℕ) (s : ℤ) (box : Box) → k < length g.constraints → ((c : Rule) → slice_get g.constraints k ≡ Some c → IsBounded c s box) → pos 0 ≤ℤ s
some_room g k s box l b = let r = some_at g.constraints k l in (b r.0 r.1).some

-- what is past the room goes
module _ (g : Game) (valid : IsValid g) (k : ℕ) (box : Box) (x : VarId) (n s low high : ℤ) (d : is_box_of g box ≡ true) (full : has_empty box ≡ false) (l : x.0 < length box) (some : k < length g.constraints)
    (bounded : (c : Rule) → slice_get g.constraints k ≡ Some c → IsBounded c s box) (at : (c : Rule) → slice_get g.constraints k ≡ Some c → IsTermOf c n x) (f : IsFar s n (least_value (values_left box x.0)) (greatest_value (values_left box x.0)) low high) where
  abbrev own : Values
  own = values_left box x.0

  abbrev base : ℤ
  base = least_end n (least_value own) (greatest_value own)

  abbrev after : Box
  after = box_without box x.0 low high

  base_in : IsIn (n *ℤ base) (term n own)
  base_in = by (int_lt n (pos 0))
    where
      by : (b : Bool) → IsIn (n *ℤ cond b (greatest_value own) (least_value own)) (term n own)
      by true = greatest_in n own
      by false = least_in n own

  barred : IsBarred g k x.0 box low high
  barred = λ c there vs any left within.
      past_refuted c (record { under = s; over = most_room }) box x n l (bounded_tells c s box (bounded c there)) (at c there) base low high base_in vs any within (inl f.far)

  pub stretch_far : low ≤ℤ high → IsStretch g k x.0 box low high
  stretch_far o =
      elim f.end [
        | inl e ↦ stretch_barred Least g k box x.0 low high (least_value own) l full refl (itself low (least_value own) e) (subst (λ z. z ≤ℤ high) e o) barred
        | inr e ↦ stretch_barred Greatest g k box x.0 low high (greatest_value own) l full refl (subst (λ z. low ≤ℤ z) e o) (itself (greatest_value own) high (sym e)) barred
      ]

  z : pos 0 ≤ℤ s
  z = some_room g k s box some bounded

  pub full_far : has_empty after ≡ false
  full_far = set_full box x.0 (values_outside low high own) full (far_some s n own low high (some_left box x.0 full l) z f)

  pub near_far : IsNear s n (values_left after x.0)
  near_far = subst (IsNear s n) (sym (get_or-set_same box x.0 (values_outside low high own) [] l)) (far_near s n own low high (some_left box x.0 full l) z f)

  pub bounded_far : (c : Rule) → slice_get g.constraints k ≡ Some c → IsBounded c s after
  bounded_far c there =
      bounded_left g valid k c s box after x n (values_outside low high own) there (sub_without box (declared_box g) x.0 low high d) (sub_without box box x.0 low high (sub_self box (declared_box g) d)) full_far l refl
      (far_least s n own low high (some_left box x.0 full l) z f) (at c there) (bounded c there)

-- one more
pub cut_gone : (a b : Bool) (box left now : Box) → HasCut a box left → HasCut b left now → HasCut (a || b) box now
cut_gone true true box left now p q = omega arith
cut_gone true false box left now p q = subst (λ z. count_left z < count_left box) (sym q) p
cut_gone false true box left now p q = subst (λ z. count_left now < count_left z) p q
cut_gone false false box left now p q = q ∙ p
