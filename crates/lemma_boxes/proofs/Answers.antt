-- The values by which the winner answers a reason, and what they come to.
use Rattle.std.proofs.Common.{◌≡◌, inl, inr, ℕ, ◌<◌, Bool, true, false, not, ◌&&◌, ◌||◌, List, [], ◌∷◌, length, map, filter, get_or, refl, sym, ap, ◌∙◌, subst, arith, cond, Option, Some, None, slice_get}
use Rattle.std.specs.Prelude.{ℤ, pos, ◌==◌}
use Rattle.std.specs.List.{list_any, list_all}
use Rattle.std.specs.Ordering.{int_eq}
use Rattle.std.proofs.lemmas.Bool.Decides.{nat_tests}
use Rattle.std.proofs.lemmas.Bool.{and_parts, or_cases, and_from}
use Rattle.qc_model.specs.declared.problem.Arg.{Arg}
use Rattle.qc_model.specs.declared.problem.Arg.TheVariants.{Var, Num}
use Rattle.qc_model.specs.declared.problem.Argument.{Argument}
use Rattle.qc_model.specs.declared.problem.Argument.TheVariants.{Many}
use Rattle.qc_model.specs.Content.{Game, Rule}
use Rattle.qc_model.specs.Lists.{Among, LiesIn}
use Rattle.qc_model.specs.Domains.{Box, values_left, has_value, is_single, least_value}
use Rattle.qc_model.specs.Arguments.{fill}
use Rattle.qc_model.specs.Holds.{arg_value, holds_as, holds_on, is_one, is_zero}
use Rattle.qc_model.specs.Left.{is_only}
use Rattle.qc_model.specs.Meaning.{Meaning, clause, meaning_of}
use Rattle.qc_model.specs.Refuted.{left_to}
use Rattle.qc_model.specs.Visible.{ArgBelow, ArgsBelow, ArgumentsBelow}
use Rattle.qc_model.proofs.Moves.{among_filter, of_filter}
use Rattle.model_table.proofs.Fits.{all_at, any_at, any_from, only_value}
use Rattle.model_table.proofs.Sums.{same_number}
use Rattle.lemma_list.specs.declared.lemma.Literal.{Literal}
use Rattle.lemma_list.specs.declared.lemma.Reason.{Reason}
use Rattle.lemma_list.specs.declared.lemma.Reason.TheVariants.{Constraint, Lemma as Earlier}
use Rattle.lemma_list.specs.Lemmas.{Lemma}
use Rattle.lemma_list.specs.Literals.{meets, literals_hold}
use Rattle.lemma_list.specs.Reasons.{Known, lemma_at, is_item, answered, comes_to, falsified_as, is_falsified, is_met}
use Rattle.lemma_boxes.proofs.Lists.{differ, not_true, lies_at, all_from, value_among}
use Rattle.lemma_boxes.proofs.Sums.{arg_in}

-- which value the winner gives to y, where it had meant to give d
abbrev pub Pick : Type 0
Pick = ℕ → ℤ → ℤ

abbrev pub first_or : ℤ → List ℤ → ℤ
first_or d [] = d
first_or d (v ∷ vs) = v

-- the first value left that meets the literals on y
abbrev pub literal_pick : List Literal → Box → Pick
literal_pick ls box y d = first_or d (filter (meets ls y) (values_left box y))

-- the value that makes the items false that are y
abbrev pub items_pick : List Arg → List Arg → Box → Pick
items_pick xs ys box y d =
    cond (list_any (is_item y) xs && has_value (values_left box y) (pos 0)) (pos 0) (cond (list_any (is_item y) ys && has_value (values_left box y) (pos 1)) (pos 1) d)

abbrev pub clause_pick : Meaning → List Argument → Box → Pick
clause_pick clause (Many xs ∷ Many ys ∷ []) box = items_pick xs ys box
clause_pick m args box = λ y d. d

abbrev pub rule_pick : Option Rule → Box → Pick
rule_pick None box = λ y d. d
rule_pick (Some c) box = clause_pick (meaning_of c.pred) c.args box

abbrev pub lemma_pick : Option Lemma → Box → Pick
lemma_pick None box = λ y d. d
lemma_pick (Some n) box = literal_pick n.literals box

abbrev pub reason_pick : Game → Known → Reason → Box → Pick
reason_pick g known (Constraint c) box = rule_pick (slice_get g.constraints c.0) box
reason_pick g known (Earlier n) box = lemma_pick (lemma_at known n.0) box

-- each pick stays with the values left
abbrev pub PicksIn : Pick → Box → Type 0
PicksIn pick box = (y : ℕ) (d : ℤ) → Among d (values_left box y) → Among (pick y d) (values_left box y)

literal_in : (ls : List Literal) (box : Box) → PicksIn (literal_pick ls box) box
literal_in ls box y d h = by (filter (meets ls y) (values_left box y)) refl
  where
    by : (vs : List ℤ) → filter (meets ls y) (values_left box y) ≡ vs → Among (first_or d vs) (values_left box y)
    by [] e = h
    by (v ∷ vs) e = (of_filter (meets ls y) v (values_left box y) (subst (Among v) (sym e) (inl refl))).0

items_in : (xs ys : List Arg) (box : Box) → PicksIn (items_pick xs ys box) box
items_in xs ys box y d h = by (list_any (is_item y) xs && has_value (values_left box y) (pos 0)) refl (list_any (is_item y) ys && has_value (values_left box y) (pos 1)) refl
  where
    by : (a : Bool) → (list_any (is_item y) xs && has_value (values_left box y) (pos 0)) ≡ a → (b : Bool) → (list_any (is_item y) ys && has_value (values_left box y) (pos 1)) ≡ b → Among (cond a (pos 0) (cond b (pos 1) d)) (values_left box y)
    by true e b f = value_among (values_left box y) (pos 0) (and_parts (list_any (is_item y) xs) (has_value (values_left box y) (pos 0)) e).1
    by false e true f = value_among (values_left box y) (pos 1) (and_parts (list_any (is_item y) ys) (has_value (values_left box y) (pos 1)) f).1
    by false e false f = h

clause_in : (m : Meaning) (args : List Argument) (box : Box) → PicksIn (clause_pick m args box) box
clause_in clause (Many xs ∷ Many ys ∷ []) box = items_in xs ys box
clause_in m args box = λ y d h. h

pub picks_in : (g : Game) (known : Known) (r : Reason) (box : Box) → PicksIn (reason_pick g known r box) box
picks_in g known (Constraint c) box = by (slice_get g.constraints c.0)
  where
    by : (o : Option Rule) → PicksIn (rule_pick o box) box
    by None = λ y d h. h
    by (Some r) = clause_in (meaning_of r.pred) r.args box
picks_in g known (Earlier n) box = by (lemma_at known n.0)
  where
    by : (o : Option Lemma) → PicksIn (lemma_pick o box) box
    by None = λ y d h. h
    by (Some m) = literal_in m.literals box

-- the play gives each variable that is an answer the value picked
pub record Picked (pick : Pick) (box : Box) (w : List ℤ) (y : ℕ) : Type 0 where
  pub meant : ℤ
  pub left : Among meant (values_left box y)
  pub same : get_or w y (pos 0) ≡ pick y meant

abbrev pub AllPicked : (ℕ → Bool) → Pick → Box → List ℤ → Type 0
AllPicked answers pick box w = (y : ℕ) → answers y ≡ true → Picked pick box w y

-- a literal that is met
any_filter : (p : ℤ → Bool) (vs : List ℤ) (d : ℤ) → list_any p vs ≡ true → p (first_or d (filter p vs)) ≡ true
any_filter p vs d e = by (filter p vs) refl
  where
    by : (us : List ℤ) → filter p vs ≡ us → p (first_or d us) ≡ true
    by [] q = let r = any_at p vs e in absurd (subst (Among r.0) q (among_filter p r.0 vs r.1 r.2))
    by (u ∷ us) q = (of_filter p u vs (subst (Among u) (sym q) (inl refl))).1

pub met_holds : (answers : ℕ → Bool) (ls : List Literal) (box : Box) (w : List ℤ) → LiesIn w box → AllPicked answers (literal_pick ls box) box w → ((l : Literal) → Among l ls → l.x.0 < length w) → list_all (is_met answers ls box) ls ≡ true → literals_hold ls w ≡ true
met_holds answers ls box w i picked below e = all_from (λ l. meets ls l.x.0 (get_or w l.x.0 (pos 0))) ls (λ l a.
    elim (or_cases (list_all (meets ls l.x.0) (values_left box l.x.0)) (answers l.x.0 && list_any (meets ls l.x.0) (values_left box l.x.0)) (all_at (is_met answers ls box) ls l e a)) [
      | inl q ↦ all_at (meets ls l.x.0) (values_left box l.x.0) (get_or w l.x.0 (pos 0)) q (lies_at w box l.x.0 i (below l a))
      | inr q ↦ (
          let p = and_parts (answers l.x.0) (list_any (meets ls l.x.0) (values_left box l.x.0)) q in
          let k = picked l.x.0 p.0 in
          ap (meets ls l.x.0) k.same ∙ any_filter (meets ls l.x.0) (values_left box l.x.0) k.meant p.1)
    ])

-- a clause whose items are all false
item_self : (x : ℕ) → (x == x) ≡ true
item_self x = grind (arith, nat_tests)

module _ (answers : ℕ → Bool) (box : Box) (w : List ℤ) (inside : LiesIn w box) (xs ys : List Arg) (picked : AllPicked answers (items_pick xs ys box) box w) where
  only_there : (x : Arg) (v : ℤ) → ArgBelow (length w) x → is_only v (left_to box x) ≡ true → arg_value w x ≡ v
  only_there x v b e =
      let p = and_parts (is_single (left_to box x)) (int_eq (least_value (left_to box x)) v) e in
      only_value (arg_value w x) (left_to box x) p.0 (arg_in w box x b inside) ∙ same_number (least_value (left_to box x)) v p.1

  is_first : (x : Arg) → Among x xs → ArgBelow (length w) x → comes_to answers box ys (pos 0) x ≡ true → arg_value w x ≡ pos 0
  is_first (Num n) a b e = elim (or_cases (is_only (pos 0) (left_to box (Num n))) false e) [ inl q ↦ only_there (Num n) (pos 0) b q | inr q ↦ absurd (differ q) ]
  is_first (Var y) a b e =
      elim (or_cases (is_only (pos 0) (left_to box (Var y))) (answered answers box ys (pos 0) (Var y)) e) [
        | inl q ↦ only_there (Var y) (pos 0) b q
        | inr q ↦ (
            let p = and_parts (answers y.0 && has_value (values_left box y.0) (pos 0)) (not (list_any (is_item y.0) ys)) q in
            let p2 = and_parts (answers y.0) (has_value (values_left box y.0) (pos 0)) p.0 in
            let k = picked y.0 p2.0 in
            k.same
            ∙ ap (λ b. cond b (pos 0) (cond (list_any (is_item y.0) ys && has_value (values_left box y.0) (pos 1)) (pos 1) k.meant))
            (and_from (list_any (is_item y.0) xs) (has_value (values_left box y.0) (pos 0)) (any_from (is_item y.0) xs (Var y) a (item_self y.0)) p2.1))
      ]

  is_second : (x : Arg) → Among x ys → ArgBelow (length w) x → comes_to answers box xs (pos 1) x ≡ true → arg_value w x ≡ pos 1
  is_second (Num n) a b e = elim (or_cases (is_only (pos 1) (left_to box (Num n))) false e) [ inl q ↦ only_there (Num n) (pos 1) b q | inr q ↦ absurd (differ q) ]
  is_second (Var y) a b e =
      elim (or_cases (is_only (pos 1) (left_to box (Var y))) (answered answers box xs (pos 1) (Var y)) e) [
        | inl q ↦ only_there (Var y) (pos 1) b q
        | inr q ↦ (
            let p = and_parts (answers y.0 && has_value (values_left box y.0) (pos 1)) (not (list_any (is_item y.0) xs)) q in
            let p2 = and_parts (answers y.0) (has_value (values_left box y.0) (pos 1)) p.0 in
            let k = picked y.0 p2.0 in
            k.same
            ∙ ap (λ b. cond (b && has_value (values_left box y.0) (pos 0)) (pos 0) (cond (list_any (is_item y.0) ys && has_value (values_left box y.0) (pos 1)) (pos 1) k.meant)) (not_true (list_any (is_item y.0) xs) p.1)
            ∙ ap (λ b. cond b (pos 1) k.meant)
            (and_from (list_any (is_item y.0) ys) (has_value (values_left box y.0) (pos 1)) (any_from (is_item y.0) ys (Var y) a (item_self y.0)) p2.1))
      ]

no_one : (w : List ℤ) (xs : List Arg) → ((x : Arg) → Among x xs → arg_value w x ≡ pos 0) → list_any is_one (map (arg_value w) xs) ≡ false
no_one w [] f = refl
no_one w (x ∷ xs) f = ap (λ v. is_one v || list_any is_one (map (arg_value w) xs)) (f x (inl refl)) ∙ no_one w xs (λ y m. f y (inr m))

no_zero : (w : List ℤ) (xs : List Arg) → ((x : Arg) → Among x xs → arg_value w x ≡ pos 1) → list_any is_zero (map (arg_value w) xs) ≡ false
no_zero w [] f = refl
no_zero w (x ∷ xs) f = ap (λ v. is_zero v || list_any is_zero (map (arg_value w) xs)) (f x (inl refl)) ∙ no_zero w xs (λ y m. f y (inr m))

args_at : (n : ℕ) (xs : List Arg) (x : Arg) → ArgsBelow n xs → Among x xs → ArgBelow n x
args_at n [] x h m = absurd m
args_at n (y ∷ xs) x h m = elim m [ inl e ↦ subst (ArgBelow n) (sym e) h.0 | inr t ↦ args_at n xs x h.1 t ]

falsified : (answers : ℕ → Bool) (box : Box) (w : List ℤ) → LiesIn w box → (m : Meaning) (args : List Argument) → ArgumentsBelow (length w) args → AllPicked answers (clause_pick m args box) box w → falsified_as answers box m args ≡ true →
    holds_as m (map (fill (arg_value w)) args) ≡ true → ⊥
falsified answers box w i clause (Many xs ∷ Many ys ∷ []) b picked e h =
    let p = and_parts (list_all (comes_to answers box ys (pos 0)) xs) (list_all (comes_to answers box xs (pos 1)) ys) e in
    let first = no_one w xs (λ x m. is_first answers box w i xs ys picked x m (args_at (length w) xs x b.0 m) (all_at (comes_to answers box ys (pos 0)) xs x p.0 m)) in
    let second = no_zero w ys (λ x m. is_second answers box w i xs ys picked x m (args_at (length w) ys x b.1.0 m) (all_at (comes_to answers box xs (pos 1)) ys x p.1 m)) in
    differ (sym (ap (λ q. q || list_any is_zero (map (arg_value w) ys)) first ∙ second) ∙ h)
falsified answers box w i m args b picked e h = absurd (differ e)

pub falsified_none : (answers : ℕ → Bool) (box : Box) (w : List ℤ) (c : Rule) → LiesIn w box → ArgumentsBelow (length w) c.args → AllPicked answers (rule_pick (Some c) box) box w → is_falsified answers c box ≡ true → holds_on c w ≡ true → ⊥
falsified_none answers box w c i b picked e h = falsified answers box w i (meaning_of c.pred) c.args b picked e h
