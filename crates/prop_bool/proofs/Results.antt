-- What a disjunction and its result leave to be removed.
use Rattle.std.proofs.Common.{◌≡◌, ◌<◌, ℕ, ℤ, length, sym, Bool, true, false, not, ◌&&◌, ◌||◌, List, [], ◌∷◌, set, refl, ap, ◌∙◌, subst}
use Rattle.std.specs.List.{list_all, list_any}
use Rattle.std.proofs.lemmas.List.{get_or-set_same}
use Rattle.std.proofs.lemmas.Bool.{or_right, false_from_ne_true, and_left, and_right}
use Rattle.qc_model.specs.declared.problem.Arg.TheVariants.{Var}
use Rattle.qc_model.specs.declared.problem.VarId.{VarId}
use Rattle.qc_model.specs.Closed.{keeps_ends}
use Rattle.qc_model.specs.Content.{Game, Rule}
use Rattle.qc_model.specs.Domains.{Box, values_left, has_value}
use Rattle.qc_model.specs.Refuted.{left_to, refuted_by}
use Rattle.model_arguments.specs.Asked.{IsAsked}
use Rattle.prop_bool.specs.declared.findings.Finding.TheVariants.{Loses}
use Rattle.prop_bool.specs.declared.literals.Literal.{Literal}
use Rattle.prop_bool.specs.Literals.{truth_number, both_truths, surely_holds, surely_fails, IsUnfixed, same_literal, IsDisjunction}
use Rattle.prop_bool.specs.Findings.{CanHold, IsLast, IsFinding, given}
use Rattle.prop_bool.proofs.Adding.{unfixed_not_fails, unfixed_not_holds, holds_not_fails, fails_not_holds, holds_stays, fails_stays, all_weaker, any_weaker, some_hold, none_other, same_fails, same_holds}
use Rattle.prop_bool.proofs.Closed.{closed_by}
use Rattle.prop_bool.proofs.Fixing.{has_place, left_other, left_there, left_before, asked_at}
use Rattle.model_arguments.specs.Repeats.{is_variable}
use Rattle.prop_bool.proofs.Signs.{agrees, all_both, any_both, by_value, back_fails, back_holds}
use Rattle.prop_bool.proofs.Truths.{is_one}

has_truth : (b : Bool) → has_value both_truths (truth_number b) ≡ true
has_truth true = refl
has_truth false = refl

twice : (b : Bool) → not (not b) ≡ b
twice true = refl
twice false = refl

contrary : (b : Bool) → b ≡ true → b ≡ false → ⊥
contrary true h k = cc
contrary false h k = cc

first_only : (p q r s : Bool) → p ≡ true → q ≡ true → ((p && q) || (r && s)) ≡ true
first_only p q r s h k = ap (λ b. (b && q) || (r && s)) h ∙ ap (λ b. b || (r && s)) k

second_only : (p q r s : Bool) → r ≡ true → s ≡ true → ((p && q) || (r && s)) ≡ true
second_only p q r s h k = ap (λ b. (p && q) || (b && s)) h ∙ or_right (p && q) s k

neither : (p q r s : Bool) → (p && q) ≡ false → (r && s) ≡ false → ((p && q) || (r && s)) ≡ false
neither p q r s h k = ap (λ b. b || (r && s)) h ∙ k

pub unfixed_values : (box : Box) (l : Literal) (x : VarId) → l.arg ≡ Var x → IsUnfixed box l → values_left box x.0 ≡ both_truths
unfixed_values box l x e u = subst (λ a. left_to box a ≡ both_truths) e u

module _ (g : Game) (c : Rule) (ls : List Literal) (r : Literal) (d : IsDisjunction g c ls r) where
  pub refuted_true : (box : Box) → IsAsked g c box → surely_holds box r ≡ true → list_all (surely_fails box) ls ≡ true → refuted_by c box ≡ true
  refuted_true box a h k = d.refuted box a ∙ second_only (surely_fails box r) (list_any (surely_holds box) ls) (surely_holds box r) (list_all (surely_fails box) ls) h k

  pub refuted_false : (box : Box) → IsAsked g c box → surely_fails box r ≡ true → list_any (surely_holds box) ls ≡ true → refuted_by c box ≡ true
  refuted_false box a h k = d.refuted box a ∙ first_only (surely_fails box r) (list_any (surely_holds box) ls) (surely_holds box r) (list_all (surely_fails box) ls) h k

  pub not_refuted : (box : Box) → IsAsked g c box → (surely_fails box r && list_any (surely_holds box) ls) ≡ false → (surely_holds box r && list_all (surely_fails box) ls) ≡ false → refuted_by c box ≡ false
  not_refuted box a h k = d.refuted box a ∙ neither (surely_fails box r) (list_any (surely_holds box) ls) (surely_holds box r) (list_all (surely_fails box) ls) h k

  pub closed_true : (box : Box) → IsAsked g c box → surely_holds box r ≡ true → CanHold box ls → keeps_ends box c ≡ true
  closed_true box a h f =
      closed_by g c box a
      (λ y v k. let new = set box y (v ∷ []) in
      not_refuted new (asked_at g c box y v a k)
      (and_left (surely_fails new r) (list_any (surely_holds new) ls) (holds_not_fails new r (holds_stays box y v r k h)))
      (and_right (surely_holds new r) (list_all (surely_fails new) ls) (f y v k)))

  pub closed_false : (box : Box) → IsAsked g c box → surely_fails box r ≡ true → list_all (surely_fails box) ls ≡ true → keeps_ends box c ≡ true
  closed_false box a h f =
      closed_by g c box a
      (λ y v k. let new = set box y (v ∷ []) in
      not_refuted new (asked_at g c box y v a k)
      (and_right (surely_fails new r) (list_any (surely_holds new) ls)
      (none_other (surely_fails new) (surely_holds new) (λ l e. fails_not_holds new l e) ls
      (all_weaker (surely_fails box) (surely_fails new) (λ l e. fails_stays box y v l k e) ls f)))
      (and_left (surely_holds new r) (list_all (surely_fails new) ls) (fails_not_holds new r (fails_stays box y v r k h))))

  -- an unfixed head, and literals that decide nothing
  pub closed_unfixed : (box : Box) → IsAsked g c box → IsUnfixed box r → list_all (agrees r) ls ≡ true → list_any (surely_holds box) ls ≡ false → list_all (surely_fails box) ls ≡ false → keeps_ends box c ≡ true
  closed_unfixed box a u w n m = closed_by g c box a (λ y v k. by y v k (is_variable r.arg y) refl)
    where
      there : (y : ℕ) → is_variable r.arg y ≡ true → y < length box → (b : Bool) → left_to (set box y (truth_number b ∷ [])) r.arg ≡ truth_number b ∷ []
      there y e p b = left_there box y (truth_number b ∷ []) r.arg e p

      by : (y : ℕ) (v : ℤ) → has_value (values_left box y) v ≡ true → (b : Bool) → is_variable r.arg y ≡ b → refuted_by c (set box y (v ∷ [])) ≡ false
      by y v k false e =
          let new = set box y (v ∷ []) in
          let still : IsUnfixed new r = left_other box y (v ∷ []) r.arg e ∙ u in
          not_refuted new (asked_at g c box y v a k)
          (and_left (surely_fails new r) (list_any (surely_holds new) ls) (unfixed_not_fails new r still))
          (and_left (surely_holds new r) (list_all (surely_fails new) ls) (unfixed_not_holds new r still))
      by y v k true e =
          let p = has_place box y v k in
          let both : has_value both_truths v ≡ true = subst (λ d. has_value d v ≡ true) (sym (left_before box y r.arg e) ∙ u) k in
          by_value (λ z. has_value (values_left box y) z ≡ true → refuted_by c (set box y (z ∷ [])) ≡ false) r.positive
          (λ l. let new = set box y (truth_number r.positive ∷ []) in
          not_refuted new (asked_at g c box y (truth_number r.positive) a l)
          (and_left (surely_fails new r) (list_any (surely_holds new) ls) (holds_not_fails new r (is_one (truth_number r.positive) (left_to new r.arg) (there y e p r.positive))))
          (and_right (surely_holds new r) (list_all (surely_fails new) ls)
          (false_from_ne_true (list_all (surely_fails new) ls) (λ f. contrary (list_all (surely_fails box) ls) (all_both (agrees r) (surely_fails new) (surely_fails box) (λ q i j. back_fails box y r q e p i j) ls w f) m))))
          (λ l. let new = set box y (truth_number (not r.positive) ∷ []) in
          not_refuted new (asked_at g c box y (truth_number (not r.positive)) a l)
          (and_right (surely_fails new r) (list_any (surely_holds new) ls)
          (false_from_ne_true (list_any (surely_holds new) ls) (λ f. contrary (list_any (surely_holds box) ls) (any_both (agrees r) (surely_holds new) (surely_holds box) (λ q i j. back_holds box y r q e p i j) ls w f) n)))
          (and_left (surely_holds new r) (list_all (surely_fails new) ls) (fails_not_holds new r (is_one (truth_number (not r.positive)) (left_to new r.arg) (there y e p (not r.positive))))))
          v both k

  -- x is given a value of both
  module _ (box : Box) (x : VarId) (a : IsAsked g c box) (u : values_left box x.0 ≡ both_truths) where
    pub has_both : (b : Bool) → has_value (values_left box x.0) (truth_number b) ≡ true
    has_both b = ap (λ vs. has_value vs (truth_number b)) u ∙ has_truth b

    pub given_asked : (b : Bool) → IsAsked g c (given box x b)
    given_asked b = asked_at g c box x.0 (truth_number b) a (has_both b)

    pub given_left : (l : Literal) (b : Bool) → l.arg ≡ Var x → left_to (given box x b) l.arg ≡ truth_number b ∷ []
    given_left l b e = ap (left_to (given box x b)) e ∙ get_or-set_same box x.0 (truth_number b ∷ []) [] (has_place box x.0 (truth_number b) (has_both b))

    pub given_fails : (l : Literal) → l.arg ≡ Var x → surely_fails (given box x (not l.positive)) l ≡ true
    given_fails l e = is_one (truth_number (not l.positive)) (left_to (given box x (not l.positive)) l.arg) (given_left l (not l.positive) e)

    pub given_holds : (l : Literal) → l.arg ≡ Var x → surely_holds (given box x (not (not l.positive))) l ≡ true
    given_holds l e = is_one (truth_number l.positive) (left_to (given box x (not (not l.positive))) l.arg) (given_left l (not (not l.positive)) e ∙ ap (λ b. truth_number b ∷ []) (twice l.positive))

    pub last_found : (l : Literal) → surely_holds box r ≡ true → IsLast box ls l → l.arg ≡ Var x → IsFinding (Loses x (not l.positive)) c box
    last_found l h p e =
        let lost = given box x (not l.positive) in
        let kept = given box x (not (not l.positive)) in (
          u,
          refuted_true lost (given_asked (not l.positive)) (holds_stays box x.0 (truth_number (not l.positive)) r (has_both (not l.positive)) h)
              (all_weaker (λ m. surely_fails box m || same_literal l m) (surely_fails lost) (λ m k. falls m (surely_fails box m) (same_literal l m) refl refl k) ls p.others),
          closed_true kept (given_asked (not (not l.positive))) (holds_stays box x.0 (truth_number (not (not l.positive))) r (has_both (not (not l.positive))) h)
              (some_hold kept ls (any_weaker (same_literal l) (surely_holds kept) (λ m k. same_holds kept l m k ∙ given_holds l e) ls p.there)),
        )
      where
        falls : (m : Literal) (b s : Bool) → surely_fails box m ≡ b → same_literal l m ≡ s → (b || s) ≡ true → surely_fails (given box x (not l.positive)) m ≡ true
        falls m true s f k h = fails_stays box x.0 (truth_number (not l.positive)) m (has_both (not l.positive)) f
        falls m false true f k h = same_fails (given box x (not l.positive)) l m k ∙ given_fails l e
        falls m false false f k h = cc

    pub given_true : (l : Literal) → l.arg ≡ Var x → surely_holds (given box x l.positive) l ≡ true
    given_true l e = is_one (truth_number l.positive) (left_to (given box x l.positive) l.arg) (given_left l l.positive e)

    -- where the literals decide, the head loses a value
    pub head_holds : r.arg ≡ Var x → list_any (surely_holds box) ls ≡ true → IsFinding (Loses x (not r.positive)) c box
    head_holds e p =
        let lost = given box x (not r.positive) in
        let kept = given box x (not (not r.positive)) in (
          u,
          refuted_false lost (given_asked (not r.positive)) (given_fails r e)
              (any_weaker (surely_holds box) (surely_holds lost) (λ l k. holds_stays box x.0 (truth_number (not r.positive)) l (has_both (not r.positive)) k) ls p),
          closed_true kept (given_asked (not (not r.positive))) (given_holds r e)
              (some_hold kept ls (any_weaker (surely_holds box) (surely_holds kept) (λ l k. holds_stays box x.0 (truth_number (not (not r.positive))) l (has_both (not (not r.positive))) k) ls p)),
        )

    pub head_fails : r.arg ≡ Var x → list_all (surely_fails box) ls ≡ true → IsFinding (Loses x r.positive) c box
    head_fails e p =
        let lost = given box x r.positive in
        let kept = given box x (not r.positive) in (
          u,
          refuted_true lost (given_asked r.positive) (given_true r e)
              (all_weaker (surely_fails box) (surely_fails lost) (λ l k. fails_stays box x.0 (truth_number r.positive) l (has_both r.positive) k) ls p),
          closed_false kept (given_asked (not r.positive)) (given_fails r e)
              (all_weaker (surely_fails box) (surely_fails kept) (λ l k. fails_stays box x.0 (truth_number (not r.positive)) l (has_both (not r.positive)) k) ls p),
        )

    -- an unfixed literal that may not hold
    pub must_fail : (l : Literal) → surely_fails box r ≡ true → l.arg ≡ Var x → list_any (same_literal l) ls ≡ true → refuted_by c (given box x l.positive) ≡ true
    must_fail l h e p =
        let lost = given box x l.positive in
        refuted_false lost (given_asked l.positive) (fails_stays box x.0 (truth_number l.positive) r (has_both l.positive) h)
        (any_weaker (same_literal l) (surely_holds lost) (λ m k. same_holds lost l m k ∙ given_true l e) ls p)
