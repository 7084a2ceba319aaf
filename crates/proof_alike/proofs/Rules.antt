-- Constraints do the same in boxes that look the same: they hold, refute and keep ends alike.
use Rattle.std.proofs.Common.{◌≡◌, inl, inr, ℕ, zero, suc, ◌<◌, ◌≤◌, ◌==◌, Bool, true, false, not, ◌&&◌, List, [], ◌∷◌, length, filter, set, cond, refl, sym, ap, ◌∙◌, subst, arith}
use Rattle.std.specs.Prelude.{nat_le, nat_lt}
use Rattle.std.specs.List.{list_all}
use Rattle.std.proofs.lemmas.Bool.Decides.{nat_tests}
use Rattle.std.proofs.lemmas.Bool.{and_parts}
use Rattle.qc_model.specs.Arguments.{variables_of}
use Rattle.qc_model.specs.Content.{Game, Rule}
use Rattle.qc_model.specs.Lists.{Among}
use Rattle.qc_model.specs.Domains.{Values, Box, values_left, box_at, least_value, greatest_value, is_single, has_empty}
use Rattle.qc_model.specs.Holds.{holds_on}
use Rattle.qc_model.specs.Refuted.{refuted_by}
use Rattle.qc_model.specs.Closed.{refutes_at, keeps_ends, is_closed}
use Rattle.qc_model.specs.Game.{allows}
use Rattle.qc_model.specs.Block.{is_owned_within, constraints_within}
use Rattle.proof_tree.specs.Place.{position}
use Rattle.proof_alike.specs.Alike.{is_looked_at}
use Rattle.proof_alike.proofs.Boxes.{and_both, SameRule, Look, look_set, owned_below, empty_same, before_below}

-- what a constraint of the current scope or a later one does in the two boxes themselves
rule_same : (g : Game) (top i : ℕ) (a b : Box) (c : Rule) → Among c g.constraints → nat_le i c.owner.0 ≡ true → Look g top i a b → SameRule g top c a b
rule_same g top i a b c m e l = l.rules c m (owned_below top i c.owner.0 l.below e) a b (record { same = l.same; first = λ x q. refl; second = λ x q. refl })

pub refuted_same : (g : Game) (top i : ℕ) (a b : Box) (c : Rule) → Among c g.constraints → nat_le i c.owner.0 ≡ true → Look g top i a b → refuted_by c a ≡ refuted_by c b
refuted_same g top i a b c m e l = let r = rule_same g top i a b c m e l in r.refutes

-- a variable that is given the one value that it has
set_to_itself : (a : Box) (x : ℕ) (us : Values) → (x < length a → values_left a x ≡ us) → set a x us ≡ a
set_to_itself [] x us h = refl
set_to_itself (d ∷ a) zero us h = ap (λ e. e ∷ a) (sym (h (omega arith)))
set_to_itself (d ∷ a) (suc x) us h = ap (λ e. d ∷ e) (set_to_itself a x us (λ n. h (omega arith)))

least_alone : (vs : Values) → is_single vs ≡ true → vs ≡ least_value vs ∷ []
least_alone [] e = cc
least_alone (v ∷ []) e = refl
least_alone (v ∷ w ∷ vs) e = cc

greatest_alone : (vs : Values) → is_single vs ≡ true → vs ≡ greatest_value vs ∷ []
greatest_alone [] e = cc
greatest_alone (v ∷ []) e = refl
greatest_alone (v ∷ w ∷ vs) e = cc

-- an end of a variable is refuted in and_parts boxes or in neither: of one that isn't looked at it is all that it has
module _ (g : Game) (top i : ℕ) (a b : Box) (c : Rule) (m : Among c g.constraints) (e : nat_le i c.owner.0 ≡ true) (l : Look g top i a b) where
  least_same : (x : ℕ) (p : Bool) → is_looked_at g top x ≡ p → refutes_at c a x (least_value (values_left a x)) ≡ refutes_at c b x (least_value (values_left b x))
  least_same x true q =
      let v = least_value (values_left a x) in
      refuted_same g top i (box_at a x v) (box_at b x v) c m e (look_set g top i a b x (v ∷ []) q l)
      ∙ ap (λ vs. refutes_at c b x (least_value vs)) (l.same x q)
  least_same x false q =
      ap (refuted_by c) (set_to_itself a x (least_value (values_left a x) ∷ []) (λ n. least_alone (values_left a x) (l.single x n q).0))
      ∙ refuted_same g top i a b c m e l
      ∙ sym
      (ap (refuted_by c) (set_to_itself b x (least_value (values_left b x) ∷ []) (λ n. least_alone (values_left b x) (l.single x (subst (λ k. x < k) (sym l.size) n) q).1)))

  greatest_same : (x : ℕ) (p : Bool) → is_looked_at g top x ≡ p → refutes_at c a x (greatest_value (values_left a x)) ≡ refutes_at c b x (greatest_value (values_left b x))
  greatest_same x true q =
      let v = greatest_value (values_left a x) in
      refuted_same g top i (box_at a x v) (box_at b x v) c m e (look_set g top i a b x (v ∷ []) q l)
      ∙ ap (λ vs. refutes_at c b x (greatest_value vs)) (l.same x q)
  greatest_same x false q =
      ap (refuted_by c) (set_to_itself a x (greatest_value (values_left a x) ∷ []) (λ n. greatest_alone (values_left a x) (l.single x n q).0))
      ∙ refuted_same g top i a b c m e l
      ∙ sym
      (ap (refuted_by c) (set_to_itself b x (greatest_value (values_left b x) ∷ []) (λ n. greatest_alone (values_left b x) (l.single x (subst (λ k. x < k) (sym l.size) n) q).1)))

each_same : (p q : ℕ → Bool) (xs : List ℕ) → ((x : ℕ) → p x ≡ q x) → list_all p xs ≡ list_all q xs
each_same p q [] h = refl
each_same p q (x ∷ xs) h = and_both (p x) (list_all p xs) (q x) (list_all q xs) (h x) (each_same p q xs h)

keeps_same : (g : Game) (top i : ℕ) (a b : Box) (c : Rule) → Among c g.constraints → nat_le i c.owner.0 ≡ true → Look g top i a b → keeps_ends a c ≡ keeps_ends b c
keeps_same g top i a b c m e l =
    each_same
    (λ x. not (refutes_at c a x (least_value (values_left a x))) && not (refutes_at c a x (greatest_value (values_left a x))))
    (λ x. not (refutes_at c b x (least_value (values_left b x))) && not (refutes_at c b x (greatest_value (values_left b x))))
    (variables_of c.args)
    (λ x. and_both
    (not (refutes_at c a x (least_value (values_left a x)))) (not (refutes_at c a x (greatest_value (values_left a x))))
    (not (refutes_at c b x (least_value (values_left b x)))) (not (refutes_at c b x (greatest_value (values_left b x))))
    (ap not (least_same g top i a b c m e l x (is_looked_at g top x) refl))
    (ap not (greatest_same g top i a b c m e l x (is_looked_at g top x) refl)))

-- those that are kept pass and_parts tests or neither
filtered_same : {X : Type 0} (p f h : X → Bool) (xs : List X) → ((x : X) → Among x xs → p x ≡ true → f x ≡ h x) → list_all f (filter p xs) ≡ list_all h (filter p xs)
filtered_same p f h [] e = refl
filtered_same p f h (x ∷ xs) e = by (p x) (e x (inl refl)) (filtered_same p f h xs (λ y m. e y (inr m)))
  where
    by : (q : Bool) → (q ≡ true → f x ≡ h x) → list_all f (filter p xs) ≡ list_all h (filter p xs) →
        list_all f (cond q (x ∷ filter p xs) (filter p xs)) ≡ list_all h (cond q (x ∷ filter p xs) (filter p xs))
    by true s t = and_both (f x) (list_all f (filter p xs)) (h x) (list_all h (filter p xs)) (s refl) t
    by false s t = t

pub closed_same : (g : Game) (top i stop : ℕ) (a b : Box) → Look g top i a b → is_closed (constraints_within g i stop) a ≡ is_closed (constraints_within g i stop) b
closed_same g top i stop a b l =
    and_both (not (has_empty a)) (list_all (keeps_ends a) (constraints_within g i stop)) (not (has_empty b)) (list_all (keeps_ends b) (constraints_within g i stop))
    (ap not (empty_same g top i a b l))
    (filtered_same (is_owned_within i stop) (keeps_ends a) (keeps_ends b) g.constraints
    (λ c m e. keeps_same g top i a b c m (and_parts (nat_le i c.owner.0) (nat_lt c.owner.0 stop) e).0 l))

-- the constraints of the current scope hold at and_parts positions, or some at neither
pub allows_same : (g : Game) (top i k : ℕ) (a b : Box) → i ≤ k → Look g top i a b → allows g i (position g k a) ≡ allows g i (position g k b)
allows_same g top i k a b h l =
    filtered_same (λ c. c.owner.0 == i) (λ c. holds_on c (position g k a)) (λ c. holds_on c (position g k b)) g.constraints
    (λ c m e. (let r = rule_same g top i a b c m (at_least c.owner.0 e) l in r.holds k (before_below g top k (further top i k l.below h))))
  where
    at_least : (n : ℕ) → (n == i) ≡ true → nat_le i n ≡ true
    at_least n e = grind (arith, nat_tests)

    further : (p q r : ℕ) → p ≤ q → q ≤ r → p ≤ r
    further p q r s t = omega arith
