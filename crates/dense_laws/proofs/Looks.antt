-- Named nodes are told again: by what their positions look like.
use Rattle.std.proofs.Common.{◌≡◌, ◌⊎◌, inl, inr, ℕ, zero, suc, ◌+◌, ◌<◌, ◌≤◌, ◌==◌, Bool, true, false, not, ◌&&◌, ◌||◌, List, [], ◌∷◌, ◌++◌, length, drop, refl, sym, ap, ◌∙◌, subst, arith, ℤ, pos, Option, Some, None}
use Rattle.std.specs.Prelude.{slice_get, slice_index_or, is_none, IsTrue}
use Rattle.std.specs.List.{list_any}
use Rattle.std.proofs.lemmas.Bool.Decides.{nat_tests}
use Rattle.std.proofs.lemmas.List.{length-drop}
use Rattle.std.proofs.lemmas.Bool.{or_right, cases_lt, and_parts, or_cases, or_parts}
use Rattle.qc_model.specs.declared.problem.Target.{Target}
use Rattle.qc_model.specs.declared.problem.Target.TheVariants.{Var, Aggregate as Agg}
use Rattle.qc_model.specs.declared.problem.Condition.{Condition}
use Rattle.qc_model.specs.declared.problem.Scope.{Scope}
use Rattle.qc_model.specs.declared.problem.Aggregate.{Aggregate}
use Rattle.qc_model.specs.Content.{Game}
use Rattle.qc_model.specs.Demands.{demands}
use Rattle.qc_model.specs.Domains.{InBox, Box, Values, declared_box, values_left, is_single}
use Rattle.qc_model.specs.Game.{before, allows}
use Rattle.qc_model.specs.Lists.{Among, same_values}
use Rattle.qc_model.specs.Optimal.{Optimal}
use Rattle.qc_model.specs.Plan.{Plan}
use Rattle.qc_model.specs.Valid.{IsValid}
use Rattle.qc_model.specs.Value.{inner_target}
use Rattle.qc_model.specs.Verdict.{Verdict}
use Rattle.model_arguments.proofs.Boxes.{sub_length}
use Rattle.proof_alike.specs.Alike.{mentions, is_named, is_seen, constrains, condition_mentions}
use Rattle.proof_alike.proofs.Filling.{any_of, get_among}
use Rattle.proof_alike.proofs.Named.{AreNamed, HasNamed, ScopesNamed, later_named, demands_named}
use Rattle.proof_meaning.proofs.LeafWords.{same_true}
use Rattle.proof_meaning.proofs.Premises.{sound_of}
use Rattle.proof_tree.specs.Good.{IsBlocked}
use Rattle.dense_meaning.specs.Throughout.{IsPositionIn, PlaysLie, Says}
use Rattle.dense_meaning.proofs.Targets.{left_at}
use Rattle.dense_tree.specs.Alike.{each_below, is_read, reads_one_position, look_same, same_horizon, tells_of_all, same_left, misses_nothing, are_alike}
use Rattle.dense_tree.specs.Place.{Setting, Place}
use Rattle.dense_tree.specs.Verdicts.{loosened}
use Rattle.dense_laws.specs.Stands.{StrategiesStay, StandsNode}
use Rattle.dense_laws.specs.Says.{NodeTold}
use Rattle.dense_laws.proofs.Again.{plays_moved, says_again}
use Rattle.dense_laws.proofs.Choices.{some_position}
use Rattle.dense_laws.proofs.Going.{list_visible}
use Rattle.dense_laws.proofs.Nodes.{loosened_says, loosened_inexact}
use Rattle.dense_laws.proofs.Opponents.{all_lie}
use Rattle.dense_laws.proofs.Same.{IsOf, EachOf, WishOf, EachWish, SameAfter}
use Rattle.dense_laws.proofs.Small.{not_true, same_number, sub_in_box}

pub below_is : (n : ℕ) (p : ℕ → Bool) → each_below n p ≡ true → (x : ℕ) → x < n → p x ≡ true
below_is zero p h x l = absurd (omega arith)
below_is (suc n) p h x l = elim (or_last x n l) [
  | inl e ↦ subst (λ k. p k ≡ true) (sym e) (and_parts (p n) (each_below n p) h).0
  | inr m ↦ below_is n p (and_parts (p n) (each_below n p) h).1 x m
]
  where
    or_last : (x n : ℕ) → x < suc n → (x ≡ n) ⊎ (x < n)
    or_last x n l = grind arith

pub not_or : (a b : Bool) → (not a || b) ≡ true → a ≡ true → b ≡ true
not_or true b h e = h
not_or false b h e = cc

pub single_value : (d : Values) (u v : ℤ) → is_single d ≡ true → Among u d → Among v d → u ≡ v
single_value [] u v e m k = absurd m
single_value (x ∷ []) u v e m k = elim m [ inl q ↦ elim k [ inl r ↦ q ∙ sym r | inr n ↦ absurd n ] | inr n ↦ absurd n ]
single_value (x ∷ y ∷ d) u v e m k = cc

-- what alike nodes have
pub record Parts (a c d e f k : Bool) : Type 0 where
  pub number : a ≡ true
  pub told : c ≡ true
  pub misses : d ≡ true
  pub reads : e ≡ true
  pub others : f ≡ true
  pub look : k ≡ true

pub seven : (a b c d e f k : Bool) → (a && b && c && d && e && f && k) ≡ true → Parts a c d e f k
seven true true true true true true k h = record { number = refl; told = refl; misses = refl; reads = refl; others = refl; look = h }
seven false b c d e f k h = cc
seven true false c d e f k h = cc
seven true true false d e f k h = cc
seven true true true false e f k h = cc
seven true true true true false f k h = cc
seven true true true true true false k h = cc

-- values past two positions of one length
pub past_both : (a b u : List ℤ) (x : ℕ) → length a ≡ length b → length a ≤ x → slice_index_or (a ++ u) x (pos 0) ≡ slice_index_or (b ++ u) x (pos 0)
past_both [] [] u x e l = refl
past_both [] (w ∷ b) u x e l = cc
past_both (v ∷ a) [] u x e l = cc
past_both (v ∷ a) (w ∷ b) u zero e l = absurd (omega arith)
past_both (v ∷ a) (w ∷ b) u (suc x) e l = past_both a b u x (omega arith) (omega arith)

pub front_value : (a u : List ℤ) (x : ℕ) → x < length a → slice_index_or (a ++ u) x (pos 0) ≡ slice_index_or a x (pos 0)
front_value [] u x l = absurd (omega arith)
front_value (v ∷ a) u zero l = refl
front_value (v ∷ a) u (suc x) l = front_value a u x (omega arith)

-- variables that a condition or an aggregate mentions
abbrev Named : Game → ℕ → Type 0
Named g x = is_named g x ≡ true

left_same : (a b : Box) → same_left a b ≡ true → a ≡ b
left_same [] [] h = refl
left_same [] (e ∷ es) h = cc
left_same (d ∷ ds) [] h = cc
left_same (d ∷ ds) (e ∷ es) h =
    let q = and_parts (same_values d e) (same_left ds es) h in ap (λ z. z ∷ ds) (same_true d e q.0) ∙ ap (λ zs. e ∷ zs) (left_same ds es q.1)

-- at two nodes that are alike, the same is allowed after the one's positions and after the other's, by the scopes from theirs on and by
-- the goal, with the same declared values between
abbrev pub AlikeAllow : Setting → Type 0
AlikeAllow s =
    (p q : Place) → StandsNode s p → StandsNode s q → IsTrue (are_alike s.game p q) → (a b : List ℤ) → IsPositionIn s.game p.number p.box a → IsPositionIn s.game q.number q.box b →
    (k : ℕ) (u : List ℤ) → p.number ≤ k → length (a ++ u) ≡ before s.game (suc k) → InBox (a ++ u) (declared_box s.game) → InBox (b ++ u) (declared_box s.game) →
    allows s.game k (a ++ u) ≡ allows s.game k (b ++ u)

module _ (s : Setting) (valid : IsValid s.game) where
  to_same : (n : ℕ) → (n == n) ≡ true
  to_same n = grind (arith, nat_tests)

  target_of : (t : Target) → ((x : ℕ) → mentions s.game x t ≡ true → is_named s.game x ≡ true) → IsOf (Named s.game) t
  target_of (Var x) f = f x.0 (to_same x.0)
  target_of (Agg q) f = tt

  inner : (q : ℕ) → (slice_get s.game.aggregates q ≡ None) ⊎ IsOf (Named s.game) (inner_target (slice_get s.game.aggregates q))
  inner q = by (slice_get s.game.aggregates q) refl
    where
      by : (o : Option Aggregate) → slice_get s.game.aggregates q ≡ o → (o ≡ None) ⊎ IsOf (Named s.game) (inner_target o)
      by None e = inl refl
      by (Some m) e = inr (target_of m.target (λ x k.
          or_right (list_any (λ sc. condition_mentions s.game x sc.condition) s.game.scopes) (list_any (λ n. mentions s.game x n.target) s.game.aggregates)
          (any_of (λ n. mentions s.game x n.target) s.game.aggregates m (get_among s.game.aggregates q m e) k)))

  wishes : (ls : List Scope) → ScopesNamed s.game ls → EachWish (Named s.game) ls
  wishes [] h = tt
  wishes (sc ∷ ls) h = (by sc.condition h.0, wishes ls h.1)
    where
      by : (x : Option Condition) → HasNamed s.game x → WishOf (Named s.game) x
      by None k = tt
      by (Some c) k = target_of c.target k

  listed : (d : List Condition) → AreNamed s.game d → EachOf (Named s.game) d
  listed [] h = tt
  listed (c ∷ d) h = (target_of c.target h.0, listed d h.1)

  module _ (allowed_same : AlikeAllow s) (p q : Place) (sp : StandsNode s p) (sq : StandsNode s q) (h : are_alike s.game p q ≡ true) where
    parts : Parts (p.number == q.number) (tells_of_all q) (misses_nothing s.game p q) (reads_one_position s.game p.number p.box) (reads_one_position s.game p.number q.box) (look_same s.game p.number p.box q.box)
    parts = seven (p.number == q.number) (same_horizon p.horizon q.horizon) (tells_of_all q) (misses_nothing s.game p q) (reads_one_position s.game p.number p.box) (reads_one_position s.game p.number q.box) (look_same s.game p.number p.box q.box) h

    look : look_same s.game p.number p.box q.box ≡ true
    look = parts.look

    reads : reads_one_position s.game p.number p.box ≡ true
    reads = parts.reads

    misses : misses_nothing s.game p q ≡ true
    misses = parts.misses

    all_told : tells_of_all q ≡ true
    all_told = parts.told

    number : p.number ≡ q.number
    number = same_number p.number q.number parts.number

    later_is : q.later ≡ p.later
    later_is = sq.stands.later ∙ (ap (λ k. drop k s.game.scopes) (sym number) ∙ sym sp.stands.later)

    list_is : q.list ≡ p.list
    list_is = sq.stands.list ∙ (ap (demands s.game) (sym number) ∙ sym sp.stands.list)

    left : p.number + length p.later ≡ length s.game.scopes
    left = let l = sp.stands.number in omega (arith, ap length sp.stands.later, length-drop p.number s.game.scopes)

    module _ (a b : List ℤ) (at : IsPositionIn s.game p.number p.box a) (bt : IsPositionIn s.game q.number q.box b) where
      other_count : length b ≡ before s.game p.number
      other_count = bt.count ∙ ap (before s.game) (sym number)

      value_at : (x : ℕ) → Named s.game x → x < before s.game p.number → slice_index_or a x (pos 0) ≡ slice_index_or b x (pos 0)
      value_at x n l =
          let w = (and_parts (each_below (before s.game p.number) (λ y. not (is_seen s.game p.number y) || same_values (values_left p.box y) (values_left q.box y))) _ look).0 in
          let same = same_true (values_left p.box x) (values_left q.box x) (not_or (is_seen s.game p.number x) (same_values (values_left p.box x) (values_left q.box x))
          (below_is (before s.game p.number) (λ y. not (is_seen s.game p.number y) || same_values (values_left p.box y) (values_left q.box y)) w x l) (or_right (list_any (constrains p.number x) s.game.constraints) (is_named s.game x) n)) in
          let single = not_or (is_read s.game p.number x) (is_single (values_left p.box x)) (below_is (before s.game p.number) (λ y. not (is_read s.game p.number y) || is_single (values_left p.box y)) reads x l)
          (or_right _ (is_named s.game x) n) in
          let c = at.count in
          let o = other_count in
          single_value (values_left p.box x) (slice_index_or a x (pos 0)) (slice_index_or b x (pos 0)) single (left_at a p.box x (omega arith) at.lies)
          (subst (Among (slice_index_or b x (pos 0))) (sym same) (left_at b q.box x (omega arith) bt.lies))

      after : SameAfter s.game (Named s.game) inner p.number a b
      after = record {
        count = at.count;
        other = other_count;
        declared = sub_in_box a p.box (declared_box s.game) sp.stands.box at.lies;
        other_declared = sub_in_box b q.box (declared_box s.game) sq.stands.box bt.lies;
        allowed = λ k u l n j m. allowed_same p q sp sq h a b at bt k u l n j m;
        values = λ x n u. by x n u (cases_lt x (before s.game p.number));
      }
        where
          by : (x : ℕ) → Named s.game x → (u : List ℤ) → (x < before s.game p.number) ⊎ (before s.game p.number ≤ x) → slice_index_or (a ++ u) x (pos 0) ≡ slice_index_or (b ++ u) x (pos 0)
          by x n u (inl l) =
              front_value a u x (let c = at.count in omega arith) ∙ (value_at x n l ∙ sym (front_value b u x (let c = other_count in omega arith)))
          by x n u (inr l) = past_both a b u x (at.count ∙ sym other_count) (let c = at.count in omega arith)

      lie : (r : Plan) → Optimal s.game p.later p.number b r → PlaysLie p.box a r → PlaysLie q.box b r
      lie r o l = elim (or_cases (not (p.bounded || q.bounded)) (same_left (drop (before s.game p.number) p.box) (drop (before s.game p.number) q.box)) misses) [
        | inl f ↦ (
            let n = (or_parts p.bounded q.bounded (not_true (p.bounded || q.bounded) f)).1 in
            all_lie s.game q.later q.number q.box (subst (λ c. StrategiesStay s.game c q.later q.number q.box) n sq.strategies) b bt r
            (subst (λ k. Optimal s.game q.later k b r) number (subst (λ ls. Optimal s.game ls p.number b r) (sym later_is) o)))
        | inr f ↦ plays_moved (before s.game p.number) a b at.count other_count p.box q.box (left_same (drop (before s.game p.number) p.box) (drop (before s.game p.number) q.box) f) bt.lies r l
      ]

    blocked : (b : List ℤ) → IsPositionIn s.game q.number q.box b → IsBlocked s.game q.number b q.box q.horizon
    blocked b bt = elim (or_cases (not q.loose) (is_none q.horizon) all_told) [
      | inl f ↦ sq.stands.blocked (not_true q.loose f) b bt
      | inr f ↦ by q.horizon f
    ]
      where
        by : (o : Option ℕ) → is_none o ≡ true → IsBlocked s.game q.number b q.box o
        by None e = tt
        by (Some k) e = cc

    pub told_alike : (v : Verdict) → NodeTold s q v → NodeTold s p (loosened s p v)
    told_alike v t = record {
      says = λ a at. (let b = some_position s.game q.number q.box sq.full (sub_length q.box (declared_box s.game) sq.stands.box) in
          loosened_says s p v a at.position.count (list_visible s p valid sp.stands)
          (says_again s.game (Named s.game) inner (sound_of s.game valid).ordered.goal p.later p.number left
          (wishes p.later (subst (ScopesNamed s.game) (sym sp.stands.later) (later_named s.game p.number))) p.list (listed p.list (subst (AreNamed s.game) (sym sp.stands.list) (demands_named s.game p.number)))
          a b.0 (after a b.0 at.position b.1) p.box q.box (lie a b.0 at.position b.1) v
          (subst (λ k. Says v s.game p.later k p.list q.box b.0) (sym number)
          (subst (λ ls. Says v s.game ls q.number p.list q.box b.0) later_is
          (subst (λ d. Says v s.game q.later q.number d q.box b.0) list_is
          (t.says b.0 (record { position = b.1; blocked = blocked b.0 b.1 })))))));
      loose = loosened_inexact s p v;
    }
