-- Boxes that leave the same to each variable that is looked at and one value to each other one, and in which constraints do the same.
use Rattle.std.proofs.Common.{◌≡◌, ℕ, zero, suc, ◌+◌, ◌-◌, ◌<◌, ◌≤◌, Bool, true, false, ◌&&◌, ◌||◌, [], ◌∷◌, length, take, drop, set, refl, sym, ap, ◌∙◌, subst, arith, ℤ}
use Rattle.std.specs.Prelude.{nat_le, nat_lt}
use Rattle.std.proofs.lemmas.Bool.Decides.{nat_tests}
use Rattle.std.proofs.lemmas.List.{length-set, get_or_past}
use Rattle.std.proofs.lemmas.Bool.{or_left}
use Rattle.qc_model.specs.Content.{Game, Rule}
use Rattle.qc_model.specs.Lists.{Among}
use Rattle.qc_model.specs.Domains.{Values, Box, values_left, values_outside, box_without, is_none_left, is_single, has_empty}
use Rattle.qc_model.specs.Game.{before}
use Rattle.qc_model.proofs.Before.{before_up}
use Rattle.qc_model.specs.Holds.{holds_on}
use Rattle.qc_model.specs.Refuted.{refuted_by}
use Rattle.model_arguments.proofs.Bools.{clash}
use Rattle.proof_tree.specs.Place.{position}
use Rattle.proof_alike.specs.Alike.{is_seen, is_looked_at}

pub and_both : (a b c d : Bool) → a ≡ c → b ≡ d → (a && b) ≡ (c && d)
and_both a b c d p q = ap (λ z. z && b) p ∙ ap (λ z. c && z) q

pub or_both : (a b c d : Bool) → a ≡ c → b ≡ d → (a || b) ≡ (c || d)
or_both a b c d p q = ap (λ z. z || b) p ∙ ap (λ z. c || z) q

-- u and w leave the same to each variable that is looked at from scope i on, and to each other one what a and b do
pub record Varied (g : Game) (i : ℕ) (a b u w : Box) : Type 0 where
  pub same : (x : ℕ) → is_looked_at g i x ≡ true → values_left u x ≡ values_left w x
  pub first : (x : ℕ) → is_looked_at g i x ≡ false → values_left u x ≡ values_left a x
  pub second : (x : ℕ) → is_looked_at g i x ≡ false → values_left w x ≡ values_left b x

-- the constraint refutes and_parts boxes or neither, and holds at and_parts of their positions or at neither
pub record SameRule (g : Game) (i : ℕ) (c : Rule) (u w : Box) : Type 0 where
  pub refutes : refuted_by c u ≡ refuted_by c w
  pub holds : (k : ℕ) → before g i ≤ before g k → holds_on c (position g k u) ≡ holds_on c (position g k w)

-- so it does whatever is left to the variables that are looked at
abbrev pub RuleAlike : Game → ℕ → Rule → Box → Box → Type 0
RuleAlike g i c a b = (u w : Box) → Varied g i a b u w → SameRule g i c u w

-- The boxes of a node of scope i, below one of scope top whose tree is gone through in two boxes: as AreAlike from scope top
-- on, but that a variable that is looked at may have no value left, where it has none in and_parts. What is asked of constraints
-- stays so as steps and cases take values away, since these are of variables that are looked at.
pub record Look (g : Game) (top i : ℕ) (a b : Box) : Type 0 where
  pub below : top ≤ i
  pub size : length a ≡ length b
  pub same : (x : ℕ) → is_looked_at g top x ≡ true → values_left a x ≡ values_left b x
  pub single : (x : ℕ) → x < length a → is_looked_at g top x ≡ false → (is_single (values_left a x) ≡ true) × (is_single (values_left b x) ≡ true)
  pub rules : (c : Rule) → Among c g.constraints → nat_le top c.owner.0 ≡ true → RuleAlike g top c a b

varied_back : (g : Game) (i : ℕ) (a b u w : Box) → Varied g i a b u w → Varied g i b a w u
varied_back g i a b u w v = record { same = λ x e. sym (v.same x e); first = v.second; second = v.first }

varied_on : (g : Game) (i : ℕ) (a b u w y z : Box) → Varied g i a b u w → Varied g i u w y z → Varied g i a b y z
varied_on g i a b u w y z v n = record { same = n.same; first = λ x e. n.first x e ∙ v.first x e; second = λ x e. n.second x e ∙ v.second x e }

pub rule_on : (g : Game) (i : ℕ) (c : Rule) (a b u w : Box) → Varied g i a b u w → RuleAlike g i c a b → RuleAlike g i c u w
rule_on g i c a b u w v r = λ y z n. r y z (varied_on g i a b u w y z v n)

rule_back : (g : Game) (i : ℕ) (c : Rule) (a b : Box) → RuleAlike g i c a b → RuleAlike g i c b a
rule_back g i c a b r = λ u w v. (let s = r w u (varied_back g i b a u w v) in record { refutes = sym s.refutes; holds = λ k h. sym (s.holds k h) })

pub look_back : (g : Game) (top i : ℕ) (a b : Box) → Look g top i a b → Look g top i b a
look_back g top i a b l = record {
  below = l.below;
  size = sym l.size;
  same = λ x e. sym (l.same x e);
  single = λ x n e. (let r = l.single x (subst (λ m. x < m) (sym l.size) n) e in (r.1, r.0));
  rules = λ c m h. rule_back g top c a b (l.rules c m h);
}

-- from one scope on to the next
pub look_next : (g : Game) (top i : ℕ) (a b : Box) → Look g top i a b → Look g top (suc i) a b
look_next g top i a b l = record { below = next top i l.below; size = l.size; same = l.same; single = l.single; rules = l.rules }
  where
    next : (m n : ℕ) → m ≤ n → m ≤ suc n
    next m n h = omega arith

-- a number from the current scope on is one from the scope of the tree on
pub owned_below : (top i k : ℕ) → top ≤ i → nat_le i k ≡ true → nat_le top k ≡ true
owned_below top i k h e = grind (arith, nat_tests)

-- a domain that is given to x in and_parts
set_both : (a b : Box) (x y : ℕ) (us : Values) → length a ≡ length b → values_left a y ≡ values_left b y → values_left (set a x us) y ≡ values_left (set b x us) y
set_both [] [] x y us l h = refl
set_both [] (e ∷ b) x y us l h = cc
set_both (d ∷ a) [] x y us l h = cc
set_both (d ∷ a) (e ∷ b) zero zero us l h = refl
set_both (d ∷ a) (e ∷ b) zero (suc y) us l h = h
set_both (d ∷ a) (e ∷ b) (suc x) zero us l h = h
set_both (d ∷ a) (e ∷ b) (suc x) (suc y) us l h = set_both a b x y us (omega (arith, l)) h

-- a domain that is given to another variable
set_other : (a : Box) (x y : ℕ) (us : Values) → (x ≡ y → ⊥) → values_left (set a x us) y ≡ values_left a y
set_other [] x y us n = refl
set_other (d ∷ a) zero zero us n = absurd (n refl)
set_other (d ∷ a) zero (suc y) us n = refl
set_other (d ∷ a) (suc x) zero us n = refl
set_other (d ∷ a) (suc x) (suc y) us n = set_other a x y us (λ e. n (ap suc e))

-- one that is looked at is given a domain: the others keep theirs
set_keeps : (g : Game) (i : ℕ) (a : Box) (x y : ℕ) (us : Values) → is_looked_at g i x ≡ true → is_looked_at g i y ≡ false → values_left (set a x us) y ≡ values_left a y
set_keeps g i a x y us e f = set_other a x y us (λ q. clash (is_looked_at g i y) (ap (is_looked_at g i) (sym q) ∙ e) f)

pub look_set : (g : Game) (top i : ℕ) (a b : Box) (x : ℕ) (us : Values) → is_looked_at g top x ≡ true → Look g top i a b → Look g top i (set a x us) (set b x us)
look_set g top i a b x us e l = record {
  below = l.below;
  size = length-set a x us ∙ l.size ∙ sym (length-set b x us);
  same = v.same;
  single = λ y n f. (
      let r = l.single y (subst (λ m. y < m) (length-set a x us) n) f in
      (ap is_single (v.first y f) ∙ r.0, ap is_single (v.second y f) ∙ r.1)
      );
  rules = λ c m h. rule_on g top c a b (set a x us) (set b x us) v (l.rules c m h);
}
  where
    v : Varied g top a b (set a x us) (set b x us)
    v = record {
      same = λ y h. set_both a b x y us l.size (l.same y h);
      first = λ y f. set_keeps g top a x y us e f;
      second = λ y f. set_keeps g top b x y us e f;
    }

pub look_without : (g : Game) (top i : ℕ) (a b : Box) (x : ℕ) (low high : ℤ) → is_looked_at g top x ≡ true → Look g top i a b → Look g top i (box_without a x low high) (box_without b x low high)
look_without g top i a b x low high e l =
    subst (λ vs. Look g top i (box_without a x low high) (set b x (values_outside low high vs))) (l.same x e)
    (look_set g top i a b x (values_outside low high (values_left a x)) e l)

-- an empty domain
empties_same : (a b : Box) → length a ≡ length b → ((x : ℕ) → is_none_left (values_left a x) ≡ is_none_left (values_left b x)) → has_empty a ≡ has_empty b
empties_same [] [] l f = refl
empties_same [] (e ∷ b) l f = cc
empties_same (d ∷ a) [] l f = cc
empties_same (d ∷ a) (e ∷ b) l f =
    or_both (is_none_left d) (has_empty a) (is_none_left e) (has_empty b) (f 0) (empties_same a b (omega (arith, l)) (λ x. f (suc x)))

single_left : (vs : Values) → is_single vs ≡ true → is_none_left vs ≡ false
single_left [] e = cc
single_left (v ∷ vs) e = refl

pub past_same : (a b : Box) (x : ℕ) → length a ≡ length b → length a ≤ x → values_left a x ≡ values_left b x
past_same a b x l n = get_or_past a x [] n ∙ sym (get_or_past b x [] (subst (λ m. m ≤ x) l n))

none_same : (g : Game) (top i : ℕ) (a b : Box) (x : ℕ) → Look g top i a b → is_none_left (values_left a x) ≡ is_none_left (values_left b x)
none_same g top i a b x l = by (is_looked_at g top x) (nat_lt x (length a)) refl refl
  where
    below : (x n : ℕ) → nat_lt x n ≡ true → x < n
    below x n e = grind (arith, nat_tests)

    past : (x n : ℕ) → nat_lt x n ≡ false → n ≤ x
    past x n e = grind (arith, nat_tests)

    by : (p q : Bool) → is_looked_at g top x ≡ p → nat_lt x (length a) ≡ q → is_none_left (values_left a x) ≡ is_none_left (values_left b x)
    by true q e f = ap is_none_left (l.same x e)
    by false true e f = let r = l.single x (below x (length a) f) e in single_left (values_left a x) r.0 ∙ sym (single_left (values_left b x) r.1)
    by false false e f = ap is_none_left (past_same a b x l.size (past x (length a) f))

pub empty_same : (g : Game) (top i : ℕ) (a b : Box) → Look g top i a b → has_empty a ≡ has_empty b
empty_same g top i a b l = empties_same a b l.size (λ x. none_same g top i a b x l)

-- the domains from m on, up to n
all_same : (a b : Box) → length a ≡ length b → ((x : ℕ) → values_left a x ≡ values_left b x) → a ≡ b
all_same [] [] l f = refl
all_same [] (e ∷ b) l f = cc
all_same (d ∷ a) [] l f = cc
all_same (d ∷ a) (e ∷ b) l f = ap (λ v. v ∷ a) (f 0) ∙ ap (λ vs. e ∷ vs) (all_same a b (omega (arith, l)) (λ x. f (suc x)))

rest_same : (m n : ℕ) (a b : Box) → length a ≡ length b → ((x : ℕ) → m ≤ x → values_left a x ≡ values_left b x) → drop m (take n a) ≡ drop m (take n b)
rest_same zero n a b l f = ap (λ vs. take n vs) (all_same a b l (λ x. f x (omega arith)))
rest_same (suc m) zero a b l f = refl
rest_same (suc m) (suc n) [] [] l f = refl
rest_same (suc m) (suc n) [] (e ∷ b) l f = cc
rest_same (suc m) (suc n) (d ∷ a) [] l f = cc
rest_same (suc m) (suc n) (d ∷ a) (e ∷ b) l f = rest_same m n a b (omega (arith, l)) (λ x h. f (suc x) (omega (arith, h)))

before_more : (g : Game) (d top n : ℕ) → d + top ≡ n → before g top ≤ before g n
before_more g zero top n e = subst (λ m. before g top ≤ before g m) (none top n e) (omega arith)
  where
    none : (m k : ℕ) → 0 + m ≡ k → m ≡ k
    none m k e = omega arith
before_more g (suc d) top zero e = absurd (omega arith)
before_more g (suc d) top (suc n) e = omega (arith, before_more g d top n (omega arith), before_up g n)

pub before_below : (g : Game) (top n : ℕ) → top ≤ n → before g top ≤ before g n
before_below g top n h = before_more g (n - top) top n (omega arith)

-- a variable of the current scope or a later one
pub ahead_looks : (g : Game) (top i x : ℕ) → top ≤ i → nat_le (before g i) x ≡ true → is_looked_at g top x ≡ true
ahead_looks g top i x h e = or_left (nat_le (before g top) x) (is_seen g top x) (lower (before g top) (before g i) (before_below g top i h) e)
  where
    lower : (m k : ℕ) → m ≤ k → nat_le k x ≡ true → nat_le m x ≡ true
    lower m k l e = grind (arith, nat_tests)

pub ahead_same : (g : Game) (top i n : ℕ) (a b : Box) → Look g top i a b → drop (before g i) (take n a) ≡ drop (before g i) (take n b)
ahead_same g top i n a b l = rest_same (before g i) n a b l.size (λ x h. l.same x (ahead_looks g top i x l.below (ahead (before g i) x h)))
  where
    ahead : (m x : ℕ) → m ≤ x → nat_le m x ≡ true
    ahead m x h = grind (arith, nat_tests)
