-- Where two boxes look the same, a box within one that is closed has one within the other that looks the same.
use Rattle.std.proofs.Common.{◌≡◌, ℕ, zero, suc, ◌<◌, Bool, true, false, not, ◌&&◌, ◌||◌, [], ◌∷◌, length, cond, refl, sym, ap, ◌∙◌, subst, arith, ℤ}
use Rattle.std.specs.Prelude.{int_lt}
use Rattle.std.specs.List.{list_any, list_all}
use Rattle.std.specs.Ordering.{int_eq}
use Rattle.std.proofs.lemmas.Int.{ints}
use Rattle.std.proofs.lemmas.Bool.{or_left, or_parts, false_from_ne_true, and_parts, and_from}
use Rattle.qc_model.specs.Content.{Game}
use Rattle.qc_model.specs.Domains.{Values, Box, values_left, is_none_left, is_single, has_value, has_empty, is_ascending, is_sub_box}
use Rattle.qc_model.specs.Block.{constraints_within}
use Rattle.qc_model.specs.Closed.{keeps_ends, is_closed, NoClosedWithin}
use Rattle.model_arguments.proofs.Bools.{clash, not_false}
use Rattle.model_arguments.proofs.Boxes.{sub_length}
use Rattle.proof_alike.specs.Alike.{is_looked_at}
use Rattle.proof_alike.proofs.Boxes.{Varied, Look, rule_on}
use Rattle.proof_alike.proofs.Rules.{closed_same}

-- the first of the values alone, where there is one
abbrev first_alone : Values → Values
first_alone [] = []
first_alone (v ∷ vs) = v ∷ []

-- where the test holds the values of c, and elsewhere one value of b
abbrev mix : (ℕ → Bool) → Box → Box → Box
mix p [] b = []
mix p (d ∷ c) [] = []
mix p (d ∷ c) (e ∷ b) = cond (p 0) d (first_alone e) ∷ mix (λ x. p (suc x)) c b

-- b has what a has wherever the test holds
record Same (p : ℕ → Bool) (a b : Box) : Type 0 where
  size : length a ≡ length b
  same : (x : ℕ) → p x ≡ true → values_left a x ≡ values_left b x

same_rest : (p : ℕ → Bool) (d e : Values) (a b : Box) → Same p (d ∷ a) (e ∷ b) → Same (λ x. p (suc x)) a b
same_rest p d e a b s = record { size = omega (arith, s.size); same = λ x h. s.same (suc x) h }

first_ascends : (e : Values) → is_ascending (first_alone e) ≡ true
first_ascends [] = refl
first_ascends (v ∷ e) = refl

first_within : (e : Values) → list_all (has_value e) (first_alone e) ≡ true
first_within [] = refl
first_within (v ∷ e) = and_from (int_eq v v || list_any (int_eq v) e) true (or_left (int_eq v v) (list_any (int_eq v) e) (same v)) refl
  where
    same : (n : ℤ) → int_eq n n ≡ true
    same n = grind (arith, ints)

mix_length : (p : ℕ → Bool) (c b : Box) → length c ≡ length b → length (mix p c b) ≡ length c
mix_length p [] b l = refl
mix_length p (d ∷ c) [] l = cc
mix_length p (d ∷ c) (e ∷ b) l = let r = mix_length (λ x. p (suc x)) c b (omega (arith, l)) in ap suc r

mix_same : (p : ℕ → Bool) (c b : Box) (x : ℕ) → length c ≡ length b → p x ≡ true → values_left (mix p c b) x ≡ values_left c x
mix_same p [] b x l h = refl
mix_same p (d ∷ c) [] x l h = cc
mix_same p (d ∷ c) (e ∷ b) zero l h = ap (λ q. cond q d (first_alone e)) h
mix_same p (d ∷ c) (e ∷ b) (suc x) l h = mix_same (λ y. p (suc y)) c b x (omega (arith, l)) h

head_within : (d f : Values) (c a : Box) → is_sub_box (d ∷ c) (f ∷ a) ≡ true → (is_ascending d ≡ true) × (list_all (has_value f) d ≡ true) × (is_sub_box c a ≡ true)
head_within d f c a s =
    let q = and_parts (is_ascending d && list_all (has_value f) d) (is_sub_box c a) s in
    let r = and_parts (is_ascending d) (list_all (has_value f) d) q.0 in
    (r.0, r.1, q.1)

mix_sub : (p : ℕ → Bool) (a b c : Box) → Same p a b → is_sub_box c a ≡ true → is_sub_box (mix p c b) b ≡ true
mix_sub p [] [] [] s h = refl
mix_sub p [] (e ∷ b) [] s h = let l = s.size in cc
mix_sub p (u ∷ a) b [] s h = cc
mix_sub p [] b (d ∷ c) s h = cc
mix_sub p (u ∷ a) [] (d ∷ c) s h = let l = s.size in cc
mix_sub p (u ∷ a) (e ∷ b) (d ∷ c) s h =
    and_from (is_ascending (cond (p 0) d (first_alone e)) && list_all (has_value e) (cond (p 0) d (first_alone e))) (is_sub_box (mix (λ x. p (suc x)) c b) b)
    (by (p 0) (s.same 0)) (mix_sub (λ x. p (suc x)) a b c (same_rest p u e a b s) (head_within d u c a h).2)
  where
    by : (q : Bool) → (q ≡ true → u ≡ e) → (is_ascending (cond q d (first_alone e)) && list_all (has_value e) (cond q d (first_alone e))) ≡ true
    by true k =
        let r = head_within d u c a h in
        and_from (is_ascending d) (list_all (has_value e) d) r.0 (subst (λ vs. list_all (has_value vs) d ≡ true) (k refl) r.1)
    by false k = and_from (is_ascending (first_alone e)) (list_all (has_value e) (first_alone e)) (first_ascends e) (first_within e)

-- the box within b that looks the same as c, which lies within a
abbrev mixed : Game → ℕ → Box → Box → Box
mixed g top b c = mix (is_looked_at g top) c b

same_looks : (g : Game) (top i : ℕ) (a b : Box) → Look g top i a b → Same (is_looked_at g top) a b
same_looks g top i a b l = record { size = l.size; same = l.same }

-- where one value is left, a box within has the same, and so has a box that is mixed of it
first_single : (e : Values) → is_single e ≡ true → first_alone e ≡ e
first_single [] h = cc
first_single (v ∷ []) h = refl
first_single (v ∷ w ∷ e) h = cc

mix_other : (p : ℕ → Bool) (c b : Box) (x : ℕ) → length c ≡ length b → p x ≡ false → (x < length b → is_single (values_left b x) ≡ true) → values_left (mix p c b) x ≡ values_left b x
mix_other p [] [] x l h s = refl
mix_other p [] (e ∷ b) x l h s = cc
mix_other p (d ∷ c) [] x l h s = cc
mix_other p (d ∷ c) (e ∷ b) zero l h s = ap (λ q. cond q d (first_alone e)) h ∙ first_single e (s (omega arith))
mix_other p (d ∷ c) (e ∷ b) (suc x) l h s = mix_other (λ y. p (suc y)) c b x (omega (arith, l)) h (λ n. s (omega arith))

only_within : (d : Values) (v : ℤ) → is_none_left d ≡ false → is_ascending d ≡ true → list_all (has_value (v ∷ [])) d ≡ true → d ≡ v ∷ []
only_within [] v f k h = cc
only_within (u ∷ []) v f k h = ap (λ z. z ∷ []) (same_value u v (and_parts (int_eq u v || false) true h).0)
  where
    same_value : (m n : ℤ) → (int_eq m n || false) ≡ true → m ≡ n
    same_value m n e = grind (arith, ints)
only_within (u ∷ w ∷ d) v f k h =
    let r = and_parts (int_eq u v || false) (list_all (has_value (v ∷ [])) (w ∷ d)) h in
    absurd (apart u w v r.0 (and_parts (int_eq w v || false) (list_all (has_value (v ∷ [])) d) r.1).0 (and_parts (int_lt u w) (is_ascending (w ∷ d)) k).0)
  where
    apart : (m n z : ℤ) → (int_eq m z || false) ≡ true → (int_eq n z || false) ≡ true → int_lt m n ≡ true → ⊥
    apart m n z e f g = grind (arith, ints)

single_within : (d e : Values) → is_none_left d ≡ false → is_ascending d ≡ true → list_all (has_value e) d ≡ true → is_single e ≡ true → d ≡ e
single_within d [] f k h s = cc
single_within d (v ∷ []) f k h s = only_within d v f k h
single_within d (v ∷ w ∷ e) f k h s = cc

sub_single : (c a : Box) (x : ℕ) → is_sub_box c a ≡ true → has_empty c ≡ false → (x < length a → is_single (values_left a x) ≡ true) → values_left c x ≡ values_left a x
sub_single [] [] x h f s = refl
sub_single [] (e ∷ a) x h f s = cc
sub_single (d ∷ c) [] x h f s = cc
sub_single (d ∷ c) (e ∷ a) zero h f s =
    let r = head_within d e c a h in
    single_within d e (or_parts (is_none_left d) (has_empty c) f).0 r.0 r.1 (s (omega arith))
sub_single (d ∷ c) (e ∷ a) (suc x) h f s = sub_single c a x (head_within d e c a h).2 (or_parts (is_none_left d) (has_empty c) f).1 (λ n. s (omega arith))

mixed_looks : (g : Game) (top i : ℕ) (a b c : Box) → Look g top i a b → is_sub_box c a ≡ true → has_empty c ≡ false → Look g top i c (mixed g top b c)
mixed_looks g top i a b c l within full = record {
  below = l.below;
  size = sym (mix_length (is_looked_at g top) c b long);
  same = v.same;
  single = λ x n e. (
      let r = l.single x (subst (λ m. x < m) (sub_length c a within) n) e in
      (ap is_single (v.first x e) ∙ r.0, ap is_single (v.second x e) ∙ r.1)
      );
  rules = λ r m h. rule_on g top r a b c (mixed g top b c) v (l.rules r m h);
}
  where
    long : length c ≡ length b
    long = sub_length c a within ∙ l.size

    v : Varied g top a b c (mixed g top b c)
    v = record {
      same = λ x h. sym (mix_same (is_looked_at g top) c b x long h);
      first = λ x e. sub_single c a x within full (λ n. (l.single x n e).0);
      second = λ x e. mix_other (is_looked_at g top) c b x long e (λ n. (l.single x (subst (λ m. x < m) (sym l.size) n) e).1);
    }

-- where no box within b is closed, none within a is
pub none_closed : (g : Game) (top i stop : ℕ) (a b : Box) → Look g top i a b → NoClosedWithin (constraints_within g i stop) b → NoClosedWithin (constraints_within g i stop) a
none_closed g top i stop a b l none c within = false_from_ne_true (is_closed (constraints_within g i stop) c) (λ e.
    let rules = constraints_within g i stop in
    let other = mixed g top b c in
    let full = not_false (has_empty c) (and_parts (not (has_empty c)) (list_all (keeps_ends c) rules) e).0 in
    clash (is_closed rules other) (sym (closed_same g top i stop c other (mixed_looks g top i a b c l within full)) ∙ e)
    (none other (mix_sub (is_looked_at g top) a b c (same_looks g top i a b l) within)))
