-- After a change from outside: the constraints that it concerns are woken, but for those that keep their ends anyway and for
-- sums that rest on ends which are the declared ones still.
use Rattle.std.proofs.Common.{◌≡◌, ℕ, zero, suc, Bool, true, false, ◌&&◌, ◌||◌, List, [], ◌∷◌, ◌⊎◌, inl, inr, refl, sym, ap, ◌∙◌, subst, arith, ℤ}
use Rattle.std.specs.Prelude.{slice_get, Some, ◌==◌, pos, int_lt}
use Rattle.std.specs.List.{list_all}
use Rattle.std.specs.Ordering.{int_eq}
use Rattle.std.proofs.lemmas.Bool.Decides.{nat_tests}
use Rattle.std.proofs.lemmas.Bool.{or_left, or_right, and_from}
use Rattle.qc_model.specs.declared.problem.Arg.TheVariants.{Var}
use Rattle.qc_model.specs.declared.problem.VarId.{VarId}
use Rattle.qc_model.specs.Arguments.{variables_of}
use Rattle.qc_model.specs.Closed.{keeps_ends}
use Rattle.qc_model.specs.Content.{Game, Rule}
use Rattle.qc_model.specs.Domains.{Values, Box, declared_box, values_left, is_none_left, least_value, greatest_value, has_empty, has_value, is_ascending, is_sub_box}
use Rattle.qc_model.proofs.Readable.{first, second}
use Rattle.model_arguments.specs.Written.{arg_at, args_at, ints_at}
use Rattle.model_arguments.proofs.Bools.{clash}
use Rattle.model_arguments.proofs.Kept.{some_of, low_end, high_end, reaches, same_end, through}
use Rattle.model_arguments.proofs.Values.{value_passes, has_first, has_least, has_greatest}
use Rattle.prop_engine.specs.Watching.{Waiting, Watches, is_watched, IsWatchOf, KeepsUnmarked, names, moved_ever, IsBoundedSum, IsStill, MayRest, WasKept}
use Rattle.prop_engine.proofs.Kept.{watched_one}
use Rattle.prop_engine.proofs.Own.{among, keeps_same}
use Rattle.prop_engine.proofs.Resting.{AreResting, between_ends, some_or_none, sum_keeps, term_among, with_number}

-- a box that lies within another lies within itself, and has the other's values alone
all_of : (p : ℤ → Bool) (vs : Values) → ((v : ℤ) → has_value vs v ≡ true → p v ≡ true) → list_all p vs ≡ true
all_of p [] f = refl
all_of p (v ∷ vs) f = and_from (p v) (list_all p vs) (f v (has_first v vs)) (all_of p vs (λ w h. f w (or_right (int_eq w v) (has_value vs w) h)))

sub_self : (box large : Box) → is_sub_box box large ≡ true → is_sub_box box box ≡ true
sub_self [] large h = refl
sub_self (d ∷ ds) [] h = cc
sub_self (d ∷ ds) (e ∷ es) h =
    let p = is_ascending d && list_all (has_value e) d in
    and_from (is_ascending d && list_all (has_value d) d) (is_sub_box ds ds)
    (and_from (is_ascending d) (list_all (has_value d) d) (first (is_ascending d) (list_all (has_value e) d) (first p (is_sub_box ds es) h)) (all_of (has_value d) d (λ v q. q)))
    (sub_self ds es (second p (is_sub_box ds es) h))

sub_had : (box large : Box) (y : ℕ) (v : ℤ) → is_sub_box box large ≡ true → has_value (values_left box y) v ≡ true → has_value (values_left large y) v ≡ true
sub_had [] [] y v s h = h
sub_had [] (e ∷ es) y v s h = cc
sub_had (d ∷ ds) [] y v s h = cc
sub_had (d ∷ ds) (e ∷ es) zero v s h = value_passes (has_value e) d v (second (is_ascending d) (list_all (has_value e) d) (first (is_ascending d && list_all (has_value e) d) (is_sub_box ds es) s)) h
sub_had (d ∷ ds) (e ∷ es) (suc y) v s h = sub_had ds es y v (second (is_ascending d && list_all (has_value e) d) (is_sub_box ds es) s) h

-- an end that is the declared one was so in each box between
same_least : (box large whole : Box) (y : ℕ) → is_sub_box box large ≡ true → is_sub_box large whole ≡ true → is_none_left (values_left box y) ≡ false → int_lt (least_value (values_left whole y)) (least_value (values_left box y)) ≡ false →
    least_value (values_left box y) ≡ least_value (values_left large y)
same_least box large whole y s t n r =
    let low = least_value (values_left box y) in
    let was = least_value (values_left large y) in
    let had = sub_had box large y low s (has_least (values_left box y) n) in
    let declared = sub_had large whole y was t (has_least (values_left large y) (some_of (values_left large y) low had)) in
    same_end low was (through low (least_value (values_left whole y)) was (reaches (least_value (values_left whole y)) low r) (low_end (values_left whole y) was declared)) (low_end (values_left large y) low had)

same_greatest : (box large whole : Box) (y : ℕ) → is_sub_box box large ≡ true → is_sub_box large whole ≡ true → is_none_left (values_left box y) ≡ false → int_lt (greatest_value (values_left box y)) (greatest_value (values_left whole y)) ≡ false →
    greatest_value (values_left box y) ≡ greatest_value (values_left large y)
same_greatest box large whole y s t n r =
    let high = greatest_value (values_left box y) in
    let was = greatest_value (values_left large y) in
    let had = sub_had box large y high s (has_greatest (values_left box y) n) in
    let declared = sub_had large whole y was t (has_greatest (values_left large y) (some_of (values_left large y) high had)) in
    same_end high was (high_end (values_left large y) high had) (through was (greatest_value (values_left whole y)) high (high_end (values_left whole y) was declared) (reaches high (greatest_value (values_left whole y)) r))

-- the ends that the terms of such a sum rest on
ever_least : (c : Rule) (g : Game) (box : Box) (i : ℕ) (n : ℤ) (y : VarId) → slice_get (ints_at c.args 0) i ≡ Some n → slice_get (args_at c.args 1) i ≡ Some (Var y) → int_lt (pos 0) n ≡ true → IsStill (moved_ever g box y.0) c y.0 →
    int_lt (least_value (values_left (declared_box g) y.0)) (least_value (values_left box y.0)) ≡ false
ever_least c g box i n y p q r s = elim s.1 [ inl h ↦ h.1 | inr h ↦ absurd (clash (int_lt (pos 0) n) r (h.0 i n y p q refl)) ]

ever_greatest : (c : Rule) (g : Game) (box : Box) (i : ℕ) (n : ℤ) (y : VarId) → slice_get (ints_at c.args 0) i ≡ Some n → slice_get (args_at c.args 1) i ≡ Some (Var y) → int_lt (pos 0) n ≡ false → IsStill (moved_ever g box y.0) c y.0 →
    int_lt (greatest_value (values_left box y.0)) (greatest_value (values_left (declared_box g) y.0)) ≡ false
ever_greatest c g box i n y p q r s = elim s.1 [ inl h ↦ absurd (clash (int_lt (pos 0) n) (h.0 i n y p q refl) r) | inr h ↦ h.1 ]

module _ (ok : ℕ → Bool) (g : Game) (changed : List VarId) (box : Box) (full : has_empty box ≡ false) (was : WasKept ok g changed box) where
  within : is_sub_box box was.earlier ≡ true
  within = was.fewer was.earlier (sub_self was.earlier (declared_box g) was.declared)

  -- each changed variable of the constraint leaves it still
  abbrev LeavesStill : Rule → Type 0
  LeavesStill c = (x : ℕ) → among (variables_of c.args) x ≡ true → names changed x ≡ true → IsStill (moved_ever g box x) c x

  rests : (c : Rule) → LeavesStill c → AreResting (ints_at c.args 0) (args_at c.args 1) box was.earlier
  rests c a i n y p q = record {
    least = λ r. elim (some_or_none box was.earlier y.0 was.count full) [ inl o ↦ low r o (names changed y.0) refl | inr o ↦ ap least_value (o.0 ∙ sym o.1) ];
    greatest = λ r. elim (some_or_none box was.earlier y.0 was.count full) [ inl o ↦ high r o (names changed y.0) refl | inr o ↦ ap greatest_value (o.0 ∙ sym o.1) ];
  }
    where
      own : among (variables_of c.args) y.0 ≡ true
      own = term_among c.args 1 i y q

      low : int_lt (pos 0) n ≡ true → is_none_left (values_left box y.0) ≡ false → (b : Bool) → names changed y.0 ≡ b → least_value (values_left box y.0) ≡ least_value (values_left was.earlier y.0)
      low r o true e = same_least box was.earlier (declared_box g) y.0 within was.declared o (ever_least c g box i n y p q r (a y.0 own e))
      low r o false e = ap least_value (was.others y.0 e)

      high : int_lt (pos 0) n ≡ false → is_none_left (values_left box y.0) ≡ false → (b : Bool) → names changed y.0 ≡ b → greatest_value (values_left box y.0) ≡ greatest_value (values_left was.earlier y.0)
      high r o true e = same_greatest box was.earlier (declared_box g) y.0 within was.declared o (ever_greatest c g box i n y p q r (a y.0 own e))
      high r o false e = ap greatest_value (was.others y.0 e)

  -- so a bounded sum keeps its ends
  sum_still : (c : Rule) → IsBoundedSum c → LeavesStill c → keeps_ends was.earlier c ≡ true → keeps_ends box c ≡ true
  sum_still c b a h =
      with_number (arg_at c.args 2) (keeps_ends box c ≡ true) b.1
      (λ m q. sum_keeps c m box was.earlier b.0 q (between_ends box was.earlier was.count full (λ y v k. sub_had box was.earlier y v within k)) (rests c a) h)

-- one of the numbers answers, or something of each
equal_numbers : (j k : ℕ) → (j == k) ≡ true → j ≡ k
equal_numbers j k h = grind (arith, nat_tests)

same_number : (k : ℕ) → (k == k) ≡ true
same_number k = grind (arith, nat_tests)

one_or_each : (xs : List ℕ) (P : Type 0) (Q : ℕ → Type 0) → ((x : ℕ) → among xs x ≡ true → P ⊎ Q x) → P ⊎ ((x : ℕ) → among xs x ≡ true → Q x)
one_or_each [] P Q f = inr (λ x m. absurd (clash false m refl))
one_or_each (y ∷ xs) P Q f =
    elim (f y (or_left (y == y) (among xs y) (same_number y))) [
      | inl p ↦ inl p
      | inr q ↦ elim (one_or_each xs P Q (λ x m. f x (or_right (y == x) (among xs x) m))) [ inl p ↦ inl p | inr r ↦ inr (λ x m. by x q r (y == x) refl m) ]
    ]
  where
    by : (x : ℕ) → Q y → ((x : ℕ) → among xs x ≡ true → Q x) → (b : Bool) → (y == x) ≡ b → (b || among xs x) ≡ true → Q x
    by x q r true e m = subst Q (equal_numbers y x e) q
    by x q r false e m = r x m

-- those that aren't woken keep their ends
pub kept_since : (ok : ℕ → Bool) (g : Game) (ws : Watches) (w : Waiting) (box : Box) (changed : List VarId) → IsWatchOf g ws → has_empty box ≡ false → WasKept ok g changed box →
    ((k x : ℕ) → ok k ≡ true → names changed x ≡ true → is_watched ws k x ≡ true → MayRest g w box (moved_ever g box x) x k) → KeepsUnmarked ok g w box
kept_since ok g ws w box changed i f b n k r o e u =
    elim (one_or_each (variables_of r.args) (keeps_ends box r ≡ true) (λ x. names changed x ≡ true → IsStill (moved_ever g box x) r x) (λ x a. by x a (names changed x) refl)) [
      | inl d ↦ d
      | inr d ↦
          elim (one_or_each (variables_of r.args) (IsBoundedSum r) (λ x. names changed x ≡ false) (λ x a. sum x (d x a) (names changed x) refl)) [
            | inl s ↦ sum_still ok g changed box f b r s d (b.kept k r o e)
            | inr a ↦ keeps_same r box b.earlier b.count (λ x m. b.others x (a x m)) ∙ b.kept k r o e
          ]
    ]
  where
    by : (x : ℕ) → among (variables_of r.args) x ≡ true → (t : Bool) → names changed x ≡ t → (keeps_ends box r ≡ true) ⊎ (names changed x ≡ true → IsStill (moved_ever g box x) r x)
    by x a true m = elim (n k x o m (watched_one (is_watched ws k) (variables_of r.args) x (i.watched k r e) a) u r e) [ inl z ↦ inl z | inr z ↦ inr (λ q. z) ]
    by x a false m = inr (λ q. absurd (clash (names changed x) q m))

    sum : (x : ℕ) → (names changed x ≡ true → IsStill (moved_ever g box x) r x) → (t : Bool) → names changed x ≡ t → IsBoundedSum r ⊎ (names changed x ≡ false)
    sum x d true m = inl (d m).0
    sum x d false m = inr m
