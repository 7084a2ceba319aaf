-- Stores that are brought within others, variable by variable.
use Rattle.std.proofs.Common.{◌≡◌, ◌<◌, ◌≤◌, ◌+◌, ℕ, zero, suc, Bool, true, false, ◌||◌, ◌&&◌, List, [], ◌∷◌, ◌++◌, length, refl, sym, ap, ◌∙◌, subst, arith}
use Rattle.std.specs.Prelude.{◌==◌, nat_lt, ℤ}
use Rattle.std.specs.List.{list_all}
use Rattle.std.specs.Ordering.{int_eq}
use Rattle.std.proofs.lemmas.Bool.Decides.{nat_tests}
use Rattle.std.proofs.lemmas.List.{length-map}
use Rattle.std.proofs.lemmas.Bool.{and_from, or_right}
use Rattle.qc_model.specs.declared.problem.VarId.{VarId}
use Rattle.qc_model.specs.Closed.{keeps_ends}
use Rattle.qc_model.specs.Content.{Game}
use Rattle.qc_model.specs.Domains.{Box, Values, declared_box, domain_values, values_left, has_empty, has_value, is_ascending, is_none_left, is_sub_box}
use Rattle.model_arguments.specs.Asked.{is_box_of}
use Rattle.model_arguments.proofs.Boxes.{some_left, sub_ascending, sub_length}
use Rattle.model_arguments.proofs.Values.{has_first}
use Rattle.fd_store.specs.Held.{Held, Follows}
use Rattle.prop_base.proofs.Steps.{follows_same, follows_more}
use Rattle.prop_engine.specs.Closing.{EachRule}
use Rattle.prop_engine.specs.Watching.{WasKept, names}
use Rattle.search_joint.specs.Inside.{AreSettled, IsSettled}
use Rattle.search_joint.specs.Narrowed.{AreAmong, IsNarrowed}

-- nothing was to be taken
pub settled_same : (x : ℕ) (changed : List VarId) (box left large : Box) → left ≡ box → AreAmong (values_left left x) (values_left large x) → IsSettled x changed changed box left large
settled_same x changed box left large e a = record {
  full = λ f. ap has_empty e ∙ f;
  more = λ y n. n;
  same = λ n. ap (λ b. values_left b x) e;
  among = a;
}

pub named_still : (xs : List VarId) (x : VarId) (y : ℕ) → names xs y ≡ true → names (xs ++ x ∷ []) y ≡ true
named_still [] x y h = cc
named_still (z ∷ xs) x y h = by (z.0 == y) h (named_still xs x y)
  where
    by : (b : Bool) → (b || names xs y) ≡ true → (names xs y ≡ true → names (xs ++ x ∷ []) y ≡ true) → (b || names (xs ++ x ∷ []) y) ≡ true
    by true h k = refl
    by false h k = k h

pub named_now : (xs : List VarId) (x : VarId) → names (xs ++ x ∷ []) x.0 ≡ true
named_now [] x = ap (λ b. b || false) (itself x.0)
  where
    itself : (k : ℕ) → (k == k) ≡ true
    itself k = grind (arith, nat_tests)
named_now (z ∷ xs) x = or_right (z.0 == x.0) (names (xs ++ x ∷ []) x.0) (named_now xs x)

-- where each variable has a value no domain is empty
full_each : (box : Box) → ((y : ℕ) → y < length box → is_none_left (values_left box y) ≡ false) → has_empty box ≡ false
full_each [] f = refl
full_each (d ∷ ds) f = both (is_none_left d) (has_empty ds) (f zero (omega arith)) (full_each ds (λ y l. f (suc y) (omega (arith, l))))
  where
    both : (a b : Bool) → a ≡ false → b ≡ false → (a || b) ≡ false
    both true b p q = cc
    both false b p q = q

full_still : (box left : Box) (x : ℕ) → length left ≡ length box → ((y : ℕ) → (x == y) ≡ false → values_left left y ≡ values_left box y) → is_none_left (values_left left x) ≡ false → has_empty box ≡ false → has_empty left ≡ false
full_still box left x n o s f = full_each left (λ y l. by y l (x == y) refl)
  where
    here : (y : ℕ) → (x == y) ≡ true → x ≡ y
    here y h = grind (arith, nat_tests)

    by : (y : ℕ) → y < length left → (b : Bool) → (x == y) ≡ b → is_none_left (values_left left y) ≡ false
    by y l true h = subst (λ k. is_none_left (values_left left k) ≡ false) (here y h) s
    by y l false h = ap is_none_left (o y h) ∙ some_left box y f (omega (arith, l, n))

not_named : (xs : List VarId) (y : ℕ) → names xs y ≡ true → names xs y ≡ false → ⊥
not_named xs y h k = cc

some_of : (vs : Values) (n : ℕ) → n ≡ length vs → nat_lt 0 n ≡ true → is_none_left vs ≡ false
some_of [] n e h = absurd (none n e h)
  where
    none : (n : ℕ) → n ≡ 0 → nat_lt 0 n ≡ true → ⊥
    none n e h = grind (arith, nat_tests)
some_of (v ∷ vs) n e h = refl

pub settled_cut : (x : VarId) (changed : List VarId) (s t : Held) (large : Box) (n : ℕ) → IsNarrowed x.0 s t → AreAmong (values_left t.box x.0) (values_left large x.0) → n ≡ length (values_left t.box x.0) → nat_lt 0 n ≡ true →
    IsSettled x.0 changed (changed ++ x ∷ []) s.box t.box large
settled_cut x changed s t large n h a e some = record {
  full = full_still s.box t.box x.0 h.count h.others (some_of (values_left t.box x.0) n e some);
  more = named_still changed x;
  same = λ k. absurd (not_named (changed ++ x ∷ []) x.0 (named_now changed x) k);
  among = a;
}

-- one variable more
pub record IsSettling (at : ℕ) (changed : List VarId) (s t : Held) (large : Box) : Type 0 where
  pub follows : Follows s t
  pub fewer : (big : Box) → is_sub_box s.box big ≡ true → is_sub_box t.box big ≡ true
  pub full : has_empty t.box ≡ false
  pub count : length t.box ≡ length s.box
  pub others : (y : ℕ) → names changed y ≡ false → values_left t.box y ≡ values_left s.box y
  pub among : (y : ℕ) → y < at → AreAmong (values_left t.box y) (values_left large y)

pub settling_none : (changed : List VarId) (s : Held) (large : Box) → has_empty s.box ≡ false → IsSettling 0 changed s s large
settling_none changed s large f = record {
  follows = follows_same s s refl refl;
  fewer = λ big h. h;
  full = f;
  count = refl;
  others = λ y n. refl;
  among = λ y l. absurd (omega (arith, l));
}

not_before : (xs ys : List VarId) (y : ℕ) → (names xs y ≡ true → names ys y ≡ true) → names ys y ≡ false → names xs y ≡ false
not_before xs ys y m h = by (names xs y) m
  where
    by : (b : Bool) → (b ≡ true → names ys y ≡ true) → b ≡ false
    by true k = let r = k refl in cc
    by false k = refl

pub settling_more : (at next : ℕ) (before after : List VarId) (s t u : Held) (large : Box) → next ≡ at + 1 → IsSettling at before s t large → IsNarrowed at t u → IsSettled at before after t.box u.box large → IsSettling next after s u large
settling_more at next before after s t u large e p n q = record {
  follows = follows_more s t u p.follows n.follows;
  fewer = λ big h. n.within big (p.fewer big h);
  full = q.full p.full;
  count = n.count ∙ p.count;
  others = λ y h. now y h (at == y) refl ∙ p.others y (not_before before after y (q.more y) h);
  among = λ y l. there y (omega (arith, l, e)) (at == y) refl;
}
  where
    here : (y : ℕ) → (at == y) ≡ true → at ≡ y
    here y h = grind (arith, nat_tests)

    apart : (y : ℕ) → (at == y) ≡ false → y ≤ at → y < at
    apart y h l = grind (arith, nat_tests)

    now : (y : ℕ) → names after y ≡ false → (b : Bool) → (at == y) ≡ b → values_left u.box y ≡ values_left t.box y
    now y h true k = subst (λ z. values_left u.box z ≡ values_left t.box z) (here y k) (q.same (subst (λ z. names after z ≡ false) (sym (here y k)) h))
    now y h false k = n.others y k

    there : (y : ℕ) → y ≤ at → (b : Bool) → (at == y) ≡ b → AreAmong (values_left u.box y) (values_left large y)
    there y l true k = subst (λ z. AreAmong (values_left u.box z) (values_left large z)) (here y k) q.among
    there y l false k = subst (λ vs. AreAmong vs (values_left large y)) (sym (n.others y k)) (p.among y (apart y k l))

pub all_settled : (at : ℕ) (changed : List VarId) (s t : Held) (large : Box) → length s.box ≤ at → IsSettling at changed s t large → AreSettled changed s.box t.box large
all_settled at changed s t large l p = record {
  full = p.full;
  count = p.count;
  others = p.others;
  among = λ y k. p.among y (omega (arith, k, l, p.count));
}

-- such a box lies within the other one
all_of : (p : ℤ → Bool) (vs : Values) → ((v : ℤ) → has_value vs v ≡ true → p v ≡ true) → list_all p vs ≡ true
all_of p [] f = refl
all_of p (v ∷ vs) f = and_from (p v) (list_all p vs) (f v (has_first v vs)) (all_of p vs (λ w h. f w (or_right (int_eq w v) (has_value vs w) h)))

pub sub_each : (left large : Box) → length left ≡ length large → ((y : ℕ) → is_ascending (values_left left y) ≡ true) → ((y : ℕ) → y < length left → AreAmong (values_left left y) (values_left large y)) → is_sub_box left large ≡ true
sub_each [] [] n a f = refl
sub_each [] (e ∷ es) n a f = absurd (omega (arith, n))
sub_each (d ∷ ds) [] n a f = absurd (omega (arith, n))
sub_each (d ∷ ds) (e ∷ es) n a f =
    and_from (is_ascending d && list_all (has_value e) d) (is_sub_box ds es)
    (and_from (is_ascending d) (list_all (has_value e) d) (a zero) (all_of (has_value e) d (f zero (omega arith)).each))
    (sub_each ds es (omega (arith, n)) (λ y. a (suc y)) (λ y l. f (suc y) (omega (arith, l))))

pub settled_inside : (g : Game) (changed : List VarId) (box left large : Box) → is_sub_box left (declared_box g) ≡ true → length box ≡ length large → AreSettled changed box left large → is_sub_box left large ≡ true
settled_inside g changed box left large h n p = sub_each left large (p.count ∙ n) (λ y. sub_ascending left (declared_box g) y h) p.among

-- what kept its ends before
pub was_kept : (ok : ℕ → Bool) (g : Game) (changed : List VarId) (box left large : Box) → is_box_of g box ≡ true → ((big : Box) → is_sub_box box big ≡ true → is_sub_box left big ≡ true) → AreSettled changed box left large →
    EachRule ok g (keeps_ends box) → WasKept ok g changed left
was_kept ok g changed box left large d f p k = record { earlier = box; declared = d; count = p.count; fewer = f; kept = k; others = p.others }

pub box_sizes : (g : Game) (box large : Box) → is_box_of g box ≡ true → is_box_of g large ≡ true → length box ≡ length large
box_sizes g box large h k = sub_length box (declared_box g) h ∙ sym (sub_length large (declared_box g) k)

pub few_variables : (g : Game) (box : Box) → is_box_of g box ≡ true → length g.variables ≤ 500 → length box ≤ 500
few_variables g box h few = omega (arith, sub_length box (declared_box g) h, length-map g.variables (λ x. domain_values x.domain), few)
