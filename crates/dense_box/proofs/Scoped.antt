-- What is known of the scopes of a game, scope by scope.
use Rattle.std.proofs.Common.{◌≡◌, ◌∙◌, refl, sym, ap, subst, ℕ, zero, suc, ◌+◌, ◌-◌, ◌<◌, ◌≤◌, Bool, true, false, not, ◌&&◌, ◌||◌, List, [], ◌∷◌, ◌++◌, length, drop, get_or, set, Some, Option, cond, arith, ◌⊎◌, inl, inr}
use Rattle.std.specs.Prelude.{slice_get, nat_le, nat_lt, ◌==◌}
use Rattle.std.specs.List.{list_all, list_any}
use Rattle.std.proofs.lemmas.Bool.Decides.{nat_tests}
use Rattle.std.proofs.lemmas.List.{length-drop, length-append, length-set}
use Rattle.std.proofs.lemmas.Option.{slice_get-get_or, slice_get_within}
use Rattle.std.proofs.lemmas.List.Folds.{list_any-append}
use Rattle.qc_model.specs.declared.problem.Kind.{Kind}
use Rattle.qc_model.specs.declared.problem.Kind.TheVariants.{Exists, Forall}
use Rattle.qc_model.specs.declared.problem.Scope.{Scope}
use Rattle.qc_model.specs.Block.{of_kind, force_stop}
use Rattle.qc_model.specs.Content.{Game}
use Rattle.qc_model.proofs.Conjunctions.{first, second}
use Rattle.model_levels.proofs.Items.{drop_at}
use Rattle.dense_tree.specs.Tree.{Given}
use Rattle.dense_tree.specs.Free.{is_universal, is_unrestricted, is_always_allowed, gives, is_never_stuck, is_free_from, is_free, is_joint, joint_stop}
use Rattle.dense_tree.specs.Proves.{given_placed, are_in_order}
use Rattle.dense_box.specs.declared.freedom.Standing.{Standing}
use Rattle.dense_box.specs.declared.freedom.Freedom.{Freedom}
use Rattle.dense_box.specs.Standing.{never_stuck, is_passed, IsStandingOf, StandsFor}
use Rattle.dense_box.proofs.Rows.{item_there}

-- ---- tests over the last items of a list
module _ {X : Type 0} (p : X → Bool) where
  pub all_later : (xs : List X) (n k : ℕ) → list_all p (drop n xs) ≡ true → n ≤ k → list_all p (drop k xs) ≡ true
  all_later [] zero zero e h = refl
  all_later [] zero (suc k) e h = refl
  all_later [] (suc n) zero e h = refl
  all_later [] (suc n) (suc k) e h = refl
  all_later (x ∷ xs) zero zero e h = e
  all_later (x ∷ xs) zero (suc k) e h = all_later xs zero k (second (p x) (list_all p xs) e) (omega arith)
  all_later (x ∷ xs) (suc n) zero e h = absurd (omega arith)
  all_later (x ∷ xs) (suc n) (suc k) e h = all_later xs n k e (omega arith)

  pub one_fails : (xs : List X) (n k : ℕ) (d : X) → n < length xs → p (get_or xs n d) ≡ false → k ≤ n → list_all p (drop k xs) ≡ false
  one_fails [] n k d l f h = absurd (omega arith)
  one_fails (x ∷ xs) zero zero d l f h = ap (λ b. b && list_all p xs) f
  one_fails (x ∷ xs) zero (suc k) d l f h = absurd (omega arith)
  one_fails (x ∷ xs) (suc n) zero d l f h = by (p x) (one_fails xs n zero d (omega arith) f (omega arith))
    where
      by : (b : Bool) → list_all p xs ≡ false → (b && list_all p xs) ≡ false
      by true e = e
      by false e = refl
  one_fails (x ∷ xs) (suc n) (suc k) d l f h = one_fails xs n k d (omega arith) f (omega arith)

zero_more : (j : ℕ) → j ≡ 0 + j
zero_more j = omega arith

one_further : (k j : ℕ) → suc (k + j) ≡ suc k + j
one_further k j = omega arith

none_there : {X : Type 0} (n m : ℕ) → ◌≡◌ {A = Option X} (slice_get [] n) (slice_get [] m)
none_there zero zero = refl
none_there zero (suc m) = refl
none_there (suc n) zero = refl
none_there (suc n) (suc m) = refl

sliced : {X : Type 0} (k : ℕ) (xs : List X) (j : ℕ) → slice_get (drop k xs) j ≡ slice_get xs (k + j)
sliced zero xs j = ap (slice_get xs) (zero_more j)
sliced (suc k) [] j = none_there j (suc k + j)
sliced (suc k) (x ∷ xs) j = sliced k xs j ∙ ap (slice_get (x ∷ xs)) (one_further k j)

-- the last that fails
pub fails_before : {X : Type 0} (p : X → Bool) (xs : List X) (n at : ℕ) (d : X) → at < length xs → at + 1 ≡ n → list_all p (drop n xs) ≡ true → p (get_or xs at d) ≡ false → (k : ℕ) → list_all p (drop k xs) ≡ nat_le (at + 1) k
fails_before p xs n at d l e t f k = by (side k at)
  where
    side : (k m : ℕ) → (k ≤ m) ⊎ (m < k)
    side k m = grind arith

    low : (k m : ℕ) → k ≤ m → nat_le (m + 1) k ≡ false
    low k m h = grind (arith, nat_tests)

    high : (k m : ℕ) → m < k → nat_le (m + 1) k ≡ true
    high k m h = grind (arith, nat_tests)

    by : (k ≤ at) ⊎ (at < k) → list_all p (drop k xs) ≡ nat_le (at + 1) k
    by (inl b) = one_fails p xs at k d l f b ∙ sym (low k at b)
    by (inr b) = all_later p xs n k t (omega (arith, e, b)) ∙ sym (high k at b)

pub zero_le : (k : ℕ) → nat_le 0 k ≡ true
zero_le k = grind (arith, nat_tests)

-- ---- one scope
stuck_kind : (k : Kind) (b : Bool) → of_kind k true b ≡ (not (of_kind k false true) || b)
stuck_kind Exists b = refl
stuck_kind Forall b = refl

passed_is : (g : Game) (us : List Given) (s : Scope) (i : ℕ) (m : Standing) → IsStandingOf g us s i m → of_kind s.kind true (is_never_stuck g us i) ≡ is_passed m
passed_is g us s i m h =
    stuck_kind s.kind (is_never_stuck g us i)
    ∙ (ap (λ b. not b || is_never_stuck g us i) (sym h.owner)
    ∙ (ap (λ b. not m.is_opponents || (b || list_any (gives g i) us)) (sym h.restriction)
    ∙ ap (λ b. not m.is_opponents || (m.is_unrestricted || b)) (sym h.tuple)))

agree : (g : Game) (us : List Given) (ss : List Scope) (ms : List Standing) (i : ℕ) → length ms ≡ length ss →
    ((k : ℕ) (s : Scope) (m : Standing) → slice_get ss k ≡ Some s → slice_get ms k ≡ Some m → IsStandingOf g us s (i + k) m) → is_free_from g us ss i ≡ list_all is_passed ms
agree g us [] [] i l f = refl
agree g us [] (m ∷ ms) i l f = absurd (omega arith)
agree g us (s ∷ ss) [] i l f = absurd (omega arith)
agree g us (s ∷ ss) (m ∷ ms) i l f =
    let here = passed_is g us s i m (subst (λ n. IsStandingOf g us s n m) (none i) (f zero s m refl refl)) in
    let rest = agree g us ss ms (suc i) (omega arith) (λ k t n p q. subst (λ j. IsStandingOf g us t j n) (next i k) (f (suc k) t n p q)) in
    ap (λ b. b && is_free_from g us ss (suc i)) here ∙ ap (λ b. is_passed m && b) rest
  where
    none : (i : ℕ) → i + 0 ≡ i
    none i = omega arith

    next : (i k : ℕ) → i + suc k ≡ suc i + k
    next i k = omega arith

abbrev AreOf : Game → List Given → List Standing → Type 0
AreOf g us ms = (k : ℕ) (s : Scope) (m : Standing) → slice_get g.scopes k ≡ Some s → slice_get ms k ≡ Some m → IsStandingOf g us s k m

pub free_is : (g : Game) (us : List Given) (ms : List Standing) (k : ℕ) → length ms ≡ length g.scopes → AreOf g us ms → is_free_from g us (drop k g.scopes) k ≡ list_all is_passed (drop k ms)
free_is g us ms k l f =
    agree g us (drop k g.scopes) (drop k ms) k (length-drop k ms ∙ (ap (λ n. n - k) l ∙ sym (length-drop k g.scopes)))
    (λ j s m p q. f (k + j) s m (sym (sliced k g.scopes j) ∙ p) (sym (sliced k ms j) ∙ q))

-- ---- a table with one scope more
below_or_at : (k n : ℕ) → k < n + 1 → (k < n) ⊎ (k ≡ n)
below_or_at k n h = grind arith

early : {X : Type 0} (xs : List X) (x : X) (k : ℕ) → k < length xs → slice_get (xs ++ x ∷ []) k ≡ slice_get xs k
early [] x k q = absurd (omega arith)
early (y ∷ xs) x zero q = refl
early (y ∷ xs) x (suc k) q = early xs x k (omega arith)

last : {X : Type 0} (xs : List X) (x : X) → slice_get (xs ++ x ∷ []) (length xs) ≡ Some x
last [] x = refl
last (y ∷ xs) x = last xs x

same_some : {X : Type 0} (x y : X) (o : Option X) → o ≡ Some x → o ≡ Some y → x ≡ y
same_some x y o e f = let q : Some x ≡ Some y = sym e ∙ f in cc

pub one_more : (g : Game) (us : List Given) (ms ns : List Standing) (n : ℕ) (m : Standing) → ns ≡ ms ++ m ∷ [] → length ms ≡ n → AreOf g us ms → ((s : Scope) → slice_get g.scopes n ≡ Some s → IsStandingOf g us s n m) →
    (length ns ≡ n + 1) × AreOf g us ns
one_more g us ms ns n m e l f here = (ap length e ∙ (length-append ms (m ∷ []) ∙ ap (λ j. j + 1) l), λ k s x p q. by k s x p (ap (λ zs. slice_get zs k) (sym e) ∙ q))
  where
    at : (k : ℕ) (s : Scope) (x : Standing) → slice_get g.scopes k ≡ Some s → slice_get (ms ++ m ∷ []) k ≡ Some x → (k < n) ⊎ (k ≡ n) → IsStandingOf g us s k x
    at k s x p q (inl b) = f k s x p (sym (early ms m k (omega (arith, b, l))) ∙ q)
    at k s x p q (inr t) =
        let here_is : slice_get (ms ++ m ∷ []) k ≡ Some m = ap (slice_get (ms ++ m ∷ [])) (t ∙ sym l) ∙ last ms m in
        let same : m ≡ x = same_some m x (slice_get (ms ++ m ∷ []) k) here_is q in
        subst (λ y. IsStandingOf g us s k y) same (subst (λ j. IsStandingOf g us s j m) (sym t) (here s (ap (slice_get g.scopes) (sym t) ∙ p)))

    by : (k : ℕ) (s : Scope) (x : Standing) → slice_get g.scopes k ≡ Some s → slice_get (ms ++ m ∷ []) k ≡ Some x → IsStandingOf g us s k x
    by k s x p q = at k s x p q (below_or_at k n (omega (arith, slice_get_within (ms ++ m ∷ []) k x q, length-append ms (m ∷ []), l)))

-- ---- with one tuple more
set_there : {X : Type 0} (xs : List X) (k : ℕ) (x : X) → k < length xs → slice_get (set xs k x) k ≡ Some x
set_there [] k x h = absurd (omega arith)
set_there (y ∷ xs) zero x h = refl
set_there (y ∷ xs) (suc k) x h = set_there xs k x (omega arith)

set_elsewhere : {X : Type 0} (xs : List X) (k j : ℕ) (x : X) → (k ≡ j → ⊥) → slice_get (set xs k x) j ≡ slice_get xs j
set_elsewhere [] k j x n = refl
set_elsewhere (y ∷ xs) zero zero x n = absurd (n refl)
set_elsewhere (y ∷ xs) zero (suc j) x n = refl
set_elsewhere (y ∷ xs) (suc k) zero x n = refl
set_elsewhere (y ∷ xs) (suc k) (suc j) x n = set_elsewhere xs k j x (λ e. n (ap suc e))

or_none : (b : Bool) → (b || false) ≡ b
or_none true = refl
or_none false = refl

or_all : (b : Bool) → (b || true) ≡ true
or_all true = refl
or_all false = refl

-- such a tuple is of its own scope alone
gives_own : (g : Game) (u : Given) → given_placed g u ≡ true → gives g u.scope.0 u ≡ true
gives_own g u h = ap (λ b. b && is_always_allowed g u.scope.0 u.tuple) (same u.scope.0) ∙ second (is_universal (slice_get g.scopes u.scope.0) && not (is_unrestricted g u.scope.0)) (is_always_allowed g u.scope.0 u.tuple) h
  where
    same : (n : ℕ) → (n == n) ≡ true
    same n = grind (arith, nat_tests)

gives_no_other : (g : Game) (u : Given) (k : ℕ) → (u.scope.0 ≡ k → ⊥) → gives g k u ≡ false
gives_no_other g u k n = ap (λ b. b && is_always_allowed g k u.tuple) (apart u.scope.0 n)
  where
    apart : (m : ℕ) → (m ≡ k → ⊥) → (m == k) ≡ false
    apart m n = grind (arith, nat_tests)

with_given : (g : Game) (us : List Given) (u : Given) (k : ℕ) → list_any (gives g k) (us ++ u ∷ []) ≡ (list_any (gives g k) us || gives g k u)
with_given g us u k = list_any-append (gives g k) us (u ∷ []) ∙ ap (λ b. list_any (gives g k) us || b) (or_none (gives g k u))

abbrev pub with_tuple : Standing → Standing
with_tuple m = record { is_opponents = m.is_opponents; is_unrestricted = m.is_unrestricted; has_tuple = true; stop = m.stop }

pub one_given : (g : Game) (us : List Given) (u : Given) (ms : List Standing) (d : Standing) → length ms ≡ length g.scopes → u.scope.0 < length ms → AreOf g us ms → given_placed g u ≡ true →
    AreOf g (us ++ u ∷ []) (set ms u.scope.0 (with_tuple (get_or ms u.scope.0 d)))
one_given g us u ms d l w f h k s m p q = by (either u.scope.0 k)
  where
    here : Standing
    here = get_or ms u.scope.0 d

    either : (i j : ℕ) → (i ≡ j) ⊎ (i ≡ j → ⊥)
    either i j = grind arith

    own : (k : ℕ) → u.scope.0 ≡ k → slice_get g.scopes k ≡ Some s → slice_get (set ms u.scope.0 (with_tuple here)) k ≡ Some m → IsStandingOf g (us ++ u ∷ []) s k m
    own k e p q =
        let was : IsStandingOf g us s u.scope.0 here = f u.scope.0 s here (ap (slice_get g.scopes) e ∙ p) (slice_get-get_or ms u.scope.0 d w) in
        let is : slice_get (set ms u.scope.0 (with_tuple here)) u.scope.0 ≡ Some m = ap (slice_get (set ms u.scope.0 (with_tuple here))) e ∙ q in
        let same : with_tuple here ≡ m = same_some (with_tuple here) m (slice_get (set ms u.scope.0 (with_tuple here)) u.scope.0) (set_there ms u.scope.0 (with_tuple here) w) is in
        let now : IsStandingOf g (us ++ u ∷ []) s u.scope.0 (with_tuple here) = record {
          owner = was.owner;
          restriction = was.restriction;
          tuple = sym (with_given g us u u.scope.0 ∙ (ap (λ b. list_any (gives g u.scope.0) us || b) (gives_own g u h) ∙ or_all (list_any (gives g u.scope.0) us)));
          stop = was.stop;
        } in
        subst (λ x. IsStandingOf g (us ++ u ∷ []) s k x) same (subst (λ j. IsStandingOf g (us ++ u ∷ []) s j (with_tuple here)) e now)

    other : (u.scope.0 ≡ k → ⊥) → IsStandingOf g (us ++ u ∷ []) s k m
    other n =
        let was : IsStandingOf g us s k m = f k s m p (sym (set_elsewhere ms u.scope.0 k (with_tuple here) n) ∙ q) in
        record {
          owner = was.owner;
          restriction = was.restriction;
          tuple = was.tuple ∙ sym (with_given g us u k ∙ (ap (λ b. list_any (gives g k) us || b) (gives_no_other g u k n) ∙ or_none (list_any (gives g k) us)));
          stop = was.stop;
        }

    by : (u.scope.0 ≡ k) ⊎ (u.scope.0 ≡ k → ⊥) → IsStandingOf g (us ++ u ∷ []) s k m
    by (inl e) = own k e p q
    by (inr n) = other n

-- in order, with one more
pub in_order : (us : List Given) (u v : Given) → are_in_order (us ++ u ∷ []) ≡ true → are_in_order ((us ++ u ∷ []) ++ v ∷ []) ≡ nat_le (u.scope.0 + 1) v.scope.0
in_order [] u v e = after u.scope.0 v.scope.0
  where
    after : (a b : ℕ) → (nat_lt a b && true) ≡ nat_le (a + 1) b
    after a b = grind (arith, nat_tests)
in_order (w ∷ []) u v e = ap (λ b. b && are_in_order (u ∷ v ∷ [])) (first (nat_lt w.scope.0 u.scope.0) true e) ∙ in_order [] u v refl
in_order (w ∷ x ∷ us) u v e =
    ap (λ b. b && are_in_order ((x ∷ us ++ u ∷ []) ++ v ∷ [])) (first (nat_lt w.scope.0 x.scope.0) (are_in_order (x ∷ us ++ u ∷ [])) e)
    ∙ in_order (x ∷ us) u v (second (nat_lt w.scope.0 x.scope.0) (are_in_order (x ∷ us ++ u ∷ [])) e)

-- ---- what is read of one scope
module _ (g : Game) (us : List Given) (f : Freedom) (i : ℕ) (r : Standing) (h : i < length f.standings.items) (e : r ≡ get_or f.standings.items i r) (t : StandsFor g us f) where
  there : (s : Scope) × (slice_get g.scopes i ≡ Some s)
  there = item_there g.scopes i (omega (arith, h, t.count))

  standing_is : (s : Scope) → slice_get g.scopes i ≡ Some s → IsStandingOf g us s i r
  standing_is s q = t.each i s r q (slice_get-get_or f.standings.items i r h ∙ ap Some (sym e))

  pub restriction_is : r.is_unrestricted ≡ is_unrestricted g i
  restriction_is = (standing_is there.0 there.1).restriction

  pub stuck_is : never_stuck r ≡ is_never_stuck g us i
  stuck_is =
      ap (λ b. b || r.has_tuple) restriction_is ∙ ap (λ b. is_unrestricted g i || b) (standing_is there.0 there.1).tuple

  pub stop_is : r.stop ≡ force_stop (drop i g.scopes) i
  stop_is = (standing_is there.0 there.1).stop

  -- closing is joint
  joint_is : is_joint g us (drop i g.scopes) i ≡ (is_free g us && (not r.is_opponents || r.is_unrestricted))
  joint_is =
      ap (λ ss. is_joint g us ss i) (drop_at i g.scopes there.0 there.1)
      ∙ ap (λ b. is_free g us && b)
      (stuck_kind there.0.kind (is_unrestricted g i)
      ∙ (ap (λ b. not b || is_unrestricted g i) (sym (standing_is there.0 there.1).owner) ∙ ap (λ b. not r.is_opponents || b) (sym restriction_is)))

  pub joint_here : is_free g us ≡ true → (not r.is_opponents || r.is_unrestricted) ≡ is_joint g us (drop i g.scopes) i
  joint_here n = sym (joint_is ∙ ap (λ b. b && (not r.is_opponents || r.is_unrestricted)) n)

  pub block_ends : is_joint g us (drop i g.scopes) i ≡ false → r.stop ≡ joint_stop g us (drop i g.scopes) i
  block_ends j = stop_is ∙ sym (ap (λ b. cond b (suc (length g.scopes)) (force_stop (drop i g.scopes) i)) j)

-- a table says from where on the opponent is never stuck
pub free_by : (g : Game) (us : List Given) (ms : List Standing) (n : ℕ) → length ms ≡ length g.scopes → AreOf g us ms → ((k : ℕ) → k ≤ length ms → list_all is_passed (drop k ms) ≡ nat_le n k) →
    (k : ℕ) → k ≤ length g.scopes → is_free_from g us (drop k g.scopes) k ≡ nat_le n k
free_by g us ms n l f p k h = free_is g us ms k l f ∙ p k (omega (arith, h, l))

pub given_one : (g : Game) (us : List Given) (u : Given) (f n : Freedom) (d : Standing) → StandsFor g us f → given_placed g u ≡ true → u.scope.0 < length f.standings.items →
    n.standings.items ≡ set f.standings.items u.scope.0 (with_tuple (get_or f.standings.items u.scope.0 d)) →
    ((k : ℕ) → k ≤ length n.standings.items → list_all is_passed (drop k n.standings.items) ≡ nat_le n.free_from k) → n.next ≡ u.scope.0 + 1 → StandsFor g (us ++ u ∷ []) n
given_one g us u f n d t h l e p q =
    let ms = f.standings.items in
    let long : length n.standings.items ≡ length g.scopes = ap length e ∙ (length-set ms u.scope.0 (with_tuple (get_or ms u.scope.0 d)) ∙ t.count) in
    let each : AreOf g (us ++ u ∷ []) n.standings.items = subst (AreOf g (us ++ u ∷ [])) (sym e) (one_given g us u ms d t.count l t.each h) in
    record {
      count = long;
      each = each;
      free = free_by g (us ++ u ∷ []) n.standings.items n.free_from long each p;
      next = λ v o. in_order us u v o ∙ ap (λ m. nat_le m v.scope.0) (sym q);
    }

-- ---- where no tuple is given
pub first_freedom : (g : Game) (f : Freedom) → length f.standings.items ≡ length g.scopes → AreOf g [] f.standings.items →
    ((k : ℕ) → k ≤ length f.standings.items → list_all is_passed (drop k f.standings.items) ≡ nat_le f.free_from k) → f.next ≡ 0 → StandsFor g [] f
first_freedom g f l each p q = record {
  count = l;
  each = each;
  free = free_by g [] f.standings.items f.free_from l each p;
  next = λ u o. sym (ap (λ n. nat_le n u.scope.0) q ∙ zero_le u.scope.0);
}

pub given_at : (g : Game) (us : List Given) (u : Given) (f n : Freedom) (k : ℕ) (r : Standing) → u.scope.0 ≡ k → r ≡ get_or f.standings.items k r → StandsFor g us f → given_placed g u ≡ true → k < length f.standings.items →
    n.standings.items ≡ set f.standings.items k (with_tuple r) →
    ((j : ℕ) → j ≤ length n.standings.items → list_all is_passed (drop j n.standings.items) ≡ nat_le n.free_from j) → n.next ≡ k + 1 → StandsFor g (us ++ u ∷ []) n
given_at g us u f n k r o e t h l q p x =
    let ms = f.standings.items in
    let here : r ≡ get_or ms u.scope.0 r = e ∙ ap (λ j. get_or ms j r) (sym o) in
    given_one g us u f n r t h (omega (arith, o, l)) (q ∙ (ap (λ j. set ms j (with_tuple r)) (sym o) ∙ ap (λ (m : Standing). set ms u.scope.0 (with_tuple m)) here)) p (x ∙ ap (λ j. j + 1) (sym o))
