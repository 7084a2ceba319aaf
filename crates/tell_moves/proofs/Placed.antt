-- Where the values of the first scopes end, scope by scope.
use Rattle.std.proofs.Common.{◌≡◌, ◌∙◌, ℕ, zero, suc, ◌+◌, ◌-◌, ◌<◌, ◌≤◌, true, false, cond, ◌&&◌, List, [], ◌∷◌, ◌++◌, ℤ, length, take, drop, get_or, refl, sym, ap, subst, arith, add-one, nat_lt, length-append}
use Rattle.std.proofs.lemmas.Bool.Decides.{nat_tests}
use Rattle.std.proofs.lemmas.List.{get_or-drop, get_or-take, length-take-le}
use Rattle.qc_model.specs.declared.problem.Scope.{Scope}
use Rattle.qc_model.specs.Content.{Game}
use Rattle.qc_model.specs.Domains.{Box, InBox, declared_box, values_left, has_value}
use Rattle.qc_model.specs.Game.{before, scope_domains}
use Rattle.qc_model.proofs.Before.{before-le, before_up, before-zero}
use Rattle.proof_meaning.proofs.Boxes.{in_append}
use Rattle.qc_play.specs.Play.{lies_in, is_move}
use Rattle.qc_play.proofs.Endings.{move_true}
use Rattle.tell_moves.specs.Stands.{Place, before_scope, missing_at, not_allowed_at, is_end, place_at, place_from, place_of}
use Rattle.tell_moves.proofs.NoTuples.{length_to, in_stop}

-- how many variables a scope has
pub width_is : (g : Game) (i : ℕ) → before g (suc i) - before g i ≡ length (scope_domains g i)
width_is g i =
    let a = length_to (before g i) (before g (suc i)) (declared_box g) (before_up g i) (before-le g (suc i)) in
    omega (arith, a)

-- the scopes from one on
at_scope : (xs : List Scope) (i : ℕ) → i < length xs → (x : Scope) × (drop i xs ≡ x ∷ drop (suc i) xs)
at_scope [] i l = absurd (omega arith)
at_scope (x ∷ xs) zero l = (x, refl)
at_scope (x ∷ xs) (suc i) l = at_scope xs i (omega arith)

pub past_scopes : (xs : List Scope) (i : ℕ) → length xs ≤ i → drop i xs ≡ []
past_scopes [] zero l = refl
past_scopes [] (suc i) l = refl
past_scopes (x ∷ xs) zero l = absurd (omega arith)
past_scopes (x ∷ xs) (suc i) l = past_scopes xs i (omega arith)

module _ (g : Game) (i : ℕ) (a vs : List ℤ) (l : i < length g.scopes) where
  abbrev go : List ℤ → List ℤ → Place
  go b us = place_from g (drop (suc i) g.scopes) (suc i) b us

  abbrev n : ℕ
  n = length (scope_domains g i)

  pub place_here : place_from g (drop i g.scopes) i a vs ≡ place_at g i (length (scope_domains g i)) a vs (place_from g (drop (suc i) g.scopes) (suc i))
  place_here = let r = at_scope g.scopes i l in ap (λ xs. place_from g xs i a vs) r.1

  pub place_ends : is_end (length (scope_domains g i)) vs ≡ true → place_from g (drop i g.scopes) i a vs ≡ before_scope i a
  place_ends e = place_here ∙ ap (λ b. cond b (before_scope i a) (cond (nat_lt (length vs) n) (missing_at i) (cond (is_move g i a (take n vs)) (go (a ++ take n vs) (drop n vs)) (not_allowed_at i)))) e

  pub place_misses : is_end (length (scope_domains g i)) vs ≡ false → nat_lt (length vs) (length (scope_domains g i)) ≡ true → place_from g (drop i g.scopes) i a vs ≡ missing_at i
  place_misses e f =
      place_here
      ∙ (ap (λ b. cond b (before_scope i a) (cond (nat_lt (length vs) n) (missing_at i) (cond (is_move g i a (take n vs)) (go (a ++ take n vs) (drop n vs)) (not_allowed_at i)))) e
      ∙ ap (λ b. cond b (missing_at i) (cond (is_move g i a (take n vs)) (go (a ++ take n vs) (drop n vs)) (not_allowed_at i))) f)

  module _ (e : is_end (length (scope_domains g i)) vs ≡ false) (f : nat_lt (length vs) (length (scope_domains g i)) ≡ false) where
    place_moves : place_from g (drop i g.scopes) i a vs ≡ cond (is_move g i a (take n vs)) (go (a ++ take n vs) (drop n vs)) (not_allowed_at i)
    place_moves =
        place_here
        ∙ (ap (λ b. cond b (before_scope i a) (cond (nat_lt (length vs) n) (missing_at i) (cond (is_move g i a (take n vs)) (go (a ++ take n vs) (drop n vs)) (not_allowed_at i)))) e
        ∙ ap (λ b. cond b (missing_at i) (cond (is_move g i a (take n vs)) (go (a ++ take n vs) (drop n vs)) (not_allowed_at i))) f)

    pub place_bars : is_move g i a (take (length (scope_domains g i)) vs) ≡ false → place_from g (drop i g.scopes) i a vs ≡ not_allowed_at i
    place_bars m = place_moves ∙ ap (λ b. cond b (go (a ++ take n vs) (drop n vs)) (not_allowed_at i)) m

    pub place_goes : is_move g i a (take (length (scope_domains g i)) vs) ≡ true → place_from g (drop i g.scopes) i a vs
        ≡ place_from g (drop (suc i) g.scopes) (suc i) (a ++ take (length (scope_domains g i)) vs) (drop (length (scope_domains g i)) vs)
    place_goes m = place_moves ∙ ap (λ b. cond b (go (a ++ take n vs) (drop n vs)) (not_allowed_at i)) m

-- after an allowed tuple the values are those of all variables before the next scope
pub counted_on : (g : Game) (i : ℕ) (a t : List ℤ) → length a ≡ before g i → length t ≡ length (scope_domains g i) → length (a ++ t) ≡ before g (suc i)
counted_on g i a t e f =
    let w = width_is g i in
    let up = before_up g i in
    let c : length (a ++ t) ≡ length a + length t = length-append a t in
    omega (arith, c, e, f, w, up)

pub declared_on : (g : Game) (i : ℕ) (a t : List ℤ) → length a ≡ before g i → InBox a (declared_box g) → is_move g i a t ≡ true → InBox (a ++ t) (declared_box g)
declared_on g i a t e h m =
    in_append a t (declared_box g) h
    (subst (λ k. InBox t (drop k (declared_box g))) (sym e) (in_stop (before g i) (before g (suc i)) t (declared_box g) (move_true g i a t m).is_tuple))

-- the values of a tuple and its domains, from a place on
lies_here : (k : ℕ) (t : List ℤ) (ds : Box) (v d : ℤ) → k < length t → length t ≡ length ds → v ≡ get_or t k d →
    lies_in (drop k t) (drop k ds) ≡ (has_value (values_left ds k) v && lies_in (drop (suc k) t) (drop (suc k) ds))
lies_here k [] ds v d l e p = absurd (omega arith)
lies_here k (w ∷ t) [] v d l e p = absurd (omega arith)
lies_here zero (w ∷ t) (c ∷ ds) v d l e p = ap (λ z. has_value c z && lies_in t ds) (sym p)
lies_here (suc k) (w ∷ t) (c ∷ ds) v d l e p = lies_here k t ds v d (omega arith) (omega arith) p

-- the domain of a scope's variable is the declared one
pub domain_at : (n stop k : ℕ) (ds : Box) → n + k < stop → values_left (drop n (take stop ds)) k ≡ values_left ds (n + k)
domain_at n stop k ds l = get_or-drop n (take stop ds) k [] ∙ get_or-take stop ds (n + k) [] l

pub lies_on : (g : Game) (i k : ℕ) (t : List ℤ) (v d : ℤ) → k < length t → length t ≡ length (scope_domains g i) → v ≡ get_or t k d → has_value (values_left (declared_box g) (before g i + k)) v ≡ true →
    lies_in (drop (suc k) t) (drop (suc k) (scope_domains g i)) ≡ lies_in (drop k t) (drop k (scope_domains g i))
lies_on g i k t v d l e p h =
    let w = width_is g i in
    let up = before_up g i in
    let at = domain_at (before g i) (before g (suc i)) k (declared_box g) (omega (arith, w, up, l, e)) in
    sym (lies_here k t (scope_domains g i) v d l e p ∙ ap (λ b. b && lies_in (drop (suc k) t) (drop (suc k) (scope_domains g i))) (ap (λ ws. has_value ws v) at ∙ h))

pub lies_not : (g : Game) (i k : ℕ) (t : List ℤ) (v d : ℤ) → k < length t → length t ≡ length (scope_domains g i) → v ≡ get_or t k d → has_value (values_left (declared_box g) (before g i + k)) v ≡ false →
    false ≡ lies_in (drop k t) (drop k (scope_domains g i))
lies_not g i k t v d l e p h =
    let w = width_is g i in
    let up = before_up g i in
    let at = domain_at (before g i) (before g (suc i)) k (declared_box g) (omega (arith, w, up, l, e)) in
    sym (lies_here k t (scope_domains g i) v d l e p ∙ ap (λ b. b && lies_in (drop (suc k) t) (drop (suc k) (scope_domains g i))) (ap (λ ws. has_value ws v) at ∙ h))

is_less : (a b : ℕ) → a < b → nat_lt a b ≡ true
is_less a b l = grind (arith, nat_tests)

not_less : (a b : ℕ) → b ≤ a → nat_lt a b ≡ false
not_less a b l = grind (arith, nat_tests)

-- Of all values the first were taken by the scopes before i, and the others are left.
pub record IsPlaced (g : Game) (all : List ℤ) (i : ℕ) (a vs : List ℤ) : Type 0 where
  pub place : place_from g (drop i g.scopes) i a vs ≡ place_of g all
  pub count : length a ≡ before g i
  pub declared : InBox a (declared_box g)

pub placed_first : (g : Game) (all a : List ℤ) → a ≡ [] → IsPlaced g all 0 a all
placed_first g all a e = subst (λ b. IsPlaced g all 0 b all) (sym e) (record { place = refl; count = sym (before-zero g); declared = tt })

module _ (g : Game) (all : List ℤ) (i : ℕ) (a vs : List ℤ) (l : i < length g.scopes) (p : IsPlaced g all i a vs) (n : ℕ) (w : n ≡ length (scope_domains g i)) where
  pub ends_here : is_end n vs ≡ true → before_scope i a ≡ place_of g all
  ends_here e = sym (place_ends g i a vs l (subst (λ k. is_end k vs ≡ true) w e)) ∙ p.place

  module _ (e : is_end n vs ≡ false) where
    some_left : is_end (length (scope_domains g i)) vs ≡ false
    some_left = subst (λ k. is_end k vs ≡ false) w e

    pub misses_here : length vs < n → missing_at i ≡ place_of g all
    misses_here h = sym (place_misses g i a vs l some_left (is_less (length vs) (length (scope_domains g i)) (subst (λ k. length vs < k) w h))) ∙ p.place

    module _ (h : n ≤ length vs) (t : List ℤ) (te : t ≡ take n vs) where
      enough : nat_lt (length vs) (length (scope_domains g i)) ≡ false
      enough = not_less (length vs) (length (scope_domains g i)) (subst (λ k. k ≤ length vs) w h)

      own : t ≡ take (length (scope_domains g i)) vs
      own = te ∙ ap (λ k. take k vs) w

      pub bars_here : is_move g i a t ≡ false → not_allowed_at i ≡ place_of g all
      bars_here m = sym (place_bars g i a vs l some_left enough (subst (λ u. is_move g i a u ≡ false) own m)) ∙ p.place

      pub goes_on : (b rest : List ℤ) → b ≡ a ++ t → rest ≡ drop n vs → is_move g i a t ≡ true → IsPlaced g all (i + 1) b rest
      goes_on b rest be re m = subst (λ j. IsPlaced g all j b rest) (sym (add-one i)) (record {
        place =
            ap (λ c. place_from g (drop (suc i) g.scopes) (suc i) c rest) (be ∙ ap (λ u. a ++ u) own)
            ∙ (ap (place_from g (drop (suc i) g.scopes) (suc i) (a ++ take (length (scope_domains g i)) vs)) (re ∙ ap (λ k. drop k vs) w)
            ∙ (sym (place_goes g i a vs l some_left enough (subst (λ u. is_move g i a u ≡ true) own m)) ∙ p.place));
        count = ap (λ us. length us) be ∙ counted_on g i a t p.count (ap (λ us. length us) te ∙ (length-take-le n vs h ∙ w));
        declared = subst (λ us. InBox us (declared_box g)) (sym be) (declared_on g i a t p.count p.declared m);
      })
