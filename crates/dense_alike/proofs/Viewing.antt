-- What constraints see of two positions, and of the boxes that they are of.
use Rattle.std.proofs.Common.{◌⊎◌, ◌≡◌, ◌≤◌, ◌<◌, ◌∙◌, ◌+◌, ◌-◌, ℕ, zero, suc, Bool, true, false, ◌&&◌, ◌||◌, not, cond, List, [], ◌∷◌, length, take, drop, map, set, refl, sym, ap, arith, add-one, ℤ, Some, slice_get, inl, inr}
use Rattle.std.specs.Prelude.{get_or, pos, nat_lt, slice_index_or}
use Rattle.std.specs.List.{list_all, list_any}
use Rattle.std.specs.Ordering.{int_eq}
use Rattle.std.proofs.lemmas.Bool.Decides.{nat_tests}
use Rattle.std.proofs.lemmas.List.{get_or-set_same, get_or-set_other, get_or_append_left, get_or-append_right, get_or-take, get_or-map, length-map, length-take-le}
use Rattle.std.proofs.lemmas.Bool.{or_left, and_from}
use Rattle.qc_model.specs.Arguments.{variables_of}
use Rattle.qc_model.specs.Content.{Game, Rule}
use Rattle.qc_model.specs.Domains.{Box, declared_box, values_left, is_single, least_value}
use Rattle.qc_model.specs.Game.{before}
use Rattle.qc_model.specs.Lists.{Among, same_values}
use Rattle.qc_model.specs.Meaning.{meaning_of}
use Rattle.qc_model.specs.Refuted.{left_to}
use Rattle.check_box.proofs.Placing.{single_only}
use Rattle.proof_alike.specs.Alike.{is_among, is_looked_at, is_named, is_seen, sees}
use Rattle.proof_alike.specs.Reading.{Reading, as_sum, as_plus, as_clause, by_value, reading, seen_as}
use Rattle.likeness.specs.Seeing.{is_telling, tells}
use Rattle.proof_alike.proofs.Filling.{fill_all, any_of}
use Rattle.proof_tree.specs.Place.{position}
use Rattle.lemma_list.specs.Entailment.{is_entailed, entailed_by}
use Rattle.dense_tree.specs.Alike.{each_below, is_from, is_read, reads_one_position, declared_from, views}
use Rattle.dense_alike.specs.Starts.{IsStart}
use Rattle.dense_alike.specs.Laid.{laid, viewed, holding, AgreeFrom}
use Rattle.dense_alike.proofs.Below.{below_is, below_same}
use Rattle.dense_alike.proofs.Marking.{seen_read}
use Rattle.dense_alike.proofs.Seeing.{single_same}

-- the constraint is of an earlier scope, or sees the same of both positions
abbrev pub same_view : Game → ℕ → List ℤ → List ℤ → Rule → Bool
same_view g i here there c =
    not (is_from i c) || same_values (viewed g i here (entailed_by c (laid g here)) c) (viewed g i there (entailed_by c (laid g there)) c)

-- the constraint is of an earlier scope, or sees the same of both positions, whether it holds after them or not
abbrev pub seen_same : Game → ℕ → List ℤ → List ℤ → Rule → Bool
seen_same g i here there c = not (is_from i c) || same_values (sees g i here c) (sees g i there c)

pub seen_other : (g : Game) (i : ℕ) (here there : List ℤ) (c : Rule) → is_from i c ≡ false → seen_same g i here there c ≡ true
seen_other g i here there c e = ap (λ b. not b || same_values (sees g i here c) (sees g i there c)) e

-- from item to item
pub all_step : {X : Type 0} (p : X → Bool) (xs : List X) (k : ℕ) (x : X) → slice_get xs k ≡ Some x → list_all p (drop k xs) ≡ (p x && list_all p (drop (k + 1) xs))
all_step {X} p xs k x e = go xs k e ∙ ap (λ n. p x && list_all p (drop n xs)) (sym (add-one k))
  where
    inside : (y : X) → Some y ≡ Some x → y ≡ x
    inside y e = cc

    go : (xs : List X) (k : ℕ) → slice_get xs k ≡ Some x → list_all p (drop k xs) ≡ (p x && list_all p (drop (suc k) xs))
    go [] k e = cc
    go (y ∷ xs) zero e = ap (λ z. p z && list_all p xs) (inside y e)
    go (y ∷ xs) (suc k) e = go xs k e

-- what a list of answers says of a constraint
pub answer_at : {X : Type 0} (f : X → Bool) (xs : List X) (hs : List Bool) (k : ℕ) (x : X) (h : Bool) → hs ≡ map f xs → slice_get xs k ≡ Some x → h ≡ get_or hs k false → h ≡ f x
answer_at {X} f xs hs k x h e s i = i ∙ (ap (λ us. get_or us k false) e ∙ go xs k s)
  where
    inside : (y : X) → Some y ≡ Some x → y ≡ x
    inside y e = cc

    go : (xs : List X) (k : ℕ) → slice_get xs k ≡ Some x → get_or (map f xs) k false ≡ f x
    go [] k s = cc
    go (y ∷ xs) zero s = ap f (inside y s)
    go (y ∷ xs) (suc k) s = go xs k s

pub no_sight : (g : Game) (i : ℕ) (vs : List ℤ) (c : Rule) (h : Bool) → tells c ≡ false → viewed g i vs h c ≡ []
no_sight g i vs c h e = none h (sees g i vs c) (nothing (reading c) e)
  where
    nothing : (r : Reading) → is_telling r ≡ false → seen_as r (λ x. not (is_looked_at g i x)) vs c ≡ []
    nothing as_sum e = cc
    nothing as_plus e = cc
    nothing as_clause e = cc
    nothing by_value e = refl

    none : (h : Bool) (us : List ℤ) → us ≡ [] → cond h [] us ≡ []
    none true us e = refl
    none false us e = e

pub view_told : (g : Game) (i : ℕ) (here there : List ℤ) (c : Rule) (h k : Bool) → h ≡ (is_from i c && tells c && entailed_by c (laid g here)) → k ≡ (is_from i c && tells c && entailed_by c (laid g there)) →
    (not (is_from i c) || same_values (viewed g i here h c) (viewed g i there k c)) ≡ same_view g i here there c
view_told g i here there c h k p q = by (is_from i c) (tells c) refl refl
  where
    told : (f t d b : Bool) → f ≡ true → t ≡ true → b ≡ (f && t && d) → b ≡ d
    told f t d b e m n = n ∙ (ap (λ z. z && t && d) e ∙ ap (λ z. true && z && d) m)

    by : (f t : Bool) → is_from i c ≡ f → tells c ≡ t → (not (is_from i c) || same_values (viewed g i here h c) (viewed g i there k c)) ≡ same_view g i here there c
    by true true e m =
        ap (λ a. not (is_from i c) || same_values (viewed g i here a c) (viewed g i there k c)) (told (is_from i c) (tells c) (entailed_by c (laid g here)) h e m p)
        ∙ ap (λ b. not (is_from i c) || same_values (viewed g i here (entailed_by c (laid g here)) c) (viewed g i there b c)) (told (is_from i c) (tells c) (entailed_by c (laid g there)) k e m q)
    by true false e m =
        ap (λ us. not (is_from i c) || same_values us (viewed g i there k c)) (no_sight g i here c h m)
        ∙ (ap (λ us. not (is_from i c) || same_values [] us) (no_sight g i there c k m)
        ∙ sym
        (ap (λ us. not (is_from i c) || same_values us (viewed g i there (entailed_by c (laid g there)) c)) (no_sight g i here c (entailed_by c (laid g here)) m)
        ∙ ap (λ us. not (is_from i c) || same_values [] us) (no_sight g i there c (entailed_by c (laid g there)) m)))
    by false t e m =
        ap (λ f. not f || same_values (viewed g i here h c) (viewed g i there k c)) e
        ∙ sym (ap (λ f. not f || same_values (viewed g i here (entailed_by c (laid g here)) c) (viewed g i there (entailed_by c (laid g there)) c)) e)

pub view_other : (g : Game) (i : ℕ) (here there : List ℤ) (c : Rule) → is_from i c ≡ false → same_view g i here there c ≡ true
view_other g i here there c e = ap (λ b. not b || same_values (viewed g i here (entailed_by c (laid g here)) c) (viewed g i there (entailed_by c (laid g there)) c)) e

-- a constraint is entailed alike where its variables have the same left
pub entailed_same : (c : Rule) (a b : Box) → ((x : ℕ) → is_among (variables_of c.args) x ≡ true → values_left a x ≡ values_left b x) → entailed_by c a ≡ entailed_by c b
entailed_same c a b h = ap (is_entailed (meaning_of c.pred)) (fill_all (left_to a) (left_to b) c.args (record { number = λ n. refl; variable = λ x m. h x.0 m }))

-- the least value of an earlier variable stands at its place
pub position_at : (g : Game) (i : ℕ) (a : Box) (x : ℕ) → before g i ≤ length a → x < before g i → slice_index_or (position g i a) x (pos 0) ≡ least_value (values_left a x)
position_at g i a x m l =
    get_or-map least_value (take (before g i) a) x [] (pos 0) (omega (arith, l, length-take-le (before g i) a m))
    ∙ ap least_value (get_or-take (before g i) a x [] l)

pub position_size : (g : Game) (i : ℕ) (a : Box) → before g i ≤ length a → length (position g i a) ≡ before g i
position_size g i a m = length-map (take (before g i) a) least_value ∙ length-take-le (before g i) a m

module _ (g : Game) (i : ℕ) (a : Box) (m : before g i ≤ length a) (once : reads_one_position g i a ≡ true) where
  n : ℕ
  n = before g i

  read_single : (x : ℕ) → x < before g i → is_read g i x ≡ true → is_single (values_left a x) ≡ true
  read_single x l r = strip (is_read g i x) (is_single (values_left a x)) r (below_is (λ y. not (is_read g i y) || is_single (values_left a y)) (before g i) x once l)
    where
      strip : (p q : Bool) → p ≡ true → (not p || q) ≡ true → q ≡ true
      strip true q e h = h
      strip false q e h = cc

  laid_front : (x : ℕ) → x < before g i → values_left (laid g (position g i a)) x ≡ least_value (values_left a x) ∷ []
  laid_front x l =
      let vs = position g i a in
      let size = position_size g i a m in
      get_or_append_left (map (λ v. v ∷ []) vs) (drop (length vs) (declared_box g)) [] x (omega (arith, l, size, length-map vs (λ v. v ∷ [])))
      ∙ (get_or-map (λ v. v ∷ []) vs x (pos 0) [] (omega (arith, l, size)) ∙ ap (λ v. v ∷ []) (position_at g i a x m l))

  declared_front : (x : ℕ) → x < before g i → values_left (declared_from g i a) x ≡ values_left a x
  declared_front x l =
      get_or_append_left (take (before g i) a) (drop (before g i) (declared_box g)) [] x (omega (arith, l, length-take-le (before g i) a m)) ∙ get_or-take (before g i) a x [] l

  backs : (x : ℕ) → before g i ≤ x → values_left (laid g (position g i a)) x ≡ values_left (declared_from g i a) x
  backs x l =
      let vs = position g i a in
      let size = position_size g i a m in
      get_or-append_right (map (λ v. v ∷ []) vs) (drop (length vs) (declared_box g)) (before g i) x [] (length-map vs (λ v. v ∷ []) ∙ size) l
      ∙ (ap (λ k. get_or (drop k (declared_box g)) (x - before g i) []) size
      ∙ sym (get_or-append_right (take (before g i) a) (drop (before g i) (declared_box g)) (before g i) x [] (length-take-le (before g i) a m) l))

  laid_as : (c : Rule) → Among c g.constraints → is_from i c ≡ true → (x : ℕ) → is_among (variables_of c.args) x ≡ true → values_left (laid g (position g i a)) x ≡ values_left (declared_from g i a) x
  laid_as c k f x e = by (nat_lt x (before g i)) refl
    where
      less : (x n : ℕ) → nat_lt x n ≡ true → x < n
      less x n e = grind (arith, nat_tests)

      past : (x n : ℕ) → nat_lt x n ≡ false → n ≤ x
      past x n e = grind (arith, nat_tests)

      read : is_read g i x ≡ true
      read =
          or_left (list_any (λ d. is_from i d && is_among (variables_of d.args) x) g.constraints) (is_named g x)
          (any_of (λ d. is_from i d && is_among (variables_of d.args) x) g.constraints c k (and_from (is_from i c) (is_among (variables_of c.args) x) f e))

      by : (b : Bool) → nat_lt x (before g i) ≡ b → values_left (laid g (position g i a)) x ≡ values_left (declared_from g i a) x
      by true h =
          let l = less x (before g i) h in
          laid_front x l ∙ (sym (single_only (values_left a x) (read_single x l read)) ∙ sym (declared_front x l))
      by false h = backs x (past x (before g i) h)

  pub view_is : (c : Rule) → Among c g.constraints → is_from i c ≡ true → viewed g i (position g i a) (entailed_by c (laid g (position g i a))) c ≡ views g i a c
  view_is c k f = ap (λ b. cond b [] (sees g i (position g i a) c)) (entailed_same c (laid g (position g i a)) (declared_from g i a) (laid_as c k f))

all_same : {X : Type 0} (p q : X → Bool) (xs : List X) → ((x : X) → Among x xs → p x ≡ q x) → list_all p xs ≡ list_all q xs
all_same p q [] f = refl
all_same p q (x ∷ xs) f = ap (λ b. b && list_all p xs) (f x (inl refl)) ∙ ap (λ b. q x && b) (all_same p q xs (λ y m. f y (inr m)))

-- so two positions look the same exactly where their boxes do
module _ (g : Game) (i : ℕ) (a b : Box) (m : before g i ≤ length a) (k : before g i ≤ length b) (once : reads_one_position g i a ≡ true) (twice : reads_one_position g i b ≡ true) where
  pub views_are : list_all (same_view g i (position g i a) (position g i b)) g.constraints ≡ list_all (λ c. not (is_from i c) || same_values (views g i a c) (views g i b c)) g.constraints
  views_are = all_same (same_view g i (position g i a) (position g i b)) (λ c. not (is_from i c) || same_values (views g i a c) (views g i b c)) g.constraints (λ c n. one c n (is_from i c) refl)
    where
      one : (c : Rule) → Among c g.constraints → (f : Bool) → is_from i c ≡ f → same_view g i (position g i a) (position g i b) c ≡ (not (is_from i c) || same_values (views g i a c) (views g i b c))
      one c n true e =
          ap (λ us. not (is_from i c) || same_values us (viewed g i (position g i b) (entailed_by c (laid g (position g i b))) c)) (view_is g i a m once c n e)
          ∙ ap (λ us. not (is_from i c) || same_values (views g i a c) us) (view_is g i b k twice c n e)
      one c n false e =
          view_other g i (position g i a) (position g i b) c e
          ∙ sym (ap (λ f. not f || same_values (views g i a c) (views g i b c)) e)

  pub seen_are : each_below (before g i) (λ x. not (is_seen g i x) || int_eq (slice_index_or (position g i a) x (pos 0)) (slice_index_or (position g i b) x (pos 0)))
      ≡ each_below (before g i) (λ x. not (is_seen g i x) || same_values (values_left a x) (values_left b x))
  seen_are =
      below_same (λ x. not (is_seen g i x) || int_eq (slice_index_or (position g i a) x (pos 0)) (slice_index_or (position g i b) x (pos 0))) (λ x. not (is_seen g i x) || same_values (values_left a x) (values_left b x)) (before g i)
      (λ x l. one x l (is_seen g i x) refl)
    where
      one : (x : ℕ) → x < before g i → (s : Bool) → is_seen g i x ≡ s →
          (not (is_seen g i x) || int_eq (slice_index_or (position g i a) x (pos 0)) (slice_index_or (position g i b) x (pos 0))) ≡ (not (is_seen g i x) || same_values (values_left a x) (values_left b x))
      one x l true e =
          let r = seen_read g i x e in
          ap (λ v. not (is_seen g i x) || v)
          (ap (λ v. int_eq v (slice_index_or (position g i b) x (pos 0))) (position_at g i a x m l)
          ∙ (ap (int_eq (least_value (values_left a x))) (position_at g i b x k l)
          ∙ sym (single_same (values_left a x) (values_left b x) (read_single g i a m once x l r) (read_single g i b k twice x l r))))
      one x l false e =
          ap (λ s. not s || int_eq (slice_index_or (position g i a) x (pos 0)) (slice_index_or (position g i b) x (pos 0))) e
          ∙ sym (ap (λ s. not s || same_values (values_left a x) (values_left b x)) e)

-- one answer more
pub some_at : {X : Type 0} (xs : List X) (k : ℕ) → k < length xs → (x : X) × (slice_get xs k ≡ Some x)
some_at [] k l = absurd (omega arith)
some_at (x ∷ xs) zero l = (x, refl)
some_at (x ∷ xs) (suc k) l = some_at xs k (omega arith)

pub answers_more : {X : Type 0} (f : X → Bool) (xs : List X) (hs : List Bool) (k : ℕ) (x : X) (h : Bool) (j : ℕ) → k < length hs → slice_get xs k ≡ Some x → h ≡ f x → j < k + 1 → (j < k → get_or hs j false ≡ get_or (map f xs) j false) →
    get_or (set hs k h) j false ≡ get_or (map f xs) j false
answers_more f xs hs k x h j l s e m old = by (or_last j k m)
  where
    or_last : (j k : ℕ) → j < k + 1 → (j ≡ k) ⊎ (j < k)
    or_last j k m = grind arith

    apart : (j k : ℕ) → j < k → j ≡ k → ⊥
    apart j k l e = omega (arith, l, e)

    by : ((j ≡ k) ⊎ (j < k)) → get_or (set hs k h) j false ≡ get_or (map f xs) j false
    by (inl q) =
        ap (λ n. get_or (set hs k h) n false) q
        ∙ (get_or-set_same hs k h false l ∙ (e ∙ (sym (answer_at f xs (map f xs) k x (get_or (map f xs) k false) refl s refl) ∙ ap (λ n. get_or (map f xs) n false) (sym q))))
    by (inr n) = get_or-set_other hs k j h false (apart j k n) ∙ old n

pub held_at : (g : Game) (i start : ℕ) (vs : List ℤ) (hs : List Bool) (k : ℕ) (r : Rule) → AgreeFrom start (holding g i vs) hs → start ≤ k → slice_get g.constraints k ≡ Some r → get_or hs k false ≡ (is_from i r && tells r && entailed_by r (laid g vs))
held_at g i start vs hs k r a l s =
    let f : Rule → Bool = λ c. is_from i c && tells c && entailed_by c (laid g vs) in
    a k l (omega (arith, inside g.constraints k r s, length-map g.constraints f)) ∙ answer_at f g.constraints (holding g i vs) k r (get_or (holding g i vs) k false) refl s refl
  where
    inside : (cs : List Rule) (k : ℕ) (r : Rule) → slice_get cs k ≡ Some r → k < length cs
    inside [] k r s = cc
    inside (c ∷ cs) zero r s = omega arith
    inside (c ∷ cs) (suc k) r s = omega (arith, inside cs k r s)

-- nothing is asked of the constraints before a place, which are of earlier scopes
pub all_from : (g : Game) (i start : ℕ) (p : Rule → Bool) → ((c : Rule) → is_from i c ≡ false → p c ≡ true) → IsStart g i start → list_all p (drop start g.constraints) ≡ list_all p g.constraints
all_from g i start p other h = go g.constraints start h
  where
    go : (cs : List Rule) (n : ℕ) → ((k : ℕ) (c : Rule) → k < n → slice_get cs k ≡ Some c → is_from i c ≡ false) → list_all p (drop n cs) ≡ list_all p cs
    go cs zero f = refl
    go [] (suc n) f = refl
    go (c ∷ cs) (suc n) f = go cs n (λ k d l s. f (suc k) d (omega (arith, l)) s) ∙ sym (ap (λ b. b && list_all p cs) (other c (f 0 c (omega arith) refl)))

-- what is seen in the game that is known
pub seen_in : (g reads : Game) (i : ℕ) (here there : List ℤ) (r : Rule) (h k b : Bool) → reads ≡ g → b ≡ (not (is_from i r) || same_values (viewed reads i here h r) (viewed reads i there k r)) →
    b ≡ (not (is_from i r) || same_values (viewed g i here h r) (viewed g i there k r))
seen_in g reads i here there r h k b e q = q ∙ ap (λ (z : Game). not (is_from i r) || same_values (viewed z i here h r) (viewed z i there k r)) e

pub seen_alike_in : (g reads : Game) (i : ℕ) (here there : List ℤ) (r : Rule) (b : Bool) → reads ≡ g → b ≡ seen_same reads i here there r → b ≡ seen_same g i here there r
seen_alike_in g reads i here there r b e q = q ∙ ap (λ (z : Game). seen_same z i here there r) e
