-- A domain that is as large as the declared one is the declared one.
use Rattle.std.proofs.Common.{◌≡◌, ℕ, zero, suc, ◌≤◌, Bool, true, false, ◌||◌, ◌&&◌, List, [], ◌∷◌, length, map, refl, sym, ap, ◌∙◌, arith, ℤ}
use Rattle.std.specs.Prelude.{slice_get, int_lt, Some}
use Rattle.std.specs.List.{list_all}
use Rattle.std.specs.Ordering.{int_eq}
use Rattle.std.proofs.lemmas.Int.{ints}
use Rattle.std.proofs.lemmas.Bool.{and_from}
use Rattle.qc_model.specs.declared.problem.Variable.{Variable}
use Rattle.qc_model.specs.Content.{Game}
use Rattle.qc_model.specs.Domains.{Values, Box, domain_values, declared_box, values_left, has_value, is_ascending, is_sub_box}
use Rattle.qc_model.specs.Valid.{is_domain}
use Rattle.qc_model.proofs.Readable.{first, second}
use Rattle.model_arguments.proofs.Values.{above_first, ascending_rest}
use Rattle.model_levels.proofs.Ascends.{domain_ascends}

up : (x y z : ℤ) → int_lt x y ≡ true → int_lt y z ≡ true → int_lt x z ≡ true
up x y z e f = grind (arith, ints)

apart : (e v : ℤ) → int_lt e v ≡ true → int_eq v e ≡ false
apart e v l = grind (arith, ints)

is_same : (d e : ℤ) → int_eq d e ≡ true → d ≡ e
is_same d e h = grind (arith, ints)

all_up : (x y : ℤ) (vs : Values) → int_lt x y ≡ true → list_all (int_lt y) vs ≡ true → list_all (int_lt x) vs ≡ true
all_up x y [] l h = refl
all_up x y (v ∷ vs) l h =
    and_from (int_lt x v) (list_all (int_lt x) vs) (up x y v l (first (int_lt y v) (list_all (int_lt y) vs) h)) (all_up x y vs l (second (int_lt y v) (list_all (int_lt y) vs) h))

-- values above the first are among the others
past : (e : ℤ) (es us : Values) → list_all (int_lt e) us ≡ true → list_all (has_value (e ∷ es)) us ≡ true → list_all (has_value es) us ≡ true
past e es [] l h = refl
past e es (v ∷ us) l h =
    and_from (has_value es v) (list_all (has_value es) us)
    (skip (int_eq v e) (has_value es v) (apart e v (first (int_lt e v) (list_all (int_lt e) us) l)) (first (has_value (e ∷ es) v) (list_all (has_value (e ∷ es)) us) h))
    (past e es us (second (int_lt e v) (list_all (int_lt e) us) l) (second (has_value (e ∷ es) v) (list_all (has_value (e ∷ es)) us) h))
  where
    skip : (a b : Bool) → a ≡ false → (a || b) ≡ true → b ≡ true
    skip true b n k = cc
    skip false b n k = k

-- where the first of some values is not the first of the others, it is above that one
later : (d e : ℤ) (es : Values) → int_eq d e ≡ false → is_ascending (e ∷ es) ≡ true → has_value (e ∷ es) d ≡ true → int_lt e d ≡ true
later d e es n a h = among es (above_first e es a) (skip (int_eq d e) (has_value es d) n h)
  where
    skip : (a b : Bool) → a ≡ false → (a || b) ≡ true → b ≡ true
    skip true b n k = cc
    skip false b n k = k

    among : (us : Values) → list_all (int_lt e) us ≡ true → has_value us d ≡ true → int_lt e d ≡ true
    among [] l k = cc
    among (u ∷ us) l k = by (int_eq d u) refl k (among us (second (int_lt e u) (list_all (int_lt e) us) l))
      where
        by : (b : Bool) → int_eq d u ≡ b → (b || has_value us d) ≡ true → (has_value us d ≡ true → int_lt e d ≡ true) → int_lt e d ≡ true
        by true q k f = ap (int_lt e) (is_same d u q) ∙ first (int_lt e u) (list_all (int_lt e) us) l
        by false q k f = f k

-- what is found, by whether the first is the same
module _ (d e : ℤ) (ds es : Values) (a : is_ascending (d ∷ ds) ≡ true) (b : is_ascending (e ∷ es) ≡ true) (h : list_all (has_value (e ∷ es)) (d ∷ ds) ≡ true) where
  rest_in : int_eq d e ≡ true → list_all (has_value es) ds ≡ true
  rest_in q =
      past e es ds (ap (λ u. list_all (int_lt u) ds) (is_same e d (turned d e q)) ∙ above_first d ds a) (second (has_value (e ∷ es) d) (list_all (has_value (e ∷ es)) ds) h)
    where
      turned : (d e : ℤ) → int_eq d e ≡ true → int_eq e d ≡ true
      turned d e h = grind (arith, ints)

  all_in : int_eq d e ≡ false → list_all (has_value es) (d ∷ ds) ≡ true
  all_in n =
      let l = later d e es n b (first (has_value (e ∷ es) d) (list_all (has_value (e ∷ es)) ds) h) in
      past e es (d ∷ ds) (and_from (int_lt e d) (list_all (int_lt e) ds) l (all_up e d ds l (above_first d ds a))) h

-- ascending values that are among others are no more than those
no_more : (ds es : Values) → is_ascending ds ≡ true → is_ascending es ≡ true → list_all (has_value es) ds ≡ true → length ds ≤ length es
no_more [] es a b h = omega arith
no_more (d ∷ ds) [] a b h = cc
no_more (d ∷ ds) (e ∷ es) a b h =
    by (int_eq d e) (λ q. no_more ds es (ascending_rest d ds a) (ascending_rest e es b) (rest_in d e ds es a b h q))
    (λ q. no_more (d ∷ ds) es a (ascending_rest e es b) (all_in d e ds es a b h q))
  where
    by : (q : Bool) → (q ≡ true → length ds ≤ length es) → (q ≡ false → length (d ∷ ds) ≤ length es) → length (d ∷ ds) ≤ length (e ∷ es)
    by true f g = omega (arith, f refl)
    by false f g = omega (arith, g refl)

-- and the same where they are as many
all_same : (ds es : Values) → is_ascending ds ≡ true → is_ascending es ≡ true → list_all (has_value es) ds ≡ true → length ds ≡ length es → ds ≡ es
all_same [] [] a b h l = refl
all_same [] (e ∷ es) a b h l = absurd (omega (arith, l))
all_same (d ∷ ds) [] a b h l = absurd (omega (arith, l))
all_same (d ∷ ds) (e ∷ es) a b h l =
    by (int_eq d e) refl (λ q. all_same ds es (ascending_rest d ds a) (ascending_rest e es b) (rest_in d e ds es a b h q) (omega (arith, l)))
  where
    by : (q : Bool) → int_eq d e ≡ q → (q ≡ true → ds ≡ es) → ◌≡◌ {A = Values} (d ∷ ds) (e ∷ es)
    by true q f = ap (λ u. u ∷ ds) (is_same d e q) ∙ ap (λ us. e ∷ us) (f refl)
    by false q f = absurd (omega (arith, l, no_more (d ∷ ds) es a (ascending_rest e es b) (all_in d e ds es a b h q)))

whole : (box : Box) (xs : List Variable) (y : ℕ) → list_all (λ x. is_domain x.domain) xs ≡ true → is_sub_box box (map (λ x. domain_values x.domain) xs) ≡ true →
    length (values_left box y) ≡ length (values_left (map (λ x. domain_values x.domain) xs) y) → values_left box y ≡ values_left (map (λ x. domain_values x.domain) xs) y
whole [] [] y d s l = refl
whole [] (x ∷ xs) y d s l = cc
whole (vs ∷ box) [] y d s l = cc
whole (vs ∷ box) (x ∷ xs) zero d s l =
    let e = domain_values x.domain in
    let p = first (is_ascending vs && list_all (has_value e) vs) (is_sub_box box (map (λ x. domain_values x.domain) xs)) s in
    all_same vs e (first (is_ascending vs) (list_all (has_value e) vs) p) (domain_ascends x.domain (first (is_domain x.domain) (list_all (λ x. is_domain x.domain) xs) d))
    (second (is_ascending vs) (list_all (has_value e) vs) p) l
whole (vs ∷ box) (x ∷ xs) (suc y) d s l =
    let e = domain_values x.domain in
    whole box xs y (second (is_domain x.domain) (list_all (λ x. is_domain x.domain) xs) d) (second (is_ascending vs && list_all (has_value e) vs) (is_sub_box box (map (λ x. domain_values x.domain) xs)) s) l

-- the declared values of a variable
pub declared_at : (xs : List Variable) (y : ℕ) (x : Variable) → slice_get xs y ≡ Some x → values_left (map (λ x. domain_values x.domain) xs) y ≡ domain_values x.domain
declared_at [] y x e = cc
declared_at (z ∷ xs) zero x e = ap domain_values (ap (λ (v : Variable). v.domain) (inside z x e))
  where
    inside : (z x : Variable) → Some z ≡ Some x → z ≡ x
    inside z x e = cc
declared_at (z ∷ xs) (suc y) x e = declared_at xs y x e

pub domain_at : (xs : List Variable) (y : ℕ) (x : Variable) → slice_get xs y ≡ Some x → list_all (λ x. is_domain x.domain) xs ≡ true → is_domain x.domain ≡ true
domain_at [] y x e d = cc
domain_at (z ∷ xs) zero x e d = ap (λ (v : Variable). is_domain v.domain) (inside x z e) ∙ first (is_domain z.domain) (list_all (λ x. is_domain x.domain) xs) d
  where
    inside : (x z : Variable) → Some z ≡ Some x → x ≡ z
    inside x z e = cc
domain_at (z ∷ xs) (suc y) x e d = domain_at xs y x e (second (is_domain z.domain) (list_all (λ x. is_domain x.domain) xs) d)

-- so many values of a variable are left as it has declared, and then they are those
pub whole_at : (g : Game) (box : Box) (y : ℕ) (x : Variable) → list_all (λ x. is_domain x.domain) g.variables ≡ true → is_sub_box box (declared_box g) ≡ true → slice_get g.variables y ≡ Some x →
    length (values_left box y) ≡ length (domain_values x.domain) → values_left box y ≡ values_left (declared_box g) y
whole_at g box y x d s e l = whole box g.variables y d s (l ∙ ap length (sym (declared_at g.variables y x e)))

pub as_declared : (g : Game) (box : Box) (y : ℕ) (x : Variable) → slice_get g.variables y ≡ Some x → values_left box y ≡ values_left (declared_box g) y → length (values_left box y) ≡ length (domain_values x.domain)
as_declared g box y x e h = ap length (h ∙ declared_at g.variables y x e)
