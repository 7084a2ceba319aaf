-- Boxes of a problem's variables.
use Rattle.std.proofs.Common.{◌≡◌, ℕ, zero, suc, ◌<◌, Bool, true, false, not, ◌&&◌, ◌||◌, List, [], ◌∷◌, length, map, set, refl, ap, cond, arith, ℤ}
use Rattle.std.specs.Prelude.{slice_get, filter, pos, negsuc}
use Rattle.std.specs.List.{list_all}
use Rattle.std.specs.Ordering.{int_eq}
use Rattle.std.proofs.lemmas.Int.{ints}
use Rattle.std.proofs.lemmas.Bool.Decides.{nat_tests}
use Rattle.std.proofs.lemmas.List.{length-map}
use Rattle.std.proofs.lemmas.Bool.{and_from}
use Rattle.qc_model.specs.declared.problem.Variable.{Variable}
use Rattle.qc_model.specs.Content.{Game}
use Rattle.qc_model.specs.Domains.{Values, Box, domain_values, declared_box, values_left, is_none_left, has_empty, has_value, is_within, box_without, box_within, is_ascending, is_sub_box}
use Rattle.qc_model.specs.Valid.{is_number, is_domain, is_declared_by}
use Rattle.qc_model.proofs.Readable.{first, second}
use Rattle.qc_model.proofs.DomainValues.{domain_fits}
use Rattle.model_arguments.proofs.Values.{value_passes, all_kept, ascending_kept, has_first}

pub some_left : (box : Box) (y : ℕ) → has_empty box ≡ false → y < length box → is_none_left (values_left box y) ≡ false
some_left [] y f h = absurd (omega arith)
some_left ([] ∷ box) zero f h = cc
some_left ((v ∷ vs) ∷ box) zero f h = refl
some_left ([] ∷ box) (suc y) f h = cc
some_left ((v ∷ vs) ∷ box) (suc y) f h = some_left box y f (omega arith)

pub sub_length : (box large : Box) → is_sub_box box large ≡ true → length box ≡ length large
sub_length [] [] h = refl
sub_length [] (e ∷ es) h = cc
sub_length (d ∷ ds) [] h = cc
sub_length (d ∷ ds) (e ∷ es) h = ap suc (sub_length ds es (second (is_ascending d && list_all (has_value e) d) (is_sub_box ds es) h))

pub sub_ascending : (box large : Box) (y : ℕ) → is_sub_box box large ≡ true → is_ascending (values_left box y) ≡ true
sub_ascending [] large y h = refl
sub_ascending (d ∷ ds) [] y h = cc
sub_ascending (d ∷ ds) (e ∷ es) zero h =
    first (is_ascending d) (list_all (has_value e) d) (first (is_ascending d && list_all (has_value e) d) (is_sub_box ds es) h)
sub_ascending (d ∷ ds) (e ∷ es) (suc y) h = sub_ascending ds es y (second (is_ascending d && list_all (has_value e) d) (is_sub_box ds es) h)

values_small : (box : Box) (xs : List Variable) (y : ℕ) (v : ℤ) → list_all (λ x. is_domain x.domain) xs ≡ true → is_sub_box box (map (λ x. domain_values x.domain) xs) ≡ true →
    has_value (values_left box y) v ≡ true → is_number v ≡ true
values_small [] xs y v d s h = cc
values_small (vs ∷ box) [] y v d s h = cc
values_small (vs ∷ box) (x ∷ xs) zero v d s h =
    let e = domain_values x.domain in
    let p = first (is_ascending vs && list_all (has_value e) vs) (is_sub_box box (map (λ x. domain_values x.domain) xs)) s in
    let q = second (is_ascending vs) (list_all (has_value e) vs) p in
    value_passes is_number e v (domain_fits x.domain (first (is_domain x.domain) (list_all (λ x. is_domain x.domain) xs) d)) (value_passes (has_value e) vs v q h)
values_small (vs ∷ box) (x ∷ xs) (suc y) v d s h =
    let e = domain_values x.domain in
    values_small box xs y v (second (is_domain x.domain) (list_all (λ x. is_domain x.domain) xs) d) (second (is_ascending vs && list_all (has_value e) vs) (is_sub_box box (map (λ x. domain_values x.domain) xs)) s) h

pub value_small : (g : Game) (box : Box) (y : ℕ) (v : ℤ) → list_all (λ x. is_domain x.domain) g.variables ≡ true → is_sub_box box (declared_box g) ≡ true →
    has_value (values_left box y) v ≡ true → is_number v ≡ true
value_small g box y v d s h = values_small box g.variables y v d s h

-- x keeps the values that pass
pub sub_kept : (q : ℤ → Bool) (box large : Box) (x : ℕ) → is_sub_box box large ≡ true → is_sub_box (set box x (filter q (values_left box x))) large ≡ true
sub_kept q [] large x h = h
sub_kept q (d ∷ ds) [] x h = cc
sub_kept q (d ∷ ds) (e ∷ es) zero h =
    let p = first (is_ascending d && list_all (has_value e) d) (is_sub_box ds es) h in
    and_from (is_ascending (filter q d) && list_all (has_value e) (filter q d)) (is_sub_box ds es)
    (and_from (is_ascending (filter q d)) (list_all (has_value e) (filter q d))
    (ascending_kept q d (first (is_ascending d) (list_all (has_value e) d) p))
    (all_kept (has_value e) q d (second (is_ascending d) (list_all (has_value e) d) p)))
    (second (is_ascending d && list_all (has_value e) d) (is_sub_box ds es) h)
sub_kept q (d ∷ ds) (e ∷ es) (suc x) h =
    and_from (is_ascending d && list_all (has_value e) d) (is_sub_box (set ds x (filter q (values_left ds x))) es)
    (first (is_ascending d && list_all (has_value e) d) (is_sub_box ds es) h)
    (sub_kept q ds es x (second (is_ascending d && list_all (has_value e) d) (is_sub_box ds es) h))

pub sub_without : (box large : Box) (x : ℕ) (lo hi : ℤ) → is_sub_box box large ≡ true → is_sub_box (box_without box x lo hi) large ≡ true
sub_without box large x lo hi h = sub_kept (λ v. not (is_within lo hi v)) box large x h

pub sub_within : (box large : Box) (x : ℕ) (lo hi : ℤ) → is_sub_box box large ≡ true → is_sub_box (box_within box x lo hi) large ≡ true
sub_within box large x lo hi h = sub_kept (is_within lo hi) box large x h

pub set_full : (box : Box) (x : ℕ) (us : Values) → has_empty box ≡ false → is_none_left us ≡ false → has_empty (set box x us) ≡ false
set_full [] x us h n = refl
set_full ([] ∷ box) x us h n = cc
set_full ((v ∷ vs) ∷ box) zero us h n = by (is_none_left us) n
  where
    by : (b : Bool) → b ≡ false → (b || has_empty box) ≡ false
    by true e = cc
    by false e = h
set_full ((v ∷ vs) ∷ box) (suc x) us h n = set_full box x us h n

-- nothing goes where all values pass
kept_all : (q : ℤ → Bool) (vs : Values) → list_all q vs ≡ true → filter q vs ≡ vs
kept_all q [] h = refl
kept_all q (v ∷ vs) h = by (q v) (first (q v) (list_all q vs) h) (kept_all q vs (second (q v) (list_all q vs) h))
  where
    by : (b : Bool) → b ≡ true → filter q vs ≡ vs → cond b (v ∷ filter q vs) (filter q vs) ≡ v ∷ vs
    by true e f = ap (λ l. v ∷ l) f
    by false e f = cc

pub set_same : (box : Box) (x : ℕ) (us : Values) → us ≡ values_left box x → set box x us ≡ box
set_same [] x us h = refl
set_same (vs ∷ box) zero us h = ap (λ l. l ∷ box) h
set_same (vs ∷ box) (suc x) us h = ap (λ l. vs ∷ l) (set_same box x us h)

pub left_small : (g : Game) (box : Box) (y : ℕ) → list_all (λ x. is_domain x.domain) g.variables ≡ true → is_sub_box box (declared_box g) ≡ true → list_all is_number (values_left box y) ≡ true
left_small g box y d s = all_of (values_left box y) (λ v h. value_small g box y v d s h)
  where
    or_left : (v : ℤ) (vs : Values) → has_value (v ∷ vs) v ≡ true
    or_left v vs = has_first v vs

    skip : (a b : Bool) → b ≡ true → (a || b) ≡ true
    skip true b h = refl
    skip false b h = h

    all_of : (vs : Values) → ((v : ℤ) → has_value vs v ≡ true → is_number v ≡ true) → list_all is_number vs ≡ true
    all_of [] f = refl
    all_of (v ∷ vs) f = and_from (is_number v) (list_all is_number vs) (f v (or_left v vs)) (all_of vs (λ w h. f w (skip (int_eq w v) (has_value vs w) h)))

all_weaker : (p q : ℤ → Bool) → ((v : ℤ) → p v ≡ true → q v ≡ true) → (vs : Values) → list_all p vs ≡ true → list_all q vs ≡ true
all_weaker p q f [] h = refl
all_weaker p q f (v ∷ vs) h = and_from (q v) (list_all q vs) (f v (first (p v) (list_all p vs) h)) (all_weaker p q f vs (second (p v) (list_all p vs) h))

-- the whole range keeps everything
pub within_all : (g : Game) (box : Box) (y : ℕ) → list_all (λ x. is_domain x.domain) g.variables ≡ true → is_sub_box box (declared_box g) ≡ true → box_within box y (negsuc 999999999) (pos 1000000000) ≡ box
within_all g box y d s =
    set_same box y (filter (is_within (negsuc 999999999) (pos 1000000000)) (values_left box y))
    (kept_all (is_within (negsuc 999999999) (pos 1000000000)) (values_left box y) (all_weaker is_number (is_within (negsuc 999999999) (pos 1000000000)) small (values_left box y) (left_small g box y d s)))
  where
    small : (v : ℤ) → is_number v ≡ true → is_within (negsuc 999999999) (pos 1000000000) v ≡ true
    small v h = grind (arith, nat_tests, ints)

pub declared_below : (xs : List Variable) (i k : ℕ) → is_declared_by i (slice_get xs k) ≡ true → k < length xs
declared_below [] i zero h = cc
declared_below [] i (suc k) h = cc
declared_below (x ∷ xs) i zero h = omega arith
declared_below (x ∷ xs) i (suc k) h = omega (arith, declared_below xs i k h)

-- a variable that a constraint sees has a place in the box
pub seen_place : (g : Game) (box : Box) (i k : ℕ) → is_sub_box box (declared_box g) ≡ true → is_declared_by i (slice_get g.variables k) ≡ true → k < length box
seen_place g box i k s h =
    omega (arith, sub_length box (declared_box g) s, length-map g.variables (λ x. domain_values x.domain), declared_below g.variables i k h)
