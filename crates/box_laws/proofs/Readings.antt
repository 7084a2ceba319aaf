-- What is read of a box of a game, and what is there to be read.
use Rattle.std.proofs.Common.{◌≡◌, ℕ, zero, suc, ◌<◌, Bool, true, false, not, cond, [], ◌∷◌, length, take, refl, ◌∙◌, arith, ℤ}
use Rattle.std.specs.Prelude.{◌==◌, int_lt}
use Rattle.std.specs.List.{list_all}
use Rattle.std.proofs.lemmas.List.{length-map}
use Rattle.std.proofs.lemmas.Bool.{and_from}
use Rattle.qc_model.specs.Content.{Game}
use Rattle.qc_model.specs.Domains.{Values, Box, values_left, values_within, box_values, is_none_left, has_empty, least_from, least_value, declared_box, domain_values}
use Rattle.qc_model.specs.Game.{restriction}
use Rattle.qc_model.specs.Valid.{is_number, is_constraint, is_domain}
use Rattle.qc_model.proofs.Readable.{first, second}
use Rattle.model_arguments.specs.Asked.{is_box_of}
use Rattle.model_arguments.proofs.Boxes.{sub_length, left_small}
use Rattle.box_laws.proofs.Filters.{all_filter}

-- a box of the game
pub box_size : (g : Game) (box : Box) → is_box_of g box ≡ true → length box ≡ length g.variables
box_size g box d = sub_length box (declared_box g) d ∙ length-map g.variables (λ x. domain_values x.domain)

pub least_number : (vs : Values) → is_none_left vs ≡ false → list_all is_number vs ≡ true → is_number (least_value vs) ≡ true
least_number [] e n = cc
least_number (v ∷ vs) e n = go v vs (first (is_number v) (list_all is_number vs) n) (second (is_number v) (list_all is_number vs) n)
  where
    go : (v : ℤ) (vs : Values) → is_number v ≡ true → list_all is_number vs ≡ true → is_number (least_from v vs) ≡ true
    go v [] p q = p
    go v (w ∷ vs) p q = by (int_lt w v) (go w vs (first (is_number w) (list_all is_number vs) q) (second (is_number w) (list_all is_number vs) q)) (go v vs p (second (is_number w) (list_all is_number vs) q))
      where
        by : (b : Bool) → is_number (least_from w vs) ≡ true → is_number (least_from v vs) ≡ true → is_number (least_from (cond b w v) vs) ≡ true
        by true e f = e
        by false e f = f

-- the values that are read are numbers
pub read_numbers : (g : Game) (box : Box) (n : ℕ) → list_all (λ x. is_domain x.domain) g.variables ≡ true → is_box_of g box ≡ true → has_empty box ≡ false → list_all is_number (box_values (take n box)) ≡ true
read_numbers g box n valid d full = go box n full (λ y. left_small g box y valid d)
  where
    go : (box : Box) (n : ℕ) → has_empty box ≡ false → ((y : ℕ) → list_all is_number (values_left box y) ≡ true) → list_all is_number (box_values (take n box)) ≡ true
    go [] zero full f = refl
    go [] (suc n) full f = refl
    go (vs ∷ box) zero full f = refl
    go ([] ∷ box) (suc n) full f = cc
    go ((v ∷ vs) ∷ box) (suc n) full f =
        and_from (is_number (least_value (v ∷ vs))) (list_all is_number (box_values (take n box))) (least_number (v ∷ vs) refl (f 0)) (go box n full (λ y. f (suc y)))

pub rules_valid : (g : Game) (i : ℕ) → list_all (is_constraint g.variables) g.constraints ≡ true → list_all (is_constraint g.variables) (restriction g i) ≡ true
rules_valid g i h = all_filter (is_constraint g.variables) (λ c. c.owner.0 == i) g.constraints h

-- a variable with a value in a range is one of the box
pub some_place : (box : Box) (x : ℕ) (lo hi : ℤ) → not (is_none_left (values_within lo hi (values_left box x))) ≡ true → x < length box
some_place [] x lo hi e = cc
some_place (vs ∷ box) zero lo hi e = omega arith
some_place (vs ∷ box) (suc x) lo hi e = let h = some_place box x lo hi e in omega (arith, h)
