-- Which numbers a domain has, and that the values of a tuple are numbers.
use Rattle.std.proofs.Common.{◌≡◌, inl, inr, ℕ, zero, suc, ◌+◌, ◌<◌, ◌≤◌, Bool, true, false, ◌&&◌, ◌||◌, List, [], ◌∷◌, ◌++◌, length, map, take, drop, refl, sym, ap, ◌∙◌, arith, ℤ, pos, ◌+ℤ◌, ◌-ℤ◌, ◌≤ℤ◌, ◌-◌, get_or, add-one}
use Rattle.std.specs.Prelude.{int_le, int_lt, nat_abs, filter, ◌==◌}
use Rattle.std.proofs.lemmas.List.{drop-take, drop-map, take-map}
use Rattle.qc_model.proofs.InOrder.{part_equal}
use Rattle.qc_model.proofs.Before.{before_up}
use Rattle.qc_play.specs.Play.{lies_in}
use Rattle.std.specs.Ordering.{int_eq}
use Rattle.std.specs.List.{list_all}
use Rattle.std.proofs.lemmas.Int.{ints}
use Rattle.std.proofs.lemmas.Bool.Decides.{Decides-int_eq}
use Rattle.std.proofs.lemmas.Bool.{and_parts, and_from}
use Rattle.qc_model.specs.declared.problem.Domain.TheVariants.{Range}
use Rattle.qc_model.specs.declared.problem.Variable.{Variable}
use Rattle.qc_model.specs.Content.{Game}
use Rattle.qc_model.specs.Lists.{Among, LiesIn, numbers_from}
use Rattle.qc_model.specs.Domains.{Values, Box, domain_values, declared_box, has_value}
use Rattle.qc_model.specs.Game.{IsMove, before, scope_domains}
use Rattle.qc_model.specs.Valid.{IsValid, is_number, is_domain}
use Rattle.qc_model.proofs.DomainValues.{range_values, ends_of, domain_fits}
use Rattle.model_arguments.proofs.Bools.{bools_same}
use Rattle.box_laws.proofs.Filters.{all_filter, all_take, all_drop}

-- a number of a row of numbers
abbrev in_row : ℤ → ℕ → ℤ → Bool
in_row low n v = int_le low v && int_lt v (low +ℤ pos n)

none_in : (low v : ℤ) → in_row low 0 v ≡ false
none_in low v = by (int_le low v) refl (int_lt v (low +ℤ pos 0)) refl
  where
    by : (a : Bool) → int_le low v ≡ a → (b : Bool) → int_lt v (low +ℤ pos 0) ≡ b → (a && b) ≡ false
    by false e b f = refl
    by true e false f = refl
    by true e true f = absurd (clash low v e f)
      where
        clash : (low v : ℤ) → int_le low v ≡ true → int_lt v (low +ℤ pos 0) ≡ true → ⊥
        clash low v e f = grind (arith, ints)

first_in : (low v : ℤ) (n : ℕ) → v ≡ low → in_row low (suc n) v ≡ true
first_in low v n e = and_from (int_le low v) (int_lt v (low +ℤ pos (suc n))) (above low v e) (below low v n e)
  where
    above : (low v : ℤ) → v ≡ low → int_le low v ≡ true
    above low v e = grind (arith, ints)

    below : (low v : ℤ) (n : ℕ) → v ≡ low → int_lt v (low +ℤ pos (suc n)) ≡ true
    below low v n e = grind (arith, ints)

other_in : (low v : ℤ) (n : ℕ) → ¬ (v ≡ low) → in_row (low +ℤ pos 1) n v ≡ in_row low (suc n) v
other_in low v n e = ap (λ b. b && int_lt v ((low +ℤ pos 1) +ℤ pos n)) (above low v e) ∙ ap (λ z. int_le low v && int_lt v z) (next low n)
  where
    next : (low : ℤ) (n : ℕ) → (low +ℤ pos 1) +ℤ pos n ≡ low +ℤ pos (suc n)
    next low n = omega (arith, ints)

    up : (low v : ℤ) → ¬ (v ≡ low) → int_le (low +ℤ pos 1) v ≡ true → int_le low v ≡ true
    up low v e h = grind (arith, ints)

    down : (low v : ℤ) → ¬ (v ≡ low) → int_le low v ≡ true → int_le (low +ℤ pos 1) v ≡ true
    down low v e h = grind (arith, ints)

    above : (low v : ℤ) → ¬ (v ≡ low) → int_le (low +ℤ pos 1) v ≡ int_le low v
    above low v e = bools_same (int_le (low +ℤ pos 1) v) (int_le low v) (up low v e) (down low v e)

has_numbers : (low : ℤ) (n : ℕ) (v : ℤ) → has_value (numbers_from low n) v ≡ in_row low n v
has_numbers low zero v = sym (none_in low v)
has_numbers low (suc n) v = by (int_eq v low) refl (has_numbers (low +ℤ pos 1) n v)
  where
    by : (b : Bool) → int_eq v low ≡ b → has_value (numbers_from (low +ℤ pos 1) n) v ≡ in_row (low +ℤ pos 1) n v → (b || has_value (numbers_from (low +ℤ pos 1) n) v) ≡ in_row low (suc n) v
    by true e rest = sym (first_in low v n ((Decides-int_eq v low).0 e))
    by false e rest = rest ∙ other_in low v n (λ q. absurd (differ (sym e ∙ (Decides-int_eq v low).1 q)))
      where
        differ : false ≡ true → ⊥
        differ k = cc

-- a range has the numbers from its least to its greatest
pub range_has : (low high v : ℤ) → is_domain (Range low high) ≡ true → has_value (domain_values (Range low high)) v ≡ (int_le low v && int_le v high)
range_has low high v e =
    ap (λ vs. has_value vs v) (range_values low high e)
    ∙ (has_numbers low (nat_abs (high -ℤ low) + 1) v ∙ ap (λ b. int_le low v && b) (last low high v (ends_of low high e).rises))
  where
    width : (low high : ℤ) → low ≤ℤ high → low +ℤ pos (nat_abs (high -ℤ low) + 1) ≡ high +ℤ pos 1
    width low high h = grind (arith, ints)

    up : (v high : ℤ) → int_lt v (high +ℤ pos 1) ≡ true → int_le v high ≡ true
    up v high h = grind (arith, ints)

    down : (v high : ℤ) → int_le v high ≡ true → int_lt v (high +ℤ pos 1) ≡ true
    down v high h = grind (arith, ints)

    last : (low high v : ℤ) → low ≤ℤ high → int_lt v (low +ℤ pos (nat_abs (high -ℤ low) + 1)) ≡ int_le v high
    last low high v h = ap (int_lt v) (width low high h) ∙ bools_same (int_lt v (high +ℤ pos 1)) (int_le v high) (up v high) (down v high)

-- the values of a move are numbers
among_number : (v : ℤ) (d : Values) → list_all is_number d ≡ true → Among v d → is_number v ≡ true
among_number v [] h m = absurd m
among_number v (w ∷ d) h m = let p = and_parts (is_number w) (list_all is_number d) h in elim m [ inl e ↦ ap is_number e ∙ p.0 | inr n ↦ among_number v d p.1 n ]

pub lies_numbers : (t : List ℤ) (ds : Box) → list_all (list_all is_number) ds ≡ true → LiesIn t ds → list_all is_number t ≡ true
lies_numbers [] ds h l = refl
lies_numbers (v ∷ t) [] h l = absurd l
lies_numbers (v ∷ t) (d ∷ ds) h l = let p = and_parts (list_all is_number d) (list_all (list_all is_number) ds) h in and_from (is_number v) (list_all is_number t) (among_number v d p.0 l.0) (lies_numbers t ds p.1 l.1)

declared_numbers : (xs : List Variable) → list_all (λ x. is_domain x.domain) xs ≡ true → list_all (list_all is_number) (map (λ x. domain_values x.domain) xs) ≡ true
declared_numbers [] h = refl
declared_numbers (x ∷ xs) h = let p = and_parts (is_domain x.domain) (list_all (λ y. is_domain y.domain) xs) h in and_from (list_all is_number (domain_values x.domain)) (list_all (list_all is_number) (map (λ y. domain_values y.domain) xs)) (domain_fits x.domain p.0) (declared_numbers xs p.1)

pub scope_numbers : (g : Game) (i : ℕ) → IsValid g → list_all (list_all is_number) (scope_domains g i) ≡ true
scope_numbers g i valid =
    (all_drop (list_all is_number) (before g i) (take (before g (suc i)) (declared_box g)) (all_take (list_all is_number) (before g (suc i)) (declared_box g) (declared_numbers g.variables valid.domains)))

pub move_numbers : (g : Game) (i : ℕ) (a t : List ℤ) → IsValid g → IsMove g i a t → list_all is_number t ≡ true
move_numbers g i a t valid m = lies_numbers t (scope_domains g i) (scope_numbers g i valid) m.is_tuple

pub numbers_both : (a t : List ℤ) → list_all is_number a ≡ true → list_all is_number t ≡ true → list_all is_number (a ++ t) ≡ true
numbers_both [] t h k = k
numbers_both (v ∷ a) t h k = let p = and_parts (is_number v) (list_all is_number a) h in and_from (is_number v) (list_all is_number (a ++ t)) p.0 (numbers_both a t p.1 k)

-- a part of a list by variables
pub own_domains : (g : Game) (i : ℕ) → IsValid g → list_all (λ x. is_domain x.domain) (filter (λ x. x.scope.0 == i) g.variables) ≡ true
own_domains g i valid = all_filter (λ x. is_domain x.domain) (λ x. x.scope.0 == i) g.variables valid.domains

taken_part : {X : Type 0} (a b : ℕ) (xs : List X) → a ≤ b → take (b - a) (drop a xs) ≡ drop a (take b xs)
taken_part a b xs h = sym (drop-take a (b - a) xs) ∙ ap (λ n. drop a (take n xs)) (sum a b h)
  where
    sum : (a b : ℕ) → a ≤ b → a + (b - a) ≡ b
    sum a b h = omega arith

pub own_values : (g : Game) (i : ℕ) → IsValid g → map (λ x. domain_values x.domain) (filter (λ x. x.scope.0 == i) g.variables) ≡ scope_domains g i
own_values g i valid =
    let f : Variable → Values = λ x. domain_values x.domain in
    ap (map f) (sym (rw add-one at (part_equal (λ x. x.scope.0) (length g.scopes) i g.variables valid.variable_order)))
    ∙ (sym (ap (take (before g (suc i) - before g i)) (drop-map f (before g i) g.variables) ∙ take-map f (before g (suc i) - before g i) (drop (before g i) g.variables))
    ∙ taken_part (before g i) (before g (suc i)) (map f g.variables) (before_up g i))

-- a tuple and its domains, from a place on
lies_here : (f : Variable → Values) (k : ℕ) (t : List ℤ) (xs : List Variable) (x : Variable) (v d : ℤ) → k < length t → length t ≡ length xs → v ≡ get_or t k d → x ≡ get_or xs k x →
    lies_in (drop k t) (map f (drop k xs)) ≡ (has_value (f x) v && lies_in (drop (suc k) t) (map f (drop (suc k) xs)))
lies_here f k [] xs x v d h e p q = absurd (omega arith)
lies_here f k (w ∷ t) [] x v d h e p q = absurd (omega arith)
lies_here f zero (w ∷ t) (y ∷ xs) x v d h e p q = ap (λ z. has_value (f y) z && lies_in t (map f xs)) (sym p) ∙ ap (λ z. has_value (f z) v && lies_in t (map f xs)) (sym q)
lies_here f (suc k) (w ∷ t) (y ∷ xs) x v d h e p q = lies_here f k t xs x v d (omega arith) (omega arith) p q

pub lies_step : (f : Variable → Values) (k : ℕ) (t : List ℤ) (xs : List Variable) (x : Variable) (v d : ℤ) → k < length t → length t ≡ length xs → v ≡ get_or t k d → x ≡ get_or xs k x → has_value (f x) v ≡ true →
    lies_in (drop (k + 1) t) (map f (drop (k + 1) xs)) ≡ lies_in (drop k t) (map f (drop k xs))
lies_step f k t xs x v d h e p q r = rw add-one (sym (lies_here f k t xs x v d h e p q ∙ ap (λ b. b && lies_in (drop (suc k) t) (map f (drop (suc k) xs))) r))

pub one_of : {X : Type 0} (p : X → Bool) (xs : List X) (k : ℕ) (d : X) → k < length xs → list_all p xs ≡ true → p (get_or xs k d) ≡ true
one_of p [] k d h e = absurd (omega arith)
one_of p (x ∷ xs) zero d h e = (and_parts (p x) (list_all p xs) e).0
one_of p (x ∷ xs) (suc k) d h e = one_of p xs k d (omega arith) (and_parts (p x) (list_all p xs) e).1
