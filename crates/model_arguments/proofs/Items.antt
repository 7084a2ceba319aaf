-- Items of an array, and what a box leaves to them once a variable has other values.
use Rattle.std.proofs.Common.{◌≡◌, ◌≢◌, ℕ, zero, suc, ◌<◌, Bool, true, false, List, [], ◌∷◌, length, map, set, get_or, refl, sym, ap, ◌∙◌, arith}
use Rattle.std.specs.Prelude.{◌==◌}
use Rattle.std.specs.List.{list_any, list_all}
use Rattle.std.proofs.lemmas.List.{get_or-set_same, get_or-set_other}
use Rattle.std.proofs.lemmas.Bool.Decides.{nat_tests}
use Rattle.std.proofs.lemmas.Bool.{or_parts, and_from}
use Rattle.qc_model.specs.declared.problem.Arg.{Arg}
use Rattle.qc_model.specs.declared.problem.Arg.TheVariants.{Var, Num}
use Rattle.qc_model.specs.declared.problem.VarId.{VarId}
use Rattle.qc_model.specs.Domains.{Values, Box}
use Rattle.qc_model.specs.Refuted.{left_to}
use Rattle.model_arguments.specs.Repeats.{same_variable, has_repeat}

-- tests of items by their places
pub none_at : (p : Arg → Bool) (xs : List Arg) (k : ℕ) (d : Arg) → list_any p xs ≡ false → k < length xs → p (get_or xs k d) ≡ false
none_at p [] k d h l = absurd (omega arith)
none_at p (x ∷ xs) zero d h l = (or_parts (p x) (list_any p xs) h).0
none_at p (x ∷ xs) (suc k) d h l = none_at p xs k d (or_parts (p x) (list_any p xs) h).1 (omega arith)

pub all_by : (p : Arg → Bool) (xs : List Arg) (e : Arg) → ((k : ℕ) → k < length xs → p (get_or xs k e) ≡ true) → list_all p xs ≡ true
all_by p [] e f = refl
all_by p (x ∷ xs) e f = and_from (p x) (list_all p xs) (f 0 (omega arith)) (all_by p xs e (λ k h. f (suc k) (omega arith)))

-- asked the other way round
pub flipped : (a b : Arg) → same_variable a b ≡ false → same_variable b a ≡ false
flipped (Var x) (Var y) h = flip y.0 x.0 h
  where
    flip : (a b : ℕ) → (a == b) ≡ false → (b == a) ≡ false
    flip a b h = grind (arith, nat_tests)
flipped (Var x) (Num n) h = refl
flipped (Num n) (Var x) h = refl
flipped (Num n) (Num m) h = refl

-- another variable keeps its values
pub other_left : (box : Box) (x : VarId) (us : Values) (a : Arg) → same_variable a (Var x) ≡ false → left_to (set box x.0 us) a ≡ left_to box a
other_left box x us (Var y) h = get_or-set_other box x.0 y.0 us [] (apart x.0 y.0 h)
  where
    apart : (a b : ℕ) → (a == b) ≡ false → b ≢ a
    apart a b h = grind (arith, nat_tests)
other_left box x us (Num n) h = refl

pub others_left : (box : Box) (x : VarId) (us : Values) (xs : List Arg) → list_any (same_variable (Var x)) xs ≡ false → map (left_to (set box x.0 us)) xs ≡ map (left_to box) xs
others_left box x us [] h = refl
others_left box x us (a ∷ xs) h =
    let p = or_parts (same_variable (Var x) a) (list_any (same_variable (Var x)) xs) h in
    ap (λ d. d ∷ map (left_to (set box x.0 us)) xs) (other_left box x us a (flipped (Var x) a p.0)) ∙ ap (λ ds. left_to box a ∷ ds) (others_left box x us xs p.1)

-- a variable that stands once is one item
pub one_left : (box : Box) (x : VarId) (us : Values) (xs : List Arg) (k : ℕ) (e : Arg) → has_repeat xs ≡ false → k < length xs → get_or xs k e ≡ Var x → x.0 < length box →
    map (left_to (set box x.0 us)) xs ≡ set (map (left_to box) xs) k us
one_left box x us [] k e r l q m = absurd (omega (arith, l))
one_left box x us (a ∷ xs) zero e r l q m =
    let p = or_parts (list_any (same_variable a) xs) (has_repeat xs) r in
    ap (λ d. d ∷ map (left_to (set box x.0 us)) xs) (ap (left_to (set box x.0 us)) q ∙ get_or-set_same box x.0 us [] m)
    ∙ ap (λ ds. us ∷ ds) (others_left box x us xs (sym (ap (λ z. list_any (same_variable z) xs) q) ∙ p.0))
one_left box x us (a ∷ xs) (suc k) e r l q m =
    let p = or_parts (list_any (same_variable a) xs) (has_repeat xs) r in
    let apart = ap (same_variable a) (sym q) ∙ none_at (same_variable a) xs k e p.0 (omega (arith, l)) in
    ap (λ d. d ∷ map (left_to (set box x.0 us)) xs) (other_left box x us a apart)
    ∙ ap (λ ds. left_to box a ∷ ds) (one_left box x us xs k e p.1 (omega (arith, l)) q m)
