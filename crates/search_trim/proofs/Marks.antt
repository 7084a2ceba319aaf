-- Marks at variables that are wanted.
use Rattle.std.proofs.Common.{◌≡◌, ℕ, zero, suc, ◌+◌, ◌<◌, length, drop, get_or, sym, ap, ◌∙◌, Bool, true, List, [], ◌∷◌, ◌++◌, refl}
use Rattle.std.specs.List.{list_all}
use Rattle.std.proofs.lemmas.List.{at_drop_more}
use Rattle.std.proofs.lemmas.Bool.{and_from}
use Rattle.qc_model.specs.declared.problem.Argument.{Argument}
use Rattle.qc_model.specs.Arguments.{argument_variables, variables_of}
use Rattle.search_trim.specs.Slice.{is_wanted, wanting, wanting_all}

pub wanted_still : (marks : List Bool) (x y : ℕ) → is_wanted marks y ≡ true → is_wanted (wanting marks x) y ≡ true
wanted_still [] x y e = refl
wanted_still (m ∷ marks) zero zero e = refl
wanted_still (m ∷ marks) zero (suc y) e = e
wanted_still (m ∷ marks) (suc x) zero e = e
wanted_still (m ∷ marks) (suc x) (suc y) e = wanted_still marks x y e

pub wanted_now : (marks : List Bool) (x : ℕ) → is_wanted (wanting marks x) x ≡ true
wanted_now [] x = refl
wanted_now (m ∷ marks) zero = refl
wanted_now (m ∷ marks) (suc x) = wanted_now marks x

pub all_still : (marks : List Bool) (xs : List ℕ) (y : ℕ) → is_wanted marks y ≡ true → is_wanted (wanting_all marks xs) y ≡ true
all_still marks [] y e = e
all_still marks (x ∷ xs) y e = all_still (wanting marks x) xs y (wanted_still marks x y e)

pub all_now : (marks : List Bool) (xs : List ℕ) → list_all (is_wanted (wanting_all marks xs)) xs ≡ true
all_now marks [] = refl
all_now marks (x ∷ xs) =
    let more = wanting_all (wanting marks x) xs in
    and_from (is_wanted more x) (list_all (is_wanted more) xs) (all_still (wanting marks x) xs x (wanted_now marks x)) (all_now (wanting marks x) xs)

pub wanting_more : (marks : List Bool) (xs ys : List ℕ) → wanting_all marks (xs ++ ys) ≡ wanting_all (wanting_all marks xs) ys
wanting_more marks [] ys = refl
wanting_more marks (x ∷ xs) ys = wanting_more (wanting marks x) xs ys

-- the argument at k is wanted first, and then those after it
pub argument_more : (marks new : List Bool) (args : List Argument) (k : ℕ) (a : Argument) → k < length args → a ≡ get_or args k a → new ≡ wanting_all marks (argument_variables a) →
    wanting_all new (variables_of (drop (k + 1) args)) ≡ wanting_all marks (variables_of (drop k args))
argument_more marks new args k a h e n =
    let later = variables_of (drop (k + 1) args) in
    ap (λ m. wanting_all m later) n ∙ sym (wanting_more marks (argument_variables a) later) ∙ ap (λ b. wanting_all marks (argument_variables b ++ later)) e
    ∙ sym (at_drop_more (λ rest. wanting_all marks (variables_of rest)) args k a h)
