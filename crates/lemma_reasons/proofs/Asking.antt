-- What the refuter is asked of a problem's constraints.
use Rattle.std.proofs.Common.{◌≡◌, ◌<◌, ◌≤◌, ℕ, zero, suc, Bool, true, refl, List, [], ◌∷◌, length, subst, Some, slice_get, arith}
use Rattle.std.specs.List.{list_all}
use Rattle.std.proofs.lemmas.List.{length-map}
use Rattle.std.proofs.lemmas.Bool.{and_parts}
use Rattle.qc_model.specs.Content.{Game, Rule}
use Rattle.qc_model.specs.Domains.{Box, domain_values, declared_box, values_left}
use Rattle.qc_model.specs.Valid.{is_constraint, is_domain}
use Rattle.model_arguments.specs.Asked.{IsAsked}
use Rattle.model_arguments.proofs.Boxes.{sub_length}
use Rattle.qc_refuter.specs.Met.{is_domain_left}
use Rattle.qc_refuter.proofs.Ready.{var_open}
use Rattle.lemma_reasons.specs.Asked.{IsFullBox}

pub all_at : {X : Type 0} (p : X → Bool) (xs : List X) (n : ℕ) (x : X) → list_all p xs ≡ true → slice_get xs n ≡ Some x → p x ≡ true
all_at p [] n x h e = cc
all_at p (y ∷ xs) zero x h e = let same : y ≡ x = cc in subst (λ z. p z ≡ true) same (and_parts (p y) (list_all p xs) h).0
all_at p (y ∷ xs) (suc n) x h e = all_at p xs n x (and_parts (p y) (list_all p xs) h).1 e

pub asked : (g : Game) (box : Box) (c : ℕ) (rule : Rule) → list_all (is_constraint g.variables) g.constraints ≡ true → IsFullBox g box → slice_get g.constraints c ≡ Some rule → IsAsked g rule box
asked g box c rule valid left e = record { rule = all_at (is_constraint g.variables) g.constraints c rule valid e; declared = left.declared; full = left.full }

-- a variable has some values left
pub variable_open : (g : Game) (box : Box) (x : ℕ) → list_all (λ v. is_domain v.domain) g.variables ≡ true → IsFullBox g box → x < length box → is_domain_left (values_left box x) ≡ true
variable_open g box x d left h =
    var_open g box d left.declared left.full x (omega (arith, sub_length box (declared_box g) left.declared, length-map g.variables (λ v. domain_values v.domain), h))

pub none_past : (box : Box) (x : ℕ) → length box ≤ x → values_left box x ≡ []
none_past [] x h = refl
none_past (d ∷ box) zero h = absurd (omega arith)
none_past (d ∷ box) (suc x) h = none_past box x (omega arith)
