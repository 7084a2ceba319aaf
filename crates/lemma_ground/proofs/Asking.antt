-- What is asked of a constraint and a box that are brought together.
use Rattle.std.proofs.Common.{◌≡◌, ℕ, zero, suc, Bool, true, false, List, [], ◌∷◌, subst}
use Rattle.std.specs.Prelude.{slice_get, Some}
use Rattle.std.specs.List.{list_all}
use Rattle.std.proofs.lemmas.Option.{same_Some}
use Rattle.qc_model.specs.Content.{Game, Rule}
use Rattle.qc_model.specs.Domains.{Box, has_empty}
use Rattle.qc_model.specs.Valid.{IsValid, is_constraint}
use Rattle.qc_model.proofs.Readable.{first, second}
use Rattle.model_arguments.specs.Asked.{IsAsked, is_box_of}

of_all : {X : Type 0} (p : X → Bool) (xs : List X) (k : ℕ) (x : X) → list_all p xs ≡ true → slice_get xs k ≡ Some x → p x ≡ true
of_all p [] k x h e = cc
of_all p (y ∷ xs) zero x h e = subst (λ z. p z ≡ true) (same_Some y x e) (first (p y) (list_all p xs) h)
of_all p (y ∷ xs) (suc k) x h e = of_all p xs k x (second (p y) (list_all p xs) h) e

pub asked : (g : Game) (box : Box) (k : ℕ) (c : Rule) → IsValid g → is_box_of g box ≡ true → has_empty box ≡ false → slice_get g.constraints k ≡ Some c → IsAsked g c box
asked g box k c v d f e = record { rule = of_all (is_constraint g.variables) g.constraints k c v.constraints e; declared = d; full = f }
