-- The variable at a place of the items.
use Rattle.std.proofs.Common.{◌≡◌, ℕ, ◌<◌, true, List, length, map, get_or, refl, sym, ap, ◌∙◌, [], arith}
use Rattle.std.specs.List.{list_all}
use Rattle.std.proofs.lemmas.List.Recursion.{and_at}
use Rattle.std.proofs.lemmas.List.{get_or-map}
use Rattle.qc_model.specs.declared.problem.Arg.{Arg}
use Rattle.qc_model.specs.declared.problem.Arg.TheVariants.{Var}
use Rattle.qc_model.specs.declared.problem.VarId.{VarId}
use Rattle.qc_model.specs.Content.{Game, Rule}
use Rattle.qc_model.specs.Domains.{Box, values_left}
use Rattle.qc_model.specs.Refuted.{left_to}
use Rattle.qc_model.specs.Valid.{is_domain, arg_sees}
use Rattle.model_arguments.specs.Asked.{IsAsked}
use Rattle.model_arguments.proofs.Boxes.{seen_place, declared_below}
use Rattle.qc_refuter.specs.Met.{is_domain_left, is_open}
use Rattle.qc_refuter.proofs.Ready.{var_open}
use Rattle.prop_different.specs.Different.{IsDifferent}

seen_at : (g : Game) (c : Rule) (items : List Arg) (k : ℕ) (x : VarId) (e : Arg) → IsDifferent g c items → k < length items → get_or items k e ≡ Var x → arg_sees g.variables c.owner.0 (Var x) ≡ true
seen_at g c items k x e d l q =
    let sees = arg_sees g.variables c.owner.0 in
    sym (ap sees q) ∙ and_at (list_all sees) sees refl (λ _ _. refl) items k e l d.sees

pub placed : (g : Game) (c : Rule) (box : Box) (items : List Arg) (k : ℕ) (x : VarId) (e : Arg) → IsAsked g c box → IsDifferent g c items → k < length items → get_or items k e ≡ Var x → x.0 < length box
placed g c box items k x e a d l q = seen_place g box c.owner.0 x.0 a.declared (seen_at g c items k x e d l q)

pub open_there : (g : Game) (c : Rule) (box : Box) (items : List Arg) (k : ℕ) (x : VarId) (e : Arg) → list_all (λ v. is_domain v.domain) g.variables ≡ true → IsAsked g c box → IsDifferent g c items → k < length items → get_or items k e ≡ Var x →
    is_domain_left (values_left box x.0) ≡ true
open_there g c box items k x e s a d l q = var_open g box s a.declared a.full x.0 (declared_below g.variables c.owner.0 x.0 (seen_at g c items k x e d l q))

pub open_item : (g : Game) (c : Rule) (box : Box) (items : List Arg) (k : ℕ) (e : Arg) → IsAsked g c box → IsDifferent g c items → k < length items → is_open box (get_or items k e) ≡ true
open_item g c box items k e a d l = and_at (list_all (is_open box)) (is_open box) refl (λ _ _. refl) items k e l (d.opens box a)

-- what is before a place is a place
pub earlier : (j k n : ℕ) → j < k → k < n → j < n
earlier j k n h l = omega (arith, h, l)

-- what is left to the item there
pub left_there : (box : Box) (items : List Arg) (k : ℕ) (e a : Arg) → k < length items → get_or items k e ≡ a → left_to box a ≡ get_or (map (left_to box) items) k []
left_there box items k e a l q = sym (get_or-map (left_to box) items k e [] l ∙ ap (left_to box) q)
