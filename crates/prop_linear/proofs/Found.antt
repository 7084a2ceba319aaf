-- The variable at a place of a sum, and its cut.
use Rattle.std.proofs.Common.{◌≡◌, ℕ, ◌<◌, true, false, List, length, get_or, refl, sym, ap, ◌∙◌, subst, ℤ}
use Rattle.std.specs.Prelude.{pos, ◌+ℤ◌}
use Rattle.std.specs.List.{list_all}
use Rattle.std.proofs.lemmas.List.Recursion.{and_at}
use Rattle.qc_model.specs.declared.problem.Arg.{Arg}
use Rattle.qc_model.specs.declared.problem.Arg.TheVariants.{Var}
use Rattle.qc_model.specs.declared.problem.VarId.{VarId}
use Rattle.qc_model.specs.Content.{Game, Rule}
use Rattle.qc_model.specs.Domains.{Box, values_left, box_without}
use Rattle.qc_model.specs.Valid.{is_domain, arg_sees}
use Rattle.model_arguments.specs.Asked.{IsAsked}
use Rattle.model_arguments.proofs.Boxes.{seen_place, declared_below}
use Rattle.qc_refuter.specs.Met.{is_domain_left}
use Rattle.qc_refuter.proofs.Ready.{var_open}
use Rattle.prop_base.specs.declared.cuts.Cut.{Cut}
use Rattle.prop_base.specs.Closed.{IsCut}
use Rattle.model_arguments.specs.Repeats.{has_repeat}
use Rattle.prop_linear.specs.Tightening.{IsTightening, least_sum}
use Rattle.prop_linear.specs.Sides.{IsPast}
use Rattle.prop_linear.proofs.Moves.{cut_refuted}

pub seen_at : (g : Game) (c : Rule) (items : List Arg) (k : ℕ) (x : VarId) (e : Arg) → list_all (arg_sees g.variables c.owner.0) items ≡ true → k < length items → get_or items k e ≡ Var x → arg_sees g.variables c.owner.0 (Var x) ≡ true
seen_at g c items k x e s l q =
    let sees = arg_sees g.variables c.owner.0 in
    sym (ap sees q) ∙ and_at (list_all sees) sees refl (λ _ _. refl) items k e l s

pub placed : (g : Game) (c : Rule) (box : Box) (items : List Arg) (k : ℕ) (x : VarId) (e : Arg) → IsAsked g c box → list_all (arg_sees g.variables c.owner.0) items ≡ true → k < length items → get_or items k e ≡ Var x → x.0 < length box
placed g c box items k x e a s l q = seen_place g box c.owner.0 x.0 a.declared (seen_at g c items k x e s l q)

pub open_there : (g : Game) (c : Rule) (box : Box) (items : List Arg) (k : ℕ) (x : VarId) (e : Arg) → list_all (λ v. is_domain v.domain) g.variables ≡ true → IsAsked g c box → list_all (arg_sees g.variables c.owner.0) items ≡ true → k < length items → get_or items k e ≡ Var x →
    is_domain_left (values_left box x.0) ≡ true
open_there g c box items k x e d a s l q = var_open g box d a.declared a.full x.0 (declared_below g.variables c.owner.0 x.0 (seen_at g c items k x e s l q))

pub cut_of : (c : Rule) (ns : List ℤ) (xs : List Arg) (s : ℕ) (box : Box) (k : ℕ) (x : VarId) (cut : Cut) (e : Arg) → IsPast c box ns xs (least_sum ns xs box +ℤ pos s) → has_repeat xs ≡ false → k < length ns → k < length xs →
    get_or xs k e ≡ Var x → x.0 < length box → cut.x ≡ x → IsTightening (get_or ns k (pos 0)) s (values_left box x.0) cut.lo cut.hi → IsCut c box cut
cut_of c ns xs s box k x cut e b r l h q m f t =
    let P : VarId → Type 0 = λ y. IsCut c box (record { x = y; lo = cut.lo; hi = cut.hi }) in
    subst P (sym f)
    (record {
      x = m;
      low = t.small_low;
      high = t.small_high;
      some = t.some;
      refuted = cut_refuted c ns xs s box k x cut.lo cut.hi e b r l h q m t;
    })

pub cut_left : (box new : Box) (x : VarId) (cut : Cut) → cut.x ≡ x → new ≡ box_without box cut.x.0 cut.lo cut.hi → new ≡ box_without box x.0 cut.lo cut.hi
cut_left box new x cut f h = h ∙ ap (λ (y : VarId). box_without box y.0 cut.lo cut.hi) f
