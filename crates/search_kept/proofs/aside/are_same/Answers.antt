use Rattle.std.proofs.Common.{◌≡◌, ◌∙◌, true, List, [], ◌∷◌, refl, sym, ap, ℤ}
use Rattle.std.specs.Ordering.{int_eq}
use Rattle.std.proofs.lemmas.Bool.Decides.{Decides-int_eq}
use Rattle.std.proofs.lemmas.Bool.{and_parts}
use lib.Pointwise.{pointwise}
use Rattle.search_kept.proofs.aside.are_same.Goals as goal

same : (xs ys : List ℤ) → pointwise int_eq xs ys ≡ true → xs ≡ ys
same [] [] h = refl
same [] (y ∷ ys) h = cc
same (x ∷ xs) [] h = cc
same (x ∷ xs) (y ∷ ys) h =
    let p = and_parts (int_eq x y) (pointwise int_eq xs ys) h in
    ap (λ (v : ℤ). v ∷ xs) ((Decides-int_eq x y).0 p.0) ∙ ap (λ (vs : List ℤ). y ∷ vs) (same xs ys p.1)

pub returns : goal.returns
returns c = λ e. same c.args.kept.now c.args.here.now (sym c.eq.ensures ∙ e)
