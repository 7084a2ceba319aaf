use Rattle.std.proofs.Common.{◌≡◌, ◌∙◌, refl, sym, ap, ◌++◌, List, [], ◌∷◌, ℕ, length, arith, inl, inr}
use Rattle.std.proofs.lemmas.List.{append-nil}
use Rattle.qc_model.specs.declared.signature.ArgKind.{ArgKind}
use Rattle.text_grammar.specs.declared.tree.ArgumentText.{ArgumentText}
use Rattle.text_resolve.specs.Names.{Declared, declared}
use Rattle.text_resolve.specs.Draft.{arguments_of}
use Rattle.text_resolve.proofs.arguments.arguments_of.Goals as goal

no_sorts : (text : List ℕ) (ds : List Declared) (sorts : List ArgKind) (args : List ArgumentText) → length sorts ≡ 0 → arguments_of text ds sorts args ≡ []
no_sorts text ds [] args e = refl
no_sorts text ds (s ∷ sorts) args e = absurd (omega arith)

no_args : (text : List ℕ) (ds : List Declared) (sorts : List ArgKind) (args : List ArgumentText) → length args ≡ 0 → arguments_of text ds sorts args ≡ []
no_args text ds [] args e = refl
no_args text ds (s ∷ sorts) [] e = refl
no_args text ds (s ∷ sorts) (a ∷ args) e = absurd (omega arith)

pub returns : goal.returns
returns c =
    let text = c.args.names.now.text.now in
    let ds = declared text c.args.names.now.items.now in
    let sorts = c.loop-sort.sort-iterator.a.rest.now in
    let args = c.loop-sort.sort-iterator.b.rest.now in
    let ended : arguments_of text ds sorts args ≡ [] = elim c.in-None.ensures.steps [ inl t ↦ no_sorts text ds sorts args t.1.0 | inr t ↦ no_args text ds sorts args t.1.0 ] in
    sym (append-nil c.loop-sort.made.items) ∙ ap (λ more. c.loop-sort.made.items ++ more) (sym ended) ∙ c.loop-sort.invariant
