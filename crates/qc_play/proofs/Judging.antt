-- What lines prove, by what they come to.
use Rattle.std.proofs.Common.{◌≡◌, ◌∙◌, ◌≤◌, ◌^◌, true, false, ◌&&◌, List, [], refl, sym, subst, Option, Some, None, ℤ, Bool}
use Rattle.qc_model.specs.Content.{Game}
use Rattle.qc_model.specs.Domains.{declared_box}
use Rattle.check_lines.specs.declared.answer.Answer.{Answer}
use Rattle.check_lines.specs.Found.{IsAnswer}
use Rattle.check_lines.specs.Shown.{answer_shows}
use Rattle.check_lines.proofs.Showing.{IsCounted, proves_answer}
use Rattle.proof_meaning.specs.Answered.{Answered}
use Rattle.proof_tree.specs.declared.line.Line.{Line}
use Rattle.proof_tree.specs.declared.tree.Outcome.{Outcome}
use Rattle.proof_tree.specs.declared.tree.Outcome.TheVariants.{True, False, Open}
use Rattle.proof_tree.specs.Counts.{depth_of, ends_of}
use Rattle.proof_tree.specs.InPlace.{root_in_place}
use Rattle.proof_tree.specs.Lines.{tree_lines}
use Rattle.proof_tree.specs.Proves.{proves, shows}
use Rattle.proof_tree.specs.Read.{root_finding}
use Rattle.proof_tree.specs.Tree.{Tree}
use Rattle.strategy_arena.proofs.UniqueLines.{only_tree}
use Rattle.qc_play.specs.Roots.{CanReadRoot, IsCountable, IsListed}

counted : (o : Outcome) → IsCountable o → IsCounted o
counted True h = tt
counted False h = tt
counted (Open n) h = h

no_answer : (found : Option Answer) → found ≡ None → (g : Game) (t : Tree) → ((f : Answer) × (found ≡ Some f) × IsAnswer g t f) → ⊥
no_answer found e g t (f, is, a) = let q : None ≡ Some f = sym e ∙ is in cc

module _ (g : Game) (o : Outcome) (p : Option ℤ) (lines : List Line) (listed : IsListed o lines) (t : Tree) (e : lines ≡ tree_lines t) where
  same : t ≡ listed.tree
  same = only_tree t listed.tree lines e listed.is

  shallow : depth_of t ≤ 1000
  shallow = subst (λ u. depth_of u ≤ 1000) (sym same) listed.shallow

  few : ends_of t ≤ 2 ^ 30
  few = subst (λ u. ends_of u ≤ 2 ^ 30) (sym same) listed.few_ends

  -- lines that come to nothing
  pub none_proves : (found : Option Answer) → found ≡ None → ((u : Tree) → lines ≡ tree_lines u → depth_of u ≤ 1000 → root_in_place g u ≡ true → (f : Answer) × (found ≡ Some f) × IsAnswer g u f) → false ≡ proves g o p t
  none_proves found none all = by (root_in_place g t) (λ placed. no_answer found none g t (all t e shallow placed))
    where
      by : (b : Bool) → (b ≡ true → ⊥) → false ≡ (b && shows g t (root_finding g t) o p)
      by true h = absurd (h refl)
      by false h = refl

  -- and those that come to this answer
  pub some_proves : (found : Option Answer) (f : Answer) (b : Bool) → found ≡ Some f → ((a : Answer) → found ≡ Some a → (u : Tree) × (lines ≡ tree_lines u) × IsAnswer g u a) → b ≡ answer_shows g.scopes f o p → b ≡ proves g o p t
  some_proves found f b is right shows =
      let k = right f is in
      let a : IsAnswer g t f = subst (λ u. IsAnswer g u f) (only_tree k.0 t lines k.1 e) k.2 in
      shows ∙ sym (proves_answer g t f a o p (counted o listed.countable))

  pub root_reads : root_in_place g t ≡ true → Answered g t g.scopes 0 [] (declared_box g) → CanReadRoot g t
  root_reads placed answered = record { placed = placed; answered = answered; few = few }
