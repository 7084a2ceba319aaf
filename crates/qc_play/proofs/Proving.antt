-- What a certificate proves, by its head and by what the checker answers.
use Rattle.std.proofs.Common.{◌≡◌, Bool, true, false, not, ◌&&◌, refl, sym, ◌∙◌, Option, Some, None, ℤ, ◌↔◌, IsTrue}
use Rattle.std.proofs.lemmas.Bool.{and_right, true≢false}
use Rattle.qc_model.specs.Content.{Game}
use Rattle.qc_model.specs.Verdict.{is_exact}
use Rattle.proof_tree.specs.declared.tree.Outcome.{Outcome}
use Rattle.proof_tree.specs.declared.tree.Outcome.TheVariants.{True, False, Open}
use Rattle.proof_tree.specs.Tree.{Tree}
use Rattle.proof_tree.specs.InPlace.{root_in_place}
use Rattle.proof_tree.specs.Read.{root_finding}
use Rattle.proof_tree.specs.Proves.{proves, shows, optimises_first}
use Rattle.qc_check.specs.declared.finding.Answer.TheVariants.{Yes, NotProved}
use Rattle.qc_play.specs.Heads.{is_head}

middle : (a b c : Bool) → b ≡ false → (a && b && c) ≡ false
middle true false c e = refl
middle false false c e = refl
middle a true c e = cc

module _ (g : Game) (t : Tree) where
  no_head : (o : Outcome) (p : Option ℤ) → is_head g.scopes o p ≡ false → shows g t (root_finding g t) o p ≡ false
  no_head True None e = and_right (is_exact (root_finding g t).verdict) (not (optimises_first g.scopes)) e
  no_head True (Some v) e = middle (is_exact (root_finding g t).verdict) (optimises_first g.scopes) _ e
  no_head False None e = cc
  no_head False (Some v) e = refl
  no_head (Open n) None e = cc
  no_head (Open n) (Some v) e = refl

  -- under another head nothing is proved
  pub no_head_proves : (o : Outcome) (p : Option ℤ) → is_head g.scopes o p ≡ false → proves g o p t ≡ false
  no_head_proves o p e = and_right (root_in_place g t) (shows g t (root_finding g t) o p) (no_head o p e)

  -- so what is proved has such a head
  pub head_of_proved : (o : Outcome) (p : Option ℤ) → proves g o p t ≡ true → is_head g.scopes o p ≡ true
  head_of_proved o p e = by (is_head g.scopes o p) refl
    where
      by : (b : Bool) → is_head g.scopes o p ≡ b → is_head g.scopes o p ≡ true
      by true h = h
      by false h = absurd (true≢false (sym e ∙ no_head_proves o p h))

-- where the checker says yes, and where it doesn't
pub yes_proves : (b : Bool) → (Yes ≡ Yes) ↔ IsTrue b → true ≡ b
yes_proves b h = sym (h.0 refl)

pub other_proves : (b : Bool) → (NotProved ≡ Yes) ↔ IsTrue b → false ≡ b
other_proves true h = let q : NotProved ≡ Yes = h.1 refl in cc
other_proves false h = refl
