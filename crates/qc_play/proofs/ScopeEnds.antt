-- What is shown where a scope's own tree ends.
use Rattle.std.proofs.Common.{◌≡◌, ℕ, suc, ◌<◌, arith, true, List, length, map, take, drop, refl, sym, ap, ◌∙◌, subst, ℤ, Some, ◌∷◌}
use Rattle.std.proofs.lemmas.List.{length-map, length-take-le}
use Rattle.qc_model.specs.declared.problem.Kind.TheVariants.{Exists}
use Rattle.qc_model.specs.declared.problem.Scope.{Scope}
use Rattle.qc_model.specs.Content.{Game}
use Rattle.qc_model.specs.Demands.{demands, demands_after}
use Rattle.qc_model.specs.Domains.{Box, declared_box, least_value}
use Rattle.qc_model.specs.Game.{before}
use Rattle.qc_model.specs.Valid.{IsValid}
use Rattle.qc_model.proofs.Before.{before-le}
use Rattle.model_arguments.specs.Asked.{is_box_of}
use Rattle.model_arguments.proofs.Boxes.{sub_length}
use Rattle.joins.specs.declared.leaves.Found.{Found}
use Rattle.joins.specs.Seen.{verdict_of}
use Rattle.model_levels.specs.Spans.{kind_at}
use Rattle.joins.specs.Verdicts.{verdict_at}
use Rattle.proof_tree.specs.Finding.{Finding, Leaf, seen_of, kind_finding, scope_finding}
use Rattle.proof_tree.specs.Place.{list_after, position}
use Rattle.proof_meaning.specs.Answered.{IsAnswered}
use Rattle.check_lines.proofs.LedgerClosing.{scope_is}
use Rattle.qc_play.specs.declared.gathering.Gathering.{Gathering}
use Rattle.qc_play.specs.declared.gathering.Gathering.TheVariants.{Player, Opponent}
use Rattle.qc_play.specs.declared.shown.Shown.{Shown}
use Rattle.qc_play.specs.Gathers.{Gathers, IsAtScope, owner_of, wishes_of, count_before}
use Rattle.qc_play.specs.Shown.{Shows}
use Rattle.qc_play.proofs.AtLevels.{first_scope}
use Rattle.qc_play.proofs.Finished.{IsShown}
use Rattle.qc_play.proofs.Readable.{list_next}

-- as many values as variables
pub position_length : (g : Game) (i : ℕ) (box : Box) → is_box_of g box ≡ true → length (position g i box) ≡ before g i
position_length g i box d =
    let size = sub_length box (declared_box g) d in
    let most = before-le g i in
    length-map (take (before g i) box) least_value ∙ length-take-le (before g i) box (omega (arith, size, most))

module _ (g : Game) (i : ℕ) (x : Gathering) (a : List ℤ) (ls : List Leaf) (valid : IsValid g) (inside : i < length g.scopes) (kind : kind_at g i ≡ Some (owner_of x)) (wishes : owner_of x ≡ Exists → wishes_of x ≡ demands g (suc i)) (answered : IsAnswered (drop i g.scopes) g i a ls) where
  -- the gathering was made for this scope
  at_scope : (y : Gathering) → y ≡ x → (s : Scope) (later : List Scope) → drop i g.scopes ≡ s ∷ later → s.kind ≡ owner_of y → IsAtScope y g s.condition i (demands g i) a ls
  at_scope (Player p) e s later split q =
      ap (λ k. demands_after g k s.condition (demands g i)) (sym q)
      ∙ (ap (λ ss. list_after g ss (demands g i)) (sym split) ∙ (list_next g i inside ∙ (sym (wishes (sym (ap owner_of e))) ∙ sym (ap wishes_of e))))
  at_scope (Opponent p) e s later split q = (valid, subst (λ ss. IsAnswered ss g i a ls) split answered q)

  -- so it shows what the scope comes to
  pub scope_shows : (s : Shown) (found : Found) (v : List ℤ) → length a ≡ count_before x → Gathers x ls → verdict_of found v ≡ verdict_at g i a (map seen_of ls) → IsShown x found s → Shows (scope_finding (drop i g.scopes) g i (demands g i) a ls) v s
  scope_shows s found v place gathers verdict shown =
      let f = first_scope g.scopes i (owner_of x) kind in
      let own = f.scope.condition in
      let d = demands g i in
      let e : scope_finding (drop i g.scopes) g i d a ls ≡ kind_finding (owner_of x) own g i d a ls = ap (λ ss. scope_finding ss g i d a ls) f.split ∙ ap (λ k. kind_finding k own g i d a ls) f.kind in
      let right : verdict_of found v ≡ (kind_finding (owner_of x) own g i d a ls).verdict = verdict ∙ (scope_is (drop i g.scopes) g i d a ls ∙ ap (λ (h : Finding). h.verdict) e) in
      subst (λ u. Shows u v s) (sym e) (shown g own i d a v ls place (at_scope x refl f.scope f.later f.split f.kind) gathers right)
