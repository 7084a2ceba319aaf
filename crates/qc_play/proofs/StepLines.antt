-- The removals of a part, taken line by line.
use Rattle.std.proofs.Common.{◌≡◌, ◌∙◌, ℕ, true, List, [], ◌∷◌, ◌++◌, drop, sym, subst}
use Rattle.std.proofs.lemmas.Bool.{and_parts}
use Rattle.qc_model.specs.Content.{Game}
use Rattle.qc_model.specs.Demands.{demands}
use Rattle.qc_model.specs.Domains.{Box}
use Rattle.qc_model.specs.Verdict.{Seen}
use Rattle.joins.specs.Joins.{StandsAt}
use Rattle.proof_tree.specs.declared.line.Line.{Line}
use Rattle.proof_tree.specs.declared.tree.Step.{Step}
use Rattle.proof_tree.specs.InPlace.{ending_in_place}
use Rattle.proof_tree.specs.Lines.{step_line, ending_lines}
use Rattle.proof_tree.specs.Steps.{after_step, after_steps}
use Rattle.proof_tree.specs.Tree.{Ending}
use Rattle.qc_play.specs.declared.walk.Walk.{Walk}
use Rattle.qc_play.specs.Beginnings.{ArePart, BeginsPart}
use Rattle.qc_play.specs.Walk.{steps_fit, marks_seen, CanReadPart, IsWithin, LeadsOn, TakesSteps}
use Rattle.qc_play.proofs.PartLines.{end_after, step_taken, step_over, part_some}
use Rattle.qc_play.proofs.Stepping.{Stepped, none_stepped, one_stepped, all_stepped, first_fits}

-- of a part that begins with all these lines, the steps up to these were taken
abbrev pub StepsLeft : Game → ℕ → List Line → List Line → Walk → Walk → Type 0
StepsLeft g i all now old new =
    (steps : List Step) (e : Ending) (rest : List Line) → ArePart all steps e rest → steps_fit g steps i old.remains.box ≡ true → (left : List Step) × ArePart now left e rest × Stepped g i steps left old new

-- the steps of a part that may be read
pub part_fits : (g : Game) (steps : List Step) (e : Ending) (i : ℕ) (box : Box) → CanReadPart g steps e i box → steps_fit g steps i box ≡ true
part_fits g steps e i box h = (and_parts (steps_fit g steps i box) (ending_in_place g e (drop i g.scopes) i (demands g i) (after_steps steps box) h.horizon) h.placed).0

module _ (g : Game) (i : ℕ) (all : List Line) (old : Walk) where
  pub none_left : IsWithin g old i → StepsLeft g i all all old old
  none_left within steps e rest is fits = (steps, is, none_stepped g i steps old within fits)

  -- of the part that may be read so far
  module _ (b : BeginsPart g all i old.remains.box) (now : List Line) (mid : Walk) (h : StepsLeft g i all now old mid) where
    begun : (left : List Step) × ArePart now left b.ending b.rest × Stepped g i b.steps left old mid
    begun = h b.steps b.ending b.rest b.is (part_fits g b.steps b.ending i old.remains.box b.reads)

    pub left_within : IsWithin g mid i
    left_within = begun.2.within

    pub left_on : LeadsOn g i old mid
    left_on = begun.2.on

  -- the next line is a step's
  module _ (b : BeginsPart g all i old.remains.box) (line : Line) (ls : List Line) (s : Step) (q : line ≡ step_line s) (mid : Walk) (h : StepsLeft g i all (line ∷ ls) old mid) where
    pub step_fits : steps_fit g (s ∷ []) i mid.remains.box ≡ true
    step_fits =
        let k = begun b (line ∷ ls) mid h in
        let t = step_taken (ending_lines b.ending ++ b.rest) (end_after b.ending b.rest) k.0 s line ls q k.1 in
        first_fits g i s t.0 mid.remains.box (subst (λ us. steps_fit g us i mid.remains.box ≡ true) t.1 k.2.fits)

    pub more_left : ls ≡ [] → ⊥
    more_left =
        let k = begun b (line ∷ ls) mid h in
        let t = step_taken (ending_lines b.ending ++ b.rest) (end_after b.ending b.rest) k.0 s line ls q k.1 in
        part_some ls t.0 b.ending b.rest t.2

  pub one_left : (line after : Line) (ls ms : List Line) (s : Step) → line ≡ step_line s → ls ≡ after ∷ ms → (mid new : Walk) → StepsLeft g i all (line ∷ ls) old mid → new.remains.box ≡ after_step s mid.remains.box → IsWithin g new i → LeadsOn g i mid new →
      ((xs : List Seen) → StandsAt mid.joins i xs → StandsAt new.joins i (xs ++ marks_seen g i (s ∷ []) mid.remains.box)) → StepsLeft g i all (after ∷ ms) old new
  one_left line after ls ms s q next mid new h box within on stands steps e rest is fits =
      let k = h steps e rest is fits in
      let t = step_taken (ending_lines e ++ rest) (end_after e rest) k.0 s line ls q k.1 in
      (t.0, sym next ∙ t.2, one_stepped g i steps s t.0 old mid new (subst (λ us. Stepped g i steps us old mid) t.1 k.2) box within on stands)

  -- the next line is none's
  pub all_taken : (line : Line) (ls : List Line) → ((s : Step) → line ≡ step_line s → ⊥) → (new : Walk) → StepsLeft g i all (line ∷ ls) old new →
      (steps : List Step) (e : Ending) (rest : List Line) → ArePart all steps e rest → steps_fit g steps i old.remains.box ≡ true → (line ∷ ls ≡ ending_lines e ++ rest) × TakesSteps g i steps old new
  all_taken line ls none new h steps e rest is fits =
      let k = h steps e rest is fits in
      let t = step_over (ending_lines e ++ rest) k.0 line ls none k.1 in
      let done = subst (λ us. Stepped g i steps us old new) t.0 k.2 in
      (t.1, record { box = done.box; stands = all_stepped g i steps old new done })
