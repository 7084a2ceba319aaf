-- Facts of forms, one by one.
use Rattle.std.proofs.Common.{◌≡◌, refl, ap, ◌∙◌, ℕ, List, [], ◌∷◌, Bool, true, false, cond}
use Rattle.std.specs.Prelude.{nat_eq}
use Rattle.dense_text.specs.declared.parts.Form.{Form}
use Rattle.dense_text.specs.declared.parts.Form.TheVariants.{Optimum, Turns, ValueOf, GivenLine, NameLine, HorizonLine, StuckLine, GoalLine, AgainLine, NoPlayLine, CloseLine, BoundLine, ReplyLine, EmptyLine, BarredLine, BestLine, NextLine, ChosenLine, BranchLine, RangeLine, SkipLine, OpenLine, DotLine}
use Rattle.dense_text.specs.declared.parts.Due.{Due}
use Rattle.dense_text.specs.declared.parts.Due.TheVariants.{Ended}
use Rattle.dense_text.specs.Forms.{letter, all_lines, is_value, stem}
use Rattle.dense_text.specs.States.{lettered, After, more, wrong, may, line_next}

-- a line begins with its letter
pub line_stem : (d : Due) (f : Form) → may d f ≡ true → (is_value f ≡ false) × (stem f ≡ letter f ∷ [])
line_stem d Optimum h = absurd (cc)
line_stem d Turns h = absurd (cc)
line_stem d (ValueOf u) h = absurd (cc)
line_stem d GivenLine h = (refl, refl)
line_stem d NameLine h = (refl, refl)
line_stem d HorizonLine h = (refl, refl)
line_stem d StuckLine h = (refl, refl)
line_stem d GoalLine h = (refl, refl)
line_stem d AgainLine h = (refl, refl)
line_stem d NoPlayLine h = (refl, refl)
line_stem d CloseLine h = (refl, refl)
line_stem d BoundLine h = (refl, refl)
line_stem d ReplyLine h = (refl, refl)
line_stem d EmptyLine h = (refl, refl)
line_stem d BarredLine h = (refl, refl)
line_stem d BestLine h = (refl, refl)
line_stem d NextLine h = (refl, refl)
line_stem d ChosenLine h = (refl, refl)
line_stem d BranchLine h = (refl, refl)
line_stem d RangeLine h = (refl, refl)
line_stem d SkipLine h = (refl, refl)
line_stem d OpenLine h = (refl, refl)
line_stem d DotLine h = (refl, refl)

-- and is known by it
pub line_read : (d : Due) (f : Form) → may d f ≡ true → line_next d all_lines (letter f) ≡ more (lettered f)
line_read d Optimum h = absurd (cc)
line_read d Turns h = absurd (cc)
line_read d (ValueOf u) h = absurd (cc)
line_read d GivenLine h = ap (λ (t : Bool). cond t (more (lettered GivenLine)) wrong) h
line_read d NameLine h = ap (λ (t : Bool). cond t (more (lettered NameLine)) wrong) h
line_read d HorizonLine h = ap (λ (t : Bool). cond t (more (lettered HorizonLine)) wrong) h
line_read d StuckLine h = ap (λ (t : Bool). cond t (more (lettered StuckLine)) wrong) h
line_read d GoalLine h = ap (λ (t : Bool). cond t (more (lettered GoalLine)) wrong) h
line_read d AgainLine h = ap (λ (t : Bool). cond t (more (lettered AgainLine)) wrong) h
line_read d NoPlayLine h = ap (λ (t : Bool). cond t (more (lettered NoPlayLine)) wrong) h
line_read d CloseLine h = ap (λ (t : Bool). cond t (more (lettered CloseLine)) wrong) h
line_read d BoundLine h = ap (λ (t : Bool). cond t (more (lettered BoundLine)) wrong) h
line_read d ReplyLine h = ap (λ (t : Bool). cond t (more (lettered ReplyLine)) wrong) h
line_read d EmptyLine h = ap (λ (t : Bool). cond t (more (lettered EmptyLine)) wrong) h
line_read d BarredLine h = ap (λ (t : Bool). cond t (more (lettered BarredLine)) wrong) h
line_read d BestLine h = ap (λ (t : Bool). cond t (more (lettered BestLine)) wrong) h
line_read d NextLine h = ap (λ (t : Bool). cond t (more (lettered NextLine)) wrong) h
line_read d ChosenLine h = ap (λ (t : Bool). cond t (more (lettered ChosenLine)) wrong) h
line_read d BranchLine h = ap (λ (t : Bool). cond t (more (lettered BranchLine)) wrong) h
line_read d RangeLine h = ap (λ (t : Bool). cond t (more (lettered RangeLine)) wrong) h
line_read d SkipLine h = ap (λ (t : Bool). cond t (more (lettered SkipLine)) wrong) h
line_read d OpenLine h = ap (λ (t : Bool). cond t (more (lettered OpenLine)) wrong) h
line_read d DotLine h = ap (λ (t : Bool). cond t (more (lettered DotLine)) wrong) h

-- nothing comes after the end
none_at_end : (f : Form) → may Ended f ≡ false
none_at_end Optimum = refl
none_at_end Turns = refl
none_at_end (ValueOf u) = refl
none_at_end GivenLine = refl
none_at_end NameLine = refl
none_at_end HorizonLine = refl
none_at_end StuckLine = refl
none_at_end GoalLine = refl
none_at_end AgainLine = refl
none_at_end NoPlayLine = refl
none_at_end CloseLine = refl
none_at_end BoundLine = refl
none_at_end ReplyLine = refl
none_at_end EmptyLine = refl
none_at_end BarredLine = refl
none_at_end BestLine = refl
none_at_end NextLine = refl
none_at_end ChosenLine = refl
none_at_end BranchLine = refl
none_at_end RangeLine = refl
none_at_end SkipLine = refl
none_at_end OpenLine = refl
none_at_end DotLine = refl

same_both : (t : Bool) (x : After) → cond t x x ≡ x
same_both true x = refl
same_both false x = refl

lines_end : (fs : List Form) (b : ℕ) → line_next Ended fs b ≡ wrong
lines_end [] b = refl
lines_end (f ∷ fs) b =
    ap (λ (t : Bool). cond (nat_eq b (letter f)) (cond t (more (lettered f)) wrong) (line_next Ended fs b)) (none_at_end f)
    ∙ ap (λ (x : After). cond (nat_eq b (letter f)) wrong x) (lines_end fs b) ∙ same_both (nat_eq b (letter f)) wrong

pub end_read : (b : ℕ) → line_next Ended all_lines b ≡ wrong
end_read b = lines_end all_lines b
