-- Boxes that constraints of two spans keep their ends in.
use Rattle.std.proofs.Common.{◌≡◌, ℕ, zero, suc, Bool, true, false, ◌||◌, List, [], ◌∷◌, ◌++◌, length, drop, take, get_or, refl, sym, ap, subst, ◌∙◌, ◌<◌, ◌≤◌, ◌+◌, ◌-◌, arith, length-append, length-drop}
use Rattle.std.specs.Prelude.{◌==◌}
use Rattle.std.proofs.lemmas.List.{take_all}
use Rattle.std.proofs.lemmas.Bool.Decides.{nat_tests}
use Rattle.std.proofs.lemmas.Bool.{or_left, or_right}
use Rattle.qc_model.specs.declared.problem.VarId.{VarId}
use Rattle.qc_model.specs.Closed.{keeps_ends}
use Rattle.qc_model.specs.Content.{Game, Rule}
use Rattle.qc_model.specs.Domains.{Box, values_left}
use Rattle.proof_tree.specs.declared.tree.Step.{Step}
use Rattle.fd_store.specs.Held.{Held}
use Rattle.prop_base.specs.Pruning.{IsPruning, total}
use Rattle.prop_base.proofs.Steps.{pruning_more, pruning_sub, pruning_total}
use Rattle.model_arguments.specs.declared.spans.Span.{Span}
use Rattle.model_arguments.specs.Asked.{is_box_of}
use Rattle.prop_engine.specs.Closing.{EachRule, is_between}
use Rattle.prop_engine.specs.Watching.{WasKept, names, changed_by, step_variable}
use Rattle.prop_engine.proofs.Own.{keeps_same, after_length, after_others}
use Rattle.qc_cascade.specs.Adding.{is_either}
use Rattle.qc_cascade.proofs.Pruned.{pruning_weaker}

or_turn : (a b : Bool) → (a || b) ≡ (b || a)
or_turn true true = refl
or_turn true false = refl
or_turn false true = refl
or_turn false false = refl

pub either_turn : (s t : Span) (k : ℕ) → is_either s t k ≡ is_either t s k
either_turn s t k = or_turn (is_between s.first s.end k) (is_between t.first t.end k)

pub in_first : (s t : Span) (k : ℕ) → is_between s.first s.end k ≡ true → is_either s t k ≡ true
in_first s t k h = or_left (is_between s.first s.end k) (is_between t.first t.end k) h

pub in_second : (s t : Span) (k : ℕ) → is_between t.first t.end k ≡ true → is_either s t k ≡ true
in_second s t k h = or_right (is_between s.first s.end k) (is_between t.first t.end k) h

pub each_either : (s t : Span) (g : Game) (p : Rule → Bool) → EachRule (is_between s.first s.end) g p → EachRule (is_between t.first t.end) g p → EachRule (is_either s t) g p
each_either s t g p e f k c o l = by (is_between s.first s.end k) refl o
  where
    by : (b : Bool) → is_between s.first s.end k ≡ b → (b || is_between t.first t.end k) ≡ true → p c ≡ true
    by true h o = e k c h l
    by false h o = f k c o l

drop_whole : {X : Type 0} (xs ys : List X) → drop (length xs) (xs ++ ys) ≡ ys
drop_whole [] ys = refl
drop_whole (x ∷ xs) ys = drop_whole xs ys

-- the variables of the steps up to a place, and of one step more
changed_last : (steps : List Step) (i : ℕ) (d : Step) → i < length steps → changed_by (take (suc i) steps) ≡ changed_by (take i steps) ++ step_variable (get_or steps i d) ∷ []
changed_last [] i d l = absurd (omega (arith, l))
changed_last (s ∷ steps) zero d l = refl
changed_last (s ∷ steps) (suc i) d l = ap (λ xs. step_variable s ∷ xs) (changed_last steps i d (omega (arith, l)))

pub changed_more : (steps : List Step) (i : ℕ) (d : Step) (old new : List VarId) (x : VarId) → i < length steps → old ≡ changed_by (take i steps) → new ≡ old ++ x ∷ [] → x ≡ step_variable (get_or steps i d) → new ≡ changed_by (take (i + 1) steps)
changed_more steps i d old new x l e f g =
    f ∙ (ap (λ xs. xs ++ x ∷ []) e ∙ (ap (λ y. changed_by (take i steps) ++ y ∷ []) g ∙ (sym (changed_last steps i d l) ∙ ap (λ n. changed_by (take n steps)) (next i))))
  where
    next : (i : ℕ) → suc i ≡ i + 1
    next i = omega arith

-- the variables of all steps from a place on
pub changed_whole : (steps : List Step) (from i : ℕ) (xs : List VarId) → length (take (length steps - from) (drop from steps)) ≤ i → xs ≡ changed_by (take i (take (length steps - from) (drop from steps))) → xs ≡ changed_by (drop from steps)
changed_whole steps from i xs l e =
    e ∙ (ap changed_by (take_all i (take (length steps - from) (drop from steps)) l) ∙ ap changed_by (take_all (length steps - from) (drop from steps) (omega (arith, length-drop from steps))))

-- what kept its ends before some steps
pub kept_before : (ok p : ℕ → Bool) (g : Game) (s t : Held) (xs ys : List Step) → is_box_of g s.box ≡ true → EachRule ok g (keeps_ends s.box) → IsPruning p g s t xs ys → WasKept ok g (changed_by (drop (length xs) ys)) t.box
kept_before ok p g s t xs ys d e h =
    let fresh = ap (drop (length xs)) h.appended ∙ drop_whole xs h.more in
    record {
      earlier = s.box;
      declared = d;
      count = ap length h.reached ∙ after_length h.more s.box;
      fewer = λ large k. pruning_sub p g s t xs ys large h k;
      kept = e;
      others = λ x n. ap (λ d. values_left d x) h.reached ∙ after_others h.more s.box x (ap (λ l. names (changed_by l) x) (sym fresh) ∙ n);
    }

-- and nothing has changed since
pub kept_still : (ok : ℕ → Bool) (g : Game) (box : Box) → WasKept ok g [] box → EachRule ok g (keeps_ends box)
kept_still ok g box w k c o e = keeps_same c box w.earlier w.count (λ x a. w.others x refl) ∙ w.kept k c o e

-- one more turn of one of the two
pub pruned_turn : (s t now then : Span) (g : Game) (r u v : Held) (xs ys zs : List Step) → ((k : ℕ) → is_either now then k ≡ is_either s t k) → IsPruning (is_either s t) g r u xs ys →
    IsPruning (is_between now.first now.end) g u v ys zs → IsPruning (is_either s t) g r v xs zs
pruned_turn s t now then g r u v xs ys zs e p q =
    pruning_more (is_either s t) g r u v xs ys zs p (pruning_weaker (is_between now.first now.end) (is_either s t) g u v ys zs (λ k h. sym (e k) ∙ in_first now then k h) q)

-- nothing has changed since the first of the two kept its ends
pub both_kept : (s t now then : Span) (g : Game) (box : Box) (changed : List VarId) → ((k : ℕ) → is_either now then k ≡ is_either s t k) → changed ≡ [] →
    WasKept (is_between now.first now.end) g changed box → EachRule (is_between then.first then.end) g (keeps_ends box) → EachRule (is_either s t) g (keeps_ends box)
both_kept s t now then g box changed e n w k j c o l =
    each_either now then g (keeps_ends box) (kept_still (is_between now.first now.end) g box (subst (λ xs. WasKept (is_between now.first now.end) g xs box) n w)) k j c (e j ∙ o) l

pub is_longer : (ok : ℕ → Bool) (g : Game) (s t : Held) (xs ys : List Step) → IsPruning ok g s t xs ys → length xs ≤ length ys
is_longer ok g s t xs ys p = omega (arith, ap length p.appended, length-append xs p.more)

-- with each turn there is less left, or there are fewer steps that the other hasn't seen
pub turn_smaller : (ok : ℕ → Bool) (g : Game) (s t : Held) (xs ys : List Step) (since now : ℕ) → IsPruning ok g s t xs ys → since < length xs → now ≡ length xs → total t.box + (length ys - now) < total s.box + (length xs - since)
turn_smaller ok g s t xs ys since now p l e = omega (arith, pruning_total ok g s t xs ys p, is_longer ok g s t xs ys p, l, e)

changed_length : (steps : List Step) → length (changed_by steps) ≡ length steps
changed_length [] = refl
changed_length (s ∷ steps) = ap suc (changed_length steps)

-- whether a variable was changed, by the length of their list
pub none_changed : (xs ys : List VarId) → xs ≡ ys → (length xs == 0) ≡ true → ys ≡ []
none_changed [] ys e h = sym e
none_changed (x ∷ xs) ys e h = by (grind (arith, nat_tests))
  where
    by : ⊥ → ys ≡ []
    by b = absurd b

pub some_changed : (steps : List Step) (since : ℕ) (xs : List VarId) → xs ≡ changed_by (drop since steps) → (length xs == 0) ≡ false → since < length steps
some_changed steps since xs e h = omega (arith, some (length xs) h, ap length e, changed_length (drop since steps), length-drop since steps)
  where
    some : (n : ℕ) → (n == 0) ≡ false → 0 < n
    some n h = grind (arith, nat_tests)
