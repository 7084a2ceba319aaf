-- What closing does, in the words of certificates.
use Rattle.std.proofs.Common.{◌≡◌, ℕ, zero, suc, ◌<◌, ◌≤◌, Bool, true, false, not, ◌&&◌, cond, List, [], ◌∷◌, length, drop, refl, sym, ap, ◌∙◌, arith, ℤ, Result, Ok, Err, IfOk, length-set}
use Rattle.std.specs.Prelude.{Option, None, Some, slice_get, filter}
use Rattle.std.specs.List.{list_all}
use Rattle.std.specs.declared.alloc.AllocError.{AllocError}
use Rattle.std.proofs.lemmas.Bool.Decides.{nat_tests}
use Rattle.std.proofs.lemmas.Bool.{and_from}
use Rattle.qc_model.specs.declared.problem.VarId.{VarId}
use Rattle.qc_model.specs.Block.{force_stop, is_owned_within}
use Rattle.qc_model.specs.Closed.{keeps_ends}
use Rattle.qc_model.specs.Content.{Game, Rule}
use Rattle.qc_model.specs.Domains.{Box, values_left, values_within, values_outside, is_none_left, has_empty, is_sub_box, box_within, box_without, declared_box}
use Rattle.qc_model.specs.Valid.{IsValid, is_number}
use Rattle.qc_model.proofs.Readable.{first, second}
use Rattle.model_arguments.specs.Asked.{is_box_of}
use Rattle.model_levels.specs.Spans.{IsSpanOf, is_rule_within, is_number_within}
use Rattle.proof_tree.specs.declared.tree.Step.{Step}
use Rattle.proof_tree.specs.declared.tree.Step.TheVariants.{Prune, Bound}
use Rattle.proof_tree.specs.Place.{Tracked, tracked_variable, list_after}
use Rattle.proof_tree.specs.Steps.{is_prune, removes_some, after_step, is_refuted_within, is_legal, are_legal, step_marks}
use Rattle.proof_tree.specs.Text.{is_place, step_fits}
use Rattle.fd_store.specs.Held.{Held}
use Rattle.prop_base.specs.Pruning.{is_refuted_by, is_pruned_by, are_pruned_by, IsPruning}
use Rattle.prop_base.proofs.Steps.{pruning_sub}
use Rattle.prop_engine.specs.declared.answer.Closed.{Closed}
use Rattle.prop_engine.specs.declared.answer.Closed.TheVariants.{Open, Empty}
use Rattle.prop_engine.specs.Closing.{IsClosing, is_between}
use Rattle.prop_engine.specs.Watching.{WasKept}
use Rattle.prop_engine.proofs.Means.{closed_for}
use Rattle.search_box.specs.Closes.{IsPruned, IsClosingAt, WasClosed}
use Rattle.search_box.proofs.Keeping.{sub_self}
use Rattle.box_laws.proofs.Readings.{box_size}

-- what a removal that passes has
pub record IsRemoval (ok : ℕ → Bool) (g : Game) (x : ℕ) (low high : ℤ) (c : ℕ) (box : Box) : Type 0 where
  pub some : removes_some box x low high ≡ true
  pub from : is_number low ≡ true
  pub upto : is_number high ≡ true
  pub by : ok c ≡ true
  pub refuted : is_refuted_by (slice_get g.constraints c) (box_within box x low high) ≡ true

removal_is : (ok : ℕ → Bool) (g : Game) (x : ℕ) (low high : ℤ) (c : ℕ) (box : Box) →
    (((removes_some box x low high && (is_number low && is_number high)) && ok c) && is_refuted_by (slice_get g.constraints c) (box_within box x low high)) ≡ true → IsRemoval ok g x low high c box
removal_is ok g x low high c box h =
    let r = removes_some box x low high in
    let m = is_number low && is_number high in
    let f = is_refuted_by (slice_get g.constraints c) (box_within box x low high) in
    let p = first ((r && m) && ok c) f h in
    let q = first (r && m) (ok c) p in
    record {
      some = first r m q;
      from = first (is_number low) (is_number high) (second r m q);
      upto = second (is_number low) (is_number high) (second r m q);
      by = second (r && m) (ok c) p;
      refuted = second ((r && m) && ok c) f h;
    }

-- such a step is legal, whichever variable may be bounded
legal_step : (ok : ℕ → Bool) (g : Game) (i stop : ℕ) (t : Option Tracked) (s : Step) (box : Box) → ((k : ℕ) → ok k ≡ is_number_within g i stop k) → is_pruned_by ok g s box ≡ true → is_legal g i stop t s box ≡ true
legal_step ok g i stop t (Prune x low high c) box w h =
    let m = removal_is ok g x.0 low high c.0 box h in
    let bx = box_within box x.0 low high in
    and_from (removes_some box x.0 low high) (is_refuted_within i stop (slice_get g.constraints c.0) bx) m.some (by (slice_get g.constraints c.0) (sym (w c.0) ∙ m.by) m.refuted)
  where
    by : (o : Option Rule) → is_rule_within i stop o ≡ true → is_refuted_by o (box_within box x.0 low high) ≡ true → is_refuted_within i stop o (box_within box x.0 low high) ≡ true
    by None e f = cc
    by (Some r) e f = and_from (is_owned_within i stop r) (is_refuted_by (Some r) (box_within box x.0 low high)) e f
legal_step ok g i stop t (Bound x low high) box w h = cc

legal_steps : (ok : ℕ → Bool) (g : Game) (i stop : ℕ) (t : Option Tracked) (steps : List Step) (box : Box) → ((k : ℕ) → ok k ≡ is_number_within g i stop k) → are_pruned_by ok g steps box ≡ true →
    are_legal g i stop t steps box ≡ true
legal_steps ok g i stop t [] box w h = refl
legal_steps ok g i stop t (s ∷ steps) box w h =
    let p = is_pruned_by ok g s box in
    let q = are_pruned_by ok g steps (after_step s box) in
    and_from (is_legal g i stop t s box) (are_legal g i stop t steps (after_step s box)) (legal_step ok g i stop t s box w (first p q h)) (legal_steps ok g i stop t steps (after_step s box) w (second p q h))

-- removals have no marks
no_marks : (ok : ℕ → Bool) (g : Game) (t : Option Tracked) (steps : List Step) (box : Box) → are_pruned_by ok g steps box ≡ true → step_marks t steps box ≡ []
no_marks ok g t [] box h = refl
no_marks ok g t (Prune x low high c ∷ steps) box h =
    no_marks ok g t steps (box_without box x.0 low high) (second (is_pruned_by ok g (Prune x low high c) box) (are_pruned_by ok g steps (box_without box x.0 low high)) h)
no_marks ok g t (Bound x low high ∷ steps) box h = cc

pub all_prune : (ok : ℕ → Bool) (g : Game) (steps : List Step) (box : Box) → are_pruned_by ok g steps box ≡ true → list_all is_prune steps ≡ true
all_prune ok g [] box h = refl
all_prune ok g (Prune x low high c ∷ steps) box h =
    all_prune ok g steps (box_without box x.0 low high) (second (is_pruned_by ok g (Prune x low high c) box) (are_pruned_by ok g steps (box_without box x.0 low high)) h)
all_prune ok g (Bound x low high ∷ steps) box h = cc

-- their numbers fit the text
pub some_place : (box : Box) (x : ℕ) (low high : ℤ) → is_none_left (values_within low high (values_left box x)) ≡ false → x < length box
some_place [] x low high e = cc
some_place (vs ∷ box) zero low high e = omega arith
some_place (vs ∷ box) (suc x) low high e = let h = some_place box x low high e in omega (arith, h)

not_false : (b : Bool) → not b ≡ true → b ≡ false
not_false true h = cc
not_false false h = refl

some_rule : (cs : List Rule) (c : ℕ) (box : Box) → is_refuted_by (slice_get cs c) box ≡ true → c < length cs
some_rule [] zero box h = cc
some_rule [] (suc c) box h = cc
some_rule (r ∷ cs) zero box h = omega arith
some_rule (r ∷ cs) (suc c) box h = let k = some_rule cs c box h in omega (arith, k)

pub place_fits : (most k : ℕ) → k < most → is_place most k ≡ true
place_fits most k h = grind (arith, nat_tests)

pub fits_steps : (ok : ℕ → Bool) (g : Game) (steps : List Step) (box : Box) → length box ≤ 500 → length g.constraints ≤ 20000 → are_pruned_by ok g steps box ≡ true → list_all step_fits steps ≡ true
fits_steps ok g [] box l m h = refl
fits_steps ok g (Prune x low high c ∷ steps) box l m h =
    let p = is_pruned_by ok g (Prune x low high c) box in
    let q = are_pruned_by ok g steps (box_without box x.0 low high) in
    let r = removal_is ok g x.0 low high c.0 box (first p q h) in
    let n = is_none_left (values_within low high (values_left box x.0)) in
    let here : x.0 < length box = some_place box x.0 low high (not_false n (second (not (has_empty box)) (not n) r.some)) in
    let there : c.0 < length g.constraints = some_rule g.constraints c.0 (box_within box x.0 low high) r.refuted in
    let same : length (box_without box x.0 low high) ≡ length box = length-set box x.0 (values_outside low high (values_left box x.0)) in
    and_from (step_fits (Prune x low high c)) (list_all step_fits steps)
    (and_from (is_place 500 x.0 && is_number low && is_number high) (is_place 20000 c.0)
    (and_from (is_place 500 x.0 && is_number low) (is_number high) (and_from (is_place 500 x.0) (is_number low) (place_fits 500 x.0 (omega (arith, here, l))) r.from) r.upto)
    (place_fits 20000 c.0 (omega (arith, there, m))))
    (fits_steps ok g steps (box_without box x.0 low high) (omega (arith, same, l)) m (second p q h))
fits_steps ok g (Bound x low high ∷ steps) box l m h = cc

-- closing appends such steps
pub pruned_is : (g : Game) (i start end : ℕ) (s t : Held) (xs ys : List Step) → IsValid g → is_box_of g s.box ≡ true → IsSpanOf g i (force_stop (drop i g.scopes) i) start end → IsPruning (is_between start end) g s t xs ys →
    IsPruned g i s.box t.box xs ys
pruned_is g i start end s t xs ys v b span p =
    let size = box_size g s.box b in
    record {
      more = p.more;
      appended = p.appended;
      reached = p.reached;
      placed = λ d. legal_steps (is_between start end) g i (force_stop (drop i g.scopes) i) (tracked_variable g (drop i g.scopes) i (list_after g (drop i g.scopes) d)) p.more s.box span.numbers p.legal;
      unmarked = λ t. no_marks (is_between start end) g t p.more s.box p.legal;
      prunes = all_prune (is_between start end) g p.more s.box p.legal;
      fits = fits_steps (is_between start end) g p.more s.box (omega (arith, size, v.few_variables)) v.few_constraints p.legal;
    }

pub pruned_sub : (ok : ℕ → Bool) (g : Game) (s t : Held) (xs ys : List Step) → is_box_of g s.box ≡ true → IsPruning ok g s t xs ys → is_sub_box t.box s.box ≡ true
pruned_sub ok g s t xs ys b p = pruning_sub ok g s t xs ys s.box p (sub_self s.box (declared_box g) b)

-- and leaves a closed box, or an empty domain
pub closing_is : (r : Result Closed AllocError) (g : Game) (i start end : ℕ) (box : Box) → IsSpanOf g i (force_stop (drop i g.scopes) i) start end → IfOk r (λ a. IsClosing a (is_between start end) g box) →
    IfOk r (λ a. IsClosingAt a g i box)
closing_is (Err e) g i start end box span h = tt
closing_is (Ok Empty) g i start end box span h = h
closing_is (Ok Open) g i start end box span h =
    closed_for (is_between start end) g (is_owned_within i (force_stop (drop i g.scopes) i)) box h (λ k c e o. span.numbers k ∙ (ap (is_rule_within i (force_stop (drop i g.scopes) i)) e ∙ o))

-- each constraint in force keeps its ends in a closed box
each_of : (p q : Rule → Bool) (cs : List Rule) (k : ℕ) (c : Rule) → list_all q (filter p cs) ≡ true → slice_get cs k ≡ Some c → p c ≡ true → q c ≡ true
each_of p q [] k c h e o = cc
each_of p q (d ∷ cs) zero c h e o = let same : d ≡ c = cc in here (p d) (ap p same ∙ o) h (ap q same)
  where
    here : (b : Bool) → b ≡ true → list_all q (cond b (d ∷ filter p cs) (filter p cs)) ≡ true → q d ≡ q c → q c ≡ true
    here true e h f = sym f ∙ first (q d) (list_all q (filter p cs)) h
    here false e h f = cc
each_of p q (d ∷ cs) (suc k) c h e o = each_of p q cs k c (rest (p d) h) e o
  where
    rest : (b : Bool) → list_all q (cond b (d ∷ filter p cs) (filter p cs)) ≡ true → list_all q (filter p cs) ≡ true
    rest true h = second (q d) (list_all q (filter p cs)) h
    rest false h = h

pub was_kept : (g : Game) (i start end : ℕ) (changed : List VarId) (box : Box) → IsSpanOf g i (force_stop (drop i g.scopes) i) start end → WasClosed g i changed box → WasKept (is_between start end) g changed box
was_kept g i start end changed box span w =
    let stop = force_stop (drop i g.scopes) i in
    record {
      earlier = w.earlier;
      declared = w.declared;
      count = w.count;
      fewer = w.fewer;
      kept = λ k c o e. each_of (is_owned_within i stop) (keeps_ends w.earlier) g.constraints k c
          (second (not (has_empty w.earlier)) (list_all (keeps_ends w.earlier) (filter (is_owned_within i stop) g.constraints)) w.closed) e
          (sym (ap (is_rule_within i stop) e) ∙ (sym (span.numbers k) ∙ o));
      others = w.others;
    }
