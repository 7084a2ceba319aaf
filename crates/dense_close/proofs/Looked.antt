-- One constraint held against the box, variable after variable.
use Rattle.std.proofs.Common.{◌≡◌, ◌≢◌, ◌⊎◌, inl, inr, ℕ, ◌<◌, ◌+◌, ◌==◌, Bool, true, false, not, ◌&&◌, ◌||◌, List, [], ◌∷◌, length, take, get_or, refl, sym, ◌∙◌, subst, arith, cond}
use Rattle.std.specs.Prelude.{slice_get, Some}
use Rattle.std.specs.List.{list_all}
use Rattle.std.proofs.lemmas.Bool.Decides.{nat_tests}
use Rattle.std.proofs.lemmas.Option.{same_Some}
use Rattle.std.proofs.lemmas.Bool.{or_right, or_parts, not_from_false, false_from_ne_true, or_cases, and_from}
use Rattle.qc_model.specs.declared.problem.VarId.{VarId}
use Rattle.qc_model.specs.Arguments.{variables_of}
use Rattle.qc_model.specs.Closed.{refutes_at}
use Rattle.qc_model.specs.Content.{Game, Rule}
use Rattle.qc_model.specs.Domains.{Box, values_left, has_empty, is_single, least_value, greatest_value}
use Rattle.qc_model.specs.Lists.{Among}
use Rattle.qc_model.specs.Refuted.{refuted_by}
use Rattle.qc_model.specs.Valid.{IsValid}
use Rattle.qc_model.specs.Verdict.{is_none_of}
use Rattle.qc_model.proofs.Moves.{among_filter}
use Rattle.qc_model.proofs.Readable.{first, second}
use Rattle.model_arguments.specs.Asked.{is_box_of}
use Rattle.model_arguments.specs.Written.{variable_numbers}
use Rattle.model_arguments.proofs.Bools.{clash}
use Rattle.model_arguments.proofs.Boxes.{some_left}
use Rattle.model_arguments.proofs.Values.{has_least}
use Rattle.model_levels.specs.Spans.{is_between, IsSpanOf}
use Rattle.model_table.proofs.Fits.{all_at}
use Rattle.fd_store.specs.Held.{count_left}
use Rattle.proof_alike.proofs.Filling.{get_among}
use Rattle.dense_closing.specs.Takes.{keeps_box, is_closed_by, keeps_at}
use Rattle.dense_closing.proofs.Keeping.{box_stands, closed_full}
use Rattle.qc_model.specs.Block.{is_owned_within, constraints_within}
use Rattle.dense_close.specs.declared.cutting.End.TheVariants.{Least, Greatest}
use Rattle.dense_close.specs.declared.revising.Look.{Look}
use Rattle.dense_quiet.specs.declared.taking.Taking.{Taking}
use Rattle.dense_close.specs.Cutting.{SparesEnd}
use Rattle.dense_close.specs.Index.{Index, has_it, IsIndexOf}
use Rattle.dense_close.specs.Narrowing.{IsLost, IsSettled, AreSettled, OthersSettled, spares, HasLooked}
use Rattle.dense_quiet.specs.Slack.{SparesTaken}
use Rattle.dense_quiet.specs.Taking.{takes_of}
use Rattle.dense_close.proofs.Own.{all_if}
use Rattle.dense_close.specs.Waiting.{Waiting, is_marked}
use Rattle.dense_close.proofs.Indexed.{all_more}
use Rattle.dense_close.proofs.Narrowed.{stands_by, keeps_all, owned_by}

absent : {X : Type 0} → true ≡ false → X
absent e = cc

-- the rule with this number is this one
module _ (g : Game) (k : ℕ) (r : Rule) (there : slice_get g.constraints k ≡ Some r) where
  pub one_rule : (P : Rule → Type 0) → P r → (c : Rule) → slice_get g.constraints k ≡ Some c → P c
  one_rule P p c e = subst P (same_Some r c (sym there ∙ e)) p

-- a variable of which it spares both ends
pub looked_spared : (t : Taking) (g : Game) → IsValid g → (k x : ℕ) (w : Waiting) (box now : Box) → is_box_of g now ≡ true → has_empty now ≡ false → x < length now → now ≡ box → SparesEnd Least g k x now → SparesEnd Greatest g k x now →
    HasLooked (record { changed = false; seen = true }) t g k (x ∷ []) w w box now
looked_spared t g v k x w box now d full l e low high = record {
  kept = λ j h. h;
  less = λ a. absent (sym a);
  woken = λ a. absent (sym a);
  same = λ a. e;
  listed = λ a. refl;
  spared = λ a c q.
      (let ends = not (refutes_at c now x (least_value (values_left now x))) && not (refutes_at c now x (greatest_value (values_left now x))) in
      and_from (spares (takes_of t g) now c x) true
      (or_right (not (takes_of t g c x)) (is_single (values_left now x) || ends) (or_right (is_single (values_left now x)) ends
      (and_from (not (refutes_at c now x (least_value (values_left now x)))) (not (refutes_at c now x (greatest_value (values_left now x))))
      (not_from_false (refutes_at c now x (least_value (values_left now x))) (low c q)) (not_from_false (refutes_at c now x (greatest_value (values_left now x))) (high c q)))))
      refl);
  stands = λ s a c q. stands_by g v k c now x (least_value (values_left now x)) q d full (has_least (values_left now x) (some_left now x full l)) (low c q);
}

-- one of which values went
pub looked_cut : (t : Taking) (g : Game) (ix : Index) (first end k x : ℕ) (r : Rule) (was then : Waiting) (box now : Box) → IsIndexOf g ix → slice_get g.constraints k ≡ Some r → Among x (variables_of r.args) → is_between first end k ≡ true →
    ((j : ℕ) → is_marked was j ≡ true → is_marked then j ≡ true) → ((j : ℕ) → is_between first end j ≡ true → has_it ix.having j x ≡ true → is_marked then j ≡ true) → count_left now < count_left box →
    HasLooked (record { changed = true; seen = true }) t g k (x ∷ []) was then box now
looked_cut t g ix first end k x r was then box now i there own b kept woken l = record {
  kept = kept;
  less = λ a. l;
  woken = λ a. woken k b (all_at (has_it ix.having k) (variables_of r.args) x (i.told k r there) own);
  same = λ a. absent a;
  listed = λ a. absent a;
  spared = λ a c q. absent a;
  stands = λ s a c q. absent a;
}

-- one variable more
pub looked_more : (t : Taking) (g : Game) (k : ℕ) (own : List VarId) (i : ℕ) (v : VarId) (l m n : Look) (was mid then : Waiting) (box left now : Box) → i < length own → n.changed ≡ l.changed || m.changed → n.seen ≡ l.seen || m.seen →
    HasLooked l t g k (variable_numbers (take i own)) was mid box left → HasLooked m t g k ((get_or own i v).0 ∷ []) mid then left now → HasLooked n t g k (variable_numbers (take (i + 1) own)) was then box now
looked_more t g k own i v l m n was mid then box left now b c s p q = record {
  kept = λ j h. q.kept j (p.kept j h);
  less = λ a. less (or_cases l.changed m.changed (sym c ∙ a)) (l.changed) refl (m.changed) refl;
  woken = λ a. elim (or_cases l.changed m.changed (sym c ∙ a)) [ inl h ↦ q.kept k (p.woken h) | inr h ↦ q.woken h ];
  same = λ a. (let both = or_parts l.changed m.changed (sym c ∙ a) in q.same both.1 ∙ p.same both.0);
  listed = λ a. (let both = or_parts l.changed m.changed (sym c ∙ a) in q.listed both.1 ∙ p.listed both.0);
  spared = λ a r e.
      (let both = or_parts l.changed m.changed (sym c ∙ a) in
      all_more (spares (takes_of t g) now r) own i v b (subst (λ z. list_all (spares (takes_of t g) z r) (variable_numbers (take i own)) ≡ true) (sym (q.same both.1)) (p.spared both.0 r e))
      (first (spares (takes_of t g) now r (get_or own i v).0) true (q.spared both.1 r e)));
  stands = λ h a r e.
      (let both = or_parts l.changed m.changed (sym c ∙ a) in
      elim (or_cases l.seen m.seen (sym s ∙ h)) [ inl z ↦ subst (λ z. refuted_by r z ≡ false) (sym (q.same both.1)) (p.stands z both.0 r e) | inr z ↦ q.stands z both.1 r e ]);
}
  where
    less : (l.changed ≡ true) ⊎ (m.changed ≡ true) → (a : Bool) → l.changed ≡ a → (d : Bool) → m.changed ≡ d → count_left now < count_left box
    less w true e true f = (let x = p.less e in let y = q.less f in omega arith)
    less w true e false f = subst (λ z. count_left z < count_left box) (sym (q.same f)) (p.less e)
    less w false e true f = subst (λ z. count_left now < count_left z) (p.same e) (q.less f)
    less (inl w) false e false f = absurd (clash l.changed w e)
    less (inr w) false e false f = absurd (clash m.changed w f)

-- what came of all of them
one_or_other : (j k : ℕ) → (j ≡ k) ⊎ (j ≢ k)
one_or_other j k = by (j == k) refl
  where
    equal : (j == k) ≡ true → j ≡ k
    equal h = grind (arith, nat_tests)

    apart : (j == k) ≡ false → j ≢ k
    apart h e = grind (arith, nat_tests)

    by : (b : Bool) → (j == k) ≡ b → (j ≡ k) ⊎ (j ≢ k)
    by true h = inl (equal h)
    by false h = inr (apart h)

pub settled_all : (t : Taking) (g : Game) (first end own : ℕ) (w : Waiting) (box : Box) → OthersSettled own t g first end w box → IsSettled t g w box own → AreSettled t g first end w box
settled_all t g first end own w box h o k b = elim (one_or_other k own) [ inl e ↦ subst (IsSettled t g w box) (sym e) o | inr n ↦ h k b n ]

pub settled_stable : (t : Taking) (g : Game) (k : ℕ) (r : Rule) (w : Waiting) (box : Box) → slice_get g.constraints k ≡ Some r → list_all (spares (takes_of t g) box r) (variables_of r.args) ≡ true → refuted_by r box ≡ false → IsSettled t g w box k
settled_stable t g k r w box e s f u = one_rule g k r e (λ c. keeps_box (takes_of t g) box c ≡ true) (keeps_all (takes_of t g) box r s f)

-- a constraint that has a variable and refutes the box
pub lost_by : (t : Taking) (g : Game) → IsValid g → (i stop first end k : ℕ) (c : Rule) (box : Box) → IsSpanOf g i stop first end → is_between first end k ≡ true → slice_get g.constraints k ≡ Some c → is_box_of g box ≡ true →
    is_none_of (variables_of c.args) ≡ false → refuted_by c box ≡ true → IsLost t g i stop box
lost_by t g v i stop first end k c box s b e d some r small within =
    false_from_ne_true (is_closed_by (takes_of t g) rules small) (λ h.
    box_stands g v k c e small box d within (closed_full (takes_of t g) rules small h) (takes_of t g)
    (all_at (keeps_box (takes_of t g) small) rules c (second (not (has_empty small)) (list_all (keeps_box (takes_of t g) small) rules) h)
    (among_filter (is_owned_within i stop) c g.constraints (get_among g.constraints k c e) (owned_by g i stop first end k c s b e))) some r)
  where
    rules : List Rule
    rules = constraints_within g i stop

-- one that spares what it may take keeps the box
pub settled_roomy : (t : Taking) (g : Game) (k : ℕ) (r : Rule) (w : Waiting) (box : Box) → slice_get g.constraints k ≡ Some r → SparesTaken (takes_of t g) r box → IsSettled t g w box k
settled_roomy t g k r w box e s u = one_rule g k r e (λ c. keeps_box (takes_of t g) box c ≡ true) (all_if (keeps_at (takes_of t g) box r) (variables_of r.args) (λ x m. at x m (takes_of t g r x) refl))
  where
    test : ℕ → Bool → Bool
    test x b = cond b (not (refutes_at r box x (least_value (values_left box x))) && not (refutes_at r box x (greatest_value (values_left box x)))) (not (refuted_by r box))

    at : (x : ℕ) → Among x (variables_of r.args) → (b : Bool) → takes_of t g r x ≡ b → keeps_at (takes_of t g) box r x ≡ true
    at x m true q =
        subst (λ b. test x b ≡ true) (sym q)
        (and_from (not (refutes_at r box x (least_value (values_left box x)))) (not (refutes_at r box x (greatest_value (values_left box x))))
        (not_from_false (refutes_at r box x (least_value (values_left box x))) (s.least x m q)) (not_from_false (refutes_at r box x (greatest_value (values_left box x))) (s.greatest x m q)))
    at x m false q = subst (λ b. test x b ≡ true) (sym q) (not_from_false (refuted_by r box) s.whole)
