-- What a sum's room took of the ends of its variables.
use Rattle.std.proofs.Common.{◌≡◌, ◌⊎◌, inl, inr, ℕ, ◌<◌, Bool, true, false, ◌||◌, [], refl, sym, ◌∙◌, subst, arith}
use Rattle.std.specs.Prelude.{slice_get, Some}
use Rattle.std.proofs.lemmas.Bool.{or_parts, or_cases}
use Rattle.qc_model.specs.Arguments.{variables_of}
use Rattle.qc_model.specs.Content.{Game, Rule}
use Rattle.qc_model.specs.Domains.{Box, has_empty}
use Rattle.qc_model.specs.Lists.{Among}
use Rattle.qc_model.specs.Refuted.{refuted_by}
use Rattle.model_arguments.proofs.Bools.{clash}
use Rattle.model_levels.specs.Spans.{is_between}
use Rattle.model_table.proofs.Fits.{all_at}
use Rattle.fd_store.specs.Held.{count_left}
use Rattle.dense_close.specs.declared.revising.Look.{Look}
use Rattle.dense_close.specs.declared.revising.Revised.{Revised}
use Rattle.dense_close.specs.declared.revising.Revised.TheVariants.{Changed}
use Rattle.dense_quiet.specs.declared.taking.Taking.{Taking}
use Rattle.dense_close.specs.Index.{Index, has_it, IsIndexOf}
use Rattle.dense_close.specs.Narrowing.{IsRevised, OthersSettled, HasLooked}
use Rattle.dense_close.specs.Waiting.{Waiting, is_marked}
use Rattle.dense_close.proofs.Looked.{settled_all}

absent : {X : Type 0} → true ≡ false → X
absent e = cc

-- values of one variable went
pub trimmed : (t : Taking) (g : Game) (ix : Index) (first end k x : ℕ) (r : Rule) (was then : Waiting) (box now : Box) → IsIndexOf g ix → slice_get g.constraints k ≡ Some r → Among x (variables_of r.args) → is_between first end k ≡ true →
    ((j : ℕ) → is_marked was j ≡ true → is_marked then j ≡ true) → ((j : ℕ) → is_between first end j ≡ true → has_it ix.having j x ≡ true → is_marked then j ≡ true) → count_left now < count_left box →
    HasLooked (record { changed = true; seen = false }) t g k [] was then box now
trimmed t g ix first end k x r was then box now i there own b kept woken l = record {
  kept = kept;
  less = λ a. l;
  woken = λ a. woken k b (all_at (has_it ix.having k) (variables_of r.args) x (i.told k r there) own);
  same = λ a. absent a;
  listed = λ a. absent a;
  spared = λ a c q. refl;
  stands = λ s a c q. absent (sym s);
}

-- none went
pub untrimmed : (t : Taking) (g : Game) (k : ℕ) (w : Waiting) (box now : Box) → now ≡ box → HasLooked (record { changed = false; seen = false }) t g k [] w w box now
untrimmed t g k w box now e = record {
  kept = λ j h. h;
  less = λ a. absent (sym a);
  woken = λ a. absent (sym a);
  same = λ a. e;
  listed = λ a. refl;
  spared = λ a c q. refl;
  stands = λ s a c q. absent (sym s);
}

-- one variable more
pub trimmed_more : (t : Taking) (g : Game) (k : ℕ) (l m n : Look) (was mid then : Waiting) (box left now : Box) → n.changed ≡ l.changed || m.changed → n.seen ≡ l.seen || m.seen → HasLooked l t g k [] was mid box left → HasLooked m t g k [] mid then left now →
    HasLooked n t g k [] was then box now
trimmed_more t g k l m n was mid then box left now c s p q = record {
  kept = λ j h. q.kept j (p.kept j h);
  less = λ a. less (or_cases l.changed m.changed (sym c ∙ a)) (l.changed) refl (m.changed) refl;
  woken = λ a. elim (or_cases l.changed m.changed (sym c ∙ a)) [ inl h ↦ q.kept k (p.woken h) | inr h ↦ q.woken h ];
  same = λ a. (let both = or_parts l.changed m.changed (sym c ∙ a) in q.same both.1 ∙ p.same both.0);
  listed = λ a. (let both = or_parts l.changed m.changed (sym c ∙ a) in q.listed both.1 ∙ p.listed both.0);
  spared = λ a r e. refl;
  stands = λ h a r e.
      (let both = or_parts l.changed m.changed (sym c ∙ a) in
      elim (or_cases l.seen m.seen (sym s ∙ h)) [ inl z ↦ subst (λ z. refuted_by r z ≡ false) (sym (q.same both.1)) (p.stands z both.0 r e) | inr z ↦ q.stands z both.1 r e ]);
}
  where
    less : (l.changed ≡ true) ⊎ (m.changed ≡ true) → (a : Bool) → l.changed ≡ a → (d : Bool) → m.changed ≡ d → count_left now < count_left box
    less w true e true f = (let x = p.less e in let y = q.less f in omega arith)
    less w true e false f = subst (λ z. count_left z < count_left box) (sym (q.same f)) (p.less e)
    less w false e true f = subst (λ z. count_left now < count_left z) (p.same e) (q.less f)
    less (inl w) false e false f = absurd (clash l.changed w e)
    less (inr w) false e false f = absurd (clash m.changed w f)

-- where some went, and no variable lost all, the constraint waits with the others
pub changed_by : (l : Look) (t : Taking) (g : Game) (i stop first end k : ℕ) (was then : Waiting) (box now : Box) → l.changed ≡ true → has_empty now ≡ false → OthersSettled k t g first end then now → HasLooked l t g k [] was then box now → IsRevised Changed t g i stop first end was then box now
changed_by l t g i stop first end k was then box now a full o h = (full, h.less a, settled_all t g first end k then now o (λ u r e. absurd (clash (is_marked then k) (h.woken a) u)))

-- where none went, what comes after came from before
pub unchanged_by : (l : Look) (v : Revised) (t : Taking) (g : Game) (i stop first end k : ℕ) (was mid then : Waiting) (box left now : Box) → l.changed ≡ false → HasLooked l t g k [] was mid box left → IsRevised v t g i stop first end mid then left now → IsRevised v t g i stop first end was then box now
unchanged_by l v t g i stop first end k was mid then box left now a h e =
    subst (λ w. IsRevised v t g i stop first end w then box now) (h.listed a) (subst (λ b. IsRevised v t g i stop first end mid then b now) (h.same a) e)
