-- What is open, as the trail grows and is undone, and as joins and values change that it doesn't ask for.
use Rattle.std.proofs.Common.{◌≡◌, ℕ, ◌<◌, ◌≤◌, ◌-◌, List, [], ◌∷◌, sym, ap, ◌∙◌, subst, arith, ℤ}
use Rattle.qc_model.specs.declared.problem.VarId.{VarId}
use Rattle.qc_model.specs.Content.{Game}
use Rattle.qc_model.specs.Domains.{Box, values_left}
use Rattle.qc_model.specs.Verdict.{Seen}
use Rattle.joins.specs.Joins.{StandsAt}
use Rattle.joins.specs.declared.joins.Joins.{Joins}
use Rattle.fd_store.specs.Held.{Held, past_box, values_from}
use Rattle.check_lines.specs.declared.open.Open.{Open}
use Rattle.check_lines.specs.declared.open.Open.TheVariants.{Next, Branch}
use Rattle.check_lines.specs.State.{Fork}
use Rattle.check_lines.specs.Ledger.{Entry, next_entry, branch_entry}
use Rattle.check_lines.specs.Machine.{IsFull, AreFrames}
use Rattle.check_box.specs.Placed.{values_to}
use Rattle.check_lines.specs.Telling.{AreEntries}
use Rattle.check_box.proofs.Fewer.{at_values, fewer_values}

fork_same : (a b : Box) (x : VarId) (from : ℤ) → a ≡ b → ◌≡◌ {A = Fork} (record { variable = x.0; box = a; left = values_from from (values_left a x.0) }) (record { variable = x.0; box = b; left = values_from from (values_left b x.0) })
fork_same a b x from e = ap (λ c. let f : Fork = record { variable = x.0; box = c; left = values_from from (values_left c x.0) } in f) e

module _ (g : Game) where
  pub frames_same : (s t : Held) (vs : List ℤ) (i n m : ℕ) (fs : List Open) → n ≤ m → ((k : ℕ) → k ≤ n → past_box t k ≡ past_box s k) → AreFrames g s vs i n fs → AreFrames g t vs i m fs
  frames_same s t vs i n m [] l f h = tt
  frames_same s t vs i n m (Next z ∷ fs) l f h = (h.0, frames_same s t vs (i - 1) n m fs l f h.1)
  frames_same s t vs i n m (Branch x mark from ∷ fs) l f h =
      let p = h.0.at in
      (record { scope = h.0.scope; at = omega (arith, p, l); variable = h.0.variable; box = subst (IsFull g i vs) (sym (f mark.at p)) h.0.box }, frames_same s t vs i mark.at mark.at fs (omega arith) (λ k q. f k (omega (arith, p, q))) h.1)

  pub entries_same : (s t : Held) (vs : List ℤ) (js : Joins) (i n : ℕ) (fs : List Open) (es : List Entry) → ((k : ℕ) → k ≤ n → past_box t k ≡ past_box s k) → AreFrames g s vs i n fs → AreEntries g s vs js i fs es → AreEntries g t vs js i fs es
  entries_same s t vs js i n [] [] f h e = tt
  entries_same s t vs js i n [] (b ∷ es) f h e = e
  entries_same s t vs js i n (Next z ∷ fs) [] f h e = e
  entries_same s t vs js i n (Next z ∷ fs) (branch_entry b ∷ es) f h e = e
  entries_same s t vs js i n (Next z ∷ fs) (next_entry xs a y ∷ es) f h e = (e.0, e.1, e.2, entries_same s t vs js (i - 1) n fs es f h.1 e.3)
  entries_same s t vs js i n (Branch x mark from ∷ fs) [] f h e = e
  entries_same s t vs js i n (Branch x mark from ∷ fs) (next_entry xs a y ∷ es) f h e = e
  entries_same s t vs js i n (Branch x mark from ∷ fs) (branch_entry b ∷ es) f h e =
      let p = h.0.at in
      (e.0 ∙ fork_same (past_box s mark.at) (past_box t mark.at) x from (sym (f mark.at p)), entries_same s t vs js i mark.at fs es (λ k q. f k (omega (arith, p, q))) h.1 e.1)

  -- joins of scopes from i on are asked for nothing
  pub entries_joins : (s : Held) (vs : List ℤ) (js ks : Joins) (i n : ℕ) (fs : List Open) (es : List Entry) → ((j : ℕ) (xs : List Seen) → j < i → StandsAt js j xs → StandsAt ks j xs) → AreFrames g s vs i n fs → AreEntries g s vs js i fs es → AreEntries g s vs ks i fs es
  entries_joins s vs js ks i n [] [] f h e = tt
  entries_joins s vs js ks i n [] (b ∷ es) f h e = e
  entries_joins s vs js ks i n (Next z ∷ fs) [] f h e = e
  entries_joins s vs js ks i n (Next z ∷ fs) (branch_entry b ∷ es) f h e = e
  entries_joins s vs js ks i n (Next z ∷ fs) (next_entry xs a y ∷ es) f h e =
      let p = h.0 in
      (e.0, e.1, f (i - 1) xs (omega (arith, p)) e.2, entries_joins s vs js ks (i - 1) n fs es (λ j ys l. f j ys (omega (arith, l))) h.1 e.3)
  entries_joins s vs js ks i n (Branch x mark from ∷ fs) [] f h e = e
  entries_joins s vs js ks i n (Branch x mark from ∷ fs) (next_entry xs a y ∷ es) f h e = e
  entries_joins s vs js ks i n (Branch x mark from ∷ fs) (branch_entry b ∷ es) f h e = (e.0, entries_joins s vs js ks i mark.at fs es f h.1 e.1)

  full_values : (i : ℕ) (vs ws : List ℤ) (box : Box) → values_to g i ws ≡ values_to g i vs → IsFull g i vs box → IsFull g i ws box
  full_values i vs ws box e h = record { declared = h.declared; full = h.full; placed = at_values g i vs ws box e h.placed }

  -- values from scope i on are asked for nothing
  pub frames_values : (s : Held) (vs ws : List ℤ) (i n : ℕ) (fs : List Open) → values_to g i ws ≡ values_to g i vs → AreFrames g s vs i n fs → AreFrames g s ws i n fs
  frames_values s vs ws i n [] e h = tt
  frames_values s vs ws i n (Next z ∷ fs) e h = (h.0, frames_values s vs ws (i - 1) n fs (fewer_values g i vs ws e) h.1)
  frames_values s vs ws i n (Branch x mark from ∷ fs) e h =
      (record { scope = h.0.scope; at = h.0.at; variable = h.0.variable; box = full_values i vs ws (past_box s mark.at) e h.0.box }, frames_values s vs ws i mark.at fs e h.1)

  pub entries_values : (s : Held) (vs ws : List ℤ) (js : Joins) (i : ℕ) (fs : List Open) (es : List Entry) → values_to g i ws ≡ values_to g i vs → AreEntries g s vs js i fs es → AreEntries g s ws js i fs es
  entries_values s vs ws js i [] [] f e = tt
  entries_values s vs ws js i [] (b ∷ es) f e = e
  entries_values s vs ws js i (Next z ∷ fs) [] f e = e
  entries_values s vs ws js i (Next z ∷ fs) (branch_entry b ∷ es) f e = e
  entries_values s vs ws js i (Next z ∷ fs) (next_entry xs a y ∷ es) f e =
      let k = fewer_values g i vs ws f in
      (e.0, e.1 ∙ sym k, e.2, entries_values s vs ws js (i - 1) fs es k e.3)
  entries_values s vs ws js i (Branch x mark from ∷ fs) [] f e = e
  entries_values s vs ws js i (Branch x mark from ∷ fs) (next_entry xs a y ∷ es) f e = e
  entries_values s vs ws js i (Branch x mark from ∷ fs) (branch_entry b ∷ es) f e = (e.0, entries_values s vs ws js i fs es f e.1)
