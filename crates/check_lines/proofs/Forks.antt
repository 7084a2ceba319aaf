-- What the machine tells after a line where a case of a branch is due.
use Rattle.std.proofs.Common.{◌≡◌, ◌≢◌, ℕ, suc, ◌<◌, Bool, true, false, ◌&&◌, ◌||◌, cond, List, [], ◌∷◌, ◌++◌, length, set, append-nil, refl, sym, ap, ◌∙◌, subst, arith, ℤ, Option, Some, None}
use Rattle.std.specs.Prelude.{nat_lt, pos, ◌+ℤ◌, is_some}
use Rattle.std.proofs.lemmas.Bool.{and_from}
use Rattle.qc_model.specs.declared.problem.VarId.{VarId}
use Rattle.qc_model.specs.Domains.{Box, Values, values_left, box_within, is_within, values_within, is_none_left}
use Rattle.qc_model.specs.Valid.{is_number}
use Rattle.qc_model.specs.Verdict.{Seen, seen_skipped}
use Rattle.model_arguments.specs.Asked.{is_box_of}
use Rattle.joins.specs.Joins.{game_of as game_joined, StandsAt, KeepsOthers}
use Rattle.joins.specs.declared.joins.Joins.{Joins}
use Rattle.proof_tree.specs.Cover.{cover, covered, is_cover, box_to}
use Rattle.proof_tree.specs.declared.line.Line.{Line}
use Rattle.proof_tree.specs.declared.line.Line.TheVariants.{Dot}
use Rattle.fd_store.specs.declared.store.Mark.{Mark}
use Rattle.fd_store.specs.Held.{Held, trail_len, past_box, values_from, least_of, Follows}
use Rattle.check_lines.specs.declared.open.Open.{Open}
use Rattle.check_lines.specs.declared.open.Open.TheVariants.{Branch}
use Rattle.check_lines.specs.declared.open.Due.{Due}
use Rattle.check_lines.specs.declared.open.Due.TheVariants as due
use Rattle.check_lines.specs.declared.machine.Machine.{Machine}
use Rattle.check_box.specs.Cases.{IsCase}
use Rattle.check_lines.specs.State.{Fork, fork_after, may_take}
use Rattle.check_lines.specs.Awaited.{Awaited, case_awaited, one_more}
use Rattle.check_lines.specs.Ledger.{Ledger, Entry, branch_entry, at_entry, part_closed, ledger_end, ledger_fork, gone_into}
use Rattle.check_lines.specs.LedgerSizes.{PartKeeps}
use Rattle.check_lines.specs.Machine.{game_of, fork_at, before_of, IsFull, IsFork, AreFrames, IsWithin, IsBack, IsAtFork}
use Rattle.check_lines.specs.Telling.{AreEntries, AreOpen, IsPart, IsPartEnd, GoesInto, part_at, part_ended, skips, takes, Tells, PartTells}
use Rattle.check_box.proofs.Cuts.{fewer, not_fewer}
use Rattle.check_lines.proofs.Frames.{frames_same, entries_same, entries_joins}
use Rattle.check_box.proofs.Placing.{at_filtered}
use Rattle.check_lines.proofs.Known.{reads_open, reads_followed}
use Rattle.check_lines.specs.Known.{ReadBy, AreBranchesRead}
use Rattle.box_laws.proofs.Readings.{box_size}
use Rattle.check_lines.proofs.LedgerSizes.{part_also, none_seen}
use Rattle.box_laws.proofs.Filters.{all_drop}
use Rattle.check_lines.proofs.Closes.{top_is, top_fork}
use Rattle.check_lines.proofs.Parts.{a_ledger, no_ledger}

module _ (m : Machine) (x : VarId) (mark : Mark) (from : ℤ) (more : List Open) (top : m.nesting ≡ Branch x mark from ∷ more) (w : IsAtFork m) where
  abbrev last : Fork
  last = fork_at m.remains x mark from

  pub is_fork : IsFork (game_of m) m.remains m.values.items m.number (trail_len m.remains) x mark
  is_fork = top_fork m x mark from more top w.sound

  pub is_back : m.remains.box ≡ past_box m.remains mark.at
  is_back = subst (IsBack m.remains) top w.back

  pub variable_inside : x.0 < length m.remains.box
  variable_inside = let p = is_fork.variable in let size = box_size (game_of m) m.remains.box w.sound.declared in omega (arith, p, size)

  frames_more : AreFrames (game_of m) m.remains m.values.items m.number mark.at more
  frames_more = let h : IsFork (game_of m) m.remains m.values.items m.number (trail_len m.remains) x mark × AreFrames (game_of m) m.remains m.values.items m.number mark.at more = subst (AreFrames (game_of m) m.remains m.values.items m.number (trail_len m.remains)) top w.sound.frames in h.1

  -- by the branch and what is open around it
  pub at_last : (P : List Entry → Type 0) (es : List Entry) → AreOpen m es → ((outer : List Entry) → AreEntries (game_of m) m.remains m.values.items m.joins m.number more outer → P (branch_entry last ∷ outer)) → P es
  at_last P es k f = let t = top_is (game_of m) m.remains m.values.items m.joins m.number x mark from more m.nesting es top k in subst P (sym t.split) (f t.outer t.entries)

  -- a case that doesn't begin at a value
  pub not_skipped : (upto : Option ℤ) (is_open : Bool) (u : Due) → is_cover upto last.left ≡ false → (d : Ledger) (es : List Entry) (xs : List Seen) (v : Awaited) → IsPart m d es xs → at_entry es (λ b fs. skips (part_at m d es xs v) b fs upto is_open) ≡ None
  not_skipped upto is_open u e d es xs v p =
      at_last (λ gs. at_entry gs (λ b fs. skips (part_at m d es xs v) b fs upto is_open) ≡ None) es p.entries (λ outer h. no_ledger (is_cover upto last.left) _ e)

  module _ (upto : Option ℤ) (start end : ℤ) (case : IsCase (values_left m.remains.box x.0) from upto start end) where
    there : IsCase (values_left (past_box m.remains mark.at) x.0) from upto start end
    there = subst (λ b. IsCase (values_left b x.0) from upto start end) is_back case

    after_is : fork_after upto last ≡ fork_at m.remains x mark (end +ℤ pos 1)
    after_is = ap (λ vs. let f : Fork = record { variable = x.0; box = past_box m.remains mark.at; left = vs } in f) there.leaves

    -- it isn't gone into
    module _ (gs : List Open) (js : Joins) (o : Bool) (e : gs ≡ Branch x mark (end +ℤ pos 1) ∷ more) (others : KeepsOthers m.number m.joins js) (same : game_joined js ≡ game_joined m.joins) where
      abbrev skipped : Machine
      skipped = record m { nesting = gs; joins = js; has_open = o; due = due.Case }

      frames_again : AreFrames (game_of m) m.remains m.values.items m.number (trail_len m.remains) gs
      frames_again = subst (AreFrames (game_of m) m.remains m.values.items m.number (trail_len m.remains)) (sym e) (is_fork, frames_more)

      pub skip_ready : IsAtFork skipped
      skip_ready =
          let s = w.sound in
          record {
            sound = record {
              laws = s.laws;
              tracks = s.tracks;
              joined = same ∙ s.joined;
              valued = s.valued;
              value_each = s.value_each;
              numbers = s.numbers;
              declared = s.declared;
              inside = s.inside;
              placed = s.placed;
              frames = frames_again;
              read = reads_open (game_of m) m.remains m.values.items m.reads m.nesting gs (λ b. subst (AreBranchesRead m.remains m.values.items m.reads) (sym e) (subst (AreBranchesRead m.remains m.values.items m.reads) top b)) s.read;
            };
            back = subst (IsBack m.remains) (sym e) is_back;
          }

      pub skip_tells : (is_open : Bool) → o ≡ (m.has_open || is_open) → (stands : (xs : List Seen) → StandsAt m.joins m.number xs → StandsAt js m.number (xs ++ seen_skipped ∷ [])) →
          PartTells m skipped (λ d. at_entry d.entries (λ b fs. skips d b fs upto is_open))
      skip_tells is_open q stands n d es xs u few p k =
          at_last (λ hs. Tells skipped (at_entry hs (λ b fs. skips (part_at m d es xs u) b fs upto is_open))) es p.entries (λ outer h.
          let base : Ledger = record d { has_open = d.has_open || is_open } in
          let new = branch_entry (fork_after upto last) ∷ outer in (
            base,
            new,
            xs ++ seen_skipped ∷ [],
            record {
              counts = (p.counts.0, ap (λ b. b || is_open) p.counts.1 ∙ sym q);
              entries = entries_joins (game_of m) m.remains m.values.items m.joins js m.number (trail_len m.remains) gs new (λ j ys l. others j ys (λ eq. absurd (omega (arith, l, eq)))) frames_again
                  (subst (λ hs. AreEntries (game_of m) m.remains m.values.items m.joins m.number hs new) (sym e) (after_is, h));
              stands = stands xs p.stands;
            },
            a_ledger (is_cover upto last.left) (part_at skipped base new (xs ++ seen_skipped ∷ []) case_awaited) there.is,
          ))

    -- it is
    pub take_yes : (new : Box) → new ≡ box_within m.remains.box x.0 start end → length (values_left new x.0) ≢ length (values_left m.remains.box x.0) → may_take upto last ≡ true
    take_yes new e n =
        and_from (is_cover upto (values_from from (values_left (past_box m.remains mark.at) x.0))) _ there.is
        (ap (λ vs. nat_lt (length vs) (length (values_left (past_box m.remains mark.at) x.0))) there.covers
        ∙ subst (λ b. nat_lt (length (values_within start end (values_left b x.0))) (length (values_left b x.0)) ≡ true) is_back (fewer m.remains.box new x.0 start end variable_inside e n))

    pub take_no : (new : Box) → new ≡ box_within m.remains.box x.0 start end → length (values_left new x.0) ≡ length (values_left m.remains.box x.0) → may_take upto last ≡ false
    take_no new e n =
        not_both (is_cover upto (values_from from (values_left (past_box m.remains mark.at) x.0))) _
        (ap (λ vs. nat_lt (length vs) (length (values_left (past_box m.remains mark.at) x.0))) there.covers
        ∙ subst (λ b. nat_lt (length (values_within start end (values_left b x.0))) (length (values_left b x.0)) ≡ false) is_back (not_fewer m.remains.box new x.0 start end variable_inside e n))
      where
        not_both : (a b : Bool) → b ≡ false → (a && b) ≡ false
        not_both true b e = e
        not_both false b e = refl

    module _ (t : Held) (gs : List Open) (count : ℕ) (f : Follows m.remains t) (declared : is_box_of (game_of m) t.box ≡ true) (box : t.box ≡ box_within m.remains.box x.0 start end) (e : gs ≡ Branch x mark (end +ℤ pos 1) ∷ more) (c : count ≡ one_more m.turns) where
      abbrev taken_in : Machine
      taken_in = record m { remains = t; nesting = gs; turns = count }

      pub take_within : IsWithin taken_in
      take_within =
          let s = w.sound in
          let inner = is_fork in
          record {
            sound = record {
              laws = s.laws;
              tracks = s.tracks;
              joined = s.joined;
              valued = s.valued;
              value_each = s.value_each;
              numbers = s.numbers;
              declared = declared;
              inside = s.inside;
              placed = at_filtered (game_of m) m.number m.values.items m.remains.box t.box x.0 (is_within start end) box s.placed;
              frames = subst (AreFrames (game_of m) t m.values.items m.number (trail_len t)) (sym e) (
                record {
                  scope = inner.scope;
                  at = let a = inner.at in let l = f.longer in omega (arith, a, l);
                  variable = inner.variable;
                  box = subst (IsFull (game_of m) m.number m.values.items) (sym (f.boxes mark.at inner.at)) inner.box;
                },
                frames_same (game_of m) m.remains t m.values.items m.number mark.at mark.at more (omega arith) (λ k l. f.boxes k (let a = inner.at in omega (arith, l, a))) frames_more,
              );
              read = reads_open (game_of m) t m.values.items m.reads m.nesting gs (λ b. subst (AreBranchesRead t m.values.items m.reads) (sym e) (subst (AreBranchesRead t m.values.items m.reads) top b))
                  (reads_followed (game_of m) m.remains t m.values.items m.reads m.number m.nesting x.0 (is_within start end) f box s.frames s.read);
            };
            scope = inner.scope;
          }

      pub take_into : GoesInto m taken_in last upto
      take_into n d outer xs u p k =
          let inner = is_fork in
          let past = past_box m.remains mark.at in
          let rest_is = top_is (game_of m) m.remains m.values.items m.joins m.number x mark from more m.nesting (branch_entry last ∷ outer) top p.entries in
          let same_outer : rest_is.outer ≡ outer = tails (branch_entry last) (branch_entry last) rest_is.outer outer (sym rest_is.split) in
          let around = subst (AreEntries (game_of m) m.remains m.values.items m.joins m.number more) same_outer rest_is.entries in
          let new = branch_entry (fork_after upto last) ∷ outer in
          let base : Ledger = record d { turns = one_more d.turns } in
          let box_is : t.box ≡ box_to past x.0 (covered upto last.left) = box ∙ (ap (λ b. box_within b x.0 start end) is_back ∙ ap (set past x.0) (sym there.covers)) in
          let forks : fork_after upto last ≡ fork_at t x mark (end +ℤ pos 1) =
          after_is ∙ ap (λ b. let q : Fork = record { variable = x.0; box = b; left = values_from (end +ℤ pos 1) (values_left b x.0) } in q) (sym (f.boxes mark.at inner.at)) in
          record {
            base = base;
            entries = new;
            part = record {
              counts = (ap one_more p.counts.0 ∙ sym c, p.counts.1);
              entries = subst (λ hs. AreEntries (game_of m) t m.values.items m.joins m.number hs new) (sym e)
                  (forks, entries_same (game_of m) m.remains t m.values.items m.joins m.number mark.at more outer (λ j l. f.boxes j (let a = inner.at in omega (arith, l, a))) frames_more around);
              stands = p.stands;
            };
            sizes = record {
              here = k.here;
              above = k.above;
              all = k.all;
              scope = k.scope;
              entries = (k.entries.0, all_drop is_number (cover upto last.left) last.left k.entries.1, k.entries.2);
            };
            ledger = ap (λ b. let r : Ledger = record base { box = b; entries = new; awaited = u; number = m.number; horizon = m.horizon; seen = xs; before = before_of m } in r) (sym box_is);
          }
        where
          tails : (a b : Entry) (cs ds : List Entry) → ◌≡◌ {A = List Entry} (a ∷ cs) (b ∷ ds) → cs ≡ ds
          tails a b cs ds q = cc

  -- a case that may not be gone into
  pub not_taken : (upto : Option ℤ) (line : Line) → may_take upto last ≡ false → (d : Ledger) (es : List Entry) (xs : List Seen) (u : Awaited) → IsPart m d es xs → at_entry es (λ b fs. takes (game_of m) (part_at m d es xs u) b fs upto line) ≡ None
  not_taken upto line e d es xs u p =
      at_last (λ gs. at_entry gs (λ b fs. takes (game_of m) (part_at m d es xs u) b fs upto line) ≡ None) es p.entries
      (λ outer h. ap (λ c. cond c (ledger_end (game_of m) (gone_into (part_at m d es xs u) last outer upto) line) None) e)

  -- and its first line, where it may
  pub taken_tells : (into new : Machine) (upto : Option ℤ) (line : Line) → may_take upto last ≡ true → GoesInto m into last upto → game_of into ≡ game_of m → PartTells into new (λ d. ledger_end (game_of into) d line) →
      PartTells m new (λ d. at_entry d.entries (λ b fs. takes (game_of m) d b fs upto line))
  taken_tells into new upto line e goes same h n d es xs u few p k = by es p k
    where
      there : (outer : List Entry) → IsPart m d (branch_entry last ∷ outer) xs → PartKeeps (game_of m) n (branch_entry last ∷ outer) m.number xs (before_of m) →
          Tells new (takes (game_of m) (part_at m d (branch_entry last ∷ outer) xs u) last outer upto line)
      there outer q l =
          let i = goes n d outer xs u q l in
          subst (Tells new)
          (ap (λ g. ledger_end g (part_at into i.base i.entries xs u) line) same
          ∙ (ap (λ r. ledger_end (game_of m) r line) (sym i.ledger)
          ∙ sym (ap (λ c. cond c (ledger_end (game_of m) (gone_into (part_at m d (branch_entry last ∷ outer) xs u) last outer upto) line) None) e)))
          (h n i.base i.entries xs u few i.part i.sizes)

      by : (es : List Entry) → IsPart m d es xs → PartKeeps (game_of m) n es m.number xs (before_of m) → Tells new (at_entry es (λ b fs. takes (game_of m) (part_at m d es xs u) b fs upto line))
      by es q l =
          at_last (λ gs. IsPart m d gs xs → PartKeeps (game_of m) n gs m.number xs (before_of m) → Tells new (at_entry gs (λ b fs. takes (game_of m) (part_at m d gs xs u) b fs upto line))) es q.entries
          (λ outer o r s. there outer r s) q l

  -- the dot
  module _ (gs : List Open) (e : gs ≡ more) where
    pub dot_within : IsWithin (record m { nesting = gs })
    dot_within =
        let s = w.sound in
        record {
          sound = record {
            laws = s.laws;
            tracks = s.tracks;
            joined = s.joined;
            valued = s.valued;
            value_each = s.value_each;
            numbers = s.numbers;
            declared = s.declared;
            inside = s.inside;
            placed = s.placed;
            frames = subst (AreFrames (game_of m) m.remains m.values.items m.number (trail_len m.remains)) (sym e) (frames_same (game_of m) m.remains m.remains m.values.items m.number mark.at (trail_len m.remains) more is_fork.at (λ k l. refl) frames_more);
            read = reads_open (game_of m) m.remains m.values.items m.reads m.nesting gs (λ b.
                let h : ReadBy (past_box m.remains mark.at) m.values.items m.reads mark.at × AreBranchesRead m.remains m.values.items m.reads more = subst (AreBranchesRead m.remains m.values.items m.reads) top b in
                subst (AreBranchesRead m.remains m.values.items m.reads) (sym e) h.1) s.read;
          };
          scope = is_fork.scope;
        }

    pub dot_ends : (new : Machine) → is_none_left last.left ≡ true → ((n : ℕ) (d : Ledger) (es : List Entry) (xs : List Seen) → IsPartEnd n (record m { nesting = gs }) d es xs → Tells new (Some (part_ended (record m { nesting = gs }) d es xs))) →
        PartTells m new (λ d. at_entry d.entries (λ b fs. ledger_fork (game_of m) d b fs Dot))
    dot_ends new none h n d es xs u few p k = by es p k
      where
        keeps : (outer : List Entry) → PartKeeps (game_of m) n (branch_entry last ∷ outer) m.number xs (before_of m) → PartKeeps (game_of m) n outer m.number xs (before_of m)
        keeps outer l = record { here = l.here; above = l.above; all = l.all; scope = l.scope; entries = l.entries.2 }

        there : (outer : List Entry) → AreEntries (game_of m) m.remains m.values.items m.joins m.number more outer → IsPart m d (branch_entry last ∷ outer) xs → PartKeeps (game_of m) n (branch_entry last ∷ outer) m.number xs (before_of m) →
            Tells new (ledger_fork (game_of m) (part_at m d (branch_entry last ∷ outer) xs u) last outer Dot)
        there outer o q l =
            let base : Ledger = record (part_at m d (branch_entry last ∷ outer) xs u) { entries = outer } in
            let made = h (suc n) base outer (xs ++ []) (record {
              few = omega (arith, few);
              part = record {
                counts = q.counts;
                entries = subst (λ hs. AreEntries (game_of m) m.remains m.values.items m.joins m.number hs outer) (sym e) o;
                stands = subst (StandsAt m.joins m.number) (sym (append-nil xs)) q.stands;
              };
              sizes = part_also (game_of m) n outer m.number xs [] (before_of m) (none_seen (game_of m) m.number) (keeps outer l);
            }) in
            subst (Tells new) (sym (a_ledger (is_none_left last.left) (part_closed (game_of m) base outer m.number m.horizon (xs ++ []) (before_of m)) none)) made

        by : (es : List Entry) → IsPart m d es xs → PartKeeps (game_of m) n es m.number xs (before_of m) → Tells new (at_entry es (λ b fs. ledger_fork (game_of m) (part_at m d es xs u) b fs Dot))
        by es q l =
            at_last (λ hs. IsPart m d hs xs → PartKeeps (game_of m) n hs m.number xs (before_of m) → Tells new (at_entry hs (λ b fs. ledger_fork (game_of m) (part_at m d hs xs u) b fs Dot))) es q.entries
            (λ outer o r s. there outer o r s) q l

  pub not_dot : is_none_left last.left ≡ false → (d : Ledger) (es : List Entry) (xs : List Seen) (u : Awaited) → IsPart m d es xs → at_entry es (λ b fs. ledger_fork (game_of m) (part_at m d es xs u) b fs Dot) ≡ None
  not_dot e d es xs u p = at_last (λ gs. at_entry gs (λ b fs. ledger_fork (game_of m) (part_at m d es xs u) b fs Dot) ≡ None) es p.entries (λ outer h. no_ledger (is_none_left last.left) _ e)

pub inside_there : (s t : Held) (x : ℕ) → s ≡ t → x < length t.box → x < length s.box
inside_there s t x e h = subst (λ (r : Held). x < length r.box) (sym e) h

pub least_none : (vs : Values) (o : Option ℤ) → o ≡ least_of vs → is_some o ≡ false → is_none_left vs ≡ true
least_none [] o e h = refl
least_none (v ∷ vs) o e h = let c : true ≡ false = sym (ap is_some e) ∙ h in cc

pub least_some : (vs : Values) (o : Option ℤ) → o ≡ least_of vs → is_some o ≡ true → is_none_left vs ≡ false
least_some [] o e h = let c : false ≡ true = sym (ap is_some e) ∙ h in cc
least_some (v ∷ vs) o e h = refl
