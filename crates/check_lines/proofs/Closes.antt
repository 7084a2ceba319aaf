-- What the machine tells where a part, or a node, ends.
use Rattle.std.proofs.Common.{◌≡◌, ℕ, ◌<◌, ◌≤◌, ◌-◌, true, false, List, [], ◌∷◌, ◌++◌, length, refl, sym, ap, ◌∙◌, subst, arith, ℤ, Option, Some}
use Rattle.qc_model.specs.declared.problem.VarId.{VarId}
use Rattle.qc_model.specs.Content.{Game}
use Rattle.qc_model.specs.Domains.{has_empty}
use Rattle.qc_model.specs.Verdict.{Verdict, Seen, seen_node}
use Rattle.model_arguments.specs.Asked.{is_box_of}
use Rattle.joins.specs.Seen.{verdict_of}
use Rattle.joins.specs.declared.leaves.Found.{Found}
use Rattle.joins.specs.Joins.{game_of as game_joined, StandsAt, KeepsOthers, KeepsAll, LeafFits, out_of}
use Rattle.joins.specs.Verdicts.{verdict_at, own_at}
use Rattle.joins.specs.Columns.{IsSmall}
use Rattle.joins.specs.declared.joins.Joins.{Joins}
use Rattle.fd_store.specs.declared.store.Mark.{Mark}
use Rattle.fd_store.specs.Held.{Held, trail_len, past_box, IsUndone}
use Rattle.check_lines.specs.declared.open.Open.{Open}
use Rattle.check_lines.specs.declared.open.Open.TheVariants.{Next, Branch}
use Rattle.check_lines.specs.declared.open.Due.TheVariants as due
use Rattle.check_lines.specs.declared.machine.Machine.{Machine}
use Rattle.check_lines.specs.Awaited.{case_awaited}
use Rattle.check_lines.specs.Ledger.{Ledger, Entry, next_entry, branch_entry, part_closed}
use Rattle.check_lines.specs.LedgerSizes.{ClosesKeep, NodeFits}
use Rattle.joins.specs.Sizes.{HasSizes}
use Rattle.check_lines.specs.Machine.{game_of, fork_at, before_of, IsFork, AreFrames, IsSound, IsWithin, IsBack, IsAtFork}
use Rattle.check_box.specs.Placed.{values_to, IsAt}
use Rattle.check_lines.specs.Telling.{AreEntries, AreOpen, IsPartEnd, IsNodeEnd, GoesUp, IsLeft, part_at, part_ended, node_ended, came, TellsPart}
use Rattle.check_lines.proofs.Frames.{frames_same, entries_same, entries_joins}
use Rattle.check_box.proofs.Fewer.{at_fewer}
use Rattle.check_lines.proofs.LedgerSizes.{closes_up}
use Rattle.check_lines.proofs.Known.{reads_back, reads_open}
use Rattle.check_lines.specs.Known.{mark_of, ReadBy, AreBranchesRead}
use Rattle.check_lines.specs.declared.reads.Reads.{Reads}

-- the branch that is open last
pub record TopIs (g : Game) (s : Held) (vs : List ℤ) (js : Joins) (i : ℕ) (fs : List Open) (x : VarId) (mark : Mark) (from : ℤ) (es : List Entry) : Type 0 where
  pub outer : List Entry
  pub split : es ≡ branch_entry (fork_at s x mark from) ∷ outer
  pub entries : AreEntries g s vs js i fs outer

pub top_is : (g : Game) (s : Held) (vs : List ℤ) (js : Joins) (i : ℕ) (x : VarId) (mark : Mark) (from : ℤ) (fs gs : List Open) (es : List Entry) → gs ≡ Branch x mark from ∷ fs → AreEntries g s vs js i gs es → TopIs g s vs js i fs x mark from es
top_is g s vs js i x mark from fs gs es e h = by es (subst (λ hs. AreEntries g s vs js i hs es) e h)
  where
    by : (es : List Entry) → AreEntries g s vs js i (Branch x mark from ∷ fs) es → TopIs g s vs js i fs x mark from es
    by [] k = absurd k
    by (next_entry xs a z ∷ es) k = absurd k
    by (branch_entry b ∷ es) k = record { outer = es; split = ap (λ c. branch_entry c ∷ es) k.0; entries = k.1 }

-- its mark and its box
pub top_fork : (m : Machine) (x : VarId) (mark : Mark) (from : ℤ) (more : List Open) → m.nesting ≡ Branch x mark from ∷ more → IsSound m → IsFork (game_of m) m.remains m.values.items m.number (trail_len m.remains) x mark
top_fork m x mark from more e s = let h : IsFork (game_of m) m.remains m.values.items m.number (trail_len m.remains) x mark × AreFrames (game_of m) m.remains m.values.items m.number mark.at more = subst (AreFrames (game_of m) m.remains m.values.items m.number (trail_len m.remains)) e s.frames in h.0

-- what is open after going back to the branch that is open last
module _ (m : Machine) (t : Held) (x : VarId) (mark : Mark) (from : ℤ) (more : List Open) (e : m.nesting ≡ Branch x mark from ∷ more) (s : IsSound m) (u : IsUndone mark.at m.remains t) (b : t.box ≡ past_box m.remains mark.at) (q : Reads) (marks : q.marks.items ≡ m.reads.marks.items) (fewer : q.count ≤ m.reads.count) (known : (k : ℕ) → k < q.count → mark_of q k ≤ mark.at) where
  frames_top : IsFork (game_of m) m.remains m.values.items m.number (trail_len m.remains) x mark × AreFrames (game_of m) m.remains m.values.items m.number mark.at more
  frames_top = subst (AreFrames (game_of m) m.remains m.values.items m.number (trail_len m.remains)) e s.frames

  frames_at : AreFrames (game_of m) m.remains m.values.items m.number mark.at m.nesting
  frames_at =
      let h = frames_top in
      subst (AreFrames (game_of m) m.remains m.values.items m.number mark.at) (sym e)
      (record { scope = h.0.scope; at = omega arith; variable = h.0.variable; box = h.0.box }, h.1)

  read_top : ReadBy (past_box m.remains mark.at) m.values.items m.reads mark.at
  read_top = let h : ReadBy (past_box m.remains mark.at) m.values.items m.reads mark.at × AreBranchesRead m.remains m.values.items m.reads more = subst (AreBranchesRead m.remains m.values.items m.reads) e s.read.branches in h.0

  pub back_ready : IsAtFork (record m { remains = t; reads = q; due = due.Case })
  back_ready = record {
    sound = record {
      laws = s.laws;
      tracks = s.tracks;
      joined = s.joined;
      valued = s.valued;
      value_each = s.value_each;
      numbers = s.numbers;
      declared = subst (λ c. is_box_of (game_of m) c ≡ true) (sym b) frames_top.0.box.declared;
      inside = s.inside;
      placed = λ full. subst (IsAt (game_of m) m.number m.values.items) (sym b) frames_top.0.box.placed;
      frames = frames_same (game_of m) m.remains t m.values.items m.number mark.at (trail_len t) m.nesting (let l = u.len in omega (arith, l)) u.boxes frames_at;
      read = reads_back (game_of m) m.remains t m.values.items m.reads q m.number mark.at m.nesting u b marks fewer known read_top frames_at s.read;
    };
    back = subst (IsBack t) (sym e) (b ∙ sym (u.boxes mark.at (omega arith)));
  }

  pub back_tells : (n : ℕ) (d : Ledger) (es : List Entry) (xs : List Seen) → IsPartEnd n m d es xs → TellsPart (record m { remains = t; reads = q; due = due.Case }) case_awaited (Some (part_ended m d es xs))
  back_tells n d es xs p =
      let k = top_is (game_of m) m.remains m.values.items m.joins m.number x mark from more m.nesting es e p.part.entries in
      let kept : AreOpen (record m { remains = t; reads = q; due = due.Case }) es = entries_same (game_of m) m.remains t m.values.items m.joins m.number mark.at m.nesting es u.boxes frames_at p.part.entries in (
        d,
        es,
        xs,
        record { counts = p.part.counts; entries = kept; stands = p.part.stands },
        ap Some (ap (λ fs. part_ended m d fs xs) k.split ∙ (ap (λ c. let r : Ledger = record d { box = c; entries = branch_entry (fork_at m.remains x mark from) ∷ k.outer; awaited = case_awaited; number = m.number; horizon = m.horizon; seen = xs; before = before_of m } in r) (sym b) ∙ ap (λ fs. part_at (record m { remains = t; reads = q; due = due.Case }) d fs xs case_awaited) (sym k.split))),
      )

-- a scope's own tree that isn't within a branch
pub scope_is_part : (g : Game) (s : Held) (vs : List ℤ) (js : Joins) (d : Ledger) (i : ℕ) (z h : Option ℕ) (xs : List Seen) (a : List ℤ) (fs gs : List Open) (es : List Entry) → gs ≡ Next h ∷ fs → AreEntries g s vs js i gs es →
    came g d es i z (verdict_at g i a xs) (own_at g i xs) ≡ part_closed g d es i z xs a
scope_is_part g s vs js d i z h xs a fs gs es e k = by es (subst (λ hs. AreEntries g s vs js i hs es) e k)
  where
    by : (es : List Entry) → AreEntries g s vs js i (Next h ∷ fs) es → came g d es i z (verdict_at g i a xs) (own_at g i xs) ≡ part_closed g d es i z xs a
    by [] q = absurd q
    by (branch_entry b ∷ es) q = absurd q
    by (next_entry up above y ∷ es) q = refl

pub scope_is_root : (g : Game) (s : Held) (vs : List ℤ) (js : Joins) (d : Ledger) (i : ℕ) (z : Option ℕ) (xs : List Seen) (a : List ℤ) (gs : List Open) (es : List Entry) → gs ≡ [] → AreEntries g s vs js i gs es →
    came g d es i z (verdict_at g i a xs) (own_at g i xs) ≡ part_closed g d es i z xs a
scope_is_root g s vs js d i z xs a gs es e k = by es (subst (λ hs. AreEntries g s vs js i hs es) e k)
  where
    by : (es : List Entry) → AreEntries g s vs js i [] es → came g d es i z (verdict_at g i a xs) (own_at g i xs) ≡ part_closed g d es i z xs a
    by [] q = refl
    by (b ∷ es) q = absurd q

-- what the scope has come to goes up
module _ (m : Machine) (js : Joins) (f : Found) (o : Option ℤ) (s : IsSound m) (all : KeepsAll m.joins js) (same : game_joined js ≡ game_joined m.joins) where
  pub found_ends : (n : ℕ) (d : Ledger) (es : List Entry) (xs : List Seen) → IsPartEnd n m d es xs → verdict_of f (out_of js) ≡ verdict_at (game_of m) m.number (before_of m) xs → IsNodeEnd n (record m { joins = js; found = f; own = o }) d es (verdict_at (game_of m) m.number (before_of m) xs)
  found_ends n d es xs p e = record {
    few = p.few;
    node = record {
      counts = p.part.counts;
      entries = entries_joins (game_of m) m.remains m.values.items m.joins js m.number (trail_len m.remains) m.nesting es (λ j ys l h. all j ys h) s.frames p.part.entries;
    };
    verdict = sym e;
    sizes = goes_up es p.sizes;
  }
    where
      goes_up : (es : List Entry) → ClosesKeep (game_of m) n es m.number xs (before_of m) → GoesUp (game_of m) n es m.number (verdict_at (game_of m) m.number (before_of m) xs)
      goes_up [] h = tt
      goes_up (branch_entry b ∷ es) h = tt
      goes_up (next_entry up above z ∷ es) h = closes_up (game_of m) s.laws n es m.number xs up (before_of m) above z h

-- the node goes up to the scope's own tree from which it was reached
pub left_scope : (m : Machine) (i : ℕ) (h : Option ℕ) (more : List Open) → m.nesting ≡ Next h ∷ more → IsSound m → i ≡ m.number - 1 → i < length (game_of m).scopes
left_scope m i h more e s back =
    let f : (0 < m.number) × AreFrames (game_of m) m.remains m.values.items (m.number - 1) (trail_len m.remains) more = subst (AreFrames (game_of m) m.remains m.values.items m.number (trail_len m.remains)) e s.frames in
    let p = f.0 in
    let k = s.inside in
    omega (arith, k, back, p)

module _ (m : Machine) (js : Joins) (i : ℕ) (h : Option ℕ) (more rest : List Open) (e : m.nesting ≡ Next h ∷ more) (r : rest ≡ more) (s : IsSound m) (back : i ≡ m.number - 1) (others : KeepsOthers i m.joins js) (same : game_joined js ≡ game_joined m.joins) where
  abbrev left : Machine
  left = record m { nesting = rest; number = i; horizon = h; joins = js }

  frames_next : (0 < m.number) × AreFrames (game_of m) m.remains m.values.items (m.number - 1) (trail_len m.remains) more
  frames_next = subst (AreFrames (game_of m) m.remains m.values.items m.number (trail_len m.remains)) e s.frames

  pub left_within : IsWithin left
  left_within = record {
    sound = record {
      laws = s.laws;
      tracks = s.tracks;
      joined = same ∙ s.joined;
      valued = s.valued;
      value_each = s.value_each;
      numbers = s.numbers;
      declared = s.declared;
      inside = let k = s.inside in omega (arith, k, back);
      placed = subst (λ j. has_empty m.remains.box ≡ false → IsAt (game_of m) j m.values.items m.remains.box) (sym back) (λ full. at_fewer (game_of m) m.number m.values.items m.remains.box (s.placed full));
      frames = subst (λ j. AreFrames (game_of m) m.remains m.values.items j (trail_len m.remains) rest) (sym back) (subst (AreFrames (game_of m) m.remains m.values.items (m.number - 1) (trail_len m.remains)) (sym r) frames_next.1);
      read = reads_open (game_of m) m.remains m.values.items m.reads m.nesting rest (λ b. subst (AreBranchesRead m.remains m.values.items m.reads) (sym r) (subst (AreBranchesRead m.remains m.values.items m.reads) e b)) s.read;
    };
    scope = let k = s.inside in let p = frames_next.0 in omega (arith, k, back, p);
  }

  keeps_before : (j : ℕ) (xs : List Seen) → j < m.number - 1 → StandsAt m.joins j xs → StandsAt js j xs
  keeps_before j xs l q = others j xs (λ eq. absurd (omega (arith, l, back, eq))) q

  pub left_goes : (small : (n : ℕ) (xs : List Seen) → HasSizes n xs → n ≤ 4294967296 → IsSmall xs) →
      (stands : (xs : List Seen) → StandsAt m.joins i xs → LeafFits (game_joined m.joins) i xs (verdict_of m.found (out_of m.joins)) → StandsAt js i (xs ++ seen_node (verdict_of m.found (out_of m.joins)) ∷ [])) →
      (n : ℕ) (d : Ledger) (es : List Entry) (v : Verdict) → IsNodeEnd n m d es v → IsLeft n left d (node_ended m d es v)
  left_goes small stands n d es v p = by es (subst (λ fs. AreEntries (game_of m) m.remains m.values.items m.joins m.number fs es) e p.node.entries) p.sizes
    where
      fits : (up : List Seen) → NodeFits (game_of m) n (m.number - 1) up v → LeafFits (game_joined m.joins) i up (verdict_of m.found (out_of m.joins))
      fits up q =
          subst (LeafFits (game_joined m.joins) i up) p.verdict
          (subst (λ j. LeafFits (game_joined m.joins) j up v) (sym back)
          (subst (λ g. LeafFits g (m.number - 1) up v) (sym s.joined) (record { long = q.long; small = small n (up ++ seen_node v ∷ []) q.sizes p.few })))

      at_back : (j : ℕ) (up : List Seen) (above : List ℤ) (z : Option ℕ) (outer : List Entry) → j ≡ i → z ≡ h → above ≡ values_to (game_of m) j m.values.items →
          part_closed (game_of m) d outer j z (up ++ seen_node v ∷ []) above ≡ part_ended left d outer (up ++ seen_node v ∷ [])
      at_back j up above z outer e1 e2 e3 =
          ap (λ y. part_closed (game_of m) d outer j y (up ++ seen_node v ∷ []) above) e2
          ∙ (ap (part_closed (game_of m) d outer j h (up ++ seen_node v ∷ [])) e3
          ∙ ap (λ k. part_closed (game_of m) d outer k h (up ++ seen_node v ∷ []) (values_to (game_of m) k m.values.items)) e1)

      by : (es : List Entry) → AreEntries (game_of m) m.remains m.values.items m.joins m.number (Next h ∷ more) es → GoesUp (game_of m) n es m.number v → IsLeft n left d (node_ended m d es v)
      by [] q k = absurd q
      by (branch_entry b ∷ es) q k = absurd q
      by (next_entry up above z ∷ outer) q k = record {
        outer = outer;
        seen = up ++ seen_node v ∷ [];
        part = record {
          few = p.few;
          part = record {
            counts = p.node.counts;
            entries = subst (λ j. AreEntries (game_of m) m.remains m.values.items js j rest outer) (sym back)
                (subst (λ fs. AreEntries (game_of m) m.remains m.values.items js (m.number - 1) fs outer) (sym r)
                (entries_joins (game_of m) m.remains m.values.items m.joins js (m.number - 1) (trail_len m.remains) more outer keeps_before frames_next.1 q.3));
            stands = subst (λ w. StandsAt js i (up ++ seen_node w ∷ [])) (sym p.verdict) (stands up (subst (λ j. StandsAt m.joins j up) (sym back) q.2) (fits up k.1));
          };
          sizes = subst (λ j. ClosesKeep (game_of m) n outer j (up ++ seen_node v ∷ []) (values_to (game_of m) j m.values.items)) (sym back)
              (subst (ClosesKeep (game_of m) n outer (m.number - 1) (up ++ seen_node v ∷ [])) q.1 k.0);
        };
        ledger = at_back (m.number - 1) up above z outer (sym back) q.0 q.1;
      }
