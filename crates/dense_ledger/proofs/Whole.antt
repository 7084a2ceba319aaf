-- Lines that come to an end are the lines of a certificate.
use Rattle.std.proofs.Common.{◌≡◌, Bool, true, false, not, ◌&&◌, cond, Option, Some, None, List, slice_get, [], ◌∷◌, ◌++◌, map, refl, sym, ap, ◌∙◌, subst, ℤ, append-nil}
use Rattle.std.specs.List.{list_all}
use Rattle.qc_model.specs.declared.problem.ScopeId.{ScopeId}
use Rattle.qc_model.specs.Content.{Game}
use Rattle.qc_model.specs.Verdict.{Verdict}
use Rattle.proof_tree.specs.Text.{outcome_fits, is_place}
use Rattle.dense_tree.specs.Tree.{Step, close, bound, reply, Node, node, again, no_play, Body, stuck, goal, cases, Ending, empty, barred, best_left, dead, next, chosen, branch, Branches, no_more, piece, Case, skip, left_open, go, Given}
use Rattle.dense_tree.specs.Lines.{Line, given_line, named_line, horizon_line, stuck_line, goal_line, again_line, no_play_line, close_line, bound_line, reply_line, empty_line, barred_line, best_line, next_line, chosen_line, branch_line, range_line, skip_line, open_line, dot_line, step_line, horizon_lines, upto_lines, node_lines, body_lines, ending_lines, branches_lines, case_lines}
use Rattle.dense_tree.specs.Place.{Setting, Place, root_place}
use Rattle.dense_tree.specs.InPlace.{cases_placed}
use Rattle.dense_tree.specs.Read.{Known}
use Rattle.dense_tree.specs.Text.{is_dead, node_fits, body_fits, ending_fits, branches_fit, case_fits, horizon_fits, step_fits, upto_fits, tuple_fits, scope_fits, given_fits}
use Rattle.dense_ledger.specs.Ledger.{Entry, entry_at, Own, Fork, Frame, waiting, forked, Due, given_due, node_due, named_due, body_due, part_due, case_due, ranged_due, ended_due, Ledger, only_ledger, setting_of, part_ended, node_ended, part_line, begun, body_line, horizoned, told_again, node_line, may_go, passed, gone_into, case_place, case_line, fork_line, at_fork, first_line, goes_at, goes, goes_through, first_ledger}
use Rattle.dense_ledger.specs.Whole.{line_fits, EndedLinesAreWhole}
use Rattle.dense_ledger.proofs.Small.{both, regroup}

abbrev given_lines : List Given → List Line
given_lines us = map (λ (u : Given). given_line u.scope u.tuple) us

join : (a b : Bool) → a ≡ true → b ≡ true → a && b ≡ true
join true b p q = q
join false b p q = cc

-- what lines have to be after a part, where these are open: the other cases of a branch, a dot and what follows it; or nothing
abbrev After : List Frame → List Line → Type 0
After [] ls = ls ≡ []
After (waiting up ∷ fs) ls = After fs ls
After (forked f ∷ fs) ls = (bs : Branches) × (rest : List Line) × (ls ≡ (branches_lines bs ++ dot_line ∷ []) ++ rest) × (branches_fit bs ≡ true) × After fs rest

-- a node is read at such frames
abbrev IsNodes : List Frame → Type 0
IsNodes [] = Unit {0}
IsNodes (waiting up ∷ fs) = Unit {0}
IsNodes (forked f ∷ fs) = ⊥

record PartLines (fs : List Frame) (ls : List Line) : Type 0 where
  pub steps : List Step
  pub end : Ending
  pub rest : List Line
  pub lines : ls ≡ (map step_line steps ++ ending_lines end) ++ rest
  pub steps_fit : list_all step_fits steps ≡ true
  pub end_fits : ending_fits end ≡ true
  pub after : After fs rest

record BodyLines (fs : List Frame) (ls : List Line) : Type 0 where
  pub body : Body
  pub rest : List Line
  pub lines : ls ≡ body_lines body ++ rest
  pub alive : is_dead body ≡ false
  pub fits : body_fits body ≡ true
  pub after : After fs rest

record NamedLines (fs : List Frame) (ls : List Line) : Type 0 where
  pub horizon : Option ScopeId
  pub body : Body
  pub rest : List Line
  pub lines : ls ≡ (horizon_lines horizon ++ body_lines body) ++ rest
  pub horizon_fit : horizon_fits horizon ≡ true
  pub alive : is_dead body ≡ false
  pub fits : body_fits body ≡ true
  pub after : After fs rest

record NodeLines (fs : List Frame) (ls : List Line) : Type 0 where
  pub root : Node
  pub rest : List Line
  pub lines : ls ≡ node_lines root ++ rest
  pub fits : node_fits root ≡ true
  pub after : After fs rest

-- a case, and the others
record CaseLines (fs : List Frame) (ls : List Line) : Type 0 where
  pub one : Case
  pub others : List Line
  pub lines : ls ≡ case_lines one ++ others
  pub fits : case_fits one ≡ true
  pub bs : Branches
  pub rest : List Line
  pub more : others ≡ (branches_lines bs ++ dot_line ∷ []) ++ rest
  pub others_fit : branches_fit bs ≡ true
  pub after : After fs rest

record GivenLines (fs : List Frame) (ls : List Line) : Type 0 where
  pub given : List Given
  pub behind : List Line
  pub lines : ls ≡ given_lines given ++ behind
  pub fits : list_all given_fits given ≡ true
  pub node : NodeLines fs behind

-- what lines have to be that come to an end, where this is due
abbrev OwesAt : Due → List Frame → List Line → Type 0
OwesAt given_due fs ls = IsNodes fs → GivenLines fs ls
OwesAt (node_due e) fs ls = IsNodes fs → NodeLines fs ls
OwesAt (named_due e) fs ls = IsNodes fs → NamedLines fs ls
OwesAt (body_due e) fs ls = IsNodes fs → BodyLines fs ls
OwesAt (part_due q) fs ls = PartLines fs ls
OwesAt case_due [] ls = ⊥
OwesAt case_due (waiting up ∷ fs) ls = ⊥
OwesAt case_due (forked f ∷ fs) ls = After (forked f ∷ fs) ls
OwesAt (ranged_due high) [] ls = ⊥
OwesAt (ranged_due high) (waiting up ∷ fs) ls = ⊥
OwesAt (ranged_due high) (forked f ∷ fs) ls = CaseLines fs ls
OwesAt (ended_due v own) fs ls = ls ≡ []

abbrev Owes : Option Ledger → List Line → Type 0
Owes None ls = ⊥
Owes (Some d) ls = OwesAt d.due d.frames ls

only_back : (c : Bool) (d : Ledger) (ls : List Line) → Owes (only_ledger c d) ls → Owes (Some d) ls
only_back true d ls h = h
only_back false d ls h = absurd h

cond_back : (c : Bool) (p : Option Ledger) (ls : List Line) → Owes (cond c p None) ls → Owes p ls
cond_back true p ls h = h
cond_back false p ls h = absurd h

part_back : (s : Setting) (fs : List Frame) (d : Ledger) (o : Own) (ls : List Line) → Owes (Some (part_ended s d o fs)) ls → After fs ls
part_back s [] d o ls h = h
part_back s (forked f ∷ fs) d o ls h = h
part_back s (waiting up ∷ fs) d o ls h = part_back s fs _ _ ls h

node_back : (s : Setting) (fs : List Frame) (d : Ledger) (e : Entry) (v : Verdict) (ls : List Line) → IsNodes fs → Owes (Some (node_ended s d e v fs)) ls → After fs ls
node_back s [] d e v ls f h = h
node_back s (forked b ∷ fs) d e v ls f h = absurd f
node_back s (waiting up ∷ fs) d e v ls f h = part_back s fs _ _ ls h

abbrev is_no_play : Line → Bool
is_no_play (no_play_line k) = true
is_no_play l = false

-- a scope's own tree, of which this line is the first
record PartBegins (fs : List Frame) (l : Line) (ls : List Line) : Type 0 where
  pub part : PartLines fs (l ∷ ls)
  pub alive : is_dead (cases part.steps part.end) ≡ is_no_play l

step_back : (st : Step) (fs : List Frame) (ls : List Line) → step_fits st ≡ true → is_no_play (step_line st) ≡ false → PartLines fs ls → PartBegins fs (step_line st) ls
step_back st fs ls f e h = record {
  part = record {
    steps = st ∷ h.steps;
    end = h.end;
    rest = h.rest;
    lines = ap (λ ks. step_line st ∷ ks) h.lines;
    steps_fit = join (step_fits st) (list_all step_fits h.steps) f h.steps_fit;
    end_fits = h.end_fits;
    after = h.after;
  };
  alive = sym e;
}

end_back : (end : Ending) (l : Line) (ls rest : List Line) (fs : List Frame) → l ∷ ls ≡ ending_lines end ++ rest → ending_fits end ≡ true → is_dead (cases [] end) ≡ is_no_play l → After fs rest → PartBegins fs l ls
end_back end l ls rest fs e f a h = record {
  part = record { steps = []; end = end; rest = rest; lines = e; steps_fit = refl; end_fits = f; after = h };
  alive = a;
}

module _ (g : Game) where
  part_line_back : (s : Setting) (d : Ledger) (q : Place) (l : Line) (ls : List Line) → line_fits l ≡ true → Owes (part_line s d q l) ls → PartBegins d.frames l ls
  part_line_back s d q close_line ls f h = step_back close d.frames ls refl refl (only_back _ _ ls h)
  part_line_back s d q (bound_line x low high) ls f h = step_back (bound x low high) d.frames ls f refl (only_back _ _ ls h)
  part_line_back s d q (reply_line t) ls f h = step_back (reply t) d.frames ls f refl (only_back _ _ ls h)
  part_line_back s d q empty_line ls f h = end_back empty empty_line ls ls d.frames refl refl refl (part_back s d.frames _ _ ls (only_back _ _ ls h))
  part_line_back s d q barred_line ls f h = end_back barred barred_line ls ls d.frames refl refl refl (part_back s d.frames _ _ ls (only_back _ _ ls h))
  part_line_back s d q best_line ls f h = end_back best_left best_line ls ls d.frames refl refl refl (part_back s d.frames _ _ ls (only_back _ _ ls h))
  part_line_back s d q (no_play_line k) ls f h = end_back (dead k) (no_play_line k) ls ls d.frames refl f refl (part_back s d.frames _ _ ls (only_back _ _ ls h))
  part_line_back s d q next_line ls f h =
      let w : Unit {0} → NodeLines (waiting d.own ∷ d.frames) ls = only_back _ _ ls h in
      let m = w tt in
      end_back (next m.root) next_line ls m.rest d.frames (ap (λ ks. next_line ∷ ks) m.lines) m.fits refl m.after
  part_line_back s d q (chosen_line t) ls f h =
      let w : Unit {0} → NodeLines (waiting d.own ∷ d.frames) ls = only_back _ _ ls h in
      let m = w tt in
      end_back (chosen t m.root) (chosen_line t) ls m.rest d.frames (ap (λ ks. chosen_line t ∷ ks) m.lines) (join (tuple_fits t) (node_fits m.root) f m.fits) refl m.after
  part_line_back s d q (branch_line x) ls f h =
      let m : (bs : Branches) × (rest : List Line) × (ls ≡ (branches_lines bs ++ dot_line ∷ []) ++ rest) × (branches_fit bs ≡ true) × After d.frames rest = only_back _ _ ls h in
      end_back (branch x m.0) (branch_line x) ls m.1 d.frames (ap (λ ks. branch_line x ∷ ks) m.2) (join (is_place 500 x.0) (branches_fit m.0) f m.3) refl m.4
  part_line_back s d q (given_line k t) ls f h = absurd h
  part_line_back s d q named_line ls f h = absurd h
  part_line_back s d q (horizon_line k) ls f h = absurd h
  part_line_back s d q stuck_line ls f h = absurd h
  part_line_back s d q goal_line ls f h = absurd h
  part_line_back s d q (again_line n) ls f h = absurd h
  part_line_back s d q (range_line high) ls f h = absurd h
  part_line_back s d q skip_line ls f h = absurd h
  part_line_back s d q open_line ls f h = absurd h
  part_line_back s d q dot_line ls f h = absurd h

  tree_back : (s : Setting) (d : Ledger) (e : Entry) (l : Line) (ls : List Line) → line_fits l ≡ true → is_no_play l ≡ false → Owes (cond (cases_placed e.place) (part_line s (begun d e) e.place l) None) ls → BodyLines d.frames (l ∷ ls)
  tree_back s d e l ls f a h =
      let m = part_line_back s (begun d e) e.place l ls f (cond_back (cases_placed e.place) (part_line s (begun d e) e.place l) ls h) in
      let p = m.part in
      record {
        body = cases p.steps p.end;
        rest = p.rest;
        lines = p.lines;
        alive = m.alive ∙ a;
        fits = join (list_all step_fits p.steps) (ending_fits p.end) p.steps_fit p.end_fits;
        after = p.after;
      }

  plain_back : (body : Body) (l : Line) (ls : List Line) (fs : List Frame) → l ∷ ls ≡ body_lines body ++ ls → is_dead body ≡ false → body_fits body ≡ true → After fs ls → BodyLines fs (l ∷ ls)
  plain_back body l ls fs e a f h = record { body = body; rest = ls; lines = e; alive = a; fits = f; after = h }

  body_back : (s : Setting) (d : Ledger) (e : Entry) (l : Line) (ls : List Line) → line_fits l ≡ true → IsNodes d.frames → Owes (body_line s d e l) ls → BodyLines d.frames (l ∷ ls)
  body_back s d e stuck_line ls f n h = plain_back stuck stuck_line ls d.frames refl refl refl (node_back s d.frames _ e _ ls n (only_back _ _ ls h))
  body_back s d e goal_line ls f n h = plain_back goal goal_line ls d.frames refl refl refl (node_back s d.frames _ e _ ls n (only_back _ _ ls h))
  body_back s d e close_line ls f n h = tree_back s d e close_line ls f refl h
  body_back s d e (bound_line x low high) ls f n h = tree_back s d e (bound_line x low high) ls f refl h
  body_back s d e (reply_line t) ls f n h = tree_back s d e (reply_line t) ls f refl h
  body_back s d e empty_line ls f n h = tree_back s d e empty_line ls f refl h
  body_back s d e barred_line ls f n h = tree_back s d e barred_line ls f refl h
  body_back s d e best_line ls f n h = tree_back s d e best_line ls f refl h
  body_back s d e next_line ls f n h = tree_back s d e next_line ls f refl h
  body_back s d e (chosen_line t) ls f n h = tree_back s d e (chosen_line t) ls f refl h
  body_back s d e (branch_line x) ls f n h = tree_back s d e (branch_line x) ls f refl h
  body_back s d e (no_play_line k) ls f n h = absurd h
  body_back s d e (given_line k t) ls f n h = tree_back s d e (given_line k t) ls f refl h
  body_back s d e named_line ls f n h = tree_back s d e named_line ls f refl h
  body_back s d e (horizon_line k) ls f n h = tree_back s d e (horizon_line k) ls f refl h
  body_back s d e (again_line k) ls f n h = tree_back s d e (again_line k) ls f refl h
  body_back s d e (range_line high) ls f n h = tree_back s d e (range_line high) ls f refl h
  body_back s d e skip_line ls f n h = tree_back s d e skip_line ls f refl h
  body_back s d e open_line ls f n h = tree_back s d e open_line ls f refl h
  body_back s d e dot_line ls f n h = tree_back s d e dot_line ls f refl h

  -- without a horizon, and with one
  bare : (fs : List Frame) (ls : List Line) → BodyLines fs ls → NamedLines fs ls
  bare fs ls m = record { horizon = None; body = m.body; rest = m.rest; lines = m.lines; horizon_fit = refl; alive = m.alive; fits = m.fits; after = m.after }

  below_horizon : (fs : List Frame) (k : ScopeId) (ls : List Line) → scope_fits k ≡ true → BodyLines fs ls → NamedLines fs (horizon_line k ∷ ls)
  below_horizon fs k ls f m = record {
    horizon = Some k;
    body = m.body;
    rest = m.rest;
    lines = ap (λ ks. horizon_line k ∷ ks) m.lines;
    horizon_fit = f;
    alive = m.alive;
    fits = m.fits;
    after = m.after;
  }

  horizoned_back : (s : Setting) (d : Ledger) (e : Entry) (l : Line) (ls : List Line) → line_fits l ≡ true → IsNodes d.frames → Owes (horizoned s d e l) ls → NamedLines d.frames (l ∷ ls)
  horizoned_back s d e (horizon_line k) ls f n h =
      let w : IsNodes d.frames → BodyLines d.frames ls = only_back _ _ ls h in
      below_horizon d.frames k ls f (w n)
  horizoned_back s d e stuck_line ls f n h = bare d.frames (stuck_line ∷ ls) (body_back s d e stuck_line ls f n h)
  horizoned_back s d e goal_line ls f n h = bare d.frames (goal_line ∷ ls) (body_back s d e goal_line ls f n h)
  horizoned_back s d e close_line ls f n h = bare d.frames (close_line ∷ ls) (body_back s d e close_line ls f n h)
  horizoned_back s d e (bound_line x low high) ls f n h = bare d.frames (bound_line x low high ∷ ls) (body_back s d e (bound_line x low high) ls f n h)
  horizoned_back s d e (reply_line t) ls f n h = bare d.frames (reply_line t ∷ ls) (body_back s d e (reply_line t) ls f n h)
  horizoned_back s d e empty_line ls f n h = bare d.frames (empty_line ∷ ls) (body_back s d e empty_line ls f n h)
  horizoned_back s d e barred_line ls f n h = bare d.frames (barred_line ∷ ls) (body_back s d e barred_line ls f n h)
  horizoned_back s d e best_line ls f n h = bare d.frames (best_line ∷ ls) (body_back s d e best_line ls f n h)
  horizoned_back s d e next_line ls f n h = bare d.frames (next_line ∷ ls) (body_back s d e next_line ls f n h)
  horizoned_back s d e (chosen_line t) ls f n h = bare d.frames (chosen_line t ∷ ls) (body_back s d e (chosen_line t) ls f n h)
  horizoned_back s d e (branch_line x) ls f n h = bare d.frames (branch_line x ∷ ls) (body_back s d e (branch_line x) ls f n h)
  horizoned_back s d e (no_play_line k) ls f n h = absurd h
  horizoned_back s d e (given_line k t) ls f n h = bare d.frames (given_line k t ∷ ls) (body_back s d e (given_line k t) ls f n h)
  horizoned_back s d e named_line ls f n h = bare d.frames (named_line ∷ ls) (body_back s d e named_line ls f n h)
  horizoned_back s d e (again_line k) ls f n h = bare d.frames (again_line k ∷ ls) (body_back s d e (again_line k) ls f n h)
  horizoned_back s d e (range_line high) ls f n h = bare d.frames (range_line high ∷ ls) (body_back s d e (range_line high) ls f n h)
  horizoned_back s d e skip_line ls f n h = bare d.frames (skip_line ∷ ls) (body_back s d e skip_line ls f n h)
  horizoned_back s d e open_line ls f n h = bare d.frames (open_line ∷ ls) (body_back s d e open_line ls f n h)
  horizoned_back s d e dot_line ls f n h = bare d.frames (dot_line ∷ ls) (body_back s d e dot_line ls f n h)

  -- a node that has a name, and one that hasn't
  nameless : (fs : List Frame) (ls : List Line) → NamedLines fs ls → NodeLines fs ls
  nameless fs ls m = record {
    root = node false m.horizon m.body;
    rest = m.rest;
    lines = m.lines;
    fits = join (horizon_fits m.horizon && not (is_dead m.body)) (body_fits m.body) (join (horizon_fits m.horizon) (not (is_dead m.body)) m.horizon_fit (ap not m.alive)) m.fits;
    after = m.after;
  }

  named : (fs : List Frame) (ls : List Line) → NamedLines fs ls → NodeLines fs (named_line ∷ ls)
  named fs ls m = record {
    root = node true m.horizon m.body;
    rest = m.rest;
    lines = ap (λ ks. named_line ∷ ks) m.lines;
    fits = join (horizon_fits m.horizon && not (is_dead m.body)) (body_fits m.body) (join (horizon_fits m.horizon) (not (is_dead m.body)) m.horizon_fit (ap not m.alive)) m.fits;
    after = m.after;
  }

  again_back : (s : Setting) (d : Ledger) (e : Entry) (o : Option Known) (ls : List Line) → IsNodes d.frames → Owes (told_again s d e o) ls → After d.frames ls
  again_back s d e None ls n h = absurd h
  again_back s d e (Some k) ls n h = node_back s d.frames _ e _ ls n (only_back _ _ ls h)

  node_line_back : (s : Setting) (d : Ledger) (e : Entry) (l : Line) (ls : List Line) → line_fits l ≡ true → IsNodes d.frames → Owes (node_line s d e l) ls → NodeLines d.frames (l ∷ ls)
  node_line_back s d e named_line ls f n h = named d.frames ls (h n)
  node_line_back s d e (again_line k) ls f n h = record { root = again k; rest = ls; lines = refl; fits = f; after = again_back s d e (slice_get d.known k) ls n h }
  node_line_back s d e (no_play_line k) ls f n h = record { root = no_play k; rest = ls; lines = refl; fits = f; after = node_back s d.frames _ e _ ls n (only_back _ _ ls h) }
  node_line_back s d e close_line ls f n h = nameless d.frames (close_line ∷ ls) (horizoned_back s d e close_line ls f n h)
  node_line_back s d e (bound_line x low high) ls f n h = nameless d.frames (bound_line x low high ∷ ls) (horizoned_back s d e (bound_line x low high) ls f n h)
  node_line_back s d e (reply_line t) ls f n h = nameless d.frames (reply_line t ∷ ls) (horizoned_back s d e (reply_line t) ls f n h)
  node_line_back s d e empty_line ls f n h = nameless d.frames (empty_line ∷ ls) (horizoned_back s d e empty_line ls f n h)
  node_line_back s d e barred_line ls f n h = nameless d.frames (barred_line ∷ ls) (horizoned_back s d e barred_line ls f n h)
  node_line_back s d e best_line ls f n h = nameless d.frames (best_line ∷ ls) (horizoned_back s d e best_line ls f n h)
  node_line_back s d e next_line ls f n h = nameless d.frames (next_line ∷ ls) (horizoned_back s d e next_line ls f n h)
  node_line_back s d e (chosen_line t) ls f n h = nameless d.frames (chosen_line t ∷ ls) (horizoned_back s d e (chosen_line t) ls f n h)
  node_line_back s d e (branch_line x) ls f n h = nameless d.frames (branch_line x ∷ ls) (horizoned_back s d e (branch_line x) ls f n h)
  node_line_back s d e stuck_line ls f n h = nameless d.frames (stuck_line ∷ ls) (horizoned_back s d e stuck_line ls f n h)
  node_line_back s d e goal_line ls f n h = nameless d.frames (goal_line ∷ ls) (horizoned_back s d e goal_line ls f n h)
  node_line_back s d e (range_line high) ls f n h = nameless d.frames (range_line high ∷ ls) (horizoned_back s d e (range_line high) ls f n h)
  node_line_back s d e skip_line ls f n h = nameless d.frames (skip_line ∷ ls) (horizoned_back s d e skip_line ls f n h)
  node_line_back s d e open_line ls f n h = nameless d.frames (open_line ∷ ls) (horizoned_back s d e open_line ls f n h)
  node_line_back s d e dot_line ls f n h = nameless d.frames (dot_line ∷ ls) (horizoned_back s d e dot_line ls f n h)
  node_line_back s d e (given_line k t) ls f n h = nameless d.frames (given_line k t ∷ ls) (horizoned_back s d e (given_line k t) ls f n h)
  node_line_back s d e (horizon_line k) ls f n h = nameless d.frames (horizon_line k ∷ ls) (horizoned_back s d e (horizon_line k) ls f n h)

  passed_back : (d : Ledger) (b : Fork) (fs : List Frame) (upto : Option ℤ) (is_open : Bool) (one : Case) (l : Line) (ls : List Line) → l ∷ ls ≡ case_lines one ++ ls → case_fits one ≡ true → Owes (passed d b fs upto is_open) ls → CaseLines fs (l ∷ ls)
  passed_back d b fs upto is_open one l ls e f h =
      let m : (bs : Branches) × (rest : List Line) × (ls ≡ (branches_lines bs ++ dot_line ∷ []) ++ rest) × (branches_fit bs ≡ true) × After fs rest = only_back _ _ ls h in
      record { one = one; others = ls; lines = e; fits = f; bs = m.0; rest = m.1; more = m.2; others_fit = m.3; after = m.4 }

  taken_back : (s : Setting) (d : Ledger) (b : Fork) (fs : List Frame) (upto : Option ℤ) (l : Line) (ls : List Line) → line_fits l ≡ true →
      Owes (cond (may_go b upto) (part_line s (gone_into d b fs upto) (case_place b upto) l) None) ls → CaseLines fs (l ∷ ls)
  taken_back s d b fs upto l ls f h =
      let p = (part_line_back s (gone_into d b fs upto) (case_place b upto) l ls f (cond_back (may_go b upto) (part_line s (gone_into d b fs upto) (case_place b upto) l) ls h)).part in
      record {
        one = go p.steps p.end;
        others = p.rest;
        lines = p.lines;
        fits = join (list_all step_fits p.steps) (ending_fits p.end) p.steps_fit p.end_fits;
        bs = p.after.0;
        rest = p.after.1;
        more = p.after.2;
        others_fit = p.after.3;
        after = p.after.4;
      }

  case_back : (s : Setting) (d : Ledger) (b : Fork) (fs : List Frame) (upto : Option ℤ) (l : Line) (ls : List Line) → line_fits l ≡ true → Owes (case_line s d b fs upto l) ls → CaseLines fs (l ∷ ls)
  case_back s d b fs upto skip_line ls f h = passed_back d b fs upto false skip skip_line ls refl refl h
  case_back s d b fs upto open_line ls f h = passed_back d b fs upto true left_open open_line ls refl refl h
  case_back s d b fs upto close_line ls f h = taken_back s d b fs upto close_line ls f h
  case_back s d b fs upto (bound_line x low high) ls f h = taken_back s d b fs upto (bound_line x low high) ls f h
  case_back s d b fs upto (reply_line t) ls f h = taken_back s d b fs upto (reply_line t) ls f h
  case_back s d b fs upto empty_line ls f h = taken_back s d b fs upto empty_line ls f h
  case_back s d b fs upto barred_line ls f h = taken_back s d b fs upto barred_line ls f h
  case_back s d b fs upto best_line ls f h = taken_back s d b fs upto best_line ls f h
  case_back s d b fs upto next_line ls f h = taken_back s d b fs upto next_line ls f h
  case_back s d b fs upto (chosen_line t) ls f h = taken_back s d b fs upto (chosen_line t) ls f h
  case_back s d b fs upto (branch_line x) ls f h = taken_back s d b fs upto (branch_line x) ls f h
  case_back s d b fs upto stuck_line ls f h = taken_back s d b fs upto stuck_line ls f h
  case_back s d b fs upto goal_line ls f h = taken_back s d b fs upto goal_line ls f h
  case_back s d b fs upto (range_line high) ls f h = taken_back s d b fs upto (range_line high) ls f h
  case_back s d b fs upto dot_line ls f h = taken_back s d b fs upto dot_line ls f h
  case_back s d b fs upto named_line ls f h = taken_back s d b fs upto named_line ls f h
  case_back s d b fs upto (given_line k t) ls f h = taken_back s d b fs upto (given_line k t) ls f h
  case_back s d b fs upto (horizon_line k) ls f h = taken_back s d b fs upto (horizon_line k) ls f h
  case_back s d b fs upto (again_line n) ls f h = taken_back s d b fs upto (again_line n) ls f h
  case_back s d b fs upto (no_play_line k) ls f h = taken_back s d b fs upto (no_play_line k) ls f h

  -- a case with an upper value or without, and the cases after it
  first_case : (upto : Option ℤ) (b : Fork) (fs : List Frame) (ls : List Line) → upto_fits upto ≡ true → CaseLines fs ls → After (forked b ∷ fs) (upto_lines upto ++ ls)
  first_case upto b fs ls f m = (
    piece upto m.one m.bs,
    m.rest,
    ap (λ ks. upto_lines upto ++ ks) (m.lines ∙ ap (λ ks. case_lines m.one ++ ks) m.more) ∙ sym (regroup (upto_lines upto) (case_lines m.one) (branches_lines m.bs) (dot_line ∷ []) m.rest),
    join (upto_fits upto && case_fits m.one) (branches_fit m.bs) (join (upto_fits upto) (case_fits m.one) f m.fits) m.others_fit,
    m.after,
  )

  one_back : (s : Setting) (d : Ledger) (b : Fork) (fs : List Frame) (l : Line) (ls : List Line) → line_fits l ≡ true → Owes (case_line s d b fs None l) ls → After (forked b ∷ fs) (l ∷ ls)
  one_back s d b fs l ls f h = first_case None b fs (l ∷ ls) refl (case_back s d b fs None l ls f h)

  fork_back : (s : Setting) (d : Ledger) (b : Fork) (fs : List Frame) (l : Line) (ls : List Line) → d.frames ≡ forked b ∷ fs → line_fits l ≡ true → Owes (fork_line s d b fs l) ls → After (forked b ∷ fs) (l ∷ ls)
  fork_back s d b fs dot_line ls e f h = (no_more, ls, refl, refl, part_back s fs _ _ ls (only_back _ _ ls h))
  fork_back s d b fs (range_line high) ls e f h = first_case (Some high) b fs ls f (subst (λ es. OwesAt (ranged_due high) es ls) e h)
  fork_back s d b fs close_line ls e f h = one_back s d b fs close_line ls f h
  fork_back s d b fs (bound_line x low high) ls e f h = one_back s d b fs (bound_line x low high) ls f h
  fork_back s d b fs (reply_line t) ls e f h = one_back s d b fs (reply_line t) ls f h
  fork_back s d b fs empty_line ls e f h = one_back s d b fs empty_line ls f h
  fork_back s d b fs barred_line ls e f h = one_back s d b fs barred_line ls f h
  fork_back s d b fs best_line ls e f h = one_back s d b fs best_line ls f h
  fork_back s d b fs next_line ls e f h = one_back s d b fs next_line ls f h
  fork_back s d b fs (chosen_line t) ls e f h = one_back s d b fs (chosen_line t) ls f h
  fork_back s d b fs (branch_line x) ls e f h = one_back s d b fs (branch_line x) ls f h
  fork_back s d b fs stuck_line ls e f h = one_back s d b fs stuck_line ls f h
  fork_back s d b fs goal_line ls e f h = one_back s d b fs goal_line ls f h
  fork_back s d b fs skip_line ls e f h = one_back s d b fs skip_line ls f h
  fork_back s d b fs open_line ls e f h = one_back s d b fs open_line ls f h
  fork_back s d b fs named_line ls e f h = one_back s d b fs named_line ls f h
  fork_back s d b fs (given_line k t) ls e f h = one_back s d b fs (given_line k t) ls f h
  fork_back s d b fs (horizon_line k) ls e f h = one_back s d b fs (horizon_line k) ls f h
  fork_back s d b fs (again_line n) ls e f h = one_back s d b fs (again_line n) ls f h
  fork_back s d b fs (no_play_line k) ls e f h = one_back s d b fs (no_play_line k) ls f h

  at_fork_back : (s : Setting) (d : Ledger) (l : Line) (ls : List Line) (es : List Frame) → d.frames ≡ es → line_fits l ≡ true → Owes (at_fork es (λ b fs. fork_line s d b fs l)) ls → OwesAt case_due es (l ∷ ls)
  at_fork_back s d l ls [] e f h = absurd h
  at_fork_back s d l ls (waiting up ∷ fs) e f h = absurd h
  at_fork_back s d l ls (forked b ∷ fs) e f h = fork_back s d b fs l ls e f h

  ranged_back : (s : Setting) (d : Ledger) (high : ℤ) (l : Line) (ls : List Line) (es : List Frame) → line_fits l ≡ true → Owes (at_fork es (λ b fs. case_line s d b fs (Some high) l)) ls → OwesAt (ranged_due high) es (l ∷ ls)
  ranged_back s d high l ls [] f h = absurd h
  ranged_back s d high l ls (waiting up ∷ fs) f h = absurd h
  ranged_back s d high l ls (forked b ∷ fs) f h = case_back s d b fs (Some high) l ls f h

  none_given : (fs : List Frame) (ls : List Line) → NodeLines fs ls → GivenLines fs ls
  none_given fs ls m = record { given = []; behind = ls; lines = refl; fits = refl; node = m }

  one_given : (fs : List Frame) (u : Given) (ls : List Line) → given_fits u ≡ true → GivenLines fs ls → GivenLines fs (given_line u.scope u.tuple ∷ ls)
  one_given fs u ls f m = record {
    given = u ∷ m.given;
    behind = m.behind;
    lines = ap (λ ks. given_line u.scope u.tuple ∷ ks) m.lines;
    fits = join (given_fits u) (list_all given_fits m.given) f m.fits;
    node = m.node;
  }

  root_back : (d : Ledger) (l : Line) (ls : List Line) → line_fits l ≡ true → IsNodes d.frames → Owes (node_line (setting_of g d) d (entry_at (root_place g) false) l) ls → NodeLines d.frames (l ∷ ls)
  root_back d l ls f n h = node_line_back (setting_of g d) d (entry_at (root_place g) false) l ls f n h

  first_back : (d : Ledger) (l : Line) (ls : List Line) → d.due ≡ given_due → line_fits l ≡ true → IsNodes d.frames → Owes (first_line g d l) ls → GivenLines d.frames (l ∷ ls)
  first_back d (given_line k t) ls e f n h =
      let w : IsNodes d.frames → GivenLines d.frames ls = subst (λ u. OwesAt u d.frames ls) e (only_back _ _ ls h) in
      one_given d.frames (record { scope = k; tuple = t }) ls f (w n)
  first_back d close_line ls e f n h = none_given d.frames (close_line ∷ ls) (root_back d close_line ls f n h)
  first_back d (bound_line x low high) ls e f n h = none_given d.frames (bound_line x low high ∷ ls) (root_back d (bound_line x low high) ls f n h)
  first_back d (reply_line t) ls e f n h = none_given d.frames (reply_line t ∷ ls) (root_back d (reply_line t) ls f n h)
  first_back d empty_line ls e f n h = none_given d.frames (empty_line ∷ ls) (root_back d empty_line ls f n h)
  first_back d barred_line ls e f n h = none_given d.frames (barred_line ∷ ls) (root_back d barred_line ls f n h)
  first_back d best_line ls e f n h = none_given d.frames (best_line ∷ ls) (root_back d best_line ls f n h)
  first_back d next_line ls e f n h = none_given d.frames (next_line ∷ ls) (root_back d next_line ls f n h)
  first_back d (chosen_line t) ls e f n h = none_given d.frames (chosen_line t ∷ ls) (root_back d (chosen_line t) ls f n h)
  first_back d (branch_line x) ls e f n h = none_given d.frames (branch_line x ∷ ls) (root_back d (branch_line x) ls f n h)
  first_back d stuck_line ls e f n h = none_given d.frames (stuck_line ∷ ls) (root_back d stuck_line ls f n h)
  first_back d goal_line ls e f n h = none_given d.frames (goal_line ∷ ls) (root_back d goal_line ls f n h)
  first_back d (range_line high) ls e f n h = none_given d.frames (range_line high ∷ ls) (root_back d (range_line high) ls f n h)
  first_back d skip_line ls e f n h = none_given d.frames (skip_line ∷ ls) (root_back d skip_line ls f n h)
  first_back d open_line ls e f n h = none_given d.frames (open_line ∷ ls) (root_back d open_line ls f n h)
  first_back d dot_line ls e f n h = none_given d.frames (dot_line ∷ ls) (root_back d dot_line ls f n h)
  first_back d named_line ls e f n h = none_given d.frames (named_line ∷ ls) (root_back d named_line ls f n h)
  first_back d (horizon_line k) ls e f n h = none_given d.frames (horizon_line k ∷ ls) (root_back d (horizon_line k) ls f n h)
  first_back d (again_line k) ls e f n h = none_given d.frames (again_line k ∷ ls) (root_back d (again_line k) ls f n h)
  first_back d (no_play_line k) ls e f n h = none_given d.frames (no_play_line k ∷ ls) (root_back d (no_play_line k) ls f n h)

  due_back : (d : Ledger) (u : Due) (l : Line) (ls : List Line) → d.due ≡ u → line_fits l ≡ true → Owes (goes_at g d u l) ls → OwesAt u d.frames (l ∷ ls)
  due_back d given_due l ls e f h = λ n. first_back d l ls e f n h
  due_back d (node_due x) l ls e f h = λ n. node_line_back (setting_of g d) d x l ls f n h
  due_back d (named_due x) l ls e f h = λ n. horizoned_back (setting_of g d) d x l ls f n h
  due_back d (body_due x) l ls e f h = λ n. body_back (setting_of g d) d x l ls f n h
  due_back d (part_due q) l ls e f h = (part_line_back (setting_of g d) d q l ls f h).part
  due_back d case_due l ls e f h = at_fork_back (setting_of g d) d l ls d.frames refl f h
  due_back d (ranged_due high) l ls e f h = ranged_back (setting_of g d) d high l ls d.frames f h
  due_back d (ended_due v own) l ls e f h = absurd h

  line_back : (p : Option Ledger) (l : Line) (ls : List Line) → line_fits l ≡ true → Owes (goes g p l) ls → Owes p (l ∷ ls)
  line_back None l ls f h = absurd h
  line_back (Some d) l ls f h = due_back d d.due l ls refl f h

  owes_end : (d : Ledger) (v : Verdict) (own : Option ℤ) → d.due ≡ ended_due v own → Owes (Some d) []
  owes_end d v own e = subst (λ u. OwesAt u d.frames []) (sym e) refl

  owed : (ls : List Line) (p : Option Ledger) (d : Ledger) (v : Verdict) (own : Option ℤ) → goes_through g p ls ≡ Some d → d.due ≡ ended_due v own → list_all line_fits ls ≡ true → Owes p ls
  owed [] p d v own e w f = subst (λ z. Owes z []) (sym e) (owes_end d v own w)
  owed (l ∷ ls) p d v own e w f =
      let q = both (line_fits l) (list_all line_fits ls) f in
      line_back p l ls q.0 (owed ls (goes g p l) d v own e w q.1)

pub ended_whole : EndedLinesAreWhole
ended_whole g ls d v own f e w =
    let m = owed g ls (Some (first_ledger g)) d v own e w f tt in
    let r = m.node in (
      record { given = m.given; root = r.root },
      m.lines ∙ ap (λ ks. given_lines m.given ++ ks) (r.lines ∙ (ap (λ ks. node_lines r.root ++ ks) r.after ∙ append-nil (node_lines r.root))),
      λ outcome optimum k. join (outcome_fits outcome optimum && list_all given_fits m.given) (node_fits r.root) (join (outcome_fits outcome optimum) (list_all given_fits m.given) k m.fits) r.fits,
    )
