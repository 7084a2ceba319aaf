-- The box of a search on the way through a scope's own tree, and back.
use Rattle.std.proofs.Common.{◌≡◌, ◌≤◌, ◌<◌, ◌∙◌, ◌+◌, ◌-◌, ◌++◌, ℕ, zero, suc, Bool, true, false, not, List, [], ◌∷◌, length, take, drop, refl, sym, ap, subst, arith, ℤ, length-set, Option, None, Some, append_assoc}
use Rattle.std.proofs.lemmas.List.{append-nil, length-append, length-take-le, take-append-drop}
use Rattle.std.specs.List.{list_all}
use Rattle.std.proofs.lemmas.Bool.{and_parts}
use Rattle.qc_model.specs.declared.problem.VarId.{VarId}
use Rattle.qc_model.specs.Block.{constraints_in_force}
use Rattle.qc_model.specs.Closed.{keeps_ends}
use Rattle.qc_model.specs.Content.{Game}
use Rattle.qc_model.specs.Domains.{Values, Box, has_empty, is_single, is_sub_box, values_left}
use Rattle.qc_model.specs.Game.{before}
use Rattle.qc_model.proofs.Before.{before_up}
use Rattle.model_arguments.specs.Asked.{is_box_of}
use Rattle.model_levels.proofs.Singles.{still_single}
use Rattle.qc_model.specs.Verdict.{Seen}
use Rattle.proof_tree.specs.Cover.{box_to}
use Rattle.proof_tree.specs.Lines.{upto_lines}
use Rattle.proof_tree.specs.Place.{position}
use Rattle.proof_tree.specs.declared.line.Line.{Line}
use Rattle.proof_tree.specs.declared.line.Line.TheVariants.{Skip}
use Rattle.joins.specs.Joins.{game_of, StandsAt, KeepsOthers}
use Rattle.prop_engine.specs.declared.answer.Closed.{Closed}
use Rattle.prop_engine.specs.declared.answer.Closed.TheVariants.{Open, Empty}
use Rattle.fd_store.specs.Held.{Held}
use Rattle.search_box.specs.Boxed.{Boxed, KeepsValues, LeadsOn}
use Rattle.search_box.specs.Closes.{IsClosedAt, IsClosingAt, WasClosed}
use Rattle.search_box.specs.Entered.{IsEntered, IsWithin}
use Rattle.search_box.proofs.Entering.{fixed_within}
use Rattle.search_box.proofs.Goings.{closed_now, closed_before, kept_fewer}
use Rattle.search_box.proofs.Places.{fixed_none, fixed_both, fixed_more}
use Rattle.search_walk.specs.Going.{GoesOn, IsGoing}
use Rattle.search_walk.specs.Later.{cut_to}
use Rattle.search_walk.specs.Put.{IsBack}
use Rattle.search_parts.specs.Uppers.{upto_between, without_before}
use Rattle.search_walk.specs.declared.walk.Walk.{Walk}
use Rattle.search_parts.proofs.Progress.{take_front}

is_full : (g : Game) (i : ℕ) (box : Box) → IsClosedAt g i box → has_empty box ≡ false
is_full g i box h = by (has_empty box) (and_parts (not (has_empty box)) (list_all (keeps_ends box) (constraints_in_force g (drop i g.scopes) i)) h).0
  where
    by : (b : Bool) → not b ≡ true → b ≡ false
    by true e = cc
    by false e = refl

-- after closing at the beginning of a scope's own tree
pub goes_first : (a : Closed) (g : Game) (i x : ℕ) (b : Boxed) → x ≡ before g i → IsClosingAt a g i b.store.box → (has_empty b.store.box ≡ false → IsEntered g i b) → GoesOn a g i x b
goes_first Open g i x b e h here = record {
  within = subst (λ n. IsWithin g i n b) (sym e) (record { here = here (is_full g i b.store.box h); from = omega arith; upto = before_up g i; fixed = fixed_none b.store.box (before g i) });
  closed = h;
}
goes_first Empty g i x b e h here = h

-- x has one value left
now_single : (box : Box) (x : ℕ) (v : ℤ) → x < length box → is_single (values_left (box_to box x (v ∷ [])) x) ≡ true
now_single [] x v h = absurd (omega arith)
now_single (d ∷ box) zero v h = refl
now_single (d ∷ box) (suc x) v h = now_single box x v (omega arith)

-- after a value was taken, and the box was closed
pub goes_next : (a : Closed) (g : Game) (i x : ℕ) (v : ℤ) (b c d : Boxed) → IsWithin g i x b → x < before g (suc i) → x < length b.store.box → c.store.box ≡ box_to b.store.box x (v ∷ []) → IsEntered g i c → LeadsOn c d →
    IsClosingAt a g i d.store.box → (has_empty d.store.box ≡ false → IsEntered g i d) → GoesOn a g i (x + 1) d
goes_next Empty g i x v b c d w l inside e entered on h here = h
goes_next Open g i x v b c d w l inside e entered on h here =
    let full = is_full g i d.store.box h in
    let from = before g i in
    let old = box_to b.store.box x (v ∷ []) in
    let taken : list_all is_single (drop from (take (x + 1) old)) ≡ true =
    fixed_more old from x w.from (omega (arith, inside, length-set b.store.box x (v ∷ []))) (now_single b.store.box x v inside) (still_single from x b.store.box x v w.fixed) in
    let here_taken : list_all is_single (drop from (take (x + 1) c.store.box)) ≡ true = ap (λ box. list_all is_single (drop from (take (x + 1) box))) e ∙ taken in
    let all = fixed_both c.store.box from (x + 1) (omega (arith, w.from)) entered.fixed here_taken in
    let same : take (x + 1) d.store.box ≡ take (x + 1) c.store.box = fixed_within d.store.box c.store.box (x + 1) on.fewer full all in
    record {
      within = record { here = here full; from = omega (arith, w.from); upto = omega (arith, l); fixed = ap (λ box. list_all is_single (drop from box)) same ∙ here_taken };
      closed = h;
    }

-- the box was closed before x lost its other values, and one more variable some
pub was_closed : (g : Game) (i : ℕ) (x : VarId) (v : ℤ) (b c : Boxed) → is_box_of g b.store.box ≡ true → IsClosedAt g i b.store.box → is_sub_box c.store.box b.store.box ≡ true → c.store.box ≡ box_to b.store.box x.0 (v ∷ []) →
    WasClosed g i (x ∷ []) c.store.box
was_closed g i x v b c d h s e =
    subst (WasClosed g i (x ∷ [])) (sym e) (closed_before g i b.store.box x [] (v ∷ []) (ap (λ box. is_sub_box box b.store.box) (sym e) ∙ s) (closed_now g i b.store.box d h))

pub was_closed_more : (g : Game) (i : ℕ) (x : VarId) (changed : List VarId) (vs : Values) (b c : Boxed) → is_sub_box c.store.box b.store.box ≡ true → c.store.box ≡ box_to b.store.box x.0 vs → WasClosed g i changed b.store.box →
    WasClosed g i (x ∷ changed) c.store.box
was_closed_more g i x changed vs b c s e w = subst (WasClosed g i (x ∷ changed)) (sym e) (closed_before g i b.store.box x changed vs (ap (λ box. is_sub_box box b.store.box) (sym e) ∙ s) w)

-- lines that are appended one after the other
pub lines_both : (a b c first second : List Line) → b ≡ a ++ first → c ≡ b ++ second → c ≡ a ++ (first ++ second)
lines_both a b c first second p q = q ∙ (ap (λ ls. ls ++ second) p ∙ append_assoc a first second)

-- nothing was done
pub none_back : (g : Game) (i : ℕ) (a : Walk) → IsBack g i a a
none_back g i a = record {
  problem = refl;
  box = refl;
  past = refl;
  kept = refl;
  game = refl;
  joins = λ j xs h s. s;
  written = [];
  lines = sym (append-nil a.lines);
  left = omega arith;
}

-- one part after another
pub both_back : (g : Game) (i : ℕ) (a b c : Walk) → IsBack g i a b → IsBack g i b c → IsBack g i a c
both_back g i a b c p q = record {
  problem = q.problem ∙ p.problem;
  box = q.box ∙ p.box;
  past = q.past ∙ p.past;
  kept = q.kept ∙ p.kept;
  game = q.game ∙ p.game;
  joins = λ j xs h s. q.joins j xs h (p.joins j xs h s);
  written = p.written ++ q.written;
  lines = lines_both a.lines b.lines c.lines p.written q.written p.lines q.lines;
  left = omega (arith, p.left, q.left);
}

-- after a look ahead and its lines, in words of the same scope
pub back_after : (g k : Game) (i j : ℕ) → k ≡ g → j ≡ i → (a b c : Walk) → b.remains.game ≡ a.remains.game → b.remains.store.box ≡ a.remains.store.box → b.remains.store.past ≡ a.remains.store.past → b.remains.values ≡ a.remains.values → b.joins ≡ a.joins → b.left ≡ a.left →
    (more : List Line) → b.lines ≡ a.lines ++ more → IsBack k j b c → IsBack g i a c
back_after g k i j p q a b c e f past values joins left more lines back =
    both_back g i a b c
    (record {
      problem = e;
      box = f;
      past = past;
      kept = ap (take (before g i)) values;
      game = ap game_of joins;
      joins = λ m xs h s. subst (λ js. StandsAt js m xs) (sym joins) s;
      written = more;
      lines = lines;
      left = omega (arith, left);
    })
    (subst (λ (u : Game). IsBack u i b c) p (subst (λ n. IsBack k n b c) q back))

-- after a tuple was read
pub tuple_back : (g : Game) (i : ℕ) (a b : Walk) → IsEntered g i a.remains → IsEntered g (suc i) b.remains → b.remains.store ≡ a.remains.store → KeepsValues g i a.remains b.remains → game_of b.joins ≡ game_of a.joins → KeepsOthers i a.joins b.joins → (more : List Line) → b.lines ≡ a.lines ++ more → b.left ≡ a.left → IsBack g i a b
tuple_back g i a b here there store kept game others more lines left = record {
  problem = there.game ∙ sym here.game;
  box = ap (λ (s : Held). s.box) store;
  past = ap (λ (s : Held). s.past) store;
  kept = kept;
  game = game;
  joins = λ j xs h s. others j xs (λ e. absurd (omega (arith, h, e))) s;
  written = more;
  lines = lines;
  left = omega (arith, left);
}

-- after the node below a tuple
pub back_below : (g k : Game) (i : ℕ) → k ≡ g → (a b c d : Walk) → IsEntered g i a.remains → IsEntered g (suc i) b.remains → b.remains.store ≡ a.remains.store → KeepsValues g i a.remains b.remains → b.joins ≡ a.joins → b.left ≡ a.left → (more : List Line) → b.lines ≡ a.lines ++ more →
    IsBack k (suc i) b c → d.remains ≡ c.remains → d.lines ≡ c.lines → d.left ≡ c.left → game_of d.joins ≡ game_of c.joins → KeepsOthers i c.joins d.joins → IsBack g i a d
back_below g k i p a b c d here there store kept joins left more lines back remains last last_left game others =
    let n = subst (λ (u : Game). IsBack u (suc i) b c) p back in
    record {
      problem = ap (λ (r : Boxed). r.game) remains ∙ (n.problem ∙ (there.game ∙ sym here.game));
      box = ap (λ (r : Boxed). r.store.box) remains ∙ (n.box ∙ ap (λ (s : Held). s.box) store);
      past = ap (λ (r : Boxed). r.store.past) remains ∙ (n.past ∙ ap (λ (s : Held). s.past) store);
      kept = ap (λ (r : Boxed). take (before g i) r.values) remains ∙ (kept_fewer g i b.remains c.remains n.kept ∙ kept);
      game = game ∙ (n.game ∙ ap game_of joins);
      joins = λ j xs h s. others j xs (λ e. absurd (omega (arith, h, e))) (n.joins j xs (omega (arith, h)) (subst (λ js. StandsAt js j xs) (sym joins) s));
      written = more ++ n.written;
      lines = last ∙ lines_both a.lines b.lines c.lines more n.written lines n.lines;
      left = omega (arith, left, n.left, last_left);
    }

-- after lines that leave out cases, where the joins of earlier scopes stay
pub back_more : (g : Game) (i : ℕ) (a b c : Walk) → IsBack g i a b → c.remains ≡ b.remains → game_of c.joins ≡ game_of b.joins → ((j : ℕ) (xs : List Seen) → j < i → StandsAt b.joins j xs → StandsAt c.joins j xs) → (more : List Line) → c.lines ≡ b.lines ++ more → c.left ≤ b.left → IsBack g i a c
back_more g i a b c p remains game others more lines left =
    both_back g i a b c p
    (record {
      problem = ap (λ (r : Boxed). r.game) remains;
      box = ap (λ (r : Boxed). r.store.box) remains;
      past = ap (λ (r : Boxed). r.store.past) remains;
      kept = ap (λ (r : Boxed). take (before g i) r.values) remains;
      game = game;
      joins = others;
      written = more;
      lines = lines;
      left = left;
    })

-- so where the scope's own join was told of it
pub told_back : (g : Game) (i : ℕ) (a b c : Walk) → IsBack g i a b → c.remains ≡ b.remains → game_of c.joins ≡ game_of b.joins → KeepsOthers i b.joins c.joins → (more : List Line) → c.lines ≡ b.lines ++ more → c.left ≤ b.left → IsBack g i a c
told_back g i a b c p remains game others more lines left = back_more g i a b c p remains game (λ j xs h s. others j xs (λ e. absurd (omega (arith, h, e))) s) more lines left

-- after a part that was gone into from a smaller box, which was undone
pub undone_back : (g : Game) (i : ℕ) (a m c d : Walk) → LeadsOn a.remains m.remains → game_of m.joins ≡ game_of a.joins → KeepsOthers i a.joins m.joins → m.lines ≡ a.lines → m.left ≡ a.left → IsBack g i m c → d.remains.game ≡ c.remains.game → d.remains.store.box ≡ a.remains.store.box → d.remains.store.past ≡ a.remains.store.past →
    d.remains.values ≡ c.remains.values → d.joins ≡ c.joins → d.lines ≡ c.lines → d.left ≡ c.left → IsBack g i a d
undone_back g i a m c d on game others lines left p then_game then_box then_past then_values then_joins then_lines then_left = record {
  problem = then_game ∙ (p.problem ∙ on.game);
  box = then_box;
  past = then_past;
  kept = ap (take (before g i)) then_values ∙ (p.kept ∙ ap (take (before g i)) on.values);
  game = ap game_of then_joins ∙ (p.game ∙ game);
  joins = λ j xs h s. subst (λ js. StandsAt js j xs) (sym then_joins) (p.joins j xs h (others j xs (λ e. absurd (omega (arith, h, e))) s));
  written = p.written;
  lines = then_lines ∙ (p.lines ∙ ap (λ ls. ls ++ p.written) lines);
  left = omega (arith, left, p.left, then_left);
}

-- after a part whose lines were taken back
pub cut_back : (g : Game) (i : ℕ) (a b c : Walk) → IsBack g i a b → c.remains ≡ b.remains → c.joins ≡ b.joins → c.lines ≡ a.lines → c.left ≡ b.left → IsBack g i a c
cut_back g i a b c p remains joins lines left = record {
  problem = ap (λ (r : Boxed). r.game) remains ∙ p.problem;
  box = ap (λ (r : Boxed). r.store.box) remains ∙ p.box;
  past = ap (λ (r : Boxed). r.store.past) remains ∙ p.past;
  kept = ap (λ (r : Boxed). take (before g i) r.values) remains ∙ p.kept;
  game = ap game_of joins ∙ p.game;
  joins = λ j xs h s. subst (λ js. StandsAt js j xs) (sym joins) (p.joins j xs h s);
  written = [];
  lines = lines ∙ sym (append-nil a.lines);
  left = omega (arith, p.left, left);
}

-- the lines before a part, once those since are taken back
pub taken_back : (old new more : List Line) (start : ℕ) → new ≡ old ++ more → start ≡ length old → take start new ≡ old
taken_back old new more start e f = ap (λ n. take n new) f ∙ (ap (take (length old)) e ∙ take_front old more)

-- the lines without the cases before one that settled the scope
dropped_lines : (old now new more : List Line) (last : Option ℤ) (first : ℤ) (start at : ℕ) → now ≡ old ++ more → start ≡ length old → new ≡ without_before last first start at now → (rest : List Line) × (new ≡ old ++ rest)
dropped_lines old now new more None first start at e s f = (more, f ∙ e)
dropped_lines old now new more (Some last) first start at e s f =
    let rest = (upto_lines (upto_between first last) ++ Skip ∷ []) ++ drop at now in
    (rest, f ∙ ap (λ ls. ls ++ rest) (taken_back old now more start e s))

-- after a case, which stands without those before it or beside them
pub case_back : (g : Game) (i : ℕ) (a b m c d : Walk) → IsBack g i a b → m.remains ≡ b.remains → m.joins ≡ b.joins → m.lines ≡ b.lines → m.left ≤ b.left → IsBack g i m c → d.remains ≡ c.remains → d.joins ≡ c.joins → d.left ≡ c.left → (last : Option ℤ) (first : ℤ) (start at : ℕ) → start ≡ length a.lines →
    d.lines ≡ without_before last first start at c.lines → IsBack g i a d
case_back g i a b m c d p remains joins lines left q then_remains then_joins then_left last first start at e f =
    let to_m = back_more g i a b m p remains (ap game_of joins) (λ j xs h s. subst (λ js. StandsAt js j xs) (sym joins) s) [] (lines ∙ sym (append-nil b.lines)) left in
    let to_c = both_back g i a m c to_m q in
    let stand = dropped_lines a.lines c.lines d.lines to_c.written last first start at to_c.lines e f in
    record {
      problem = ap (λ (r : Boxed). r.game) then_remains ∙ to_c.problem;
      box = ap (λ (r : Boxed). r.store.box) then_remains ∙ to_c.box;
      past = ap (λ (r : Boxed). r.store.past) then_remains ∙ to_c.past;
      kept = ap (λ (r : Boxed). take (before g i) r.values) then_remains ∙ to_c.kept;
      game = ap game_of then_joins ∙ to_c.game;
      joins = λ j xs h s. subst (λ js. StandsAt js j xs) (sym then_joins) (to_c.joins j xs h s);
      written = stand.0;
      lines = stand.1;
      left = omega (arith, to_c.left, then_left);
    }

-- after one more line
pub line_back : (g : Game) (i : ℕ) (a b c : Walk) → IsBack g i a b → c.remains ≡ b.remains → c.joins ≡ b.joins → c.left ≡ b.left → (more : List Line) → c.lines ≡ b.lines ++ more → IsBack g i a c
line_back g i a b c p remains joins left more lines = back_more g i a b c p remains (ap game_of joins) (λ j xs h s. subst (λ js. StandsAt js j xs) (sym joins) s) more lines (omega (arith, left))

-- the box is as at the scope before
pub entered_back : (g : Game) (i : ℕ) (a b : Walk) → IsBack g i a b → IsEntered g i a.remains → IsEntered g i b.remains
entered_back g i a b p here = record {
  game = p.problem ∙ here.game;
  full = ap has_empty p.box ∙ here.full;
  fixed = subst (λ d. list_all is_single (take (before g i) d) ≡ true) (sym p.box) here.fixed;
  stand = p.kept ∙ (here.stand ∙ sym (ap (position g i) p.box));
}

-- no turn is taken, or one
pub as_many : (n : ℕ) → n ≤ n
as_many n = omega arith

pub one_fewer : (n : ℕ) → n - 1 ≤ n
one_fewer n = omega arith

-- after something that changes none of this
pub same_back : (g : Game) (i : ℕ) (a b c : Walk) → IsBack g i a b → c.remains ≡ b.remains → c.joins ≡ b.joins → c.lines ≡ b.lines → c.left ≡ b.left → IsBack g i a c
same_back g i a b c p remains joins lines left = line_back g i a b c p remains joins left [] (lines ∙ sym (append-nil b.lines))

-- from a walk that has the same of all this
pub back_from : (g : Game) (i : ℕ) (a r b : Walk) → IsBack g i r b → r.remains ≡ a.remains → r.joins ≡ a.joins → r.lines ≡ a.lines → r.left ≡ a.left → IsBack g i a b
back_from g i a r b p remains joins lines left = both_back g i a r b (same_back g i a a r (none_back g i a) remains joins lines left) p

-- from the walk with its first lines alone
pub cut_front : (g : Game) (i : ℕ) (a : Walk) (start : ℕ) → IsBack g i (cut_to start a) a
cut_front g i a start = record {
  problem = refl;
  box = refl;
  past = refl;
  kept = refl;
  game = refl;
  joins = λ j xs h s. s;
  written = drop start a.lines;
  lines = sym (take-append-drop start a.lines);
  left = omega arith;
}

pub cut_length : (a : Walk) (start : ℕ) → start ≤ length a.lines → start ≡ length (cut_to start a).lines
cut_length a start h = sym (length-take-le start a.lines h)

-- after the later cases of a branch that began with the walk a
pub later_back : (g : Game) (i : ℕ) (a b c : Walk) (start : ℕ) → start ≡ length a.lines → IsBack g i a b → IsBack g i (cut_to start b) c → IsBack g i a c
later_back g i a b c start e p q = both_back g i a (cut_to start b) c (cut_back g i a b (cut_to start b) p refl refl (taken_back a.lines b.lines p.written start p.lines e) refl) q

-- after a case that settled the scope stands without those before it, and those after it are skipped
pub dropped_back : (g : Game) (i : ℕ) (a b c : Walk) → IsBack g i a b → c.remains ≡ b.remains → c.joins ≡ b.joins → c.left ≡ b.left → (last : Option ℤ) (first : ℤ) (start at : ℕ) → start ≡ length a.lines → (mid : List Line) → mid ≡ without_before last first start at b.lines → (more : List Line) → c.lines ≡ mid ++ more → IsBack g i a c
dropped_back g i a b c p remains joins left last first start at e mid q more lines =
    let stand = dropped_lines a.lines b.lines mid p.written last first start at p.lines e q in
    record {
      problem = ap (λ (r : Boxed). r.game) remains ∙ p.problem;
      box = ap (λ (r : Boxed). r.store.box) remains ∙ p.box;
      past = ap (λ (r : Boxed). r.store.past) remains ∙ p.past;
      kept = ap (λ (r : Boxed). take (before g i) r.values) remains ∙ p.kept;
      game = ap game_of joins ∙ p.game;
      joins = λ j xs h s. subst (λ js. StandsAt js j xs) (sym joins) (p.joins j xs h s);
      written = stand.0 ++ more;
      lines = lines_both a.lines mid c.lines stand.0 more stand.1 lines;
      left = omega (arith, p.left, left);
    }

-- where a scope's own tree goes on, it does after a part
pub going_back : (g : Game) (i x : ℕ) (a b : Walk) → IsBack g i a b → IsGoing g i x a.remains → IsGoing g i x b.remains
going_back g i x a b p going =
    let w = going.within in
    record {
      within = record { here = entered_back g i a b p w.here; from = w.from; upto = w.upto; fixed = subst (λ (d : Box). list_all is_single (drop (before g i) (take x d)) ≡ true) (sym p.box) w.fixed };
      closed = subst (λ (d : Box). IsClosedAt g i d) (sym p.box) going.closed;
    }

-- lines that were appended to more than the first ones
pub longer : (old mid new first second : List Line) (start : ℕ) → start ≡ length old → mid ≡ old ++ first → new ≡ mid ++ second → start ≤ length new
longer old mid new first second start e p q =
    let m = ap length p ∙ length-append old first in
    let n = ap length q ∙ length-append mid second in
    omega (arith, e, m, n)
