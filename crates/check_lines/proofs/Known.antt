-- What was read stays known as the trail grows and is undone, and as more is read.
use Rattle.std.proofs.Common.{◌≡◌, ℕ, zero, suc, ◌<◌, ◌≤◌, ◌+◌, Bool, true, false, ◌&&◌, cond, List, [], ◌∷◌, length, take, drop, map, set, length-set, refl, sym, ap, ◌∙◌, subst, arith, ℤ}
use Rattle.std.specs.Prelude.{slice_index_or, pos, filter, nat_lt, ◌-◌}
use Rattle.std.proofs.lemmas.Bool.Decides.{nat_tests}
use Rattle.std.specs.List.{list_all}
use Rattle.std.proofs.lemmas.List.{get_or-set_same, get_or-set_other, get_or_past}
use Rattle.qc_model.specs.Content.{Game}
use Rattle.qc_model.specs.Domains.{Values, Box, values_left, is_none_left, has_empty, is_single}
use Rattle.fd_store.specs.Held.{Held, trail_len, past_box, Follows, IsUndone}
use Rattle.check_lines.specs.declared.open.Open.{Open}
use Rattle.check_lines.specs.declared.open.Open.TheVariants.{Next, Branch}
use Rattle.check_lines.specs.declared.reads.Reads.{Reads}
use Rattle.check_lines.specs.Known.{mark_of, Rises, ReadBy, HasRead, AreBranchesRead, HasReads}
use Rattle.check_lines.specs.Machine.{AreFrames}
use Rattle.check_box.specs.Placed.{only}
use Rattle.check_box.proofs.Placing.{or_first, or_second, full_before}

heads : (d e : Values) (ds es : Box) → ◌≡◌ {A = Box} (d ∷ ds) (e ∷ es) → (d ≡ e) × (ds ≡ es)
heads d e ds es q = (cc, cc)

-- a box whose first variables each have the one value that stands in their place
pub each_placed : (n : ℕ) (box : Box) (vs : List ℤ) → n ≤ length box → n ≤ length vs → ((k : ℕ) → k < n → values_left box k ≡ only (slice_index_or vs k (pos 0))) → take n box ≡ map only (take n vs)
each_placed zero box vs h l f = refl
each_placed (suc n) [] vs h l f = absurd (omega arith)
each_placed (suc n) (d ∷ box) [] h l f = absurd (omega arith)
each_placed (suc n) (d ∷ box) (v ∷ vs) h l f = ap (λ c. c ∷ take n box) (f 0 (omega arith)) ∙ ap (λ cs. only v ∷ cs) (each_placed n box vs (omega arith) (omega arith) (λ k q. f (suc k) (omega (arith, q))))

all_only : (vs : List ℤ) → list_all is_single (map only vs) ≡ true
all_only [] = refl
all_only (v ∷ vs) = all_only vs

pub all_single : (n : ℕ) (box : Box) (vs : List ℤ) → take n box ≡ map only (take n vs) → list_all is_single (take n box) ≡ true
all_single n box vs h = ap (list_all is_single) h ∙ all_only (take n vs)

pub not_single : (box : Box) (stop k : ℕ) → k < stop → stop ≤ length box → is_single (values_left box k) ≡ false → list_all is_single (take stop box) ≡ false
not_single [] stop k l m e = absurd (omega arith)
not_single (d ∷ box) zero k l m e = absurd (omega arith)
not_single (d ∷ box) (suc stop) zero l m e = ap (λ b. b && list_all is_single (take stop box)) e
not_single (d ∷ box) (suc stop) (suc k) l m e = neither_all (is_single d) (list_all is_single (take stop box)) (not_single box stop k (omega arith) (omega arith) e)
  where
    neither_all : (a b : Bool) → b ≡ false → (a && b) ≡ false
    neither_all true b e = e
    neither_all false b e = refl

-- the first of them need no look
pub single_after : (from stop : ℕ) (box : Box) (vs : List ℤ) → from ≤ stop → take from box ≡ map only (take from vs) → list_all is_single (drop from (take stop box)) ≡ list_all is_single (take stop box)
single_after zero stop box vs l h = refl
single_after (suc from) zero box vs l h = absurd (omega arith)
single_after (suc from) (suc stop) [] vs l h = refl
single_after (suc from) (suc stop) (d ∷ box) [] l h = let q : ◌≡◌ {A = Box} (d ∷ take from box) [] = h in cc
single_after (suc from) (suc stop) (d ∷ box) (v ∷ vs) l h =
    let t = heads d (only v) (take from box) (map only (take from vs)) h in
    single_after from stop box vs (omega arith) t.1 ∙ sym (ap (λ c. is_single c && list_all is_single (take stop box)) t.0)

-- the value that stands there already
pub kept_one : (n : ℕ) (box : Box) (vs : List ℤ) (k : ℕ) (v : ℤ) → k < length box → values_left box k ≡ only v → take n box ≡ map only (take n vs) → take n (set vs k v) ≡ take n vs
kept_one zero box vs k v l e h = refl
kept_one (suc n) box [] k v l e h = refl
kept_one (suc n) [] (u ∷ vs) k v l e h = absurd (omega arith)
kept_one (suc n) (d ∷ box) (u ∷ vs) zero v l e h =
    let t = heads d (only u) (take n box) (map only (take n vs)) h in
    ap (λ w. w ∷ take n vs) (same v u (sym e ∙ t.0))
  where
    same : (v u : ℤ) → only v ≡ only u → v ≡ u
    same v u q = cc
kept_one (suc n) (d ∷ box) (u ∷ vs) (suc k) v l e h =
    let t = heads d (only u) (take n box) (map only (take n vs)) h in
    ap (λ ws. u ∷ ws) (kept_one n box vs k v (omega arith) e t.1)

-- a variable keeps the one value that it has, unless it has none left
still_only : (p : ℤ → Bool) (box : Box) (x k : ℕ) (v : ℤ) → has_empty (set box x (filter p (values_left box x))) ≡ false → values_left box k ≡ only v → values_left (set box x (filter p (values_left box x))) k ≡ only v
still_only p [] x k v f e = e
still_only p (d ∷ box) zero zero v f e = by (p v) refl (subst (λ c. is_none_left (filter p c) ≡ false) e (or_first (is_none_left (filter p d)) (has_empty box) f))
  where
    by : (b : Bool) → p v ≡ b → is_none_left (filter p (only v)) ≡ false → filter p d ≡ only v
    by true h k = ap (filter p) e ∙ ap (λ b. cond b (v ∷ []) []) h
    by false h k = let c : true ≡ false = sym (ap (λ b. is_none_left (cond b (v ∷ []) [])) h) ∙ k in cc
still_only p (d ∷ box) zero (suc k) v f e = e
still_only p (d ∷ box) (suc x) zero v f e = e
still_only p (d ∷ box) (suc x) (suc k) v f e = still_only p box x k v (or_second (is_none_left d) (has_empty (set box x (filter p (values_left box x)))) f) e

-- what was read, where fewer are known
read_fewer : (box : Box) (vs : List ℤ) (r q : Reads) (n : ℕ) → q.marks.items ≡ r.marks.items → q.count ≤ r.count → ReadBy box vs r n → ReadBy box vs q n
read_fewer box vs r q n e l h k m p = h k (omega (arith, l, m)) (subst (λ ms. slice_index_or ms k 0 ≤ n) e p)

branches_fewer : (s : Held) (vs : List ℤ) (r q : Reads) (fs : List Open) → q.marks.items ≡ r.marks.items → q.count ≤ r.count → AreBranchesRead s vs r fs → AreBranchesRead s vs q fs
branches_fewer s vs r q [] e l b = tt
branches_fewer s vs r q (Next z ∷ fs) e l b = branches_fewer s vs r q fs e l b
branches_fewer s vs r q (Branch x mark from ∷ fs) e l b = (read_fewer (past_box s mark.at) vs r q mark.at e l b.0, branches_fewer s vs r q fs e l b.1)

rises_fewer : (r q : Reads) → q.marks.items ≡ r.marks.items → q.count ≤ r.count → Rises r → Rises q
rises_fewer r q e l h j k m p = subst (λ ms. slice_index_or ms j 0 ≤ slice_index_or ms k 0) (sym e) (h j k m (omega (arith, l, p)))

-- the boxes at the marks of branches stay
branches_same : (g : Game) (s t : Held) (vs : List ℤ) (r : Reads) (i n : ℕ) (fs : List Open) → ((k : ℕ) → k ≤ n → past_box t k ≡ past_box s k) → AreFrames g s vs i n fs → AreBranchesRead s vs r fs → AreBranchesRead t vs r fs
branches_same g s t vs r i n [] f h b = tt
branches_same g s t vs r i n (Next z ∷ fs) f h b = branches_same g s t vs r (i - 1) n fs f h.1 b
branches_same g s t vs r i n (Branch x mark from ∷ fs) f h b =
    let p = h.0.at in
    (subst (λ c. ReadBy c vs r mark.at) (sym (f mark.at p)) b.0, branches_same g s t vs r i mark.at fs (λ k q. f k (omega (arith, p, q))) h.1 b.1)

-- none was read
pub none_read : (g : Game) (s : Held) (vs : List ℤ) (r : Reads) (fs : List Open) → fs ≡ [] → r.count ≡ 0 → length r.marks.items ≡ length g.variables → HasReads g s vs r fs
none_read g s vs r fs e none places = record {
  places = places;
  here = record {
    within = omega (arith, none);
    rises = λ j k l m. absurd (omega (arith, m, none));
    past = λ k l. absurd (omega (arith, l, none));
    now = λ full k l m. absurd (omega (arith, l, none));
  };
  branches = subst (AreBranchesRead s vs r) (sym e) tt;
}

-- what is open changes
pub reads_open : (g : Game) (s : Held) (vs : List ℤ) (r : Reads) (fs gs : List Open) → (AreBranchesRead s vs r fs → AreBranchesRead s vs r gs) → HasReads g s vs r fs → HasReads g s vs r gs
reads_open g s vs r fs gs f h = record { places = h.places; here = h.here; branches = f h.branches }

-- the box is the one at the mark
pub read_here : (s : Held) (vs : List ℤ) (r : Reads) (n : ℕ) → past_box s n ≡ s.box → has_empty s.box ≡ false → HasRead s vs r → ReadBy (past_box s n) vs r n
read_here s vs r n e full h k l m = subst (λ b. values_left b k ≡ only (slice_index_or vs k (pos 0))) (sym e) (h.now full k l (h.past k l))

-- after values of one variable went
pub reads_followed : (g : Game) (s t : Held) (vs : List ℤ) (r : Reads) (i : ℕ) (fs : List Open) (x : ℕ) (p : ℤ → Bool) → Follows s t → t.box ≡ set s.box x (filter p (values_left s.box x)) → AreFrames g s vs i (trail_len s) fs → HasReads g s vs r fs → HasReads g t vs r fs
reads_followed g s t vs r i fs x p f e frames h = record {
  places = h.places;
  here = record {
    within = h.here.within;
    rises = h.here.rises;
    past = λ k l. let a = h.here.past k l in let b = f.longer in omega (arith, a, b);
    now = λ full k l m.
        let gone = ap has_empty (sym e) ∙ full in
        subst (λ b. values_left b k ≡ only (slice_index_or vs k (pos 0))) (sym e) (still_only p s.box x k (slice_index_or vs k (pos 0)) gone (h.here.now (full_before p s.box x gone) k l (h.here.past k l)));
  };
  branches = branches_same g s t vs r i (trail_len s) fs f.boxes frames h.branches;
}

-- after going back to a box, where those that were read later are no longer known
pub reads_back : (g : Game) (s t : Held) (vs : List ℤ) (r q : Reads) (i n : ℕ) (fs : List Open) → IsUndone n s t → t.box ≡ past_box s n → q.marks.items ≡ r.marks.items → q.count ≤ r.count → ((k : ℕ) → k < q.count → mark_of q k ≤ n) → ReadBy (past_box s n) vs r n → AreFrames g s vs i n fs → HasReads g s vs r fs → HasReads g t vs q fs
reads_back g s t vs r q i n fs u b e l known read frames h = record {
  places = ap length e ∙ h.places;
  here = record {
    within = let w = h.here.within in let same = ap length e in omega (arith, w, l, same);
    rises = rises_fewer r q e l h.here.rises;
    past = λ k m. let a = known k m in let c = u.len in omega (arith, a, c);
    now = λ full k m p. subst (λ c. values_left c k ≡ only (slice_index_or vs k (pos 0))) (sym b) (read_fewer (past_box s n) vs r q n e l read k m (known k m));
  };
  branches = branches_same g s t vs q i n fs u.boxes frames (branches_fewer s vs r q fs e l h.branches);
}

-- the first variables once all of them have been read
pub all_placed : (s : Held) (vs : List ℤ) (r : Reads) (stop : ℕ) → has_empty s.box ≡ false → HasRead s vs r → stop ≤ r.count → stop ≤ length s.box → length vs ≡ length s.box → take stop s.box ≡ map only (take stop vs)
all_placed s vs r stop full h l bound each = each_placed stop s.box vs bound (omega (arith, bound, each)) (λ k m. h.now full k (omega (arith, l, m)) (h.past k (omega (arith, l, m))))

-- one more is read, as the trail stands
module _ (s : Held) (vs ws : List ℤ) (r q : Reads) (v : ℤ) (places : r.count < length r.marks.items) (each : r.count < length vs) (left : values_left s.box r.count ≡ only v) (marks : q.marks.items ≡ set r.marks.items r.count (trail_len s)) (count : q.count ≡ r.count + 1) (put : ws ≡ set vs r.count v) where
  mark_last : mark_of q r.count ≡ trail_len s
  mark_last = ap (λ ms. slice_index_or ms r.count 0) marks ∙ get_or-set_same r.marks.items r.count (trail_len s) 0 places

  mark_other : (k : ℕ) → k < r.count → mark_of q k ≡ mark_of r k
  mark_other k l = ap (λ ms. slice_index_or ms k 0) marks ∙ get_or-set_other r.marks.items r.count k (trail_len s) 0 (λ e. absurd (omega (arith, l, e)))

  value_last : slice_index_or ws r.count (pos 0) ≡ v
  value_last = ap (λ us. slice_index_or us r.count (pos 0)) put ∙ get_or-set_same vs r.count v (pos 0) each

  value_other : (k : ℕ) → k < r.count → slice_index_or ws k (pos 0) ≡ slice_index_or vs k (pos 0)
  value_other k l = ap (λ us. slice_index_or us k (pos 0)) put ∙ get_or-set_other vs r.count k v (pos 0) (λ e. absurd (omega (arith, l, e)))

  -- the one that is read, or one that was read before
  last_or : (P : ℕ → Type 0) (k : ℕ) → k < q.count → P r.count → (k < r.count → P k) → P k
  last_or P k l a f = by (nat_lt k r.count) refl
    where
      below : (m n : ℕ) → nat_lt m n ≡ true → m < n
      below m n e = grind (arith, nat_tests)

      above : (m n : ℕ) → nat_lt m n ≡ false → n ≤ m
      above m n e = grind (arith, nat_tests)

      by : (b : Bool) → nat_lt k r.count ≡ b → P k
      by true e = f (below k r.count e)
      by false e = let h = above k r.count e in let same : r.count ≡ k = omega (arith, h, l, count) in subst P same a

  read_more : (box : Box) (n : ℕ) → (trail_len s ≤ n → box ≡ s.box) → ReadBy box vs r n → ReadBy box ws q n
  read_more box n same h k l m =
      last_or (λ j. mark_of q j ≤ n → values_left box j ≡ only (slice_index_or ws j (pos 0))) k l
      (λ p. ap (λ c. values_left c r.count) (same (let e = mark_last in omega (arith, e, p))) ∙ (left ∙ ap only (sym value_last)))
      (λ a p. h k a (let e = mark_other k a in omega (arith, e, p)) ∙ ap only (sym (value_other k a))) m

  pub branches_one : (fs : List Open) → AreBranchesRead s vs r fs → AreBranchesRead s ws q fs
  branches_one [] b = tt
  branches_one (Next z ∷ fs) b = branches_one fs b
  branches_one (Branch x mark from ∷ fs) b = (read_more (past_box s mark.at) mark.at (λ l. get_or_past s.past mark.at s.box l) b.0, branches_one fs b.1)

  pub reads_one : has_empty s.box ≡ false → HasRead s vs r → HasRead s ws q
  reads_one full h = record {
    within = let e = ap length marks in let same = length-set r.marks.items r.count (trail_len s) in omega (arith, places, count, e, same);
    rises = λ j k l m. last_or (λ k. j ≤ k → mark_of q j ≤ mark_of q k) k m
        (λ a. let e = mark_last in let p = past j (omega (arith, l, m)) in omega (arith, e, p))
        (λ a b. let e = mark_other k a in let f = mark_other j (omega (arith, a, b)) in let p = h.rises j k b a in omega (arith, e, f, p)) l;
    past = past;
    now = λ f. read_more s.box (trail_len s) (λ l. refl) (h.now full);
  }
    where
      past : (k : ℕ) → k < q.count → mark_of q k ≤ trail_len s
      past k l = last_or (λ j. mark_of q j ≤ trail_len s) k l (let e = mark_last in omega (arith, e)) (λ a. let e = mark_other k a in let p = h.past k a in omega (arith, e, p))
