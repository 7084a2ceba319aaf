-- What the machine tells after a line of a node.
use Rattle.std.proofs.Common.{◌≡◌, ℕ, zero, suc, ◌<◌, ◌≤◌, ◌+◌, Bool, true, false, not, ◌&&◌, cond, List, [], ◌∷◌, length, drop, take, refl, sym, ap, ◌∙◌, subst, arith, ℤ, Option, Some, None, length-drop}
use Rattle.std.specs.Prelude.{nat_le}
use Rattle.std.specs.List.{list_all}
use Rattle.std.proofs.lemmas.Bool.Decides.{nat_tests}
use Rattle.qc_model.specs.declared.problem.VarId.{VarId}
use Rattle.qc_model.specs.declared.problem.ConId.{ConId}
use Rattle.qc_model.specs.declared.problem.Scope.{Scope}
use Rattle.qc_model.specs.Content.{Game}
use Rattle.qc_model.specs.Demands.{demands}
use Rattle.qc_model.specs.Domains.{has_empty, box_without, is_within}
use Rattle.qc_model.specs.Game.{allows, before}
use Rattle.qc_model.specs.Valid.{is_number}
use Rattle.qc_model.specs.Verdict.{Verdict, lost}
use Rattle.qc_model.specs.ForallVerdict.{goal_verdict}
use Rattle.qc_model.proofs.Readable.{first, second}
use Rattle.model_arguments.specs.Asked.{is_box_of}
use Rattle.joins.specs.Seen.{verdict_of}
use Rattle.joins.specs.declared.leaves.Found.{Found}
use Rattle.joins.specs.Joins.{game_of as game_joined, StandsAt, KeepsOthers, KeepsAll, IsLong, out_of}
use Rattle.joins.specs.Sizes.{IsSized}
use Rattle.joins.specs.Verdicts.{stuck_of}
use Rattle.joins.specs.declared.joins.Joins.{Joins}
use Rattle.proof_tree.specs.Place.{position, is_goal}
use Rattle.proof_tree.specs.InPlace.{is_horizon, is_nearer}
use Rattle.proof_tree.specs.Steps.{is_legal}
use Rattle.proof_tree.specs.declared.line.Line.{Line}
use Rattle.proof_tree.specs.declared.line.Line.TheVariants.{Horizon, Prune, Dot, Goal}
use Rattle.proof_tree.specs.declared.tree.Step.TheVariants.{Prune as PruneStep}
use Rattle.fd_store.specs.declared.store.Mark.{Mark}
use Rattle.fd_store.specs.Held.{Held, trail_len, past_box, Follows, IsUndone}
use Rattle.check_lines.specs.declared.open.Due.TheVariants as due
use Rattle.check_lines.specs.declared.machine.Machine.{Machine}
use Rattle.check_lines.specs.State.{may_see}
use Rattle.check_lines.specs.Awaited.{Awaited, prune_awaited, body_awaited}
use Rattle.check_lines.specs.Ledger.{Ledger, Entry, next_entry, branch_entry, node_closed, only_ledger, place_at, begins, begun, ledger_end, ledger_body, ledger_node, ledger_prune, no_scope_left}
use Rattle.check_lines.specs.LedgerSizes.{EntriesKeep}
use Rattle.check_lines.specs.Machine.{game_of, before_of, IsFull, IsSound, IsAtNode, IsWithin, IsSeeing}
use Rattle.check_box.specs.Placed.{values_to, IsAt}
use Rattle.check_lines.specs.Telling.{IsNode, IsNodeEnd, GoesUp, came, node_at, node_ended, stuck_ended, Tells, NodeTells, PartTells}
use Rattle.check_lines.proofs.Frames.{frames_same, entries_same, entries_joins}
use Rattle.box_laws.proofs.Trails.{past_now}
use Rattle.check_box.proofs.Placing.{position_placed, numbers_to}
use Rattle.check_lines.proofs.Known.{read_here, reads_back}
use Rattle.check_lines.specs.Known.{ReadBy}
use Rattle.check_lines.proofs.LedgerSizes.{one_node}
use Rattle.check_lines.proofs.Parts.{a_ledger, followed_sound, followed_open}

closed_came : (g : Game) (d : Ledger) (es : List Entry) (i : ℕ) (h : Option ℕ) (v : Verdict) → came g d es i h v None ≡ node_closed g d es i h v
closed_came g d [] i h v = refl
closed_came g d (branch_entry b ∷ es) i h v = refl
closed_came g d (next_entry up above z ∷ es) i h v = refl

-- a node that has no own tree
alone_up : (g : Game) (n : ℕ) (es : List Entry) (i : ℕ) (v : Verdict) → IsLong g i v → IsSized 1 v → EntriesKeep g n es i → GoesUp g (suc n) es i v
alone_up g n [] i v l s k = tt
alone_up g n (branch_entry b ∷ es) i v l s k = tt
alone_up g n (next_entry up above z ∷ es) i v l s k = one_node g 1 n (suc n) es i up above z v (omega arith) (omega arith) l s k

-- what the machine knows of the node is found
module _ (m : Machine) (js : Joins) (f : Found) (w : IsAtNode m) (others : KeepsOthers m.number m.joins js) (same : game_joined js ≡ game_joined m.joins) where
  abbrev alone : Machine
  alone = record m { joins = js; found = f; own = None }

  pub alone_closes : (new : Machine) (v : Verdict) (n : ℕ) (d : Ledger) (es : List Entry) (u : Awaited) → ((n : ℕ) (d : Ledger) (es : List Entry) (v : Verdict) → IsNodeEnd n alone d es v → Tells new (Some (node_ended alone d es v))) →
      v ≡ verdict_of f (out_of js) → IsLong (game_of m) m.number v → IsSized 1 v → n < 4294967296 → IsNode m d es → EntriesKeep (game_of m) n es m.number →
      Tells new (Some (node_closed (game_of m) (node_at m d es u) es m.number m.horizon v))
  alone_closes new v n d es u h e long sized few p k =
      subst (λ q. Tells new (Some q)) (closed_came (game_of m) (node_at m d es u) es m.number m.horizon v)
      (h (suc n) (node_at m d es u) es v (record {
        few = omega (arith, few);
        node = record {
          counts = p.counts;
          entries = entries_joins (game_of m) m.remains m.values.items m.joins js m.number (trail_len m.remains) m.nesting es (λ j ys l. others j ys (λ eq. absurd (omega (arith, l, eq)))) w.sound.frames p.entries;
        };
        verdict = e;
        sizes = alone_up (game_of m) n es m.number v long sized k;
      }))

module _ (m : Machine) (w : IsAtNode m) where
  pub position_is : position (game_of m) m.number m.remains.box ≡ before_of m
  position_is = position_placed (game_of m) m.number m.values.items m.remains.box (w.sound.placed w.full)

  pub before_numbers : list_all is_number (before_of m) ≡ true
  before_numbers = numbers_to (before (game_of m) m.number) m.values.items w.sound.numbers

pub stuck_tells : (m : Machine) (js : Joins) (f : Found) (w : IsAtNode m) (others : KeepsOthers m.number m.joins js) (same : game_joined js ≡ game_joined m.joins) (new : Machine) →
    ((n : ℕ) (d : Ledger) (es : List Entry) (v : Verdict) → IsNodeEnd n (record m { joins = js; found = f; own = None }) d es v → Tells new (Some (node_ended (record m { joins = js; found = f; own = None }) d es v))) →
    stuck_of (drop m.number (game_of m).scopes) (game_of m) (demands (game_of m) m.number) (before_of m) ≡ verdict_of f (out_of js) → NodeTells m new (λ d. Some (stuck_ended (game_of m) d))
stuck_tells m js f w others same new h e n d es u few p k =
    let g = game_of m in
    let v = stuck_of (drop m.number g.scopes) g (demands g m.number) (before_of m) in
    subst (λ a. Tells new (Some (node_closed g (node_at m d es u) es m.number m.horizon (stuck_of (drop m.number g.scopes) g (demands g m.number) a)))) (sym (position_is m w))
    (alone_closes m js f w others same new v n d es u h e (w.sound.laws.stuck_long m.number (before_of m)) (w.sound.laws.stuck_sized m.number (before_of m) (before_numbers m w)) few p k)

pub drop_none : (ss : List Scope) (i : ℕ) → length ss ≤ i → drop i ss ≡ []
drop_none [] zero h = refl
drop_none [] (suc i) h = refl
drop_none (s ∷ ss) zero h = absurd (omega arith)
drop_none (s ∷ ss) (suc i) h = drop_none ss i (omega arith)

pub none_stuck : (g : Game) (i : ℕ) (a : List ℤ) → length g.scopes ≤ i → stuck_of (drop i g.scopes) g (demands g i) a ≡ lost
none_stuck g i a h = ap (λ ss. stuck_of ss g (demands g i) a) (drop_none g.scopes i h)

-- the goal
pub goal_tells : (m : Machine) (js : Joins) (f : Found) (b : Bool) (w : IsAtNode m) (all : KeepsAll m.joins js) (same : game_joined js ≡ game_joined m.joins) (new : Machine) →
    ((n : ℕ) (d : Ledger) (es : List Entry) (v : Verdict) → IsNodeEnd n (record m { joins = js; found = f; own = None }) d es v → Tells new (Some (node_ended (record m { joins = js; found = f; own = None }) d es v))) →
    is_horizon m.horizon m.number ≡ false → nat_le (length (game_of m).scopes) m.number ≡ true → b ≡ allows (game_of m) m.number (before_of m) →
    goal_verdict (game_of m) b (demands (game_of m) m.number) (before_of m) ≡ verdict_of f (out_of js) → NodeTells m new (λ d. ledger_body (game_of m) d Goal)
goal_tells m js f b w all same new h far last holds e n d es u few p k =
    let g = game_of m in
    let v = goal_verdict g b (demands g m.number) (before_of m) in
    let base = node_at m d es u in
    let closed : (a : List ℤ) (c : Bool) → Ledger = λ a c. node_closed g base es m.number m.horizon (goal_verdict g c (demands g m.number) a) in
    let made = alone_closes m js f w (λ j ys l. all j ys) same new v n d es u h e (w.sound.laws.goal_long m.number (before_of m) b) (w.sound.laws.goal_sized m.number (before_of m) b (before_numbers m w)) few p k in
    subst (Tells new)
    (ap (λ c. Some (closed (before_of m) c)) holds
    ∙ (ap (λ a. Some (closed a (allows g m.number a))) (sym (position_is m w))
    ∙ sym (ap (λ c. only_ledger (not c && no_scope_left g base) (closed (position g m.number m.remains.box) (allows g m.number (position g m.number m.remains.box)))) far
    ∙ ap (λ c. only_ledger c (closed (position g m.number m.remains.box) (allows g m.number (position g m.number m.remains.box)))) last)))
    made

-- the own tree of the node's scope begins
module _ (m : Machine) (js : Joins) (w : IsAtNode m) (others : KeepsOthers m.number m.joins js) (same : game_joined js ≡ game_joined m.joins) (within : nat_le (length (game_of m).scopes) m.number ≡ false) where
  scope_is : m.number < length (game_of m).scopes
  scope_is = let e = within in by m.number (length (game_of m).scopes) e
    where
      by : (i n : ℕ) → nat_le n i ≡ false → i < n
      by i n e = grind (arith, nat_tests)

  pub own_within : IsWithin (record m { joins = js })
  own_within =
      let s = w.sound in
      record {
        sound = record {
          laws = s.laws;
          tracks = s.tracks;
          joined = same ∙ s.joined;
          valued = s.valued;
          value_each = s.value_each;
          numbers = s.numbers;
          declared = s.declared;
          inside = s.inside;
          placed = s.placed;
          frames = s.frames;
          read = s.read;
        };
        scope = scope_is;
      }

  pub own_tells : (new : Machine) (line : Line) → StandsAt js m.number [] → is_horizon m.horizon m.number ≡ false → PartTells (record m { joins = js }) new (λ d. ledger_end (game_of m) d line) → NodeTells m new (λ d. begins (game_of m) d line)
  own_tells new line stands far h n d es u few p k =
      let g = game_of m in
      let base = node_at m d es u in
      let made = h n base es [] u few
      (record {
        counts = p.counts;
        entries = entries_joins g m.remains m.values.items m.joins js m.number (trail_len m.remains) m.nesting es (λ j ys l. others j ys (λ eq. absurd (omega (arith, l, eq)))) w.sound.frames p.entries;
        stands = stands;
      })
      (record {
        here = 0;
        above = n;
        all = omega arith;
        scope = record { inside = scope_is; values = before_numbers m w; long = tt; sizes = λ j. omega arith };
        entries = k;
      }) in
      subst (Tells new)
      (ap (λ a. let r : Ledger = record base { seen = []; before = a } in ledger_end g r line) (sym (position_is m w))
      ∙ sym (ap (λ c. cond (not c && not (no_scope_left g base)) (ledger_end g (begun g base) line) None) far
      ∙ ap (λ c. cond (not c) (ledger_end g (begun g base) line) None) within))
      made

-- all variables stand before the goal
pub at_goal : (m : Machine) → IsSound m → nat_le (length (game_of m).scopes) m.number ≡ true → m.number ≡ length (game_of m).scopes
at_goal m s e = let l = s.inside in by m.number (length (game_of m).scopes) e l
  where
    by : (i n : ℕ) → nat_le n i ≡ true → i ≤ n → i ≡ n
    by i n e l = grind (arith, nat_tests)

pub all_before : (m : Machine) → IsSound m → before (game_of m) (length (game_of m).scopes) ≡ length (game_of m).variables → m.number ≡ length (game_of m).scopes → before_of m ≡ m.values.items
all_before m s all e = ap (λ i. values_to (game_of m) i m.values.items) e ∙ (ap (λ n. take n m.values.items) (all ∙ sym s.value_each) ∙ whole m.values.items)
  where
    whole : (vs : List ℤ) → take (length vs) vs ≡ vs
    whole [] = refl
    whole (v ∷ vs) = ap (λ ws. v ∷ ws) (whole vs)

-- a horizon begins
module _ (m : Machine) (w : IsAtNode m) (k : ℕ) (mark : Mark) (at : mark.at ≡ trail_len m.remains) (may : may_see k (place_at (game_of m) m.number m.horizon) ≡ true) where
  ahead : (m.number < length (game_of m).scopes) × (m.number ≤ k) × (k ≤ length (game_of m).scopes)
  ahead =
      let g = game_of m in
      let later = drop m.number g.scopes in
      let abc = first ((not (is_goal later) && nat_le m.number k) && nat_le k (m.number + length later)) (is_nearer k m.horizon) may in
      let ab = first (not (is_goal later) && nat_le m.number k) (nat_le k (m.number + length later)) abc in
      let c = low k (m.number + length later) (second (not (is_goal later) && nat_le m.number k) (nat_le k (m.number + length later)) abc) in
      let a = goal_none later (first (not (is_goal later)) (nat_le m.number k) ab) in
      let b = low m.number k (second (not (is_goal later)) (nat_le m.number k) ab) in
      let size = length-drop m.number g.scopes in
      let l = w.sound.inside in
      (omega (arith, a, size, l), b, omega (arith, c, size, l))
    where
      low : (m n : ℕ) → nat_le m n ≡ true → m ≤ n
      low m n e = grind (arith, nat_tests)

      goal_none : (ss : List Scope) → not (is_goal ss) ≡ true → 0 < length ss
      goal_none [] e = cc
      goal_none (s ∷ ss) e = omega arith

  pub horizon_ready : IsSeeing (record m { due = due.Prune k mark }) k mark
  horizon_ready =
      let s = w.sound in
      let now : past_box m.remains mark.at ≡ m.remains.box = past_now m.remains mark.at at in
      record {
        within = record {
          sound = record {
            laws = s.laws;
            tracks = s.tracks;
            joined = s.joined;
            valued = s.valued;
            value_each = s.value_each;
            numbers = s.numbers;
            declared = s.declared;
            inside = s.inside;
            placed = s.placed;
            frames = s.frames;
            read = s.read;
          };
          scope = ahead.0;
        };
        order = ahead.1;
        bound = ahead.2;
        at = omega (arith, at);
        box = subst (IsFull (game_of m) m.number m.values.items) (sym now) (record { declared = s.declared; full = w.full; placed = s.placed w.full });
        frames = frames_same (game_of m) m.remains m.remains m.values.items m.number (trail_len m.remains) mark.at m.nesting (omega (arith, at)) (λ j l. refl) s.frames;
        read = read_here m.remains m.values.items m.reads mark.at now w.full s.read.here;
        known = λ j l. let p = s.read.here.past j l in omega (arith, p, at);
      }

  pub horizon_tells : NodeTells m (record m { due = due.Prune k mark }) (λ d. ledger_node (game_of m) d (Horizon (suc k)))
  horizon_tells n d es u few p keeps =
      let base = node_at m d es u in (
        base,
        es,
        record { counts = p.counts; entries = p.entries },
        a_ledger (may_see k (place_at (game_of m) m.number m.horizon)) _ may ∙ ap (λ b. let r : Ledger = record base { awaited = prune_awaited k b } in Some r) (sym (past_now m.remains mark.at at)),
      )

-- a removal of a horizon
module _ (m : Machine) (k : ℕ) (mark : Mark) (w : IsSeeing m k mark) (t : Held) (f : Follows m.remains t) (declared : is_box_of (game_of m) t.box ≡ true) (x : VarId) (lo hi : ℤ) (e : t.box ≡ box_without m.remains.box x.0 lo hi) where
  seen_sound : IsSound (record m { remains = t })
  seen_sound = followed_sound m w.within t f declared x.0 (λ v. not (is_within lo hi v)) e

  pub seen_ready : IsSeeing (record m { remains = t; due = due.Prune k mark }) k mark
  seen_ready =
      let s = seen_sound in
      record {
        within = record {
          sound = record {
            laws = s.laws;
            tracks = s.tracks;
            joined = s.joined;
            valued = s.valued;
            value_each = s.value_each;
            numbers = s.numbers;
            declared = s.declared;
            inside = s.inside;
            placed = s.placed;
            frames = s.frames;
            read = s.read;
          };
          scope = w.within.scope;
        };
        order = w.order;
        bound = w.bound;
        at = let a = w.at in let l = f.longer in omega (arith, a, l);
        box = subst (IsFull (game_of m) m.number m.values.items) (sym (f.boxes mark.at w.at)) w.box;
        frames = frames_same (game_of m) m.remains t m.values.items m.number mark.at mark.at m.nesting (omega arith) (λ j l. f.boxes j (let a = w.at in omega (arith, l, a))) w.frames;
        read = subst (λ b. ReadBy b m.values.items m.reads mark.at) (sym (f.boxes mark.at w.at)) w.read;
        known = w.known;
      }

  pub seen_tells : (c : ConId) → is_legal (game_of m) m.number (suc k) None (PruneStep x lo hi c) m.remains.box ≡ true →
      NodeTells m (record m { remains = t; due = due.Prune k mark }) (λ d. ledger_prune (game_of m) d k (past_box m.remains mark.at) (Prune x lo hi c))
  seen_tells c legal n d es u few p keeps =
      let base = node_at m d es u in (
        base,
        es,
        record { counts = p.counts; entries = followed_open m w.within t f declared es p.entries },
        a_ledger (is_legal (game_of m) m.number (suc k) None (PruneStep x lo hi c) m.remains.box) _ legal
            ∙ (ap (λ b. let r : Ledger = record base { box = b; awaited = prune_awaited k (past_box m.remains mark.at) } in Some r) (sym e)
            ∙ ap (λ b. let r : Ledger = record base { box = t.box; awaited = prune_awaited k b } in Some r) (sym (f.boxes mark.at w.at))),
      )

-- the dot after them
module _ (m : Machine) (k : ℕ) (mark : Mark) (w : IsSeeing m k mark) (t : Held) (u : IsUndone mark.at m.remains t) (e : t.box ≡ past_box m.remains mark.at) where
  pub dot_ready : IsAtNode (record m { remains = t; horizon = Some k; due = due.Body })
  dot_ready =
      let s = w.within.sound in
      record {
        sound = record {
          laws = s.laws;
          tracks = s.tracks;
          joined = s.joined;
          valued = s.valued;
          value_each = s.value_each;
          numbers = s.numbers;
          declared = subst (λ b. is_box_of (game_of m) b ≡ true) (sym e) w.box.declared;
          inside = s.inside;
          placed = λ full. subst (IsAt (game_of m) m.number m.values.items) (sym e) w.box.placed;
          frames = frames_same (game_of m) m.remains t m.values.items m.number mark.at (trail_len t) m.nesting (let l = u.len in omega (arith, l)) u.boxes w.frames;
          read = reads_back (game_of m) m.remains t m.values.items m.reads m.reads m.number mark.at m.nesting u e refl (omega arith) w.known w.read w.frames s.read;
        };
        full = ap has_empty e ∙ w.box.full;
      }

  pub dot_tells : has_empty m.remains.box ≡ true → NodeTells m (record m { remains = t; horizon = Some k; due = due.Body }) (λ d. ledger_prune (game_of m) d k (past_box m.remains mark.at) Dot)
  dot_tells empty n d es v few p keeps =
      let base = node_at m d es v in (
        base,
        es,
        record { counts = p.counts; entries = entries_same (game_of m) m.remains t m.values.items m.joins m.number mark.at m.nesting es u.boxes w.frames p.entries },
        a_ledger (has_empty m.remains.box) _ empty ∙ ap (λ b. let r : Ledger = record base { box = b; horizon = Some k; awaited = body_awaited } in Some r) (sym e),
      )
