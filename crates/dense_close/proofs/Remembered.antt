-- What was seen of variables, and the constraints that were settled then.
use Rattle.std.proofs.Common.{◌≡◌, ◌≢◌, ◌<◌, ◌≤◌, ◌+◌, ◌⊎◌, inl, inr, ℕ, true, false, ◌&&◌, List, length, refl, sym, ap, ◌∙◌, subst, arith}
use Rattle.std.specs.Prelude.{slice_get, slice_index_or, Some, MatchOption, not}
use Rattle.std.specs.List.{list_all}
use Rattle.std.proofs.lemmas.List.{get_or_past}
use Rattle.std.proofs.lemmas.Bool.{false_from_ne_true}
use Rattle.qc_model.specs.Arguments.{variables_of}
use Rattle.qc_model.specs.Block.{is_owned_within, constraints_within}
use Rattle.qc_model.specs.Content.{Game, Rule}
use Rattle.qc_model.specs.Domains.{Values, Box, declared_box, values_left, has_empty}
use Rattle.qc_model.specs.Lists.{Among}
use Rattle.qc_model.specs.Refuted.{refuted_by}
use Rattle.qc_model.specs.Verdict.{is_none_of}
use Rattle.qc_model.specs.Valid.{IsValid}
use Rattle.qc_model.proofs.Moves.{among_filter}
use Rattle.qc_model.proofs.Readable.{first, second}
use Rattle.model_arguments.specs.Asked.{is_box_of}
use Rattle.model_arguments.proofs.Bools.{clash}
use Rattle.model_levels.specs.Spans.{is_between, IsSpanOf}
use Rattle.model_table.proofs.Fits.{all_at}
use Rattle.proof_alike.proofs.Filling.{get_among}
use Rattle.fd_store.specs.Held.{Held, trail_len, past_box, Follows, AgreeApart}
use Rattle.box_laws.proofs.Readings.{box_size}
use Rattle.dense_closing.specs.Closing.{IsGreatestClosed}
use Rattle.dense_closing.specs.ClosingSteps.{greatest_closed}
use Rattle.dense_closing.specs.Takes.{keeps_box, NoneClosedBy}
use Rattle.dense_closing.proofs.Closing.{closing_finds}
use Rattle.dense_closing.proofs.Keeping.{box_stands}
use Rattle.dense_closing.proofs.Own.{own_of}
use Rattle.dense_closing.proofs.Within.{sub_self}
use Rattle.dense_close.specs.declared.memory.Sight.{Sight}
use Rattle.dense_quiet.specs.declared.taking.Taking.{Taking}
use Rattle.dense_close.specs.Index.{Index, Having, has_it, IsIndexOf}
use Rattle.dense_close.specs.Memory.{Memory, nothing, seen_of, is_pending, TellsOf, IsSeen, IsMemory, HasSeen, HasLooked, IsSeenOf, IsAsSeen, IsUnchanged}
use Rattle.dense_close.specs.Narrowing.{AreSettled}
use Rattle.dense_quiet.specs.Taking.{takes_of}
use Rattle.dense_close.specs.Waiting.{Waiting, is_marked}
use Rattle.dense_quiet.proofs.Sums.{last_or_before}
use Rattle.dense_close.proofs.Narrowed.{keeps_same, owned_by}
use Rattle.dense_close.proofs.Own.{own_within}

-- a variable of which something else was seen, and one of which the same was
pub looked_anew : (h : Having) (x : ℕ) (s : Sight) (vs : Values) (was then : Memory) → HasSeen h x s was then → TellsOf s vs → HasLooked h x vs was then
looked_anew h x s vs was then p tells = record {
  variables = p.variables;
  constraints = p.constraints;
  others = p.others;
  own = subst (λ z. TellsOf z vs) (sym p.own) tells;
  kept = p.kept;
  same = λ k b u. absurd (clash (is_pending then k) (p.told k b) u);
  seen = λ k b u. absurd (clash (is_pending then k) (p.told k b) u);
}

pub looked_same : (h : Having) (x : ℕ) (vs : Values) (m : Memory) → IsSeen (seen_of m x) vs → HasLooked h x vs m m
looked_same h x vs m s = record {
  variables = refl;
  constraints = refl;
  others = λ y n. refl;
  own = λ n. s.same;
  kept = λ k b. b;
  same = λ k b u. refl;
  seen = λ k b u. s;
}

same_or_not : (x y : ℕ) → (x ≡ y) ⊎ (x ≢ y)
same_or_not x y = grind arith

-- one variable more was looked at
pub seen_more : (t : Taking) (g : Game) (ix : Index) → IsIndexOf g ix → (before after : ℕ → Type 0) (x : ℕ) (was then : Memory) (box : Box) → IsSeenOf before t g was box → HasLooked ix.having x (values_left box x) was then →
    ((y : ℕ) → after y → y ≢ x → before y) → IsSeenOf after t g then box
seen_more t g ix i before after x was then box p h others = record {
  memory = record {
    variables = h.variables ∙ p.memory.variables;
    constraints = h.constraints ∙ p.memory.constraints;
    settled = λ k c b e u l q. p.memory.settled k c b e (passed k u) l (λ y m. subst (λ z. IsSeen z (values_left b y)) (unchanged k c e u y m (same_or_not y x)) (q y m));
  };
  tells = λ y l. at y l (same_or_not y x);
  some = λ k c y e u l m. one k c e u y l m (same_or_not y x);
}
  where
    passed : (k : ℕ) → is_pending then k ≡ false → is_pending was k ≡ false
    passed k u = false_from_ne_true (is_pending was k) (λ m. clash (is_pending then k) (h.kept k m) u)

    has : (k : ℕ) (c : Rule) → slice_get g.constraints k ≡ Some c → (y : ℕ) → Among y (variables_of c.args) → y ≡ x → has_it ix.having k x ≡ true
    has k c e y m q = all_at (has_it ix.having k) (variables_of c.args) x (i.told k c e) (subst (λ z. Among z (variables_of c.args)) q m)

    unchanged : (k : ℕ) (c : Rule) → slice_get g.constraints k ≡ Some c → is_pending then k ≡ false → (y : ℕ) → Among y (variables_of c.args) → (y ≡ x) ⊎ (y ≢ x) → seen_of then y ≡ seen_of was y
    unchanged k c e u y m (inl q) = subst (λ z. seen_of then z ≡ seen_of was z) (sym q) (h.same k (has k c e y m q) u)
    unchanged k c e u y m (inr n) = h.others y n

    at : (y : ℕ) → after y → (y ≡ x) ⊎ (y ≢ x) → TellsOf (seen_of then y) (values_left box y)
    at y l (inl q) = subst (λ z. TellsOf (seen_of then z) (values_left box z)) (sym q) h.own
    at y l (inr n) = subst (λ z. TellsOf z (values_left box y)) (sym (h.others y n)) (p.tells y (others y l n))

    one : (k : ℕ) (c : Rule) → slice_get g.constraints k ≡ Some c → is_pending then k ≡ false → (y : ℕ) → after y → Among y (variables_of c.args) → (y ≡ x) ⊎ (y ≢ x) → IsSeen (seen_of then y) (values_left box y)
    one k c e u y l m (inl q) = subst (λ z. IsSeen (seen_of then z) (values_left box z)) (sym q) (h.seen k (has k c e y m q) u)
    one k c e u y l m (inr n) = subst (λ z. IsSeen z (values_left box y)) (sym (h.others y n)) (p.some k c y e (passed k u) (others y l n) m)

pub seen_same : (t : Taking) (g : Game) (x : ℕ) (m : Memory) (box : Box) → IsAsSeen x t g m box → IsSeen (seen_of m x) (values_left box x) → IsAsSeen (x + 1) t g m box
seen_same t g x m box p s = record { memory = p.memory; tells = λ y l. at y (last_or_before y x l); some = λ k c y e u l a. either k c e u y a (last_or_before y x l) }
  where
    here : (y : ℕ) → y ≡ x → IsSeen (seen_of m y) (values_left box y)
    here y e = subst (λ z. IsSeen (seen_of m z) (values_left box z)) (sym e) s

    at : (y : ℕ) → (y < x) ⊎ (y ≡ x) → TellsOf (seen_of m y) (values_left box y)
    at y (inl l) = p.tells y l
    at y (inr q) = λ n. (here y q).same

    either : (k : ℕ) (c : Rule) → slice_get g.constraints k ≡ Some c → is_pending m k ≡ false → (y : ℕ) → Among y (variables_of c.args) → (y < x) ⊎ (y ≡ x) → IsSeen (seen_of m y) (values_left box y)
    either k c e u y a (inl l) = p.some k c y e u l a
    either k c e u y a (inr q) = here y q

-- below the next number are those below it
pub below_next : (x y : ℕ) → y < x + 1 → y ≢ x → y < x
below_next x y l n = grind arith

-- what was seen of a box on the way is so of each variable that has the same values now
pub seen_since : (t : Taking) (g : Game) (m : Memory) (was box : Box) → IsAsSeen (length g.variables) t g m was → IsSeenOf (IsUnchanged g was box) t g m box
seen_since t g m was box p = record {
  memory = p.memory;
  tells = λ x l. subst (TellsOf (seen_of m x)) l.1 (p.tells x l.0);
  some = λ k c x e u l a. subst (IsSeen (seen_of m x)) l.1 (p.some k c x e u l.0 a);
}

-- at one place of the trail more, only one variable more may have them
pub since_next : (g : Game) (x : ℕ) (was next box : Box) → AgreeApart x was next → (y : ℕ) → IsUnchanged g next box y → y ≢ x → IsUnchanged g was box y
since_next g x was next box a y u n = (u.0, a y n ∙ u.1)

-- and at its end all have them
pub seen_at_end : (t : Taking) (g : Game) (m : Memory) (h : Held) (n : ℕ) → trail_len h ≤ n → IsSeenOf (IsUnchanged g (past_box h n) h.box) t g m h.box → IsAsSeen (length g.variables) t g m h.box
seen_at_end t g m h n l p = record {
  memory = p.memory;
  tells = λ x b. p.tells x (here x b);
  some = λ k c x e u b a. p.some k c x e u (here x b) a;
}
  where
    here : (x : ℕ) → x < length g.variables → IsUnchanged g (past_box h n) h.box x
    here x b = (b, ap (λ z. values_left z x) (get_or_past h.past n h.box l))

place_of_own : (g : Game) → IsValid g → (k : ℕ) (c : Rule) (box : Box) → slice_get g.constraints k ≡ Some c → is_box_of g box ≡ true → (x : ℕ) → Among x (variables_of c.args) → x < length g.variables
place_of_own g v k c box e d x m = subst (λ n. x < n) (box_size g box d) (own_within g v k c box e d x m)

-- a constraint that isn't pending keeps a box that is as it was seen
pub settled_here : (t : Taking) (g : Game) → IsValid g → (m : Memory) (box : Box) → is_box_of g box ≡ true → IsAsSeen (length g.variables) t g m box → (k : ℕ) (c : Rule) → slice_get g.constraints k ≡ Some c → is_pending m k ≡ false → keeps_box (takes_of t g) box c ≡ true
settled_here t g v m box d p k c e u = p.memory.settled k c box e u (box_size g box d) (λ x a. p.some k c x e u (place_of_own g v k c box e d x a) a)

-- so all of the span are settled once those that are pending wait
pub settled_awake : (t : Taking) (g : Game) → IsValid g → (first end : ℕ) (m : Memory) (w : Waiting) (box : Box) → is_box_of g box ≡ true → IsAsSeen (length g.variables) t g m box →
    ((k : ℕ) → is_between first end k ≡ true → is_pending m k ≡ true → is_marked w k ≡ true) → AreSettled t g first end w box
settled_awake t g v first end m w box d p woken k b u c e = settled_here t g v m box d p k c e (false_from_ne_true (is_pending m k) (λ q. clash (is_marked w k) (woken k b q) u))

-- constraints that keep a box that is as it was seen are settled as it was seen
pub settled_more : (t : Taking) (g : Game) → IsValid g → (first end : ℕ) (was now : Memory) (box : Box) → is_box_of g box ≡ true → IsAsSeen (length g.variables) t g was box →
    ((k : ℕ) (c : Rule) → is_between first end k ≡ true → slice_get g.constraints k ≡ Some c → keeps_box (takes_of t g) box c ≡ true) → now.seen ≡ was.seen → length now.pending ≡ length was.pending →
    ((k : ℕ) → is_pending now k ≡ false → (is_between first end k ≡ true) ⊎ (is_pending was k ≡ false)) → IsMemory t g now
settled_more t g v first end was now box d p keeps same count flags = record {
  variables = ap length same ∙ p.memory.variables;
  constraints = count ∙ p.memory.constraints;
  settled = λ k c b e u l q. at k c b e l (λ y m. subst (λ z. IsSeen z (values_left b y)) (ap (λ ss. slice_index_or ss y nothing) same) (q y m)) (flags k u);
}
  where
    both : (k : ℕ) (c : Rule) (b : Box) → slice_get g.constraints k ≡ Some c → ((y : ℕ) → Among y (variables_of c.args) → IsSeen (seen_of was y) (values_left b y)) → (y : ℕ) → Among y (variables_of c.args) → values_left b y ≡ values_left box y
    both k c b e q y m = (let s = q y m in s.same ∙ sym (p.tells y (place_of_own g v k c box e d y m) s.some))

    at : (k : ℕ) (c : Rule) (b : Box) → slice_get g.constraints k ≡ Some c → length b ≡ length g.variables → ((y : ℕ) → Among y (variables_of c.args) → IsSeen (seen_of was y) (values_left b y)) →
        (is_between first end k ≡ true) ⊎ (is_pending was k ≡ false) → keeps_box (takes_of t g) b c ≡ true
    at k c b e l q (inl s) = keeps_same g c b box (l ∙ sym (box_size g box d)) (λ y a. both k c b e q y (own_of (variables_of c.args) y a)) (takes_of t g) (keeps k c s e)
    at k c b e l q (inr u) = p.memory.settled k c b e u l q

-- a closed box is kept by each of the span
pub closed_keeps : (t : Taking) (g : Game) → IsValid g → (i stop first end : ℕ) (box now : Box) → is_box_of g box ≡ true → IsSpanOf g i stop first end → greatest_closed (takes_of t g) g i stop box ≡ Some now → (k : ℕ) (c : Rule) →
    is_between first end k ≡ true → slice_get g.constraints k ≡ Some c → keeps_box (takes_of t g) now c ≡ true
closed_keeps t g v i stop first end box now d s found k c b e =
    all_at (keeps_box (takes_of t g) now) cs c (second (not (has_empty now)) (list_all (keeps_box (takes_of t g) now) cs) closed)
    (among_filter (is_owned_within i stop) c g.constraints (get_among g.constraints k c e) (owned_by g i stop first end k c s b e))
  where
    cs : List Rule
    cs = constraints_within g i stop

    closed : (not (has_empty now) && list_all (keeps_box (takes_of t g) now) cs) ≡ true
    closed = (subst (λ o. MatchOption o (NoneClosedBy (takes_of t g) cs box) (IsGreatestClosed (takes_of t g) cs box)) found (closing_finds (takes_of t g) g v i stop box d)).closed

-- the box that undoing leads back to
pub box_before : (s t : Held) → Follows s t → (n : ℕ) → n ≡ trail_len s → past_box t n ≡ s.box
box_before s t f n e = f.boxes n (omega (arith, e)) ∙ get_or_past s.past n s.box (omega (arith, e))

-- a constraint that keeps the box and has a variable doesn't refute it
pub kept_stands : (t : Taking) (g : Game) → IsValid g → (k : ℕ) (c : Rule) (box : Box) → slice_get g.constraints k ≡ Some c → is_box_of g box ≡ true → has_empty box ≡ false → keeps_box (takes_of t g) box c ≡ true → is_none_of (variables_of c.args) ≡ false →
    refuted_by c box ≡ false
kept_stands t g v k c box e d full kept some = false_from_ne_true (refuted_by c box) (box_stands g v k c e box box d (sub_self box (declared_box g) d) full (takes_of t g) kept some)

-- so one that was settled with what is left doesn't
pub settled_stands : (t : Taking) (g : Game) → IsValid g → (m : Memory) (box : Box) → is_box_of g box ≡ true → has_empty box ≡ false → IsAsSeen (length g.variables) t g m box → (k : ℕ) (c : Rule) → slice_get g.constraints k ≡ Some c → is_pending m k ≡ false →
    is_none_of (variables_of c.args) ≡ false → refuted_by c box ≡ false
settled_stands t g v m box d full p k c e u some = kept_stands t g v k c box e d full (settled_here t g v m box d p k c e u) some
