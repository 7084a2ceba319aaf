-- A play in which the side that holds a position keeps it, and the other side gives the values that a reply names.
use Rattle.std.proofs.Common.{◌≡◌, ◌⊎◌, inl, inr, ℕ, zero, suc, ◌+◌, ◌-◌, ◌<◌, ◌≤◌, Bool, true, false, List, [], ◌∷◌, ◌++◌, length, take, drop, get_or, refl, sym, ap, ◌∙◌, subst, arith, append_assoc, length-append, append-nil}
use Rattle.std.specs.Prelude.{ℤ, pos}
use Rattle.std.proofs.lemmas.List.{get_or-drop, length-drop}
use Rattle.qc_model.specs.declared.problem.Kind.{Kind}
use Rattle.qc_model.specs.declared.problem.Scope.{Scope}
use Rattle.qc_model.specs.Content.{Game}
use Rattle.qc_model.specs.Lists.{Among, LiesIn}
use Rattle.qc_model.specs.Domains.{Box, InBox, declared_box}
use Rattle.qc_model.specs.Game.{before, scope_domains, is_of_scope, allows, IsMove}
use Rattle.qc_model.specs.Counter.{opposite}
use Rattle.qc_model.specs.Table.{IsOrdered}
use Rattle.qc_model.specs.Valid.{IsValid}
use Rattle.qc_model.proofs.Before.{before-le}
use Rattle.model_table.proofs.Ordered.{valid_ordered}
use Rattle.proof_meaning.proofs.Boxes.{in_append, from_take}
use Rattle.proof_meaning.proofs.Passing.{move_count}
use Rattle.proof_meaning.proofs.Widths.{width, before_next, part_rest, in_scope}
use Rattle.proof_meaning.proofs.Standing.{none_left}
use Rattle.lemma_list.specs.Places.{is_kind, kind_of, side_at, is_chosen_from}
use Rattle.lemma_boxes.proofs.Lists.{differ, drop_head, drop_tail}
use Rattle.lemma_boxes.proofs.Allowed.{allows_front}
use Rattle.lemma_boxes.proofs.Scopes.{chosen_is, chosen_cases}
use Rattle.lemma_laws.proofs.Turns.{Holds, one_side, is_same, not_opposite, Held, own_move, other_move}

-- the value of each variable of the other side, at the position before its scope
abbrev pub Reply : Type 0
Reply = List ℤ → ℕ → ℤ

-- the play gives the variable x the value that the reply names at the position before its scope
pub record Answered (g : Game) (reply : Reply) (w : List ℤ) (x : ℕ) : Type 0 where
  pub scope : ℕ
  pub front : List ℤ
  pub rest : List ℤ
  pub of_scope : is_of_scope g scope x ≡ true
  pub count : length front ≡ before g scope
  pub goes_on : w ≡ front ++ rest
  pub same : get_or w x (pos 0) ≡ reply front x

-- the other side's restrictions from one scope up to the one before another hold
abbrev pub Unblocked : Game → Kind → ℕ → ℕ → List ℤ → Type 0
Unblocked g k i o w = (j : ℕ) → i ≤ j → j < o → side_at g j ≡ opposite k → allows g j w ≡ true

-- the play comes to the position before scope o, where later begins, and the side still holds it
pub record Reached (g : Game) (k : Kind) (later : List Scope) (i o : ℕ) (w : List ℤ) : Type 0 where
  pub front : List ℤ
  pub rest : List ℤ
  pub count : length front ≡ before g o
  pub goes_on : w ≡ front ++ rest
  pub holds : Holds k g later o front
  pub allowed : (j : ℕ) → i ≤ j → j < o → allows g j w ≡ true

abbrev pub Reaches : Game → Kind → List Scope → ℕ → List ℤ → Type 0
Reaches g k later i w = (n o : ℕ) → i + n ≡ o → n ≤ length later → Unblocked g k i o w → Reached g k (drop n later) i o w

-- values that go on from a, one for each variable
pub record Ahead (g : Game) (k : Kind) (reply : Reply) (later : List Scope) (i : ℕ) (a : List ℤ) : Type 0 where
  pub values : List ℤ
  pub rest : List ℤ
  pub goes_on : values ≡ a ++ rest
  pub full : LiesIn values (declared_box g)
  pub answers : (x : ℕ) → is_chosen_from (opposite k) g i x ≡ true → Answered g reply values x

pub record Play (g : Game) (k : Kind) (reply : Reply) (later : List Scope) (i : ℕ) (a : List ℤ) : Type 0 where
  pub ahead : Ahead g k reply later i a
  pub reaches : Reaches g k later i ahead.values

-- the tuple that the reply names
tuple_of : (ℕ → ℤ) → ℕ → List ℤ
tuple_of f zero = []
tuple_of f (suc n) = f 0 ∷ tuple_of (λ j. f (suc j)) n

tuple_length : (f : ℕ → ℤ) (n : ℕ) → length (tuple_of f n) ≡ n
unfolding tuple_of
tuple_length f zero = refl
tuple_length f (suc n) = ap suc (tuple_length (λ j. f (suc j)) n)

lies_tuple : (f : ℕ → ℤ) (n : ℕ) (es : Box) → ((j : ℕ) → j < n → Among (f j) (get_or es j [])) → n ≤ length es → LiesIn (tuple_of f n) (take n es)
unfolding tuple_of
lies_tuple f zero es h l = tt
lies_tuple f (suc n) [] h l = absurd (omega arith)
lies_tuple f (suc n) (d ∷ es) h l = (h 0 (omega arith), lies_tuple (λ j. f (suc j)) n es (λ j q. h (suc j) (omega arith)) (omega arith))

get_tuple : (f : ℕ → ℤ) (n j : ℕ) (r : List ℤ) → j < n → get_or (tuple_of f n ++ r) j (pos 0) ≡ f j
unfolding tuple_of
get_tuple f zero j r l = absurd (omega arith)
get_tuple f (suc n) zero r l = refl
get_tuple f (suc n) (suc j) r l = get_tuple (λ m. f (suc m)) n j r (omega arith)

get_past : (b r : List ℤ) (x j : ℕ) → x ≡ length b + j → get_or (b ++ r) x (pos 0) ≡ get_or r j (pos 0)
get_past [] r x j e = let q : x ≡ j = omega arith in ap (λ y. get_or r y (pos 0)) q
get_past (v ∷ b) r zero j e = absurd (omega arith)
get_past (v ∷ b) r (suc x) j e = get_past b r x j (omega arith)

lies_whole : (w : List ℤ) (ds : Box) → InBox w ds → drop (length w) ds ≡ [] → LiesIn w ds
lies_whole [] [] h e = tt
lies_whole [] (d ∷ ds) h e = cc
lies_whole (v ∷ w) [] h e = absurd h
lies_whole (v ∷ w) (d ∷ ds) h e = (h.0, lies_whole w ds h.1 e)

module _ (g : Game) (valid : IsValid g) (k : Kind) (reply : Reply) (lies : (b : List ℤ) (x : ℕ) → x < length (declared_box g) → Among (reply b x) (get_or (declared_box g) x [])) where
  ordered : IsOrdered g
  ordered = valid_ordered g valid

  -- the tuple of scope i after the values a
  tuple_at : ℕ → List ℤ → List ℤ
  tuple_at i a = tuple_of (λ j. reply a (before g i + j)) (width g i)

  tuple_lies : (i : ℕ) (a : List ℤ) → LiesIn (tuple_at i a) (scope_domains g i)
  unfolding tuple_at
  tuple_lies i a =
      let up = before_next g i in
      let most = before-le g (suc i) in
      subst (LiesIn (tuple_of (λ j. reply a (before g i + j)) (width g i))) (sym (part_rest g i (declared_box g)))
      (lies_tuple (λ j. reply a (before g i + j)) (width g i) (drop (before g i) (declared_box g))
      (λ j l. subst (Among (reply a (before g i + j))) (sym (get_or-drop (before g i) (declared_box g) j [])) (lies a (before g i + j) (omega arith)))
      (omega (arith, length-drop (before g i) (declared_box g))))

  tuple_count : (i : ℕ) (a : List ℤ) → length a ≡ before g i → length (a ++ tuple_at i a) ≡ before g (suc i)
  unfolding tuple_at
  tuple_count i a e = omega (arith, length-append a (tuple_of (λ j. reply a (before g i + j)) (width g i)), tuple_length (λ j. reply a (before g i + j)) (width g i), before_next g i)

  move_in : (i : ℕ) (a t : List ℤ) → length a ≡ before g i → InBox a (declared_box g) → LiesIn t (scope_domains g i) → InBox (a ++ t) (declared_box g)
  move_in i a t e b h =
      in_append a t (declared_box g) b
      (from_take (width g i) t (drop (length a) (declared_box g))
      (subst (λ n. LiesIn t (take (width g i) (drop n (declared_box g)))) (sym e) (subst (LiesIn t) (part_rest g i (declared_box g)) h)))

  -- a variable of scope i has the value of the tuple
  tuple_answers : (i : ℕ) (a r w : List ℤ) (x : ℕ) → length a ≡ before g i → w ≡ (a ++ tuple_at i a) ++ r → is_of_scope g i x ≡ true → Answered g reply w x
  unfolding tuple_at
  tuple_answers i a r w x e q s =
      let p = in_scope g i x s in
      let up = before_next g i in
      let t = tuple_of (λ j. reply a (before g i + j)) (width g i) in
      let j : ℕ = x - before g i in
      let at : x ≡ length a + j = omega arith in
      let own : before g i + j ≡ x = omega arith in
      let low : j < width g i = omega arith in
      let split : w ≡ a ++ (t ++ r) = q ∙ append_assoc a t r in
      record {
        scope = i;
        front = a;
        rest = t ++ r;
        of_scope = s;
        count = e;
        goes_on = split;
        same = ap (λ u. get_or u x (pos 0)) split ∙ get_past a (t ++ r) x j at ∙ get_tuple (λ m. reply a (before g i + m)) (width g i) j r low ∙ ap (reply a) own;
      }

  -- all scopes from i on answer as the reply names, whoever owns them
  filled : (later : List Scope) (i : ℕ) (a : List ℤ) → i + length later ≡ length g.scopes → length a ≡ before g i → InBox a (declared_box g) → Ahead g k reply later i a
  filled [] i a n e b = record {
    values = a;
    rest = [];
    goes_on = sym (append-nil a);
    full = lies_whole a (declared_box g) b (subst (λ m. drop m (declared_box g) ≡ []) (sym e) (none_left g valid i (declared_box g) (omega arith) (omega arith) refl));
    answers = λ x h. (let c = chosen_is g valid (opposite k) i x h in (let f = c.from in let most = c.most in absurd (omega arith)));
  }
  filled (s ∷ later) i a n e b = go (filled later (suc i) (a ++ tuple_at i a) (omega arith) (tuple_count i a e) (move_in i a (tuple_at i a) e b (tuple_lies i a)))
    where
      go : Ahead g k reply later (suc i) (a ++ tuple_at i a) → Ahead g k reply (s ∷ later) i a
      go r = record {
        values = r.values;
        rest = tuple_at i a ++ r.rest;
        goes_on = r.goes_on ∙ append_assoc a (tuple_at i a) r.rest;
        full = r.full;
        answers = λ x h. elim (chosen_cases g valid (opposite k) i x h) [ inl q ↦ tuple_answers i a r.rest r.values x e r.goes_on q.1 | inr q ↦ r.answers x q ];
      }

  side_is : (s : Scope) (later : List Scope) (i : ℕ) → drop i g.scopes ≡ s ∷ later → side_at g i ≡ s.kind
  side_is s later i d = ap kind_of (drop_head i g.scopes s later d)

  here : (later : List Scope) (i o : ℕ) (a w rest : List ℤ) → w ≡ a ++ rest → length a ≡ before g i → Holds k g later i a → i ≡ o → Reached g k later i o w
  here later i o a w rest q e h same =
      subst (λ p. Reached g k later i p w) same (record { front = a; rest = rest; count = e; goes_on = q; holds = h; allowed = λ j l m. absurd (omega arith) })

  reaches_end : (i : ℕ) (a w rest : List ℤ) → w ≡ a ++ rest → length a ≡ before g i → Holds k g [] i a → Reaches g k [] i w
  reaches_end i a w rest q e h zero o s l u = here [] i o a w rest q e h (omega arith)
  reaches_end i a w rest q e h (suc n) o s l u = absurd (omega arith)

  split_at : (i j : ℕ) → i ≤ j → (i ≡ j) ⊎ (suc i ≤ j)
  split_at i j l = grind arith

  reaches_on : (s : Scope) (later : List Scope) (i : ℕ) (a t w rest : List ℤ) → w ≡ (a ++ t) ++ rest → length a ≡ before g i → length (a ++ t) ≡ before g (suc i) → Holds k g (s ∷ later) i a → allows g i (a ++ t) ≡ true → Reaches g k later (suc i) w →
      Reaches g k (s ∷ later) i w
  reaches_on s later i a t w rest q e c h ok next zero o p l u = here (s ∷ later) i o a w (t ++ rest) (q ∙ append_assoc a t rest) e h (omega arith)
  reaches_on s later i a t w rest q e c h ok next (suc n) o p l u = go (next n o (omega arith) (omega arith) (λ j low high side. u j (omega arith) high side))
    where
      own : allows g i w ≡ true
      own = ap (allows g i) q ∙ (allows_front g ordered i (a ++ t) rest (omega (arith, c)) ∙ ok)

      go : Reached g k (drop n later) (suc i) o w → Reached g k (drop n later) i o w
      go r = record {
        front = r.front;
        rest = r.rest;
        count = r.count;
        goes_on = r.goes_on;
        holds = r.holds;
        allowed = λ j low high. elim (split_at i j low) [ inl z ↦ subst (λ m. allows g m w ≡ true) z own | inr z ↦ r.allowed j z high ];
      }

  reaches_stuck : (s : Scope) (later : List Scope) (i : ℕ) (a t w rest : List ℤ) → drop i g.scopes ≡ s ∷ later → s.kind ≡ opposite k → w ≡ (a ++ t) ++ rest → length a ≡ before g i → length (a ++ t) ≡ before g (suc i) → Holds k g (s ∷ later) i a →
      allows g i (a ++ t) ≡ false → Reaches g k (s ∷ later) i w
  reaches_stuck s later i a t w rest d z q e c h barred zero o p l u = here (s ∷ later) i o a w (t ++ rest) (q ∙ append_assoc a t rest) e h (omega arith)
  reaches_stuck s later i a t w rest d z q e c h barred (suc n) o p l u =
      absurd (differ (sym barred ∙ (sym (allows_front g ordered i (a ++ t) rest (omega (arith, c))) ∙ (ap (allows g i) (sym q) ∙ u i (omega arith) (omega arith) (side_is s later i d ∙ z)))))

  -- on after a move, and where the other side's tuple isn't allowed
  after_move : (s : Scope) (later : List Scope) (i : ℕ) (a t : List ℤ) → length a ≡ before g i → Holds k g (s ∷ later) i a → (m : IsMove g i a t) → (r : Play g k reply later (suc i) (a ++ t)) →
      ((x : ℕ) → is_kind (opposite k) (side_at g i) ≡ true → is_of_scope g i x ≡ true → Answered g reply r.ahead.values x) → Play g k reply (s ∷ later) i a
  after_move s later i a t e h m r f = record {
    ahead = record {
      values = r.ahead.values;
      rest = t ++ r.ahead.rest;
      goes_on = r.ahead.goes_on ∙ append_assoc a t r.ahead.rest;
      full = r.ahead.full;
      answers = λ x y. elim (chosen_cases g valid (opposite k) i x y) [ inl q ↦ f x q.0 q.1 | inr q ↦ r.ahead.answers x q ];
    };
    reaches = reaches_on s later i a t r.ahead.values r.ahead.rest r.ahead.goes_on e (move_count g i a t e m) h m.is_allowed r.reaches;
  }

  stuck_there : (s : Scope) (later : List Scope) (i : ℕ) (a : List ℤ) → drop i g.scopes ≡ s ∷ later → s.kind ≡ opposite k → length a ≡ before g i → Holds k g (s ∷ later) i a → allows g i (a ++ tuple_at i a) ≡ false → Ahead g k reply later (suc i) (a ++ tuple_at i a) →
      Play g k reply (s ∷ later) i a
  stuck_there s later i a d z e h barred r = record {
    ahead = record {
      values = r.values;
      rest = tuple_at i a ++ r.rest;
      goes_on = r.goes_on ∙ append_assoc a (tuple_at i a) r.rest;
      full = r.full;
      answers = λ x y. elim (chosen_cases g valid (opposite k) i x y) [ inl q ↦ tuple_answers i a r.rest r.values x e r.goes_on q.1 | inr q ↦ r.answers x q ];
    };
    reaches = reaches_stuck s later i a (tuple_at i a) r.values r.rest d z r.goes_on e (tuple_count i a e) h barred;
  }

  not_here : (s : Scope) (i : ℕ) → side_at g i ≡ s.kind → s.kind ≡ k → is_kind (opposite k) (side_at g i) ≡ true → ⊥
  not_here s i h e q = not_opposite k (is_same (opposite k) (side_at g i) q ∙ (h ∙ e))

  -- while the side holds the position it is held on, up to where the other side has no allowed tuple to give
  pub played : (later : List Scope) (i : ℕ) (a : List ℤ) → drop i g.scopes ≡ later → i + length later ≡ length g.scopes → length a ≡ before g i → InBox a (declared_box g) → Holds k g later i a → Play g k reply later i a
  played [] i a d n e b h = let r = filled [] i a n e b in record { ahead = r; reaches = reaches_end i a r.values r.rest r.goes_on e h }
  played (s ∷ later) i a d n e b h =
      let on : (t : List ℤ) → IsMove g i a t → Holds k g later (suc i) (a ++ t) → Play g k reply later (suc i) (a ++ t) =
      λ t m y. played later (suc i) (a ++ t) (drop_tail i g.scopes s later d) (omega arith) (move_count g i a t e m) (move_in i a t e b m.is_tuple) y in
      elim (one_side k s.kind) [ inl z ↦ own z (own_move k g s later i a z h) on | inr z ↦ other z (allows g i (a ++ tuple_at i a)) refl on ]
    where
      own : s.kind ≡ k → Held k g later i a → ((t : List ℤ) → IsMove g i a t → Holds k g later (suc i) (a ++ t) → Play g k reply later (suc i) (a ++ t)) → Play g k reply (s ∷ later) i a
      own z c on = after_move s later i a c.tuple e h c.is_move (on c.tuple c.is_move c.holds) (λ x q f. absurd (not_here s i (side_is s later i d) z q))

      other : s.kind ≡ opposite k → (b : Bool) → allows g i (a ++ tuple_at i a) ≡ b → ((t : List ℤ) → IsMove g i a t → Holds k g later (suc i) (a ++ t) → Play g k reply later (suc i) (a ++ t)) → Play g k reply (s ∷ later) i a
      other z true ok on =
          let m : IsMove g i a (tuple_at i a) = record { is_tuple = tuple_lies i a; is_allowed = ok } in
          let r = on (tuple_at i a) m (other_move k g s later i a (tuple_at i a) z h m) in
          after_move s later i a (tuple_at i a) e h m r
          (λ x q f. tuple_answers i a r.ahead.rest r.ahead.values x e r.ahead.goes_on f)
      other z false barred on =
          stuck_there s later i a d z e h barred (filled later (suc i) (a ++ tuple_at i a) (omega arith) (tuple_count i a e) (move_in i a (tuple_at i a) e b (tuple_lies i a)))
