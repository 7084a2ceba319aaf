-- A search that takes a value, goes on, and comes back.
use Rattle.std.proofs.Common.{◌≡◌, ◌∙◌, ℕ, suc, ◌+◌, ◌-◌, ◌<◌, ◌≤◌, true, false, List, [], ◌∷◌, ◌++◌, None, Some, ℤ, pos, negsuc, ◌+ℤ◌, length, take, drop, refl, sym, ap, subst, arith, add-one, length-append}
use Rattle.std.specs.List.{list_all, list_any}
use Rattle.std.proofs.lemmas.Bool.{and_from}
use Rattle.qc_model.specs.Content.{Game}
use Rattle.qc_model.specs.Domains.{Box, Values, InBox, declared_box, values_left, box_within, has_empty, has_value}
use Rattle.qc_model.specs.Game.{before, restriction}
use Rattle.qc_model.specs.Refuted.{refuted_by}
use Rattle.qc_model.specs.Valid.{IsValid, is_number}
use Rattle.qc_model.proofs.Before.{before-le}
use Rattle.qc_model.proofs.Sound.{has_it}
use Rattle.model_arguments.proofs.Values.{value_passes}
use Rattle.model_table.proofs.Ordered.{valid_ordered}
use Rattle.fd_store.specs.Held.{Held, trail_len, past_box, values_from, least_of, Follows, IsUndone}
use Rattle.qc_play.proofs.Backs.{follows_then, undone_self, undone_then, undone_follows, undone_after, past_before}
use Rattle.tell_moves.specs.declared.search.Walk.{Walk}
use Rattle.tell_moves.specs.Found.{found, found_by, domains_to}
use Rattle.tell_moves.specs.Puts.{state_of, puts}
use Rattle.tell_moves.specs.Stands.{StandsIn, IsBack}
use Rattle.tell_moves.proofs.Boxed.{as_declared, next_ascends, next_small, stands_on, domains_step}
use Rattle.tell_moves.proofs.Finding.{found_none}
use Rattle.tell_moves.proofs.NoTuples.{refuted_none}
use Rattle.tell_moves.proofs.Putting.{puts-append, puts_more}
use Rattle.tell_moves.proofs.Stepping.{IsNext, next_is, none_next}
use Rattle.box_laws.proofs.Firsts.{from_least}

-- declared values are numbers
pub in_numbers : (w : List ℤ) (ds : Box) → InBox w ds → ((n : ℕ) → list_all is_number (values_left ds n) ≡ true) → list_all is_number w ≡ true
in_numbers [] ds h f = refl
in_numbers (v ∷ w) [] h f = absurd h
in_numbers (v ∷ w) (d ∷ ds) h f = and_from (is_number v) (list_all is_number w) (value_passes is_number d v (f 0) (has_it d v h.0)) (in_numbers w ds h.1 (λ n. f (suc n)))

-- where the walk is
pub back_self : (w : Walk) → IsBack w w
back_self w = record { values = refl; box = refl; past = undone_self w.remains }

pub back_then : (a b c : Walk) → IsBack a b → IsBack b c → IsBack a c
back_then a b c f h = record {
  values = h.values ∙ f.values;
  box = h.box ∙ f.box;
  past = undone_then a.remains b.remains c.remains f.past h.past;
}

-- after undoing what was done since
pub held_back : (a b c d : Held) (n : ℕ) → n ≡ trail_len a → Follows a b → IsUndone (trail_len b) b c → IsUndone n c d → IsUndone (trail_len a) a d
held_back a b c d n e f h u = undone_after a c d n e (follows_then a b c f (undone_follows b c h)) u

pub box_back : (a b c : Held) (n : ℕ) → n ≡ trail_len a → Follows a b → IsUndone (trail_len b) b c → past_box c n ≡ a.box
box_back a b c n e f h = past_before a c n e (follows_then a b c f (undone_follows b c h))

pub mark_within : (a b c : Held) (n : ℕ) → n ≡ trail_len a → Follows a b → IsUndone (trail_len b) b c → n ≤ trail_len c
mark_within a b c n e f h = let l = (follows_then a b c f (undone_follows b c h)).longer in omega (arith, e, l)

module _ (g : Game) (valid : IsValid g) where
  pub none_empty : has_empty (declared_box g) ≡ false
  none_empty = (valid_ordered g valid).no_empty

  pub numbers_in : (w : List ℤ) → InBox w (declared_box g) → list_all is_number w ≡ true
  numbers_in w h = in_numbers w (declared_box g) h (next_small g valid)

  -- a value that is refuted
  pub refuted_found : (i n : ℕ) (w : List ℤ) (box : Box) (stop : ℕ) → StandsIn g w box → stop ≡ before g (suc i) → length w ≤ stop →
      list_any (λ c. refuted_by c box) (restriction g i) ≡ true → found g i n w (domains_to g (length w) stop) ≡ []
  refuted_found i n w box stop s e l r = found_none g i n w (domains_to g (length w) stop) (refuted_none g valid i w box s stop e l r)

  -- the tuples by the value of the next variable
  pub found_next : (i n : ℕ) (w : List ℤ) (stop : ℕ) → length w < stop → stop ≤ length (declared_box g) →
      found g i n w (domains_to g (length w) stop) ≡ found_by g i n w (values_left (declared_box g) (length w)) (domains_to g (length w + 1) stop)
  found_next i n w stop l h =
      ap (found g i n w) (domains_step (length w) stop (declared_box g) l h)
      ∙ ap (λ k. found_by g i n w (values_left (declared_box g) (length w)) (drop k (take stop (declared_box g)))) (sym (add-one (length w)))

  -- a value that is refuted for the next variable
  pub value_none : (i n : ℕ) (w : List ℤ) (box : Box) (v : ℤ) (stop : ℕ) → StandsIn g w box → stop ≡ before g (suc i) → length w < stop →
      has_value (values_left (declared_box g) (length w)) v ≡ true →
      list_any (λ c. refuted_by c (box_within box (length w) v v)) (restriction g i) ≡ true → found g i n (w ++ v ∷ []) (domains_to g (length w + 1) stop) ≡ []
  value_none i n w box v stop s e l h r =
      let more : length (w ++ v ∷ []) ≡ length w + 1 = length-append w (v ∷ []) in
      let b = before-le g (suc i) in
      let on = stands_on g valid w box s v (box_within box (length w) v v) (omega (arith, l, e, b)) h refl in
      subst (λ k. found g i n (w ++ v ∷ []) (domains_to g k stop) ≡ []) more
      (refuted_found i n (w ++ v ∷ []) (box_within box (length w) v v) stop on e (omega (arith, more, l)) r)

-- the last value leaves
pub last_leaves : (w : List ℤ) (v : ℤ) → take (length (w ++ v ∷ []) - 1) (w ++ v ∷ []) ≡ w
last_leaves w v =
    let more : length (w ++ v ∷ []) ≡ length w + 1 = length-append w (v ∷ []) in
    let e : length (w ++ v ∷ []) - 1 ≡ length w = omega (arith, more) in
    ap (λ k. take k (w ++ v ∷ [])) e ∙ front w
  where
    front : (w : List ℤ) → take (length w) (w ++ v ∷ []) ≡ w
    front [] = refl
    front (u ∷ w) = ap (λ us. u ∷ us) (front w)

-- The walk is where it was, and the tuples in which the next variable has a value below `at` were listed.
pub record IsGone (g : Game) (i n stop : ℕ) (old new : Walk) (at : ℤ) : Type 0 where
  pub back : IsBack old new
  pub rest : puts (state_of new.listing) (found_by g i n old.values.items (values_from at (values_left (declared_box g) (length old.values.items))) (domains_to g (length old.values.items + 1) stop))
      ≡ puts (state_of old.listing) (found_by g i n old.values.items (values_left (declared_box g) (length old.values.items)) (domains_to g (length old.values.items + 1) stop))

module _ (g : Game) (valid : IsValid g) (i n stop : ℕ) (old : Walk) where
  abbrev left : Values
  left = values_left (declared_box g) (length old.values.items)

  abbrev later : Box
  later = domains_to g (length old.values.items + 1) stop

  pub gone_first : IsGone g i n stop old old (negsuc 999999999)
  gone_first = record {
    back = back_self old;
    rest = ap (λ us. puts (state_of old.listing) (found_by g i n old.values.items us later)) (from_least left (next_small g valid (length old.values.items)));
  }

  pub gone_on : (mid new : Walk) (at v : ℤ) → IsGone g i n stop old mid at → IsNext left at v → IsBack mid new →
      state_of new.listing ≡ puts (state_of mid.listing) (found g i n (mid.values.items ++ v ∷ []) (domains_to g (length mid.values.items + 1) stop)) → IsGone g i n stop old new (v +ℤ pos 1)
  gone_on mid new at v gone next back listed = record {
    back = back_then old mid new gone.back back;
    rest =
        let here : state_of new.listing ≡ puts (state_of mid.listing) (found g i n (old.values.items ++ v ∷ []) later) =
        subst (λ us. state_of new.listing ≡ puts (state_of mid.listing) (found g i n (us ++ v ∷ []) (domains_to g (length us + 1) stop))) gone.back.values listed in
        ap (λ z. puts z (found_by g i n old.values.items (values_from (v +ℤ pos 1) left) later)) here
        ∙ (sym (puts-append (state_of mid.listing) (found g i n (old.values.items ++ v ∷ []) later) (found_by g i n old.values.items (values_from (v +ℤ pos 1) left) later))
        ∙ (sym (ap (λ us. puts (state_of mid.listing) (found_by g i n old.values.items us later)) next.rest) ∙ gone.rest));
  }

  module _ (new : Walk) (at : ℤ) (gone : IsGone g i n stop old new at) (l : length old.values.items < stop) (h : stop ≤ length (declared_box g)) where
    all_listed : puts (state_of new.listing) (found_by g i n old.values.items (values_from at left) later)
        ≡ puts (state_of old.listing) (found g i n old.values.items (domains_to g (length old.values.items) stop))
    all_listed = gone.rest ∙ ap (puts (state_of old.listing)) (sym (found_next g valid i n old.values.items stop l h))

    -- there are no more values
    pub gone_all : None ≡ least_of (values_from at left) → state_of new.listing ≡ puts (state_of old.listing) (found g i n old.values.items (domains_to g (length old.values.items) stop))
    gone_all e = sym (ap (λ us. puts (state_of new.listing) (found_by g i n old.values.items us later)) (none_next left at e)) ∙ all_listed

    -- or there is no room for more tuples
    pub gone_more : new.listing.more ≡ true → state_of new.listing ≡ puts (state_of old.listing) (found g i n old.values.items (domains_to g (length old.values.items) stop))
    gone_more e = sym (puts_more (state_of new.listing) (found_by g i n old.values.items (values_from at left) later) e) ∙ all_listed

  -- what is left to the next variable, and where the walk stands
  module _ (new : Walk) (at : ℤ) (gone : IsGone g i n stop old new at) (stands : StandsIn g old.values.items old.remains.box) where
    pub stands_still : StandsIn g new.values.items new.remains.box
    stands_still = subst (λ us. StandsIn g us new.remains.box) (sym gone.back.values) (subst (StandsIn g old.values.items) (sym gone.back.box) stands)

    module _ (x : ℕ) (h : Held) (xe : x ≡ length old.values.items) (he : h ≡ new.remains) where
      left_here : values_left h.box x ≡ left
      left_here =
          ap (λ (s : Held). values_left s.box x) he
          ∙ (ap (λ b. values_left b x) gone.back.box ∙ (ap (values_left old.remains.box) xe ∙ as_declared g valid old.values.items old.remains.box stands))

      pub next_here : (v : ℤ) → Some v ≡ least_of (values_from at (values_left h.box x)) → IsNext (values_left (declared_box g) (length old.values.items)) at v
      next_here v e =
          next_is left at v (next_ascends g valid (length old.values.items)) (next_small g valid (length old.values.items)) (e ∙ ap (λ us. least_of (values_from at us)) left_here)

      pub none_here : None ≡ least_of (values_from at (values_left h.box x)) → None ≡ least_of (values_from at (values_left (declared_box g) (length old.values.items)))
      none_here e = e ∙ ap (λ us. least_of (values_from at us)) left_here
