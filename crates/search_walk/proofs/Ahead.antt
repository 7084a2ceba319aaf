-- A case of a branch that was gone into before those that stand before it: what holds while its lines wait, where one leaf settles
-- the scope and nothing else counts.
use Rattle.std.proofs.Common.{◌≡◌, ◌≤◌, ◌<◌, ◌+◌, ◌*◌, ◌-◌, ◌∙◌, inl, inr, ℕ, suc, Bool, true, false, ◌&&◌, ◌||◌, List, [], ◌∷◌, ◌++◌, length, drop, take, refl, sym, ap, subst, arith, Option, None, Some, append_assoc, ℤ}
use Rattle.std.specs.Prelude.{⊤, IsPermutation}
use Rattle.std.specs.List.{list_all, list_any}
use Rattle.std.proofs.lemmas.List.{append-nil}
use Rattle.std.proofs.lemmas.List.Sorted.{IsPermutation-refl, IsPermutation-append, IsPermutation-append_comm}
use Rattle.std.proofs.lemmas.Bool.{or_parts}
use Rattle.qc_model.specs.declared.problem.Condition.{Condition}
use Rattle.qc_model.specs.declared.problem.Scope.{Scope}
use Rattle.qc_model.specs.Content.{Game}
use Rattle.qc_model.specs.Demands.{demands}
use Rattle.qc_model.specs.Domains.{Values, values_left, is_ascending, has_value}
use Rattle.qc_model.specs.ForallVerdict.{known_numbers}
use Rattle.qc_model.specs.Valid.{is_number}
use Rattle.qc_model.specs.Verdict.{Seen, seen_skipped}
use Rattle.proof_tree.specs.Cover.{box_to, is_cover, uncovered}
use Rattle.proof_tree.specs.Lines.{upto_lines}
use Rattle.proof_tree.specs.Place.{list_after}
use Rattle.proof_tree.specs.declared.line.Line.{Line}
use Rattle.proof_tree.specs.declared.line.Line.TheVariants.{Skip}
use Rattle.joins.specs.Joins.{StandsAt, game_of}
use Rattle.joins.specs.Verdicts.{settled_at, wishes_at}
use Rattle.joins.specs.declared.joins.Joins.{Joins}
use Rattle.joins.proofs.AnyOrder.{stands_alike}
use Rattle.joins.proofs.Sizing.{sizes_both}
use Rattle.fd_store.specs.Held.{values_from}
use Rattle.search_box.specs.Rests.{IsLast, IsNext}
use Rattle.search_parts.specs.Bounded.{is_bounded}
use Rattle.search_parts.specs.Settled.{is_settled, is_outdone, is_ended}
use Rattle.search_parts.specs.Uppers.{upto_between, skipped_between, without_before}
use Rattle.search_parts.specs.Written.{PartWritten}
use Rattle.search_parts.proofs.Joining.{settled-append}
use Rattle.search_parts.proofs.Waiting.{Waiting, waits, goes_on, comes_back, settles_over, settles_first, waiting_sizes}
use Rattle.search_walk.specs.Here.{Here, in_box}
use Rattle.search_walk.specs.Later.{Passing}
use Rattle.search_walk.specs.Put.{IsReady, IsTold, CasePut, CasesPut}
use Rattle.search_walk.specs.Rivals.{outdoes}
use Rattle.search_walk.proofs.Covering.{rest_of}
use Rattle.search_walk.proofs.Here.{Answers, Settled, all_told, settled_here, settled_last, settled_then, settled_told, unsettled_stands, rest_none, rest_skipped}

-- without a rival no bound is beaten
none_any : (b : Bool) (ns : List ℤ) → list_any (λ n. b && false) ns ≡ false
none_any b [] = refl
none_any true (n ∷ ns) = none_any true ns
none_any false (n ∷ ns) = none_any false ns

pub none_outdone : (g : Game) (i : ℕ) (xs : List Seen) → is_outdone (outdoes g i None) xs ≡ false
none_outdone g i xs = none_any (is_bounded (drop i g.scopes) g (demands g i)) (known_numbers xs)

-- where no value was passed nothing stands yet
abbrev pub IsFresh : Option ℤ → List Seen → List Line → List Line → Type 0
IsFresh None seen old now = (seen ≡ []) × (now ≡ old)
IsFresh (Some p) seen old now = ⊤

-- the case of v waits with these lines (kept); those of the values here are owed, that of v among them, and passed is the value
-- before them. The join was told of what was seen in the case of v, and after it of what was seen in those that stand
pub record Owed (node : Here) (x : ℕ) (vs : Values) (before : List Seen) (had : ℕ) (old : List Line) (v : ℤ) (kept : List Line) (passed : Option ℤ) (here : Values) (left : ℕ) (now : List Line) (joins : Joins) : Type 0 where
  pub aside : List Seen
  pub seen : List Seen
  pub waits : Waiting node.cuts node.above node.game (drop node.number node.game.scopes) node.number (demands node.game node.number) node.box node.horizon x vs before had old v aside kept here seen left now
  pub vain : is_ended node.above (drop node.number node.game.scopes) (list_after node.game (drop node.number node.game.scopes) (demands node.game node.number)) aside ≡ false
  pub stands : StandsAt joins node.number (before ++ (aside ++ seen))
  pub unsettled : settled_at node.game node.number (before ++ (aside ++ seen)) ≡ false
  pub fresh : IsFresh passed seen old now

module _ (node : Here) (cut : node.cuts ≡ true) (nothing : wishes_at node.game node.number ≡ []) (alone : (xs : List Seen) → is_outdone node.above xs ≡ false) (x : ℕ) (vs : Values) (xs : List Seen) (had : ℕ) (old : List Line) (first : Joins) (ready : IsReady node.game node.number first (suc (2 * had)) xs) (many : 1 < length (values_left node.box x)) where
  abbrev Later : List Scope
  Later = drop node.number node.game.scopes

  abbrev Wished : List Condition
  Wished = demands node.game node.number

  abbrev Ended : List Seen → Bool
  Ended seen = is_ended node.above Later (list_after node.game Later Wished) seen

  abbrev Owes : ℤ → List Line → Option ℤ → Values → ℕ → List Line → Joins → Type 0
  Owes v kept passed here left now joins = Owed node x vs xs had old v kept passed here left now joins

  abbrev Goes : Values → ℕ → List Line → Joins → Type 0
  Goes here left now joins = Passing node x vs xs had old here left now joins

  -- what was told of the case of y, after what the join was told of before it
  abbrev Told : ℤ → List Seen → ℕ → ℕ → List Line → List Line → Joins → Type 0
  Told y seen left last now new joins = CasePut (in_box node (box_to node.box x (y ∷ []))) seen left last now new joins

  parted : (us ws : List Seen) → Settled node.game node.number (us ++ ws) ≡ false → (Settled node.game node.number us ≡ false) × (Settled node.game node.number ws ≡ false)
  parted us ws e = or_parts (Settled node.game node.number us) (Settled node.game node.number ws) (sym (settled-append Later (list_after node.game Later Wished) us ws) ∙ e)

  in_vain : (us : List Seen) → settled_at node.game node.number (xs ++ us) ≡ false → Settled node.game node.number us ≡ false
  in_vain us e = (parted xs us (sym (settled_here node.game node.number (xs ++ us)) ∙ e)).1

  ended_none : (us : List Seen) → Settled node.game node.number us ≡ false → Ended us ≡ false
  ended_none us e = ap (λ b. b || is_outdone node.above us) e ∙ alone us

  -- it was gone into, and didn't settle the scope
  pub begun : (v : ℤ) (left : ℕ) (mid new kept : List Line) (joins : Joins) (b : Bool) → ¬ (had ≡ 0) → Answers node.game node.number joins b → b ≡ false → Told v xs (had - 1) left mid new joins → kept ≡ drop (length mid) new → Owes v kept None vs left old joins
  begun v left mid new kept joins b some asked e w q =
      let aside = w.part.seen in
      let r = unsettled_stands node.game node.number joins (xs ++ aside) b asked e w.part.told in
      let same : xs ++ aside ≡ xs ++ (aside ++ []) = ap (λ us. xs ++ us) (sym (append-nil aside)) in
      record {
        aside = aside;
        seen = [];
        waits = waits node.cuts node.above node.game Later node.number Wished node.box node.horizon x vs xs had old v w.ms aside left mid new kept some w.part.written q;
        vain = ended_none aside (in_vain aside r.1);
        stands = subst (λ us. StandsAt joins node.number us) same r.0;
        unsettled = subst (λ us. settled_at node.game node.number us ≡ false) same r.1;
        fresh = (refl, refl);
      }

  -- another case may be gone into
  pub may_go : (v : ℤ) (kept : List Line) (passed : Option ℤ) (here : Values) (left : ℕ) (now : List Line) (joins : Joins) → ¬ (left ≡ 0) → (p : Owes v kept passed here left now joins) → IsReady node.game node.number joins (2 + 2 * (left - 1)) (xs ++ (p.aside ++ p.seen))
  may_go v kept passed here left now joins some p =
      let m = waiting_sizes node.cuts node.above node.game Later node.number Wished node.box node.horizon x vs xs had old v p.aside kept here p.seen left now some p.waits in
      record {
        stands = p.stands;
        unsettled = p.unsettled;
        size = ready.size + 2 * m.used;
        sizes = sizes_both ready.size (2 * m.used) xs (p.aside ++ p.seen) ready.sizes m.sizes;
        room = omega (arith, ready.room, m.fell, some);
      }

  seen_none : (v : ℤ) (kept : List Line) (passed : Option ℤ) (here : Values) (left : ℕ) (now : List Line) (joins : Joins) (p : Owes v kept passed here left now joins) → Settled node.game node.number p.seen ≡ false
  seen_none v kept passed here left now joins p = (parted p.aside p.seen (in_vain (p.aside ++ p.seen) p.unsettled)).1

  -- it was, and didn't settle the scope
  pub went_by : (v : ℤ) (kept : List Line) (passed : Option ℤ) (here rest : Values) (y : ℤ) (left next_left : ℕ) (now next_now : List Line) (joins next_joins : Joins) (b : Bool) → here ≡ y ∷ rest → ¬ (left ≡ 0) → (p : Owes v kept passed here left now joins) → Told y (xs ++ (p.aside ++ p.seen)) (left - 1) next_left now next_now next_joins →
      Answers node.game node.number next_joins b → b ≡ false → Owes v kept (Some y) rest next_left next_now next_joins
  went_by v kept passed here rest y left next_left now next_now joins next_joins b at some p w asked e =
      let more = w.part.seen in
      let same : (xs ++ (p.aside ++ p.seen)) ++ more ≡ xs ++ (p.aside ++ (p.seen ++ more)) = append_assoc xs (p.aside ++ p.seen) more ∙ ap (λ us. xs ++ us) (append_assoc p.aside p.seen more) in
      let r = unsettled_stands node.game node.number next_joins (xs ++ (p.aside ++ (p.seen ++ more))) b asked e (subst (IsTold node.game node.number next_joins) same w.part.told) in
      record {
        aside = p.aside;
        seen = p.seen ++ more;
        waits = goes_on node.cuts node.above node.game Later node.number Wished node.box node.horizon x vs xs had old cut nothing v p.aside kept here rest y p.seen w.ms more left next_left now next_now many at p.vain (seen_none v kept passed here left now joins p) some p.waits w.part.written;
        vain = p.vain;
        stands = r.0;
        unsettled = r.1;
        fresh = tt;
      }

  -- it comes into its place
  pub comes_home : (v : ℤ) (kept : List Line) (passed : Option ℤ) (here rest : Values) (left : ℕ) (now new : List Line) (joins : Joins) → game_of joins ≡ node.game → here ≡ v ∷ rest → ¬ (left ≡ 0) → Owes v kept passed here left now joins → new ≡ now ++ kept → Goes rest left new joins
  comes_home v kept passed here rest left now new joins same at some p q =
      let turned = IsPermutation-append xs xs (p.aside ++ p.seen) (p.seen ++ p.aside) (IsPermutation-refl xs) (IsPermutation-append_comm p.aside p.seen) in
      let stands = stands_alike joins node.number (xs ++ (p.aside ++ p.seen)) (xs ++ (p.seen ++ p.aside)) (ap (λ (g : Game). wishes_at g node.number) same ∙ nothing) turned p.stands in
      record {
        seen = p.seen ++ p.aside;
        progress = comes_back node.cuts node.above node.game Later node.number Wished node.box node.horizon x vs xs had old cut nothing v p.aside kept here rest p.seen left now new many at (seen_none v kept passed here left now joins p) some p.waits q;
        told = all_told node.game node.number joins (xs ++ (p.seen ++ p.aside)) (xs ++ (p.seen ++ p.aside)) stands refl;
      }

  -- another case settles the scope, and stands behind one that skips those before it
  pub settled_past : list_all is_number vs ≡ true → (low : ℤ) (passed : Option ℤ) (v : ℤ) (kept : List Line) (here rest : Values) (y : ℤ) (left next_left : ℕ) (now next_now new : List Line) (joins next_joins : Joins) (c : Bool) → here ≡ y ∷ rest → (passed ≡ None → here ≡ vs) →
      ((q : ℤ) → passed ≡ Some q → (is_cover (upto_between low q) vs ≡ true) × (uncovered (upto_between low q) vs ≡ here)) → ¬ (left ≡ 0) → Answers node.game node.number next_joins c → c ≡ true → (p : Owes v kept passed here left now joins) → Told y (xs ++ (p.aside ++ p.seen)) (left - 1) next_left now next_now next_joins →
      new ≡ without_before passed low (length old) (length now) next_now → Goes rest next_left new next_joins
  settled_past numbers low None v kept here rest y left next_left now next_now new joins next_joins c at whole covers some asked f p w q =
      let all = settled_told node.game node.number next_joins ((xs ++ (p.aside ++ p.seen)) ++ w.part.seen) c asked f w.part.told in
      let last : Settled node.game node.number w.part.seen ≡ true = settled_last node.game node.number (xs ++ (p.aside ++ p.seen)) w.part.seen p.unsettled all.1 in
      let all_here = whole refl in
      let first_waits = subst (λ us. Waiting node.cuts node.above node.game Later node.number Wished node.box node.horizon x vs xs had old v p.aside kept vs us left old) p.fresh.0
      (subst (λ ls. Waiting node.cuts node.above node.game Later node.number Wished node.box node.horizon x vs xs had old v p.aside kept vs p.seen left ls) p.fresh.1
      (subst (λ us. Waiting node.cuts node.above node.game Later node.number Wished node.box node.horizon x vs xs had old v p.aside kept us p.seen left now) all_here p.waits)) in
      let part = subst (λ us. PartWritten node.cuts node.above node.game Later node.number Wished (box_to node.box x (y ∷ [])) node.horizon (xs ++ (p.aside ++ us)) w.ms w.part.seen (left - 1) next_left old next_now) p.fresh.0
      (subst (λ ls. PartWritten node.cuts node.above node.game Later node.number Wished (box_to node.box x (y ∷ [])) node.horizon (xs ++ (p.aside ++ p.seen)) w.ms w.part.seen (left - 1) next_left ls next_now) p.fresh.1 w.part.written) in
      let none_yet : Settled node.game node.number [] ≡ false = refl in
      let progress = settles_first node.cuts node.above node.game Later node.number Wished node.box node.horizon x vs xs had old cut nothing v p.aside kept rest y w.ms w.part.seen left next_left next_now many (sym all_here ∙ at) p.vain none_yet some first_waits part in
      subst (λ ls. Goes rest next_left ls next_joins) (sym q) (record {
        seen = w.part.seen;
        progress = progress;
        told = record { stood = w.part.told.stood; stands = w.part.told.stands; same = inr (all.0, settled_then node.game node.number xs w.part.seen last) };
      })
  settled_past numbers low (Some u) v kept here rest y left next_left now next_now new joins next_joins c at whole covers some asked f p w q =
      let all = settled_told node.game node.number next_joins ((xs ++ (p.aside ++ p.seen)) ++ w.part.seen) c asked f w.part.told in
      let last : Settled node.game node.number w.part.seen ≡ true = settled_last node.game node.number (xs ++ (p.aside ++ p.seen)) w.part.seen p.unsettled all.1 in
      let k = covers u refl in
      record {
        seen = seen_skipped ∷ w.part.seen;
        progress = settles_over node.cuts node.above node.game Later node.number Wished node.box node.horizon x vs xs had old cut numbers (upto_between low u) v p.aside kept here rest y p.seen w.ms w.part.seen left next_left now next_now new many k.0 (k.1 ∙ at) last some p.waits w.part.written q;
        told = record { stood = w.part.told.stood; stands = w.part.told.stands; same = inr (all.0, settled_then node.game node.number xs (seen_skipped ∷ w.part.seen) last) };
      }

  -- then those after it are skipped
  pub rest_left_out : list_all is_number vs ≡ true → is_ascending vs ≡ true → (y high : ℤ) (following : Option ℤ) (left : ℕ) (new end : List Line) (joins : Joins) (c : Bool) → IsLast vs high → IsNext vs y following → Answers node.game node.number joins c → c ≡ true →
      ((rest : Values) → values_from y vs ≡ y ∷ rest → Goes rest left new joins) → end ≡ new ++ skipped_between following (Some high) → CasesPut node x vs xs had left old end joins
  rest_left_out numbers rises y high None left new end joins c last after asked f goes e =
      subst (λ ls. CasesPut node x vs xs had left old ls joins) (sym (e ∙ append-nil new)) (rest_none node x vs xs had old first ready left new joins (goes [] after))
  rest_left_out numbers rises y high (Some n) left new end joins c last after asked f goes e =
      let r = rest_of vs n high rises numbers after.left last in
      rest_skipped node x vs xs had old first ready (values_from n vs) left new end joins c r.some r.numbers asked f (goes (values_from n vs) after.rest) (e ∙ ap (λ o. new ++ (upto_lines o ++ Skip ∷ [])) (sym r.upto))
