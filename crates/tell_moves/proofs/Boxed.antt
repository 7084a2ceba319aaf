-- A box that leaves the first variables one value each, and the others all that are declared.
use Rattle.std.proofs.Common.{◌≡◌, ◌∙◌, ℕ, zero, suc, ◌+◌, ◌<◌, ◌≤◌, true, false, ◌&&◌, List, [], ◌∷◌, ◌++◌, ℤ, length, take, drop, get_or, set, refl, sym, ap, subst, arith}
use Rattle.std.specs.List.{list_all}
use Rattle.std.proofs.lemmas.List.{length-map, length-take-le, take_more}
use Rattle.std.proofs.lemmas.Bool.{or_parts, and_from}
use Rattle.qc_model.specs.Content.{Game}
use Rattle.qc_model.specs.Domains.{Box, InBox, declared_box, domain_values, values_left, values_within, box_within, has_empty, has_value, is_ascending, is_none_left, is_sub_box}
use Rattle.qc_model.specs.Lists.{Among}
use Rattle.qc_model.specs.Valid.{IsValid, is_number}
use Rattle.qc_model.proofs.Readable.{second}
use Rattle.qc_model.proofs.Sound.{has_it}
use Rattle.model_arguments.specs.Asked.{is_box_of}
use Rattle.model_arguments.proofs.Boxes.{sub_ascending, sub_length, left_small}
use Rattle.model_arguments.proofs.Kept.{among_of}
use Rattle.box_laws.proofs.Declared.{declared_is}
use Rattle.tell_moves.specs.Stands.{singles, StandsIn}
use Rattle.model_arguments.proofs.Values.{only_within}

-- its values are declared
sub_front : (w : List ℤ) (ds : Box) → InBox w ds → is_sub_box ds ds ≡ true → is_sub_box (singles w ++ drop (length w) ds) ds ≡ true
sub_front [] ds h s = s
sub_front (v ∷ w) [] h s = absurd h
sub_front (v ∷ w) (d ∷ ds) h s =
    and_from (true && (has_value d v && true)) (is_sub_box (singles w ++ drop (length w) ds) ds)
    (and_from true (has_value d v && true) refl (and_from (has_value d v) true (has_it d v h.0) refl))
    (sub_front w ds h.1 (second (is_ascending d && list_all (has_value d) d) (is_sub_box ds ds) s))

full_front : (w : List ℤ) (ds : Box) → InBox w ds → has_empty ds ≡ false → has_empty (singles w ++ drop (length w) ds) ≡ false
full_front [] ds h s = s
full_front (v ∷ w) [] h s = absurd h
full_front (v ∷ w) (d ∷ ds) h s = full_front w ds h.1 (or_parts (is_none_left d) (has_empty ds) s).1

left_front : (w : List ℤ) (ds : Box) → InBox w ds → values_left (singles w ++ drop (length w) ds) (length w) ≡ values_left ds (length w)
left_front [] ds h = refl
left_front (v ∷ w) [] h = absurd h
left_front (v ∷ w) (d ∷ ds) h = left_front w ds h.1

set_front : (w : List ℤ) (ds : Box) (v : ℤ) → InBox w ds → length w < length ds → set (singles w ++ drop (length w) ds) (length w) (v ∷ []) ≡ singles (w ++ v ∷ []) ++ drop (length (w ++ v ∷ [])) ds
set_front [] [] v h l = absurd (omega arith)
set_front [] (d ∷ ds) v h l = refl
set_front (u ∷ w) [] v h l = absurd h
set_front (u ∷ w) (d ∷ ds) v h l = ap (λ es. (u ∷ []) ∷ es) (set_front w ds v h.1 (omega arith))

in_more : (w : List ℤ) (ds : Box) (v : ℤ) → InBox w ds → Among v (values_left ds (length w)) → InBox (w ++ v ∷ []) ds
in_more [] [] v h m = m
in_more [] (d ∷ ds) v h m = (m, tt)
in_more (u ∷ w) [] v h m = absurd h
in_more (u ∷ w) (d ∷ ds) v h m = (h.0, in_more w ds v h.1 m)

-- values of the first variables are declared one by one
pub in_fits : (w : List ℤ) (ds : Box) → InBox w ds → length w ≤ length ds
in_fits [] ds h = omega arith
in_fits (v ∷ w) [] h = absurd h
in_fits (v ∷ w) (d ∷ ds) h = let r = in_fits w ds h.1 in omega (arith, r)

pub in_at : (w : List ℤ) (ds : Box) (k : ℕ) (u : ℤ) → InBox w ds → k < length w → has_value (values_left ds k) (get_or w k u) ≡ true
in_at [] ds k u h l = absurd (omega arith)
in_at (v ∷ w) [] k u h l = absurd h
in_at (v ∷ w) (d ∷ ds) zero u h l = has_it d v h.0
in_at (v ∷ w) (d ∷ ds) (suc k) u h l = in_at w ds k u h.1 (omega arith)

module _ (g : Game) (valid : IsValid g) where
  pub declared_asked : is_box_of g (declared_box g) ≡ true
  declared_asked = declared_is g (declared_box g) valid.domains refl

  module _ (w : List ℤ) (box : Box) (s : StandsIn g w box) where
    pub is_asked : is_box_of g box ≡ true
    is_asked = ap (λ b. is_sub_box b (declared_box g)) s.box_is ∙ sub_front w (declared_box g) s.declared declared_asked

    pub is_full : has_empty (declared_box g) ≡ false → has_empty box ≡ false
    is_full f = ap has_empty s.box_is ∙ full_front w (declared_box g) s.declared f

    pub as_declared : values_left box (length w) ≡ values_left (declared_box g) (length w)
    as_declared = ap (λ b. values_left b (length w)) s.box_is ∙ left_front w (declared_box g) s.declared

    pub as_many : length box ≡ length (declared_box g)
    as_many = sub_length box (declared_box g) is_asked

    -- the next variable has a place, and the value v alone is left to it
    pub has_place : (n : ℕ) → n < length g.variables → n < length box
    has_place n l =
        let m = as_many in
        let d : length (declared_box g) ≡ length g.variables = length-map g.variables (λ x. domain_values x.domain) in
        omega (arith, m, d, l)

    pub next_one : (v : ℤ) → has_value (values_left (declared_box g) (length w)) v ≡ true → values_within v v (values_left box (length w)) ≡ v ∷ []
    next_one v h =
        let d = values_left (declared_box g) (length w) in
        ap (values_within v v) as_declared ∙ only_within v d (sub_ascending (declared_box g) (declared_box g) (length w) declared_asked) h

    -- the next variable has the value v
    pub stands_on : (v : ℤ) (new : Box) → length w < length (declared_box g) → has_value (values_left (declared_box g) (length w)) v ≡ true →
        new ≡ box_within box (length w) v v → StandsIn g (w ++ v ∷ []) new
    stands_on v new l h e =
        record {
          declared = in_more w (declared_box g) v s.declared (among_of v (values_left (declared_box g) (length w)) h);
          box_is = e ∙ (ap (λ us. set box (length w) us) (next_one v h) ∙ (ap (λ b. set b (length w) (v ∷ [])) s.box_is ∙ set_front w (declared_box g) v s.declared l));
        }

  -- one value more of a list
  pub stands_more : (vs : List ℤ) (k : ℕ) (u : ℤ) (box new : Box) → StandsIn g (take k vs) box → InBox vs (declared_box g) → k < length vs →
      new ≡ box_within box k (get_or vs k u) (get_or vs k u) → StandsIn g (take (k + 1) vs) new
  stands_more vs k u box new s h l e =
      let v = get_or vs k u in
      let n : length (take k vs) ≡ k = length-take-le k vs (omega (arith, l)) in
      let f = in_fits vs (declared_box g) h in
      subst (λ w. StandsIn g w new) (sym (take_more vs k u l))
      (stands_on (take k vs) box s v new (omega (arith, n, f, l))
      (subst (λ j. has_value (values_left (declared_box g) j) v ≡ true) (sym n) (in_at vs (declared_box g) k u h l))
      (e ∙ ap (λ j. box_within box j v v) (sym n)))

  pub stands_at_first : (box : Box) → box ≡ declared_box g → StandsIn g [] box
  stands_at_first box e = record { declared = tt; box_is = e }

  pub next_ascends : (n : ℕ) → is_ascending (values_left (declared_box g) n) ≡ true
  next_ascends n = sub_ascending (declared_box g) (declared_box g) n declared_asked

  pub next_small : (n : ℕ) → list_all is_number (values_left (declared_box g) n) ≡ true
  next_small n = left_small g (declared_box g) n valid.domains declared_asked

-- the domains of a scope from a variable on
pub domains_step : (n stop : ℕ) (ds : Box) → n < stop → stop ≤ length ds → drop n (take stop ds) ≡ values_left ds n ∷ drop (suc n) (take stop ds)
domains_step n zero ds l h = absurd (omega arith)
domains_step n (suc stop) [] l h = absurd (omega arith)
domains_step zero (suc stop) (d ∷ ds) l h = refl
domains_step (suc n) (suc stop) (d ∷ ds) l h = domains_step n stop ds (omega arith) (omega arith)

pub domains_end : (n : ℕ) (ds : Box) → drop n (take n ds) ≡ []
domains_end zero ds = refl
domains_end (suc n) [] = refl
domains_end (suc n) (d ∷ ds) = domains_end n ds
