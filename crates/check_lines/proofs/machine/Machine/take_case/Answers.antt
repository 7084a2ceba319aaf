use Rattle.std.proofs.Common.{◌≡◌, ◌&&◌, false, ◌<◌, ◌∙◌, ℕ, List, sym, ap, subst, rules, arith, length, set, ◌∷◌}
use Rattle.std.proofs.Math.Seq.{lt-length-set}
use Rattle.std.specs.Prelude.{ℤ, nat_lt, pos, ◌+ℤ◌, IsTrue}
use Rattle.std.proofs.lemmas.Int.{to_z-of_z}
use mir.Val.{SFits, to_z, of_z}
use mir.Syntax.{w64}
use Rattle.qc_model.specs.Domains.{Box, Values, values_left, box_within, declared_box}
use Rattle.qc_model.specs.Valid.{is_number}
use Rattle.fd_store.specs.Held.{Held, Follows, past_box, values_from}
use Rattle.proof_tree.specs.Cover.{covered, is_cover}
use Rattle.check_box.specs.Cases.{IsCase}
use Rattle.check_lines.specs.declared.open.Open.{Open}
use Rattle.check_lines.specs.declared.open.Open.TheVariants.{Branch}
use Rattle.check_lines.specs.Places.{rest}
use Rattle.check_lines.specs.Machine.{game_of}
use Rattle.box_laws.proofs.Numbers.{passed_number, passed_after, fits_after}
use Rattle.check_lines.proofs.Bases.{base_boxed}
use Rattle.check_lines.proofs.Forks.{is_back, take_yes, take_no, take_within, take_into, variable_inside, inside_there}
use Rattle.check_lines.proofs.machine.Machine.take_case.Goals as goal
use Rattle.check_lines.proofs.machine.Machine.take_case.Goals.{After-keep, After-size, After-set_top}

pub case_ends-requires : goal.case_ends-requires
case_ends-requires c =
    let m = c.args.self.now in
    record { var = inside_there c.store.result.now m.remains c.args.x.0 c.store.ensures (variable_inside m c.args.x c.args.mark c.args.from (rest m.nesting) c.requires.top c.requires.fork) }

pub overflow_add-ends : goal.overflow_add-ends
overflow_add-ends c = fits_after c.in-Some.ends.last c.in-Some.ensures.some.last_number

-- a nesting with a part on top isn't empty
some_open : (opens rest : List Open) (top : Open) → opens ≡ top ∷ rest → 0 < length opens
some_open opens rest top e = subst (λ os. 0 < length os) (sym e) (omega arith)

pub set_top-requires : goal.set_top-requires
set_top-requires c = some_open c.args.self.now.nesting _ _ c.requires.top

pub size-before-requires : goal.size-before-requires
size-before-requires c =
    let m = c.args.self.now in
    inside_there c.store-2.result.now m.remains c.args.x.0 c.store-2.ensures (variable_inside m c.args.x c.args.mark c.args.from (rest m.nesting) c.requires.top c.requires.fork)

-- a number within the limit is still one where it is passed on
number_passed : (v : ℤ) → IsTrue (is_number v) → IsTrue (is_number (to_z w64 (of_z w64 v)))
number_passed v n = subst (λ z. IsTrue (is_number z)) (sym (passed_number v n)) n

pub keep-requires-clause-first : goal.keep-requires-clause-first
keep-requires-clause-first c = number_passed c.in-Some.ends.first c.in-Some.ensures.some.first_number

pub keep-requires-clause-last : goal.keep-requires-clause-last
keep-requires-clause-last c = number_passed c.in-Some.ends.last c.in-Some.ensures.some.last_number

-- a box has as many variables after the values of one are changed
still_there : (box new : Box) (x : ℕ) (vs : Values) → new ≡ set box x vs → x < length box → x < length new
still_there box new x vs e h = subst (λ (b : Box). x < length b) (sym e) (lt-length-set box x vs h)

pub size-requires : goal.size-requires
size-requires c =
    let m = c.args.self.now in
    let x = c.args.x in
    inside_there c.store-3.result.now c.keep.new.self x.0 c.store-3.ensures (still_there m.remains.box c.keep.new.self.box x.0 _ c.keep.ensures.content (variable_inside m x c.args.mark c.args.from (rest m.nesting) c.requires.top c.requires.fork))

found : (c : After-set_top) → IsCase (values_left c.args.self.now.remains.box c.args.x.0) c.args.from c.args.upto c.in-Some.ends.first c.in-Some.ends.last
found c =
    let from_fits : SFits w64 c.args.from = search rules in
    let first_fits : SFits w64 c.in-Some.ends.first = search rules in
    let last_fits : SFits w64 c.in-Some.ends.last = search rules in
    let x = c.args.x in
    let seen : IsCase (values_left c.store.result.now.box x.0) c.args.from c.args.upto c.in-Some.ends.first c.in-Some.ends.last = simp to_z-of_z at c.in-Some.ensures.some in
    subst (λ (h : Held). IsCase (values_left h.box x.0) c.args.from c.args.upto c.in-Some.ends.first c.in-Some.ends.last) c.store.ensures seen

kept : (c : After-keep) → c.keep.new.self.box ≡ box_within c.args.self.now.remains.box c.args.x.0 c.in-Some.ends.first c.in-Some.ends.last
kept c =
    let first_fits : SFits w64 c.in-Some.ends.first = search rules in
    let last_fits : SFits w64 c.in-Some.ends.last = search rules in
    simp to_z-of_z at c.keep.ensures.content

top : (c : After-set_top) → c.set_top.new.self ≡ Branch c.args.x c.args.mark (c.in-Some.ends.last +ℤ pos 1) ∷ rest c.args.self.now.nesting
top c = c.set_top.ensures ∙ ap (λ v. Branch c.args.x c.args.mark v ∷ rest c.args.self.now.nesting) (passed_after c.in-Some.ends.last (found c).last_number)

before : (c : After-size) → c.size-before.result ≡ length (values_left c.args.self.now.remains.box c.args.x.0)
before c = c.size-before.ensures ∙ ap (λ (h : Held). length (values_left h.box c.args.x.0)) c.store-2.ensures

after : (c : After-size) → c.size.result ≡ length (values_left c.keep.new.self.box c.args.x.0)
after c = c.size.ensures ∙ ap (λ (h : Held). length (values_left h.box c.args.x.0)) c.store-3.ensures

pub returns-then-size-before-clause-taken : goal.returns-then-size-before-clause-taken
returns-then-size-before-clause-taken c =
    let m = c.args.self.now in
    let at = goal.at.returns-then-size-before-clause-taken c in
    sym (take_no m c.args.x c.args.mark c.args.from (rest m.nesting) c.requires.top c.requires.fork c.args.upto c.in-Some.ends.first c.in-Some.ends.last (found at.After-set_top) c.keep.new.self.box (kept at.After-keep)
    (sym (after at.After-size) ∙ (c.if-size-before.true ∙ before at.After-size)))

pub returns-clause-taken : goal.returns-clause-taken
returns-clause-taken c =
    let m = c.args.self.now in
    let at = goal.at.returns-clause-taken c in
    sym (take_yes m c.args.x c.args.mark c.args.from (rest m.nesting) c.requires.top c.requires.fork c.args.upto c.in-Some.ends.first c.in-Some.ends.last (found at.After-set_top) c.keep.new.self.box (kept at.After-keep)
    (λ e. c.if-size-before.false (after at.After-size ∙ (e ∙ sym (before at.After-size)))))

pub returns-clause-into : goal.returns-clause-into
returns-clause-into c = λ yes.
    let m = c.args.self.now in
    let at = goal.at.returns-clause-into c in
    take_into m c.args.x c.args.mark c.args.from (rest m.nesting) c.requires.top c.requires.fork c.args.upto c.in-Some.ends.first c.in-Some.ends.last (found at.After-set_top) c.keep.new.self c.set_top.new.self c.saturating_add-self.result
    c.keep.ensures.past (c.keep.ensures.fewer (declared_box (game_of m)) c.requires.fork.sound.declared) (kept at.After-keep) (top at.After-set_top) c.saturating_add-self.ensures

pub returns-clause-within : goal.returns-clause-within
returns-clause-within c = λ yes.
    let m = c.args.self.now in
    let at = goal.at.returns-clause-within c in
    take_within m c.args.x c.args.mark c.args.from (rest m.nesting) c.requires.top c.requires.fork c.args.upto c.in-Some.ends.first c.in-Some.ends.last (found at.After-set_top) c.keep.new.self c.set_top.new.self c.saturating_add-self.result
    c.keep.ensures.past (c.keep.ensures.fewer (declared_box (game_of m)) c.requires.fork.sound.declared) (kept at.After-keep) (top at.After-set_top) c.saturating_add-self.ensures

pub returns-in_default-clause-taken : goal.returns-in_default-clause-taken
returns-in_default-clause-taken c =
    let m = c.args.self.now in
    let x = c.args.x.0 in
    let from = c.args.from in
    let past = past_box m.remains c.args.mark.at in
    let from_fits : SFits w64 from = search rules in
    let seen : is_cover c.args.upto (values_from from (values_left c.store.result.now.box x)) ≡ false = simp to_z-of_z at c.in_default.ensures.none in
    let now = subst (λ (h : Held). is_cover c.args.upto (values_from from (values_left h.box x)) ≡ false) c.store.ensures seen in
    let there = subst (λ b. is_cover c.args.upto (values_from from (values_left b x)) ≡ false) (is_back m c.args.x c.args.mark from (rest m.nesting) c.requires.top c.requires.fork) now in
    sym (ap (λ b. b && nat_lt (length (covered c.args.upto (values_from from (values_left past x)))) (length (values_left past x))) there)

pub keep-requires-clause-var : goal.keep-requires-clause-var
keep-requires-clause-var c = let m = c.args.self.now in variable_inside m c.args.x c.args.mark c.args.from (rest m.nesting) c.requires.top c.requires.fork

-- the box at the beginning stays as it was
first_box : (s t : Held) → Follows s t → past_box t 0 ≡ past_box s 0
first_box s t f = f.boxes 0 (omega arith)

pub returns-then-size-before-clause-base : goal.returns-then-size-before-clause-base
returns-then-size-before-clause-base c = base_boxed _ _ _ _ _ _ (first_box c.args.self.now.remains c.keep.new.self c.keep.ensures.past)

pub returns-clause-base : goal.returns-clause-base
returns-clause-base c = base_boxed _ _ _ _ _ _ (first_box c.args.self.now.remains c.keep.new.self c.keep.ensures.past)
