use Rattle.std.proofs.Common.{◌+◌, ◌-◌, get_or, set, refl, arith}
use Rattle.std.proofs.lemmas.List.{get_or-set_same, get_or-set_other}
use Rattle.qc_refuter.proofs.Taken.{past_stretch, past_top, none_left, taken}
use Rattle.qc_refuter.proofs.stretches.take_number.Goals as goal

pub returns-then-high-top-clause-none : goal.returns-then-high-top-clause-none
returns-then-high-top-clause-none c e f low last s r =
    let lows = c.args.lows.now in
    let free = c.args.free.now in
    none_left lows free f low last c.args.top.now c.args.stretch c.args.high r s c.requires.same
    (past_top lows free f low last c.args.top.now c.args.stretch c.args.high r s c.requires.same (omega arith) (omega arith))

pub returns-then-stretch-lows-clause-taken : goal.returns-then-stretch-lows-clause-taken
returns-then-stretch-lows-clause-taken c e f more low last le o s r =
    taken c.args.lows.now c.args.free.now c.args.free.now f more low last c.args.high c.args.stretch c.args.top.now (c.args.top.now + 1) c.requires.same le o s (record {
      other = λ k n. refl;
      here = λ h. absurd (omega (arith, h));
      fits = λ h. absurd (omega (arith, h));
      same = λ h. absurd (omega (arith, h));
      past = λ h. refl;
      past_fits = λ h. omega arith;
    }) r

pub returns-then-saturating_add-lows-clause-none : goal.returns-then-saturating_add-lows-clause-none
returns-then-saturating_add-lows-clause-none c e f low last s r =
    let lows = c.args.lows.now in
    let free = c.args.free.now in
    none_left lows free f low last c.args.top.now c.args.stretch c.args.high r s c.requires.same
    (past_stretch lows free f low last c.args.top.now c.args.stretch c.args.high r s c.requires.same (omega arith) (omega (arith, c.saturating_add.ensures)))

pub returns-clause-taken : goal.returns-clause-taken
returns-clause-taken c e f more low last le o s r =
    let free = c.args.free.now in
    let b = c.args.stretch in
    let v = get_or free b 0 - 1 in
    taken c.args.lows.now free (set free b v) f more low last c.args.high b c.args.top.now c.args.top.now c.requires.same le o s (record {
      other = λ k n. get_or-set_other free b k v 0 n;
      here = λ h. omega (arith, get_or-set_same free b v 0 (omega arith), c.requires.open (omega arith));
      fits = λ h. omega (arith, c.saturating_add.ensures);
      same = λ h. refl;
      past = λ h. absurd (omega (arith, h));
      past_fits = λ h. absurd (omega (arith, h));
    }) r
