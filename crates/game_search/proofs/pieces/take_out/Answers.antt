use Rattle.std.proofs.Common.{◌≡◌, ◌∙◌, sym, subst, arith, true, false, not, Bool, refl}
use Rattle.qc_model.specs.Valid.{is_number}
use Rattle.box_laws.proofs.Numbers.{passed_number}
use Rattle.game_search.proofs.Kept.{gone_emptied}
use Rattle.game_search.proofs.pieces.take_out.Goals as goal

pub bound-requires-clause-var : goal.bound-requires-clause-var
bound-requires-clause-var c = omega (arith, c.requires.var, c.known.ensures.size)

pub bound-requires-clause-lo : goal.bound-requires-clause-lo
bound-requires-clause-lo c = subst (λ n. is_number n ≡ true) (sym (passed_number c.args.lo c.requires.lo)) c.requires.lo

pub bound-requires-clause-hi : goal.bound-requires-clause-hi
bound-requires-clause-hi c = subst (λ n. is_number n ≡ true) (sym (passed_number c.args.hi c.requires.hi)) c.requires.hi

unnot : (b : Bool) → not b ≡ true → b ≡ false
unnot true e = sym e
unnot false e = refl

pub returns-in-Some-clause-here : goal.returns-in-Some-clause-here
returns-in-Some-clause-here c = λ some g entered. c.bound.ensures.here g 0 entered (sym (gone_emptied _ _ _ _ _ _ _ _ _ c.in-Some.gone c.in-Some.is c.in_ok-bound.ensures.answer) ∙ unnot c.in-Some.gone.is_empty some)
