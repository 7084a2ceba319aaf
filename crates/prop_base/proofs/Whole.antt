-- Taking all values of a variable.
use Rattle.std.proofs.Common.{◌≡◌, ℕ, zero, suc, ◌<◌, Bool, true, false, not, ◌&&◌, cond, [], ◌∷◌, length, set, refl, sym, ap, ◌∙◌, arith, ℤ}
use Rattle.std.specs.Prelude.{pos, negsuc}
use Rattle.std.specs.List.{list_all}
use Rattle.std.proofs.lemmas.Int.{ints}
use Rattle.std.proofs.lemmas.Bool.Decides.{nat_tests}
use Rattle.std.proofs.lemmas.Bool.{or_right}
use Rattle.qc_model.specs.declared.problem.VarId.{VarId}
use Rattle.qc_model.specs.Content.{Game, Rule}
use Rattle.qc_model.specs.Domains.{Values, Box, values_left, values_outside, box_without, is_within, is_none_left, has_empty}
use Rattle.qc_model.specs.Refuted.{refuted_by}
use Rattle.qc_model.specs.Meaning.{meaning_of}
use Rattle.qc_model.specs.Signature.{arg_kinds_of}
use Rattle.qc_model.specs.Valid.{is_number, is_domain, are_of_sorts, have_lengths, argument_sees}
use Rattle.qc_model.proofs.Readable.{first, second}
use Rattle.model_arguments.specs.Asked.{IsAsked}
use Rattle.model_arguments.proofs.Boxes.{some_left, left_small, within_all}
use Rattle.model_arguments.proofs.Kept.{within_at}
use Rattle.prop_base.specs.Closed.{IsCut}

none_out : (vs : Values) → list_all is_number vs ≡ true → values_outside (negsuc 999999999) (pos 1000000000) vs ≡ []
none_out [] h = refl
none_out (v ∷ vs) h = by (not (is_within (negsuc 999999999) (pos 1000000000) v)) (inside v (first (is_number v) (list_all is_number vs) h)) (none_out vs (second (is_number v) (list_all is_number vs) h))
  where
    inside : (v : ℤ) → is_number v ≡ true → not (is_within (negsuc 999999999) (pos 1000000000) v) ≡ false
    inside v h = grind (arith, nat_tests, ints)

    by : (b : Bool) → b ≡ false → values_outside (negsuc 999999999) (pos 1000000000) vs ≡ [] → cond b (v ∷ values_outside (negsuc 999999999) (pos 1000000000) vs) (values_outside (negsuc 999999999) (pos 1000000000) vs) ≡ []
    by true e k = cc
    by false e k = k

emptied : (box : Box) (x : ℕ) → x < length box → has_empty (set box x []) ≡ true
emptied [] x h = absurd (omega arith)
emptied (vs ∷ box) zero h = refl
emptied (vs ∷ box) (suc x) h = or_right (is_none_left vs) (has_empty (set box x [])) (emptied box x (omega arith))

pub whole_emptied : (g : Game) (c : Rule) (box new : Box) (x : ℕ) → list_all (λ v. is_domain v.domain) g.variables ≡ true → IsAsked g c box → x < length box → new ≡ box_without box x (negsuc 999999999) (pos 1000000000) → has_empty new ≡ true
whole_emptied g c box new x d a l e =
    ap has_empty (e ∙ ap (set box x) (none_out (values_left box x) (left_small g box x d a.declared))) ∙ emptied box x l

pub whole_cut : (g : Game) (c : Rule) (box : Box) (x : VarId) → list_all (λ v. is_domain v.domain) g.variables ≡ true → IsAsked g c box → x.0 < length box → refuted_by c box ≡ true → IsCut c box (record { x = x; lo = negsuc 999999999; hi = pos 1000000000 })
whole_cut g c box x d a l r =
    let same = within_all g box x.0 d a.declared in
    record {
      x = l;
      low = refl;
      high = refl;
      some = ap is_none_left (sym (within_at box x.0 (negsuc 999999999) (pos 1000000000)) ∙ ap (λ b. values_left b x.0) same) ∙ some_left box x.0 a.full l;
      refuted = ap (refuted_by c) same ∙ r;
    }

-- a problem's constraint sees its arguments' variables
pub all_seen : (g : Game) (c : Rule) (box : Box) → IsAsked g c box → list_all (argument_sees g.variables c.owner.0) c.args ≡ true
all_seen g c box a =
    second (are_of_sorts g.variables (arg_kinds_of c.pred) c.args && have_lengths (meaning_of c.pred) c.args) (list_all (argument_sees g.variables c.owner.0) c.args) a.rule
