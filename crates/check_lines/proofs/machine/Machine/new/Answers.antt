use Rattle.std.proofs.Common.{◌≡◌, ◌∙◌, sym, ap, subst, refl, length, arith, true, Result, Ok, Err}
use Rattle.std.specs.Prelude.{pos, IsErr, IfOk}
use Rattle.std.specs.List.{list_all}
use Rattle.std.proofs.lemmas.List.{length-replicate}
use Rattle.qc_model.specs.Valid.{is_number}
use Rattle.qc_model.specs.Content.{Game}
use Rattle.qc_model.specs.Domains.{has_empty}
use Rattle.model_arguments.specs.Asked.{is_box_of}
use Rattle.fd_store.specs.Held.{trail_len}
use Rattle.check_lines.specs.LedgerSizes.{VerdictLaws}
use Rattle.check_lines.specs.Tracking.{TracksAll}
use Rattle.check_lines.specs.Machine.{AreFrames}
use Rattle.box_laws.proofs.Declared.{declared_full, declared_is}
use Rattle.check_lines.proofs.LedgerSizes.{verdict_laws}
use Rattle.check_lines.proofs.Known.{none_read}
use Rattle.check_lines.proofs.Turning.{new_tells}
use Rattle.check_box.proofs.Fewer.{at_first}
use Rattle.check_box.proofs.Placing.{numbers_none}
use Rattle.check_lines.proofs.machine.Machine.new.Goals as goal

pub returns-clause-tells : goal.returns-clause-tells
returns-clause-tells c =
    let g = c.args.problem.now in
    let r = new_tells g _ c.known.ensures.domains c.in_ok-levels.ensures c.in_ok-remains.ensures.0 c.in_ok-nesting.ensures refl refl refl refl in
    record { tells = r.0; sizes = r.1 }

pub returns-clause-ready : goal.returns-clause-ready
returns-clause-ready c =
    let g = c.args.problem.now in
    let same : c.in_ok-levels.levels.problem.now ≡ g = c.in_ok-levels.ensures in
    let box = c.in_ok-remains.ensures.0 in
    let values = c.in_ok-values.values in
    let numbers : list_all is_number values.items ≡ true = subst (λ vs. list_all is_number vs ≡ true) (sym c.in_ok-values.ensures.zeros) (numbers_none (length g.variables)) in
    let size : length values.items ≡ length g.variables = ap length c.in_ok-values.ensures.zeros ∙ length-replicate (length g.variables) (pos 0) in
    record {
      sound = record {
        laws = subst VerdictLaws (sym same) (verdict_laws g c.known.ensures);
        tracks = subst (λ (u : Game). TracksAll u c.in_ok-bounds.bounds) (sym same) c.in_ok-bounds.ensures;
        joined = c.in_ok-joins.ensures.same ∙ sym same;
        valued = c.in_ok-values.ensures.game ∙ sym same;
        value_each = size ∙ sym (ap (λ (u : Game). length u.variables) same);
        numbers = numbers;
        declared = subst (λ (u : Game). is_box_of u c.in_ok-remains.remains.box ≡ true) (sym same) (declared_is g c.in_ok-remains.remains.box c.known.ensures.domains box);
        inside = omega arith;
        placed = λ full. at_first c.in_ok-levels.levels.problem.now c.in_ok-values.values.items c.in_ok-remains.remains.box;
        frames = subst (AreFrames c.in_ok-levels.levels.problem.now c.in_ok-remains.remains c.in_ok-values.values.items 0 (trail_len c.in_ok-remains.remains)) (sym c.in_ok-nesting.ensures) tt;
        read = none_read c.in_ok-levels.levels.problem.now c.in_ok-remains.remains c.in_ok-values.values.items c.in_ok-reads.reads c.in_ok-nesting.nesting c.in_ok-nesting.ensures c.in_ok-reads.ensures.none (c.in_ok-reads.ensures.places ∙ (c.variables.ensures ∙ sym (ap (λ (u : Game). length u.variables) same)));
      };
      full = ap has_empty box ∙ declared_full g c.known.ensures.domains;
    }

-- an error is no machine
no_machine : {T E : Type 0} (r : Result T E) (P : T → Type 0) → IsErr r → IfOk r P
no_machine (Ok x) P e = absurd (cc)
no_machine (Err y) P e = tt

pub returns-in_err-levels : goal.returns-in_err-levels
returns-in_err-levels c = let e = c.from_residual-in_err-levels.ensures.0 in record { tells = no_machine _ _ e; ready = no_machine _ _ e; same = no_machine _ _ e; begins = no_machine _ _ e }

pub returns-in_err-bounds : goal.returns-in_err-bounds
returns-in_err-bounds c = let e = c.from_residual-in_err-bounds.ensures.0 in record { tells = no_machine _ _ e; ready = no_machine _ _ e; same = no_machine _ _ e; begins = no_machine _ _ e }

pub returns-in_err-remains : goal.returns-in_err-remains
returns-in_err-remains c = let e = c.from_residual-in_err-remains.ensures.0 in record { tells = no_machine _ _ e; ready = no_machine _ _ e; same = no_machine _ _ e; begins = no_machine _ _ e }

pub returns-in_err-joins : goal.returns-in_err-joins
returns-in_err-joins c = let e = c.from_residual-in_err-joins.ensures.0 in record { tells = no_machine _ _ e; ready = no_machine _ _ e; same = no_machine _ _ e; begins = no_machine _ _ e }

pub returns-in_err-values : goal.returns-in_err-values
returns-in_err-values c = let e = c.from_residual-in_err-values.ensures.0 in record { tells = no_machine _ _ e; ready = no_machine _ _ e; same = no_machine _ _ e; begins = no_machine _ _ e }

pub returns-in_err-reads : goal.returns-in_err-reads
returns-in_err-reads c = let e = c.from_residual-in_err-reads.ensures.0 in record { tells = no_machine _ _ e; ready = no_machine _ _ e; same = no_machine _ _ e; begins = no_machine _ _ e }

pub returns-in_err-nesting : goal.returns-in_err-nesting
returns-in_err-nesting c = let e = c.from_residual.ensures.0 in record { tells = no_machine _ _ e; ready = no_machine _ _ e; same = no_machine _ _ e; begins = no_machine _ _ e }
