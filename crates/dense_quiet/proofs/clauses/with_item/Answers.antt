use Rattle.std.proofs.Common.{◌≡◌, ap, false, subst, get_or}
use Rattle.std.specs.Prelude.{pos, slice_get, Some}
use Rattle.std.specs.Ordering.{int_eq}
use Rattle.qc_model.specs.declared.problem.Arg.TheVariants.{Var}
use Rattle.qc_model.specs.Domains.{greatest_value}
use Rattle.qc_model.specs.Ranges.{Range}
use Rattle.qc_model.specs.Refuted.{left_to}
use Rattle.dense_quiet.proofs.ClauseLaws.{firm_spares, not_only, not_wrong, apart_ends}
use Rattle.dense_quiet.proofs.ItemPlaces.{got_at}
use Rattle.dense_quiet.proofs.clauses.with_item.Goals as goal

pub returns-then-ends-wrong-2 : goal.returns-then-ends-wrong-2
returns-then-ends-wrong-2 c =
    let j = c.args.array in
    let k = c.args.k in
    let xs = c.args.items.now in
    let box = c.args.store.now.box in
    let a = get_or xs k (Var (record { 0 = 0 })) in
    let p = c.ends_of-ends.result in
    let low : int_eq p.least (pos j) ≡ false = not_wrong p.least j c.requires.array c.if-ends-wrong.true in
    let high : int_eq p.greatest (pos j) ≡ false = not_wrong p.greatest j c.requires.array c.if-ends-wrong-2.true in
    firm_spares c.args.rule.now box c.requires.meaning j k a c.requires.array (subst (λ z. slice_get z k ≡ Some a) c.requires.items (got_at xs k (Var (record { 0 = 0 })) c.requires.k))
    (subst (λ z. int_eq z (pos j) ≡ false) (ap (λ (r : Range). r.from) c.ends_of-ends.ensures) low) (subst (λ z. int_eq z (pos j) ≡ false) (ap (λ (r : Range). r.to) c.ends_of-ends.ensures) high)

pub with_spare-requires-clause-spare : goal.with_spare-requires-clause-spare
with_spare-requires-clause-spare c =
    let j = c.args.array in
    let k = c.args.k in
    let xs = c.args.items.now in
    let box = c.args.store.now.box in
    let a = get_or xs k (Var (record { 0 = 0 })) in
    let p = c.ends_of-ends.result in
    let apart : int_eq p.least p.greatest ≡ false = apart_ends p.least p.greatest c.if-ends.false in
    record {
      array = j;
      place = k;
      two = c.requires.array;
      item = subst (λ z. slice_get z k ≡ Some a) c.requires.items (got_at xs k (Var (record { 0 = 0 })) c.requires.k);
      spare = not_only (pos j) (left_to box a) (subst (λ z. int_eq z (greatest_value (left_to box a)) ≡ false) (ap (λ (r : Range). r.from) c.ends_of-ends.ensures) (subst (λ z. int_eq p.least z ≡ false) (ap (λ (r : Range). r.to) c.ends_of-ends.ensures) apart));
    }
