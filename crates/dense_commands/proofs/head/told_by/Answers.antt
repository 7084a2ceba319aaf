use Rattle.std.proofs.Common.{◌≡◌, ◌∙◌, sym, ap, subst, true, false, take, length, min, codes}
use Rattle.std.specs.Str.{bytes_eq}
use Rattle.dense_commands.proofs.Heads.{heading_by, compared}
use Rattle.dense_commands.proofs.head.told_by.Goals as goal

pub returns-then-eq-2 : goal.returns-then-eq-2
returns-then-eq-2 c =
    let front = c.args.front.now in
    let first = take (min 7 (length front)) front in
    let one : bytes_eq front (codes "qcert 3\nb") ≡ false = subst (λ w. bytes_eq front w ≡ false) c.as_slice.ensures (sym c.eq.ensures ∙ c.if-eq.false) in
    let two : bytes_eq first (codes "qcert 3") ≡ true =
    subst (λ w. bytes_eq first w ≡ true) c.as_slice-2.ensures (subst (λ n. bytes_eq (take n front) c.as_slice-2.result.now ≡ true) c.min.ensures (sym c.eq-2.ensures ∙ c.if-eq-2.true)) in
    let dense = bytes_eq first (codes "qcert 4") in
    sym (compared front c.requires ∙ ap (λ b. heading_by b (bytes_eq first (codes "qcert 3")) dense) one ∙ ap (λ b. heading_by false b dense) two)

pub returns-then-eq-3 : goal.returns-then-eq-3
returns-then-eq-3 c =
    let front = c.args.front.now in
    let first = take (min 7 (length front)) front in
    let one : bytes_eq front (codes "qcert 3\nb") ≡ false = subst (λ w. bytes_eq front w ≡ false) c.as_slice.ensures (sym c.eq.ensures ∙ c.if-eq.false) in
    let two : bytes_eq first (codes "qcert 3") ≡ false =
    subst (λ w. bytes_eq first w ≡ false) c.as_slice-2.ensures (subst (λ n. bytes_eq (take n front) c.as_slice-2.result.now ≡ false) c.min.ensures (sym c.eq-2.ensures ∙ c.if-eq-2.false)) in
    let three : bytes_eq first (codes "qcert 4") ≡ true =
    subst (λ w. bytes_eq first w ≡ true) c.as_slice-3.ensures (subst (λ n. bytes_eq (take n front) c.as_slice-3.result.now ≡ true) c.min.ensures (sym c.eq-3.ensures ∙ c.if-eq-3.true)) in
    sym (compared front c.requires ∙ ap (λ b. heading_by b (bytes_eq first (codes "qcert 3")) (bytes_eq first (codes "qcert 4"))) one
    ∙ ap (λ b. heading_by false b (bytes_eq first (codes "qcert 4"))) two ∙ ap (heading_by false false) three)

pub returns : goal.returns
returns c =
    let front = c.args.front.now in
    let first = take (min 7 (length front)) front in
    let one : bytes_eq front (codes "qcert 3\nb") ≡ false = subst (λ w. bytes_eq front w ≡ false) c.as_slice.ensures (sym c.eq.ensures ∙ c.if-eq.false) in
    let two : bytes_eq first (codes "qcert 3") ≡ false =
    subst (λ w. bytes_eq first w ≡ false) c.as_slice-2.ensures (subst (λ n. bytes_eq (take n front) c.as_slice-2.result.now ≡ false) c.min.ensures (sym c.eq-2.ensures ∙ c.if-eq-2.false)) in
    let three : bytes_eq first (codes "qcert 4") ≡ false =
    subst (λ w. bytes_eq first w ≡ false) c.as_slice-3.ensures (subst (λ n. bytes_eq (take n front) c.as_slice-3.result.now ≡ false) c.min.ensures (sym c.eq-3.ensures ∙ c.if-eq-3.false)) in
    sym (compared front c.requires ∙ ap (λ b. heading_by b (bytes_eq first (codes "qcert 3")) (bytes_eq first (codes "qcert 4"))) one
    ∙ ap (λ b. heading_by false b (bytes_eq first (codes "qcert 4"))) two ∙ ap (heading_by false false) three)
