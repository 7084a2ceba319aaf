-- What is left to an open argument, and values that two have in common.
use Rattle.std.proofs.Common.{◌≡◌, Bool, true, false, not, ◌&&◌, refl, ℤ}
use Rattle.std.specs.List.{list_all}
use Rattle.std.proofs.lemmas.Bool.{false_from_ne_true}
use Rattle.qc_model.specs.Domains.{Values, has_value, is_none_left, is_ascending, misses}
use Rattle.qc_model.specs.Valid.{is_number}
use Rattle.qc_model.proofs.Readable.{first, second}
use Rattle.qc_model.proofs.Sound.{misses_apart}
use Rattle.model_arguments.proofs.Bools.{not_false}
use Rattle.model_arguments.proofs.Kept.{among_of}
use Rattle.model_arguments.proofs.Values.{value_passes}
use Rattle.qc_refuter.specs.Met.{is_domain_left}
use Rattle.qc_refuter.proofs.Seen.{misses_all}

pub some_left : (d : Values) → is_domain_left d ≡ true → is_none_left d ≡ false
some_left d h = not_false (is_none_left d) (first (not (is_none_left d)) (is_ascending d) (first (not (is_none_left d) && is_ascending d) (list_all is_number d) h))

pub ascending_left : (d : Values) → is_domain_left d ≡ true → is_ascending d ≡ true
ascending_left d h = second (not (is_none_left d)) (is_ascending d) (first (not (is_none_left d) && is_ascending d) (list_all is_number d) h)

pub small_left : (d : Values) (v : ℤ) → is_domain_left d ≡ true → has_value d v ≡ true → is_number v ≡ true
small_left d v h k = value_passes is_number d v (second (not (is_none_left d) && is_ascending d) (list_all is_number d) h) k

-- two lists of values with nothing in common, and with something
pub none_common : (d e : Values) → ((v : ℤ) → has_value d v ≡ true → has_value e v ≡ true → ⊥) → misses d e ≡ true
none_common d e f = flip (misses d e) (misses_all d e (λ v h. false_from_ne_true (has_value e v) (f v h)))
  where
    flip : (b : Bool) → false ≡ not b → b ≡ true
    flip true h = refl
    flip false h = cc

pub some_common : (d e : Values) (v : ℤ) → has_value d v ≡ true → has_value e v ≡ true → misses d e ≡ false
some_common d e v h k = false_from_ne_true (misses d e) (λ m. misses_apart d e v m (among_of v d h) (among_of v e k))
