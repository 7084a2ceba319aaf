use Rattle.dense_text.proofs.Whole.{certificate_comes}
use Rattle.dense_text.proofs.One.{one_certificate}
use Rattle.dense_text.proofs.Parsed.{certificate_parsed}
use Rattle.dense_text.proofs.laws.pieces_are_of_one_certificate.Goals as goal

pub returns-clause-come : goal.returns-clause-come
returns-clause-come c = λ outcome optimum d h. let w = certificate_comes outcome optimum d h in ((w.accepted, w.ended), w.fits)

pub returns-clause-are : goal.returns-clause-are
returns-clause-are c = λ is w f. let r = certificate_parsed is w.0 w.1 f in (r.outcome, r.optimum, r.c, r.fits, r.are)

pub returns-clause-one : goal.returns-clause-one
returns-clause-one c = one_certificate
