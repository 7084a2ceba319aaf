use Rattle.dense_closing.proofs.Within.{sub_same}
use Rattle.dense_closing.proofs.laws.greatest_is_one.Goals as goal

pub returns : goal.returns
returns c = λ takes cs box small other s t. sub_same small other (t.greatest small s.within s.closed) (s.greatest other t.within t.closed)
