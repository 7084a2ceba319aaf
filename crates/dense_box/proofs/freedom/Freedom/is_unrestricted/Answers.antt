use Rattle.dense_box.proofs.Scoped.{restriction_is}
use Rattle.dense_box.proofs.freedom.Freedom.is_unrestricted.Goals as goal

pub returns : goal.returns
returns c = λ g us t. restriction_is g us c.args.self.now c.args.i.0 c.index.result.now c.requires c.index.ensures t
