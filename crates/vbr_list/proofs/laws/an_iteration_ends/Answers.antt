use Rattle.vbr_list.proofs.Names.{bucket_of-lt}
use Rattle.vbr_list.proofs.iterations.Cursors.{given_all}
use Rattle.vbr_list.proofs.laws.an_iteration_ends.Goals as goal

pub returns : goal.returns
returns c = λ p q k keys start x end. given_all (λ key. bucket_of-lt p.start.shape key start.shape.some_bucket) x end
