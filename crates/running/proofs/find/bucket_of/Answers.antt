-- `bucket_of` meets its contract: it is the bucket, and there are 1,024 (ChainsFound).
use mathlib.Core.Path.{refl}
use Rattle.token.specs.Shows.{bucket}
use Rattle.running.proofs.find.bucket_of.Goals as goal

pub returns-clause-value : goal.returns-clause-value
unfolding bucket
returns-clause-value c = refl
