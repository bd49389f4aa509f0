-- A turn stores the next word.
use Rattle.std.proofs.Common.{refl}
use Rattle.welmuzra.specs.Words.{words_put}
use Rattle.welmuzra.proofs.Laws.{laid_suc}
use Rattle.welmuzra.proofs.store_record.Goals as goal

pub loop-i-init : goal.loop-i-init
unfolding words_put
loop-i-init c = refl

pub loop-i-preserved : goal.loop-i-preserved
loop-i-preserved c = rw (c.loop-i.invariant, laid_suc)
