-- A register that is prepared has at most 16 workers.
use Rattle.std.proofs.Common.{sym, ap, ◌∙◌}
use Rattle.words.specs.Words.{Left}
use Rattle.acts.specs.declared.Called.{Called}
use Rattle.names.specs.Names.{refuses}
use Rattle.welmuzra.proofs.Laws.{prepared_small}
use Rattle.welmuzra.proofs.welmuzra_prepare.Goals as goal

pub ready-requires : goal.ready-requires
ready-requires c = λ r. prepared_small _ _ _ (ap (λ (l : Left Called). refuses l.out.answer) (sym c.prepare-called.ensures) ∙ r)
