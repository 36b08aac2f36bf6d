use mathlib.Core.Path.{refl, sym, ap}
use Rattle.std.proofs.lemmas.Result.{err_from_is_err_and}
use Rattle.blocks.specs.Outcomes.{Read}
use Rattle.blocks.proofs.ReadExtents.{read_fits}
use Rattle.messages.specs.Delivery.{delivered}
use Rattle.messages.proofs.receive.Goals as goal

pub returns-in_err-block : goal.returns-in_err-block
unfolding delivered
returns-in_err-block c =
    let p = err_from_is_err_and c.from_residual.result c.from_residual.ensures.1 in
    rw (p.1, p.2, sym c.in_err-block.ensures) refl

pub deliver-requires : goal.deliver-requires
deliver-requires c =
    let e = c.in_ok-block.ensures in
    rw (ap (λ (r : Read). r.fields) e) (read_fits _ _ _ _ _ (λ i. (c.shared_slice_known-1.given i).fits) (sym (ap (λ (r : Read). r.extent) e)))

pub returns : goal.returns
unfolding delivered
returns c = rw (sym c.in_ok-block.ensures) c.deliver.ensures
