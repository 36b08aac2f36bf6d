use Rattle.std.proofs.Common.{◌≡◌, true, false, rules}
use borrow.Author.Tests.{tests}
use Rattle.std.proofs.lemmas.Iterator.{first_from_Range}
use Rattle.reassembly.specs.Slots.{is_open_as}
use Rattle.reassembly.proofs.Scan.{first_is}
use Rattle.reassembly_slots.proofs.find.Goals as goal

pub returns-clause-slot : goal.returns-clause-slot
unfolding is_open_as
returns-clause-slot c =
    let a = c.args in
    first_is (is_open_as a.rec.now a.id) 4 c.find.result
    (first_from_Range _ _ _ _ (λ i. is_open_as a.rec.now a.id i ≡ true) (λ i. is_open_as a.rec.now a.id i ≡ false) c.find.ensures.ran (λ x q k. search (rules, tests)) (λ x q k. search (rules, tests)))
