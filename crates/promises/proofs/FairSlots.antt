-- Fair slots, proved. Assumes nothing.
use mathlib.Core.Path.{refl, sym, ap, ◌∙◌}
use mathlib.Core.List.{List}
use Rattle.reassembly.specs.Sizes.{most_remembered}
use Rattle.reassembly.specs.Runs.{Call, said_to, reached}
use Rattle.reassembly.specs.Neighbours.{new_neighbours, store_of}
use Rattle.reassembly.specs.Acts.{Act, acts_left}
use Rattle.reassembly.proofs.Neighbours.{Level, new_level, acts_level, level_counted, level_most, level_52}
use Rattle.reassembly.proofs.Neighbours as Neighbours
use Rattle.promises.specs.FairSlots.{SummaryIsCount, AtMostFour, FourOpen, Alone, Independent, TwoRuns}

-- what calls reach from a new store
reached_level : (acts : List Act) → Level (acts_left new_neighbours acts)
reached_level acts = acts_level acts new_neighbours new_level

pub summary_is_count : SummaryIsCount
summary_is_count acts n = level_counted (acts_left new_neighbours acts) (reached_level acts) n

pub at_most_four : AtMostFour
at_most_four acts n = level_most (acts_left new_neighbours acts) (reached_level acts) n

pub four_open : FourOpen
four_open acts cap n p second = level_52 (acts_left new_neighbours acts) (reached_level acts) cap n p second

pub independent : Independent
independent s l acts n small = record { said = (Neighbours.alone n small acts s l).0; left = (Neighbours.alone n small acts s l).1 }

pub two_runs : TwoRuns
two_runs acts acts' n small e =
    let a : Alone acts n new_neighbours = independent new_neighbours refl acts n small in
    let b : Alone acts' n new_neighbours = independent new_neighbours refl acts' n small in (
      a.said ∙ (ap (λ (cs : List Call). said_to most_remembered (store_of new_neighbours n) cs) e ∙ sym b.said),
      a.left ∙ (ap (λ (cs : List Call). reached most_remembered (store_of new_neighbours n) cs) e ∙ sym b.left),
    )
