-- Demand 2 holds, and is not empty. Assumes nothing.
use mathlib.Core.Path.{◌≡◌, refl, sym, ◌∙◌}
use mathlib.Core.List.{List, [], ◌∷◌}
use Prim.Native.Nat.{ℕ, ◌<◌}
use native.Mathlib.Omega.{arith}
use lib.ListN.{length, replicate}
use Rattle.acks.specs.Window.{window, falling, keep}
use Rattle.acks.specs.History.{answer_to, highest_of, among, receive, noted, received_after, received, highest_seen, newest}
use Rattle.acks.specs.Reporting.{pair_bytes}
use Rattle.acks.proofs.Faithful.{Faithful}
use Rattle.acks.proofs.Histories.{report_before, report_after_lem, names_newest}
use Rattle.promises.specs.Acks.{report_after}
use Rattle.promises.specs.Demand2.{ExpandsTo, Acknowledges, Demand2}
use Rattle.promises.proofs.Acks.{reported}

module _ (calls : List ℕ) where
  pub report_faithful : 0 < length (received calls) → Faithful (highest_seen calls) (among (received calls)) (report_after calls)
  report_faithful some = rw (reported calls) (report_after_lem calls some)

  acknowledges : 0 < length (received calls) → Acknowledges calls (report_after calls)
  acknowledges some =
      let f = report_faithful some in
      record {
        given = f.number_is;
        highest = f.through_is;
        exact = λ list big.
            let z = names_newest calls (report_after calls) f list (omega (arith, big)) in
            record { answers = z.0; fills = z.1 };
      }

pub demand2 : Demand2
demand2 calls = (λ none. reported calls ∙ report_before calls none, acknowledges calls)

-- a history that meets the premises: 43, 40 and 42 in its middle, and the window moved past what came first
abbrev pub mixed : List ℕ
mixed = 4 ∷ 2 ∷ 4 ∷ 400 ∷ 200 ∷ 300 ∷ 3 ∷ []

pub mixed_received : received mixed ≡ 300 ∷ 200 ∷ 2 ∷ 4 ∷ 0 ∷ []
unfolding received received_after noted answer_to receive highest_of among
mixed_received = refl

pub mixed_newest : newest mixed ≡ 300 ∷ 200 ∷ []
unfolding newest highest_seen received received_after noted answer_to receive highest_of among window falling keep
mixed_newest = refl

-- its report, expanded into a list of 256 places
pub example : ExpandsTo (report_after mixed).through (report_after mixed).count (pair_bytes (report_after mixed)) (replicate 256 7) (300 ∷ 200 ∷ [])
example =
    let some : 0 < length (received mixed) = rw mixed_received (omega arith) in
    rw (sym mixed_newest) (((demand2 mixed).1 some).exact (replicate 256 7) (omega arith))
