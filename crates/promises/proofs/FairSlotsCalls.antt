-- Fair slots of the calls, proved. Assumes nothing.
use mathlib.Core.Path.{◌≡◌, sym, ap, ◌∙◌}
use mathlib.Core.List.{List}
use Prim.Native.Nat.{ℕ}
use native.Mathlib.Omega.{arith}
use lib.ListN.{length}
use Rattle.reassembly.specs.Sizes.{most_remembered}
use Rattle.reassembly.specs.Store.{step}
use Rattle.reassembly.specs.declared.Reply.{Reply}
use Rattle.reassembly.specs.Neighbours.{open_of}
use Rattle.reassembly.specs.Calls.{lent}
use Rattle.reassembly.specs.Shares.{share_of, share_of_room, lent_to, renewed}
use Rattle.reassembly.specs.Stands.{slots_of, stands, Agrees}
use Rattle.reassembly.specs.Standing.{summary_at, AllMade}
use Rattle.reassembly.proofs.Counts.{open_most, step_52}
use Rattle.reassembly.proofs.Refines.{number_of}
use Rattle.reassembly.proofs.Steps.{four_slots}
use Rattle.reassembly.proofs.NewShares.{new_made}
use Rattle.reassembly.proofs.Own.{Own}
use Rattle.reassembly.proofs.OwnShare.{own_count}
use Rattle.reassembly.proofs.Alone as Alone
use Rattle.promises.specs.StoreTurns.{turn_call, meets, last_rec, last_room}
use Rattle.promises.specs.FairSlotsCalls.{Counted, SummaryOfCalls, FourOpenCalls, TwoRunsOfCalls}
use Rattle.promises.proofs.StoreTurns.{piece_taken, piece_agrees, piece_own, own_turn, turn_of, turns_keep}

-- what calls made is counted
made_counted : (rec room : List ℕ) → AllMade rec room → Counted rec room
made_counted rec room h n one =
    let e : summary_at rec n ≡ open_of (slots_of (share_of rec n) (share_of_room room n)) = own_count rec room n (h.shares n one) in
    (e, omega (arith, e, open_most (slots_of (share_of rec n) (share_of_room room n)), four_slots (share_of rec n) (share_of_room room n)))

pub summary_of_calls : SummaryOfCalls
summary_of_calls =
    record {
      from_made = λ rec room h turns w. (turns_keep turns rec room h w, made_counted (last_rec rec room turns) (last_room rec room turns) (turns_keep turns rec room h w));
      from_new = λ rec room lr lm turns w.
          made_counted (last_rec (renewed rec) room turns) (last_room (renewed rec) room turns) (turns_keep turns (renewed rec) room (new_made rec room lr lm) w);
    }

pub four_open_calls : FourOpenCalls
four_open_calls n one rec room h out p second w q =
    let s : List ℕ = share_of rec n in
    let m : List ℕ = share_of_room room n in
    let c : Own (lent rec room out) n (piece_taken (lent_to (lent rec room out) n) p second) _ = piece_own (lent rec room out) n h.record_long h.room_long (omega arith) p second in
    let a : Agrees out (piece_taken (lent s m out) p second) (step most_remembered (length out) (stands s m) p second) =
    piece_agrees s m out h.share_made p second (record { id = w.0; expires = w.1; second_fits = w.2 }) in
    let f : (step most_remembered (length out) (stands s m) p second).number ≡ 52 =
    sym (number_of (step most_remembered (length out) (stands s m) p second).number (step most_remembered (length out) (stands s m) p second).out)
    ∙ sym (ap (λ (r : Reply). r.number) (c.reply ∙ a.reply)) ∙ q in
    own_count rec room n h.share_made ∙ step_52 most_remembered (length out) (stands s m) p second f ∙ four_slots s m

pub two_runs_of_calls : TwoRunsOfCalls
two_runs_of_calls n one = Alone.two_runs turn_call own_turn (meets n) n (turn_of n one)
