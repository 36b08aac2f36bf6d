-- Schedules that are delivered to the calls: they meet every premise. Assumes nothing.
use mathlib.Core.Path.{◌≡◌, refl, sym, ap, ◌∙◌, subst}
use mathlib.Core.Bool.{Bool, true, ◌&&◌}
use mathlib.Core.List.{List, [], ◌∷◌}
use Prim.Native.Nat.{ℕ, zero, suc, ◌<◌, ◌≤◌}
use native.Mathlib.Omega.{arith}
use lib.ListN.{length, get_or, replicate}
use lib.Dec.{ltb}
use borrow.Author.Tests.{ltb-true, eq-eqb}
use Rattle.wire.specs.Parts.{splice}
use Rattle.wire.proofs.Tests.{and_both}
use Rattle.reassembly.specs.Sizes.{room_size, most_remembered, record_size}
use Rattle.reassembly.specs.Memory.{Memory, remembers, remember, is_due, forget}
use Rattle.reassembly.specs.Store.{first, follow}
use Rattle.reassembly.specs.Neighbours.{new_neighbours}
use Rattle.reassembly.specs.Remembered.{memory_of}
use Rattle.reassembly.specs.Calls.{bare}
use Rattle.reassembly.specs.Shares.{share_of, renewed}
use Rattle.reassembly.specs.Stands.{label_of, reply_for, laid_out}
use Rattle.reassembly.specs.Standing.{neighbours_of, AllMade}
use Rattle.promises.specs.Demand3.{Cut, piece_of, no_cut, cut_from, Event, deliver, sweep_at, begun, done, is_open, marked, untouched, tallied, start, note, past_after, Schedule, due_one, due}
use Rattle.promises.specs.StoreTurns.{Turn, sends, sweeps, Heard, own, heard, last_rec, last_room, AllInWidth}
use Rattle.promises.specs.FairSlotsCalls.{Counted}
use Rattle.promises.specs.Demand3Calls.{asked, heard_due, all_heard_due, second_of, ScheduleInWidth, FulfilledByCalls, LongEnough}
use Rattle.promises.proofs.FairSlotsCalls.{summary_of_calls}
use Rattle.promises.proofs.Demand3Calls.{demand3_again, from_new, store_starts}
use Rattle.promises.proofs.Demand3Tests.{allowed_test, own_test, orderly_test, schedule_test, schedule_of}
use Rattle.promises.proofs.Demand3Example.{three_cuts, mixture, within_limits, keeps_rules, left_behind, keeps_rules_again, many_cuts, seventeen, many_within, many_keep_rules}
use Rattle.promises.proofs.Demand3NeighboursExample.{ones, twos, ones_come, twos_come, ones_within, twos_within, ones_keep_rules}

-- ids and expirations that are all below a bound
abbrev pub all_wide : List Cut → Bool
all_wide [] = true
all_wide (c ∷ cs) = (ltb c.id 4294967296 && ltb c.expires 4294967296) && all_wide cs

pub wide_at : (cs : List Cut) → all_wide cs ≡ true → (n : ℕ) → ((get_or cs n no_cut).id < 4294967296) × ((get_or cs n no_cut).expires < 4294967296)
wide_at [] h n = (omega arith, omega arith)
wide_at (c ∷ cs) h zero =
    let w = and_both (ltb c.id 4294967296) (ltb c.expires 4294967296) (and_both (ltb c.id 4294967296 && ltb c.expires 4294967296) (all_wide cs) h).0 in
    (ltb-true c.id 4294967296 w.0, ltb-true c.expires 4294967296 w.1)
wide_at (c ∷ cs) h (suc n) = wide_at cs (and_both (ltb c.id 4294967296 && ltb c.expires 4294967296) (all_wide cs) h).1 n

-- seconds that are all below a bound
abbrev pub all_early : List Event → Bool
all_early [] = true
all_early (e ∷ es) = ltb (second_of e) 18446744073709551616 && all_early es

early_at : (es : List Event) → all_early es ≡ true → (n : ℕ) → second_of (get_or es n (sweep_at 0)) < 18446744073709551616
early_at [] h n = omega arith
early_at (e ∷ es) h zero = ltb-true (second_of e) 18446744073709551616 (and_both (ltb (second_of e) 18446744073709551616) (all_early es) h).0
early_at (e ∷ es) h (suc n) = early_at es (and_both (ltb (second_of e) 18446744073709551616) (all_early es) h).1 n

pub widths_of : (cs : List Cut) (es : List Event) → all_wide cs ≡ true → all_early es ≡ true → ScheduleInWidth cs es
widths_of cs es w e = record { ids = λ n. (wide_at cs w n).0; expirations = λ n. (wide_at cs w n).1; seconds = early_at es e }

-- the same of turns
abbrev width_test : List Turn → Bool
width_test [] = true
width_test (sends n out p second ∷ turns) = ((ltb (label_of p).id 4294967296 && ltb (label_of p).expires 4294967296) && ltb second 18446744073709551616) && width_test turns
width_test (sweeps second ∷ turns) = width_test turns

width_of : (turns : List Turn) → width_test turns ≡ true → AllInWidth turns
width_of [] h = tt
width_of (sends n out p second ∷ turns) h =
    let a : Bool = ltb (label_of p).id 4294967296 in
    let b : Bool = ltb (label_of p).expires 4294967296 in
    let c : Bool = ltb second 18446744073709551616 in
    let w = and_both ((a && b) && c) (width_test turns) h in
    let v = and_both (a && b) c w.0 in
    let u = and_both a b v.0 in
    ((ltb-true (label_of p).id 4294967296 u.0, ltb-true (label_of p).expires 4294967296 u.1, ltb-true second 18446744073709551616 v.1), width_of turns w.1)
width_of (sweeps second ∷ turns) h = width_of turns h

-- ---- one neighbour alone, on every record and room that stand for a new store, with any assembly buffers of the lent length

-- the turns of a schedule are its own
own_asked : (n : ℕ) (cs : List Cut) (outs : ℕ → List ℕ) (k : ℕ) (es : List Event) → own n (asked n cs outs k es) ≡ asked n cs outs k es
own_asked n cs outs k [] = refl
own_asked n cs outs k (deliver c i second ∷ es) = rw (eq-eqb n n refl, own_asked n cs outs (suc k) es) refl
own_asked n cs outs k (sweep_at second ∷ es) = ap (λ (turns : List Turn). sweeps second ∷ turns) (own_asked n cs outs (suc k) es)

module _ (n : ℕ) (one : n < 4) (outs : ℕ → List ℕ) (long : LongEnough outs) (rec room : List ℕ) (made : AllMade rec room) (new : neighbours_of rec room ≡ new_neighbours) where
  -- a schedule's turns, and none of the others
  abbrev mixed : List Turn
  mixed = asked n three_cuts outs 0 mixture

  pub example_calls : FulfilledByCalls n three_cuts outs rec room mixed mixture
  example_calls = from_new n one outs long rec room made new three_cuts within_limits mixture (widths_of three_cuts mixture refl refl) keeps_rules mixed (own_asked n three_cuts outs 0 mixture)

  -- late repeats, push-outs and a sweep that forgets, with 16 remembered
  pub example_many_calls : FulfilledByCalls n many_cuts outs rec room (asked n many_cuts outs 0 seventeen) seventeen
  example_many_calls =
      from_new n one outs long rec room made new many_cuts many_within seventeen (widths_of many_cuts seventeen refl refl) many_keep_rules
      (asked n many_cuts outs 0 seventeen) (own_asked n many_cuts outs 0 seventeen)

  -- what the first schedule leaves is remembered
  left_remembered : memory_of (share_of (last_rec rec room mixed) n) ≡ left_behind
  left_remembered =
      example_calls.ends.remembers_due
      ∙ (ap (λ (fs : Memory). (past_after most_remembered three_cuts (start three_cuts fs) mixture).remembered) (store_starts.begins rec room made new n one).1 ∙ computed)
    where
      computed : (past_after most_remembered three_cuts (start three_cuts []) mixture).remembered ≡ left_behind
      computed = unfold untouched tallied note marked begun done remember is_due forget in refl

  -- and the schedule comes once more, after a sweep that forgets it
  pub example_again_calls : FulfilledByCalls n three_cuts outs (last_rec rec room mixed) (last_room rec room mixed) (asked n three_cuts outs 0 (sweep_at 300 ∷ mixture)) (sweep_at 300 ∷ mixture)
  example_again_calls =
      demand3_again n one outs outs long rec room three_cuts mixture mixed example_calls three_cuts within_limits (sweep_at 300 ∷ mixture) (widths_of three_cuts (sweep_at 300 ∷ mixture) refl refl)
      (subst (λ (fs : Memory). Schedule 4 most_remembered three_cuts (start three_cuts fs) (sweep_at 300 ∷ mixture)) (sym left_remembered) keeps_rules_again)
      (asked n three_cuts outs 0 (sweep_at 300 ∷ mixture)) (own_asked n three_cuts outs 0 (sweep_at 300 ∷ mixture))

-- on a record of zeros
pub example_zeros : (n : ℕ) → n < 4 → (outs : ℕ → List ℕ) → LongEnough outs → (m : ℕ) (room : List ℕ) → record_size ≤ m → room_size ≤ length room
    → FulfilledByCalls n many_cuts outs (replicate m 0) room (asked n many_cuts outs 0 seventeen) seventeen
example_zeros n one outs long m room lr lm = example_many_calls n one outs long (replicate m 0) room (store_starts.zero_filled m room lr lm).0 (store_starts.zero_filled m room lr lm).1

-- a number, and the assembly buffer as it was
abbrev refused : ℕ → List ℕ → Heard
refused n out = record { reply = record { number = n; kind = 0; expires = 0; length = 0 }; out = out }

abbrev kept : List ℕ → Heard
kept out = refused 0 out

-- a message comes out
abbrev whole : ℕ → ℕ → List ℕ → List ℕ → Heard
whole kind expires bytes out = record { reply = record { number = 60; kind = kind; expires = expires; length = length bytes }; out = splice out 0 bytes }

-- ---- neighbours 1 and 2 use one id at the same time, beside one that floods its slots and one with the number 9

-- the rules are kept from a new store on
pub twos_keep_new : Schedule 4 most_remembered twos (start twos []) twos_come
unfolding schedule_test allowed_test orderly_test own_test untouched tallied note marked begun done is_open remembers remember is_due forget
twos_keep_new = schedule_of 4 most_remembered twos twos_come (start twos []) refl

module _ (outs₁ outs₂ : ℕ → List ℕ) (long₁ : LongEnough outs₁) (long₂ : LongEnough outs₂) where
  -- a piece of theirs, the k-th of their turns
  abbrev one : ℕ → ℕ → ℕ → Turn
  one k i second = sends 1 (outs₁ k) (piece_of (get_or ones 0 no_cut) i) second

  abbrev two : ℕ → ℕ → ℕ → ℕ → Turn
  two k c i second = sends 2 (outs₂ k) (piece_of (get_or twos c no_cut) i) second

  -- a piece of the neighbour that floods: it opens the message `id`
  abbrev flood : ℕ → ℕ → Turn
  flood id second = sends 0 [] (first id 1 9 (id ∷ [])) second

  -- What all four send, and number 9.
  abbrev pub all : List Turn
  all =
      flood 1 99 ∷ one 0 0 100 ∷ two 0 0 1 100 ∷ flood 2 101 ∷ flood 3 101 ∷ flood 4 101 ∷ flood 7 101 ∷ one 1 2 102
      ∷ sends 9 [] (follow 7 1 true (9 ∷ [])) 102 ∷ two 1 1 0 103 ∷ two 2 0 1 103 ∷ flood 8 103 ∷ one 2 0 104
      ∷ sends 0 [] (follow 7 1 true (9 ∷ [])) 104 ∷ two 3 0 0 105 ∷ one 3 1 106 ∷ sweeps 131 ∷ flood 7 131 ∷ one 5 1 132 ∷ two 5 0 0 132 ∷ two 6 1 1 133 ∷ []

  module _ (rec room : List ℕ) (made : AllMade rec room) (new : neighbours_of rec room ≡ new_neighbours) where
    pub example_one_calls : FulfilledByCalls 1 ones outs₁ rec room all ones_come
    example_one_calls = from_new 1 (omega arith) outs₁ long₁ rec room made new ones ones_within ones_come (widths_of ones ones_come refl refl) ones_keep_rules all refl

    pub example_two_calls : FulfilledByCalls 2 twos outs₂ rec room all twos_come
    example_two_calls = from_new 2 (omega arith) outs₂ long₂ rec room made new twos twos_within twos_come (widths_of twos twos_come refl refl) twos_keep_new all refl

    -- what they hear, computed
    pub example_heard :
        (heard 1 rec room all
        ≡ kept (outs₁ 0) ∷ kept (outs₁ 1) ∷ refused 54 (outs₁ 2) ∷ whole 20 900 (1 ∷ 2 ∷ 3 ∷ 4 ∷ 5 ∷ []) (outs₁ 3) ∷ kept [] ∷ refused 57 (outs₁ 5) ∷ [])
        × (heard 2 rec room all
        ≡ kept (outs₂ 0) ∷ kept (outs₂ 1) ∷ refused 54 (outs₂ 2) ∷ whole 1 901 (6 ∷ 7 ∷ []) (outs₂ 3) ∷ kept [] ∷ refused 57 (outs₂ 5) ∷ whole 2 902 (8 ∷ 9 ∷ []) (outs₂ 6) ∷ [])
    unfolding heard_due reply_for laid_out bare due_one cut_from untouched tallied note marked begun done is_open remembers remember is_due forget
    example_heard = (
      example_one_calls.hears ∙ ap (λ (fs : Memory). all_heard_due outs₁ 0 ones_come (due most_remembered ones (start ones fs) ones_come)) (store_starts.begins rec room made new 1 (omega arith)).1,
      example_two_calls.hears ∙ ap (λ (fs : Memory). all_heard_due outs₂ 0 twos_come (due most_remembered twos (start twos fs) twos_come)) (store_starts.begins rec room made new 2 (omega arith)).1,
    )

-- ---- the summary is a count over the slots: neighbours 0 and 3 open a message of one id, and a sweep drops the first (12.4)

abbrev opened : List Turn
opened = sends 0 [] (first 1 1 9 (1 ∷ [])) 0 ∷ sends 3 [] (first 1 1 9 (1 ∷ [])) 10 ∷ sweeps 30 ∷ []

pub example_counted : (rec room : List ℕ) → record_size ≤ length rec → room_size ≤ length room → Counted (last_rec (renewed rec) room opened) (last_room (renewed rec) room opened)
unfolding label_of
example_counted rec room lr lm = summary_of_calls.from_new rec room lr lm opened (width_of opened refl)
