-- Schedules as blocks of payloads: they meet every premise. Assumes nothing.
use mathlib.Core.Path.{◌≡◌, refl, sym, ap, ◌∙◌, subst}
use mathlib.Core.Bool.{true}
use mathlib.Core.List.{List, [], ◌∷◌}
use Prim.Native.Nat.{ℕ, suc, ◌+◌, ◌<◌, ◌≤◌}
use native.Mathlib.Omega.{arith}
use lib.ListN.{length, get_or}
use borrow.Author.Tests.{eq-eqb}
use Rattle.wire.specs.Parts.{part, splice}
use Rattle.wire.specs.Numbers.{little, big, big_at}
use Rattle.blocks.specs.Extent.{is_i2np_type, first_fragment, taken_at, extent_at}
use Rattle.blocks.specs.Layout.{sum, fields_at, eight}
use Rattle.blocks.specs.Table.{look, widths, after_fields, field_length}
use Rattle.blocks.specs.Reading.{bytes_at, bytes_after, read_at}
use Rattle.blocks.specs.Writing.{room_after}
use Rattle.reassembly.specs.Sizes.{most_remembered}
use Rattle.reassembly.specs.Memory.{Memory}
use Rattle.reassembly.specs.Store.{first, piece_bytes}
use Rattle.reassembly.specs.Neighbours.{new_neighbours}
use Rattle.reassembly.specs.Stands.{laid_out}
use Rattle.reassembly.specs.Standing.{neighbours_of, AllMade}
use Rattle.numbers_outcomes.specs.Outcomes.{outcome}
use Rattle.promises.specs.Demand3.{Cut, Within, deliver, Past, Allowed, piece_of, cut_from, no_cut, Event, sweep_at, begun, done, is_open, marked, untouched, tallied, start, note, Schedule, due_one, due}
use Rattle.promises.specs.Demand3Calls.{ScheduleInWidth, LongEnough}
use Rattle.promises.specs.Demand3Deliveries.{HasPiece, Loan, Handing, hands, sweeps, Tells, own, tellings, handings, HandedOne, Handed, outcome_due, told_of, told_due, tells_due, all_due, FulfilledByDeliveries, piece_kind, piece_fields}
use Rattle.promises.proofs.Demand3Calls.{store_starts}
use Rattle.promises.proofs.Demand3Deliveries.{demand3_deliveries, written_is_handed}
use Rattle.promises.proofs.Demand3Example.{three_cuts, mixture, within_limits, keeps_rules, many_cuts, seventeen, many_within, many_keep_rules}
use Rattle.promises.proofs.Demand3NeighboursExample.{ones, twos, ones_come, twos_come, ones_within, twos_within, ones_keep_rules}
use Rattle.promises.proofs.Demand3Tests.{all_below_lem}
use Rattle.promises.proofs.Demand3CallsExample.{all_wide, wide_at, widths_of, twos_keep_new}

-- on a new store: no message is open, and none is remembered
from_new : (n : ℕ) → n < 4 → (loans : ℕ → Loan) → LongEnough (λ k. (loans k).out) → (rec room : List ℕ) → AllMade rec room → neighbours_of rec room ≡ new_neighbours
    → (cs : List Cut) → ((c : ℕ) → c < length cs → Within (get_or cs c no_cut))
    → (es : List Event) → ScheduleInWidth cs es → Handed cs loans 0 es → Schedule 4 most_remembered cs (start cs []) es
    → (turns : List Handing) → own n turns ≡ handings n loans 0 es → FulfilledByDeliveries n cs loans rec room turns es
from_new n one loans long rec room made new cs within es widths h q turns asks =
    demand3_deliveries n one loans long rec room (store_starts.begins rec room made new n one).0 cs within es widths h
    (subst (λ (fs : Memory). Schedule 4 most_remembered cs (start cs fs) es) (sym (store_starts.begins rec room made new n one).1) q) turns asks

-- the turns of a schedule are its own
own_handings : (n : ℕ) (loans : ℕ → Loan) (k : ℕ) (es : List Event) → own n (handings n loans k es) ≡ handings n loans k es
own_handings n loans k [] = refl
own_handings n loans k (deliver c i second ∷ es) = rw (eq-eqb n n refl, own_handings n loans (suc k) es) refl
own_handings n loans k (sweep_at second ∷ es) = ap (λ (turns : List Handing). sweeps second ∷ turns) (own_handings n loans (suc k) es)

-- six numbers and nothing else
abbrev told_of_lem : List ℕ → Tells
told_of_lem told = record { outcome = outcome 0 0; out = []; told = told }

-- The first schedule: each piece as the block writer leaves it in some room of 1,512 bytes or more; the repeat and the last late repeat behind another block, at place 3.
module _ (space : List ℕ) (wide : 1512 ≤ length space) where
  abbrev sent : ℕ → ℕ → List ℕ
  sent c i = room_after (piece_kind (piece_of (get_or three_cuts c no_cut) i)) (piece_fields (piece_of (get_or three_cuts c no_cut) i)) (piece_bytes (piece_of (get_or three_cuts c no_cut) i)) space

  is_sent : (c i : ℕ) → c < 3 → is_i2np_type (get_or three_cuts c no_cut).kind ≡ true → i < length (get_or three_cuts c no_cut).pieces → HasPiece (sent c i) 0 (piece_of (get_or three_cuts c no_cut) i)
  is_sent c i h l k = written_is_handed (get_or three_cuts c no_cut) (within_limits c h) l (wide_at three_cuts refl c).0 (wide_at three_cuts refl c).1 i k space wide

  abbrev behind : List ℕ
  behind = 15 ∷ 0 ∷ 0 ∷ 4 ∷ 0 ∷ 11 ∷ 20 ∷ 0 ∷ 0 ∷ 0 ∷ 7 ∷ 0 ∷ 0 ∷ 3 ∷ 132 ∷ 1 ∷ 2 ∷ []

  is_behind : HasPiece behind 3 (first 7 20 900 (1 ∷ 2 ∷ []))
  unfolding read_at fields_at eight bytes_after field_length widths after_fields look sum extent_at taken_at first_fragment is_i2np_type big_at big little part piece_bytes
  is_behind = record { body = bytes_at 15 2; size = 11; next = 17; read = refl; same_bytes = refl }

  abbrev payloads : List (List ℕ)
  payloads = sent 0 0 ∷ sent 0 2 ∷ sent 1 1 ∷ behind ∷ [] ∷ sent 0 1 ∷ sent 0 2 ∷ [] ∷ sent 1 0 ∷ [] ∷ sent 2 0 ∷ sent 1 1 ∷ sent 2 1 ∷ behind ∷ []

  abbrev block_places : List ℕ
  block_places = 0 ∷ 0 ∷ 0 ∷ 3 ∷ 0 ∷ 0 ∷ 0 ∷ 0 ∷ 0 ∷ 0 ∷ 0 ∷ 0 ∷ 0 ∷ 3 ∷ []

  module _ (outs : ℕ → List ℕ) (long : LongEnough outs) (numbers : ℕ → List ℕ) where
    abbrev loans : ℕ → Loan
    loans n = record { payload = get_or payloads n []; at = get_or block_places n 0; out = outs n; told = numbers n }

    all_sent : Handed three_cuts loans 0 mixture
    unfolding is_i2np_type
    all_sent = (is_sent 0 0 (omega arith) refl (omega arith), (is_sent 0 2 (omega arith) refl (omega arith), (is_sent 1 1 (omega arith) refl (omega arith), (is_behind, (tt, (is_sent 0 1 (omega arith) refl (omega arith), (is_sent 0 2 (omega arith) refl (omega arith), (tt, (is_sent 1 0 (omega arith) refl (omega arith), (tt, (is_sent 2 0 (omega arith) refl (omega arith), (is_sent 1 1 (omega arith) refl (omega arith), (is_sent 2 1 (omega arith) refl (omega arith), (is_behind, tt))))))))))))))

    module _ (n : ℕ) (one : n < 4) (rec room : List ℕ) (made : AllMade rec room) (new : neighbours_of rec room ≡ new_neighbours) where
      -- the schedule's turns, and none of the others
      abbrev turns : List Handing
      turns = handings n loans 0 mixture

      pub example_deliveries : FulfilledByDeliveries n three_cuts loans rec room turns mixture
      example_deliveries = from_new n one loans long rec room made new three_cuts within_limits mixture (widths_of three_cuts mixture refl refl) all_sent keeps_rules turns (own_handings n loans 0 mixture)

      -- what is told at the repeat, at the sixth call, which finishes the first message, and at the last late repeat
      pub example_told :
          (get_or (tellings n rec room turns) 3 (told_of_lem []) ≡ record { outcome = outcome 54 3; out = outs 3; told = numbers 3 })
          × (get_or (tellings n rec room turns) 5 (told_of_lem []) ≡ record { outcome = outcome 60 0; out = splice (outs 5) 0 (1 ∷ 2 ∷ 3 ∷ 4 ∷ 5 ∷ []); told = 2 ∷ 20 ∷ 7 ∷ 900 ∷ 0 ∷ 5 ∷ [] })
          × (get_or (tellings n rec room turns) 13 (told_of_lem []) ≡ record { outcome = outcome 57 3; out = outs 13; told = numbers 13 })
      unfolding tells_due outcome_due told_due told_of laid_out due_one cut_from untouched tallied note marked begun done is_open
      example_told =
          let t : tellings n rec room turns ≡ all_due three_cuts loans 0 mixture (due most_remembered three_cuts (start three_cuts []) mixture) =
          example_deliveries.tells ∙ ap (λ (fs : Memory). all_due three_cuts loans 0 mixture (due most_remembered three_cuts (start three_cuts fs) mixture)) (store_starts.begins rec room made new n one).1 in (
            ap (λ (l : List Tells). get_or l 3 (told_of_lem [])) t,
            ap (λ (l : List Tells). get_or l 5 (told_of_lem [])) t,
            ap (λ (l : List Tells). get_or l 13 (told_of_lem [])) t,
          )

-- Payloads for any schedule: what the block writer leaves in a room for the piece of an event; none for a sweep
module _ (space : List ℕ) (roomy : 1512 ≤ length space) (cs : List Cut) (within : (c : ℕ) → c < length cs → Within (get_or cs c no_cut))
    (listed : (c : ℕ) → c < length cs → is_i2np_type (get_or cs c no_cut).kind ≡ true) (wide : all_wide cs ≡ true) (outs numbers : ℕ → List ℕ) where
  abbrev sent_for : Event → List ℕ
  sent_for (deliver c i second) = room_after (piece_kind (piece_of (get_or cs c no_cut) i)) (piece_fields (piece_of (get_or cs c no_cut) i)) (piece_bytes (piece_of (get_or cs c no_cut) i)) space
  sent_for (sweep_at second) = []

  abbrev pub loans_for : (ℕ → Event) → ℕ → Loan
  loans_for f n = record { payload = sent_for (f n); at = 0; out = outs n; told = numbers n }

  -- such blocks hand in the schedule's pieces
  pub handed_for : (f : ℕ → Event) (es : List Event) (n : ℕ) (past : Past) → Schedule 4 most_remembered cs past es → ((k : ℕ) → f (n + k) ≡ get_or es k (sweep_at 0)) → Handed cs (loans_for f) n es
  handed_for f [] n past q h = tt
  handed_for f (e ∷ es) n past q h = (one e q.0 here, handed_for f es (suc n) (note most_remembered cs past e) q.2 later)
    where
      here : f n ≡ e
      here = let z : n ≡ n + 0 = omega arith in ap f z ∙ h 0

      later : (k : ℕ) → f (suc n + k) ≡ get_or es k (sweep_at 0)
      later k = let z : suc n + k ≡ n + suc k = omega arith in ap f z ∙ h (suc k)

      one : (e : Event) → Allowed cs past e → f n ≡ e → HandedOne cs (loans_for f n) e
      one (sweep_at second) a g = tt
      one (deliver c i second) a g =
          subst (λ (x : Event). HasPiece (sent_for x) 0 (piece_of (get_or cs c no_cut) i)) (sym g)
          (written_is_handed (get_or cs c no_cut) (within c a.0) (listed c a.0) (wide_at cs wide c).0 (wide_at cs wide c).1 i a.1 space roomy)

-- late repeats, push-outs and a sweep that forgets, with 16 remembered
pub many_listed : (c : ℕ) → c < length many_cuts → is_i2np_type (get_or many_cuts c no_cut).kind ≡ true
unfolding is_i2np_type
many_listed c h = all_below_lem 19 (λ c. is_i2np_type (get_or many_cuts c no_cut).kind) refl c h

pub ones_listed : (c : ℕ) → c < length ones → is_i2np_type (get_or ones c no_cut).kind ≡ true
unfolding is_i2np_type
ones_listed c h = all_below_lem 1 (λ c. is_i2np_type (get_or ones c no_cut).kind) refl c h

pub twos_listed : (c : ℕ) → c < length twos → is_i2np_type (get_or twos c no_cut).kind ≡ true
unfolding is_i2np_type
twos_listed c h = all_below_lem 2 (λ c. is_i2np_type (get_or twos c no_cut).kind) refl c h

-- the k-th event of a schedule
abbrev nth : List Event → ℕ → Event
nth es k = get_or es k (sweep_at 0)

nth_from : (es : List Event) (k : ℕ) → nth es (0 + k) ≡ nth es k
nth_from es k = let z : 0 + k ≡ k = omega arith in ap (nth es) z

module _ (space : List ℕ) (roomy : 1512 ≤ length space) (rec room : List ℕ) (made : AllMade rec room) (new : neighbours_of rec room ≡ new_neighbours) where
  module _ (n : ℕ) (one : n < 4) (outs numbers : ℕ → List ℕ) (long : LongEnough outs) where
    abbrev many_loans : ℕ → Loan
    many_loans = loans_for space roomy many_cuts many_within many_listed refl outs numbers (nth seventeen)

    pub example_many_deliveries : FulfilledByDeliveries n many_cuts many_loans rec room (handings n many_loans 0 seventeen) seventeen
    example_many_deliveries =
        from_new n one many_loans long rec room made new many_cuts many_within seventeen (widths_of many_cuts seventeen refl refl)
        (handed_for space roomy many_cuts many_within many_listed refl outs numbers (nth seventeen) seventeen 0 (start many_cuts []) many_keep_rules (nth_from seventeen))
        many_keep_rules (handings n many_loans 0 seventeen) (own_handings n many_loans 0 seventeen)

  -- neighbours 1 and 2 use one id at the same time, beside others that hand in any blocks of any payloads
  module _ (outs₁ outs₂ numbers₁ numbers₂ : ℕ → List ℕ) (long₁ : LongEnough outs₁) (long₂ : LongEnough outs₂) (a b c : Loan) where
    abbrev l₁ : ℕ → Loan
    l₁ = loans_for space roomy ones ones_within ones_listed refl outs₁ numbers₁ (nth ones_come)

    abbrev l₂ : ℕ → Loan
    l₂ = loans_for space roomy twos twos_within twos_listed refl outs₂ numbers₂ (nth twos_come)

    abbrev all : List Handing
    all =
        hands 0 a 99 ∷ hands 1 (l₁ 0) 100 ∷ hands 2 (l₂ 0) 100 ∷ hands 0 b 101 ∷ hands 9 a 101 ∷ hands 1 (l₁ 1) 102 ∷ hands 2 (l₂ 1) 103 ∷ hands 2 (l₂ 2) 103
        ∷ hands 3 c 103 ∷ hands 1 (l₁ 2) 104 ∷ hands 2 (l₂ 3) 105 ∷ hands 0 a 105 ∷ hands 1 (l₁ 3) 106 ∷ sweeps 131 ∷ hands 0 c 131 ∷ hands 1 (l₁ 5) 132
        ∷ hands 2 (l₂ 5) 132 ∷ hands 3 b 132 ∷ hands 2 (l₂ 6) 133 ∷ []

    pub example_one : FulfilledByDeliveries 1 ones l₁ rec room all ones_come
    example_one =
        from_new 1 (omega arith) l₁ long₁ rec room made new ones ones_within ones_come (widths_of ones ones_come refl refl)
        (handed_for space roomy ones ones_within ones_listed refl outs₁ numbers₁ (nth ones_come) ones_come 0 (start ones []) ones_keep_rules (nth_from ones_come))
        ones_keep_rules all refl

    pub example_two : FulfilledByDeliveries 2 twos l₂ rec room all twos_come
    example_two =
        from_new 2 (omega arith) l₂ long₂ rec room made new twos twos_within twos_come (widths_of twos twos_come refl refl)
        (handed_for space roomy twos twos_within twos_listed refl outs₂ numbers₂ (nth twos_come) twos_come 0 (start twos []) twos_keep_new (nth_from twos_come))
        twos_keep_new all refl

    -- what is told of the message 7 of each, and at the late repeats
    pub example_told_two :
        (get_or (tellings 1 rec room all) 3 (told_of_lem []) ≡ record { outcome = outcome 60 0; out = splice (outs₁ 3) 0 (1 ∷ 2 ∷ 3 ∷ 4 ∷ 5 ∷ []); told = 2 ∷ 20 ∷ 7 ∷ 900 ∷ 0 ∷ 5 ∷ [] })
        × (get_or (tellings 2 rec room all) 3 (told_of_lem []) ≡ record { outcome = outcome 60 0; out = splice (outs₂ 3) 0 (6 ∷ 7 ∷ []); told = 2 ∷ 1 ∷ 7 ∷ 901 ∷ 0 ∷ 2 ∷ [] })
        × (get_or (tellings 1 rec room all) 5 (told_of_lem []) ≡ record { outcome = outcome 57 0; out = outs₁ 5; told = numbers₁ 5 })
        × (get_or (tellings 2 rec room all) 5 (told_of_lem []) ≡ record { outcome = outcome 57 0; out = outs₂ 5; told = numbers₂ 5 })
    unfolding tells_due outcome_due told_due told_of laid_out due_one cut_from untouched tallied note marked begun done is_open
    example_told_two =
        let t : tellings 1 rec room all ≡ all_due ones l₁ 0 ones_come (due most_remembered ones (start ones []) ones_come) =
        example_one.tells ∙ ap (λ (fs : Memory). all_due ones l₁ 0 ones_come (due most_remembered ones (start ones fs) ones_come)) (store_starts.begins rec room made new 1 (omega arith)).1 in
        let u : tellings 2 rec room all ≡ all_due twos l₂ 0 twos_come (due most_remembered twos (start twos []) twos_come) =
        example_two.tells ∙ ap (λ (fs : Memory). all_due twos l₂ 0 twos_come (due most_remembered twos (start twos fs) twos_come)) (store_starts.begins rec room made new 2 (omega arith)).1 in (
          ap (λ (l : List Tells). get_or l 3 (told_of_lem [])) t,
          ap (λ (l : List Tells). get_or l 3 (told_of_lem [])) u,
          ap (λ (l : List Tells). get_or l 5 (told_of_lem [])) t,
          ap (λ (l : List Tells). get_or l 5 (told_of_lem [])) u,
        )
