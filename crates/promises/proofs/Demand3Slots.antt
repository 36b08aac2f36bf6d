-- The slots, free or in use, and the answer to a piece of a cut message there. Assumes nothing.
use mathlib.Core.Path.{◌≡◌, refl, ap, ◌∙◌}
use mathlib.Core.Bool.{Bool, true, false, true≢false}
use mathlib.Core.List.{List}
use mathlib.Core.Option.{Option, none, some}
use Prim.Native.Nat.{ℕ, ◌≤◌, ◌<◌}
use lib.ListN.{length, get_or, set, length-set}
use Rattle.reassembly.specs.Sizes.{message_size}
use Rattle.reassembly.specs.Store.{Message, Slots, Rebuilt, SlotsAnswer, plus, complete, answer}
use Rattle.reassembly.proofs.Stores as Stores
use Rattle.promises.specs.Demand3.{Cut, Within, piece_of, cut_from, all_marks}
use Rattle.promises.proofs.Demand3Rebuilt.{Holds, repeats_marked, no_repeat, no_clash, not_too_much, holds_plus, complete_holds, whole_holds, long_enough}

abbrev pub is_full : Option Message → Bool
is_full none = false
is_full (some m) = true

pub not_full : (o : Option Message) → is_full o ≡ false → o ≡ none
not_full none e = refl
not_full (some m) e = absurd (true≢false e)

-- The answer to piece i of c in a slot k whose message m holds the marked pieces of c.
module _ (cap : ℕ) (room : message_size ≤ cap) (s : Slots) (k : ℕ) (inside : k < length s)
    (c : Cut) (w : Within c) (marks : List Bool) (ml : length marks ≡ length c.pieces) (began : ℕ) (m : Message) (h : Holds c marks began m)
    (i : ℕ) (ic : i < length c.pieces) where
  pub answer_repeat : get_or marks i false ≡ true → answer cap s (piece_of c i) k m ≡ record { number = 54; out = none; slots = s }
  answer_repeat e = Stores.answer_repeat cap s (piece_of c i) k m (repeats_marked c w marks ml began m h i ic e)

  set_long : length (set marks i true) ≡ length c.pieces
  set_long = length-set marks i true ∙ ml

  complete_is : (b : Bool) → all_marks (set marks i true) ≡ b → complete (plus m (piece_of c i)) ≡ b
  complete_is b a = complete_holds c w (set marks i true) set_long began (plus m (piece_of c i)) (holds_plus c w marks ml began m h i ic) ∙ a

  module _ (e : get_or marks i false ≡ false) where
    pub answer_kept : all_marks (set marks i true) ≡ false → answer cap s (piece_of c i) k m ≡ record { number = 0; out = none; slots = set s k (some (plus m (piece_of c i))) }
    answer_kept a =
        Stores.answer_kept cap s (piece_of c i) k m
        (no_repeat c w marks ml began m h i ic e) (no_clash c w marks ml began m h i ic e) inside (not_too_much c w marks ml began m h i ic e) (complete_is false a)

    pub answer_finished : all_marks (set marks i true) ≡ true → answer cap s (piece_of c i) k m ≡ record { number = 60; out = some (cut_from c); slots = set s k none }
    answer_finished a =
        Stores.answer_finished cap s (piece_of c i) k m
        (no_repeat c w marks ml began m h i ic e) (no_clash c w marks ml began m h i ic e) inside (not_too_much c w marks ml began m h i ic e) (complete_is true a)
        (long_enough c w (set marks i true) set_long began (plus m (piece_of c i)) (holds_plus c w marks ml began m h i ic) cap room a)
        ∙ ap {B = SlotsAnswer} (λ (x : Rebuilt). record { number = 60; out = some x; slots = set s k none })
        (whole_holds c w (set marks i true) set_long began (plus m (piece_of c i)) (holds_plus c w marks ml began m h i ic) a)
