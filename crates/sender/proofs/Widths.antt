-- A sender that calls made has room in its record: its numbers are small, and no packet was resent as often as its number says. Assumes nothing.
use mathlib.Core.Path.{◌≡◌, refl}
use mathlib.Core.Bool.{Bool, true, false, not, cond, ◌||◌, false≢true}
use mathlib.Core.List.{List, [], ◌∷◌, ◌++◌}
use Prim.Native.Nat.{ℕ, zero, suc, ◌+◌, ◌^◌, ◌≤◌, ◌<◌}
use native.Mathlib.Omega.{arith}
use lib.Dec.{leb, eqb}
use lib.ListN.{length, get_or}
use borrow.Author.Tests.{eqb-true}
use Rattle.acks.specs.History.{among}
use Rattle.acks.specs.Expanding.{ack_numbers}
use Rattle.sender.specs.Sender.{Packet, Sender, Call, send, resend, ack, numbers_of, those, without, resends_of, next_packet, answer_by, taken, called}
use Rattle.sender.specs.History.{sender_by}
use Rattle.sender.specs.Recorded.{no_packet, PacketInWidth, SenderInWidth, SecondsInWidth}
use Rattle.sender.proofs.Answers.{resend_taken}
use Rattle.sender.proofs.Calls.{called_sender}
use Rattle.sender.proofs.Histories.{at_most, at_most_last}

-- ---- each packet of a list is such
abbrev pub Each : (Packet → Type 0) → List Packet → Type 0
Each Such [] = Unit
Each Such (p ∷ ps) = Such p × Each Such ps

module _ (Such : Packet → Type 0) where
  pub each_more : (ps : List Packet) (p : Packet) → Each Such ps → Such p → Each Such (ps ++ (p ∷ []))
  each_more [] p all such = (such, tt)
  each_more (q ∷ ps) p all such = (all.0, each_more ps p all.1 such)

  pub each_those : (t : ℕ → Bool) (ps : List Packet) → Each Such ps → Each Such (those t ps)
  unfolding those
  each_those t [] all = tt
  each_those t (p ∷ ps) all = go (t p.number) (each_those t ps all.1)
    where
      go : (b : Bool) → Each Such (those t ps) → Each Such (cond b (p ∷ those t ps) (those t ps))
      go true more = (all.0, more)
      go false more = more

  pub each_without : (n : ℕ) (ps : List Packet) → Each Such ps → Each Such (without n ps)
  unfolding without
  each_without n [] all = tt
  each_without n (p ∷ ps) all = go (eqb n p.number) (each_without n ps all.1)
    where
      go : (b : Bool) → Each Such (without n ps) → Each Such (cond b ps (p ∷ without n ps))
      go true more = all.1
      go false more = (all.0, more)

  -- by its place
  pub each_at : (ps : List Packet) (k : ℕ) (d : Packet) → Each Such ps → k < length ps → Such (get_or ps k d)
  each_at [] k d all h = absurd (omega arith)
  each_at (p ∷ ps) zero d all h = all.0
  each_at (p ∷ ps) (suc k) d all h = each_at ps k d all.1 (omega arith)

pub each_such : (Such So : Packet → Type 0) → ((p : Packet) → Such p → So p) → (ps : List Packet) → Each Such ps → Each So ps
each_such Such So f [] all = tt
each_such Such So f (p ∷ ps) all = (f p all.0, each_such Such So f ps all.1)

pub each_both : (Such So Both : Packet → Type 0) → ((p : Packet) → Such p → So p → Both p) → (ps : List Packet) → Each Such ps → Each So ps → Each Both ps
each_both Such So Both f [] all too = tt
each_both Such So Both f (p ∷ ps) all too = (f p all.0 too.0, each_both Such So Both f ps all.1 too.1)

-- ---- numbers and resends
-- a number that is not above the highest; each resend used up a number of its own
pub record Numbered (highest : ℕ) (p : Packet) : Type 0 where
  pub not_above : p.number ≤ highest
  pub resent_less : p.resends < p.number

resends_below : (highest : ℕ) (ps : List Packet) (n : ℕ) → Each (Numbered highest) ps → among (numbers_of ps) n ≡ true → resends_of ps n < highest
unfolding among numbers_of resends_of
resends_below highest [] n all h = absurd (false≢true h)
resends_below highest (p ∷ ps) n all h = go (eqb n p.number) h (resends_below highest ps n all.1)
  where
    go :
        (b : Bool) → (b || among (numbers_of ps) n) ≡ true → (among (numbers_of ps) n ≡ true → resends_of ps n < highest)
        → cond b p.resends (resends_of ps n) < highest
    go true h more = omega (arith, all.0.not_above, all.0.resent_less)
    go false h more = more h

-- more so where the highest is higher
numbered_more : (highest : ℕ) (ps : List Packet) → Each (Numbered highest) ps → Each (Numbered (highest + 1)) ps
numbered_more highest =
    each_such (Numbered highest) (Numbered (highest + 1)) (λ p w. record { not_above = omega (arith, w.not_above); resent_less = w.resent_less })

numbered_taken : (s : Sender) (c : Call) → answer_by s c ≡ 0 → Each (Numbered s.highest) s.packets → Each (Numbered (taken s c).highest) (taken s c).packets
unfolding taken answer_by
numbered_taken s (send second) e all =
    each_more (Numbered (s.highest + 1)) s.packets (next_packet s.highest second 0)
    (numbered_more s.highest s.packets all)
    (record { not_above = omega arith; resent_less = omega arith })
numbered_taken s (resend n second) e all =
    let out = (resend_taken s.highest (λ k. leb k s.highest) (numbers_of s.packets) n second e).1 in
    let less = resends_below s.highest s.packets n all out in
    each_more (Numbered (s.highest + 1)) (without n s.packets) (next_packet s.highest second (resends_of s.packets n + 1))
    (numbered_more s.highest (without n s.packets) (each_without (Numbered s.highest) n s.packets all))
    (record { not_above = omega arith; resent_less = omega (arith, less) })
numbered_taken s (ack through count pairs) e all =
    each_those (Numbered s.highest) (λ n. not (among (ack_numbers through count pairs) n)) s.packets all

numbered_called : (s : Sender) (c : Call) → Each (Numbered s.highest) s.packets → Each (Numbered (called s c).sender.highest) (called s c).sender.packets
numbered_called s c all = rw (called_sender s c) (go (eqb (answer_by s c) 0) refl)
  where
    go : (b : Bool) → eqb (answer_by s c) 0 ≡ b → Each (Numbered (cond b (taken s c) s).highest) (cond b (taken s c) s).packets
    go true e = numbered_taken s c (eqb-true (answer_by s c) 0 e) all
    go false e = all

pub numbered : (h : List Call) → Each (Numbered (sender_by h).highest) (sender_by h).packets
unfolding sender_by
numbered [] = tt
numbered (c ∷ past) = numbered_called (sender_by past) c (numbered past)

-- ---- seconds
abbrev SecondFits : Packet → Type 0
SecondFits p = p.second < 256 ^ 8

module _ (s : Sender) (all : Each SecondFits s.packets) where
  -- what a call leaves, where each packet of the list after it fits
  seconds_called : (c : Call) → Each SecondFits (taken s c).packets → Each SecondFits (called s c).sender.packets
  seconds_called c after = rw (called_sender s c) (go (eqb (answer_by s c) 0))
    where
      go : (b : Bool) → Each SecondFits (cond b (taken s c) s).packets
      go true = after
      go false = all

  seconds_send : (second : ℕ) → second < 256 ^ 8 → Each SecondFits (taken s (send second)).packets
  unfolding taken
  seconds_send second fits = each_more SecondFits s.packets (next_packet s.highest second 0) all fits

  seconds_resend : (n second : ℕ) → second < 256 ^ 8 → Each SecondFits (taken s (resend n second)).packets
  unfolding taken
  seconds_resend n second fits =
      each_more SecondFits (without n s.packets) (next_packet s.highest second (resends_of s.packets n + 1)) (each_without SecondFits n s.packets all) fits

  seconds_ack : (through count : ℕ) (pairs : List ℕ) → Each SecondFits (taken s (ack through count pairs)).packets
  unfolding taken
  seconds_ack through count pairs = each_those SecondFits (λ n. not (among (ack_numbers through count pairs) n)) s.packets all

pub seconds : (h : List Call) → SecondsInWidth h → Each SecondFits (sender_by h).packets
unfolding sender_by
seconds [] w = tt
seconds (send second ∷ past) w =
    let all = seconds past w.1 in
    seconds_called (sender_by past) all (send second) (seconds_send (sender_by past) all second w.0)
seconds (resend n second ∷ past) w =
    let all = seconds past w.1 in
    seconds_called (sender_by past) all (resend n second) (seconds_resend (sender_by past) all n second w.0)
seconds (ack through count pairs ∷ past) w =
    let all = seconds past w in
    seconds_called (sender_by past) all (ack through count pairs) (seconds_ack (sender_by past) all through count pairs)

-- ---- both
fits : (highest : ℕ) → highest < 256 ^ 4 → (p : Packet) → Numbered highest p → SecondFits p → PacketInWidth p
fits highest top p a b =
    record { number_fits = omega (arith, a.not_above, top); second_fits = b; resends_fit = omega (arith, a.not_above, a.resent_less, top) }

pub in_width : (h : List Call) → SecondsInWidth h → SenderInWidth (sender_by h)
in_width h w =
    let top : (sender_by h).highest < 256 ^ 4 = omega (arith, at_most_last h) in
    record {
      highest_fits = top;
      few = at_most h;
      each = λ k.
          each_at PacketInWidth (sender_by h).packets k no_packet
          (each_both (Numbered (sender_by h).highest) SecondFits PacketInWidth (fits (sender_by h).highest top) (sender_by h).packets (numbered h) (seconds h w));
    }
