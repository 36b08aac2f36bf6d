-- No ghost opens, and the ids of a store that calls reach are apart, proved. Assumes nothing.
use mathlib.Core.Path.{◌≡◌, sym, ◌∙◌}
use mathlib.Core.Bool.{cond, true≢false}
use mathlib.Core.List.{List, [], ◌∷◌}
use mathlib.Core.Option.{none}
use native.Mathlib.Omega.{arith}
use lib.ListN.{length, replicate}
use Rattle.reassembly.specs.Store.{Store, Answer, bad_length, bad_number, refused, step}
use Rattle.reassembly.specs.Apart.{Apart}
use Rattle.reassembly.specs.Runs.{Call, piece, sweep_at, answered, reached}
use Rattle.reassembly.specs.Calls.{bare, bad_size, off_number}
use Rattle.reassembly.specs.Shares.{lent_to}
use Rattle.reassembly.proofs.Runs.{answered_piece, answered_sweep}
use Rattle.reassembly.proofs.Moves.{Stepped, is_50, is_51, is_57, by_slots, stepped}
use Rattle.reassembly.proofs.Aparts.{free_apart, step_apart, sweep_apart}
use Rattle.reassembly.proofs.Taken.{first_57, follow_57}
use Rattle.reassembly.proofs.OwnShare.{first_stays, follow_stays}
use Rattle.promises.specs.NoGhost.{NoGhost, AlwaysApart, NoGhostCalls}

pub no_ghost : NoGhost
no_ghost keep cap s p second r = go (step keep cap s p second) (stepped keep cap s p second)
  where
    go : (a : Answer) → Stepped keep cap s p second a → a ≡ refused (cond (bad_length p) 50 (cond (bad_number p) 51 57)) s
    go a (is_50 e q) = rw e q
    go a (is_51 e f q) = rw (e, f) q
    go a (is_57 e f g q) = rw (e, f) q
    go a (by_slots e f g q) = absurd (true≢false (sym r ∙ g))

pub always_apart : AlwaysApart
always_apart slots keep hk cs = go cs (record { slots = replicate slots none; remembered = [] }) (free_apart slots keep)
  where
    go : (cs : List Call) (s : Store) → Apart keep s → Apart keep (reached keep s cs)
    go [] s v = v
    go (piece cap p second ∷ cs) s v = go cs (answered keep s (piece cap p second)).store (rw (answered_piece keep cap s p second) (step_apart keep hk cap s v p second))
    go (sweep_at second ∷ cs) s v = go cs (answered keep s (sweep_at second)).store (rw (answered_sweep keep s second) (sweep_apart keep second s v))

-- the calls
pub no_ghost_calls : NoGhostCalls
no_ghost_calls =
    record {
      first_piece_lem = λ n one x h l second v r.
          first_stays x n h.record_long h.room_long (omega arith) l second v (bare (cond (bad_size (length v)) 50 57)) (first_57 (lent_to x n) h.share_made l second v r);
      follow_on_piece = λ n one x h l second v r.
          follow_stays x n h.record_long h.room_long (omega arith) l second v (bare (cond (bad_size (length v)) 50 (cond (off_number l.number) 51 57))) (follow_57 (lent_to x n) h.share_made l second v r);
    }
