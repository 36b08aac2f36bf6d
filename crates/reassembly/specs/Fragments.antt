-- A fragment, first or follow-on, as the calls take it.
use Rattle.std.specs.Prelude.{false, List, ℕ}
use Rattle.reassembly.specs.declared.Fragment.{Fragment}
use Rattle.reassembly.specs.declared.Fragment.TheVariants as F
use Rattle.reassembly.specs.Calls.{Lent, After, first_taken, follow_on_taken}
use Rattle.reassembly.specs.Shares.{first_call, follow_on_call}

-- what it does to its neighbour's share
abbrev pub fragment_taken : Lent → Fragment → ℕ → List ℕ → After
fragment_taken x (F.First id kind expires) second v = first_taken x (record { id = id; number = 0; last = false; kind = kind; expires = expires }) second v
fragment_taken x (F.FollowOn id number last) second v = follow_on_taken x (record { id = id; number = number; last = last; kind = 0; expires = 0 }) second v

-- the call for it, of neighbour n
abbrev pub fragment_call : Lent → ℕ → Fragment → ℕ → List ℕ → After
fragment_call x n (F.First id kind expires) second v = first_call x n (record { id = id; number = 0; last = false; kind = kind; expires = expires }) second v
fragment_call x n (F.FollowOn id number last) second v = follow_on_call x n (record { id = id; number = number; last = last; kind = 0; expires = 0 }) second v
