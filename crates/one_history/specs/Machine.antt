-- A machine's fields: a history, and for each caller that waits the place and the reply that it will be told.
use Rattle.std.specs.Prelude.{ℕ, List, map, nat_eq, All}
use Rattle.std.specs.List.{IsDistinct}
use Rattle.std.specs.Map.{keys_of}
use Rattle.one_history.specs.declared.entry.Entry.{Entry}
use Rattle.one_history.specs.declared.entry.Told.{Told}
use Rattle.one_history.specs.Core.{Core}
use Rattle.one_history.specs.History.{IsReplyTo}

-- the callers that wait, with the places of their events
unfoldable pub places_kept : {R : Type 0} → List (ℕ × Told R) → List (ℕ × ℕ)
places_kept kept = map (λ k. (k.0, k.1.at)) kept

-- the core that a machine shows
abbrev pub core_of : {M R : Type 0} → List (Entry M) → List (ℕ × Told R) → Core M
core_of history kept = record { history = history; waiting = places_kept kept }

-- at most one reply is kept for a caller, and it is the reply at the place of an entry of its own
pub record IsMachine {S M R : Type 0} (next : S → ℕ → ℕ → M → S) (start : S) (reply : S → ℕ → ℕ → M → R) (history : List (Entry M)) (kept : List (ℕ × Told R)) : Type 0 where
  pub once : IsDistinct nat_eq (keys_of kept)
  pub replies : All (λ k. IsReplyTo next start reply history k.0 k.1) kept
