-- The counter of connections: what a drawer knows, the rule of its table, and what each step tells. It serves private clauses only.
--
-- The table has one word, the next number, and a view for each drawer that was made. In brackets is the sentence of the rule that
-- a field belongs to:
--   [1] The numbers below the word are those of the drawers that were not taken in, each once. No other number was drawn.
--   [2] Only the first drawer is split, at most WORKERS_MAX times. There is one drawer more than it was split.
--   [3] A number from the connections on is no connection's. The word is at most the connections and the numbers drawn that are no
--       connection's, and each drawer draws at most one such number: so the word never wraps.
use Rattle.std.specs.Prelude.{◌≡◌, ℕ, ◌+◌, ◌-◌, ◌<◌, ◌≤◌, cond, nat_le, List, [], ◌∷◌, ◌++◌, length}
use mathlib.Core.Option.{some}
use lib.ListN.{get_elem?}
use Rattle.atomic_table.specs.Table.{State, Me, Step}
use Rattle.turn_desk.specs.Numbers.{times_in, IsAmong, AreDistinct}
use Rattle.turn_desk.specs.Rule.{total}
use Rattle.server.specs.declared.limits.TheConstants.{CONNECTIONS_MAX, WORKERS_MAX}
use Rattle.server.specs.declared.counter.Drawn.{Drawn}

-- how many of these numbers are no connection's
abbrev pub above : ℕ → List ℕ → ℕ
above connections [] = 0
above connections (n ∷ numbers) = cond (nat_le connections n) 1 0 + above connections numbers

-- The view after each step.

-- the first drawer
abbrev pub new_drawn : ℕ → Drawn
new_drawn connections = record { connections = connections; numbers = []; parts = 1; splits = WORKERS_MAX }

abbrev pub kept_drawn : Drawn → Drawn
kept_drawn v = record v { splits = v.splits - 1 }

abbrev pub new_part : Drawn → Drawn
new_part v = record { connections = v.connections; numbers = []; parts = 1; splits = 0 }

abbrev pub joined_drawn : Drawn → Drawn → Drawn
joined_drawn v other = record { connections = v.connections; numbers = v.numbers ++ other.numbers; parts = v.parts + other.parts; splits = v.splits + other.splits }

-- what is left of a drawer that was taken in
abbrev pub spent_drawn : Drawn
spent_drawn = record { connections = 0; numbers = []; parts = 0; splits = 0 }

-- The rule.

-- of one view
pub record DrawnRule (connections : ℕ) (v : Drawn) : Type 0 where
  -- [1]
  pub spent : v.parts ≡ 0 → v.numbers ≡ []
  -- [3]
  pub few_above : above connections v.numbers ≤ v.parts
  pub connections_are : 0 < v.parts → v.connections ≡ connections

pub record CounterRule (connections : ℕ) (table : State (Unit {0}) Drawn) : Type 0 where
  pub word : ℕ
  pub words : table.words ≡ word ∷ []
  pub each : (i : ℕ) (v : Drawn) → get_elem? table.views i ≡ some v → DrawnRule connections v
  -- [1]
  pub once : (k : ℕ) → k < word → total (λ v. times_in k v.numbers) table.views ≡ 1
  pub unborn : (k : ℕ) → word ≤ k → total (λ v. times_in k v.numbers) table.views ≡ 0
  -- [2]
  pub parts : total (λ v. v.parts) table.views ≡ length table.views
  pub splits : total (λ v. v.splits) table.views + length table.views ≡ WORKERS_MAX + 1
  -- [3]
  pub bound : word ≤ connections + total (λ v. above connections v.numbers) table.views
  pub few : connections ≤ CONNECTIONS_MAX

-- What each step tells: the seat before, the word found, the seat after.

-- the number drawn is above all that the drawer has drawn
abbrev pub draws : Step (Unit {0}) → Me (Unit {0}) Drawn → ℕ → Me (Unit {0}) Drawn → Type 0
draws step m found m' = (m' ≡ (record m.0 { numbers = m.0.numbers ++ found ∷ [] }, m.1)) × ((k : ℕ) → IsAmong k m.0.numbers → k < found)

-- no number was drawn twice
abbrev pub learns : Step (Unit {0}) → Me (Unit {0}) Drawn → ℕ → Me (Unit {0}) Drawn → Type 0
learns step m found m' = (m' ≡ m) × AreDistinct m.0.numbers

-- what a drawer that has taken in all others knows: its numbers are those below the word, each once
pub record Whole (v : Drawn) : Type 0 where
  pub word : ℕ
  pub once : (k : ℕ) → k < word → times_in k v.numbers ≡ 1
  pub unborn : (k : ℕ) → word ≤ k → times_in k v.numbers ≡ 0
  pub bound : word ≤ v.connections + above v.connections v.numbers

abbrev pub learns_whole : Step (Unit {0}) → Me (Unit {0}) Drawn → ℕ → Me (Unit {0}) Drawn → Type 0
learns_whole step m found m' = (m' ≡ m) × Whole m.0
