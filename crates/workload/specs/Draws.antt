-- The draws of the workload: a linear congruential generator with a state of 64 bits. A draw steps the state, and its number
-- is the 31 high bits of the new state.
use Rattle.std.specs.Prelude.{ℕ, zero, suc, ◌+◌, ◌*◌, ◌/◌, ◌%◌, ◌^◌}

-- the state after one draw
unfoldable pub stepped : ℕ → ℕ
stepped state = (state * 6364136223846793005 + 1442695040888963407) % 2 ^ 64

-- the state after so many draws
abbrev pub state_after : ℕ → ℕ → ℕ
state_after zero state = state
state_after (suc count) state = stepped (state_after count state)

-- the number that a draw gives, by the state after it
unfoldable pub drawn : ℕ → ℕ
drawn state = state / 2 ^ 33

-- the number of the draw after so many others
abbrev pub draw : ℕ → ℕ → ℕ
draw earlier state = drawn (state_after (suc earlier) state)
