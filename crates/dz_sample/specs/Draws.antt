-- Draws: a state follows from the one before, and a draw tells the upper part of it.
use Rattle.std.specs.Prelude.{ℕ, zero, suc, ◌+◌, ◌*◌, ◌/◌, ◌%◌}
use Rattle.dz_sample.specs.declared.draws.Draws.{Draws}

-- the state behind one more draw
abbrev pub next_state : ℕ → ℕ
next_state s = (s * 1103515245 + 12345) % 2147483648

-- the number below m that is drawn with a state
abbrev pub drawn_number : ℕ → ℕ → ℕ
drawn_number m s = s / 65536 % m

-- the state behind n draws
unfoldable pub state_after : ℕ → ℕ → ℕ
state_after seed zero = seed
state_after seed (suc n) = next_state (state_after seed n)

-- the number below m that the n-th draw gives, counted from 1
abbrev pub draw : ℕ → ℕ → ℕ → ℕ
draw seed n m = drawn_number m (state_after seed n)

abbrev pub state_of : Draws → ℕ
state_of d = d.state
