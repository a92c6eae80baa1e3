-- When a fault or a stall may be told: only where its count has risen.
use Rattle.std.specs.Prelude.{◌≡◌, ℕ, ◌+◌, ◌-◌, ◌^◌, ◌<◌, ◌≤◌, ◌==◌, ◌&&◌, if◌then◌else◌, min, nat_lt, List, length, Result, OnErr, IfOk}

-- a count that rose by one, or stands at its last value
abbrev pub next_count : ℕ → ℕ
next_count count = min (count + 1) (2 ^ 64 - 1)

-- the count is greater than before, or stands at its last value
abbrev pub Rose : ℕ → ℕ → Type 0
Rose before now = next_count before ≤ now

-- the count of faults never falls, and has risen at `Failed`
pub record HasCause {T E : Type 0} (before now : ℕ) (result : Result T E) : Type 0 where
  pub later : before ≤ now
  pub failed : OnErr result (Rose before now)

-- the count of stalls never falls, and has risen where nothing of a nonempty piece was taken
pub record HasStall {E : Type 0} (before now : ℕ) (result : Result ℕ E) (piece : List ℕ) : Type 0 where
  pub later : before ≤ now
  pub stalled : IfOk result (λ count. count ≡ 0 → 0 < length piece → Rose before now)

-- the count of stalls after a write took so many bytes of a piece of that size
abbrev pub stalls_after : ℕ → ℕ → ℕ → ℕ
stalls_after stalls taken size = if taken == 0 && nat_lt 0 size then next_count stalls else stalls
