-- What a source and a sink in memory are to their callers.
use Rattle.std.specs.Prelude.{ℕ, List}

-- a source in memory: the bytes still to come, the most that a read gives, the numbers of the reads that fail, the
-- count of the reads so far and of the faults among them
pub record SourceState : Type 0 where
  pub unread : List ℕ
  pub most : ℕ
  pub fails : List ℕ
  pub reads : ℕ
  pub faults : ℕ

-- a sink in memory: the bytes that it holds and those that it has room for in all, the most that a write takes, the
-- numbers of the writes that fail, the count of the writes so far, and of the faults and stalls among them
pub record SinkState : Type 0 where
  pub held : List ℕ
  pub room : ℕ
  pub most : ℕ
  pub fails : List ℕ
  pub writes : ℕ
  pub faults : ℕ
  pub stalls : ℕ
