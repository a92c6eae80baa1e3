-- What the adapters of std's readers and writers are to their callers.
use Rattle.std.specs.Prelude.{ℕ, List}
use Rattle.std.specs.declared.option.Option.{Option}

-- a reader behind a source: the bytes that the reader has left, where it tells them, and the count of its errors
pub record ReaderState : Type 0 where
  pub left : Option (List ℕ)
  pub faults : ℕ

-- a writer behind a sink: the bytes that the writer holds, where it tells them, and the counts of its errors and stalls
pub record WriterState : Type 0 where
  pub held : Option (List ℕ)
  pub faults : ℕ
  pub stalls : ℕ
