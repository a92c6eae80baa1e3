-- How canonical texts are written, piece by piece. No public clause cites this file.
use Rattle.std.specs.Prelude.{ℕ, Bool, false, cond, List, [], ◌∷◌, ◌++◌}

-- texts, each after a mark, but for the first where nothing was written before it
abbrev pub marked : List ℕ → Bool → List (List ℕ) → List ℕ
marked mark first [] = []
marked mark first (text ∷ texts) = cond first [] mark ++ text ++ marked mark false texts
