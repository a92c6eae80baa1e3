-- Lines whose parts belong to a signature.
use Rattle.std.specs.Prelude.{⊤, ◌<◌, ◌^◌, List}
use Rattle.std.specs.List.{AllByRecursion}
use Rattle.dz_rank.specs.Symbols.{BelongsTo, IsOperatorOf}
use Rattle.dz_rank.specs.declared.rankings.Signature.{Signature}
use Rattle.dz_step.specs.declared.Step.{Step}
use Rattle.dz_move.specs.Moves.{Action, reduce, weed, add, divide, split, factor}
use Rattle.dz_move.specs.Lines.{Line, act, closed, chain, pair, spent, spent_pairs, open_wide, open_separant, open_large}

-- a step by one of the places up to 65,535, with an operator of the signature
pub record IsStepOf (g : Signature) (s : Step) : Type 0 where
  pub place : s.place < 2 ^ 16
  pub operator : IsOperatorOf g.independents s.operator

-- steps of the signature
abbrev pub AreStepsOf : Signature → List Step → Type 0
AreStepsOf g steps = AllByRecursion (λ s. IsStepOf g s) steps

-- the parts of a move or a fork belong to the signature, and places are at most 65,535
abbrev pub IsActionOf : Signature → Action → Type 0
IsActionOf g (reduce i steps) = (i < 2 ^ 16) × AreStepsOf g steps
IsActionOf g (weed j steps) = (j < 2 ^ 16) × AreStepsOf g steps
IsActionOf g (add i j steps) = (i < 2 ^ 16) × (j < 2 ^ 16) × AreStepsOf g steps
IsActionOf g (divide i v) = (i < 2 ^ 16) × BelongsTo g v
IsActionOf g (split i which) = i < 2 ^ 16
IsActionOf g (factor i v) = (i < 2 ^ 16) × BelongsTo g v

-- the parts of a line belong to the signature, and places are at most 65,535
abbrev pub IsLineOf : Signature → Line → Type 0
IsLineOf g (act action) = IsActionOf g action
IsLineOf g closed = ⊤
IsLineOf g chain = ⊤
IsLineOf g (pair e) = (e.first < 2 ^ 16) × (e.second < 2 ^ 16) × AreStepsOf g e.steps
IsLineOf g (spent action) = IsActionOf g action
IsLineOf g spent_pairs = ⊤
IsLineOf g (open_wide action) = IsActionOf g action
IsLineOf g (open_separant i) = i < 2 ^ 16
IsLineOf g (open_large limit action) = IsActionOf g action
