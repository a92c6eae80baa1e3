-- Trees: the states at their lines, their ends, and the verdict (this project).
use Rattle.std.specs.Prelude.{ℕ, ◌+◌, nat_le, Bool, true, ◌&&◌, cond, List, [], ◌∷◌, ◌++◌, length, map, filter, Result, Ok, Err}
use Rattle.dz_algebra.specs.Outcome.{◌>>=◌, needs, told_as}
use Rattle.dz_diff.specs.Operations.{Setting}
use Rattle.dz_diff.specs.State.{State}
use Rattle.dz_move.specs.Root.{System, is_closed, root_of}
use Rattle.dz_move.specs.declared.Rule.{Rule}
use Rattle.dz_move.specs.declared.Rule.TheVariants as rules
use Rattle.dz_move.specs.Fault.{Fault, rule_of}
use Rattle.dz_move.specs.Moves.{perform}
use Rattle.dz_tree.specs.Chain.{chain_weight}
use Rattle.dz_move.specs.Lines.{Evidence, Line, act, closed, chain, pair, Entry, entries_of, is_chain_line}
use Rattle.dz_tree.specs.Trees.{Tree}
use Rattle.dz_check.specs.Reasons.{reason_holds}

-- an end that is not closed, with the state at it
pub record End : Type 0 where
  pub line : Line
  pub state : State

-- what an entry leaves below a state: states, or an end; and its weight
pub record Below : Type 0 where
  pub states : List State
  pub ends : List End
  pub weight : ℕ

-- below a closed end
abbrev pub nothing_below : Below
nothing_below = record { states = []; ends = []; weight = 0 }

-- below another end
abbrev pub ended : Line → State → ℕ → Below
ended line s w = record { states = []; ends = record { line = line; state = s } ∷ []; weight = w }

-- the rule of a fault, without the number of steps, at the first line of an entry
abbrev pub told_at_line : ℕ × Fault → ℕ × Rule
told_at_line e = (0, rule_of e.1)

-- what an entry leaves below a state, at a running weight; or the first rule that fails, with the number of its line in the
-- entry
unfoldable pub entered : Setting → ℕ → ℕ → State → Line → List Evidence → Result Below (ℕ × Rule)
entered g budget w s (act action) es = do
  d ← told_as told_at_line (perform g s action)
  _ ← needs (nat_le (w + d.weight) budget) (0, rules.Weight)
  Ok (record { states = d.after; ends = []; weight = d.weight })
entered g budget w s closed es = needs (is_closed g.symbols s) (0, rules.Closed) >>= (λ _. Ok nothing_below)
entered g budget w s chain es = chain_weight g s (λ n. nat_le (w + n) budget) es >>= (λ n. Ok (ended chain s n))
entered g budget w s (pair e) es = Err (0, rules.Pairs)
entered g budget w s line es = needs (reason_holds g budget w s line es) (0, rules.Reason) >>= (λ _. Ok (ended line s 0))

-- the ends below the pending states, the first of which is that of the next line; place is the number of this line
abbrev pub walk : Setting → ℕ → ℕ → ℕ → List State → List Entry → Result (List End) (ℕ × Rule)
walk g budget w place [] [] = Ok []
walk g budget w place [] (e ∷ es) = Err (place, rules.Reason)
walk g budget w place (s ∷ pending) [] = Err (place, rules.Reason)
walk g budget w place (s ∷ pending) (e ∷ es) =
    elim (entered g budget w s e.line e.evidence) [
      | Err r ↦ Err (place + r.0, r.1)
      | Ok b ↦ walk g budget (w + b.weight) (place + 1 + length e.evidence) (b.states ++ pending) es >>= (λ ends. Ok (b.ends ++ ends))
    ]

-- the ends of a certified tree, or the first line and rule that fails
unfoldable pub ends_of : Setting → System → Tree → Result (List End) (ℕ × Rule)
ends_of g system tree = walk g tree.budget 0 1 (root_of g.symbols system ∷ []) (entries_of tree.lines)

-- ---- the verdict
-- certified and complete; certified; or rejected at a line, by a rule
pub data Verdict : Type 0 where
  accepted : Verdict
  partial : Verdict
  rejected : ℕ → Rule → Verdict

-- the end is a chain
abbrev pub is_chain_end : End → Bool
is_chain_end e = is_chain_line e.line

-- every end is a chain
abbrev pub all_chains : List End → Bool
all_chains [] = true
all_chains (e ∷ es) = is_chain_end e && all_chains es

-- the verdict on a tree with these ends
abbrev pub judged : Result (List End) (ℕ × Rule) → Verdict
judged (Ok ends) = cond (all_chains ends) accepted partial
judged (Err r) = rejected r.0 r.1

-- the verdict on a tree for a system
abbrev pub verdict_of : Setting → System → Tree → Verdict
verdict_of g system tree = judged (ends_of g system tree)

-- the states of the chains, in order
abbrev pub chains_of : List End → List State
chains_of ends = map (λ e. e.state) (filter is_chain_end ends)

-- the ends of a tree; none where it is not certified
abbrev pub ends_in : Result (List End) (ℕ × Rule) → List End
ends_in (Ok ends) = ends
ends_in (Err r) = []
