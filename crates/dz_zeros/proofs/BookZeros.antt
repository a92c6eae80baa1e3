-- Zero sets of what stands in a book.
use Rattle.std.specs.Prelude.{◌↔◌}
use Rattle.std.proofs.Common.{ℕ, List}
use Rattle.dz_algebra.specs.Domain.{DomainLaws, Operations}
use Rattle.dz_domain.specs.Point.{Coordinates, FitsSignature, IsPoint}
use Rattle.dz_poly.specs.Books.{BookValue, IsBook, Lives, polynomial}
use Rattle.dz_monomials.specs.Lists.{SomeOf}
use Rattle.dz_diff.specs.Operations.{setting_of}
use Rattle.dz_diff.specs.Over.{AreOver}
use Rattle.dz_diff.specs.States.{LiveAll, StandsIn, StateValue, polynomials, state_in}
use Rattle.dz_domain.proofs.PointValues.{keepable}
use Rattle.dz_check.specs.Certified.{IsCertified}
use Rattle.dz_move.specs.Systems.{IsSystemIn, SystemValue, system_in}
use Rattle.dz_tree.specs.Trees.{Tree}
use Rattle.dz_check.specs.Walk.{ends_in, ends_of}
use Rattle.dz_move.proofs.RootFacts.{all_over}
use Rattle.dz_zeros.specs.Runs.{RunsToZero}
use Rattle.dz_zeros.specs.Solves.{HasValueZero, Solves, SolvesState}
use Rattle.dz_zeros.proofs.ZeroSetLaws.{zero_sets}

module _ {E : Type 0} {o : Operations E} (laws : DomainLaws o) (c : Coordinates E) (point : IsPoint o c) (book : BookValue) (is_book : IsBook book) (fits : FitsSignature book.ranking.signature c) where
  -- two lists of a book are over its ranking
  are_over : (es hs : List ℕ) → LiveAll book es → LiveAll book hs → AreOver book.ranking (polynomials book es) (polynomials book hs)
  are_over es hs e h = record { equations_over = all_over book is_book es e; inequations_over = all_over book is_book hs h }

  -- a certified tree for a system of the book
  pub tree_in_book : (s : SystemValue) (tree : Tree) → IsSystemIn book s → IsCertified (setting_of book.ranking) (system_in book s) tree
      → Solves o c (system_in book s).equations (system_in book s).inequations ↔ SomeOf (λ e. SolvesState o c e.state) (ends_in (ends_of (setting_of book.ranking) (system_in book s) tree))
  tree_in_book s tree stands certified = (zero_sets book.ranking o laws c point fits).of_tree (system_in book s) tree (are_over s.equations s.inequations stands.equations_live stands.inequations_live) certified

  -- a run to zero by a state of the book
  pub run_in_book : (s : StateValue) (f : ℕ) → StandsIn book s → Lives book f → RunsToZero (setting_of book.ranking) (state_in book s) (polynomial book f) → SolvesState o c (state_in book s) → HasValueZero o c (polynomial book f)
  run_in_book s f stands lives runs solved =
      let k = keepable book f is_book lives in
      (zero_sets book.ranking o laws c point fits).of_run (state_in book s) (polynomial book f) runs.steps runs.count (are_over s.equations s.inequations stands.equations_live stands.inequations_live)
      (record { canonical = k.canonical; belongs = k.belongs }) runs.is solved
