use Rattle.dz_solution.proofs.Members.{few_members}
use Rattle.dz_solution.proofs.solving.solves.Goals as goal

pub solves_members-requires-clause-few : goal.solves_members-requires-clause-few
solves_members-requires-clause-few c =
    rw (c.equations.ensures, c.inequations.ensures) (few_members c.args.book.now c.args.system.now c.requires.system.within_limits)
