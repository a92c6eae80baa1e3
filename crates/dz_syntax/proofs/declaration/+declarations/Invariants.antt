use Rattle.dz_syntax.proofs.declaration.+declarations.Given as goal

abbrev pub decreases-declarations : goal.decreases-declarations
decreases-declarations l = l.left
