use Rattle.dz_syntax.proofs.atom.+names_in.Given as goal

abbrev pub decreases-names_in : goal.decreases-names_in
decreases-names_in l = l.left
