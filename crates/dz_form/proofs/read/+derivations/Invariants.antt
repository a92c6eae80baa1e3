use Rattle.dz_form.proofs.read.+derivations.Given as goal

abbrev pub decreases-derivations : goal.decreases-derivations
decreases-derivations l = l.left
