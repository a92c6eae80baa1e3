use Rattle.dz_arena.proofs.tests.+follows_list.Given as goal

abbrev pub decreases-follows_list : goal.decreases-follows_list
decreases-follows_list l = l.levels
