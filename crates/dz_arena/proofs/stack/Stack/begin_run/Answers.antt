use Rattle.std.proofs.Common.{◌≡◌, ◌-◌, ◌≤◌, ◌++◌, length, option_to_list, arith, sym, subst, map}
use Rattle.dz_arena.specs.Stacks.{spare_of, end_or}
use Rattle.dz_arena.specs.Stacks.{cells_of}
use Rattle.dz_arena.proofs.Piles.{cells_within, begins_on_top}
use Rattle.dz_arena.proofs.stack.Stack.begin_run.Goals as goal

-- src/stack.rt:92:5
pub invariant_of-self : goal.invariant_of-self
invariant_of-self g c =
    let s = c.self.inside in let all = s.below.items ++ option_to_list s.top in
    let long : c.len.result ≡ length (cells_of all) = subst (λ p. c.len.result ≡ length p.cells) (sym c.self.view_is) c.len.ensures in
    let asked : c.args.count ≤ end_or 0 (map (λ h. (h.begin, h.room)) all) - length (cells_of all) = subst (λ p. c.args.count ≤ spare_of p) (sym c.self.view_is) c.requires.room in
    let within = cells_within 0 0 all c.self.invariant.chunks (omega arith) in
    record { chunks = c.self.invariant.chunks; lowest = c.self.invariant.lowest; room = c.self.invariant.room; begun = (omega (arith, long), omega (arith, long), omega (arith, long, asked, within)); on_top = begins_on_top s.below.items s.top (record { beginning = c.len.result; length = c.args.count }) c.self.invariant.chunks long }
