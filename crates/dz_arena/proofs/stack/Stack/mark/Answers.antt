use Rattle.std.proofs.Common.{◌≡◌, ◌++◌, length, option_to_list, sym, subst, ◌∙◌, arith}
use Rattle.dz_arena.specs.Stacks.{IsMarkOf, cells_of}
use Rattle.dz_arena.specs.declared.stack.Mark.{Mark}
use Rattle.dz_arena.proofs.Piles.{mark_at_end, no_chunks, one_more_chunk}
use Rattle.dz_arena.proofs.stack.Stack.mark.Goals.{in-Some, in-None}
use Rattle.dz_arena.proofs.stack.Stack.mark.Goals as goal

pub returns-clause-mark : goal.returns-clause-mark
returns-clause-mark g c =
    let s = c.self.inside in let hs = s.below.items ++ option_to_list s.top in let m : Mark = record { length = c.len-2.result; chunks = c.match-self.chunks } in
    let long : c.len-2.result ≡ length (cells_of hs) = subst (λ p. c.len-2.result ≡ length p.cells) (sym c.self.view_is) c.len-2.ensures in
    let many : c.match-self.chunks ≡ length hs = elim c.match-self.branch [
      | in-Some w ↦ w.chunks-is ∙ one_more_chunk s.below.items s.top _ w.len.result w.in-Some.is (omega (arith, w.len.ensures, s.below.ok.0))
      | in-None w ↦ w.chunks-is ∙ no_chunks s.below.items s.top w.in-None.is c.self.invariant.lowest
    ] in
    subst (λ p. IsMarkOf p m) c.self.view_is (mark_at_end hs s.begun m c.self.invariant.chunks long many)
