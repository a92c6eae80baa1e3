use Rattle.std.proofs.Common.{◌≡◌, ℕ, ◌-◌, ◌++◌, length, option_to_list, sym, subst, arith, Some}
use Rattle.dz_arena.specs.Stacks.{BeginsIn, InOneChunk, IsWithin, cells_of, pile_of}
use Rattle.dz_arena.proofs.Piles.{run_on_top}
use Rattle.dz_arena.proofs.stack.Stack.finish_run.Goals as goal

pub returns-clause-lies : goal.returns-clause-lies
returns-clause-lies g c =
    let s = c.self.inside in let hs = s.below.items ++ option_to_list s.top in let run = c.in-Some.run' in let count : ℕ = c.len-len.result - run.beginning in
    let long : c.len-len.result ≡ length (cells_of hs) = subst (λ p. c.len-len.result ≡ length p.cells) (sym c.self.view_is) c.len-len.ensures in
    let within : IsWithin (pile_of hs (Some run)) = subst (λ b. IsWithin (pile_of hs b)) c.in-Some.is c.self.invariant.begun in
    let on : BeginsIn (Some run) s.top = subst (λ b. BeginsIn b s.top) c.in-Some.is c.self.invariant.on_top in
    subst (λ p. InOneChunk (length p.cells) p.chunks run.beginning count) c.self.view_is
    (run_on_top s.below.items s.top run count c.self.invariant.lowest on (omega (arith, long, within.0)))
