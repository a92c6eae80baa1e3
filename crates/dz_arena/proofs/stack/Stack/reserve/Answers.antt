use Rattle.std.proofs.Common.{◌≡◌, ◌≤◌, [], ◌∷◌, ◌++◌, length, option_to_list, sym, ap, ◌∙◌, subst, arith, None, Some}
use Rattle.std.proofs.lemmas.List.{length-append}
use Rattle.dz_arena.specs.Stacks.{AreChunks, BeginsIn, IsWithin, cells_of, pile_of, spare_of}
use Rattle.dz_arena.proofs.Piles.{chunk_on_top, new_spare, at_most_one}
use Rattle.dz_arena.proofs.stack.Stack.reserve.Goals as goal

-- src/stack.rt:186:5
pub invariant_of-self-2 : goal.invariant_of-self-2
invariant_of-self-2 g c =
    let s = c.self.inside in let hs = s.below.items ++ option_to_list s.top in let h = c.in_ok-chunk.chunk in let made = c.in_ok-chunk.ensures in
    let long : c.len-begin.result ≡ length (cells_of hs) = subst (λ p. c.len-begin.result ≡ length p.cells) (sym c.self.view_is) c.len-begin.ensures in
    let joined = c.put_on_top.ensures.all ∙ ap (λ b. (b ++ option_to_list s.top) ++ h ∷ []) c.in_ok-reserve-2.ensures.items in
    let idle : s.begun ≡ None = subst (λ p. p.begun ≡ None) (sym c.self.view_is) c.requires in
    let kept = c.in_ok-reserve.ensures in
    record {
      chunks = subst (λ xs. AreChunks 0 xs) (sym joined) (chunk_on_top 0 hs h c.self.invariant.chunks (omega (arith, long, made.chunk.0)) made.chunk.1 made.chunk.3);
      lowest = λ e. let bad : Some h ≡ None = sym c.put_on_top.ensures.top ∙ e in cc;
      room = omega (arith, ap length joined, length-append hs (h ∷ []), length-append s.below.items (option_to_list s.top), at_most_one s.top, s.below.ok.0, c.len.ensures, kept.ok, made.fewer, made.capacity);
      begun = subst (λ b. IsWithin (pile_of (c.put_on_top.new.below.items ++ option_to_list c.put_on_top.new.top) b)) (sym idle) tt;
      on_top = subst (λ b. BeginsIn b c.put_on_top.new.top) (sym idle) tt;
    }

-- src/stack.rt:186:5
pub returns-clause-room : goal.returns-clause-room
returns-clause-room g c =
    let s = c.self.inside in let hs = s.below.items ++ option_to_list s.top in let h = c.in_ok-chunk.chunk in let made = c.in_ok-chunk.ensures in
    let long : c.len-begin.result ≡ length (cells_of hs) = subst (λ p. c.len-begin.result ≡ length p.cells) (sym c.self.view_is) c.len-begin.ensures in
    let joined = c.put_on_top.ensures.all ∙ ap (λ b. (b ++ option_to_list s.top) ++ h ∷ []) c.in_ok-reserve-2.ensures.items in
    subst (λ xs. c.args.count ≤ spare_of (pile_of xs s.begun)) (sym joined) (omega (arith, new_spare hs h s.begun (made.chunk.0 ∙ long) made.chunk.1, made.chunk.2))
