use Rattle.std.proofs.Common.{◌+◌, ◌≤◌, [], ◌∷◌, ◌++◌, length, option_to_list, arith, sym, subst}
use Rattle.std.specs.Prelude.{vec_len, vec_capacity}
use Rattle.dz_arena.specs.Stacks.{pile_of, AreChunks, BeginsIn, HasRoom, IsWithin}
use Rattle.dz_arena.proofs.Piles.{room_on_top, stays_on_top, pushed_within, one_more_cell, as_many}
use Rattle.dz_arena.proofs.stack.Stack.push.Goals as goal

-- src/stack.rt:112:26
pub push-requires : goal.push-requires
push-requires g c =
    let s = c.self.inside in let h = c.in-Some.top in let hs = s.below.items in
    let asked : HasRoom (pile_of (hs ++ option_to_list s.top) s.begun) = subst (λ p. HasRoom p) (sym c.self.view_is) c.requires in
    room_on_top hs h s.begun (subst (λ t. AreChunks 0 (hs ++ option_to_list t)) c.in-Some.is c.self.invariant.chunks)
    (subst (λ t. IsWithin (pile_of (hs ++ option_to_list t) s.begun)) c.in-Some.is c.self.invariant.begun)
    (subst (λ t. HasRoom (pile_of (hs ++ option_to_list t) s.begun)) c.in-Some.is asked)

-- src/stack.rt:107:5
pub invariant_of-self : goal.invariant_of-self
invariant_of-self g c =
    let s = c.self.inside in let h = c.in-Some.top in let hs = s.below.items in let new = c.push.new.self in
    let asked : HasRoom (pile_of (hs ++ option_to_list s.top) s.begun) = subst (λ p. HasRoom p) (sym c.self.view_is) c.requires in
    let chunks : AreChunks 0 (hs ++ h ∷ []) = subst (λ t. AreChunks 0 (hs ++ option_to_list t)) c.in-Some.is c.self.invariant.chunks in
    let within : IsWithin (pile_of (hs ++ h ∷ []) s.begun) = subst (λ t. IsWithin (pile_of (hs ++ option_to_list t) s.begun)) c.in-Some.is c.self.invariant.begun in
    let room : HasRoom (pile_of (hs ++ h ∷ []) s.begun) = subst (λ t. HasRoom (pile_of (hs ++ option_to_list t) s.begun)) c.in-Some.is asked in
    let held : length (hs ++ h ∷ []) + vec_len s.kept ≤ vec_capacity s.kept = subst (λ t. length (hs ++ option_to_list t) + vec_len s.kept ≤ vec_capacity s.kept) c.in-Some.is c.self.invariant.room in
    record {
      chunks = one_more_cell 0 hs h new c.args.cell chunks (room_on_top hs h s.begun chunks within room) c.push.ensures;
      lowest = λ e. cc;
      room = omega (arith, held, as_many hs h new);
      begun = pushed_within hs h new c.args.cell s.begun c.push.ensures within room;
      on_top = stays_on_top s.begun h new c.push.ensures.0 (subst (λ t. BeginsIn s.begun t) c.in-Some.is c.self.invariant.on_top);
    }
