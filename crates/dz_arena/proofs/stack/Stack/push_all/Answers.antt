use Rattle.std.proofs.Common.{ap, ◌∙◌, true, false, ◌==◌, ◌+◌, ◌≤◌, ◌≡◌, [], ◌∷◌, ◌++◌, length, option_to_list, arith, sym, subst, refl}
use Rattle.std.specs.Prelude.{vec_len, vec_capacity}
use Rattle.dz_arena.specs.Stacks.{pile_of, AreChunks, BeginsIn, HasRoomFor, IsWithin}
use Rattle.dz_arena.proofs.Piles.{room_for, stays_on_top, put_within, more_cells, as_many, no_room}
use Rattle.dz_arena.proofs.stack.Stack.push_all.Goals as goal

pub push_all-requires : goal.push_all-requires
push_all-requires g c =
    let s = c.self.inside in let h = c.in-Some.top in let hs = s.below.items in let n = length c.args.cells.now in
    let asked : HasRoomFor n (pile_of (hs ++ option_to_list s.top) s.begun) = subst (λ p. HasRoomFor n p) (sym c.self.view_is) c.requires in
    room_for hs h n s.begun (subst (λ t. AreChunks 0 (hs ++ option_to_list t)) c.in-Some.is c.self.invariant.chunks)
    (subst (λ t. IsWithin (pile_of (hs ++ option_to_list t) s.begun)) c.in-Some.is c.self.invariant.begun)
    (subst (λ t. HasRoomFor n (pile_of (hs ++ option_to_list t) s.begun)) c.in-Some.is asked)

pub unreachable-requires : goal.unreachable-requires
unreachable-requires g c =
    let s = c.self.inside in let n = length c.args.cells.now in
    let asked : HasRoomFor n (pile_of (s.below.items ++ option_to_list s.top) s.begun) = subst (λ p. HasRoomFor n p) (sym c.self.view_is) c.requires in
    let none : s.below.items ++ option_to_list s.top ≡ [] = rw (c.self.invariant.lowest c.in-None.is, c.in-None.is) refl in
    let zero : n ≡ 0 = no_room n (s.below.items ++ option_to_list s.top) s.begun none c.self.invariant.begun asked in
    let test : false ≡ true = c.if-is_empty.ensures ∙ ap (λ m. m == 0) zero in
    cc

pub invariant_of-self : goal.invariant_of-self
invariant_of-self g c =
    let s = c.self.inside in let h = c.in-Some.top in let hs = s.below.items in let new = c.push_all.new.self in let xs = c.args.cells.now in let n = length xs in
    let asked : HasRoomFor n (pile_of (hs ++ option_to_list s.top) s.begun) = subst (λ p. HasRoomFor n p) (sym c.self.view_is) c.requires in
    let chunks : AreChunks 0 (hs ++ h ∷ []) = subst (λ t. AreChunks 0 (hs ++ option_to_list t)) c.in-Some.is c.self.invariant.chunks in
    let within : IsWithin (pile_of (hs ++ h ∷ []) s.begun) = subst (λ t. IsWithin (pile_of (hs ++ option_to_list t) s.begun)) c.in-Some.is c.self.invariant.begun in
    let room : HasRoomFor n (pile_of (hs ++ h ∷ []) s.begun) = subst (λ t. HasRoomFor n (pile_of (hs ++ option_to_list t) s.begun)) c.in-Some.is asked in
    let held : length (hs ++ h ∷ []) + vec_len s.kept ≤ vec_capacity s.kept = subst (λ t. length (hs ++ option_to_list t) + vec_len s.kept ≤ vec_capacity s.kept) c.in-Some.is c.self.invariant.room in
    record {
      chunks = more_cells 0 hs h new xs chunks (room_for hs h n s.begun chunks within room) c.push_all.ensures;
      lowest = λ e. cc;
      room = omega (arith, held, as_many hs h new);
      begun = put_within hs h new xs s.begun c.push_all.ensures within room;
      on_top = stays_on_top s.begun h new c.push_all.ensures.0 (subst (λ t. BeginsIn s.begun t) c.in-Some.is c.self.invariant.on_top);
    }
