use Rattle.std.proofs.Common.{◌≡◌, ◌+◌, ◌-◌, ◌≤◌, [], ◌∷◌, ◌++◌, length, take, option_to_list, sym, ap, ◌∙◌, subst, arith, None, Some}
use Rattle.dz_arena.specs.Stacks.{BeginsIn, IsMarkOf, IsWithin, pile_of, restored}
use Rattle.dz_arena.proofs.Piles.{mark_in_last, restored_chunks, restored_pile, as_many, mark_of_none}
use Rattle.dz_arena.proofs.stack.Stack.restore.Goals as goal

pub returns-in_default : goal.returns-in_default
returns-in_default g c =
    let s = c.self.inside in let hs = s.below.items ++ option_to_list s.top in let gs = c.leave.new.below.items in let m = c.args.mark in
    let asked : IsMarkOf (pile_of hs s.begun) m = subst (λ p. IsMarkOf p m) (sym c.self.view_is) c.requires.mark in
    let idle : s.begun ≡ None = subst (λ p. p.begun ≡ None) (sym c.self.view_is) c.requires.none in
    let nothing : gs ++ option_to_list c.leave.new.top ≡ [] = ap (λ t. gs ++ option_to_list t) c.in_default.is ∙ ap (λ xs. xs ++ []) (c.leave.ensures.lowest c.in_default.is) in
    ap (λ xs. pile_of xs s.begun) nothing ∙ mark_of_none hs s.begun m c.self.invariant.chunks (sym nothing ∙ c.leave.ensures.left) asked idle ∙ ap (λ p. restored p m) c.self.view_is

pub overflow_sub-mark : goal.overflow_sub-mark
overflow_sub-mark g c =
    let s = c.self.inside in let hs = s.below.items ++ option_to_list s.top in let gs = c.leave.new.below.items in let h = c.in-Some.top in let m = c.args.mark in
    let asked : IsMarkOf (pile_of hs s.begun) m = subst (λ p. IsMarkOf p m) (sym c.self.view_is) c.requires.mark in
    let front : gs ++ h ∷ [] ≡ take m.chunks hs = ap (λ t. gs ++ option_to_list t) (sym c.in-Some.is) ∙ c.leave.ensures.left in
    let at = mark_in_last hs gs h s.begun m c.self.invariant.chunks front asked in
    subst (λ k. k ≤ m.length) (sym c.begin.ensures) at.above

pub truncate-requires : goal.truncate-requires
truncate-requires g c =
    let s = c.self.inside in let hs = s.below.items ++ option_to_list s.top in let gs = c.leave.new.below.items in let h = c.in-Some.top in let m = c.args.mark in
    let asked : IsMarkOf (pile_of hs s.begun) m = subst (λ p. IsMarkOf p m) (sym c.self.view_is) c.requires.mark in
    let front : gs ++ h ∷ [] ≡ take m.chunks hs = ap (λ t. gs ++ option_to_list t) (sym c.in-Some.is) ∙ c.leave.ensures.left in
    let at = mark_in_last hs gs h s.begun m c.self.invariant.chunks front asked in
    omega (arith, at.above, at.below, c.begin.ensures)

pub invariant_of-self-2 : goal.invariant_of-self-2
invariant_of-self-2 g c =
    let s = c.self.inside in let hs = s.below.items ++ option_to_list s.top in let gs = c.leave.new.below.items in let h = c.in-Some.top in let m = c.args.mark in let f = c.truncate.new.self in
    let asked : IsMarkOf (pile_of hs s.begun) m = subst (λ p. IsMarkOf p m) (sym c.self.view_is) c.requires.mark in
    let front : gs ++ h ∷ [] ≡ take m.chunks hs = ap (λ t. gs ++ option_to_list t) (sym c.in-Some.is) ∙ c.leave.ensures.left in
    let idle : s.begun ≡ None = subst (λ p. p.begun ≡ None) (sym c.self.view_is) c.requires.none in
    let cut = c.truncate.ensures in
    let cells : f.cells ≡ take (m.length - h.begin) h.cells = cut.2 ∙ ap (λ k. take (m.length - k) h.cells) c.begin.ensures in
    let room = subst (λ t. length (gs ++ option_to_list t) + Rattle.std.specs.Prelude.vec_len c.leave.new.kept ≤ Rattle.std.specs.Prelude.vec_capacity c.leave.new.kept) c.in-Some.is c.leave.ensures.room in
    record {
      chunks = restored_chunks hs gs h f s.begun m c.self.invariant.chunks front asked cut.0 cut.1 cells;
      lowest = λ e. cc;
      room = omega (arith, room, as_many gs h f);
      begun = subst (λ b. IsWithin (pile_of (gs ++ f ∷ []) b)) (sym idle) tt;
      on_top = subst (λ b. BeginsIn b (Some f)) (sym idle) tt;
    }

pub returns : goal.returns
returns g c =
    let s = c.self.inside in let hs = s.below.items ++ option_to_list s.top in let gs = c.leave.new.below.items in let h = c.in-Some.top in let m = c.args.mark in let f = c.truncate.new.self in
    let asked : IsMarkOf (pile_of hs s.begun) m = subst (λ p. IsMarkOf p m) (sym c.self.view_is) c.requires.mark in
    let front : gs ++ h ∷ [] ≡ take m.chunks hs = ap (λ t. gs ++ option_to_list t) (sym c.in-Some.is) ∙ c.leave.ensures.left in
    let idle : s.begun ≡ None = subst (λ p. p.begun ≡ None) (sym c.self.view_is) c.requires.none in
    let cut = c.truncate.ensures in
    let cells : f.cells ≡ take (m.length - h.begin) h.cells = cut.2 ∙ ap (λ k. take (m.length - k) h.cells) c.begin.ensures in
    restored_pile hs gs h f s.begun m c.self.invariant.chunks front asked cut.0 cut.1 cells idle ∙ ap (λ p. restored p m) c.self.view_is
