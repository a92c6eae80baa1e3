use Rattle.std.proofs.Common.{◌∙◌, ◌⊎◌, ◌≤◌, length, arith, sym, inl, inr}
use Rattle.dz_algebra.proofs.ListOrder.{slice_cmp-drop}
use Rattle.dz_monomials.proofs.powers.compare_monomials.Goals as goal
use Rattle.dz_monomials.proofs.powers.compare_monomials.Goals.{then-loop-i-test+else-i-b, else-loop-i-test}

pub returns : goal.returns
returns c =
    let i = c.loop-i.invariant in
    let out : (length c.args.a.now ≤ c.loop-i.i) ⊎ (length c.args.b.now ≤ c.loop-i.i) = elim c.loop-i-test.branch [ then-loop-i-test+else-i-b w ↦ inr (omega arith) | else-loop-i-test w ↦ inl (omega arith) ] in
    c.cmp.ensures ∙ sym (slice_cmp-drop _ c.loop-i.i c.args.a.now c.args.b.now i.in_a i.in_b out) ∙ sym i.rest
