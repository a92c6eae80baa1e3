use Rattle.std.proofs.Common.{◌≡◌, [], Some, drop, length}
use Rattle.dz_monomials.specs.Ranked.{symbols_under}
use Rattle.dz_syntax.specs.Postfix.{values_after}
use Rattle.dz_form.specs.Values.{AreEntries, steps_answer, values_of}
use Rattle.dz_form.proofs.expansion.value_of.Given as goal

-- the values that the steps so far have made and not used, and the steps that are left
abbrev pub invariant-steps : goal.invariant-steps
invariant-steps l = record {
  entries : AreEntries l.ranking l.values.items;
  count : values_after (length (values_of l.values.items)) (drop l.op-index l.op-items) ≡ Some 1;
  whole : steps_answer (symbols_under l.ranking) (drop l.op-index l.op-items) (values_of l.values.items) ≡ steps_answer (symbols_under l.ranking) l.item [];
}
