use Rattle.std.proofs.Common.{ap, ◌∙◌, ◌++◌, cond, [], codes, Bool}
use Rattle.dz_form.proofs.Marks.{copies_more, no_longer}
use Rattle.dz_form.proofs.write.push_copies.Goals as goal

pub copies-preserved : goal.copies-preserved
copies-preserved c =
    let i = c.copies.invariant in
    record {
      written = copies_more c.args.name.now c.args.into.now.items c.copies.into.items c.push_marked.new.into.items c.args.first c.copies.counter i.written (c.in_ok-push_marked.ensures ∙ ap (λ (b : Bool). c.copies.into.items ++ cond b [] (codes ",") ++ c.args.name.now) i.still);
      still = no_longer c.args.first c.copies.counter;
    }
