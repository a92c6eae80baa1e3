use Rattle.std.proofs.Common.{refl, ◌+◌, ◌∙◌, ◌∷◌, List, [], length, map, drop, sym, subst}
use Rattle.std.specs.Prelude.{reverse}
use Rattle.std.proofs.lemmas.List.{drop_all}
use Rattle.dz_poly.proofs.Books.{kept_trans}
use Rattle.dz_diff.specs.Operations.{setting_of}
use Rattle.dz_diff.specs.State.{State}
use Rattle.dz_move.specs.declared.lines.Line.{Line as ProgramLine}
use Rattle.dz_check.specs.Collecting.{AreCollected, IsCollecting}
use Rattle.dz_check.specs.Pending.{cut}
use Rattle.dz_move.specs.Lines.{Line}
use Rattle.dz_move.specs.TreeLines.{line_of}
use Rattle.dz_check.proofs.ChainWalks.{all_collected, collecting_by, collecting_is, collecting_kept, mark_inside, pair_collects}
use Rattle.dz_check.proofs.WalkedLines.{lines_at}
use Rattle.dz_check.proofs.chain_states.collected.Goals as goal

pub lines-init : goal.lines-init
lines-init c = λ whole h.
    let book = c.args.book.now in
    let stack = reverse c.args.stack.now.items in
    collecting_is book (setting_of book.ranking) whole book (map line_of c.args.lines.now) c.mark-floor.result (length book.polynomials) stack stack c.new-taken.result.items [] c.mark-floor.ensures refl c.new-taken.ensures.items h

pub lines-preserved-then-is_pair : goal.lines-preserved-then-is_pair
lines-preserved-then-is_pair c = λ whole h.
    let base = c.args.book.now in
    let g = setting_of base.ranking in
    let lines = c.args.lines.now in
    let stack = reverse c.lines.stack.items in
    let line = line_of c.index-lines-k.result in
    let here = lines_at lines c.lines.k c.index-lines-k.result c.lines-test.true c.index-lines-k.is in
    pair_collects base g whole c.lines.book c.lines.floor stack c.lines.taken.items line (map line_of (drop (c.lines.k + 1) lines)) (sym c.is_pair.ensures ∙ c.if-is_pair.true)
    (subst (λ (ls : List Line). IsCollecting base g whole c.lines.book c.lines.floor stack c.lines.taken.items ls) here (c.lines.invariant whole h))

pub collect-requires-clause-collects : goal.collect-requires-clause-collects
collect-requires-clause-collects c =
    let base = c.args.book.now in
    let book = c.lines.book in
    let lines = c.args.lines.now in
    let k = c.lines.k in
    let stack = reverse c.lines.stack.items in
    let whole = c.requires.collects.0 in
    let taken = c.lines.taken.items in
    let rest = map line_of (drop (k + 1) lines) in
    let line = line_of c.index-lines-k.result in
    let now = c.lines.invariant whole c.requires.collects.1 in
    let kept = collecting_kept base (setting_of base.ranking) whole book c.lines.floor stack taken (map line_of (drop k lines)) now in (
      base,
      whole,
      rest,
      collecting_by base base.ranking book.ranking kept.ranking whole book c.lines.floor stack taken (line ∷ rest)
          (subst (λ (ls : List Line). IsCollecting base (setting_of base.ranking) whole book c.lines.floor stack taken ls) (lines_at lines k c.index-lines-k.result c.lines-test.true c.index-lines-k.is) now),
    )

pub returns-in_err-floor-clause-kept : goal.returns-in_err-floor-clause-kept
returns-in_err-floor-clause-kept c =
    let base = c.args.book.now in
    let now = c.lines.invariant c.requires.collects.0 c.requires.collects.1 in
    kept_trans base now.floor c.collect.new.book now.taken_are.keeps (c.in_err-floor.ensures.kept now.floor now.stacked)

pub lines-preserved : goal.lines-preserved
lines-preserved c = λ whole h.
    let base = c.args.book.now in
    let book = c.lines.book in
    let new = c.collect.new.book in
    let lines = c.args.lines.now in
    let k = c.lines.k in
    let stack = reverse c.lines.stack.items in
    let taken = c.lines.taken.items in
    let rest = map line_of (drop (k + 1) lines) in
    let line = line_of c.index-lines-k.result in
    let now = c.lines.invariant whole h in
    let kept = collecting_kept base (setting_of base.ranking) whole book c.lines.floor stack taken (map line_of (drop k lines)) now in
    let here = collecting_by base base.ranking book.ranking kept.ranking whole book c.lines.floor stack taken (line ∷ rest)
    (subst (λ (ls : List Line). IsCollecting base (setting_of base.ranking) whole book c.lines.floor stack taken ls) (lines_at lines k c.index-lines-k.result c.lines-test.true c.index-lines-k.is) now) in
    collecting_by base book.ranking base.ranking (sym kept.ranking) whole new c.in_ok-floor.floor (reverse c.collect.new.stack.items) c.collect.new.taken.items rest (c.in_ok-floor.ensures.ok base whole rest here)

pub restore-requires : goal.restore-requires
restore-requires c =
    let base = c.args.book.now in
    mark_inside base (setting_of base.ranking) c.requires.collects.0 c.lines.book c.lines.floor (reverse c.lines.stack.items) c.lines.taken.items (map line_of (drop c.lines.k c.args.lines.now)) (c.lines.invariant c.requires.collects.0 c.requires.collects.1)

-- what is taken behind the last line
all_taken : (c : goal.After-restore) (whole : List State) → IsCollecting c.args.book.now (setting_of c.args.book.now.ranking) whole c.args.book.now (length c.args.book.now.polynomials) (reverse c.args.stack.now.items) [] (map line_of c.args.lines.now)
    → AreCollected c.args.book.now (cut c.lines.floor c.lines.book) whole c.lines.taken.items
all_taken c whole h =
    let base = c.args.book.now in
    let g = setting_of base.ranking in
    all_collected base g whole c.lines.book c.lines.floor (reverse c.lines.stack.items) c.lines.taken.items
    (subst (λ (ls : List ProgramLine). IsCollecting base g whole c.lines.book c.lines.floor (reverse c.lines.stack.items) c.lines.taken.items (map line_of ls)) (drop_all c.lines.k c.args.lines.now c.lines-test.false) (c.lines.invariant whole h))

pub returns-clause-ok : goal.returns-clause-ok
returns-clause-ok c = λ whole h. subst (λ b. AreCollected c.args.book.now b whole c.lines.taken.items) (sym c.restore.ensures) (all_taken c whole h)

pub returns-clause-kept : goal.returns-clause-kept
returns-clause-kept c = (returns-clause-ok c c.requires.collects.0 c.requires.collects.1).keeps
