use Rattle.std.proofs.Common.{arith, refl, ◌≤◌, length}
use Rattle.std.proofs.lemmas.List.{length-take}
use Rattle.dz_outside.proofs.Pieces.{piece_given, GivesBytes-at_most}
use Rattle.dz_outside.proofs.source.read_all.Goals as goal

pub returns-then-count-room-clause-too_long : goal.returns-then-count-room-clause-too_long
returns-then-count-room-clause-too_long g c =
    let read = c.in_ok-count in
    let fits : read.count ≤ length c.read.new.into = omega (arith, read.ensures.bound) in
    let asked = length-take c.min-asked.result c.pieces.piece in
    λ _. piece_given _ _ _ c.pieces.all.items _ read.count _ c.pieces.invariant.consumed read.ensures.bytes.0 fits
    (omega (arith, read.ensures.bound, c.pieces.all.ok, asked))

pub returns-in_err-extend_from_slice-clause-not_too_long :
    goal.returns-in_err-extend_from_slice-clause-not_too_long
returns-in_err-extend_from_slice-clause-not_too_long g c =
    let read = c.in_ok-count in
    let fits : read.count ≤ length c.read.new.into = omega (arith, read.ensures.bound) in
    λ _. GivesBytes-at_most _ _ _ _
    (piece_given _ _ _ c.pieces.all.items _ read.count _ c.pieces.invariant.consumed read.ensures.bytes.0 fits refl)
    (omega (arith, c.pieces.all.ok))
