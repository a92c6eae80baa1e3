-- Pieces that are written one after the other.
use Rattle.std.proofs.Common.{◌≡◌, ◌<◌, ◌+◌, ◌∙◌, sym, ap, ap₂, subst, refl, ℕ, List, ◌++◌, length, take, append_assoc, arith}
use Rattle.std.specs.declared.option.Option.{Option}
use Rattle.std.specs.Io.KnownBytes.{Appends}
use Rattle.std.proofs.KnownBytes.{Appends-trans}
use Rattle.std.proofs.lemmas.List.{length-append, take-append-le, take_at, drop_at}
use Rattle.std.proofs.Math.Seq.{take-add}
use Rattle.dz_outside.specs.Writing.{AppendsPart}

-- what was written of pieces, and what is left
pub record IsWritten (before now : Option (List ℕ)) (left whole : List ℕ) : Type 0 where
  pub bytes : List ℕ
  pub all : bytes ++ left ≡ whole
  pub written : Appends before now bytes

-- one piece more
pub written_more : (a b c : Option (List ℕ)) (piece left whole : List ℕ) → IsWritten a b (piece ++ left) whole → Appends b c piece → IsWritten a c left whole
written_more a b c piece left whole w more = record { bytes = w.bytes ++ piece; all = append_assoc w.bytes piece left ∙ w.all; written = Appends-trans a b c w.bytes piece w.written more }

-- a piece that was written in part
pub written_part : (a b c : Option (List ℕ)) (piece left whole : List ℕ) → IsWritten a b (piece ++ left) whole → AppendsPart b c piece → AppendsPart a c whole
written_part a b c piece left whole w (count, short, part) =
    let size = length-append w.bytes (piece ++ left) in
    let total = length-append piece left in
    let less : length w.bytes + count < length whole = subst (λ (t : List ℕ). length w.bytes + count < length t) w.all (omega arith) in
    let front : take (length w.bytes + count) whole ≡ w.bytes ++ take count piece =
    ap (take (length w.bytes + count)) (sym w.all) ∙ cut w.bytes (piece ++ left) count ∙ ap (λ (t : List ℕ). w.bytes ++ t) (take-append-le count piece left (omega arith)) in
    (length w.bytes + count, less, subst (Appends a c) (sym front) (Appends-trans a b c w.bytes (take count piece) w.written part))
  where
    cut : (xs ys : List ℕ) (k : ℕ) → take (length xs + k) (xs ++ ys) ≡ xs ++ take k ys
    cut xs ys k = take-add (length xs) k (xs ++ ys) ∙ ap₂ ◌++◌ (take_at xs ys (length xs) refl) (ap (take k) (drop_at xs ys (length xs) refl))
