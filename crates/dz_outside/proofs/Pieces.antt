-- Lemmas on a list that is read or written piece by piece.
use Rattle.std.proofs.Common.{◌≡◌, ◌<◌, ℕ, ◌+◌, ◌-◌, ◌≤◌, List, [], ◌++◌, length, take, drop, min, refl, sym, ap, ◌∙◌, subst, arith}
use Rattle.std.specs.declared.option.Option.{Option}
use Rattle.std.proofs.lemmas.List.{take_rest, take_at, take-append-drop, drop-drop, length-take-le, length-drop, length-append, length-take, nil_from_length}
use Rattle.std.proofs.Math.Seq.{take-add}
use Rattle.std.specs.Io.KnownBytes.{Consumes, Appends}
use Rattle.std.proofs.KnownBytes.{Appends-trans, Consumes-trans}
use Rattle.dz_outside.specs.Reading.{GivesBytes, GivesAtMost}

-- one more piece of the bytes was written
pub piece_written : (a b c : Option (List ℕ)) (bytes : List ℕ) (sent count : ℕ)
    → Appends a b (take sent bytes)
    → Appends b c (take count (take (length bytes - sent) (drop sent bytes)))
    → Appends a c (take (sent + count) bytes)
piece_written a b c bytes sent count before now =
    let joined : take (sent + count) bytes ≡ take sent bytes ++ take count (take (length bytes - sent) (drop sent bytes)) =
    take-add sent count bytes ∙ ap (λ l. take sent bytes ++ take count l) (sym (take_rest bytes sent)) in
    subst (Appends a c) (sym joined) (Appends-trans a b c _ _ before now)

-- all that was read, and one more piece, is what the source gave
pub piece_given : (a b c : Option (List ℕ)) (all piece : List ℕ) (count total : ℕ)
    → Consumes a b all
    → Consumes b c (take count piece)
    → count ≤ length piece
    → length all + count ≡ total
    → GivesBytes a c total
piece_given a b c all piece count total before now fits same = (
  all ++ take count piece,
  Consumes-trans a b c _ _ before now,
  omega (arith, length-append all (take count piece), length-take-le count piece fits),
)

-- so many bytes are at most so many
pub GivesBytes-at_most : (a b : Option (List ℕ)) (count limit : ℕ)
    → GivesBytes a b count → count ≤ limit → GivesAtMost a b limit
GivesBytes-at_most a b count limit given within = (given.0, given.1, rw given.2 within)

-- the front of the unread bytes, as many as the buffer, the most and they allow, was copied to the front of the buffer
pub piece_read : (bytes into copied : List ℕ) (at most count : ℕ)
    → 0 < most
    → count ≡ min (min (length into) most) (length (take (length bytes - at) (drop at bytes)))
    → copied ≡ take count (take (length bytes - at) (drop at bytes))
    → (drop at bytes ≡ take count (copied ++ drop count into) ++ drop (at + count) bytes)
    × (count ≡ 0 → 0 < length (copied ++ drop count into) → drop (at + count) bytes ≡ [])
piece_read bytes into copied at most count some least same =
    let unread : List ℕ = drop at bytes in
    let least : count ≡ min (min (length into) most) (length unread) =
    least ∙ ap (λ l. min (min (length into) most) (length l)) (take_rest bytes at) in
    let same : copied ≡ take count unread = same ∙ ap (take count) (take_rest bytes at) in
    let fits : count ≤ length unread = omega arith in
    let front : take count (take count unread ++ drop count into) ≡ take count unread =
    take_at (take count unread) (drop count into) count (length-take-le count unread fits) in (
      rw (same, front, ← drop-drop count at bytes) (sym (take-append-drop count unread)),
      λ none room.
          let size : length (copied ++ drop count into) ≡ length copied + (length into - count) =
          length-append copied (drop count into) ∙ ap (λ k. length copied + k) (length-drop count into) in
          let small : length copied ≤ count = rw same (omega (arith, length-take count unread)) in
          let nothing : length unread ≡ 0 = omega arith in
          let gone : unread ≡ [] = nil_from_length unread nothing in
          rw (← drop-drop count at bytes, gone, none) refl,
    )
