-- Steps of the pass that multiplies a term with others.
use Rattle.std.proofs.Common.{◌≡◌, ◌≤◌, ◌+◌, ◌*ℤ◌, ◌==◌, ◌∙◌, ◌||◌, ℕ, suc, Bool, true, false, List, [], ◌∷◌, ◌++◌, length, take, drop, map, ℤ, nat_lt, refl, sym, ap, ap₂, subst, arith}
use Rattle.std.specs.Prelude.{not}
use Rattle.std.specs.Simd.Lanes.{zip2}
use Rattle.std.proofs.lemmas.List.{append_assoc, append-nil, map-append, length-append, length-drop}
use Rattle.std.proofs.Math.Seq.{take-append_seam}
use Rattle.dz_algebra.specs.Amount.{amount}
use Rattle.dz_arena.specs.Stacks.{Pile, with_cells, HasRoomFor}
use Rattle.dz_lane.specs.Rows.{any_pair}
use Rattle.dz_monomials.specs.Cells.{capped}
use Rattle.dz_cells.specs.Rows.{rows_with, AreRows, row_times, sums_pass}
use Rattle.dz_cells.specs.Runs.{added, cells_of, IsExtended}
use Rattle.dz_cells.specs.Tallies.{tallied}
use Rattle.dz_cells.specs.declared.tally.Tally.{Tally}
use Rattle.dz_cells.proofs.Merged.{added_more, extended_more, extended_nothing, room_left, none_added, nothing, cut_rows, length-cut, row_behind, are_rows-map}

-- as long as the shorter of both
pub length-sums : (es fs : List ℕ) → length es ≡ length fs → length (zip2 (λ x y. x + y) es fs) ≡ length es
length-sums [] [] n = refl
length-sums [] (f ∷ fs) n = refl
length-sums (e ∷ es) [] n = absurd (omega (arith, n))
length-sums (e ∷ es) (f ∷ fs) n = ap suc (length-sums es fs (omega (arith, n)))

-- products that are written, and terms that are left
pub record IsMultiplying (row : List ℕ) (c : ℤ) (whole : List (List ℕ × ℤ)) (rows rows' : Pile ℕ) (tallies tallies' : Pile Tally) (es : List ℕ) (cs : List ℤ) : Type 0 where
  pub left : AreRows (length row) es cs
  pub room_for_rows : HasRoomFor (length es) rows'
  pub room_for_tallies : HasRoomFor (length cs) tallies'
  pub rows_on_top : IsExtended rows rows'
  pub tallies_on_top : IsExtended tallies tallies'
  pub are_rows : AreRows (length row) (added rows rows') (added tallies tallies')
  pub low : sums_pass row whole ≡ sums_pass row (rows_with (length row) es cs)
  pub products : row_times row c whole ≡ cells_of (length row) (added rows rows') (added tallies tallies') ++ row_times row c (rows_with (length row) es cs)

pub begun_products : (row : List ℕ) (c : ℤ) (rows : Pile ℕ) (tallies : Pile Tally) (es : List ℕ) (cs : List ℤ) → AreRows (length row) es cs → HasRoomFor (length es) rows → HasRoomFor (length cs) tallies → IsMultiplying row c (rows_with (length row) es cs) rows rows tallies tallies es cs
begun_products row c rows tallies es cs a h g =
    record {
      left = a;
      room_for_rows = h;
      room_for_tallies = g;
      rows_on_top = extended_nothing rows;
      tallies_on_top = extended_nothing tallies;
      are_rows = subst (λ l. AreRows (length row) l (added tallies tallies)) (sym (none_added rows)) (subst (λ l. AreRows (length row) [] l) (sym (none_added tallies)) refl);
      low = refl;
      products = sym (ap₂ (λ l k. cells_of (length row) l k ++ row_times row c (rows_with (length row) es cs)) (none_added rows) (none_added tallies));
    }

module _ (row : List ℕ) (c : ℤ) (whole : List (List ℕ × ℤ)) (rows rows' rows'' : Pile ℕ) (tallies tallies' tallies'' : Pile Tally) (es : List ℕ) (cs cs' : List ℤ) (d : ℤ) (h : IsMultiplying row c whole rows rows' tallies tallies' es cs) (p : cs ≡ d ∷ cs') where
  abbrev w : ℕ
  w = length row

  cut : (w ≤ length es) × AreRows w (drop w es) cs'
  cut = cut_rows w es cs cs' d p h.left

  -- a sum of exponents that passes is found
  pub high_found : true ≡ any_pair (λ x y. nat_lt 65535 (x + y)) row (take w es) → sums_pass row whole ≡ true
  high_found e = h.low ∙ ap (λ l. sums_pass row (rows_with w es l)) p ∙ ap (λ b. b || sums_pass row (rows_with w (drop w es) cs')) (sym e)

  -- a product is written
  pub multiplied : (t : Tally) → tallied t ≡ capped (amount (c *ℤ d)) → any_pair (λ x y. nat_lt 65535 (x + y)) row (take w es) ≡ false → rows'' ≡ with_cells rows' (rows'.cells ++ zip2 (λ x y. x + y) row (take w es)) → tallies'' ≡ with_cells tallies' (tallies'.cells ++ t ∷ []) → IsMultiplying row c whole rows rows'' tallies tallies'' (drop w es) cs'
  multiplied t q n e f =
      let sums = zip2 (λ x y. x + y) row (take w es) in
      let long = length-cut w es cut.0 in
      let wide : length sums ≡ w = length-sums row (take w es) (sym long.0) in
      let longer : length cs ≡ suc (length cs') = ap length p in
      let i = added_more rows rows' rows'' sums h.rows_on_top e in
      let k = added_more tallies tallies' tallies'' (t ∷ []) h.tallies_on_top f in
      let r = row_behind w (added rows rows') sums (added tallies tallies') t wide h.are_rows in
      let m = row_behind w (added rows rows') sums (map tallied (added tallies tallies')) (tallied t) wide (are_rows-map tallied w (added rows rows') (added tallies tallies') h.are_rows) in
      record {
        left = cut.1;
        room_for_rows = room_left (length es) (length (drop w es)) rows' rows'' sums h.room_for_rows (omega (arith, long.1, wide)) e;
        room_for_tallies = room_left (length cs) (length cs') tallies' tallies'' (t ∷ []) h.room_for_tallies (omega (arith, longer)) f;
        rows_on_top = extended_more rows rows' rows'' sums h.rows_on_top e;
        tallies_on_top = extended_more tallies tallies' tallies'' (t ∷ []) h.tallies_on_top f;
        are_rows = subst (λ l. AreRows w l (added tallies tallies'')) (sym i) (subst (λ l. AreRows w (added rows rows' ++ sums) l) (sym k) r.0);
        low = h.low ∙ ap (λ l. sums_pass row (rows_with w es l)) p ∙ ap (λ b. b || sums_pass row (rows_with w (drop w es) cs')) n;
        products =
            h.products
            ∙ ap (λ l. cells_of w (added rows rows') (added tallies tallies') ++ row_times row c (rows_with w es l)) p
            ∙ ap (λ x. cells_of w (added rows rows') (added tallies tallies') ++ (sums, x) ∷ row_times row c (rows_with w (drop w es) cs')) (sym q)
            ∙ sym (append_assoc (cells_of w (added rows rows') (added tallies tallies')) ((sums, tallied t) ∷ []) (row_times row c (rows_with w (drop w es) cs')))
            ∙ ap (λ l. l ++ row_times row c (rows_with w (drop w es) cs')) (sym (ap₂ (cells_of w) i k ∙ ap (rows_with w (added rows rows' ++ sums)) (map-append tallied (added tallies tallies') (t ∷ [])) ∙ m.1));
      }

-- at the end all products are written, and no sum passes
pub all_multiplied : (row : List ℕ) (c : ℤ) (whole : List (List ℕ × ℤ)) (rows rows' : Pile ℕ) (tallies tallies' : Pile Tally) (es : List ℕ) (cs : List ℤ) → IsMultiplying row c whole rows rows' tallies tallies' es cs → true ≡ (length cs == 0) → (true ≡ not (sums_pass row whole)) × (cells_of (length row) (added rows rows') (added tallies tallies') ≡ row_times row c whole)
all_multiplied row c whole rows rows' tallies tallies' es cs h e =
    let n = nothing cs e in (
      ap not (sym (h.low ∙ ap (λ l. sums_pass row (rows_with (length row) es l)) n)),
      sym (append-nil (cells_of (length row) (added rows rows') (added tallies tallies'))) ∙ ap (λ l. cells_of (length row) (added rows rows') (added tallies tallies') ++ row_times row c (rows_with (length row) es l)) (sym n) ∙ sym h.products,
    )

-- a negated test, turned
pub held : (b : Bool) → false ≡ not b → true ≡ b
held true e = refl
held false e = let z : false ≡ true = e in cc

pub denied : (b : Bool) → true ≡ not b → b ≡ false
denied true e = let z : true ≡ false = e in cc
denied false e = refl

-- the front of the buffer is written, and its length stays
pub buffer_kept : (w : ℕ) (sums new rest : List ℕ) → new ≡ sums → length sums ≡ w → w ≤ 64 → length rest ≡ 64 → length (new ++ drop w rest) ≡ 64
buffer_kept w sums new rest e n m l = let k = ap length e in omega (arith, length-append new (drop w rest), length-drop w rest, k, n, m, l)

pub front_written : (w : ℕ) (sums new rest : List ℕ) → new ≡ sums → length sums ≡ w → take w (new ++ rest) ≡ sums
front_written w sums new rest e n = ap₂ (λ k l. take k (l ++ rest)) (sym n) e ∙ take-append_seam sums rest
