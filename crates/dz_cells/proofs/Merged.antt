-- Steps of one pass over two runs of cells.
use Rattle.std.proofs.Common.{true, false, ◌==◌, ◌≡◌, ◌≤◌, ◌+◌, ◌-◌, ◌∙◌, ℕ, zero, suc, List, [], ◌∷◌, ◌++◌, length, take, drop, map, refl, sym, ap, ap₂, subst, arith}
use Rattle.std.specs.Prelude.{Option}
use Rattle.std.proofs.lemmas.List.{append_assoc, append-nil, length-take-le, length-append}
use Rattle.std.specs.Prelude.{Some, None, get_or}
use Rattle.std.specs.Ordering.{nat_cmp, match_ordering}
use Rattle.std.specs.declared.cmp.Ordering.{Ordering}
use Rattle.std.specs.declared.cmp.Ordering.TheVariants.{Less, Equal, Greater}
use Rattle.std.specs.Cmp.Lexicographic.{slice_cmp}
use Rattle.std.proofs.Math.Seq.{drop-append_seam, drop-length, take-length}
use Rattle.std.proofs.lemmas.List.{map-append, take-append-drop}
use Rattle.dz_monomials.proofs.Merging.{merge_nothing}
use Rattle.dz_algebra.specs.Amount.{Amount}
use Rattle.dz_algebra.specs.Gather.{merge}
use Rattle.dz_arena.specs.Stacks.{Pile, with_cells, HasRoomFor}
use Rattle.dz_arena.specs.declared.stack.Run.{Run}
use Rattle.dz_monomials.specs.Cells.{add_capped}
use Rattle.dz_cells.specs.Rows.{rows_with, AreRows, HaveWidth}
use Rattle.dz_cells.specs.Runs.{added, cells_of, IsExtended}
use Rattle.dz_cells.specs.Tallies.{tallied}
use Rattle.dz_cells.specs.declared.tally.Tally.{Tally}

-- what lies behind rows is not seen
front_same : (w : ℕ) (es fs : List ℕ) → w ≤ length es → (take w (es ++ fs) ≡ take w es) × (drop w (es ++ fs) ≡ drop w es ++ fs)
front_same zero es fs h = (refl, refl)
front_same (suc w) [] fs h = absurd (omega (arith, h))
front_same (suc w) (e ∷ es) fs h = let k = front_same w es fs (omega (arith, h)) in (ap (λ l. e ∷ l) k.0, k.1)

module _ {V : Type 0} where
  -- rows behind rows
  pub rows_with-append : (w : ℕ) (es fs : List ℕ) (vs us : List V) → AreRows w es vs → rows_with w (es ++ fs) (vs ++ us) ≡ rows_with w es vs ++ rows_with w fs us
  rows_with-append w es fs [] us h = ap (λ l. rows_with w (l ++ fs) us) h
  rows_with-append w es fs (v ∷ vs) us h =
      let k = front_same w es fs h.0 in
      ap₂ (λ r l. (r, v) ∷ l) k.0 (ap (λ l. rows_with w l (vs ++ us)) k.1 ∙ rows_with-append w (drop w es) fs vs us h.1)

  pub are_rows-append : (w : ℕ) (es fs : List ℕ) (vs us : List V) → AreRows w es vs → AreRows w fs us → AreRows w (es ++ fs) (vs ++ us)
  are_rows-append w es fs [] us h g = subst (λ l. AreRows w (l ++ fs) us) (sym h) g
  are_rows-append w es fs (v ∷ vs) us h g =
      let k = front_same w es fs h.0 in
      (omega (arith, h.0, length-append es fs), subst (λ l. AreRows w l (vs ++ us)) (sym k.1) (are_rows-append w (drop w es) fs vs us h.1 g))

  pub are_rows-map : {U : Type 0} (f : V → U) (w : ℕ) (es : List ℕ) (vs : List V) → AreRows w es vs → AreRows w es (map f vs)
  are_rows-map f w es [] h = h
  are_rows-map f w es (v ∷ vs) h = (h.0, are_rows-map f w (drop w es) vs h.1)

  -- rows have their width
  pub rows_have_width : (w : ℕ) (es : List ℕ) (vs : List V) → AreRows w es vs → HaveWidth w (rows_with w es vs)
  rows_have_width w es [] h = tt
  rows_have_width w es (v ∷ vs) h = (length-take-le w es h.0, rows_have_width w (drop w es) vs h.1)

-- ---- cells that come on top of stacks
module _ {X : Type 0} where
  pub added_more : (p q r : Pile X) (xs : List X) → IsExtended p q → r ≡ with_cells q (q.cells ++ xs) → added p r ≡ added p q ++ xs
  added_more p q r xs h e =
      ap (λ t. drop (length p.cells) t.cells) e
      ∙ ap (λ l. drop (length p.cells) (l ++ xs)) (ap (λ t. t.cells) h)
      ∙ ap (drop (length p.cells)) (append_assoc p.cells (added p q) xs)
      ∙ drop-append_seam p.cells (added p q ++ xs)

  pub extended_more : (p q r : Pile X) (xs : List X) → IsExtended p q → r ≡ with_cells q (q.cells ++ xs) → IsExtended p r
  extended_more p q r xs h e =
      e
      ∙ ap (λ t. with_cells t (t.cells ++ xs)) h
      ∙ ap (with_cells p) (append_assoc p.cells (added p q) xs ∙ ap (λ l. p.cells ++ l) (sym (added_more p q r xs h e)))

  pub extended_nothing : (p : Pile X) → IsExtended p p
  extended_nothing p = ap (with_cells p) (sym (append-nil p.cells) ∙ ap (λ l. p.cells ++ l) (sym (drop-length p.cells)))

  pub room_left : (n m : ℕ) (q r : Pile X) (xs : List X) → HasRoomFor n q → length xs + m ≤ n → r ≡ with_cells q (q.cells ++ xs) → HasRoomFor m r
  room_left n m q r xs h l e = subst (HasRoomFor m) (sym e) (by_run q.begun h)
    where
      by_run : (b : Option Run) → HasRoomFor n (record { cells = q.cells; chunks = q.chunks; begun = b }) → HasRoomFor m (record { cells = q.cells ++ xs; chunks = q.chunks; begun = b })
      by_run None k = k
      by_run (Some run) k = omega (arith, k, l, length-append q.cells xs)

-- ---- one pass
-- what is written so far, and what both runs have left, make the whole
pub record IsPassing (w : ℕ) (whole : List (List ℕ × Option Amount)) (rows rows' : Pile ℕ) (tallies tallies' : Pile Tally) (es : List ℕ) (ts : List Tally) (fs : List ℕ) (us : List Tally) : Type 0 where
  pub first : AreRows w es ts
  pub second : AreRows w fs us
  pub room_for_rows : HasRoomFor (length es + length fs) rows'
  pub room_for_tallies : HasRoomFor (length ts + length us) tallies'
  pub rows_on_top : IsExtended rows rows'
  pub tallies_on_top : IsExtended tallies tallies'
  pub are_rows : AreRows w (added rows rows') (added tallies tallies')
  pub merged : cells_of w (added rows rows') (added tallies tallies') ++ merge (slice_cmp nat_cmp) add_capped (cells_of w es ts) (cells_of w fs us) ≡ whole

module _ (w : ℕ) (whole : List (List ℕ × Option Amount)) (rows rows' rows'' : Pile ℕ) (tallies tallies' tallies'' : Pile Tally) where
  abbrev merged_cells : List (List ℕ × Option Amount) → List (List ℕ × Option Amount) → List (List ℕ × Option Amount)
  merged_cells = merge (slice_cmp nat_cmp) add_capped

  -- a cell more is written
  written : (row : List ℕ) (t : Tally) → length row ≡ w → IsExtended rows rows' → IsExtended tallies tallies' → AreRows w (added rows rows') (added tallies tallies') → rows'' ≡ with_cells rows' (rows'.cells ++ row) → tallies'' ≡ with_cells tallies' (tallies'.cells ++ t ∷ []) → AreRows w (added rows rows'') (added tallies tallies'') × (cells_of w (added rows rows'') (added tallies tallies'') ≡ cells_of w (added rows rows') (added tallies tallies') ++ (row, tallied t) ∷ [])
  written row t n h g a e f =
      let d = added_more rows rows' rows'' row h e in
      let k = added_more tallies tallies' tallies'' (t ∷ []) g f in
      let whole_row : take w row ≡ row = ap (λ m. take m row) (sym n) ∙ take-length row in
      let no_rest : drop w row ≡ [] = ap (λ m. drop m row) (sym n) ∙ drop-length row in (
        subst (λ l. AreRows w l (added tallies tallies'')) (sym d) (subst (λ l. AreRows w (added rows rows' ++ row) l) (sym k) (are_rows-append w (added rows rows') row (added tallies tallies') (t ∷ []) a (omega (arith, n), no_rest))),
        ap₂ (cells_of w) d k
            ∙ ap (rows_with w (added rows rows' ++ row)) (map-append tallied (added tallies tallies') (t ∷ []))
            ∙ rows_with-append w (added rows rows') row (map tallied (added tallies tallies')) (tallied t ∷ []) (are_rows-map tallied w (added rows rows') (added tallies tallies') a)
            ∙ ap (λ l. cells_of w (added rows rows') (added tallies tallies') ++ (l, tallied t) ∷ []) whole_row,
      )

  -- one cell is written, and both runs have what is left
  advanced : (es fs es' fs' : List ℕ) (ts us ts' us' : List Tally) (row : List ℕ) (t : Tally) → IsPassing w whole rows rows' tallies tallies' es ts fs us → length row ≡ w → rows'' ≡ with_cells rows' (rows'.cells ++ row) → tallies'' ≡ with_cells tallies' (tallies'.cells ++ t ∷ []) → AreRows w es' ts' → AreRows w fs' us' → length row + (length es' + length fs') ≤ length es + length fs → 1 + (length ts' + length us') ≤ length ts + length us → merged_cells (cells_of w es ts) (cells_of w fs us) ≡ (row, tallied t) ∷ merged_cells (cells_of w es' ts') (cells_of w fs' us') → IsPassing w whole rows rows'' tallies tallies'' es' ts' fs' us'
  advanced es fs es' fs' ts us ts' us' row t h n e f a b l m s =
      let k = written row t n h.rows_on_top h.tallies_on_top h.are_rows e f in
      record {
        first = a;
        second = b;
        room_for_rows = room_left (length es + length fs) (length es' + length fs') rows' rows'' row h.room_for_rows l e;
        room_for_tallies = room_left (length ts + length us) (length ts' + length us') tallies' tallies'' (t ∷ []) h.room_for_tallies m f;
        rows_on_top = extended_more rows rows' rows'' row h.rows_on_top e;
        tallies_on_top = extended_more tallies tallies' tallies'' (t ∷ []) h.tallies_on_top f;
        are_rows = k.0;
        merged =
            ap (λ l. l ++ merged_cells (cells_of w es' ts') (cells_of w fs' us')) k.1
            ∙ append_assoc (cells_of w (added rows rows') (added tallies tallies')) ((row, tallied t) ∷ []) (merged_cells (cells_of w es' ts') (cells_of w fs' us'))
            ∙ ap (λ l. cells_of w (added rows rows') (added tallies tallies') ++ l) (sym s)
            ∙ h.merged;
      }

  abbrev one_step : Ordering → List ℕ × Option Amount → List (List ℕ × Option Amount) → List ℕ × Option Amount → List (List ℕ × Option Amount) → List (List ℕ × Option Amount)
  one_step o t ts r rs = match_ordering o (t ∷ merged_cells ts (r ∷ rs)) ((t.0, add_capped r.1 t.1) ∷ merged_cells ts rs) (r ∷ merged_cells (t ∷ ts) rs)

  module _ (es fs : List ℕ) (ts us ts' us' : List Tally) (t u : Tally) (h : IsPassing w whole rows rows' tallies tallies' es ts fs us) (p : ts ≡ t ∷ ts') (q : us ≡ u ∷ us') where
    both : IsPassing w whole rows rows' tallies tallies' es (t ∷ ts') fs (u ∷ us')
    both = subst (λ l. IsPassing w whole rows rows' tallies tallies' es (t ∷ ts') fs l) q (subst (λ l. IsPassing w whole rows rows' tallies tallies' es l fs us) p h)

    pub took_first : slice_cmp nat_cmp (take w fs) (take w es) ≡ Less → rows'' ≡ with_cells rows' (rows'.cells ++ take w es) → tallies'' ≡ with_cells tallies' (tallies'.cells ++ t ∷ []) → IsPassing w whole rows rows'' tallies tallies'' (drop w es) ts' fs us
    took_first o e f =
        let b = both in
        let n = length-take-le w es b.first.0 in
        let m : length (take w es) + length (drop w es) ≡ length es = sym (length-append (take w es) (drop w es)) ∙ ap length (take-append-drop w es) in
        subst (λ l. IsPassing w whole rows rows'' tallies tallies'' (drop w es) ts' fs l) (sym q)
        (advanced es fs (drop w es) fs (t ∷ ts') (u ∷ us') ts' (u ∷ us') (take w es) t b n e f b.first.1 b.second (omega (arith, m)) (omega arith)
        (ap (λ k. one_step k (take w es, tallied t) (cells_of w (drop w es) ts') (take w fs, tallied u) (cells_of w (drop w fs) us')) o))

    pub took_second : slice_cmp nat_cmp (take w fs) (take w es) ≡ Greater → rows'' ≡ with_cells rows' (rows'.cells ++ take w fs) → tallies'' ≡ with_cells tallies' (tallies'.cells ++ u ∷ []) → IsPassing w whole rows rows'' tallies tallies'' es ts (drop w fs) us'
    took_second o e f =
        let b = both in
        let n = length-take-le w fs b.second.0 in
        let m : length (take w fs) + length (drop w fs) ≡ length fs = sym (length-append (take w fs) (drop w fs)) ∙ ap length (take-append-drop w fs) in
        subst (λ l. IsPassing w whole rows rows'' tallies tallies'' es l (drop w fs) us') (sym p)
        (advanced es fs es (drop w fs) (t ∷ ts') (u ∷ us') (t ∷ ts') us' (take w fs) u b n e f b.first b.second.1 (omega (arith, m)) (omega arith)
        (ap (λ k. one_step k (take w es, tallied t) (cells_of w (drop w es) ts') (take w fs, tallied u) (cells_of w (drop w fs) us')) o))

    pub took_both : (x : Tally) → tallied x ≡ add_capped (tallied u) (tallied t) → slice_cmp nat_cmp (take w fs) (take w es) ≡ Equal → rows'' ≡ with_cells rows' (rows'.cells ++ take w es) → tallies'' ≡ with_cells tallies' (tallies'.cells ++ x ∷ []) → IsPassing w whole rows rows'' tallies tallies'' (drop w es) ts' (drop w fs) us'
    took_both x j o e f =
        let b = both in
        let n = length-take-le w es b.first.0 in
        let m : length (take w es) + length (drop w es) ≡ length es = sym (length-append (take w es) (drop w es)) ∙ ap length (take-append-drop w es) in
        let k : length (take w fs) + length (drop w fs) ≡ length fs = sym (length-append (take w fs) (drop w fs)) ∙ ap length (take-append-drop w fs) in
        advanced es fs (drop w es) (drop w fs) (t ∷ ts') (u ∷ us') ts' us' (take w es) x b n e f b.first.1 b.second.1 (omega (arith, m, k)) (omega arith)
        (ap (λ k. one_step k (take w es, tallied t) (cells_of w (drop w es) ts') (take w fs, tallied u) (cells_of w (drop w fs) us')) o
        ∙ ap (λ y. (take w es, y) ∷ merged_cells (cells_of w (drop w es) ts') (cells_of w (drop w fs) us')) (sym j))

  -- one run has ended, and the other is written as it is
  ended : (es : List ℕ) (ts : List Tally) → IsExtended rows rows' → IsExtended tallies tallies' → AreRows w (added rows rows') (added tallies tallies') → AreRows w es ts → rows'' ≡ with_cells rows' (rows'.cells ++ es) → tallies'' ≡ with_cells tallies' (tallies'.cells ++ ts) → AreRows w (added rows rows'') (added tallies tallies'') × (cells_of w (added rows rows'') (added tallies tallies'') ≡ cells_of w (added rows rows') (added tallies tallies') ++ cells_of w es ts)
  ended es ts h g a b e f =
      let d = added_more rows rows' rows'' es h e in
      let k = added_more tallies tallies' tallies'' ts g f in (
        subst (λ l. AreRows w l (added tallies tallies'')) (sym d) (subst (λ l. AreRows w (added rows rows' ++ es) l) (sym k) (are_rows-append w (added rows rows') es (added tallies tallies') ts a b)),
        ap₂ (cells_of w) d k
            ∙ ap (rows_with w (added rows rows' ++ es)) (map-append tallied (added tallies tallies') ts)
            ∙ rows_with-append w (added rows rows') es (map tallied (added tallies tallies')) (map tallied ts) (are_rows-map tallied w (added rows rows') (added tallies tallies') a),
      )

  nothing_left : (ts : List Tally) → true ≡ (length ts == 0) → ts ≡ []
  nothing_left [] e = refl
  nothing_left (t ∷ ts) e = let z : (length (t ∷ ts) == 0) ≡ false = grind arith in cc

  pub first_ended : (es fs : List ℕ) (ts us : List Tally) → IsPassing w whole rows rows' tallies tallies' es ts fs us → true ≡ (length ts == 0) → rows'' ≡ with_cells rows' (rows'.cells ++ fs) → tallies'' ≡ with_cells tallies' (tallies'.cells ++ us) → AreRows w (added rows rows'') (added tallies tallies'') × (cells_of w (added rows rows'') (added tallies tallies'') ≡ whole)
  first_ended es fs ts us h n e f =
      let k = ended fs us h.rows_on_top h.tallies_on_top h.are_rows h.second e f in
      (k.0, k.1 ∙ sym (ap (λ l. cells_of w (added rows rows') (added tallies tallies') ++ merged_cells (cells_of w es l) (cells_of w fs us)) (nothing_left ts n)) ∙ h.merged)

  pub second_ended : (es fs : List ℕ) (ts us : List Tally) → IsPassing w whole rows rows' tallies tallies' es ts fs us → true ≡ (length us == 0) → rows'' ≡ with_cells rows' (rows'.cells ++ es) → tallies'' ≡ with_cells tallies' (tallies'.cells ++ ts) → AreRows w (added rows rows'') (added tallies tallies'') × (cells_of w (added rows rows'') (added tallies tallies'') ≡ whole)
  second_ended es fs ts us h n e f =
      let k = ended es ts h.rows_on_top h.tallies_on_top h.are_rows h.first e f in
      (k.0, k.1 ∙ ap (λ l. cells_of w (added rows rows') (added tallies tallies') ++ l) (sym (merge_nothing (slice_cmp nat_cmp) add_capped (cells_of w es ts))) ∙ sym (ap (λ l. cells_of w (added rows rows') (added tallies tallies') ++ merged_cells (cells_of w es ts) (cells_of w fs l)) (nothing_left us n)) ∙ h.merged)

-- a list that is not empty begins with its first
pub first_of : {X : Type 0} (xs : List X) (d : X) → false ≡ (length xs == 0) → xs ≡ get_or xs 0 d ∷ take (length xs - 1) (drop 1 xs)
first_of [] d e = cc
first_of (x ∷ xs) d e = ap (λ l. x ∷ l) (sym (ap (λ n. take n xs) (let n : length (x ∷ xs) - 1 ≡ length xs = omega arith in n) ∙ take-length xs))

-- before anything is written
pub begun_pass : (w : ℕ) (rows : Pile ℕ) (tallies : Pile Tally) (es : List ℕ) (ts : List Tally) (fs : List ℕ) (us : List Tally) → AreRows w es ts → AreRows w fs us → HasRoomFor (length es + length fs) rows → HasRoomFor (length ts + length us) tallies → IsPassing w (merge (slice_cmp nat_cmp) add_capped (cells_of w es ts) (cells_of w fs us)) rows rows tallies tallies es ts fs us
begun_pass w rows tallies es ts fs us a b h g =
    let none : added rows rows ≡ [] = drop-length rows.cells in
    let nothing : added tallies tallies ≡ [] = drop-length tallies.cells in
    record {
      first = a;
      second = b;
      room_for_rows = h;
      room_for_tallies = g;
      rows_on_top = extended_nothing rows;
      tallies_on_top = extended_nothing tallies;
      are_rows = subst (λ l. AreRows w l (added tallies tallies)) (sym none) (subst (λ l. AreRows w [] l) (sym nothing) refl);
      merged = ap₂ (λ l k. cells_of w l k ++ merge (slice_cmp nat_cmp) add_capped (cells_of w es ts) (cells_of w fs us)) none nothing;
    }

-- where a run has a value, it has a row
pub has_row : {V : Type 0} (w : ℕ) (es : List ℕ) (vs : List V) → false ≡ (length vs == 0) → AreRows w es vs → w ≤ length es
has_row w es [] e h = let z : false ≡ true = e in cc
has_row w es (v ∷ vs) e h = h.0

-- where a run is begun and nothing is written yet
pub none_added : {X : Type 0} (p : Pile X) → added p p ≡ []
none_added p = drop-length p.cells

-- a list that has an end is empty
pub nothing : {X : Type 0} (xs : List X) → true ≡ (length xs == 0) → xs ≡ []
nothing [] e = refl
nothing (x ∷ xs) e = let z : (length (x ∷ xs) == 0) ≡ false = grind arith in cc

-- the row of a first value, and what is left
pub cut_rows : {V : Type 0} (w : ℕ) (es : List ℕ) (vs us : List V) (v : V) → vs ≡ v ∷ us → AreRows w es vs → (w ≤ length es) × AreRows w (drop w es) us
cut_rows w es vs us v e h = subst (AreRows w es) e h

pub length-cut : (w : ℕ) (es : List ℕ) → w ≤ length es → (length (take w es) ≡ w) × (w + length (drop w es) ≡ length es)
length-cut w es h =
    let n = length-take-le w es h in
    let m : length (take w es) + length (drop w es) ≡ length es = sym (length-append (take w es) (drop w es)) ∙ ap length (take-append-drop w es) in
    (n, omega (arith, n, m))

-- a row with a value comes behind the others
pub row_behind : {V : Type 0} (w : ℕ) (es row : List ℕ) (vs : List V) (v : V) → length row ≡ w → AreRows w es vs → AreRows w (es ++ row) (vs ++ v ∷ []) × (rows_with w (es ++ row) (vs ++ v ∷ []) ≡ rows_with w es vs ++ (row, v) ∷ [])
row_behind w es row vs v n h =
    let whole_row : take w row ≡ row = ap (λ m. take m row) (sym n) ∙ take-length row in
    let no_rest : drop w row ≡ [] = ap (λ m. drop m row) (sym n) ∙ drop-length row in
    (are_rows-append w es row vs (v ∷ []) h (omega (arith, n), no_rest), rows_with-append w es row vs (v ∷ []) h ∙ ap (λ l. rows_with w es vs ++ (l, v) ∷ []) whole_row)
