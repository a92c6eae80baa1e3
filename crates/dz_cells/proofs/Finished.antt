-- Steps of the pass that leaves out what is zero.
use Rattle.std.proofs.Common.{◌≡◌, ◌≤◌, ◌==◌, ◌∙◌, ℕ, suc, Bool, true, false, cond, List, [], ◌∷◌, ◌++◌, length, take, drop, ℤ, refl, sym, ap, ap₂, subst, arith}
use Rattle.std.specs.Prelude.{Option, Some, None}
use Rattle.std.specs.Option.{option_map}
use Rattle.std.proofs.lemmas.List.{append_assoc, append-nil}
use Rattle.dz_algebra.specs.Amount.{Amount}
use Rattle.dz_algebra.specs.Whole.{whole_is_zero}
use Rattle.dz_arena.specs.Stacks.{Pile, with_cells, HasRoomFor}
use Rattle.dz_monomials.specs.Cells.{keep_fitting, finished}
use Rattle.dz_cells.specs.Rows.{over, keyed, rows_with, AreRows, keep_row, kept_rows}
use Rattle.dz_cells.specs.Runs.{added, cells_of, IsExtended}
use Rattle.dz_cells.specs.Tallies.{tallied}
use Rattle.dz_cells.specs.declared.tally.Tally.{Tally}
use Rattle.dz_cells.proofs.Merged.{added_more, extended_more, extended_nothing, room_left, none_added, nothing, cut_rows, length-cut, row_behind}

-- at the monomials of rows the same is kept
pub keyed-kept : {S : Type 0} (ss : List S) (ts : List (List ℕ × Option Amount)) → finished (keyed ss ts) ≡ option_map (keyed ss) (kept_rows ts)
keyed-kept ss [] = refl
keyed-kept {S} ss (t ∷ ts) = ap (keep_fitting (over ss t.0) t.1) (keyed-kept ss ts) ∙ by_parts t.1 (kept_rows ts)
  where
    by_zero : {S : Type 0} (ss : List S) (r : List ℕ) (a : Amount) (p : List (List ℕ × ℤ)) (b : Bool) → Some (cond b (keyed ss p) ((over ss r, a.total) ∷ keyed ss p)) ≡ Some (keyed ss (cond b p ((r, a.total) ∷ p)))
    by_zero ss r a p true = refl
    by_zero ss r a p false = refl

    by_parts : (x : Option Amount) (o : Option (List (List ℕ × ℤ))) → keep_fitting (over ss t.0) x (option_map (keyed ss) o) ≡ option_map (keyed ss) (keep_row t.0 x o)
    by_parts None o = refl
    by_parts (Some a) None = refl
    by_parts (Some a) (Some p) = by_zero ss t.0 a p (whole_is_zero a.total)

-- what is kept so far, and what is left of the cells
pub record IsKeeping (w : ℕ) (whole : Option (List (List ℕ × ℤ))) (rows rows' : Pile ℕ) (numbers numbers' : Pile ℤ) (es : List ℕ) (ts : List Tally) : Type 0 where
  pub left : AreRows w es ts
  pub room_for_rows : HasRoomFor (length es) rows'
  pub room_for_numbers : HasRoomFor (length ts) numbers'
  pub rows_on_top : IsExtended rows rows'
  pub numbers_on_top : IsExtended numbers numbers'
  pub are_rows : AreRows w (added rows rows') (added numbers numbers')
  pub kept : whole ≡ option_map (λ l. rows_with w (added rows rows') (added numbers numbers') ++ l) (kept_rows (cells_of w es ts))

pub begun_keeping : (w : ℕ) (rows : Pile ℕ) (numbers : Pile ℤ) (es : List ℕ) (ts : List Tally) → AreRows w es ts → HasRoomFor (length es) rows → HasRoomFor (length ts) numbers → IsKeeping w (kept_rows (cells_of w es ts)) rows rows numbers numbers es ts
begun_keeping w rows numbers es ts a h g =
    record {
      left = a;
      room_for_rows = h;
      room_for_numbers = g;
      rows_on_top = extended_nothing rows;
      numbers_on_top = extended_nothing numbers;
      are_rows = subst (λ l. AreRows w l (added numbers numbers)) (sym (none_added rows)) (subst (λ l. AreRows w [] l) (sym (none_added numbers)) refl);
      kept = same (kept_rows (cells_of w es ts)) ∙ sym (ap₂ (λ l k. option_map (λ m. rows_with w l k ++ m) (kept_rows (cells_of w es ts))) (none_added rows) (none_added numbers));
    }
  where
    same : {X : Type 0} (o : Option (List X)) → o ≡ option_map (λ m. [] ++ m) o
    same None = refl
    same (Some x) = refl

module _ (w : ℕ) (whole : Option (List (List ℕ × ℤ))) (rows rows' rows'' : Pile ℕ) (numbers numbers' numbers'' : Pile ℤ) (es : List ℕ) (ts ts' : List Tally) (t : Tally) (h : IsKeeping w whole rows rows' numbers numbers' es ts) (p : ts ≡ t ∷ ts') where
  cut : (w ≤ length es) × AreRows w (drop w es) ts'
  cut = cut_rows w es ts ts' t p h.left

  -- a total that fits is kept, if it is not zero
  pub kept_one : (c : ℤ) → Some c ≡ option_map (λ a. a.total) (tallied t) → rows'' ≡ with_cells rows' (rows'.cells ++ cond (whole_is_zero c) [] (take w es)) → numbers'' ≡ with_cells numbers' (numbers'.cells ++ cond (whole_is_zero c) [] (c ∷ [])) → IsKeeping w whole rows rows'' numbers numbers'' (drop w es) ts'
  kept_one c q e f = by_zero (whole_is_zero c) refl e f
    where
      longer : length ts ≡ suc (length ts')
      longer = ap length p

      at_total : (o : Option Amount) (k : Option (List (List ℕ × ℤ))) → Some c ≡ option_map (λ a. a.total) o → keep_row (take w es) o k ≡ option_map (λ l. cond (whole_is_zero c) l ((take w es, c) ∷ l)) k
      at_total None k q = cc
      at_total (Some a) None q = refl
      at_total (Some a) (Some l) q = let z : c ≡ a.total = cc in ap (λ d. Some (cond (whole_is_zero d) l ((take w es, d) ∷ l))) (sym z)

      before : whole ≡ option_map (λ l. rows_with w (added rows rows') (added numbers numbers') ++ l) (option_map (λ l. cond (whole_is_zero c) l ((take w es, c) ∷ l)) (kept_rows (cells_of w (drop w es) ts')))
      before = h.kept ∙ ap (λ l. option_map (λ m. rows_with w (added rows rows') (added numbers numbers') ++ m) (kept_rows (cells_of w es l))) p ∙ ap (option_map (λ l. rows_with w (added rows rows') (added numbers numbers') ++ l)) (at_total (tallied t) (kept_rows (cells_of w (drop w es) ts')) q)

      two_maps : {X Y Z : Type 0} (f : Y → Z) (g : X → Y) (o : Option X) → option_map f (option_map g o) ≡ option_map (λ x. f (g x)) o
      two_maps f g None = refl
      two_maps f g (Some x) = refl

      same_map : {X Y : Type 0} (f g : X → Y) → ((x : X) → f x ≡ g x) → (o : Option X) → option_map f o ≡ option_map g o
      same_map f g k None = refl
      same_map f g k (Some x) = ap Some (k x)

      by_zero : (b : Bool) → whole_is_zero c ≡ b → rows'' ≡ with_cells rows' (rows'.cells ++ cond b [] (take w es)) → numbers'' ≡ with_cells numbers' (numbers'.cells ++ cond b [] (c ∷ [])) → IsKeeping w whole rows rows'' numbers numbers'' (drop w es) ts'
      by_zero b z e f =
          let d = added_more rows rows' rows'' (cond b [] (take w es)) h.rows_on_top e in
          let k = added_more numbers numbers' numbers'' (cond b [] (c ∷ [])) h.numbers_on_top f in
          let n = length-cut w es cut.0 in
          let both = written b in
          record {
            left = cut.1;
            room_for_rows = room_left (length es) (length (drop w es)) rows' rows'' (cond b [] (take w es)) h.room_for_rows (omega (arith, n.0, n.1, short b)) e;
            room_for_numbers = room_left (length ts) (length ts') numbers' numbers'' (cond b [] (c ∷ [])) h.room_for_numbers (omega (arith, longer, few b)) f;
            rows_on_top = extended_more rows rows' rows'' (cond b [] (take w es)) h.rows_on_top e;
            numbers_on_top = extended_more numbers numbers' numbers'' (cond b [] (c ∷ [])) h.numbers_on_top f;
            are_rows = subst (λ l. AreRows w l (added numbers numbers'')) (sym d) (subst (λ l. AreRows w (added rows rows' ++ cond b [] (take w es)) l) (sym k) both.0);
            kept =
                before
                ∙ two_maps (λ l. rows_with w (added rows rows') (added numbers numbers') ++ l) (λ l. cond (whole_is_zero c) l ((take w es, c) ∷ l)) (kept_rows (cells_of w (drop w es) ts'))
                ∙ same_map (λ l. rows_with w (added rows rows') (added numbers numbers') ++ cond (whole_is_zero c) l ((take w es, c) ∷ l)) (λ l. rows_with w (added rows rows'') (added numbers numbers'') ++ l)
                (λ l. ap (λ b. rows_with w (added rows rows') (added numbers numbers') ++ cond b l ((take w es, c) ∷ l)) z ∙ both.1 l ∙ ap (λ x. x ++ l) (sym (ap₂ (rows_with w) d k)))
                (kept_rows (cells_of w (drop w es) ts'));
          }
        where
          short : (b : Bool) → length (cond b [] (take w es)) ≤ length (take w es)
          short true = omega arith
          short false = omega arith

          few : (b : Bool) → length (cond b [] (c ∷ [])) ≤ 1
          few true = omega arith
          few false = omega arith

          written : (b : Bool) → AreRows w (added rows rows' ++ cond b [] (take w es)) (added numbers numbers' ++ cond b [] (c ∷ [])) × ((l : List (List ℕ × ℤ)) → rows_with w (added rows rows') (added numbers numbers') ++ cond b l ((take w es, c) ∷ l) ≡ rows_with w (added rows rows' ++ cond b [] (take w es)) (added numbers numbers' ++ cond b [] (c ∷ [])) ++ l)
          written true = (
            subst (λ l. AreRows w l (added numbers numbers' ++ [])) (sym (append-nil (added rows rows'))) (subst (λ l. AreRows w (added rows rows') l) (sym (append-nil (added numbers numbers'))) h.are_rows),
            λ l. ap (λ x. x ++ l) (sym (ap₂ (rows_with w) (append-nil (added rows rows')) (append-nil (added numbers numbers')))),
          )
          written false =
              let r = row_behind w (added rows rows') (take w es) (added numbers numbers') c (length-cut w es cut.0).0 h.are_rows in
              (r.0, λ l. sym (append_assoc (rows_with w (added rows rows') (added numbers numbers')) ((take w es, c) ∷ []) l) ∙ ap (λ x. x ++ l) (sym r.1))

  -- a cell that does not fit is found
  pub kept_wide : None ≡ option_map (λ a. a.total) (tallied t) → whole ≡ None
  kept_wide q =
      h.kept
      ∙ ap (λ l. option_map (λ m. rows_with w (added rows rows') (added numbers numbers') ++ m) (kept_rows (cells_of w es l))) p
      ∙ ap (option_map (λ l. rows_with w (added rows rows') (added numbers numbers') ++ l)) (at_none (tallied t) q)
    where
      at_none : (o : Option Amount) → None ≡ option_map (λ a. a.total) o → keep_row (take w es) o (kept_rows (cells_of w (drop w es) ts')) ≡ None
      at_none None q = refl
      at_none (Some a) q = cc

-- at the end all is kept
pub kept_all : (w : ℕ) (whole : Option (List (List ℕ × ℤ))) (rows rows' : Pile ℕ) (numbers numbers' : Pile ℤ) (es : List ℕ) (ts : List Tally) → IsKeeping w whole rows rows' numbers numbers' es ts → true ≡ (length ts == 0) → whole ≡ Some (rows_with w (added rows rows') (added numbers numbers'))
kept_all w whole rows rows' numbers numbers' es ts h e =
    h.kept
    ∙ ap (λ l. option_map (λ m. rows_with w (added rows rows') (added numbers numbers') ++ m) (kept_rows (cells_of w es l))) (nothing ts e)
    ∙ ap Some (append-nil (rows_with w (added rows rows') (added numbers numbers')))
