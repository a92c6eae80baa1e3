-- Lemmas on the chunks of a stack.
use Rattle.std.proofs.Common.{◌≡◌, ℕ, zero, suc, ◌+◌, ◌-◌, ◌^◌, ◌<◌, ◌≤◌, List, [], ◌∷◌, ◌++◌, refl, sym, ap, ◌∙◌, arith, take, drop, length, map, Some, None, Option, option_to_list, subst, ◌⊎◌, inl, inr}
use Rattle.std.specs.Prelude.{get_or}
use Rattle.std.proofs.lemmas.List.{length-append, append_assoc, append-nil, take-append-drop, take-append-le, length-map, length-take, length-take-le, take-map}
use Rattle.std.proofs.Math.Seq.{take-append_seam}
use Rattle.dz_arena.proofs.Lists.{part_of_front}
use Rattle.dz_arena.specs.Chunks.{Held}
use Rattle.dz_arena.specs.Stacks.{pile_of, cells_of, spare_of, end_or, AreChunks, BeginsIn, IsWithin, HasRoom, HasRoomFor, InOneChunk, Lies, IsMarkOf, start_of, restored}
use Rattle.dz_arena.specs.declared.stack.Run.{Run}
use Rattle.dz_arena.specs.declared.stack.Mark.{Mark}

-- a number that is not 0 is positive
positive : (n : ℕ) → (n ≡ 0 → ⊥) → 0 < n
positive zero f = absurd (f refl)
positive (suc n) f = omega arith

-- nothing is taken of nothing
nil_taken : {X : Type 0} (n : ℕ) → take {A = X} n [] ≡ []
nil_taken zero = refl
nil_taken (suc n) = refl

-- where nothing is taken of something, none was to be taken
none_taken : {X : Type 0} (n : ℕ) (xs : List X) → [] ≡ take n xs → 0 < length xs → n ≡ 0
none_taken zero xs e some = refl
none_taken (suc n) [] e some = absurd (omega arith)
none_taken (suc n) (x ∷ xs) e some = absurd (let long = ap length e in omega (arith, long))

module _ {X : Type 0} where
  -- where a chunk begins, and its room
  abbrev place : Held X → ℕ × ℕ
  place h = (h.begin, h.room)

  -- what the chunks below say of the last one
  pub record IsLast (at : ℕ) (hs : List (Held X)) (h : Held X) : Type 0 where
    pub begins : h.begin ≡ at + length (cells_of hs)
    pub within : length h.cells ≤ h.room
    pub fits : h.begin + h.room < 2 ^ 64

  -- the last of some chunks begins where the others end
  pub last_chunk : (at : ℕ) (hs : List (Held X)) (h : Held X) → AreChunks at (hs ++ h ∷ []) → IsLast at hs h
  last_chunk at [] h a = record { begins = omega (arith, a.0); within = a.1; fits = a.2 }
  last_chunk at (g ∷ hs) h a =
      let below = last_chunk (at + length g.cells) hs h a.3 in
      record { begins = omega (arith, below.begins, length-append g.cells (cells_of hs)); within = below.within; fits = below.fits }

  -- the cells of a further chunk come on top
  pub cells_of-snoc : (hs : List (Held X)) (h : Held X) → length (cells_of (hs ++ h ∷ [])) ≡ length (cells_of hs) + length h.cells
  cells_of-snoc [] h = omega (arith, length-append h.cells [])
  cells_of-snoc (g ∷ hs) h = omega (arith, cells_of-snoc hs h, length-append g.cells (cells_of hs), length-append g.cells (cells_of (hs ++ h ∷ [])))

  -- chunks end where the last one does
  pub end_of_last : (d : ℕ) (hs : List (Held X)) (h : Held X) → end_or d (map (λ g. (g.begin, g.room)) (hs ++ h ∷ [])) ≡ h.begin + h.room
  end_of_last d [] h = refl
  end_of_last d (g ∷ hs) h = end_of_last (g.begin + g.room) hs h

  -- the end of the top chunk fits a number
  pub top_fits : (hs : List (Held X)) (top : Option (Held X)) (h : Held X) → top ≡ Some h → AreChunks 0 (hs ++ option_to_list top) → h.begin + h.room < 2 ^ 64
  top_fits hs top h e a = (last_chunk 0 hs h (subst (λ t. AreChunks 0 (hs ++ option_to_list t)) e a)).fits

  -- the top chunk tells how many cells there are
  pub top_length : (hs : List (Held X)) (top : Option (Held X)) (h : Held X) → top ≡ Some h → AreChunks 0 (hs ++ option_to_list top)
      → h.begin + length h.cells ≡ length (cells_of (hs ++ option_to_list top))
  top_length hs top h e a = let last = last_chunk 0 hs h (subst (λ t. AreChunks 0 (hs ++ option_to_list t)) e a) in
      rw e (omega (arith, last.begins, cells_of-snoc hs h))

  -- and how many it has room for
  pub top_spare : (hs : List (Held X)) (top : Option (Held X)) (h : Held X) (begun : Option Run) → top ≡ Some h → AreChunks 0 (hs ++ option_to_list top)
      → h.room - length h.cells ≡ spare_of (pile_of (hs ++ option_to_list top) begun)
  top_spare hs top h begun e a = let last = last_chunk 0 hs h (subst (λ t. AreChunks 0 (hs ++ option_to_list t)) e a) in
      rw e (omega (arith, last.begins, last.within, cells_of-snoc hs h, end_of_last 0 hs h))

  -- the cells have room in the chunks
  pub cells_within : (at d : ℕ) (hs : List (Held X)) → AreChunks at hs → at ≤ d → at + length (cells_of hs) ≤ end_or d (map (λ g. (g.begin, g.room)) hs)
  cells_within at d [] a le = omega arith
  cells_within at d (h ∷ hs) a le =
      let rest = cells_within (at + length h.cells) (h.begin + h.room) hs a.3 (omega (arith, a.0, a.1)) in omega (arith, rest, length-append h.cells (cells_of hs))

  -- a chunk with one more cell on top
  pub one_more_cell : (at : ℕ) (hs : List (Held X)) (h g : Held X) (x : X) → AreChunks at (hs ++ h ∷ []) → length h.cells < h.room
      → (g.begin ≡ h.begin) × (g.room ≡ h.room) × (g.cells ≡ h.cells ++ x ∷ []) → AreChunks at (hs ++ g ∷ [])
  one_more_cell at [] h g x a lt e = (e.0 ∙ a.0, omega (arith, e.1, ap length e.2, length-append h.cells (x ∷ [])), omega (arith, e.0, e.1, a.2), tt)
  one_more_cell at (f ∷ hs) h g x a lt e = (a.0, a.1, a.2, one_more_cell (at + length f.cells) hs h g x a.3 lt e)

  -- and its cell is the last of all
  pub cells_pushed : (hs : List (Held X)) (h g : Held X) (x : X) → g.cells ≡ h.cells ++ x ∷ [] → cells_of (hs ++ g ∷ []) ≡ cells_of (hs ++ h ∷ []) ++ x ∷ []
  cells_pushed [] h g x e = append-nil g.cells ∙ e ∙ ap (λ ys. ys ++ x ∷ []) (sym (append-nil h.cells))
  cells_pushed (f ∷ hs) h g x e = ap (λ ys. f.cells ++ ys) (cells_pushed hs h g x e) ∙ sym (append_assoc f.cells (cells_of (hs ++ h ∷ [])) (x ∷ []))

  -- a begun run with room has it in the top chunk
  pub room_on_top : (hs : List (Held X)) (h : Held X) (begun : Option Run) → AreChunks 0 (hs ++ h ∷ []) → IsWithin (pile_of (hs ++ h ∷ []) begun)
      → HasRoom (pile_of (hs ++ h ∷ []) begun) → length h.cells < h.room
  room_on_top hs h None a w r = absurd r
  room_on_top hs h (Some run) a w r = omega (arith, r, w.2, (last_chunk 0 hs h a).begins, cells_of-snoc hs h, end_of_last 0 hs h)

  -- the begun run has the cell then
  pub pushed_within : (hs : List (Held X)) (h g : Held X) (x : X) (begun : Option Run) → (g.begin ≡ h.begin) × (g.room ≡ h.room) × (g.cells ≡ h.cells ++ x ∷ [])
      → IsWithin (pile_of (hs ++ h ∷ []) begun) → HasRoom (pile_of (hs ++ h ∷ []) begun) → IsWithin (pile_of (hs ++ g ∷ []) begun)
  pushed_within hs h g x None e w r = tt
  pushed_within hs h g x (Some run) e w r =
      let longer : length (cells_of (hs ++ g ∷ [])) ≡ length (cells_of (hs ++ h ∷ [])) + 1 = ap length (cells_pushed hs h g x e.2) ∙ length-append (cells_of (hs ++ h ∷ [])) (x ∷ []) in
      (omega (arith, w.0, longer), omega (arith, r, longer), omega (arith, w.2, end_of_last 0 hs h, end_of_last 0 hs g, e.0, e.1))

  -- another last chunk leaves their number
  pub as_many : (hs : List (Held X)) (h g : Held X) → length (hs ++ g ∷ []) ≡ length (hs ++ h ∷ [])
  as_many [] h g = refl
  as_many (f ∷ hs) h g = ap suc (as_many hs h g)

  -- ---- many cells at once
  -- a chunk with more cells on top
  pub more_cells : (at : ℕ) (hs : List (Held X)) (h g : Held X) (xs : List X) → AreChunks at (hs ++ h ∷ []) → length h.cells + length xs ≤ h.room
      → (g.begin ≡ h.begin) × (g.room ≡ h.room) × (g.cells ≡ h.cells ++ xs) → AreChunks at (hs ++ g ∷ [])
  more_cells at [] h g xs a lt e = (e.0 ∙ a.0, omega (arith, lt, e.1, ap length e.2, length-append h.cells xs), omega (arith, e.0, e.1, a.2), tt)
  more_cells at (f ∷ hs) h g xs a lt e = (a.0, a.1, a.2, more_cells (at + length f.cells) hs h g xs a.3 lt e)

  -- and its cells are the last of all
  pub cells_put : (hs : List (Held X)) (h g : Held X) (xs : List X) → g.cells ≡ h.cells ++ xs → cells_of (hs ++ g ∷ []) ≡ cells_of (hs ++ h ∷ []) ++ xs
  cells_put [] h g xs e = append-nil g.cells ∙ e ∙ ap (λ ys. ys ++ xs) (sym (append-nil h.cells))
  cells_put (f ∷ hs) h g xs e = ap (λ ys. f.cells ++ ys) (cells_put hs h g xs e) ∙ sym (append_assoc f.cells (cells_of (hs ++ h ∷ [])) xs)

  -- a begun run with room for them has it in the top chunk
  pub room_for : (hs : List (Held X)) (h : Held X) (count : ℕ) (begun : Option Run) → AreChunks 0 (hs ++ h ∷ []) → IsWithin (pile_of (hs ++ h ∷ []) begun)
      → HasRoomFor count (pile_of (hs ++ h ∷ []) begun) → length h.cells + count ≤ h.room
  room_for hs h count None a w r = absurd r
  room_for hs h count (Some run) a w r = omega (arith, r, w.2, (last_chunk 0 hs h a).begins, cells_of-snoc hs h, end_of_last 0 hs h)

  -- the begun run has the cells then
  pub put_within : (hs : List (Held X)) (h g : Held X) (xs : List X) (begun : Option Run) → (g.begin ≡ h.begin) × (g.room ≡ h.room) × (g.cells ≡ h.cells ++ xs)
      → IsWithin (pile_of (hs ++ h ∷ []) begun) → HasRoomFor (length xs) (pile_of (hs ++ h ∷ []) begun) → IsWithin (pile_of (hs ++ g ∷ []) begun)
  put_within hs h g xs None e w r = tt
  put_within hs h g xs (Some run) e w r =
      let longer : length (cells_of (hs ++ g ∷ [])) ≡ length (cells_of (hs ++ h ∷ [])) + length xs = ap length (cells_put hs h g xs e.2) ∙ length-append (cells_of (hs ++ h ∷ [])) xs in
      (omega (arith, w.0, longer), omega (arith, r, longer), omega (arith, w.2, end_of_last 0 hs h, end_of_last 0 hs g, e.0, e.1))

  -- no run is begun where there is no chunk, so that nothing can be put
  pub no_room : (count : ℕ) (hs : List (Held X)) (begun : Option Run) → hs ≡ [] → IsWithin (pile_of hs begun) → HasRoomFor count (pile_of hs begun) → count ≡ 0
  no_room count hs None e w r = absurd r
  no_room count [] (Some run) e w r = omega (arith, r, w.2)
  no_room count (h ∷ hs) (Some run) e w r = cc

  -- chunks that lie lower end where a later one begins
  ends_below : (at : ℕ) (hs : List (Held X)) (from count : ℕ) → AreChunks at hs → Lies hs from count → from + count ≤ at + length (cells_of hs)
  ends_below at [] from count a l = absurd l
  ends_below at (h ∷ hs) from count a (inl l) = omega (arith, l.1, a.0, length-append h.cells (cells_of hs))
  ends_below at (h ∷ hs) from count a (inr l) = omega (arith, ends_below (at + length h.cells) hs from count a.3 l, length-append h.cells (cells_of hs))

  -- a run lies in the last chunk or below
  split_lies : (hs : List (Held X)) (h : Held X) (from count : ℕ) → Lies (hs ++ h ∷ []) from count → Lies hs from count ⊎ ((h.begin ≤ from) × (from + count ≤ h.begin + length h.cells))
  split_lies [] h from count (inl l) = inr l
  split_lies [] h from count (inr l) = absurd l
  split_lies (g ∷ hs) h from count (inl l) = inl (inl l)
  split_lies (g ∷ hs) h from count (inr l) = elim (split_lies hs h from count l) [ inl m ↦ inl (inr m) | inr m ↦ inr m ]

  -- the lower chunks are chunks by themselves
  pub front_chunks : (at : ℕ) (hs : List (Held X)) (h : Held X) → AreChunks at (hs ++ h ∷ []) → AreChunks at hs
  front_chunks at [] h a = tt
  front_chunks at (g ∷ hs) h a = (a.0, a.1, a.2, front_chunks (at + length g.cells) hs h a.3)

  -- a run that begins in the last chunk lies there
  pub lies_in_last : (hs : List (Held X)) (h : Held X) (from count : ℕ) → AreChunks 0 (hs ++ h ∷ []) → Lies (hs ++ h ∷ []) from count → 0 < count → h.begin ≤ from
      → from - h.begin + count ≤ length h.cells
  lies_in_last hs h from count a l some le =
      elim (split_lies hs h from count l) [ inl m ↦ absurd (omega (arith, ends_below 0 hs from count (front_chunks 0 hs h a) m, (last_chunk 0 hs h a).begins)) | inr m ↦ omega (arith, m.1) ]

  -- one that begins lower lies lower
  pub lies_below : (hs : List (Held X)) (h : Held X) (from count : ℕ) → Lies (hs ++ h ∷ []) from count → from < h.begin → Lies hs from count
  lies_below hs h from count l lt = elim (split_lies hs h from count l) [ inl m ↦ m | inr m ↦ absurd (omega (arith, m.0)) ]

  -- the cells of the last chunk stand last
  cells_of-last : (hs : List (Held X)) (h : Held X) → cells_of (hs ++ h ∷ []) ≡ cells_of hs ++ h.cells
  cells_of-last [] h = append-nil h.cells
  cells_of-last (g ∷ hs) h = ap (λ ys. g.cells ++ ys) (cells_of-last hs h) ∙ sym (append_assoc g.cells (cells_of hs) h.cells)

  -- what is dropped past a front is dropped of the rest
  drop_past : (xs ys : List X) (n : ℕ) → length xs ≤ n → drop n (xs ++ ys) ≡ drop (n - length xs) ys
  drop_past [] ys n le = let same : n - 0 ≡ n = omega arith in rw same refl
  drop_past (x ∷ xs) ys zero le = absurd (omega arith)
  drop_past (x ∷ xs) ys (suc n) le = let same : suc n - suc (length xs) ≡ n - length xs = omega arith in rw same (drop_past xs ys n (omega arith))

  -- a part of the last chunk is a part of all cells
  pub part_of_last : (hs : List (Held X)) (h : Held X) (from count : ℕ) → AreChunks 0 (hs ++ h ∷ []) → h.begin ≤ from
      → take count (drop (from - h.begin) h.cells) ≡ take count (drop from (cells_of (hs ++ h ∷ [])))
  part_of_last hs h from count a le =
      let last = last_chunk 0 hs h a in let at : h.begin ≡ length (cells_of hs) = omega (arith, last.begins) in
      rw (cells_of-last hs h, drop_past (cells_of hs) h.cells from (omega (arith, at)), at) refl

  -- a part of a front is a part of the whole
  within_front : (xs ys : List X) (from count : ℕ) → from + count ≤ length xs → take count (drop from (xs ++ ys)) ≡ take count (drop from xs)
  within_front xs ys from count le = sym (part_of_front (length xs) from count (xs ++ ys) le) ∙ ap (λ zs. take count (drop from zs)) (take-append_seam xs ys)

  -- a part of the lower chunks is a part of all cells
  pub part_of_lower : (hs : List (Held X)) (h : Held X) (from count : ℕ) → AreChunks 0 (hs ++ h ∷ []) → Lies hs from count
      → take count (drop from (cells_of hs)) ≡ take count (drop from (cells_of (hs ++ h ∷ [])))
  part_of_lower hs h from count a l = rw (cells_of-last hs h) (let most = ends_below 0 hs from count (front_chunks 0 hs h a) l in sym (within_front (cells_of hs) h.cells from count (omega arith)))

  -- a run by the places of chunks lies in one of them
  pub lies_from : (at : ℕ) (hs : List (Held X)) (n from count : ℕ) → AreChunks at hs → n ≡ at + length (cells_of hs) → 0 < count
      → InOneChunk n (map (λ g. (g.begin, g.room)) hs) from count → Lies hs from count
  lies_from at [] n from count a e some i = absurd (omega (arith, i))
  lies_from at (h ∷ []) n from count a e some i = inl (i.0, omega (arith, i.1, e, a.0, length-append h.cells []))
  lies_from at (h ∷ g ∷ hs) n from count a e some (inl i) = inl (i.0, omega (arith, i.1, a.0, a.3.0))
  lies_from at (h ∷ g ∷ hs) n from count a e some (inr i) =
      inr (lies_from (at + length h.cells) (g ∷ hs) n from count a.3 (omega (arith, e, length-append h.cells (cells_of (g ∷ hs)))) some i)

  -- a run that may be read lies in a chunk
  pub run_lies : (hs : List (Held X)) (top : Option (Held X)) (h : Held X) (begun : Option Run) (from count : ℕ) → top ≡ Some h → AreChunks 0 (hs ++ option_to_list top)
      → InOneChunk (length (pile_of (hs ++ option_to_list top) begun).cells) (pile_of (hs ++ option_to_list top) begun).chunks from count → (count ≡ 0 → ⊥)
      → AreChunks 0 (hs ++ h ∷ []) × Lies (hs ++ h ∷ []) from count × (0 < count)
  run_lies hs top h begun from count e a i f =
      let chunks = subst (λ t. AreChunks 0 (hs ++ option_to_list t)) e a in
      let inside = subst (λ t. InOneChunk (length (pile_of (hs ++ option_to_list t) begun).cells) (pile_of (hs ++ option_to_list t) begun).chunks from count) e i in
      (chunks, lies_from 0 (hs ++ h ∷ []) (length (cells_of (hs ++ h ∷ []))) from count chunks (omega arith) (positive count f) inside, positive count f)

  -- an empty chunk may come on top where the cells end
  pub chunk_on_top : (at : ℕ) (hs : List (Held X)) (h : Held X) → AreChunks at hs → h.begin ≡ at + length (cells_of hs) → h.cells ≡ [] → h.begin + h.room < 2 ^ 64 → AreChunks at (hs ++ h ∷ [])
  chunk_on_top at [] h a e none fits = (omega (arith, e), omega (arith, ap length none), fits, tt)
  chunk_on_top at (g ∷ hs) h a e none fits = (a.0, a.1, a.2, chunk_on_top (at + length g.cells) hs h a.3 (omega (arith, e, length-append g.cells (cells_of hs))) none fits)

  -- all of its room is spare
  pub new_spare : (hs : List (Held X)) (h : Held X) (begun : Option Run) → h.begin ≡ length (cells_of hs) → h.cells ≡ [] → spare_of (pile_of (hs ++ h ∷ []) begun) ≡ h.room
  new_spare hs h begun e none = omega (arith, e, ap length none, cells_of-snoc hs h, end_of_last 0 hs h)

  -- an option has at most one value
  pub at_most_one : (t : Option (Held X)) → length (option_to_list t) ≤ 1
  at_most_one None = omega arith
  at_most_one (Some h) = omega arith

  -- what is not the last chunk, taken from the front
  pub taken_front : (all gs : List (Held X)) (h : Held X) → gs ++ h ∷ [] ≡ take (length (gs ++ h ∷ [])) all → gs ≡ take (length gs) all
  taken_front all gs h e = sym (take-append_seam gs (h ∷ [])) ∙ ap (λ xs. take (length gs) xs) e ∙ part_of_front (length (gs ++ h ∷ [])) 0 (length gs) all (omega (arith, length-append gs (h ∷ [])))

  -- a list without length is empty
  pub no_chunk : (hs : List (Held X)) → length hs ≡ 0 → hs ≡ []
  no_chunk [] e = refl
  no_chunk (h ∷ hs) e = absurd (omega arith)

  -- where the chunk after some begins, and where the next one does or the list ends
  bounds_at : (at total : ℕ) (gs : List (Held X)) (g : Held X) (rest : List (Held X)) → AreChunks at (gs ++ g ∷ rest) → total ≡ at + length (cells_of (gs ++ g ∷ rest))
      → (get_or (map (λ c. c.0) (pile_of (gs ++ g ∷ rest) None).chunks) (length gs) total ≡ g.begin) × (get_or (map (λ c. c.0) (pile_of (gs ++ g ∷ rest) None).chunks) (suc (length gs)) total ≡ g.begin + length g.cells)
  bounds_at at total [] g [] a e = (refl, omega (arith, e, a.0, length-append g.cells []))
  bounds_at at total [] g (r ∷ rest) a e = (refl, omega (arith, a.0, a.3.0))
  bounds_at at total (f ∷ gs) g rest a e = bounds_at (at + length f.cells) total gs g rest a.3 (omega (arith, e, length-append f.cells (cells_of (gs ++ g ∷ rest))))

  -- the chunk in which a mark lies
  pub record Marks (gs : List (Held X)) (g : Held X) (rest hs : List (Held X)) (m : Mark) : Type 0 where
    pub all : hs ≡ gs ++ g ∷ rest
    pub count : m.chunks ≡ suc (length gs)
    pub above : g.begin ≤ m.length
    pub below : m.length ≤ g.begin + length g.cells

  -- the last chunk that a mark leaves is the one in which it lies
  pub mark_in_last : (hs gs : List (Held X)) (g : Held X) (begun : Option Run) (m : Mark) → AreChunks 0 hs → gs ++ g ∷ [] ≡ take m.chunks hs → IsMarkOf (pile_of hs begun) m
      → Marks gs g (drop m.chunks hs) hs m
  mark_in_last hs gs g begun m a e i =
      let rest = drop m.chunks hs in
      let whole : hs ≡ gs ++ g ∷ rest = sym (take-append-drop m.chunks hs) ∙ ap (λ xs. xs ++ rest) (sym e) ∙ append_assoc gs (g ∷ []) rest in
      let few : m.chunks ≤ length hs = omega (arith, i.0, length-map hs place) in
      let count : m.chunks ≡ suc (length gs) = omega (arith, ap length e, length-append gs (g ∷ []), length-take-le m.chunks hs few) in
      let one : m.chunks - 1 ≡ length gs = omega (arith, count) in
      let bounds = bounds_at 0 (length (cells_of (gs ++ g ∷ rest))) gs g rest (subst (λ xs. AreChunks 0 xs) whole a) (omega arith) in
      let low : start_of (m.chunks - 1) (pile_of (gs ++ g ∷ rest) begun) ≤ m.length = subst (λ xs. start_of (m.chunks - 1) (pile_of xs begun) ≤ m.length) whole i.1 in
      let high : m.length ≤ start_of m.chunks (pile_of (gs ++ g ∷ rest) begun) = subst (λ xs. m.length ≤ start_of m.chunks (pile_of xs begun)) whole i.2 in
      record {
        all = whole;
        count = count;
        above = subst (λ k. k ≤ m.length) bounds.0 (subst (λ k. start_of k (pile_of (gs ++ g ∷ rest) begun) ≤ m.length) one low);
        below = subst (λ k. m.length ≤ k) bounds.1 (subst (λ k. m.length ≤ start_of k (pile_of (gs ++ g ∷ rest) begun)) count high);
      }

  -- what is taken past a front is taken of the rest
  take_past : (xs ys : List X) (n : ℕ) → length xs ≤ n → take n (xs ++ ys) ≡ xs ++ take (n - length xs) ys
  take_past [] ys n le = let same : n - 0 ≡ n = omega arith in rw same refl
  take_past (x ∷ xs) ys zero le = absurd (omega arith)
  take_past (x ∷ xs) ys (suc n) le = let same : suc n - suc (length xs) ≡ n - length xs = omega arith in rw same (ap (λ zs. x ∷ zs) (take_past xs ys n (omega arith)))

  -- cells below, of a chunk, and above
  cells_of-split : (gs : List (Held X)) (g : Held X) (rest : List (Held X)) → cells_of (gs ++ g ∷ rest) ≡ cells_of gs ++ (g.cells ++ cells_of rest)
  cells_of-split [] g rest = refl
  cells_of-split (f ∷ gs) g rest = ap (λ ys. f.cells ++ ys) (cells_of-split gs g rest) ∙ sym (append_assoc f.cells (cells_of gs) (g.cells ++ cells_of rest))

  -- the chunks up to one are chunks by themselves
  front_of : (at : ℕ) (gs : List (Held X)) (g : Held X) (rest : List (Held X)) → AreChunks at (gs ++ g ∷ rest) → AreChunks at (gs ++ g ∷ [])
  front_of at [] g rest a = (a.0, a.1, a.2, tt)
  front_of at (f ∷ gs) g rest a = (a.0, a.1, a.2, front_of (at + length f.cells) gs g rest a.3)

  -- a chunk with fewer cells on top
  fewer_cells : (at : ℕ) (gs : List (Held X)) (g f : Held X) → AreChunks at (gs ++ g ∷ []) → f.begin ≡ g.begin → f.room ≡ g.room → length f.cells ≤ length g.cells → AreChunks at (gs ++ f ∷ [])
  fewer_cells at [] g f a b r le = (b ∙ a.0, omega (arith, a.1, r, le), omega (arith, a.2, b, r), tt)
  fewer_cells at (h ∷ gs) g f a b r le = (a.0, a.1, a.2, fewer_cells (at + length h.cells) gs g f a.3 b r le)

  -- a chunk at the same place with the same room leaves the places
  same_places : (gs : List (Held X)) (g f : Held X) → f.begin ≡ g.begin → f.room ≡ g.room → map place (gs ++ f ∷ []) ≡ map place (gs ++ g ∷ [])
  same_places [] g f b r = ap (λ x. (x, f.room) ∷ []) b ∙ ap (λ x. (g.begin, x) ∷ []) r
  same_places (h ∷ gs) g f b r = ap (λ xs. (h.begin, h.room) ∷ xs) (same_places gs g f b r)

  module _ (hs gs : List (Held X)) (g f : Held X) (begun : Option Run) (m : Mark) (a : AreChunks 0 hs) (e : gs ++ g ∷ [] ≡ take m.chunks hs) (i : IsMarkOf (pile_of hs begun) m)
      (b : f.begin ≡ g.begin) (r : f.room ≡ g.room) (cut : f.cells ≡ take (m.length - g.begin) g.cells) where
    -- the chunk in which the mark lies
    abbrev marks : Marks gs g (drop m.chunks hs) hs m
    marks = mark_in_last hs gs g begun m a e i

    -- the chunks up to it
    split_chunks : AreChunks 0 (gs ++ g ∷ [])
    split_chunks = front_of 0 gs g (drop m.chunks hs) (subst (λ xs. AreChunks 0 xs) marks.all a)

    -- cut there, they are chunks
    pub restored_chunks : AreChunks 0 (gs ++ f ∷ [])
    restored_chunks = fewer_cells 0 gs g f split_chunks b r (omega (arith, ap length cut, length-take (m.length - g.begin) g.cells))

    -- their cells are the first ones
    pub restored_cells : cells_of (gs ++ f ∷ []) ≡ take m.length (cells_of hs)
    restored_cells =
        let at : length (cells_of gs) ≡ g.begin = (let last = last_chunk 0 gs g split_chunks in omega (arith, last.begins)) in
        let rest = cells_of (drop m.chunks hs) in
        cells_of-last gs f ∙ ap (λ ys. cells_of gs ++ ys) cut ∙ ap (λ k. cells_of gs ++ take (m.length - k) g.cells) (sym at)
        ∙ ap (λ ys. cells_of gs ++ ys) (sym (take-append-le (m.length - length (cells_of gs)) g.cells rest (omega (arith, at, marks.below))))
        ∙ sym (take_past (cells_of gs) (g.cells ++ rest) m.length (omega (arith, at, marks.above)))
        ∙ ap (λ ys. take m.length ys) (sym (cells_of-split gs g (drop m.chunks hs)) ∙ ap cells_of (sym marks.all))

    -- so a cut restores the mark
    pub restored_pile : begun ≡ None → pile_of (gs ++ f ∷ []) begun ≡ restored (pile_of hs begun) m
    restored_pile idle = ap (λ ys. record { cells = ys; chunks = (pile_of (gs ++ f ∷ []) begun).chunks; begun = begun }) restored_cells
        ∙ ap (λ ys. record { cells = take m.length (cells_of hs); chunks = ys; begun = begun }) (same_places gs g f b r ∙ ap (map place) e ∙ sym (take-map place m.chunks hs))
        ∙ ap (λ ys. record { cells = take m.length (cells_of hs); chunks = take m.chunks (pile_of hs begun).chunks; begun = ys }) idle

  -- a mark without chunks leaves nothing
  pub mark_of_none : (hs : List (Held X)) (begun : Option Run) (m : Mark) → AreChunks 0 hs → [] ≡ take m.chunks hs → IsMarkOf (pile_of hs begun) m → begun ≡ None
      → pile_of [] begun ≡ restored (pile_of hs begun) m
  mark_of_none [] begun m a e i idle =
      ap (λ b. record { cells = []; chunks = []; begun = b }) idle ∙ ap (λ xs. record { cells = xs; chunks = []; begun = None }) (sym (nil_taken m.length))
      ∙ ap (λ xs. record { cells = take m.length []; chunks = xs; begun = None }) (sym (nil_taken m.chunks))
  mark_of_none (h ∷ hs) begun m a e i idle =
      let k : m.chunks ≡ 0 = none_taken m.chunks (h ∷ hs) e (omega arith) in
      let low : m.length ≤ h.begin = subst (λ n. m.length ≤ start_of n (pile_of (h ∷ hs) begun)) k i.2 in let none : m.length ≡ 0 = omega (arith, low, a.0) in
      ap (λ b. record { cells = []; chunks = []; begun = b }) idle ∙ ap (λ n. record { cells = take n (cells_of (h ∷ hs)); chunks = []; begun = None }) (sym none)
      ∙ ap (λ n. record { cells = take m.length (cells_of (h ∷ hs)); chunks = take n (map place (h ∷ hs)); begun = None }) (sym k)

  -- past the chunks stands the end
  get_past : (d : ℕ) (hs : List (Held X)) → get_or (map (λ c. c.0) (map place hs)) (length hs) d ≡ d
  get_past d [] = refl
  get_past d (h ∷ hs) = get_past d hs

  -- the last chunk begins before the end
  last_start : (at d : ℕ) (hs : List (Held X)) → AreChunks at hs → d ≡ at + length (cells_of hs) → get_or (map (λ c. c.0) (map place hs)) (length hs - 1) d ≤ d
  last_start at d [] a e = omega arith
  last_start at d (h ∷ []) a e = omega (arith, a.0, e)
  last_start at d (h ∷ g ∷ hs) a e =
      let before : length (h ∷ g ∷ hs) - 1 ≡ suc (length (g ∷ hs) - 1) = omega arith in
      rw before (last_start (at + length h.cells) d (g ∷ hs) a.3 (omega (arith, e, length-append h.cells (cells_of (g ∷ hs)))))

  -- the mark that tells how far chunks reach is one of theirs
  pub mark_at_end : (hs : List (Held X)) (begun : Option Run) (m : Mark) → AreChunks 0 hs → m.length ≡ length (cells_of hs) → m.chunks ≡ length hs → IsMarkOf (pile_of hs begun) m
  mark_at_end hs begun m a long many =
      let total = length (cells_of hs) in (
        omega (arith, many, length-map hs place),
        subst (λ k. start_of (k - 1) (pile_of hs begun) ≤ m.length) (sym many) (omega (arith, long, last_start 0 total hs a (omega arith))),
        subst (λ k. m.length ≤ start_of k (pile_of hs begun)) (sym many) (omega (arith, long, get_past total hs)),
      )

  -- a run from the last chunk to the end lies in it
  in_last : (n : ℕ) (hs : List (Held X)) (h : Held X) (from count : ℕ) → h.begin ≤ from → from + count ≤ n → InOneChunk n (map place (hs ++ h ∷ [])) from count
  in_last n [] h from count low high = (low, high)
  in_last n (g ∷ []) h from count low high = inr (low, high)
  in_last n (g ∷ f ∷ hs) h from count low high = inr (in_last n (f ∷ hs) h from count low high)

  -- a run that goes to the end of the cells lies in the top chunk
  pub run_on_top : (hs : List (Held X)) (top : Option (Held X)) (run : Run) (count : ℕ) → (top ≡ None → hs ≡ []) → BeginsIn (Some run) top
      → run.beginning + count ≡ length (cells_of (hs ++ option_to_list top)) → InOneChunk (length (cells_of (hs ++ option_to_list top))) (map place (hs ++ option_to_list top)) run.beginning count
  run_on_top hs None run count lowest on e =
      let none = lowest refl in
      let short : run.beginning + count ≡ 0 = subst (λ gs. run.beginning + count ≡ length (cells_of (gs ++ []))) none e in
      subst (λ gs. InOneChunk (length (cells_of (gs ++ []))) (map place (gs ++ [])) run.beginning count) (sym none) (omega (arith, short))
  run_on_top hs (Some h) run count lowest on e = in_last (length (cells_of (hs ++ h ∷ []))) hs h run.beginning count on (omega (arith, e))

  -- a run that begins at the end begins in the top chunk
  pub begins_on_top : (hs : List (Held X)) (top : Option (Held X)) (run : Run) → AreChunks 0 (hs ++ option_to_list top) → run.beginning ≡ length (cells_of (hs ++ option_to_list top)) → BeginsIn (Some run) top
  begins_on_top hs None run a e = tt
  begins_on_top hs (Some h) run a e = omega (arith, e, (last_chunk 0 hs h a).begins, cells_of-snoc hs h)

  -- it still does when the chunk has one cell more
  pub stays_on_top : (begun : Option Run) (h g : Held X) → g.begin ≡ h.begin → BeginsIn begun (Some h) → BeginsIn begun (Some g)
  stays_on_top None h g e on = tt
  stays_on_top (Some run) h g e on = omega (arith, e, on)

  -- the top chunk counts as one
  pub one_more_chunk : (hs : List (Held X)) (top : Option (Held X)) (h : Held X) (n : ℕ) → top ≡ Some h → n ≡ length hs → n + 1 ≡ length (hs ++ option_to_list top)
  one_more_chunk hs top h n e long = rw e (omega (arith, long, length-append hs (h ∷ [])))

  -- without a top chunk there is none
  pub no_chunks : (hs : List (Held X)) (top : Option (Held X)) → top ≡ None → (top ≡ None → hs ≡ []) → 0 ≡ length (hs ++ option_to_list top)
  no_chunks hs top e lowest = rw (lowest e, e) refl
