-- What contracts see of a stack.
use Rattle.std.specs.Prelude.{◌≡◌, ℕ, ◌+◌, ◌-◌, ◌^◌, ◌≤◌, ◌<◌, ◌⊎◌, ⊤, List, [], ◌∷◌, ◌++◌, length, take, map, get_or, flat_map, Option, Some, None}
use Rattle.dz_arena.specs.Chunks.{Held}
use Rattle.dz_arena.specs.declared.stack.Run.{Run}
use Rattle.dz_arena.specs.declared.stack.Mark.{Mark}

-- the cells; the chunks in use, the lowest first, each with the position where it begins and its room; and, where a
-- run is begun, where it begins and how many cells it may have
pub record Pile (X : Type 0) : Type 0 where
  pub cells : List X
  pub chunks : List (ℕ × ℕ)
  pub begun : Option Run

-- where the last of the chunks ends, or d where there is none
abbrev pub end_or : ℕ → List (ℕ × ℕ) → ℕ
end_or d [] = d
end_or d (c ∷ cs) = end_or (c.0 + c.1) cs

-- the cells left in the top chunk
abbrev pub spare_of : {X : Type 0} → Pile X → ℕ
spare_of p = end_or 0 p.chunks - length p.cells

-- the stack of these chunks
abbrev pub pile_of : {X : Type 0} → List (Held X) → Option Run → Pile X
pile_of hs begun = record { cells = flat_map (λ h. h.cells) hs; chunks = map (λ h. (h.begin, h.room)) hs; begun = begun }

-- from a position on, each chunk begins where the one below ends, and its cells have room
abbrev pub AreChunks : {X : Type 0} → ℕ → List (Held X) → Type 0
AreChunks at [] = ⊤
AreChunks at (h ∷ hs) = (h.begin ≡ at) × (length h.cells ≤ h.room) × (h.begin + h.room < 2 ^ 64) × AreChunks (at + length h.cells) hs

-- a begun run begins in the list, and there is room for its cells in the top chunk
abbrev pub IsWithin : {X : Type 0} → Pile X → Type 0
IsWithin p = elim p.begun [ None ↦ ⊤ | Some run ↦ (run.beginning ≤ length p.cells) × (length p.cells ≤ run.beginning + run.length) × (run.beginning + run.length ≤ end_or 0 p.chunks) ]

-- a begun run begins in the top chunk or at its end
abbrev pub BeginsIn : {X : Type 0} → Option Run → Option (Held X) → Type 0
BeginsIn None top = ⊤
BeginsIn (Some run) None = ⊤
BeginsIn (Some run) (Some h) = h.begin ≤ run.beginning

-- some chunk has all these cells; the cells of the last chunk go to the position n
abbrev pub InOneChunk : ℕ → List (ℕ × ℕ) → ℕ → ℕ → Type 0
InOneChunk n [] from count = count ≡ 0
InOneChunk n (c ∷ []) from count = (c.0 ≤ from) × (from + count ≤ n)
InOneChunk n (c ∷ d ∷ cs) from count = ((c.0 ≤ from) × (from + count ≤ d.0)) ⊎ InOneChunk n (d ∷ cs) from count

-- the same but for the begun run
abbrev pub with_run : {X : Type 0} → Pile X → Option Run → Pile X
with_run p run = record { cells = p.cells; chunks = p.chunks; begun = run }

-- the same but for the cells
abbrev pub with_cells : {X : Type 0} → Pile X → List X → Pile X
with_cells p cells = record { cells = cells; chunks = p.chunks; begun = p.begun }

-- a run is begun that has not all its cells yet
abbrev pub HasRoom : {X : Type 0} → Pile X → Type 0
HasRoom p = elim p.begun [ None ↦ ⊥ | Some run ↦ length p.cells < run.beginning + run.length ]

-- a run is begun that lacks at least so many of its cells
abbrev pub HasRoomFor : {X : Type 0} → ℕ → Pile X → Type 0
HasRoomFor count p = elim p.begun [ None ↦ ⊥ | Some run ↦ length p.cells + count ≤ run.beginning + run.length ]

-- where chunk number k begins, counted from 0, or the end of the list where there are no more than k
abbrev pub start_of : {X : Type 0} → ℕ → Pile X → ℕ
start_of k p = get_or (map (λ c. c.0) p.chunks) k (length p.cells)

-- so many chunks are in use, and the length lies in the last of them or at its end
abbrev pub IsMarkOf : {X : Type 0} → Pile X → Mark → Type 0
IsMarkOf p m = (m.chunks ≤ length p.chunks) × (start_of (m.chunks - 1) p ≤ m.length) × (m.length ≤ start_of m.chunks p)

-- the first cells and the first chunks
abbrev pub restored : {X : Type 0} → Pile X → Mark → Pile X
restored p m = record { cells = take m.length p.cells; chunks = take m.chunks p.chunks; begun = None }

-- nothing or one chunk came on top
abbrev pub IsGrown : {X : Type 0} → Pile X → Pile X → Type 0
IsGrown old new = (new.cells ≡ old.cells) × (new.begun ≡ old.begun) × ((new.chunks ≡ old.chunks) ⊎ ((room : ℕ) × (new.chunks ≡ old.chunks ++ (length old.cells, room) ∷ [])))

-- the cells of chunks
abbrev pub cells_of : {X : Type 0} → List (Held X) → List X
cells_of hs = flat_map (λ h. h.cells) hs

-- some of the chunks has all these cells
abbrev pub Lies : {X : Type 0} → List (Held X) → ℕ → ℕ → Type 0
Lies [] from count = ⊥
Lies (h ∷ hs) from count = ((h.begin ≤ from) × (from + count ≤ h.begin + length h.cells)) ⊎ Lies hs from count
