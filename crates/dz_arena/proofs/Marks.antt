-- What callers need of marks.
use Rattle.std.proofs.Common.{◌≡◌, ℕ, zero, suc, ◌-◌, ◌<◌, ◌≤◌, ◌⊎◌, inl, inr, List, [], ◌∷◌, ◌++◌, refl, arith, length, map, take, subst, sym, ap, ◌∙◌, None}
use Rattle.std.specs.Prelude.{get_or}
use Rattle.dz_arena.specs.Stacks.{Pile, end_or, IsMarkOf, restored}
use Rattle.std.proofs.lemmas.List.{length-append, length-take, take_all}
use Rattle.std.proofs.Math.Seq.{take-append_seam}
use Rattle.dz_arena.specs.declared.stack.Mark.{Mark}

-- where chunk number k begins, or d where there is none
abbrev start : List (ℕ × ℕ) → ℕ → ℕ → ℕ
start cs k d = get_or (map (λ c. c.0) cs) k d

-- what stands for no chunk tells nothing of a chunk
start_below : (cs : List (ℕ × ℕ)) (k d e : ℕ) → k < length cs → start cs k d ≡ start cs k e
start_below [] k d e lt = absurd (omega arith)
start_below (c ∷ cs) zero d e lt = refl
start_below (c ∷ cs) (suc k) d e lt = start_below cs k d e (omega arith)

-- and a later end only moves the start of no chunk
start_later : (cs : List (ℕ × ℕ)) (k d e : ℕ) → d ≤ e → start cs k d ≤ start cs k e
start_later [] k d e le = le
start_later (c ∷ cs) zero d e le = omega arith
start_later (c ∷ cs) (suc k) d e le = start_later cs k d e le

-- a mark between two starts stays there when cells are appended
stays : (cs : List (ℕ × ℕ)) (n more k l : ℕ) → k ≤ length cs → start cs (k - 1) n ≤ l → l ≤ start cs k n → n ≤ more → more ≤ end_or 0 cs
    → (start cs (k - 1) more ≤ l) × (l ≤ start cs k more)
stays [] n more k l few low high longer room = (omega (arith, room), omega (arith, high, longer))
stays (c ∷ cs) n more zero l few low high longer room = (low, high)
stays (c ∷ cs) n more (suc k) l few low high longer room =
    let same : suc k - 1 ≡ k = omega arith in
    let lower : start (c ∷ cs) k n ≤ l = subst (λ j. start (c ∷ cs) j n ≤ l) same low in
    let later = start_later (c ∷ cs) (suc k) n more longer in
    (rw same (subst (λ b. b ≤ l) (start_below (c ∷ cs) k n more (omega arith)) lower), omega (arith, high, later))

-- a mark stays one while cells are appended that have room in the same chunks
pub mark_stays : {X : Type 0} (p q : Pile X) (m : Mark) → IsMarkOf p m → q.chunks ≡ p.chunks → length p.cells ≤ length q.cells → length q.cells ≤ end_or 0 p.chunks → IsMarkOf q m
mark_stays p q m i same longer room =
    let both = stays p.chunks (length p.cells) (length q.cells) m.chunks m.length i.0 i.1 i.2 longer room in
    subst (λ cs. (m.chunks ≤ length cs) × (start cs (m.chunks - 1) (length q.cells) ≤ m.length) × (m.length ≤ start cs m.chunks (length q.cells))) (sym same) (i.0, both.0, both.1)

-- chunks above tell nothing of a chunk below
start_before : (cs ds : List (ℕ × ℕ)) (k d e : ℕ) → k < length cs → start (cs ++ ds) k d ≡ start cs k e
start_before [] ds k d e lt = absurd (omega arith)
start_before (c ∷ cs) ds zero d e lt = refl
start_before (c ∷ cs) ds (suc k) d e lt = start_before cs ds k d e (omega arith)

-- the chunk that comes on top has the next number
start_of_next : (cs : List (ℕ × ℕ)) (c : ℕ × ℕ) (d : ℕ) → start (cs ++ c ∷ []) (length cs) d ≡ c.0
start_of_next [] c d = refl
start_of_next (b ∷ cs) c d = start_of_next cs c d

-- the last chunk before it begins where it did
low_of_grown : (cs : List (ℕ × ℕ)) (n more room l : ℕ) → start cs (length cs - 1) n ≤ l → start (cs ++ (n, room) ∷ []) (length cs - 1) more ≤ l
low_of_grown [] n more room l low = low
low_of_grown (c ∷ cs) n more room l low = subst (λ b. b ≤ l) (sym (start_before (c ∷ cs) ((n, room) ∷ []) (length (c ∷ cs) - 1) more n (omega arith))) low

-- the chunks are the same, or one came on top
abbrev pub AreGrown : {X : Type 0} → Pile X → List (ℕ × ℕ) → Type 0
AreGrown p cs = (cs ≡ p.chunks) ⊎ ((room : ℕ) × (cs ≡ p.chunks ++ (length p.cells, room) ∷ []))

module _ {X : Type 0} where
  -- a mark at the end stays one when the stack grows
  marks_grown : (p q : Pile X) (m : Mark) → IsMarkOf p m → m.length ≡ length p.cells → m.chunks ≡ length p.chunks → length p.cells ≤ length q.cells → length q.cells ≤ end_or 0 q.chunks
      → AreGrown p q.chunks → IsMarkOf q m
  marks_grown p q m i long many longer room (inl same) = mark_stays p q m i same longer (subst (λ cs. length q.cells ≤ end_or 0 cs) same room)
  marks_grown p q m i long many longer room (inr (r, grown)) =
      let cs = p.chunks ++ (length p.cells, r) ∷ [] in
      let low : start p.chunks (length p.chunks - 1) (length p.cells) ≤ m.length = subst (λ k. start p.chunks (k - 1) (length p.cells) ≤ m.length) many i.1 in
      let next = start_of_next p.chunks (length p.cells, r) (length q.cells) in
      subst (λ ds. (m.chunks ≤ length ds) × (start ds (m.chunks - 1) (length q.cells) ≤ m.length) × (m.length ≤ start ds m.chunks (length q.cells))) (sym grown)
      (subst (λ k. (k ≤ length cs) × (start cs (k - 1) (length q.cells) ≤ m.length) × (m.length ≤ start cs k (length q.cells))) (sym many)
      (omega (arith, length-append p.chunks ((length p.cells, r) ∷ [])), low_of_grown p.chunks (length p.cells) (length q.cells) r m.length low, omega (arith, long, next)))

  -- the chunks of before are the lowest ones
  chunks_grown : (p : Pile X) (cs : List (ℕ × ℕ)) → AreGrown p cs → take (length p.chunks) cs ≡ p.chunks
  chunks_grown p cs (inl same) = rw same (take_all (length p.chunks) p.chunks (omega arith))
  chunks_grown p cs (inr (r, grown)) = rw grown (take-append_seam p.chunks ((length p.cells, r) ∷ []))

  -- the mark at the end of a stack is one of what the stack grows to, and a restore leads back
  pub mark_of_grown : (p q : Pile X) (m : Mark) → p.begun ≡ None → IsMarkOf p m → m.length ≡ length p.cells → m.chunks ≡ length p.chunks → take (length p.cells) q.cells ≡ p.cells
      → AreGrown p q.chunks → length q.cells ≤ end_or 0 q.chunks → IsMarkOf q m × (restored q m ≡ p)
  mark_of_grown p q m idle i long many front grown room =
      let longer : length p.cells ≤ length q.cells = omega (arith, ap length front, length-take (length p.cells) q.cells) in (
        marks_grown p q m i long many longer room grown,
        ap (λ n. record { cells = take n q.cells; chunks = take m.chunks q.chunks; begun = None }) long ∙ ap (λ xs. record { cells = xs; chunks = take m.chunks q.chunks; begun = None }) front
            ∙ ap (λ n. record { cells = p.cells; chunks = take n q.chunks; begun = None }) many ∙ ap (λ cs. record { cells = p.cells; chunks = cs; begun = None }) (chunks_grown p q.chunks grown)
            ∙ ap (λ b. record { cells = p.cells; chunks = p.chunks; begun = b }) (sym idle),
      )
