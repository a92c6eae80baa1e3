-- What the walks of the raw functions share.
use Rattle.std.proofs.Common.{◌≡◌, ℕ, ◌+◌, ◌-◌, ◌*◌, ◌^◌, ◌<◌, ◌≤◌, List, [], ◌∷◌, ◌++◌, refl, sym, ap, ◌∙◌, arith, take, drop, length, subst}
use Rattle.std.proofs.lemmas.List.{take-append-drop, length-take-le, length-drop}
use Prim.Native.Nat.{zero, suc}
use native.Mathlib.Nat.{add_assoc, add_comm, zero-mul, suc-mul}
use Rattle.std.proofs.ptr.Rows.{add_times}
use seplogic.Ra.Ura.{Ura}
use base.Fraction.{full_share}
use base.Logic.{SProp, emp, ent, sep, id⊢, via, snd∗, mono_r}
use base.Fml.{Lft, froom}
use mir.Syntax.{Ty, ty_array}
use mir.Val.{Val, vstruct, vcons, vnil, of_list}
use mir.Raw.{raw as bare}
use prog.Memory.{size, align, capped}
use prog.Capped.{capped_is}
use prog.RawLaws.{size-raw, align-raw}
use types.Logic.{Logic, sem}
use types.Kit.{‵, ◌⊛◌, given, ◌$◌, ◌∵◌, !, qed, move, keep, use1, use2, split, learn, rewrite, fjoin, fpack, feq_i, done}
use denote.RattleType.{RattleType, Valss}
use denote.RawPtr.{Ptr, RawPtr, ptr_val}
use denote.Laws.{Is}
use denote.Memory.{part_at, shared_of}
use denote.Slice.{elements_shared}
use denote.Array.{Array}
use denote.Index.{place, place_is, row}
use denote.Shadow.{makes_shadow}
use denote.Steps.{nothing}
use denote.Struct.Declared as Declared
use denote.Struct.Struct.{Struct, within}
use denote.Struct.Tuple.{Tuple, tuple_type}
use Rattle.std.proofs.VecSteps.El.{El, el_x, elτ, R, sz}
use Rattle.std.proofs.VecSteps.Rows.{apart, whole, row_cut, row_room, glued}

-- a struct of one pointer, as a machine value
abbrev pub start_val : Ptr → Val
start_val p = vstruct (vcons (ptr_val p) vnil)

-- a pointer that owns nothing
abbrev pub Pointer : RattleType
Pointer = Struct (record { name = []; args = []; types = []; fields = RawPtr ∷ [] })

-- the bytes of a start are those of its pointer
pub start_told : (p : Ptr) (vs : List Val) → Is Pointer (p, tt) vs → vs ≡ start_val p ∷ []
start_told p vs s = s.1.0 ∙ (λ i. vstruct (of_list (s.1.1.0 i ++ [])) ∷ [])

-- a struct of no bytes in a struct
abbrev pub kind_val : Val
kind_val = vstruct (vcons (vstruct vnil) vnil)

-- a field that owns nothing and takes no space
abbrev pub Kind : RattleType
Kind = Struct (record { name = []; args = []; types = []; fields = Struct (record { name = []; args = []; types = []; fields = [] }) ∷ [] })

-- it has no bytes
pub kind_told : (vs : List Val) → Is Kind (tt, tt) vs → vs ≡ kind_val ∷ []
kind_told vs s = s.1.0 ∙ (λ i. vstruct (of_list (s.1.1.0.1.0 i ++ [])) ∷ [])

module _ {M : Type 1} {𝓤 : Ura M} (𝓛 : Logic 𝓤) where
  -- a start can be made of a pointer
  pub start_made : (p : Ptr) → ent 𝓤 (emp 𝓤) (sem 𝓛 (Pointer.own_val (p, tt) (start_val p ∷ [])))
  start_made p = makes_shadow 𝓛 (Pointer.own_val (p, tt) (start_val p ∷ [])) (λ vss. (tt, (tt, tt))) ((ptr_val p ∷ [], tt), (refl, (refl, tt)))

  -- such a field can be made of nothing
  pub kind_made : ent 𝓤 (emp 𝓤) (sem 𝓛 (Kind.own_val (tt, tt) (kind_val ∷ [])))
  kind_made = makes_shadow 𝓛 (Kind.own_val (tt, tt) (kind_val ∷ [])) (λ vss. (tt, ((λ uss. (tt, tt)), tt))) ((vstruct vnil ∷ [], tt), (refl, ((tt, (refl, tt)), tt)))

  -- a tuple is made of its three parts
  pub tuple_made : (P Q R : RattleType) (x : P.Denot) (y : Q.Denot) (z : R.Denot) (u v w : Val)
      → ent 𝓤 (sep 𝓤 (sem 𝓛 (P.own_val x (u ∷ []))) (sep 𝓤 (sem 𝓛 (Q.own_val y (v ∷ []))) (sem 𝓛 (R.own_val z (w ∷ [])))))
      (sem 𝓛 ((Tuple (P ∷ Q ∷ R ∷ [])).own_val (x, y, z) (vstruct (vcons u (vcons v (vcons w vnil))) ∷ [])))
  tuple_made P Q R x y z u v w =
      let all : Val = vstruct (vcons u (vcons v (vcons w vnil))) in
      qed 𝓛 (‵ (P.own_val x (u ∷ [])) ∷ ‵ (Q.own_val y (v ∷ [])) ∷ ‵ (R.own_val z (w ∷ [])) ∷ []) ∵
      nothing ! $ move ! (3 ∷ 0 ∷ []) $ fjoin ! $ move ! (2 ∷ 0 ∷ []) $ fjoin ! $ move ! (1 ∷ 0 ∷ []) $ fjoin ! $
      feq_i ! (List Val) (all ∷ []) (all ∷ []) refl $ fjoin ! $
      fpack ! (Valss (P ∷ Q ∷ R ∷ [])) (within (Declared.shape (tuple_type (P ∷ Q ∷ R ∷ []))) (x, (y, (z, tt))) (all ∷ [])) (u ∷ [], (v ∷ [], (w ∷ [], tt))) $ done !

-- the layout of a block
pub block_size : (τ : Ty) (n : ℕ) → n * size τ < 2 ^ 64 → capped (size (bare (ty_array τ n))) ≡ n * size τ
block_size τ n fits = ap capped (size-raw (ty_array τ n)) ∙ capped_is (n * size τ) fits

-- an array is aligned as its elements are
pub block_align : (τ : Ty) (n : ℕ) → capped (align (bare (ty_array τ n))) ≡ capped (align τ)
block_align τ n = ap capped (align-raw (ty_array τ n))

-- the bytes of a front and of a rest are those of the whole
split_times : (i n s : ℕ) → i ≤ n → n * s ≡ i * s + (n - i) * s
split_times i n s le = let e : n ≡ i + (n - i) = omega arith in ap (λ k. k * s) e ∙ add_times i (n - i) s

module _ (E : El) {M : Type 1} {𝓤 : Ura M} (𝓛 : Logic 𝓤) where
  open 𝓛 use {H}

  -- the written cells from the i-th on are forgotten: there is room for them again
  pub cut_back : (b o n c i : ℕ) (xs : List (el_x E)) → length xs ≡ n → i ≤ n → n ≤ c
      → ent 𝓤 (sep 𝓤 (sem 𝓛 (part_at (Array (R E) n) full_share xs b o)) (H.room (ty_array (elτ E) (c - n)) b (o + n * sz E)))
      (sep 𝓤 (sem 𝓛 (part_at (Array (R E) i) full_share (take i xs) b o)) (H.room (ty_array (elτ E) (c - i)) b (o + i * sz E)))
  cut_back b o n c i xs long le room =
      let s = sz E in let τ = elτ E in let front = take i xs in let back = drop i xs in
      let few : length front ≡ i = length-take-le i xs (omega arith) in
      let rest : length back ≡ n - i = length-drop i xs ∙ ap (λ k. k - i) long in
      let at : place s o (length front) ≡ o + i * s = ap (place s o) few ∙ place_is s o i ∙ add_comm (i * s) o in
      let far : o + n * s ≡ o + i * s + (n - i) * s = ap (λ k. o + k) (split_times i n s le) ∙ sym (add_assoc o (i * s) ((n - i) * s)) in
      qed 𝓛 (‵ (part_at (Array (R E) n) full_share xs b o) ∷ ‵ (froom (ty_array τ (c - n)) b (o + n * s)) ∷ []) ∵
      use1 𝓛 (given (length xs ≡ n) (‵ (row (R E) full_share xs b o))) (apart E 𝓛 full_share n xs b o) $ learn ! (λ _.
      rewrite ! 0 (λ (ys : List (el_x E)). ‵ (row (R E) full_share ys b o)) (sym (take-append-drop i xs)) refl $
      use1 𝓛 (‵ (row (R E) full_share front b o) ⊛ ‵ (row (R E) full_share back b (place s o (length front)))) (row_cut E 𝓛 full_share front back b o) $ split ! $
      use1 𝓛 (‵ (part_at (Array (R E) i) full_share front b o)) (whole E 𝓛 full_share i front b o few) $ move ! (1 ∷ []) $
      rewrite ! 0 (λ (k : ℕ). ‵ (row (R E) full_share back b k)) at refl $
      use1 𝓛 (‵ (froom (ty_array τ (length back)) b (o + i * s))) (row_room E 𝓛 back b (o + i * s)) $
      rewrite ! 0 (λ (k : ℕ). ‵ (froom (ty_array τ k) b (o + i * s))) rest refl $
      rewrite ! 2 (λ (k : ℕ). ‵ (froom (ty_array τ (c - n)) b k)) far refl $ move ! (0 ∷ 2 ∷ []) $
      use2 𝓛 (‵ (froom (ty_array τ (c - i)) b (o + i * s))) (glued E 𝓛 (n - i) (c - n) (c - i) b (o + i * s) (omega arith)) $ move ! (1 ∷ 0 ∷ []) $ done !)

module _ (E : El) {M : Type 1} {𝓤 : Ura M} (𝓛 : Logic 𝓤) (b : ℕ) (κ : Lft) where
  -- cells that are lent stand at an offset
  abbrev Seen : ℕ → List (el_x E) → SProp 𝓤
  Seen o xs = sem 𝓛 (elements_shared (R E) xs b o κ)

  -- from an index on they stand further on
  from_on : (i o at : ℕ) (xs : List (el_x E)) → i ≤ length xs → at ≡ i * sz E + o → ent 𝓤 (Seen o xs) (Seen at (drop i xs))
  from_on zero o at xs le e = let same : o ≡ at = omega (arith, zero-mul (sz E)) in subst (λ k. ent 𝓤 (Seen o xs) (Seen k xs)) same (id⊢ 𝓤 _)
  from_on (suc i) o at [] le e = absurd (omega arith)
  from_on (suc i) o at (x ∷ xs) le e =
      via 𝓤 (Seen (o + sz E) xs) (snd∗ 𝓤 (sem 𝓛 (shared_of (R E) x b o κ)) (Seen (o + sz E) xs)) (from_on i (o + sz E) at xs (omega arith) (omega (arith, suc-mul i (sz E))))

  -- and a first part of them is lent too
  up_to : (k o : ℕ) (xs : List (el_x E)) → ent 𝓤 (Seen o xs) (Seen o (take k xs))
  up_to zero o xs = qed 𝓛 (‵ (elements_shared (R E) xs b o κ) ∷ []) ∵ keep ! [] $ done !
  up_to (suc k) o [] = id⊢ 𝓤 _
  up_to (suc k) o (x ∷ xs) = mono_r 𝓤 (sem 𝓛 (shared_of (R E) x b o κ)) (up_to k (o + sz E) xs)

  -- a `&` to all cells has one to the k from the i-th on
  pub part_seen : (i k o : ℕ) (xs : List (el_x E)) → i ≤ length xs → ent 𝓤 (Seen o xs) (Seen (i * sz E + o) (take k (drop i xs)))
  part_seen i k o xs le = via 𝓤 (Seen (i * sz E + o) (drop i xs)) (from_on i o (i * sz E + o) xs le refl) (up_to k (i * sz E + o) (drop i xs))
